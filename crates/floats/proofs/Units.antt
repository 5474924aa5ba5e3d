-- Values in units of the format's smallest one, 2 ^ -low f: what the format holds is a whole number of them, and each operation is off from the
-- exact count by one rounding. Assumes nothing.
use Rattle.std.proofs.Common.{◌≡◌, ℕ, ◌+◌, ◌-◌, ◌*◌, ◌/◌, ◌^◌, ◌<◌, ◌≤◌, Bool, true, false, T, List, [], ◌∷◌, pos, sym, refl, ap, ◌∙◌, subst, true≢false, le_trans, le_of_eq, lt_of_lt_of_le, add-zero, mul-le-mul_right, mul_assoc, mul_comm, mul-pos, mul-zero, zero-add, zero-mul, mul-one, mul_right_comm, le_of_mul-le-mul_right, mul-div_cancel, arith, pow_pos}
use native.Mathlib.Nat.{mul-mul-mul_comm, eq_of_mul-eq-mul_right}
use lib.Ieee.{Float, nan, inf, fin, Format, prec, low, hid, up, down, round, add, mul, div, le, fits, of_bits}
use lib.Ieee.Exact.{HasValue}
use lib.Ieee.Scale.{finite, grid, round_val, round_under, round_same, normal_of_fraction}
use Rattle.lists.specs.Lists.{sum_to}
use Rattle.lists.proofs.Sum.{sum_of_joined}
use Rattle.floats.specs.Fraction.{Frac, frac, ◌⊕◌, ◌⊗◌}
use Rattle.floats.specs.Units.{InUnits, units_of, units_in}
use Rattle.floats.specs.Values.{zero_f, one_f}
use Rattle.floats.proofs.Numbers.{spread, zero_factor}
use Rattle.floats.proofs.Values.{one_value}
use Rattle.floats.proofs.Sign.{round_zero}
use Rattle.floats.proofs.Signed.{by_pos, both_pos, le→⊑, nonneg_under, Amount, Rounds, rounds_mono}
use Rattle.floats.proofs.Monotone.{add_rounds, mul_rounds}
use Rattle.floats.proofs.Exact.{rounds_self, cross_add}
use Rattle.floats.proofs.Error.{Within, Err, whole_err, round_err, normal_err}
use Rattle.floats.proofs.FromOne.{one_over_rounds}

-- ---- the count
pub units_of_law : (k : ℕ) (x : Float) (n : ℕ) → InUnits k x n → units_of k x ≡ n
units_of_law k x n u = ap (λ m. m / (frac x).by) u.counted ∙ mul-div_cancel n (by_pos x)

pub units_more : (k : ℕ) (x : Float) (s : List Float) → units_in k (x ∷ s) ≡ units_of k x + units_in k s
unfolding sum_to
units_more k x s = sum_of_joined (units_of k) nan (x ∷ []) s ∙ ap (◌+ units_in k s) (zero-add (units_of k x))

recount : (k : ℕ) (x : Float) (n : ℕ) → InUnits k x n → InUnits k x (units_of k x)
recount k x n u = subst (InUnits k x) (sym (units_of_law k x n u)) u

-- of a value that is a / c
value_units : (k : ℕ) (x : Float) (a c n : ℕ) → 0 < c → a * 2 ^ k ≡ n * c → HasValue x false a c → InUnits k x n
value_units k nan a c n C e h = absurd h
value_units k (inf s) a c n C e h = absurd h
value_units k (fin true m d) a c n C e h = absurd (true≢false h.0)
value_units k (fin false m d) a c n C e h = record {
  is_finite = tt;
  not_below = refl;
  counted = eq_of_mul-eq-mul_right c C (m * up d * 2 ^ k) (n * down d)
      (mul_right_comm (m * up d) (2 ^ k) c
      ∙ ap (λ z. z * 2 ^ k) h.1
      ∙ mul_right_comm a (down d) (2 ^ k)
      ∙ ap (λ z. z * down d) e
      ∙ mul_right_comm n c (down d));
}

pub whole_units : (k : ℕ) (x : Float) (n : ℕ) → HasValue x false n 1 → InUnits k x (n * 2 ^ k)
whole_units k x n h = value_units k x n 1 (n * 2 ^ k) (pow_pos 0) (sym (mul-one (n * 2 ^ k))) h

-- the order
pub units_mono : (k : ℕ) (x y : Float) (a b : ℕ) → InUnits k x a → InUnits k y b → T (le x y) → a ≤ b
units_mono k x y a b u v h =
    cut (frac x) (frac y) (by_pos x) (by_pos y) u.not_below v.not_below u.counted v.counted (le→⊑ x y u.is_finite v.is_finite h)
  where
    cut : (q r : Frac) → 0 < q.by → 0 < r.by → q.under ≡ 0 → r.under ≡ 0 → q.over * 2 ^ k ≡ a * q.by → r.over * 2 ^ k ≡ b * r.by
        → q.over * r.by + r.under * q.by ≤ r.over * q.by + q.under * r.by → a ≤ b
    cut q r Q R z z' e e' g =
        let l = 2 ^ k in
        let g1 : q.over * r.by ≤ r.over * q.by = omega (arith, simp (z, z', zero-mul) at g) in
        le_of_mul-le-mul_right {k = q.by * r.by}
        (le_trans (le_of_eq (sym (mul_assoc a q.by r.by) ∙ ap (λ n. n * r.by) (sym e) ∙ mul_right_comm q.over l r.by))
        (le_trans (mul-le-mul_right l g1)
        (le_of_eq (mul_right_comm r.over q.by l ∙ ap (λ n. n * q.by) e' ∙ simp spread))))
        (mul-pos Q R)

-- ---- a rounded fraction, over / by, that is a / d
grid_zero : (f : Format) (d : ℕ) → 0 < d → grid f 0 d ≡ 0
grid_zero f d D =
    let z = round_zero f false d D in
    let v = round_val f 0 d (round_under f 0 d (subst (λ (w : Float). T (finite w)) (sym z) tt)) in
    let e = (subst (λ (w : Float). HasValue w false (grid f 0 d) (2 ^ low f)) z v).1 in
    sym (mul-one (grid f 0 d)) ∙ sym e ∙ zero-mul (2 ^ low f)

minus_zero_law : (k : ℕ) → InUnits k (fin true 0 (pos 0)) 0
minus_zero_law k = record { is_finite = tt; not_below = refl; counted = zero-mul (2 ^ k) }

pub rounds_units : (f : Format) {z : Float} {q : Frac} (a d : ℕ) → 0 < q.by → 0 < d → q.under ≡ 0 → q.over * d ≡ a * q.by
    → T (finite z) → Rounds f z q → InUnits (low f) z (grid f a d)
rounds_units f {z} {q} a d Q D u e F r = go r.sign r.amount r.is r.parts
  where
    go : (s : Bool) (n : ℕ) → z ≡ round f s n q.by → Amount s n q → InUnits (low f) z (grid f a d)
    go false n i p =
        let over : n ≡ q.over = omega arith in
        let same = i ∙ ap (λ m. round f false m q.by) over ∙ round_same f false q.over q.by a d Q D e in
        let under = round_under f a d (subst (λ (w : Float). T (finite w)) same F) in
        subst (λ (w : Float). InUnits (low f) w (grid f a d)) (sym same)
        (value_units (low f) (round f false a d) (grid f a d) (2 ^ low f) (grid f a d) (pow_pos (low f)) refl (round_val f a d under))
    go true n i p =
        let none : n ≡ 0 = omega arith in
        let over : q.over ≡ 0 = omega arith in
        let zero : a ≡ 0 = zero_factor a q.by Q (le_of_eq (sym e ∙ ap (λ m. m * d) over ∙ zero-mul d)) in
        let is = i ∙ ap (λ m. round f true m q.by) none ∙ round_zero f true q.by Q in
        rw (is, zero, grid_zero f d D) (minus_zero_law (low f))

-- what the format holds, and is not below 0, is a whole number of units
pub in_units : (f : Format) (x : Float) → T (finite x) → T (fits f x) → T (le zero_f x) → InUnits (low f) x (units_of (low f) x)
unfolding of_bits
in_units f x p F h =
    recount (low f) x (grid f (frac x).over (frac x).by)
    (rounds_units f {q = frac x} (frac x).over (frac x).by (by_pos x) (by_pos x) (nonneg_under x h) refl p (rounds_self f x p F))

-- so rounding it changes nothing
pub grid_self : (f : Format) (x : Float) (a : ℕ) → T (fits f x) → InUnits (low f) x a → grid f a (2 ^ low f) ≡ a
grid_self f x a F u =
    sym (units_of_law (low f) x (grid f a (2 ^ low f))
    (rounds_units f a (2 ^ low f) (by_pos x) (pow_pos (low f)) u.not_below u.counted u.is_finite (rounds_self f x u.is_finite F)))
    ∙ units_of_law (low f) x a u

-- ---- the operations
-- z is a whole number of units, off from n / c of them by at most slack / c / 2 ^ prec
pub record Off (f : Format) (z : Float) (n c slack : ℕ) : Type 0 where
  pub units : InUnits (low f) z (units_of (low f) z)
  pub error : Err f (units_of (low f) z) n c slack

off : (f : Format) (z : Float) (g n c : ℕ) (slack : ℕ → ℕ) → InUnits (low f) z g → Err f g n c (slack g)
    → Off f z n c (slack (units_of (low f) z))
off f z g n c slack u e =
    record { units = recount (low f) z g u; error = subst (λ m. Err f m n c (slack m)) (sym (units_of_law (low f) z g u)) e }

module _ (f : Format) (x y : Float) (a b : ℕ) (u : InUnits (low f) x a) (v : InUnits (low f) y b) where
  abbrev one : ℕ
  one = 2 ^ low f

  one_pos : 0 < one
  one_pos = pow_pos (low f)

  -- the sum, by 2 ^ -prec of the result
  pub add_units : T (finite (add f x y)) → InUnits (low f) (add f x y) (grid f (a + b) one)
  add_units F =
      rounds_units f (a + b) one (both_pos x y) one_pos (simp (u.not_below, v.not_below, zero-mul))
      (cross_add (frac x).over (frac y).over (frac x).by (frac y).by a b one u.counted v.counted) F
      (add_rounds f x y u.is_finite v.is_finite)

  pub add_off : T (finite (add f x y)) → Off f (add f x y) (a + b) 1 (units_of (low f) (add f x y))
  add_off F = off f (add f x y) (grid f (a + b) one) (a + b) 1 (λ g. g) (add_units F) (whole_err f (a + b) one (a + b) one_pos refl)

  -- and no less than x, which the format holds
  pub add_grows : T (fits f x) → T (le x (add f x y))
  add_grows X =
      rounds_mono f (by_pos x) (both_pos x y) (rounds_self f x u.is_finite X) (add_rounds f x y u.is_finite v.is_finite)
      (grow (frac x) (frac y) v.not_below)
    where
      grow : (q r : Frac) → r.under ≡ 0
          → q.over * (q.by * r.by) + (q ⊕ r).under * q.by ≤ (q ⊕ r).over * q.by + q.under * (q.by * r.by)
      grow q r z = simp (z, zero-mul, spread) (omega arith)

  -- the product, by 2 ^ -prec of it and half a unit
  pub mul_off : T (finite (mul f x y)) → Off f (mul f x y) (a * b) one (a * b + one * hid f)
  mul_off F =
      off f (mul f x y) (grid f (a * b) (one * one)) (a * b) one (λ g. a * b + one * hid f)
      (rounds_units f (a * b) (one * one) (both_pos x y) (mul-pos one_pos one_pos) (simp (u.not_below, v.not_below, zero-mul, mul-zero))
      (cross (frac x) (frac y) u.not_below u.counted v.counted) F
      (mul_rounds f x y u.is_finite v.is_finite))
      (cut (grid f (a * b) (one * one)) (a * b) (2 ^ prec f) (hid f) (round_err f (a * b) (one * one) (mul-pos one_pos one_pos)))
    where
      cross : (q r : Frac) → q.under ≡ 0 → q.over * one ≡ a * q.by → r.over * one ≡ b * r.by
          → (q ⊗ r).over * (one * one) ≡ a * b * (q.by * r.by)
      cross q r z e e' =
          simp (z, zero-mul, add-zero) (mul-mul-mul_comm q.over r.over one one ∙ rw (e, e') (mul-mul-mul_comm a q.by b r.by))

      -- one power of the unit less on both sides
      cut : (g n P H : ℕ) → Within P (g * (one * one)) (n * one) (n * one + one * one * H) → Within P (g * one) n (n + one * H)
      cut g n P H h =
          let h0 = simp spread at h.0 in
          let h1 = simp spread at h.1 in (
            le_of_mul-le-mul_right {k = one} (simp spread (omega arith)) one_pos,
            le_of_mul-le-mul_right {k = one} (simp spread (omega arith)) one_pos,
          )

-- 1 over a value that is 1 at least, by 2 ^ -prec of it where it is in the normal range
pub one_over_off : (f : Format) (x : Float) (a : ℕ) → InUnits (low f) x a → T (le one_f x) → T (finite (div f one_f x))
    → 2 ^ (prec f - 1) * a ≤ 2 ^ low f * 2 ^ low f → Off f (div f one_f x) (2 ^ low f * 2 ^ low f) a (2 ^ low f * 2 ^ low f)
one_over_off f x a u h F n =
    let l = 2 ^ low f in
    let r = one_over_rounds f x u.is_finite h in
    let A : 0 < a = lt_of_lt_of_le (mul-pos (pow_pos 0) (pow_pos (low f))) (units_mono (low f) one_f x (1 * l) a (whole_units (low f) one_f 1 one_value) u h) in
    off f (div f one_f x) (grid f l a) (l * l) a (λ g. l * l)
    (rounds_units f l a r.0 A refl (mul_comm (frac x).by a ∙ sym u.counted ∙ mul_comm (frac x).over l) F r.1)
    (normal_err f l a A (normal_of_fraction f l a A n))
