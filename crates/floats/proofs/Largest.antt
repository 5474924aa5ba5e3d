-- A finite f32 lies between the least and the largest one, and stays within its size when it is divided by 1 or more. Assumes nothing.
use Rattle.std.proofs.Common.{not, subst, ◌≡◌, ℕ, zero, suc, ◌+◌, ◌-◌, ◌*◌, ◌^◌, ◌<◌, ◌≤◌, Bool, true, false, T, ℤ, pos, negsuc, sym, ap, ◌∙◌, le_trans, le_of_eq, le_refl, lt_of_le_of_lt, zero-lt-suc, mul_assoc, mul-le-mul, lt_of_mul-lt-mul_right, mul-pos, one-mul, zero-mul, mul-one, arith, pow_pos, pow_mono, pow-add}
use native.Mathlib.Decide.{dec_le}
use lib.Dec.{eqb-suc-zero}
use lib.Ieee.{Float, nan, inf, fin, binary32, up, down, unlike, round, neg, div, le, fits, of_bits}
use lib.Ieee.Fits.{up_pos, down_pos}
use lib.Ieee.Scale.{finite}
use Rattle.floats.specs.Fraction.{Frac}
use Rattle.floats.proofs.Pattern.{fits_sign}
use Rattle.floats.proofs.Signed.{le→⊑, ⊑→le, Rounds, rounded, rounds_mono}
use Rattle.floats.proofs.Exact.{down_low, rounds_self}
use Rattle.floats.specs.Values.{one_f, minus_one_f, f32_min, f32_max}
use Rattle.floats.proofs.FromOne.{no_sign}
use Rattle.floats.specs.Between.{Between}
use Rattle.floats.proofs.Between.{between_finite}

-- for `simp`: products by 0 and by 1
ruleset units = (zero-mul, one-mul, mul-one)

-- by a size of at most n * 2 ^ k
size_between : (n k : ℕ) (s : Bool) (m : ℕ) (e : ℤ) → m * up e ≤ n * 2 ^ k * down e
    → Between (fin true n (pos k)) (fin false n (pos k)) (fin s m e)
size_between n k true m e h = (
  ⊑→le (fin true n (pos k)) (fin true m e) tt tt (simp units (omega arith)),
  ⊑→le (fin true m e) (fin false n (pos k)) tt tt (simp units (omega arith)),
)
size_between n k false m e h = (
  ⊑→le (fin true n (pos k)) (fin false m e) tt tt (simp units (omega arith)),
  ⊑→le (fin false m e) (fin false n (pos k)) tt tt (simp units (omega arith)),
)

-- digits below 2 ^ 24 and a value below 2 ^ 128
few : (m : ℕ) (e : ℤ) → m < 2 ^ 24 → m * up e < 2 ^ 128 * down e → m * up e ≤ 16777215 * 2 ^ 104 * down e
few m (negsuc k) d v = grow m (2 ^ 104) (2 ^ suc k) (omega arith) (mul-pos (pow_pos 104) (pow_pos (suc k)))
  where
    grow : (m p q : ℕ) → m ≤ 16777215 → 0 < p * q → m * 1 ≤ 16777215 * p * q
    grow m p q h l = le_trans (mul-le-mul h l) (le_of_eq (sym (mul_assoc 16777215 p q)))
few m (pos k) d v = elim (dec_le k 104) [
  | yes h ↦ le_trans (mul-le-mul (under m d) (pow_mono h)) (le_of_eq (sym (mul-one (16777215 * 2 ^ 104))))
  | no h ↦ (let e : k ≡ k - 104 + 104 = omega arith in past (k - 104) k e v)
]
  where
    under : (a : ℕ) → a < 2 ^ 24 → a ≤ 16777215
    under a h = omega arith

    past : (j k : ℕ) → k ≡ j + 104 → m * 2 ^ k < 2 ^ 128 * 1 → m * 2 ^ k ≤ 16777215 * 2 ^ 104 * 1
    past j k e v =
        let w : m * 2 ^ k ≡ m * 2 ^ j * 2 ^ 104 =
        ap (λ i. m * 2 ^ i) e ∙ ap (λ z. m * z) (pow-add 2 j 104) ∙ sym (mul_assoc m (2 ^ j) (2 ^ 104)) in
        let l : m * 2 ^ j < 2 ^ 24 = lt_of_mul-lt-mul_right (2 ^ 104) (lt_of_le_of_lt (le_of_eq (sym w)) v) in
        le_trans (le_of_eq w) (le_trans (mul-le-mul (under (m * 2 ^ j) l) (le_refl (2 ^ 104))) (le_of_eq (sym (mul-one (16777215 * 2 ^ 104)))))

pub fits_between : (x : Float) → T (fits binary32 x) → T (finite x) → Between f32_min f32_max x
unfolding of_bits
fits_between nan f F = absurd F
fits_between (inf s) f F = absurd F
fits_between (fin s zero e) f F = size_between 16777215 104 s zero e (simp zero-mul Prim.Native.Nat.zero-le)
fits_between (fin s (suc m) e) f F = let d = down_low binary32 s m e f in size_between 16777215 104 s (suc m) e (few (suc m) e d.0 d.2)

-- ---- a rounded fraction of a size of at most m * 2 ^ e, a value of the format
rounds_within : (m : ℕ) (e : ℤ) {z : Float} (q : Frac) → 0 < q.by → T (fits binary32 (fin false m e)) → Rounds binary32 z q
    → q.over * down e + q.under * down e ≤ m * up e * q.by → Between (fin true m e) (fin false m e) z
rounds_within m e q C f r h = (
  rounds_mono binary32 (down_pos e) C (rounds_self binary32 (fin true m e) tt (fits_sign binary32 false true m e f)) r (simp zero-mul (omega arith)),
  rounds_mono binary32 C (down_pos e) r (rounds_self binary32 (fin false m e) tt f) (simp zero-mul (omega arith)),
)

round_within : (s : Bool) (a c m : ℕ) (e : ℤ) → 0 < c → T (fits binary32 (fin false m e)) → a * down e ≤ m * up e * c
    → Between (fin true m e) (fin false m e) (round binary32 s a c)
round_within true a c m e C f h =
    let q : Frac = record { over = 0; under = a; by = c } in
    rounds_within m e q C f (rounded binary32 true a (omega arith)) (simp zero-mul (omega arith))
round_within false a c m e C f h =
    let q : Frac = record { over = a; under = 0; by = c } in
    rounds_within m e q C f (rounded binary32 false a (omega arith)) (simp zero-mul (omega arith))

-- ---- quotients by 1 or more
over_pos : (n : ℕ) (d e : ℤ) → 0 < suc n * up d * down e
over_pos n d e = mul-pos (mul-pos (zero-lt-suc n) (up_pos d)) (down_pos e)

quotient_shrinks : (s : Bool) (m : ℕ) (e : ℤ) (n : ℕ) (d : ℤ) → T (fits binary32 (fin s m e)) → T (le one_f (fin false (suc n) d))
    → T (finite (div binary32 (fin s m e) (fin false (suc n) d)))
unfolding div of_bits
quotient_shrinks s m e n d f h =
    let l : down d ≤ suc n * up d = omega (arith, simp units at (le→⊑ one_f (fin false (suc n) d) tt tt h)) in
    rw (eqb-suc-zero n)
    (between_finite (fin true m e) (fin false m e) (round binary32 (unlike s false) (m * up e * down d) (suc n * up d * down e)) tt tt
    (round_within (unlike s false) (m * up e * down d) (suc n * up d * down e) m e (over_pos n d e) (fits_sign binary32 s false m e f)
    (le_trans (mul-le-mul (mul-le-mul (le_refl (m * up e)) l) (le_refl (down e))) (le_of_eq (mul_assoc (m * up e) (suc n * up d) (down e))))))

pub div_finite : (x y : Float) → T (fits binary32 x) → T (finite x) → T (le one_f y) → T (finite (div binary32 x y))
unfolding div le of_bits
div_finite nan y f F h = absurd F
div_finite (inf s) y f F h = absurd F
div_finite (fin s m e) nan f F h = absurd h
div_finite (fin s m e) (inf t) f F h = tt
div_finite (fin s m e) (fin t n d) f F h =
    let k = no_sign t n d h in
    rw (k.0, k.1) (quotient_shrinks s m e (n - 1) d f (rw (k.0, k.1) at h))

-- x from -y to y
quotient_unit : (s : Bool) (m : ℕ) (e : ℤ) (n : ℕ) (d : ℤ) → T (le (fin true (suc n) d) (fin s m e))
    → T (le (fin s m e) (fin false (suc n) d))
    → Between minus_one_f one_f (div binary32 (fin s m e) (fin false (suc n) d))
unfolding div of_bits
quotient_unit s m e n d h k =
    rw (eqb-suc-zero n)
    (round_within (unlike s false) (m * up e * down d) (suc n * up d * down e) 1 (pos 0) (over_pos n d e) (unfold fits in tt)
    (simp units (size s h k)))
  where
    size : (s : Bool) → T (le (fin true (suc n) d) (fin s m e)) → T (le (fin s m e) (fin false (suc n) d))
        → m * up e * down d ≤ suc n * up d * down e
    size true h k = omega (arith, simp zero-mul at (le→⊑ (fin true (suc n) d) (fin true m e) tt tt h))
    size false h k = omega (arith, simp zero-mul at (le→⊑ (fin false m e) (fin false (suc n) d) tt tt k))

pub div_unit : (x y : Float) → T (finite y) → T (le one_f y) → Between (neg y) y x → Between minus_one_f one_f (div binary32 x y)
unfolding le neg
div_unit x nan G h b = absurd G
div_unit x (inf t) G h b = absurd G
div_unit nan (fin t n d) G h b = absurd b.0
div_unit (inf true) (fin t n d) G h b = absurd b.0
div_unit (inf false) (fin t n d) G h b = absurd b.1
div_unit (fin s m e) (fin t n d) G h b =
    let k = no_sign t n d h in
    let low = subst (λ (z : Bool). T (le (fin (not z) n d) (fin s m e))) k.0 b.0 in
    let high = subst (λ (z : Bool). T (le (fin s m e) (fin z n d))) k.0 b.1 in
    rw (k.0, k.1) (quotient_unit s m e (n - 1) d
    (subst (λ (q : ℕ). T (le (fin true q d) (fin s m e))) k.1 low)
    (subst (λ (q : ℕ). T (le (fin s m e) (fin false q d))) k.1 high))
