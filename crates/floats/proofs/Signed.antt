-- The order of floats is that of their fractions, and rounding a fraction of either sign keeps the order. Assumes nothing.
use Rattle.std.proofs.Common.{◌≡◌, ℕ, ◌+◌, ◌*◌, ◌<◌, ◌≤◌, Bool, true, false, not, ◌&&◌, ◌||◌, T, eqb, ltb, ℤ, pos, sym, refl, zero-le, le_of_eq, le_of_lt, mul-le-mul_right, add-mul, le_antisymm, mul-pos, zero-mul, le_of_mul-le-mul_right, arith, eqb→eq, ltb→lt, nltb→le, pow_pos}
use lib.Ieee.{Float, nan, inf, fin, Format, up, down, round, neg, le, is_nan}
use lib.Ieee.Fits.{down_pos, and_l, and_r, and_i, eq→eqb}
use lib.Ieee.Order.{round_mono}
use lib.Ieee.Scale.{finite}
use Rattle.floats.specs.Fraction.{Frac, frac, ◌⊑◌, turn}
use Rattle.floats.proofs.Numbers.{spread, zero_factor}
use Rattle.floats.specs.Floats.{has_sign}
use Rattle.floats.proofs.Sign.{round_has, round_neg, round_zero, has_number, neg_finite, neg_number}

-- ---- fractions
pub by_pos : (x : Float) → 0 < (frac x).by
by_pos nan = pow_pos 0
by_pos (inf s) = pow_pos 0
by_pos (fin false m e) = down_pos e
by_pos (fin true m e) = down_pos e

pub both_pos : (x y : Float) → 0 < (frac x).by * (frac y).by
both_pos x y = mul-pos (by_pos x) (by_pos y)

pub ⊑_trans : (q r t : Frac) → 0 < r.by → q ⊑ r → r ⊑ t → q ⊑ t
⊑_trans q r t R h k =
    let h1 = simp spread at (mul-le-mul_right t.by h) in
    let k1 = simp spread at (mul-le-mul_right q.by k) in
    le_of_mul-le-mul_right {k = r.by} (simp spread (omega arith)) R

-- ---- `le` on all values, in three cases
pub data AtMost : Float → Float → Type 0 where
  minus_inf : {y : Float} → T (not (is_nan y)) → AtMost (inf true) y
  plus_inf : {x : Float} → T (not (is_nan x)) → AtMost x (inf false)
  both_finite : (x y : Float) → T (finite x) → T (finite y) → frac x ⊑ frac y → AtMost x y

-- a test `a < b || z`, from and to a ≤ b
to_le : (a b : ℕ) (z : Bool) → (T z → a ≤ b) → T (ltb a b || z) → a ≤ b
to_le a b z g t = go (ltb a b) (ltb→lt a b) t
  where
    go : (c : Bool) → (T c → a < b) → T (c || z) → a ≤ b
    go true l t = le_of_lt (l tt)
    go false l t = g t

of_le : (a b : ℕ) (z : Bool) → (a ≡ b → T z) → a ≤ b → T (ltb a b || z)
of_le a b z g h = go (ltb a b) (nltb→le a b)
  where
    go : (c : Bool) → (T (not c) → b ≤ a) → T (c || z)
    go true l = tt
    go false l = g (le_antisymm h (l tt))

same_of : (a b : ℕ) (z : Bool) → T (eqb a b && z) → a ≡ b
same_of a b z t = eqb→eq a b (and_l (eqb a b) z t)

of_same : (a b : ℕ) (z : Bool) → a ≡ b → T z → T (eqb a b && z)
of_same a b z p t = and_i (eqb a b) z (eq→eqb p) t

fin_le→⊑ : (s : Bool) (m : ℕ) (e : ℤ) (t : Bool) (n : ℕ) (d : ℤ)
    → T (le (fin s m e) (fin t n d)) → frac (fin s m e) ⊑ frac (fin t n d)
unfolding le
fin_le→⊑ false m e false n d h =
    let A = m * up e * down d in
    let B = n * up d * down e in
    let k = to_le A B (eqb A B && true) (λ (z : T (eqb A B && true)). le_of_eq (same_of A B true z)) h in
    simp zero-mul (omega arith)
fin_le→⊑ true m e true n d h =
    let A = m * up e * down d in
    let B = n * up d * down e in
    let k = to_le B A (eqb A B && true) (λ (z : T (eqb A B && true)). le_of_eq (sym (same_of A B true z))) h in
    simp zero-mul (omega arith)
fin_le→⊑ true m e false n d h = simp zero-mul (omega arith)
fin_le→⊑ false m e true n d h =
    let A = m * up e * down d in
    let B = n * up d * down e in
    let a = same_of A B (eqb A 0) h in
    let b = eqb→eq A 0 (and_r (eqb A B) (eqb A 0) h) in
    simp zero-mul (omega arith)

both_zero : (a b : ℕ) → a + b ≤ 0 → T (eqb a b && eqb a 0)
both_zero a b h = of_same a b (eqb a 0) (omega arith) (eq→eqb {a = a} {b = 0} (omega arith))

⊑→fin_le : (s : Bool) (m : ℕ) (e : ℤ) (t : Bool) (n : ℕ) (d : ℤ)
    → frac (fin s m e) ⊑ frac (fin t n d) → T (le (fin s m e) (fin t n d))
unfolding le
⊑→fin_le false m e false n d h =
    let A = m * up e * down d in
    let B = n * up d * down e in
    let k = simp zero-mul at h in
    of_le A B (eqb A B && true) (λ (p : A ≡ B). of_same A B true p tt) (omega arith)
⊑→fin_le true m e true n d h =
    let A = m * up e * down d in
    let B = n * up d * down e in
    let k = simp zero-mul at h in
    of_le B A (eqb A B && true) (λ (p : B ≡ A). of_same A B true (sym p) tt) (omega arith)
⊑→fin_le true m e false n d h =
    let A = m * up e * down d in
    let B = n * up d * down e in
    of_le 0 (A + B) (eqb A B && eqb A 0) (λ (p : 0 ≡ A + B). both_zero A B (le_of_eq (sym p))) zero-le
⊑→fin_le false m e true n d h = let k = simp zero-mul at h in both_zero (m * up e * down d) (n * up d * down e) (omega arith)

pub le→at_most : (x y : Float) → T (le x y) → AtMost x y
unfolding le is_nan
le→at_most nan y h = absurd h
le→at_most (inf true) nan h = absurd h
le→at_most (inf true) (inf t) h = minus_inf tt
le→at_most (inf true) (fin t n d) h = minus_inf tt
le→at_most (inf false) nan h = absurd h
le→at_most (inf false) (inf true) h = absurd h
le→at_most (inf false) (inf false) h = plus_inf tt
le→at_most (inf false) (fin t n d) h = absurd h
le→at_most (fin s m e) nan h = absurd h
le→at_most (fin s m e) (inf true) h = absurd h
le→at_most (fin s m e) (inf false) h = plus_inf tt
le→at_most (fin s m e) (fin t n d) h = both_finite (fin s m e) (fin t n d) tt tt (fin_le→⊑ s m e t n d h)

pub at_most→le : {x y : Float} → AtMost x y → T (le x y)
unfolding le is_nan
at_most→le (minus_inf {y = nan} h) = h
at_most→le (minus_inf {y = inf true} h) = tt
at_most→le (minus_inf {y = inf false} h) = tt
at_most→le (minus_inf {y = fin t n d} h) = tt
at_most→le (plus_inf {x = nan} h) = h
at_most→le (plus_inf {x = inf true} h) = tt
at_most→le (plus_inf {x = inf false} h) = tt
at_most→le (plus_inf {x = fin s m e} h) = tt
at_most→le (both_finite nan y p q h) = absurd p
at_most→le (both_finite (inf s) y p q h) = absurd p
at_most→le (both_finite (fin s m e) nan p q h) = absurd q
at_most→le (both_finite (fin s m e) (inf t) p q h) = absurd q
at_most→le (both_finite (fin s m e) (fin t n d) p q h) = ⊑→fin_le s m e t n d h

pub le→⊑ : (x y : Float) → T (finite x) → T (finite y) → T (le x y) → frac x ⊑ frac y
le→⊑ x y p q h = go (le→at_most x y h) p q
  where
    go : {x y : Float} → AtMost x y → T (finite x) → T (finite y) → frac x ⊑ frac y
    go (minus_inf h) p q = absurd p
    go (plus_inf h) p q = absurd q
    go (both_finite x y p' q' h) p q = h

pub ⊑→le : (x y : Float) → T (finite x) → T (finite y) → frac x ⊑ frac y → T (le x y)
⊑→le x y p q h = at_most→le (both_finite x y p q h)

-- what is not below zero takes nothing away
pub nonneg_under : (y : Float) → T (le (fin false 0 (pos 0)) y) → (frac y).under ≡ 0
nonneg_under nan h = refl
nonneg_under (inf s) h = refl
nonneg_under (fin false m e) h = refl
nonneg_under (fin true m e) h = let k = simp zero-mul at (le→⊑ (fin false 0 (pos 0)) (fin true m e) tt tt h) in omega arith

-- ---- the other sign
frac_neg : (x : Float) → frac (neg x) ≡ turn (frac x)
unfolding neg
frac_neg nan = refl
frac_neg (inf s) = refl
frac_neg (fin true m e) = refl
frac_neg (fin false m e) = refl

pub turn_⊑ : (q r : Frac) → q ⊑ r → turn r ⊑ turn q
turn_⊑ q r h = omega arith

turned : {x y : Float} → AtMost x y → AtMost (neg y) (neg x)
unfolding neg
turned (minus_inf {y} h) = plus_inf (neg_number y h)
turned (plus_inf {x} h) = minus_inf (neg_number x h)
turned (both_finite x y p q h) =
    both_finite (neg y) (neg x) (neg_finite y q) (neg_finite x p) (rw (frac_neg y, frac_neg x) (turn_⊑ (frac x) (frac y) h))

pub le_neg : (x y : Float) → T (le x y) → T (le (neg y) (neg x))
le_neg x y h = at_most→le (turned (le→at_most x y h))

-- ---- rounding
-- a value that is not positive, and one that is not negative
below_above : (x y : Float) → T (has_sign true x) → T (has_sign false y) → AtMost x y
unfolding is_nan
below_above nan y h k = absurd h
below_above (inf true) y h k = minus_inf (has_number false y k)
below_above (inf false) y h k = absurd h
below_above (fin false m e) y h k = absurd h
below_above (fin true m e) nan h k = absurd k
below_above (fin true m e) (inf true) h k = absurd k
below_above (fin true m e) (inf false) h k = plus_inf tt
below_above (fin true m e) (fin true n d) h k = absurd k
below_above (fin true m e) (fin false n d) h k = both_finite (fin true m e) (fin false n d) tt tt (simp zero-mul (omega arith))

-- q is a / q.by, negative where s is true
abbrev pub Amount : Bool → ℕ → Frac → Type 0
Amount false a q = q.over ≡ a + q.under
Amount true a q = q.under ≡ a + q.over

-- z is q rounded to the format f; a zero may have either sign
pub record Rounds (f : Format) (z : Float) (q : Frac) : Type 0 where
  pub sign : Bool
  pub amount : ℕ
  pub is : z ≡ round f sign amount q.by
  pub parts : Amount sign amount q

-- by a sign and a size at hand
pub rounded : (f : Format) (s : Bool) (a : ℕ) {q : Frac} → Amount s a q → Rounds f (round f s a q.by) q
rounded f s a h = record { sign = s; amount = a; is = refl; parts = h }

times : (o a u c : ℕ) → o ≡ a + u → o * c ≡ a * c + u * c
times o a u c e = rw e (add-mul a u c)

cross : (a b : ℕ) (q r : Frac) → Amount false a q → Amount false b r → q ⊑ r → a * r.by ≤ b * q.by
cross a b q r e e' h =
    let u = times q.over a q.under r.by e in
    let v = times r.over b r.under q.by e' in
    omega arith

round_le : (f : Format) (s t : Bool) (a b : ℕ) (q r : Frac) → 0 < q.by → 0 < r.by → Amount s a q → Amount t b r → q ⊑ r
    → T (le (round f s a q.by) (round f t b r.by))
round_le f false false a b q r Q R e e' h = round_mono f a q.by b r.by Q R (cross a b q r e e' h)
round_le f true true a b q r Q R e e' h =
    rw (round_neg f a q.by, round_neg f b r.by)
    (le_neg (round f false b r.by) (round f false a q.by)
    (round_mono f b r.by a q.by R Q (cross b a (turn r) (turn q) e' e (turn_⊑ q r h))))
round_le f true false a b q r Q R e e' h =
    at_most→le (below_above (round f true a q.by) (round f false b r.by) (round_has f true a q.by) (round_has f false b r.by))
round_le f false true a b q r Q R e e' h =
    let u = times q.over a q.under r.by e in
    let v = times r.under b r.over q.by e' in
    let z = zero_factor a r.by R (omega arith) in
    let z' = zero_factor b q.by Q (omega arith) in
    rw (z, z', round_zero f false q.by Q, round_zero f true r.by R) zeros
  where
    zeros : T (le (fin false 0 (pos 0)) (fin true 0 (pos 0)))
    zeros = unfold le in tt

-- rounding keeps the order
pub rounds_mono : (f : Format) {z z' : Float} {q r : Frac} → 0 < q.by → 0 < r.by → Rounds f z q → Rounds f z' r → q ⊑ r → T (le z z')
rounds_mono f {q} {r} Q R u v h = rw (u.is, v.is) (round_le f u.sign v.sign u.amount v.amount q r Q R u.parts v.parts h)
