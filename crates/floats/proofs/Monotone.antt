-- Sums, differences and products of finite values are rounded fractions, and so they keep the order of their operands. Assumes nothing.
-- A name ends in -f where the numbers have a law of that name.
use Rattle.std.proofs.Common.{◌≡◌, ℕ, ◌+◌, ◌-◌, ◌*◌, ◌<◌, ◌≤◌, Bool, true, false, cond, not, ◌&&◌, T, ltb, pos, refl, mul-le-mul_right, mul_comm, mul-zero, zero-mul, mul-one, arith, ltb→lt, nltb→le}
use mathlib.Core.Bool.{beq}
use lib.Ieee.{Float, nan, inf, fin, Format, up, down, unlike, round, neg, add, sub, mul, le}
use lib.Ieee.Scale.{finite}
use Rattle.floats.specs.Fraction.{Frac, frac, ◌⊑◌, ◌⊕◌, ◌⊗◌, turn}
use Rattle.floats.proofs.Numbers.{spread}
use Rattle.floats.proofs.Sign.{neg_finite}
use Rattle.floats.proofs.Signed.{both_pos, turn_⊑, le→⊑, le_neg, Rounds, rounded, rounds_mono}

-- ---- the sum
pub add_rounds : (f : Format) (x y : Float) → T (finite x) → T (finite y) → Rounds f (add f x y) (frac x ⊕ frac y)
unfolding add
add_rounds f nan y p q = absurd p
add_rounds f (inf s) y p q = absurd p
add_rounds f (fin s m e) nan p q = absurd q
add_rounds f (fin s m e) (inf t) p q = absurd q
add_rounds f (fin s m e) (fin t n d) p q = go s t (ltb A B) (ltb B A) (ltb→lt A B) (nltb→le A B) (nltb→le B A)
  where
    A : ℕ
    A = m * up e * down d

    B : ℕ
    B = n * up d * down e

    c : ℕ
    c = down e * down d

    go : (s t b b' : Bool) → (T b → A < B) → (T (not b) → B ≤ A) → (T (not b') → A ≤ B)
        → Rounds f (cond (beq s t) (round f s (A + B) c) (cond b (round f t (B - A) c) (round f (s && b') (A - B) c)))
        (frac (fin s m e) ⊕ frac (fin t n d))
    go false false b b' h k j = rounded f false (A + B) (simp zero-mul (omega arith))
    go true true b b' h k j = rounded f true (A + B) (simp zero-mul (omega arith))
    go false true true b' h k j = let l = h tt in rounded f true (B - A) (simp zero-mul (omega arith))
    go false true false b' h k j = let l = k tt in rounded f false (A - B) (simp zero-mul (omega arith))
    go true false true b' h k j = let l = h tt in rounded f false (B - A) (simp zero-mul (omega arith))
    go true false false true h k j = let l = k tt in rounded f true (A - B) (simp zero-mul (omega arith))
    go true false false false h k j =
        let l = k tt in
        let l' = j tt in
        rounded f false (A - B) (simp zero-mul (omega arith))

⊕_mono : (q q' r r' : Frac) → q ⊑ q' → r ⊑ r' → (q ⊕ r) ⊑ (q' ⊕ r')
⊕_mono q q' r r' h k =
    let h1 = simp spread at (mul-le-mul_right (r.by * r'.by) h) in
    let k1 = simp spread at (mul-le-mul_right (q.by * q'.by) k) in
    simp spread (omega arith)

pub add_mono : (f : Format) (x x' y y' : Float) → T (finite x) → T (finite x') → T (finite y) → T (finite y')
    → T (le x x') → T (le y y') → T (le (add f x y) (add f x' y'))
add_mono f x x' y y' a b c d h k =
    rounds_mono f (both_pos x y) (both_pos x' y') (add_rounds f x y a c) (add_rounds f x' y' b d)
    (⊕_mono (frac x) (frac x') (frac y) (frac y') (le→⊑ x x' a b h) (le→⊑ y y' c d k))

pub sub_mono : (f : Format) (x x' y y' : Float) → T (finite x) → T (finite x') → T (finite y) → T (finite y')
    → T (le x x') → T (le y' y) → T (le (sub f x y) (sub f x' y'))
unfolding sub
sub_mono f x x' y y' a b c d h k = add_mono f x x' (neg y) (neg y') a b (neg_finite y c) (neg_finite y' d) h (le_neg y' y k)

-- ---- the product
pub mul_rounds : (f : Format) (x y : Float) → T (finite x) → T (finite y) → Rounds f (mul f x y) (frac x ⊗ frac y)
unfolding mul
mul_rounds f nan y p q = absurd p
mul_rounds f (inf s) y p q = absurd p
mul_rounds f (fin s m e) nan p q = absurd q
mul_rounds f (fin s m e) (inf t) p q = absurd q
mul_rounds f (fin s m e) (fin t n d) p q = go s t
  where
    a : ℕ
    a = m * up e * (n * up d)

    go : (s t : Bool) → Rounds f (round f (unlike s t) a (down e * down d)) (frac (fin s m e) ⊗ frac (fin t n d))
    go false false = rounded f false a (simp (zero-mul, mul-zero) (omega arith))
    go true true = rounded f false a (simp (zero-mul, mul-zero) (omega arith))
    go false true = rounded f true a (simp (zero-mul, mul-zero) (omega arith))
    go true false = rounded f true a (simp (zero-mul, mul-zero) (omega arith))

-- times a fraction that is not negative
⊗_mono : (q q' r : Frac) → r.under ≤ r.over → q ⊑ q' → (q ⊗ r) ⊑ (q' ⊗ r)
⊗_mono q q' r l h =
    let e : r.over ≡ r.under + (r.over - r.under) = omega arith in
    rw e (grow r.under (r.over - r.under))
  where
    grow : (u k : ℕ) → (q ⊗ record { over = u + k; under = u; by = r.by }) ⊑ (q' ⊗ record { over = u + k; under = u; by = r.by })
    grow u k =
        let h1 = simp spread at (mul-le-mul_right (k * r.by) h) in
        simp spread (omega arith)

beq_comm : (s t : Bool) → beq s t ≡ beq t s
beq_comm true true = refl
beq_comm true false = refl
beq_comm false true = refl
beq_comm false false = refl

pub mul_comm_f : (f : Format) (x y : Float) → mul f x y ≡ mul f y x
unfolding mul
mul_comm_f f nan nan = refl
mul_comm_f f nan (inf t) = refl
mul_comm_f f nan (fin t n d) = refl
mul_comm_f f (inf s) nan = refl
mul_comm_f f (inf s) (inf t) = rw (beq_comm s t)
mul_comm_f f (inf s) (fin t n d) = rw (beq_comm s t)
mul_comm_f f (fin s m e) nan = refl
mul_comm_f f (fin s m e) (inf t) = rw (beq_comm s t)
mul_comm_f f (fin s m e) (fin t n d) = rw (beq_comm s t, mul_comm (m * up e) (n * up d), mul_comm (down e) (down d))

-- by a factor that is not negative, which stands on the right, or on the left
pub mul_mono_r : (f : Format) (x x' y : Float) → T (finite x) → T (finite x') → T (finite y) → T (le (fin false 0 (pos 0)) y)
    → T (le x x') → T (le (mul f x y) (mul f x' y))
mul_mono_r f x x' y a b c z h =
    let l = simp (zero-mul, mul-one) at (le→⊑ (fin false 0 (pos 0)) y tt c z) in
    rounds_mono f (both_pos x y) (both_pos x' y) (mul_rounds f x y a c) (mul_rounds f x' y b c)
    (⊗_mono (frac x) (frac x') (frac y) (omega arith) (le→⊑ x x' a b h))

pub mul_mono_l : (f : Format) (y x x' : Float) → T (finite y) → T (finite x) → T (finite x') → T (le (fin false 0 (pos 0)) y)
    → T (le x x') → T (le (mul f y x) (mul f y x'))
mul_mono_l f y x x' c a b z h = rw (mul_comm_f f y x, mul_comm_f f y x') (mul_mono_r f x x' y a b c z h)

-- by a factor that is not positive
pub mul_anti_r : (f : Format) (x x' y : Float) → T (finite x) → T (finite x') → T (finite y) → T (le y (fin false 0 (pos 0)))
    → T (le x x') → T (le (mul f x' y) (mul f x y))
mul_anti_r f x x' y a b c z h =
    let l = simp (zero-mul, mul-one) at (le→⊑ y (fin false 0 (pos 0)) c tt z) in
    rounds_mono f (both_pos x' y) (both_pos x y) (mul_rounds f x' y b c) (mul_rounds f x y a c)
    (turn_⊑ (frac x ⊗ turn (frac y)) (frac x' ⊗ turn (frac y))
    (⊗_mono (frac x) (frac x') (turn (frac y)) (omega arith) (le→⊑ x x' a b h)))

pub mul_anti_l : (f : Format) (y x x' : Float) → T (finite y) → T (finite x) → T (finite x') → T (le y (fin false 0 (pos 0)))
    → T (le x x') → T (le (mul f y x') (mul f y x))
mul_anti_l f y x x' c a b z h = rw (mul_comm_f f y x', mul_comm_f f y x) (mul_anti_r f x x' y a b c z h)
