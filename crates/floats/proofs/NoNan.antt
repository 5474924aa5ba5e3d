-- Where a sum, a difference, a product or a quotient of values that are no NaN is no NaN. Assumes nothing.
use Rattle.std.proofs.Common.{◌≡◌, ℕ, zero, suc, ◌*◌, Bool, true, false, cond, not, T, eqb, ◌⊎◌, ℤ, pos, inl, inr, zero-mul}
use lib.Dec.{eqb-suc-zero}
use lib.Ieee.{Float, nan, inf, fin, Format, up, down, unlike, round, neg, add, sub, mul, div, eq, is_nan}
use lib.Ieee.Scale.{finite}
use Rattle.floats.specs.Fraction.{Frac}
use Rattle.floats.proofs.Sign.{round_has, has_number, neg_number, neg_finite}
use Rattle.floats.proofs.Signed.{Rounds}
use Rattle.floats.proofs.Monotone.{add_rounds, mul_rounds}

pub round_number : (f : Format) (s : Bool) (a d : ℕ) → T (not (is_nan (round f s a d)))
round_number f s a d = has_number s (round f s a d) (round_has f s a d)

pub rounds_number : (f : Format) {z : Float} {q : Frac} → Rounds f z q → T (not (is_nan z))
rounds_number f {q} r = rw r.is (round_number f r.sign r.amount q.by)

-- where one of the two is finite
pub add_number : (f : Format) (x y : Float) → T (not (is_nan x)) → T (not (is_nan y)) → T (finite x) ⊎ T (finite y)
    → T (not (is_nan (add f x y)))
unfolding add is_nan
add_number f nan y p q h = absurd p
add_number f (inf s) nan p q h = absurd q
add_number f (inf s) (inf t) p q (inl h) = absurd h
add_number f (inf s) (inf t) p q (inr h) = absurd h
add_number f (inf s) (fin t n d) p q h = tt
add_number f (fin s m e) nan p q h = absurd q
add_number f (fin s m e) (inf t) p q h = tt
add_number f (fin s m e) (fin t n d) p q h = rounds_number f (add_rounds f (fin s m e) (fin t n d) tt tt)

pub sub_number : (f : Format) (x y : Float) → T (not (is_nan x)) → T (not (is_nan y)) → T (finite x) ⊎ T (finite y)
    → T (not (is_nan (sub f x y)))
unfolding sub
sub_number f x y p q h = add_number f x (neg y) p (neg_number y q) (elim h [ inl a ↦ inl a | inr b ↦ inr (neg_finite y b) ])

-- a value that is not equal to zero
nonzero : (t : Bool) (n : ℕ) (d : ℤ) → T (not (eq (fin t n d) (fin false 0 (pos 0)))) → eqb n 0 ≡ false
unfolding eq
nonzero true zero d h = absurd (simp zero-mul at h)
nonzero false zero d h = absurd (simp zero-mul at h)
nonzero t (suc n) d h = eqb-suc-zero n

-- where no infinity meets a zero
pub mul_number : (f : Format) (x y : Float) → T (not (is_nan x)) → T (not (is_nan y))
    → T (finite x) ⊎ T (not (eq y (fin false 0 (pos 0)))) → T (finite y) ⊎ T (not (eq x (fin false 0 (pos 0))))
    → T (not (is_nan (mul f x y)))
unfolding mul is_nan
mul_number f nan y p q h k = absurd p
mul_number f (inf s) nan p q h k = absurd q
mul_number f (inf s) (inf t) p q h k = tt
mul_number f (inf s) (fin t n d) p q (inl h) k = absurd h
mul_number f (inf s) (fin t n d) p q (inr h) k = rw (nonzero t n d h) tt
mul_number f (fin s m e) nan p q h k = absurd q
mul_number f (fin s m e) (inf t) p q h (inl k) = absurd k
mul_number f (fin s m e) (inf t) p q h (inr k) = rw (nonzero s m e k) tt
mul_number f (fin s m e) (fin t n d) p q h k = rounds_number f (mul_rounds f (fin s m e) (fin t n d) tt tt)

-- where one of the two is finite, and one of them is not zero
pub div_number : (f : Format) (x y : Float) → T (not (is_nan x)) → T (not (is_nan y))
    → T (finite x) ⊎ T (finite y) → T (not (eq x (fin false 0 (pos 0)))) ⊎ T (not (eq y (fin false 0 (pos 0))))
    → T (not (is_nan (div f x y)))
unfolding div is_nan
div_number f nan y p q h k = absurd p
div_number f (inf s) nan p q h k = absurd q
div_number f (inf s) (inf t) p q (inl h) k = absurd h
div_number f (inf s) (inf t) p q (inr h) k = absurd h
div_number f (inf s) (fin t n d) p q h k = tt
div_number f (fin s m e) nan p q h k = absurd q
div_number f (fin s m e) (inf t) p q h k = tt
div_number f (fin s m e) (fin t n d) p q h (inl k) = rw (nonzero s m e k) (either (eqb n 0))
  where
    either : (b : Bool) → T (not (is_nan (cond b (inf (unlike s t)) (round f (unlike s t) (m * up e * down d) (n * up d * down e)))))
    either true = tt
    either false = round_number f (unlike s t) (m * up e * down d) (n * up d * down e)
div_number f (fin s m e) (fin t n d) p q h (inr k) = rw (nonzero t n d k) (round_number f (unlike s t) (m * up e * down d) (n * up d * down e))
