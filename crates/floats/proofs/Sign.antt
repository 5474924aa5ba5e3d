-- The sign of what `round` gives, and of its zero; `neg` turns the one sign into the other. Assumes nothing.
use Rattle.std.proofs.Common.{◌≡◌, ℕ, zero, suc, ◌+◌, ◌*◌, ◌^◌, ◌<◌, Bool, true, false, cond, not, T, ltb, pos, refl, ◌∙◌, zero-mul, pow_pos}
use mathlib.Core.Bool.{beq}
use lib.Ieee.{Float, nan, inf, fin, Format, binary32, binary64, prec, emax, low, up, down, odd, units, round, neg, mul, lt, is_nan}
use lib.Ieee.Scale.{finite, round_same}
use Rattle.floats.specs.Floats.{has_sign}

beq_refl : (s : Bool) → T (beq s s)
beq_refl true = tt
beq_refl false = tt

odd_has : (d : ℕ) (s : Bool) (q k l : ℕ) → T (has_sign s (odd d s q k l))
unfolding odd
odd_has d s zero k l = beq_refl s
odd_has d s (suc q) k l = beq_refl s

units_has : (f : Format) (s : Bool) (q k : ℕ) → T (has_sign s (units f s q k))
unfolding units
units_has f s q k = go (ltb (q * 2 ^ k) (2 ^ (low f + suc (emax f))))
  where
    go : (b : Bool) → T (has_sign s (cond b (odd (suc (prec f)) s q k (low f)) (inf s)))
    go true = odd_has (suc (prec f)) s q k (low f)
    go false = beq_refl s

-- `round` gives the sign that it is handed, so it never gives a NaN
pub round_has : (f : Format) (s : Bool) (a d : ℕ) → T (has_sign s (round f s a d))
unfolding round
round_has f s a d = units_has f s _ _

odd_neg : (d q k l : ℕ) → odd d true q k l ≡ neg (odd d false q k l)
unfolding odd neg
odd_neg d zero k l = refl
odd_neg d (suc q) k l = refl

units_neg : (f : Format) (q k : ℕ) → units f true q k ≡ neg (units f false q k)
unfolding units neg
units_neg f q k = go (ltb (q * 2 ^ k) (2 ^ (low f + suc (emax f))))
  where
    go : (b : Bool) → cond b (odd (suc (prec f)) true q k (low f)) (inf true) ≡ neg (cond b (odd (suc (prec f)) false q k (low f)) (inf false))
    go true = odd_neg (suc (prec f)) q k (low f)
    go false = refl

pub round_neg : (f : Format) (a d : ℕ) → round f true a d ≡ neg (round f false a d)
unfolding round
round_neg f a d = units_neg f _ _

pub neg_finite : (x : Float) → T (finite x) → T (finite (neg x))
unfolding neg
neg_finite nan h = h
neg_finite (inf s) h = h
neg_finite (fin s m e) h = h

-- no NaN
pub finite_number : (x : Float) → T (finite x) → T (not (is_nan x))
unfolding is_nan
finite_number nan h = h
finite_number (inf s) h = tt
finite_number (fin s m e) h = tt

pub has_number : (s : Bool) (x : Float) → T (has_sign s x) → T (not (is_nan x))
unfolding is_nan
has_number s nan h = h
has_number s (inf t) h = tt
has_number s (fin t m e) h = tt

pub neg_number : (x : Float) → T (not (is_nan x)) → T (not (is_nan (neg x)))
unfolding neg is_nan
neg_number nan h = h
neg_number (inf s) h = h
neg_number (fin s m e) h = h

zero_over_one : (f : Format) (s : Bool) → round f s 0 1 ≡ fin s 0 (pos 0)
unfolding round
zero_over_one binary32 s = refl
zero_over_one binary64 s = refl

-- 0 / d rounds to the zero of the sign that is asked for
pub round_zero : (f : Format) (s : Bool) (d : ℕ) → 0 < d → round f s 0 d ≡ fin s 0 (pos 0)
round_zero f s d D = round_same f s 0 d 0 1 D (pow_pos 0) (simp zero-mul) ∙ zero_over_one f s

-- ---- minus a square is not above zero
not_above : (z : Float) → T (has_sign true z) → lt (fin false 0 (pos 0)) z ≡ false
unfolding lt
not_above nan h = refl
not_above (inf true) h = refl
not_above (inf false) h = absurd h
not_above (fin true m e) h = refl
not_above (fin false m e) h = absurd h

neg_has : (x : Float) → T (has_sign false x) → T (has_sign true (neg x))
unfolding neg
neg_has nan h = h
neg_has (inf true) h = h
neg_has (inf false) h = tt
neg_has (fin true m e) h = h
neg_has (fin false m e) h = tt

below_round : (f : Format) (a d : ℕ) → lt (fin false 0 (pos 0)) (neg (round f false a d)) ≡ false
below_round f a d = not_above (neg (round f false a d)) (neg_has (round f false a d) (round_has f false a d))

pub minus_square : (f : Format) (x : Float) → lt (fin false 0 (pos 0)) (neg (mul f x x)) ≡ false
unfolding mul neg lt
minus_square f nan = refl
minus_square f (inf true) = refl
minus_square f (inf false) = refl
minus_square f (fin true m e) = below_round f (m * up e * (m * up e)) (down e * down e)
minus_square f (fin false m e) = below_round f (m * up e * (m * up e)) (down e * down e)
