-- The bit patterns of f32: no NaN, the sign, the range, and the fraction that a pattern stands for. Assumes nothing.
use Rattle.std.proofs.Common.{◌≡◌, ℕ, zero, suc, ◌+◌, ◌*◌, ◌/◌, ◌%◌, ◌^◌, ◌<◌, ◌≤◌, Bool, true, false, not, ◌&&◌, T, eqb, ℤ, sym, refl, ap, ◌∙◌, subst, true≢false, arith, le-ltb, lt-ltb, eq-eqb}
use mathlib.Core.Bool.{not-not, false≢true}
use lib.Ieee.{Float, nan, inf, fin, Format, up, down, binary32, fits, is_nan, nan_bits, of_bits, to_bits, eq, ne, lt, neg}
use lib.Ieee.Bits.{of_bits-to_bits, to_bits-lt, nan_bits_is, nan_bits_above}
use lib.Ieee.Scale.{finite}
use Rattle.floats.specs.Floats.{abs_of}

-- ---- no NaN

-- as the test `is_nan` tells
pub no_nan : (x : Float) → is_nan x ≡ false → T (not (is_nan x))
no_nan x h = subst (λ b. T (not b)) (sym h) tt

pub nan_only : (x : Float) → is_nan x ≡ true → x ≡ nan
unfolding is_nan
nan_only nan h = refl
nan_only (inf s) h = absurd (false≢true h)
nan_only (fin s m e) h = absurd (false≢true h)

-- the test `x == x` asks for a number, and `x != x` for a NaN
pub number_test : (x : Float) → eq x x ≡ not (is_nan x)
unfolding eq is_nan
number_test nan = refl
number_test (inf true) = refl
number_test (inf false) = refl
number_test (fin true m e) = rw (eq-eqb (m * up e * down e) (m * up e * down e) refl)
number_test (fin false m e) = rw (eq-eqb (m * up e * down e) (m * up e * down e) refl)

pub nan_test : (x : Float) → ne x x ≡ is_nan x
unfolding ne
nan_test x = ap not (number_test x) ∙ not-not (is_nan x)

pub is_nan_law : (x : Float) → ne x x ≡ true → x ≡ nan
is_nan_law x h = nan_only x (sym (nan_test x) ∙ h)

-- a pattern whose low 23 bits are zero is no NaN's
pub low_zero : (n : ℕ) → n % 2 ^ 23 ≡ 0 → T (not (nan_bits binary32 n))
unfolding nan_bits
low_zero n h =
    subst (λ (b : Bool). T (not (eqb (n % 2 ^ 31 / 2 ^ 23) 255 && not b))) (sym (eq-eqb (n % 2 ^ 23) 0 h))
    (and_false (eqb (n % 2 ^ 31 / 2 ^ 23) 255))
  where
    and_false : (b : Bool) → T (not (b && false))
    and_false true = tt
    and_false false = tt

-- past the pattern of an infinity stand the NaN's, with either sign
pub pattern_nan : (n : ℕ) → 0x7f80_0000 < n % 2 ^ 31 → of_bits binary32 n ≡ nan
pattern_nan n h = nan_only (of_bits binary32 n) (sym (nan_bits_is binary32 n) ∙ nan_bits_above binary32 n ∙ lt-ltb 0x7f80_0000 (n % 2 ^ 31) h)

pub pattern_no_nan : (n : ℕ) → n % 2 ^ 31 ≤ 0x7f80_0000 → T (not (nan_bits binary32 n))
pattern_no_nan n h = subst (λ b. T (not b)) (sym (nan_bits_above binary32 n ∙ le-ltb 0x7f80_0000 (n % 2 ^ 31) h)) tt

-- ---- finite: between the infinities
pub finite_then : (x : Float) → lt x (of_bits binary32 0x7f80_0000) ≡ true → lt (neg (of_bits binary32 0x7f80_0000)) x ≡ finite x
unfolding lt neg of_bits
finite_then nan h = refl
finite_then (inf true) h = refl
finite_then (inf false) h = cc
finite_then (fin s m e) h = refl

pub finite_else : (x : Float) → lt x (of_bits binary32 0x7f80_0000) ≡ false → lt x (of_bits binary32 0x7f80_0000) ≡ finite x
unfolding lt of_bits
finite_else nan h = refl
finite_else (inf true) h = absurd (true≢false h)
finite_else (inf false) h = refl
finite_else (fin s m e) h = cc

-- ---- the sign is the highest bit
pub fits_sign : (f : Format) (s t : Bool) (m : ℕ) (e : ℤ) → T (fits f (fin s m e)) → T (fits f (fin t m e))
unfolding fits
fits_sign f s t zero e h = h
fits_sign f s t (suc m) e h = h

pub sign_on : (m : ℕ) (e : ℤ) → to_bits binary32 (fin true m e) ≡ 2 ^ 31 + to_bits binary32 (fin false m e)
unfolding to_bits
sign_on m e = omega arith

sign_room : (m : ℕ) (e : ℤ) → T (fits binary32 (fin true m e)) → to_bits binary32 (fin false m e) < 2 ^ 31
sign_room m e f = omega (arith, sign_on m e, to_bits-lt binary32 (fin true m e) f)

pub sign_off : (s : Bool) (m : ℕ) (e : ℤ) → T (fits binary32 (fin s m e)) → to_bits binary32 (fin s m e) % 2 ^ 31 ≡ to_bits binary32 (fin false m e)
sign_off true m e f = omega (arith, sign_on m e, sign_room m e f)
sign_off false m e f = omega (arith, sign_room m e (fits_sign binary32 false true m e f))

-- what the highest bit of a pattern says of the sign
abbrev pub SignBit : Bool → ℕ → Type 0
SignBit false b = b < 2 ^ 31
SignBit true b = 2 ^ 31 ≤ b

pub sign_is : (s t : Bool) (m : ℕ) (e : ℤ) → T (fits binary32 (fin s m e)) → SignBit t (to_bits binary32 (fin s m e)) → s ≡ t
sign_is false false m e f h = refl
sign_is true true m e f h = refl
sign_is true false m e f h = absurd (omega (arith, sign_on m e))
sign_is false true m e f h = absurd (omega (arith, sign_room m e (fits_sign binary32 false true m e f)))

pub abs_bits : (x : Float) → T (fits binary32 x) → T (not (is_nan x)) → of_bits binary32 (to_bits binary32 x % 2 ^ 31) ≡ abs_of x
unfolding is_nan to_bits of_bits
abs_bits nan f n = absurd n
abs_bits (inf true) f n = refl
abs_bits (inf false) f n = refl
abs_bits (fin s m e) f n = ap (of_bits binary32) (sign_off s m e f) ∙ of_bits-to_bits binary32 (fin false m e) (fits_sign binary32 s false m e f)

pub abs_no_nan : (x : Float) → T (fits binary32 x) → T (not (is_nan x)) → T (not (nan_bits binary32 (to_bits binary32 x % 2 ^ 31)))
unfolding is_nan
abs_no_nan x f n = rw (nan_bits_is, abs_bits x f n) (go x n)
  where
    go : (x : Float) → T (not (is_nan x)) → T (not (is_nan (abs_of x)))
    go nan n = n
    go (inf s) n = n
    go (fin s m e) n = n
