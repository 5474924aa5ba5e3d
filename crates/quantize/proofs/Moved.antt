-- What `steps` and `clamp` find: the cast of the rounded size, and the zero point moved by it. Assumes nothing.
use mathlib.Core.Path.{◌≡◌, refl, sym, ◌∙◌, ap, subst}
use mathlib.Core.Bool.{Bool, true, false, true≢false, false≢true}
use Prim.Native.Nat.{ℕ, ◌+◌, ◌-◌, ◌*◌, ◌^◌, ◌<◌, ◌≤◌, min}
use native.Mathlib.Nat.{zero-mul}
use native.Mathlib.Omega.{arith}
use lib.Dec.{T, ltb}
use lib.IntN.{ℤ}
use lib.Ieee.{Float, nan, inf, fin, binary32, fits, up, down, round, lt, of_bits, of_int, in_float, in_unsigned, to_unsigned}
use lib.Ieee.Exact.{HasValue}
use lib.Ieee.Fits.{down_pos}
use lib.Ieee.Nearest.{closest}
use lib.Ieee.Back.{unsigned_back}
use borrow.Author.Tests.{le-leb, ltb-true, ltb-false}
use Rattle.floats.specs.Floats.{abs_of, round_even}
use Rattle.floats.proofs.Near.{closest_exact}
use Rattle.floats.proofs.Numbers.{ltb_times}
use Rattle.floats.proofs.Pattern.{fits_sign}
use Rattle.floats.proofs.Whole.{round_even_value}
use Rattle.floats.specs.Values.{f32, zero_f}
use Rattle.quantize.specs.Quantize.{clamp_of, code_steps}

-- 256
abbrev pub top : Float
top = f32 0x4380_0000

-- y's size, rounded to a whole number
abbrev pub sized : Float → Float
sized y = round_even binary32 (abs_of y)

-- ---- against 256
-- what has a whole number's value compares as the number does
at_top : (x : Float) (n : ℕ) → HasValue x false n 1 → lt x top ≡ ltb n 256
unfolding lt of_bits
at_top nan n v = absurd v
at_top (inf s) n v = absurd v
at_top (fin true m e) n v = absurd (true≢false v.0)
at_top (fin false m e) n v = ap (λ z. ltb z (256 * down e)) v.1 ∙ ltb_times n 256 (down e) (down_pos e)

size_at_top : (s : Bool) (m : ℕ) (e : ℤ) → T (fits binary32 (fin s m e))
    → lt (sized (fin s m e)) top ≡ ltb (closest (m * up e) (down e)) 256
size_at_top s m e F = at_top (sized (fin s m e)) (closest (m * up e) (down e)) (round_even_value binary32 false m e (fits_sign binary32 s false m e F))

-- a whole number below 256 casts to itself
cast : (n : ℕ) → n < 256 → T (in_unsigned binary32 32 (round binary32 false n 1)) × (to_unsigned 32 (round binary32 false n 1) ≡ n)
unfolding of_int in_float
cast n h = unsigned_back binary32 32 n (subst T (sym (le-leb n (2 ^ 24) (omega arith))) tt) (omega arith)

cast_steps : (y : Float) → T (fits binary32 y) → lt (sized y) top ≡ true
    → T (in_unsigned binary32 32 (sized y)) × (to_unsigned 32 (sized y) ≡ code_steps y)
unfolding round_even lt of_bits
cast_steps nan F h = absurd (false≢true h)
cast_steps (inf s) F h = absurd (false≢true h)
cast_steps (fin s m e) F h =
    let l = ltb-true (closest (m * up e) (down e)) 256 (sym (size_at_top s m e F) ∙ h) in
    let k = cast (closest (m * up e) (down e)) l in
    (k.0, k.1 ∙ omega arith)

-- ---- from 256 on
all_steps : (y : Float) → T (fits binary32 y) → lt (sized y) top ≡ false → 256 ≡ code_steps y
all_steps nan F h = refl
all_steps (inf s) F h = refl
all_steps (fin s m e) F h =
    let l = ltb-false (closest (m * up e) (down e)) 256 (sym (size_at_top s m e F) ∙ h) in
    omega arith

-- ---- as the code has it: r is y's size, rounded
module _ (y r : Float) (F : T (fits binary32 y)) (e : r ≡ sized y) where
  pub below_top : lt r top ≡ true → T (in_unsigned binary32 32 r) × (to_unsigned 32 r ≡ code_steps y)
  below_top h = rw e (cast_steps y F (rw e at h))

  pub past_top : lt r top ≡ false → 256 ≡ code_steps y
  past_top h = all_steps y F (rw e at h)

-- ---- the zero point, moved
pub few : (y : Float) → code_steps y ≤ 256
few nan = omega arith
few (inf s) = omega arith
few (fin s m e) = omega arith

pub clamp_down : (zp : ℕ) (y : Float) → zp ≤ 255 → lt y zero_f ≡ true → zp - code_steps y ≡ clamp_of zp y
unfolding lt of_bits clamp_of
clamp_down zp nan z h = absurd (false≢true h)
clamp_down zp (inf true) z h = omega arith
clamp_down zp (inf false) z h = absurd (false≢true h)
clamp_down zp (fin true m e) z h = omega arith
clamp_down zp (fin false m e) z h = absurd (omega (arith, ltb-true (m * up e * 1) (0 * down e) h, zero-mul (down e)))

pub clamp_up : (zp : ℕ) (y : Float) → zp ≤ 255 → lt y zero_f ≡ false → min (zp + code_steps y) 255 ≡ clamp_of zp y
unfolding lt of_bits clamp_of
clamp_up zp nan z h = omega arith
clamp_up zp (inf true) z h = absurd (true≢false h)
clamp_up zp (inf false) z h = omega arith
clamp_up zp (fin false m e) z h = omega arith
clamp_up zp (fin true m e) z h =
    let n : m * up e ≡ 0 = omega (arith, ltb-false 0 (m * up e * 1 + 0 * down e) h) in
    let k : closest (m * up e) (down e) ≡ 0 = closest_exact (m * up e) (down e) 0 (down_pos e) (n ∙ sym (zero-mul (down e))) in
    omega arith
