-- +0 times 1 over what is 1 at least is +0. Assumes nothing.
use mathlib.Core.Path.{◌≡◌, ap, ◌∙◌}
use Prim.Native.Nat.{ℕ, ◌*◌}
use native.Mathlib.Nat.{zero-mul, mul-pos}
use mathlib.Core.Bool.{true, false}
use lib.Dec.{T}
use lib.Pow.{pow_pos}
use lib.Ieee.{Float, nan, inf, fin, binary32, up, down, round, mul, div, le, of_bits}
use lib.Ieee.Fits.{down_pos}
use lib.Ieee.Scale.{finite}
use Rattle.floats.specs.Values.{zero_f, one_f}
use Rattle.floats.specs.Floats.{has_sign}
use Rattle.floats.proofs.Sign.{round_zero}
use Rattle.floats.proofs.Between.{between_finite}
use Rattle.floats.proofs.FromOne.{one_over_sign, one_over}

-- +0 times a finite value with a plus sign
zero_times : (c : Float) → T (finite c) → T (has_sign false c) → mul binary32 zero_f c ≡ zero_f
unfolding mul of_bits
zero_times nan f h = absurd f
zero_times (inf s) f h = absurd f
zero_times (fin true n d) f h = absurd h
zero_times (fin false n d) f h =
    ap (λ (a : ℕ). round binary32 false a (1 * down d)) (zero-mul (n * up d))
    ∙ round_zero binary32 false (1 * down d) (mul-pos (pow_pos 0) (down_pos d))

pub zero_times_recip : (s : Float) → T (le one_f s) → mul binary32 zero_f (div binary32 one_f s) ≡ zero_f
unfolding of_bits
zero_times_recip s h = zero_times (div binary32 one_f s) (between_finite zero_f one_f (div binary32 one_f s) tt tt (one_over s h)) (one_over_sign s h)
