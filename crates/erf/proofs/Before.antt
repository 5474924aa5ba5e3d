-- `ApproxGelu` as it was before `Tanh` kept a zero's sign, and that it is the same for every x, finite or not: 1 is added to what `Tanh` gives. Assumes nothing.
use mathlib.Core.Path.{◌≡◌, refl, sym, ap, ◌∙◌}
use mathlib.Core.Bool.{Bool, true, false, ◌&&◌}
use lib.Ieee.{Float, binary32, add, mul, eq}
use Rattle.floats.specs.Values.{zero_f, one_f, half_f}
use Rattle.floats.specs.Floats.{has_sign}
use Rattle.floats.proofs.Zeros.{zeros_plus_one}
use Rattle.tanh.specs.Tanh.{tanh_of}
use Rattle.tanh.proofs.Zero.{zero_kept}
use Rattle.tanh.proofs.Before.{tanh_before, tanh_as_before, zero_before}
use Rattle.erf.specs.Erf.{inner_of, approx_gelu_of}

unfoldable pub approx_gelu_before : Float → Float
approx_gelu_before x = mul binary32 (mul binary32 x half_f) (add binary32 (tanh_before (inner_of x)) one_f)

plus_one_as_before : (z : Float) → add binary32 (tanh_of z) one_f ≡ add binary32 (tanh_before z) one_f
plus_one_as_before z = go (eq z zero_f) refl
  where
    go : (b : Bool) → eq z zero_f ≡ b → add binary32 (tanh_of z) one_f ≡ add binary32 (tanh_before z) one_f
    go true h =
        ap (λ y. add binary32 y one_f) (zero_kept z h) ∙ sym (zeros_plus_one binary32 z h) ∙ ap (λ y. add binary32 y one_f) (sym (zero_before z h))
    go false h = ap (λ y. add binary32 y one_f) (tanh_as_before z (ap (◌&& has_sign false z) h))

pub approx_gelu_as_before : (x : Float) → approx_gelu_of x ≡ approx_gelu_before x
unfolding approx_gelu_of approx_gelu_before
approx_gelu_as_before x = ap (mul binary32 (mul binary32 x half_f)) (plus_one_as_before (inner_of x))
