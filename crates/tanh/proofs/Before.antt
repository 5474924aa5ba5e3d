-- `Tanh` as it was before a zero kept its sign, and that it has changed at +0 alone: every other x, NaN and infinities too, keeps its result. Assumes nothing.
use mathlib.Core.Path.{◌≡◌}
use mathlib.Core.Bool.{true, false, ◌&&◌, cond}
use lib.Ieee.{Float, neg, eq, le}
use Rattle.floats.specs.Values.{zero_f}
use Rattle.floats.specs.Floats.{abs_of, has_sign}
use Rattle.floats.proofs.Zeros.{zero_at_most}
use Rattle.tanh.specs.Tanh.{size_of, tanh_of}
use Rattle.tanh.proofs.Zero.{zero_tiny, by_order}

-- the Rust's rule: the sign is turned where x is at most zero, so +0 gave -0
unfoldable pub tanh_before : Float → Float
tanh_before x = cond (le x zero_f) (neg (size_of x (abs_of x))) (size_of x (abs_of x))

-- every x but +0 keeps its result
pub tanh_as_before : (x : Float) → eq x zero_f && has_sign false x ≡ false → tanh_of x ≡ tanh_before x
unfolding tanh_before
tanh_as_before = by_order

-- either zero gave its size with a minus
pub zero_before : (x : Float) → eq x zero_f ≡ true → tanh_before x ≡ neg (abs_of x)
unfolding tanh_before size_of
zero_before x h = simp (zero_at_most x h, zero_tiny x h)
