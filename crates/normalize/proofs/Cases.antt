-- -0 through the arms, computed: it stays -0 in the second, where no addition happens, and is +0 in the first and third. Assumes nothing.
use mathlib.Core.Path.{◌≡◌, refl}
use mathlib.Core.Bool.{true, false}
use mathlib.Core.List.{[], ◌∷◌}
use lib.Ieee.{Float, of_bits, mul, add, sub, neg, round, eq}
use Rattle.lists.specs.Lists.{tab}
use Rattle.floats.specs.Values.{f32, zero_f, one_f}
use Rattle.normalize.specs.declared.Settings.{Settings}
use Rattle.normalize.specs.Normalize.{norm_of, results}

abbrev pub minus_zero : Float
minus_zero = f32 0x8000_0000

-- the Rust's default but for the bias
abbrev pub with_bias : Float → Settings
with_bias b = record { pre_scale_bias = zero_f; scale = one_f; bias = b }

-- one element, -0, with the per-element scale 1 or none, and the per-element bias 0 or none
pub minus_zero_law :
    (results (with_bias zero_f) true (one_f ∷ []) false [] (minus_zero ∷ []) ≡ minus_zero ∷ [])
    × (results (with_bias minus_zero) true (one_f ∷ []) false [] (minus_zero ∷ []) ≡ minus_zero ∷ [])
    × (results (with_bias zero_f) false [] false [] (minus_zero ∷ []) ≡ zero_f ∷ [])
    × (results (with_bias zero_f) true (one_f ∷ []) true (zero_f ∷ []) (minus_zero ∷ []) ≡ zero_f ∷ [])
unfolding norm_of of_bits mul add sub neg round eq tab
minus_zero_law = (refl, refl, refl, refl)
