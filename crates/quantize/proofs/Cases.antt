-- The sums by hand for quantize (RULES, Worked): their codes, computed. Assumes nothing.
use mathlib.Core.Path.{◌≡◌, refl}
use mathlib.Core.List.{List, [], ◌∷◌, map}
use lib.Ieee.{Float, of_bits, mul, round}
use Rattle.floats.specs.Values.{f32, one_f, half_f}
use Rattle.quantize.specs.Quantize.{clamp_of, code_of}

-- 0.5, 1.5, 2.5, -1, 300
abbrev pub hand_inputs : List Float
hand_inputs = half_f ∷ f32 0x3fc0_0000 ∷ f32 0x4020_0000 ∷ f32 0xbf80_0000 ∷ f32 0x4396_0000 ∷ []

-- scale 1, zero point 0; and -0.5 with zero point 128
pub by_hand : (map (code_of one_f 0) hand_inputs ≡ 0 ∷ 2 ∷ 2 ∷ 0 ∷ 255 ∷ []) × (code_of one_f 128 (f32 0xbf00_0000) ≡ 128)
unfolding clamp_of of_bits mul round
by_hand = (refl, refl)

-- where the Rust's tail wraps to 0: 2^31 with zero point 1 saturates
pub no_wrap : code_of one_f 1 (f32 0x4f00_0000) ≡ 255
unfolding clamp_of of_bits mul round
no_wrap = refl
