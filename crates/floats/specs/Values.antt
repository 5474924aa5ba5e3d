-- f32 numbers by their patterns. Definitions only.
use Rattle.std.specs.Prelude.{ℕ, from_bits, Float}
use Rattle.std.specs.Float.{binary32}

abbrev pub f32 : ℕ → Float
f32 b = from_bits binary32 b

-- 0, 1, -1, 2, 1/2 and 32
abbrev pub zero_f : Float
zero_f = f32 0

abbrev pub one_f : Float
one_f = f32 0x3f80_0000

abbrev pub minus_one_f : Float
minus_one_f = f32 0xbf80_0000

abbrev pub two_f : Float
two_f = f32 0x4000_0000

abbrev pub half_f : Float
half_f = f32 0x3f00_0000

abbrev pub thirty_two_f : Float
thirty_two_f = f32 0x4200_0000

-- the least and the largest finite one, Rust's `f32::MIN` and `f32::MAX`
abbrev pub f32_min : Float
f32_min = f32 0xff7f_ffff

abbrev pub f32_max : Float
f32_max = f32 0x7f7f_ffff
