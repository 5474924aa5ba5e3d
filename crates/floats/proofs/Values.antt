-- The digits of the named numbers; those of `f32_min` stand in Least. Assumes nothing.
use Rattle.std.proofs.Common.{◌≡◌, true, false, pos, negsuc, refl}
use lib.Ieee.{fin, of_bits}
use lib.Ieee.Exact.{HasValue}
use Rattle.floats.specs.Values.{zero_f, one_f, minus_one_f, two_f, half_f, thirty_two_f, f32_max}

pub values : (zero_f ≡ fin false 0 (pos 0)) × (one_f ≡ fin false 1 (pos 0)) × (minus_one_f ≡ fin true 1 (pos 0)) × (two_f ≡ fin false 1 (pos 1))
    × (half_f ≡ fin false 1 (negsuc 0)) × (thirty_two_f ≡ fin false 1 (pos 5)) × (f32_max ≡ fin false 16777215 (pos 104))
unfolding of_bits
values = (refl, refl, refl, refl, refl, refl, refl)

pub one_value : HasValue one_f false 1 1
unfolding of_bits
one_value = (refl, refl)
