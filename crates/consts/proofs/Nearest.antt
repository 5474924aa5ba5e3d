-- Each constant is the f32 nearest to its decimal, and the three that are no decimals are what RULES, Constants, says. Assumes nothing.
use Rattle.std.proofs.Common.{◌≡◌, ◌+◌, ◌-◌, ◌*◌, ◌^◌, ◌<◌, false, map, negsuc, refl, lit<}
use lib.Ieee.{fin, binary32, of_bits, round, add, mul, div}
use Rattle.floats.specs.Values.{one_f}
use Rattle.consts.specs.Consts.{Row, decimals, ln2, cutoff_factor, cutoff_term, exp_lower_cutoff, sqrt2, sqrt2_rcp}

-- every row at once: the decimal, rounded once
pub nearest : map (λ (r : Row). round binary32 r.0 r.1 (10 ^ r.2)) decimals ≡ map (λ (r : Row). r.3) decimals
unfolding round of_bits
nearest = refl

-- SQRT_2 is 11863283 / 2 ^ 23, and the root of 2 lies between its two midpoints, by their squares
pub root : (sqrt2 ≡ fin false 11863283 (negsuc 22)) × ((2 * 11863283 - 1) ^ 2 < 2 * 2 ^ 48) × (2 * 2 ^ 48 < (2 * 11863283 + 1) ^ 2)
unfolding of_bits
root = (refl, lit< tt, lit< tt)

-- one f32 division; the f32 product, then the f32 sum
pub made : (sqrt2_rcp ≡ div binary32 one_f sqrt2) × (exp_lower_cutoff ≡ add binary32 (mul binary32 cutoff_factor ln2) cutoff_term)
unfolding of_bits div add mul
made = (refl, refl)
