-- A finite value that is not below 0, counted in units of 2 ^ -k. Definitions only.
use Rattle.std.specs.Prelude.{◌≡◌, ℕ, ◌*◌, ◌/◌, ◌^◌, T, List, length, slice_index_or, Float}
use Rattle.std.specs.Float.{nan}
use Rattle.std.specs.Float.Ieee.Scale.{finite}
use Rattle.lists.specs.Lists.{sum_to}
use Rattle.floats.specs.Fraction.{frac}

-- x is exactly n units; either zero is none
pub record InUnits (k : ℕ) (x : Float) (n : ℕ) : Type 0 where
  pub is_finite : T (finite x)
  pub not_below : (frac x).under ≡ 0
  pub counted : (frac x).over * 2 ^ k ≡ n * (frac x).by

-- the units of an x that has a whole number of them
abbrev pub units_of : ℕ → Float → ℕ
units_of k x = (frac x).over * 2 ^ k / (frac x).by

-- those of a list's elements together
abbrev pub units_in : ℕ → List Float → ℕ
units_in k s = sum_to (λ i. units_of k (slice_index_or s i nan)) (length s)
