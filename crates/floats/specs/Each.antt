-- Every element of a list, or some element, has a property. Definitions only.
use Rattle.std.specs.Prelude.{ℕ, ◌<◌, List, length, slice_index_or, Float}
use Rattle.std.specs.Float.{nan}

abbrev pub Each : (Float → Type 0) → List Float → Type 0
Each P s = (i : ℕ) → i < length s → P (slice_index_or s i nan)

abbrev pub Some : (Float → Type 0) → List Float → Type 0
Some P s = (i : ℕ) × (i < length s) × P (slice_index_or s i nan)
