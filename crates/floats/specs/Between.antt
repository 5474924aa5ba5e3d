-- From one number to another, and within a half of a fraction. Definitions only.
use Rattle.std.specs.Prelude.{ℕ, ◌+◌, ◌*◌, ◌≤◌, T, Float}
use Rattle.std.specs.Float.Ieee.{le}

-- z lies from lo to hi
abbrev pub Between : Float → Float → Float → Type 0
Between lo hi z = T (le lo z) × T (le z hi)

-- the whole number q is within a half of a / b
abbrev pub Near : ℕ → ℕ → ℕ → Type 0
Near q a b = (q * b * 2 ≤ a * 2 + b) × (a * 2 ≤ q * b * 2 + b)
