-- What follows from the limits. Assumes nothing.
use Prim.Native.Nat.{ℕ, ◌*◌, ◌≤◌}
use native.Mathlib.Nat.{mul-le-mul}
use Rattle.answer.specs.Limits.{band_limit, row_limit, gain_limit}

-- a table has no more gains than the limit says
pub few_gains : {B N : ℕ} → N ≤ row_limit → B ≤ band_limit → N * B ≤ gain_limit
few_gains n b = mul-le-mul {n₂ = row_limit} {m₂ = band_limit} n b
