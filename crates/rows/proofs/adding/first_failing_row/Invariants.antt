use Prim.Native.Nat.{ℕ, ◌<◌}
use mathlib.Core.Bool.{true}
use Rattle.block.specs.Read.{bytes_from, gain_in}
use Rattle.block.specs.Asked.{row_stored}
use Rattle.rows.proofs.adding.first_failing_row.Given as goal

abbrev pub invariant-loop-r : goal.invariant-loop-r
invariant-loop-r g l = (q : ℕ) → q < l.r → goal.F-post g l.passes (row_stored (gain_in (bytes_from l.block 0)) l.width q) true
