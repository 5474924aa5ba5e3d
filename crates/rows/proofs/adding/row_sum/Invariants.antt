use Prim.Native.Nat.{◌*◌, ◌≤◌}
use mathlib.Core.Path.{◌≡◌}
use Rattle.lists.specs.Lists.{sum_to}
use Rattle.block.specs.Write.{gain_of}
use Rattle.rows.proofs.adding.row_sum.Given as goal

abbrev pub invariant-loop-gain : goal.invariant-loop-gain
invariant-loop-gain l = (l.sum ≡ sum_to (gain_of l.row) l.gain-index) × (l.sum ≤ 65535 * l.gain-index)
