use Rattle.std.proofs.Common.{◌≡◌, ◌≤◌, take}
use Rattle.lists.specs.Lists.{sum_to}
use Rattle.sum.specs.Sum.{sum_from}
use Rattle.sum.specs.declared.SumOp.TheVariants.{SumSquare}
use Rattle.meter.specs.Meter.{over_at}
use Rattle.meter.proofs.added.Given as goal

abbrev pub invariant-loop-x : goal.invariant-loop-x
invariant-loop-x l = (l.overs ≤ l.x-index) × (l.overs ≡ sum_to (over_at l.src) l.x-index) × (l.squares ≡ sum_from SumSquare l.fn.held (take l.x-index l.src))
