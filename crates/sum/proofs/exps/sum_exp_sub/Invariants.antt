use mathlib.Core.Path.{◌≡◌}
use lib.ListN.{length}
use Rattle.sum.specs.Sum.{sum_from}
use Rattle.sum.specs.declared.SumOp.TheVariants.{SumExpSub}
use Rattle.sum.proofs.exps.sum_exp_sub.Given as goal

abbrev pub invariant-loop-run : goal.invariant-loop-run
invariant-loop-run l = sum_from (SumExpSub l.offset) l.sum l.rest ≡ sum_from (SumExpSub l.offset) l.fn.held l.fn.src

abbrev pub decreases-loop-run : goal.decreases-loop-run
decreases-loop-run l = length l.rest
