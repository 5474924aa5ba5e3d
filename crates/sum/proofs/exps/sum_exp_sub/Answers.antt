use Rattle.std.proofs.Common.{◌∙◌}
use Rattle.sum.proofs.Fold.{sum_parted}
use Rattle.sum.proofs.exps.sum_exp_sub.Goals as goal

pub loop-run-preserved : goal.loop-run-preserved
loop-run-preserved c =
    let cut = c.in-Some.ensures.cases in
    sum_parted _ c.loop-run.rest.now c.in-Some.run'.now c.in-Some.tail.now 16 c.loop-run.sum _ cut.0 cut.1 c.sum_run-sum.ensures ∙ c.loop-run.invariant
