use Rattle.std.proofs.Common.{rules}
use Rattle.lists.proofs.Fold.{slice_fold}
use Rattle.sum.specs.Sum.{step_of, sum_from}
use Rattle.sum.specs.declared.SumOp.TheVariants.{Sum}
use Rattle.sum.proofs.sum.Goals as goal

pub returns : goal.returns
unfolding sum_from
returns c = slice_fold (step_of Sum) _ _ _ _ c.iter.ensures.rest (λ b x d f' k. search rules) c.fold.ensures.ran
