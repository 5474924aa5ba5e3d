-- Each arm is the fold by its sum's step.
use Rattle.std.proofs.Common.{rules}
use Rattle.lists.proofs.Fold.{slice_fold}
use Rattle.sum.specs.Sum.{step_of, sum_from}
use Rattle.sum.specs.declared.SumOp.TheVariants.{SumSquare, SumAbs, SumSquareSub}
use Rattle.sum.proofs.sum_from.Goals as goal

pub returns-in-SumSquare : goal.returns-in-SumSquare
unfolding sum_from
returns-in-SumSquare c = rw c.in-SumSquare.is (slice_fold (step_of SumSquare) _ _ _ _ c.iter.ensures.rest (λ b x d f' k. search rules) c.fold.ensures.ran)

pub returns-in-SumAbs : goal.returns-in-SumAbs
unfolding sum_from
returns-in-SumAbs c =
    rw c.in-SumAbs.is (slice_fold (step_of SumAbs) _ _ _ _ c.iter-in-SumAbs.ensures.rest (λ b x d f' k. search rules) c.fold-in-SumAbs.ensures.ran)

pub returns-in-SumSquareSub : goal.returns-in-SumSquareSub
unfolding sum_from
returns-in-SumSquareSub c =
    rw c.in-SumSquareSub.is
    (slice_fold (step_of (SumSquareSub c.in-SumSquareSub.offset)) _ _ _ _ c.iter-in-SumSquareSub.ensures.rest (λ b x d f' k. search rules)
    c.fold-in-SumSquareSub.ensures.ran)
