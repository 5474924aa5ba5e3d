use native.Mathlib.Omega.{arith}
use Rattle.lists.proofs.Sum.{sum_none, sum_more}
use Rattle.rows.proofs.adding.stored_sum.Goals as goal

pub loop-j-init : goal.loop-j-init
loop-j-init c = (sum_none _, omega arith)

pub loop-j-preserved : goal.loop-j-preserved
loop-j-preserved c = (sum_more _ _ _ _ c.loop-j.invariant.0 c.word_at-sum.ensures.0, omega (arith, c.loop-j.invariant.1, c.word_at-sum.ensures.1))
