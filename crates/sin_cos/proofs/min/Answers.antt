-- The test of each branch decides the `cond` of `min_of`.
use Rattle.sin_cos.specs.SinCos.{min_of}
use Rattle.sin_cos.proofs.min.Goals as goal

pub returns-then-a-b : goal.returns-then-a-b
unfolding min_of
returns-then-a-b c = simp c.if-a-b.true

pub returns-else-a-b : goal.returns-else-a-b
unfolding min_of
returns-else-a-b c = simp c.if-a-b.false
