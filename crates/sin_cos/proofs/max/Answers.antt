-- The test of each branch decides the `cond` of `max_of`.
use Rattle.sin_cos.specs.SinCos.{max_of}
use Rattle.sin_cos.proofs.max.Goals as goal

pub returns-then-b-a : goal.returns-then-b-a
unfolding max_of
returns-then-b-a c = simp c.if-b-a.true

pub returns-else-b-a : goal.returns-else-b-a
unfolding max_of
returns-else-b-a c = simp c.if-b-a.false
