use Rattle.exp.specs.Exp.{elu_of}
use Rattle.exp.proofs.elu.Goals as goal

pub returns-then-x : goal.returns-then-x
unfolding elu_of
returns-then-x c = simp c.if-x.true

pub returns-else-x : goal.returns-else-x
unfolding elu_of
returns-else-x c = simp c.if-x.false (cc)
