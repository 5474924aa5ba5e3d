use Rattle.erf.specs.Erf.{erf_of}
use Rattle.erf.proofs.erf.Goals as goal

pub returns-then-x : goal.returns-then-x
unfolding erf_of
returns-then-x c = simp c.if-x.true (cc)

pub returns-else-x : goal.returns-else-x
unfolding erf_of
returns-else-x c = simp c.if-x.false (cc)
