use Rattle.exp.specs.Exp.{silu_of}
use Rattle.exp.proofs.silu.Goals as goal

pub returns : goal.returns
unfolding silu_of
returns c = cc
