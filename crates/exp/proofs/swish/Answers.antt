use Rattle.exp.specs.Exp.{swish_of}
use Rattle.exp.proofs.swish.Goals as goal

pub returns : goal.returns
unfolding swish_of
returns c = cc
