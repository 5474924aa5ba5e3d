use Rattle.exp.specs.Exp.{sigmoid_of}
use Rattle.exp.proofs.sigmoid.Goals as goal

pub returns : goal.returns
unfolding sigmoid_of
returns c = cc
