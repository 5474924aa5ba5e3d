use Rattle.erf.specs.Erf.{gelu_of}
use Rattle.erf.proofs.gelu.Goals as goal

pub returns : goal.returns
unfolding gelu_of
returns c = cc
