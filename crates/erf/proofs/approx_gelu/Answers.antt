use Rattle.erf.specs.Erf.{approx_gelu_of}
use Rattle.erf.proofs.approx_gelu.Goals as goal

pub returns : goal.returns
unfolding approx_gelu_of
returns c = cc
