-- The three calls' promises, each put into the next.
use Rattle.sin_cos.specs.SinCos.{cos_of}
use Rattle.sin_cos.proofs.cos.Goals as goal

pub returns : goal.returns
unfolding cos_of
returns c = cc
