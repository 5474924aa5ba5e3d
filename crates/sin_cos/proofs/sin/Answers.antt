-- The three calls' promises, each put into the next.
use Rattle.sin_cos.specs.SinCos.{sin_of}
use Rattle.sin_cos.proofs.sin.Goals as goal

pub returns : goal.returns
unfolding sin_of
returns c = cc
