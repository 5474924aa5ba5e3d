-- Three promises, each put into the next.
use Rattle.sin_cos.specs.SinCos.{fold_of}
use Rattle.sin_cos.proofs.folded.Goals as goal

pub returns : goal.returns
unfolding fold_of
returns c = cc
