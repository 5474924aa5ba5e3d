-- The call's promise, put under the two steps that use k.
use Rattle.sin_cos.specs.SinCos.{reduced_of}
use Rattle.sin_cos.proofs.reduced.Goals as goal

pub returns : goal.returns
unfolding reduced_of
returns c = cc
