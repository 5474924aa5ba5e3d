-- The code's steps are the definition's.
use mathlib.Core.Path.{refl}
use Rattle.sin_cos.specs.SinCos.{ratio_of}
use Rattle.sin_cos.proofs.ratio.Goals as goal

pub returns : goal.returns
unfolding ratio_of
returns c = refl
