use Rattle.std.proofs.Common.{ap}
use lib.Ieee.{Float, neg}
use Rattle.min_max.specs.declared.pass.Top.{Top}
use Rattle.min_max.proofs.pass.TopHeld.start.Goals as goal

pub returns : goal.returns
unfolding neg
returns c = ap (λ (t : Float). top (neg t)) c.infinity.ensures
  where
    top : Float → Top
    top v = record { value = v }
