use Rattle.std.proofs.Common.{false, ap}
use lib.Ieee.{Float, neg}
use Rattle.min_max.specs.declared.Seen.{Seen}
use Rattle.min_max.proofs.pass.SeenHeld.start.Goals as goal

pub returns : goal.returns
unfolding neg
returns c = ap (λ (t : Float). seen t) c.infinity-top.ensures
  where
    seen : Float → Seen
    seen t = record { least = t; largest = neg t; nan = false }
