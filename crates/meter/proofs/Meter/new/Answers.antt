use lib.Ieee.{neg}
use Rattle.meter.proofs.Meter.new.Goals as goal

pub returns : goal.returns
unfolding neg
returns c = rw c.infinity-top.ensures
