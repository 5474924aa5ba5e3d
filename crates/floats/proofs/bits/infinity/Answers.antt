use lib.Ieee.{of_bits}
use Rattle.std.proofs.Common.{refl}
use Rattle.floats.proofs.bits.infinity.Goals as goal

pub returns : goal.returns
unfolding of_bits
returns c = refl
