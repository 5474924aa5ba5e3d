use lib.Ieee.{binary32, of_bits}
use Rattle.floats.proofs.Sign.{minus_square}
use Rattle.floats.proofs.Size.{square_of_size}
use Rattle.erf.specs.Erf.{size_of}
use Rattle.erf.proofs.of_size.Goals as goal

pub reduced_range_exp-requires : goal.reduced_range_exp-requires
unfolding of_bits
reduced_range_exp-requires c = minus_square binary32 c.args.x

pub returns : goal.returns
unfolding size_of
returns c = cc (square_of_size binary32 c.args.x)
