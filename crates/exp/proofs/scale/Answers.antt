use native.Mathlib.Omega.{arith}
use Rattle.floats.proofs.Pattern.{low_zero}
use Rattle.exp.proofs.Steps.{ia_low}
use Rattle.exp.proofs.scale.Goals as goal

pub float_from_bits-s : goal.float_from_bits-s
float_from_bits-s c = low_zero _ (omega (arith, ia_low c.args.k))

pub float_from_bits-t : goal.float_from_bits-t
float_from_bits-t c = low_zero _ (omega (arith, ia_low c.args.k))
