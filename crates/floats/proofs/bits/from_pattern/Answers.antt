use Rattle.std.proofs.Common.{sym}
use lib.Ieee.{of_bits}
use Rattle.floats.proofs.Pattern.{pattern_nan, pattern_no_nan}
use Rattle.floats.proofs.bits.from_pattern.Goals as goal

pub returns-then-n-gt2139095040 : goal.returns-then-n-gt2139095040
unfolding of_bits
returns-then-n-gt2139095040 c = sym (pattern_nan c.args.n c.if-n-gt2139095040.true)

pub float_from_bits-result : goal.float_from_bits-result
float_from_bits-result c = pattern_no_nan c.args.n c.if-n-gt2139095040.false
