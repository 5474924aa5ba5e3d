use native.Mathlib.Omega.{arith}
use Rattle.quantize.proofs.Moved.{clamp_down, clamp_up}
use Rattle.quantize.proofs.clamp.Goals as goal

pub returns-then-y : goal.returns-then-y
returns-then-y c = omega (arith, clamp_down c.args.zero_point c.args.y (omega arith) c.if-y.true)

pub returns-else-y : goal.returns-else-y
returns-else-y c = omega (arith, clamp_up c.args.zero_point c.args.y (omega arith) c.if-y.false)
