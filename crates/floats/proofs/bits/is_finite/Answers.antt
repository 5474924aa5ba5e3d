use Rattle.floats.proofs.Pattern.{finite_then, finite_else}
use Rattle.floats.proofs.bits.is_finite.Goals as goal

pub returns-then-x : goal.returns-then-x
returns-then-x c = finite_then c.args.x c.if-x.true

pub returns-else-x : goal.returns-else-x
returns-else-x c = finite_else c.args.x c.if-x.false
