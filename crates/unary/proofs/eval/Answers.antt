-- In each arm op is the case matched, so its function's value is that of `eval_of op`; what `reduced_range_exp` asks, its domain gives (`not_above`).
use Rattle.unary.proofs.Arms.{not_above}
use Rattle.unary.proofs.eval.Goals as goal

pub reduced_range_exp-requires : goal.reduced_range_exp-requires
reduced_range_exp-requires c = not_above c.args.op c.args.x c.in-ReducedRangeExp.is c.requires
