use Rattle.std.proofs.Common.{rules}
use Rattle.softmax.proofs.Domain.{masked_all, masked_none}
use Rattle.softmax.proofs.all_masked.Goals as goal

pub returns-then-not-is_empty : goal.returns-then-not-is_empty
returns-then-not-is_empty c = masked_all c.args.src.now c.each_masked.result (search rules) c.each_masked.ensures

pub returns-else-not-is_empty : goal.returns-else-not-is_empty
returns-else-not-is_empty c = rw c.if-not-is_empty.false (masked_none c.args.src.now (search rules))
