use Rattle.std.proofs.Common.{refl}
use Rattle.min_max.proofs.HeldLaws.{seen_law, seen_low, seen_high, seen_numbers}
use Rattle.min_max.proofs.look.Goals as goal

pub pass-requires : goal.pass-requires
pass-requires c = seen_law

pub returns-clause-low : goal.returns-clause-low
returns-clause-low c = seen_low _ _ c.args.src.now c.pass.ensures

pub returns-clause-high : goal.returns-clause-high
returns-clause-high c = seen_high _ _ c.args.src.now c.pass.ensures

pub returns-clause-numbers : goal.returns-clause-numbers
returns-clause-numbers c = seen_numbers _ _ c.args.src.now c.pass.ensures refl
