use Rattle.std.proofs.Common.{refl, sym, ◌∙◌}
use lib.Ieee.{to_bits}
use Rattle.floats.proofs.Pattern.{nan_only}
use Rattle.floats.proofs.bits.pattern.Goals as goal

pub returns-then-is_nan : goal.returns-then-is_nan
unfolding to_bits
returns-then-is_nan c = rw (nan_only c.args.x (sym c.is_nan.ensures.value ∙ c.if-is_nan.true)) refl
