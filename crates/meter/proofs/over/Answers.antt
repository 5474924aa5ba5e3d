-- The two comparisons are the one of the size (`over_by_order`).
use Rattle.std.proofs.Common.{◌≡◌, Bool, true, false, refl, sym, ap, ◌∙◌}
use Rattle.std.specs.Int.{from_bool}
use Rattle.lists.specs.Lists.{bit}
use Rattle.meter.proofs.Overs.{over_by_order}
use Rattle.meter.proofs.over.Goals as goal

as_bit : (b : Bool) → from_bool b ≡ bit b
as_bit true = refl
as_bit false = refl

pub returns : goal.returns
returns c = c.from.ensures ∙ as_bit _ ∙ ap bit (sym (over_by_order c.args.x))
