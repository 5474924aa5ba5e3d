use Rattle.digits.proofs.Places.{decimal_is}
use Rattle.digits.proofs.Written.{puts_as}
use Rattle.digits.proofs.Text.put_number.Goals as goal

pub returns : goal.returns
returns c = puts_as (decimal_is _ _ _ c.decimal-k.ensures.len c.decimal-k.ensures.digits) c.put_text.ensures
