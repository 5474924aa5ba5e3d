use Rattle.softmax.proofs.Domain.{is_bottom}
use Rattle.softmax.proofs.is_masked.Goals as goal

pub returns : goal.returns
returns c = is_bottom _ _ c.infinity.ensures
