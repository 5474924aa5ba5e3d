use Rattle.softmax.proofs.Domain.{below_top}
use Rattle.softmax.proofs.in_domain.Goals as goal

pub returns : goal.returns
returns c = below_top _ _ c.infinity.ensures
