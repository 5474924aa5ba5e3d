use Rattle.softmax.specs.Softmax.{max_of}
use Rattle.softmax.proofs.max.Goals as goal

pub returns : goal.returns
unfolding max_of
returns c = c.largest_from.ensures
