use Rattle.lists.proofs.Found.{found_none}
use Rattle.floats.proofs.scan.first_unless_shown.Goals as goal

pub returns-then-shown : goal.returns-then-shown
returns-then-shown c = found_none _ _ (c.requires c.if-shown.true)
