-- The test is `finite` at each element.
use Rattle.std.specs.Float.{nan}
use Rattle.std.specs.Float.Ieee.Scale.{finite}
use Rattle.lists.proofs.Found.{found_is}
use Rattle.floats.proofs.scan.first_not_finite.Goals as goal

pub returns : goal.returns
returns c = found_is c.args.src.now _ finite nan (λ x b h. h) c.first_failing.ensures
