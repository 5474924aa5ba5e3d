use Rattle.std.proofs.Common.{rules}
use Rattle.normalize.specs.Scaling.{FirstAt}
use Rattle.normalize.proofs.judging.first_failing.Goals as goal

pub returns-then-not-passes : goal.returns-then-not-passes
unfolding FirstAt
returns-then-not-passes g c = search rules

pub returns : goal.returns
unfolding FirstAt
returns g c = search rules
