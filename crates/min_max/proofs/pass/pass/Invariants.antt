use Rattle.std.proofs.Common.{◌≡◌, take}
use Rattle.min_max.specs.Pass.{folded}
use Rattle.min_max.proofs.pass.pass.Given as goal

abbrev pub invariant-loop-x : goal.invariant-loop-x
invariant-loop-x g l = l.held ≡ folded g.H.Held.take_is l.initial.held (take l.x-index l.rest)
