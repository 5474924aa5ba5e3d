use Rattle.std.proofs.Common.{◌≡◌, true, false, take}
use Rattle.std.specs.List.{All}
use Rattle.lists.specs.Search.{SomeFailing}
use Rattle.lists.proofs.search.any_failing.Given as goal

abbrev pub invariant-loop-x : goal.invariant-loop-x
invariant-loop-x g l =
    (l.bad ≡ false → All (λ x. goal.F-post g l.passes x true) (take l.x-index l.src))
    × (l.bad ≡ true → SomeFailing (goal.F-post g l.passes) l.src)
