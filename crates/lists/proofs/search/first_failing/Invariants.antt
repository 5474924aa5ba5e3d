use Rattle.std.proofs.Common.{true, take}
use Rattle.std.specs.List.{All}
use Rattle.lists.proofs.search.first_failing.Given as goal

abbrev pub invariant-loop-i : goal.invariant-loop-i
invariant-loop-i g l = All (λ x. goal.F-post g l.passes x true) (take l.i l.src)
