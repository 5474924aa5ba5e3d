use Rattle.std.specs.Float.Ieee.Scale.{finite}
use Rattle.lists.proofs.First.{Looked}
use Rattle.normalize.specs.Scaling.{result_by}
use Rattle.normalize.proofs.judging.any_not_finite_result.Given as goal

abbrev pub invariant-loop-i : goal.invariant-loop-i
invariant-loop-i l = Looked (λ k. finite (result_by l.by l.src k)) l.bad l.i
