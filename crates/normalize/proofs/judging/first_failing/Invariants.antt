use Rattle.std.proofs.Common.{ℕ, ◌<◌, true, slice_index_or}
use Rattle.std.specs.Float.{nan}
use Rattle.normalize.proofs.judging.first_failing.Given as goal

abbrev pub invariant-loop-i : goal.invariant-loop-i
invariant-loop-i g l = (k : ℕ) → k < l.i → goal.F-post g l.passes k (slice_index_or l.src k nan) true
