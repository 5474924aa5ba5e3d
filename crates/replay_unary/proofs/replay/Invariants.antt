use Rattle.std.proofs.Common.{◌≤◌}
use Rattle.replay_unary.proofs.replay.Given as goal

abbrev pub invariant-loop-case : goal.invariant-loop-case
invariant-loop-case g l = l.differ ≤ l.case-index
