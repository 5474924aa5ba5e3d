use Rattle.lists.proofs.First.{Passed}
use Rattle.answer.specs.Limits.{parts}
use Rattle.block.specs.Write.{row_ok, gain_of}
use Rattle.rows.proofs.adding.bad_row.Given as goal

abbrev pub invariant-loop-r : goal.invariant-loop-r
invariant-loop-r l = Passed (row_ok parts (gain_of l.gains) l.bands) l.r
