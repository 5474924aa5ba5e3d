use Rattle.tabulate_core.proofs.Rows.{Going}
use Rattle.tabulate_core.proofs.split_rows.Given as goal

abbrev pub invariant-loop-row : goal.invariant-loop-row
invariant-loop-row l = Going l.bands l.rows l.input l.gains l.row
