-- The gains of the first r rows are in their places.
use mathlib.Core.Path.{refl}
use Rattle.block.proofs.Totals.{row_next}
use Rattle.rows.proofs.Row.{rows_more}
use Rattle.rows.proofs.copying.copy_rows.Goals as goal

pub loop-r-preserved : goal.loop-r-preserved
loop-r-preserved c =
    rw (row_next c.loop-r.r c.args.t.bands _ refl) at (rows_more _ _ _ _ _ _ _ _ c.loop-r.r _ refl c.loop-r.invariant c.copy_row.ensures)
