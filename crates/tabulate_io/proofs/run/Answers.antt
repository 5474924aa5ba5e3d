-- What was told to be the table's length is within the bytes that were lent.
use Rattle.std.proofs.Common.{arith, ap, sym, ◌∙◌, length-take-le}
use Rattle.tabulate_core.specs.Tabulate.{tabulated_of}
use Rattle.tabulate_core.proofs.Told.{told_fits}
use Rattle.tabulate_io.proofs.run.Goals as goal

pub slice_bounds-table-end : goal.slice_bounds-table-end
slice_bounds-table-end g c = omega (arith, told_fits _ _ (ap tabulated_of (sym c.in-Ok.is) ∙ c.tabulate.ensures.told), c.tabulate.auto.bytes)

pub slice_bounds-put-end : goal.slice_bounds-put-end
slice_bounds-put-end g c =
    sym (length-take-le _ _ (omega (arith, told_fits _ _ (ap tabulated_of (sym c.in-Ok.is) ∙ c.tabulate.ensures.told), c.tabulate.auto.bytes)))
