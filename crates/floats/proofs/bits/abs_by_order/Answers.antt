use Rattle.std.proofs.Common.{T, sym, subst}
use lib.Ieee.{binary32, fits}
use Rattle.floats.proofs.Size.{size_then, size_else}
use Rattle.floats.proofs.bits.abs_by_order.Goals as goal

pub returns-then-x-minus : goal.returns-then-x-minus
returns-then-x-minus c =
    let fits_x : T (fits binary32 c.args.x) = subst T (sym c.well_formed.0.1) tt in
    size_then binary32 c.args.x fits_x c.if-x-minus.true

pub returns-else-x-minus : goal.returns-else-x-minus
returns-else-x-minus c =
    let fits_x : T (fits binary32 c.args.x) = subst T (sym c.well_formed.0.1) tt in
    size_else binary32 c.args.x fits_x c.if-x-minus.false
