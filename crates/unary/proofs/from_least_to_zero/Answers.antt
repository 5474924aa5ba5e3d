use mathlib.Core.Path.{sym, subst}
use lib.Dec.{T}
use lib.Ieee.{binary32, fits}
use Rattle.unary.proofs.Arms.{from_least}
use Rattle.unary.proofs.from_least_to_zero.Goals as goal

pub returns-then-x : goal.returns-then-x
returns-then-x c = let fits_x : T (fits binary32 c.args.x) = subst T (sym c.well_formed.0.1) tt in from_least c.args.x fits_x c.if-x.true
