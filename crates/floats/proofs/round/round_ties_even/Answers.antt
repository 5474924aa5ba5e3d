-- Past 2 ^ 23 on either side, and for a NaN, x stays (`beyond`).
use Rattle.std.proofs.Common.{T, sym, subst, inl, inr}
use lib.Ieee.{binary32, fits}
use Rattle.floats.proofs.Ties.{beyond}
use Rattle.floats.proofs.round.round_ties_even.Goals.{else-x-via-then-x+else-x-2, else-x-via-else-x}
use Rattle.floats.proofs.round.round_ties_even.Goals as goal

pub returns-else-x : goal.returns-else-x
returns-else-x c =
    let fits_x : T (fits binary32 c.args.x) = subst T (sym c.well_formed.0.1) tt in
    elim c.else-x.branch [
      | else-x-via-then-x+else-x-2 w ↦ beyond c.args.x fits_x (inr w.if-x-2.false)
      | else-x-via-else-x w ↦ beyond c.args.x fits_x (inl w.if-x.false)
    ]
