use mathlib.Core.Path.{◌≡◌, sym, subst, ◌∙◌, ap}
use lib.Dec.{T}
use lib.Ieee.{binary32, fits}
use Rattle.floats.specs.Floats.{round_even}
use Rattle.quantize.proofs.Moved.{sized, below_top, past_top}
use Rattle.quantize.proofs.steps.Goals as goal

pub float_to_int-result : goal.float_to_int-result
float_to_int-result c = let fit : T (fits binary32 c.args.y) = subst T (sym c.well_formed.0.1) tt in
    let size_is : c.round_ties_even-size.result ≡ sized c.args.y = c.round_ties_even-size.ensures ∙ ap (round_even binary32) c.abs_by_order.ensures in
    (below_top c.args.y c.round_ties_even-size.result fit size_is c.if-size.true).0

pub returns-then-size : goal.returns-then-size
returns-then-size c = let fit : T (fits binary32 c.args.y) = subst T (sym c.well_formed.0.1) tt in
    let size_is : c.round_ties_even-size.result ≡ sized c.args.y = c.round_ties_even-size.ensures ∙ ap (round_even binary32) c.abs_by_order.ensures in
    (below_top c.args.y c.round_ties_even-size.result fit size_is c.if-size.true).1

pub returns-else-size : goal.returns-else-size
returns-else-size c = let fit : T (fits binary32 c.args.y) = subst T (sym c.well_formed.0.1) tt in
    let size_is : c.round_ties_even-size.result ≡ sized c.args.y = c.round_ties_even-size.ensures ∙ ap (round_even binary32) c.abs_by_order.ensures in
    past_top c.args.y c.round_ties_even-size.result fit size_is c.if-size.false
