use mathlib.Core.Path.{sym, subst}
use Prim.Native.Nat.{◌≤◌}
use lib.Dec.{T}
use lib.Ieee.{of_bits}
use Rattle.answer.specs.Limits.{step_count}
use Rattle.split.proofs.Steps.{cast}
use Rattle.split.proofs.steps_of.Goals as goal

pub float_to_float-wide : goal.float_to_float-wide
unfolding of_bits
float_to_float-wide c = (cast c.args.weight _ _ (subst T (sym c.well_formed.0.1) tt) c.requires c.abs.ensures c.round_ties_even-whole.ensures).0.wide

pub float_to_int-result : goal.float_to_int-result
unfolding of_bits
float_to_int-result c = (cast c.args.weight _ _ (subst T (sym c.well_formed.0.1) tt) c.requires c.abs.ensures c.round_ties_even-whole.ensures).0.whole

pub returns : goal.returns
unfolding of_bits
returns c =
    let k = cast c.args.weight _ _ (subst T (sym c.well_formed.0.1) tt) c.requires c.abs.ensures c.round_ties_even-whole.ensures in
    (k.0.is, subst (λ n. n ≤ step_count) (sym k.0.is) k.1)
