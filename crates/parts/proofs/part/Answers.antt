-- The first i gains are the definition's, and the others the whole parts.
use Rattle.std.proofs.Common.{◌+◌, ap, ◌∙◌, length, get_or}
use native.Mathlib.Nat.{le_refl}
use native.Mathlib.Omega.{arith}
use Rattle.lists.proofs.Placed.{filled_more, filled_all}
use Rattle.parts.specs.Parts.{gains_over}
use Rattle.parts.proofs.Bits.{byte_small}
use Rattle.parts.proofs.Shares.{shares_fit, share_fits, shares_length, shares_at, gain_made}
use Rattle.parts.proofs.part.Goals as goal

pub overflow_sub-left : goal.overflow_sub-left
overflow_sub-left c = omega (arith, c.whole.ensures.used, shares_fit c.args.parts c.args.a.now c.requires.2)

pub overflow_add-gain : goal.overflow_add-gain
overflow_add-gain c =
    let i = c.loop-i.i in
    let some = c.requires.2 in
    let long = shares_length c.args.parts c.args.a.now some c.whole.ensures.gains in
    let holds = c.loop-i.invariant.high i (le_refl i) ∙ shares_at c.args.parts c.args.a.now some c.whole.ensures.gains i (omega arith) in
    omega (arith, holds, c.from.ensures, byte_small, share_fits c.args.parts c.args.a.now some i (omega arith))

pub loop-i-preserved : goal.loop-i-preserved
loop-i-preserved c =
    let i = c.loop-i.i in
    let w = c.whole.ensures in
    let long = shares_length c.args.parts c.args.a.now c.requires.2 w.gains in
    let holds = c.loop-i.invariant.high i (le_refl i) ∙ shares_at c.args.parts c.args.a.now c.requires.2 w.gains i (omega arith) in
    filled_more _ c.loop-i.gains i c.loop-i.invariant _ (omega arith)
    (ap (λ x. get_or c.loop-i.gains i 0 + x) c.from.ensures
    ∙ gain_made c.args.parts c.args.a.now c.whole.new.keys c.requires.0 w.keys i (omega arith) holds c.rank.ensures w.used)

pub returns : goal.returns
unfolding gains_over
returns c =
    let long = shares_length c.args.parts c.args.a.now c.requires.2 c.whole.ensures.gains in
    filled_all _ _ (length c.args.a.now) c.loop-i.i _ c.loop-i.invariant long (omega arith)
