-- The rows before row r add up, and row r's sum decides whether it is the first that does not.
use mathlib.Core.Path.{◌∙◌}
use native.Mathlib.Omega.{arith}
use borrow.Author.Count.{below_more}
use borrow.Author.Tests.{eq-eqb, ne_eqb}
use Rattle.lists.proofs.Found.{found_none, found_some}
use Rattle.rows.proofs.Failing.{cut_row}
use Rattle.rows.proofs.adding.bad_row.Goals as goal

pub returns-then-row_sum-ne-PARTS : goal.returns-then-row_sum-ne-PARTS
returns-then-row_sum-ne-PARTS c =
    let told = cut_row _ _ _ c.args.gains.now c.loop-r.r _ c.requires.0 c.loop-r-test.true c.row_sum.ensures in
    found_some _ _ c.loop-r.r c.loop-r-test.true c.loop-r.invariant (told ∙ ne_eqb _ _ c.if-row_sum-ne-PARTS.true)

pub loop-r-preserved : goal.loop-r-preserved
loop-r-preserved c =
    let told = cut_row _ _ _ c.args.gains.now c.loop-r.r _ c.requires.0 c.loop-r-test.true c.row_sum.ensures in
    below_more _ c.loop-r.r c.loop-r.invariant (told ∙ eq-eqb _ _ c.if-row_sum-ne-PARTS.false)

pub returns : goal.returns
returns c = found_none _ _ (λ k l. c.loop-r.invariant k (omega (arith, l, c.loop-r-test.false)))
