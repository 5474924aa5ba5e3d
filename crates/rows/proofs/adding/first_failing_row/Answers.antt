-- Row r of a block starts at its byte 8 + 2 r W.
use mathlib.Core.Path.{sym, ◌∙◌}
use native.Mathlib.Omega.{arith}
use borrow.Author.Count.{below_more}
use Rattle.lists.proofs.Found.{found_none, found_some}
use Rattle.block.specs.Read.{bytes_from}
use Rattle.rows.proofs.Failing.{stored_is}
use Rattle.rows.proofs.adding.first_failing_row.Goals as goal

pub returns-then-not-passes : goal.returns-then-not-passes
returns-then-not-passes g c =
    let e = c.stored_sum.ensures ∙ stored_is (bytes_from c.args.block.now 0) c.args.width c.loop-r.r in
    λ p is. found_some _ _ c.loop-r.r c.loop-r-test.true (λ k h. sym (is _ _ (c.loop-r.invariant k h)))
    (sym (is _ _ (rw (← e) (rw c.if-not-passes.true at c.passes.ensures))))

pub loop-r-preserved : goal.loop-r-preserved
loop-r-preserved g c =
    let e = c.stored_sum.ensures ∙ stored_is (bytes_from c.args.block.now 0) c.args.width c.loop-r.r in
    below_more _ c.loop-r.r c.loop-r.invariant (rw (← e) (rw c.if-not-passes.false at c.passes.ensures))

pub returns : goal.returns
returns g c = λ p is. found_none _ _ (λ k h. sym (is _ _ (c.loop-r.invariant k (omega (arith, h, c.loop-r-test.false)))))
