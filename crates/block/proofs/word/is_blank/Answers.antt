use Prim.Native.Nat.{◌-◌}
use mathlib.Core.Path.{◌∙◌}
use native.Mathlib.Omega.{arith}
use borrow.Author.Count.{below_more}
use borrow.Author.Tests.{eq-eqb, ne_eqb}
use Rattle.lists.proofs.First.{all_pass, one_fails}
use Rattle.block.specs.Read.{blank}
use Rattle.block.proofs.Cut.{rest_at, cut_long}
use Rattle.block.proofs.word.is_blank.Goals as goal

pub returns-then-x-ne0 : goal.returns-then-x-ne0
unfolding blank
returns-then-x-ne0 c =
    let l = cut_long c.args.block.now c.args.first 508 (omega (arith, c.requires.0)) in
    let e = rest_at c.args.block.now (508 - c.args.first) c.args.first c.loop-x.x-index (omega (arith, l, c.loop-x-test.true)) in
    one_fails _ _ c.loop-x.x-index (omega (arith, l, c.loop-x-test.true)) c.loop-x.invariant (ne_eqb _ _ (λ z. c.if-x-ne0.true (e ∙ z)))

pub loop-x-preserved : goal.loop-x-preserved
loop-x-preserved c =
    let l = cut_long c.args.block.now c.args.first 508 (omega (arith, c.requires.0)) in
    let e = rest_at c.args.block.now (508 - c.args.first) c.args.first c.loop-x.x-index (omega (arith, l, c.loop-x-test.true)) in
    below_more _ c.loop-x.x-index c.loop-x.invariant (rw (← e) (eq-eqb _ _ c.if-x-ne0.false))

pub returns : goal.returns
unfolding blank
returns c =
    let l = cut_long c.args.block.now c.args.first 508 (omega (arith, c.requires.0)) in
    all_pass _ _ c.loop-x.x-index (omega (arith, l, c.loop-x.auto.x-index-end)) (omega (arith, l, c.loop-x-test.false)) c.loop-x.invariant
