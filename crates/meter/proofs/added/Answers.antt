use Rattle.std.proofs.Common.{get_or, refl, sym, ap, ◌∙◌, arith}
use lib.Ieee.{nan}
use Rattle.lists.specs.Lists.{sum_to}
use Rattle.lists.proofs.Sum.{sum_none, sum_more, bit_small}
use Rattle.sum.specs.declared.SumOp.TheVariants.{SumSquare}
use Rattle.sum.proofs.Fold as squares
use Rattle.meter.specs.Meter.{over_at, overs_in, is_over}
use Rattle.meter.proofs.added.Goals as goal

pub loop-x-init : goal.loop-x-init
loop-x-init c = (omega arith, sum_none _, sym (squares.sum_none SumSquare _))

pub loop-x-preserved : goal.loop-x-preserved
loop-x-preserved c =
    let i = c.loop-x.x-index in (
      omega (arith, c.over-overs.ensures, bit_small (is_over (get_or c.args.src.now i nan))),
      sum_more (over_at c.args.src.now) i c.loop-x.overs _ c.loop-x.invariant.1 c.over-overs.ensures,
      squares.sum_turn SumSquare c.args.src.now i _ c.loop-x.squares _ c.loop-x-test.true c.loop-x.invariant.2 refl,
    )

pub returns-clause-squares : goal.returns-clause-squares
returns-clause-squares c = squares.sum_end SumSquare c.args.src.now c.loop-x.x-index _ c.loop-x.squares c.loop-x-test.false c.loop-x.invariant.2

pub returns-clause-overs : goal.returns-clause-overs
unfolding overs_in
returns-clause-overs c = c.loop-x.invariant.1 ∙ ap (sum_to (over_at c.args.src.now)) (omega arith)
