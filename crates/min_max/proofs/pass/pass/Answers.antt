use Rattle.std.proofs.Common.{length, ◌/◌}
use Rattle.min_max.proofs.HeldLaws.{folded_none, folded_turn, folded_end, folded_parted}
use Rattle.min_max.proofs.pass.pass.Goals as goal

pub loop-x-init : goal.loop-x-init
loop-x-init g c = folded_none g.H.Held.take_is _

pub loop-x-preserved : goal.loop-x-preserved
loop-x-preserved g c = folded_turn g.H.Held.take_is _ c.loop-x.x-index _ _ _ c.loop-x-test.true c.loop-x.invariant c.take-held.ensures

pub returns : goal.returns
returns g c =
    let a = c.split_at.ensures in
    let b = c.split_at-2.ensures in
    let d = c.split_at-3.ensures in
    let e = c.split_at-4.ensures in
    folded_parted g.H.Held.take_is (length c.args.src.now / 4) c.args.src.now _ _ _ _ _ _ _ _ c.args.held _ _
    a.front a.back b.front b.back d.front d.back e.front e.back c.four_runs-held.ensures
    (folded_end g.H.Held.take_is _ c.loop-x.x-index _ _ c.loop-x-test.false c.loop-x.invariant)
