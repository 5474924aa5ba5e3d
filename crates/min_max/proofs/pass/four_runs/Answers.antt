use Rattle.std.proofs.Common.{arith, ◌∙◌}
use Rattle.min_max.proofs.HeldLaws.{folded_none, folded_turn, folded_end, four_joined}
use Rattle.min_max.proofs.pass.four_runs.Goals as goal

pub loop-i-init : goal.loop-i-init
loop-i-init g c = let none = folded_none g.H.Held.take_is in
    (none _, c.start-held_b.ensures ∙ none _, c.start-held_c.ensures ∙ none _, c.start-held_d.ensures ∙ none _)

pub loop-i-preserved : goal.loop-i-preserved
loop-i-preserved g c =
    let turn = folded_turn g.H.Held.take_is in
    let e = c.loop-i.invariant in
    let i = c.loop-i.i in
    let alike = c.requires.alike in (
      turn c.args.a.now i _ _ _ c.loop-i-test.true e.0 c.take-held_a.ensures,
      turn c.args.b.now i _ _ _ (omega arith) e.1 c.take-held_b.ensures,
      turn c.args.c.now i _ _ _ (omega arith) e.2 c.take-held_c.ensures,
      turn c.args.d.now i _ _ _ (omega arith) e.3 c.take-held_d.ensures,
    )

pub returns : goal.returns
returns g c =
    let end = folded_end g.H.Held.take_is in
    let e = c.loop-i.invariant in
    let i = c.loop-i.i in
    let alike = c.requires.alike in
    four_joined g.H.Held.take_is g.H.Held.start_is g.H.Held.join_is c.requires.joins c.args.a.now c.args.b.now c.args.c.now c.args.d.now c.args.held
    (end _ i _ _ c.loop-i-test.false e.0) (end _ i _ _ (omega arith) e.1) (end _ i _ _ (omega arith) e.2) (end _ i _ _ (omega arith) e.3)
    c.join.ensures c.join-2.ensures c.join-3.ensures
