-- What was judged is what is held, so its blocks are shown without a second look.
use Rattle.std.proofs.Common.{arith, sym, ◌∙◌}
use Rattle.lister_facts.proofs.Held.{ready}
use Rattle.lister_io.proofs.list_held.Goals as goal

pub invariant_of-t : goal.invariant_of-t
invariant_of-t g c =
    let j = c.judge_input-j in
    record { stores = (ready j.result _ j.ensures (omega arith) (sym c.in_default.is ∙ c.finish.ensures)).stores }

pub show_held-requires : goal.show_held-requires
show_held-requires g c =
    let j = c.judge_input-j in
    let r = ready j.result _ j.ensures (omega arith) (sym c.in_default.is ∙ c.finish.ensures) in
    omega (arith, r.want, r.room)
