use Rattle.tanh.specs.Tanh.{size_of}
use Rattle.tanh.proofs.Doubled.{doubled_within}
use Rattle.tanh.proofs.chosen.Goals as goal

pub returns-then-size : goal.returns-then-size
unfolding size_of
returns-then-size c past = simp (past, c.if-size.true) (cc)

pub returns-then-size-2 : goal.returns-then-size-2
unfolding size_of
returns-then-size-2 c past = simp (past, c.if-size.false, c.if-size-2.true)

pub returns-else-size-2 : goal.returns-else-size-2
unfolding size_of
returns-else-size-2 c past = let w = doubled_within c.args.size c.if-size.false c.if-size-2.false in
    let e = c.exp_within.ensures w.0 w.1 in
    simp (past, c.if-size.false, c.if-size-2.false) (cc e)
