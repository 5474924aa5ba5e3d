use borrow.Author.Tests.{eq-eqb, ne_eqb}
use Rattle.table.specs.Release.{drop_in}
use Rattle.table.proofs.judge.form_in.Goals as goal

pub returns-then-word_at-eq2 : goal.returns-then-word_at-eq2
unfolding drop_in
returns-then-word_at-eq2 c = simp (← c.word_at.ensures.0, eq-eqb _ _ c.if-word_at-eq2.true)

pub returns : goal.returns
unfolding drop_in
returns c = simp (← c.word_at.ensures.0, ne_eqb _ _ c.if-word_at-eq2.false)
