-- Both sums compared with the numbers at bytes 508 and 510.
use borrow.Author.Tests.{eq-eqb, ne_eqb}
use Rattle.block.specs.Read.{checks_ok}
use Rattle.block.proofs.word.checks_ok.Goals as goal

pub returns-then-word_at-c : goal.returns-then-word_at-c
unfolding checks_ok
returns-then-word_at-c c = simp (
  ← c.word_at.ensures.0,
  ← c.sums-c.ensures.0,
  eq-eqb _ _ c.if-word_at-c.true,
  ← c.word_at-then-word_at-c.ensures.0,
  ← c.sums-c.ensures.1,
)

pub returns-else-word_at-c : goal.returns-else-word_at-c
unfolding checks_ok
returns-else-word_at-c c = simp (← c.word_at.ensures.0, ← c.sums-c.ensures.0, ne_eqb _ _ c.if-word_at-c.false)
