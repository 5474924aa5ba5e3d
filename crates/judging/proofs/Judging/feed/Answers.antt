-- One return for each kind of feeding: none, the first block, a later one, a cut one.
use native.Mathlib.Omega.{arith}
use borrow.Author.Tests.{eq-eqb, ne_eqb}
use lib.ListN.{length}
use Rattle.judging.specs.Judging.{fed_of, more_of}
use Rattle.judging.proofs.Judging.feed.Goals as goal

pub returns-in-0 : goal.returns-in-0
unfolding fed_of
returns-in-0 c = simp c.in-0.is

pub returns-in-512 : goal.returns-in-512
unfolding fed_of
returns-in-512 c = simp (c.in-512.is, eq-eqb _ _ c.if-self-eq0.true) c.first.ensures

pub returns-in-512-2 : goal.returns-in-512-2
unfolding fed_of more_of
returns-in-512-2 c = simp (c.in-512.is, ne_eqb _ _ c.if-self-eq0.false, c.go_on.ensures)

pub returns-in_default : goal.returns-in_default
unfolding fed_of
returns-in_default c = simp (ne_eqb (length c.args.bytes.now) 0 (λ e. omega arith), ne_eqb (length c.args.bytes.now) 512 (λ e. omega arith))
