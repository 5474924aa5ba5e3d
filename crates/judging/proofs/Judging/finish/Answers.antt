use mathlib.Core.Path.{refl}
use borrow.Author.Tests.{eq-eqb, ne_eqb}
use Rattle.std.proofs.lemmas.Result.{err_from_is_err_and}
use Rattle.judging.specs.Judging.{finished}
use Rattle.judging.proofs.Judging.finish.Goals as goal
use Rattle.judging.proofs.Judging.finish.Goals.{then-not-self-via-then-not-self, then-not-self-via-else-not-self+then-self-eq0}

pub returns-then-not-self : goal.returns-then-not-self
unfolding finished
returns-then-not-self c = elim c.then-not-self.branch [
  | then-not-self-via-then-not-self w ↦ simp w.if-not-self.true
  | then-not-self-via-else-not-self+then-self-eq0 w ↦ simp (w.if-not-self.false, eq-eqb _ _ w.if-self-eq0.true)
]

pub returns-in_err-self : goal.returns-in_err-self
unfolding finished
returns-in_err-self c =
    let p = err_from_is_err_and c.from_residual.result c.from_residual.ensures.1 in
    rw (p.1, p.2, c.if-not-self.false, ne_eqb _ _ c.if-self-eq0.false, c.in_err-self.was) refl

pub returns-then-self : goal.returns-then-self
unfolding finished
returns-then-self c = simp (c.if-not-self.false, ne_eqb _ _ c.if-self-eq0.false, c.in_ok-self.was, ne_eqb _ _ c.if-self.true)

pub returns : goal.returns
unfolding finished
returns c = simp (c.if-not-self.false, ne_eqb _ _ c.if-self-eq0.false, c.in_ok-self.was, eq-eqb _ _ c.if-self.false)
