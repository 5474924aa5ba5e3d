-- The head's tests in their order, by the form that the first block says.
use Prim.Native.Nat.{ℕ}
use mathlib.Core.Path.{sym, ap, ◌∙◌}
use mathlib.Core.Bool.{not}
use borrow.Author.Tests.{eq-eqb, ne_eqb}
use Rattle.answer.specs.Answer.{judged}
use Rattle.answer.proofs.Chain.{gives, stop, skip, clear}
use Rattle.block.specs.Read.{head_tests_by}
use Rattle.table.specs.Release.{form}
use Rattle.table.proofs.judge.head.Goals as goal

pub returns-then-bytes-eq0-clause-told : goal.returns-then-bytes-eq0-clause-told
unfolding head_tests_by
returns-then-bytes-eq0-clause-told c = gives (stop (simp (eq-eqb _ _ c.if-bytes-eq0.true)))

pub returns-then-bytes-ne0-clause-told : goal.returns-then-bytes-ne0-clause-told
unfolding head_tests_by
returns-then-bytes-ne0-clause-told c = gives (stop (simp (ne_eqb _ _ c.if-bytes-eq0.false, ne_eqb _ _ c.if-bytes-ne0.true)))

pub returns-then-not-checks_ok-clause-told : goal.returns-then-not-checks_ok-clause-told
unfolding head_tests_by
returns-then-not-checks_ok-clause-told c =
    gives (skip (simp (ne_eqb _ _ c.if-bytes-eq0.false, eq-eqb _ _ c.if-bytes-ne0.false)) (stop (ap not (sym c.checks_ok.ensures ∙ c.if-not-checks_ok.true))))

pub returns-in_default-clause-told : goal.returns-in_default-clause-told
unfolding head_tests_by
returns-in_default-clause-told c =
    gives (skip (simp (ne_eqb _ _ c.if-bytes-eq0.false, eq-eqb _ _ c.if-bytes-ne0.false))
    (skip (ap not (sym c.checks_ok.ensures ∙ c.if-not-checks_ok.false)) (stop (ap not c.in_default.ensures))))
    ∙ ap (λ (d : ℕ). judged (head_tests_by (form d) c.args.bytes.now)) c.form_in.ensures

pub returns-then-bytes-length-clause-told : goal.returns-then-bytes-length-clause-told
unfolding head_tests_by
returns-then-bytes-length-clause-told c =
    let m = c.in-Some.ensures in
    let e = rw (m.1, m.2, m.3) at c.length.ensures in
    gives (skip (simp (ne_eqb _ _ c.if-bytes-eq0.false, eq-eqb _ _ c.if-bytes-ne0.false))
    (skip (ap not (sym c.checks_ok.ensures ∙ c.if-not-checks_ok.false)) (skip (ap not m.0) (stop (ap not (ne_eqb _ _ (λ z. c.if-bytes-length.true (z ∙ sym e))))))))
    ∙ ap (λ (d : ℕ). judged (head_tests_by (form d) c.args.bytes.now)) c.form_in.ensures

pub returns-clause-told : goal.returns-clause-told
unfolding head_tests_by
returns-clause-told c =
    let m = c.in-Some.ensures in
    let e = rw (m.1, m.2, m.3) at c.length.ensures in
    gives (skip (simp (ne_eqb _ _ c.if-bytes-eq0.false, eq-eqb _ _ c.if-bytes-ne0.false))
    (skip (ap not (sym c.checks_ok.ensures ∙ c.if-not-checks_ok.false)) (skip (ap not m.0) (skip (ap not (eq-eqb _ _ (c.if-bytes-length.false ∙ e))) clear))))
    ∙ ap (λ (d : ℕ). judged (head_tests_by (form d) c.args.bytes.now)) c.form_in.ensures
