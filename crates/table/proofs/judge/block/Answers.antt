-- The block's tests in their order: checks, header, then its rows by `rows_of`.
use mathlib.Core.Path.{refl, sym, ap, ◌∙◌}
use mathlib.Core.Bool.{not}
use borrow.Author.Tests.{eq-eqb, ne_eqb}
use Rattle.answer.proofs.Chain.{gives, stop, skip, rest}
use Rattle.block.specs.Read.{bytes_from, bands_of, rows_of, block_tests_by}
use Rattle.block.proofs.Tests.{head_is}
use Rattle.table.specs.Release.{rules_of}
use Rattle.table.proofs.judge.block.Goals as goal

pub returns-then-not-checks_ok : goal.returns-then-not-checks_ok
unfolding block_tests_by
returns-then-not-checks_ok c = gives (stop (ap not (sym c.checks_ok.ensures ∙ c.if-not-checks_ok.true)))

pub returns-in_default : goal.returns-in_default
unfolding block_tests_by
returns-in_default c = gives (skip (ap not (sym c.checks_ok.ensures ∙ c.if-not-checks_ok.false)) (stop (rw c.in_default.ensures refl)))

pub returns-then-t-bands : goal.returns-then-t-bands
unfolding block_tests_by
returns-then-t-bands c =
    let m = c.in-Some.ensures in
    let b = ne_eqb (bands_of (bytes_from c.args.block.now 0)) c.args.bands (λ z. c.if-t-bands.true (m.2 ∙ z)) in
    gives (skip (ap not (sym c.checks_ok.ensures ∙ c.if-not-checks_ok.false)) (stop (rw (m.0, b) refl)))

pub returns-then-t-rows : goal.returns-then-t-rows
unfolding block_tests_by
returns-then-t-rows c =
    let m = c.in-Some.ensures in
    let b = eq-eqb (bands_of (bytes_from c.args.block.now 0)) c.args.bands (sym m.2 ∙ c.if-t-bands.false) in
    let n = ne_eqb (rows_of (bytes_from c.args.block.now 0)) c.args.rows (λ z. c.if-t-rows.true (m.3 ∙ z)) in
    gives (skip (ap not (sym c.checks_ok.ensures ∙ c.if-not-checks_ok.false)) (stop (rw (m.0, b, n) refl)))

pub rows_of-requires : goal.rows_of-requires
rows_of-requires c =
    let m = c.in-Some.ensures in
    (c.requires, rw (m.1, m.2, m.3) (head_is {F = rules_of c.args.form} (bytes_from c.args.block.now 0) c.args.k m.0).inside)

pub returns : goal.returns
unfolding block_tests_by
returns c =
    let m = c.in-Some.ensures in
    let b = eq-eqb (bands_of (bytes_from c.args.block.now 0)) c.args.bands (sym m.2 ∙ c.if-t-bands.false) in
    let n = eq-eqb (rows_of (bytes_from c.args.block.now 0)) c.args.rows (sym m.3 ∙ c.if-t-rows.false) in
    gives (skip (ap not (sym c.checks_ok.ensures ∙ c.if-not-checks_ok.false)) (skip (rw (m.0, b, n) refl)
    (rest (rw (m.1, c.if-t-bands.false, c.if-t-rows.false) at c.rows_of.ensures))))
