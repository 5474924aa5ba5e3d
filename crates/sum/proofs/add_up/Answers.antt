-- Each return tells the first test that holds, with +0, those before it passed (`skip`); where none holds, the fold from +0.
use Rattle.std.proofs.Common.{sym, ◌∙◌, ap, not}
use mathlib.Core.Bool.{and-eq-true_iff}
use lib.Ieee.Scale.{finite}
use borrow.Author.Tests.{lt-ltb, le-ltb}
use Rattle.answer.specs.declared.Refusal.TheVariants.{Domain}
use Rattle.answer.proofs.Chain.{clear, stop, skip, found_at, found_nowhere}
use Rattle.answer.proofs.Told.{value_refused, value_done}
use Rattle.floats.specs.Values.{zero_f}
use Rattle.sum.specs.Sum.{add_up_answer}
use Rattle.sum.proofs.Shows.{all_finite}
use Rattle.sum.proofs.add_up.Goals as goal

pub returns-then-src-gt-ELEMENT_LIMIT : goal.returns-then-src-gt-ELEMENT_LIMIT
unfolding add_up_answer
returns-then-src-gt-ELEMENT_LIMIT c = value_refused _ zero_f (stop (lt-ltb _ _ c.if-src-gt-ELEMENT_LIMIT.true))

pub returns-then-not-offset_ok : goal.returns-then-not-offset_ok
unfolding add_up_answer
returns-then-not-offset_ok c =
    value_refused _ zero_f (skip (le-ltb _ _ c.if-src-gt-ELEMENT_LIMIT.false) (stop (ap not (sym c.offset_ok.ensures ∙ c.if-not-offset_ok.true))))

pub first_unless_shown-requires : goal.first_unless_shown-requires
first_unless_shown-requires c h = let both = (and-eq-true_iff c.shows_finite.result c.is_finite.result).0 h in
    all_finite c.args.op zero_f c.args.src.now (c.shows_finite.ensures both.0) (ap finite (sym c.sum_from-sum.ensures) ∙ sym c.is_finite.ensures ∙ both.1)

pub returns-in-Some : goal.returns-in-Some
unfolding add_up_answer
returns-in-Some c =
    value_refused _ zero_f
    (skip (le-ltb _ _ c.if-src-gt-ELEMENT_LIMIT.false) (skip (ap not (sym c.offset_ok.ensures ∙ c.if-not-offset_ok.false))
    (found_at Domain _ _ c.in-Some.bad c.in-Some.ensures)))

pub returns-in-None : goal.returns-in-None
unfolding add_up_answer
returns-in-None c =
    value_done _ zero_f c.sum_from-sum.ensures
    (skip (le-ltb _ _ c.if-src-gt-ELEMENT_LIMIT.false) (skip (ap not (sym c.offset_ok.ensures ∙ c.if-not-offset_ok.false))
    (found_nowhere _ _ c.in-None.ensures clear)))
