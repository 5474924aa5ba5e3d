-- Each return is the first test that holds, past those before it (`past_four`). Where the look shows that nothing is to be searched, both
-- searches would find nothing (`none_found`). Past the first two tests the slices in use fit (`fit`), as the callees ask.
use mathlib.Core.Path.{sym, ◌∙◌, ap}
use mathlib.Core.Bool.{not}
use borrow.Author.Tests.{lt-ltb, le-ltb}
use Rattle.answer.specs.declared.Refusal.TheVariants.{Domain, Result}
use Rattle.answer.proofs.Chain.{clear, stop, skip, found_at, found_nowhere, none_found, gives}
use Rattle.normalize.specs.Normalize.{first_bad, first_nan_result}
use Rattle.normalize.specs.Scaling.{number_by}
use Rattle.normalize.proofs.Passing.{past_four}
use Rattle.normalize.proofs.Searched.{found_by}
use Rattle.std.proofs.Common.{rules}
use Rattle.normalize.proofs.judging.judge.Goals.{then-unfit-via-then-unfit, then-unfit-via-else-unfit+then-unfit-2}
use Rattle.normalize.proofs.judging.judge.Goals as goal

pub returns-then-unfit : goal.returns-then-unfit
returns-then-unfit c = elim c.then-unfit.branch [
  | then-unfit-via-then-unfit w ↦ gives (stop (sym c.unfit.ensures ∙ w.if-unfit.true))
  | then-unfit-via-else-unfit+then-unfit-2 w ↦ gives
      (skip (sym c.unfit.ensures ∙ w.if-unfit.false)
      (stop (sym w.unfit-else-unfit.ensures ∙ w.if-unfit-2.true)))
]

pub returns-then-n-gt-ELEMENT_LIMIT : goal.returns-then-n-gt-ELEMENT_LIMIT
returns-then-n-gt-ELEMENT_LIMIT c = gives
    (skip (sym c.unfit.ensures ∙ c.if-unfit.false)
    (skip (sym c.unfit-else-unfit.ensures ∙ c.if-unfit-2.false)
    (stop (lt-ltb _ _ c.if-n-gt-ELEMENT_LIMIT.true))))

pub returns-then-not-are_finite : goal.returns-then-not-are_finite
returns-then-not-are_finite c = gives
    (skip (sym c.unfit.ensures ∙ c.if-unfit.false)
    (skip (sym c.unfit-else-unfit.ensures ∙ c.if-unfit-2.false)
    (skip (le-ltb _ _ c.if-n-gt-ELEMENT_LIMIT.false)
    (stop (ap not (sym c.are_finite.ensures ∙ c.if-not-are_finite.true))))))

pub returns-then-not-needs_search : goal.returns-then-not-needs_search
unfolding first_bad first_nan_result
returns-then-not-needs_search c =
    let sound = c.needs_search.ensures c.if-not-needs_search.true in
    past_four c.args.by.now.settings _ _ _ _ _ (sym c.unfit.ensures ∙ c.if-unfit.false) (sym c.unfit-else-unfit.ensures ∙ c.if-unfit-2.false) c.if-n-gt-ELEMENT_LIMIT.false
    (sym c.are_finite.ensures ∙ c.if-not-are_finite.false)
    (none_found (λ i h. (sound i h).0) (none_found (λ i h. (sound i h).1) clear))

pub returns-in-Some : goal.returns-in-Some
unfolding first_bad
returns-in-Some c =
    let bad = c.first_not_finite.ensures in
    past_four c.args.by.now.settings _ _ _ _ _ (sym c.unfit.ensures ∙ c.if-unfit.false) (sym c.unfit-else-unfit.ensures ∙ c.if-unfit-2.false) c.if-n-gt-ELEMENT_LIMIT.false
    (sym c.are_finite.ensures ∙ c.if-not-are_finite.false)
    (found_at Domain _ _ c.in-Some.at (sym c.in-Some.is ∙ bad))

pub returns-in-Some-first_failing : goal.returns-in-Some-first_failing
unfolding first_bad first_nan_result
returns-in-Some-first_failing c =
    let bad = c.first_not_finite.ensures in
    let nan_at = found_by _ _ (number_by c.args.by.now c.args.src.now) c.first_failing.ensures (λ i b h. search rules) in
    past_four c.args.by.now.settings _ _ _ _ _ (sym c.unfit.ensures ∙ c.if-unfit.false) (sym c.unfit-else-unfit.ensures ∙ c.if-unfit-2.false) c.if-n-gt-ELEMENT_LIMIT.false
    (sym c.are_finite.ensures ∙ c.if-not-are_finite.false)
    (found_nowhere _ _ (sym c.in_default.is ∙ bad)
    (found_at Result _ _ c.in-Some-first_failing.at (sym c.in-Some-first_failing.is ∙ nan_at)))

pub returns : goal.returns
unfolding first_bad first_nan_result
returns c =
    let bad = c.first_not_finite.ensures in
    let nan_at = found_by _ _ (number_by c.args.by.now c.args.src.now) c.first_failing.ensures (λ i b h. search rules) in
    past_four c.args.by.now.settings _ _ _ _ _ (sym c.unfit.ensures ∙ c.if-unfit.false) (sym c.unfit-else-unfit.ensures ∙ c.if-unfit-2.false) c.if-n-gt-ELEMENT_LIMIT.false
    (sym c.are_finite.ensures ∙ c.if-not-are_finite.false)
    (found_nowhere _ _ (sym c.in_default.is ∙ bad) (found_nowhere _ _ (sym c.in_default-first_failing.is ∙ nan_at) clear))
