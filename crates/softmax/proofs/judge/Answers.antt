-- Each return is the first test that holds, past the limit and the domain; the third, all masked without flush, is read off the branches.
use Rattle.std.proofs.Common.{◌≡◌, false, refl, sym, ◌∙◌}
use Rattle.std.specs.Float.{nan}
use mathlib.Core.Bool.{not, ◌&&◌}
use borrow.Author.Tests.{lt-ltb, le-ltb}
use Rattle.lists.proofs.Found.{found_is}
use Rattle.answer.specs.declared.Refusal.TheVariants.{Domain}
use Rattle.answer.proofs.Chain.{clear, stop, skip, found_at, found_nowhere, gives}
use Rattle.softmax.specs.Softmax.{in_domain, all_masked, first_outside, in_place_answer}
use Rattle.softmax.proofs.judge.Goals.{else-not-flush-via-then-not-flush+else-all_masked, else-not-flush-via-else-not-flush}
use Rattle.softmax.proofs.judge.Goals as goal

pub returns-then-src-gt-ELEMENT_LIMIT : goal.returns-then-src-gt-ELEMENT_LIMIT
unfolding in_place_answer
returns-then-src-gt-ELEMENT_LIMIT c = gives (stop (lt-ltb _ _ c.if-src-gt-ELEMENT_LIMIT.true))

pub returns-in-Some : goal.returns-in-Some
unfolding in_place_answer first_outside
returns-in-Some c =
    let first = found_is c.args.src.now _ in_domain nan (λ x b h. h) c.first_failing.ensures in
    gives
    (skip (le-ltb _ _ c.if-src-gt-ELEMENT_LIMIT.false)
    (found_at Domain _ _ c.in-Some.at (sym c.in-Some.is ∙ first)))

pub returns-then-all_masked : goal.returns-then-all_masked
unfolding in_place_answer first_outside
returns-then-all_masked c =
    let first = found_is c.args.src.now _ in_domain nan (λ x b h. h) c.first_failing.ensures in
    gives
    (skip (le-ltb _ _ c.if-src-gt-ELEMENT_LIMIT.false)
    (found_nowhere _ _ (sym c.in_default.is ∙ first)
    (stop (rw c.if-not-flush.true (sym c.all_masked.ensures ∙ c.if-all_masked.true)))))

pub returns : goal.returns
unfolding in_place_answer first_outside
returns c =
    let first = found_is c.args.src.now _ in_domain nan (λ x b h. h) c.first_failing.ensures in
    let third : (not c.args.flush && all_masked c.args.src.now) ≡ false = elim c.else-not-flush.branch [
      | else-not-flush-via-then-not-flush+else-all_masked w ↦ rw w.if-not-flush.true (sym w.all_masked.ensures ∙ w.if-all_masked.false)
      | else-not-flush-via-else-not-flush w ↦ rw w.if-not-flush.false refl
    ] in
    gives
    (skip (le-ltb _ _ c.if-src-gt-ELEMENT_LIMIT.false)
    (found_nowhere _ _ (sym c.in_default.is ∙ first) (skip third clear)))
