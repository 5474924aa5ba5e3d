-- Each return tells the first test that holds, with +0 twice; where none holds, the two folds from the infinities, which are `look`'s from `top` and `-top`.
use Rattle.std.proofs.Common.{◌∙◌, ap, ap₂}
use lib.Ieee.{Float, neg}
use borrow.Author.Tests.{lt-ltb, le-ltb}
use Rattle.answer.specs.declared.Refusal.TheVariants.{Domain}
use Rattle.answer.proofs.Chain.{clear, stop, skip, found_at, found_nowhere}
use Rattle.answer.proofs.Told.{value_refused, value_done}
use Rattle.floats.specs.Values.{zero_f}
use Rattle.min_max.specs.MinMax.{least_from, largest_from, extremes_answer}
use Rattle.min_max.proofs.min_max.Goals as goal

pub returns-then-src-gt-ELEMENT_LIMIT : goal.returns-then-src-gt-ELEMENT_LIMIT
unfolding extremes_answer
returns-then-src-gt-ELEMENT_LIMIT c = value_refused _ (zero_f, zero_f) (stop (lt-ltb _ _ c.if-src-gt-ELEMENT_LIMIT.true))

pub returns-in-Some : goal.returns-in-Some
unfolding extremes_answer
returns-in-Some c =
    value_refused _ (zero_f, zero_f) (skip (le-ltb _ _ c.if-src-gt-ELEMENT_LIMIT.false) (found_at Domain _ _ c.in-Some.bad c.in-Some.ensures))

pub returns-in-None : goal.returns-in-None
unfolding extremes_answer neg
returns-in-None c =
    value_done _ (zero_f, zero_f)
    (ap₂ (λ (x y : Float). (x, y)) (c.look-seen.ensures.low ∙ ap (λ t. least_from t c.args.src.now) c.infinity-top.ensures)
    (c.look-seen.ensures.high ∙ ap (λ t. largest_from (neg t) c.args.src.now) c.infinity-top.ensures))
    (skip (le-ltb _ _ c.if-src-gt-ELEMENT_LIMIT.false) (found_nowhere _ _ c.in-None.ensures clear))
