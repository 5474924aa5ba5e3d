-- The number that the bytes so far spell, and what the bytes that are left make of it.
use mathlib.Core.Path.{refl, ◌∙◌}
use Rattle.tabulate_core.proofs.Argument.{word_more, word_other, word_large, word_end, named_none, named_some}
use Rattle.tabulate_core.proofs.bands_in.Goals as goal

pub returns-then-not-is_ascii_digit-clause-bands : goal.returns-then-not-is_ascii_digit-clause-bands
returns-then-not-is_ascii_digit-clause-bands c =
    named_none _ (word_other _ c.loop-b.b-index _ c.loop-b-test.true c.if-not-is_ascii_digit.ensures.value ∙ c.loop-b.invariant.1) refl

pub returns-then-v-gt-BAND_LIMIT-clause-bands : goal.returns-then-v-gt-BAND_LIMIT-clause-bands
returns-then-v-gt-BAND_LIMIT-clause-bands c =
    let w = word_large _ c.loop-b.b-index _ c.loop-b-test.true c.from.ensures c.if-not-is_ascii_digit.ensures.value c.if-v-gt-BAND_LIMIT.true in
    named_none _ (w ∙ c.loop-b.invariant.1) refl

pub loop-b-preserved : goal.loop-b-preserved
loop-b-preserved c = (
  c.if-v-gt-BAND_LIMIT.false,
  word_more _ c.loop-b.b-index _ c.loop-b-test.true c.from.ensures c.if-not-is_ascii_digit.ensures.value ∙ c.loop-b.invariant.1,
)

pub returns-then-v-eq0-clause-bands : goal.returns-then-v-eq0-clause-bands
returns-then-v-eq0-clause-bands c =
    named_none _ (word_end _ c.loop-b.b-index _ c.loop-b-test.false c.loop-b.invariant.0 ∙ c.loop-b.invariant.1) c.if-v-eq0.true

pub returns-else-v-eq0-clause-bands : goal.returns-else-v-eq0-clause-bands
returns-else-v-eq0-clause-bands c =
    named_some _ (word_end _ c.loop-b.b-index _ c.loop-b-test.false c.loop-b.invariant.0 ∙ c.loop-b.invariant.1) c.if-v-eq0.false
