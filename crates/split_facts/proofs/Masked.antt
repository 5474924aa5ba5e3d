-- A masked band's gain is 0 (`MaskedBand`): its weight is +0, which has no step, and a band without steps gets no part. Assumes nothing.
use Prim.Native.Nat.{ℕ, ◌<◌}
use mathlib.Core.Path.{◌≡◌, refl, sym, ap, ◌∙◌, subst}
use mathlib.Core.Bool.{true}
use mathlib.Core.List.{List}
use lib.ListN.{length, get_or}
use lib.Ieee.{Float, nan, inf, of_bits}
use Rattle.answer.specs.Limits.{parts, step_count}
use Rattle.floats.specs.Values.{zero_f}
use Rattle.softmax.specs.Softmax.{weights_of}
use Rattle.softmax_facts.proofs.Facts.{softmax_facts, weights_length}
use Rattle.parts.specs.Parts.{at}
use Rattle.parts.proofs.Nearest.{gains_at}
use Rattle.parts.proofs.Zero.{zero_gain}
use Rattle.split.specs.Split.{steps_over, steps_of, level_steps_over, level_steps}
use Rattle.split.proofs.Positive.{steps_at, level_steps_length}
use Rattle.split_facts.specs.SplitFacts.{Levels, MaskedBand}
use Rattle.split_facts.proofs.Splits.{levels_input, levels_total, levels_split}

zero_steps : steps_of zero_f ≡ 0
unfolding steps_over of_bits
zero_steps = refl

masked_steps : (s : List Float) → Levels s → (i : ℕ) → i < length s → get_or s i nan ≡ inf true → at (level_steps s) i ≡ 0
unfolding level_steps_over
masked_steps s L i h e =
    let w = (softmax_facts s (levels_input s L)).masked i h e in
    steps_at step_count (weights_of s) i (subst (λ n. i < n) (sym (weights_length s)) h) ∙ ap steps_of w ∙ zero_steps

pub masked_band : MaskedBand
masked_band s g r l L n o i h e =
    let k = levels_total s L in
    let d = levels_split s L g n in
    ap (λ x. at x i) (o.left ∙ d.1)
    ∙ gains_at parts (level_steps s) k i (subst (λ m. i < m) (sym (level_steps_length step_count s)) h)
    ∙ zero_gain parts (level_steps s) k i (masked_steps s L i h e)
