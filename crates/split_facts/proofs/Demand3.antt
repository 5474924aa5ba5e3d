-- Demand 3 (`EveryDemand3`): the gains are those of the steps, whose total and nearness are laws of `parts`. Assumes nothing.
use Prim.Native.Nat.{◌<◌}
use mathlib.Core.Path.{◌≡◌, sym, ap, ◌∙◌, subst}
use lib.ListN.{length, get_or}
use lib.Dec.{T}
use lib.Ieee.{Float, nan, le, of_bits}
use Rattle.std.specs.Prelude.{Ok}
use Rattle.answer.proofs.Numbers.{told_one}
use Rattle.floats.specs.Values.{zero_f}
use Rattle.floats.specs.Fraction.{frac}
use Rattle.floats.proofs.Signed.{nonneg_under}
use Rattle.softmax.specs.Softmax.{weights_of}
use Rattle.softmax_facts.proofs.Facts.{softmax_facts}
use Rattle.answer.specs.Limits.{parts, step_count}
use Rattle.parts.specs.Parts.{total}
use Rattle.split.specs.Split.{level_steps_over, level_steps}
use Rattle.split.proofs.Positive.{steps_at, level_steps_length}
use Rattle.parts.proofs.Nearest.{gains_length, gains_total, gains_nearest}
use Rattle.split_facts.specs.SplitFacts.{EveryDemand3}
use Rattle.split_facts.proofs.Splits.{levels_input, levels_total, levels_split, steps_near}

not_below : (w : Float) → T (le zero_f w) → (frac w).under ≡ 0
unfolding of_bits
not_below w h = nonneg_under w h

pub demand_3 : EveryDemand3
unfolding level_steps_over
demand_3 s g r l L n o =
    let d = levels_split s L g n in
    let e = o.left ∙ d.1 in
    let k = levels_total s L in
    let m = level_steps_length step_count s in
    let f = softmax_facts s (levels_input s L) in
    record {
      done = told_one r (Ok tt) (o.told ∙ d.0);
      as_many = ap length e ∙ gains_length parts (level_steps s) k ∙ m;
      sum = ap total e ∙ gains_total parts (level_steps s) k;
      near = λ h j t. rw e (gains_nearest parts (level_steps s) k h (j ∙ sym m) t);
      rounded = λ i h.
          let q = subst (λ n. i < n) (sym f.same_length) h in
          let w = get_or (weights_of s) i nan in
          (not_below w (f.outputs_between i q).0, rw (steps_at step_count (weights_of s) i q) (steps_near w));
      some = k;
    }
