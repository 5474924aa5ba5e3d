-- Past softmax: its levels are such as its facts ask for, its weights are the definition's, and their steps are such as `part` asks for.
-- Assumes nothing.
use Prim.Native.Nat.{ℕ, ◌≤◌, ◌<◌}
use mathlib.Core.Path.{◌≡◌, sym, ap, ◌∙◌, subst}
use mathlib.Core.Bool.{false}
use mathlib.Core.List.{List, map}
use native.Mathlib.Nat.{le_trans}
use lib.Dec.{T, lit≤}
use lib.ListN.{length}
use lib.Ieee.{Float, nan, binary32, fits}
use Rattle.std.specs.Prelude.{Ok}
use Rattle.std.specs.List.{All}
use Rattle.std.proofs.lemmas.List.Elements.{All-from_get_or}
use Rattle.answer.specs.Answer.{told_of}
use Rattle.answer.specs.Limits.{step_count, band_limit}
use Rattle.floats.specs.Each.{Each}
use Rattle.floats.specs.Values.{zero_f, one_f}
use Rattle.floats.specs.Between.{Between}
use Rattle.softmax.specs.Softmax.{weights_of, softmax_told, softmax_out}
use Rattle.softmax_facts.specs.SoftmaxFacts.{Input}
use Rattle.softmax_facts.proofs.Called.{called}
use Rattle.softmax_facts.proofs.Facts.{softmax_facts}
use Rattle.parts.specs.Parts.{total}
use Rattle.split.specs.Split.{is_weight, steps_of, level_steps_over, level_steps}
use Rattle.split.proofs.Passed.{softmax_rest, done_input}
use Rattle.split.proofs.Positive.{level_steps_length, steps_total}

-- w are the weights of the levels s
pub record Weighed (s w : List Float) : Type 0 where
  pub few : length s ≤ band_limit
  pub input : Input s
  pub is : w ≡ weights_of s

pub weighed : (s d w : List Float) → 1 ≤ length s → length s ≤ band_limit → length s ≡ length d → Each (λ x. T (fits binary32 x)) s
    → told_of (Ok tt) ≡ softmax_told false s d → w ≡ softmax_out false s d → Weighed s w
weighed s d w some few l f t e =
    let input = done_input s some few f (softmax_rest s d (Ok tt) few l t) in
    record { few = few; input = input; is = e ∙ (called s input false d l).left }

module _ {s w : List Float} (p : Weighed s w) where
  pub are_weights : All is_weight w
  are_weights = All-from_get_or is_weight w nan (subst (Each (Between zero_f one_f)) (sym p.is) (softmax_facts s p.input).outputs_between)

  module _ {a : List ℕ} (e : a ≡ map steps_of w) where
    pub stepped : a ≡ level_steps s
    unfolding level_steps_over
    stepped = e ∙ ap (map steps_of) p.is

    pub stepped_length : length a ≡ length s
    stepped_length = ap length stepped ∙ level_steps_length step_count s

    pub stepped_total : 0 < total a
    stepped_total = subst (λ l. 0 < total l) (sym stepped) (steps_total step_count (lit≤ tt) s p.input (le_trans p.few (lit≤ tt)))
