-- The levels that demand 3 speaks of: what the call tells and leaves of them, and that steps are nearest to the weights. Assumes nothing.
use Prim.Native.Nat.{ℕ, ◌*◌, ◌≤◌, ◌<◌}
use mathlib.Core.Path.{◌≡◌, refl, sym, ap}
use mathlib.Core.Bool.{true, false}
use mathlib.Core.List.{List}
use native.Mathlib.Nat.{le_trans}
use lib.Dec.{T, lit≤}
use lib.ListN.{get_or}
use lib.Ieee.{Float, nan, inf, fin}
use lib.Ieee.Scale.{finite}
use Rattle.answer.specs.Answer.{judged, told_of, when_done}
use Rattle.std.specs.Prelude.{Ok}
use Rattle.answer.proofs.Chain.{gives}
use Rattle.floats.specs.Fraction.{frac}
use Rattle.floats.specs.Between.{Near}
use Rattle.floats.proofs.Near.{near}
use Rattle.floats.proofs.Signed.{by_pos}
use Rattle.softmax.specs.Softmax.{in_domain}
use Rattle.softmax_facts.proofs.Called.{called}
use Rattle.softmax_facts.specs.SoftmaxFacts.{Input}
use Rattle.answer.specs.Limits.{step_count}
use Rattle.parts.specs.Parts.{total}
use Rattle.split.specs.Split.{gains_of, steps_over, steps_of, level_steps_over, level_steps, split_answer}
use Rattle.split.proofs.Passed.{last_tests, softmax_rest, past_counts}
use Rattle.split.proofs.Positive.{steps_total}
use Rattle.split_facts.specs.SplitFacts.{Levels, Splits}

-- ---- the levels are in softmax's domain
in_domain_law : (x : Float) → (x ≡ nan → ⊥) → (x ≡ inf false → ⊥) → in_domain x ≡ true
in_domain_law nan p q = absurd (p refl)
in_domain_law (inf true) p q = refl
in_domain_law (inf false) p q = absurd (q refl)
in_domain_law (fin s m e) p q = refl

is_finite : (x : Float) → (x ≡ nan → ⊥) → (x ≡ inf false → ⊥) → (x ≡ inf true → ⊥) → T (finite x)
is_finite nan p q r = absurd (p refl)
is_finite (inf true) p q r = absurd (r refl)
is_finite (inf false) p q r = absurd (q refl)
is_finite (fin s m e) p q r = tt

module _ (s : List Float) (L : Levels s) where
  pub levels_input : Input s
  levels_input =
      let u = L.unmasked in
      record {
        few = le_trans L.few (lit≤ tt);
        domain = λ i h. in_domain_law (get_or s i nan) (L.numbers i h).0 (L.numbers i h).1;
        f32s = L.f32s;
        unmasked = (u.0, u.1, is_finite (get_or s u.0 nan) (L.numbers u.0 u.1).0 (L.numbers u.0 u.1).1 u.2);
      }

  pub steps_some : (count : ℕ) → 64 ≤ count → 0 < total (level_steps_over count s)
  steps_some count many = steps_total count many s levels_input (le_trans L.few (lit≤ tt))

  pub levels_total : 0 < total (level_steps s)
  levels_total = steps_some step_count (lit≤ tt)

  passes : Ok tt ≡ judged (last_tests s)
  passes = softmax_rest s s (Ok tt) L.few refl (sym (called s levels_input false s refl).told)

  pub levels_split : Splits s (gains_of (level_steps s))
  unfolding split_answer
  levels_split g l =
      let a = gives (past_counts s g L.some L.few (sym l) passes) in
      (sym (ap told_of a), sym (ap (λ a. when_done a (gains_of (level_steps s)) g) a))

-- ---- a float's steps are within a half of it times the number of steps
pub steps_near : (w : Float) → Near (steps_of w) ((frac w).over * step_count) (frac w).by
unfolding steps_over
steps_near w = near ((frac w).over * step_count) (frac w).by (by_pos w)
