-- Equal bands: of n equal finite levels, whatever they are and in any number of steps from 64 on, band i gets 32768 / n, and one part more below
-- 32768 % n. Assumes nothing.
use Prim.Native.Nat.{ℕ, ◌*◌, ◌^◌, ◌≤◌, ◌<◌}
use mathlib.Core.Path.{◌≡◌, sym, ap, ◌∙◌, subst}
use mathlib.Core.Bool.{true, false}
use mathlib.Core.Logic.{inl, inr}
use mathlib.Core.List.{List, map}
use native.Mathlib.Nat.{eq-zero-or-pos, mul-zero}
use native.Mathlib.Omega.{arith}
use lib.Dec.{T, lit≤}
use lib.ListN.{length, get_or, replicate, length-replicate, get_or-replicate}
use lib.Ieee.{Float, nan, inf, binary32, mul, div, fits}
use lib.Ieee.Scale.{finite}
use Rattle.floats.specs.Values.{one_f}
use Rattle.lists.proofs.Tab.{map_replicate}
use Rattle.softmax.specs.Softmax.{max_of, exp_less, exps_of, sum_of, weights_of}
use Rattle.answer.specs.Limits.{parts, step_count, band_limit}
use Rattle.parts.specs.Parts.{total}
use Rattle.split.specs.Split.{gains_of, steps_over, level_steps_over}
use Rattle.parts.proofs.Even.{evens_total, evens_gains}
use Rattle.split_facts.specs.SplitFacts.{Levels, Splits, EqualBands, EqualSteps, EqualAsBefore}
use Rattle.split_facts.proofs.Splits.{steps_some, levels_split}

-- equal levels have equal steps
module _ (count n : ℕ) (x : Float) where
  abbrev levels : List Float
  levels = replicate n x

  abbrev scale : Float → Float
  scale e = mul binary32 e (div binary32 one_f (sum_of (exps_of levels)))

  abbrev step : ℕ
  step = steps_over count (scale (exp_less (max_of levels) x))

  steps_equal : level_steps_over count levels ≡ replicate n step
  unfolding level_steps_over weights_of exps_of
  steps_equal =
      ap (λ l. map (steps_over count) (map scale l)) (map_replicate (exp_less (max_of levels)) n x)
      ∙ ap (map (steps_over count)) (map_replicate scale n (exp_less (max_of levels) x))
      ∙ map_replicate (steps_over count) n (scale (exp_less (max_of levels) x))

finite_not : (x : Float) → T (finite x) → (x ≡ nan → ⊥) × (x ≡ inf false → ⊥) × (x ≡ inf true → ⊥)
finite_not x f = (λ e. subst (λ y. T (finite y)) e f, λ e. subst (λ y. T (finite y)) e f, λ e. subst (λ y. T (finite y)) e f)

module _ (n : ℕ) (x : Float) (some : 1 ≤ n) (few : n ≤ band_limit) (F : T (fits binary32 x)) (f : T (finite x)) where
  at_each : (P : Float → Type 0) → P x → (i : ℕ) → i < length (replicate n x) → P (get_or (replicate n x) i nan)
  at_each P p i h = subst P (sym (get_or-replicate n i x nan (subst (λ k. i < k) (length-replicate n x) h))) p

  equal_levels : Levels (replicate n x)
  equal_levels =
      let k = finite_not x f in
      let l = length-replicate n x in
      let first : 0 < length (replicate n x) = omega arith in
      record {
        some = omega arith;
        few = omega arith;
        f32s = at_each (λ y. T (fits binary32 y)) F;
        numbers = at_each (λ y. (y ≡ nan → ⊥) × (y ≡ inf false → ⊥)) (k.0, k.1);
        unmasked = (0, first, at_each (λ y. y ≡ inf true → ⊥) k.2 0 first);
      }

  step_some : (count : ℕ) → 64 ≤ count → 0 < step count n x
  step_some count many = elim (eq-zero-or-pos (step count n x)) [
    | inr p ↦ p
    | inl z ↦ (
        let t = ap total (steps_equal count n x) ∙ evens_total n (step count n x) ∙ ap (λ k. n * k) z ∙ mul-zero n in
        absurd (omega (arith, steps_some (replicate n x) equal_levels count many))
        )
  ]

pub equal_steps : EqualSteps
equal_steps count many n x some few F f =
    ap gains_of (steps_equal count n x) ∙ evens_gains parts n (step count n x) (step_some n x some few F f count many)

pub equal_as_before : EqualAsBefore
equal_as_before n x some few F f =
    (equal_steps (2 ^ 24) (lit≤ tt) n x some few F f, equal_steps (2 ^ 30) (lit≤ tt) n x some few F f)

pub equal_bands : EqualBands
equal_bands n x some few F f =
    subst (Splits (replicate n x)) (equal_steps step_count (lit≤ tt) n x some few F f)
    (levels_split (replicate n x) (equal_levels n x some few F f))
