-- The sums by hand for the split (RULES, Worked) and what finer steps change, of what the call tells and leaves. Assumes nothing.
use Prim.Native.Nat.{ℕ, ◌^◌}
use mathlib.Core.Path.{◌≡◌, refl, sym, ap, ◌∙◌}
use mathlib.Core.Bool.{true, false, not}
use mathlib.Core.List.{List, [], ◌∷◌}
use borrow.Author.Tests.{eq-eqb}
use lib.Dec.{T, ltb, lit≤}
use lib.ListN.{length}
use lib.Ieee.{Float, inf, binary32, fits, of_bits, add, sub, mul, div, round, lt, to_signed}
use lib.Ieee.Scale.{finite}
use Rattle.answer.specs.Answer.{told_of, when_done}
use Rattle.answer.proofs.Chain.{gives, skip, clear}
use Rattle.floats.specs.Values.{f32, zero_f}
use Rattle.exp.specs.Exp.{reduced_range_exp_of}
use Rattle.lists.specs.Lists.{sum_to, tab, first_not}
use Rattle.min_max.specs.MinMax.{extreme_from}
use Rattle.sum.specs.Sum.{sum_from}
use Rattle.softmax.specs.Softmax.{first_outside, all_masked, max_of, exps_of, sum_of, weights_of}
use Rattle.answer.specs.Limits.{band_limit}
use Rattle.parts.specs.Parts.{total, lt1, left, ahead, rank, gain, gains_over}
use Rattle.split.specs.Split.{gains_of, steps_over, level_steps_over, level_steps, split_answer}
use Rattle.split_facts.proofs.Equal.{equal_bands}
use Rattle.split_facts.specs.SplitFacts.{gains_in, Splits, Finer, Equally}

-- ---- computed: the tests, and the gains
record Computed (s : List Float) (l : List ℕ) : Type 0 where
  some : ltb (length s) 1 ≡ false
  few : ltb band_limit (length s) ≡ false
  inside : ltb (first_outside s) (length s) ≡ false
  shown : all_masked s ≡ false
  gains : gains_of (level_steps s) ≡ l

computed : {s : List Float} {l : List ℕ} → Computed s l → Splits s l
unfolding split_answer
computed {s} {l} c g n =
    let lent = ap not (eq-eqb (length s) (length g) (sym n)) in
    let a = gives (skip c.some (skip c.few (skip lent (skip c.inside (skip c.shown clear))))) in
    (sym (ap told_of a), sym (ap (λ a. when_done a (gains_of (level_steps s)) g) a) ∙ c.gains)

by_sums : Computed (zero_f ∷ f32 0xc2c8_0000 ∷ []) (32768 ∷ 0 ∷ [])
    × Computed (zero_f ∷ inf true ∷ zero_f ∷ []) (16384 ∷ 0 ∷ 16384 ∷ [])
    × (gains_in (2 ^ 24) (f32 0xbe8a_3d71 ∷ zero_f ∷ []) ≡ 14186 ∷ 18582 ∷ [])
    × Computed (f32 0xbe8a_3d71 ∷ zero_f ∷ []) (14185 ∷ 18583 ∷ [])
unfolding of_bits first_not first_outside all_masked level_steps_over weights_of sum_of sum_from exps_of max_of extreme_from reduced_range_exp_of steps_over add sub mul div round lt to_signed gains_over gain rank left ahead total sum_to tab lt1
by_sums = (
  record { some = refl; few = refl; inside = refl; shown = refl; gains = refl },
  record { some = refl; few = refl; inside = refl; shown = refl; gains = refl },
  refl,
  record { some = refl; few = refl; inside = refl; shown = refl; gains = refl },
)

zero_f32 : T (fits binary32 zero_f) × T (finite zero_f)
unfolding of_bits fits
zero_f32 = (tt, tt)

pub one : Splits (zero_f ∷ []) (32768 ∷ [])
unfolding tab lt1
one = equal_bands 1 zero_f (lit≤ tt) (lit≤ tt) zero_f32.0 zero_f32.1

pub two : Splits (zero_f ∷ zero_f ∷ []) (16384 ∷ 16384 ∷ [])
unfolding tab lt1
two = equal_bands 2 zero_f (lit≤ tt) (lit≤ tt) zero_f32.0 zero_f32.1

pub three : Equally (λ x. x ∷ x ∷ x ∷ []) (10923 ∷ 10923 ∷ 10922 ∷ [])
unfolding tab lt1
three x F f = equal_bands 3 x (lit≤ tt) (lit≤ tt) F f

pub five : Equally (λ x. x ∷ x ∷ x ∷ x ∷ x ∷ []) (6554 ∷ 6554 ∷ 6554 ∷ 6553 ∷ 6553 ∷ [])
unfolding tab lt1
five x F f = equal_bands 5 x (lit≤ tt) (lit≤ tt) F f

-- -100 is 0xc2c80000
pub far : Splits (zero_f ∷ f32 0xc2c8_0000 ∷ []) (32768 ∷ 0 ∷ [])
far = computed by_sums.0

pub masked : Splits (zero_f ∷ inf true ∷ zero_f ∷ []) (16384 ∷ 0 ∷ 16384 ∷ [])
masked = computed by_sums.1

-- -0.27 is 0xbe8a3d71
pub finer : Finer
finer = (by_sums.2, computed by_sums.3)
