-- In 64 steps or more to a weight of 1 the weights of up to 64 levels have steps, so that their total is above 0: the largest exponential is 1,
-- and the sum at most 64. Assumes nothing.
use mathlib.Core.Path.{◌≡◌, refl, sym, ap, ◌∙◌, subst}
use mathlib.Core.Bool.{true, false, true≢false}
use mathlib.Core.List.{List, map}
use Prim.Native.Nat.{ℕ, zero, suc, ◌*◌, ◌≤◌, ◌<◌}
use native.Mathlib.Nat.{zero-mul, mul-one, mul_right_comm, lt_of_lt_of_le, mul-le-mul_left, mul-le-mul_right, le_of_mul-le-mul_right}
use native.Mathlib.Omega.{arith}
use borrow.Author.Tests.{ne_eqb}
use lib.Dec.{T, lit<}
use lib.IntN.{ℤ, negsuc}
use lib.ListN.{length, get_or}
use lib.Ieee.{Float, nan, inf, fin, binary32, up, down, round, mul, div, le, of_bits}
use lib.Ieee.Exact.{HasValue}
use lib.Ieee.Fits.{down_pos, div-fits}
use lib.Ieee.Nearest.{closest, closest_mono}
use lib.Ieee.Order.{round_mono}
use lib.Ieee.Scale.{finite}
use Rattle.floats.specs.Values.{zero_f, one_f}
use Rattle.floats.proofs.Exact.{one_mul_f}
use Rattle.floats.proofs.Signed.{le→⊑}
use Rattle.floats.specs.Between.{Between}
use Rattle.floats.proofs.Between.{between_finite}
use Rattle.floats.proofs.FromOne.{one_over}
use Rattle.lists.proofs.Sum.{sum_term}
use Rattle.lists.proofs.Tab.{tab_map, tab_at, tab_length}
use Rattle.softmax.specs.Softmax.{exps_of, sum_of, weights_of}
use Rattle.softmax_facts.specs.SoftmaxFacts.{Input, SoftmaxFacts, count_f}
use Rattle.softmax_facts.proofs.Facts.{softmax_facts, exps_length, weights_at, weights_length}
use Rattle.softmax_facts.proofs.Sum.{count_finite}
use Rattle.floats.proofs.Order.{finite_between}
use Rattle.parts.specs.Parts.{at, total}
use Rattle.split.specs.Split.{steps_over, level_steps_over}

-- ---- the reciprocal of what lies from 1 to 64 is 1 / 64 at least
abbrev least_f : Float
least_f = fin false 1 (negsuc 5)

-- x is at most n
count_le : (m : ℕ) (e : ℤ) (y : Float) (n : ℕ) → HasValue y false n 1 → T (le (fin false m e) y) → m * up e ≤ n * down e
count_le m e nan n v h = absurd v
count_le m e (inf s) n v h = absurd v
count_le m e (fin true a b) n v h = absurd (true≢false v.0)
count_le m e (fin false a b) n v h =
    le_of_mul-le-mul_right
    (let k = simp zero-mul at (le→⊑ (fin false m e) (fin false a b) tt tt h) in
    let q : a * up b ≡ n * down b = sym (mul-one (a * up b)) ∙ v.1 in
    let r : a * up b * down e ≡ n * down e * down b = ap (λ z. z * down e) q ∙ mul_right_comm n (down b) (down e) in
    omega arith)
    (down_pos b)

least_is : least_f ≡ round binary32 false 1 64
unfolding round
least_is = refl

recip_least : (s y : Float) (n : ℕ) → n ≤ 64 → HasValue y false n 1 → T (finite s) → T (le one_f s) → T (le s y)
    → T (le least_f (div binary32 one_f s))
unfolding div of_bits
recip_least nan y n N v f lo hi = absurd f
recip_least (inf s) y n N v f lo hi = absurd f
recip_least (fin true k d) y n N v f lo hi = absurd (omega (arith, down_pos d, le→⊑ one_f (fin true k d) tt tt lo))
recip_least (fin false zero d) y n N v f lo hi = absurd (omega (arith, down_pos d, zero-mul (up d), le→⊑ one_f (fin false 0 d) tt tt lo))
recip_least (fin false (suc k) d) y n N v f lo hi =
    rw (least_is, ne_eqb (suc k) 0 (λ q. omega arith))
    (round_mono binary32 1 64 (1 * 1 * down d) (suc k * up d * 1) (lit< tt) above
    (omega (arith, count_le (suc k) d y n v hi, mul-le-mul_right (down d) N)))
  where
    above : 0 < suc k * up d * 1
    above = omega (arith, down_pos d, le→⊑ one_f (fin false (suc k) d) tt tt lo)

recip_finite : (s : Float) → Between zero_f one_f (div binary32 one_f s) → T (finite (div binary32 one_f s))
unfolding of_bits
recip_finite s b = between_finite zero_f one_f (div binary32 one_f s) tt tt b

module _ (count : ℕ) where
  -- ---- a weight of 1 / 64 at least has steps
  least_steps : (w : Float) → 64 ≤ count → T (finite w) → T (le least_f w) → 0 < steps_over count w
  unfolding steps_over
  least_steps nan many f h = absurd f
  least_steps (inf s) many f h = absurd f
  least_steps (fin true m e) many f h = absurd (omega (arith, down_pos e, le→⊑ least_f (fin true m e) tt tt h))
  least_steps (fin false m e) many f h =
      lt_of_lt_of_le {m = closest 1 1} (lit< tt)
      (closest_mono 1 1 (m * up e * count) (down e) (lit< tt) (down_pos e)
      (omega (arith, le→⊑ least_f (fin false m e) tt tt h, mul-le-mul_left (m * up e) many)))

  -- ---- the steps of a list of weights
  pub steps_length : (w : List Float) → length (map (steps_over count) w) ≡ length w
  steps_length w = ap length (sym (tab_map (steps_over count) nan w)) ∙ tab_length (λ k. steps_over count (get_or w k nan)) (length w)

  pub steps_at : (w : List Float) (i : ℕ) → i < length w → at (map (steps_over count) w) i ≡ steps_over count (get_or w i nan)
  steps_at w i h =
      ap (λ l. get_or l i 0) (sym (tab_map (steps_over count) nan w)) ∙ tab_at (λ k. steps_over count (get_or w k nan)) (length w) i 0 h

  pub level_steps_length : (s : List Float) → length (level_steps_over count s) ≡ length s
  unfolding level_steps_over
  level_steps_length s = steps_length (weights_of s) ∙ weights_length s

-- ---- the largest weight: 1 times the reciprocal of the sum
module _ (count : ℕ) (many : 64 ≤ count) (s : List Float) (I : Input s) (few : length s ≤ 64) where
  abbrev facts : SoftmaxFacts s
  facts = softmax_facts s I

  abbrev sum : Float
  sum = sum_of (exps_of s)

  abbrev i : ℕ
  i = facts.largest.0

  i_in : i < length s
  i_in = subst (λ n. i < n) (exps_length s) facts.largest.1

  top : get_or (weights_of s) i nan ≡ div binary32 one_f sum
  unfolding of_bits
  top =
      weights_at s i i_in ∙ ap (λ x. mul binary32 x (div binary32 one_f sum)) facts.largest.2
      ∙ one_mul_f binary32 (div binary32 one_f sum) (div-fits binary32 one_f sum)

  top_least : T (le least_f (div binary32 one_f sum))
  unfolding of_bits
  top_least =
      let n = count_f (length s) in
      let lo = facts.sum_from_one in
      let hi = facts.sum_to_count in
      recip_least sum n (length s) few facts.count_exact (finite_between one_f sum n tt (count_finite (length s) (omega arith)) lo hi) lo hi

  top_steps : 0 < at (level_steps_over count s) i
  unfolding level_steps_over
  top_steps =
      rw (steps_at count (weights_of s) i (subst (λ n. i < n) (sym (weights_length s)) i_in), top)
      (least_steps count (div binary32 one_f sum) many (recip_finite sum (one_over sum facts.sum_from_one)) top_least)

  pub steps_total : 0 < total (level_steps_over count s)
  unfolding total
  steps_total =
      let a = level_steps_over count s in
      lt_of_lt_of_le top_steps (sum_term (at a) (length a) i (subst (λ n. i < n) (sym (level_steps_length count s)) i_in))
