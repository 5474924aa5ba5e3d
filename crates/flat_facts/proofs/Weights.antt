-- The exact sum of softmax's weights lies within (n + 2) * 2 ^ 125 units of 1. Assumes nothing.
use mathlib.Core.Path.{◌≡◌, refl, sym, ap, ◌∙◌, subst}
use mathlib.Core.List.{List}
use Prim.Native.Nat.{ℕ, suc, ◌+◌, ◌-◌, ◌*◌, ◌^◌, ◌≤◌, ◌<◌}
use native.Mathlib.Nat.{le_trans, le_of_eq, mul_comm, mul_assoc, mul-le-mul_left, mul-le-mul_right, le_of_mul-le-mul_right}
use native.Mathlib.Omega.{arith}
use mathlib.Core.Bool.{false}
use lib.Dec.{T, lit≤}
use lib.ListN.{length, get_or}
use lib.Pow.{pow_pos}
use lib.Ieee.{Float, nan, binary32, div, fits, of_bits}
use lib.Ieee.Scale.{finite}
use Rattle.lists.specs.Lists.{sum_to}
use Rattle.lists.proofs.Sum.{sum_same, sum_add, sum_const, sum_times}
use Rattle.floats.specs.Each.{Each}
use Rattle.floats.specs.Units.{units_of, units_in}
use Rattle.floats.specs.Values.{zero_f, one_f}
use Rattle.floats.proofs.Between.{between_finite}
use Rattle.floats.proofs.Numbers.{spread}
use Rattle.floats.proofs.Error.{Within, Err, err_sum}
use Rattle.floats.proofs.Exact.{value_finite}
use Rattle.floats.proofs.FromOne.{one_over}
use Rattle.floats.proofs.Units.{Off, in_units, whole_units, units_mono, mul_off, one_over_off}
use Rattle.floats.proofs.Summed.{Term, Close, ordered_sum}
use Rattle.exp_facts.proofs.Facts.{reduced_fits}
use Rattle.softmax.specs.Softmax.{exps_of, sum_of, weights_of}
use Rattle.softmax_facts.specs.SoftmaxFacts.{count_f, Input, SoftmaxFacts}
use Rattle.softmax_facts.proofs.Sum.{sum_fold}
use Rattle.softmax_facts.proofs.Facts.{exps_length, exps_at, weights_at, softmax_facts}
use Rattle.flat_facts.specs.FlatFacts.{Flat, FlatWeights}
use Rattle.flat_facts.proofs.Bound.{Errors, put_together}

abbrev units : Float → ℕ
units x = units_of 149 x

-- the units of 1
abbrev unit : ℕ
unit = 2 ^ 149

-- R units in 2 ^ -24 of them
cut : (P B m R : ℕ) → 0 < P → Within P R (B * P) (m * (B * P)) → (R ≤ B * P + m * B) × (B * P ≤ R + m * B)
cut P B m R p (h, k) = (
  le_of_mul-le-mul_right {k = P} (le_trans h (le_of_eq (simp spread))) p,
  le_of_mul-le-mul_right {k = P} (le_trans k (le_of_eq (simp spread))) p,
)

module _ (s : List Float) (I : Input s) where
  facts : SoftmaxFacts s
  facts = softmax_facts s I

  abbrev n : ℕ
  n = length s

  some : n ≡ suc (n - 1)
  some = let k = I.unmasked.1 in omega arith

  abbrev exp : ℕ → Float
  exp i = get_or (exps_of s) i nan

  abbrev weight : ℕ → Float
  weight i = get_or (weights_of s) i nan

  -- ---- the exponentials and their sum
  terms : Each (Term binary32) (exps_of s)
  unfolding of_bits
  terms i h =
      let b = facts.exps_between i h in
      let F = subst (λ x. T (fits binary32 x)) (sym (exps_at s i (subst (λ m. i < m) (exps_length s) h))) (reduced_fits _) in
      (F, in_units binary32 (exp i) (between_finite zero_f one_f (exp i) tt tt b) F b.0)

  abbrev total : Float
  total = sum_of (exps_of s)

  total_finite : T (finite total)
  unfolding of_bits
  total_finite =
      between_finite one_f (count_f n) total tt (value_finite (count_f n) false n 1 facts.count_exact) (facts.sum_from_one, facts.sum_to_count)

  sum : Close binary32 (n - 1) total (units_in 149 (exps_of s))
  sum =
      let e = sum_fold (exps_of s) in
      let F = subst (λ z. T (finite z)) e total_finite in
      rw (e, sym (exps_length s)) (ordered_sum binary32 (exps_of s) (omega (arith, exps_length s, some)) terms F)

  -- ---- its reciprocal
  few : units total ≤ n * unit
  few = units_mono 149 total (count_f n) (units total) (n * unit) sum.0.1 (whole_units 149 (count_f n) n facts.count_exact) facts.sum_to_count

  normal : 2 ^ 23 * units total ≤ unit * unit
  normal =
      le_trans (mul-le-mul_left (2 ^ 23) few)
      (le_trans (le_of_eq (sym (mul_assoc (2 ^ 23) n unit))) (mul-le-mul_right {n = unit} unit (le_trans (mul-le-mul_left (2 ^ 23) I.few) (lit≤ tt))))

  abbrev factor : Float
  factor = div binary32 one_f total

  over : Off binary32 factor (unit * unit) (units total) (unit * unit)
  unfolding of_bits
  over =
      one_over_off binary32 total (units total) sum.0.1 facts.sum_from_one
      (between_finite zero_f one_f factor tt tt (one_over total facts.sum_from_one)) normal

  -- ---- the weights
  -- what weight i would be, were it not rounded, in units of a unit
  abbrev product : ℕ → ℕ
  product i = units (exp i) * units factor

  -- half a unit, in 2 ^ -24 of those
  abbrev half : ℕ
  half = unit * 2 ^ 23

  weight_off : (i : ℕ) → i < n → Off binary32 (weight i) (product i) unit (product i + half)
  unfolding of_bits
  weight_off i h =
      let is = weights_at s i h in
      let b = facts.outputs_between i (subst (λ m. i < m) (sym facts.same_length) h) in
      let F = subst (λ w. T (finite w)) is (between_finite zero_f one_f (weight i) tt tt b) in
      let t = terms i (subst (λ m. i < m) (sym (exps_length s)) h) in
      subst (λ w. Off binary32 w (product i) unit (product i + half)) (sym is)
      (mul_off binary32 (exp i) factor (units (exp i)) (units factor) t.1 over.units F)

  products : sum_to product n ≡ units_in 149 (exps_of s) * units factor
  products =
      sum_same product (λ i. units factor * units (exp i)) n (λ i h. mul_comm (units (exp i)) (units factor))
      ∙ sum_times (units factor) (λ i. units (exp i)) n
      ∙ ap (λ m. units factor * sum_to (λ i. units (exp i)) m) (sym (exps_length s))
      ∙ mul_comm (units factor) (units_in 149 (exps_of s))

  weights_err : Err binary32 (units_in 149 (weights_of s)) (units_in 149 (exps_of s) * units factor) unit
      (units_in 149 (exps_of s) * units factor + n * half)
  weights_err =
      rw (facts.same_length, sym products, sym (sum_const half n), sym (sum_add product (λ i. half) n))
      (err_sum binary32 unit (λ i. units (weight i)) product (λ i. product i + half) n (λ i h. (weight_off i h).error))

  errors : Errors (2 ^ 24) (2 ^ 23) unit (n - 1) (units_in 149 (weights_of s)) (units_in 149 (exps_of s)) (units total) (units factor)
  errors = record {
    half = refl;
    few = rw (sym some) (le_trans (mul-le-mul_right 4 I.few) (lit≤ tt));
    fine = rw (sym some) (le_trans (mul-le-mul_right (2 ^ 24) I.few) (lit≤ tt));
    sum = sum.1;
    over = over.error;
    weights = rw (sym some) weights_err;
  }

  flat : Flat n (weights_of s)
  flat =
      let b = cut (2 ^ 24) (2 ^ 125) (n + 2) (units_in 149 (weights_of s)) (pow_pos 24) (rw (sym some) at (put_together _ _ _ _ _ _ _ _ errors)) in
      record {
        as_many = facts.same_length;
        exact = λ i h. (weight_off i (subst (λ m. i < m) facts.same_length h)).units;
        to = b.0;
        from = b.1;
      }

pub flat_weights : FlatWeights
flat_weights = flat
