-- RULES, Softmax: for input that is finite or masked, with one finite element or more, the largest exponential is exactly 1,
-- the sum lies between 1 and the element count, and every output lies between 0 and 1, +0 where masked; none is a NaN. Assumes nothing.
use mathlib.Core.Path.{◌≡◌, sym, ap, ◌∙◌, subst}
use mathlib.Core.Logic.{inl, inr}
use mathlib.Core.List.{List, map}
use Prim.Native.Nat.{ℕ, ◌^◌, ◌≤◌, ◌<◌}
use native.Mathlib.Nat.{le_trans}
use mathlib.Core.Bool.{true}
use lib.Dec.{T, lit≤}
use lib.ListN.{length, get_or}
use lib.Ieee.{Float, nan, inf, binary32, sub, mul, div, le, of_bits}
use Rattle.floats.specs.Values.{zero_f, one_f}
use Rattle.exp.specs.Exp.{reduced_range_exp_of}
use Rattle.floats.proofs.Order.{le_numbers}
use Rattle.floats.proofs.Exact.{sub_self_f}
use Rattle.floats.specs.Each.{Each, Some}
use Rattle.floats.specs.Between.{Between}
use Rattle.floats.proofs.Between.{box, mul_between}
use Rattle.lists.proofs.Tests.{all_of}
use Rattle.lists.proofs.Tab.{tab_map, tab_at, tab_length}
use Rattle.softmax.specs.Softmax.{max_of, exp_less, exps_of, sum_of, weights_of}
use Rattle.softmax.proofs.Maximum.{InDomain, max_is, less_max, masked_minus}
use Rattle.exp_facts.proofs.Facts.{reduced_between, reduced_zero, reduced_masked}
use Rattle.floats.proofs.FromOne.{one_over}
use Rattle.floats.proofs.Least.{min_only}
use Rattle.softmax_facts.proofs.Sum.{count_value, sum_between, sum_from_law}
use Rattle.softmax_facts.proofs.Reciprocal.{zero_times_recip}
use Rattle.softmax_facts.specs.SoftmaxFacts.{count_f, Input, SoftmaxFacts, Statement}

-- ---- an element of a list that is made element by element
pub map_at : (f : Float → Float) (s : List Float) (i : ℕ) → i < length s → get_or (map f s) i nan ≡ f (get_or s i nan)
map_at f s i h = ap (λ l. get_or l i nan) (sym (tab_map f nan s)) ∙ tab_at (λ k. f (get_or s k nan)) (length s) i nan h

pub map_length : (f : Float → Float) (s : List Float) → length (map f s) ≡ length s
map_length f s = ap length (sym (tab_map f nan s)) ∙ tab_length (λ k. f (get_or s k nan)) (length s)

-- ---- the exponentials
pub exps_length : (s : List Float) → length (exps_of s) ≡ length s
unfolding exps_of
exps_length s = map_length (exp_less (max_of s)) s

pub exps_at : (s : List Float) (i : ℕ) → i < length s → get_or (exps_of s) i nan ≡ exp_less (max_of s) (get_or s i nan)
unfolding exps_of
exps_at s i h = map_at (exp_less (max_of s)) s i h

-- of a masked element
pub masked_exp : (s : List Float) → Each InDomain s → (i : ℕ) → i < length s → get_or s i nan ≡ inf true → get_or (exps_of s) i nan ≡ zero_f
masked_exp s d i h e =
    exps_at s i h ∙ ap (exp_less (max_of s)) e ∙ ap reduced_range_exp_of (masked_minus (max_of s) (max_is s d).fine) ∙ reduced_masked

pub weights_length : (s : List Float) → length (weights_of s) ≡ length s
unfolding weights_of
weights_length s = map_length (λ e. mul binary32 e (div binary32 one_f (sum_of (exps_of s)))) (exps_of s) ∙ exps_length s

pub weights_at : (s : List Float) (i : ℕ) → i < length s
    → get_or (weights_of s) i nan ≡ mul binary32 (get_or (exps_of s) i nan) (div binary32 one_f (sum_of (exps_of s)))
unfolding weights_of
weights_at s i h =
    map_at (λ e. mul binary32 e (div binary32 one_f (sum_of (exps_of s)))) (exps_of s) i (subst (λ n. i < n) (sym (exps_length s)) h)

-- the products of values from 0 to 1
unit_box : T (all_of (box zero_f one_f zero_f one_f zero_f one_f))
unfolding mul le of_bits
unit_box = tt

module _ (s : List Float) (I : Input s) where
  exps_between : Each (Between zero_f one_f) (exps_of s)
  exps_between i h =
      let l = subst (λ n. i < n) (exps_length s) h in
      subst (Between zero_f one_f) (sym (exps_at s i l)) (reduced_between (sub binary32 (get_or s i nan) (max_of s)) (less_max s I.domain i l))

  -- the maximum is an element: where it stayed `f32::MIN`, the finite element is that too
  max_element : Some (λ x. max_of s ≡ x) s
  max_element =
      let r = max_is s I.domain in
      let y = I.unmasked in
      elim r.one_of [
        | inr a ↦ a
        | inl e ↦ (
          y.0,
          y.1,
          e ∙ sym (min_only (get_or s y.0 nan) (I.f32s y.0 y.1) y.2
              (subst (λ (w : Float). T (le (get_or s y.0 nan) w)) e (r.all y.0 y.1))),
        )
      ]

  one_at_max : exp_less (max_of s) (max_of s) ≡ one_f
  unfolding of_bits
  one_at_max = ap reduced_range_exp_of (sub_self_f binary32 (max_of s) (max_is s I.domain).fine) ∙ reduced_zero.0

  largest : Some (λ e. e ≡ one_f) (exps_of s)
  largest =
      let m = max_element in (
        m.0,
        subst (λ n. m.0 < n) (sym (exps_length s)) m.1,
        exps_at s m.0 m.1 ∙ ap (exp_less (max_of s)) (sym m.2) ∙ one_at_max,
      )

  -- ---- the sum
  count_fits : length s ≤ 2 ^ 24
  count_fits = le_trans I.few (lit≤ tt)

  exps_fit : length (exps_of s) ≤ 2 ^ 24
  exps_fit = subst (λ n. n ≤ 2 ^ 24) (sym (exps_length s)) count_fits

  sum_one : T (le one_f (sum_of (exps_of s)))
  sum_one = sum_from_law (exps_of s) exps_fit exps_between largest

  -- ---- the outputs
  outputs_between : Each (Between zero_f one_f) (weights_of s)
  outputs_between i h =
      let l = subst (λ n. i < n) (weights_length s) h in
      let e = get_or (exps_of s) i nan in
      let c = div binary32 one_f (sum_of (exps_of s)) in
      let b = exps_between i (subst (λ n. i < n) (sym (exps_length s)) l) in
      subst (Between zero_f one_f) (sym (weights_at s i l))
      (mul_between zero_f one_f zero_f one_f zero_f one_f e c unit_box b (one_over (sum_of (exps_of s)) sum_one))

  masked_zero : (i : ℕ) → i < length s → get_or s i nan ≡ inf true → get_or (weights_of s) i nan ≡ zero_f
  masked_zero i h e =
      weights_at s i h ∙ ap (λ y. mul binary32 y (div binary32 one_f (sum_of (exps_of s)))) (masked_exp s I.domain i h e)
      ∙ zero_times_recip (sum_of (exps_of s)) sum_one

  pub softmax_facts : SoftmaxFacts s
  softmax_facts = record {
    largest = largest;
    exps_between = exps_between;
    sum_from_one = sum_one;
    sum_to_count = subst (λ n. T (le (sum_of (exps_of s)) (count_f n))) (exps_length s) (sum_between (exps_of s) exps_fit exps_between).1;
    count_exact = count_value (length s) count_fits;
    same_length = weights_length s;
    outputs_between = outputs_between;
    no_nan = λ i h. (le_numbers zero_f (get_or (weights_of s) i nan) (outputs_between i h).0).1;
    masked = masked_zero;
  }

pub all_facts : Statement
all_facts = softmax_facts
