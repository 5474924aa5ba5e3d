-- Flush is the Rust's: what the calls write is each weight, with +0 for a NaN. NaN comes from all-masked input alone. Assumes nothing.
use mathlib.Core.Path.{◌≡◌, refl, sym, ap, ◌∙◌, subst}
use mathlib.Core.Logic.{inl, inr}
use mathlib.Core.List.{List, [], ◌∷◌, map, foldl}
use Prim.Native.Nat.{ℕ, ◌≤◌, ◌<◌}
use native.Mathlib.Omega.{arith}
use mathlib.Core.Bool.{Bool, true, false, not, cond, false≢true}
use lib.Dec.{T, ltb}
use lib.ListN.{length, get_or}
use lib.Seq.{ext_get_or}
use lib.Ieee.{Float, nan, inf, fin, binary32, add, mul, div, eq, ne, fits, is_nan, of_bits}
use lib.Ieee.Compare.{differs_from_itself}
use borrow.Author.Tests.{eqb-true}
use Rattle.answer.specs.Limits.{element_limit}
use Rattle.floats.specs.Values.{zero_f, one_f}
use Rattle.lists.specs.Lists.{first_not, tab}
use Rattle.lists.proofs.First.{first_clear}
use Rattle.lists.proofs.Tests.{both}
use Rattle.lists.proofs.Tab.{tab_length, tab_at}
use Rattle.softmax.specs.Softmax.{is_masked, all_masked, exps_of, sum_of, weights_of, result_of}
use Rattle.floats.specs.Each.{Each}
use Rattle.floats.proofs.Each.{each_first, each_rest}
use Rattle.softmax.proofs.Maximum.{InDomain}
use Rattle.softmax_facts.specs.SoftmaxFacts.{Input}
use Rattle.softmax_facts.proofs.Sum.{sum_fold}
use Rattle.softmax_facts.proofs.Facts.{map_at, map_length, exps_length, masked_exp, weights_length, weights_at, softmax_facts}
use Rattle.softmax_facts.proofs.Called.{some_or_none}

-- `select(y, zero, y == y)`
abbrev pub flushed : Float → Float
flushed y = cond (eq y y) y zero_f

-- ---- a weight that is no NaN stays
number_stays : (y : Float) → T (not (is_nan y)) → flushed y ≡ y
unfolding ne is_nan
number_stays y h = go (eq y y) (λ (t : T (not (eq y y))). differs_from_itself y t)
  where
    nan_not : y ≡ nan → ⊥
    nan_not e = subst (λ (x : Float). T (not (is_nan x))) e h

    go : (b : Bool) → (T (not b) → y ≡ nan) → cond b y zero_f ≡ y
    go true k = refl
    go false k = absurd (nan_not (k tt))

-- ---- all masked: exponentials and sum are +0, and each weight is a NaN
masked_is : (x : Float) → is_masked x ≡ true → x ≡ inf true
masked_is nan h = absurd (false≢true h)
masked_is (inf true) h = refl
masked_is (inf false) h = absurd (false≢true h)
masked_is (fin s m e) h = absurd (false≢true h)

computed : (add binary32 zero_f zero_f ≡ zero_f) × (flushed (mul binary32 zero_f (div binary32 one_f zero_f)) ≡ zero_f)
unfolding add mul div eq of_bits
computed = (refl, refl)

zero_sum : (es : List Float) → Each (λ e. e ≡ zero_f) es → foldl (add binary32) zero_f es ≡ zero_f
zero_sum [] z = refl
zero_sum (e ∷ es) z =
    ap (λ t. foldl (add binary32) t es) (ap (add binary32 zero_f) (each_first (λ e. e ≡ zero_f) e es z) ∙ computed.0)
    ∙ zero_sum es (each_rest (λ e. e ≡ zero_f) e es z)

all_masked_law : (s : List Float) → all_masked s ≡ true → Each (λ x. x ≡ inf true) s
unfolding all_masked
all_masked_law s e i h =
    let p : ℕ → Bool = λ i. is_masked (get_or s i nan) in
    let k = eqb-true (first_not p (length s)) (length s) (both (ltb 0 (length s)) _ e).1 in
    masked_is (get_or s i nan) (first_clear p (length s) (omega arith) i h)

module _ (s : List Float) (few : length s ≤ element_limit) (d : Each InDomain s) (f : Each (λ x. T (fits binary32 x)) s) where
  masked_sum : Each (λ x. x ≡ inf true) s → sum_of (exps_of s) ≡ zero_f
  masked_sum m = sum_fold (exps_of s) ∙ zero_sum (exps_of s) (λ i h. let l = subst (λ n. i < n) (exps_length s) h in masked_exp s d i l (m i l))

  masked_weight : Each (λ x. x ≡ inf true) s → (i : ℕ) → i < length s → flushed (get_or (weights_of s) i nan) ≡ zero_f
  masked_weight m i h =
      ap flushed (weights_at s i h ∙ ap (λ e. mul binary32 e (div binary32 one_f (sum_of (exps_of s)))) (masked_exp s d i h (m i h))
      ∙ ap (λ t. mul binary32 zero_f (div binary32 one_f t)) (masked_sum m))
      ∙ computed.1

  pub flush_is : result_of s ≡ map flushed (weights_of s)
  unfolding result_of
  flush_is = go (all_masked s) refl
    where
      empty : (i : ℕ) {n m : ℕ} → n ≡ m → m ≡ 0 → i < n → ⊥
      empty i e z h = omega arith

      at : (i : ℕ) → i < length s → get_or (map flushed (weights_of s)) i nan ≡ flushed (get_or (weights_of s) i nan)
      at i h = map_at flushed (weights_of s) i (subst (λ n. i < n) (sym (weights_length s)) h)

      long : length (map flushed (weights_of s)) ≡ length s
      long = map_length flushed (weights_of s) ∙ weights_length s

      go : (b : Bool) → all_masked s ≡ b → cond b (tab (λ i. zero_f) (length s)) (weights_of s) ≡ map flushed (weights_of s)
      go true e =
          ext_get_or nan (tab (λ i. zero_f) (length s)) (map flushed (weights_of s)) (tab_length (λ i. zero_f) (length s) ∙ sym long)
          (λ i h. let l = subst (λ n. i < n) (tab_length (λ i. zero_f) (length s)) h in
          tab_at (λ i. zero_f) (length s) i nan l ∙ sym (at i l ∙ masked_weight (all_masked_law s e) i l))
      go false e =
          ext_get_or nan (weights_of s) (map flushed (weights_of s)) (sym (map_length flushed (weights_of s)))
          (λ i h. elim (some_or_none s few d f e) [
            | inl k ↦
                let I : Input s = record { few = few; domain = d; f32s = f; unmasked = k } in
                sym (map_at flushed (weights_of s) i h ∙ number_stays (get_or (weights_of s) i nan) ((softmax_facts s I).no_nan i h))
            | inr z ↦ absurd (empty i (weights_length s) z h)
          ])
