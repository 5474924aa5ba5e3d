-- The ordered sum of values from 0 to 1: at most their count, and at least 1 where one of them is 1. Assumes nothing.
use mathlib.Core.Path.{◌≡◌, refl, sym, subst}
use mathlib.Core.Logic.{◌⊎◌, inl, inr}
use mathlib.Core.List.{List, [], ◌∷◌, foldl}
use Prim.Native.Nat.{ℕ, zero, suc, ◌+◌, ◌^◌, ◌≤◌}
use native.Mathlib.Nat.{add-zero, not-suc-le-zero, le_of_suc-le-suc}
use native.Mathlib.Omega.{arith}
use mathlib.Core.Bool.{false}
use lib.Dec.{T}
use lib.ListN.{length}
use lib.Pow.{pow_pos}
use lib.Ieee.{Float, binary32, round, add, le, of_bits}
use lib.Ieee.Back.{round_whole}
use lib.Ieee.Exact.{HasValue}
use lib.Ieee.Scale.{finite}
use Rattle.floats.specs.Values.{zero_f, one_f}
use Rattle.floats.proofs.Values.{one_value}
use Rattle.floats.proofs.Sign.{finite_number}
use Rattle.floats.proofs.Order.{le_trans_f, le_refl_f}
use Rattle.floats.proofs.Monotone.{add_mono}
use Rattle.floats.proofs.Exact.{value_finite, add_same}
use Rattle.floats.specs.Each.{Each, Some}
use Rattle.floats.proofs.Each.{each_first, each_rest}
use Rattle.floats.specs.Between.{Between}
use Rattle.floats.proofs.Between.{between_finite}
use Rattle.sum.specs.Sum.{sum_from}
use Rattle.softmax.specs.Softmax.{sum_of}
use Rattle.softmax_facts.specs.SoftmaxFacts.{count_f}

pub count_value : (n : ℕ) → n ≤ 2 ^ 24 → HasValue (count_f n) false n 1
count_value n h = round_whole binary32 false n h

pub count_finite : (n : ℕ) → n ≤ 2 ^ 24 → T (finite (count_f n))
count_finite n h = value_finite (count_f n) false n 1 (count_value n h)

-- ---- computed
ends : T (finite zero_f) × T (finite one_f)
unfolding of_bits
ends = (tt, tt)

sums : T (le zero_f (add binary32 zero_f zero_f)) × T (le one_f (add binary32 one_f zero_f)) × T (le one_f (add binary32 zero_f one_f))
unfolding add le of_bits
sums = (tt, tt, tt)

start : Between zero_f (count_f 0) zero_f
unfolding round le of_bits
start = (tt, tt)

-- ---- one term more
abbrev Unit01 : Float → Type 0
Unit01 e = Between zero_f one_f e

count_more : (i : ℕ) → i ≤ 2 ^ 24 → add binary32 (count_f i) one_f ≡ count_f (i + 1)
count_more i h = add_same binary32 (count_f i) one_f false i 1 1 (pow_pos 0) (count_value i h) one_value

module _ (i : ℕ) (s e : Float) (h : i ≤ 2 ^ 24) (b : Between zero_f (count_f i) s) (c : Unit01 e) where
  s_finite : T (finite s)
  s_finite = between_finite zero_f (count_f i) s ends.0 (count_finite i h) b

  e_finite : T (finite e)
  e_finite = between_finite zero_f one_f e ends.0 ends.1 c

  more : Between zero_f (count_f (i + 1)) (add binary32 s e)
  more = (
    le_trans_f zero_f (add binary32 zero_f zero_f) (add binary32 s e) sums.0
        (add_mono binary32 zero_f s zero_f e ends.0 s_finite ends.0 e_finite b.0 c.0),
    subst (λ (w : Float). T (le (add binary32 s e) w)) (count_more i h)
        (add_mono binary32 s (count_f i) e one_f s_finite (count_finite i h) e_finite ends.1 b.1 c.1),
  )

  -- where the held sum is 1 at least, or the new term is 1
  from_held : T (le one_f s) → T (le one_f (add binary32 s e))
  from_held p =
      le_trans_f one_f (add binary32 one_f zero_f) (add binary32 s e) sums.1
      (add_mono binary32 one_f s zero_f e ends.1 s_finite ends.0 e_finite p c.0)

  from_term : e ≡ one_f → T (le one_f (add binary32 s e))
  from_term p =
      le_trans_f one_f (add binary32 zero_f one_f) (add binary32 s e) sums.2
      (add_mono binary32 zero_f s one_f e ends.0 s_finite ends.1 e_finite b.0
      (subst (λ (w : Float). T (le one_f w)) (sym p) (le_refl_f one_f (finite_number one_f ends.1))))

-- ---- the fold
abbrev IsOne : Float → Type 0
IsOne e = e ≡ one_f

some_rest : (e : Float) (es : List Float) → Some IsOne (e ∷ es) → IsOne e ⊎ Some IsOne es
some_rest e es (zero, h, p) = inl p
some_rest e es (suc i, h, p) = inr (i, le_of_suc-le-suc h, p)

-- t is the sum of i terms in s and of those in es
abbrev Totals : ℕ → Float → List Float → Float → Type 0
Totals i s es t = Between zero_f (count_f (i + length es)) t × (T (le one_f s) ⊎ Some IsOne es → T (le one_f t))

fold_between : (es : List Float) (i : ℕ) (s : Float) → i + length es ≤ 2 ^ 24 → Between zero_f (count_f i) s → Each Unit01 es
    → Totals i s es (foldl (add binary32) s es)
fold_between [] i s h b c = (subst (λ (k : ℕ). Between zero_f (count_f k) s) (sym (add-zero i)) b, none)
  where
    none : T (le one_f s) ⊎ Some IsOne [] → T (le one_f s)
    none (inl p) = p
    none (inr p) = absurd (not-suc-le-zero p.1)
fold_between (e ∷ es) i s h b c =
    let k : i ≤ 2 ^ 24 = omega arith in
    let first = each_first Unit01 e es c in
    let same : i + 1 + length es ≡ i + suc (length es) = omega arith in
    let r = fold_between es (i + 1) (add binary32 s e) (omega arith) (more i s e k b first) (each_rest Unit01 e es c) in (
      subst (λ (k : ℕ). Between zero_f (count_f k) (foldl (add binary32) (add binary32 s e) es)) same r.0,
      λ (d : T (le one_f s) ⊎ Some IsOne (e ∷ es)). r.1 (elim d [
        | inl p ↦ inl (from_held i s e k b first p)
        | inr p ↦ elim (some_rest e es p) [ inl q ↦ inl (from_term i s e k b first q) | inr q ↦ inr q ]
      ]),
    )

pub sum_fold : (es : List Float) → sum_of es ≡ foldl (add binary32) zero_f es
unfolding sum_of sum_from
sum_fold es = refl

module _ (es : List Float) (h : length es ≤ 2 ^ 24) (c : Each (Between zero_f one_f) es) where
  fold : Totals 0 zero_f es (foldl (add binary32) zero_f es)
  fold = fold_between es 0 zero_f (omega arith) start c

  pub sum_between : Between zero_f (count_f (length es)) (sum_of es)
  sum_between =
      let same : 0 + length es ≡ length es = omega arith in
      rw (sum_fold es) (subst (λ (k : ℕ). Between zero_f (count_f k) (foldl (add binary32) zero_f es)) same fold.0)

  pub sum_from_law : Some (λ e. e ≡ one_f) es → T (le one_f (sum_of es))
  sum_from_law p = rw (sum_fold es) (fold.1 (inr p))
