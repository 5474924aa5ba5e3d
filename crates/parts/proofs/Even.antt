-- Equal numbers: whatever x above 0 they are, band i of n gets N / n, and one part more below N % n. Assumes nothing.
use Prim.Native.Nat.{ℕ, zero, suc, min, ◌+◌, ◌*◌, ◌/◌, ◌%◌, ◌<◌}
use mathlib.Core.Path.{◌≡◌, sym, ap, ap₂, ◌∙◌}
use mathlib.Core.List.{List}
use native.Mathlib.Omega.{arith}
use native.Mathlib.Nat.{mul-div-mul_right, div-add-mod}
use lib.ListN.{length, replicate, length-replicate, get_or-replicate}
use Rattle.lists.specs.Lists.{sum_to, tab}
use Rattle.lists.proofs.Sum.{sum_same, sum_const}
use Rattle.lists.proofs.Tab.{tab_same}
use Rattle.parts.specs.Parts.{at, total, lt1, share, remainder, left, ahead, rank, gain, gains_over}
use Rattle.parts.proofs.Bits.{by_lt, lt1_yes, lt1_no}
use Rattle.parts.proofs.Order.{ahead_is}

sum_below : (n i : ℕ) → sum_to (λ j. lt1 j i) n ≡ min n i
unfolding sum_to
sum_below zero i = omega arith
sum_below (suc n) i = by_lt n i (λ l e. omega (arith, sum_below n i)) (λ l e. omega (arith, sum_below n i))

-- of equal remainders the lower band is ahead
ahead_same : (r i j : ℕ) → ahead r i r j ≡ lt1 j i
ahead_same r i j = ahead_is r i r j ∙ by_lt j i
    (λ l e. lt1_yes {a = r} {b = r + lt1 j i} (omega arith) ∙ sym e)
    (λ l e. lt1_no {a = r} {b = r + lt1 j i} (omega arith) ∙ sym e)

abbrev evens : ℕ → ℕ → List ℕ
evens n x = replicate n x

module _ (n x : ℕ) where
  evens_length : length (evens n x) ≡ n
  evens_length = length-replicate n x

  evens_at : (i : ℕ) → i < n → at (evens n x) i ≡ x
  evens_at i l = get_or-replicate n i x 0 l

  over_evens : (f : ℕ → ℕ) (c : ℕ) → ((i : ℕ) → i < n → f i ≡ c) → sum_to f (length (evens n x)) ≡ n * c
  over_evens f c h = ap (sum_to f) evens_length ∙ sum_same f (λ i. c) n h ∙ sum_const c n

  pub evens_total : total (evens n x) ≡ n * x
  unfolding total
  evens_total = over_evens (at (evens n x)) x evens_at

module _ (N n x : ℕ) (some : 0 < x) where
  evens_share : (i : ℕ) → i < n → share N (evens n x) i ≡ N / n
  evens_share i l = ap₂ (λ u v. (N * u) / v) (evens_at n x i l) (evens_total n x) ∙ mul-div-mul_right N n some

  evens_left : left N (evens n x) ≡ N % n
  unfolding left
  evens_left = omega (arith, over_evens n x (share N (evens n x)) (N / n) evens_share, div-add-mod N n)

  evens_remainder : (i j : ℕ) → i < n → j < n → remainder N (evens n x) j ≡ remainder N (evens n x) i
  evens_remainder i j l m = ap (λ u. (N * u) % total (evens n x)) (evens_at n x j m ∙ sym (evens_at n x i l))

  evens_rank : (i : ℕ) → i < n → rank N (evens n x) i ≡ i
  unfolding rank
  evens_rank i l =
      let r = remainder N (evens n x) i in
      ap (sum_to (λ j. ahead r i (remainder N (evens n x) j) j)) (evens_length n x)
      ∙ sum_same _ (λ j. lt1 j i) n (λ j m. ap (λ u. ahead r i u j) (evens_remainder i j l m) ∙ ahead_same r i j)
      ∙ sum_below n i
      ∙ omega arith

  evens_gain : (i : ℕ) → i < n → gain N (evens n x) i ≡ N / n + lt1 i (N % n)
  unfolding gain
  evens_gain i l = ap₂ ◌+◌ (evens_share i l) (ap₂ lt1 (evens_rank i l) evens_left)

  pub evens_gains : gains_over N (evens n x) ≡ tab (λ i. N / n + lt1 i (N % n)) n
  unfolding gains_over
  evens_gains = ap (tab (gain N (evens n x))) (evens_length n x) ∙ tab_same _ _ n evens_gain
