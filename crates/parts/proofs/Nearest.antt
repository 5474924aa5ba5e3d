-- The split's two laws: its gains add up to N, and no list of as many numbers that adds up to N is nearer to the exact shares.
-- With ρ the threshold, T d - r the error of d parts more than the whole part, and λ = T - 2 ρ, the error's size less λ d is least at the
-- split's own d, band by band; summed, the λ d are the same for both lists. Assumes nothing.
use Prim.Native.Nat.{ℕ, zero, suc, ◌+◌, ◌*◌, ◌≤◌, ◌<◌}
use mathlib.Core.Path.{◌≡◌, sym, ap, ◌∙◌}
use mathlib.Core.List.{List}
use mathlib.Core.Logic.{◌⊎◌, ⊎_elim}
use native.Mathlib.Omega.{arith}
use native.Mathlib.Decide.{dec_le}
use native.Mathlib.Nat.{mod-lt, le_of_mul-le-mul_left, mul-le-mul_right, le_dest}
use lib.ListN.{length}
use Rattle.lists.specs.Lists.{sum_to}
use Rattle.lists.proofs.Sum.{sum_same, sum_add, sum_bound}
use Rattle.lists.proofs.Tab.{tab_length, tab_at}
use Rattle.parts.specs.Parts.{at, total, apart, lt1, share, remainder, left, rank, gain, gains_over, distance_over}
use Rattle.parts.proofs.Shares.{split_at, split_all, shares_fit}
use Rattle.parts.proofs.Order.{ahead_is, Threshold, threshold}

-- g is no worse than x for one band, y being N a
abbrev Better : ℕ → ℕ → ℕ → ℕ → ℕ → Type 0
Better T ρ y g x = apart (T * g) y + T * x + 2 * ρ * g ≤ apart (T * x) y + T * g + 2 * ρ * x

-- q and r are y's quotient and remainder by T, q + b the split's gain, x any other
one_band_law : (T ρ r q b x y : ℕ) → T * q + r ≡ y → ρ ≤ T → r < T → ((b ≡ 1) × (ρ ≤ r)) ⊎ ((b ≡ 0) × (r ≤ ρ))
    → Better T ρ y (q + b) x
one_band_law T ρ r q b x y e s l w = elim (dec_le x q) [
  | yes p ↦ low (le_dest p)
  | no p ↦ high (le_dest {n = suc q} {m = x} (omega arith))
]
  where
    low : ((k : ℕ) × (x + k ≡ q)) → Better T ρ y (q + b) x
    low k =
        let t = ap (λ y. T * y) k.1 in
        let p = ap (λ y. ρ * y) k.1 in
        let m = mul-le-mul_right k.0 s in
        ⊎_elim
        (λ (v : (b ≡ 1) × (ρ ≤ r)). omega (arith, ap (λ y. T * y) v.0, ap (λ y. ρ * y) v.0))
        (λ (v : (b ≡ 0) × (r ≤ ρ)). omega (arith, ap (λ y. T * y) v.0, ap (λ y. ρ * y) v.0))
        w

    high : ((k : ℕ) × (suc q + k ≡ x)) → Better T ρ y (q + b) x
    high k =
        let t = ap (λ y. T * y) k.1 in
        let p = ap (λ y. ρ * y) k.1 in
        let m = mul-le-mul_right k.0 s in
        ⊎_elim
        (λ (v : (b ≡ 1) × (ρ ≤ r)). omega (arith, ap (λ y. T * y) v.0, ap (λ y. ρ * y) v.0))
        (λ (v : (b ≡ 0) × (r ≤ ρ)). omega (arith, ap (λ y. T * y) v.0, ap (λ y. ρ * y) v.0))
        w

-- the bands together
all_bands : (n c d : ℕ) (f f' g g' : ℕ → ℕ) → ((i : ℕ) → i < n → f i + c * g' i + d * g i ≤ f' i + c * g i + d * g' i)
    → sum_to f n + c * sum_to g' n + d * sum_to g n ≤ sum_to f' n + c * sum_to g n + d * sum_to g' n
unfolding sum_to
all_bands zero c d f f' g g' h = omega arith
all_bands (suc n) c d f f' g g' h = omega (arith, all_bands n c d f f' g g' (λ i l. h i (omega arith)), h n (omega arith))

module _ (N : ℕ) (a : List ℕ) (some : 0 < total a) where
  left_is : sum_to (share N a) (length a) + left N a ≡ N
  unfolding left
  left_is = omega (arith, shares_fit N a some)

  left_fits : left N a ≤ length a
  left_fits =
      let b = sum_bound (total a) (remainder N a) (length a) (λ i l. omega (arith, mod-lt (N * at a i) some)) in
      le_of_mul-le-mul_left (omega (arith, split_all N a some, ap (λ x. total a * x) left_is)) some

  rank_is : (i : ℕ) → rank N a i ≡ sum_to (λ j. lt1 (remainder N a i) (remainder N a j + lt1 j i)) (length a)
  unfolding rank
  rank_is i = sum_same _ _ (length a) (λ j l. ahead_is (remainder N a i) i (remainder N a j) j)

  -- the part more that band i gets
  more : ℕ → ℕ
  more i = lt1 (sum_to (λ j. lt1 (remainder N a i) (remainder N a j + lt1 j i)) (length a)) (left N a)

  gain_is : (i : ℕ) → gain N a i ≡ share N a i + more i
  unfolding gain more
  gain_is i = ap (λ x. share N a i + lt1 x (left N a)) (rank_is i)

  cut : Threshold (length a) (remainder N a) more (total a) (left N a)
  unfolding more
  cut = threshold (length a) (remainder N a) (total a) (left N a) (λ j l. omega (arith, mod-lt (N * at a j) some)) left_fits

  gains_sum : sum_to (gain N a) (length a) ≡ N
  gains_sum =
      sum_same _ _ (length a) (λ i l. gain_is i)
      ∙ sum_add (share N a) more (length a)
      ∙ ap (λ x. sum_to (share N a) (length a) + x) cut.all
      ∙ left_is

  pub gains_length : length (gains_over N a) ≡ length a
  unfolding gains_over
  gains_length = tab_length (gain N a) (length a)

  pub gains_at : (i : ℕ) → i < length a → at (gains_over N a) i ≡ gain N a i
  unfolding gains_over
  gains_at i l = tab_at (gain N a) (length a) i 0 l

  -- the gains add up to N
  pub gains_total : total (gains_over N a) ≡ N
  unfolding total
  gains_total = ap (sum_to (at (gains_over N a))) gains_length ∙ sum_same _ _ (length a) gains_at ∙ gains_sum

  -- no list of as many gains with that total is nearer
  pub gains_nearest : (g : List ℕ) → length g ≡ length a → total g ≡ N → distance_over N a (gains_over N a) ≤ distance_over N a g
  unfolding distance_over total
  gains_nearest g len sum =
      let b = all_bands (length a) (total a) (2 * cut.ρ) (off (at (gains_over N a))) (off (at g)) (at (gains_over N a)) (at g) bands in
      omega (
        arith,
        ap (λ x. total a * x) mine,
        ap (λ x. total a * x) its,
        ap (λ x. cut.ρ * x) mine,
        ap (λ x. cut.ρ * x) its,
      )
    where
      off : (ℕ → ℕ) → ℕ → ℕ
      off g i = apart (total a * g i) (N * at a i)

      mine : sum_to (at (gains_over N a)) (length a) ≡ N
      mine = sum_same _ _ (length a) gains_at ∙ gains_sum

      its : sum_to (at g) (length a) ≡ N
      its = ap (sum_to (at g)) (sym len) ∙ sum

      bands : (i : ℕ) → i < length a → Better (total a) cut.ρ (N * at a i) (at (gains_over N a) i) (at g i)
      bands i l =
          rw (gains_at i l, gain_is i)
          (one_band_law (total a) cut.ρ (remainder N a i) (share N a i) (more i) (at g i) (N * at a i) (split_at N a some i) cut.small
          (mod-lt (N * at a i) some) (cut.each i l))
