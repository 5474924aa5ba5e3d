-- A band of 0 steps gets no part: its remainder is 0, and as many bands as there are parts left over have a larger one. Assumes nothing.
use Prim.Native.Nat.{ℕ, ◌+◌, ◌*◌, ◌≤◌, ◌<◌}
use mathlib.Core.Path.{◌≡◌, ap, ap₂, ◌∙◌}
use mathlib.Core.List.{List}
use native.Mathlib.Nat.{mod-lt, mul-zero, le_of_mul-le-mul_left}
use native.Mathlib.Omega.{arith}
use lib.ListN.{length}
use Rattle.lists.specs.Lists.{sum_to}
use Rattle.lists.proofs.Sum.{sum_le, sum_times}
use Rattle.parts.specs.Parts.{at, total, lt1, share, remainder, left, ahead, rank, gain}
use Rattle.parts.proofs.Bits.{by_lt, lt1_no, lt1_mono}
use Rattle.parts.proofs.Shares.{split_at, split_all, shares_fit}
use Rattle.parts.proofs.Order.{ahead_is}

module _ (N : ℕ) (a : List ℕ) (some : 0 < total a) (i : ℕ) (none : at a i ≡ 0) where
  -- 1 where band j has a remainder
  abbrev more : ℕ → ℕ
  more j = lt1 0 (remainder N a j)

  no_product : N * at a i ≡ 0
  no_product = ap (λ x. N * x) none ∙ mul-zero N

  no_share : share N a i ≡ 0
  no_share =
      let z : share N a i ≤ 0 = le_of_mul-le-mul_left {k = total a} (omega (arith, split_at N a some i, no_product)) some in
      omega arith

  no_remainder : remainder N a i ≡ 0
  no_remainder = omega (arith, split_at N a some i, no_product)

  -- the bands with a remainder are ahead of it
  ahead_of : sum_to more (length a) ≤ rank N a i
  unfolding rank
  ahead_of =
      sum_le more (λ j. ahead (remainder N a i) i (remainder N a j) j) (length a)
      (λ j l. omega (
        arith,
        ahead_is (remainder N a i) i (remainder N a j) j,
        lt1_mono 0 (remainder N a j) (remainder N a i) (remainder N a j + lt1 j i) (omega (arith, no_remainder)),
      ))

  -- and there are as many as parts left over
  enough : left N a ≤ sum_to more (length a)
  unfolding left
  enough =
      let b = sum_le (remainder N a) (λ j. total a * more j) (length a)
      (λ j l. by_lt 0 (remainder N a j)
      (λ p e. omega (arith, mod-lt (N * at a j) some, ap (λ x. total a * x) e))
      (λ p e. omega arith)) in
      let e : sum_to (share N a) (length a) + left N a ≡ N = omega (arith, shares_fit N a some) in
      le_of_mul-le-mul_left {k = total a}
      (omega (arith, b, sum_times (total a) more (length a), split_all N a some, ap (λ x. total a * x) e)) some

  pub zero_gain : gain N a i ≡ 0
  unfolding gain
  zero_gain = ap₂ ◌+◌ no_share (lt1_no {a = rank N a i} {b = left N a} (omega (arith, ahead_of, enough)))
