-- N parts over the bands of a list of whole numbers, in the shares of its numbers (RULES, Split). Definitions only.
use Rattle.std.specs.Prelude.{ℕ, ◌+◌, ◌-◌, ◌*◌, ◌/◌, ◌%◌, ◌||◌, ◌&&◌, List, ltb, eqb, length, get_or}
use Rattle.lists.specs.Lists.{sum_to, bit, tab}

abbrev pub at : List ℕ → ℕ → ℕ
at xs i = get_or xs i 0

-- the sum of a list; T of RULES, Split, for the list a
unfoldable pub total : List ℕ → ℕ
total xs = sum_to (at xs) (length xs)

-- 1 where a < b, else 0
unfoldable pub lt1 : ℕ → ℕ → ℕ
lt1 a b = bit (ltb a b)

-- |x - y|
abbrev pub apart : ℕ → ℕ → ℕ
apart x y = (x - y) + (y - x)

module _ (N : ℕ) (a : List ℕ) where
  -- the whole part of band i's exact share, N a / T, and the remainder of N a by T
  abbrev pub share : ℕ → ℕ
  share i = (N * at a i) / total a

  abbrev pub remainder : ℕ → ℕ
  remainder i = (N * at a i) % total a

  -- the parts left over
  unfoldable pub left : ℕ
  left = N - sum_to share (length a)

-- 1 where band j with the remainder s is ahead of band i with the remainder r: a larger remainder, or an equal one and a lower band
unfoldable pub ahead : ℕ → ℕ → ℕ → ℕ → ℕ
ahead r i s j = bit (ltb r s || (eqb r s && ltb j i))

module _ (N : ℕ) (a : List ℕ) where
  -- how many bands are ahead of band i
  unfoldable pub rank : ℕ → ℕ
  rank i = sum_to (λ j. ahead (remainder N a i) i (remainder N a j) j) (length a)

  -- its whole part, and one part more where fewer bands are ahead of it than there are parts left over
  unfoldable pub gain : ℕ → ℕ
  gain i = share N a i + lt1 (rank i) (left N a)

  unfoldable pub gains_over : List ℕ
  gains_over = tab gain (length a)

  -- the sum of |T g - N a| over the bands
  unfoldable pub distance_over : List ℕ → ℕ
  distance_over g = sum_to (λ i. apart (total a * at g i) (N * at a i)) (length a)

-- ---- for the code
-- the most bands
abbrev pub most : ℕ
most = 64

-- remainder and band in one number: of bands below `most` one is ahead of another where its key is the larger
abbrev pub key : ℕ → List ℕ → ℕ → ℕ
key N a i = most * remainder N a i + (most - 1 - i)

-- 1 where the key of band j is above that of band i, by a list of the keys
unfoldable pub above_in : List ℕ → ℕ → ℕ → ℕ
above_in ks i j = lt1 (at ks i) (at ks j)
