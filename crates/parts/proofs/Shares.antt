-- The whole parts fit, and a band's gain as the code works it out. Assumes nothing.
use Prim.Native.Nat.{ℕ, zero, suc, ◌+◌, ◌-◌, ◌*◌, ◌≤◌, ◌<◌}
use mathlib.Core.Path.{◌≡◌, sym, ap, ap₂, ◌∙◌}
use mathlib.Core.List.{List}
use native.Mathlib.Omega.{arith}
use native.Mathlib.Nat.{div-add-mod, le_of_mul-le-mul_left, le_trans, mul-le-mul}
use lib.Dec.{ltb}
use lib.ListN.{length}
use mir.Val.{bool_byte}
use Rattle.lists.specs.Lists.{sum_to, tab}
use Rattle.lists.proofs.Sum.{sum_same, sum_term}
use Rattle.lists.proofs.Tab.{tab_at, tab_length}
use Rattle.parts.specs.Parts.{at, total, lt1, share, remainder, left, ahead, rank, gain, most, key, above_in}
use Rattle.parts.proofs.Bits.{by_lt, lt1_same, as_bit}
use Rattle.parts.proofs.Order.{ahead_is}

balance : (n c N : ℕ) (q r a : ℕ → ℕ) → ((i : ℕ) → c * q i + r i ≡ N * a i) → c * sum_to q n + sum_to r n ≡ N * sum_to a n
unfolding sum_to
balance zero c N q r a h = omega arith
balance (suc n) c N q r a h = omega (arith, balance n c N q r a h, h n)

module _ (N : ℕ) (a : List ℕ) (some : 0 < total a) where
  -- a band's quotient and remainder, and all of them together
  pub split_at : (i : ℕ) → total a * share N a i + remainder N a i ≡ N * at a i
  split_at i = div-add-mod (N * at a i) (total a)

  pub split_all : total a * sum_to (share N a) (length a) + sum_to (remainder N a) (length a) ≡ N * total a
  unfolding total
  split_all = balance (length a) (total a) N (share N a) (remainder N a) (at a) split_at

  pub shares_fit : sum_to (share N a) (length a) ≤ N
  shares_fit = le_of_mul-le-mul_left (omega (arith, split_all)) some

  pub share_fits : (i : ℕ) → i < length a → share N a i ≤ N
  share_fits i l = le_trans (sum_term (share N a) (length a) i l) shares_fit

  -- a list of the whole parts
  module _ {g : List ℕ} (e : g ≡ tab (share N a) (length a)) where
    pub shares_length : length g ≡ length a
    shares_length = ap length e ∙ tab_length (share N a) (length a)

    pub shares_at : (i : ℕ) → i < length a → at g i ≡ share N a i
    shares_at i h = ap (λ l. at l i) e ∙ tab_at (share N a) (length a) i 0 h

-- ---- for the code
-- so many parts times a number of 32 bits
pub product_small : {n w : ℕ} → n < 65535 → w < 4294967296 → n * w ≤ 65535 * 4294967296
product_small h l = mul-le-mul {n₂ = 65535} {m₂ = 4294967296} (omega arith) (omega arith)

-- the larger key is ahead
key_ahead : (r i s j : ℕ) → i < most → j < most → lt1 (most * r + (most - 1 - i)) (most * s + (most - 1 - j)) ≡ ahead r i s j
key_ahead r i s j l m =
    lt1_same (most * r + (most - 1 - i)) (most * s + (most - 1 - j)) r (s + lt1 j i)
    (λ p. by_lt j i (λ q e. omega arith) (λ q e. omega arith))
    (λ p. by_lt j i (λ q e. omega arith) (λ q e. omega arith))
    ∙ sym (ahead_is r i s j)

-- the rank, by a list that holds the keys
rank_by : (N : ℕ) (a ks : List ℕ) → length a ≤ most → ((k : ℕ) → k < length a → at ks k ≡ key N a k) → (i : ℕ) → i < length a
    → sum_to (above_in ks i) (length a) ≡ rank N a i
unfolding rank above_in
rank_by N a ks few h i l =
    sum_same _ _ (length a) (λ j m. ap₂ lt1 (h i l) (h j m) ∙ key_ahead (remainder N a i) i (remainder N a j) j (omega arith) (omega arith))

-- the gain, by such a list: the whole part q, the rank k and the parts left over l
pub gain_is : (N : ℕ) (a ks : List ℕ) → length a ≤ most → ((k : ℕ) → k < length a → at ks k ≡ key N a k) → (i : ℕ) → i < length a
    → {q k l : ℕ} → q ≡ share N a i → k ≡ sum_to (above_in ks i) (length a) → l ≡ N - sum_to (share N a) (length a) → q + lt1 k l ≡ gain N a i
unfolding gain left
gain_is N a ks few h i m e r f = ap₂ ◌+◌ e (ap₂ lt1 (r ∙ rank_by N a ks few h i m) f)

-- the gain, from what the code has at hand: the keys as a list of their own, and l the sum of the whole parts
pub gain_made : (N : ℕ) (a ks : List ℕ) → length a ≤ most → ks ≡ tab (key N a) (length a) → (i : ℕ) → i < length a → {q k l : ℕ} → q ≡ share N a i
    → k ≡ sum_to (above_in ks i) (length ks) → l ≡ sum_to (share N a) (length a) → q + bool_byte (ltb k (N - l)) ≡ gain N a i
unfolding lt1
gain_made N a ks few keyed i h {q} {k} {l} e r f =
    ap (λ u. q + u) (as_bit (ltb k (N - l)))
    ∙ gain_is N a ks few (λ j m. ap (λ u. at u j) keyed ∙ tab_at (key N a) (length a) j 0 m) i h e
    (r ∙ ap (sum_to (above_in ks i)) (ap length keyed ∙ tab_length (key N a) (length a))) (ap (λ u. N - u) f)
