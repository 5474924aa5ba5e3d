-- Of n bands with remainders r, exactly L have fewer than L bands ahead of them, for any L ≤ n, and a threshold parts them from the others.
-- A place is a remainder and a band, (ρ, m): `count ρ m` is how many bands are ahead of it. From the last place, which none
-- is ahead of, to (0, n), which all are, the count grows by at most one a step, so it is L at some place: the threshold. Assumes nothing.
use Prim.Native.Nat.{ℕ, zero, suc, ◌+◌, ◌≤◌, ◌<◌}
use mathlib.Core.Path.{◌≡◌, sym, ap, ◌∙◌}
use mathlib.Core.Logic.{◌⊎◌, inl, inr, ⊎_elim}
use native.Mathlib.Omega.{arith}
use native.Mathlib.Decide.{dec_le}
use native.Mathlib.Nat.{eq-or-lt_of_le, le_of_eq}
use borrow.Author.Tests.{lt-ltb, le-ltb, eq-eqb, ne_eqb}
use Rattle.lists.specs.Lists.{sum_to}
use Rattle.lists.proofs.Sum.{sum_same, sum_le, sum_lt, sum_bound, sum_ones, sum_one}
use Rattle.parts.specs.Parts.{lt1, ahead}
use Rattle.parts.proofs.Bits.{by_lt, lt1_yes, lt1_no, lt1_small, lt1_mono}

-- a band is ahead where its remainder, one higher for a lower band, is the larger
pub ahead_is : (ρ m s j : ℕ) → ahead ρ m s j ≡ lt1 ρ (s + lt1 j m)
unfolding lt1 ahead
ahead_is ρ m s j =
    by_lt ρ s
    (λ p e. simp (lt-ltb ρ s p) (sym (lt1_yes {a = ρ} {b = s + lt1 j m} (omega arith))))
    (λ p e. ⊎_elim
    (λ (q : s ≡ ρ). simp (le-ltb ρ s p, eq-eqb ρ s (sym q)) (same q))
    (λ (q : s < ρ). simp (le-ltb ρ s p, ne_eqb ρ s (λ t. omega arith)) (sym (lt1_no {a = ρ} {b = s + lt1 j m} (omega (arith, lt1_small j m)))))
    (eq-or-lt_of_le p))
  where
    same : s ≡ ρ → lt1 j m ≡ lt1 ρ (s + lt1 j m)
    same q = by_lt j m
        (λ l e. e ∙ sym (lt1_yes {a = ρ} {b = s + lt1 j m} (omega arith)))
        (λ l e. e ∙ sym (lt1_no {a = ρ} {b = s + lt1 j m} (omega arith)))

module _ (n : ℕ) (r : ℕ → ℕ) where
  -- 1 where band j is ahead of the place (ρ, m)
  abbrev ahead_of : ℕ → ℕ → ℕ → ℕ
  ahead_of ρ m j = lt1 ρ (r j + lt1 j m)

  count : ℕ → ℕ → ℕ
  count ρ m = sum_to (ahead_of ρ m) n

  count_step : (ρ m : ℕ) → count ρ (suc m) ≤ count ρ m + 1
  unfolding count
  count_step ρ m = sum_one (ahead_of ρ (suc m)) (ahead_of ρ m) n m
      (omega (arith, lt1_small ρ (r m + lt1 m (suc m))))
      (λ j q. lt1_mono ρ (r j + lt1 j (suc m)) ρ (r j + lt1 j m) (omega (arith, tests j q)))
    where
      tests : (j : ℕ) → (j ≡ m → ⊥) → lt1 j (suc m) ≤ lt1 j m
      tests j q = by_lt j m (λ l e. omega (arith, lt1_small j (suc m))) (λ l e. omega (arith, lt1_no {a = j} {b = suc m} (omega arith)))

  count_wrap : (ρ : ℕ) → count ρ 0 ≤ count (suc ρ) n
  unfolding count
  count_wrap ρ = sum_le (ahead_of ρ 0) (ahead_of (suc ρ) n) n
      (λ j l. lt1_mono ρ (r j + lt1 j 0) (suc ρ) (r j + lt1 j n) (omega (arith, lt1_yes {a = j} {b = n} l, lt1_no {a = j} {b = 0} (omega arith))))

  count_all : n ≤ count 0 n
  unfolding count
  count_all = sum_ones (ahead_of 0 n) n (λ j l. lt1_yes {a = 0} {b = r j + lt1 j n} (omega (arith, lt1_yes {a = j} {b = n} l)))

  Place : ℕ → ℕ → Type 0
  Place T L = (ρ : ℕ) × (m : ℕ) × (ρ ≤ T) × (count ρ m ≡ L)

  row : (T L ρ : ℕ) → ρ ≤ T → count ρ 0 ≤ L → (m : ℕ) → L ≤ count ρ m → Place T L
  unfolding Place
  row T L ρ b lo zero hi = (ρ, zero, b, omega arith)
  row T L ρ b lo (suc m) hi = ⊎_elim
      (λ (e : L ≡ count ρ (suc m)). (ρ, suc m, b, sym e))
      (λ (l : L < count ρ (suc m)). row T L ρ b lo m (omega (arith, count_step ρ m)))
      (eq-or-lt_of_le hi)

  find : (T L : ℕ) → L ≤ n → (ρ : ℕ) → ρ ≤ T → count ρ 0 ≤ L → Place T L
  find T L fits zero b lo = row T L zero b lo n (omega (arith, count_all))
  find T L fits (suc ρ) b lo = elim (dec_le L (count (suc ρ) n)) [
    | yes p ↦ row T L (suc ρ) b lo n p
    | no p ↦ find T L fits ρ (omega arith) (omega (arith, count_wrap ρ))
  ]

  count_zero : (T : ℕ) → ((j : ℕ) → j < n → r j ≤ T) → count T 0 ≤ 0
  unfolding count
  count_zero T h =
      let none : (j : ℕ) → lt1 j 0 ≡ 0 = λ j. lt1_no {a = j} {b = 0} (omega arith) in
      omega (arith, sum_bound 0 (ahead_of T 0) n (λ j l. le_of_eq (lt1_no {a = T} {b = r j + lt1 j 0} (omega (arith, h j l, none j)))))

  -- how many bands are ahead of band i
  abbrev rank_of : ℕ → ℕ
  rank_of i = count (r i) i

  -- a band ahead of the place has fewer bands ahead of it than the place has, and any other at least as many
  first : (ρ m i : ℕ) → i < n → lt1 (rank_of i) (count ρ m) ≡ ahead_of ρ m i
  unfolding count
  first ρ m i b = by_lt ρ (r i + lt1 i m)
      (λ p e. lt1_yes {a = rank_of i} {b = count ρ m}
      (sum_lt (ahead_of (r i) i) (ahead_of ρ m) n i b (omega (arith, self, e)) (λ j l. fewer p j))
      ∙ sym e)
      (λ p e. lt1_no {a = rank_of i} {b = count ρ m} (sum_le (ahead_of ρ m) (ahead_of (r i) i) n (λ j l. more p j)) ∙ sym e)
    where
      self : lt1 (r i) (r i + lt1 i i) ≡ 0
      self = lt1_no {a = r i} {b = r i + lt1 i i} (omega (arith, lt1_no {a = i} {b = i} (omega arith)))

      fewer : ρ < r i + lt1 i m → (j : ℕ) → ahead_of (r i) i j ≤ ahead_of ρ m j
      fewer p j = lt1_mono (r i) (r j + lt1 j i) ρ (r j + lt1 j m)
          (by_lt i m
          (λ l e. omega (arith, lt1_mono j i j m (omega arith)))
          (λ l e. omega (arith, lt1_small j i)))

      more : r i + lt1 i m ≤ ρ → (j : ℕ) → ahead_of ρ m j ≤ ahead_of (r i) i j
      more p j = lt1_mono ρ (r j + lt1 j m) (r i) (r j + lt1 j i)
          (by_lt i m
          (λ l e. omega (arith, lt1_small j m))
          (λ l e. omega (arith, lt1_mono j m j i (omega arith))))

-- what a threshold ρ says of the bands and of the parts `b` that they get: L parts in all, a part only at a remainder of ρ or more, and
-- none only at one of ρ or less
pub record Threshold (n : ℕ) (r b : ℕ → ℕ) (T L : ℕ) : Type 0 where
  pub ρ : ℕ
  pub small : ρ ≤ T
  pub all : sum_to b n ≡ L
  pub each : (i : ℕ) → i < n → ((b i ≡ 1) × (ρ ≤ r i)) ⊎ ((b i ≡ 0) × (r i ≤ ρ))

pub threshold :
    (n : ℕ) (r : ℕ → ℕ) (T L : ℕ) → ((j : ℕ) → j < n → r j ≤ T) → L ≤ n
    → Threshold n r (λ i. lt1 (sum_to (λ j. lt1 (r i) (r j + lt1 j i)) n) L) T L
unfolding count Place
threshold n r T L h fits = go (find n r T L fits T (omega arith) (omega (arith, count_zero n r T h)))
  where
    go : Place n r T L → Threshold n r (λ i. lt1 (sum_to (λ j. lt1 (r i) (r j + lt1 j i)) n) L) T L
    go p = record {
      ρ = p.0;
      small = p.2;
      all = sum_same _ (ahead_of n r p.0 p.1) n (λ i l. is i l) ∙ p.3;
      each = λ i l. by_lt p.0 (r i + lt1 i p.1)
          (λ q e. inl (is i l ∙ e, omega (arith, lt1_small i p.1)))
          (λ q e. inr (is i l ∙ e, omega arith));
    }
      where
        is : (i : ℕ) → i < n → lt1 (sum_to (λ j. lt1 (r i) (r j + lt1 j i)) n) L ≡ ahead_of n r p.0 p.1 i
        is i l = ap (lt1 (rank_of n r i)) (sym p.3) ∙ first n r p.0 p.1 i l
