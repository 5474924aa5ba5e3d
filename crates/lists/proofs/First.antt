-- The first place that fails a test: to it, from the places that a search has passed, and back. Assumes nothing.
use Prim.Native.Nat.{ℕ, zero, suc, ◌+◌, ◌≤◌, ◌<◌}
use mathlib.Core.Path.{◌≡◌, refl, sym, ap}
use mathlib.Core.Bool.{Bool, true, false, cond, not, ◌||◌, true≢false}
use native.Mathlib.Omega.{arith}
use borrow.Author.Count.{below_none, below_more}
use borrow.Author.Tests.{le-leb, lt-leb, leb-true}
use lib.Dec.{leb}
use Rattle.lists.specs.Lists.{first_not}

-- p passes every place below i. (The kit's `below_none` and `below_more` are its laws in a loop.)
abbrev pub Passed : (ℕ → Bool) → ℕ → Type 0
Passed p i = (k : ℕ) → k < i → p k ≡ true

-- the search stopped at i
pub first_at : (p : ℕ → Bool) (n i : ℕ) → i < n → Passed p i → p i ≡ false → i ≡ first_not p n
unfolding first_not
first_at p zero i h b e = absurd (omega arith)
first_at p (suc n) zero h b e = simp e
first_at p (suc n) (suc i) h b e =
    rw (b 0 (omega arith)) (ap suc (first_at (λ k. p (suc k)) n i (omega arith) (λ k g. b (suc k) (omega arith)) e))

-- the search came to the end
pub first_end : (p : ℕ → Bool) (n i : ℕ) → i ≤ n → n ≤ i → Passed p i → i ≡ first_not p n
unfolding first_not
first_end p zero i h k b = omega arith
first_end p (suc n) zero h k b = absurd (omega arith)
first_end p (suc n) (suc i) h k b =
    rw (b 0 (omega arith)) (ap suc (first_end (λ j. p (suc j)) n i (omega arith) (omega arith) (λ j g. b (suc j) (omega arith))))

-- below the first failure p passes
pub first_passed : (p : ℕ → Bool) (n : ℕ) → Passed p (first_not p n)
unfolding first_not
first_passed p zero = below_none (λ k. p k ≡ true)
first_passed p (suc n) = step p (p 0) (first_not (λ k. p (suc k)) n) refl (first_passed (λ k. p (suc k)) n)
  where
    step : (p : ℕ → Bool) (b : Bool) (m : ℕ) → p 0 ≡ b → Passed (λ k. p (suc k)) m → Passed p (cond b (suc m) 0)
    step p false m e r k h = absurd (omega arith)
    step p true m e r zero h = e
    step p true m e r (suc k) h = r k (omega arith)

-- at it, where it lies below n, p fails
pub first_fails : (p : ℕ → Bool) (n : ℕ) → first_not p n < n → p (first_not p n) ≡ false
unfolding first_not
first_fails p zero h = absurd (omega arith)
first_fails p (suc n) h = step p (p 0) (first_not (λ k. p (suc k)) n) n refl (first_fails (λ k. p (suc k)) n) h
  where
    step : (p : ℕ → Bool) (b : Bool) (m n : ℕ) → p 0 ≡ b → (m < n → p (suc m) ≡ false) → cond b (suc m) 0 < suc n → p (cond b (suc m) 0) ≡ false
    step p false m n e r h = e
    step p true m n e r h = r (omega arith)

-- where none fails, p passes every place
pub first_clear : (p : ℕ → Bool) (n : ℕ) → n ≤ first_not p n → Passed p n
first_clear p n h k l = first_passed p n k (omega arith)

pub first_le : (p : ℕ → Bool) (n : ℕ) → first_not p n ≤ n
unfolding first_not
first_le p zero = omega arith
first_le p (suc n) = step (p 0) (first_le (λ k. p (suc k)) n)
  where
    step : (b : Bool) {m n : ℕ} → m ≤ n → cond b (suc m) 0 ≤ suc n
    step true h = omega arith
    step false h = omega arith

-- that none fails, as a test: from what a search has passed, and back
pub all_pass : (p : ℕ → Bool) (n i : ℕ) → i ≤ n → n ≤ i → Passed p i → true ≡ leb n (first_not p n)
all_pass p n i h k b = let e = first_end p n i h k b in sym (le-leb n (first_not p n) (omega arith))

pub one_fails : (p : ℕ → Bool) (n i : ℕ) → i < n → Passed p i → p i ≡ false → false ≡ leb n (first_not p n)
one_fails p n i h b f = let e = first_at p n i h b f in sym (lt-leb n (first_not p n) (omega arith))

pub passes : (p : ℕ → Bool) (n : ℕ) → leb n (first_not p n) ≡ true → Passed p n
passes p n h = first_clear p n (leb-true n (first_not p n) h)

-- tests that agree below n fail at the same place
pub first_same : (p q : ℕ → Bool) (n : ℕ) → ((k : ℕ) → k < n → p k ≡ q k) → first_not p n ≡ first_not q n
unfolding first_not
first_same p q zero h = refl
first_same p q (suc n) h =
    rw (h 0 (omega arith), first_same (λ k. p (suc k)) (λ k. q (suc k)) n (λ k l. h (suc k) (omega arith)))

-- a look that never ends early: where it has seen no failure, p passes every place below i
abbrev pub Looked : (ℕ → Bool) → Bool → ℕ → Type 0
Looked p bad i = bad ≡ false → Passed p i

pub looked_none : (p : ℕ → Bool) {bad : Bool} → Looked p bad 0
looked_none p e = below_none (λ k. p k ≡ true)

-- a turn that tests for a failure, and one that tests for a pass
pub looked_by : (p : ℕ → Bool) (bad fails : Bool) (i : ℕ) → Looked p bad i → not fails ≡ p i → Looked p (bad || fails) (i + 1)
looked_by p true fails i l e h = absurd (true≢false h)
looked_by p false true i l e h = absurd (true≢false h)
looked_by p false false i l e h = below_more (λ k. p k ≡ true) i (l refl) (sym e)

pub looked_more : (p : ℕ → Bool) (bad ok : Bool) (i : ℕ) → Looked p bad i → ok ≡ p i → Looked p (bad || not ok) (i + 1)
looked_more p bad true i l e = looked_by p bad false i l e
looked_more p bad false i l e = looked_by p bad true i l e

pub looked_end : (p : ℕ → Bool) (bad : Bool) (n i : ℕ) → Looked p bad i → n ≤ i → Looked p bad n
looked_end p bad n i l h e k m = l e k (omega arith)
