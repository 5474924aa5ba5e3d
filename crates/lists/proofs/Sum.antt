-- Laws of sums by index. Assumes nothing.
use Prim.Native.Nat.{ℕ, zero, suc, ◌+◌, ◌*◌, ◌≤◌, ◌<◌}
use mathlib.Core.Path.{◌≡◌, refl, sym, ap, ap₂, ◌∙◌}
use mathlib.Core.Bool.{Bool, true, false}
use mathlib.Core.Logic.{◌⊎◌, inl, inr, ⊎_elim}
use mathlib.Core.List.{List, ◌++◌}
use native.Mathlib.Decide.{dec_lt}
use native.Mathlib.Nat.{add-zero, add-suc, add_assoc, mul-zero, eq-or-lt_of_le, le_of_suc-le-suc}
use native.Mathlib.Numerals.{add-one}
use native.Mathlib.Omega.{arith}
use lib.ListN.{length, get_or, length-append, get_or-append}
use lib.Seq.{get_or-append-add}
use Rattle.lists.specs.Lists.{sum_to, bit}

pub sum_none : (f : ℕ → ℕ) → 0 ≡ sum_to f 0
unfolding sum_to
sum_none f = refl

-- a turn of a loop that adds
pub sum_more : (f : ℕ → ℕ) (i a x : ℕ) → a ≡ sum_to f i → x ≡ f i → a + x ≡ sum_to f (i + 1)
unfolding sum_to
sum_more f i a x p q = rw (p, q, add-one)

pub sum_same : (f g : ℕ → ℕ) (n : ℕ) → ((i : ℕ) → i < n → f i ≡ g i) → sum_to f n ≡ sum_to g n
unfolding sum_to
sum_same f g zero h = refl
sum_same f g (suc n) h = ap₂ ◌+◌ (sum_same f g n (λ i l. h i (omega arith))) (h n (omega arith))

pub sum_le : (f g : ℕ → ℕ) (n : ℕ) → ((i : ℕ) → i < n → f i ≤ g i) → sum_to f n ≤ sum_to g n
unfolding sum_to
sum_le f g zero h = omega arith
sum_le f g (suc n) h = omega (arith, sum_le f g n (λ i l. h i (omega arith)), h n (omega arith))

-- one term is larger, and none is smaller
pub sum_lt : (f g : ℕ → ℕ) (n i : ℕ) → i < n → f i < g i → ((j : ℕ) → j < n → f j ≤ g j) → sum_to f n < sum_to g n
unfolding sum_to
sum_lt f g zero i l s h = omega arith
sum_lt f g (suc n) i l s h =
    ⊎_elim
    (λ (e : i ≡ n). omega (arith, ap f e, ap g e, sum_le f g n (λ j k. h j (omega arith))))
    (λ (k : i < n). omega (arith, sum_lt f g n i k s (λ j k. h j (omega arith)), h n (omega arith)))
    (eq-or-lt_of_le (le_of_suc-le-suc l))

pub sum_add : (f g : ℕ → ℕ) (n : ℕ) → sum_to (λ i. f i + g i) n ≡ sum_to f n + sum_to g n
unfolding sum_to
sum_add f g zero = refl
sum_add f g (suc n) = omega (arith, sum_add f g n)

pub sum_const : (c n : ℕ) → sum_to (λ i. c) n ≡ n * c
unfolding sum_to
sum_const c zero = omega arith
sum_const c (suc n) = omega (arith, sum_const c n)

pub sum_times : (c : ℕ) (f : ℕ → ℕ) (n : ℕ) → sum_to (λ j. c * f j) n ≡ c * sum_to f n
unfolding sum_to
sum_times c f zero = sym (mul-zero c)
sum_times c f (suc n) = omega (arith, sum_times c f n)

pub sum_term : (f : ℕ → ℕ) (n i : ℕ) → i < n → f i ≤ sum_to f n
unfolding sum_to
sum_term f zero i l = omega arith
sum_term f (suc n) i l =
    ⊎_elim
    (λ (e : i ≡ n). omega (arith, ap f e))
    (λ (k : i < n). omega (arith, sum_term f n i k))
    (eq-or-lt_of_le (le_of_suc-le-suc l))

-- the first n terms, and the m after them
pub sum_join : (f : ℕ → ℕ) (n m : ℕ) → sum_to f (n + m) ≡ sum_to f n + sum_to (λ i. f (n + i)) m
unfolding sum_to
sum_join f n zero = rw (add-zero n, add-zero (sum_to f n))
sum_join f n (suc m) = rw (add-suc, sum_join f n m, add_assoc)

-- over the elements of joined lists
pub sum_of_joined : {A : Type 0} (f : A → ℕ) (z : A) (s t : List A)
    → sum_to (λ i. f (get_or (s ++ t) i z)) (length (s ++ t)) ≡ sum_to (λ i. f (get_or s i z)) (length s) + sum_to (λ i. f (get_or t i z)) (length t)
sum_of_joined f z s t =
    let both : ℕ → ℕ = λ i. f (get_or (s ++ t) i z) in
    ap (sum_to both) (length-append s t)
    ∙ sum_join both (length s) (length t)
    ∙ ap₂ ◌+◌ (sum_same _ _ (length s) (λ i l. ap f (get_or-append s t z i l))) (sum_same _ _ (length t) (λ i l. ap f (get_or-append-add s t i z)))

-- where every term is at most c
pub sum_bound : (c : ℕ) (f : ℕ → ℕ) (n : ℕ) → ((i : ℕ) → i < n → f i ≤ c) → sum_to f n ≤ n * c
sum_bound c f n h = omega (arith, sum_le f (λ i. c) n h, sum_const c n)

-- where every term is 1
pub sum_ones : (f : ℕ → ℕ) (n : ℕ) → ((i : ℕ) → i < n → f i ≡ 1) → n ≤ sum_to f n
sum_ones f n h = omega (arith, sum_le (λ i. 1) f n (λ i l. omega (arith, h i l)), sum_const 1 n)

-- no more places pass a test than there are
pub bit_small : (t : Bool) → bit t ≤ 1
bit_small true = omega arith
bit_small false = omega arith

pub sum_bits : (p : ℕ → Bool) (n : ℕ) → sum_to (λ i. bit (p i)) n ≤ n
sum_bits p n = omega (arith, sum_bound 1 (λ i. bit (p i)) n (λ i l. bit_small (p i)))

three : (n m : ℕ) → (n < m) ⊎ ((n ≡ m) ⊎ (m < n))
three n m = elim (dec_lt n m) [ yes p ↦ inl p | no p ↦ inr (two n m (omega arith)) ]
  where
    two : (n m : ℕ) → m ≤ n → (n ≡ m) ⊎ (m < n)
    two n m h = ⊎_elim (λ (e : m ≡ n). inl (sym e)) (λ (l : m < n). inr l) (eq-or-lt_of_le h)

-- one term is larger by at most 1, and no other is larger: the sum is larger by at most 1
pub sum_one : (f g : ℕ → ℕ) (n m : ℕ) → f m ≤ g m + 1 → ((j : ℕ) → (j ≡ m → ⊥) → f j ≤ g j)
    → sum_to f n ≤ sum_to g n + 1
unfolding sum_to
sum_one f g zero m s h = omega arith
sum_one f g (suc n) m s h =
    ⊎_elim
    (λ (e : n < m). omega (arith, sum_one f g n m s h, h n (λ q. omega arith)))
    (λ (w : (n ≡ m) ⊎ (m < n)). ⊎_elim
    (λ (e : n ≡ m). omega (arith, ap f e, ap g e, sum_le f g n (λ j k. h j (λ q. omega arith))))
    (λ (k : m < n). omega (arith, sum_one f g n m s h, h n (λ q. omega arith)))
    w)
    (three n m)
