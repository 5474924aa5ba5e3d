-- Sums, lists and searches as functions of the index, and a list that is written in part. Definitions only.
use Rattle.std.specs.Prelude.{ℕ, zero, suc, ◌+◌, ◌≤◌, ◌<◌, ◌≡◌, Bool, true, false, cond, List, [], ◌∷◌, ◌++◌, length, get_or}

-- f 0 + f 1 + .. + f (n - 1)
unfoldable pub sum_to : (ℕ → ℕ) → ℕ → ℕ
sum_to f zero = 0
sum_to f (suc n) = sum_to f n + f n

-- a test as a number: 1 where it holds, else 0
abbrev pub bit : Bool → ℕ
bit true = 1
bit false = 0

-- f 0, f 1, .., f (n - 1)
unfoldable pub tab : {A : Type 0} → (ℕ → A) → ℕ → List A
tab f zero = []
tab f (suc n) = let first = f 0 in first ∷ tab (λ i. f (suc i)) n

-- f 0 ++ f 1 ++ .. ++ f (n - 1)
unfoldable pub join_to : {A : Type 0} → (ℕ → List A) → ℕ → List A
join_to f zero = []
join_to f (suc n) = join_to f n ++ f n

-- the first place below n that fails the test p, or n
unfoldable pub first_not : (ℕ → Bool) → ℕ → ℕ
first_not p zero = 0
first_not p (suc n) = cond (p 0) (suc (first_not (λ i. p (suc i)) n)) 0

-- b is a, but for the places from `from` up to `to`, which hold g. (z stands for what lies past a list's end.)
pub record Placed {A : Type 0} (z : A) (a b : List A) (from to : ℕ) (g : ℕ → A) : Type 0 where
  pub long : length b ≡ length a
  pub low : (i : ℕ) → i < from → get_or b i z ≡ get_or a i z
  pub run : (i : ℕ) → from ≤ i → i < to → get_or b i z ≡ g i
  pub high : (i : ℕ) → to ≤ i → get_or b i z ≡ get_or a i z

-- b is a, filled with g up to n
abbrev pub Filled : {A : Type 0} → A → List A → List A → ℕ → (ℕ → A) → Type 0
Filled z a b n g = Placed z a b 0 n g
