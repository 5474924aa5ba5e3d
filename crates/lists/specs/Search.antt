-- What a search for the first element that does not pass a test finds. Definitions only.
use Rattle.std.specs.Prelude.{ℕ, ◌<◌, Bool, true, false, Option, Some, None, cond, nat_lt, List, length, MatchOption, slice_index_or}
use Rattle.std.specs.List.{All}
use Rattle.lists.specs.Lists.{first_not}

-- `post x b` says that the test may answer b at x. Some element does not pass
abbrev pub SomeFailing : {A : Type 0} → (A → Bool → Type 0) → List A → Type 0
SomeFailing {A} post xs = (i : ℕ) × (i < length xs) × ((d : A) → post (slice_index_or xs i d) false)

-- All pass; or the one at i does not, and all before it do.
abbrev pub FirstFailing : {A : Type 0} → (A → Bool → Type 0) → List A → Option ℕ → Type 0
FirstFailing {A} post xs found =
    MatchOption found (All (λ x. post x true) xs)
    (λ i. (i < length xs) × ((d : A) → post (slice_index_or xs i d) false) × ((k : ℕ) (d : A) → k < i → post (slice_index_or xs k d) true))

-- the first place below n that fails p, where there is one
abbrev pub found_not : (ℕ → Bool) → ℕ → Option ℕ
found_not p n = cond (nat_lt (first_not p n) n) (Some (first_not p n)) None
