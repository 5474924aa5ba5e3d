-- A search by a test of the place finds the first place that fails it. Assumes nothing.
use Prim.Native.Nat.{ℕ}
use mathlib.Core.Path.{◌≡◌, sym}
use mathlib.Core.Bool.{Bool}
use Rattle.std.specs.Prelude.{Option, Some, None}
use Rattle.lists.specs.Search.{found_not}
use Rattle.lists.proofs.Found.{found_some, found_none}
use Rattle.normalize.specs.Scaling.{FirstAt}

pub found_by : {post : ℕ → Bool → Type 0} (n : ℕ) (found : Option ℕ) (p : ℕ → Bool) → FirstAt post n found
    → ((i : ℕ) (b : Bool) → post i b → b ≡ p i) → found ≡ found_not p n
unfolding FirstAt
found_by n None p f e = found_none p n (λ k h. sym (e k _ (f k h)))
found_by n (Some i) p f e = found_some p n i f.0 (λ k h. sym (e k _ (f.2 k h))) (sym (e i _ f.1))
