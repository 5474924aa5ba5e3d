-- A search by a test that is a function of the element finds the first place that fails it; and what a place found, or none, tells. Assumes nothing.
use Prim.Native.Nat.{ℕ, suc, ◌+◌, ◌<◌}
use mathlib.Core.Path.{◌≡◌, refl, sym, ap}
use mathlib.Core.Bool.{Bool, true, false, cond, not}
use mathlib.Core.List.{List, [], ◌∷◌}
use native.Mathlib.Nat.{le_refl}
use native.Mathlib.Omega.{arith}
use lib.ListN.{length, get_or}
use lib.Dec.{ltb}
use borrow.Author.Tests.{lt-ltb, le-ltb, ltb-true, ltb-false}
use Rattle.std.specs.Prelude.{Option, Some, None}
use Rattle.std.specs.List.{position, position_or_len}
use Rattle.lists.specs.Lists.{first_not}
use Rattle.lists.specs.Search.{FirstFailing, found_not}
use Rattle.lists.proofs.First.{Passed, first_at, first_end, first_clear}

-- where no place fails, none is found; where the first is i, i is
pub found_none : (p : ℕ → Bool) (n : ℕ) → Passed p n → None ≡ found_not p n
found_none p n h = rw (sym (first_end p n n (le_refl n) (le_refl n) h), le-ltb n n (le_refl n)) refl

pub found_some : (p : ℕ → Bool) (n i : ℕ) → i < n → Passed p i → p i ≡ false → Some i ≡ found_not p n
found_some p n i h b e = rw (sym (first_at p n i h b e), lt-ltb i n h) refl

pub found_is : {A : Type 0} {post : A → Bool → Type 0} (xs : List A) (found : Option ℕ) (p : A → Bool) (z : A) → ((x : A) (b : Bool) → post x b → b ≡ p x)
    → FirstFailing post xs found → found ≡ found_not (λ i. p (get_or xs i z)) (length xs)
found_is xs None p z e f = found_none _ _ (λ k h. sym (e _ _ (f k z h)))
found_is xs (Some i) p z e f = found_some _ _ i f.0 (λ k h. sym (e _ _ (f.2 k z h))) (sym (e _ _ (f.1 z)))

-- ---- back: what is found is the first, and where nothing is, every place passes
pub some_first : (p : ℕ → Bool) (n i : ℕ) → Some i ≡ found_not p n → (i ≡ first_not p n) × (i < n)
some_first p n i = step (ltb (first_not p n) n) (first_not p n) refl
  where
    step : (b : Bool) (f : ℕ) → ltb f n ≡ b → ◌≡◌ {A = Option ℕ} (Some i) (cond b (Some f) None) → (i ≡ f) × (i < n)
    step true f t e = let s : i ≡ f = cc in (s, rw s (ltb-true f n t))
    step false f t e = absurd (let z : ◌≡◌ {A = ℕ} 0 1 = cc in omega arith)

pub none_passed : (p : ℕ → Bool) (n : ℕ) → None ≡ found_not p n → Passed p n
none_passed p n = step (ltb (first_not p n) n) refl
  where
    step : (b : Bool) → ltb (first_not p n) n ≡ b → ◌≡◌ {A = Option ℕ} None (cond b (Some (first_not p n)) None) → Passed p n
    step true t e = absurd (let z : ◌≡◌ {A = ℕ} 0 1 = cc in omega arith)
    step false t e = first_clear p n (ltb-false _ _ t)

-- an iterator's `position` by a test that holds where p fails
passed_len : {A : Type 0} (fails : A → Bool) (z : A) (xs : List A) → position_or_len fails xs ≡ first_not (λ i. not (fails (get_or xs i z))) (length xs)
unfolding first_not
passed_len fails z [] = refl
passed_len fails z (x ∷ xs) =
    let more : 1 + position_or_len fails xs ≡ suc (first_not (λ i. not (fails (get_or xs i z))) (length xs)) = omega (arith, passed_len fails z xs) in
    ap (λ n. cond (not (fails x)) n 0) more

pub found_position : {A : Type 0} (fails : A → Bool) (z : A) (xs : List A) → position fails xs ≡ found_not (λ i. not (fails (get_or xs i z))) (length xs)
found_position fails z xs = rw (passed_len fails z xs) refl
