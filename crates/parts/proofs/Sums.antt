-- A sum over the elements of a list is the sum over their places. Assumes nothing.
use Prim.Native.Nat.{ℕ, zero, suc, ◌+◌, ◌≤◌}
use mathlib.Core.Path.{◌≡◌, refl, sym, ap, ◌∙◌}
use mathlib.Core.List.{List}
use native.Mathlib.Nat.{le_refl}
use native.Mathlib.Numerals.{add-one}
use native.Mathlib.Omega.{arith}
use lib.ListN.{length, get_or, take}
use lib.Seq.{take_all}
use Rattle.std.specs.List.{sum_by}
use Rattle.std.proofs.lemmas.List.Sums.{sum_by_more}
use Rattle.lists.specs.Lists.{sum_to}
use Rattle.parts.specs.Parts.{total}

module _ {A : Type 0} (f : A → ℕ) (d : A) (xs : List A) where
  to_take : (n : ℕ) → n ≤ length xs → sum_by f (take n xs) ≡ sum_to (λ i. f (get_or xs i d)) n
  unfolding sum_to
  to_take zero h = refl
  to_take (suc n) h =
      ap (λ m. sum_by f (take m xs)) (sym (add-one n)) ∙ sum_by_more f xs n d h ∙ ap (λ s. s + f (get_or xs n d)) (to_take n (omega arith))

  pub by_place : sum_by f xs ≡ sum_to (λ i. f (get_or xs i d)) (length xs)
  by_place = ap (sum_by f) (sym (take_all (length xs) xs (le_refl (length xs)))) ∙ to_take (length xs) (le_refl (length xs))

pub total_is : (a : List ℕ) → sum_by (λ x. x) a ≡ total a
unfolding total
total_is a = by_place (λ x. x) 0 a
