-- A search over rows finds the first that does not add up, by a row's own gains or by what is stored of it. Assumes nothing.
use Prim.Native.Nat.{ℕ, ◌+◌, ◌-◌, ◌*◌, ◌<◌}
use mathlib.Core.Path.{◌≡◌, refl, ap, ◌∙◌}
use mathlib.Core.Bool.{Bool}
use mathlib.Core.List.{List}
use native.Mathlib.Omega.{arith}
use lib.ListN.{length, take, drop}
use lib.Dec.{eqb}
use Rattle.lists.specs.Search.{found_not}
use Rattle.lists.proofs.First.{first_same}
use Rattle.lists.specs.Lists.{sum_to}
use Rattle.lists.proofs.Sum.{sum_same}
use Rattle.block.specs.Write.{row_ok, gain_of}
use Rattle.block.specs.Read.{word_at, gain_in}
use Rattle.block.specs.Asked.{row_stored}
use Rattle.block.proofs.Totals.{row_sum, row_in, gain_row}
use Rattle.block.proofs.Cut.{cut_at, cut_long}

-- tests that agree find the same
pub found_same : (p q : ℕ → Bool) (n : ℕ) → ((r : ℕ) → p r ≡ q r) → found_not p n ≡ found_not q n
found_same p q n h = rw (first_same p q n (λ r l. h r)) refl

-- the gains of row r, cut out of a list of N rows
pub cut_row : (parts B N : ℕ) (g : List ℕ) (r sum : ℕ) → length g ≡ N * B → r < N
    → sum ≡ sum_to (gain_of (take (r * B + B - r * B) (drop (r * B) g))) (length (take (r * B + B - r * B) (drop (r * B) g)))
    → row_ok parts (gain_of g) B r ≡ eqb sum parts
cut_row parts B N g r sum long l e =
    let n = r * B + B - r * B in
    let z : n ≡ B = omega arith in
    let part = take n (drop (r * B) g) in
    row_sum parts (gain_of g) (gain_of part) B r sum (λ j h. cut_at g n (r * B) j (omega arith))
    (e ∙ ap (sum_to (gain_of part)) (cut_long g (r * B) (r * B + B) (row_in r N B (length g) (r * B) l refl long) ∙ z))

-- the stored gains of row r of a block f
pub stored_is : (f : ℕ → ℕ) (width r : ℕ) → sum_to (λ j. word_at f (8 + 2 * (r * width) + 2 * j)) width ≡ row_stored (gain_in f) width r
stored_is f width r = sum_same _ _ width (λ j l. gain_row f (r * width) (8 + 2 * (r * width)) j refl)
