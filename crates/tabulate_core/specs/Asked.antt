-- What the inner functions ask and give. Nothing here stands in a public call's contract. Definitions only.
use Rattle.std.specs.Prelude.{ℕ, ◌*◌, ◌≤◌, ◌≡◌, ⊤, List, length, Ok}
use Rattle.answer.specs.Limits.{band_limit, row_limit}
use Rattle.answer.specs.declared.Refusal.{Refusal}
use Rattle.answer.specs.declared.Refusal.TheVariants.{Domain, Masked}
use Rattle.tabulate_core.specs.Rows.{gains_to, stop_of}
use Rattle.tabulate_core.specs.Stop.{Rows, rows_told}

-- the refusals that the split of a row can give
abbrev pub OfRow : Refusal → Type 0
OfRow (Domain i) = ⊤
OfRow Masked = ⊤
OfRow _ = ⊥

-- N rows of B levels, within their limits
pub record Shaped (B N : ℕ) (s : List ℕ) : Type 0 where
  pub some : 1 ≤ B
  pub most : B ≤ band_limit
  pub first : 1 ≤ N
  pub last : N ≤ row_limit
  pub long : length s ≡ 4 * (N * B)

-- the rows were split up to the first refusal, into these gains where there is none
pub record Split (B N : ℕ) (s : List ℕ) (answer : Rows) (gains : List ℕ) : Type 0 where
  pub told : rows_told answer ≡ stop_of B s N
  pub all : answer ≡ Ok tt → gains ≡ gains_to B s N
