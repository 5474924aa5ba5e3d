-- What the inner functions put and ask of their callers. Nothing here stands in a public call's contract. Definitions only.
use Rattle.std.specs.Prelude.{ℕ, ◌+◌, ◌*◌, ◌≤◌, List}
use Rattle.lists.specs.Lists.{tab, join_to}
use Rattle.answer.specs.Limits.{parts}
use Rattle.block.specs.Block.{given}
use Rattle.block.specs.Read.{gain_in}
use Rattle.lister_core.specs.Lines.{row_line}

-- the lines of the first n rows in a block's bytes f, which store `width` of B gains, the first with the number `start`
abbrev pub row_lines : ℕ → ℕ → ℕ → (ℕ → ℕ) → ℕ → List ℕ
row_lines width B start f n = join_to (λ q. row_line (start + q) (tab (λ j. given parts width B (gain_in f) (q * B + j)) B)) n

-- n such rows from `start` on, one gain of each left out at most, in one block and numbered in 16 bits
pub record Rows (start n width B : ℕ) : Type 0 where
  pub gains : n * width ≤ 250
  pub rows : n ≤ 250
  pub some : 1 ≤ width
  pub thin : width ≤ B
  pub wide : B ≤ width + 1
  pub bands : B ≤ 250
  pub last : start + n ≤ 65535
