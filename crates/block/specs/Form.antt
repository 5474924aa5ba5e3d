-- What a form of the stored table fixes. Definitions only.
use Rattle.std.specs.Prelude.{ℕ, ◌+◌, ◌≤◌}

-- its number in bytes 0-1, how many gains it stores of a row of B bands, the least and the most bands, the most rows, and what a row adds up to
pub record Form : Type 0 where
  pub code : ℕ
  pub width : ℕ → ℕ
  pub least : ℕ
  pub most : ℕ
  pub rows : ℕ
  pub parts : ℕ

-- a form whose rows fit blocks, and that leaves out one gain of a row at most
pub record Sound (F : Form) : Type 0 where
  pub some : (B : ℕ) → F.least ≤ B → 1 ≤ F.width B
  pub thin : (B : ℕ) → F.width B ≤ B
  pub last : (B : ℕ) → B ≤ F.width B + 1
  pub bands : F.most ≤ 250
  pub lines : F.rows ≤ 65535
