-- The claim on an input that is read once: what is held of it is what was fed, so that the held blocks show the input's text. Statements only.
use Rattle.std.specs.Prelude.{ℕ, ◌*◌, ◌≤◌, ◌≡◌, List, length, take}
use Rattle.answer.specs.Limits.{table_limit}
use Rattle.judging.specs.declared.Judging.{Judging}
use Rattle.judging.specs.Judging.{finished, fed_all}
use Rattle.lister_core.specs.Lister.{listed}
use Rattle.lister_facts.specs.ByBlocks.{shown}

-- j judged some input piece after piece, and every whole block of it for which there is room is held at its place
pub record Kept (j : Judging) (held : List ℕ) : Type 0 where
  pub input : List ℕ
  pub fed : j ≡ fed_all input
  pub same : (n : ℕ) → 512 * n ≤ length input → 512 * n ≤ length held → take (512 * n) held ≡ take (512 * n) input

-- with room for the largest table, what is shown of the held bytes is the text of the input, however long that was
abbrev pub HeldShows : Type 0
HeldShows = (j : Judging) (held : List ℕ) (k : Kept j held) → table_limit ≤ length held → shown (finished j) j held ≡ listed k.input
