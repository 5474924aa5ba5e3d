-- The claims on the listers of before: those of form 1 alone, and the one with 16 bands and a cap on the length of its input. Statements only.
use Rattle.std.specs.Prelude.{ℕ, ◌≤◌, ◌<◌, ◌≡◌, cond, List, length, ltb}
use Rattle.answer.specs.Limits.{table_most}
use Rattle.block.specs.Form.{Form}
use Rattle.table.specs.Table.{table_told_by}
use Rattle.table.specs.Release.{form1, table_told}
use Rattle.table_facts.specs.Limits.{up_to, older_bands, older}
use Rattle.table_facts.specs.Forms.{drop_of}
use Rattle.lister_core.specs.Lines.{refused_line}
use Rattle.lister_core.specs.Lister.{listed_by, listed}

-- a sound table of form 2: 11, for form 1 alone with m bands at most, and no gain
abbrev pub OlderFormLister : Type 0
OlderFormLister =
    (m : ℕ) (s : List ℕ) (B N : ℕ)
    → table_told s ≡ (0, 0, B, N)
    → drop_of s ≡ 1
    → listed_by (up_to form1 m) s ≡ refused_line 11 0

-- to bytes that do not say form 2, sound or damaged, the text of form 1 alone
abbrev pub KeepsListing : Type 0
KeepsListing = (s : List ℕ) → drop_of s ≡ 0 → listed s ≡ listed_by form1 s

-- 9 where the input is longer than the cap, else by the form F
unfoldable pub capped_by : Form → ℕ → List ℕ → List ℕ
capped_by F cap s = cond (ltb cap (length s)) (refused_line 9 0) (listed_by F s)

-- with 16 bands, the cap was the largest table
abbrev pub older_listed : List ℕ → List ℕ
older_listed s = capped_by older (table_most older_bands) s

-- a sound table of form 1 and more bands: 11, or 9 past the cap, and no gain in either
abbrev pub OlderLister : Type 0
OlderLister =
    (s : List ℕ) (B N : ℕ)
    → table_told_by form1 s ≡ (0, 0, B, N)
    → older_bands < B
    → older_listed s ≡ cond (ltb (table_most older_bands) (length s)) (refused_line 9 0) (refused_line 11 0)

-- a sound table of form 1 and 16 bands at most: the text that it has now
abbrev pub KeepsText : Type 0
KeepsText =
    (s : List ℕ) (B N : ℕ)
    → table_told_by form1 s ≡ (0, 0, B, N)
    → B ≤ older_bands
    → older_listed s ≡ listed s
