-- The claims on the most bands of a form: tables within two limits are written and read alike by both, and a reader with the lower limit answers
-- 11 to every sound table above it. Statements only.
use Rattle.std.specs.Prelude.{ℕ, ◌≤◌, ◌<◌, ◌≡◌, List}
use Rattle.block.specs.Form.{Form}
use Rattle.block.specs.Block.{blocks}
use Rattle.block.specs.Write.{write_told_by, write_out_by}
use Rattle.block.specs.Read.{bytes_from, bands_of, block_of, read_out_by}
use Rattle.table.specs.Table.{block_told_by, table_told_by, read_told_by}
use Rattle.table.specs.Release.{form1, write_told, write_out, read_told, read_out}

-- the form, with m bands at most
abbrev pub up_to : Form → ℕ → Form
up_to F m = record { code = F.code; width = F.width; least = F.least; most = m; rows = F.rows; parts = F.parts }

-- B bands within both limits: `write` tells the same and leaves the same bytes
abbrev pub WritesAlike : Form → Type 0
WritesAlike F =
    (a b B N : ℕ) (gains bytes : List ℕ)
    → B ≤ a
    → B ≤ b
    → (write_told_by (up_to F a) B N gains bytes ≡ write_told_by (up_to F b) B N gains bytes)
    × (write_out_by (up_to F a) B N gains bytes ≡ write_out_by (up_to F b) B N gains bytes)

-- any bytes, sound or damaged, whose first header says bands within both limits: the readers tell the same and leave the same gains
abbrev pub ReadsAlike : Form → Type 0
ReadsAlike F =
    (a b : ℕ) (s lent : List ℕ)
    → bands_of (bytes_from s 0) ≤ a
    → bands_of (bytes_from s 0) ≤ b
    → (read_told_by (up_to F a) s lent ≡ read_told_by (up_to F b) s lent)
    × (read_out_by (up_to F a) s lent ≡ read_out_by (up_to F b) s lent)
    × (table_told_by (up_to F a) s ≡ table_told_by (up_to F b) s)

-- a sound table of more than m bands: with m at most, `read` answers 11 at 0 and keeps the lent gains, `shape_of` answers 11 at 0, `read_block`
-- 11 at each block
abbrev pub OlderRefuses : Form → Type 0
OlderRefuses F =
    (m : ℕ) (s lent : List ℕ) (B N : ℕ)
    → table_told_by F s ≡ (0, 0, B, N)
    → m < B
    → (read_told_by (up_to F m) s lent ≡ (11, 0, 0, 0))
    × (read_out_by (up_to F m) s lent ≡ lent)
    × (table_told_by (up_to F m) s ≡ (11, 0, 0, 0))
    × ((k : ℕ) → k < blocks (F.width B) N → block_told_by (up_to F m) k (block_of s k) ≡ (11, k, 0, 0, 0, 0, 0))

-- ---- the release with 16 bands at most, which had form 1 alone
abbrev pub older_bands : ℕ
older_bands = 16

abbrev pub older : Form
older = up_to form1 older_bands

-- tables of its bands keep every byte,
abbrev pub KeepsBytes : Type 0
KeepsBytes =
    (B N : ℕ) (gains bytes : List ℕ)
    → B ≤ older_bands
    → (write_told_by older B N gains bytes ≡ write_told B N gains bytes) × (write_out_by older B N gains bytes ≡ write_out B N gains bytes)

-- and what it read is read as it was
abbrev pub KeepsGains : Type 0
KeepsGains =
    (s lent : List ℕ) (B N : ℕ)
    → read_told_by older s lent ≡ (0, 0, B, N)
    → (read_told s lent ≡ (0, 0, B, N)) × (read_out s lent ≡ read_out_by older s lent)
