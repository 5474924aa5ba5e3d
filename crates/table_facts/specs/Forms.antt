-- The claims on the two forms: this release reads what either writes, a table has one form and one encoding in it, and a reader of form 1 alone
-- answers 11 to form 2 and the same as before to all else. Statements only.
use Rattle.std.specs.Prelude.{ℕ, ◌+◌, ◌-◌, ◌*◌, ◌≤◌, ◌<◌, ◌≡◌, List, length, get_or}
use Rattle.block.specs.Block.{blocks, held_rows}
use Rattle.block.specs.Write.{write_told_by, write_out_by}
use Rattle.block.specs.Read.{bytes_from, block_of, read_out_by}
use Rattle.table.specs.Table.{block_told_by, table_told_by, read_told_by}
use Rattle.table.specs.Release.{form1, form, drop_in, form_of, block_told, table_told, read_told, read_out, table_gains}
use Rattle.table_facts.specs.Limits.{up_to}

-- what a table's form leaves out: 0 for form 1, 1 for form 2
abbrev pub drop_of : List ℕ → ℕ
drop_of s = drop_in (bytes_from s 0)

-- What is written in a form reads back,
abbrev pub FormReadsBack : Type 0
FormReadsBack =
    (d B N : ℕ) (gains bytes lent : List ℕ)
    → d ≤ 1
    → write_told_by (form d) B N gains bytes ≡ (0, 0)
    → length lent ≡ length gains
    → let t = write_out_by (form d) B N gains bytes in
    (drop_of t ≡ d) × (read_told t lent ≡ (0, 0, B, N)) × (read_out t lent ≡ gains)

-- and what reads rewrites, in its form, to the same bytes. (s holds bytes, as every &[u8] does.)
abbrev pub FormRewrites : Type 0
FormRewrites =
    (s lent bytes : List ℕ) (B N : ℕ)
    → ((i : ℕ) → get_or s i 0 < 256)
    → read_told s lent ≡ (0, 0, B, N)
    → length bytes ≡ length s
    → (write_told_by (form_of s) B N (read_out s lent) bytes ≡ (0, 0)) × (write_out_by (form_of s) B N (read_out s lent) bytes ≡ s)

-- bytes of one form, with the same bands, rows and gains, are the same
abbrev pub OneEncoding : Type 0
OneEncoding =
    (s t : List ℕ) (B N : ℕ)
    → ((i : ℕ) → get_or s i 0 < 256)
    → ((i : ℕ) → get_or t i 0 < 256)
    → table_told s ≡ (0, 0, B, N)
    → table_told t ≡ (0, 0, B, N)
    → drop_of s ≡ drop_of t
    → table_gains s ≡ table_gains t
    → s ≡ t

-- there is a block, the length is that of the blocks, and `read_block` tells each of them, by itself and at its place, as one of this form
pub record EachOfForm (d : ℕ) (s : List ℕ) (B N : ℕ) : Type 0 where
  pub few : d ≤ 1
  pub some : 0 < length s
  pub long : length s ≡ 512 * blocks (B - d) N
  pub each : (k : ℕ) → k < blocks (B - d) N → block_told k (block_of s k) ≡ (0, 0, 1 + d, k, B, N, held_rows (B - d) N k)

-- a table is read exactly where all of its blocks are, in one form
abbrev pub OneForm : Type 0
OneForm =
    (s lent : List ℕ) (B N : ℕ)
    → length lent ≡ N * B
    → (read_told s lent ≡ (0, 0, B, N) → EachOfForm (drop_of s) s B N) × ((d : ℕ) → EachOfForm d s B N → read_told s lent ≡ (0, 0, B, N))

-- ---- readers of form 1 alone
-- bytes that do not say form 2, sound or damaged, are told as before
abbrev pub KeepsReading : Type 0
KeepsReading =
    (s lent : List ℕ)
    → drop_of s ≡ 0
    → (read_told s lent ≡ read_told_by form1 s lent)
    × (read_out s lent ≡ read_out_by form1 s lent)
    × (table_told s ≡ table_told_by form1 s)
    × ((k : ℕ) → block_told k s ≡ block_told_by form1 k s)

-- and a sound table of form 2 is refused, whatever the most bands m: `read` answers 11 at 0 and keeps the lent gains, `shape_of` answers 11 at 0,
-- `read_block` 11 at each block
abbrev pub OlderForm : Type 0
OlderForm =
    (m : ℕ) (s lent : List ℕ) (B N : ℕ)
    → table_told s ≡ (0, 0, B, N)
    → drop_of s ≡ 1
    → (read_told_by (up_to form1 m) s lent ≡ (11, 0, 0, 0))
    × (read_out_by (up_to form1 m) s lent ≡ lent)
    × (table_told_by (up_to form1 m) s ≡ (11, 0, 0, 0))
    × ((k : ℕ) → k < blocks (B - 1) N → block_told_by (up_to form1 m) k (block_of s k) ≡ (11, k, 0, 0, 0, 0, 0))
