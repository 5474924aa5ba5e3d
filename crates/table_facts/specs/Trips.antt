-- The claims on stored tables, for any form: what was written reads back, what reads rewrites to the same bytes, the two readers agree.
-- Statements only.
use Rattle.std.specs.Prelude.{ℕ, ◌*◌, ◌<◌, ◌≡◌, List, length, get_or}
use Rattle.block.specs.Form.{Form}
use Rattle.block.specs.Block.{blocks, held_rows}
use Rattle.block.specs.Write.{write_told_by, write_out_by}
use Rattle.block.specs.Read.{block_of, read_out_by}
use Rattle.table.specs.Table.{block_told_by, table_told_by, read_told_by}

-- Where `write` is done, `read` of the bytes that it left, with as many gains lent as were written, tells the bands and rows, and leaves the
-- gains that were written.
abbrev pub ReadsBack : Form → Type 0
ReadsBack F =
    (B N : ℕ) (gains bytes lent : List ℕ)
    → write_told_by F B N gains bytes ≡ (0, 0)
    → length lent ≡ length gains
    → (read_told_by F (write_out_by F B N gains bytes) lent ≡ (0, 0, B, N)) × (read_out_by F (write_out_by F B N gains bytes) lent ≡ gains)

-- Where `read` tells bands and rows, `write` of these and of the gains that it left is done, into a buffer as long as the bytes that were read,
abbrev pub WritesAgain : Form → Type 0
WritesAgain F =
    (s lent bytes : List ℕ) (B N : ℕ)
    → read_told_by F s lent ≡ (0, 0, B, N)
    → length bytes ≡ length s
    → write_told_by F B N (read_out_by F s lent) bytes ≡ (0, 0)

-- and leaves the same bytes. (s holds bytes, as every &[u8] does.)
abbrev pub Rewrites : Form → Type 0
Rewrites F =
    (s lent bytes : List ℕ) (B N : ℕ)
    → ((i : ℕ) → get_or s i 0 < 256)
    → read_told_by F s lent ≡ (0, 0, B, N)
    → length bytes ≡ length s
    → write_out_by F B N (read_out_by F s lent) bytes ≡ s

-- there is a block, the length is that of the blocks, and `read_block` tells each of them, at its place, as one of B bands and N rows
pub record EachReads (F : Form) (s : List ℕ) (B N : ℕ) : Type 0 where
  pub some : 0 < length s
  pub long : length s ≡ 512 * blocks (F.width B) N
  pub each : (k : ℕ) → k < blocks (F.width B) N → block_told_by F k (block_of s k) ≡ (0, 0, F.code, k, B, N, held_rows (F.width B) N k)

-- `read` tells a table of B bands and N rows exactly there, with as many gains lent
abbrev pub ReadersAgree : Form → Type 0
ReadersAgree F =
    (s lent : List ℕ) (B N : ℕ)
    → length lent ≡ N * B
    → (read_told_by F s lent ≡ (0, 0, B, N) → EachReads F s B N) × (EachReads F s B N → read_told_by F s lent ≡ (0, 0, B, N))

-- and `shape_of` does, with none lent
abbrev pub JudgedAgrees : Form → Type 0
JudgedAgrees F =
    (s : List ℕ) (B N : ℕ)
    → (table_told_by F s ≡ (0, 0, B, N) → EachReads F s B N) × (EachReads F s B N → table_told_by F s ≡ (0, 0, B, N))

-- all of them
pub record Trips (F : Form) : Type 0 where
  pub back : ReadsBack F
  pub again : WritesAgain F
  pub same : Rewrites F
  pub agree : ReadersAgree F
  pub judged : JudgedAgrees F
