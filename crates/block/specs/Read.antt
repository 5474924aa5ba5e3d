-- Reading a block and a table, over a block's bytes f by their index: refusals 9, 10, 11, 1, 8 and 12 in the order of RULES, Reading, and the gains.
-- Definitions only.
use Rattle.std.specs.Prelude.{ℕ, ◌+◌, ◌-◌, ◌*◌, ◌/◌, ◌%◌, Bool, not, ◌&&◌, ◌||◌, List, [], ◌∷◌, ◌++◌, length, get_or, take, drop, ltb, leb, eqb}
use Rattle.lists.specs.Lists.{tab, first_not, join_to}
use Rattle.answer.specs.Answer.{Test, judged, when_done}
use Rattle.answer.specs.Answer.{Answer}
use Rattle.answer.specs.declared.Refusal.TheVariants.{Length, StoredLength, RowTotal, Check, Header, Unused}
use Rattle.block.specs.Form.{Form}
use Rattle.block.specs.Block.{check_a, check_b, per_block, blocks, held_rows, given}
use Rattle.block.specs.Write.{shape_ok_by, bad_row}

-- the bytes of s from `at` on, by index; block k of a table is from 512 * k on
abbrev pub bytes_from : List ℕ → ℕ → ℕ → ℕ
bytes_from s at i = get_or s (at + i) 0

-- the 512 bytes of block k, or the fewer that are left
abbrev pub block_of : List ℕ → ℕ → List ℕ
block_of s k = take 512 (drop (512 * k) s)

-- the number at byte i; a block's bands, rows and stored gains
abbrev pub word_at : (ℕ → ℕ) → ℕ → ℕ
word_at f i = f i + 256 * f (i + 1)

abbrev pub bands_of : (ℕ → ℕ) → ℕ
bands_of f = word_at f 4

abbrev pub rows_of : (ℕ → ℕ) → ℕ
rows_of f = word_at f 6

unfoldable pub gain_in : (ℕ → ℕ) → ℕ → ℕ
gain_in f i = word_at f (8 + 2 * i)

-- both checks are right
unfoldable pub checks_ok : (ℕ → ℕ) → Bool
checks_ok f = eqb (word_at f 508) (check_a f) && eqb (word_at f 510) (check_b f)

-- form, block number, bands and rows are right, and the table has such a block
unfoldable pub head_ok_by : Form → (ℕ → ℕ) → ℕ → Bool
head_ok_by F f k =
    eqb (word_at f 0) F.code
    && (eqb (word_at f 2) k && (shape_ok_by F (bands_of f) (rows_of f) && ltb k (blocks (F.width (bands_of f)) (rows_of f))))

-- and bands and rows are those of block 0
abbrev pub head_fits_by : Form → ℕ → ℕ → (ℕ → ℕ) → ℕ → Bool
head_fits_by F B N f k = head_ok_by F f k && (eqb (bands_of f) B && eqb (rows_of f) N)

-- the bytes from `from` up to the checks are zeros
unfoldable pub blank : (ℕ → ℕ) → ℕ → Bool
blank f from = leb (508 - from) (first_not (λ i. eqb (f (from + i)) 0) (508 - from))

-- the rows and the unused bytes of block k, in a table of B bands and N rows: 8, 12
unfoldable pub row_tests_by : Form → ℕ → ℕ → (ℕ → ℕ) → ℕ → List Test
row_tests_by F B N f k =
    let n = held_rows (F.width B) N k in
    let bad = bad_row F.parts (given F.parts (F.width B) B (gain_in f)) B n in
    (ltb bad n, RowTotal (k * per_block (F.width B) + bad)) ∷ (not (blank f (8 + 2 * (n * F.width B))), Unused k) ∷ []

-- the block: 10, 11, and then those
unfoldable pub block_tests_by : Form → ℕ → ℕ → (ℕ → ℕ) → ℕ → List Test
block_tests_by F B N f k =
    (not (checks_ok f), Check k)
    ∷ (not (head_fits_by F B N f k), Header k)
    ∷ row_tests_by F B N f k

-- one block by itself, judged by its own header: 9 first
unfoldable pub block_answer_by : Form → ℕ → List ℕ → Answer
block_answer_by F number s =
    let f = bytes_from s 0 in
    judged ((not (eqb (length s) 512), StoredLength) ∷ block_tests_by F (bands_of f) (rows_of f) f number)

-- a table: 9 (empty or no multiple of 512), then block 0's 10, 11, and 9 (not ceil(N / P) blocks)
unfoldable pub head_tests_by : Form → List ℕ → List Test
head_tests_by F s =
    let f = bytes_from s 0 in
    (eqb (length s) 0 || not (eqb (length s % 512) 0), StoredLength)
    ∷ (not (checks_ok f), Check 0)
    ∷ (not (head_ok_by F f 0), Header 0)
    ∷ (not (eqb (length s) (512 * blocks (F.width (bands_of f)) (rows_of f))), StoredLength)
    ∷ []

-- then 1, for lent gains that are not as many as the table has
abbrev pub lent_tests : List ℕ → ℕ → List Test
lent_tests s room = (not (eqb room (rows_of (bytes_from s 0) * bands_of (bytes_from s 0))), Length) ∷ []

-- then its blocks upward; block 0's 10 and 11 pass again
unfoldable pub body_tests_by : Form → List ℕ → List Test
body_tests_by F s =
    let f = bytes_from s 0 in
    join_to (λ k. block_tests_by F (bands_of f) (rows_of f) (bytes_from s (512 * k)) k) (blocks (F.width (bands_of f)) (rows_of f))

-- the answer with gains lent, and with none
unfoldable pub read_answer_by : Form → List ℕ → ℕ → Answer
read_answer_by F s room = judged (head_tests_by F s ++ (lent_tests s room ++ body_tests_by F s))

unfoldable pub table_answer_by : Form → List ℕ → Answer
table_answer_by F s = judged (head_tests_by F s ++ body_tests_by F s)

-- stored gain i of a table; its gains, and what reading leaves in the lent ones
unfoldable pub gain_at : ℕ → List ℕ → ℕ → ℕ
gain_at width s i = gain_in (bytes_from s (512 * (i / (per_block width * width)))) (i % (per_block width * width))

unfoldable pub table_gains_by : Form → List ℕ → List ℕ
table_gains_by F s =
    let f = bytes_from s 0 in
    tab (given F.parts (F.width (bands_of f)) (bands_of f) (gain_at (F.width (bands_of f)) s)) (rows_of f * bands_of f)

abbrev pub read_out_by : Form → List ℕ → List ℕ → List ℕ
read_out_by F s gains = when_done (read_answer_by F s (length gains)) (table_gains_by F s) gains
