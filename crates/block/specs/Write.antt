-- Writing a table: refusals 7, 1, 9 and 8 in the order of RULES, Writing, and what is left in the lent bytes. Definitions only.
use Rattle.std.specs.Prelude.{ℕ, ◌+◌, ◌*◌, Bool, not, ◌&&◌, List, [], ◌∷◌, length, get_or, ltb, leb, eqb}
use Rattle.lists.specs.Lists.{sum_to, first_not}
use Rattle.answer.specs.Answer.{Test, judged, told_of, when_done}
use Rattle.answer.specs.Answer.{Answer}
use Rattle.answer.specs.declared.Refusal.TheVariants.{Count, Length, StoredLength, RowTotal}
use Rattle.block.specs.Form.{Form}
use Rattle.block.specs.Block.{blocks, table_bytes}

-- `least` to `most` bands, 1 to `last` rows
abbrev pub within : ℕ → ℕ → ℕ → ℕ → ℕ → Bool
within least most last B N = leb least B && (leb B most && (leb 1 N && leb N last))

-- bands and rows within a form's limits
abbrev pub shape_ok_by : Form → ℕ → ℕ → Bool
shape_ok_by F B N = within F.least F.most F.rows B N

-- row r of the gains f, B to a row, adds up, as whole numbers
unfoldable pub row_ok : ℕ → (ℕ → ℕ) → ℕ → ℕ → Bool
row_ok parts f B r = eqb (sum_to (λ j. f (r * B + j)) B) parts

-- the first of n rows that does not add up, or n
unfoldable pub bad_row : ℕ → (ℕ → ℕ) → ℕ → ℕ → ℕ
bad_row parts f B n = first_not (row_ok parts f B) n

-- the gains of a list by index
abbrev pub gain_of : List ℕ → ℕ → ℕ
gain_of gains i = get_or gains i 0

abbrev pub write_tests_by : Form → ℕ → ℕ → List ℕ → ℕ → List Test
write_tests_by F B N gains room =
    (not (shape_ok_by F B N), Count)
    ∷ (not (eqb (length gains) (N * B)), Length)
    ∷ (not (eqb room (512 * blocks (F.width B) N)), StoredLength)
    ∷ (ltb (bad_row F.parts (gain_of gains) B N) N, RowTotal (bad_row F.parts (gain_of gains) B N))
    ∷ []

unfoldable pub write_answer_by : Form → ℕ → ℕ → List ℕ → ℕ → Answer
write_answer_by F B N gains room = judged (write_tests_by F B N gains room)

abbrev pub write_told_by : Form → ℕ → ℕ → List ℕ → List ℕ → ℕ × ℕ
write_told_by F B N gains bytes = told_of (write_answer_by F B N gains (length bytes))

abbrev pub write_out_by : Form → ℕ → ℕ → List ℕ → List ℕ → List ℕ
write_out_by F B N gains bytes = when_done (write_answer_by F B N gains (length bytes)) (table_bytes F.code (F.width B) B N gains) bytes
