-- The two forms of this release, and the stored table's definitions at them: the names that callers cite. Tables are written in form 1 and read in
-- either. Definitions only.
use Rattle.std.specs.Prelude.{ℕ, ◌+◌, ◌-◌, ◌*◌, Bool, cond, List, eqb}
use Rattle.answer.specs.Answer.{Test}
use Rattle.answer.specs.Limits.{parts, band_limit, row_limit}
use Rattle.answer.specs.Answer.{Answer}
use Rattle.block.specs.Form.{Form}
use Rattle.block.specs.declared.form.Form as kind
use Rattle.block.specs.Kind.{left_out}
use Rattle.block.specs.Block.{blocks, table_bytes}
use Rattle.block.specs.Write.{shape_ok_by, write_answer_by, write_told_by, write_out_by}
use Rattle.block.specs.Read.{bytes_from, word_at, head_tests_by, body_tests_by, read_answer_by, table_answer_by, table_gains_by, read_out_by}
use Rattle.table.specs.Table.{block_told_by, table_told_by, read_told_by}

-- form 1 stores all of a row
abbrev pub form1 : Form
form1 = record { code = 1; width = λ B. B; least = 1; most = band_limit; rows = row_limit; parts = parts }

-- the form that leaves out the last `drop` gains of a row: none, which is form 1 again, or one, which is form 2
abbrev pub form : ℕ → Form
form drop = record { code = 1 + drop; width = λ B. B - drop; least = 1 + drop; most = band_limit; rows = row_limit; parts = parts }

-- the same by its name
abbrev pub rules_of : kind.Form → Form
rules_of f = form (left_out f)

-- what a block's bytes f say that they leave out, and their form. A number that is neither 1 nor 2 counts as form 1, whose number it is not.
unfoldable pub drop_in : (ℕ → ℕ) → ℕ
drop_in f = cond (eqb (word_at f 0) 2) 1 0

abbrev pub form_in : (ℕ → ℕ) → Form
form_in f = form (drop_in f)

-- the form of a table, which its first block says
abbrev pub form_of : List ℕ → Form
form_of s = form_in (bytes_from s 0)

-- ---- writing
abbrev pub shape_ok : ℕ → ℕ → Bool
shape_ok B N = shape_ok_by form1 B N

-- the bytes of a table of B bands and N rows: how many, and which
abbrev pub table_length : ℕ → ℕ → ℕ
table_length B N = 512 * blocks (form1.width B) N

abbrev pub table_of : ℕ → ℕ → List ℕ → List ℕ
table_of B N gains = table_bytes form1.code (form1.width B) B N gains

abbrev pub write_answer : ℕ → ℕ → List ℕ → ℕ → Answer
write_answer B N gains room = write_answer_by form1 B N gains room

abbrev pub write_told : ℕ → ℕ → List ℕ → List ℕ → ℕ × ℕ
write_told B N gains bytes = write_told_by form1 B N gains bytes

abbrev pub write_out : ℕ → ℕ → List ℕ → List ℕ → List ℕ
write_out B N gains bytes = write_out_by form1 B N gains bytes

-- ---- reading a block
abbrev pub block_told : ℕ → List ℕ → ℕ × ℕ × ℕ × ℕ × ℕ × ℕ × ℕ
block_told number s = block_told_by (form_of s) number s

-- ---- reading a table
abbrev pub head_tests : List ℕ → List Test
head_tests s = head_tests_by (form_of s) s

abbrev pub body_tests : List ℕ → List Test
body_tests s = body_tests_by (form_of s) s

abbrev pub read_answer : List ℕ → ℕ → Answer
read_answer s room = read_answer_by (form_of s) s room

abbrev pub table_answer : List ℕ → Answer
table_answer s = table_answer_by (form_of s) s

abbrev pub table_told : List ℕ → ℕ × ℕ × ℕ × ℕ
table_told s = table_told_by (form_of s) s

abbrev pub read_told : List ℕ → List ℕ → ℕ × ℕ × ℕ × ℕ
read_told s gains = read_told_by (form_of s) s gains

abbrev pub table_gains : List ℕ → List ℕ
table_gains s = table_gains_by (form_of s) s

abbrev pub read_out : List ℕ → List ℕ → List ℕ
read_out s gains = read_out_by (form_of s) s gains
