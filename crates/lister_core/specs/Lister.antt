-- RULES, Lister: all that it writes for an input, and the lines of a block, for any form. Definitions only.
use Rattle.std.specs.Prelude.{ℕ, ◌+◌, ◌*◌, cond, List, ◌++◌, take, drop, eqb}
use Rattle.lists.specs.Lists.{tab, join_to}
use Rattle.block.specs.Form.{Form}
use Rattle.block.specs.Block.{per_block, held_rows, given}
use Rattle.block.specs.Read.{gain_in, table_gains_by}
use Rattle.table.specs.Table.{table_told_by}
use Rattle.table.specs.Release.{form_of}
use Rattle.lister_core.specs.Lines.{head_line, refused_line, row_line}

-- `bands B rows N`, then a line for each row of B gains
unfoldable pub table_text : ℕ → ℕ → List ℕ → List ℕ
table_text B N gains = head_line B N ++ join_to (λ r. row_line r (take B (drop (r * B) gains))) N

-- by what is told of a table: its number, place, bands and rows
unfoldable pub answer_text : ℕ × ℕ × ℕ × ℕ → List ℕ → List ℕ
answer_text t gains = cond (eqb t.0 0) (table_text t.2 t.3 gains) (refused_line t.0 t.1)

-- for an input: the table of the form F in it, or its refusal
unfoldable pub listed_by : Form → List ℕ → List ℕ
listed_by F s = answer_text (table_told_by F s) (table_gains_by F s)

-- the lines of block k, with the bytes f, of a table of B bands and N rows
unfoldable pub block_lines_by : Form → ℕ → ℕ → (ℕ → ℕ) → ℕ → List ℕ
block_lines_by F B N f k =
    let W = F.width B in
    join_to (λ q. row_line (k * per_block W + q) (tab (λ j. given F.parts W B (gain_in f) (q * B + j)) B)) (held_rows W N k)

-- by the form that it says
abbrev pub listed : List ℕ → List ℕ
listed s = listed_by (form_of s) s
