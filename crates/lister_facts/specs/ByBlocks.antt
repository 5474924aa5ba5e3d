-- The claims on a table of either form that is judged and listed block by block: after the blocks of an input, a cut last one too, the judging has
-- the table's answer, and the lines of the blocks joined are the lister's text. Statements only.
use Rattle.std.specs.Prelude.{ℕ, ◌≡◌, List, ◌++◌}
use Rattle.lists.specs.Lists.{join_to}
use Rattle.answer.specs.Answer.{class_of, where_of}
use Rattle.answer.specs.Answer.{Answer}
use Rattle.std.specs.Prelude.{Ok, Err}
use Rattle.block.specs.Read.{bytes_from, block_of}
use Rattle.table.specs.Release.{rules_of, table_answer}
use Rattle.judging.specs.declared.Judging.{Judging}
use Rattle.judging.specs.Judging.{finished, fed_all}
use Rattle.lister_core.specs.Lines.{head_line, refused_line}
use Rattle.lister_core.specs.Lister.{block_lines_by, listed}

-- the judging of an input, piece after piece, for every input
abbrev pub JudgedByBlocks : Type 0
JudgedByBlocks = (s : List ℕ) → finished (fed_all s) ≡ table_answer s

-- the first line, and the lines of block after block
unfoldable pub text_by_blocks : Judging → List ℕ → List ℕ
text_by_blocks j s =
    head_line j.bands j.rows ++ join_to (λ k. block_lines_by (rules_of j.form) j.bands j.rows (bytes_from (block_of s k) 0) k) j.want

-- the text where the answer is done, or the line of its refusal
abbrev pub shown : Answer → Judging → List ℕ → List ℕ
shown (Ok tt) j s = text_by_blocks j s
shown (Err r) j s = refused_line (class_of r) (where_of r)

-- what judging all of an input and then showing its blocks gives, for every input
abbrev pub ListedByBlocks : Type 0
ListedByBlocks = (s : List ℕ) → shown (finished (fed_all s)) (fed_all s) s ≡ listed s
