-- What reads can be written (`WritesAgain`). Assumes nothing.
use Prim.Native.Nat.{ℕ, ◌*◌}
use mathlib.Core.Path.{◌≡◌, sym, ap, ◌∙◌}
use mathlib.Core.Bool.{not}
use mathlib.Core.List.{List}
use native.Mathlib.Omega.{arith}
use lib.ListN.{length}
use borrow.Author.Tests.{eq-eqb}
use Rattle.lists.proofs.First.{first_end}
use Rattle.answer.specs.Answer.{told_of}
use Rattle.std.specs.Prelude.{Ok}
use Rattle.answer.proofs.Chain.{gives, skip, clear, found_none}
use Rattle.block.specs.Form.{Form, Sound}
use Rattle.block.specs.Block.{blocks}
use Rattle.block.specs.Write.{row_ok, bad_row, gain_of, write_answer_by}
use Rattle.block.specs.Read.{table_gains_by}
use Rattle.block.proofs.Tests.{shape_ok_law}
use Rattle.table.proofs.Readable.{Reads, reads, reads_many, read_out_law}
use Rattle.table_facts.specs.Trips.{WritesAgain}
use Rattle.table_facts.proofs.Gains.{rows_add}

pub written_done : {F : Form} → Sound F → (s : List ℕ) (B N room : ℕ) → Reads F s B N → room ≡ length s → (Ok tt) ≡ write_answer_by F B N (table_gains_by F s) room
unfolding write_answer_by bad_row
written_done {F} S s B N room r e =
    let a = first_end (row_ok F.parts (gain_of (table_gains_by F s)) B) N N (omega arith) (omega arith) (rows_add S s B N r) in
    gives
    (skip (ap not (shape_ok_law r.shape))
    (skip (ap not (eq-eqb _ _ (reads_many r)))
    (skip (ap not (eq-eqb room (512 * blocks (F.width B) N) (e ∙ r.long)))
    (found_none N a (omega arith) clear))))

pub writes_again : (F : Form) → Sound F → WritesAgain F
writes_again F S s lent bytes B N t l =
    rw (read_out_law F s lent B N t) (sym (ap told_of (written_done S s B N (length bytes) (reads F s lent B N t).0 l)))
