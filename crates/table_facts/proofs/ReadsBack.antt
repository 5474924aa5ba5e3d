-- What was written reads back (`ReadsBack`). Assumes nothing.
use Prim.Native.Nat.{ℕ, ◌*◌, ◌<◌}
use mathlib.Core.Path.{◌≡◌, sym, ap, ◌∙◌, subst}
use mathlib.Core.Bool.{true}
use mathlib.Core.List.{List}
use lib.ListN.{length}
use borrow.Author.Tests.{eqb-true, ltb-false, not-false}
use Rattle.lists.proofs.First.{first_clear}
use Rattle.answer.specs.Answer.{when_done}
use Rattle.std.specs.Prelude.{Ok}
use Rattle.answer.proofs.Numbers.{zero_done}
use Rattle.answer.proofs.Chain.{opened}
use Rattle.block.specs.Form.{Form, Sound}
use Rattle.block.specs.Block.{table_bytes}
use Rattle.block.specs.Write.{shape_ok_by, row_ok, bad_row, gain_of, write_answer_by, write_out_by}
use Rattle.block.specs.Read.{read_out_by}
use Rattle.table.specs.Table.{read_told_by}
use Rattle.table.proofs.Readable.{told_read, read_out_law}
use Rattle.table_facts.specs.Trips.{ReadsBack}
use Rattle.table_facts.proofs.Written.{some_block, table_reads, gains_back}

-- a write that is done passed its tests
record Passed (F : Form) (B N : ℕ) (gains : List ℕ) : Type 0 where
  shape : shape_ok_by F B N ≡ true
  long : length gains ≡ N * B
  adds : (R : ℕ) → R < N → row_ok F.parts (gain_of gains) B R ≡ true

passed : {F : Form} (B N : ℕ) (gains : List ℕ) (room : ℕ) → (Ok tt) ≡ write_answer_by F B N gains room → Passed F B N gains
unfolding write_answer_by bad_row
passed {F} B N gains room d =
    let a = opened _ _ _ d in
    let b = opened _ _ _ a.1 in
    let c = opened _ _ _ b.1 in
    let e = opened _ _ _ c.1 in
    record {
      shape = not-false _ a.0;
      long = eqb-true _ _ (not-false _ b.0);
      adds = first_clear (row_ok F.parts (gain_of gains) B) N (ltb-false _ _ e.0);
    }

pub reads_back : (F : Form) → Sound F → ReadsBack F
reads_back F S B N gains bytes lent t l =
    let d : (Ok tt) ≡ write_answer_by F B N gains (length bytes) = sym (zero_done (write_answer_by F B N gains (length bytes)) (ap (λ x. x.0) t)) in
    let p = passed B N gains (length bytes) d in
    let T : List ℕ = table_bytes F.code (F.width B) B N gains in
    let w : T ≡ write_out_by F B N gains bytes = ap (λ a. when_done a T bytes) d in
    let r : read_told_by F T lent ≡ (0, 0, B, N) =
    told_read T B N (table_reads F S B N gains p.shape p.adds) (some_block F S B N gains p.shape p.adds) lent (l ∙ p.long) in
    let g : read_out_by F T lent ≡ gains = read_out_law F T lent B N r ∙ gains_back F S B N gains p.shape p.adds p.long in (
      subst (λ (s : List ℕ). read_told_by F s lent ≡ (0, 0, B, N)) w r,
      subst (λ (s : List ℕ). read_out_by F s lent ≡ gains) w g,
    )
