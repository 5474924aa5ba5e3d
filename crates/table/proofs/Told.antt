-- What the readers tell at each of their returns, from the answer, for any form. Assumes nothing.
use Prim.Native.Nat.{ℕ}
use mathlib.Core.Path.{◌≡◌, ap, ◌∙◌}
use mathlib.Core.List.{List}
use lib.ListN.{length}
use Rattle.answer.specs.Answer.{told_of, when_done}
use Rattle.answer.proofs.Chain.{Gives, refuses, finishes}
use Rattle.answer.specs.declared.Refusal.{Refusal}
use Rattle.answer.specs.Answer.{Answer}
use Rattle.std.specs.Prelude.{Ok, Err}
use Rattle.block.specs.Form.{Form}
use Rattle.block.specs.Write.{write_tests_by, write_answer_by}
use Rattle.table.specs.Release.{form1, table_of, write_told, write_out}
use Rattle.block.specs.Read.{bytes_from, bands_of, rows_of, block_answer_by, read_answer_by, table_answer_by, table_gains_by, read_out_by}
use Rattle.table.specs.Table.{table_told_of, table_with, shape_of, read_told_by, table_told_by, block_told_of, block_with, header_by, block_told_by}

-- a block by itself
pub block_tells : (F : Form) (number : ℕ) (s : List ℕ) (a : Answer) → a ≡ block_answer_by F number s
    → block_told_of (block_with a (header_by F (bytes_from s 0) number)) ≡ block_told_by F number s
block_tells F number s a e = ap (λ x. block_told_of (block_with x (header_by F (bytes_from s 0) number))) e

-- a table with nothing lent
pub shape_tells : (F : Form) (s : List ℕ) (a : Answer) → a ≡ table_answer_by F s → table_told_of (table_with a (shape_of (bytes_from s 0))) ≡ table_told_by F s
shape_tells F s a e = ap (λ x. table_told_of (table_with x (shape_of (bytes_from s 0)))) e

-- the two promises of `read`
module _ (F : Form) (s gains : List ℕ) where
  pub read_refuses : (r : Refusal) → Err r ≡ read_answer_by F s (length gains)
      → (table_told_of (Err r) ≡ read_told_by F s gains) × (gains ≡ read_out_by F s gains)
  read_refuses r e = (ap (λ a. table_told_of (table_with a (shape_of (bytes_from s 0)))) e, ap (λ a. when_done a (table_gains_by F s) gains) e)

  pub read_finishes : (l : List ℕ) (B N : ℕ) → B ≡ bands_of (bytes_from s 0) → N ≡ rows_of (bytes_from s 0) → l ≡ table_gains_by F s
      → (Ok tt) ≡ read_answer_by F s (length gains)
      → (table_told_of (Ok (record { bands = B; rows = N })) ≡ read_told_by F s gains) × (l ≡ read_out_by F s gains)
  read_finishes l B N p q n e =
      (rw (p, q) (ap (λ a. table_told_of (table_with a (shape_of (bytes_from s 0)))) e), n ∙ ap (λ a. when_done a (table_gains_by F s) gains) e)

-- and those of `write`
module _ (B N : ℕ) (gains bytes : List ℕ) where
  pub write_refuses : {r : Refusal} → Gives (write_tests_by form1 B N gains (length bytes)) (Err r)
      → (told_of (Err r) ≡ write_told B N gains bytes) × (bytes ≡ write_out B N gains bytes)
  unfolding write_answer_by
  write_refuses g = refuses _ _ g

  pub write_finishes : {l : List ℕ} → l ≡ table_of B N gains → Gives (write_tests_by form1 B N gains (length bytes)) (Ok tt)
      → (told_of (Ok tt) ≡ write_told B N gains bytes) × (l ≡ write_out B N gains bytes)
  unfolding write_answer_by
  write_finishes e g = finishes _ _ e g
