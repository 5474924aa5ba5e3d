-- Judging all of an input and then showing its blocks gives the lister's text (`ListedByBlocks`). Assumes nothing.
use Prim.Native.Nat.{ℕ, ◌≤◌}
use mathlib.Core.Path.{◌≡◌, refl, sym, ap, ◌∙◌}
use mathlib.Core.List.{List}
use native.Mathlib.Omega.{arith}
use borrow.Author.Tests.{ne_eqb}
use Rattle.answer.specs.Answer.{class_of, where_of}
use Rattle.answer.specs.Answer.{Answer}
use Rattle.std.specs.Prelude.{Ok, Err}
use Rattle.answer.proofs.Numbers as numbers
use Rattle.block.specs.Read.{bytes_from, bands_of, rows_of}
use Rattle.table.specs.Table.{table_told_of, table_with, shape_of}
use Rattle.table.specs.Release.{form_of, table_answer, table_told, table_gains}
use Rattle.table.proofs.Forms.{sound_in}
use Rattle.table.proofs.Readable.{judged_reads}
use Rattle.judging.specs.Judging.{fed_all}
use Rattle.lister_core.specs.Lines.{refused_line}
use Rattle.lister_core.specs.Lister.{table_text, answer_text, listed_by}
use Rattle.lister_facts.specs.ByBlocks.{text_by_blocks, shown, ListedByBlocks}
use Rattle.lister_facts.proofs.Judged.{judged_by_blocks, shape_is}
use Rattle.lister_facts.proofs.Blocks.{text_is}

pub refused_text : (number place B N : ℕ) (gains : List ℕ) → 1 ≤ number → refused_line number place ≡ answer_text (number, place, B, N) gains
unfolding answer_text
refused_text number place B N gains h = rw (ne_eqb number 0 (λ e. omega arith)) refl

table_text_law : (B N : ℕ) (gains : List ℕ) → table_text B N gains ≡ answer_text (0, 0, B, N) gains
unfolding answer_text
table_text_law B N gains = refl

pub listed_by_blocks : ListedByBlocks
unfolding listed_by text_by_blocks
listed_by_blocks s = ap (λ a. shown a (fed_all s) s) (judged_by_blocks s) ∙ go (table_answer s) refl
  where
    go : (a : Answer) → a ≡ table_answer s → shown a (fed_all s) s ≡ answer_text (table_told_of (table_with a (shape_of (bytes_from s 0)))) (table_gains s)
    go (Ok tt) e =
        let B = bands_of (bytes_from s 0) in
        let N = rows_of (bytes_from s 0) in
        let h = shape_is s e in
        let t : table_told s ≡ (0, 0, B, N) = sym (ap (λ a. table_told_of (table_with a (shape_of (bytes_from s 0)))) e) in
        rw (h.0, h.1, h.2, h.3) (text_is (sound_in (bytes_from s 0)) s B N (judged_reads (form_of s) s B N t) ∙ table_text_law B N (table_gains s))
    go (Err r) e = refused_text (class_of r) (where_of r) 0 0 (table_gains s) (numbers.listed r).0
