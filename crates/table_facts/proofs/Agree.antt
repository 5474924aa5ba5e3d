-- The two readers agree, gains lent or not (`ReadersAgree`, `JudgedAgrees`). Assumes nothing.
use Prim.Native.Nat.{ℕ, ◌+◌, ◌*◌, ◌≤◌, ◌<◌}
use mathlib.Core.Path.{◌≡◌, refl, sym, ap, ◌∙◌}
use mathlib.Core.Bool.{not}
use mathlib.Core.List.{List}
use native.Mathlib.Omega.{arith}
use lib.ListN.{length}
use borrow.Author.Tests.{eq-eqb}
use Rattle.answer.specs.Answer.{judged}
use Rattle.std.specs.Prelude.{Ok}
use Rattle.answer.proofs.Chain.{opened, gives, skip, rest}
use Rattle.block.specs.Form.{Form, Sound}
use Rattle.block.specs.Block.{blocks, held_rows}
use Rattle.block.specs.Read.{bytes_from, block_of, word_at, bands_of, rows_of, block_tests_by, block_answer_by}
use Rattle.table.specs.Table.{block_told_of, block_with, header_by, block_told_by}
use Rattle.block.proofs.Cut.{block_byte_law, block_long}
use Rattle.block.proofs.Tests.{head_is}
use Rattle.table.proofs.Reading.{Good, good, good_passes}
use Rattle.table.proofs.Readable.{Reads, block_done, reads, reads_some, judged_reads, told_read, told_judged}
use Rattle.table_facts.specs.Trips.{EachReads, ReadersAgree, JudgedAgrees}
use Rattle.table.proofs.Part.{word_same, tests_same}

module _ (F : Form) (s : List ℕ) (B N k : ℕ) where
  f : ℕ → ℕ
  f = bytes_from s (512 * k)

  part : ℕ → ℕ
  part = bytes_from (block_of s k) 0

  alike : (i : ℕ) → i < 512 → part i ≡ f i
  unfolding part f
  alike i l = block_byte_law s k i l

  -- a block that is good where it stands is read by itself
  told_alone : 512 * k + 512 ≤ length s → Good F B N (bytes_from s (512 * k)) k → block_told_by F k (block_of s k) ≡ (0, 0, F.code, k, B, N, held_rows (F.width B) N k)
  unfolding block_answer_by part f
  told_alone l g =
      let h = head_is {F = F} f k g.head in
      let b : bands_of part ≡ B = word_same part f alike 4 (omega arith) ∙ g.bands in
      let n : rows_of part ≡ N = word_same part f alike 6 (omega arith) ∙ g.rows in
      let o : word_at part 0 ≡ F.code = word_same part f alike 0 (omega arith) ∙ h.form in
      let m : word_at part 2 ≡ k = word_same part f alike 2 (omega arith) ∙ h.number in
      let t : (Ok tt) ≡ judged (block_tests_by F B N part k) = good_passes B N f k g ∙ ap judged (sym (tests_same part f alike F B N k)) in
      let d : (Ok tt) ≡ block_answer_by F k (block_of s k) = gives (skip (ap not (eq-eqb _ _ (block_long s k l))) (rest (rw (b, n) t))) in
      sym (ap (λ a. block_told_of (block_with a (header_by F part k))) d) ∙ rw (b, n, o, m) refl

  -- and the other way round
  good_there : block_told_by F k (block_of s k) ≡ (0, 0, F.code, k, B, N, held_rows (F.width B) N k) → Good F B N (bytes_from s (512 * k)) k
  unfolding block_answer_by part f
  good_there e =
      let t = block_done (block_answer_by F k (block_of s k)) (header_by F part k) F.code k B N (held_rows (F.width B) N k) e in
      let b : bands_of part ≡ B = t.1 in
      let n : rows_of part ≡ N = t.2 in
      let d : (Ok tt) ≡ judged (block_tests_by F (bands_of part) (rows_of part) part k) = (opened _ _ _ t.0).1 in
      good B N f k ((rw (b, n) at d) ∙ ap judged (tests_same part f alike F B N k))

each_reads : {F : Form} → Sound F → (s : List ℕ) (B N : ℕ) → Reads F s B N → EachReads F s B N
each_reads {F} S s B N r =
    let o : 0 < blocks (F.width B) N = reads_some S r in
    record {
      some = omega (arith, r.long);
      long = r.long;
      each = λ k l. told_alone F s B N k (omega (arith, r.long)) (r.each k l);
    }

all_read : {F : Form} (s : List ℕ) (B N : ℕ) → EachReads F s B N → Reads F s B N × (0 < blocks (F.width B) N)
all_read {F} s B N e =
    let o : 0 < blocks (F.width B) N = omega (arith, e.some, e.long) in
    let g = good_there F s B N 0 (e.each 0 o) in
    let z = (head_is {F = F} (bytes_from s 0) 0 g.head).shape in (
      record { shape = rw (g.bands, g.rows) at z; long = e.long; bands = g.bands; rows = g.rows; each = λ k l. good_there F s B N k (e.each k l) },
      o,
    )

pub readers_agree : (F : Form) → Sound F → ReadersAgree F
readers_agree F S s lent B N l =
    (λ t. each_reads S s B N (reads F s lent B N t).0, λ e. let r = all_read s B N e in told_read s B N r.0 r.1 lent l)

pub judged_agrees : (F : Form) → Sound F → JudgedAgrees F
judged_agrees F S s B N =
    (λ t. each_reads S s B N (judged_reads F s B N t), λ e. let r = all_read s B N e in told_judged s B N r.0 r.1)
