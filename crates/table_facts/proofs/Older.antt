-- A reader with a lower limit on the bands answers 11 to a sound table above it (`OlderRefuses`), one of form 1 alone to form 2 (`OlderForm`); and
-- at the release with 16 bands (`KeepsBytes`, `KeepsGains`). Assumes nothing.
use Prim.Native.Nat.{ℕ, ◌<◌}
use mathlib.Core.Path.{◌≡◌, refl, sym, ap, ◌∙◌}
use mathlib.Core.Bool.{false, not}
use mathlib.Core.List.{List}
use native.Mathlib.Omega.{arith}
use lib.ListN.{length}
use Rattle.answer.specs.Answer.{judged, when_done}
use Rattle.answer.specs.Limits.{band_limit}
use Rattle.std.specs.Prelude.{Err}
use Rattle.answer.specs.declared.Refusal.TheVariants.{Header}
use Rattle.answer.proofs.Chain.{opened, gives, stop, skip}
use Rattle.block.specs.Form.{Form, Sound}
use Rattle.block.specs.Block.{blocks}
use Rattle.block.specs.Read.{bytes_from, bands_of, word_at, block_of, head_ok_by, head_tests_by, block_tests_by, block_answer_by, table_gains_by, read_out_by}
use Rattle.block.proofs.Tests.{no_form, no_bands}
use Rattle.table.specs.Table.{table_told_of, table_with, block_told_of, block_with, shape_of, header_by, read_told_by, table_told_by, block_told_by}
use Rattle.table.specs.Release.{form1, form_of}
use Rattle.table.proofs.Forms.{sound_in}
use Rattle.table.proofs.Reading.{head_refuses, table_head_refuses}
use Rattle.table.proofs.Readable.{block_done, reads, reads_some, judged_reads, head_passes}
use Rattle.table_facts.specs.Limits.{up_to, OlderRefuses, older_bands, KeepsBytes, KeepsGains}
use Rattle.table_facts.specs.Forms.{OlderForm}
use Rattle.table_facts.proofs.Agree.{judged_agrees}
use Rattle.table_facts.proofs.Forms.{said, form1_drop, keeps_reading}
use Rattle.table_facts.proofs.Limits.{writes_alike, reads_alike}

-- A sound table of the form F, of B bands, for a reader of the form G that passes no header with F's number and B bands.
module _ (F : Form) (S : Sound F) (G : Form) (s : List ℕ) (B N : ℕ) (e : table_told_by F s ≡ (0, 0, B, N))
    (none : (f : ℕ → ℕ) (k : ℕ) → bands_of f ≡ B → word_at f 0 ≡ F.code → head_ok_by G f k ≡ false) where
  -- a block
  block_refuses : (k : ℕ) (b : List ℕ) (n : ℕ) → block_told_by F k b ≡ (0, 0, F.code, k, B, N, n) → block_told_by G k b ≡ (11, k, 0, 0, 0, 0, 0)
  unfolding block_answer_by block_tests_by
  block_refuses k b n h =
      let f = bytes_from b 0 in
      let t = block_done (block_answer_by F k b) (header_by F f k) F.code k B N n h in
      let x = opened _ _ _ t.0 in
      let y = opened _ _ _ x.1 in
      let r : Err (Header k) ≡ block_answer_by G k b = gives (skip x.0 (skip y.0 (stop (rw (none f k t.1 t.3) refl)))) in
      sym (ap (λ a. block_told_of (block_with a (header_by G f k))) r)

  -- the head
  head_refused : Err (Header 0) ≡ judged (head_tests_by G s)
  unfolding head_tests_by
  head_refused =
      let r = judged_reads F s B N e in
      let x = opened _ _ _ (head_passes s B N r (reads_some S r)) in
      let y = opened _ _ _ x.1 in
      gives (skip x.0 (skip y.0 (stop (ap not (none (bytes_from s 0) 0 r.bands (said S r))))))

  -- so the readers
  pub refuses : (lent : List ℕ)
      → (read_told_by G s lent ≡ (11, 0, 0, 0)) × (read_out_by G s lent ≡ lent) × (table_told_by G s ≡ (11, 0, 0, 0))
      × ((k : ℕ) → k < blocks (F.width B) N → block_told_by G k (block_of s k) ≡ (11, k, 0, 0, 0, 0, 0))
  refuses lent =
      let r = head_refuses G s (length lent) (Header 0) head_refused in
      let q = table_head_refuses G s (Header 0) head_refused in
      let x = shape_of (bytes_from s 0) in (
        sym (ap (λ a. table_told_of (table_with a x)) r),
        sym (ap (λ a. when_done a (table_gains_by G s) lent) r),
        sym (ap (λ a. table_told_of (table_with a x)) q),
        λ k l. block_refuses k _ _ (((judged_agrees F S s B N).0 e).each k l),
      )

pub older_refuses : (F : Form) → Sound F → OlderRefuses F
older_refuses F S m s lent B N e h = refuses F S (up_to F m) s B N e (λ f k p q. no_bands (up_to F m) f k (omega arith)) lent

pub older_form : OlderForm
older_form m s lent B N e d =
    rw d at (refuses (form_of s) (sound_in (bytes_from s 0)) (up_to form1 m) s B N e (λ f k p q. no_form (up_to form1 m) f k (λ z. omega arith)) lent)

-- ---- at the release with 16 bands
pub keeps_bytes : KeepsBytes
keeps_bytes B N gains bytes h = writes_alike form1 older_bands band_limit B N gains bytes h (omega arith)

pub keeps_gains : KeepsGains
keeps_gains s lent B N e =
    let r = (reads (up_to form1 older_bands) s lent B N e).0 in
    let z = reads_alike form1 older_bands band_limit s lent (omega (arith, r.bands, r.shape.most)) (omega (arith, r.bands, r.shape.most)) in
    let k = keeps_reading s lent (form1_drop (reads form1 s lent B N (sym z.0 ∙ e)).0) in
    (k.0 ∙ sym z.0 ∙ e, k.1 ∙ sym z.1)
