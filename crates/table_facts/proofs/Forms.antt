-- The two forms, as this release reads them (`FormReadsBack`, `FormRewrites`, `OneEncoding`, `OneForm`, `KeepsReading`). Assumes nothing.
use Prim.Native.Nat.{ℕ, ◌+◌, ◌-◌, ◌≤◌}
use mathlib.Core.Path.{◌≡◌, sym, ap, ◌∙◌}
use mathlib.Core.List.{List}
use native.Mathlib.Omega.{arith}
use Rattle.block.specs.Form.{Form, Sound}
use Rattle.block.specs.Block.{table_bytes}
use Rattle.block.specs.Write.{write_out_by}
use Rattle.block.specs.Read.{bytes_from, block_of, word_at, read_out_by, block_answer_by}
use Rattle.block.proofs.Tests.{head_is}
use Rattle.table.specs.Table.{header_by, block_told_by, table_told_by, read_told_by}
use Rattle.table.specs.Release.{form1, form, form_of, block_told, table_gains}
use Rattle.table.proofs.Forms.{sound1, sound, sound_in, form_zero, drop_is, drop_small}
use Rattle.table.proofs.Readable.{Reads, reads, reads_some, block_done, judged_reads}
use Rattle.table_facts.specs.Trips.{EachReads}
use Rattle.table_facts.specs.Forms.{drop_of, FormReadsBack, FormRewrites, OneEncoding, OneForm, KeepsReading}
use Rattle.table_facts.proofs.Rewrites.{bytes_are}
use Rattle.table_facts.proofs.Trips.{form_trips}

-- the first block of a table that reads says its form
pub said : {F : Form} → Sound F → {s : List ℕ} {B N : ℕ} → Reads F s B N → word_at (bytes_from s 0) 0 ≡ F.code
said {F} S {s} {B} {N} r = (head_is {F = F} (bytes_from s 0) 0 (r.each 0 (reads_some S r)).head).form

pub form_drop : (d : ℕ) → d ≤ 1 → {s : List ℕ} {B N : ℕ} → Reads (form d) s B N → drop_of s ≡ d
form_drop d few {s} r = drop_is (bytes_from s 0) d few (said (sound d few) r)

-- and one that says no other is form 1
pub form1_of : (s : List ℕ) → drop_of s ≡ 0 → form_of s ≡ form1
form1_of s e = ap form e ∙ form_zero

pub form1_drop : {s : List ℕ} {B N : ℕ} → Reads form1 s B N → drop_of s ≡ 0
form1_drop {s} r = drop_is (bytes_from s 0) 0 (omega arith) (said sound1 r)

pub form1_is : {s : List ℕ} {B N : ℕ} → Reads form1 s B N → form_of s ≡ form1
form1_is {s} r = form1_of s (form1_drop r)

pub keeps_reading : KeepsReading
keeps_reading s lent e =
    let z = form1_of s e in (
      ap (λ (F : Form). read_told_by F s lent) z,
      ap (λ (F : Form). read_out_by F s lent) z,
      ap (λ (F : Form). table_told_by F s) z,
      λ k. ap (λ (F : Form). block_told_by F k s) z,
    )

pub form_reads_back : FormReadsBack
form_reads_back d B N gains bytes lent few t l =
    let b = (form_trips d few).back B N gains bytes lent t l in
    let e = form_drop d few (reads (form d) (write_out_by (form d) B N gains bytes) lent B N b.0).0 in
    (e, rw e b.0, rw e b.1)

pub form_rewrites : FormRewrites
form_rewrites s lent bytes B N small t l =
    let trips = form_trips (drop_of s) (drop_small (bytes_from s 0)) in
    (trips.again s lent bytes B N t l, trips.same s lent bytes B N small t l)

pub one_encoding : OneEncoding
one_encoding s t B N small tiny p q e g =
    let a = bytes_are (sound_in (bytes_from s 0)) s B N (judged_reads (form_of s) s B N p) small in
    let b = bytes_are (sound_in (bytes_from t 0)) t B N (judged_reads (form_of t) t B N q) tiny in
    a ∙ ap (λ (l : List ℕ). table_bytes (1 + drop_of s) (B - drop_of s) B N l) g ∙ ap (λ (d : ℕ). table_bytes (1 + d) (B - d) B N (table_gains t)) e ∙ sym b

-- a block that tells its form is read by it
told_code : (F : Form) (k : ℕ) (s : List ℕ) (form B N n : ℕ) → block_told_by F k s ≡ (0, 0, form, k, B, N, n) → word_at (bytes_from s 0) 0 ≡ form
told_code F k s form B N n e = (block_done (block_answer_by F k s) (header_by F (bytes_from s 0) k) form k B N n e).3

block_form : (d k : ℕ) (s : List ℕ) (B N n : ℕ) → d ≤ 1 → block_told_by (form d) k s ≡ (0, 0, 1 + d, k, B, N, n) → block_told k s ≡ (0, 0, 1 + d, k, B, N, n)
block_form d k s B N n few e = rw (drop_is (bytes_from s 0) d few (told_code (form d) k s _ _ _ _ e)) e

form_block : (d k : ℕ) (s : List ℕ) (B N n : ℕ) → d ≤ 1 → block_told k s ≡ (0, 0, 1 + d, k, B, N, n) → block_told_by (form d) k s ≡ (0, 0, 1 + d, k, B, N, n)
form_block d k s B N n few e = rw (drop_is (bytes_from s 0) d few (told_code (form_of s) k s _ _ _ _ e)) at e

pub one_form : OneForm
one_form s lent B N l = (
  λ t.
      let d = drop_of s in
      let few = drop_small (bytes_from s 0) in
      let e = ((form_trips d few).agree s lent B N l).0 t in
      record { few = few; some = e.some; long = e.long; each = λ k m. block_form d k (block_of s k) B N _ few (e.each k m) },
  λ d e.
      let each : EachReads (form d) s B N =
      record { some = e.some; long = e.long; each = λ k m. form_block d k (block_of s k) B N _ e.few (e.each k m) } in
      let t = ((form_trips d e.few).agree s lent B N l).1 each in
      rw (form_drop d e.few (reads (form d) s lent B N t).0) t,
)
