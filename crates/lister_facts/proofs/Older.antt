-- The listers of before (`OlderFormLister`, `KeepsListing`, `OlderLister`, `KeepsText`). Assumes nothing.
use Prim.Native.Nat.{◌≤◌}
use mathlib.Core.Path.{sym, ap, ap₂, ◌∙◌}
use mathlib.Core.Bool.{cond}
use mathlib.Core.List.{[]}
use native.Mathlib.Omega.{arith}
use lib.ListN.{length}
use lib.Dec.{ltb}
use borrow.Author.Tests.{le-ltb}
use Rattle.answer.specs.Limits.{band_limit, table_most}
use Rattle.block.specs.Form.{Form}
use Rattle.block.specs.Read.{bytes_from, bands_of, table_gains_by}
use Rattle.block.proofs.Shape.{few_bytes}
use Rattle.table.specs.Release.{form1}
use Rattle.table.proofs.Forms.{sound1}
use Rattle.table.proofs.Readable.{judged_reads}
use Rattle.table_facts.specs.Limits.{up_to, older_bands, older}
use Rattle.table_facts.proofs.Forms.{form1_of, form1_drop}
use Rattle.table_facts.proofs.Limits.{reads_alike, gains_alike}
use Rattle.table_facts.proofs.Older.{older_refuses, older_form}
use Rattle.lister_core.specs.Lines.{refused_line}
use Rattle.lister_core.specs.Lister.{answer_text, listed_by}
use Rattle.lister_facts.specs.Older.{OlderFormLister, KeepsListing, capped_by, OlderLister, KeepsText}
use Rattle.lister_facts.proofs.Listed.{refused_text}

pub older_form_lister : OlderFormLister
unfolding listed_by
older_form_lister m s B N e d =
    ap (λ x. answer_text x (table_gains_by (up_to form1 m) s)) (older_form m s [] B N e d).2
    ∙ sym (refused_text 11 0 0 0 (table_gains_by (up_to form1 m) s) (omega arith))

pub keeps_listing : KeepsListing
keeps_listing s e = ap (λ (F : Form). listed_by F s) (form1_of s e)

pub older_lister : OlderLister
unfolding capped_by listed_by
older_lister s B N e h =
    let t = (older_refuses form1 sound1 older_bands s [] B N e h).2 in
    ap (cond (ltb (table_most older_bands) (length s)) (refused_line 9 0))
    (ap (λ x. answer_text x (table_gains_by older s)) t ∙ sym (refused_text 11 0 0 0 (table_gains_by older s) (omega arith)))

pub keeps_text : KeepsText
unfolding capped_by listed_by
keeps_text s B N e h =
    let r = judged_reads form1 s B N e in
    let m = few_bytes B older_bands N r.shape.some h (omega arith) r.shape.last in
    let low : bands_of (bytes_from s 0) ≤ older_bands = omega (arith, r.bands) in
    let top : bands_of (bytes_from s 0) ≤ band_limit = omega (arith, r.bands, r.shape.most) in
    rw (le-ltb (table_most older_bands) (length s) (omega (arith, r.long)))
    (ap₂ answer_text (reads_alike form1 older_bands band_limit s [] low top).2 (gains_alike form1 older_bands band_limit s low top)
    ∙ sym (keeps_listing s (form1_drop r)))
