-- The table of one band, one row, 32768, and the lister's two lines for its bytes. Assumes nothing.
use Prim.Native.Nat.{ℕ, ◌<◌}
use mathlib.Core.Path.{◌≡◌, refl, ap, subst, ◌∙◌}
use mathlib.Core.Bool.{true}
use mathlib.Core.List.{List, [], ◌∷◌}
use native.Mathlib.Omega.{arith}
use Rattle.lists.specs.Lists.{sum_to}
use Rattle.lister_core.specs.Lister.{answer_text, listed_by, listed}
use Rattle.lister_core.proofs.Cases as lister
use Rattle.table.specs.Table.{table_told_by}
use Rattle.table.specs.Release.{form1, table_of, table_told, table_gains}
use Rattle.block.specs.Form.{Form}
use Rattle.block.specs.Write.{row_ok, gain_of}
use Rattle.block.specs.Read.{table_gains_by}
use Rattle.block.proofs.Cases as table
use Rattle.table.proofs.Forms.{sound1}
use Rattle.table.proofs.Readable.{Reads, told_judged}
use Rattle.table_facts.proofs.Forms.{form1_is}
use Rattle.table_facts.proofs.Written.{table_reads, some_block, gains_back}
use Rattle.worked.specs.Worked.{one_band, two_lines}

abbrev gains : List ℕ
gains = 32768 ∷ []

row_0 : row_ok 32768 (gain_of gains) 1 0 ≡ true
unfolding row_ok sum_to
row_0 = refl

adds : (R : ℕ) → R < 1 → row_ok 32768 (gain_of gains) 1 R ≡ true
adds R l = subst (λ r. row_ok 32768 (gain_of gains) 1 r ≡ true) (let z : 0 ≡ R = omega arith in z) row_0

-- the table reads, by form 1, which is the form that it says
reads : Reads form1 (table_of 1 1 gains) 1 1
reads = table_reads form1 sound1 1 1 gains refl adds

one_told : table_told one_band ≡ (0, 0, 1, 1)
one_told =
    subst (λ (s : List ℕ). table_told s ≡ (0, 0, 1, 1)) table.one_band_law
    (ap (λ (F : Form). table_told_by F (table_of 1 1 gains)) (form1_is reads) ∙ told_judged _ 1 1 reads (some_block form1 sound1 1 1 gains refl adds))

one_gains : table_gains one_band ≡ gains
one_gains =
    subst (λ (s : List ℕ). table_gains s ≡ gains) table.one_band_law
    (ap (λ (F : Form). table_gains_by F (table_of 1 1 gains)) (form1_is reads) ∙ gains_back form1 sound1 1 1 gains refl adds refl)

pub one_listed : listed one_band ≡ two_lines
unfolding listed_by answer_text
one_listed =
    ap (λ t. answer_text t (table_gains one_band)) one_told ∙ ap (answer_text (0, 0, 1, 1)) one_gains ∙ lister.one_band_law
