-- A worked case (RULES, Worked): the lister's two lines for the table of one band, one row, 32768, `bands 1 rows 1` and `0 32768`. Assumes nothing.
use mathlib.Core.Path.{◌≡◌, refl, sym}
use mathlib.Core.List.{[], ◌∷◌}
use native.Mathlib.Omega.{arith}
use lib.Dec.{lit<, lit≤}
use Rattle.lists.specs.Lists.{join_to}
use Rattle.digits.specs.Digits.{decimal_of}
use Rattle.digits.proofs.Places.{decimal_is}
use Rattle.lister_core.specs.Lines.{pair_line, gains_text, row_line}
use Rattle.lister_core.specs.Lister.{table_text}

zero_text : decimal_of 0 ≡ 48 ∷ []
zero_text = sym (decimal_is 0 1 (48 ∷ []) (lit≤ tt, lit< tt, λ h. absurd (omega arith)) refl)

one_text : decimal_of 1 ≡ 49 ∷ []
one_text = sym (decimal_is 1 1 (49 ∷ []) (lit≤ tt, lit< tt, λ h. absurd (omega arith)) refl)

whole_text : decimal_of 32768 ≡ 51 ∷ 50 ∷ 55 ∷ 54 ∷ 56 ∷ []
whole_text = sym (decimal_is 32768 5 (51 ∷ 50 ∷ 55 ∷ 54 ∷ 56 ∷ []) (lit≤ tt, lit< tt, λ h. lit≤ tt) refl)

pub one_band_law : table_text 1 1 (32768 ∷ [])
    ≡ 98 ∷ 97 ∷ 110 ∷ 100 ∷ 115 ∷ 32 ∷ 49 ∷ 32 ∷ 114 ∷ 111 ∷ 119 ∷ 115 ∷ 32 ∷ 49 ∷ 10 ∷ 48 ∷ 32 ∷ 51 ∷ 50 ∷ 55 ∷ 54 ∷ 56 ∷ 10 ∷ []
unfolding pair_line gains_text row_line join_to table_text
one_band_law = rw (one_text, zero_text, whole_text)
