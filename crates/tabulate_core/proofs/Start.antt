-- An input's first 262,145 bytes decide: what `tabulate` tells of them, and leaves, it tells and leaves of the whole input. Assumes nothing.
use Prim.Native.Nat.{ℕ, ◌+◌, ◌-◌, ◌*◌, ◌≤◌, ◌<◌}
use mathlib.Core.Path.{◌≡◌, refl, sym, ap, ◌∙◌}
use mathlib.Core.Bool.{Bool, true, false, not}
use mathlib.Core.List.{List}
use native.Mathlib.Decide.{dec_lt}
use native.Mathlib.Nat.{le-div_iff_mul-le}
use native.Mathlib.Omega.{arith}
use lib.ListN.{length, take}
use lib.Seq.{length-take-le, take_all}
use Rattle.answer.specs.declared.Refusal.TheVariants.{Count}
use Rattle.answer.proofs.Chain.{stop}
use Rattle.answer.specs.Limits.{band_limit, row_limit, level_limit}
use Rattle.table.specs.Release.{form1, shape_ok}
use Rattle.block.proofs.Tests.{Within, shape_is}
use Rattle.tabulate_core.specs.Argument.{bands_in}
use Rattle.tabulate_core.specs.Tabulate.{rows_in, tabulate_told, tabulate_out}
use Rattle.tabulate_core.proofs.Told.{tells_refused}

-- so many bytes are more than the most rows of the most bands
many_rows : (B n : ℕ) → 1 ≤ B → B ≤ band_limit → level_limit ≤ n → row_limit < rows_in B n
unfolding rows_in
many_rows B n some most h = (le-div_iff_mul-le {k = 4 * B} {x = row_limit + 1} {y = n + (4 * B - 1)} (omega arith)).1 (omega arith)

too_many : (B n : ℕ) → level_limit ≤ n → not (shape_ok B (rows_in B n)) ≡ true
too_many B n h = go (shape_ok B (rows_in B n)) refl
  where
    go : (b : Bool) → b ≡ shape_ok B (rows_in B n) → not b ≡ true
    go false e = refl
    go true e = let z : Within form1 B (rows_in B n) = shape_is B (rows_in B n) (sym e) in absurd (omega (arith, many_rows B n z.some z.most h, z.last))

long_refused : (w s bytes : List ℕ) → level_limit ≤ length s
    → (◌≡◌ {A = ℕ × ℕ × ℕ} (7, 0, 0) (tabulate_told w s (length bytes))) × (bytes ≡ tabulate_out w s bytes)
long_refused w s bytes h = tells_refused w s refl refl bytes Count (stop (too_many (bands_in w) (length s) h)) refl

pub start_decides : (w s bytes : List ℕ) (k : ℕ) → level_limit ≤ k
    → (tabulate_told w (take k s) (length bytes) ≡ tabulate_told w s (length bytes)) × (tabulate_out w (take k s) bytes ≡ tabulate_out w s bytes)
start_decides w s bytes k h = elim (dec_lt k (length s)) [
  | yes l ↦
      let a = long_refused w (take k s) bytes (omega (arith, length-take-le k s (omega arith))) in
      let b = long_refused w s bytes (omega arith) in
      (sym a.0 ∙ b.0, sym a.1 ∙ b.1)
  | no l ↦
      let e = take_all k s (omega arith) in
      (ap (λ x. tabulate_told w x (length bytes)) e, ap (λ x. tabulate_out w x bytes) e)
]
