-- The gains of a table that reads: block by block, as many as rows times bands, and every row adds up. Assumes nothing.
use Prim.Native.Nat.{ℕ, suc, ◌+◌, ◌*◌, ◌/◌, ◌%◌, ◌≤◌, ◌<◌}
use mathlib.Core.Path.{◌≡◌, sym, ap, ◌∙◌}
use mathlib.Core.Bool.{true}
use mathlib.Core.List.{List}
use native.Mathlib.Nat.{mod-lt, mul_assoc, mul_comm, add-mul, div-add-mod', mul-le-mul_right, suc-mul}
use native.Mathlib.Omega.{arith}
use Rattle.lists.proofs.Tab.{tab_at}
use Rattle.block.specs.Form.{Form, Sound}
use Rattle.block.specs.Block.{per_block, blocks, held_rows, given}
use Rattle.block.specs.Write.{row_ok, gain_of}
use Rattle.block.specs.Read.{bytes_from, gain_in, gain_at, table_gains_by}
use Rattle.block.proofs.Shape.{per_pos, lt_blocks, wide_pos}
use Rattle.block.proofs.Totals.{row_same}
use Rattle.block.proofs.Given.{given_same, gain_in_law}
use Rattle.table.proofs.Reading.{gains_are}
use Rattle.table.proofs.Readable.{Reads, reads_known}
use Rattle.table_facts.proofs.Block.{good_row}

module _ {F : Form} (S : Sound F) (s : List ℕ) (B N : ℕ) (r : Reads F s B N) where
  abbrev W : ℕ
  W = F.width B

  pub gains_at : (i : ℕ) → i < N * B → gain_of (table_gains_by F s) i ≡ given F.parts W B (gain_at W s) i
  gains_at i l =
      ap (λ (g : List ℕ). gain_of g i) (sym (gains_are F s B N (sym r.bands) (sym r.rows)))
      ∙ tab_at (given F.parts W B (gain_at W s)) (N * B) i 0 l

  -- row R, in the list of all gains and in the block that holds it
  pub row_there : (k q R : ℕ) → k * per_block W + q ≡ R → q < per_block W → R < N → (j : ℕ) → j < B
      → gain_of (table_gains_by F s) (R * B + j) ≡ given F.parts W B (gain_in (bytes_from s (512 * k))) (q * B + j)
  row_there k q R d ql l j m =
      let fit = (reads_known S r).stores.fits in
      let P : ℕ = per_block W in
      let e : R * W ≡ k * (P * W) + q * W =
      ap (λ (x : ℕ). x * W) (sym d) ∙ add-mul (k * P) q W ∙ ap (λ (x : ℕ). x + q * W) (mul_assoc k P W) in
      let u : suc q * W ≤ P * W = mul-le-mul_right W ql in
      let v : suc R * B ≤ N * B = mul-le-mul_right B l in
      gains_at (R * B + j) (omega (arith, suc-mul R B))
      ∙ given_same F.parts W B (gain_at W s) (gain_in (bytes_from s (512 * k))) R q
      (λ x y.
      let z : R * W + x ≡ k * (P * W) + (q * W + x) = omega arith in
      ap (gain_at W s) z ∙ gain_in_law s W k (q * W + x) (wide_pos W fit.some fit.most) (omega (arith, suc-mul q W))) j m

  pub rows_add : (R : ℕ) → R < N → row_ok F.parts (gain_of (table_gains_by F s)) B R ≡ true
  unfolding held_rows
  rows_add R l =
      let fit = (reads_known S r).stores.fits in
      let P : ℕ = per_block W in
      let pos : 1 ≤ P = per_pos W fit.some fit.most in
      let k : ℕ = R / P in
      let q : ℕ = R % P in
      let d : k * P + q ≡ R = div-add-mod' R P in
      let ql : q < P = mod-lt R pos in
      let c : P * k ≡ k * P = mul_comm P k in
      let kb : k < blocks W N = lt_blocks W N k pos (omega arith) in
      row_same F.parts (gain_of (table_gains_by F s)) (given F.parts W B (gain_in (bytes_from s (512 * k)))) B R q
      (λ j m. sym (row_there k q R d ql l j m))
      ∙ good_row B N (bytes_from s (512 * k)) k (r.each k kb) q (omega arith)
