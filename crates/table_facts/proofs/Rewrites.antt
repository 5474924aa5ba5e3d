-- What reads rewrites to the same bytes (`Rewrites`). Assumes nothing.
use Prim.Native.Nat.{ℕ, ◌+◌, ◌*◌, ◌/◌, ◌%◌, ◌<◌}
use mathlib.Core.Path.{◌≡◌, sym, ap, ◌∙◌}
use mathlib.Core.List.{List}
use native.Mathlib.Nat.{mul-le-mul_right, suc-mul, mod-lt, div-lt_iff_lt-mul}
use native.Mathlib.Omega.{arith}
use lib.ListN.{length, get_or}
use Rattle.lists.proofs.Tab.{tab_is}
use Rattle.answer.specs.Answer.{when_done}
use Rattle.block.specs.Form.{Form, Sound}
use Rattle.block.specs.Block.{per_block, blocks, held_rows, stored, table_byte, table_bytes}
use Rattle.block.specs.Read.{bytes_from, gain_in, gain_at, table_gains_by}
use Rattle.block.proofs.Shape.{per_pos, held_fits, held_wide, wide_pos}
use Rattle.block.proofs.Bytes.{table_at}
use Rattle.block.proofs.Given.{stored_given, gain_in_law}
use Rattle.table.proofs.Readable.{Reads, reads, reads_known, read_out_law}
use Rattle.table_facts.specs.Trips.{Rewrites}
use Rattle.table_facts.proofs.Block.{block_is}
use Rattle.table_facts.proofs.Gains.{gains_at}
use Rattle.table_facts.proofs.WritesAgain.{written_done}

module _ {F : Form} (S : Sound F) (s : List ℕ) (B N : ℕ) (r : Reads F s B N) (small : (i : ℕ) → get_or s i 0 < 256) where
  abbrev W : ℕ
  W = F.width B

  -- what is stored of the gains are the stored ones
  stored_is : (i : ℕ) → i < N * W → stored W B (table_gains_by F s) i ≡ gain_at W s i
  unfolding stored
  stored_is i l =
      let fit = (reads_known S r).stores.fits in
      let q : i / W < N = (div-lt_iff_lt-mul fit.some).1 l in
      let m = mod-lt i fit.some in
      gains_at S s B N r (i / W * B + i % W) (omega (arith, mul-le-mul_right B q, suc-mul (i / W) B, S.thin B))
      ∙ stored_given F.parts W B (gain_at W s) i fit.some (S.thin B)

  -- the gains that block k holds
  same : (k : ℕ) → k < blocks W N → (i : ℕ) → i < held_rows W N k * W
      → stored W B (table_gains_by F s) (k * (per_block W * W) + i) ≡ gain_in (bytes_from s (512 * k)) i
  same k kb i l =
      let fit = (reads_known S r).stores.fits in
      stored_is (k * (per_block W * W) + i) (omega (arith, held_fits W N k (per_pos W fit.some fit.most) kb))
      ∙ gain_in_law s W k i (wide_pos W fit.some fit.most) (omega (arith, held_wide W N k))

  pub bytes_are : s ≡ table_bytes F.code W B N (table_gains_by F s)
  unfolding table_bytes
  bytes_are =
      tab_is s (table_byte F.code W B N (table_gains_by F s)) (512 * blocks W N) 0 r.long
      (λ i l.
      let k : ℕ = i / 512 in
      let kb : k < blocks W N = omega arith in
      let e : i ≡ 512 * k + i % 512 = omega arith in
      ap (λ (x : ℕ). get_or s x 0) e
      ∙ block_is B N (bytes_from s (512 * k)) k (r.each k kb) (stored W B (table_gains_by F s)) (same k kb) (λ j. small (512 * k + j)) (i % 512) (omega arith)
      ∙ sym (table_at F.code W B N (table_gains_by F s) k (i % 512) (omega arith))
      ∙ ap (table_byte F.code W B N (table_gains_by F s)) (sym e))

pub rewrites : (F : Form) → Sound F → Rewrites F
rewrites F S s lent bytes B N small t l =
    let r = (reads F s lent B N t).0 in
    rw (read_out_law F s lent B N t)
    (sym (ap (λ a. when_done a (table_bytes F.code (F.width B) B N (table_gains_by F s)) bytes) (written_done S s B N (length bytes) r l))
    ∙ sym (bytes_are S s B N r small))
