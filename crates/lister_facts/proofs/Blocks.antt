-- The first line and the lines of block after block are the text of the whole table. Assumes nothing.
use Prim.Native.Nat.{ℕ, zero, suc, ◌+◌, ◌*◌, ◌≤◌, ◌<◌, min}
use mathlib.Core.Path.{◌≡◌, refl, sym, ap, ◌∙◌}
use mathlib.Core.List.{List, ◌++◌}
use native.Mathlib.Nat.{mul_comm, mul-le-mul_right, suc-mul, mul-suc}
use native.Mathlib.Omega.{arith}
use lib.ListN.{length, take, drop, length-take, length-drop}
use lib.Seq.{get_or-take, get_or-drop}
use Rattle.lists.specs.Lists.{tab, join_to}
use Rattle.lists.proofs.Tab.{tab_is}
use Rattle.lists.proofs.Join.{join_same, join_add}
use Rattle.block.specs.Form.{Form, Sound}
use Rattle.block.specs.Block.{per_block, blocks, held_rows, given}
use Rattle.block.specs.Read.{bytes_from, gain_in, block_of, table_gains_by}
use Rattle.block.proofs.Shape.{per_pos, blocks_lt, held_rows_law, held_small, rows_fit}
use Rattle.block.proofs.Cut.{block_byte_law}
use Rattle.block.proofs.Given.{given_same}
use Rattle.table.proofs.Readable.{Reads, reads_known, reads_many}
use Rattle.table_facts.proofs.Gains.{row_there}
use Rattle.table.proofs.Part.{gain_same}
use Rattle.lister_core.specs.Lines.{head_line, row_line}
use Rattle.lister_core.specs.Lister.{table_text, block_lines_by}

held_next : (W N k : ℕ) → per_block W * k < N → per_block W * k + held_rows W N k ≡ min N (per_block W * suc k)
unfolding held_rows
held_next W N k low = omega (arith, mul-suc (per_block W) k)

module _ {F : Form} (S : Sound F) (s : List ℕ) (B N : ℕ) (r : Reads F s B N) where
  abbrev W : ℕ
  W = F.width B

  abbrev gains : List ℕ
  gains = table_gains_by F s

  -- the line of row R
  abbrev line : ℕ → List ℕ
  line R = row_line R (take B (drop (R * B) gains))

  pos : 1 ≤ per_block W
  pos = let fit = (reads_known S r).stores.fits in per_pos W fit.some fit.most

  -- row q of block k, in the list of all gains and in the block's own bytes
  row_is : (k q : ℕ) → k < blocks W N → q < held_rows W N k
      → tab (λ j. given F.parts W B (gain_in (bytes_from (block_of s k) 0)) (q * B + j)) B ≡ take B (drop ((k * per_block W + q) * B) gains)
  unfolding held_rows
  row_is k q kb ql =
      let R = k * per_block W + q in
      let Rl : R < N = omega (arith, held_rows_law W N k q pos kb ql, mul_comm (per_block W) k) in
      let v : suc R * B ≤ N * B = mul-le-mul_right B Rl in
      let u : suc q * W ≤ held_rows W N k * W = mul-le-mul_right W ql in
      let m : length (take B (drop (R * B) gains)) ≡ B = simp (length-take, length-drop, reads_many r) (omega (arith, suc-mul R B)) in
      sym (tab_is (take B (drop (R * B) gains)) _ B 0 m
      (λ j l.
      get_or-take B (drop (R * B) gains) j 0 l ∙ get_or-drop (R * B) gains j 0
      ∙ row_there S s B N r k q R refl (omega arith) Rl j l
      ∙ sym (given_same F.parts W B (gain_in (bytes_from (block_of s k) 0)) (gain_in (bytes_from s (512 * k))) q q
      (λ x y. gain_same (bytes_from (block_of s k) 0) (bytes_from s (512 * k)) (block_byte_law s k) (q * W + x) (omega (arith, suc-mul q W, held_small W N k))) j l)))

  -- the lines of block k are those of its rows
  block_is : (k : ℕ) → k < blocks W N → block_lines_by F B N (bytes_from (block_of s k) 0) k ≡ join_to (λ q. line (per_block W * k + q)) (held_rows W N k)
  unfolding block_lines_by
  block_is k kb =
      join_same _ _ (held_rows W N k)
      (λ q ql. ap (row_line (k * per_block W + q)) (row_is k q kb ql) ∙ ap (λ (x : ℕ). line (x + q)) (mul_comm k (per_block W)))

  -- the first k blocks hold the first k times P rows, or all
  blocks_are : (k : ℕ) → k ≤ blocks W N → join_to (λ i. block_lines_by F B N (bytes_from (block_of s i) 0) i) k ≡ join_to line (min N (per_block W * k))
  unfolding join_to
  blocks_are zero l = let z : min N (per_block W * 0) ≡ 0 = omega arith in rw z refl
  blocks_are (suc k) l =
      let low = blocks_lt W N k pos (omega arith) in
      let z : min N (per_block W * k) ≡ per_block W * k = omega arith in
      rw (blocks_are k (omega arith), block_is k (omega arith), z) (sym (join_add line (per_block W * k) (held_rows W N k)) ∙ ap (join_to line) (held_next W N k low))

  -- LAW, of a table that reads
  pub text_is : head_line B N ++ join_to (λ k. block_lines_by F B N (bytes_from (block_of s k) 0) k) (blocks W N) ≡ table_text B N gains
  unfolding table_text
  text_is =
      let z : min N (per_block W * blocks W N) ≡ N = omega (arith, rows_fit W N pos, mul_comm (per_block W) (blocks W N)) in
      ap (λ (t : List ℕ). head_line B N ++ t) (blocks_are (blocks W N) (omega arith) ∙ ap (join_to line) z)
