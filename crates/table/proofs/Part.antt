-- The tests of a block look at its 512 bytes only: bytes that agree there are judged alike. Assumes nothing.
use Prim.Native.Nat.{ℕ, suc, ◌+◌, ◌-◌, ◌*◌, ◌≤◌, ◌<◌}
use mathlib.Core.Path.{◌≡◌, refl, sym, ap}
use native.Mathlib.Nat.{mul-le-mul_right, suc-mul}
use native.Mathlib.Omega.{arith}
use mathlib.Core.List.{List}
use lib.ListN.{take, drop}
use lib.Dec.{leb, eqb}
use Rattle.lists.proofs.First.{first_same}
use Rattle.block.specs.Form.{Form}
use Rattle.block.specs.Block.{held_rows, given}
use Rattle.block.specs.Write.{row_ok, bad_row}
use Rattle.block.specs.Read.{bytes_from, word_at, gain_in, checks_ok, head_ok_by, blank, row_tests_by, block_tests_by}
use Rattle.table.specs.Release.{drop_in}
use Rattle.block.proofs.Shape.{held_small}
use Rattle.block.proofs.Bytes.{check_a_same, check_b_same}
use Rattle.block.proofs.Totals.{row_same}
use Rattle.block.proofs.Given.{given_same}
use Rattle.block.proofs.Cut.{part_at}

module _ (f g : ℕ → ℕ) (same : (i : ℕ) → i < 512 → f i ≡ g i) where
  pub word_same : (i : ℕ) → i < 511 → word_at f i ≡ word_at g i
  word_same i l = rw (same i (omega arith), same (i + 1) (omega arith)) refl

  pub drop_same : drop_in f ≡ drop_in g
  unfolding drop_in
  drop_same = rw (word_same 0 (omega arith)) refl

  pub checks_same : checks_ok f ≡ checks_ok g
  unfolding checks_ok
  checks_same =
      rw (
        word_same 508 (omega arith),
        word_same 510 (omega arith),
        check_a_same f g (λ i l. same i (omega arith)),
        check_b_same f g (λ i l. same i (omega arith)),
      )
      refl

  pub head_same : (F : Form) (k : ℕ) → head_ok_by F f k ≡ head_ok_by F g k
  unfolding head_ok_by
  head_same F k = rw (word_same 0 (omega arith), word_same 2 (omega arith), word_same 4 (omega arith), word_same 6 (omega arith)) refl

  pub gain_same : (i : ℕ) → i < 250 → gain_in f i ≡ gain_in g i
  unfolding gain_in
  gain_same i l = word_same (8 + 2 * i) (omega arith)

  bad_same : (parts W B n : ℕ) → n * W ≤ 250 → bad_row parts (given parts W B (gain_in f)) B n ≡ bad_row parts (given parts W B (gain_in g)) B n
  unfolding bad_row
  bad_same parts W B n h =
      first_same (row_ok parts (given parts W B (gain_in f)) B) (row_ok parts (given parts W B (gain_in g)) B) n
      (λ r l.
      let m : suc r * W ≤ n * W = mul-le-mul_right W l in
      row_same parts (given parts W B (gain_in f)) (given parts W B (gain_in g)) B r r
      (λ j k. sym (given_same parts W B (gain_in f) (gain_in g) r r (λ x y. gain_same (r * W + x) (omega (arith, suc-mul r W))) j k)))

  blank_same : (from : ℕ) → blank f from ≡ blank g from
  unfolding blank
  blank_same from =
      ap (leb (508 - from))
      (first_same (λ i. eqb (f (from + i)) 0) (λ i. eqb (g (from + i)) 0) (508 - from) (λ i l. ap (λ (x : ℕ). eqb x 0) (same (from + i) (omega arith))))

  pub tests_same : (F : Form) (B N k : ℕ) → block_tests_by F B N f k ≡ block_tests_by F B N g k
  unfolding block_tests_by row_tests_by
  tests_same F B N k =
      let W = F.width B in
      rw (
        checks_same,
        head_same F k,
        word_same 4 (omega arith),
        word_same 6 (omega arith),
        bad_same F.parts W B (held_rows W N k) (held_small W N k),
        blank_same (8 + 2 * (held_rows W N k * W)),
      )
      refl

-- block k, cut out of a table
pub part_tests : (s : List ℕ) (F : Form) (B N k : ℕ)
    → block_tests_by F B N (bytes_from (take (512 * k + 512 - 512 * k) (drop (512 * k) s)) 0) k ≡ block_tests_by F B N (bytes_from s (512 * k)) k
part_tests s F B N k = tests_same _ _ (λ i l. part_at s (512 * k + 512 - 512 * k) (512 * k) i (omega (arith, l))) F B N k
