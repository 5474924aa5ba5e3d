-- What is written for rows that add up reads: each block, and the table. Assumes nothing.
use Prim.Native.Nat.{ℕ, suc, ◌+◌, ◌-◌, ◌*◌, ◌/◌, ◌%◌, ◌≤◌, ◌<◌}
use mathlib.Core.Path.{◌≡◌, refl, sym, ap, ◌∙◌}
use mathlib.Core.Bool.{true, not}
use mathlib.Core.List.{List}
use native.Mathlib.Nat.{mul-le-mul_right, suc-mul, add-mul, mod-lt, div-lt_iff_lt-mul, div-add-mod'}
use native.Mathlib.Omega.{arith}
use lib.ListN.{length}
use borrow.Author.Tests.{lt-ltb, eq-eqb}
use Rattle.lists.proofs.Tab.{tab_length, tab_at, tab_is}
use Rattle.lists.proofs.First.{first_end, all_pass}
use Rattle.std.specs.Prelude.{Ok}
use Rattle.answer.specs.Answer.{judged}
use Rattle.answer.proofs.Chain.{gives, skip, clear, found_none}
use Rattle.block.specs.Form.{Form, Sound}
use Rattle.block.specs.Block.{half, bytes_of, block_byte, per_block, blocks, held_rows, block_word, given, stored, table_byte, table_bytes}
use Rattle.block.specs.Write.{shape_ok_by, row_ok, bad_row, gain_of}
use Rattle.block.specs.Read.{bytes_from, word_at, bands_of, rows_of, gain_in, checks_ok, head_ok_by, blank, row_tests_by, gain_at, table_gains_by}
use Rattle.block.proofs.Shape.{per_pos, lt_blocks, before_block, held_rows_law, held_small, gain_block, held_has}
use Rattle.block.proofs.Bytes.{word_in, word_out, half_zero, sealed_in, block_body, check_a_is, check_b_is, table_at}
use Rattle.block.proofs.Given.{given_same, given_back}
use Rattle.block.specs.Asked.{Fits}
use Rattle.block.proofs.Totals.{row_same}
use Rattle.block.proofs.Tests.{shape_is, shape_fits}
use Rattle.table.proofs.Reading.{Good}
use Rattle.table.proofs.Readable.{Reads}
use Rattle.table_facts.proofs.Block.{run_of}

-- block k of the stored gains `gains`, as its bytes f
module _ (F : Form) (S : Sound F) (B N : ℕ) (gains : ℕ → ℕ) (shape : shape_ok_by F B N ≡ true)
    (adds : (R : ℕ) → R < N → row_ok F.parts (given F.parts (F.width B) B gains) B R ≡ true)
    (k : ℕ) (inside : k < blocks (F.width B) N) (f : ℕ → ℕ)
    (bytes : (i : ℕ) → i < 512 → f i ≡ block_byte (block_word F.code (F.width B) B N gains k) i) where
  abbrev W : ℕ
  W = F.width B

  w : ℕ → ℕ
  w = block_word F.code W B N gains k

  word_of : (j : ℕ) → j < 254 → word_at f (2 * j) ≡ w j
  unfolding w
  word_of j l = run_of f w bytes j (omega arith) ∙ sealed_in w j l

  checks_are : checks_ok f ≡ true
  unfolding checks_ok w
  checks_are =
      let a = eq-eqb _ _ (run_of f w bytes 254 (omega arith) ∙ sym (check_a_is f w (λ i l. bytes i (omega arith)))) in
      let b = eq-eqb _ _ (run_of f w bytes 255 (omega arith) ∙ sym (check_b_is f w (λ i l. bytes i (omega arith)))) in
      rw (a, b)

  bands_are : bands_of f ≡ B
  unfolding w block_word
  bands_are = word_of 2 (omega arith)

  rows_are : rows_of f ≡ N
  unfolding w block_word
  rows_are = word_of 3 (omega arith)

  head_is_ok : head_ok_by F f k ≡ true
  unfolding head_ok_by w block_word
  head_is_ok =
      rw (
        bands_are,
        rows_are,
        word_of 0 (omega arith),
        word_of 1 (omega arith),
        shape,
        lt-ltb k (blocks W N) inside,
        eq-eqb k k refl,
        eq-eqb F.code F.code refl,
      )

  pub gain_is : (i : ℕ) → i < held_rows W N k * W → gain_in f i ≡ gains (k * (per_block W * W) + i)
  unfolding gain_in w
  gain_is i l =
      let e : 8 + 2 * i ≡ 2 * (4 + i) = omega arith in
      let z : 4 + i - 4 ≡ i = omega arith in
      ap (word_at f) e ∙ word_of (4 + i) (omega (arith, held_small W N k)) ∙ word_in F.code W B N gains k (4 + i) (omega arith) (omega arith)
      ∙ ap (λ (x : ℕ). gains (k * (per_block W * W) + x)) z

  row_is : (r : ℕ) → r < held_rows W N k → row_ok F.parts (given F.parts W B (gain_in f)) B r ≡ true
  row_is r l =
      let fit : Fits W N = shape_fits S (shape_is {F = F} B N shape) in
      let e = add-mul (per_block W * k) r W in
      let m : suc r * W ≤ held_rows W N k * W = mul-le-mul_right W l in
      row_same F.parts (given F.parts W B (gain_in f)) (given F.parts W B gains) B r (per_block W * k + r)
      (λ j h.
      sym (given_same F.parts W B (gain_in f) gains r (per_block W * k + r)
      (λ x y.
      let z : k * (per_block W * W) + (r * W + x) ≡ (per_block W * k + r) * W + x = omega (arith, before_block (per_block W) W k) in
      gain_is (r * W + x) (omega (arith, suc-mul r W)) ∙ ap gains z) j h))
      ∙ adds (per_block W * k + r) (held_rows_law W N k r (per_pos W fit.some fit.most) inside l)

  blank_is : blank f (8 + 2 * (held_rows W N k * W)) ≡ true
  unfolding blank bytes_of w
  blank_is =
      let c : ℕ = held_rows W N k * W in
      sym (all_pass _ (508 - (8 + 2 * c)) (508 - (8 + 2 * c)) (omega arith) (omega arith)
      (λ i l.
      eq-eqb _ _
      (bytes (8 + 2 * c + i) (omega arith) ∙ block_body w (8 + 2 * c + i) (omega arith)
      ∙ ap (λ (x : ℕ). half x ((8 + 2 * c + i) % 2)) (word_out F.code W B N gains k ((8 + 2 * c + i) / 2) (omega arith) (omega arith))
      ∙ half_zero ((8 + 2 * c + i) % 2))))

  rows_pass : (Ok tt) ≡ judged (row_tests_by F B N f k)
  unfolding row_tests_by bad_row
  rows_pass =
      let e = first_end (row_ok F.parts (given F.parts W B (gain_in f)) B) (held_rows W N k) (held_rows W N k) (omega arith) (omega arith) row_is in
      gives (found_none (held_rows W N k) e (omega arith) (skip (ap not blank_is) clear))

  pub block_good : Good F B N f k
  block_good = record { checks = checks_are; head = head_is_ok; bands = bands_are; rows = rows_are; body = rows_pass }

-- the table of the gains g
module _ (F : Form) (S : Sound F) (B N : ℕ) (g : List ℕ) (shape : shape_ok_by F B N ≡ true)
    (adds : (R : ℕ) → R < N → row_ok F.parts (gain_of g) B R ≡ true) where
  abbrev U : ℕ
  U = F.width B

  abbrev T : List ℕ
  T = table_bytes F.code U B N g

  fit : Fits U N
  fit = shape_fits S (shape_is {F = F} B N shape)

  -- a row, from what is stored of it
  row_back : (R : ℕ) → R < N → (b : ℕ) → b < B → given F.parts U B (stored U B g) (R * B + b) ≡ gain_of g (R * B + b)
  row_back R l = given_back U B g F.parts R (S.thin B) (S.last B) (adds R l)

  table_adds : (R : ℕ) → R < N → row_ok F.parts (given F.parts U B (stored U B g)) B R ≡ true
  table_adds R l =
      row_same F.parts (given F.parts U B (stored U B g)) (gain_of g) B R R (λ j h. sym (row_back R l j h)) ∙ adds R l

  byte_at : (k : ℕ) → k < blocks U N → (i : ℕ) → i < 512 → bytes_from T (512 * k) i ≡ block_byte (block_word F.code U B N (stored U B g) k) i
  unfolding table_bytes
  byte_at k kb i l = tab_at (table_byte F.code U B N g) (512 * blocks U N) (512 * k + i) 0 (omega arith) ∙ table_at F.code U B N g k i l

  pub table_good : (k : ℕ) → k < blocks U N → Good F B N (bytes_from T (512 * k)) k
  table_good k kb = block_good F S B N (stored U B g) shape table_adds k kb (bytes_from T (512 * k)) (byte_at k kb)

  pub some_block : 0 < blocks U N
  some_block =
      let z = shape_is {F = F} B N shape in
      lt_blocks U N 0 (per_pos U fit.some fit.most) (omega (arith, z.rows))

  pub table_reads : Reads F T B N
  table_reads =
      let o = table_good 0 some_block in
      record { shape = shape_is B N shape; long = tab_long; bands = o.bands; rows = o.rows; each = table_good }
    where
      tab_long : length T ≡ 512 * blocks U N
      tab_long = unfold table_bytes in tab_length (table_byte F.code U B N g) (512 * blocks U N)

  -- its stored gains are those of g
  stored_there : (i : ℕ) → i < N * U → gain_at U T i ≡ stored U B g i
  unfolding gain_at
  stored_there i l =
      let q : ℕ = i / (per_block U * U) in
      let kb : q < blocks U N = gain_block U N i fit.some fit.most l in
      gain_is F S B N (stored U B g) shape table_adds q kb (bytes_from T (512 * q)) (byte_at q kb) (i % (per_block U * U))
      (held_has U N i fit.some fit.most l)
      ∙ ap (stored U B g) (div-add-mod' i (per_block U * U))

  -- and its gains are g
  pub gains_back : length g ≡ N * B → table_gains_by F T ≡ g
  unfolding table_gains_by
  gains_back long =
      let o = table_good 0 some_block in
      rw (o.bands, o.rows)
      (sym (tab_is g _ (N * B) 0 long
      (λ i l.
      let e : i / B * B + i % B ≡ i = div-add-mod' i B in
      let big : 0 < B = omega (arith, fit.some, S.thin B) in
      let R : i / B < N = (div-lt_iff_lt-mul big).1 l in
      let c : i % B < B = mod-lt i big in
      sym
      (ap (given F.parts U B (gain_at U T)) (sym e)
      ∙ given_same F.parts U B (gain_at U T) (stored U B g) (i / B) (i / B)
      (λ x y. stored_there (i / B * U + x) (omega (arith, mul-le-mul_right U R, suc-mul (i / B) U))) (i % B) c
      ∙ row_back (i / B) R (i % B) c ∙ ap (gain_of g) e))))
