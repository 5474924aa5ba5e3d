-- Laws of a block's numbers and bytes, and of a table's. Assumes nothing.
use Prim.Native.Nat.{ℕ, suc, zero, ◌+◌, ◌-◌, ◌*◌, ◌/◌, ◌%◌, ◌≤◌, ◌<◌}
use mathlib.Core.Path.{◌≡◌, refl, sym, ap, ◌∙◌, fun_ext}
use mathlib.Core.List.{List}
use native.Mathlib.Nat.{mul_assoc, add-mul, mul-add-div_right, mul-add-mod_self_right}
use native.Mathlib.Decide.{dec_lt}
use native.Mathlib.Omega.{arith}
use lib.ListN.{get_or}
use borrow.Author.Tests.{lt-ltb, le-ltb}
use Rattle.lists.proofs.Sum.{sum_same}
use Rattle.block.specs.Block.{half, bytes_of, check_a, check_b, sealed, block_byte, per_block, held_rows, block_word, stored, table_byte}
use Rattle.block.specs.Asked.{own_word, run_byte}
use Rattle.block.proofs.Shape.{stored_in}

-- the numbers of a block past its header
pub word_in : (form W B N : ℕ) (f : ℕ → ℕ) (k j : ℕ) → 4 ≤ j → j - 4 < held_rows W N k * W
    → block_word form W B N f k j ≡ f (k * (per_block W * W) + (j - 4))
unfolding block_word
word_in form W B N f k j h l = rw (le-ltb j 4 h, lt-ltb (j - 4) (held_rows W N k * W) l)

pub word_out : (form W B N : ℕ) (f : ℕ → ℕ) (k j : ℕ) → 4 ≤ j → held_rows W N k * W ≤ j - 4 → block_word form W B N f k j ≡ 0
unfolding block_word
word_out form W B N f k j h l = rw (le-ltb j 4 h, le-ltb (j - 4) (held_rows W N k * W) l)

-- the bytes of numbers
pub bytes_low : (w : ℕ → ℕ) (j : ℕ) → bytes_of w (2 * j) ≡ w j % 256
unfolding bytes_of half
bytes_low w j =
    let d : 2 * j / 2 ≡ j = omega arith in
    let m : 2 * j % 2 ≡ 0 = omega arith in
    rw (d, m)

pub bytes_high : (w : ℕ → ℕ) (j : ℕ) → bytes_of w (2 * j + 1) ≡ w j / 256
unfolding bytes_of half
bytes_high w j =
    let d : (2 * j + 1) / 2 ≡ j = omega arith in
    let m : (2 * j + 1) % 2 ≡ 1 = omega arith in
    rw (d, m)

pub half_zero : (r : ℕ) → half 0 r ≡ 0
unfolding half
half_zero zero = refl
half_zero (suc r) = refl

pub sealed_in : (w : ℕ → ℕ) (j : ℕ) → j < 254 → sealed w j ≡ w j
unfolding sealed
sealed_in w j h = rw (lt-ltb j 254 h)

-- the first 508 bytes of a block are those of its numbers
pub block_body : (w : ℕ → ℕ) (i : ℕ) → i < 508 → block_byte w i ≡ bytes_of w i
unfolding block_byte bytes_of
block_body w i h = ap (λ (x : ℕ). half x (i % 2)) (sealed_in w (i / 2) (omega arith))

-- bytes that agree have the same checks
pub check_a_same : (f g : ℕ → ℕ) → ((i : ℕ) → i < 508 → f i ≡ g i) → check_a f ≡ check_a g
unfolding check_a
check_a_same f g h = ap (λ (x : ℕ). x % 65536) (sum_same f g 508 h)

pub check_b_same : (f g : ℕ → ℕ) → ((i : ℕ) → i < 508 → f i ≡ g i) → check_b f ≡ check_b g
unfolding check_b
check_b_same f g h =
    ap (λ (x : ℕ). x % 65536) (sum_same (λ i. (i + 1) * f i) (λ i. (i + 1) * g i) 508 (λ i l. ap (λ (x : ℕ). (i + 1) * x) (h i l)))

-- the checks of bytes that are a block's are its last two numbers
pub check_a_is : (f w : ℕ → ℕ) → ((i : ℕ) → i < 508 → f i ≡ block_byte w i) → check_a f ≡ sealed w 254
unfolding sealed
check_a_is f w h = check_a_same f (bytes_of w) (λ i l. h i l ∙ block_body w i l)

pub check_b_is : (f w : ℕ → ℕ) → ((i : ℕ) → i < 508 → f i ≡ block_byte w i) → check_b f ≡ sealed w 255
unfolding sealed
check_b_is f w h = check_b_same f (bytes_of w) (λ i l. h i l ∙ block_body w i l)

-- a block's bytes at its place k in a table
module _ (w : ℕ → ℕ) (k : ℕ) where
  pub run_at : (i : ℕ) → i < 512 → run_byte w (512 * k + i) ≡ block_byte w i
  unfolding run_byte
  run_at i h = let m : (512 * k + i) % 512 ≡ i = omega arith in rw m

  -- the two bytes of its number j, at p
  pub run_low : (j p : ℕ) → j < 256 → p ≡ 512 * k + 2 * j → run_byte w p ≡ sealed w j % 256
  unfolding block_byte
  run_low j p h e = ap (run_byte w) e ∙ run_at (2 * j) (omega arith) ∙ bytes_low (sealed w) j

  pub run_high : (j p : ℕ) → j < 256 → p ≡ 512 * k + 2 * j → run_byte w (p + 1) ≡ sealed w j / 256
  unfolding block_byte
  run_high j p h e =
      let z : p + 1 ≡ 512 * k + (2 * j + 1) = omega arith in
      ap (run_byte w) z ∙ run_at (2 * j + 1) (omega arith) ∙ bytes_high (sealed w) j

-- byte i of block k of a table
pub table_at : (form W B N : ℕ) (g : List ℕ) (k i : ℕ) → i < 512
    → table_byte form W B N g (512 * k + i) ≡ block_byte (block_word form W B N (stored W B g) k) i
unfolding table_byte
table_at form W B N g k i h =
    let d : (512 * k + i) / 512 ≡ k = omega arith in
    let m : (512 * k + i) % 512 ≡ i = omega arith in
    rw (d, m)

-- the header does not look at the gains
word_head : (form W B N : ℕ) (f g : ℕ → ℕ) (k j : ℕ) → j < 4 → block_word form W B N f k j ≡ block_word form W B N g k j
unfolding block_word
word_head form W B N f g k j h = rw (lt-ltb j 4 h) refl

-- so blocks that hold the same gains have the same numbers
word_same : (form W B N : ℕ) (f g : ℕ → ℕ) (k : ℕ) → ((i : ℕ) → i < held_rows W N k * W → f (k * (per_block W * W) + i) ≡ g (k * (per_block W * W) + i))
    → block_word form W B N f k ≡ block_word form W B N g k
word_same form W B N f g k same = fun_ext (λ j. elim (dec_lt j 4) [
  | yes h ↦ word_head form W B N f g k j h
  | no h ↦ elim (dec_lt (j - 4) (held_rows W N k * W)) [
    | yes m ↦ word_in form W B N f k j (omega arith) m ∙ same (j - 4) m ∙ sym (word_in form W B N g k j (omega arith) m)
    | no m ↦ word_out form W B N f k j (omega arith) (omega arith) ∙ sym (word_out form W B N g k j (omega arith) (omega arith))
  ]
])

-- block k of a table, from the gains of its own rows
pub own_run : (form W B N k : ℕ) (g own : List ℕ) → 1 ≤ W → W ≤ B
    → ((x : ℕ) → x < held_rows W N k * B → get_or own x 0 ≡ get_or g (k * per_block W * B + x) 0)
    → (i : ℕ) → 512 * k ≤ i → i < 512 * k + 512 → run_byte (own_word form W B N own k) i ≡ table_byte form W B N g i
unfolding run_byte table_byte stored
own_run form W B N k g own h l same i a b =
    let z : i / 512 ≡ k = omega arith in
    rw z
    (ap (λ (w : ℕ → ℕ). block_byte w (i % 512))
    (word_same form W B N (λ x. stored W B own (x - k * (per_block W * W))) (stored W B g) k
    (λ j m.
    let c : k * (per_block W * W) + j - k * (per_block W * W) ≡ j = omega arith in
    let e : k * (per_block W * W) + j ≡ k * per_block W * W + j = ap (λ (x : ℕ). x + j) (sym (mul_assoc k (per_block W) W)) in
    let d : (k * (per_block W * W) + j) / W ≡ k * per_block W + j / W = ap (λ (x : ℕ). x / W) e ∙ mul-add-div_right h (k * per_block W) j in
    let q : (k * (per_block W * W) + j) % W ≡ j % W = ap (λ (x : ℕ). x % W) e ∙ mul-add-mod_self_right (k * per_block W) W j in
    ap (stored W B own) c ∙ same (j / W * B + j % W) (stored_in W B N k j h l m)
    ∙ ap (λ (x : ℕ). get_or g x 0) (rw (d, q) (omega (arith, add-mul (k * per_block W) (j / W) B))))))
