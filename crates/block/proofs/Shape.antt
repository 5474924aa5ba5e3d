-- Laws of a table's shape, W stored gains to a row: rows of a full block, blocks, rows of block k. Assumes nothing.
use Prim.Native.Nat.{ℕ, ◌+◌, ◌-◌, ◌*◌, ◌/◌, ◌%◌, ◌≤◌, ◌<◌, min}
use mathlib.Core.Path.{◌≡◌, refl, sym, ap, ◌∙◌}
use native.Mathlib.Decide.{dec_lt}
use native.Mathlib.Nat.{le-div_iff_mul-le, div-lt_iff_lt-mul, div-mul-le_self, div-le_self, mul-le-mul, mul-le-mul_left, mul-le-mul_right, add-mul, mul-add, mul_assoc, mul_comm, suc-mul, lt-div-mul-add, mod-lt, div-add-mod'}
use native.Mathlib.Omega.{arith}
use Rattle.answer.specs.Limits.{row_limit, table_most}
use Rattle.block.specs.Block.{per_block, blocks, held_rows}
use Rattle.block.specs.Asked.{Stores}

-- a row fits a block
pub per_pos : (W : ℕ) → 1 ≤ W → W ≤ 250 → 1 ≤ per_block W
per_pos W h l = (le-div_iff_mul-le h).1 (omega arith)

pub per_fits : (W : ℕ) → per_block W * W ≤ 250
per_fits W = div-mul-le_self 250 W

pub per_small : (W : ℕ) → per_block W ≤ 250
per_small W = div-le_self 250 W

-- block k is one of the table's exactly where its first row is
pub blocks_lt : (W N k : ℕ) → 1 ≤ per_block W → k < blocks W N → per_block W * k < N
unfolding blocks
blocks_lt W N k h l = omega (arith, (le-div_iff_mul-le h).0 l, suc-mul k (per_block W), mul_comm k (per_block W))

pub lt_blocks : (W N k : ℕ) → 1 ≤ per_block W → per_block W * k < N → k < blocks W N
unfolding blocks
lt_blocks W N k h l = (le-div_iff_mul-le h).1 (omega (arith, suc-mul k (per_block W), mul_comm k (per_block W)))

-- fewer bands and fewer rows take no more blocks
blocks_mono : (U W N M : ℕ) → 1 ≤ U → U ≤ W → W ≤ 250 → N ≤ M → blocks U N ≤ blocks W M
blocks_mono U W N M some wide most rows =
    let n = blocks W M in
    let p : per_block W ≤ per_block U = (le-div_iff_mul-le some).1 (omega (arith, per_fits W, mul-le-mul_left (per_block W) wide)) in
    elim (dec_lt n (blocks U N)) [
      | yes l ↦
          let a = blocks_lt U N n (per_pos U some (omega arith)) l in
          absurd (omega (arith, lt_blocks W M n (per_pos W (omega arith) most) (omega (arith, mul-le-mul_right n p))))
      | no l ↦ omega arith
    ]

-- and so no more bytes than the largest table of as many bands
pub few_bytes : (U W N : ℕ) → 1 ≤ U → U ≤ W → W ≤ 250 → N ≤ row_limit → 512 * blocks U N ≤ table_most W
unfolding blocks
few_bytes U W N some wide most rows =
    let z : 512 * blocks W row_limit ≡ table_most W = refl in
    omega (arith, blocks_mono U W N row_limit some wide most rows)

-- there are no more blocks than rows
pub few_blocks : (W N k : ℕ) → 1 ≤ per_block W → k < blocks W N → k < N
few_blocks W N k h l = omega (arith, blocks_lt W N k h l, mul-le-mul_right k h)

pub blocks_small : (W N : ℕ) → blocks W N ≤ N + 250
unfolding blocks
blocks_small W N = omega (arith, div-le_self (N + (per_block W - 1)) (per_block W), per_small W)

-- the gains before block k
pub before_block : (P W k : ℕ) → k * (P * W) ≡ P * k * W
before_block P W k = sym (mul_assoc k P W) ∙ ap (λ (x : ℕ). x * W) (mul_comm k P)

-- the gains of block k
pub held_fits : (W N k : ℕ) → 1 ≤ per_block W → k < blocks W N → k * (per_block W * W) + held_rows W N k * W ≤ N * W
unfolding held_rows
held_fits W N k h l =
    let m : (per_block W * k + held_rows W N k) * W ≤ N * W = mul-le-mul_right W (omega (arith, blocks_lt W N k h l)) in
    omega (arith, before_block (per_block W) W k, add-mul (per_block W * k) (held_rows W N k) W)

pub held_last : (W N k : ℕ) → 1 ≤ per_block W → k < blocks W N → per_block W * k + held_rows W N k ≤ N
unfolding held_rows
held_last W N k h l = omega (arith, blocks_lt W N k h l)

pub held_rows_law : (W N k r : ℕ) → 1 ≤ per_block W → k < blocks W N → r < held_rows W N k → per_block W * k + r < N
unfolding held_rows
held_rows_law W N k r h l m = omega (arith, blocks_lt W N k h l)

pub held_wide : (W N k : ℕ) → held_rows W N k * W ≤ per_block W * W
unfolding held_rows
held_wide W N k = mul-le-mul_right W (omega arith)

pub held_small : (W N k : ℕ) → held_rows W N k * W ≤ 250
held_small W N k = omega (arith, held_wide W N k, per_fits W)

pub held_le : (W N k : ℕ) → held_rows W N k ≤ 250
unfolding held_rows
held_le W N k = omega (arith, per_small W)

-- a full block has a gain
pub wide_pos : (W : ℕ) → 1 ≤ W → W ≤ 250 → 1 ≤ per_block W * W
wide_pos W h l = mul-le-mul {n₁ = 1} {m₁ = 1} (per_pos W h l) h

-- the blocks have room for the rows
pub rows_fit : (W N : ℕ) → 1 ≤ per_block W → N ≤ blocks W N * per_block W
unfolding blocks
rows_fit W N h = omega (arith, lt-div-mul-add {a = N + (per_block W - 1)} {b = per_block W} h)

-- gain i is in a block of the table
pub gain_block : (W N i : ℕ) → 1 ≤ W → W ≤ 250 → i < N * W → i / (per_block W * W) < blocks W N
gain_block W N i h l k =
    let m : N * W ≤ blocks W N * per_block W * W = mul-le-mul_right W (rows_fit W N (per_pos W h l)) in
    (div-lt_iff_lt-mul (wide_pos W h l)).1 (omega (arith, mul_assoc (blocks W N) (per_block W) W))

-- and so is row R
pub row_block : (W N R : ℕ) → 1 ≤ W → W ≤ 250 → R < N → R / per_block W < blocks W N
row_block W N R h l m =
    let p = per_pos W h l in
    lt_blocks W N (R / per_block W) p (omega (arith, div-add-mod' R (per_block W), mul_comm (per_block W) (R / per_block W)))

-- gain i of a table, the r-th of block q, is one of those that the block holds
among : (P W N q r i : ℕ) → q * (P * W) + r ≡ i → r < P * W → i < N * W → P * q < N → r < min P (N - P * q) * W
among P W N q r i e h l m = elim (dec_lt (N - P * q) P) [
  | yes less ↦
      let z : min P (N - P * q) ≡ N - P * q = omega arith in
      let y : N - P * q + P * q ≡ N = omega arith in
      rw z (omega (arith, before_block P W q, add-mul (N - P * q) (P * q) W, ap (λ (x : ℕ). x * W) y))
  | no more ↦ let z : min P (N - P * q) ≡ P = omega arith in rw z h
]

pub held_has : (W N i : ℕ) → 1 ≤ W → W ≤ 250 → i < N * W → i % (per_block W * W) < held_rows W N (i / (per_block W * W)) * W
unfolding held_rows
held_has W N i h l k =
    among (per_block W) W N (i / (per_block W * W)) (i % (per_block W * W)) i (div-add-mod' i (per_block W * W)) (mod-lt i (wide_pos W h l)) k
    (blocks_lt W N (i / (per_block W * W)) (per_pos W h l) (gain_block W N i h l k))

-- a stored gain of block k is one of its rows' gains
pub stored_in : (W B N k i : ℕ) → 1 ≤ W → W ≤ B → i < held_rows W N k * W → i / W * B + i % W < held_rows W N k * B
stored_in W B N k i h l m =
    let q : i / W < held_rows W N k = (div-lt_iff_lt-mul h).1 m in
    omega (arith, mul-le-mul_right B q, suc-mul (i / W) B, mod-lt i h)

-- where one gain of a row is left out at most, a block's rows have 500 gains at most
pub part_room : (W B N k : ℕ) → B ≤ W + 1 → held_rows W N k * B ≤ 500
part_room W B N k h = omega (arith, mul-le-mul_left (held_rows W N k) h, mul-add (held_rows W N k) W 1, held_small W N k, held_le W N k)

-- the gains of block k's rows, B to a row, are the table's
module _ (W B N k : ℕ) (s : Stores W B N) (kb : k < blocks W N) where
  pub part_in : k * per_block W * B + held_rows W N k * B ≤ N * B
  part_in =
      let f = s.fits in
      let m : (k * per_block W + held_rows W N k) * B ≤ N * B =
      mul-le-mul_right B (omega (arith, held_last W N k (per_pos W f.some f.most) kb, mul_comm k (per_block W))) in
      omega (arith, add-mul (k * per_block W) (held_rows W N k) B)

  pub part_small : k * per_block W * B + held_rows W N k * B ≤ 65535 * 250
  part_small = omega (arith, part_in, mul-le-mul {n₂ = 65535} {m₂ = 250} s.fits.rows s.bands)
