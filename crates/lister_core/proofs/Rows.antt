-- The rows of a block, one line after the other. Assumes nothing.
use Prim.Native.Nat.{ℕ, suc, ◌+◌, ◌-◌, ◌*◌, ◌≤◌, ◌<◌}
use mathlib.Core.Path.{◌≡◌, sym, ap, ap₂, ◌∙◌}
use native.Mathlib.Nat.{mul-le-mul_left, mul-le-mul_right, mul-add, suc-mul, mul_comm}
use native.Mathlib.Numerals.{add-one}
use native.Mathlib.Omega.{arith}
use lib.ListN.{length}
use Rattle.lists.specs.Lists.{sum_to, tab, join_to}
use Rattle.lists.proofs.Tab.{tab_same}
use Rattle.lists.proofs.Sum.{sum_same}
use Rattle.answer.specs.Limits.{parts, line_room, block_room}
use Rattle.digits.specs.Text.{Added}
use Rattle.digits.specs.declared.Text.{Text}
use Rattle.digits.proofs.Written.{added_none, added_join, added_as}
use Rattle.block.specs.Block.{per_block, blocks, held_rows, row_gain, given}
use Rattle.block.specs.Read.{word_at, gain_in}
use Rattle.block.specs.Kind.{left_out}
use Rattle.block.specs.declared.layout.Layout.{Layout}
use Rattle.block.proofs.Tests.{left_out_small}
use Rattle.block.proofs.Totals.{gain_row}
use Rattle.block.proofs.Given.{given_at, gain_stored, gain_left, gain_same}
use Rattle.block.proofs.Shape.{per_pos, held_small, held_le, held_last}
use Rattle.table.specs.Release.{rules_of}
use Rattle.lister_core.specs.Lines.{row_line}
use Rattle.lister_core.specs.Lister.{block_lines_by}
use Rattle.lister_core.specs.Asked.{row_lines, Rows}
use Rattle.lister_core.proofs.Room.{Put}

-- gain j of a row, whose stored gains stand in the bytes f from `first` on
module _ (W : ℕ) (f : ℕ → ℕ) (first j : ℕ) where
  pub gain_there : j < W → word_at f (first + 2 * j) ≡ row_gain parts W (λ i. word_at f (first + 2 * i)) 0 j
  gain_there l =
      let z : first + 2 * (0 * W + j) ≡ first + 2 * j = omega arith in
      sym (gain_stored parts W W (λ i. word_at f (first + 2 * i)) 0 j l ∙ ap (word_at f) z)

  pub gain_last : W ≤ j → parts - sum_to (λ i. word_at f (first + 2 * i)) W ≡ row_gain parts W (λ i. word_at f (first + 2 * i)) 0 j
  gain_last l =
      sym (gain_left parts W W (λ i. word_at f (first + 2 * i)) 0 j l
      ∙ ap (λ (x : ℕ). parts - x)
      (sum_same (λ i. word_at f (first + 2 * (0 * W + i))) (λ i. word_at f (first + 2 * i)) W
      (λ i h. let z : first + 2 * (0 * W + i) ≡ first + 2 * i = omega arith in ap (word_at f) z)))

-- the most bytes of q rows of B bands
abbrev pub most : ℕ → ℕ → ℕ
most B q = 6 * (q * B) + 6 * q

-- no row yet
pub rows_none : (W B start : ℕ) (f : ℕ → ℕ) (a : Text) → a.len ≤ length a.bytes.now → Put (most B 0) (row_lines W B start f 0) a a
unfolding join_to
rows_none W B start f a h = record { added = added_none a h; short = omega arith }

-- one row more, whose stored gains stand from byte p on
pub rows_more : (W B start : ℕ) (f : ℕ → ℕ) (q p : ℕ) {a b d : Text} → p ≡ 8 + 2 * (q * W)
    → Put (most B q) (row_lines W B start f q) a b → Added (row_line (start + q) (tab (row_gain parts W (λ j. word_at f (p + 2 * j)) 0) B)) b d
    → d.len ≤ b.len + line_room B → Put (most B (q + 1)) (row_lines W B start f (q + 1)) a d
unfolding join_to
rows_more W B start f q p {a} {b} {d} hp w v l =
    let t : tab (row_gain parts W (λ j. word_at f (p + 2 * j)) 0) B ≡ tab (λ j. given parts W B (gain_in f) (q * B + j)) B =
    tab_same _ _ B
    (λ j m.
    gain_same parts W (λ i. word_at f (p + 2 * i)) (gain_in f) 0 q
    (λ i k. let z : p + 2 * (0 * W + i) ≡ p + 2 * i = omega arith in ap (word_at f) z ∙ gain_row f (q * W) p i hp) j
    ∙ sym (given_at parts W B (gain_in f) q j m)) in
    let x : Added (row_line (start + q) (tab (λ j. given parts W B (gain_in f) (q * B + j)) B)) b d = rw t at v in
    let z : (q + 1) * B ≡ q * B + B = omega arith in
    record { added = rw (add-one q) (added_join w.added x); short = omega (arith, w.short) }

-- a row lies inside
pub row_inside : (q n B m : ℕ) → q < n → n * B ≤ m → (q * B + B ≤ m) × ((q + 1) * B ≡ q * B + B)
row_inside q n B m h l = (omega (arith, mul-le-mul_right {m = suc q} {n = n} B h, suc-mul q B), omega arith)

-- all gains of rows of which one is left out at most
pub rows_room : {start n W B : ℕ} → Rows start n W B → n * B ≤ 500
rows_room {start} {n} {W} {B} r = omega (arith, mul-le-mul_left n r.wide, mul-add n W 1, r.gains, r.rows)

-- row q of a block has room: its number, its stored gains in the block, and its line after those before it
pub record RowFits (start q width B : ℕ) : Type 0 where
  pub row : start + q ≤ 65535
  pub first : 8 + 2 * (q * width) + 2 * width ≤ 508
  pub room : most B q + line_room B ≤ block_room

-- the rows of block k: in one block, and their lines are the block's
module _ (t : Layout) (k : ℕ) (l : k < blocks (t.bands - left_out t.form) t.rows) where
  abbrev W : ℕ
  W = t.bands - left_out t.form

  pub block_rows : Rows (k * per_block W) (held_rows W t.rows k) W t.bands
  block_rows =
      let f = t.stores.fits in
      record {
        gains = held_small W t.rows k;
        rows = held_le W t.rows k;
        some = f.some;
        thin = t.stores.thin;
        wide = omega (arith, left_out_small t.form);
        bands = t.stores.bands;
        last = omega (arith, held_last W t.rows k (per_pos W f.some f.most) l, mul_comm k (per_block W), f.rows);
      }

  -- its row q
  pub block_row : (w p n q : ℕ) → w ≡ W → p ≡ per_block W → n ≡ held_rows W t.rows k → q < n → RowFits (k * p) q w t.bands
  block_row w p n q a b c h =
      let r = block_rows in
      let i = row_inside q (held_rows W t.rows k) W 250 (rw c at h) r.gains in
      let j = row_inside q (held_rows W t.rows k) t.bands 500 (rw c at h) (rows_room r) in
      rw (a, b) (record { row = omega (arith, r.last, c, h); first = omega (arith, i.0); room = omega (arith, j.0, r.rows, c, h) })

  pub block_put : (f : ℕ → ℕ) (start n : ℕ) {a b : Text} → start ≡ k * per_block W → n ≡ held_rows W t.rows k → Added (row_lines W t.bands start f n) a b
      → Added (block_lines_by (rules_of t.form) t.bands t.rows f k) a b
  unfolding block_lines_by
  block_put f start n o h w = added_as (ap₂ (λ (x y : ℕ). row_lines W t.bands x f y) o h) w
