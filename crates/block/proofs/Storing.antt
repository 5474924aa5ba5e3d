-- The turns of the loops that store a block and a table. Assumes nothing.
use Prim.Native.Nat.{ℕ, ◌+◌, ◌-◌, ◌*◌, ◌/◌, ◌%◌, ◌≤◌, ◌<◌}
use mathlib.Core.Path.{◌≡◌, sym, ap, ◌∙◌, subst}
use mathlib.Core.List.{List}
use native.Mathlib.Omega.{arith}
use lib.ListN.{length, get_or, set, take, drop, length-take, length-drop}
use lib.Seq.{get_or-take, get_or-drop}
use Rattle.lists.specs.Lists.{Placed}
use Rattle.lists.proofs.Placed.{placed_more, placed_join, placed_same}
use Rattle.block.specs.Block.{check_a, check_b, sealed, block_byte, per_block, blocks, held_rows, table_byte}
use Rattle.block.specs.Asked.{Stores, Storable, own_word, run_byte}
use Rattle.block.specs.Read.{bytes_from}
use Rattle.block.proofs.Shape.{part_in}
use Rattle.block.proofs.Bytes.{run_at, run_low, run_high, check_a_is, check_b_is, sealed_in, own_run}

-- a number of 16 bits stored at the next two places
pub placed_word : (a b : List ℕ) (from p : ℕ) (g : ℕ → ℕ) (v : ℕ) → Placed 0 a b from p g → from ≤ p → p + 1 < length a
    → v % 256 ≡ g p → v / 256 ≡ g (p + 1) → Placed 0 a (set (set b p (v % 256)) (p + 1) (v / 256)) from (p + 2) g
placed_word a b from p g v w h l q r =
    let z : p + 1 + 1 ≡ p + 2 = omega arith in
    subst (λ (x : ℕ). Placed 0 a (set (set b p (v % 256)) (p + 1) (v / 256)) from x g) z
    (placed_more a (set b p (v % 256)) from (p + 1) g (v / 256) (placed_more a b from p g (v % 256) w h (omega arith) q) (omega arith) l r)

module _ (w : ℕ → ℕ) (k : ℕ) where
  -- number j of block k goes to its two places
  pub sealed_more : (a b d : List ℕ) (j p v : ℕ) → Placed 0 a b (512 * k) p (run_byte w) → p ≡ 512 * k + 2 * j → j < 256
      → 512 * k + 512 ≤ length a → v ≡ sealed w j → d ≡ set (set b p (v % 256)) (p + 1) (v / 256)
      → Placed 0 a d (512 * k) (p + 2) (run_byte w)
  sealed_more a b d j p v h e l m q z =
      subst (λ (x : List ℕ). Placed 0 a x (512 * k) (p + 2) (run_byte w)) (sym z)
      (placed_word a b (512 * k) p (run_byte w) v h (omega arith) (omega arith)
      (ap (λ (x : ℕ). x % 256) q ∙ sym (run_low w k j p l e))
      (ap (λ (x : ℕ). x / 256) q ∙ sym (run_high w k j p l e)))

  pub block_more : (a b d : List ℕ) (j p v : ℕ) → Placed 0 a b (512 * k) p (run_byte w) → p ≡ 512 * k + 2 * j → j < 254
      → 512 * k + 512 ≤ length a → v ≡ w j → d ≡ set (set b p (v % 256)) (p + 1) (v / 256)
      → Placed 0 a d (512 * k) (p + 2) (run_byte w)
  block_more a b d j p v h e l m q z =
      sealed_more a b d j p v h e (omega arith) m (q ∙ sym (sealed_in w j l)) z

  -- the first 508 bytes that were stored are the block's
  placed_body : (a b : List ℕ) → Placed 0 a b (512 * k) (512 * k + 508) (run_byte w) → (i : ℕ) → i < 508
      → bytes_from b (512 * k) i ≡ block_byte w i
  placed_body a b h i l = h.run (512 * k + i) (omega arith) (omega arith) ∙ run_at w k i (omega arith)

  -- and the two checks of what was stored close it
  pub block_sealed : (a b d e : List ℕ) (p x y : ℕ) → Placed 0 a b (512 * k) p (run_byte w) → p ≡ 512 * k + 508
      → 512 * k + 512 ≤ length a → x ≡ check_a (bytes_from b (512 * k)) → y ≡ check_b (bytes_from b (512 * k))
      → d ≡ set (set b (512 * k + 508) (x % 256)) (512 * k + 508 + 1) (x / 256)
      → e ≡ set (set d (512 * k + 510) (y % 256)) (512 * k + 510 + 1) (y / 256)
      → Placed 0 a e (512 * k) (512 * k + 512) (run_byte w)
  block_sealed a b d e p x y h0 pp m q r s t =
      let h : Placed 0 a b (512 * k) (512 * k + 508) (run_byte w) = rw pp at h0 in
      let f : Placed 0 a d (512 * k) (512 * k + 508 + 2) (run_byte w) =
      sealed_more a b d 254 (512 * k + 508) x h (omega arith) (omega arith) m (q ∙ check_a_is _ w (placed_body a b h)) s in
      let z : 512 * k + 508 + 2 ≡ 512 * k + 510 = omega arith in
      let u : 512 * k + 510 + 2 ≡ 512 * k + 512 = omega arith in
      rw u at
      (sealed_more a d e 255 (512 * k + 510) y (rw z at f) (omega arith) (omega arith) m (r ∙ check_b_is _ w (placed_body a b h)) t)

-- a block after those before it
pub table_more : (a b d : List ℕ) (k : ℕ) (g : ℕ → ℕ) → Placed 0 a b 0 (512 * k) g → Placed 0 b d (512 * k) (512 * k + 512) g
    → Placed 0 a d 0 (512 * (k + 1)) g
table_more a b d k g p q =
    let z : 512 * k + 512 ≡ 512 * (k + 1) = omega arith in
    rw z at (placed_join a b d 0 (512 * k) (512 * k + 512) g (omega arith) (omega arith) p q)

-- block k, from its own rows, which are those of the gains g
module _ (W B N k : ℕ) (s : Stores W B N) where
  pub own_placed : (form : ℕ) (g own a b : List ℕ) → Placed 0 a b (512 * k) (512 * k + 512) (run_byte (own_word form W B N own k))
      → ((x : ℕ) → x < held_rows W N k * B → get_or own x 0 ≡ get_or g (k * per_block W * B + x) 0)
      → Placed 0 a b (512 * k) (512 * k + 512) (table_byte form W B N g)
  own_placed form g own a b p same =
      placed_same a b (512 * k) (512 * k + 512) _ (table_byte form W B N g) (own_run form W B N k g own s.fits.some s.thin same) p

  -- cut out of them by h, the number of rows that was counted
  module _ (kb : k < blocks W N) (g : List ℕ) (long : length g ≡ N * B) (h : ℕ) (e : h ≡ held_rows W N k) where
    abbrev cut : List ℕ
    cut = take (k * per_block W * B + h * B - k * per_block W * B) (drop (k * per_block W * B) g)

    cut_long : length cut ≡ h * B
    cut_long = simp (length-take, length-drop) (rw e (omega (arith, part_in W B N k s kb, long)))

    pub cut_storable : Storable W B N k cut
    cut_storable = record { stores = s; inside = kb; long = rw (← e) (omega (arith, cut_long)) }

    cut_at : (x : ℕ) → x < held_rows W N k * B → get_or cut x 0 ≡ get_or g (k * per_block W * B + x) 0
    cut_at x l =
        let m : x < h * B = rw e l in
        get_or-take (k * per_block W * B + h * B - k * per_block W * B) (drop (k * per_block W * B) g) x 0 (omega arith)
        ∙ get_or-drop (k * per_block W * B) g x 0

    pub cut_more : (form : ℕ) (a b d : List ℕ) → Placed 0 a b 0 (512 * k) (table_byte form W B N g)
        → Placed 0 b d (512 * k) (512 * k + 512) (run_byte (own_word form W B N cut k)) → Placed 0 a d 0 (512 * (k + 1)) (table_byte form W B N g)
    cut_more form a b d p q = table_more a b d k (table_byte form W B N g) p (own_placed form g cut b d q cut_at)
