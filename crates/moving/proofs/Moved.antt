-- A table that is moved to the other form, block by block, and the answer to a move from its parts. Assumes nothing.
use Prim.Native.Nat.{ℕ, ◌+◌, ◌-◌, ◌*◌, ◌/◌, ◌≤◌, ◌<◌}
use mathlib.Core.Path.{◌≡◌, refl, sym, ap, ◌∙◌}
use mathlib.Core.Bool.{not}
use mathlib.Core.List.{List}
use native.Mathlib.Nat.{mul_comm}
use native.Mathlib.Omega.{arith}
use lib.ListN.{length}
use borrow.Author.Tests.{lt-ltb, le-ltb, eq-eqb, ne_eqb}
use Rattle.lists.specs.Lists.{Placed, Filled}
use Rattle.answer.specs.Answer.{judged, or_else, told_of, when_done}
use Rattle.answer.specs.Limits.{parts}
use Rattle.answer.specs.declared.Refusal.{Refusal}
use Rattle.answer.specs.declared.Refusal.TheVariants.{OneBand, StoredLength}
use Rattle.std.specs.Prelude.{Ok, Err}
use Rattle.answer.proofs.Chain.{gives, stop, skip, clear}
use Rattle.block.specs.Block.{per_block, blocks, held_rows, given, table_byte, table_bytes}
use Rattle.block.specs.Read.{bytes_from, bands_of, rows_of, gain_at}
use Rattle.block.specs.Asked.{Stores, own_word, run_byte}
use Rattle.block.proofs.Shape.{per_pos, held_last, part_in, part_room, row_block}
use Rattle.block.proofs.Storing.{own_placed}
use Rattle.table.specs.Asked.{Known}
use Rattle.table.specs.Release.{drop_in, table_answer, table_gains}
use Rattle.table.proofs.Forms.{gain_is}
use Rattle.moving.specs.Moving.{move_tests, move_answer, moved, move_told, move_out}

-- block k of the result, d left out, from a table with e left out; h is the rows that were counted for it
module _ (s : List ℕ) (d e B N k h : ℕ) (known : Known s (B - e) B N) (st : Stores (B - d) B N) (kb : k < blocks (B - d) N)
    (held : h ≡ held_rows (B - d) N k) where
  -- its rows are the table's
  pub rows_in_law : k * per_block (B - d) + h ≤ N
  rows_in_law =
      let f = st.fits in
      omega (arith, held_last (B - d) N k (per_pos (B - d) f.some f.most) kb, mul_comm k (per_block (B - d)))

  pub rows_there : (r : ℕ) → r < h → 512 * ((k * per_block (B - d) + r) / per_block (B - e)) + 512 ≤ length s
  rows_there r l =
      let f = known.stores.fits in
      omega (arith, known.long, row_block (B - e) N (k * per_block (B - d) + r) f.some f.most (omega (arith, rows_in_law)))

  pub gains_room : d ≤ 1 → h * B ≤ 500
  gains_room few = rw held (part_room (B - d) B N k (omega arith))

  pub moved_block : e ≡ drop_in (bytes_from s 0) → (a g : List ℕ)
      → Filled 0 a g (h * B) (λ i. given parts (B - e) B (gain_at (B - e) s) (k * per_block (B - d) * B + i))
      → (x y : List ℕ) → Placed 0 x y (512 * k) (512 * k + 512) (run_byte (own_word (1 + d) (B - d) B N g k))
      → Placed 0 x y (512 * k) (512 * k + 512) (table_byte (1 + d) (B - d) B N (table_gains s))
  moved_block q a g p x y w =
      own_placed (B - d) B N k st (1 + d) (table_gains s) g x y w
      (λ i l.
      p.run i (omega arith) (rw held l)
      ∙ sym (gain_is s e B N q known.bands known.rows (k * per_block (B - d) * B + i) (omega (arith, part_in (B - d) B N k st kb))))

-- the other form has room for the same rows
pub target_stores : (s : List ℕ) (d e B N : ℕ) → Known s (B - e) B N → d < B → Stores (B - d) B N
target_stores s d e B N k l =
    let t = k.stores in
    record {
      fits = record { some = omega arith; most = omega (arith, t.bands); rows = t.fits.rows };
      thin = omega arith;
      bands = t.bands;
    }

-- the answer, from its parts
pub table_refuses : (d : ℕ) (s : List ℕ) (room : ℕ) (r : Refusal) → Err r ≡ table_answer s → Err r ≡ move_answer d s room
table_refuses d s room r e = ap (λ a. or_else a (judged (move_tests d s room))) e

-- where the table passes, by the bands and rows that were read of it and the blocks n that were counted for the result
module _ (d : ℕ) (s : List ℕ) (room B N : ℕ) (done : (Ok tt) ≡ table_answer s) (p : B ≡ bands_of (bytes_from s 0)) (q : N ≡ rows_of (bytes_from s 0)) where
  pub few_refuse : B ≤ d → Err OneBand ≡ move_answer d s room
  unfolding move_tests
  few_refuse l = rw (← done) (gives (stop (lt-ltb (bands_of (bytes_from s 0)) (1 + d) (omega arith))))

  module _ (some : d < B) (n : ℕ) (e : n ≡ blocks (B - d) N) where
    needed : 512 * n ≡ 512 * blocks (bands_of (bytes_from s 0) - d) (rows_of (bytes_from s 0))
    needed = ap (λ (x : ℕ). 512 * x) (e ∙ rw (p, q) refl)

    pub room_refuses : (room ≡ 512 * n → ⊥) → Err StoredLength ≡ move_answer d s room
    unfolding move_tests
    room_refuses other =
        rw (← done) (gives (skip (le-ltb (bands_of (bytes_from s 0)) (1 + d) (omega arith)) (stop (ap not (ne_eqb room _ (λ z. other (z ∙ sym needed)))))))

    pub move_done : room ≡ 512 * n → (Ok tt) ≡ move_answer d s room
    unfolding move_tests
    move_done z = rw (← done) (gives (skip (le-ltb (bands_of (bytes_from s 0)) (1 + d) (omega arith)) (skip (ap not (eq-eqb room _ (z ∙ needed))) clear)))

-- and the bytes, by what was read of the table: a copy, or the blocks
pub moved_copy : (d e : ℕ) (s : List ℕ) → e ≡ drop_in (bytes_from s 0) → e ≡ d → (l : List ℕ) → l ≡ s → l ≡ moved d s
unfolding moved
moved_copy d e s p q l m = rw (eq-eqb (drop_in (bytes_from s 0)) d (sym p ∙ q)) m

pub moved_is : (d e : ℕ) (s : List ℕ) (B N : ℕ) → e ≡ drop_in (bytes_from s 0) → (e ≡ d → ⊥) → B ≡ bands_of (bytes_from s 0) → N ≡ rows_of (bytes_from s 0)
    → (l : List ℕ) → l ≡ table_bytes (1 + d) (B - d) B N (table_gains s) → l ≡ moved d s
unfolding moved
moved_is d e s B N p n q r l m = rw (ne_eqb (drop_in (bytes_from s 0)) d (λ z. n (p ∙ z)), ← q, ← r) m

-- and the two promises
module _ (d : ℕ) (s result : List ℕ) where
  pub move_refuses : (r : Refusal) → Err r ≡ move_answer d s (length result)
      → (told_of (Err r) ≡ move_told d s result) × (result ≡ move_out d s result)
  move_refuses r e = (ap told_of e, ap (λ a. when_done a (moved d s) result) e)

  pub move_finishes : (l : List ℕ) → l ≡ moved d s → (Ok tt) ≡ move_answer d s (length result)
      → (told_of (Ok tt) ≡ move_told d s result) × (l ≡ move_out d s result)
  move_finishes l n e = (ap told_of e, n ∙ ap (λ a. when_done a (moved d s) result) e)
