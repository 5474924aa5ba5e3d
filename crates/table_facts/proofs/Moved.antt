-- A move keeps bands, rows and every gain, in the form asked for, and there and back gives the same bytes (`Moves`, `MoveKeeps`, `ThereAndBack`,
-- `MoveCopies`). Assumes nothing.
use Prim.Native.Nat.{ℕ, ◌+◌, ◌-◌, ◌≤◌, ◌<◌}
use mathlib.Core.Path.{◌≡◌, refl, sym, ap, ◌∙◌, subst}
use mathlib.Core.Bool.{Bool, true, false}
use mathlib.Core.List.{List}
use native.Mathlib.Omega.{arith}
use lib.ListN.{length, get_or}
use lib.Dec.{eqb}
use borrow.Author.Tests.{ltb-false, eqb-true, eqb-false}
use Rattle.answer.specs.Answer.{judged, told_of, when_done}
use Rattle.std.specs.Prelude.{Ok}
use Rattle.answer.proofs.Numbers.{zero_done}
use Rattle.answer.proofs.Joined.{both_done}
use Rattle.answer.proofs.Chain.{opened}
use Rattle.block.specs.Block.{blocks, table_bytes}
use Rattle.block.specs.Write.{shape_ok_by}
use Rattle.block.specs.Read.{bytes_from, bands_of, rows_of}
use Rattle.block.proofs.Tests.{shape_ok_law}
use Rattle.table.specs.Table.{table_told_of, table_with, shape_of}
use Rattle.table.specs.Release.{form, form_of, table_answer, table_told, table_gains}
use Rattle.table.proofs.Forms.{sound, sound_in, drop_small}
use Rattle.table.proofs.Readable.{Reads, judged_reads, told_judged, table_done, reads_many, reads_some}
use Rattle.moving.specs.Moving.{move_tests, move_answer, moved, move_told, move_out}
use Rattle.moving.proofs.Moved.{move_done, moved_copy, moved_is}
use Rattle.table_facts.specs.Forms.{drop_of}
use Rattle.table_facts.specs.Moves.{Moves, MoveKeeps, ThereAndBack, MoveCopies}
use Rattle.table_facts.proofs.Forms.{form_drop}
use Rattle.table_facts.proofs.Gains.{rows_add}
use Rattle.table_facts.proofs.Rewrites.{bytes_are}
use Rattle.table_facts.proofs.Written.{table_reads, some_block, gains_back}

pub moves : Moves
moves d s result B N t some l =
    let p = table_done (table_answer s) (shape_of (bytes_from s 0)) B N t in
    sym (ap told_of (move_done d s (length result) B N p.0 (sym p.1) (sym p.2) some _ refl l))

-- a move that is done: the table passed, and has bands enough
module _ (d : ℕ) (s result : List ℕ) (few : d ≤ 1) (t : move_told d s result ≡ (0, 0)) where
  abbrev B : ℕ
  B = bands_of (bytes_from s 0)

  abbrev N : ℕ
  N = rows_of (bytes_from s 0)

  done : (Ok tt) ≡ move_answer d s (length result)
  done = sym (zero_done (move_answer d s (length result)) (ap (λ x. x.0) t))

  left : moved d s ≡ move_out d s result
  left = ap (λ a. when_done a (moved d s) result) done

  reads : Reads (form_of s) s B N
  reads =
      let e = (both_done (table_answer s) (judged (move_tests d s (length result))) done).0 in
      judged_reads (form_of s) s B N (sym (ap (λ a. table_told_of (table_with a (shape_of (bytes_from s 0)))) e))

  some : d < B
  unfolding move_tests
  some =
      let e = (both_done (table_answer s) (judged (move_tests d s (length result))) done).1 in
      omega (arith, ltb-false B (1 + d) (opened _ _ _ e).0)

  shape : shape_ok_by (form d) B N ≡ true
  shape = let z = reads.shape in shape_ok_law {F = form d} (record { some = omega (arith, some); most = z.most; rows = z.rows; last = z.last })

  -- the table of its gains in the form d
  abbrev T : List ℕ
  T = table_bytes (1 + d) (B - d) B N (table_gains s)

  there : Reads (form d) T B N
  there = table_reads (form d) (sound d few) B N (table_gains s) shape (rows_add (sound_in (bytes_from s 0)) s B N reads)

  some_there : 0 < blocks (B - d) N
  some_there = some_block (form d) (sound d few) B N (table_gains s) shape (rows_add (sound_in (bytes_from s 0)) s B N reads)

  -- what the move keeps
  abbrev Kept : List ℕ → Type 0
  Kept l = (drop_of l ≡ d) × (table_told l ≡ (0, 0, B, N)) × (table_gains l ≡ table_gains s)

  kept_there : Kept T
  kept_there =
      let e = form_drop d few there in (
        e,
        rw e (told_judged T B N there some_there),
        rw e (gains_back (form d) (sound d few) B N (table_gains s) shape (rows_add (sound_in (bytes_from s 0)) s B N reads) (reads_many reads)),
      )

  kept : Kept (moved d s)
  kept = go (eqb (drop_of s) d) refl
    where
      go : (b : Bool) → eqb (drop_of s) d ≡ b → Kept (moved d s)
      go true e =
          let z = eqb-true (drop_of s) d e in
          subst Kept (moved_copy d (drop_of s) s refl z s refl) (z, told_judged s B N reads (reads_some (sound_in (bytes_from s 0)) reads), refl)
      go false e = subst Kept (moved_is d (drop_of s) s B N refl (eqb-false (drop_of s) d e) refl refl T refl) kept_there

  -- and back again
  back_done : (back : List ℕ) → length back ≡ length s → move_told (drop_of s) (moved d s) back ≡ (0, 0)
  back_done back l = moves (drop_of s) (moved d s) back B N kept.1 (omega (arith, reads.shape.some)) (l ∙ reads.long)

  back_same : ((i : ℕ) → get_or s i 0 < 256) → moved (drop_of s) (moved d s) ≡ s
  back_same small = go (eqb (drop_of s) d) refl
    where
      go : (b : Bool) → eqb (drop_of s) d ≡ b → moved (drop_of s) (moved d s) ≡ s
      go true e =
          let z = eqb-true (drop_of s) d e in
          sym (moved_copy (drop_of s) (drop_of (moved d s)) (moved d s) refl (kept.0 ∙ sym z) (moved d s) refl) ∙ sym (moved_copy d (drop_of s) s refl z s refl)
      go false e =
          let p = table_done (table_answer (moved d s)) (shape_of (bytes_from (moved d s) 0)) B N kept.1 in
          sym (moved_is (drop_of s) (drop_of (moved d s)) (moved d s) B N refl (λ z. eqb-false (drop_of s) d e (sym z ∙ kept.0)) (sym p.1) (sym p.2) _ refl)
          ∙ ap (table_bytes (1 + drop_of s) (B - drop_of s) B N) kept.2
          ∙ sym (bytes_are (sound_in (bytes_from s 0)) s B N reads small)

pub move_keeps : MoveKeeps
move_keeps d s result B N few told t =
    let p = table_done (table_answer s) (shape_of (bytes_from s 0)) B N told in
    let k = kept d s result few t in
    subst (λ (l : List ℕ). (drop_of l ≡ d) × (table_told l ≡ (0, 0, B, N)) × (table_gains l ≡ table_gains s)) (left d s result few t)
    (k.0, rw (← p.1, ← p.2) k.1, k.2)

pub there_and_back : ThereAndBack
there_and_back d s result back few small t l =
    let b = back_done d s result few t back l in
    subst (λ (x : List ℕ). (move_told (drop_of s) x back ≡ (0, 0)) × (move_out (drop_of s) x back ≡ s)) (left d s result few t)
    (b, sym (left (drop_of s) (moved d s) back (drop_small (bytes_from s 0)) b) ∙ back_same d s result few t small)

pub move_copies : MoveCopies
move_copies s result t =
    sym (left (drop_of s) s result (drop_small (bytes_from s 0)) t) ∙ sym (moved_copy (drop_of s) (drop_of s) s refl refl s refl)
