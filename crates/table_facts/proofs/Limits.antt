-- Tables within two limits on the bands are written and read alike (`WritesAlike`, `ReadsAlike`). Assumes nothing.
use Prim.Native.Nat.{ℕ, ◌*◌, ◌≤◌}
use mathlib.Core.Path.{◌≡◌, refl, ap}
use mathlib.Core.Bool.{Bool, true, false, ◌&&◌}
use mathlib.Core.List.{List}
use native.Mathlib.Omega.{arith}
use lib.ListN.{length}
use lib.Dec.{eqb}
use borrow.Author.Tests.{le-leb, eqb-true}
use Rattle.lists.proofs.Join.{join_same}
use Rattle.block.specs.Form.{Form}
use Rattle.block.specs.Block.{blocks}
use Rattle.block.specs.Write.{write_answer_by}
use Rattle.block.specs.Read.{bytes_from, bands_of, rows_of, head_ok_by, head_fits_by, row_tests_by, block_tests_by, head_tests_by, body_tests_by, read_answer_by, table_answer_by, table_gains_by}
use Rattle.table_facts.specs.Limits.{up_to, WritesAlike, ReadsAlike}

-- ---- within both limits
module _ (F : Form) (a b : ℕ) where
  head_alike : (f : ℕ → ℕ) (k : ℕ) → bands_of f ≤ a → bands_of f ≤ b → head_ok_by (up_to F a) f k ≡ head_ok_by (up_to F b) f k
  unfolding head_ok_by
  head_alike f k h l = rw (le-leb (bands_of f) a h, le-leb (bands_of f) b l) refl

  -- a later header has the first one's bands, or passes neither
  fits_alike : (B N : ℕ) (f : ℕ → ℕ) (k : ℕ) → B ≤ a → B ≤ b → head_fits_by (up_to F a) B N f k ≡ head_fits_by (up_to F b) B N f k
  fits_alike B N f k h l = go (eqb (bands_of f) B) refl
    where
      none : (x y : Bool) → (x && false) ≡ (y && false)
      none true true = refl
      none true false = refl
      none false true = refl
      none false false = refl

      go : (t : Bool) → eqb (bands_of f) B ≡ t → (head_ok_by (up_to F a) f k && (t && eqb (rows_of f) N)) ≡ (head_ok_by (up_to F b) f k && (t && eqb (rows_of f) N))
      go true e = let z = eqb-true (bands_of f) B e in ap (λ t. t && eqb (rows_of f) N) (head_alike f k (omega arith) (omega arith))
      go false e = none (head_ok_by (up_to F a) f k) (head_ok_by (up_to F b) f k)

  tests_alike : (B N : ℕ) (f : ℕ → ℕ) (k : ℕ) → B ≤ a → B ≤ b → block_tests_by (up_to F a) B N f k ≡ block_tests_by (up_to F b) B N f k
  unfolding block_tests_by row_tests_by
  tests_alike B N f k h l = rw (fits_alike B N f k h l) refl

  module _ (s : List ℕ) (h : bands_of (bytes_from s 0) ≤ a) (l : bands_of (bytes_from s 0) ≤ b) where
    heads : head_tests_by (up_to F a) s ≡ head_tests_by (up_to F b) s
    unfolding head_tests_by
    heads = rw (head_alike (bytes_from s 0) 0 h l) refl

    bodies : body_tests_by (up_to F a) s ≡ body_tests_by (up_to F b) s
    unfolding body_tests_by
    bodies = let f = bytes_from s 0 in join_same _ _ (blocks (F.width (bands_of f)) (rows_of f)) (λ k m. tests_alike (bands_of f) (rows_of f) (bytes_from s (512 * k)) k h l)

    pub read_alike : (room : ℕ) → read_answer_by (up_to F a) s room ≡ read_answer_by (up_to F b) s room
    unfolding read_answer_by
    read_alike room = rw (heads, bodies) refl

    pub table_alike : table_answer_by (up_to F a) s ≡ table_answer_by (up_to F b) s
    unfolding table_answer_by
    table_alike = rw (heads, bodies) refl

    pub gains_alike : table_gains_by (up_to F a) s ≡ table_gains_by (up_to F b) s
    unfolding table_gains_by
    gains_alike = refl

pub writes_alike : (F : Form) → WritesAlike F
unfolding write_answer_by
writes_alike F a b B N gains bytes h l = (rw (le-leb B a h, le-leb B b l) refl, rw (le-leb B a h, le-leb B b l) refl)

pub reads_alike : (F : Form) → ReadsAlike F
reads_alike F a b s lent h l =
    (rw (read_alike F a b s h l (length lent)) refl, rw (read_alike F a b s h l (length lent), gains_alike F a b s h l) refl, rw (table_alike F a b s h l) refl)
