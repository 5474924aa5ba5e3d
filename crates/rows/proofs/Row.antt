-- The stored gains of row R of a table, in the bytes of its block. Assumes nothing.
use Prim.Native.Nat.{ℕ, suc, ◌+◌, ◌-◌, ◌*◌, ◌/◌, ◌%◌, ◌≤◌, ◌<◌}
use mathlib.Core.Path.{◌≡◌, refl, sym, ap, ◌∙◌, subst}
use mathlib.Core.List.{List}
use native.Mathlib.Nat.{add-mul, mul_assoc, mul-le-mul_right, suc-mul, mod-lt, div-add-mod'}
use native.Mathlib.Omega.{arith}
use lib.ListN.{length, set, take, drop}
use Rattle.lists.specs.Lists.{sum_to, Placed, Filled}
use Rattle.lists.proofs.Sum.{sum_same}
use Rattle.lists.proofs.Placed.{placed_none, placed_more, placed_join, placed_same}
use Rattle.block.specs.Block.{per_block, row_gain, given}
use Rattle.block.specs.Read.{bytes_from, word_at, gain_at}
use Rattle.block.proofs.Shape.{per_pos, per_fits, wide_pos}
use Rattle.block.proofs.Totals.{gain_row}
use Rattle.block.proofs.Cut.{cut_long, word_of_part}
use Rattle.block.proofs.Given.{given_at, gain_stored, gain_left, gain_in_law}

module _ (W : ℕ) (some : 1 ≤ W) (most : W ≤ 250) (R : ℕ) where
  abbrev P : ℕ
  P = per_block W

  -- where they begin in it
  abbrev place : ℕ
  place = 8 + 2 * (R % P * W)

  -- its bytes come before the block's checks
  pub row_inside : place + 2 * W ≤ 508
  row_inside =
      let m : suc (R % P) * W ≤ P * W = mul-le-mul_right W (mod-lt R (per_pos W some most)) in
      omega (arith, suc-mul (R % P) W, per_fits W)

  module _ (s : List ℕ) where
    stored_there : (j : ℕ) → j < W → gain_at W s (R * W + j) ≡ word_at (bytes_from s (512 * (R / P))) (place + 2 * j)
    stored_there j l =
        let f = bytes_from s (512 * (R / P)) in
        let q = R % P in
        let m : suc q * W ≤ P * W = mul-le-mul_right W (mod-lt R (per_pos W some most)) in
        let e : R * W ≡ R / P * (P * W) + q * W =
        ap (λ (x : ℕ). x * W) (sym (div-add-mod' R P)) ∙ add-mul (R / P * P) q W ∙ ap (λ (x : ℕ). x + q * W) (mul_assoc (R / P) P W) in
        let z : R * W + j ≡ R / P * (P * W) + (q * W + j) = omega arith in
        ap (gain_at W s) z ∙ gain_in_law s W (R / P) (q * W + j) (wide_pos W some most) (omega (arith, suc-mul q W)) ∙ sym (gain_row f (q * W) place j (omega arith))

    -- a stored gain, and the last one where it is not stored
    module _ (parts B : ℕ) where
      pub row_stored : (j : ℕ) → j < W → word_at (bytes_from s (512 * (R / P))) (place + 2 * j) ≡ row_gain parts W (gain_at W s) R j
      row_stored j l = sym (gain_stored parts W B (gain_at W s) R j l ∙ stored_there j l)

      pub row_left : parts - sum_to (λ j. word_at (bytes_from s (512 * (R / P))) (place + 2 * j)) W ≡ row_gain parts W (gain_at W s) R W
      row_left =
          sym (gain_left parts W B (gain_at W s) R W (omega arith)
          ∙ ap (λ (x : ℕ). parts - x) (sum_same (λ j. gain_at W s (R * W + j)) _ W stored_there))

-- by the rows of a block and the stored gains of a row that were counted, in the block's own bytes
module _ (W : ℕ) (some : 1 ≤ W) (most : W ≤ 250) (R : ℕ) (s : List ℕ) (parts B P V : ℕ) (p : P ≡ per_block W) (e : V ≡ W) where
  abbrev own : List ℕ
  own = take (512 * (R / P) + 512 - 512 * (R / P)) (drop (512 * (R / P)) s)

  pub own_long : 512 * (R / per_block W) + 512 ≤ length s → 512 ≤ length own
  own_long h = let l = cut_long s (512 * (R / P)) (512 * (R / P) + 512) (rw p h) in omega (arith, l)

  pub own_inside : 8 + 2 * (R % P * V) + 2 * V ≤ 508
  own_inside = rw (p, e) (row_inside W some most R)

  own_there : (j : ℕ) → j < W → word_at (bytes_from own 0) (8 + 2 * (R % P * V) + 2 * j) ≡ word_at (bytes_from s (512 * (R / per_block W))) (8 + 2 * (R % per_block W * W) + 2 * j)
  own_there j l =
      word_of_part s _ (512 * (R / P)) (8 + 2 * (R % P * V) + 2 * j) (omega (arith, own_inside, e, l))
      ∙ rw (p, e) refl

  pub own_stored : (j v : ℕ) → j < W → v ≡ word_at (bytes_from own 0) (8 + 2 * (R % P * V) + 2 * j) → v ≡ row_gain parts W (gain_at W s) R j
  own_stored j v l h = h ∙ own_there j l ∙ row_stored W some most R s parts B j l

  pub own_left : (v : ℕ) → v ≡ parts - sum_to (λ j. word_at (bytes_from own 0) (8 + 2 * (R % P * V) + 2 * j)) V → v ≡ row_gain parts W (gain_at W s) R W
  own_left v h =
      h ∙ ap (λ (x : ℕ). parts - sum_to (λ j. word_at (bytes_from own 0) (8 + 2 * (R % P * V) + 2 * j)) x) e
      ∙ ap (λ (x : ℕ). parts - x) (sum_same _ _ W own_there) ∙ row_left W some most R s parts B

-- the gains of row R, filled in from `to` on, one after the other
module _ (parts W : ℕ) (f : ℕ → ℕ) (R to : ℕ) where
  abbrev pub row_from : ℕ → ℕ
  row_from i = row_gain parts W f R (i - to)

  pub row_none : (a : List ℕ) (j : ℕ) → j ≡ 0 → Placed 0 a a to (to + j) row_from
  row_none a j e = let z : to ≡ to + j = omega arith in subst (λ (x : ℕ). Placed 0 a a to x row_from) z (placed_none a to row_from)

  pub row_more : (a b : List ℕ) (j v n : ℕ) → Placed 0 a b to (to + j) row_from → to + j < length a → v ≡ row_gain parts W f R j → n ≡ j + 1
      → Placed 0 a (set b (to + j) v) to (to + n) row_from
  row_more a b j v n p l e m =
      let z : to + j + 1 ≡ to + n = omega arith in
      let y : j ≡ to + j - to = omega arith in
      subst (λ (x : ℕ). Placed 0 a (set b (to + j) v) to x row_from) z
      (placed_more a b to (to + j) row_from v p (omega arith) l (e ∙ ap (row_gain parts W f R) y))

  pub row_all : (a b : List ℕ) (j B : ℕ) → Placed 0 a b to (to + j) row_from → j ≡ B → Placed 0 a b to (to + B) row_from
  row_all a b j B p e = rw e at p

-- row after row, in the list of the gains from row `first` on
module _ (parts W B : ℕ) (f : ℕ → ℕ) (first : ℕ) where
  abbrev pub rows_from : ℕ → ℕ
  rows_from i = given parts W B f (first * B + i)

  row_given : (r to i : ℕ) → to ≡ r * B → to ≤ i → i < to + B → row_from parts W f (first + r) to i ≡ rows_from i
  row_given r to i e l h =
      let z : first * B + i ≡ (first + r) * B + (i - to) = omega (arith, add-mul first r B) in
      sym (ap (given parts W B f) z ∙ given_at parts W B f (first + r) (i - to) (omega arith))

  pub rows_more : (a b d : List ℕ) (r to : ℕ) → to ≡ r * B → Filled 0 a b to rows_from → Placed 0 b d to (to + B) (row_from parts W f (first + r) to)
      → Filled 0 a d (to + B) rows_from
  rows_more a b d r to e p q =
      placed_join a b d 0 to (to + B) rows_from (omega arith) (omega arith) p
      (placed_same b d to (to + B) _ rows_from (λ i l h. row_given r to i e l h) q)

  pub rows_all : (a b : List ℕ) (r n to : ℕ) → to ≡ r * B → r ≡ n → Filled 0 a b to rows_from → Filled 0 a b (n * B) rows_from
  rows_all a b r n to e m p = let z : to ≡ n * B = e ∙ ap (λ (x : ℕ). x * B) m in subst (λ (x : ℕ). Filled 0 a b x rows_from) z p
