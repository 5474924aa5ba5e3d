-- The gains of rows that the split does not refuse: B to a row, each row adding up to 32768, so that writing their table is never refused.
-- Assumes nothing.
use Prim.Native.Nat.{ℕ, zero, suc, ◌+◌, ◌*◌, ◌≤◌, ◌<◌}
use mathlib.Core.Path.{◌≡◌, refl, sym, ap, ap₂, ◌∙◌, subst}
use mathlib.Core.Bool.{true, not}
use mathlib.Core.Logic.{⊎_elim}
use mathlib.Core.List.{List}
use native.Mathlib.Nat.{le_trans, eq-or-lt_of_le, le_of_suc-le-suc, mul-le-mul_right, suc-mul}
use native.Mathlib.Omega.{arith}
use borrow.Author.Tests.{eq-eqb}
use lib.Dec.{T, lit≤}
use lib.Ieee.{nan, binary32, fits}
use lib.Ieee.Bits.{of_bits-fits}
use lib.ListN.{length, get_or, length-append, get_or-append}
use lib.Seq.{get_or-append-add}
use Rattle.lists.specs.Lists.{sum_to}
use Rattle.lists.proofs.First.{first_end}
use Rattle.lists.proofs.Sum.{sum_same}
use Rattle.lists.proofs.Tab.{tab_length, tab_at}
use Rattle.answer.specs.Answer.{judged}
use Rattle.std.specs.Prelude.{Ok}
use Rattle.answer.proofs.Chain.{done_is, opened, gives, skip, found_none, clear}
use Rattle.floats.specs.Each.{Each}
use Rattle.answer.specs.Limits.{parts, step_count, band_limit}
use Rattle.parts.specs.Parts.{at, total}
use Rattle.split.specs.Split.{level_steps, split_answer}
use Rattle.split.proofs.Passed.{last_tests, done_input}
use Rattle.split.proofs.Positive.{level_steps_length, steps_total}
use Rattle.parts.proofs.Nearest.{gains_length, gains_total}
use Rattle.block.specs.Write.{row_ok, bad_row, gain_of, write_answer_by}
use Rattle.block.proofs.Tests.{Within, shape_ok_law}
use Rattle.table.specs.Release.{form1, table_length, write_answer}
use Rattle.tabulate_core.specs.Rows.{level_at, row_levels, row_answer, row_gains, gains_to}
use Rattle.tabulate_core.specs.Asked.{Shaped}
use Rattle.tabulate_core.proofs.Rows.{AllDone}

-- a level is an f32
levels_fit : (B : ℕ) (s : List ℕ) (r : ℕ) → Each (λ x. T (fits binary32 x)) (row_levels B s r)
unfolding level_at
levels_fit B s r i h =
    let k : i < B = subst (λ n. i < n) (tab_length (λ j. level_at s (r * B + j)) B) h in
    subst (λ x. T (fits binary32 x)) (sym (tab_at (λ j. level_at s (r * B + j)) B i nan k)) (of_bits-fits binary32 _)

module _ {B N : ℕ} {s : List ℕ} (p : Shaped B N s) (d : AllDone B s N) where
  -- past split's tests of its lengths
  last_tests_law : (r : ℕ) → r < N → Ok tt ≡ judged (last_tests (row_levels B s r))
  unfolding row_answer split_answer
  last_tests_law r h = (opened _ _ _ (opened _ _ _ (opened _ _ _ (done_is (row_answer B s r) (d r h))).1).1).1

  row_some : (r : ℕ) → r < N → 0 < total (level_steps (row_levels B s r))
  row_some r h =
      let l = tab_length (λ j. level_at s (r * B + j)) B in
      let few : length (row_levels B s r) ≤ band_limit = omega (arith, p.most) in
      steps_total step_count (lit≤ tt) (row_levels B s r)
      (done_input (row_levels B s r) (omega (arith, p.some)) few (levels_fit B s r) (last_tests_law r h)) (le_trans few (lit≤ tt))

  row_length : (r : ℕ) → r < N → length (row_gains B s r) ≡ B
  unfolding row_gains
  row_length r h =
      gains_length parts (level_steps (row_levels B s r)) (row_some r h) ∙ level_steps_length step_count (row_levels B s r)
      ∙ tab_length (λ j. level_at s (r * B + j)) B

  row_total : (r : ℕ) → r < N → total (row_gains B s r) ≡ parts
  unfolding row_gains
  row_total r h = gains_total parts (level_steps (row_levels B s r)) (row_some r h)

  pub all_length : (n : ℕ) → n ≤ N → length (gains_to B s n) ≡ n * B
  unfolding gains_to
  all_length zero h = omega arith
  all_length (suc n) h =
      length-append (gains_to B s n) (row_gains B s n) ∙ ap₂ ◌+◌ (all_length n (omega arith)) (row_length n (omega arith)) ∙ omega (arith, suc-mul n B)

  -- gain j of row r
  row_at : (n : ℕ) → n ≤ N → (r j : ℕ) → r < n → j < B → get_or (gains_to B s n) (r * B + j) 0 ≡ at (row_gains B s r) j
  unfolding gains_to
  row_at zero k r j h l = absurd (omega arith)
  row_at (suc n) k r j h l =
      let long = all_length n (omega arith) in
      ⊎_elim
      (λ (e : r ≡ n).
      ap (λ i. get_or (gains_to B s (suc n)) (i + j) 0) (ap (λ m. m * B) e ∙ sym long)
      ∙ get_or-append-add (gains_to B s n) (row_gains B s n) j 0 ∙ ap (λ m. at (row_gains B s m) j) (sym e))
      (λ (m : r < n).
      get_or-append (gains_to B s n) (row_gains B s n) 0 (r * B + j) (omega (arith, long, mul-le-mul_right B m, suc-mul r B))
      ∙ row_at n (omega arith) r j m l)
      (eq-or-lt_of_le (le_of_suc-le-suc h))

  -- every row adds up
  adds_up : (r : ℕ) → r < N → row_ok parts (gain_of (gains_to B s N)) B r ≡ true
  unfolding row_ok total
  adds_up r h =
      eq-eqb _ _
      (sum_same _ (at (row_gains B s r)) B (λ j l. row_at N (omega arith) r j h l)
      ∙ ap (sum_to (at (row_gains B s r))) (sym (row_length r h)) ∙ row_total r h)

  -- so the table is written
  pub writes : Ok tt ≡ write_answer B N (gains_to B s N) (table_length B N)
  unfolding write_answer_by bad_row
  writes =
      let z : Within form1 B N = record { some = p.some; most = p.most; rows = p.first; last = p.last } in
      gives
      (skip (ap not (shape_ok_law z))
      (skip (ap not (eq-eqb (length (gains_to B s N)) (N * B) (all_length N (omega arith))))
      (skip (ap not (eq-eqb (table_length B N) (table_length B N) refl))
      (found_none N (first_end (row_ok parts (gain_of (gains_to B s N)) B) N N (omega arith) (omega arith) adds_up) (omega arith) clear))))
