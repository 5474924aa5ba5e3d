-- Rows that are split one after the other, and the first that is refused. Assumes nothing.
use Prim.Native.Nat.{ℕ, suc, ◌+◌, ◌-◌, ◌*◌, ◌/◌, ◌≤◌, ◌<◌}
use mathlib.Core.Path.{◌≡◌, refl, sym, ap, ap₂, ◌∙◌}
use mathlib.Core.Bool.{true, false, cond, true≢false}
use mathlib.Core.List.{List, ◌++◌, append_assoc, map}
use native.Mathlib.Nat.{mul-le-mul_right, suc-mul, zero-mul}
use native.Mathlib.Numerals.{add-one}
use native.Mathlib.Omega.{arith}
use borrow.Author.Count.{below_none, below_more}
use borrow.Author.Tests.{lt-ltb, le-ltb}
use lib.Dec.{ltb}
use lib.Ieee.{Float}
use lib.ListN.{length, take, drop, replicate, length-append, length-drop, length-replicate}
use lib.Seq.{length-take-le, take_all, take_at}
use Rattle.answer.specs.Answer.{number_of, place_of, told_of, when_done, Answer}
use Rattle.answer.specs.declared.Refusal.{Refusal}
use Rattle.std.specs.Prelude.{Err, is_ok}
use Rattle.std.specs.Simd.{first_chunks}
use Rattle.answer.specs.Limits.{element_limit, band_limit}
use Rattle.answer.proofs.Chain.{done_is, gives}
use Rattle.answer.proofs.Numbers.{told_one, zero_done}
use Rattle.lists.proofs.First.{Passed, first_at, first_end}
use Rattle.lists.proofs.Tab.{tab_length}
use Rattle.split.specs.Split.{gains_of, level_steps, split_answer, split_told, split_out}
use Rattle.split.proofs.Passed.{past_counts, last_refused}
use Rattle.split.proofs.Place.{split_place}
use Rattle.tabulate_core.specs.Rows.{level_at, level_of, row_levels, row_answer, row_gains, gains_to, refused_row, row_told, stop_of}
use Rattle.tabulate_core.specs.Asked.{OfRow, Shaped}
use Rattle.tabulate_core.proofs.Words.{row_words}

-- ---- a row: the part of the gains that it is lent, the answer of its split, and what the part is afterwards
pub record Row (B : ℕ) (s : List ℕ) (row : ℕ) (part : List ℕ) (a : Answer) (left : List ℕ) : Type 0 where
  pub long : length part ≡ B
  pub told : told_of a ≡ split_told (row_levels B s row) part
  pub written : left ≡ split_out (row_levels B s row) part

-- of the lent gains only their number counts
split_lent : (l : List Float) (g h : List ℕ) → length g ≡ length h → split_answer l g ≡ split_answer l h
unfolding split_answer
split_lent l g h e = rw e

-- a refusal's number is not 0
pub not_zero : (a : Answer) → is_ok a ≡ false → number_of a ≡ 0 → ⊥
not_zero a d z = true≢false (ap is_ok (sym (zero_done a z)) ∙ d)

-- the passed rows are done
abbrev pub AllDone : ℕ → List ℕ → ℕ → Type 0
AllDone B s n = Passed (λ r. is_ok (row_answer B s r)) n

module _ {B : ℕ} {s : List ℕ} {row : ℕ} {part left : List ℕ} {a : Answer} (w : Row B s row part a left) where
  here : a ≡ split_answer (row_levels B s row) part
  here = told_one a (split_answer (row_levels B s row) part) w.told

  pub row_answer_law : a ≡ row_answer B s row
  unfolding row_answer
  row_answer_law = here ∙ split_lent (row_levels B s row) part (replicate B 0) (w.long ∙ sym (length-replicate B 0))

  pub row_gains_law : is_ok a ≡ true → left ≡ row_gains B s row
  unfolding row_gains
  row_gains_law d = w.written ∙ ap (λ x. when_done x (gains_of (level_steps (row_levels B s row))) part) (sym (done_is a d ∙ here))

  pub row_place : place_of a ≤ element_limit
  row_place = rw here (split_place (row_levels B s row) part)

  -- the first that is refused
  pub row_stops : {N n p : ℕ} → row < N → AllDone B s row → is_ok a ≡ false → n ≡ number_of a → p ≡ row * B + place_of a → (n, p) ≡ stop_of B s N
  unfolding stop_of refused_row
  row_stops {N} {n} {p} h done d i j =
      let t : (n, p) ≡ row_told B s row =
      ap₂ (λ x y. (x, y)) (i ∙ ap number_of row_answer_law) (j ∙ ap (λ x. row * B + place_of x) row_answer_law) in
      let f = first_at (λ r. is_ok (row_answer B s r)) N row h done (ap is_ok (sym row_answer_law) ∙ d) in
      t ∙ ap (λ b. cond b (row_told B s row) (0, 0)) (sym (lt-ltb row N h)) ∙ ap (λ r. cond (ltb r N) (row_told B s r) (0, 0)) f

  -- past the tests of its lengths the split gives no other refusal
  pub row_refused : {r : Refusal} → a ≡ Err r → 1 ≤ B → B ≤ band_limit → OfRow r
  unfolding split_answer
  row_refused {r} e some most =
      let l : length (row_levels B s row) ≡ B = tab_length (λ j. level_at s (row * B + j)) B in
      let passed = gives (past_counts (row_levels B s row) part (omega arith) (omega arith) (l ∙ sym w.long) refl) in
      last_refused OfRow (row_levels B s row) r (λ i. tt) tt (sym e ∙ here ∙ sym passed)

-- none is refused
pub rows_end : (B : ℕ) (s : List ℕ) (N row : ℕ) → row ≤ N → N ≤ row → AllDone B s row → ◌≡◌ {A = ℕ × ℕ} (0, 0) (stop_of B s N)
unfolding stop_of refused_row
rows_end B s N row h k done =
    let f = first_end (λ r. is_ok (row_answer B s r)) N row h k done in
    ap (λ b. cond b (row_told B s row) (0, 0)) (sym (le-ltb row N k)) ∙ ap (λ r. cond (ltb r N) (row_told B s r) (0, 0)) f

-- ---- the loop over the rows: `row` of them are in the gains g
pub record Going (B N : ℕ) (s g : List ℕ) (row : ℕ) : Type 0 where
  pub long : length g ≡ N * B
  pub done : AllDone B s row
  pub held : take (row * B) g ≡ gains_to B s row

pub going_none : (B N : ℕ) (s g : List ℕ) → length g ≡ N * B → Going B N s g 0
unfolding gains_to
going_none B N s g l = record { long = l; done = below_none _; held = ap (λ n. take n g) (zero-mul B) }

module _ {B N : ℕ} {s g : List ℕ} {row : ℕ} (p : Going B N s g row) (h : row < N) where
  pub going_inside : row * B + B ≤ N * B
  going_inside = omega (arith, mul-le-mul_right B h, suc-mul row B)

  -- the part of the gains that the next row is lent
  abbrev part : List ℕ
  part = take (row * B + B - row * B) (drop (row * B) g)

  -- its split
  pub going_row : {levels : List Float} {a : Answer} {left : List ℕ} → levels ≡ row_levels B s row → told_of a ≡ split_told levels part
      → left ≡ split_out levels part → Row B s row part a left
  going_row e t w =
      record {
        long = length-take-le (row * B + B - row * B) (drop (row * B) g) (simp length-drop (omega (arith, going_inside, p.long))) ∙ omega arith;
        told = t ∙ ap (λ x. split_told x part) e;
        written = w ∙ ap (λ x. split_out x part) e;
      }

  -- by the input's words
  pub going_words : {words : List (List ℕ)} {a : Answer} {left : List ℕ} → Shaped B N s → words ≡ first_chunks 4 (length s / 4) s
      → (let levels = map level_of (take (row * B + B - row * B) (drop (row * B) words)) in
      told_of a ≡ split_told levels part → left ≡ split_out levels part → Row B s row part a left)
  going_words z e t w =
      let n = row * B + B - row * B in
      let count : n ≡ B = omega arith in
      let inside : row * B + B ≤ length s / 4 = omega (arith, going_inside, z.long) in
      going_row (ap (λ l. map level_of (take n (drop (row * B) l))) e ∙ row_words B row (length s / 4) n s count inside) t w

  -- one row more
  pub going_more : {a : Answer} {left : List ℕ} (after : List ℕ) → Row B s row part a left → is_ok a ≡ true → length left ≡ length part
      → length (take (row * B) g ++ (left ++ after)) ≡ length g → Going B N s (take (row * B) g ++ (left ++ after)) (row + 1)
  unfolding gains_to
  going_more {a} {left} after w d l k =
      let more : (row + 1) * B ≡ row * B + B = rw (add-one row) (suc-mul row B) in
      let front : length (take (row * B) g ++ left) ≡ row * B + B =
      length-append (take (row * B) g) left ∙ ap₂ ◌+◌ (length-take-le (row * B) g (omega (arith, going_inside, p.long))) (l ∙ w.long) in
      let joined : take (row * B) g ++ left ≡ gains_to B s (suc row) = ap₂ ◌++◌ p.held (row_gains_law w d) in
      record {
        long = k ∙ p.long;
        done = below_more _ row p.done (ap is_ok (sym (row_answer_law w)) ∙ d);
        held = ap (λ n. take n (take (row * B) g ++ (left ++ after))) more ∙ ap (take (row * B + B)) (sym (append_assoc (take (row * B) g) left after))
            ∙ take_at (take (row * B) g ++ left) after (row * B + B) front ∙ joined ∙ ap (gains_to B s) (sym (add-one row));
      }

-- all rows
pub going_all : {B N : ℕ} {s g : List ℕ} {row : ℕ} → Going B N s g row → row ≡ N → g ≡ gains_to B s N
going_all {B} {N} {s} {g} {row} p e =
    let l : length g ≤ row * B = omega (arith, p.long, ap (λ n. n * B) e) in
    sym (take_all (row * B) g l) ∙ p.held ∙ ap (gains_to B s) e
