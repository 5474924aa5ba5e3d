-- What is told of all rows, and what is left in the bytes of their table. Assumes nothing.
use Prim.Native.Nat.{ℕ}
use mathlib.Core.Path.{◌≡◌, refl, sym, ap, ap₂, ◌∙◌}
use mathlib.Core.Bool.{Bool, true, false, cond}
use mathlib.Core.List.{List}
use native.Mathlib.Decide.{dec_lt}
use native.Mathlib.Omega.{arith}
use borrow.Author.Tests.{eq-eqb, ne_eqb, lt-ltb}
use lib.Dec.{eqb}
use lib.ListN.{length}
use Rattle.lists.specs.Lists.{first_not}
use Rattle.lists.proofs.First.{first_fails, first_clear}
use Rattle.answer.specs.Answer.{when_done, told_of, Answer}
use Rattle.answer.proofs.Numbers.{told_one}
use Rattle.std.specs.Prelude.{Ok, Err, is_ok}
use Rattle.table.specs.Release.{table_length, table_of, write_answer, write_out}
use Rattle.tabulate_core.specs.Rows.{row_answer, gains_to, refused_row, row_told, stop_of}
use Rattle.tabulate_core.specs.Tabulate.{tabulated_of, stored_told, stored_out}
use Rattle.tabulate_core.specs.Asked.{Shaped, Split}
use Rattle.tabulate_core.specs.Stop.{stop_class}
use Rattle.tabulate_core.specs.declared.Stop.{Stop}
use Rattle.tabulate_core.specs.declared.Stop.TheVariants.{Count, StoredLength, Domain, Masked}
use Rattle.tabulate_core.proofs.Rows.{AllDone, not_zero}
use Rattle.tabulate_core.proofs.Adds.{writes}

-- where the first refusal's number is 0 there is none
stop_none : (B : ℕ) (s : List ℕ) (N : ℕ) → (stop_of B s N).0 ≡ 0 → AllDone B s N
unfolding stop_of refused_row
stop_none B s N e =
    let p : ℕ → Bool = λ r. is_ok (row_answer B s r) in
    elim (dec_lt (first_not p N) N) [
      | yes h ↦ absurd (not_zero (row_answer B s (first_not p N)) (first_fails p N h)
          (ap (λ b. (cond b (row_told B s (first_not p N)) (0, 0)).0) (sym (lt-ltb (first_not p N) N h)) ∙ e))
      | no h ↦ first_clear p N (omega arith)
    ]

-- no stop's number is 0
pub stop_some : (s : Stop) → stop_class s ≡ 0 → ⊥
stop_some Count e = omega arith
stop_some StoredLength e = omega arith
stop_some (Domain i) e = omega arith
stop_some (Masked i) e = omega arith

-- a row was refused
pub store_refused : {B N : ℕ} {s : List ℕ} {stop : Stop} {gains : List ℕ} → Split B N s (Err stop) gains → (bytes : List ℕ)
    → (tabulated_of (Err stop) ≡ stored_told B N s) × (bytes ≡ stored_out B N s bytes)
unfolding stored_told stored_out
store_refused {B} {N} {s} {stop} w bytes =
    let f : eqb (stop_of B s N).0 0 ≡ false = ne_eqb (stop_of B s N).0 0 (λ z. stop_some stop (ap (λ t. t.0) w.told ∙ z)) in (
      ap (λ t. (t.0, t.1, 0)) w.told ∙ ap (λ b. cond b (0, 0, table_length B N) ((stop_of B s N).0, (stop_of B s N).1, 0)) (sym f),
      ap (λ b. cond b (table_of B N (gains_to B s N)) bytes) (sym f),
    )

-- none was, and the table is written
module _ {B N : ℕ} {s gains : List ℕ} (w : Split B N s (Ok tt) gains) (p : Shaped B N s) (bytes : List ℕ) (l : length bytes ≡ table_length B N) where
  none : (stop_of B s N).0 ≡ 0
  none = sym (ap (λ t. t.0) w.told)

  taken : Ok tt ≡ write_answer B N gains (length bytes)
  taken = writes p (stop_none B s N none) ∙ ap₂ (λ g room. write_answer B N g room) (sym (w.all refl)) (sym l)

  pub store_writes : (a : Answer) → told_of a ≡ told_of (write_answer B N gains (length bytes)) → a ≡ Ok tt
  store_writes a e = told_one a (write_answer B N gains (length bytes)) e ∙ sym taken

  pub store_done : (left : List ℕ) {n : ℕ} → n ≡ table_length B N → left ≡ write_out B N gains bytes
      → (tabulated_of (Ok n) ≡ stored_told B N s) × (left ≡ stored_out B N s bytes)
  unfolding stored_told stored_out
  store_done left {n} m e =
      let t : eqb (stop_of B s N).0 0 ≡ true = eq-eqb (stop_of B s N).0 0 none in (
        ap (λ (k : ℕ). (0, 0, k)) m ∙ ap (λ b. cond b (0, 0, table_length B N) ((stop_of B s N).0, (stop_of B s N).1, 0)) (sym t),
        e ∙ ap (λ a. when_done a (table_of B N gains) bytes) (sym taken) ∙ ap (table_of B N) (w.all refl)
            ∙ ap (λ b. cond b (table_of B N (gains_to B s N)) bytes) (sym t),
      )
