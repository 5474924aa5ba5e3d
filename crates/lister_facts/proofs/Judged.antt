-- An input judged piece after piece is answered as the table judged whole, with nothing lent (`JudgedByBlocks`). Assumes nothing.
use Prim.Native.Nat.{ℕ, zero, suc, ◌+◌, ◌*◌, ◌/◌, ◌%◌, ◌≤◌, ◌<◌}
use mathlib.Core.Path.{◌≡◌, refl, sym, ap, ◌∙◌}
use mathlib.Core.Bool.{Bool, true, false, not, cond}
use mathlib.Core.List.{List, ◌∷◌}
use native.Mathlib.Nat.{div-add-mod, mod-lt}
use native.Mathlib.Numerals.{add-one}
use native.Mathlib.Omega.{arith}
use lib.ListN.{length, drop, length-take, length-drop}
use lib.Dec.{eqb}
use borrow.Author.Tests.{eq-eqb, ne_eqb, eqb-true, eqb-false}
use Rattle.lists.specs.Lists.{join_to}
use Rattle.answer.specs.Answer.{Test, judged, or_else, when_done}
use Rattle.answer.specs.Answer.{Answer}
use Rattle.std.specs.Prelude.{Ok, Err}
use Rattle.answer.specs.declared.Refusal.TheVariants.{StoredLength}
use Rattle.answer.proofs.Chain.{gives, skip, clear}
use Rattle.answer.proofs.Joined.{judged_else, parted}
use Rattle.block.specs.Form.{Form}
use Rattle.block.specs.Kind.{left_out}
use Rattle.block.specs.Block.{blocks}
use Rattle.block.specs.Read.{bytes_from, bands_of, rows_of, block_tests_by, block_of, head_tests_by, body_tests_by, table_answer_by}
use Rattle.block.proofs.Cut.{block_byte_law, block_long}
use Rattle.table.specs.Release.{drop_in, form_in, form_of, table_answer}
use Rattle.table.proofs.Reading.{runs_of, begun, begun_head}
use Rattle.table.proofs.Part.{drop_same, checks_same, head_same, word_same, tests_same}
use Rattle.judging.specs.declared.Judging.{Judging}
use Rattle.judging.proofs.Named.{said_left}
use Rattle.judging.specs.Judging.{said_form, first_tests, first_of, more_of, fed_of, finished, pieces_in, fed_to, fed_all}
use Rattle.lister_facts.specs.ByBlocks.{JudgedByBlocks}

said_same : (f g : ℕ → ℕ) → ((i : ℕ) → i < 512 → f i ≡ g i) → said_form f ≡ said_form g
unfolding said_form
said_same f g same = rw (word_same f g same 0 (omega arith)) refl

module _ (s : List ℕ) where
  abbrev F : Form
  F = form_of s

  -- what block 0 says
  abbrev head : Answer
  head = judged (first_tests (bytes_from s 0))

  abbrev B : ℕ
  B = bands_of (bytes_from s 0)

  abbrev N : ℕ
  N = rows_of (bytes_from s 0)

  abbrev named : ℕ
  named = blocks (F.width B) N

  -- what is known after n whole blocks, one or more
  abbrev state_of : ℕ → Judging
  state_of n = record { next = n; want = when_done head named 0; form = said_form (bytes_from s 0); bands = B; rows = N; whole = true; head = head; body = runs_of F s B N n }

  -- block 0
  first_same : (f g : ℕ → ℕ) → ((i : ℕ) → i < 512 → f i ≡ g i) → first_of true f ≡ first_of true g
  unfolding first_of first_tests
  first_same f g same =
      rw (
        said_same f g same,
        drop_same f g same,
        checks_same f g same,
        head_same f g same (form_in g) 0,
        word_same f g same 4 (omega arith),
        word_same f g same 6 (omega arith),
        tests_same f g same (form_in g) (bands_of g) (rows_of g) 0,
      )
      refl

  one_is : first_of true (bytes_from s 0) ≡ state_of 1
  unfolding first_of join_to
  one_is = refl

  -- a block more
  more_is : (n : ℕ) → more_of (state_of n) (bytes_from (block_of s n) 0) ≡ state_of (n + 1)
  unfolding more_of join_to
  more_is n =
      let g : ℕ → List Test = λ k. block_tests_by F B N (bytes_from s (512 * k)) k in
      rw (
        said_left (bytes_from s 0),
        tests_same (bytes_from (block_of s n) 0) (bytes_from s (512 * n)) (block_byte_law s n) F B N n,
        add-one n,
        judged_else (join_to g n) (g n),
      )
      refl

  -- after k + 1 whole blocks
  fed_is : (k : ℕ) → 512 * k + 512 ≤ length s → fed_to s (suc k) ≡ state_of (suc k)
  unfolding fed_to fed_of
  fed_is zero l =
      rw (block_long s 0 l) (first_same (bytes_from (block_of s 0) 0) (bytes_from s 0) (block_byte_law s 0) ∙ one_is)
  fed_is (suc k) l =
      rw (fed_is k (omega arith), block_long s (suc k) l, ne_eqb (suc k) 0 (λ e. omega arith))
      (more_is (suc k) ∙ ap state_of (add-one (suc k)))

  -- ---- the three lengths
  empty_is : length s ≡ 0 → finished (fed_all s) ≡ table_answer_by F s
  unfolding table_answer_by head_tests_by judged finished fed_to
  empty_is e = rw e refl

  ragged_is : (k : ℕ) → 512 * k < length s → length s < 512 * k + 512 → finished (fed_all s) ≡ table_answer_by F s
  unfolding table_answer_by head_tests_by judged finished fed_to fed_of
  ragged_is k l m =
      let n : pieces_in s ≡ suc k = omega arith in
      let t = length-take 512 (drop (512 * k) s) in
      let o : length (block_of s k) ≡ 0 → ⊥ = λ e. omega (arith, length-drop (512 * k) s) in
      let p : length (block_of s k) ≡ 512 → ⊥ = λ e. omega (arith, length-drop (512 * k) s) in
      let q : length s % 512 ≡ 0 → ⊥ = λ e. omega arith in
      rw (n, ne_eqb (length (block_of s k)) 0 o, ne_eqb (length (block_of s k)) 512 p, ne_eqb (length s) 0 (λ e. omega arith), ne_eqb (length s % 512) 0 q) refl

  -- k + 1 whole blocks: the answer from the first header's, the number called for, and the blocks
  module _ (k : ℕ) (l : length s ≡ 512 * suc k) where
    rest_is : (a : Answer)
        → or_else a (cond (not (eqb (suc k) (when_done a named 0))) (Err StoredLength) (runs_of F s B N (suc k)))
        ≡ or_else a (cond (not (eqb (length s) (512 * named))) (Err StoredLength) (judged (body_tests_by F s)))
    unfolding body_tests_by
    rest_is (Err r) = refl
    rest_is (Ok tt) = go (eqb (suc k) named) refl
      where
        go : (b : Bool) → eqb (suc k) named ≡ b
            → cond (not b) (Err StoredLength) (runs_of F s B N (suc k))
            ≡ cond (not (eqb (length s) (512 * named))) (Err StoredLength) (runs_of F s B N named)
        go true q =
            let y : suc k ≡ named = eqb-true (suc k) named q in
            let z : length s ≡ 512 * named = omega arith in
            rw (eq-eqb (length s) (512 * named) z) (ap (runs_of F s B N) y)
        go false q =
            let z : length s ≡ 512 * named → ⊥ = λ x. eqb-false (suc k) named q (omega arith) in
            rw (ne_eqb (length s) (512 * named) z) refl

    by_blocks : finished (fed_all s) ≡ or_else head (cond (not (eqb (suc k) (when_done head named 0))) (Err StoredLength) (runs_of F s B N (suc k)))
    unfolding finished
    by_blocks =
        let n : pieces_in s ≡ suc k = omega arith in
        rw (n, fed_is k (omega arith), ne_eqb (suc k) 0 (λ e. omega arith)) refl

    by_table : table_answer_by F s ≡ or_else head (cond (not (eqb (length s) (512 * named))) (Err StoredLength) (judged (body_tests_by F s)))
    unfolding table_answer_by head_tests_by judged first_tests
    by_table =
        let q : length s % 512 ≡ 0 = omega arith in
        rw (ne_eqb (length s) 0 (λ e. omega arith), eq-eqb (length s % 512) 0 q)
        (judged_else (first_tests (bytes_from s 0)) ((not (eqb (length s) (512 * named)), StoredLength) ∷ body_tests_by F s))

    whole_is : finished (fed_all s) ≡ table_answer_by F s
    whole_is = by_blocks ∙ rest_is head ∙ sym by_table

  -- where it is done, bands, rows and number of blocks are the table's
  pub shape_is : (Ok tt) ≡ table_answer_by F s
      → ((fed_all s).bands ≡ B) × ((fed_all s).rows ≡ N) × ((fed_all s).want ≡ named) × (left_out (fed_all s).form ≡ drop_in (bytes_from s 0))
  unfolding table_answer_by first_tests
  shape_is d =
      let b = begun s (parted (head_tests_by F s) (body_tests_by F s) d).0 in
      go named refl (begun_head b).inside b.long (gives (skip (ap not b.checks) (skip (ap not b.ok) clear)))
    where
      go : (n : ℕ) → n ≡ named → 0 < named → length s ≡ 512 * named → (Ok tt) ≡ head
          → ((fed_all s).bands ≡ B) × ((fed_all s).rows ≡ N) × ((fed_all s).want ≡ named) × (left_out (fed_all s).form ≡ drop_in (bytes_from s 0))
      go zero e i l f = absurd (omega arith)
      go (suc k) e i l f =
          let n : pieces_in s ≡ suc k = omega arith in
          rw (n, fed_is k (omega arith)) (refl, refl, sym (ap (λ a. when_done a named 0) f), said_left (bytes_from s 0))

pub judged_by_blocks : JudgedByBlocks
judged_by_blocks s = go (length s / 512) (length s % 512) (div-add-mod (length s) 512) (mod-lt (length s) (omega arith))
  where
    go : (k r : ℕ) → 512 * k + r ≡ length s → r < 512 → finished (fed_all s) ≡ table_answer s
    go k (suc r) e l = ragged_is s k (omega arith) (omega arith)
    go zero zero e l = empty_is s (omega arith)
    go (suc k) zero e l = whole_is s k (omega arith)
