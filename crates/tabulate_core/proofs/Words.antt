-- The levels of a row, by the input's words of four bytes. Assumes nothing.
use Prim.Native.Nat.{ℕ, zero, suc, ◌+◌, ◌*◌, ◌≤◌, ◌<◌}
use mathlib.Core.Path.{◌≡◌, refl, sym, ap, ◌∙◌}
use mathlib.Core.List.{List, [], map}
use native.Mathlib.Omega.{arith}
use lib.Dec.{lit<}
use lib.Ieee.{binary32, of_bits}
use lib.ListN.{length, get_or, take, drop}
use lib.Seq.{drop-drop}
use Rattle.std.specs.Simd.{first_chunks}
use Rattle.std.proofs.lemmas.List.{get_or-take, get_or-drop, length-take-le, length-drop}
use Rattle.lists.proofs.Tab.{tab_map, tab_same}
use Rattle.lists.specs.Lists.{tab}
use Rattle.tabulate_core.specs.Rows.{level_at, level_of, row_levels}

words_length : (k : ℕ) (s : List ℕ) → length (first_chunks 4 k s) ≡ k
words_length zero s = refl
words_length (suc k) s = ap suc (words_length k (drop 4 s))

word_at : (k : ℕ) (s : List ℕ) (i : ℕ) → i < k → get_or (first_chunks 4 k s) i [] ≡ take 4 (drop (4 * i) s)
word_at zero s i h = absurd (omega arith)
word_at (suc k) s zero h = refl
word_at (suc k) s (suc i) h =
    let e : 4 + 4 * i ≡ 4 * suc i = omega arith in
    word_at k (drop 4 s) i (omega arith) ∙ ap (take 4) (drop-drop (4 * i) 4 s ∙ ap (λ n. drop n s) e)

level_word : (s : List ℕ) (i : ℕ) → level_of (take 4 (drop (4 * i) s)) ≡ level_at s i
unfolding level_at
level_word s i =
    let byte : (k : ℕ) → k < 4 → get_or (take 4 (drop (4 * i) s)) k 0 ≡ get_or s (4 * i + k) 0 =
    λ k h. get_or-take 4 (drop (4 * i) s) k 0 h ∙ get_or-drop (4 * i) s k 0 in
    let zeroth : 4 * i + 0 ≡ 4 * i = omega arith in
    ap (of_bits binary32)
    (omega (arith, byte 0 (lit< tt) ∙ ap (λ n. get_or s n 0) zeroth, byte 1 (lit< tt), byte 2 (lit< tt), byte 3 (lit< tt)))

-- row r, of the B levels from r * B on
pub row_words : (B r k n : ℕ) (s : List ℕ) → n ≡ B → r * B + B ≤ k → map level_of (take n (drop (r * B) (first_chunks 4 k s))) ≡ row_levels B s r
row_words B r k n s e h =
    let words = take n (drop (r * B) (first_chunks 4 k s)) in
    let long : length words ≡ B =
    length-take-le n (drop (r * B) (first_chunks 4 k s))
    (omega (arith, length-drop (r * B) (first_chunks 4 k s), words_length k s)) ∙ e in
    sym (tab_map level_of [] words) ∙ ap (tab (λ j. level_of (get_or words j []))) long
    ∙ tab_same _ (λ j. level_at s (r * B + j)) B (λ j l.
    ap level_of (get_or-take n (drop (r * B) (first_chunks 4 k s)) j [] (omega arith) ∙ get_or-drop (r * B) (first_chunks 4 k s) j []
    ∙ word_at k s (r * B + j) (omega arith))
    ∙ level_word s (r * B + j))
