-- A pair's line from its five puts, and the gains of a row, one after the other. Assumes nothing.
use Prim.Native.Nat.{ℕ, zero, suc, ◌+◌, ◌*◌, ◌^◌, ◌≤◌, ◌<◌}
use mathlib.Core.Path.{◌≡◌, refl, sym, ap}
use mathlib.Core.List.{List, [], ◌∷◌, ◌++◌, append_assoc, append-nil}
use native.Mathlib.Numerals.{add-one}
use native.Mathlib.Omega.{arith}
use lib.ListN.{length}
use Rattle.lists.specs.Lists.{tab}
use Rattle.answer.specs.Limits.{line_room}
use Rattle.digits.specs.Digits.{decimal_of}
use Rattle.digits.specs.Text.{Puts, Added}
use Rattle.digits.specs.declared.Text.{Text}
use Rattle.digits.proofs.Written.{added_none, added_join}
use Rattle.lister_core.specs.Lines.{space, line_feed, pair_line, gains_text, row_line}
use Rattle.lister_core.proofs.Room.{Put, put_short, put_join, put_then, digits_then}

-- the puts of a word, a number, a word, a number and a line feed
pub pair_put : {word between : List ℕ} {n m : ℕ} {a b₁ b₂ b₃ b₄ b₅ : Text} → n < 10 ^ 20 → m < 10 ^ 20
    → a.len + (length word + length between + 41) ≤ length a.bytes.now → Puts word a b₁ → Puts (decimal_of n) b₁ b₂ → Puts between b₂ b₃
    → Puts (decimal_of m) b₃ b₄ → Puts line_feed b₄ b₅ → Added (pair_line word n between m) a b₅
unfolding pair_line
pair_put {word} {between} {n} {m} hn hm h p₁ p₂ p₃ p₄ p₅ =
    let w = length word in
    let v = length between in
    let q₁ = put_short w (omega arith) (omega arith) p₁ in
    let q₂ = digits_then w 20 n q₁ (omega arith) hn (omega arith) p₂ in
    let q₃ = put_then (w + 20) v between q₂ (omega arith) (omega arith) p₃ in
    let q₄ = digits_then (w + 20 + v) 20 m q₃ (omega arith) hm (omega arith) p₄ in
    (put_then (w + 20 + v + 20) 1 line_feed q₄ (omega arith) (omega arith) p₅).added

gains_snoc : (s : List ℕ) (g : ℕ) → gains_text (s ++ (g ∷ [])) ≡ gains_text s ++ (space ++ decimal_of g)
unfolding gains_text
gains_snoc [] g = append-nil (space ++ decimal_of g)
gains_snoc (x ∷ s) g = rw (gains_snoc s g) (sym (append_assoc (space ++ decimal_of x) (gains_text s) (space ++ decimal_of g)))

tab_snoc : (g : ℕ → ℕ) (n : ℕ) → tab g (suc n) ≡ tab g n ++ (g n ∷ [])
unfolding tab
tab_snoc g zero = refl
tab_snoc g (suc n) = ap (λ (l : List ℕ). g 0 ∷ l) (tab_snoc (λ i. g (suc i)) n)

-- no gain yet
pub gains_none : (g : ℕ → ℕ) (a : Text) → a.len ≤ length a.bytes.now → Put (6 * 0) (gains_text (tab g 0)) a a
unfolding gains_text tab
gains_none g a h = record { added = added_none a h; short = omega arith }

-- one gain more
pub gains_more : (g : ℕ → ℕ) (i x : ℕ) {a b d : Text} → x ≡ g i → Put (6 * i) (gains_text (tab g i)) a b → Added (space ++ decimal_of x) b d → d.len ≤ b.len + 6
    → Put (6 * (i + 1)) (gains_text (tab g (i + 1))) a d
gains_more g i x h p w l =
    let t : gains_text (tab g (i + 1)) ≡ gains_text (tab g i) ++ (space ++ decimal_of x) = rw (add-one i, tab_snoc g i, h) (gains_snoc (tab g i) (g i)) in
    record { added = rw t (added_join p.added w); short = omega (arith, p.short) }

-- the row's number, all its gains and the line feed
pub row_put : (row : ℕ) (g : ℕ → ℕ) (B i : ℕ) {a b d e : Text} → i ≡ B → a.len + line_room B ≤ length a.bytes.now
    → Put 5 (decimal_of row) a b → Put (6 * i) (gains_text (tab g i)) b d → Puts line_feed d e → Put (line_room B) (row_line row (tab g B)) a e
unfolding row_line
row_put row g B i m h p q l =
    let w = put_then (5 + 6 * B) 1 line_feed (put_join 5 (6 * B) p (rw m at q)) (omega arith) (omega arith) l in
    record { added = w.added; short = omega (arith, w.short) }
