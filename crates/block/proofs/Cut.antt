-- Laws of bytes cut into blocks. Assumes nothing.
use Prim.Native.Nat.{ℕ, suc, ◌+◌, ◌-◌, ◌*◌, ◌≤◌, ◌<◌}
use mathlib.Core.Path.{◌≡◌, sym, ap, ap₂, ◌∙◌}
use mathlib.Core.List.{List, ◌++◌}
use native.Mathlib.Nat.{zero-add}
use native.Mathlib.Omega.{arith}
use lib.ListN.{length, get_or, take, drop, length-take, length-drop}
use lib.Seq.{get_or-take, get_or-drop, take_all, drop_at, take-add, take-append-le, drop-append-le, length-take-le}
use Rattle.block.specs.Read.{bytes_from, block_of, word_at}

pub block_byte_law : (s : List ℕ) (k i : ℕ) → i < 512 → bytes_from (block_of s k) 0 i ≡ bytes_from s (512 * k) i
block_byte_law s k i l =
    ap (λ (x : ℕ). get_or (block_of s k) x 0) (zero-add i) ∙ get_or-take 512 (drop (512 * k) s) i 0 l ∙ get_or-drop (512 * k) s i 0

pub block_long : (s : List ℕ) (k : ℕ) → 512 * k + 512 ≤ length s → length (block_of s k) ≡ 512
block_long s k h = simp (length-take, length-drop) (omega arith)

-- a block looks at its own bytes only: more may follow, and none past it need be there
pub block_join : (s t : List ℕ) (k : ℕ) → 512 * k + 512 ≤ length s → block_of (s ++ t) k ≡ block_of s k
block_join s t k l =
    ap (take 512) (drop-append-le (512 * k) s t (omega arith)) ∙ take-append-le 512 (drop (512 * k) s) t (omega (arith, length-drop (512 * k) s))

pub block_cut : (s : List ℕ) (k : ℕ) → 512 * k ≤ length s → block_of s k ≡ drop (512 * k) (take (512 * suc k) s)
block_cut s k l =
    let z : 512 * suc k ≡ 512 * k + 512 = omega arith in
    sym (ap (λ (n : ℕ). drop (512 * k) (take n s)) z ∙ ap (drop (512 * k)) (take-add (512 * k) 512 s)
    ∙ drop_at (take (512 * k) s) (block_of s k) (512 * k) (length-take-le (512 * k) s l))

-- what follows k whole blocks, if it is no more than a block
pub block_last : (s t : List ℕ) (k : ℕ) → length s ≡ 512 * k → length t ≤ 512 → block_of (s ++ t) k ≡ t
block_last s t k l m = ap (take 512) (drop_at s t (512 * k) l) ∙ take_all 512 t m

-- bytes cut out of others, by index: those at the front, those from `from` on, and how many
pub front_at : (s : List ℕ) (n i : ℕ) → i < n → get_or (take n s) i 0 ≡ bytes_from s 0 i
front_at s n i l = get_or-take n s i 0 l ∙ ap (λ (x : ℕ). get_or s x 0) (sym (zero-add i))

pub cut_at : (s : List ℕ) (n from i : ℕ) → i < n → get_or (take n (drop from s)) i 0 ≡ bytes_from s from i
cut_at s n from i l = get_or-take n (drop from s) i 0 l ∙ get_or-drop from s i 0

pub cut_long : (s : List ℕ) (from to : ℕ) → to ≤ length s → length (take (to - from) (drop from s)) ≡ to - from
cut_long s from to h = simp (length-take, length-drop) (omega arith)

pub rest_at : (s : List ℕ) (n from i : ℕ) → i < n → get_or (take n (drop from s)) i 0 ≡ bytes_from s 0 (from + i)
rest_at s n from i l = cut_at s n from i l ∙ ap (λ (x : ℕ). get_or s x 0) (sym (zero-add (from + i)))

pub byte_small : (s : List ℕ) (n i : ℕ) → ((i : ℕ) → get_or s i 0 < 256) → i < n → get_or (take n s) i 0 < 256
byte_small s n i h l = rw (get_or-take n s i 0 l) (h i)

-- as bytes of their own
pub part_at : (s : List ℕ) (n from i : ℕ) → i < n → bytes_from (take n (drop from s)) 0 i ≡ bytes_from s from i
part_at s n from i l = ap (λ (x : ℕ). get_or (take n (drop from s)) x 0) (zero-add i) ∙ cut_at s n from i l

pub word_of_part : (s : List ℕ) (n from i : ℕ) → i + 1 < n → word_at (bytes_from (take n (drop from s)) 0) i ≡ word_at (bytes_from s from) i
word_of_part s n from i l = ap₂ (λ (a b : ℕ). a + 256 * b) (part_at s n from i (omega (arith, l))) (part_at s n from (i + 1) l)
