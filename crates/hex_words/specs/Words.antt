-- The value of a stored word, and the words that a text has. Definitions only.
use Rattle.std.specs.Prelude.{ℕ, ◌+◌, ◌*◌, ◌-◌, List, [], ◌∷◌, cond, leb, ◌&&◌, get_or}

-- of a digit 0 to 9 or a to f; 0 for any other byte
abbrev pub digit_of : ℕ → ℕ
digit_of b = cond (leb 48 b && leb b 57) (b - 48) (cond (leb 97 b && leb b 102) (b - 87) 0)

abbrev pub pair_of : ℕ → ℕ → ℕ
pair_of high low = 16 * digit_of high + digit_of low

-- of eight digits, the highest first
abbrev pub word_of : List ℕ → ℕ
word_of w = 16777216 * pair_of (get_or w 0 0) (get_or w 1 0) + 65536 * pair_of (get_or w 2 0) (get_or w 3 0) + 256 * pair_of (get_or w 4 0) (get_or w 5 0)
    + pair_of (get_or w 6 0) (get_or w 7 0)

-- the first word's value, 0 where there is none
abbrev pub first_of : List (List ℕ) → ℕ
first_of [] = 0
first_of (w ∷ rest) = word_of w
