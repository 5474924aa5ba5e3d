-- The claims on moving a table to form 1 (d is 0) or to form 2 (d is 1). Statements only.
use Rattle.std.specs.Prelude.{ℕ, ◌-◌, ◌*◌, ◌≤◌, ◌<◌, ◌≡◌, List, length, get_or}
use Rattle.block.specs.Block.{blocks}
use Rattle.table.specs.Release.{table_told, table_gains}
use Rattle.moving.specs.Moving.{move_told, move_out}
use Rattle.table_facts.specs.Forms.{drop_of}

-- a table that reads can be moved, unless it has one band and form 2 is asked for,
abbrev pub Moves : Type 0
Moves =
    (d : ℕ) (s result : List ℕ) (B N : ℕ)
    → table_told s ≡ (0, 0, B, N)
    → d < B
    → length result ≡ 512 * blocks (B - d) N
    → move_told d s result ≡ (0, 0)

-- and the result has the form asked for, with the table's bands, rows and every gain
abbrev pub MoveKeeps : Type 0
MoveKeeps =
    (d : ℕ) (s result : List ℕ) (B N : ℕ)
    → d ≤ 1
    → table_told s ≡ (0, 0, B, N)
    → move_told d s result ≡ (0, 0)
    → let t = move_out d s result in
    (drop_of t ≡ d) × (table_told t ≡ (0, 0, B, N)) × (table_gains t ≡ table_gains s)

-- There and back gives the same bytes, from either form. (s holds bytes, as every &[u8] does.)
abbrev pub ThereAndBack : Type 0
ThereAndBack =
    (d : ℕ) (s result back : List ℕ)
    → d ≤ 1
    → ((i : ℕ) → get_or s i 0 < 256)
    → move_told d s result ≡ (0, 0)
    → length back ≡ length s
    → (move_told (drop_of s) (move_out d s result) back ≡ (0, 0)) × (move_out (drop_of s) (move_out d s result) back ≡ s)

-- a table that has the form is copied
abbrev pub MoveCopies : Type 0
MoveCopies = (s result : List ℕ) → move_told (drop_of s) s result ≡ (0, 0) → move_out (drop_of s) s result ≡ s
