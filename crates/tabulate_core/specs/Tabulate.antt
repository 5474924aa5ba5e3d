-- `tabulate` (docs/DECISIONS.md, point 12): what it tells of an argument and an input, and what it leaves in the lent bytes. Definitions only.
use Rattle.std.specs.Prelude.{ℕ, ◌+◌, ◌-◌, ◌*◌, ◌/◌, not, cond, List, [], ◌∷◌, ◌++◌, ltb, eqb, length, take, drop, Ok, Err}
use Rattle.answer.specs.Answer.{Test, judged, when_done, class_of, where_of, Answer}
use Rattle.answer.specs.declared.Refusal.TheVariants.{Count, StoredLength}
use Rattle.table.specs.Release.{shape_ok, table_length, table_of}
use Rattle.tabulate_core.specs.Argument.{bands_in}
use Rattle.tabulate_core.specs.Rows.{gains_to, stop_of}
use Rattle.tabulate_core.specs.Stop.{stop_class, stop_where}
use Rattle.tabulate_core.specs.declared.Stop.{Stop}

-- the rows of 4 B bytes in n bytes, a cut one counted
unfoldable pub rows_in : ℕ → ℕ → ℕ
rows_in B n = (n + (4 * B - 1)) / (4 * B)

-- 7: bands or rows outside their limits; 9: a cut row, or fewer bytes lent than the table has
abbrev pub shape_tests : ℕ → ℕ → ℕ → ℕ → List Test
shape_tests B N n room =
    (not (shape_ok B N), Count)
    ∷ (not (eqb n (4 * (N * B))), StoredLength)
    ∷ (ltb room (table_length B N), StoredLength)
    ∷ []

-- the bytes of the table, or why there is none
abbrev pub Tabulated : Type 0
Tabulated = Rattle.std.specs.declared.result.Result.Result ℕ Stop

-- number, place, and the bytes of the table
abbrev pub tabulated_of : Tabulated → ℕ × ℕ × ℕ
tabulated_of (Ok n) = (0, 0, n)
tabulated_of (Err s) = (stop_class s, stop_where s, 0)

-- a refusal, or else what comes next
abbrev pub or_else : Answer → ℕ × ℕ × ℕ → ℕ × ℕ × ℕ
or_else (Ok tt) next = next
or_else (Err r) next = (class_of r, where_of r, 0)

-- all rows: the first refusal, or the table
unfoldable pub stored_told : ℕ → ℕ → List ℕ → ℕ × ℕ × ℕ
stored_told B N s = let stop = stop_of B s N in cond (eqb stop.0 0) (0, 0, table_length B N) (stop.0, stop.1, 0)

-- the table or, where a row is refused, the bytes as they were
unfoldable pub stored_out : ℕ → ℕ → List ℕ → List ℕ → List ℕ
stored_out B N s bytes = cond (eqb (stop_of B s N).0 0) (table_of B N (gains_to B s N)) bytes

-- with B bands, which is 0 for an argument that names none: what is told of the input s with `room` bytes lent,
-- and the lent bytes afterwards, with the table at their start or as they were
abbrev pub bands_told : ℕ → List ℕ → ℕ → ℕ × ℕ × ℕ
bands_told B s room =
    let N = rows_in B (length s) in
    or_else (judged (shape_tests B N (length s) room)) (stored_told B N s)

abbrev pub bands_out : ℕ → List ℕ → List ℕ → List ℕ
bands_out B s bytes =
    let N = rows_in B (length s) in
    let end = table_length B N in
    when_done (judged (shape_tests B N (length s) (length bytes))) (stored_out B N s (take end bytes) ++ drop end bytes) bytes

-- the same with the argument w
unfoldable pub tabulate_told : List ℕ → List ℕ → ℕ → ℕ × ℕ × ℕ
tabulate_told w s room = bands_told (bands_in w) s room

unfoldable pub tabulate_out : List ℕ → List ℕ → List ℕ → List ℕ
tabulate_out w s bytes = bands_out (bands_in w) s bytes
