-- RULES, Moving: a table to the form that leaves out `drop` gains of a row. Reading's refusals with nothing lent, then 15, then 9; what is left in the
-- lent result; and the length that it must have. Definitions only.
use Rattle.std.specs.Prelude.{ℕ, ◌-◌, ◌*◌, Bool, not, cond, ◌&&◌, ◌||◌, List, [], ◌∷◌, length, ltb, eqb}
use Rattle.answer.specs.Answer.{Test, judged, or_else, told_of, when_done}
use Rattle.answer.specs.Answer.{Answer}
use Rattle.answer.specs.declared.Refusal.TheVariants.{OneBand, StoredLength}
use Rattle.block.specs.Block.{blocks, table_bytes}
use Rattle.block.specs.Write.{shape_ok_by}
use Rattle.block.specs.Read.{bytes_from, bands_of, rows_of}
use Rattle.table.specs.Release.{form, drop_in, table_answer, table_gains}

-- too few bands for the form, and a result of another length
unfoldable pub move_tests : ℕ → List ℕ → ℕ → List Test
move_tests drop s room =
    let f = bytes_from s 0 in
    (ltb (bands_of f) (form drop).least, OneBand)
    ∷ (not (eqb room (512 * blocks ((form drop).width (bands_of f)) (rows_of f))), StoredLength)
    ∷ []

abbrev pub move_answer : ℕ → List ℕ → ℕ → Answer
move_answer drop s room = or_else (table_answer s) (judged (move_tests drop s room))

-- the table itself where it has the form already, else the table of its bands, rows and gains in that form
unfoldable pub moved : ℕ → List ℕ → List ℕ
moved drop s =
    let f = bytes_from s 0 in
    cond (eqb (drop_in f) drop) s (table_bytes (form drop).code ((form drop).width (bands_of f)) (bands_of f) (rows_of f) (table_gains s))

abbrev pub move_told : ℕ → List ℕ → List ℕ → ℕ × ℕ
move_told drop s result = told_of (move_answer drop s (length result))

abbrev pub move_out : ℕ → List ℕ → List ℕ → List ℕ
move_out drop s result = when_done (move_answer drop s (length result)) (moved drop s) result

-- the bytes of a table of form `number`, B bands and N rows; 0 where there is none
abbrev pub is_form : ℕ → ℕ → ℕ → Bool
is_form number B N = (eqb number 1 || eqb number 2) && shape_ok_by (form (number - 1)) B N

unfoldable pub length_in : ℕ → ℕ → ℕ → ℕ
length_in number B N = cond (is_form number B N) (512 * blocks ((form (number - 1)).width B) N) 0
