-- The number and the place of what stops `tabulate` (RULES, Numbers). Definitions only.
use Rattle.std.specs.Prelude.{ℕ, ⊤, Ok, Err}
use Rattle.tabulate_core.specs.declared.Stop.{Stop}
use Rattle.tabulate_core.specs.declared.Stop.TheVariants.{Count, StoredLength, Domain, Masked}

abbrev pub stop_class : Stop → ℕ
stop_class Count = 7
stop_class StoredLength = 9
stop_class (Domain i) = 4
stop_class (Masked i) = 5

-- a level of all rows
abbrev pub stop_where : Stop → ℕ
stop_where Count = 0
stop_where StoredLength = 0
stop_where (Domain i) = i
stop_where (Masked i) = i

-- what the rows' split answers: nothing more, or the first refusal
abbrev pub Rows : Type 0
Rows = Rattle.std.specs.declared.result.Result.Result ⊤ Stop

-- its number and place; 0 and 0 where no row is refused
abbrev pub rows_told : Rows → ℕ × ℕ
rows_told (Ok tt) = (0, 0)
rows_told (Err s) = (stop_class s, stop_where s)
