-- How many gains of a row each form leaves out. Definitions only.
use Rattle.std.specs.Prelude.{ℕ}
use Rattle.block.specs.declared.form.Form.{Form}
use Rattle.block.specs.declared.form.Form.TheVariants.{One, Two}

abbrev pub left_out : Form → ℕ
left_out One = 0
left_out Two = 1
