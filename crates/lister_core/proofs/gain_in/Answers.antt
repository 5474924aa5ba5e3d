use mathlib.Core.Path.{◌∙◌}
use native.Mathlib.Omega.{arith}
use Rattle.block.specs.Read.{bytes_from}
use Rattle.lister_core.proofs.Rows.{gain_there, gain_last}
use Rattle.lister_core.proofs.gain_in.Goals as goal

pub returns-then-j-width : goal.returns-then-j-width
returns-then-j-width c = c.word_at.ensures.0 ∙ gain_there c.args.width (bytes_from c.args.block.now 0) c.args.first c.args.j (omega arith)

pub returns : goal.returns
returns c = c.last_gain.ensures ∙ gain_last c.args.width (bytes_from c.args.block.now 0) c.args.first c.args.j (omega arith)
