use Rattle.block.specs.Read.{bytes_from}
use Rattle.lister_core.specs.Asked.{row_lines}
use Rattle.lister_core.proofs.Room.{Put}
use Rattle.lister_core.proofs.Rows.{most}
use Rattle.lister_core.proofs.put_block.Given as goal

abbrev pub invariant-loop-q : goal.invariant-loop-q
invariant-loop-q l = Put (most l.t.bands l.q) (row_lines l.width l.t.bands l.start (bytes_from l.block 0) l.q) l.initial.text l.text
