use mathlib.Core.Path.{◌≡◌}
use Rattle.std.specs.Prelude.{Ok}
use Rattle.table.specs.Release.{rules_of}
use Rattle.table.proofs.Reading.{runs_of}
use Rattle.table.proofs.judge.body.Given as goal

abbrev pub invariant-loop-k : goal.invariant-loop-k
invariant-loop-k l = Ok tt ≡ runs_of (rules_of l.t.form) l.bytes l.t.bands l.t.rows l.k
