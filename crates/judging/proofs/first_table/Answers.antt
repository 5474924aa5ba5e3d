use mathlib.Core.Path.{sym, ap}
use mathlib.Core.Bool.{not}
use Rattle.answer.proofs.Chain.{gives, stop}
use Rattle.judging.specs.Judging.{first_tests}
use Rattle.judging.proofs.Named.{first_answer}
use Rattle.judging.proofs.first_table.Goals as goal

pub returns-then-not-checks_ok-clause-answer : goal.returns-then-not-checks_ok-clause-answer
unfolding first_tests
returns-then-not-checks_ok-clause-answer c = gives (stop (ap not (sym c.if-not-checks_ok.ensures)))

pub returns-clause-answer : goal.returns-clause-answer
returns-clause-answer c = first_answer _ c.args.form c.head_ok.result (sym c.if-not-checks_ok.ensures) c.requires.1 c.head_ok.ensures c.ok_or.ensures.value
