-- The whole blocks read so far were fed, and are held as long as there is room.
use Rattle.std.proofs.Common.{◌≡◌, ◌-◌, length}
use Rattle.lister_facts.proofs.Held.{Holding}
use Rattle.judged_input.proofs.judge_input.Given as goal

abbrev pub invariant-loop-judging : goal.invariant-loop-judging
invariant-loop-judging g l = record {
  buffer : l.text.bytes.ghost_name ≡ l.initial.text.bytes.ghost_name;
  holding : Holding l.judging l.text.bytes.now l.text.len;
}

abbrev pub decreases-loop-judging : goal.decreases-loop-judging
decreases-loop-judging g l = 18446744073709551615 - l.judging.next
