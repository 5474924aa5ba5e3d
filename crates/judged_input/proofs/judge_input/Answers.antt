-- Each feeding keeps what is held.
use Rattle.std.proofs.Common.{ℕ, ◌≡◌, ◌≤◌, List, refl, ap, ◌∙◌, arith, rules}
use Rattle.judging.specs.declared.Judging.{Judging}
use Rattle.judging.proofs.Fed.{fed_next}
use Rattle.lister_facts.specs.Held.{Kept}
use Rattle.lister_facts.proofs.Held.{Holding, holding_none, holding_more, kept_none, kept_last}
use Rattle.judged_input.proofs.judge_input.Goals as goal

pub loop-judging-init : goal.loop-judging-init
loop-judging-init g c = record { buffer = refl; holding = rw (c.new-judging.ensures, c.new-text.ensures.none) (holding_none _) }

pub returns-then-at_end : goal.returns-then-at_end
returns-then-at_end g c =
    let k = kept_last c.loop-judging.judging _ _ _ _ c.loop-judging.invariant.holding c.if-read-lt512.true c.feed.ensures in
    search (rules, k)

pub returns-then-read-lt512 : goal.returns-then-read-lt512
returns-then-read-lt512 g c = kept_none _ _ c.new.ensures

pub loop-judging-smaller : goal.loop-judging-smaller
loop-judging-smaller g c =
    let n = ap (λ (j : Judging). j.next) c.feed-judging.ensures ∙ fed_next c.loop-judging.judging _ (omega arith) in
    omega (arith, n)

pub loop-judging-preserved : goal.loop-judging-preserved
loop-judging-preserved g c =
    record {
      buffer = c.put_text.ensures.same_buffer ∙ c.loop-judging.invariant.buffer;
      holding = holding_more c.loop-judging.judging _ _ _ _ _ _ c.loop-judging.invariant.holding (omega arith) c.feed-judging.ensures c.put_text.ensures.next c.put_text.ensures.written;
    }
