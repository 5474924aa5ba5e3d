-- THEOREM: every claim on stored tables holds for any sound form, and so for both of this release's. Assumes nothing.
use Prim.Native.Nat.{ℕ, ◌≤◌}
use Rattle.block.specs.Form.{Form, Sound}
use Rattle.table.specs.Release.{form1, form}
use Rattle.table.proofs.Forms.{sound1, sound}
use Rattle.table_facts.specs.Trips.{Trips}
use Rattle.table_facts.proofs.ReadsBack.{reads_back}
use Rattle.table_facts.proofs.Rewrites.{rewrites}
use Rattle.table_facts.proofs.WritesAgain.{writes_again}
use Rattle.table_facts.proofs.Agree.{readers_agree, judged_agrees}

pub trips : (F : Form) → Sound F → Trips F
trips F S = record {
  back = reads_back F S;
  again = writes_again F S;
  same = rewrites F S;
  agree = readers_agree F S;
  judged = judged_agrees F S;
}

pub form1_trips : Trips form1
form1_trips = trips form1 sound1

pub form_trips : (d : ℕ) → d ≤ 1 → Trips (form d)
form_trips d few = trips (form d) (sound d few)
