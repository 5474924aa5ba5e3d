use Prim.Native.Nat.{◌+◌, ◌<◌}
use mathlib.Core.Path.{refl, ◌∙◌}
use native.Mathlib.Omega.{arith}
use lib.ListN.{length}
use Rattle.std.proofs.lemmas.Slice.{put_mid-paste}
use Rattle.digits.proofs.Written.{put_not, put_done, pasted}
use Rattle.digits.proofs.Text.put_text.Goals as goal
use Rattle.digits.proofs.Text.put_text.Goals.{then-self-via-then-self, then-self-via-else-self+then-self-more}

pub returns-then-self : goal.returns-then-self
returns-then-self c =
    let full : length c.args.self.now.bytes.now < c.args.self.now.len + length c.args.more.now = elim c.then-self.branch [
      | then-self-via-then-self w ↦ omega (arith, w.if-self.true)
      | then-self-via-else-self+then-self-more w ↦ omega (arith, w.if-self.false, w.if-self-more.true)
    ] in
    let both = put_not _ _ _ full in
    record { same_buffer = refl; next = both.0; written = both.1 }

pub returns : goal.returns
returns c =
    let both = put_done _ _ _ _ (omega arith)
    (put_mid-paste _ _ _ _ _ _ c.copy_from_slice.ensures.after (omega arith) refl ∙ pasted _ _ _) in
    record { same_buffer = refl; next = both.0; written = both.1 }
