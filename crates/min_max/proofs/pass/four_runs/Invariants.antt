-- Each run has folded its first i elements.
use Rattle.std.proofs.Common.{◌≡◌, take}
use Rattle.min_max.specs.Pass.{folded}
use Rattle.min_max.proofs.pass.four_runs.Given as goal

abbrev pub invariant-loop-i : goal.invariant-loop-i
invariant-loop-i g l =
    let h = g.H.Held in (l.held_a ≡ folded h.take_is l.fn.held (take l.i l.a)) × (l.held_b ≡ folded h.take_is h.start_is (take l.i l.b))
    × (l.held_c ≡ folded h.take_is h.start_is (take l.i l.c)) × (l.held_d ≡ folded h.take_is h.start_is (take l.i l.d))
