use Prim.Native.Nat.{◌≤◌, ◌*◌}
use mathlib.Core.Path.{◌≡◌}
use Rattle.lists.specs.Lists.{sum_to, Filled}
use Rattle.parts.specs.Parts.{share, key}
use Rattle.parts.proofs.whole.Given as goal

abbrev pub invariant-loop-i : goal.invariant-loop-i
invariant-loop-i l = record {
  used : l.used ≡ sum_to (share l.parts l.a) l.i;
  small : l.used ≤ l.i * (65535 * 4294967296);
  keys : Filled 0 l.initial.keys l.keys l.i (key l.parts l.a);
  gains : Filled 0 l.initial.gains l.gains l.i (share l.parts l.a);
}
