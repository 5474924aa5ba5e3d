use Rattle.std.proofs.Common.{◌≡◌, drop}
use Rattle.hex_words.proofs.words.Words.take.Given as goal

abbrev pub invariant-loop-x : goal.invariant-loop-x
invariant-loop-x g l = l.self.rest.now ≡ drop l.x-index l.initial.self.rest.now
