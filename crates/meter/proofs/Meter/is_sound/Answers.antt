-- The tests are those of `sound_meter`, in its order: a value that equals itself is a number (`number_test`).
use Rattle.floats.proofs.Pattern.{number_test}
use Rattle.meter.proofs.Meter.is_sound.Goals as goal

pub returns : goal.returns
returns c = rw (number_test, number_test, number_test)
