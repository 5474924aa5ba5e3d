-- That half of the room is too little, by two lists. Assumes nothing.
use lib.Dec.{lit<}
use lib.Ieee.{add, sub, mul, div, round, lt, of_bits, to_signed}
use Rattle.exp.specs.Exp.{reduced_range_exp_of}
use Rattle.lists.specs.Lists.{sum_to}
use Rattle.min_max.specs.MinMax.{extreme_from}
use Rattle.sum.specs.Sum.{sum_from}
use Rattle.softmax.specs.Softmax.{max_of, exps_of, sum_of, weights_of}
use Rattle.flat_facts.specs.FlatFacts.{HalfTooLittle}

pub half_too_little : HalfTooLittle
unfolding of_bits weights_of sum_of sum_from exps_of max_of extreme_from reduced_range_exp_of add sub mul div round lt to_signed sum_to
half_too_little = (lit< tt, lit< tt)
