use Rattle.std.proofs.Common.{◌/◌, length, arith}
use Rattle.std.proofs.Math.Nat.{mul-div-le}
use Rattle.hex_words.proofs.cases.whole_cases.Goals as goal

pub returns : goal.returns
returns g c =
    let e = c.as_chunks.ensures.front_len in
    rw e (omega (arith, mul-div-le (length c.args.text.now / 9) g.row.N))
