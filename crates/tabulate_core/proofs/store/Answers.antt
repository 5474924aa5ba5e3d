use Rattle.std.proofs.Common.{◌∙◌, rules}
use Rattle.std.proofs.lemmas.Result.{err_from_is_err_and}
use Rattle.tabulate_core.proofs.Stored.{store_refused, store_writes, store_done}
use Rattle.tabulate_core.proofs.store.Goals as goal

pub returns-in_err-split_rows : goal.returns-in_err-split_rows
returns-in_err-split_rows c =
    let p = err_from_is_err_and c.from_residual.result c.from_residual.ensures.1 in
    let both = store_refused c.in_err-split_rows.ensures c.args.bytes.now in
    rw (p.1, p.2) (record { told = both.0; written = both.1 })

pub unwrap-requires : goal.unwrap-requires
unwrap-requires c =
    let e =
    store_writes c.in_ok-split_rows.ensures c.requires.shaped c.args.bytes.now c.requires.gains_len.1 c.write.result c.write.ensures.told in
    rw e (search rules)

pub returns : goal.returns
returns c =
    let both = store_done c.in_ok-split_rows.ensures c.requires.shaped c.args.bytes.now c.requires.gains_len.1 _
    (c.write.auto.bytes ∙ c.requires.gains_len.1) c.write.ensures.written in
    record { told = both.0; written = both.1 }
