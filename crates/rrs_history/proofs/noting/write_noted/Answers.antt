-- The bytes that were read take the write back.
use Rattle.std.proofs.Common.{rules, ◌∙◌, ap}
use Rattle.rrs_lib.specs.Bytes.{width, all_writable}
use Rattle.rrs_history.proofs.PutBack.{write_back_if}
use Rattle.rrs_history.proofs.noting.write_noted.Goals as goal

pub returns-clause-back : goal.returns-clause-back
returns-clause-back g c =
    let read = c.read_mem.ensures.laws in
    let wrote = c.write_mem-granted.ensures.laws in
    let n = width c.args.size in
    write_back_if _ _ _ _ c.args.addr n c.args.store_data _ _ _ read.lawful
    (wrote.granted ∙ ap (λ w. all_writable w c.args.addr n) read.writable_kept) read.value (search rules)
    wrote.written read.bytes_kept
