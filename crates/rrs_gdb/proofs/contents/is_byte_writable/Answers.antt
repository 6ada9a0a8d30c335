use Rattle.std.proofs.Common.{◌≡◌, ◌+◌, refl, sym, arith}
use Rattle.rrs_gdb.proofs.ShownLemmas.{byte_read, either_kept}
use Rattle.rrs_gdb.proofs.contents.is_byte_writable.Goals as goal

pub returns-in-Some-clause-bytes_kept : goal.returns-in-Some-clause-bytes_kept
returns-in-Some-clause-bytes_kept g c =
    let memory = g.M.Memory in
    let a = c.args.address in
    let read = c.in-Some.ensures.laws in
    let wrote = c.write_mem.ensures.laws in
    let there = sym (byte_read (memory.bytes c.args.memory.now) _ a _ refl read.value) in
    let zero : a + 0 ≡ a = omega arith in
    let small = read.lawful.values 0 c.in-Some.byte (omega arith) (rw zero there) in
    either_kept _ _ _ _ a c.in-Some.byte read.bytes_kept there small wrote.written wrote.refused
