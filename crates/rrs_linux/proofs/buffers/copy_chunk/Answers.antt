use Rattle.std.proofs.Common.{◌≡◌, ◌+◌, min, sym, ◌∙◌, arith}
use Rattle.rrs_linux.proofs.Written.{chunk_more, reads_more}
use Rattle.rrs_linux.proofs.buffers.copy_chunk.Goals as goal

pub loop-index-preserved : goal.loop-index-preserved
loop-index-preserved g c =
    let memory = g.M.Memory in
    let so_far = c.loop-index.invariant in
    let laws = c.read_mem.ensures.laws in
    let next = reads_more memory.reads memory.writes (memory.bytes c.args.memory.now) c.args.address
    c.loop-index.index c.args.memory.now so_far.bytes_kept laws.value so_far.made c.read_mem.ensures.did in
    record {
      stands = chunk_more (memory.bytes c.args.memory.now) c.args.address _ _ _ so_far.stands (omega arith)
          (sym next.0 ∙ c.in-Some.is);
      made = next.1;
      bytes_kept = laws.bytes_kept ∙ so_far.bytes_kept;
      writable_kept = laws.writable_kept ∙ so_far.writable_kept;
      layout_kept = laws.layout_kept ∙ so_far.layout_kept;
    }

pub returns-in-None-clause-read : goal.returns-in-None-clause-read
returns-in-None-clause-read g c =
    let memory = g.M.Memory in
    let so_far = c.loop-index.invariant in
    let read = c.read_mem.ensures in
    let one_more : min c.args.wanted (c.loop-index.index + 1) ≡ c.loop-index.index + 1 = omega arith in
    rw one_more (reads_more memory.reads memory.writes (memory.bytes c.args.memory.now) c.args.address
    c.loop-index.index c.args.memory.now so_far.bytes_kept read.laws.value so_far.made read.did).1
