use Rattle.std.proofs.Common.{◌≡◌, ◌∙◌, sym, arith}
use Rattle.std.proofs.lemmas.List.{length-set}
use Rattle.rrs_linux.proofs.Written.{chunk_more, reads_more}
use Rattle.rrs_files.proofs.ReadPaths.{ended, unmapped, past, too_long, some_more}
use Rattle.rrs_files.proofs.paths.read_path.Goals as goal

pub returns-then-from-size-clause-refused : goal.returns-then-from-size-clause-refused
returns-then-from-size-clause-refused g c =
    let memory = g.M.Memory in
    let so_far = c.loop-size.invariant in
    past memory.reads memory.writes (memory.bytes c.args.memory.now) c.args.address c.loop-size.size c.loop-size.text
    (omega (arith, so_far.long, c.loop-size-test.true)) so_far.stands so_far.some
    (omega (arith, c.loop-size-test.true, c.loop-size.auto.size-end))
    (omega (arith, so_far.within, c.if-from-size.true, c.from.ensures)) so_far.made

pub returns-in_default-clause-refused : goal.returns-in_default-clause-refused
returns-in_default-clause-refused g c =
    let memory = g.M.Memory in
    let so_far = c.loop-size.invariant in
    let read = c.read_mem.ensures in
    let next = reads_more memory.reads memory.writes (memory.bytes c.args.memory.now) c.args.address c.loop-size.size
    c.args.memory.now so_far.bytes_kept read.laws.value so_far.made read.did in
    unmapped memory.reads memory.writes (memory.bytes c.args.memory.now) c.args.address c.loop-size.size c.loop-size.text
    (omega (arith, so_far.long, c.loop-size-test.true)) so_far.stands so_far.some
    (omega (arith, c.loop-size-test.true, c.loop-size.auto.size-end)) (sym next.0 ∙ c.in_default.is) next.1

pub returns-then-byte-eq0-clause-read : goal.returns-then-byte-eq0-clause-read
returns-then-byte-eq0-clause-read g c =
    let memory = g.M.Memory in
    let so_far = c.loop-size.invariant in
    let read = c.read_mem.ensures in
    let next = reads_more memory.reads memory.writes (memory.bytes c.args.memory.now) c.args.address c.loop-size.size
    c.args.memory.now so_far.bytes_kept read.laws.value so_far.made read.did in
    ended memory.reads memory.writes (memory.bytes c.args.memory.now) c.args.address c.loop-size.size c.loop-size.text
    (omega (arith, so_far.long, c.loop-size-test.true)) so_far.stands so_far.some
    (omega (arith, c.loop-size-test.true, c.loop-size.auto.size-end))
    (rw c.if-byte-eq0.true at (sym next.0 ∙ c.in-Some.is)) next.1

pub loop-size-preserved : goal.loop-size-preserved
loop-size-preserved g c =
    let memory = g.M.Memory in
    let so_far = c.loop-size.invariant in
    let read = c.read_mem.ensures in
    let next = reads_more memory.reads memory.writes (memory.bytes c.args.memory.now) c.args.address c.loop-size.size
    c.args.memory.now so_far.bytes_kept read.laws.value so_far.made read.did in
    record {
      long = length-set c.loop-size.text c.loop-size.size c.in-Some.byte ∙ so_far.long;
      stands = chunk_more (memory.bytes c.args.memory.now) c.args.address _ _ _ so_far.stands
          (omega (arith, so_far.long, c.loop-size-test.true)) (sym next.0 ∙ c.in-Some.is);
      some = some_more _ _ _ so_far.some (omega (arith, so_far.long, c.loop-size-test.true)) c.if-byte-eq0.false;
      within = omega (arith, c.if-from-size.false, c.from.ensures);
      made = next.1;
      bytes_kept = read.laws.bytes_kept ∙ so_far.bytes_kept;
      writable_kept = read.laws.writable_kept ∙ so_far.writable_kept;
      layout_kept = read.laws.layout_kept ∙ so_far.layout_kept;
    }

pub returns-clause-refused : goal.returns-clause-refused
returns-clause-refused g c =
    let memory = g.M.Memory in
    let so_far = c.loop-size.invariant in
    let all : c.loop-size.size ≡ 4096 = omega (arith, c.loop-size-test.false, c.loop-size.auto.size-end) in
    too_long memory.reads memory.writes (memory.bytes c.args.memory.now) c.args.address c.loop-size.size c.loop-size.text
    (omega (arith, so_far.long, all)) so_far.stands so_far.some all so_far.made
