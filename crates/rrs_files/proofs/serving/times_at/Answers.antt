use Rattle.std.proofs.Common.{◌≡◌, ◌+◌, min, take, refl, arith}
use Rattle.std.proofs.lemmas.List.{take_all}
use Rattle.rrs_linux.specs.Transfers.{Stands, byte_reads}
use Rattle.rrs_files.specs.Calls.{AreTaken, AreUnmapped}
use Rattle.rrs_files.proofs.serving.times_at.Goals as goal

pub returns-then-copy_chunk-lt-TIMES-clause-taken : goal.returns-then-copy_chunk-lt-TIMES-clause-taken
returns-then-copy_chunk-lt-TIMES-clause-taken g c =
    let copied = c.copy_chunk.ensures in
    let size = c.copy_chunk.result in
    let low = c.if-copy_chunk-lt-TIMES.true in
    let one : min 32 (size + 1) ≡ size + 1 = omega (arith, low) in
    record {
      accesses = byte_reads (g.M.Memory.bytes c.args.memory.now) c.args.address (size + 1);
      these = AreUnmapped size (omega (arith, c.if-from.false, c.from.ensures, c.from-2.ensures))
          low (copied.ended low) refl refl;
      made = rw one at copied.read;
    }

pub returns-clause-taken : goal.returns-clause-taken
returns-clause-taken g c =
    let copied = c.copy_chunk.ensures in
    let memory = g.M.Memory.bytes c.args.memory.now in
    let a = c.args.address in
    let all : c.copy_chunk.result ≡ 32 =
    omega (arith, c.if-copy_chunk-lt-TIMES.false, copied.within) in
    let reads : min 32 (c.copy_chunk.result + 1) ≡ 32 = omega (arith, all) in
    let whole : take c.copy_chunk.result c.copy_chunk.new.chunk ≡ c.copy_chunk.new.chunk =
    take_all c.copy_chunk.result c.copy_chunk.new.chunk (omega (arith, all)) in
    let stands : Stands memory a c.copy_chunk.new.chunk = rw whole at copied.stands in
    let here : a + 0 ≡ a = omega arith in
    record {
      accesses = byte_reads memory a 32;
      these = AreTaken c.moment_in.result c.moment_in-2.result
          (omega (arith, c.if-from.false, c.from.ensures, c.from-2.ensures))
          (rw here at (c.moment_in.ensures memory a stands)) (c.moment_in-2.ensures memory a stands)
          refl c.times_of.ensures;
      made = rw reads at copied.read;
    }
