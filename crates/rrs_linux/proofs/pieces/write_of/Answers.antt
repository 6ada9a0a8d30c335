use Rattle.std.proofs.Common.{◌≡◌, ◌+◌, ◌*◌, ◌<◌, ◌++◌, min, length, take, ap, refl, sym, subst, ◌∙◌, arith}
use Rattle.std.proofs.lemmas.List.{length-take-le}
use Rattle.rrs_lib.specs.AccessLists.{Makes}
use Rattle.rrs_lib.proofs.Making.{Makes-append}
use Rattle.rrs_linux.specs.Transfers.{Stands, byte_reads}
use Rattle.rrs_linux.specs.Vectors.{WritesPieces, IsWritten, IsNegative, IsUnmapped}
use Rattle.rrs_linux.proofs.pieces.write_of.Goals as goal

pub returns-then-copy_chunk-size-clause-taken : goal.returns-then-copy_chunk-size-clause-taken
returns-then-copy_chunk-size-clause-taken g c =
    let memory = g.M.Memory in
    let bytes = memory.bytes c.args.memory.now in
    let a = c.args.address in
    let copied = c.copy_chunk.result in
    let chunk = c.copy_chunk.new.chunk in
    let read = c.copy_chunk.ensures in
    let less : copied < 8 * c.args.count = omega (arith, c.if-copy_chunk-size.true) in
    let long : length (take copied chunk) ≡ copied =
    length-take-le copied chunk (omega (arith, less, c.requires, c.copy_chunk.auto.chunk)) in
    let last : min (8 * c.args.count) (copied + 1) ≡ length (take copied chunk) + 1 = omega (arith, long, less) in
    let here : a + copied ≡ a + length (take copied chunk) = omega (arith, long) in
    record {
      accesses = byte_reads bytes a (length (take copied chunk) + 1);
      these = IsUnmapped (take copied chunk) (omega (arith, c.requires))
          (omega (arith, c.if-from.false, c.from.ensures, c.from-2.ensures)) read.stands (omega (arith, long, less))
          (ap bytes (sym here) ∙ read.ended less) refl refl refl;
      made = subst (λ k. Makes memory.reads memory.writes (byte_reads bytes a k) c.args.memory.now
          c.copy_chunk.new.memory) last read.read;
    }

pub returns-then-has_negative-clause-taken : goal.returns-then-has_negative-clause-taken
returns-then-has_negative-clause-taken g c =
    let memory = g.M.Memory in
    let bytes = memory.bytes c.args.memory.now in
    let a = c.args.address in
    let size = 8 * c.args.count in
    let chunk = c.copy_chunk.new.chunk in
    let read = c.copy_chunk.ensures in
    let all : c.copy_chunk.result ≡ size = omega (arith, c.if-copy_chunk-size.false, read.within) in
    let long : length (take size chunk) ≡ size =
    length-take-le size chunk (omega (arith, c.requires, c.copy_chunk.auto.chunk)) in
    let stands : Stands bytes a (take size chunk) = subst (λ k. Stands bytes a (take k chunk)) all read.stands in
    let last : min size (c.copy_chunk.result + 1) ≡ size = omega (arith, all) in
    record {
      accesses = byte_reads bytes a size;
      these = IsNegative (take size chunk) (omega (arith, c.requires))
          (omega (arith, c.if-from.false, c.from.ensures, c.from-2.ensures)) stands long
          (c.if-has_negative.ensures.some bytes a c.args.count stands long) refl refl refl;
      made = subst (λ k. Makes memory.reads memory.writes (byte_reads bytes a k) c.args.memory.now
          c.copy_chunk.new.memory) last read.read;
    }

pub returns-clause-taken : goal.returns-clause-taken
returns-clause-taken g c =
    let memory = g.M.Memory in
    let bytes = memory.bytes c.args.memory.now in
    let a = c.args.address in
    let size = 8 * c.args.count in
    let chunk = c.copy_chunk.new.chunk in
    let read = c.copy_chunk.ensures in
    let all : c.copy_chunk.result ≡ size = omega (arith, c.if-copy_chunk-size.false, read.within) in
    let long : length (take size chunk) ≡ size =
    length-take-le size chunk (omega (arith, c.requires, c.copy_chunk.auto.chunk)) in
    let stands : Stands bytes a (take size chunk) = subst (λ k. Stands bytes a (take k chunk)) all read.stands in
    let last : min size (c.copy_chunk.result + 1) ≡ size = omega (arith, all) in
    let made : Makes memory.reads memory.writes (byte_reads bytes a size) c.args.memory.now c.copy_chunk.new.memory =
    subst (λ k. Makes memory.reads memory.writes (byte_reads bytes a k) c.args.memory.now c.copy_chunk.new.memory)
    last read.read in
    let wrote = c.write_each.ensures.taken a c.args.count
    (subst (λ f. Stands f a (take size chunk)) (sym read.bytes_kept) stands) long in
    let pieces = subst (λ f. WritesPieces g.W.Output.takes f a c.args.count 0 c.args.out.now c.write_each.new.out
    c.write_each.result wrote.accesses) read.bytes_kept wrote.these in
    record {
      accesses = byte_reads bytes a size ++ wrote.accesses;
      these = IsWritten (take size chunk) wrote.accesses (omega (arith, c.requires))
          (omega (arith, c.if-from.false, c.from.ensures, c.from-2.ensures)) stands long
          (c.if-has_negative.ensures.none bytes a c.args.count stands long) pieces refl;
      made = Makes-append memory.reads memory.writes (byte_reads bytes a size) wrote.accesses _ _ _ made wrote.made;
    }
