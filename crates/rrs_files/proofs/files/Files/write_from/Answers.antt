use Rattle.std.proofs.Common.{◌≡◌, ◌+◌, min, [], length, take, Ok, Err, refl, sym, ◌∙◌, arith}
use Rattle.std.proofs.lemmas.List.{length-take-le}
use Rattle.rrs_linux.specs.Transfers.{byte_reads}
use Rattle.rrs_files.specs.Calls.{MayNotWrite, WritePassesEnd, IsUnmapped, IsWritten, most_of_file}
use Rattle.rrs_files.proofs.Buffers.{buffer_read}
use Rattle.rrs_files.proofs.files.Files.write_from.Goals as goal

pub returns-then-refuses_write-clause-does : goal.returns-then-refuses_write-clause-does
returns-then-refuses_write-clause-does g c = record {
  accesses = [];
  these = MayNotWrite c.in-Some.place c.in-Some.ensures (sym c.refuses_write.ensures ∙ c.if-refuses_write.true) refl
      refl refl;
  made = refl;
}

pub returns-in_default-most_of-clause-does : goal.returns-in_default-most_of-clause-does
returns-in_default-most_of-clause-does g c = record {
  accesses = [];
  these = WritePassesEnd c.in-Some.place c.in-Some.ensures (sym c.refuses_write.ensures ∙ c.if-refuses_write.false)
      (rw c.in_default-most_of.is at c.most_of.ensures) refl refl
      refl;
  made = refl;
}

pub returns-then-is_unmapped-clause-does : goal.returns-then-is_unmapped-clause-does
returns-then-is_unmapped-clause-does g c =
    let none = c.is_unmapped.ensures.yes c.if-is_unmapped.true in
    let copied = c.copy_chunk-size.ensures in
    let one : min c.min-most.result (c.copy_chunk-size.result + 1) ≡ 1 = omega (arith, none.0, none.1) in
    let here : c.args.address + c.copy_chunk-size.result ≡ c.args.address = omega (arith, none.0) in
    record {
      accesses = byte_reads (g.M.Memory.bytes c.args.memory.now) c.args.address 1;
      these = IsUnmapped c.in-Some.place c.in-Some.ensures (sym c.refuses_write.ensures ∙ c.if-refuses_write.false)
          c.in-Some-most_of.ensures.0
          (omega (arith, none.1, c.min-most.ensures, c.in-Some-most_of.ensures.1))
          (rw here at (copied.ended (omega (arith, none.0, none.1)))) refl refl refl;
      made = rw one at copied.read;
    }

pub returns-in-Err-clause-does : goal.returns-in-Err-clause-does
returns-in-Err-clause-does g c =
    let copied = c.copy_chunk-size.ensures in
    let most : c.min-most.result ≡ min c.args.count most_of_file =
    omega (arith, c.min-most.ensures, c.in-Some-most_of.ensures.1) in
    let text = take c.copy_chunk-size.result c.copy_chunk-size.new.chunk in
    let long : length text ≡ c.copy_chunk-size.result = length-take-le _ _ (omega arith) in
    let buffer = buffer_read (g.M.Memory.bytes c.args.memory.now) c.args.address c.min-most.result c.copy_chunk-size.result text long copied.within
    copied.ended (c.is_unmapped.ensures.no c.if-is_unmapped.false) in
    record {
      accesses = byte_reads (g.M.Memory.bytes c.args.memory.now) c.args.address
          (min (min c.args.count most_of_file) (c.copy_chunk-size.result + 1));
      these = IsWritten c.in-Some.place c.write.new.self text _ (Err c.in-Err.error) c.in-Some.ensures
          (sym c.refuses_write.ensures ∙ c.if-refuses_write.false)
          c.in-Some-most_of.ensures.0 copied.stands (rw most at buffer) c.in-Err.ensures.took refl
          refl refl;
      made = rw most at copied.read;
    }

pub returns-in-Ok-clause-does : goal.returns-in-Ok-clause-does
returns-in-Ok-clause-does g c =
    let copied = c.copy_chunk-size.ensures in
    let most : c.min-most.result ≡ min c.args.count most_of_file =
    omega (arith, c.min-most.ensures, c.in-Some-most_of.ensures.1) in
    let text = take c.copy_chunk-size.result c.copy_chunk-size.new.chunk in
    let long : length text ≡ c.copy_chunk-size.result = length-take-le _ _ (omega arith) in
    let buffer = buffer_read (g.M.Memory.bytes c.args.memory.now) c.args.address c.min-most.result c.copy_chunk-size.result text long copied.within
    copied.ended (c.is_unmapped.ensures.no c.if-is_unmapped.false) in
    record {
      accesses = byte_reads (g.M.Memory.bytes c.args.memory.now) c.args.address
          (min (min c.args.count most_of_file) (c.copy_chunk-size.result + 1));
      these = IsWritten c.in-Some.place c.write.new.self text _ (Ok c.in-Ok.written) c.in-Some.ensures
          (sym c.refuses_write.ensures ∙ c.if-refuses_write.false)
          c.in-Some-most_of.ensures.0 copied.stands (rw most at buffer) c.in-Ok.ensures.took refl
          refl refl;
      made = rw most at copied.read;
    }
