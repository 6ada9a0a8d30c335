-- The bytes lie in one register, or there is none.
use Rattle.std.proofs.Common.{◌≡◌, Some, None, sym, ap, ◌∙◌, refl, rules}
use Rattle.rrs_memory.specs.Bytes.{width}
use Rattle.rrs_memory.proofs.VecWords.{aligned_in_word}
use Rattle.rrs_board.specs.Registers.{register, start_of}
use Rattle.rrs_board.proofs.RegisterBytes.{value_of_word, nothing_read, lawful_devices, ends_devices}
use Rattle.rrs_board.proofs.devices.DevicesMemory.read_mem.Goals as goal

pub returns-in-Some-clause-laws : goal.returns-in-Some-clause-laws
returns-in-Some-clause-laws c =
    let d = c.args.self.now in
    let a = c.args.addr in
    let n = width c.args.size in
    let e : register d (start_of a) ≡ Some c.in-Some.word = search rules in
    record {
      value = ap Some c.part_of.ensures
          ∙ sym (value_of_word (register d) a n c.in-Some.word e (aligned_in_word a c.args.size c.requires));
      bytes_kept = search rules;
      writable_kept = search rules;
      layout_kept = refl;
      lawful = lawful_devices d a n;
      ends = ends_devices d;
    }

pub returns-in-None-clause-laws : goal.returns-in-None-clause-laws
returns-in-None-clause-laws c =
    let d = c.args.self.now in
    let a = c.args.addr in
    let e : register d (start_of a) ≡ None = search rules in
    record {
      value = sym (nothing_read (register d) a c.args.size e c.requires);
      bytes_kept = refl;
      writable_kept = refl;
      layout_kept = refl;
      lawful = lawful_devices d a (width c.args.size);
      ends = ends_devices d;
    }
