-- A read is one of the devices, or one of RAM.
use Rattle.std.proofs.Common.{◌≤◌, length, [], ◌∷◌, sym, ap, ◌∙◌, refl, arith, rules}
use Rattle.rrs_memory.specs.Bytes.{width}
use Rattle.rrs_memory.specs.SliceBytes.{bytes_from, lies_from}
use Rattle.rrs_memory.proofs.SliceWords.{lawful_from, ends_from}
use Rattle.rrs_board.specs.Registers.{device_bytes, device_writable, ram_start}
use Rattle.rrs_board.proofs.RegisterBytes.{lawful_devices}
use Rattle.rrs_board.proofs.BoardBytes.{low_value, high_value, split_lawful, split_ends}
use Rattle.rrs_c.specs.Boards.{lent_bytes, lent_writable}
use Rattle.rrs_c.proofs.lent_board.LentMemoryMemory.read_mem.Goals as goal

pub returns-then-addr-lt-RAM_START-clause-laws : goal.returns-then-addr-lt-RAM_START-clause-laws
returns-then-addr-lt-RAM_START-clause-laws c =
    let m = c.args.self.now in
    let d = m.devices in
    let a = c.args.addr in
    let n = width c.args.size in
    let laws = c.read_mem.ensures.laws in
    let high = bytes_from ram_start m.words.now in
    let whigh = lies_from ram_start m.words.now in
    record {
      value = laws.value ∙ sym (low_value (device_bytes d) high (device_writable d) whigh a c.args.size c.requires (omega (arith, c.if-addr-lt-RAM_START.true)));
      bytes_kept = search rules;
      writable_kept = search rules;
      layout_kept = refl;
      lawful = split_lawful (device_bytes d) high (device_writable d) whigh a n (lawful_devices d a n) (lawful_from ram_start m.words.now a n);
      ends = split_ends (device_bytes d) high (device_writable d) whigh (ends_from ram_start m.words.now);
    }

pub returns-else-addr-lt-RAM_START-clause-laws : goal.returns-else-addr-lt-RAM_START-clause-laws
returns-else-addr-lt-RAM_START-clause-laws c =
    let m = c.args.self.now in
    let d = m.devices in
    let a = c.args.addr in
    let n = width c.args.size in
    let read = c.read_ram.ensures in
    let high = bytes_from ram_start m.words.now in
    let whigh = lies_from ram_start m.words.now in
    let from : ram_start ≤ a = omega (arith, c.if-addr-lt-RAM_START.false) in
    record {
      value = read.value ∙ sym (high_value (device_bytes d) high (device_writable d) whigh a n from);
      bytes_kept = ap (λ words. lent_bytes (record { words = words; devices = d })) read.kept;
      writable_kept = ap (λ words. lent_writable (record { words = words; devices = d })) read.kept;
      layout_kept = ap (λ words. length words ∷ []) read.kept;
      lawful = split_lawful (device_bytes d) high (device_writable d) whigh a n (lawful_devices d a n) (lawful_from ram_start m.words.now a n);
      ends = split_ends (device_bytes d) high (device_writable d) whigh (ends_from ram_start m.words.now);
    }
