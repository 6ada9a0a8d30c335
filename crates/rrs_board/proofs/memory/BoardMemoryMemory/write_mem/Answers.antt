-- A write is one of the devices, or one of RAM.
use Rattle.std.proofs.Common.{◌≤◌, ◌<◌, ℕ, Bool, nat_lt, if◌then◌else◌, sym, ap, ◌∙◌, refl, arith}
use Rattle.std.proofs.lemmas.Bool.{OnTrue_at, OnTrue_from, OnFalse_at, OnFalse_from}
use Rattle.rrs_memory.specs.Bytes.{ByteMap, width}
use Rattle.rrs_memory.specs.SliceBytes.{bytes_from, lies_from}
use Rattle.rrs_memory.proofs.SliceWords.{lawful_from, ends_from}
use Rattle.rrs_board.specs.Registers.{device_bytes, device_writable, ram_start}
use Rattle.rrs_board.proofs.RegisterBytes.{lawful_devices}
use Rattle.rrs_board.proofs.BoardBytes.{low_writable, low_store, high_writable, high_store, split_lawful, split_ends}
use Rattle.rrs_board.proofs.RamWords.{of_words}
use Rattle.rrs_board.proofs.memory.BoardMemoryMemory.write_mem.Goals as goal

pub returns-then-addr-lt-RAM_START-clause-laws : goal.returns-then-addr-lt-RAM_START-clause-laws
returns-then-addr-lt-RAM_START-clause-laws c =
    let m = c.args.self.now in
    let d = m.devices in
    let a = c.args.addr in
    let n = width c.args.size in
    let words = m.ram.mem.items in
    let laws = c.write_mem.ensures.laws in
    let high = bytes_from ram_start words in
    let whigh = lies_from ram_start words in
    let below : a < ram_start = omega (arith, c.if-addr-lt-RAM_START.true) in
    record {
      granted = laws.granted ∙ sym (low_writable (device_bytes d) high (device_writable d) whigh a c.args.size c.requires below);
      written = OnTrue_from _ _ (λ t. low_store (device_bytes d) high (device_writable d) whigh a c.args.size c.requires below _ _ (OnTrue_at t laws.written));
      refused = OnFalse_from _ _ (λ f. ap {A = ByteMap} {B = ByteMap} (λ low b. if nat_lt b ram_start then low b else high b) (OnFalse_at f laws.refused));
      writable_kept = ap {A = ℕ → Bool} {B = ℕ → Bool} (λ low b. if nat_lt b ram_start then low b else whigh b) laws.writable_kept;
      layout_kept = refl;
      lawful = split_lawful (device_bytes d) high (device_writable d) whigh a n (lawful_devices d a n) (lawful_from ram_start words a n);
      ends = split_ends (device_bytes d) high (device_writable d) whigh (ends_from ram_start words);
    }

pub returns-else-addr-lt-RAM_START-clause-laws : goal.returns-else-addr-lt-RAM_START-clause-laws
returns-else-addr-lt-RAM_START-clause-laws c =
    let m = c.args.self.now in
    let d = m.devices in
    let a = c.args.addr in
    let n = width c.args.size in
    let words = m.ram.mem.items in
    let wrote = c.write_mem-else-addr-lt-RAM_START in
    let laws = wrote.ensures.laws in
    let high = bytes_from ram_start words in
    let whigh = lies_from ram_start words in
    let from : ram_start ≤ a = omega (arith, c.if-addr-lt-RAM_START.false) in
    record {
      granted = laws.granted ∙ sym (high_writable (device_bytes d) high (device_writable d) whigh a n from);
      written = OnTrue_from _ _ (λ t. high_store (device_bytes d) high (device_writable d) whigh a n from _ _ (OnTrue_at t laws.written));
      refused = OnFalse_from _ _ (λ f. ap {A = ByteMap} {B = ByteMap} (λ m b. if nat_lt b ram_start then device_bytes d b else m b) (OnFalse_at f laws.refused));
      writable_kept = ap {A = ℕ → Bool} {B = ℕ → Bool} (λ w b. if nat_lt b ram_start then device_writable d b else w b) laws.writable_kept;
      layout_kept = laws.layout_kept;
      lawful = split_lawful (device_bytes d) high (device_writable d) whigh a n (lawful_devices d a n) (lawful_from ram_start words a n);
      ends = split_ends (device_bytes d) high (device_writable d) whigh (ends_from ram_start words);
    }

pub returns-else-addr-lt-RAM_START-clause-did : goal.returns-else-addr-lt-RAM_START-clause-did
returns-else-addr-lt-RAM_START-clause-did c =
    let from : ram_start ≤ c.args.addr = omega (arith, c.if-addr-lt-RAM_START.false) in
    record {
      of_device = λ below. absurd (omega (arith, from, below));
      of_ram = λ _. (refl, of_words c.write_mem-else-addr-lt-RAM_START.result c.write_mem-else-addr-lt-RAM_START.ensures.did);
    }
