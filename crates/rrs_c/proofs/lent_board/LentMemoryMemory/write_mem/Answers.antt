-- A write is one of the devices, or one of RAM.
use Rattle.std.proofs.Common.{[], ◌∷◌, ◌≤◌, ◌<◌, ℕ, Bool, nat_lt, if◌then◌else◌, sym, ap, ◌∙◌, refl, arith, rules}
use Rattle.std.proofs.lemmas.Bool.{OnTrue_at, OnTrue_from, OnFalse_at, OnFalse_from}
use Rattle.rrs_memory.specs.Bytes.{ByteMap, width}
use Rattle.rrs_memory.specs.SliceBytes.{bytes_from, lies_from}
use Rattle.rrs_memory.proofs.SliceWords.{lawful_from, ends_from, lies_same}
use Rattle.rrs_board.specs.Registers.{device_bytes, device_writable, ram_start}
use Rattle.rrs_board.proofs.RegisterBytes.{lawful_devices}
use Rattle.rrs_board.proofs.BoardBytes.{low_writable, low_store, high_writable, high_store, split_lawful, split_ends}
use Rattle.rrs_c.specs.Boards.{lent_bytes}
use Rattle.rrs_c.proofs.LentBoards.{silent_write}
use Rattle.rrs_c.proofs.lent_board.LentMemoryMemory.write_mem.Goals as goal

pub returns-then-addr-lt-RAM_START-clause-laws : goal.returns-then-addr-lt-RAM_START-clause-laws
returns-then-addr-lt-RAM_START-clause-laws c =
    let m = c.args.self.now in
    let d = m.devices in
    let a = c.args.addr in
    let n = width c.args.size in
    let laws = c.write_mem.ensures.laws in
    let high = bytes_from ram_start m.words.now in
    let whigh = lies_from ram_start m.words.now in
    let below : a < ram_start = omega (arith, c.if-addr-lt-RAM_START.true) in
    record {
      granted = laws.granted ∙ sym (low_writable (device_bytes d) high (device_writable d) whigh a c.args.size c.requires below);
      written = OnTrue_from _ _ (λ t. low_store (device_bytes d) high (device_writable d) whigh a c.args.size c.requires below _ _ (OnTrue_at t laws.written));
      refused = OnFalse_from _ _ (λ f. ap {A = ByteMap} {B = ByteMap} (λ low b. if nat_lt b ram_start then low b else high b) (OnFalse_at f laws.refused));
      writable_kept = ap {A = ℕ → Bool} {B = ℕ → Bool} (λ low b. if nat_lt b ram_start then low b else whigh b) laws.writable_kept;
      layout_kept = refl;
      lawful = split_lawful (device_bytes d) high (device_writable d) whigh a n (lawful_devices d a n) (lawful_from ram_start m.words.now a n);
      ends = split_ends (device_bytes d) high (device_writable d) whigh (ends_from ram_start m.words.now);
    }

pub returns-else-addr-lt-RAM_START-clause-laws : goal.returns-else-addr-lt-RAM_START-clause-laws
returns-else-addr-lt-RAM_START-clause-laws c =
    let m = c.args.self.now in
    let d = m.devices in
    let a = c.args.addr in
    let n = width c.args.size in
    let wrote = c.write_ram.ensures in
    let high = bytes_from ram_start m.words.now in
    let whigh = lies_from ram_start m.words.now in
    let from : ram_start ≤ a = omega (arith, c.if-addr-lt-RAM_START.false) in
    record {
      granted = wrote.granted ∙ sym (high_writable (device_bytes d) high (device_writable d) whigh a n from);
      written = OnTrue_from _ _ (λ t. high_store (device_bytes d) high (device_writable d) whigh a n from _ _ (OnTrue_at t wrote.did.written));
      refused = OnFalse_from _ _ (λ f. ap (λ words. lent_bytes (record { words = words; devices = d })) (OnFalse_at f wrote.did.refused));
      writable_kept = ap {A = ℕ → Bool} {B = ℕ → Bool} (λ w b. if nat_lt b ram_start then device_writable d b else w b)
          (lies_same ram_start _ _ wrote.did.length_kept);
      layout_kept = ap (λ k. k ∷ []) wrote.did.length_kept;
      lawful = split_lawful (device_bytes d) high (device_writable d) whigh a n (lawful_devices d a n) (lawful_from ram_start m.words.now a n);
      ends = split_ends (device_bytes d) high (device_writable d) whigh (ends_from ram_start m.words.now);
    }

pub returns-then-addr-lt-RAM_START-clause-did : goal.returns-then-addr-lt-RAM_START-clause-did
returns-then-addr-lt-RAM_START-clause-did c =
    let wrote = c.write_mem in
    let below : c.args.addr < ram_start = omega (arith, c.if-addr-lt-RAM_START.true) in
    record {
      did = record {
        of_device = λ _. (refl, wrote.ensures.did);
        of_ram = λ from. absurd (omega (arith, from, below));
      };
      lent = refl;
      heard = silent_write c.args.self.now.devices _ c.args.addr c.args.size c.args.store_data wrote.result _ refl c.requires
          wrote.ensures.laws.granted wrote.ensures.did;
    }

pub returns-else-addr-lt-RAM_START-clause-did : goal.returns-else-addr-lt-RAM_START-clause-did
returns-else-addr-lt-RAM_START-clause-did c =
    let from : ram_start ≤ c.args.addr = omega (arith, c.if-addr-lt-RAM_START.false) in
    record {
      did = record {
        of_device = λ below. absurd (omega (arith, from, below));
        of_ram = λ _. (refl, c.write_ram.ensures.did);
      };
      lent = refl;
      heard = λ none. search rules;
    }
