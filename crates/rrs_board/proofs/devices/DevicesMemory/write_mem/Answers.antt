-- One register gets the bytes, or there is none.
use Rattle.std.proofs.Common.{◌≡◌, ◌≢◌, ℕ, ◌%◌, Some, None, sym, ap, ◌∙◌, refl, arith, rules}
use Rattle.std.proofs.Math.Path.{fun_ext}
use Rattle.rrs_memory.specs.Bytes.{width}
use Rattle.rrs_memory.proofs.VecWords.{aligned_in_word}
use Rattle.rrs_board.specs.Registers.{register, with_register, start_of, with_bytes, device_bytes, device_writable}
use Rattle.rrs_board.proofs.RegisterBytes.{stores, all_words, nothing_writable, same_words, register_set, register_other, lawful_devices, ends_devices}
use Rattle.rrs_board.proofs.devices.DevicesMemory.write_mem.Goals as goal

pub returns-in-Some-clause-laws : goal.returns-in-Some-clause-laws
returns-in-Some-clause-laws c =
    let d = c.args.self.now in
    let a = c.args.addr in
    let n = width c.args.size in
    let s = start_of a in
    let w = c.in-Some.word in
    let v = c.with_part-changed.result in
    let e : register d s ≡ Some w = search rules in
    let g = register (with_register d s v) in
    let set : g s ≡ Some v = register_set d s v w (omega arith) e in
    let set' : g s ≡ Some (with_bytes w c.args.store_data n (a % 4)) = set ∙ ap Some c.with_part-changed.ensures in
    let others : (k : ℕ) → k ≢ s → g k ≡ register d k = λ k other. register_other d s v k (omega arith) other in
    let within = aligned_in_word a c.args.size c.requires in
    let same : device_bytes c.note.new.self ≡ device_bytes (with_register d s v) = search rules in
    let same' : device_writable c.note.new.self ≡ device_writable (with_register d s v) = search rules in
    record {
      granted = sym (all_words (register d) a n w e within);
      written = same ∙ stores (register d) g a n c.args.store_data w e set' others within;
      refused = search rules;
      writable_kept = same' ∙ fun_ext (λ b. same_words (register d) g s v w (start_of b) e set others);
      layout_kept = refl;
      lawful = lawful_devices d a n;
      ends = ends_devices d;
    }

pub returns-in-None-clause-laws : goal.returns-in-None-clause-laws
returns-in-None-clause-laws c =
    let d = c.args.self.now in
    let a = c.args.addr in
    let e : register d (start_of a) ≡ None = search rules in
    record {
      granted = sym (nothing_writable (register d) a c.args.size e c.requires);
      written = search rules;
      refused = search rules;
      writable_kept = refl;
      layout_kept = refl;
      lawful = lawful_devices d a (width c.args.size);
      ends = ends_devices d;
    }
