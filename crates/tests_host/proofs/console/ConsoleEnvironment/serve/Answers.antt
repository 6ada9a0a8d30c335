use Rattle.std.proofs.Common.{[], ◌∷◌, refl, sym, ◌∙◌, ap, Some}
use Rattle.std.specs.Prelude.{pos, neg_ℤ}
use Rattle.rrs_lib.specs.declared.MemAccessSize.TheVariants.{Byte}
use Rattle.rrs_lib.specs.Accesses.{Read}
use Rattle.rrs_lib.specs.Bytes.{little_endian}
use Rattle.rrs_lib.specs.Machine.{state_of, put}
use Rattle.tests_host.specs.Consoles.{Exits, Puts, HasBadAddress, IsUnknown}
use Rattle.tests_host.proofs.console.ConsoleEnvironment.serve.Goals as goal

pub returns-then-call-eq93-clause-served : goal.returns-then-call-eq93-clause-served
returns-then-call-eq93-clause-served g c =
    let memory = g.M.Memory in
    let bytes = memory.bytes c.args.executor.now.mem.now in
    let writable = memory.writable c.args.executor.now.mem.now in
    record {
      accesses = [];
      these = Exits (sym (c.read_register-call.ensures bytes writable) ∙ c.if-call-eq93.true) (ap Some (c.read_register.ensures bytes writable)) refl refl refl;
      made = refl;
    }

pub returns-clause-served : goal.returns-clause-served
returns-clause-served g c =
    let memory = g.M.Memory in
    let bytes = memory.bytes c.args.executor.now.mem.now in
    let writable = memory.writable c.args.executor.now.mem.now in
    let call = c.read_register-call.ensures bytes writable in
    record {
      accesses = [];
      these = IsUnknown (λ e. c.if-call-eq93.false (call ∙ e)) (λ e. c.if-call-eq64.false (call ∙ e)) refl refl (c.write_register-2.ensures.written bytes writable) refl;
      made = refl;
    }

pub returns-in-Some-clause-served : goal.returns-in-Some-clause-served
returns-in-Some-clause-served g c =
    let memory = g.M.Memory in
    let bytes = memory.bytes c.args.executor.now.mem.now in
    let writable = memory.writable c.args.executor.now.mem.now in
    let hart = c.args.executor.now.hart_state.now in
    let call = c.read_register-call.ensures bytes writable in
    let address = c.read_register-address.ensures bytes writable in
    let laws = c.read_mem.ensures.laws in
    let value = laws.value ∙ ap (λ a. little_endian bytes a 1) address in
    let written = c.write_register.ensures.written (memory.bytes c.read_mem.new.self) (memory.writable c.read_mem.new.self) in
    record {
      accesses = Read c.read_register-address.result Byte c.read_mem.result ∷ [];
      these = Puts c.in-Some.byte (sym call ∙ c.if-call-eq64.true) (sym value ∙ c.in-Some.is) refl refl (written ∙ (λ i. put (state_of hart (laws.bytes_kept i) (laws.writable_kept i)) 10 (pos 1))) (λ i. Read (address i) Byte (value i) ∷ []);
      made = (c.read_mem.new.self, c.read_mem.ensures.did, refl);
    }

pub returns-in-None-clause-served : goal.returns-in-None-clause-served
returns-in-None-clause-served g c =
    let memory = g.M.Memory in
    let bytes = memory.bytes c.args.executor.now.mem.now in
    let writable = memory.writable c.args.executor.now.mem.now in
    let hart = c.args.executor.now.hart_state.now in
    let call = c.read_register-call.ensures bytes writable in
    let address = c.read_register-address.ensures bytes writable in
    let laws = c.read_mem.ensures.laws in
    let value = laws.value ∙ ap (λ a. little_endian bytes a 1) address in
    let written = c.write_register-in-None.ensures.written (memory.bytes c.read_mem.new.self) (memory.writable c.read_mem.new.self) in
    record {
      accesses = Read c.read_register-address.result Byte c.read_mem.result ∷ [];
      these = HasBadAddress (sym call ∙ c.if-call-eq64.true) (sym value ∙ c.in-None.is) refl refl (written ∙ (λ i. put (state_of hart (laws.bytes_kept i) (laws.writable_kept i)) 10 (neg_ℤ (pos 14)))) (λ i. Read (address i) Byte (value i) ∷ []);
      made = (c.read_mem.new.self, c.read_mem.ensures.did, refl);
    }
