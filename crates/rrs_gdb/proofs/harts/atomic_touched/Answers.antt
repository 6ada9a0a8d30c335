use Rattle.std.proofs.Common.{◌%◌, ◌∷◌, [], if◌then◌else◌, refl, sym, subst, ap, ◌∙◌}
use Rattle.rrs_lib.specs.Executor.{state_in}
use Rattle.rrs_lib.specs.Machine.{reg}
use Rattle.rrs_lib.specs.Accesses.{read_in, write_in}
use Rattle.rrs_memory.specs.Bytes.{little_endian}
use Rattle.rrs_trace.specs.declared.outside.DataRequest.{DataRequest}
use Rattle.rrs_lib.specs.declared.MemAccessSize.TheVariants.{Word}
use Rattle.rrs_words.specs.declared.atomics.AtomicRow.{AtomicRow}
use Rattle.rrs_hart.specs.Atomics.{aligned_accesses, holds, swap_accesses}
use Rattle.rrs_gdb.specs.Harts.{TouchesOneOf}
use Rattle.rrs_gdb.proofs.HartLemmas.{aligned_touched, amo_touched, request_touched}
use Rattle.rrs_gdb.proofs.harts.atomic_touched.Goals as goal

pub returns-in-LrW-clause-touched : goal.returns-in-LrW-clause-touched
returns-in-LrW-clause-touched g c =
    let s = state_in g.M.Memory.bytes g.M.Memory.writable c.args.executor.now in
    let mem = c.args.executor.now.mem.now in
    let at = c.read_register-address.ensures (g.M.Memory.bytes mem) (g.M.Memory.writable mem) in
    let watches = c.args.watches.now in
    let fields = c.args.fields.now in
    let r = c.args.reservation in
    let answer = c.touched.result in
    let found = request_touched watches s (DataRequest.Load c.read_register-address.result Word) _ c.touched.ensures in
    aligned_touched watches c.args.row fields s r _ (ap (λ a. a % 4) (sym at) ∙ c.if-not-is_aligned.ensures.0 refl)
    (subst (λ (row : AtomicRow). TouchesOneOf watches (aligned_accesses row fields (reg s fields.rs1) s r) answer)
    (sym c.in-LrW.is)
    (subst (λ a. TouchesOneOf watches (read_in s a Word ∷ []) answer) at found))

pub returns-in-ScW-clause-touched : goal.returns-in-ScW-clause-touched
returns-in-ScW-clause-touched g c =
    let s = state_in g.M.Memory.bytes g.M.Memory.writable c.args.executor.now in
    let mem = c.args.executor.now.mem.now in
    let at = c.read_register-address.ensures (g.M.Memory.bytes mem) (g.M.Memory.writable mem) in
    let watches = c.args.watches.now in
    let fields = c.args.fields.now in
    let r = c.args.reservation in
    let answer = c.reserved_touched.result in
    let value = reg s fields.rs2 in
    aligned_touched watches c.args.row fields s r _ (ap (λ a. a % 4) (sym at) ∙ c.if-not-is_aligned.ensures.0 refl)
    (subst (λ (row : AtomicRow). TouchesOneOf watches (aligned_accesses row fields (reg s fields.rs1) s r) answer)
    (sym c.in-ScW.is)
    (subst (λ a. TouchesOneOf watches (if holds r a then write_in s a Word value ∷ [] else []) answer) at
    (c.reserved_touched.ensures s value)))

pub returns-in_default : goal.returns-in_default
returns-in_default g c =
    let s = state_in g.M.Memory.bytes g.M.Memory.writable c.args.executor.now in
    let mem = c.args.executor.now.mem.now in
    let at = c.read_register-address.ensures (g.M.Memory.bytes mem) (g.M.Memory.writable mem) in
    let watches = c.args.watches.now in
    let row = c.args.row in
    let fields = c.args.fields.now in
    let r = c.args.reservation in
    let answer = c.both_touched.result in
    record {
      kept = c.both_touched.ensures.kept;
      touched = aligned_touched watches row fields s r _ (ap (λ a. a % 4) (sym at) ∙ c.if-not-is_aligned.ensures.0 refl)
          (amo_touched watches row fields s r _ c.in_default.not-LrW c.in_default.not-ScW
          (subst (λ a. TouchesOneOf watches (swap_accesses row fields a s (little_endian s.bytes a 4)) answer) at
          (c.both_touched.ensures.touched row fields)));
      rest = c.both_touched.ensures.rest;
    }
