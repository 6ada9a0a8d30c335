use Rattle.std.proofs.Common.{◌≡◌, ◌≤◌, Some, Err, IfOk, IfSome, refl, sym, subst, ap}
use Rattle.rrs_instruction.specs.Instructions.{row_of, fields_of}
use Rattle.rrs_instruction.specs.Table.{table}
use Rattle.rrs_lib.specs.Machine.{state_of, Executes}
use Rattle.rrs_lib.specs.Executor.{state_in}
use Rattle.rrs_hart.specs.Anywhere.{anywhere_by, accesses_anywhere, answer_if, answer_of, told_anywhere, LeavesIf}
use Rattle.rrs_hart.specs.Halves.{RowStep}
use Rattle.rrs_hart.proofs.HartSteps.{not_false}
use Rattle.rrs_hart.proofs.HalvesEnds.{carried_by_bytes, tells_by_bytes, within_by_bytes}
use Rattle.rrs_hart.proofs.halves.end_sized.Goals as goal

-- a load or a store by bytes
pub returns-in-Some-clause-step : goal.returns-in-Some-clause-step
returns-in-Some-clause-step g c =
    let memory = g.M.Memory in
    let s = state_in memory.bytes memory.writable c.args.executor.now in
    let i = c.args.instruction.now in
    let row = row_of i in
    let f = fields_of i in
    let done = c.access_by_bytes in
    let bytes = memory.bytes done.new.mem in
    let writable = memory.writable done.new.mem in
    let u = state_of done.new.hart bytes writable in
    let t = state_of c.end_access.new.hart bytes writable in
    let answer = answer_of c.in-Some.told in
    let left : LeavesIf (anywhere_by (table row).action f s) s u (Some answer) =
    subst (λ x. LeavesIf (anywhere_by (table row).action f s) s u x) (ap answer_if c.in-Some.is) done.ensures.outcome in
    subst (λ x. RowStep c.args.profile c.args.size row f s t x) (sym c.end_access.ensures.same)
    (carried_by_bytes c.args.profile c.args.size row f s t u c.in-AlignmentFault.field-0 answer (anywhere_by (table row).action f s)
    (subst (λ e. Executes row f s s (Err e)) c.in-AlignmentFault.is c.requires.refused)
    (not_false c.args.profile.misaligned c.if-not-profile.false) refl left (c.end_access.ensures.moved bytes writable)).0

pub returns-in-Some-clause-makes : goal.returns-in-Some-clause-makes
returns-in-Some-clause-makes g c =
    let memory = g.M.Memory in
    let s = state_in memory.bytes memory.writable c.args.executor.now in
    let i = c.args.instruction.now in
    let row = row_of i in
    let f = fields_of i in
    let done = c.access_by_bytes in
    let bytes = memory.bytes done.new.mem in
    let writable = memory.writable done.new.mem in
    let u = state_of done.new.hart bytes writable in
    let t = state_of c.end_access.new.hart bytes writable in
    let answer = answer_of c.in-Some.told in
    let left : LeavesIf (anywhere_by (table row).action f s) s u (Some answer) =
    subst (λ x. LeavesIf (anywhere_by (table row).action f s) s u x) (ap answer_if c.in-Some.is) done.ensures.outcome in (
      accesses_anywhere (table row).action f s,
      (carried_by_bytes c.args.profile c.args.size row f s t u c.in-AlignmentFault.field-0 answer (anywhere_by (table row).action f s)
          (subst (λ e. Executes row f s s (Err e)) c.in-AlignmentFault.is c.requires.refused)
          (not_false c.args.profile.misaligned c.if-not-profile.false) refl left (c.end_access.ensures.moved bytes writable)).1,
      done.ensures.makes,
    )

pub returns-in-Some-clause-told : goal.returns-in-Some-clause-told
returns-in-Some-clause-told g c =
    let memory = g.M.Memory in
    let s = state_in memory.bytes memory.writable c.args.executor.now in
    let i = c.args.instruction.now in
    let row = row_of i in
    let f = fields_of i in
    let done = c.access_by_bytes in
    let u = state_of done.new.hart (memory.bytes done.new.mem) (memory.writable done.new.mem) in
    let told = c.in-Some.told in
    let left : LeavesIf (anywhere_by (table row).action f s) s u (Some (answer_of told)) =
    subst (λ x. LeavesIf (anywhere_by (table row).action f s) s u x) (ap answer_if c.in-Some.is) done.ensures.outcome in
    let tells : IfOk told (λ y. told_anywhere (table row).action f s ≡ Some y) =
    subst (λ x. IfSome x (λ answer. IfOk answer (λ y. told_anywhere (table row).action f s ≡ Some y))) c.in-Some.is done.ensures.told in
    tells_by_bytes c.args.profile row f s u c.in-AlignmentFault.field-0 (anywhere_by (table row).action f s)
    (subst (λ e. Executes row f s s (Err e)) c.in-AlignmentFault.is c.requires.refused)
    (not_false c.args.profile.misaligned c.if-not-profile.false) refl told c.end_access.result left tells c.end_access.ensures.same
    c.end_access.ensures.told

pub returns-in-Some-clause-within : goal.returns-in-Some-clause-within
returns-in-Some-clause-within g c =
    let within : IfOk c.in-Some.told (λ y. y.size ≤ 4) =
    subst (λ x. IfSome x (λ answer. IfOk answer (λ y. y.size ≤ 4))) c.in-Some.is c.access_by_bytes.ensures.size in
    within_by_bytes c.in-Some.told c.end_access.result within c.end_access.ensures.same c.end_access.ensures.told
