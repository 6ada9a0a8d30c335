use Rattle.std.proofs.Common.{◌≡◌, ◌≤◌, [], Some, Err, IfOk, IfSome, refl, sym, subst, ◌∙◌, ap}
use Rattle.rrs_instruction.specs.Instructions.{row_of, fields_of}
use Rattle.rrs_instruction.specs.Table.{table}
use Rattle.rrs_lib.specs.Machine.{state_of, Executes}
use Rattle.rrs_hart.specs.Anywhere.{anywhere_by, accesses_anywhere, told_anywhere, answer_if, answer_of, LeavesIf}
use Rattle.rrs_hart.specs.Harts.{hart_with, HartStep, moved}
use Rattle.rrs_hart.proofs.HartSteps.{forgotten, stands, stands_accesses, carried_out, no_bytes_other, tells_carried, not_true, not_false}
use Rattle.rrs_hart.proofs.step.end_row.Goals as goal

-- the profile carries out no access at a misaligned address
pub returns-then-not-profile-clause-step : goal.returns-then-not-profile-clause-step
returns-then-not-profile-clause-step g c = λ r.
    let memory = g.M.Memory in
    let s = state_of c.args.hart.now (memory.bytes c.args.mem.now) (memory.writable c.args.mem.now) in
    let i = c.args.instruction.now in
    stands c.args.profile s s r c.args.word (row_of i) (fields_of i) c.args.fault c.requires.whole (forgotten s c.requires.forgot) c.requires.aligned c.requires.word
    c.requires.is c.requires.refused refl (λ a o at. not_true c.args.profile.misaligned c.if-not-profile.true at.allowed)

pub returns-then-not-profile-clause-makes : goal.returns-then-not-profile-clause-makes
returns-then-not-profile-clause-makes g c = λ r.
    let memory = g.M.Memory in
    let s = state_of c.args.hart.now (memory.bytes c.args.mem.now) (memory.writable c.args.mem.now) in
    let i = c.args.instruction.now in (
      [],
      stands_accesses c.args.profile s r c.args.word (row_of i) (fields_of i) c.requires.whole (forgotten s c.requires.forgot) c.requires.aligned c.requires.word
          c.requires.is (λ a o at. not_true c.args.profile.misaligned c.if-not-profile.true at.allowed),
      refl,
    )

-- it is a load or a store
pub returns-in-Some-clause-step : goal.returns-in-Some-clause-step
returns-in-Some-clause-step g c = λ r.
    let memory = g.M.Memory in
    let s = state_of c.args.hart.now (memory.bytes c.args.mem.now) (memory.writable c.args.mem.now) in
    let i = c.args.instruction.now in
    let row = row_of i in
    let f = fields_of i in
    let done = c.access_by_bytes in
    let bytes = memory.bytes done.new.mem in
    let writable = memory.writable done.new.mem in
    let u = state_of done.new.hart bytes writable in
    let t = state_of c.end_access.new.hart bytes writable in
    let answer = answer_of c.in-Some.told in
    let a = c.in-AlignmentFault.field-0 in
    let left : LeavesIf (anywhere_by (table row).action f s) s u (Some answer) =
    subst (λ x. LeavesIf (anywhere_by (table row).action f s) s u x) (ap answer_if c.in-Some.is) done.ensures.outcome in
    subst (λ x. HartStep c.args.profile (hart_with s r) (hart_with t r) x) (sym c.end_access.ensures.same)
    (carried_out c.args.profile s t u r c.args.word row f a answer (anywhere_by (table row).action f s) c.requires.whole (forgotten s c.requires.forgot) c.requires.aligned
    c.requires.word c.requires.is (subst (λ e. Executes row f s s (Err e)) c.in-AlignmentFault.is c.requires.refused)
    (not_false c.args.profile.misaligned c.if-not-profile.false) refl left
    (c.end_access.ensures.moved bytes writable ∙ (λ k. moved (c.size_of.ensures k) u answer))).0

pub returns-in-Some-clause-told : goal.returns-in-Some-clause-told
returns-in-Some-clause-told g c =
    let memory = g.M.Memory in
    let s = state_of c.args.hart.now (memory.bytes c.args.mem.now) (memory.writable c.args.mem.now) in
    let i = c.args.instruction.now in
    let row = row_of i in
    let f = fields_of i in
    let done = c.access_by_bytes in
    let u = state_of done.new.hart (memory.bytes done.new.mem) (memory.writable done.new.mem) in
    let told = c.in-Some.told in
    let a = c.in-AlignmentFault.field-0 in
    let left : LeavesIf (anywhere_by (table row).action f s) s u (Some (answer_of told)) =
    subst (λ x. LeavesIf (anywhere_by (table row).action f s) s u x) (ap answer_if c.in-Some.is) done.ensures.outcome in
    let tells : IfOk told (λ y. told_anywhere (table row).action f s ≡ Some y) =
    subst (λ x. IfSome x (λ answer. IfOk answer (λ y. told_anywhere (table row).action f s ≡ Some y))) c.in-Some.is done.ensures.told in
    let within : IfOk told (λ y. y.size ≤ 4) = subst (λ x. IfSome x (λ answer. IfOk answer (λ y. y.size ≤ 4))) c.in-Some.is done.ensures.size in
    tells_carried c.args.profile s u c.args.word row f a (anywhere_by (table row).action f s) c.requires.whole (forgotten s c.requires.forgot) c.requires.aligned
    c.requires.word c.requires.is (subst (λ e. Executes row f s s (Err e)) c.in-AlignmentFault.is c.requires.refused)
    (not_false c.args.profile.misaligned c.if-not-profile.false) refl told c.end_access.result left tells within c.end_access.ensures.same
    c.end_access.ensures.told

pub returns-in-Some-clause-makes : goal.returns-in-Some-clause-makes
returns-in-Some-clause-makes g c = λ r.
    let memory = g.M.Memory in
    let s = state_of c.args.hart.now (memory.bytes c.args.mem.now) (memory.writable c.args.mem.now) in
    let i = c.args.instruction.now in
    let row = row_of i in
    let f = fields_of i in
    let done = c.access_by_bytes in
    let bytes = memory.bytes done.new.mem in
    let writable = memory.writable done.new.mem in
    let u = state_of done.new.hart bytes writable in
    let t = state_of c.end_access.new.hart bytes writable in
    let answer = answer_of c.in-Some.told in
    let a = c.in-AlignmentFault.field-0 in
    let left : LeavesIf (anywhere_by (table row).action f s) s u (Some answer) =
    subst (λ x. LeavesIf (anywhere_by (table row).action f s) s u x) (ap answer_if c.in-Some.is) done.ensures.outcome in (
      accesses_anywhere (table row).action f s,
      (carried_out c.args.profile s t u r c.args.word row f a answer (anywhere_by (table row).action f s) c.requires.whole (forgotten s c.requires.forgot) c.requires.aligned
          c.requires.word c.requires.is (subst (λ e. Executes row f s s (Err e)) c.in-AlignmentFault.is c.requires.refused)
          (not_false c.args.profile.misaligned c.if-not-profile.false) refl left
          (c.end_access.ensures.moved bytes writable ∙ (λ k. moved (c.size_of.ensures k) u answer))).1,
      done.ensures.makes,
    )

-- the exception is of another kind
pub returns-in_default : goal.returns-in_default
returns-in_default g c =
    let memory = g.M.Memory in
    let s = state_of c.args.hart.now (memory.bytes c.args.mem.now) (memory.writable c.args.mem.now) in
    let i = c.args.instruction.now in
    let same = forgotten s c.requires.forgot in
    let none = no_bytes_other c.args.profile s c.args.word (row_of i) (fields_of i) c.args.fault same c.requires.refused c.in_default.not-AlignmentFault in
    record {
      told = tt;
      step = λ r. stands c.args.profile s s r c.args.word (row_of i) (fields_of i) c.args.fault c.requires.whole same c.requires.aligned c.requires.word c.requires.is
          c.requires.refused refl none;
      makes = λ r. (
        [],
        stands_accesses c.args.profile s r c.args.word (row_of i) (fields_of i) c.requires.whole same c.requires.aligned c.requires.word c.requires.is none,
        refl,
      );
      layout_kept = refl;
      entry_zero = refl;
    }
