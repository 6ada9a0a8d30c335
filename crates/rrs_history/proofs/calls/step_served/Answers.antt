-- A step that is Ok, an ecall, or another exception.
use Rattle.std.proofs.Common.{◌≡◌, ◌≤◌, true, false, length, ◌++◌, Err, OnErr, refl, subst, ap, ◌∙◌, arith}
use Rattle.std.proofs.lemmas.List.{length-append}
use Rattle.rrs_lib.specs.declared.instruction_executor.InstructionException.TheVariants.{EnvironmentCall}
use Rattle.rrs_lib.specs.Machine.{State}
use Rattle.rrs_lib.specs.Steps.{Step, StepAnswer, cleared}
use Rattle.rrs_lib.specs.Executor.{state_in}
use Rattle.rrs_lib.proofs.Making.{Makes-append}
use Rattle.rrs_history.specs.Histories.{changes}
use Rattle.rrs_history.specs.Calls.{Stepped, Faulted, Called, RemembersCall}
use Rattle.rrs_history.proofs.Remembering.{remembers, cleared_past}
use Rattle.rrs_history.proofs.Carrying.{remembers_step, remembers_more}
use Rattle.rrs_history.proofs.calls.step_served.Goals as goal

pub returns-in_default-clause-served : goal.returns-in_default-clause-served
returns-in_default-clause-served g c =
    let state = state_in g.M.Memory.bytes g.M.Memory.writable in
    let s = state c.args.executor.now in
    let t = state c.step_noted-answer.new.executor in
    let noted = c.step_noted-answer.ensures in
    let pushed = c.push.ensures in
    let made = noted.accesses in
    let old = c.args.history.now in
    let P : StepAnswer → Type 0 = λ a. Step s t a in
    record {
      accesses = made.accesses;
      these = (
        false,
        Stepped refl (subst P c.in_default.is noted.step) refl refl made.these,
        remembers_step old c.push.new.self s t c.step_noted-answer.result.1 (length made.accesses)
            noted.starts noted.of_step pushed.changes
            (remembers old c.push.new.self s t _ noted.starts noted.undoes pushed.changes pushed.room pushed.within),
      );
      made = made.made;
    }

pub returns-in-EnvironmentCall-clause-served : goal.returns-in-EnvironmentCall-clause-served
returns-in-EnvironmentCall-clause-served g c =
    let memory = g.M.Memory in
    let state = state_in memory.bytes memory.writable in
    let s = state c.args.executor.now in
    let m = state c.step_noted-answer.new.executor in
    let t = state c.serve_noted.new.executor in
    let noted = c.step_noted-answer.ensures in
    let first = noted.accesses in
    let second = c.serve_noted.ensures.served in
    let call = second.these.0 in
    let pc = c.in-EnvironmentCall.pc in
    let answer : c.step_noted-answer.result.0 ≡ Err (EnvironmentCall pc) = c.in-Err.is ∙ ap Err c.in-EnvironmentCall.is in
    let P : StepAnswer → Type 0 = λ a. Step s m a in
    let n = length second.accesses in
    let all = first.accesses ++ second.accesses in
    let more : n ≤ length all = omega (arith, length-append first.accesses second.accesses) in
    let Q : State → Type 0 = λ x. RemembersCall true c.args.history.now x c.serve_noted.new.history t n in
    record {
      accesses = all;
      these = (
        true,
        Called pc c.serve_noted.result m call.after_call first.accesses call.of_call second.accesses
            refl (subst P answer noted.step) first.these call.served call.with_reads call.goes_on refl refl,
        remembers_more c.args.history.now c.serve_noted.new.history s t n (length all) more (subst Q noted.undoes second.these.1),
      );
      made = Makes-append memory.reads memory.writes first.accesses second.accesses _ _ _ first.made second.made;
    }

pub returns-in_default-exception : goal.returns-in_default-exception
returns-in_default-exception g c =
    let state = state_in g.M.Memory.bytes g.M.Memory.writable in
    let s = state c.args.executor.now in
    let t = state c.step_noted-answer.new.executor in
    let noted = c.step_noted-answer.ensures in
    let made = noted.accesses in
    let P : StepAnswer → Type 0 = λ a. Step s t a in
    let Q : StepAnswer → Type 0 = λ a. OnErr a (t ≡ cleared s) in
    record {
      served = record {
        accesses = made.accesses;
        these = (false, Faulted c.in-Err.exception refl (subst P c.in-Err.is noted.step) c.in_default-exception.not-EnvironmentCall refl refl made.these, tt);
        made = made.made;
      };
      kept = (refl, cleared_past (changes c.args.history.now) s t (subst Q c.in-Err.is noted.fault));
      rest = noted.rest;
    }
