use Rattle.std.proofs.Common.{None, false, ap, ◌∙◌, arith}
use Rattle.rrs_instruction.specs.Words.{bit}
use Rattle.rrs_machine.specs.MachineSteps.{MachineState, returned}
use Rattle.rrs_machine.specs.Csrs.{mode_of}
use Rattle.rrs_machine.proofs.Returning.{pc_returns, enabled_returns, mode_returns}
use Rattle.rrs_machine.proofs.laws.trap_and_return.Goals as goal

pub returns-clause-both : goal.returns-clause-both
returns-clause-both c = λ bytes writable.
    c.return_from_trap.ensures.returned bytes writable
    ∙ ap (λ s. returned c.args.inputs.now s) (c.trap.ensures.trapped bytes writable)

pub returns-clause-pc : goal.returns-clause-pc
returns-clause-pc c = λ even.
    ap (λ (s : MachineState). s.hart.pc) (returns-clause-both c (λ a. None) (λ a. false))
    ∙ pc_returns c.args.cause c.args.value c.args.hart.now.pc c.args.csrs.now c.args.inputs.now (omega arith) even

pub returns-clause-enabled : goal.returns-clause-enabled
returns-clause-enabled c =
    ap (λ (s : MachineState). bit s.csrs.mstatus 3) (returns-clause-both c (λ a. None) (λ a. false))
    ∙ enabled_returns c.args.cause c.args.value c.args.hart.now.pc c.args.csrs.now

pub returns-clause-mode : goal.returns-clause-mode
returns-clause-mode c =
    ap (λ (s : MachineState). mode_of s.csrs) (returns-clause-both c (λ a. None) (λ a. false))
    ∙ mode_returns c.args.cause c.args.value c.args.hart.now.pc c.args.csrs.now
