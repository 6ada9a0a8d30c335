-- The accesses of the run, whose writes are those of the string, make the port take it.
use Rattle.std.proofs.Common.{◌≡◌, ◌++◌, ℕ, subst, arith}
use Rattle.rrs_lib.specs.Executor.{state_in}
use Rattle.rrs_lib.specs.Machine.{reg}
use Rattle.rrs_programs.specs.declared.print_port.PrintPort.{PrintPort}
use Rattle.rrs_programs.specs.Ports.{parts_bytes, parts_writable, IsPortAt}
use Rattle.rrs_programs.proofs.PortLogs.{TookText, took_text, logged, same_port}
use Rattle.rrs_programs.proofs.printing.print_string.Goals as goal

known : (c : goal.After-put_string) (i : ℕ) (before : PrintPort) → IsPortAt c.args.executor.now.mem.now.regions i (reg (state_in parts_bytes parts_writable c.args.executor.now) 10) before
    → TookText c.put_string.new.executor.mem.now.regions i (reg (state_in parts_bytes parts_writable c.args.executor.now) 10) before c.args.text.now
known c i before is =
    let exactly = c.put_string.ensures.accesses in
    let port = c.read_register.ensures (parts_bytes c.args.executor.now.mem.now) (parts_writable c.args.executor.now.mem.now) in
    took_text exactly.accesses c.args.text.now c.args.executor.now.mem.now c.put_string.new.executor.mem.now i (reg (state_in parts_bytes parts_writable c.args.executor.now) 10) before
    (omega (arith, port, c.read_register.type_inv)) c.requires.string.below_256 is (c.put_string.ensures.printed exactly.accesses exactly.these) exactly.made

pub returns-clause-taken : goal.returns-clause-taken
returns-clause-taken c = known c

pub returns-clause-log : goal.returns-clause-log
returns-clause-log c = λ i before after is is' room.
    let took = known c i before is in
    let P : PrintPort → Type 0 = λ port. port.log.items ≡ before.log.items ++ c.args.text.now in
    subst P (same_port _ i _ took.0 after took.1 is') (logged c.args.text.now before took.0 took.2 room)
