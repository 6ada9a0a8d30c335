-- The step is made by a hart that has written no register, of which a step takes no notice.
use Rattle.std.proofs.Common.{rules, None, sym, ap}
use Rattle.rrs_lib.specs.Machine.{State, state_of, hart_of}
use Rattle.rrs_lib.specs.Steps.{Step, cleared}
use Rattle.rrs_lib.specs.Accesses.{AccessesOf, MakesExactly}
use Rattle.rrs_lib.proofs.Engines.{apart, moved}
use Rattle.rrs_lib.proofs.Keeping.{Step-last}
use Rattle.rrs_lib.proofs.Making.{exactly-uncleared}
use Rattle.rrs_lib.proofs.Stepping.{Step-uncleared}
use Rattle.rrs_lib.proofs.Rows.{one_row_at_most}
use Rattle.rrs_history.proofs.Written.{value_moved}
use Rattle.rrs_history.proofs.recorder.step_telling.Goals as goal

pub returns-clause-step : goal.returns-clause-step
returns-clause-step g c = λ last.
    let memory = g.M.Memory in
    let put = c.put_together-pc in
    let before = state_of (hart_of c.args.registers.now c.args.pc last) (memory.bytes c.args.mem.now)
    (memory.writable c.args.mem.now) in
    let after = state_of (hart_of put.new.self.registers.now put.result.0 put.result.1) (memory.bytes put.new.self.mem.now)
    (memory.writable put.new.self.mem.now) in
    let answer = c.step_engine-answer.result.0 in
    moved (λ t. Step before t answer) after _ (search rules)
    (Step-uncleared before after _ (apart (λ s t. Step s t answer) _ _ _ _ c.new-engine.ensures.state put.ensures.state
    c.step_engine-answer.ensures.step))

pub returns-clause-last : goal.returns-clause-last
returns-clause-last g c = Step-last _ _ _ (returns-clause-step g c None)

pub returns-clause-value : goal.returns-clause-value
returns-clause-value g c =
    let made = c.step_engine-answer in
    value_moved _ _ _ _ _ (ap (λ (s : State). s.registers) c.new-engine.ensures.state)
    (sym (ap (λ (s : State). s.last) c.put_together-pc.ensures.state)) (Step-last _ _ _ made.ensures.step) made.ensures.value

pub returns-clause-accesses : goal.returns-clause-accesses
returns-clause-accesses g c = λ last.
    let memory = g.M.Memory in
    let before = state_of (hart_of c.args.registers.now c.args.pc last) (memory.bytes c.args.mem.now)
    (memory.writable c.args.mem.now) in
    let made : MakesExactly memory.reads memory.writes (AccessesOf (cleared before)) c.args.mem.now
    c.put_together-pc.new.self.mem.now = search rules in
    moved (λ m. MakesExactly memory.reads memory.writes (AccessesOf before) c.args.mem.now m)
    c.put_together-pc.new.self.mem.now _ (search rules)
    (exactly-uncleared memory.reads memory.writes one_row_at_most before _ _ made)
