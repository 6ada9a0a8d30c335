-- Parts of a call, and then the change with which it began.
use Rattle.std.proofs.Common.{◌≡◌, rules, true, false, List, [], ◌∷◌, subst, ap, ◌∙◌}
use Rattle.std.specs.List.{list_any}
use Rattle.rrs_lib.specs.Executor.{state_in}
use Rattle.rrs_lib.proofs.Stepping.{KeepsTheRest-trans}
use Rattle.rrs_history.specs.declared.change.Change.{Change}
use Rattle.rrs_history.specs.Histories.{changes, past}
use Rattle.rrs_history.proofs.Remembering.{PartsTaken, one_taken, takes_back, popped, nothing_there, leads_nowhere, leads_somewhere}
use Rattle.rrs_history.proofs.history.step_back.Goals as goal

pub returns-then-not-leads_back-clause-none : goal.returns-then-not-leads_back-clause-none
returns-then-not-leads_back-clause-none g c =
    let none : list_any (λ (x : Change). x.starts) (changes c.args.history.now) ≡ false = search rules in
    leads_nowhere (changes c.args.history.now) none _

pub returns-then-change-clause-taken : goal.returns-then-change-clause-taken
returns-then-change-clause-taken g c =
    let memory = g.M.Memory in
    let state = state_in memory.bytes memory.writable in
    let old = changes c.args.history.now in
    let new = c.pop_front.new.self.items in
    let s = state c.args.executor.now in
    let t = state c.parts.executor in
    let a = c.args.executor.now.mem.now in
    let b = c.parts.executor.mem.now in
    let P : List Change → Type 0 = λ cs. PartsTaken memory.reads memory.writes old cs s t a b in
    let latest : changes c.parts.history ≡ c.in-Some.change ∷ new =
    popped (changes c.parts.history) new c.in-Some.change (c.in-Some.ensures.value) (ap (λ r. r.items) c.pop_front.ensures.items) in
    takes_back memory.reads memory.writes old new c.in-Some.change s t (state c.undo.new.executor) a b
    c.undo.new.executor.mem.now (subst P latest c.parts.invariant.0) c.undo.ensures.back c.undo.ensures.makes c.if-change.true

pub parts-preserved : goal.parts-preserved
parts-preserved g c =
    let memory = g.M.Memory in
    let state = state_in memory.bytes memory.writable in
    let old = changes c.args.history.now in
    let new = c.pop_front.new.self.items in
    let s = state c.args.executor.now in
    let t = state c.parts.executor in
    let a = c.args.executor.now.mem.now in
    let b = c.parts.executor.mem.now in
    let P : List Change → Type 0 = λ cs. PartsTaken memory.reads memory.writes old cs s t a b in
    let latest : changes c.parts.history ≡ c.in-Some.change ∷ new =
    popped (changes c.parts.history) new c.in-Some.change (c.in-Some.ensures.value) (ap (λ r. r.items) c.pop_front.ensures.items) in (
      one_taken memory.reads memory.writes old new c.in-Some.change s t (state c.undo.new.executor) a b
          c.undo.new.executor.mem.now (subst P latest c.parts.invariant.0) c.undo.ensures.back c.undo.ensures.makes c.if-change.false,
      KeepsTheRest-trans memory.layout _ _ _ c.parts.invariant.1 c.undo.ensures.rest,
      ap (λ r. r.capacity) c.pop_front.ensures.items ∙ c.parts.invariant.2,
    )

pub returns-clause-unchanged : goal.returns-clause-unchanged
returns-clause-unchanged g c =
    let memory = g.M.Memory in
    let s = state_in memory.bytes memory.writable c.args.executor.now in
    let t = state_in memory.bytes memory.writable c.parts.executor in
    let old = changes c.args.history.now in
    let some : list_any (λ (x : Change). x.starts) old ≡ true = search rules in
    let empty : changes c.parts.history ≡ [] = nothing_there (changes c.parts.history) (c.in_default.ensures.value) in
    absurd (leads_somewhere old some s (c.parts.invariant.0.same_past ∙ ap (λ cs. past cs t) empty))
