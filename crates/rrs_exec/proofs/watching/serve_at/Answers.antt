-- The call is served, and a program that goes on does so after it.
use Rattle.std.proofs.Common.{ℕ, Option, refl, subst}
use Rattle.rrs_lib.specs.Executor.{state_in}
use Rattle.rrs_exec.proofs.watching.serve_at.Goals as goal

pub returns-in-Some-clause-served : goal.returns-in-Some-clause-served
returns-in-Some-clause-served g c =
    let served = c.serve.ensures.served in
    let state = state_in g.M.Memory.bytes g.M.Memory.writable in
    let P : Option ℕ → Type 0 = λ x.
    g.E.Environment.serves c.args.environment.now (state c.args.executor.now) c.serve.new.self (state c.serve.new.executor) served.accesses x in
    record {
      accesses = served.accesses;
      these = record {
        after_call = state c.serve.new.executor;
        served = subst P c.in-Some.is served.these;
        goes_on = refl;
      };
      made = served.made;
    }

pub returns-in-None-clause-served : goal.returns-in-None-clause-served
returns-in-None-clause-served g c =
    let served = c.serve.ensures.served in
    let state = state_in g.M.Memory.bytes g.M.Memory.writable in
    let P : Option ℕ → Type 0 = λ x.
    g.E.Environment.serves c.args.environment.now (state c.args.executor.now) c.serve.new.self (state c.serve.new.executor) served.accesses x in
    record {
      accesses = served.accesses;
      these = record {
        after_call = state c.serve.new.executor;
        served = subst P c.in-None.is served.these;
        goes_on = refl;
      };
      made = served.made;
    }
