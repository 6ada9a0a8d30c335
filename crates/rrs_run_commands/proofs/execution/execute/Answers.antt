use Rattle.std.proofs.Common.{◌^◌, ◌∷◌, set, drop, replicate, None, refl, ap, subst}
use Rattle.rrs_lib.specs.VecBytes.{bytes_of_words, lies_in_words, vec_bytes, vec_writable}
use Rattle.rrs_lib.specs.Executor.{state_in}
use Rattle.rrs_lib.specs.Machine.{State, state_of}
use Rattle.rrs_lib.specs.declared.memories.VecMemory.{VecMemory}
use Rattle.rrs_hart.specs.Harts.{hart_with}
use Rattle.rrs_fast.specs.Serving.{HartServed}
use Rattle.rrs_linux.specs.SystemCalls.{Serves}
use Rattle.rrs_cli.proofs.Printed.{start_is}
use Rattle.rrs_run_commands.proofs.execution.execute.Goals as goal

pub returns-clause-executed : goal.returns-clause-executed
returns-clause-executed g c =
    let words = c.in_ok-memory.memory.mem.items in
    let hart = c.new-hart.result in
    let served = c.run_served-end.ensures.served in
    let end = c.run_served-end.result in
    let start = start_is 262144 (set hart.registers 2 1048576) (0 ∷ 2 ^ 20 ∷ replicate 29 0) hart.pc hart.last_register_write (bytes_of_words words) (lies_in_words words) (ap (λ rs. drop 1 (set rs 2 1048576)) c.new-hart.ensures.registers) c.new-hart.ensures.pc c.new-hart.ensures.last c.in_ok-memory.ensures.writable in
    let last = state_in vec_bytes vec_writable c.run_served-end.new.executor in
    let reserved = c.run_served-end.new.runner.runner.reservation in
    let P : State → Type 0 = λ s. HartServed c.args.profile (Serves g.R.Read.remaining g.W.Write.contents g.E.Write.contents) end.ending c.run_served-end.new.environment (hart_with last reserved) c.args.limit c.args.environment.now (hart_with s None) end.steps served.accesses in
    let Q : VecMemory → Type 0 = λ m. P (state_of (record hart { registers = set hart.registers 2 1048576 }) (vec_bytes m) (vec_writable m)) in
    let these = subst Q c.new-cached.ensures served.these in
    record {
      bytes = bytes_of_words words;
      loaded = c.in_ok-memory.ensures.loaded;
      end = last;
      stands = refl;
      accesses = served.accesses;
      served = (reserved, subst P start these);
    }
