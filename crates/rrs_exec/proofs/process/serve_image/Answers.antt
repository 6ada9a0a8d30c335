-- The run begins in the image.
use Rattle.std.proofs.Common.{◌≡◌, None, refl, subst, ap, ◌∙◌}
use Rattle.rrs_lib.specs.Machine.{state_of}
use Rattle.rrs_lib.specs.Executor.{state_in}
use Rattle.rrs_hart.specs.Harts.{hart_with}
use Rattle.rrs_fast.specs.Serving.{HartServed}
use Rattle.rrs_exec.specs.ProcessMemories.{process_bytes, process_writable}
use Rattle.rrs_exec.specs.Processes.{started}
use Rattle.rrs_exec.specs.Protection.{bytes_under, writable_under, protected_bytes, protected_writable}
use Rattle.rrs_exec.proofs.process.serve_image.Goals as goal

pub returns : goal.returns
returns g c =
    let image = c.args.image in
    let marks = image.marks.items in
    let bytes = bytes_under marks (process_bytes c.args.memory) in
    let writable = writable_under marks (process_writable c.args.memory) in
    let hart = c.started-hart.result in
    let made = c.run_served-end.ensures.served in
    let end = c.run_served-end.result in
    let new = c.run_served-end.new in
    let last = state_in protected_bytes protected_writable new.executor in
    let starts : state_of hart (protected_bytes c.new-cached.result) (protected_writable c.new-cached.result)
    ≡ started image.entry image.stack_pointer bytes writable =
    ap (λ m. state_of hart (protected_bytes m) (protected_writable m)) c.new-cached.ensures
    ∙ c.started-hart.ensures bytes writable in
    record {
      end = last;
      stands = refl;
      accesses = made.accesses;
      served = (
        new.runner.runner.reservation,
        subst (λ s. HartServed c.args.profile g.S.Environment.serves end.ending new.environment
            (hart_with last new.runner.runner.reservation) c.args.limit c.args.environment.now (hart_with s None) end.steps made.accesses)
            starts made.these,
      );
    }
