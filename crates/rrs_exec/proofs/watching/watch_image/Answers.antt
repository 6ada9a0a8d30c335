-- The watched run begins in the image, with the heap that was set.
use Rattle.std.proofs.Common.{subst, refl, None}
use Rattle.rrs_lib.specs.Machine.{State, state_of}
use Rattle.rrs_lib.specs.Executor.{state_in}
use Rattle.rrs_hart.specs.Harts.{hart_with}
use Rattle.rrs_fast.specs.Serving.{HartServed}
use Rattle.rrs_exec.specs.ProcessMemories.{process_bytes, process_writable}
use Rattle.rrs_exec.specs.Protection.{protected_bytes, protected_writable}
use Rattle.rrs_exec.specs.declared.protected.ProtectedMemory.{ProtectedMemory}
use Rattle.rrs_linux.specs.declared.Heap.{Heap}
use Rattle.rrs_linux.specs.SystemCalls.{Serves}
use Rattle.rrs_exec.specs.Watching.{Shown, start_in}
use Rattle.rrs_exec.proofs.watching.watch_image.Goals as goal

pub returns : goal.returns
returns g c =
    let image = c.args.image in
    let p = c.args.profile in
    let serves = Serves g.R.Read.remaining g.W.Write.contents g.E.Write.contents in
    let bytes = process_bytes c.args.memory in
    let writable = process_writable c.args.memory in
    let watched = c.run_watched-steps.ensures.watched in
    let end = c.run_watched-steps.result in
    let new = c.run_watched-steps.new.environment in
    let reserved = c.run_watched-steps.new.reservation in
    let stands = state_in protected_bytes protected_writable c.run_watched-steps.new.executor in
    let last = hart_with stands reserved in
    let from = start_in image bytes writable in
    let P : Heap → State → Type 0 = λ heap s.
    HartServed p serves end.ending new last watched.most (record c.args.environment.now { heap = heap }) (hart_with s None) end.steps watched.accesses in
    let Q : Heap → State → Type 0 = λ heap s.
    Shown p serves g.V.Watcher.sees g.V.Watcher.wants (record c.args.environment.now { heap = heap }) (hart_with s None) c.args.watcher.now end.ending end.steps new last c.run_watched-steps.new.watcher in
    let heaps = c.new-environment.ensures in
    let states = c.started-hart.ensures _ _ in
    let hart = c.started-hart.result in
    let ServedIn : ProtectedMemory → Type 0 = λ m. P c.new-environment.result (state_of hart (protected_bytes m) (protected_writable m)) in
    let ShownIn : ProtectedMemory → Type 0 = λ m. Q c.new-environment.result (state_of hart (protected_bytes m) (protected_writable m)) in
    let served = subst ServedIn c.new-cached.ensures watched.served in
    let shown = subst ShownIn c.new-cached.ensures watched.shown in
    record {
      most = watched.most;
      within = watched.within;
      all = watched.all;
      runs = record {
        end = stands;
        stands = refl;
        accesses = watched.accesses;
        served = (reserved, subst (λ heap. P heap from) heaps (subst (P c.new-environment.result) states served));
      };
      shown = subst (λ heap. Q heap from) heaps (subst (Q c.new-environment.result) states shown);
    }
