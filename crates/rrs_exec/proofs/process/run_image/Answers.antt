-- The run begins with the heap that was set.
use Rattle.std.proofs.Common.{subst}
use Rattle.rrs_linux.specs.SystemCalls.{Serves}
use Rattle.rrs_exec.specs.ProcessMemories.{process_bytes, process_writable}
use Rattle.rrs_exec.specs.Processes.{Executing, ServesImage}
use Rattle.rrs_exec.proofs.process.run_image.Goals as goal

pub returns : goal.returns
returns g c =
    let serves = Serves g.R.Read.remaining g.W.Write.contents g.E.Write.contents in
    let end = c.serve_image.result in
    subst
    (λ heap. ServesImage (Executing serves c.args.profile) c.args.image (process_bytes c.args.memory) (process_writable c.args.memory)
    c.args.limit (record c.args.environment.now { heap = heap }) c.serve_image.new.environment end.steps end.pc end.ending)
    c.new-environment.ensures c.serve_image.ensures
