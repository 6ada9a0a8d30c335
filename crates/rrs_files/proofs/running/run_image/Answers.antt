-- The run begins with the heap that was set.
use Rattle.std.proofs.Common.{refl, ap}
use Rattle.rrs_files.proofs.running.run_image.Goals as goal

pub returns : goal.returns
returns g c =
    let old = c.args.environment.now.process.now in
    record {
      first = _;
      begins = ap (λ heap. record old { heap = heap }) c.new-environment.ensures;
      has = refl;
      runs = c.serve_image.ensures;
    }
