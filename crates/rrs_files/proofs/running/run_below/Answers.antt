-- The process with these files is what serves the calls.
use Rattle.std.proofs.Common.{refl}
use Rattle.rrs_files.proofs.running.run_below.Goals as goal

pub returns : goal.returns
returns g c = record {
  first = _;
  last = c.serve_image.new.environment;
  begins = refl;
  has = refl;
  runs = c.serve_image.ensures;
}
