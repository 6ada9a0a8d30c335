-- The image is run in the memory of the process that is loaded, with the heap that was set.
use Rattle.std.proofs.Common.{◌≡◌, Err, refl, ap, ◌∙◌, arith}
use Rattle.rrs_exec.specs.declared.image.ImageError.{ImageError}
use Rattle.rrs_exec.specs.ProcessMemories.{process_bytes, process_writable}
use Rattle.rrs_files.proofs.running.execute_below.Goals as goal

pub returns-clause-executed : goal.returns-clause-executed
returns-clause-executed g c =
    let process = c.args.process.now in
    let below = c.run_below.ensures in
    record {
      old = record below.first { process = record below.first.process { now = process } };
      new = below.last;
      begins = refl;
      has = below.has;
      runs = record {
        image = c.in_ok-image.field-0.image;
        bytes = process_bytes c.in_ok-image.field-0.memory;
        writable = process_writable c.in_ok-image.field-0.memory;
        loaded = c.in_ok-image.ensures.loaded;
        runs = record {
          first = below.first;
          begins = below.begins ∙ ap (λ heap. record process { heap = heap }) c.new-process.ensures;
          has = refl;
          runs = below.runs;
        };
      };
    }

-- what loading refuses is refused so
pub returns-in_err-image-clause-long : goal.returns-in_err-image-clause-long
returns-in_err-image-clause-long g c =
    let answer : c.from_residual.result ≡ Err c.in_err-image.field-0.0 = grind arith in
    λ executable none long.
    let is : c.in_err-image.field-0.0 ≡ ImageError.LongArguments = cc (c.in_err-image.ensures.long executable none long) in
    answer ∙ ap Err is
