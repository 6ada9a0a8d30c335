-- The image is run in the memory of the process that is loaded.
use Rattle.std.proofs.Common.{◌≡◌, Err, ap, ◌∙◌, arith}
use Rattle.rrs_exec.specs.declared.image.ImageError.{ImageError}
use Rattle.rrs_exec.specs.ProcessMemories.{process_bytes, process_writable}
use Rattle.rrs_files.proofs.running.execute_with_files.Goals as goal

pub returns-clause-executed : goal.returns-clause-executed
returns-clause-executed g c = record {
  image = c.in_ok-image.field-0.image;
  bytes = process_bytes c.in_ok-image.field-0.memory;
  writable = process_writable c.in_ok-image.field-0.memory;
  loaded = c.in_ok-image.ensures.loaded;
  runs = c.run_image.ensures;
}

-- what loading refuses is refused so
pub returns-clause-long : goal.returns-clause-long
returns-clause-long g c = λ executable none long. absurd (cc (c.in_ok-image.ensures.long executable none long))

pub returns-in_err-image-clause-long : goal.returns-in_err-image-clause-long
returns-in_err-image-clause-long g c =
    let answer : c.from_residual.result ≡ Err c.in_err-image.field-0.0 = grind arith in
    λ executable none long.
    let is : c.in_err-image.field-0.0 ≡ ImageError.LongArguments = cc (c.in_err-image.ensures.long executable none long) in
    answer ∙ ap Err is

pub returns-in_err-image-clause-otherwise : goal.returns-in_err-image-clause-otherwise
returns-in_err-image-clause-otherwise g c = λ executable none fine.
    let answer : c.from_residual.result ≡ Err c.in_err-image.field-0.0 = grind arith in
    let is : c.in_err-image.field-0.0 ≡ ImageError.OutOfMemory = c.in_err-image.ensures.otherwise executable none fine in
    rw answer is
