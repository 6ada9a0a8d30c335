-- The layout is around the addresses of the segments.
use Rattle.std.proofs.Common.{rules, map}
use Rattle.std.specs.String.{string_bytes}
use Rattle.rrs_elf.specs.Headers.{e_phnum}
use Rattle.rrs_exec.proofs.Bounds.{all_within}
use Rattle.rrs_exec.proofs.OneLayout.{not_long}
use Rattle.rrs_exec.proofs.image.image_of.Goals as goal

pub returns-clause-image : goal.returns-clause-image
returns-clause-image c =
    let file = c.args.executable.now.file.now in
    record {
      start = c.bounds_of.result.0;
      end = c.bounds_of.result.1;
      starts = c.bounds_of.ensures.first;
      ends = c.bounds_of.ensures.end;
      program = rw (c.bounds_of.ensures.first, c.bounds_of.ensures.end) (all_within file (e_phnum file));
      laid_out = c.in_ok-layout.ensures.layout;
      entry_is = search rules;
      pointer = search rules;
      aligned = search rules;
      on_stack = search rules;
      fits = search rules;
      stack_is = search rules;
      marked = search rules;
    }

-- arguments that are refused don't fit in the one layout that there is, and others do
pub returns-clause-long : goal.returns-clause-long
returns-clause-long c = λ none long.
    let mine = rw (c.bounds_of.ensures.first, c.bounds_of.ensures.end) at c.in_ok-layout.ensures.layout in
    absurd (not_long c.args.executable.now.file.now (map string_bytes c.args.arguments.now) (map string_bytes c.args.variables.now) c.args.wanted c.in_ok-sp.sp c.in_ok-layout.layout mine c.in_ok-sp.ensures.pointer c.in_ok-sp.ensures.on_stack long)
