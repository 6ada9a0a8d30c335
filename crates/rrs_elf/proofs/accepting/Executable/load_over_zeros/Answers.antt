use Rattle.std.proofs.Common.{◌≡◌, ℕ, ◌+◌, ◌<◌, min, Err, Bool, true, false, ◌∙◌, subst, arith, add-one}
use Rattle.rrs_elf.specs.Headers.{p_filesz, segment_start}
use Rattle.rrs_elf.specs.Loading.{loaded_size}
use Rattle.rrs_elf.proofs.Accepted.{holds}
use Rattle.rrs_elf.proofs.Standing.{loaded_low, Stands-part, Stands-rest, Stands-next}
use Rattle.rrs_elf.proofs.accepting.Executable.load_over_zeros.Goals as goal

pub check_within-requires : goal.check_within-requires
check_within-requires g c = λ k below.
    let counted = c.loop-index.invariant.counted in
    loaded_low c.args.self.now.unit c.args.self.now.addresses c.args.self.now.file.now c.loop-index.index k (holds c.args.self.now.unit c.args.self.now.addresses c.args.self.now.file.now c.args.self.now.accepted) (omega arith) below

pub load_segment-requires : goal.load_segment-requires
load_segment-requires g c = λ k below.
    let counted = c.loop-index.invariant.counted in
    let size = c.size_in_file-size.ensures _ _ c.read_program_header-segment.ensures in
    loaded_low c.args.self.now.unit c.args.self.now.addresses c.args.self.now.file.now c.loop-index.index k (holds c.args.self.now.unit c.args.self.now.addresses c.args.self.now.file.now c.args.self.now.accepted) (omega arith) (omega (arith, below, size))

pub loop-index-preserved : goal.loop-index-preserved
loop-index-preserved g c =
    let so_far = c.loop-index.invariant in
    let counted = so_far.counted in
    let at = c.args.self.now.addresses in
    let file = c.args.self.now.file.now in
    let n = c.loop-index.index in
    let size : c.size_in_file-size.result ≡ min (p_filesz file n) (loaded_size file n) = c.size_in_file-size.ensures file n c.read_program_header-segment.ensures in
    let did = c.in_ok-load_segment.ensures in
    let is = holds c.args.self.now.unit at file c.args.self.now.accepted in
    let room : (j : ℕ) → j < loaded_size file n → g.M.Memory.writable c.args.memory.now (segment_start at file n + j) ≡ true =
    λ j below. c.requires.writable (segment_start at file n + j) ∙ c.in_ok-check_within.ensures.within j below in
    let part = Stands-part c.args.self.now.unit at file _ _ _ _ _ n c.size_in_file-size.result is (omega arith) (omega (arith, size)) so_far.stands so_far.writable_kept did.loaded in
    rw (add-one n) record {
      counted = counted;
      stands = Stands-next at file _ _ _ n (Stands-rest c.args.self.now.unit at file _ _ _ n c.size_in_file-size.result is (omega arith) size
          (λ j below. c.requires.zeros (segment_start at file n + j) (room j below)) room part);
      writable_kept = did.writable_kept ∙ so_far.writable_kept;
      layout_kept = did.layout_kept ∙ so_far.layout_kept;
    }

pub returns-in_err-check_within-clause-refused : goal.returns-in_err-check_within-clause-refused
returns-in_err-check_within-clause-refused g c =
    let so_far = c.loop-index.invariant in
    let counted = so_far.counted in
    let stop = c.in_err-check_within.ensures.outside in
    let answer : c.from_residual.result ≡ Err c.in_err-check_within.field-0.0 = grind arith in
    rw answer record {
      n = c.loop-index.index;
      k = stop.0;
      numbered = omega arith;
      within = stop.1;
      here = stop.2;
      outside = c.requires.writable _ ∙ stop.3;
      segments = so_far.stands.segments_writable;
      part = λ j below. c.requires.writable _ ∙ stop.4 j below;
    }

pub returns-in_err-load_segment-clause-refused : goal.returns-in_err-load_segment-clause-refused
returns-in_err-load_segment-clause-refused g c =
    let so_far = c.loop-index.invariant in
    let counted = so_far.counted in
    let at = c.args.self.now.addresses in
    let file = c.args.self.now.file.now in
    let n = c.loop-index.index in
    let size : c.size_in_file-size.result ≡ min (p_filesz file n) (loaded_size file n) = c.size_in_file-size.ensures file n c.read_program_header-segment.ensures in
    let stop = c.in_err-load_segment.ensures.stopped in
    let within : stop.0 < loaded_size file n = omega (arith, stop.1, size) in
    let inside : g.M.Memory.writable c.args.memory.now (segment_start at file n + stop.0) ≡ true =
    c.requires.writable (segment_start at file n + stop.0) ∙ c.in_ok-check_within.ensures.within stop.0 within in
    let outside : g.M.Memory.writable c.args.memory.now (segment_start at file n + stop.0) ≡ false =
    subst (λ a. g.M.Memory.writable c.args.memory.now a ≡ false) stop.2
    (subst (λ (w : ℕ → Bool). w c.in_err-load_segment.field-0.0.address ≡ false) so_far.writable_kept stop.3) in
    absurd (cc (inside, outside))
