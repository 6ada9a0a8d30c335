use Rattle.std.proofs.Common.{◌≡◌, ℕ, suc, Err, Bool, false, ◌∙◌, subst, arith, add-one}
use Rattle.rrs_memory.specs.AccessLists.{Makes}
use Rattle.rrs_memory.specs.Loading.{byte_writes}
use Rattle.rrs_elf.specs.Headers.{segment_start}
use Rattle.rrs_elf.specs.Loading.{loaded_size, segment_bytes, segment_writes}
use Rattle.rrs_elf.proofs.Accepted.{holds}
use Rattle.rrs_elf.proofs.Standing.{loaded_low, Stands-part, Stands-next, Makes-join}
use Rattle.rrs_elf.proofs.accepting.Executable.load.Goals as goal

pub load_segment-requires : goal.load_segment-requires
load_segment-requires g c = λ k below.
    let counted = c.loop-index.invariant.counted in
    let size = c.size_to_load-size.ensures _ _ c.read_program_header-segment.ensures in
    loaded_low c.args.self.now.unit c.args.self.now.addresses c.args.self.now.file.now c.loop-index.index k (holds c.args.self.now.unit c.args.self.now.addresses c.args.self.now.file.now c.args.self.now.accepted) (omega arith) (omega (arith, below, size))

pub loop-index-preserved : goal.loop-index-preserved
loop-index-preserved g c =
    let so_far = c.loop-index.invariant in
    let counted = so_far.counted in
    let at = c.args.self.now.addresses in
    let file = c.args.self.now.file.now in
    let n = c.loop-index.index in
    let size : c.size_to_load-size.result ≡ loaded_size file n = c.size_to_load-size.ensures file n c.read_program_header-segment.ensures in
    let did = rw size at c.in_ok-load_segment.ensures in
    let is = holds c.args.self.now.unit at file c.args.self.now.accepted in
    rw (add-one n) record {
      counted = counted;
      stands = Stands-next at file _ _ _ n (Stands-part c.args.self.now.unit at file _ _ _ _ _ n (loaded_size file n) is (omega arith) (omega arith) so_far.stands so_far.writable_kept did.loaded);
      made = Makes-join _ _ (segment_writes at (g.M.Memory.writable c.args.memory.now) file n) _ _ _ _ so_far.made
          (subst (λ (w : ℕ → Bool). Makes g.M.Memory.reads g.M.Memory.writes (byte_writes w (segment_start at file n) (segment_bytes file n (loaded_size file n))) c.loop-index.memory c.load_segment.new.memory) so_far.writable_kept did.made);
      writable_kept = did.writable_kept ∙ so_far.writable_kept;
      layout_kept = did.layout_kept ∙ so_far.layout_kept;
    }

pub returns-in_err-load_segment-clause-refused : goal.returns-in_err-load_segment-clause-refused
returns-in_err-load_segment-clause-refused g c =
    let so_far = c.loop-index.invariant in
    let counted = so_far.counted in
    let at = c.args.self.now.addresses in
    let file = c.args.self.now.file.now in
    let n = c.loop-index.index in
    let size : c.size_to_load-size.result ≡ loaded_size file n = c.size_to_load-size.ensures file n c.read_program_header-segment.ensures in
    let did = rw size at c.in_err-load_segment.ensures in
    let stop = did.stopped in
    let is = holds c.args.self.now.unit at file c.args.self.now.accepted in
    let kept = so_far.writable_kept in
    let answer : c.from_residual.result ≡ Err c.in_err-load_segment.field-0.0 = grind arith in
    rw answer record {
      n = n;
      k = stop.0;
      numbered = omega arith;
      within = stop.1;
      here = stop.2;
      not_writable = subst (λ (w : ℕ → Bool). w c.in_err-load_segment.field-0.0.address ≡ false) kept stop.3;
      stands = Stands-part c.args.self.now.unit at file _ _ _ _ _ n stop.0 is (omega arith) (omega arith) so_far.stands kept stop.4;
      made = Makes-join _ _ (segment_writes at (g.M.Memory.writable c.args.memory.now) file n) _ _ _ _ so_far.made
          (subst (λ (w : ℕ → Bool). Makes g.M.Memory.reads g.M.Memory.writes (byte_writes w (segment_start at file n) (segment_bytes file n (suc stop.0))) c.loop-index.memory c.load_segment.new.memory) kept stop.5);
    }
