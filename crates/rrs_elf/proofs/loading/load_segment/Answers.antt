use Rattle.std.proofs.Common.{◌≡◌, ℕ, ◌+◌, ◌<◌, ◌^◌, ◌∙◌, sym, ap, subst, arith, add-one, length, Bool}
use Rattle.rrs_memory.specs.Loading.{Loaded}
use Rattle.rrs_memory.proofs.LoadLemmas.{Loaded-next, writes-next}
use Rattle.rrs_elf.specs.Headers.{segment_start}
use Rattle.rrs_elf.specs.Loading.{segment_byte, segment_bytes}
use Rattle.rrs_elf.proofs.SegmentBytes.{length-segment_bytes}
use Rattle.rrs_elf.proofs.loading.load_segment.Goals as goal

pub loop-place-preserved : goal.loop-place-preserved
loop-place-preserved g c =
    let so_far = c.loop-place.invariant in
    let wrote = c.if-not-write_mem.ensures.laws in
    let at = c.args.addresses in
    let file = c.args.file.now in
    let i = c.args.index in
    let n = c.loop-place.place in
    let header = c.read_program_header-segment.ensures in
    let is_byte : c.byte_of-byte.result ≡ segment_byte file i n = c.byte_of-byte.ensures i header in
    let is_value : c.from.result ≡ segment_byte file i n = c.from.ensures ∙ is_byte in
    let fits : c.byte_of-byte.result < 256 = c.byte_of-byte.type_inv in
    let small : segment_byte file i n < 256 = omega arith in
    let many = length-segment_bytes file i n in
    let start = c.start-start.ensures file i header in
    let before = c.loop-place-test.true in
    let room : segment_start at file i + n < 2 ^ 32 = c.requires n (omega arith) in
    let placed : segment_start at file i + length (segment_bytes file i n) ≡ c.start-start.result + n = omega arith in
    let low : c.start-start.result + n < 4294967296 = omega arith in
    rw (add-one n) record {
      loaded = Loaded-next _ _ _ _ _ _ _ _ _ _ so_far.loaded placed low small is_value so_far.writable_kept wrote.granted wrote.lawful wrote.written;
      made = writes-next _ _ _ _ _ _ _ _ _ (segment_bytes file i n) _ _ _ so_far.made placed low is_value so_far.writable_kept wrote.granted c.if-not-write_mem.ensures.did;
      writable_kept = wrote.writable_kept ∙ so_far.writable_kept;
      layout_kept = wrote.layout_kept ∙ so_far.layout_kept;
    }

pub returns-then-not-write_mem-clause-stopped : goal.returns-then-not-write_mem-clause-stopped
returns-then-not-write_mem-clause-stopped g c =
    let so_far = c.loop-place.invariant in
    let refused = c.if-not-write_mem.ensures.laws in
    let at = c.args.addresses in
    let file = c.args.file.now in
    let i = c.args.index in
    let n = c.loop-place.place in
    let header = c.read_program_header-segment.ensures in
    let is_byte : c.byte_of-byte.result ≡ segment_byte file i n = c.byte_of-byte.ensures i header in
    let is_value : c.from.result ≡ segment_byte file i n = c.from.ensures ∙ is_byte in
    let many = length-segment_bytes file i n in
    let start = c.start-start.ensures file i header in
    let before = c.loop-place-test.true in
    let room : segment_start at file i + n < 2 ^ 32 = c.requires n (omega arith) in
    let address : ℕ = c.start-start.result + n in
    let placed : segment_start at file i + length (segment_bytes file i n) ≡ c.start-start.result + n = omega arith in
    let low : c.start-start.result + n < 4294967296 = omega arith in
    let zero_more : address + 0 ≡ address = omega arith in (
      n,
      omega arith,
      omega arith,
      sym (refused.granted ∙ ap (g.M.Memory.writable c.loop-place.memory) zero_more ∙ ap (λ (w : ℕ → Bool). w address) so_far.writable_kept),
      subst (λ (f : ℕ → _). Loaded (g.M.Memory.bytes c.args.memory.now) f (g.M.Memory.writable c.args.memory.now) (segment_start at file i) (segment_bytes file i n)) (sym refused.refused) so_far.loaded,
      writes-next _ _ _ _ _ _ _ _ _ (segment_bytes file i n) _ _ _ so_far.made placed low is_value so_far.writable_kept refused.granted c.if-not-write_mem.ensures.did,
    )
