use Rattle.std.proofs.Common.{◌≡◌, ◌+◌, ◌%◌, ◌^◌, min, ◌++◌, length, take, refl, sym, ap, ◌∙◌, None, arith}
use Rattle.std.proofs.lemmas.List.{length-take}
use Rattle.rrs_linux.specs.Requests.{error}
use Rattle.rrs_linux.specs.Transfers.{counted, failure, Whole, IsUnmapped, IsShort, PassesEnd}
use Rattle.rrs_linux.proofs.Written.{none_written, chunk_written, writes_text}
use Rattle.rrs_linux.proofs.host.write_by.Goals as goal

pub returns-in_default-clause-taken : goal.returns-in_default-clause-taken
returns-in_default-clause-taken g c =
    writes_text none_written (PassesEnd (rw c.in_default.is at c.most_of.ensures) refl refl refl refl)

pub returns-then-taken-copied-clause-taken : goal.returns-then-taken-copied-clause-taken
returns-then-taken-copied-clause-taken g c =
    let so_far = c.chunks.invariant in
    let chunk = c.copy_chunk-copied in
    let taken = c.offer-taken.ensures in
    let next = chunk_written _ _ _ (min c.min-wanted.result (chunk.result + 1)) _ _ so_far.written so_far.so_far
    so_far.bytes_kept taken.within chunk.ensures.stands taken.appended chunk.ensures.read in
    let long : length (take chunk.result chunk.new.chunk) ≡ min chunk.result (length chunk.new.chunk) =
    length-take chunk.result chunk.new.chunk in
    let fails = c.failure.ensures ∙ ap failure c.is_broken.ensures in
    writes_text next.0 (IsShort c.in-Some.ensures.0 (omega (arith, next.1, chunk.ensures.within))
    (omega (arith, c.in-Some.ensures.1, c.min-wanted.ensures, chunk.ensures.within))
    (taken.short (omega (arith, long, c.if-taken-copied.true)) ∙ ap (λ n. (n + 1) % 2 ^ 64) so_far.none_short)
    (c.answer_of.ensures ∙ ap (λ k. counted k c.failure.result) (sym next.1) ∙ ap (counted _) fails))

pub returns-then-copied-wanted-clause-taken : goal.returns-then-copied-wanted-clause-taken
returns-then-copied-wanted-clause-taken g c =
    let so_far = c.chunks.invariant in
    let chunk = c.copy_chunk-copied in
    let taken = c.offer-taken in
    let next = chunk_written _ _ _ (min c.min-wanted.result (chunk.result + 1)) _ _ so_far.written so_far.so_far
    so_far.bytes_kept taken.ensures.within chunk.ensures.stands taken.ensures.appended chunk.ensures.read in
    let long = next.1 in
    let all = next.2 c.if-taken-copied.false in
    let end = c.args.address + length (so_far.text ++ take taken.result (take chunk.result chunk.new.chunk)) in
    let here : c.args.address + c.chunks.done + chunk.result ≡ end = omega (arith, long, all) in
    let unmapped : g.M.Memory.bytes c.args.memory.now end ≡ None =
    sym (ap (λ f. f end) so_far.bytes_kept) ∙ (rw here at chunk.ensures.ended c.if-copied-wanted.true) in
    let front : length (take chunk.result chunk.new.chunk) ≡ min chunk.result (length chunk.new.chunk) =
    length-take chunk.result chunk.new.chunk in
    writes_text next.0 (IsUnmapped c.in-Some.ensures.0
    (omega (arith, long, all, c.in-Some.ensures.1, c.min-wanted.ensures)) unmapped
    (taken.ensures.whole (omega (arith, front, all)) ∙ so_far.none_short) (omega (arith, long, all))
    (c.answer_of-then-copied-wanted.ensures ∙ ap (λ k. counted k (error 14)) (sym long)))

pub chunks-preserved : goal.chunks-preserved
chunks-preserved g c =
    let so_far = c.chunks.invariant in
    let chunk = c.copy_chunk-copied in
    let taken = c.offer-taken.ensures in
    let next = chunk_written _ _ _ (min c.min-wanted.result (chunk.result + 1)) _ _ so_far.written so_far.so_far
    so_far.bytes_kept taken.within chunk.ensures.stands taken.appended chunk.ensures.read in
    let all = next.2 c.if-taken-copied.false in
    let read : min c.min-wanted.result (chunk.result + 1) ≡ c.offer-taken.result =
    omega (arith, all, chunk.ensures.within, c.if-copied-wanted.false) in
    let front : length (take chunk.result chunk.new.chunk) ≡ min chunk.result (length chunk.new.chunk) =
    length-take chunk.result chunk.new.chunk in
    record {
      text = _;
      so_far = next.1;
      within = omega (arith, all, chunk.ensures.within, c.min-wanted.ensures, c.chunks-test.true);
      written = rw read at next.0;
      none_short = taken.whole (omega (arith, front, all)) ∙ so_far.none_short;
      bytes_kept = chunk.ensures.bytes_kept ∙ so_far.bytes_kept;
      writable_kept = chunk.ensures.writable_kept ∙ so_far.writable_kept;
      layout_kept = chunk.ensures.layout_kept ∙ so_far.layout_kept;
    }

pub returns-clause-taken : goal.returns-clause-taken
returns-clause-taken g c =
    let so_far = c.chunks.invariant in
    writes_text so_far.written (Whole c.in-Some.ensures.0 (omega (arith, c.in-Some.ensures.1)) so_far.none_short
    (sym so_far.so_far) (sym so_far.so_far))
