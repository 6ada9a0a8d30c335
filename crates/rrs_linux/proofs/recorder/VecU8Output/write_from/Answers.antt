use Rattle.std.proofs.Common.{◌≡◌, ◌+◌, [], ◌∷◌, ◌++◌, None, refl, sym, ap, ◌∙◌, append-nil, append_assoc, arith, length}
use Rattle.std.proofs.lemmas.List.{length-append, length_push}
use Rattle.rrs_linux.specs.Requests.{error}
use Rattle.rrs_linux.specs.Transfers.{counted}
use Rattle.rrs_linux.specs.Recording.{IsUnmapped, PassesEnd}
use Rattle.rrs_linux.proofs.Written.{reads_more}
use Rattle.rrs_linux.proofs.KnownStreams.{Stands-more, takes_text}
use Rattle.rrs_linux.proofs.recorder.VecU8Output.write_from.Goals as goal

pub returns-in_default-clause-taken : goal.returns-in_default-clause-taken
returns-in_default-clause-taken g c =
    takes_text c.args.self.now c.args.self.now (λ i h. absurd (omega (arith, h))) (sym (append-nil _)) refl
    (PassesEnd (rw c.in_default.is at c.most_of.ensures) refl refl refl) refl

pub returns-in-None-clause-taken : goal.returns-in-None-clause-taken
returns-in-None-clause-taken g c =
    let memory = g.M.Memory in
    let bytes = memory.bytes c.args.memory.now in
    let so_far = c.loop-done.invariant in
    let text = so_far.text in
    let next = reads_more memory.reads memory.writes bytes c.args.address c.loop-done.done c.args.memory.now
    so_far.bytes_kept c.read_mem.ensures.laws.value so_far.made c.read_mem.ensures.did in
    let held : length c.loop-done.self.items ≡ length c.args.self.now.items + length text =
    ap length so_far.appended ∙ length-append c.args.self.now.items text in
    let here : c.args.address + c.loop-done.done ≡ c.args.address + length text = omega arith in
    let unmapped : bytes (c.args.address + length text) ≡ None = ap bytes (sym here) ∙ sym next.0 ∙ c.in-None.is in
    takes_text {n = c.loop-done.done + 1} c.args.self.now c.loop-done.self so_far.stands so_far.appended
    so_far.room_kept (IsUnmapped c.in-Some.ensures.0 (omega (arith, c.in-Some.ensures.1))
    (omega (arith, so_far.room_kept)) unmapped (omega arith)
    (c.answer_of-in-None.ensures ∙ ap (λ k. counted k (error 14)) (sym so_far.so_far))) next.1

pub loop-done-preserved : goal.loop-done-preserved
loop-done-preserved g c =
    let memory = g.M.Memory in
    let so_far = c.loop-done.invariant in
    let laws = c.read_mem.ensures.laws in
    let byte = c.in-Some-read_mem.byte in
    let next = reads_more memory.reads memory.writes (memory.bytes c.args.memory.now) c.args.address
    c.loop-done.done c.args.memory.now so_far.bytes_kept laws.value so_far.made c.read_mem.ensures.did in
    record {
      text = so_far.text ++ byte ∷ [];
      so_far = omega (arith, length_push so_far.text byte);
      stands = Stands-more (memory.bytes c.args.memory.now) c.args.address _ byte so_far.text so_far.so_far
          so_far.stands (sym next.0 ∙ c.in-Some-read_mem.is);
      appended = c.push_reserved.ensures.items ∙ ap (λ l. l ++ byte ∷ []) so_far.appended
          ∙ append_assoc c.args.self.now.items so_far.text (byte ∷ []);
      room_kept = c.push_reserved.ensures.capacity ∙ so_far.room_kept;
      made = next.1;
      bytes_kept = laws.bytes_kept ∙ so_far.bytes_kept;
      writable_kept = laws.writable_kept ∙ so_far.writable_kept;
      layout_kept = laws.layout_kept ∙ so_far.layout_kept;
    }
