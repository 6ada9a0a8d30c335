use Rattle.std.proofs.Common.{◌≡◌, min, length, take, refl, sym, ap, ◌∙◌, arith}
use Rattle.std.proofs.lemmas.Grind.{common_steps}
use Rattle.std.proofs.lemmas.List.{length-take-le}
use Rattle.rrs_linux.specs.Statuses.{PutsBytes}
use Rattle.rrs_files.specs.Calls.{IsForbiddenLink, IsNoLink, IsLink}
use Rattle.rrs_files.proofs.Buffers.{later}
use Rattle.rrs_files.proofs.files.Files.put_link.Goals as goal

pub returns-in-Err-clause-does : goal.returns-in-Err-clause-does
returns-in-Err-clause-does g c =
    let took = c.in-Err.ensures.refused in
    record {
      accesses = took.accesses;
      these = IsForbiddenLink took.these refl c.path_at.ensures.bytes_kept;
      made = took.made;
    }

pub returns-in-Err-find_link-clause-does : goal.returns-in-Err-find_link-clause-does
returns-in-Err-find_link-clause-does g c =
    let took = c.in-Ok.ensures.taken in
    record {
      accesses = took.accesses;
      these = IsNoLink _ c.find_link.new.folder took.these c.in-Err-find_link.ensures.refused refl
          c.path_at.ensures.bytes_kept;
      made = took.made;
    }

pub returns-in-Ok-find_link-clause-does : goal.returns-in-Ok-find_link-clause-does
returns-in-Ok-find_link-clause-does g c =
    let memory = g.M.Memory in
    let took = c.in-Ok.ensures.taken in
    let kept = c.path_at.ensures in
    let found = c.in-Ok-find_link.found in
    let room = c.find_link.new.room in
    let long : length (take found room) ≡ found =
    length-take-le found room (omega (arith, c.in-Ok-find_link.ensures.within, c.find_link.array_long)) in
    let cut : take c.min-most.result room ≡ take c.args.size (take found room) = grind (arith, common_steps) in
    let most : c.min-most.result ≡ min c.args.size (length (take found room)) =
    c.min-most.ensures ∙ ap (min c.args.size) (sym long) in
    later memory.reads memory.writes
    (λ w b xs. PutsBytes w b (memory.bytes c.put_bytes.new.memory) c.args.address (take c.min-most.result room) xs
    c.put_bytes.result)
    (memory.writable c.args.memory.now) (memory.writable c.path_at.new.memory)
    (memory.bytes c.args.memory.now) (memory.bytes c.path_at.new.memory) took.accesses
    kept.writable_kept kept.bytes_kept
    (λ xs put. IsLink _ (take found room) c.find_link.new.folder took.accesses xs c.put_bytes.result took.these
    c.in-Ok-find_link.ensures.found refl (rw cut at put) refl (rw most at c.link_answer.ensures))
    took.made c.put_bytes.ensures.put
