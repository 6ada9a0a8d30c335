use Rattle.std.proofs.Common.{refl, sym, ◌∙◌}
use Rattle.rrs_linux.specs.Statuses.{PutsBytes}
use Rattle.rrs_files.specs.Calls.{IsOfDescriptor, IsForbiddenPath, HasNoStatus, IsToldByName, TellsBeside}
use Rattle.rrs_files.specs.Statuses.{told_bytes}
use Rattle.rrs_files.proofs.Buffers.{later}
use Rattle.rrs_files.proofs.files.Files.put_named.Goals as goal

pub returns-then-is_of_descriptor-clause-does : goal.returns-then-is_of_descriptor-clause-does
returns-then-is_of_descriptor-clause-does g c =
    let memory = g.M.Memory in
    let took = c.in-Err.ensures.refused in
    let kept = c.path_at.ensures in
    later memory.reads memory.writes
    (λ w b xs. TellsBeside g.F.Folder.did w b (memory.bytes c.put_beside.new.memory) c.args.beside c.args.address
    c.args.form c.args.self.now c.put_beside.new.self c.put_beside.result xs)
    (memory.writable c.args.memory.now) (memory.writable c.path_at.new.memory)
    (memory.bytes c.args.memory.now) (memory.bytes c.path_at.new.memory) took.accesses
    kept.writable_kept kept.bytes_kept
    (λ xs tells. IsOfDescriptor c.in-Err.error took.accesses xs took.these
    (sym c.is_of_descriptor.ensures ∙ c.if-is_of_descriptor.true) tells refl)
    took.made c.put_beside.ensures.does

pub returns-else-is_of_descriptor-clause-does : goal.returns-else-is_of_descriptor-clause-does
returns-else-is_of_descriptor-clause-does g c =
    let took = c.in-Err.ensures.refused in
    record {
      accesses = took.accesses;
      these = IsForbiddenPath took.these (sym c.is_of_descriptor.ensures ∙ c.if-is_of_descriptor.false) refl
          c.path_at.ensures.bytes_kept;
      made = took.made;
    }

pub returns-in-Err-naming-clause-does : goal.returns-in-Err-naming-clause-does
returns-in-Err-naming-clause-does g c =
    let took = c.in-Ok.ensures.taken in
    record {
      accesses = took.accesses;
      these = HasNoStatus _ c.walk.result c.walk.new.folder took.these c.walk.ensures
          (sym c.in-Err-naming.ensures) refl c.path_at.ensures.bytes_kept;
      made = took.made;
    }

pub returns-in-Ok-naming-clause-does : goal.returns-in-Ok-naming-clause-does
returns-in-Ok-naming-clause-does g c =
    let memory = g.M.Memory in
    let took = c.in-Ok.ensures.taken in
    let kept = c.path_at.ensures in
    later memory.reads memory.writes
    (λ w b xs. PutsBytes w b (memory.bytes c.put_told.new.memory) c.args.address (told_bytes c.args.form c.in-Ok-naming.status) xs
    c.put_told.result)
    (memory.writable c.args.memory.now) (memory.writable c.path_at.new.memory)
    (memory.bytes c.args.memory.now) (memory.bytes c.path_at.new.memory) took.accesses
    kept.writable_kept kept.bytes_kept
    (λ xs put. IsToldByName _ c.walk.result c.walk.new.folder c.in-Ok-naming.status took.accesses xs took.these
    c.walk.ensures (sym c.in-Ok-naming.ensures) refl put refl)
    took.made c.put_told.ensures.put
