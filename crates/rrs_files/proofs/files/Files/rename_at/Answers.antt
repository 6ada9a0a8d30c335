use Rattle.std.proofs.Common.{Ok, Err, take, refl, ◌∙◌}
use Rattle.rrs_files.specs.Calls.{AreDone, FirstIsRefused, SecondIsRefused, TakesPath}
use Rattle.rrs_files.proofs.Buffers.{later}
use Rattle.rrs_files.proofs.files.Files.rename_at.Goals as goal

pub returns-in-Err-clause-does : goal.returns-in-Err-clause-does
returns-in-Err-clause-does g c =
    let took = c.in-Err.ensures.refused in
    record {
      accesses = took.accesses;
      these = FirstIsRefused took.these refl c.path_at.ensures.bytes_kept;
      made = took.made;
    }

pub returns-in-Err-path_at-clause-does : goal.returns-in-Err-path_at-clause-does
returns-in-Err-path_at-clause-does g c =
    let memory = g.M.Memory in
    let took = c.in-Ok.ensures.taken in
    let kept = c.path_at.ensures in
    later memory.reads memory.writes
    (λ w b xs. TakesPath b c.args.self.now.descriptors c.args.new_beside c.args.new_path
    (Err c.in-Err-path_at.error) xs)
    (memory.writable c.args.memory.now) (memory.writable c.path_at.new.memory)
    (memory.bytes c.args.memory.now) (memory.bytes c.path_at.new.memory) took.accesses
    kept.writable_kept kept.bytes_kept
    (λ xs refused. SecondIsRefused _ took.accesses xs took.these refused refl refl
    (c.path_at-2.ensures.bytes_kept ∙ kept.bytes_kept))
    took.made c.in-Err-path_at.ensures.refused

pub returns-in-Ok-path_at-clause-does : goal.returns-in-Ok-path_at-clause-does
returns-in-Ok-path_at-clause-does g c =
    let memory = g.M.Memory in
    let took = c.in-Ok.ensures.taken in
    let kept = c.path_at.ensures in
    later memory.reads memory.writes
    (λ w b xs. TakesPath b c.args.self.now.descriptors c.args.new_beside c.args.new_path
    (Ok (take c.in-Ok-path_at.new_size c.path_at-2.new.text)) xs)
    (memory.writable c.args.memory.now) (memory.writable c.path_at.new.memory)
    (memory.bytes c.args.memory.now) (memory.bytes c.path_at.new.memory) took.accesses
    kept.writable_kept kept.bytes_kept
    (λ xs taken. AreDone _ _ took.accesses xs took.these taken refl c.rename.ensures
    (c.path_at-2.ensures.bytes_kept ∙ kept.bytes_kept))
    took.made c.in-Ok-path_at.ensures.taken
