use Rattle.std.proofs.Common.{refl}
use Rattle.rrs_files.specs.Acts.{IsClosedNow, WasStream}
use Rattle.rrs_files.proofs.files.Files.close.Goals as goal

pub returns-in-File : goal.returns-in-File
returns-in-File g c =
    IsClosedNow c.in-File.at (record c.args.self.now { descriptors = c.free.new.self })
    (rw c.in-File.is at c.in-Some.ensures)
    (λ i. record c.args.self.now { descriptors = record { targets = c.free.ensures.freed i; flags = c.free.ensures.flags_kept i } })
    c.leave.ensures refl

pub returns-in-Stream : goal.returns-in-Stream
returns-in-Stream g c =
    WasStream c.in-Stream.field-0 (rw c.in-Stream.is at c.in-Some.ensures)
    (λ i. record c.args.self.now { descriptors = record { targets = c.free.ensures.freed i; flags = c.free.ensures.flags_kept i } })
    refl
