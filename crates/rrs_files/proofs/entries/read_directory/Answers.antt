use Rattle.std.proofs.Common.{◌≡◌, min, refl, sym, ◌∙◌}
use Rattle.rrs_files.specs.Entries.{HasNoKind, IsNoDirectory, HasNoPosition, IsListed}
use Rattle.rrs_files.proofs.entries.read_directory.Goals as goal

pub returns-in-Err : goal.returns-in-Err
returns-in-Err g c = HasNoKind c.in-Err.error c.in-Err.ensures c.requires.empty refl

pub returns-then-kind_of-ne-IS_DIRECTORY : goal.returns-then-kind_of-ne-IS_DIRECTORY
returns-then-kind_of-ne-IS_DIRECTORY g c =
    IsNoDirectory c.in-Ok.status c.in-Ok.ensures
    (λ is. c.if-kind_of-ne-IS_DIRECTORY.true (c.kind_of.ensures ∙ is)) c.requires.empty refl

pub returns-in-Err-seek : goal.returns-in-Err-seek
returns-in-Err-seek g c =
    HasNoPosition c.in-Ok.status c.status.new.self c.in-Err-seek.error c.in-Ok.ensures
    (sym c.kind_of.ensures ∙ c.if-kind_of-ne-IS_DIRECTORY.false) c.in-Err-seek.ensures
    c.requires.empty refl

pub returns-in-Ok-seek : goal.returns-in-Ok-seek
returns-in-Ok-seek g c =
    let most : c.min-most.result ≡ min c.args.count 65536 = c.min-most.ensures in
    IsListed c.in-Ok.status c.status.new.self c.seek.new.self c.in-Ok-seek.position c.in-Ok.ensures
    (sym c.kind_of.ensures ∙ c.if-kind_of-ne-IS_DIRECTORY.false) c.in-Ok-seek.ensures
    (rw most at c.list_entries.ensures)
