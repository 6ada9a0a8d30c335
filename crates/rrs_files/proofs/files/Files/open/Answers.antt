use Rattle.std.proofs.Common.{◌&&◌, refl, sym, ap, ◌∙◌}
use Rattle.rrs_files.specs.Acts.{IsRefused, HasFailed, IsOpened, opening}
use Rattle.rrs_files.specs.Requests.{changes}
use Rattle.rrs_files.proofs.files.Files.open.Goals as goal

pub returns-in-Some-opening : goal.returns-in-Some-opening
returns-in-Some-opening g c =
    let how = c.how_of-how.ensures in
    let only = c.args.self.now.is_read_only in
    IsRefused c.walk.result c.walk.new.folder (sym c.not_served.ensures ∙ c.if-not_served.false)
    (ap (λ h. only && changes h) (sym how) ∙ sym c.is_kept_out.ensures ∙ c.if-is_kept_out.false) c.walk.ensures
    (ap (opening c.walk.result) (sym how) ∙ sym c.in-Some-opening.ensures) refl

pub returns-in-Some-open : goal.returns-in-Some-open
returns-in-Some-open g c =
    let how = c.how_of-how.ensures in
    let only = c.args.self.now.is_read_only in
    HasFailed c.walk.result c.in-Some.place c.in-Some-free_file.at c.walk.new.folder c.open.new.self
    (sym c.not_served.ensures ∙ c.if-not_served.false)
    (ap (λ h. only && changes h) (sym how) ∙ sym c.is_kept_out.ensures ∙ c.if-is_kept_out.false) c.in-Some.ensures
    c.in-Some-free_file.ensures c.walk.ensures (ap (opening c.walk.result) (sym how) ∙ sym c.in-None-opening.ensures)
    (rw how at c.in-Some-open.ensures) refl

pub returns-in-None-open : goal.returns-in-None-open
returns-in-None-open g c =
    let how = c.how_of-how.ensures in
    let only = c.args.self.now.is_read_only in
    IsOpened c.walk.result c.in-Some.place c.in-Some-free_file.at c.walk.new.folder c.open.new.self
    (sym c.not_served.ensures ∙ c.if-not_served.false)
    (ap (λ h. only && changes h) (sym how) ∙ sym c.is_kept_out.ensures ∙ c.if-is_kept_out.false) c.in-Some.ensures
    c.in-Some-free_file.ensures c.walk.ensures (ap (opening c.walk.result) (sym how) ∙ sym c.in-None-opening.ensures)
    (rw how at c.in-None-open.ensures)
    (λ i. record c.args.self.now {
      folder = c.open.new.self;
      descriptors = record { targets = c.take.ensures.taken i; flags = c.take.ensures.noted i };
    })
    refl
