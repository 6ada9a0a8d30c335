-- What clauses read of a room.
use Rattle.std.specs.Prelude.{◌≡◌, ℕ, Option, IfSome}
use base.Fml.{Fml, ftrue, fex}
use Rattle.rrs_lent.specs.Ownership.{Place}
use Rattle.rrs_lent.specs.declared.room.Room.{Room}

-- where a room lies
abbrev pub place_of : Room → Place
place_of r = (r.start, r.size)

-- its bytes
abbrev pub room_size : Room → ℕ
room_size r = r.size

-- if there is a room, it lies there
abbrev pub LiesAt : Place → Option Room → Type 0
LiesAt p room = IfSome room (λ r. place_of r ≡ p)

-- the same, as a formula
abbrev pub lies_there : Place → Option Room → Fml
lies_there p room = fex (LiesAt p room) (λ _. ftrue)
