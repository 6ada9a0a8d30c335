-- What clauses read of a heap over a room.
use Rattle.std.specs.Prelude.{◌≡◌, ℕ, ◌*◌, ◌/◌, ◌^◌, ◌<◌, ◌≤◌, ◌⊎◌}
use Rattle.rrs_lent.specs.Ownership.{Place}
use Rattle.rrs_lent.specs.Rooms.{place_of}
use Rattle.rrs_lent.specs.declared.room.Room.{Room}
use Rattle.rrs_lent.specs.declared.lent_heap.LentHeap.{LentHeap}

-- where the room of a heap lies
abbrev pub heap_place : LentHeap → Place
heap_place h = h.slot

-- the room that came back is the one that was lent, or it is empty
abbrev pub IsBack : Place → Place → Type 0
IsBack lent back = (back ≡ lent) ⊎ (back.1 ≡ 0)

-- room is the room at r, which has a unit, n bytes, and the alignment a
abbrev pub Grants : Place → ℕ → ℕ → Room → Type 0
Grants r n a room =
    (place_of room ≡ r) × (n ≤ r.1 / 16 * 16) × (0 < r.1 / 16) × (n < 2 ^ 63) × (a ≤ 16)
