-- What a room owns, and the right to give its block back.
use Rattle.std.specs.Prelude.{◌≡◌, ℕ, zero, suc, ◌/◌}
use mir.Syntax.{Ty, w128, ty_int, ty_array}
use base.Fml.{Fml, ftrue, fex, fwand}
use denote.RawPtr.{Ptr, room_for}

-- a pointer, and a count of bytes from there on
abbrev pub Place : Type 0
Place = Ptr × ℕ

-- k units of 16 bytes, which are aligned to 16
abbrev pub units : ℕ → Ty
units k = ty_array (ty_int w128) k

-- room for k units at p, and nothing where k is 0
abbrev pub units_at : ℕ → Ptr → Fml
units_at zero p = ftrue
units_at (suc k) p = room_for (units (suc k)) p

-- the whole units of a place
abbrev pub room_owns : Place → Fml
room_owns r = units_at (r.1 / 16) r.0

-- the right to give the block for a τ at p back to a heap over r: p is where r begins,
-- and with room for the τ there, r is whole
abbrev pub block_token : Place → Ty → Ptr → Fml
block_token r τ p = fex (p ≡ r.0) (λ _. fwand (room_for τ p) (room_owns r))
