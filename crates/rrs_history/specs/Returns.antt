-- Of the code: steps that were made from a state, and are taken back.
use Rattle.std.specs.Prelude.{◌≡◌, ℕ, List, ◌++◌, All, length, take, true}
use Rattle.rrs_lib.specs.Machine.{State}
use Rattle.rrs_history.specs.declared.change.Change.{Change}
use Rattle.rrs_history.specs.declared.history.History.{History}
use Rattle.rrs_history.specs.Histories.{changes, room, all_undone}

-- the same but for the last written register
pub record IsBack (s t : State) : Type 0 where
  pub registers : t.registers ≡ s.registers
  pub pc : t.pc ≡ s.pc
  pub bytes : t.bytes ≡ s.bytes
  pub writable : t.writable ≡ s.writable

-- From s so many steps were made to t, or to a state that differs from t by the last written
-- register, and the history keeps their changes as far as it has room.
pub record WentAhead (steps : ℕ) (old : History) (s : State) (new : History) (t : State)
    : Type 0 where
  pub cs : List Change
  pub count : length cs ≡ steps
  pub kept : changes new ≡ take (room old) (cs ++ changes old)
  pub begin : All (λ (c : Change). c.starts ≡ true) cs
  pub back : IsBack s (all_undone cs t)
  pub room_kept : room new ≡ room old
