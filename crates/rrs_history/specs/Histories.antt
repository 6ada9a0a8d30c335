-- The states that a history leads back to. A step goes from one state to one other (RISC-V
-- unprivileged specification, RV32I, "Programmers' Model"), so the states before it are a list.
use Rattle.std.specs.Prelude.{◌≡◌, ℕ, ◌<◌, ◌≤◌, ◌⊎◌, if◌then◌else◌, Bool, List, [], ◌∷◌, ◌++◌, All, length, take, true, false}
use Rattle.rrs_lib.specs.Machine.{State}
use Rattle.rrs_lib.specs.Accesses.{Access}
use Rattle.rrs_history.specs.declared.change.Change.{Change}
use Rattle.rrs_history.specs.declared.history.History.{History}
use Rattle.rrs_history.specs.Changes.{undone, accesses_back}

-- the changes that a history keeps, newest first, and how many it may keep
abbrev pub changes : History → List Change
changes h = h.ring.items

abbrev pub room : History → ℕ
room h = h.ring.capacity

-- The states that changes lead back to, newest first, each from the one that follows it: those in
-- which a step or a call began.
abbrev pub past : List Change → State → List State
past [] t = []
past (c ∷ cs) t =
    if c.starts then undone c t ∷ past cs (undone c t) else past cs (undone c t)

-- whether each of these states began a call, and no step
abbrev pub of_calls : List Change → List Bool
of_calls [] = []
of_calls (c ∷ cs) = if c.starts then c.of_call ∷ of_calls cs else of_calls cs

-- The history tells of steps and calls, newest first, which are calls. The oldest may be forgotten.
pub record Tells (are_calls : List Bool) (h : History) : Type 0 where
  pub untold : List Bool
  pub told : are_calls ≡ of_calls (changes h) ++ untold

-- A step or a call led from s to t, and the history keeps it: the change that leads from t to s is
-- its latest one, before those that it kept, as many as it has room for. So it leads back to s, and
-- from there to where it led before. The oldest state may be forgotten, if there was no room.
pub record Remembers (old : History) (s : State) (new : History) (t : State) : Type 0 where
  pub latest : Change
  pub begins : latest.starts ≡ true
  pub undoes : undone latest t ≡ s
  pub kept : changes new ≡ take (room old) (latest ∷ changes old)
  pub forgotten : List State
  pub leads_back : s ∷ past (changes old) s ≡ past (changes new) t ++ forgotten
  pub at_most_one : length forgotten ≤ 1
  pub none_with_room : length (changes old) < room old → forgotten ≡ []
  pub room_kept : room new ≡ room old

-- Of changes the latest step or call is forgotten: they led to a state, and these lead on from
-- there; or they led to none, and all are gone.
abbrev pub ForgetsOne : List Change → State → List Change → Type 0
ForgetsOne old t new =
    ((s : State) × (past old t ≡ s ∷ past new s)) ⊎ ((past old t ≡ []) × (new ≡ []))

-- changes taken back, one after the other, newest first, and the accesses of that
abbrev pub all_undone : List Change → State → State
all_undone [] t = t
all_undone (c ∷ cs) t = all_undone cs (undone c t)

abbrev pub all_accesses : List Change → State → List Access
all_accesses [] t = []
all_accesses (c ∷ cs) t = accesses_back c t ++ all_accesses cs (undone c t)

-- From s to t the latest step or call is taken back, by these accesses: the parts that came after
-- the change with which it began, the latest first, and that change.
pub record TakesBack (old : List Change) (first : Change) (new : List Change)
    (s t : State) (accesses : List Access) : Type 0 where
  pub parts : List Change
  pub are : old ≡ parts ++ first ∷ new
  pub begins : first.starts ≡ true
  pub go_on : All (λ (c : Change). c.starts ≡ false) parts
  pub leads : t ≡ all_undone (parts ++ first ∷ []) s
  pub accessed : accesses ≡ all_accesses (parts ++ first ∷ []) s
