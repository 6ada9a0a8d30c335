-- The parts that are gone so far led from each state to one from which the others lead on.
use Rattle.std.proofs.Common.{◌≡◌, length}
use Rattle.rrs_lib.specs.Machine.{State}
use Rattle.rrs_history.specs.Histories.{changes, room, past}
use Rattle.rrs_history.proofs.history.History.forget_latest.Given as goal

abbrev pub invariant-parts : goal.invariant-parts
invariant-parts l = record {
  leads : (t : State) → (u : State) × (past (changes l.initial.self) t ≡ past (changes l.self) u);
  room_kept : room l.self ≡ room l.initial.self;
}

abbrev pub decreases-parts : goal.decreases-parts
decreases-parts l = length (changes l.self)
