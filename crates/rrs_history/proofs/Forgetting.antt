-- A step that raised an exception is forgotten: the history leads back to where it led before.
use Rattle.std.proofs.Common.{◌≡◌, ℕ, List, ◌∷◌, ◌++◌, inl, inr, true, sym, subst, ap, ◌∙◌}
use Rattle.rrs_lib.specs.Machine.{State}
use Rattle.rrs_history.specs.declared.change.Change.{Change}
use Rattle.rrs_history.specs.declared.history.History.{History}
use Rattle.rrs_history.specs.Histories.{changes, room, past, ForgetsOne}
use Rattle.rrs_history.specs.Calls.{RemembersCall, StillLeads}

pub still_leads : (h h' h'' : History) (s u : State) (n : ℕ) → RemembersCall true h s h' u n
    → ForgetsOne (changes h') u (changes h'') → room h'' ≡ room h' → StillLeads h s h'' n
still_leads h h' h'' s u n remembers (inl (v, leads)) same_room =
    let all : s ∷ past (changes h) s ≡ v ∷ (past (changes h'') v ++ remembers.forgotten) =
    remembers.leads_back ∙ ap (λ (xs : List State). xs ++ remembers.forgotten) leads in
    let there : v ≡ s = cc all in
    let later : past (changes h) s ≡ past (changes h'') v ++ remembers.forgotten = cc all in
    record {
      forgotten = remembers.forgotten;
      leads_back = subst (λ (x : State). past (changes h) s ≡ past (changes h'') x ++ remembers.forgotten) there later;
      none_with_room = remembers.none_with_room;
      room_kept = same_room ∙ remembers.room_kept;
    }
still_leads h h' h'' s u n remembers (inr (none, empty)) same_room =
    let all : s ∷ past (changes h) s ≡ remembers.forgotten =
    remembers.leads_back ∙ ap (λ (xs : List State). xs ++ remembers.forgotten) none in
    record {
      forgotten = past (changes h) s;
      leads_back = sym (ap (λ (cs : List Change). past cs s ++ past (changes h) s) empty);
      none_with_room = λ there. absurd (cc (all, remembers.none_with_room there));
      room_kept = same_room ∙ remembers.room_kept;
    }
