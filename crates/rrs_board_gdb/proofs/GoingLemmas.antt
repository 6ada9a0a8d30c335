-- Steps of a board under gdb, one after another.
use Rattle.std.proofs.Common.{◌≡◌, ℕ, zero, suc, ◌+◌, ◌≤◌, List, [], ◌++◌, Contains, Option, None, Result, Ok, Err, IfOk, refl, sym, subst, ap, ◌∙◌, arith, append-nil, append_assoc}
use Rattle.std.specs.declared.alloc.AllocError.{AllocError}
use Rattle.rrs_machine.specs.declared.machine.MachineAnswer.{MachineAnswer}
use Rattle.rrs_board.specs.declared.board.Board.{Board}
use Rattle.rrs_board.specs.declared.effects.BoardEvent.{BoardEvent}
use Rattle.rrs_board.specs.Boards.{BoardStepped}
use Rattle.rrs_gdb.specs.declared.link.Link.{Link}
use Rattle.rrs_gdb.specs.Shown.{Prints}
use Rattle.rrs_gdb.proofs.OutputLemmas.{prints_both}
use Rattle.rrs_board_gdb.specs.declared.going.GoReason.{GoReason}
use Rattle.rrs_board_gdb.specs.declared.going.GoReason.TheVariants as Reason
use Rattle.rrs_board_gdb.specs.Going.{Debugged, printed_by, ending, Serves, ServedStep, PassingSteps, EndsBy, GoesTo}

-- a step of the board, and what it tells is served
pub served_step : (d t : Debugged) (after : Board) (answer : MachineAnswer) (event : Option BoardEvent)
    (r : Result (Option BoardEvent) AllocError)
    → BoardStepped d.board after answer event
    → IfOk r (λ left. Serves event d.input after left t)
    → IfOk r (λ left. ServedStep d left t)
served_step d t after answer event (Ok left) stepped serves = record {
  after = after;
  answer = answer;
  event = event;
  stepped = stepped;
  serves = serves;
}
served_step d t after answer event (Err error) stepped serves = tt

-- a step that leads to an end, after some that do not
pub ends_at : (stops : List ℕ) (limit n steps : ℕ) (d m t : Debugged) (before printed : List ℕ)
    (event : Option BoardEvent) (reason : GoReason)
    → PassingSteps stops n d before m → ServedStep m event t → EndsBy stops event t reason
    → steps ≡ suc n → steps ≤ limit → printed ≡ before ++ printed_by event
    → GoesTo stops limit d steps reason printed t
ends_at stops limit n steps d m t before printed event Reason.Limit passing last ends counted within prints =
    absurd ends
ends_at stops limit n steps d m t before printed event Reason.AtStop passing last ends counted within prints =
    record {
      quiet = n;
      mid = m;
      before = before;
      event = event;
      passing = passing;
      last = last;
      ends = ends;
      counted = counted;
      within = within;
      prints = prints;
    }
ends_at stops limit n steps d m t before printed event (Reason.Finished status) passing last ends counted within prints =
    record {
      quiet = n;
      mid = m;
      before = before;
      event = event;
      passing = passing;
      last = last;
      ends = ends;
      counted = counted;
      within = within;
      prints = prints;
    }
ends_at stops limit n steps d m t before printed event (Reason.Stuck signal) passing last ends counted within prints =
    record {
      quiet = n;
      mid = m;
      before = before;
      event = event;
      passing = passing;
      last = last;
      ends = ends;
      counted = counted;
      within = within;
      prints = prints;
    }

-- the same, with the output so far
pub go_ends : (stops : List ℕ) (limit n steps : ℕ) (d m t : Debugged) (first mid last : List ℕ)
    (event : Option BoardEvent) (reason : GoReason)
    → ((printed : List ℕ) × (mid ≡ first ++ printed) × PassingSteps stops n d printed m)
    → ServedStep m event t → last ≡ mid ++ printed_by event → EndsBy stops event t reason
    → steps ≡ suc n → steps ≤ limit
    → (printed : List ℕ) × (last ≡ first ++ printed) × GoesTo stops limit d steps reason printed t
go_ends stops limit n steps d m t first mid last event reason (printed, out, passing) step told ends counted within = (
  printed ++ printed_by event,
  told ∙ ap (λ (xs : List ℕ). xs ++ printed_by event) out ∙ append_assoc first printed (printed_by event),
  ends_at stops limit n steps d m t printed (printed ++ printed_by event) event reason passing step ends counted within refl,
)

-- a step that leads to no end
pub go_passes : (stops : List ℕ) (n steps : ℕ) (d m t : Debugged) (first mid last : List ℕ)
    (event : Option BoardEvent)
    → ((printed : List ℕ) × (mid ≡ first ++ printed) × PassingSteps stops n d printed m)
    → ServedStep m event t → last ≡ mid ++ printed_by event
    → (ending event ≡ None) × (Contains stops t.board.hart.pc → ⊥) → steps ≡ suc n
    → (printed : List ℕ) × (last ≡ first ++ printed) × PassingSteps stops steps d printed t
go_passes stops n steps d m t first mid last event (printed, out, passing) step told (none, no_stop) counted = (
  printed ++ printed_by event,
  told ∙ ap (λ (xs : List ℕ). xs ++ printed_by event) out ∙ append_assoc first printed (printed_by event),
  subst (λ (k : ℕ). PassingSteps stops k d (printed ++ printed_by event) t) (sym counted)
      (m, printed, event, passing, step, none, no_stop, refl),
)

-- steps, and then others
joined : (stops : List ℕ) (a b : ℕ) (d m t : Debugged) (p q : List ℕ)
    → PassingSteps stops a d p m → PassingSteps stops b m q t
    → PassingSteps stops (b + a) d (p ++ q) t
joined stops a zero d m t p q first (same, none) =
    let sum : a ≡ 0 + a = omega arith in
    subst (λ (k : ℕ). PassingSteps stops k d (p ++ q) t) sum
    (subst (λ (x : Debugged). PassingSteps stops a d (p ++ q) x) (sym same)
    (subst (λ (xs : List ℕ). PassingSteps stops a d xs m)
    (sym (ap (λ (xs : List ℕ). p ++ xs) none ∙ append-nil p)) first))
joined stops a (suc b) d m t p q first (u, before, event, passing, step, none, no_stop, prints) =
    let sum : suc (b + a) ≡ suc b + a = omega arith in
    subst (λ (k : ℕ). PassingSteps stops k d (p ++ q) t) sum (
      u,
      p ++ before,
      event,
      joined stops a b d m u p before first passing,
      step,
      none,
      no_stop,
      ap (λ (xs : List ℕ). p ++ xs) prints ∙ sym (append_assoc p before (printed_by event)),
    )

-- a leg that ends at its limit
pub leg_made : (stops : List ℕ) (a b leg : ℕ) (d m t : Debugged) (p q : List ℕ) (reason : GoReason)
    → reason ≡ Reason.Limit → PassingSteps stops a d p m → GoesTo stops leg m b reason q t
    → (b ≡ leg) × PassingSteps stops (a + b) d (p ++ q) t
leg_made stops a b leg d m t p q reason is first goes =
    let made : (b ≡ leg) × PassingSteps stops b m q t =
    subst (λ (r : GoReason). GoesTo stops leg m b r q t) is goes in
    let sum : b + a ≡ a + b = omega arith in (
      made.0,
      subst (λ (n : ℕ). PassingSteps stops n d (p ++ q) t) sum (joined stops a b d m t p q first made.1),
    )

-- a leg that leads to another end
pub leg_ends : (stops : List ℕ) (limit a b leg : ℕ) (d m t : Debugged) (p q : List ℕ) (reason : GoReason)
    → (reason ≡ Reason.Limit → ⊥) → a + leg ≤ limit
    → PassingSteps stops a d p m → GoesTo stops leg m b reason q t
    → GoesTo stops limit d (a + b) reason (p ++ q) t
leg_ends stops limit a b leg d m t p q Reason.Limit other within first goes = absurd (other refl)
leg_ends stops limit a b leg d m t p q Reason.AtStop other within first goes = record {
  quiet = goes.quiet + a;
  mid = goes.mid;
  before = p ++ goes.before;
  event = goes.event;
  passing = joined stops a goes.quiet d m goes.mid p goes.before first goes.passing;
  last = goes.last;
  ends = goes.ends;
  counted = omega (arith, goes.counted);
  within = omega (arith, goes.within);
  prints = ap (λ (xs : List ℕ). p ++ xs) goes.prints ∙ sym (append_assoc p goes.before (printed_by goes.event));
}
leg_ends stops limit a b leg d m t p q (Reason.Finished status) other within first goes = record {
  quiet = goes.quiet + a;
  mid = goes.mid;
  before = p ++ goes.before;
  event = goes.event;
  passing = joined stops a goes.quiet d m goes.mid p goes.before first goes.passing;
  last = goes.last;
  ends = goes.ends;
  counted = omega (arith, goes.counted);
  within = omega (arith, goes.within);
  prints = ap (λ (xs : List ℕ). p ++ xs) goes.prints ∙ sym (append_assoc p goes.before (printed_by goes.event));
}
leg_ends stops limit a b leg d m t p q (Reason.Stuck signal) other within first goes = record {
  quiet = goes.quiet + a;
  mid = goes.mid;
  before = p ++ goes.before;
  event = goes.event;
  passing = joined stops a goes.quiet d m goes.mid p goes.before first goes.passing;
  last = goes.last;
  ends = goes.ends;
  counted = omega (arith, goes.counted);
  within = omega (arith, goes.within);
  prints = ap (λ (xs : List ℕ). p ++ xs) goes.prints ∙ sym (append_assoc p goes.before (printed_by goes.event));
}

-- ---- legs with what they print, all of which is sent

pub leg_passes : {R W : Type 0} (contents : W → Option (List ℕ)) (stops : List ℕ) (a b leg : ℕ) (d m t : Debugged)
    (first held out : List ℕ) (reason : GoReason) (l k n : Link R W) → reason ≡ Reason.Limit
    → ((p : List ℕ) × PassingSteps stops a d p m × Prints contents l k (first ++ p)) → held ≡ []
    → ((q : List ℕ) × (out ≡ held ++ q) × GoesTo stops leg m b reason q t) → Prints contents k n out
    → (r : List ℕ) × PassingSteps stops (a + b) d r t × Prints contents l n (first ++ r)
leg_passes contents stops a b leg d m t first held out reason l k n is (p, passed, sent) none (q, made, goes) more = (
  p ++ q,
  (leg_made stops a b leg d m t p q reason is passed goes).1,
  subst (λ (xs : List ℕ). Prints contents l n xs) (append_assoc first p q)
      (prints_both contents l k n (first ++ p) q sent
      (subst (λ (xs : List ℕ). Prints contents k n xs) (made ∙ ap (λ (xs : List ℕ). xs ++ q) none) more)),
)

pub leg_leads : {R W : Type 0} (contents : W → Option (List ℕ)) (stops : List ℕ) (limit a b leg : ℕ)
    (d m t : Debugged) (first held out : List ℕ) (reason : GoReason) (l k n : Link R W)
    → (reason ≡ Reason.Limit → ⊥) → a + leg ≤ limit
    → ((p : List ℕ) × PassingSteps stops a d p m × Prints contents l k (first ++ p)) → held ≡ []
    → ((q : List ℕ) × (out ≡ held ++ q) × GoesTo stops leg m b reason q t) → Prints contents k n out
    → (r : List ℕ) × GoesTo stops limit d (a + b) reason r t × Prints contents l n (first ++ r)
leg_leads contents stops limit a b leg d m t first held out reason l k n other within (p, passed, sent) none
    (q, made, goes) more = (
      p ++ q,
      leg_ends stops limit a b leg d m t p q reason other within passed goes,
      subst (λ (xs : List ℕ). Prints contents l n xs) (append_assoc first p q)
          (prints_both contents l k n (first ++ p) q sent
          (subst (λ (xs : List ℕ). Prints contents k n xs) (made ∙ ap (λ (xs : List ℕ). xs ++ q) none) more)),
    )
