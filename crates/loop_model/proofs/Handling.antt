-- Each happening is handled in its turn.
use Rattle.loop_model.specs.Ends.{ModelEnd, model_ends}
use Rattle.std.proofs.Common.{◌≡◌, ℕ, inl, inr, Bool, true, false, List, [], ◌∷◌, ◌++◌, length, Option, Some, None, refl, sym, ◌∙◌, ap, append-nil, append_assoc}
use Rattle.std.specs.Prelude.{◌==◌, nat_lt}
use Rattle.std.proofs.lemmas.Bool.{cases_Bool}
use Rattle.trace_model.specs.Checks.{most_live}
use Rattle.er_users.specs.Users.{Mind}
use Rattle.link_trait.specs.Wires.{Call, Reading, Turns, Reads, Closes}
use Rattle.link_trait.specs.declared.wires.Happening.{Happening}
use Rattle.link_trait.specs.declared.wires.Happening.TheVariants as happening
use Rattle.loop_model.specs.Journals.{JournalEntry}
use Rattle.loop_model.specs.Outs.{Out, acts}
use Rattle.loop_model.specs.Sessions.{Rules, Session}
use Rattle.loop_model.specs.Visits.{most_read, Met, Visit, Read, Write, visited}
use Rattle.loop_model.specs.Loops.{Plan, rules_of, Loop, visit_at, until, next_user, answered_by, accepted, happened, Halt, Course, asks, Turn, readied, went, run}
use Rattle.loop_model.specs.Laws.{happenings_in_call, turns_of}
use Rattle.loop_model.specs.Openings.{openings_unless, event_of_accepted_connection}
use Rattle.loop_model.specs.Handled.{happenings_of, turns_to_do, behind_turns, AskedInOrder, IsHandled, HappeningsAreHandled}
use Rattle.loop_model.proofs.Steadies.{Steady, Calls, Left, Stays, Closed, left_visited}
use Rattle.loop_model.proofs.Owns.{Bare, usual_calls}
use Rattle.loop_model.proofs.Givings.{all_given}
use Rattle.loop_model.proofs.Opening.{openings_are_told}
use Rattle.loop_model.proofs.Recording.{halts_rest}
use Rattle.loop_model.proofs.Visitings.{turns_visit}
use Rattle.loop_model.proofs.Rounds.{went_goes, went_halted, acts_halted}

turns_of-append : (cs ds : List Call) → turns_of (cs ++ ds) ≡ turns_of cs ++ turns_of ds
unfolding turns_of
turns_of-append [] ds = refl
turns_of-append (call ∷ cs) ds = ap (λ z. happenings_in_call call ++ z) (turns_of-append cs ds) ∙ sym (append_assoc (happenings_in_call call) (turns_of cs) (turns_of ds))

-- ---- a visit asks for none

NoTurn : Session ModelEnd → Session ModelEnd → List JournalEntry → List Call → Type 0
NoTurn s t xs cs = turns_of cs ≡ []

steady : (r : Rules) → Steady r (λ g. Unit {0}) NoTurn
unfolding NoTurn turns_of
steady r = record {
  none = λ s. refl;
  then_ = λ s t u xs ys cs ds p q. turns_of-append cs ds ∙ ap (λ z. z ++ turns_of ds) p ∙ q;
  given = λ m s g allowed fits. refl;
  stalls = λ m s g allowed fits. refl;
  heard = λ s mind. refl;
  parts = λ s told at gone. refl;
}

bare : Bare NoTurn
unfolding NoTurn turns_of
bare = record { wrote = λ s n whole. refl; put_off = λ s. refl; failed = λ s. refl; breaks = λ s gone. refl; noted = λ s. refl }

read_no_turn : (s : Session ModelEnd) (waits : ℕ) (reading : Reading) → NoTurn s s [] (Reads s.number most_read waits reading ∷ [])
unfolding NoTurn turns_of
read_no_turn s waits reading = refl

calls : (r : Rules) → Calls r NoTurn
calls r = usual_calls r (λ g. Unit {0}) NoTurn (steady r) all_given bare read_no_turn

left_none : (s : Session ModelEnd) (ts : List (Session ModelEnd)) (xs : List JournalEntry) (cs : List Call) → Left NoTurn s ts xs cs → turns_of cs ≡ []
unfolding NoTurn turns_of
left_none s ts xs cs (Stays t p q) = q
left_none s ts xs cs (Closed t ds over p e q) = ap turns_of e ∙ turns_of-append ds (Closes t.number ∷ []) ∙ append-nil (turns_of ds) ∙ q

visit_none : (r : Rules) (m : ℕ) (visit : Visit) (n : ℕ) (ss : List (Session ModelEnd)) (a : Met) → turns_of (visit_at (visited model_ends r m visit) n ss a).calls ≡ []
unfolding visit_at turns_of
visit_none r m visit n [] a = refl
visit_none r m visit n (s ∷ ss) a =
    elim (cases_Bool (s.number == n)) [
      | inl p ↦ rw p (left_none s _ _ _ (left_visited r NoTurn (calls r) visit m s a))
      | inr p ↦ rw p (visit_none r m visit n ss a)
    ]

answered_none : (user : Option Mind) (memory : Bool) (plan : Plan) (l : Loop ModelEnd) (conn : ℕ) → turns_of (answered_by model_ends user memory plan l conn).calls ≡ []
unfolding turns_of
answered_none None memory plan l conn = refl
answered_none (Some mind) true plan l conn = refl
answered_none (Some mind) false plan l conn = refl

happened_none : (plan : Plan) (l : Loop ModelEnd) (what : Happening) (a : Met) → turns_of (happened model_ends plan l what a).calls ≡ []
unfolding happened accepted turns_of
happened_none plan l (happening.Accepted conn) a =
    elim (cases_Bool (nat_lt (length l.sessions) most_live)) [ inl p ↦ rw p (answered_none (next_user l.users) a.memory plan l conn.0) | inr p ↦ rw p refl ]
happened_none plan l (happening.Readable conn) a = visit_none (rules_of plan) l.moment Read conn.0 l.sessions a
happened_none plan l (happening.Writable conn) a = visit_none (rules_of plan) l.moment Write conn.0 l.sessions a
happened_none plan l happening.Quiet a = refl
happened_none plan l happening.Ended a = refl
happened_none plan l happening.Failed a = refl

-- ---- a turn asks for one, unless the loop halts

data Asked (a : Turn) (o : Out (Course ModelEnd)) : Type 0 where
  Rests : (halt : Halt) → o.state.halt ≡ Some halt → turns_of o.calls ≡ [] → Asked a o
  Asks : turns_of o.calls ≡ a.happening ∷ [] → Asked a o

one_asked : (plan : Plan) (c : Course ModelEnd) (a : Turn) → c.halt ≡ None → (readied model_ends plan c a).state.halt ≡ None
    → turns_of (went model_ends plan c a).calls ≡ a.happening ∷ []
unfolding turns_of
one_asked plan c a going on =
    let d = readied model_ends plan c a in
    let h = happened model_ends plan (asks a.second d.state).loop a.happening a.met in
    ap (λ (z : Out (Course ModelEnd)). turns_of z.calls) (went_goes plan c a going on)
    ∙ turns_of-append d.calls (Turns (until model_ends d.state.loop.sessions) a.happening ∷ h.calls)
    ∙ ap (λ z. z ++ (a.happening ∷ turns_of h.calls)) (halts_rest.none plan c a)
    ∙ ap (λ z. a.happening ∷ z) (happened_none plan (asks a.second d.state).loop a.happening a.met)

asked_behind : (halt : Option Halt) (plan : Plan) (c : Course ModelEnd) (a : Turn) → c.halt ≡ None → (readied model_ends plan c a).state.halt ≡ halt → Asked a (went model_ends plan c a)
asked_behind (Some halt) plan c a going is =
    let e = halts_rest.turn plan c a halt going is in
    Rests halt (ap (λ (z : Out (Course ModelEnd)). z.state.halt) e ∙ is) (ap (λ (z : Out (Course ModelEnd)). turns_of z.calls) e ∙ halts_rest.none plan c a)
asked_behind None plan c a going is = Asks (one_asked plan c a going is)

asked_from : (halt : Option Halt) (plan : Plan) (c : Course ModelEnd) (a : Turn) → c.halt ≡ halt → Asked a (went model_ends plan c a)
unfolding turns_of
asked_from (Some halt) plan c a is =
    let e = went_halted plan c a halt is in
    Rests halt (ap (λ (z : Out (Course ModelEnd)). z.state.halt) e ∙ is) (ap (λ (z : Out (Course ModelEnd)). turns_of z.calls) e)
asked_from None plan c a is = asked_behind (readied model_ends plan c a).state.halt plan c a is refl

no_none : (halt : Halt) (o : Option Halt) → o ≡ Some halt → o ≡ None → ⊥
no_none halt o p q = let e : Some halt ≡ None = sym p ∙ q in cc

-- what is asked for behind a turn
asked_on : (plan : Plan) (a : Turn) (turns : List Turn) (o : Out (Course ModelEnd)) → Asked a o
    → AskedInOrder (acts (went model_ends plan) o.state turns) (happenings_of turns)
    → AskedInOrder (record { state = (acts (went model_ends plan) o.state turns).state; entries = o.entries ++ (acts (went model_ends plan) o.state turns).entries; calls = o.calls ++ (acts (went model_ends plan) o.state turns).calls; order = o.order ++ (acts (went model_ends plan) o.state turns).order })
    (a.happening ∷ happenings_of turns)
unfolding turns_of
asked_on plan a turns o (Rests halt is none) behind =
    let rest = acts (went model_ends plan) o.state turns in
    let e = acts_halted plan turns o.state halt is in
    record {
      rest = a.happening ∷ happenings_of turns;
      is =
          ap (λ z. z ++ (a.happening ∷ happenings_of turns))
          (turns_of-append o.calls rest.calls ∙ ap (λ z. z ++ turns_of rest.calls) none ∙ ap (λ (z : Out (Course ModelEnd)). turns_of z.calls) e);
      all = λ p. absurd (no_none halt rest.state.halt (ap (λ (z : Out (Course ModelEnd)). z.state.halt) e ∙ is) p);
    }
asked_on plan a turns o (Asks one) behind =
    let rest = acts (went model_ends plan) o.state turns in
    record {
      rest = behind.rest;
      is =
          ap (λ z. z ++ behind.rest) (turns_of-append o.calls rest.calls ∙ ap (λ z. z ++ turns_of rest.calls) one)
          ∙ ap (λ z. a.happening ∷ z) behind.is;
      all = behind.all;
    }

asked_in_order : (plan : Plan) (turns : List Turn) (c : Course ModelEnd) → AskedInOrder (acts (went model_ends plan) c turns) (happenings_of turns)
unfolding acts turns_of
asked_in_order plan [] c = record { rest = []; is = refl; all = λ p. refl }
asked_in_order plan (a ∷ turns) c =
    let o = went model_ends plan c a in asked_on plan a turns o (asked_from c.halt plan c a refl) (asked_in_order plan turns o.state)

-- ---- one behind others

order-append : (plan : Plan) (before turns : List Turn) (c : Course ModelEnd)
    → (acts (went model_ends plan) c (before ++ turns)).order
    ≡ (acts (went model_ends plan) c before).order ++ (acts (went model_ends plan) (acts (went model_ends plan) c before).state turns).order
unfolding acts
order-append plan [] turns c = refl
order-append plan (a ∷ before) turns c =
    let o = went model_ends plan c a in
    let mid = acts (went model_ends plan) o.state before in
    ap (λ z. o.order ++ z) (order-append plan before turns o.state) ∙ sym (append_assoc o.order mid.order (acts (went model_ends plan) mid.state turns).order)

is_handled : (plan : Plan) (c : Course ModelEnd) (turns before : List Turn) (a : Turn) (rest : List Turn) → turns_to_do plan turns ≡ before ++ a ∷ rest
    → (behind_turns plan c before).state.halt ≡ None → (readied model_ends plan (behind_turns plan c before).state a).state.halt ≡ None
    → IsHandled plan c before a rest (run model_ends plan c turns)
unfolding run acts
is_handled plan c turns before a rest split going on =
    let now = behind_turns plan c before in
    let asked = asked_in_order plan before c in
    record {
      next = sym (append-nil (turns_of now.calls)) ∙ ap (λ z. turns_of now.calls ++ z) (sym (asked.all going)) ∙ asked.is;
      visited = turns_visit.behind plan now.state a going on;
      opened =
          openings_are_told.events plan now.state a going
          ∙ ap (λ (z : Option Halt). openings_unless z a.happening (event_of_accepted_connection plan (readied model_ends plan now.state a).state.loop a.met.memory)) on;
      between = ap (λ (z : List Turn). (acts (went model_ends plan) c z).order) split ∙ order-append plan before (a ∷ rest) c;
    }

pub happenings_are_handled : HappeningsAreHandled
unfolding run
happenings_are_handled = record { asked = λ plan c turns. asked_in_order plan (turns_to_do plan turns) c; each = is_handled }
