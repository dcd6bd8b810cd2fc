-- What holds of each event of a connection and the end before it, where it holds of the events that come while no message waits, of takes
-- while one does, and of all replies.
use Rattle.loop_model.specs.Ends.{ModelEnd, model_ends}
use Rattle.std.proofs.Common.{◌≡◌, ℕ, zero, suc, ◌+◌, ◌≤◌, max, inl, inr, true, ◌||◌, List, [], ◌∷◌, ◌++◌, length, length-drop, drop, Option, Some, None, refl, sym, ◌∙◌, ap, subst, append_assoc, arith}
use Rattle.std.specs.Prelude.{nat_lt, ◌==◌}
use Rattle.std.proofs.lemmas.Bool.{cases_Bool}
use Rattle.er_settings.specs.Values.{Settings}
use Rattle.er_settings.specs.Ranges.{AllAllowed}
use Rattle.safety_automaton.specs.Keys.{key_at}
use Rattle.er_end_model.specs.Steps.{Finds}
use Rattle.er_end_model.specs.Ends.{End as Ended_at}
use Rattle.er_trace.specs.declared.event.Event.{Event}
use Rattle.er_trace.specs.declared.event.Event.TheVariants as event
use Rattle.er_users.specs.Users.{Mind, Heard, Said, said}
use Rattle.rand_core.specs.Stream.{next_u64}
use Rattle.trace_model.specs.Connections.{end_behind_call, happens, end_at}
use Rattle.link_trait.specs.Wires.{Call, Reading, Gave, NotNow, End, Failed}
use Rattle.loop_model.specs.Journals.{JournalEntry, trace_lines_of}
use Rattle.loop_model.specs.Outs.{Out, part_for_each_answer, exactly, first_answer_of}
use Rattle.loop_model.specs.Sessions.{Rules, Session, GivenToSession, Begins, Hears, Sends, Takes, Leaves, Ticks, Ends, Faults, Stalls, journal_event_of_given, most_output, end_after, outcomes_of_given_event, entry_of, octets_in, breaks, joined, fed, replied, heard_by_user, leave_of, sends_of, user_after_hearing, silent_answer, dealt, count_waiting_in_session, takes_all, Says, nothing_said, handled, poured, pours}
use Rattle.loop_model.specs.Visits.{came}
use Rattle.loop_model.specs.Loops.{Plan, rules_of, Loop, Caller, calling, Course, Turn, run, Dialled, dials, begun_dial}
use Rattle.loop_model.specs.Parts.{session_of_connection, of, calls_at}
use Rattle.loop_model.specs.Laws.{IsServing, IsDialling}
use Rattle.loop_model.specs.Walks.{EachAt}
use Rattle.loop_model.specs.Takings.{count_waiting_at_end}
use Rattle.loop_model.proofs.EndKeepings.{waiting_in, waits_move, octets_bring, steps_alike, made_stands}
use Rattle.loop_model.proofs.Steadies.{Calls, AllLeft, all_left_of}
use Rattle.loop_model.proofs.Lives.{Own, Keeps, Fits, Knows, knows_run}
use Rattle.loop_model.proofs.Dialling.{knows_dial_of}
use Rattle.loop_model.proofs.Orders.{own_calls}
use Rattle.loop_model.proofs.Owns.{Both, calls_both}
use Rattle.loop_model.proofs.Resting.{parts_end, dealt_take, handled_none}
use Rattle.loop_model.proofs.Printings.{behind, behind-append, IsOfEnd, at_own}

-- events that come from outside of a session
abbrev pub IsFromOutside : GivenToSession → Type 0
IsFromOutside (Begins engine rbc rb) = ⊥
IsFromOutside (Hears octets) = Unit {0}
IsFromOutside (Sends text) = ⊥
IsFromOutside Takes = ⊥
IsFromOutside (Leaves sub) = ⊥
IsFromOutside Ticks = Unit {0}
IsFromOutside Ends = Unit {0}
IsFromOutside Faults = Unit {0}
IsFromOutside Stalls = ⊥

of_end : (g : GivenToSession) → IsFromOutside g → IsOfEnd g
of_end (Begins engine rbc rb) p = absurd p
of_end (Hears octets) p = tt
of_end (Sends text) p = absurd p
of_end Takes p = absurd p
of_end (Leaves sub) p = absurd p
of_end Ticks p = tt
of_end Ends p = tt
of_end Faults p = tt
of_end Stalls p = absurd p

-- where something holds
pub record Fitting (P : Option Ended_at → Event → Type 0) : Type 0 where
  pub sends : (m : Option Ended_at) (text : List ℕ) → P m (event.Send text)
  pub leaves : (m : Option Ended_at) (sub : ℕ) → P m (event.Release sub)
  pub stalls : (m : Option Ended_at) → P m event.Stalled
  pub takes : (k : ModelEnd) → 1 ≤ model_ends.waiting k → P (Some k) event.Take
  pub comes : (k : ModelEnd) (g : GivenToSession) → IsFromOutside g → model_ends.waiting k ≡ 0 → P (Some k) (journal_event_of_given model_ends k g)
  pub call : (engine rbc rb : ℕ) → P None (event.Call engine rbc rb)
  pub answer : (rbc ra : ℕ) → P None (event.Answer rbc ra)
  pub full : (count : ℕ) → P None (event.Full count)
  pub unserved : (count : ℕ) → P None (event.Unserved count)

each-append : (settings : Settings) (finds : Finds) (P : Option Ended_at → Event → Type 0) (m : Option Ended_at) (xs ys : List JournalEntry)
    → EachAt settings finds P m xs → EachAt settings finds P (behind settings finds m xs) ys → EachAt settings finds P m (xs ++ ys)
unfolding behind
each-append settings finds P m [] ys p q = q
each-append settings finds P m (x ∷ xs) ys p q = (p.0, each-append settings finds P (happens settings finds x.moment x.event m).0 xs ys p.1 q)

module _ (P : Option Ended_at → Event → Type 0) (fitting : Fitting P) (plan : Plan) where
  abbrev r : Rules
  r = rules_of plan

  abbrev Each : Option Ended_at → List JournalEntry → Type 0
  Each m xs = EachAt plan.settings (key_at plan.keys) P m xs

  abbrev Behind : Option Ended_at → List JournalEntry → Option Ended_at
  Behind m xs = behind plan.settings (key_at plan.keys) m xs

  -- events lead from an end to another, and it holds of each
  record Placed (k : Option Ended_at) (l : ModelEnd) (xs : List JournalEntry) : Type 0 where
    each : Each k xs
    is : Behind k xs ≡ Some l

  placed_none : (k l : ModelEnd) → l ≡ k → Placed (Some k) l []
  unfolding behind
  placed_none k l e = record { each = tt; is = ap Some (sym e) }

  placed_then : (j : Option Ended_at) (k l : ModelEnd) (xs ys : List JournalEntry) → Placed j k xs → Placed (Some k) l ys → Placed j l (xs ++ ys)
  placed_then j k l xs ys p q = record {
    each = each-append plan.settings (key_at plan.keys) P j xs ys p.each (subst (λ z. Each z ys) (sym p.is) q.each);
    is = behind-append plan.settings (key_at plan.keys) j xs ys ∙ ap (λ z. Behind z ys) p.is ∙ q.is;
  }

  leads : (now : ℕ) (k : ModelEnd) (g : GivenToSession) → IsOfEnd g
      → (happens plan.settings (key_at plan.keys) now (journal_event_of_given model_ends k g) (Some k)).0 ≡ Some (end_after model_ends r now k g)
  unfolding end_after
  leads now k (Begins engine rbc rb) p = absurd p
  leads now k (Hears octets) p = refl
  leads now k (Sends text) p = refl
  leads now k Takes p = refl
  leads now k (Leaves sub) p = refl
  leads now k Ticks p = refl
  leads now k Ends p = refl
  leads now k Faults p = refl
  leads now k Stalls p = refl

  placed_one : (m : ℕ) (s : Session ModelEnd) (g : GivenToSession) → IsOfEnd g → P (Some s.end) (journal_event_of_given model_ends s.end g)
      → Placed (Some s.end) (end_after model_ends r m s.end g) (entry_of model_ends r m s g ∷ [])
  unfolding behind
  placed_one m s g p fits = record { each = (fits, tt); is = leads m s.end g p }

  -- behind the event, the stall
  placed_joined : (m : ℕ) (s : Session ModelEnd) (octets : List ℕ) → Placed (Some s.end) (joined model_ends r m s octets).0.end (joined model_ends r m s octets).1
  unfolding joined
  placed_joined m s octets =
      elim (cases_Bool (nat_lt most_output (length s.output + length octets))) [
        | inl p ↦ rw p (placed_one m s Stalls tt (fitting.stalls (Some s.end)))
        | inr p ↦ rw p (placed_none s.end s.end refl)
      ]

  abbrev fresh : ℕ → Session ModelEnd → GivenToSession → Session ModelEnd
  fresh m s g = record s { end = end_after model_ends r m s.end g; broken = s.broken || breaks g }

  placed_fed : (m : ℕ) (s : Session ModelEnd) (g : GivenToSession) → IsOfEnd g → P (Some s.end) (journal_event_of_given model_ends s.end g)
      → Placed (Some s.end) (fed model_ends r m s g).0.end (fed model_ends r m s g).1
  unfolding fed
  placed_fed m s g p fits =
      let octets = octets_in (outcomes_of_given_event model_ends r m s.end g) in
      let t = fresh m s g in
      placed_then (Some s.end) t.end (joined model_ends r m t octets).0.end (entry_of model_ends r m s g ∷ []) (joined model_ends r m t octets).1
      (placed_one m s g p fits) (placed_joined m t octets)

  -- ---- what follows an event

  placed_sends : (m : ℕ) (s : Session ModelEnd) (texts : List (List ℕ)) (leave : Option ℕ)
      → Placed (Some s.end) (part_for_each_answer (replied model_ends r m) s (sends_of texts ++ leave_of leave)).0.end (part_for_each_answer (replied model_ends r m) s (sends_of texts ++ leave_of leave)).1
  unfolding part_for_each_answer
  placed_sends m s [] None = placed_none s.end s.end refl
  placed_sends m s [] (Some sub) =
      let a = fed model_ends r m s (Leaves sub) in
      placed_then (Some s.end) a.0.end a.0.end a.1 [] (placed_fed m s (Leaves sub) tt (fitting.leaves (Some s.end) sub)) (placed_none a.0.end a.0.end refl)
  placed_sends m s (text ∷ texts) leave =
      let a = replied model_ends r m s (Sends text) in
      let b = part_for_each_answer (replied model_ends r m) a.0 (sends_of texts ++ leave_of leave) in
      placed_then (Some s.end) a.0.end b.0.end a.1 b.1 (placed_fed m s (Sends text) tt (fitting.sends (Some s.end) text)) (placed_sends m a.0 texts leave)

  placed_replies : (m : ℕ) (s : Session ModelEnd) (mind : Option Mind) (heard : Option Heard) (free : Said)
      → Placed (Some s.end) (part_for_each_answer (replied model_ends r m) s (user_after_hearing mind heard free).1).0.end (part_for_each_answer (replied model_ends r m) s (user_after_hearing mind heard free).1).1
  unfolding part_for_each_answer
  placed_replies m s None heard free = placed_none s.end s.end refl
  placed_replies m s (Some mind) None free = placed_none s.end s.end refl
  placed_replies m s (Some mind) (Some heard) free = let a = said mind.kind mind heard free in placed_sends m s a.texts a.leave

  record Rest (k l : ModelEnd) (first xs : List JournalEntry) : Type 0 where
    rest : List JournalEntry
    is : xs ≡ first ++ rest
    placed : Placed (Some k) l rest

  dealt_rest : (m : ℕ) (s : Session ModelEnd) (g : GivenToSession) (free : Said)
      → Rest (fed model_ends r m s g).0.end (dealt model_ends r m s g free).0.end (fed model_ends r m s g).1 (dealt model_ends r m s g free).1
  unfolding dealt
  dealt_rest m s g free =
      let a = fed model_ends r m s g in
      let heard = heard_by_user (outcomes_of_given_event model_ends r m s.end g) in
      let t : Session ModelEnd = record a.0 { mind = (user_after_hearing s.mind heard free).0 } in
      record { rest = (part_for_each_answer (replied model_ends r m) t (user_after_hearing s.mind heard free).1).1; is = refl; placed = placed_replies m t s.mind heard free }

  placed_dealt : (m : ℕ) (s : Session ModelEnd) (g : GivenToSession) (free : Said) → IsOfEnd g → P (Some s.end) (journal_event_of_given model_ends s.end g)
      → Placed (Some s.end) (dealt model_ends r m s g free).0.end (dealt model_ends r m s g free).1
  placed_dealt m s g free p fits =
      let a = fed model_ends r m s g in
      let d = dealt_rest m s g free in
      subst (λ z. Placed (Some s.end) (dealt model_ends r m s g free).0.end z) (sym d.is)
      (placed_then (Some s.end) a.0.end (dealt model_ends r m s g free).0.end a.1 d.rest (placed_fed m s g p fits) d.placed)

  one_waits : (k : ModelEnd) (n : ℕ) → length (waiting_in k) ≡ suc n → 1 ≤ model_ends.waiting k
  one_waits k n e =
      let h : length (waiting_in k) ≡ model_ends.waiting k = length-drop k.core.upper.used k.core.upper.accepted in
      let g : model_ends.waiting k ≡ suc n = sym h ∙ e in
      subst (λ z. 1 ≤ z) (sym g) (omega arith)

  one_less : (ms : List (List ℕ)) (n : ℕ) → length ms ≡ suc n → length (drop 1 ms) ≡ n
  one_less [] n e = absurd (omega arith)
  one_less (m ∷ ms) n e = omega arith

  placed_all : (m n : ℕ) (frees : List Said) (s : Session ModelEnd) → length (waiting_in s.end) ≡ n
      → Placed (Some s.end) (part_for_each_answer (λ t free. dealt model_ends r m t Takes free) s (exactly n silent_answer frees)).0.end
      (part_for_each_answer (λ t free. dealt model_ends r m t Takes free) s (exactly n silent_answer frees)).1
  unfolding part_for_each_answer exactly
  placed_all m zero frees s e = placed_none s.end s.end refl
  placed_all m (suc n) [] s e =
      let a = dealt model_ends r m s Takes silent_answer in
      let b = part_for_each_answer (λ t free. dealt model_ends r m t Takes free) a.0 (exactly n silent_answer []) in
      placed_then (Some s.end) a.0.end b.0.end a.1 b.1 (placed_dealt m s Takes silent_answer tt (fitting.takes s.end (one_waits s.end n e)))
      (placed_all m n [] a.0 (ap length (dealt_take waits_move octets_bring r m s silent_answer) ∙ one_less (waiting_in s.end) n e))
  placed_all m (suc n) (free ∷ frees) s e =
      let a = dealt model_ends r m s Takes free in
      let b = part_for_each_answer (λ t free. dealt model_ends r m t Takes free) a.0 (exactly n silent_answer frees) in
      placed_then (Some s.end) a.0.end b.0.end a.1 b.1 (placed_dealt m s Takes free tt (fitting.takes s.end (one_waits s.end n e)))
      (placed_all m n frees a.0 (ap length (dealt_take waits_move octets_bring r m s free) ∙ one_less (waiting_in s.end) n e))

  placed_takes : (m : ℕ) (s : Session ModelEnd) (frees : List Said)
      → Placed (Some s.end) (takes_all model_ends r m s frees).0.end (takes_all model_ends r m s frees).1
  unfolding takes_all
  placed_takes m s frees = placed_all m (count_waiting_in_session model_ends s) frees s (length-drop s.end.core.upper.used s.end.core.upper.accepted)

  handled_rest : (m : ℕ) (s : Session ModelEnd) (g : GivenToSession) (says : Says)
      → Rest (fed model_ends r m s g).0.end (handled model_ends r m s g says).0.end (fed model_ends r m s g).1 (handled model_ends r m s g says).1
  unfolding handled
  handled_rest m s g says =
      let a = dealt model_ends r m s g says.first in
      let b = takes_all model_ends r m a.0 says.rest in
      let d = dealt_rest m s g says.first in
      let e = parts_end b.0.end.core.released b.0.mind (m + r.setup) b.0 in
      record {
        rest = d.rest ++ b.1;
        is = ap (λ z. z ++ b.1) d.is ∙ append_assoc (fed model_ends r m s g).1 d.rest b.1;
        placed =
            subst (λ z. Placed (Some (fed model_ends r m s g).0.end) z (d.rest ++ b.1)) (sym e)
            (placed_then (Some (fed model_ends r m s g).0.end) a.0.end b.0.end d.rest b.1 d.placed (placed_takes m a.0 says.rest));
      }

  placed_handled : (m : ℕ) (s : Session ModelEnd) (g : GivenToSession) (says : Says) → IsOfEnd g → P (Some s.end) (journal_event_of_given model_ends s.end g)
      → Placed (Some s.end) (handled model_ends r m s g says).0.end (handled model_ends r m s g says).1
  placed_handled m s g says p fits =
      let a = fed model_ends r m s g in
      let d = handled_rest m s g says in
      subst (λ z. Placed (Some s.end) (handled model_ends r m s g says).0.end z) (sym d.is)
      (placed_then (Some s.end) a.0.end (handled model_ends r m s g says).0.end a.1 d.rest (placed_fed m s g p fits) d.placed)

  -- ---- visits

  none_waits : (k : ModelEnd) → waiting_in k ≡ [] → model_ends.waiting k ≡ 0
  none_waits k e = sym (length-drop k.core.upper.used k.core.upper.accepted) ∙ ap length e

  record Ran (s t : Session ModelEnd) (xs : List JournalEntry) : Type 0 where
    placed : Placed (Some s.end) t.end xs
    none : waiting_in t.end ≡ []

  Goes : Session ModelEnd → Session ModelEnd → List JournalEntry → List Call → Type 0
  Goes s t xs cs = waiting_in s.end ≡ [] → Ran s t xs

  goes_same : (s t : Session ModelEnd) (cs : List Call) → t.end ≡ s.end → Goes s t [] cs
  unfolding Goes
  goes_same s t cs e none = record { placed = placed_none s.end t.end e; none = ap waiting_in e ∙ none }

  goes_then : (s t u : Session ModelEnd) (xs ys : List JournalEntry) (cs ds : List Call) → Goes s t xs cs → Goes t u ys ds → Goes s u (xs ++ ys) (cs ++ ds)
  unfolding Goes
  goes_then s t u xs ys cs ds p q none =
      let a = p none in
      let b = q a.none in
      record { placed = placed_then (Some s.end) t.end u.end xs ys a.placed b.placed; none = b.none }

  goes_handled : (m : ℕ) (s : Session ModelEnd) (g : GivenToSession) (says : Says) (cs : List Call) → IsFromOutside g
      → Goes s (handled model_ends r m s g says).0 (handled model_ends r m s g says).1 cs
  unfolding Goes
  goes_handled m s g says cs p none = record {
    placed = placed_handled m s g says (of_end g p) (fitting.comes s.end g p (none_waits s.end none));
    none = handled_none waits_move octets_bring r m s g says;
  }

  goes_poured : (m : ℕ) (x : Session ModelEnd × List ℕ) (says : Says) → Goes x.0 (poured model_ends r m x says).0.0 (poured model_ends r m x says).1 []
  unfolding poured
  goes_poured m x says =
      elim (cases_Bool ((length x.1 == 0) || x.0.broken)) [
        | inl p ↦ rw p (goes_same x.0 x.0 [] refl)
        | inr p ↦ rw p (goes_handled m x.0 (Hears x.1) says [] tt)
      ]

  goes_all : (m : ℕ) (says : List Says) (x : Session ModelEnd × List ℕ) → Goes x.0 (part_for_each_answer (poured model_ends r m) x says).0.0 (part_for_each_answer (poured model_ends r m) x says).1 []
  unfolding part_for_each_answer
  goes_all m [] x = goes_same x.0 x.0 [] refl
  goes_all m (a ∷ says) x =
      let b = poured model_ends r m x a in
      let d = part_for_each_answer (poured model_ends r m) b.0 says in
      goes_then x.0 b.0.0 d.0.0 b.1 d.1 [] [] (goes_poured m x a) (goes_all m says b.0)

  goes_pours : (m : ℕ) (s : Session ModelEnd) (octets : List ℕ) (says : List Says) (cs : List Call)
      → Goes s (pours model_ends r m s octets says).0 (pours model_ends r m s octets says).1 cs
  unfolding pours Goes
  goes_pours m s octets says cs none = goes_all m (exactly (length octets) nothing_said says) (s, octets) none

  goes_came : (m : ℕ) (s : Session ModelEnd) (reading : Reading) (says : List Says) (cs : List Call)
      → Goes s (came model_ends reading r m s says).0 (came model_ends reading r m s says).1 cs
  goes_came m s (Gave octets) says cs = goes_pours m s octets says cs
  goes_came m s NotNow says cs = goes_same s s cs refl
  goes_came m s End says cs = goes_handled m s Ends (first_answer_of nothing_said says) cs tt
  goes_came m s Failed says cs = goes_handled m s Faults (first_answer_of nothing_said says) cs tt

  goes_calls : Calls r Goes
  goes_calls = record {
    quiet = record {
      none = λ s. goes_same s s [] refl;
      then_ = goes_then;
      wrote = λ s n whole. goes_same s (record s { output = drop n s.output }) _ refl;
      put_off = λ s. goes_same s s _ refl;
      noted = λ s. goes_same s _ [] refl;
      failed = λ m s says live. goes_handled m s Faults says _ tt;
      failed_released = λ s gone. goes_same s (record s { broken = true }) _ refl;
      ticked = λ m s says due. goes_handled m s Ticks says [] tt;
    };
    read = λ m s a live. goes_came m s a.reading a.says _;
  }

  -- ---- all connections

  abbrev Q : Session ModelEnd → Session ModelEnd → List JournalEntry → List Call → Type 0
  Q = Both Own Goes

  q_calls : AllLeft r Q
  q_calls = all_left_of r Q (calls_both r Own Goes (own_calls r) goes_calls)

  own : (s t : Session ModelEnd) (xs : List JournalEntry) (cs : List Call) → Q s t xs cs → Own s t xs cs
  own s t xs cs p = p.0

  record Known (s : Session ModelEnd) (xs : List JournalEntry) (cs : List Call) : Type 0 where
    placed : Placed None s.end xs
    none : waiting_in s.end ≡ []

  record Gone (xs : List JournalEntry) (cs : List Call) : Type 0 where
    each : Each None xs
    none : count_waiting_at_end (Behind None xs) ≡ 0

  known_more : (s t : Session ModelEnd) (xs ys : List JournalEntry) (cs ds : List Call) → Known s xs cs → Q s t ys ds → Known t (xs ++ ys) (cs ++ ds)
  unfolding Goes
  known_more s t xs ys cs ds h q =
      let a = q.1 h.none in
      record { placed = placed_then None s.end t.end xs ys h.placed a.placed; none = a.none }

  known_gone : (s : Session ModelEnd) (xs : List JournalEntry) (cs ds : List Call) → Known s xs cs → Gone xs ds
  known_gone s xs cs ds h = record { each = h.placed.each; none = ap count_waiting_at_end h.placed.is ∙ none_waits s.end h.none }

  keeps : Keeps plan Q Known Gone
  unfolding behind
  keeps = record {
    visit = λ s t xs ys cs ds h q. known_more s t xs ys cs ds h q;
    close = λ s t xs ys cs ds over h q. known_gone t (xs ++ ys) (cs ++ ds) _ (known_more s t xs ys cs ds h q);
    open_ = λ l conn mind. record { placed = record { each = (fitting.answer plan.rbc (next_u64 l.words).0, tt); is = refl }; none = refl };
    never = record { each = tt; none = refl };
    full = λ m conn live most. record { each = (fitting.full live, tt); none = refl };
    unserved = λ m conn handed. record { each = (fitting.unserved handed, tt); none = refl };
  }

  -- ---- the session that a dial opens

  abbrev begins : Caller → Loop ModelEnd → GivenToSession
  begins caller l = Begins caller.engine plan.rbc (next_u64 l.words).0

  first_one : (caller : Caller) (l : Loop ModelEnd) (conn : ℕ) (mind : Mind) → key_at plan.keys l.moment caller.engine plan.rbc ≡ Some caller.kmac
      → Placed None (end_after model_ends r l.moment (calling model_ends plan caller l) (begins caller l))
      (entry_of model_ends r l.moment (begun_dial conn (calling model_ends plan caller l) mind) (begins caller l) ∷ [])
  unfolding behind end_after
  first_one caller l conn mind key =
      let word = (next_u64 l.words).0 in
      record {
        each = (fitting.call caller.engine plan.rbc word, tt);
        is = ap (λ z. (end_behind_call plan.settings l.moment caller.engine plan.rbc word z None).0) key;
      }

  first_fed : (caller : Caller) (l : Loop ModelEnd) (conn : ℕ) (mind : Mind) → key_at plan.keys l.moment caller.engine plan.rbc ≡ Some caller.kmac
      → Placed None (fed model_ends r l.moment (begun_dial conn (calling model_ends plan caller l) mind) (begins caller l)).0.end
      (fed model_ends r l.moment (begun_dial conn (calling model_ends plan caller l) mind) (begins caller l)).1
  unfolding fed
  first_fed caller l conn mind key =
      let m = l.moment in
      let g = begins caller l in
      let s = begun_dial conn (calling model_ends plan caller l) mind in
      let octets = octets_in (outcomes_of_given_event model_ends r m s.end g) in
      let t = fresh m s g in
      placed_then None t.end (joined model_ends r m t octets).0.end (entry_of model_ends r m s g ∷ []) (joined model_ends r m t octets).1
      (first_one caller l conn mind key) (placed_joined m t octets)

  first : (caller : Caller) (at : ℕ) → key_at plan.keys at caller.engine plan.rbc ≡ Some caller.kmac
      → (l : Loop ModelEnd) (conn : ℕ) (mind : Mind) (says : Says) → l.moment ≡ at
      → Known (handled model_ends r l.moment (begun_dial conn (calling model_ends plan caller l) mind) (begins caller l) says).0
      (handled model_ends r l.moment (begun_dial conn (calling model_ends plan caller l) mind) (begins caller l) says).1 []
  first caller at key l conn mind says now =
      let m = l.moment in
      let g = begins caller l in
      let s = begun_dial conn (calling model_ends plan caller l) mind in
      let a = fed model_ends r m s g in
      let h = handled model_ends r m s g says in
      let d = handled_rest m s g says in
      record {
        placed =
            subst (λ z. Placed None h.0.end z) (sym d.is)
            (placed_then None a.0.end h.0.end a.1 d.rest
            (first_fed caller l conn mind (subst (λ z. key_at plan.keys z caller.engine plan.rbc ≡ Some caller.kmac) (sym now) key)) d.placed);
        none = handled_none waits_move octets_bring r m s g says;
      }

  -- ---- both loops

  gone_in : (s : Option (Session ModelEnd)) (conn : ℕ) (xs : List JournalEntry) (cs : List Call) → Fits plan Q q_calls own Known Gone keeps s conn xs cs → Gone xs cs
  unfolding Fits
  gone_in None conn xs cs h = h
  gone_in (Some s) conn xs cs h = known_gone s xs cs cs h.1

  -- it holds of each event of each connection, and no message waits behind the last
  pub record Walked (o : Out (Course ModelEnd)) : Type 0 where
    pub each : (conn : ℕ) → EachAt plan.settings (key_at plan.keys) P None (of conn o.entries)
    pub none : (conn : ℕ) → count_waiting_at_end (end_at plan.settings (key_at plan.keys) conn (trace_lines_of o.entries)) ≡ 0
    pub ends : (conn : ℕ) (s : Session ModelEnd) → session_of_connection conn o.state.loop.sessions ≡ Some s
        → end_at plan.settings (key_at plan.keys) conn (trace_lines_of o.entries) ≡ Some s.end

  led : (found : Option (Session ModelEnd)) (conn : ℕ) (xs : List JournalEntry) (cs : List Call) (s : Session ModelEnd) → found ≡ Some s
      → Fits plan Q q_calls own Known Gone keeps found conn xs cs → Behind None xs ≡ Some s.end
  unfolding Fits
  led None conn xs cs s e h = absurd (let x : ⊥ = cc in x)
  led (Some t) conn xs cs s e h = h.1.placed.is ∙ ap (λ z. Some z.end) (some_same t s e)
    where
      some_same : (t s : Session ModelEnd) → Some t ≡ Some s → t ≡ s
      some_same t s e = cc

  walked : (o : Out (Course ModelEnd)) → AllAllowed plan.settings → Knows plan Q q_calls own Known Gone keeps o.entries o.calls o.state.loop.sessions → Walked o
  walked o allowed k = record {
    each = λ conn. (gone_in (session_of_connection conn o.state.loop.sessions) conn (of conn o.entries) (calls_at conn o.calls) (k.fits conn)).each;
    none = λ conn.
        ap count_waiting_at_end (at_own steps_alike made_stands plan allowed conn None o.entries)
        ∙ (gone_in (session_of_connection conn o.state.loop.sessions) conn (of conn o.entries) (calls_at conn o.calls) (k.fits conn)).none;
    ends = λ conn s e.
        at_own steps_alike made_stands plan allowed conn None o.entries
        ∙ led (session_of_connection conn o.state.loop.sessions) conn (of conn o.entries) (calls_at conn o.calls) s e (k.fits conn);
  }

  pub walked_serving : (c : Course ModelEnd) (turns : List Turn) → IsServing plan c turns → Walked (run model_ends plan c turns)
  walked_serving c turns h = walked (run model_ends plan c turns) h.allowed (knows_run plan Q q_calls own Known Gone keeps c turns h.none h.rises)

  pub walked_dialling : (caller : Caller) (c : Course ModelEnd) (address : List ℕ) (a : Dialled) → IsDialling plan caller c address a
      → Walked (dials model_ends plan caller c address a)
  walked_dialling caller c address a h =
      walked (dials model_ends plan caller c address a) h.allowed
      (knows_dial_of plan caller Q q_calls own Known Gone keeps (max c.loop.moment a.first) (first caller (max c.loop.moment a.first) h.key) c address a h.none refl h.rises)
