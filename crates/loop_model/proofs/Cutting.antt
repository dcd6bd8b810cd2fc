-- The octets of a read are cut behind each frame that they close, and nowhere else.
use Rattle.trace_model.specs.Checks.{most_live}
use Rattle.loop_model.specs.Ends.{ModelEnd, model_ends, octet_count_used_by_end}
use Rattle.std.proofs.Common.{if◌then◌else◌, ◌≡◌, ℕ, ◌+◌, ◌<◌, ◌≤◌, max, inl, inr, Bool, true, false, ◌||◌, List, [], ◌∷◌, ◌++◌, length, take, drop, Option, Some, None, refl, sym, ◌∙◌, ap, subst, append-nil, arith, true≢false, eqb-true, eq-eqb, ne_eqb}
use Rattle.std.specs.Prelude.{◌==◌, nat_lt}
use Rattle.std.proofs.lemmas.Bool.{cases_Bool}
use Rattle.std.proofs.lemmas.List.{drop_all}
use Rattle.safety_automaton.specs.Keys.{key_at}
use Rattle.er_end_model.specs.Ends.{End as Ended_at}
use Rattle.er_trace.specs.declared.event.Event.{Event}
use Rattle.er_trace.specs.declared.event.Event.TheVariants as event
use Rattle.er_users.specs.Users.{Mind}
use Rattle.rand_core.specs.Stream.{next_u64}
use Rattle.trace_model.specs.Connections.{happens}
use Rattle.link_trait.specs.Wires.{Call, Reading, Gave, NotNow, End, Failed, Reads}
use Rattle.link_trait.specs.declared.wires.Happening.{Happening}
use Rattle.link_trait.specs.declared.wires.Happening.TheVariants as happening
use Rattle.loop_model.specs.Journals.{JournalEntry}
use Rattle.loop_model.specs.Outs.{Out, part_for_each_answer, exactly, first_answer_of}
use Rattle.loop_model.specs.Sessions.{Rules, Session, GivenToSession, Begins, Hears, Sends, Takes, Leaves, Ticks, Ends, Faults, Stalls, journal_event_of_given as written_as, is_released, most_output, end_after, outcomes_of_given_event, entry_of, octets_in, breaks, joined, fed, Says, nothing_said, handled, poured, pours, made}
use Rattle.loop_model.specs.Visits.{most_read, Met, nothing_met, Wrote, Visit, Tick, Read, Write, Expire, came, rests, rests_behind, read_once, visited}
use Rattle.loop_model.specs.Loops.{Plan, rules_of, Loop, visit_at, numbers, swept, Sweeps, before, next_user, answered_by, accepted, happened, Caller, calling, Halt, Course, asks, Turn, readied, turned_unless, went_unless, went, run, Dialled, dials, begun_dial}
use Rattle.loop_model.specs.Parts.{session_of_connection, of, calls_at, Rises}
use Rattle.loop_model.specs.Cuts.{IsCut, EventsAreCut, is_left_over, is_octets, has_octets_event, LeftOverIsLast, end_of, TurnsCut, EndAtStall, AreDropped, RestsAreDropped}
use Rattle.loop_model.specs.Laws.{IsServing, IsDialling}
use Rattle.loop_model.specs.Points.{is_stalled, has_stalled}
use Rattle.loop_model.proofs.Projections.{of-append}
use Rattle.loop_model.proofs.Steadies.{Steady, Usual, Quiet, quiet_at, steady_handled, follows_handled, Calls, AllLeft, all_left_of, Left, Stays, Closed, left_rests_at, left_tick_at, left_write_at, left_expire_at}
use Rattle.loop_model.proofs.Lives.{Own, Keeps, Fits, Knows, knows_run, Apart, LeftAt, Moved, Absent, Found, moved, own_left}
use Rattle.loop_model.proofs.Dialling.{knows_dial_of}
use Rattle.loop_model.proofs.Orders.{own_calls}
use Rattle.loop_model.proofs.Owns.{Bare, Both, calls_both, usual_calls}
use Rattle.loop_model.proofs.Printings.{behind, behind-append, IsOfEnd, all_of_end}
use Rattle.loop_model.proofs.Replaying.{ArePlain, plain_visit}
use Rattle.loop_model.proofs.Walking.{walked_serving, walked_dialling}
use Rattle.loop_model.proofs.UsedOctets.{none_follow, fitting}

-- ---- events without octets

none_over : (m : Option Ended_at) (e : Event) → is_octets e ≡ false → is_left_over m e ≡ false
none_over m (event.Call engine rbc rb) p = refl
none_over m (event.Answer rbc ra) p = refl
none_over m (event.Octets octets) p = absurd (true≢false p)
none_over m (event.Send text) p = refl
none_over m event.Take p = refl
none_over m (event.Release sub) p = refl
none_over m event.Tick p = refl
none_over m event.Ended p = refl
none_over m event.Fault p = refl
none_over m event.Stalled p = refl
none_over m (event.Full count) p = refl
none_over m (event.Unserved count) p = refl

octets-append : (xs ys : List JournalEntry) → has_octets_event (xs ++ ys) ≡ (has_octets_event xs || has_octets_event ys)
unfolding has_octets_event
octets-append [] ys = refl
octets-append (x ∷ xs) ys = ap (λ z. is_octets x.event || z) (octets-append xs ys) ∙ or_assoc (is_octets x.event) (has_octets_event xs) (has_octets_event ys)
  where
    or_assoc : (a b c : Bool) → (a || (b || c)) ≡ ((a || b) || c)
    or_assoc true b c = refl
    or_assoc false b c = refl

none_two : (xs ys : List JournalEntry) → has_octets_event xs ≡ false → has_octets_event ys ≡ false → has_octets_event (xs ++ ys) ≡ false
none_two xs ys p q = octets-append xs ys ∙ ap (λ z. z || has_octets_event ys) p ∙ q

or_first : (a b : Bool) → (a || b) ≡ false → a ≡ false
or_first true b p = absurd (true≢false p)
or_first false b p = refl

or_second : (a b : Bool) → (a || b) ≡ false → b ≡ false
or_second true b p = absurd (true≢false p)
or_second false b p = p

none_of : (n : ℕ) (xs : List JournalEntry) → has_octets_event xs ≡ false → has_octets_event (of n xs) ≡ false
unfolding of has_octets_event
none_of n [] p = refl
none_of n (x ∷ xs) p =
    let rest = none_of n xs (or_second (is_octets x.event) (has_octets_event xs) p) in
    elim (cases_Bool (x.conn == n)) [
      | inl q ↦ rw q (ap (λ z. z || has_octets_event (of n xs)) (or_first (is_octets x.event) (has_octets_event xs) p) ∙ rest)
      | inr q ↦ rw q rest
    ]

abbrev IsUnheard : GivenToSession → Type 0
IsUnheard (Begins engine rbc rb) = Unit {0}
IsUnheard (Hears octets) = ⊥
IsUnheard (Sends text) = Unit {0}
IsUnheard Takes = Unit {0}
IsUnheard (Leaves sub) = Unit {0}
IsUnheard Ticks = Unit {0}
IsUnheard Ends = Unit {0}
IsUnheard Faults = Unit {0}
IsUnheard Stalls = Unit {0}

none_written : (k : ModelEnd) (g : GivenToSession) → IsUnheard g → is_octets (written_as model_ends k g) ≡ false
none_written k (Begins engine rbc rb) p = refl
none_written k (Hears octets) p = absurd p
none_written k (Sends text) p = refl
none_written k Takes p = refl
none_written k (Leaves sub) p = refl
none_written k Ticks p = refl
none_written k Ends p = refl
none_written k Faults p = refl
none_written k Stalls p = refl

Unheard : Session ModelEnd → Session ModelEnd → List JournalEntry → List Call → Type 0
Unheard s t xs cs = has_octets_event xs ≡ false

unheard : (r : Rules) → Steady r IsUnheard Unheard
unfolding Unheard has_octets_event
unheard r = record {
  none = λ s. refl;
  then_ = λ s t u xs ys cs ds p q. none_two xs ys p q;
  given = λ m s g allowed fits. ap (λ z. z || false) (none_written s.end g allowed);
  stalls = λ m s g allowed fits. ap (λ z. z || false) (none_written s.end g allowed);
  heard = λ s mind. refl;
  parts = λ s told at gone. refl;
}

usual : Usual IsUnheard
usual = record { sends = λ text. tt; leaves = λ sub. tt; takes = tt }

quiet : (r : Rules) → Quiet r Unheard
unfolding Unheard has_octets_event
quiet r = record {
  none = (unheard r).none;
  then_ = (unheard r).then_;
  wrote = λ s n whole. refl;
  put_off = λ s. refl;
  noted = λ s. refl;
  failed = λ m s says live. steady_handled r IsUnheard Unheard (unheard r) usual m s Faults says tt;
  failed_released = λ s gone. refl;
  ticked = λ m s says due. steady_handled r IsUnheard Unheard (unheard r) usual m s Ticks says tt;
}

left_none : (s : Session ModelEnd) (ts : List (Session ModelEnd)) (xs : List JournalEntry) (cs : List Call) → Left Unheard s ts xs cs → has_octets_event xs ≡ false
unfolding Unheard
left_none s ts xs cs (Stays t p q) = q
left_none s ts xs cs (Closed t ds over p e q) = q

-- a visit that isn't a read
abbrev IsNoRead : Visit → Type 0
IsNoRead Tick = Unit {0}
IsNoRead Read = ⊥
IsNoRead Write = Unit {0}
IsNoRead Expire = Unit {0}

module _ (r : Rules) (m : ℕ) where
  visited_none : (visit : Visit) (s : Session ModelEnd) (a : Met) → IsNoRead visit → has_octets_event (visited model_ends r m visit s a).entries ≡ false
  visited_none Tick s a p = left_none s _ _ _ (left_tick_at r m Unheard (quiet_at r Unheard (quiet r) m) s a)
  visited_none Read s a p = absurd p
  visited_none Write s a p = left_none s _ _ _ (left_write_at r m Unheard (quiet_at r Unheard (quiet r) m) s a)
  visited_none Expire s a p = left_none s _ _ _ (left_expire_at r m Unheard (quiet_at r Unheard (quiet r) m) s a)

  visit_none : (visit : Visit) (n : ℕ) (ss : List (Session ModelEnd)) (a : Met) → IsNoRead visit → has_octets_event (visit_at (visited model_ends r m visit) n ss a).entries ≡ false
  unfolding visit_at has_octets_event
  visit_none visit n [] a p = refl
  visit_none visit n (s ∷ ss) a p =
      elim (cases_Bool (s.number == n)) [ inl q ↦ rw q (visited_none visit s a p) | inr q ↦ rw q (visit_none visit n ss a p) ]

  swept_none : (visit : Visit) (ns : List ℕ) (ss : List (Session ModelEnd)) (answers : List Met) → IsNoRead visit → has_octets_event (swept (visited model_ends r m visit) ns ss answers).entries ≡ false
  unfolding swept has_octets_event
  swept_none visit [] ss answers p = refl
  swept_none visit (n ∷ ns) ss answers p =
      let o = visit_at (visited model_ends r m visit) n ss (first_answer_of nothing_met answers) in
      none_two o.entries (swept (visited model_ends r m visit) ns o.state (drop 1 answers)).entries
      (visit_none visit n ss (first_answer_of nothing_met answers) p) (swept_none visit ns o.state (drop 1 answers) p)

  before_none : (ss : List (Session ModelEnd)) (a : Sweeps) → has_octets_event (before model_ends r m ss a).entries ≡ false
  unfolding before
  before_none ss a =
      let t = swept (visited model_ends r m Tick) (numbers ss) ss a.ticks in
      let u = swept (visited model_ends r m Expire) (numbers t.state) t.state a.closings in
      none_two t.entries u.entries (swept_none Tick (numbers ss) ss a.ticks tt) (swept_none Expire (numbers t.state) t.state a.closings tt)

-- ---- what events lead to

module _ (plan : Plan) where
  abbrev r : Rules
  r = rules_of plan

  abbrev Behind : Option Ended_at → List JournalEntry → Option Ended_at
  Behind m xs = behind plan.settings (key_at plan.keys) m xs

  abbrev IsLast : Option Ended_at → List JournalEntry → Type 0
  IsLast m xs = LeftOverIsLast plan.settings (key_at plan.keys) m xs

  Leads : Session ModelEnd → Session ModelEnd → List JournalEntry → List Call → Type 0
  Leads s t xs cs = Behind (Some s.end) xs ≡ Some t.end

  leads_one : (now : ℕ) (k : ModelEnd) (g : GivenToSession) → IsOfEnd g
      → (happens plan.settings (key_at plan.keys) now (written_as model_ends k g) (Some k)).0 ≡ Some (end_after model_ends r now k g)
  unfolding end_after
  leads_one now k (Begins engine rbc rb) p = absurd p
  leads_one now k (Hears octets) p = refl
  leads_one now k (Sends text) p = refl
  leads_one now k Takes p = refl
  leads_one now k (Leaves sub) p = refl
  leads_one now k Ticks p = refl
  leads_one now k Ends p = refl
  leads_one now k Faults p = refl
  leads_one now k Stalls p = refl

  leads_two : (m k l : Option Ended_at) (xs ys : List JournalEntry) → Behind m xs ≡ k → Behind k ys ≡ l → Behind m (xs ++ ys) ≡ l
  leads_two m k l xs ys p q = behind-append plan.settings (key_at plan.keys) m xs ys ∙ ap (λ z. Behind z ys) p ∙ q

  leads : Steady r IsOfEnd Leads
  unfolding Leads behind
  leads = record {
    none = λ s. refl;
    then_ = λ s t u xs ys cs ds p q. leads_two (Some s.end) (Some t.end) (Some u.end) xs ys p q;
    given = λ m s g p fits. leads_one m s.end g p;
    stalls = λ m s g p fits.
        let k = end_after model_ends r m s.end g in
        ap (λ z. (happens plan.settings (key_at plan.keys) m (written_as model_ends k Stalls) z).0) (leads_one m s.end g p) ∙ leads_one m k Stalls tt;
    heard = λ s mind. refl;
    parts = λ s told at gone. refl;
  }

  leads_bare : Bare Leads
  unfolding Leads behind
  leads_bare = record { wrote = λ s n whole. refl; put_off = λ s. refl; failed = λ s. refl; breaks = λ s gone. refl; noted = λ s. refl }

  leads_read : (s : Session ModelEnd) (waits : ℕ) (reading : Reading) → Leads s s [] (Reads s.number most_read waits reading ∷ [])
  unfolding Leads behind
  leads_read s waits reading = refl

  leads_calls : Calls r Leads
  leads_calls = usual_calls r IsOfEnd Leads leads all_of_end leads_bare leads_read

  -- ---- one read

  -- events without octets leave nothing to be shown
  last_behind : (m : Option Ended_at) (xs ys : List JournalEntry) → has_octets_event xs ≡ false → IsLast (Behind m xs) ys → IsLast m (xs ++ ys)
  unfolding behind has_octets_event
  last_behind m [] ys p q = q
  last_behind m (x ∷ xs) ys p q = (
    λ left. absurd (true≢false (sym left ∙ none_over m x.event (or_first (is_octets x.event) (has_octets_event xs) p))),
    last_behind (happens plan.settings (key_at plan.keys) x.moment x.event m).0 xs ys (or_second (is_octets x.event) (has_octets_event xs) p) q,
  )

  last_none : (m : Option Ended_at) (xs : List JournalEntry) → has_octets_event xs ≡ false → IsLast m xs
  last_none m xs p = subst (λ z. IsLast m z) (append-nil xs) (last_behind m xs [] p tt)

  last_then : (m : Option Ended_at) (xs ys : List JournalEntry) → IsLast m xs → has_octets_event ys ≡ false → IsLast m (xs ++ ys)
  last_then m [] ys p q = last_none m ys q
  last_then m (x ∷ xs) ys p q = (
    λ left. none_two xs ys (p.0 left) q,
    last_then (happens plan.settings (key_at plan.keys) x.moment x.event m).0 xs ys p.1 q,
  )

  joined_none : (m : ℕ) (s : Session ModelEnd) (octets : List ℕ) → has_octets_event (joined model_ends r m s octets).1 ≡ false
  unfolding joined has_octets_event
  joined_none m s octets =
      elim (cases_Bool (nat_lt most_output (length s.output + length octets))) [ inl p ↦ rw p refl | inr p ↦ rw p refl ]

  -- octets, and events without any
  record Hear (m : ℕ) (s : Session ModelEnd) (octets : List ℕ) (xs : List JournalEntry) : Type 0 where
    rest : List JournalEntry
    is : xs ≡ entry_of model_ends r m s (Hears octets) ∷ rest
    none : has_octets_event rest ≡ false

  handled_hear : (m : ℕ) (s : Session ModelEnd) (octets : List ℕ) (says : Says) → Hear m s octets (handled model_ends r m s (Hears octets) says).1
  unfolding Unheard fed
  handled_hear m s octets says =
      let g = Hears octets in
      let t : Session ModelEnd = record s { end = end_after model_ends r m s.end g; broken = s.broken || breaks g } in
      let j = joined model_ends r m t (octets_in (outcomes_of_given_event model_ends r m s.end g)) in
      let f = follows_handled r IsUnheard Unheard (unheard r) usual m s g says in
      record { rest = j.1 ++ f.rest; is = f.is; none = none_two j.1 f.rest (joined_none m t (octets_in (outcomes_of_given_event model_ends r m s.end g))) f.holds }

  runs_nothing : (m : ℕ) (s : Session ModelEnd) (says : List Says) → has_octets_event (part_for_each_answer (poured model_ends r m) (s, []) says).1 ≡ false
  unfolding part_for_each_answer poured has_octets_event
  runs_nothing m s [] = refl
  runs_nothing m s (a ∷ says) = runs_nothing m s says

  all_dropped : (n : ℕ) (octets : List ℕ) → n ≡ length octets → drop n octets ≡ []
  all_dropped n octets e = drop_all n octets (omega arith)

  hear_led : (m : ℕ) (s : Session ModelEnd) (octets : List ℕ) (rest : List JournalEntry) (k : ModelEnd)
      → Behind (Some s.end) (entry_of model_ends r m s (Hears octets) ∷ rest) ≡ Some k
      → Behind (happens plan.settings (key_at plan.keys) m (event.Octets (take (octet_count_used_by_end s.end octets) octets)) (Some s.end)).0 rest ≡ Some k
  unfolding behind
  hear_led m s octets rest k e = e

  poured_on : (m : ℕ) (says : List Says) (a : Says) (s : Session ModelEnd) (octets : List ℕ)
      → ((y : Session ModelEnd × List ℕ) → IsLast (Some y.0.end) (part_for_each_answer (poured model_ends r m) y says).1)
      → IsLast (Some s.end) ((handled model_ends r m s (Hears octets) a).1
      ++ (part_for_each_answer (poured model_ends r m) ((handled model_ends r m s (Hears octets) a).0, drop (octet_count_used_by_end s.end octets) octets) says).1)
  unfolding Leads
  poured_on m says a s octets on =
      let h = handled model_ends r m s (Hears octets) a in
      let d = handled_hear m s octets a in
      let left = drop (octet_count_used_by_end s.end octets) octets in
      let later = part_for_each_answer (poured model_ends r m) (h.0, left) says in
      let led : Behind (Some s.end) h.1 ≡ Some h.0.end = steady_handled r IsOfEnd Leads leads all_of_end.usual m s (Hears octets) a tt in
      let on_rest = hear_led m s octets d.rest h.0.end (subst (λ z. Behind (Some s.end) z ≡ Some h.0.end) d.is led) in
      subst (λ z. IsLast (Some s.end) (z ++ later.1)) (sym d.is) (
        λ over.
            none_two d.rest later.1 d.none
            (subst (λ z. has_octets_event (part_for_each_answer (poured model_ends r m) (h.0, z) says).1 ≡ false)
            (sym (all_dropped (octet_count_used_by_end s.end octets) octets (none_follow s.end octets over))) (runs_nothing m h.0 says)),
        last_behind _ d.rest later.1 d.none (subst (λ z. IsLast z later.1) (sym on_rest) (on (h.0, left))),
      )

  runs_last : (m : ℕ) (says : List Says) (x : Session ModelEnd × List ℕ) → IsLast (Some x.0.end) (part_for_each_answer (poured model_ends r m) x says).1
  unfolding part_for_each_answer poured
  runs_last m [] x = tt
  runs_last m (a ∷ says) x =
      elim (cases_Bool ((length x.1 == 0) || x.0.broken)) [
        | inl p ↦ rw p (runs_last m says x)
        | inr p ↦ rw p (poured_on m says a x.0 x.1 (λ y. runs_last m says y))
      ]

  came_last : (m : ℕ) (reading : Reading) (s : Session ModelEnd) (says : List Says) → IsLast (Some s.end) (came model_ends reading r m s says).1
  unfolding pours Unheard
  came_last m (Gave octets) s says = runs_last m (exactly (length octets) nothing_said says) (s, octets)
  came_last m NotNow s says = tt
  came_last m End s says =
      last_none (Some s.end) (handled model_ends r m s Ends (first_answer_of nothing_said says)).1
      (steady_handled r IsUnheard Unheard (unheard r) usual m s Ends (first_answer_of nothing_said says) tt)
  came_last m Failed s says =
      last_none (Some s.end) (handled model_ends r m s Faults (first_answer_of nothing_said says)).1
      (steady_handled r IsUnheard Unheard (unheard r) usual m s Faults (first_answer_of nothing_said says) tt)

  rests_none : (m : ℕ) (s : Session ModelEnd) (a : Wrote) → has_octets_event (rests model_ends r m s a).entries ≡ false
  unfolding Unheard has_octets_event
  rests_none m s a = left_none s _ _ _ (left_rests_at r m Unheard (quiet_at r Unheard (quiet r) m) s s a [] [] refl)

  behind_none : (m : ℕ) (reading : Reading) (s : Session ModelEnd) (a : Wrote) → has_octets_event (rests_behind model_ends reading r m s a).entries ≡ false
  unfolding has_octets_event
  behind_none m (Gave octets) s a = rests_none m s a
  behind_none m NotNow s a = refl
  behind_none m End s a = rests_none m s a
  behind_none m Failed s a = rests_none m s a

  read_last : (m : ℕ) (s : Session ModelEnd) (a : Met) → IsLast (Some s.end) (visited model_ends r m Read s a).entries
  unfolding visited read_once
  read_last m s a =
      let b = came model_ends a.reading r m (made s) a.says in
      elim (cases_Bool (is_released model_ends s)) [
        | inl p ↦ rw p tt
        | inr p ↦
            rw p
            (last_then (Some s.end) b.1 (rests_behind model_ends a.reading r m b.0 a.wrote).entries (came_last m a.reading (made s) a.says) (behind_none m a.reading b.0 a.wrote))
      ]

  visit_last : (m n : ℕ) (ss : List (Session ModelEnd)) (a : Met) (k : Option Ended_at) → ((s : Session ModelEnd) → session_of_connection n ss ≡ Some s → k ≡ Some s.end)
      → IsLast k (visit_at (visited model_ends r m Read) n ss a).entries
  unfolding visit_at session_of_connection
  visit_last m n [] a k led = tt
  visit_last m n (s ∷ ss) a k led =
      elim (cases_Bool (s.number == n)) [
        | inl p ↦ rw p (subst (λ z. IsLast z (visited model_ends r m Read s a).entries) (sym (led s (rw p refl))) (read_last m s a))
        | inr p ↦ rw p (visit_last m n ss a k (λ t e. led t (rw p e)))
      ]

  -- ---- what happens

  own_of : (m n : ℕ) (xs : List JournalEntry) → ArePlain m n xs → of n xs ≡ xs
  unfolding of
  own_of m n [] p = refl
  own_of m n (x ∷ xs) p = rw (eq-eqb x.conn n p.0.conn) (ap (λ z. x ∷ z) (own_of m n xs p.1))

  other_of : (m n k : ℕ) (xs : List JournalEntry) → (n == k) ≡ false → ArePlain m n xs → of k xs ≡ []
  unfolding of
  other_of m n k [] q p = refl
  other_of m n k (x ∷ xs) q p = rw (subst (λ z. (z == k) ≡ false) (sym p.0.conn) q) (other_of m n k xs q p.1)

  answered_none : (user : Option Mind) (memory : Bool) (l : Loop ModelEnd) (conn : ℕ) → has_octets_event (answered_by model_ends user memory plan l conn).entries ≡ false
  unfolding has_octets_event
  answered_none None memory l conn = refl
  answered_none (Some mind) true l conn = refl
  answered_none (Some mind) false l conn = refl

  accepted_none : (l : Loop ModelEnd) (conn : ℕ) (memory : Bool) → has_octets_event (accepted model_ends plan l conn memory).entries ≡ false
  unfolding accepted has_octets_event
  accepted_none l conn memory =
      elim (cases_Bool (nat_lt (length l.sessions) most_live)) [ inl p ↦ rw p (answered_none (next_user l.users) memory l conn) | inr p ↦ rw p refl ]

  happened_last : (l : Loop ModelEnd) (what : Happening) (a : Met) (n : ℕ) (k : Option Ended_at) → ((s : Session ModelEnd) → session_of_connection n l.sessions ≡ Some s → k ≡ Some s.end)
      → IsLast k (of n (happened model_ends plan l what a).entries)
  unfolding happened of
  happened_last l (happening.Accepted conn) a n k led =
      last_none k (of n (accepted model_ends plan l conn.0 a.memory).entries) (none_of n (accepted model_ends plan l conn.0 a.memory).entries (accepted_none l conn.0 a.memory))
  happened_last l (happening.Readable conn) a n k led =
      elim (cases_Bool (conn.0 == n)) [
        | inl p ↦
            subst (λ i. IsLast k (of n (visit_at (visited model_ends r l.moment Read) i l.sessions a).entries)) (sym (eqb-true conn.0 n p))
            (subst (λ z. IsLast k z) (sym (own_of l.moment n (visit_at (visited model_ends r l.moment Read) n l.sessions a).entries (plain_visit r l.moment Read n l.sessions a)))
            (visit_last l.moment n l.sessions a k led))
        | inr p ↦
            subst (λ z. IsLast k z)
            (sym (other_of l.moment conn.0 n (visit_at (visited model_ends r l.moment Read) conn.0 l.sessions a).entries p (plain_visit r l.moment Read conn.0 l.sessions a))) tt
      ]
  happened_last l (happening.Writable conn) a n k led =
      let xs = (visit_at (visited model_ends r l.moment Write) conn.0 l.sessions a).entries in
      last_none k (of n xs) (none_of n xs (visit_none r l.moment Write conn.0 l.sessions a tt))
  happened_last l happening.Quiet a n k led = tt
  happened_last l happening.Ended a n k led = tt
  happened_last l happening.Failed a n k led = tt

  -- ---- before the turn

  abbrev Q : Session ModelEnd → Session ModelEnd → List JournalEntry → List Call → Type 0
  Q = Both Own Leads

  q_calls : AllLeft r Q
  q_calls = all_left_of r Q (calls_both r Own Leads (own_calls r) leads_calls)

  own : (s t : Session ModelEnd) (xs : List JournalEntry) (cs : List Call) → Q s t xs cs → Own s t xs cs
  own s t xs cs p = p.0

  abbrev Any : Session ModelEnd → List JournalEntry → List Call → Type 0
  Any s xs cs = Unit {0}

  abbrev Ever : List JournalEntry → List Call → Type 0
  Ever xs cs = Unit {0}

  keeps : Keeps plan Q Any Ever
  keeps = record {
    visit = λ s t xs ys cs ds h q. tt;
    close = λ s t xs ys cs ds over h q. tt;
    open_ = λ l conn mind. tt;
    never = tt;
    full = λ m conn live most. tt;
    unserved = λ m conn handed. tt;
  }

  -- a session comes from one before it, whose events lead to its end
  record From (n : ℕ) (ss : List (Session ModelEnd)) (t : Session ModelEnd) (xs : List JournalEntry) : Type 0 where
    old : Session ModelEnd
    was : session_of_connection n ss ≡ Some old
    is : Behind (Some old.end) (of n xs) ≡ Some t.end

  record Follow (ss ts : List (Session ModelEnd)) (xs : List JournalEntry) : Type 0 where
    apart : Apart ts
    from : (n : ℕ) (t : Session ModelEnd) → session_of_connection n ts ≡ Some t → From n ss t xs

  follow_none : (ss : List (Session ModelEnd)) → Apart ss → Follow ss ss []
  unfolding behind of
  follow_none ss p = record { apart = p; from = λ n t e. record { old = t; was = e; is = refl } }

  follow_then : (ss ts us : List (Session ModelEnd)) (xs ys : List JournalEntry) → Follow ss ts xs → Follow ts us ys → Follow ss us (xs ++ ys)
  follow_then ss ts us xs ys a b = record {
    apart = b.apart;
    from = λ n u e.
        let g = b.from n u e in
        let f = a.from n g.old g.was in
        record {
          old = f.old;
          was = f.was;
          is = ap (λ z. Behind (Some f.old.end) z) (of-append n xs ys) ∙ leads_two (Some f.old.end) (Some g.old.end) (Some u.end) (of n xs) (of n ys) f.is g.is;
        };
  }

  left_from : (s t : Session ModelEnd) (n : ℕ) (found : Option (Session ModelEnd)) (xs : List JournalEntry) (cs : List Call) → s.number ≡ n → found ≡ Some t
      → LeftAt plan Q q_calls own Any Ever keeps s found xs cs → Behind (Some s.end) (of n xs) ≡ Some t.end
  unfolding LeftAt Leads
  left_from s t n None xs cs num e l = absurd (let x : ⊥ = cc in x)
  left_from s t n (Some u) xs cs num e l =
      ap (λ z. Behind (Some s.end) z) (l.0.entries n ∙ ap (λ (b : Bool). if b then xs else []) (eq-eqb s.number n num))
      ∙ l.1
      ∙ ap (λ (z : Option (Session ModelEnd)). end_of z) e

  follow_moved : (n : ℕ) (ss ts : List (Session ModelEnd)) (xs : List JournalEntry) (cs : List Call) → Apart ss → Moved plan Q q_calls own Any Ever keeps n ss ts xs cs → Follow ss ts xs
  unfolding behind
  follow_moved n ss ts xs cs p (Absent f e x y) = rw (e, x) (follow_none ss p)
  follow_moved n ss ts xs cs p (Found s f num others left apart) = record {
    apart = apart;
    from = λ k t e.
        elim (cases_Bool (n == k)) [
          | inl q ↦
              let i : n ≡ k = eqb-true n k q in
              subst (λ z. From z ss t xs) i
              (record { old = s; was = f; is = left_from s t n (session_of_connection n ts) xs cs num (subst (λ z. session_of_connection z ts ≡ Some t) (sym i) e) left })
          | inr q ↦
              let none : of k xs ≡ [] =
              (own_left plan Q q_calls own Any Ever keeps s (session_of_connection n ts) xs cs left).entries k
              ∙ ap (λ (b : Bool). if b then xs else []) (subst (λ z. (z == k) ≡ false) (sym num) q) in
              record { old = t; was = sym (others k q) ∙ e; is = ap (λ z. Behind (Some t.end) z) none }
        ];
  }

  follow_swept : (m : ℕ) (visit : Visit) (ns : List ℕ) (ss : List (Session ModelEnd)) (answers : List Met) → Apart ss
      → Follow ss (swept (visited model_ends r m visit) ns ss answers).state (swept (visited model_ends r m visit) ns ss answers).entries
  unfolding swept
  follow_swept m visit [] ss answers p = follow_none ss p
  follow_swept m visit (n ∷ ns) ss answers p =
      let o = visit_at (visited model_ends r m visit) n ss (first_answer_of nothing_met answers) in
      let e = swept (visited model_ends r m visit) ns o.state (drop 1 answers) in
      let f = follow_moved n ss o.state o.entries o.calls p (moved plan Q q_calls own Any Ever keeps m visit n ss (first_answer_of nothing_met answers) p) in
      follow_then ss o.state e.state o.entries e.entries f (follow_swept m visit ns o.state (drop 1 answers) f.apart)

  follow_before : (m : ℕ) (ss : List (Session ModelEnd)) (a : Sweeps) → Apart ss → Follow ss (before model_ends r m ss a).state (before model_ends r m ss a).entries
  unfolding before
  follow_before m ss a p =
      let t = swept (visited model_ends r m Tick) (numbers ss) ss a.ticks in
      let u = swept (visited model_ends r m Expire) (numbers t.state) t.state a.closings in
      let f = follow_swept m Tick (numbers ss) ss a.ticks p in
      follow_then ss t.state u.state t.entries u.entries f (follow_swept m Expire (numbers t.state) t.state a.closings f.apart)

  rises_absent : (top n : ℕ) (ss : List (Session ModelEnd)) → Rises top (numbers ss) → n ≤ top → session_of_connection n ss ≡ None
  unfolding session_of_connection
  rises_absent top n [] p q = refl
  rises_absent top n (s ∷ ss) p q =
      let up : top < s.number = p.0 in
      let ne : (s.number == n) ≡ false = ne_eqb s.number n (λ e. let x : ⊥ = omega arith in x) in
      rw ne (rises_absent s.number n ss p.1 (omega arith))

  rises_apart : (top : ℕ) (ss : List (Session ModelEnd)) → Rises top (numbers ss) → Apart ss
  unfolding Apart
  rises_apart top [] p = tt
  rises_apart top (s ∷ ss) p = (rises_absent s.number s.number ss p.1 (omega arith), rises_apart s.number ss p.1)

  -- ---- a turn

  readied_none : (c : Course ModelEnd) (a : Turn) → has_octets_event (readied model_ends plan c a).entries ≡ false
  unfolding readied
  readied_none c a = before_none r (max c.loop.moment a.first) c.loop.sessions a.sweeps

  readied_follow : (c : Course ModelEnd) (a : Turn) → Apart c.loop.sessions → Follow c.loop.sessions (readied model_ends plan c a).state.loop.sessions (readied model_ends plan c a).entries
  unfolding readied
  readied_follow c a p = follow_before (max c.loop.moment a.first) c.loop.sessions a.sweeps p

  turned_last : (halt : Option Halt) (d : Course ModelEnd) (a : Turn) (n : ℕ) (k : Option Ended_at) → ((s : Session ModelEnd) → session_of_connection n d.loop.sessions ≡ Some s → k ≡ Some s.end)
      → IsLast k (of n (turned_unless model_ends halt plan d a).entries)
  unfolding of
  turned_last (Some halt) d a n k led = tt
  turned_last None d a n k led = happened_last (asks a.second d).loop a.happening a.met n k led

  went_last : (halt : Option Halt) (c : Course ModelEnd) (a : Turn) (n : ℕ) → halt ≡ None → Rises 0 (numbers c.loop.sessions)
      → IsLast (end_of (session_of_connection n c.loop.sessions)) (of n (went_unless model_ends halt plan c a).entries)
  went_last (Some halt) c a n p rises = absurd (let x : ⊥ = cc in x)
  went_last None c a n p rises =
      let d = readied model_ends plan c a in
      let t = turned_unless model_ends d.state.halt plan d.state a in
      let f = readied_follow c a (rises_apart 0 c.loop.sessions rises) in
      let k = end_of (session_of_connection n c.loop.sessions) in
      subst (λ z. IsLast k z) (sym (of-append n d.entries t.entries))
      (last_behind k (of n d.entries) (of n t.entries) (none_of n d.entries (readied_none c a))
      (turned_last d.state.halt d.state a n (Behind k (of n d.entries))
      (λ s e. let g = f.from n s e in ap (λ z. Behind (end_of z) (of n d.entries)) g.was ∙ g.is)))

-- ---- behind a stall

stalled-append : (xs ys : List JournalEntry) → has_stalled (xs ++ ys) ≡ (has_stalled xs || has_stalled ys)
unfolding has_stalled
stalled-append [] ys = refl
stalled-append (x ∷ xs) ys = ap (λ z. is_stalled x.event || z) (stalled-append xs ys) ∙ or_assoc (is_stalled x.event) (has_stalled xs) (has_stalled ys)
  where
    or_assoc : (a b c : Bool) → (a || (b || c)) ≡ ((a || b) || c)
    or_assoc true b c = refl
    or_assoc false b c = refl

or_true : (b : Bool) → (b || true) ≡ true
or_true true = refl
or_true false = refl

end_two : (xs ys : List JournalEntry) → EndAtStall xs → EndAtStall ys → (has_stalled xs ≡ true → has_octets_event ys ≡ false) → EndAtStall (xs ++ ys)
unfolding has_stalled
end_two [] ys p q f = q
end_two (x ∷ xs) ys p q f = (
  λ e. none_two xs ys (p.0 e) (f (ap (λ z. z || has_stalled xs) e)),
  end_two xs ys p.1 q (λ e. f (ap (λ z. is_stalled x.event || z) e ∙ or_true (is_stalled x.event))),
)

-- a session that stalled broke off, and to one that broke off no octets come
record Drops (s t : Session ModelEnd) (xs : List JournalEntry) : Type 0 where
  none : s.broken ≡ true → has_octets_event xs ≡ false
  still : s.broken ≡ true → t.broken ≡ true
  stall : has_stalled xs ≡ true → t.broken ≡ true
  ends : EndAtStall xs

Dropping : Session ModelEnd → Session ModelEnd → List JournalEntry → List Call → Type 0
Dropping s t xs cs = Drops s t xs

drops_same : (s t : Session ModelEnd) → (s.broken ≡ true → t.broken ≡ true) → Drops s t []
unfolding has_octets_event has_stalled
drops_same s t p = record { none = λ e. refl; still = p; stall = λ e. absurd (true≢false (sym e)); ends = tt }

drops_then : (s t u : Session ModelEnd) (xs ys : List JournalEntry) → Drops s t xs → Drops t u ys → Drops s u (xs ++ ys)
drops_then s t u xs ys p q = record {
  none = λ e. none_two xs ys (p.none e) (q.none (p.still e));
  still = λ e. q.still (p.still e);
  stall = λ e.
      elim (cases_Bool (has_stalled xs)) [
        | inl f ↦ q.still (p.stall f)
        | inr f ↦ q.stall (sym (stalled-append xs ys ∙ ap (λ z. z || has_stalled ys) f) ∙ e)
      ];
  ends = end_two xs ys p.ends q.ends (λ e. q.none (p.stall e));
}

stall_breaks : (k : ModelEnd) (g : GivenToSession) → is_stalled (written_as model_ends k g) ≡ true → breaks g ≡ true
stall_breaks k (Begins engine rbc rb) p = absurd (true≢false (sym p))
stall_breaks k (Hears octets) p = absurd (true≢false (sym p))
stall_breaks k (Sends text) p = absurd (true≢false (sym p))
stall_breaks k Takes p = absurd (true≢false (sym p))
stall_breaks k (Leaves sub) p = absurd (true≢false (sym p))
stall_breaks k Ticks p = absurd (true≢false (sym p))
stall_breaks k Ends p = refl
stall_breaks k Faults p = refl
stall_breaks k Stalls p = refl

or_last : (a b : Bool) → b ≡ true → (a || b) ≡ true
or_last a b p = ap (λ z. a || z) p ∙ or_true a

or_none : (b : Bool) → (b || false) ≡ b
or_none true = refl
or_none false = refl

-- an event, where no octets come to a session that broke off
drops_one : (s t : Session ModelEnd) (x : JournalEntry) (b : Bool) → t.broken ≡ (s.broken || b) → (is_stalled x.event ≡ true → b ≡ true) → (s.broken ≡ true → is_octets x.event ≡ false)
    → Drops s t (x ∷ [])
unfolding has_octets_event has_stalled
drops_one s t x b e f g = record {
  none = λ p. or_none (is_octets x.event) ∙ g p;
  still = λ p. e ∙ ap (λ z. z || b) p;
  stall = λ p. e ∙ or_last s.broken b (f (sym (or_none (is_stalled x.event)) ∙ p));
  ends = (λ p. refl, tt);
}

module _ (r : Rules) where
  drops_joined : (m : ℕ) (s : Session ModelEnd) (octets : List ℕ) → Drops s (joined model_ends r m s octets).0 (joined model_ends r m s octets).1
  unfolding joined
  drops_joined m s octets =
      elim (cases_Bool (nat_lt most_output (length s.output + length octets))) [
        | inl p ↦ rw p (drops_one s _ (entry_of model_ends r m s Stalls) true (sym (or_true s.broken)) (λ e. refl) (λ e. refl))
        | inr p ↦ rw p (drops_same s _ (λ e. e))
      ]

  drops_given : (m : ℕ) (s : Session ModelEnd) (g : GivenToSession) → (s.broken ≡ true → is_octets (written_as model_ends s.end g) ≡ false)
      → Drops s (fed model_ends r m s g).0 (fed model_ends r m s g).1
  unfolding fed
  drops_given m s g f =
      let t : Session ModelEnd = record s { end = end_after model_ends r m s.end g; broken = s.broken || breaks g } in
      let octets = octets_in (outcomes_of_given_event model_ends r m s.end g) in
      drops_then s t (joined model_ends r m t octets).0 (entry_of model_ends r m s g ∷ []) (joined model_ends r m t octets).1
      (drops_one s t (entry_of model_ends r m s g) (breaks g) refl (stall_breaks s.end g) f) (drops_joined m t octets)

  dropping : Steady r IsUnheard Dropping
  unfolding Dropping
  dropping = record {
    none = λ s. drops_same s s (λ e. e);
    then_ = λ s t u xs ys cs ds p q. drops_then s t u xs ys p q;
    given = λ m s g allowed fits. drops_one s _ (entry_of model_ends r m s g) (breaks g) refl (stall_breaks s.end g) (λ e. none_written s.end g allowed);
    stalls = λ m s g allowed fits.
        let k = end_after model_ends r m s.end g in
        let t : Session ModelEnd = record s { end = k; broken = s.broken || breaks g } in
        drops_then s t _ (entry_of model_ends r m s g ∷ []) (entry_of model_ends r m (record s { end = k }) Stalls ∷ [])
        (drops_one s t (entry_of model_ends r m s g) (breaks g) refl (stall_breaks s.end g) (λ e. none_written s.end g allowed))
        (drops_one t _ (entry_of model_ends r m (record s { end = k }) Stalls) true (sym (or_true t.broken)) (λ e. refl) (λ e. refl));
    heard = λ s mind. drops_same s _ (λ e. e);
    parts = λ s told at gone. drops_same s _ (λ e. e);
  }

  drops_handled : (m : ℕ) (s : Session ModelEnd) (g : GivenToSession) (says : Says) → (s.broken ≡ true → is_octets (written_as model_ends s.end g) ≡ false)
      → Drops s (handled model_ends r m s g says).0 (handled model_ends r m s g says).1
  unfolding Dropping
  drops_handled m s g says f =
      let a = fed model_ends r m s g in
      let h = handled model_ends r m s g says in
      let d = follows_handled r IsUnheard Dropping dropping usual m s g says in
      subst (λ z. Drops s h.0 z) (sym d.is) (drops_then s a.0 h.0 a.1 d.rest (drops_given m s g f) d.holds)

  drops_poured : (m : ℕ) (x : Session ModelEnd × List ℕ) (a : Says) → Drops x.0 (poured model_ends r m x a).0.0 (poured model_ends r m x a).1
  unfolding poured
  drops_poured m x a =
      elim (cases_Bool ((length x.1 == 0) || x.0.broken)) [
        | inl p ↦ rw p (drops_same x.0 x.0 (λ e. e))
        | inr p ↦
            rw p (drops_handled m x.0 (Hears x.1) a (λ e. absurd (true≢false (sym e ∙ or_second (length x.1 == 0) x.0.broken p))))
      ]

  drops_all : (m : ℕ) (says : List Says) (x : Session ModelEnd × List ℕ) → Drops x.0 (part_for_each_answer (poured model_ends r m) x says).0.0 (part_for_each_answer (poured model_ends r m) x says).1
  unfolding part_for_each_answer
  drops_all m [] x = drops_same x.0 x.0 (λ e. e)
  drops_all m (a ∷ says) x =
      let b = poured model_ends r m x a in
      let d = part_for_each_answer (poured model_ends r m) b.0 says in
      drops_then x.0 b.0.0 d.0.0 b.1 d.1 (drops_poured m x a) (drops_all m says b.0)

  drops_came : (m : ℕ) (reading : Reading) (s : Session ModelEnd) (says : List Says) → Drops s (came model_ends reading r m s says).0 (came model_ends reading r m s says).1
  unfolding pours
  drops_came m (Gave octets) s says = drops_all m (exactly (length octets) nothing_said says) (s, octets)
  drops_came m NotNow s says = drops_same s s (λ e. e)
  drops_came m End s says = drops_handled m s Ends (first_answer_of nothing_said says) (λ e. refl)
  drops_came m Failed s says = drops_handled m s Faults (first_answer_of nothing_said says) (λ e. refl)

  drops_calls : Calls r Dropping
  unfolding Dropping
  drops_calls = record {
    quiet = record {
      none = λ s. drops_same s s (λ e. e);
      then_ = λ s t u xs ys cs ds p q. drops_then s t u xs ys p q;
      wrote = λ s n whole. drops_same s _ (λ e. e);
      put_off = λ s. drops_same s _ (λ e. e);
      noted = λ s. drops_same s _ (λ e. e);
      failed = λ m s says live. drops_handled m s Faults says (λ e. refl);
      failed_released = λ s gone. drops_same s _ (λ e. refl);
      ticked = λ m s says due. drops_handled m s Ticks says (λ e. refl);
    };
    read = λ m s a live. drops_came m a.reading s a.says;
  }

module _ (plan : Plan) where
  abbrev Both_so : Session ModelEnd → Session ModelEnd → List JournalEntry → List Call → Type 0
  Both_so = Both Own Dropping

  both_calls : AllLeft (rules_of plan) Both_so
  both_calls = all_left_of (rules_of plan) Both_so (calls_both (rules_of plan) Own Dropping (own_calls (rules_of plan)) (drops_calls (rules_of plan)))

  its_own : (s t : Session ModelEnd) (xs : List JournalEntry) (cs : List Call) → Both_so s t xs cs → Own s t xs cs
  its_own s t xs cs p = p.0

  record Dropped (s : Session ModelEnd) (xs : List JournalEntry) (cs : List Call) : Type 0 where
    stall : has_stalled xs ≡ true → s.broken ≡ true
    ends : EndAtStall xs

  abbrev Over : List JournalEntry → List Call → Type 0
  Over xs cs = EndAtStall xs

  dropped_more : (s t : Session ModelEnd) (xs ys : List JournalEntry) (cs ds : List Call) → Dropped s xs cs → Both_so s t ys ds → Dropped t (xs ++ ys) (cs ++ ds)
  unfolding Dropping
  dropped_more s t xs ys cs ds h q = record {
    stall = λ e.
        elim (cases_Bool (has_stalled xs)) [
          | inl f ↦ q.1.still (h.stall f)
          | inr f ↦ q.1.stall (sym (stalled-append xs ys ∙ ap (λ z. z || has_stalled ys) f) ∙ e)
        ];
    ends = end_two xs ys h.ends q.1.ends (λ e. q.1.none (h.stall e));
  }

  keeps_dropped : Keeps plan Both_so Dropped Over
  unfolding has_octets_event has_stalled
  keeps_dropped = record {
    visit = λ s t xs ys cs ds h q. dropped_more s t xs ys cs ds h q;
    close = λ s t xs ys cs ds over h q. (dropped_more s t xs ys cs ds h q).ends;
    open_ = λ l conn mind. record { stall = λ e. absurd (true≢false (sym e)); ends = (λ e. refl, tt) };
    never = tt;
    full = λ m conn live most. (λ e. refl, tt);
    unserved = λ m conn handed. (λ e. refl, tt);
  }

  dropped_in : (s : Option (Session ModelEnd)) (conn : ℕ) (xs : List JournalEntry) (cs : List Call) → Fits plan Both_so both_calls its_own Dropped Over keeps_dropped s conn xs cs → EndAtStall xs
  unfolding Fits
  dropped_in None conn xs cs h = h
  dropped_in (Some s) conn xs cs h = h.1.ends

  all_dropped_in : (o : Out (Course ModelEnd)) → Knows plan Both_so both_calls its_own Dropped Over keeps_dropped o.entries o.calls o.state.loop.sessions → AreDropped plan o
  all_dropped_in o k conn = dropped_in (session_of_connection conn o.state.loop.sessions) conn (of conn o.entries) (calls_at conn o.calls) (k.fits conn)

  first_dropped : (caller : Caller) (at : ℕ) (l : Loop ModelEnd) (conn : ℕ) (mind : Mind) (says : Says) → l.moment ≡ at
      → Dropped (handled model_ends (rules_of plan) l.moment (begun_dial conn (calling model_ends plan caller l) mind) (Begins caller.engine plan.rbc (next_u64 l.words).0) says).0
      (handled model_ends (rules_of plan) l.moment (begun_dial conn (calling model_ends plan caller l) mind) (Begins caller.engine plan.rbc (next_u64 l.words).0) says).1 []
  first_dropped caller at l conn mind says now =
      let d = drops_handled (rules_of plan) l.moment (begun_dial conn (calling model_ends plan caller l) mind) (Begins caller.engine plan.rbc (next_u64 l.words).0) says (λ e. refl) in
      record { stall = d.stall; ends = d.ends }

  serving_dropped : (c : Course ModelEnd) (turns : List Turn) → IsServing plan c turns → AreDropped plan (run model_ends plan c turns)
  serving_dropped c turns h =
      all_dropped_in (run model_ends plan c turns) (knows_run plan Both_so both_calls its_own Dropped Over keeps_dropped c turns h.none h.rises)

  dialling_dropped : (caller : Caller) (c : Course ModelEnd) (address : List ℕ) (a : Dialled) → IsDialling plan caller c address a → AreDropped plan (dials model_ends plan caller c address a)
  dialling_dropped caller c address a h =
      let at = max c.loop.moment a.first in
      all_dropped_in (dials model_ends plan caller c address a)
      (knows_dial_of plan caller Both_so both_calls its_own Dropped Over keeps_dropped at (first_dropped caller at) c address a h.none refl h.rises)

pub turns_cut : TurnsCut
unfolding went
turns_cut plan c a conn live rises = went_last plan c.halt c a conn live rises

pub events_are_cut : EventsAreCut
events_are_cut = record {
  serving = λ plan c turns h. (walked_serving IsCut fitting plan c turns h).each;
  dialling = λ plan caller c address a h. (walked_dialling IsCut fitting plan caller c address a h).each;
}

pub rests_are_dropped : RestsAreDropped
rests_are_dropped = record {
  serving = λ plan c turns h. serving_dropped plan c turns h;
  dialling = λ plan caller c address a h. dialling_dropped plan caller c address a h;
}
