-- A loop does of a connection what it does where that connection comes alone.
use Rattle.loop_model.specs.Ends.{ModelEnd, model_ends}
use Rattle.std.proofs.Common.{if◌then◌else◌, ◌≡◌, ℕ, zero, suc, ◌+◌, ◌<◌, ◌≤◌, max, inl, inr, Bool, true, false, ◌&&◌, List, [], ◌∷◌, ◌++◌, length, drop, Option, Some, None, refl, sym, ◌∙◌, ap, ap₂, subst, append-nil, append_assoc, arith, true≢false, eqb-true, ne_eqb}
use Rattle.std.specs.Prelude.{◌==◌, nat_lt}
use Rattle.std.proofs.lemmas.Bool.{cases_Bool}
use Rattle.er_trace.specs.declared.event.Event.{Event}
use Rattle.er_trace.specs.declared.event.Event.TheVariants as event
use Rattle.er_users.specs.Users.{Mind}
use Rattle.rand_core.specs.Stream.{Stream, next_u64}
use Rattle.trace_model.specs.Checks.{Belongs, is_opening_role, role_of, most_live}
use Rattle.link_trait.specs.Wires.{Call, Turns, Closes}
use Rattle.link_trait.specs.declared.wires.Conn.{Conn}
use Rattle.link_trait.specs.declared.wires.Happening.{Happening}
use Rattle.link_trait.specs.declared.wires.Happening.TheVariants as happening
use Rattle.loop_model.specs.Journals.{JournalEntry}
use Rattle.loop_model.specs.Deeds.{LoopDeed, Printing, Calling, entries_in, calls_in}
use Rattle.loop_model.specs.Outs.{Out, HasOrder, still, next, changed, makes, acts, exactly, first_answer_of}
use Rattle.loop_model.specs.Sessions.{Rules, Session}
use Rattle.loop_model.specs.Visits.{Met, nothing_met, Visit, Tick, Read, Write, Expire, visited}
use Rattle.loop_model.specs.Loops.{Plan, rules_of, Loop, visit_at, numbers, swept, Sweeps, before, until, next_user, other_users, one_word_less, plain_event, begun, answering, answered_by, turned_away, accepted, visited_at, happened, Halt, OnClosed, Course, asks, halt_by, halt_behind, Turn, nothing_comes, readied, went, run}
use Rattle.loop_model.specs.Parts.{session_of_connection, of, calls_at, opened_in, Rises, newest}
use Rattle.loop_model.specs.Laws.{IsServing}
use Rattle.loop_model.specs.Points.{user_of}
use Rattle.loop_model.specs.Told.{hearing}
use Rattle.loop_model.specs.Turnings.{draws_word}
use Rattle.loop_model.specs.Orderly.{order_run}
use Rattle.loop_model.specs.Alone.{own_happening, own_met, own_ticks, own_turn, own_turns, own_users, own_words, Outside, own_outside, run_over, deeds_on, IsSameAt, IsNeverFull, ConnectionsStandAlone}
use Rattle.loop_model.proofs.Projections.{opened_in-append, rises_first, rises_rest, newest_later}
use Rattle.loop_model.proofs.Steadies.{Left, Stays, Closed, left_visited, acts_lift}
use Rattle.loop_model.proofs.Lives.{Own}
use Rattle.loop_model.proofs.Loopwise.{Loopwise, wise_went}
use Rattle.loop_model.proofs.Orders.{own_calls, UpTo, Ordered, InOrder, in_order}
use Rattle.loop_model.proofs.Rounds.{went_goes, went_halted}
use Rattle.loop_model.proofs.Replaying.{ArePlain, plain_visit}
use Rattle.loop_model.proofs.Givings.{given_in, given_at}
use Rattle.loop_model.proofs.TurnedAway.{never_or_away}
use Rattle.loop_model.proofs.Sharing.{if_so, if_not, deeds_on_two, entries_of_deeds, calls_of_deeds, only, only_here, only_skip, only_none, only-append, session_of_only, only_above, Beside, visit_elsewhere, visit_alone, before_beside}

-- ---- a loop with the sessions of one number, and with other users and words

abbrev pub solo_loop : ℕ → Loop ModelEnd → List Mind → Stream → Loop ModelEnd
solo_loop n l us ws = record { sessions = only n l.sessions; users = us; moment = l.moment; words = ws }

abbrev pub solo : ℕ → Course ModelEnd → List Mind → Stream → Course ModelEnd
solo n c us ws = record { loop = solo_loop n c.loop us ws; turns = c.turns; halt = c.halt; asked = c.asked }

-- ---- what opens ends

-- these events open no end, and no random word is drawn for them
abbrev AreIdle : List JournalEntry → Type 0
AreIdle [] = Unit {0}
AreIdle (x ∷ xs) = ((is_opening_role (role_of x.event) ≡ false) × (draws_word x.event ≡ false)) × AreIdle xs

belongs_draws : (e : Event) → role_of e ≡ Belongs → draws_word e ≡ false
belongs_draws (event.Call engine rbc rb) p = absurd (let x : ⊥ = cc in x)
belongs_draws (event.Answer rbc ra) p = absurd (let x : ⊥ = cc in x)
belongs_draws (event.Octets octets) p = refl
belongs_draws (event.Send text) p = refl
belongs_draws event.Take p = refl
belongs_draws (event.Release sub) p = refl
belongs_draws event.Tick p = refl
belongs_draws event.Ended p = refl
belongs_draws event.Fault p = refl
belongs_draws event.Stalled p = refl
belongs_draws (event.Full count) p = absurd (let x : ⊥ = cc in x)
belongs_draws (event.Unserved count) p = absurd (let x : ⊥ = cc in x)

declined-append : (xs ys : List JournalEntry) → AreIdle xs → AreIdle ys → AreIdle (xs ++ ys)
declined-append [] ys p q = q
declined-append (x ∷ xs) ys p q = (p.0, declined-append xs ys p.1 q)

plain_declined : (m n : ℕ) (xs : List JournalEntry) → ArePlain m n xs → AreIdle xs
plain_declined m n [] p = tt
plain_declined m n (x ∷ xs) p = ((ap is_opening_role p.0.role, belongs_draws x.event p.0.role), plain_declined m n xs p.1)

visit_declined : (r : Rules) (m : ℕ) (visit : Visit) (n : ℕ) (ss : List (Session ModelEnd)) (a : Met) → AreIdle (visit_at (visited model_ends r m visit) n ss a).entries
visit_declined r m visit n ss a = plain_declined m n (visit_at (visited model_ends r m visit) n ss a).entries (plain_visit r m visit n ss a)

swept_declined : (r : Rules) (m : ℕ) (visit : Visit) (ns : List ℕ) (ss : List (Session ModelEnd)) (answers : List Met)
    → AreIdle (swept (visited model_ends r m visit) ns ss answers).entries
unfolding swept
swept_declined r m visit [] ss answers = tt
swept_declined r m visit (n ∷ ns) ss answers =
    let o = visit_at (visited model_ends r m visit) n ss (first_answer_of nothing_met answers) in
    declined-append o.entries (swept (visited model_ends r m visit) ns o.state (drop 1 answers)).entries
    (visit_declined r m visit n ss (first_answer_of nothing_met answers)) (swept_declined r m visit ns o.state (drop 1 answers))

readied_declined : (plan : Plan) (c : Course ModelEnd) (a : Turn) → AreIdle (readied model_ends plan c a).entries
unfolding readied before
readied_declined plan c a =
    let d = asks a.first c in
    let r = rules_of plan in
    let t = swept (visited model_ends r d.loop.moment Tick) (numbers d.loop.sessions) d.loop.sessions a.sweeps.ticks in
    declined-append t.entries (swept (visited model_ends r d.loop.moment Expire) (numbers t.state) t.state a.sweeps.closings).entries
    (swept_declined r d.loop.moment Tick (numbers d.loop.sessions) d.loop.sessions a.sweeps.ticks)
    (swept_declined r d.loop.moment Expire (numbers t.state) t.state a.sweeps.closings)

declined_user : (n : ℕ) (xs ys : List JournalEntry) (users : List Mind) → AreIdle xs → user_of n (xs ++ ys) users ≡ user_of n ys users
unfolding user_of
declined_user n [] ys users p = refl
declined_user n (x ∷ xs) ys users p =
    if_not (is_opening_role (role_of x.event)) (if x.conn == n then next_user users else user_of n (xs ++ ys) (other_users users)) (user_of n (xs ++ ys) users) p.0.0
    ∙ declined_user n xs ys users p.1

declined_words : (n : ℕ) (xs ys : List JournalEntry) (words : Stream) → AreIdle xs → own_words n (xs ++ ys) words ≡ own_words n ys words
unfolding own_words
declined_words n [] ys words p = refl
declined_words n (x ∷ xs) ys words p =
    if_not (draws_word x.event) (if x.conn == n then words else own_words n (xs ++ ys) (next_u64 words).1) (own_words n (xs ++ ys) words) p.0.1
    ∙ declined_words n xs ys words p.1

-- no end of this number is opened
abbrev NoOpening : ℕ → List JournalEntry → Type 0
NoOpening n [] = Unit {0}
NoOpening n (x ∷ xs) = (is_opening_role (role_of x.event) ≡ true → (x.conn == n) ≡ false) × NoOpening n xs

no_opening-append : (n : ℕ) (xs ys : List JournalEntry) → NoOpening n xs → NoOpening n ys → NoOpening n (xs ++ ys)
no_opening-append n [] ys p q = q
no_opening-append n (x ∷ xs) ys p q = (p.0, no_opening-append n xs ys p.1 q)

declined_no_opening : (n : ℕ) (xs : List JournalEntry) → AreIdle xs → NoOpening n xs
declined_no_opening n [] p = tt
declined_no_opening n (x ∷ xs) p = (λ e. absurd (true≢false (sym e ∙ p.0.0)), declined_no_opening n xs p.1)

no_user : (n : ℕ) (xs : List JournalEntry) (users : List Mind) → NoOpening n xs → user_of n xs users ≡ None
unfolding user_of
no_user n [] users p = refl
no_user n (x ∷ xs) users p =
    elim (cases_Bool (is_opening_role (role_of x.event))) [
      | inl q ↦
          if_so (is_opening_role (role_of x.event)) (if x.conn == n then next_user users else user_of n xs (other_users users)) (user_of n xs users) q
          ∙ if_not (x.conn == n) (next_user users) (user_of n xs (other_users users)) (p.0 q) ∙ no_user n xs (other_users users) p.1
      | inr q ↦
          if_not (is_opening_role (role_of x.event)) (if x.conn == n then next_user users else user_of n xs (other_users users)) (user_of n xs users) q
          ∙ no_user n xs users p.1
    ]

-- of numbers this is none
abbrev Lacks : ℕ → List ℕ → Type 0
Lacks n [] = Unit {0}
Lacks n (k ∷ ks) = ((k == n) ≡ false) × Lacks n ks

lacks_first : (n : ℕ) (ks ls : List ℕ) → Lacks n (ks ++ ls) → Lacks n ks
lacks_first n [] ls p = tt
lacks_first n (k ∷ ks) ls p = (p.0, lacks_first n ks ls p.1)

lacks_rest : (n : ℕ) (ks ls : List ℕ) → Lacks n (ks ++ ls) → Lacks n ls
lacks_rest n [] ls p = p
lacks_rest n (k ∷ ks) ls p = lacks_rest n ks ls p.1

rises_lacks : (n top : ℕ) (ns : List ℕ) → n ≤ top → Rises top ns → Lacks n ns
rises_lacks n top [] le p = tt
rises_lacks n top (k ∷ ns) le p =
    let lt : top < k = p.0 in
    (ne_eqb k n (λ e. let x : ⊥ = omega arith in x), rises_lacks n k ns (omega arith) p.1)

-- where this number isn't accepted, no end of it is opened
unfoldable Unopened : ℕ → List (Session ModelEnd) → List (Session ModelEnd) → List JournalEntry → List Call → Type 0
Unopened n ss ts xs cs = Lacks n (opened_in cs) → NoOpening n xs

unopened : (plan : Plan) (n : ℕ) → Loopwise plan (Unopened n)
unfolding Unopened opened_in
unopened plan n = record {
  none = λ ss p. tt;
  then_ = λ ss ts us xs ys cs ds p q lacks.
      let both : Lacks n (opened_in cs ++ opened_in ds) = subst (λ z. Lacks n z) (opened_in-append cs ds) lacks in
      no_opening-append n xs ys (p (lacks_first n (opened_in cs) (opened_in ds) both)) (q (lacks_rest n (opened_in cs) (opened_in ds) both));
  visit = λ m visit k ss a p.
      declined_no_opening n (visit_at (visited model_ends (rules_of plan) m visit) k ss a).entries (visit_declined (rules_of plan) m visit k ss a);
  turned = λ ss until happening none p. tt;
  opened = λ l until conn mind fits p. (λ e. p.0, tt);
  full = λ ss m live until conn most p. (λ e. absurd (true≢false (sym e)), tt);
  unserved = λ ss m handed until conn p. (λ e. absurd (true≢false (sym e)), tt);
}

later_unopened : (plan : Plan) (n top : ℕ) (c : Course ModelEnd) (turns : List Turn) → n ≤ top → Rises top (opened_in (acts (went model_ends plan) c turns).calls)
    → NoOpening n (acts (went model_ends plan) c turns).entries
unfolding Unopened opened_in
later_unopened plan n top c turns le rises =
    let w = unopened plan n in
    acts_lift (λ (c d : Course ModelEnd) xs cs. Unopened n c.loop.sessions d.loop.sessions xs cs) (went model_ends plan) (λ c. w.none c.loop.sessions)
    (λ c d e xs ys cs ds. w.then_ c.loop.sessions d.loop.sessions e.loop.sessions xs ys cs ds) (wise_went plan (Unopened n) w) c turns
    (rises_lacks n top (opened_in (acts (went model_ends plan) c turns).calls) le rises)

never_first : (n : ℕ) (xs ys : List JournalEntry) → IsNeverFull n (xs ++ ys) → IsNeverFull n xs
never_first n [] ys p = tt
never_first n (x ∷ xs) ys p = (p.0, never_first n xs ys p.1)

never_rest : (n : ℕ) (xs ys : List JournalEntry) → IsNeverFull n (xs ++ ys) → IsNeverFull n ys
never_rest n [] ys p = p
never_rest n (x ∷ xs) ys p = never_rest n xs ys p.1

-- ---- what opens connections

pub left_opens : (s : Session ModelEnd) (ts : List (Session ModelEnd)) (xs : List JournalEntry) (cs : List Call) → Left Own s ts xs cs → opened_in cs ≡ []
unfolding opened_in
left_opens s ts xs cs (Stays t p q) = q.opens
left_opens s ts xs cs (Closed t ds over p e q) = ap opened_in e ∙ opened_in-append ds (Closes t.number ∷ []) ∙ ap (λ z. z ++ []) q.opens

visit_opens : (r : Rules) (m : ℕ) (visit : Visit) (n : ℕ) (ss : List (Session ModelEnd)) (a : Met) → opened_in (visit_at (visited model_ends r m visit) n ss a).calls ≡ []
unfolding visit_at opened_in
visit_opens r m visit n [] a = refl
visit_opens r m visit n (s ∷ ss) a =
    elim (cases_Bool (s.number == n)) [
      | inl p ↦ rw p (left_opens s _ _ _ (left_visited r Own (own_calls r) visit m s a))
      | inr p ↦ rw p (visit_opens r m visit n ss a)
    ]

swept_opens : (r : Rules) (m : ℕ) (visit : Visit) (ns : List ℕ) (ss : List (Session ModelEnd)) (answers : List Met)
    → opened_in (swept (visited model_ends r m visit) ns ss answers).calls ≡ []
unfolding swept opened_in
swept_opens r m visit [] ss answers = refl
swept_opens r m visit (n ∷ ns) ss answers =
    let o = visit_at (visited model_ends r m visit) n ss (first_answer_of nothing_met answers) in
    let rest = swept (visited model_ends r m visit) ns o.state (drop 1 answers) in
    opened_in-append o.calls rest.calls ∙ ap (λ z. z ++ opened_in rest.calls) (visit_opens r m visit n ss (first_answer_of nothing_met answers))
    ∙ swept_opens r m visit ns o.state (drop 1 answers)

pub readied_opens : (plan : Plan) (c : Course ModelEnd) (a : Turn) → opened_in (readied model_ends plan c a).calls ≡ []
unfolding readied before
readied_opens plan c a =
    let d = asks a.first c in
    let r = rules_of plan in
    let t = swept (visited model_ends r d.loop.moment Tick) (numbers d.loop.sessions) d.loop.sessions a.sweeps.ticks in
    let u = swept (visited model_ends r d.loop.moment Expire) (numbers t.state) t.state a.sweeps.closings in
    opened_in-append t.calls u.calls ∙ ap (λ z. z ++ opened_in u.calls) (swept_opens r d.loop.moment Tick (numbers d.loop.sessions) d.loop.sessions a.sweeps.ticks)
    ∙ swept_opens r d.loop.moment Expire (numbers t.state) t.state a.sweeps.closings

-- ---- what happens at others

pub record Alike (n : ℕ) (us : List Mind) (ws : Stream) (o p : Out (Loop ModelEnd)) : Type 0 where
  pub order : deeds_on n o.order ≡ deeds_on n p.order
  pub state : p.state ≡ solo_loop n o.state us ws

-- whether this accepts the connection
abbrev pub accepts : ℕ → Happening → Bool
accepts n (happening.Accepted conn) = conn.0 == n
accepts n (happening.Readable conn) = false
accepts n (happening.Writable conn) = false
accepts n happening.Quiet = false
accepts n happening.Ended = false
accepts n happening.Failed = false

-- an event of another connection, and its close
event_elsewhere : (n : ℕ) (x : JournalEntry) (ds : List LoopDeed) → (x.conn == n) ≡ false → deeds_on n (Printing x ∷ ds) ≡ deeds_on n ds
unfolding deeds_on
event_elsewhere n x ds ne = if_not (x.conn == n) (Printing x ∷ deeds_on n ds) (deeds_on n ds) ne

close_elsewhere : (n k : ℕ) → (k == n) ≡ false → deeds_on n (Calling (Closes k) ∷ []) ≡ deeds_on n []
unfolding deeds_on
close_elsewhere n k ne = if_not (k == n) (Calling (Closes k) ∷ []) [] ne

module _ (plan : Plan) (n : ℕ) where
  away_other : (l : Loop ModelEnd) (us : List Mind) (ws : Stream) (k : ℕ) (why : Event) → (k == n) ≡ false
      → Alike n us ws (turned_away l k why) (still (solo_loop n l us ws))
  away_other l us ws k why ne = record {
    order = event_elsewhere n (plain_event l k why) (Calling (Closes k) ∷ []) ne ∙ close_elsewhere n k ne;
    state = refl;
  }

  answered_other : (user : Option Mind) (memory : Bool) (l : Loop ModelEnd) (us : List Mind) (ws : Stream) (k : ℕ) → (k == n) ≡ false
      → Alike n us ws (answered_by model_ends user memory plan l k) (still (solo_loop n l us ws))
  answered_other None memory l us ws k ne = away_other l us ws k (event.Unserved plan.handed) ne
  answered_other (Some mind) false l us ws k ne = away_other (one_word_less l) us ws k (event.Full (length l.sessions)) ne
  answered_other (Some mind) true l us ws k ne =
      let b = begun k (answering model_ends plan l) mind in
      record {
        order = event_elsewhere n (plain_event l k (event.Answer plan.rbc (next_u64 l.words).0)) [] ne;
        state =
            ap (λ (z : List (Session ModelEnd)). record (solo_loop n l us ws) { sessions = z })
            (sym (only-append n l.sessions (b ∷ []) ∙ ap (λ z. only n l.sessions ++ z) (only_skip n b [] ne ∙ only_none n) ∙ append-nil (only n l.sessions)));
      }

  pub accepted_other : (l : Loop ModelEnd) (us : List Mind) (ws : Stream) (k : ℕ) (memory : Bool) → (k == n) ≡ false
      → Alike n us ws (accepted model_ends plan l k memory) (still (solo_loop n l us ws))
  unfolding accepted
  accepted_other l us ws k memory ne =
      elim (cases_Bool (nat_lt (length l.sessions) most_live)) [
        | inl p ↦ rw p (answered_other (next_user l.users) memory l us ws k ne)
        | inr p ↦ rw p (away_other l us ws k (event.Full most_live) ne)
      ]

  pub visited_other : (visit : Visit) (l : Loop ModelEnd) (us : List Mind) (ws : Stream) (k : ℕ) (a : Met) → (k == n) ≡ false
      → Alike n us ws (visited_at model_ends plan l visit k a) (still (solo_loop n l us ws))
  unfolding deeds_on
  visited_other visit l us ws k a ne =
      let u = visit_elsewhere (rules_of plan) l.moment visit n k l.sessions a ne in
      record { order = u.order; state = ap (λ (z : List (Session ModelEnd)). record (solo_loop n l us ws) { sessions = z }) (sym u.state) }

  pub visited_own : (visit : Visit) (l : Loop ModelEnd) (us : List Mind) (ws : Stream) (k : ℕ) (a : Met) → (k == n) ≡ true
      → Alike n us ws (visited_at model_ends plan l visit k a) (visited_at model_ends plan (solo_loop n l us ws) visit k a)
  visited_own visit l us ws k a is =
      let f = visited model_ends (rules_of plan) l.moment visit in
      let b : Beside n (visit_at f k l.sessions a) (visit_at f k (only n l.sessions) a) =
      subst (λ z. Beside n (visit_at f z l.sessions a) (visit_at f z (only n l.sessions) a)) (sym (eqb-true k n is)) (visit_alone (rules_of plan) l.moment visit n l.sessions a) in
      record { order = b.order; state = ap (λ (z : List (Session ModelEnd)). record (solo_loop n l us ws) { sessions = z }) b.state }

  -- one that is read from or written to
  touched_alike : (visit : Visit) (l : Loop ModelEnd) (us : List Mind) (ws : Stream) (conn : Conn) (a : Met) (what : Happening)
      → ((k : Loop ModelEnd) (b : Met) → happened model_ends plan k what b ≡ visited_at model_ends plan k visit conn.0 b)
      → Alike n us ws (happened model_ends plan l what a)
      (happened model_ends plan (solo_loop n l us ws) (if conn.0 == n then what else happening.Quiet) (if conn.0 == n then a else nothing_met))
  unfolding happened
  touched_alike visit l us ws conn a what is =
      let k = solo_loop n l us ws in
      elim (cases_Bool (conn.0 == n)) [
        | inl p ↦
            rw p
            (subst (λ z. Alike n us ws z (happened model_ends plan k what a)) (sym (is l a))
            (subst (λ z. Alike n us ws (visited_at model_ends plan l visit conn.0 a) z) (sym (is k a)) (visited_own visit l us ws conn.0 a p)))
        | inr p ↦ rw p (subst (λ z. Alike n us ws z (still k)) (sym (is l a)) (visited_other visit l us ws conn.0 a p))
      ]

  quiet_alike : (l : Loop ModelEnd) (us : List Mind) (ws : Stream) → Alike n us ws (still l) (still (solo_loop n l us ws))
  quiet_alike l us ws = record { order = refl; state = refl }

  pub happened_alike : (what : Happening) (l : Loop ModelEnd) (us : List Mind) (ws : Stream) (a : Met) → accepts n what ≡ false
      → Alike n us ws (happened model_ends plan l what a) (happened model_ends plan (solo_loop n l us ws) (own_happening n what) (own_met n what a))
  unfolding happened
  happened_alike (happening.Accepted conn) l us ws a ne =
      subst (λ (z : Happening). Alike n us ws (accepted model_ends plan l conn.0 a.memory) (happened model_ends plan (solo_loop n l us ws) z (own_met n (happening.Accepted conn) a)))
      (sym (if_not (conn.0 == n) (happening.Accepted conn) happening.Quiet ne)) (accepted_other l us ws conn.0 a.memory ne)
  happened_alike (happening.Readable conn) l us ws a ne = touched_alike Read l us ws conn a (happening.Readable conn) (λ k b. refl)
  happened_alike (happening.Writable conn) l us ws a ne = touched_alike Write l us ws conn a (happening.Writable conn) (λ k b. refl)
  happened_alike happening.Quiet l us ws a ne = quiet_alike l us ws
  happened_alike happening.Ended l us ws a ne = quiet_alike l us ws
  happened_alike happening.Failed l us ws a ne = quiet_alike l us ws

  -- ---- where it is accepted

  -- the user and the words that are its own
  abbrev RightBy : List JournalEntry → Loop ModelEnd → List Mind → Stream → Type 0
  RightBy xs l us ws = (us ≡ own_users (user_of n xs l.users)) × (ws ≡ own_words n xs l.words)

  record Joins (o p : Out (Loop ModelEnd)) : Type 0 where
    users : List Mind
    words : Stream
    alike : Alike n users words o p

  served_joins : (mind : Mind) (l : Loop ModelEnd) (us : List Mind) (k : ℕ) → (k == n) ≡ true
      → Joins (answered_by model_ends (Some mind) true plan l k) (answered_by model_ends (Some mind) true plan (solo_loop n l us l.words) k)
  served_joins mind l us k is =
      let b = begun k (answering model_ends plan l) mind in
      record {
        users = other_users us;
        words = (next_u64 l.words).1;
        alike = record {
          order = refl;
          state =
              ap (λ (z : List (Session ModelEnd)). record (solo_loop n l (other_users us) (next_u64 l.words).1) { sessions = z })
              (sym (only-append n l.sessions (b ∷ []) ∙ ap (λ z. only n l.sessions ++ z) (only_here n b [] is ∙ ap (λ z. b ∷ z) (only_none n))));
        };
      }

  next_own : (user : Option Mind) → next_user (own_users user) ≡ user
  next_own None = refl
  next_own (Some mind) = refl

  -- by the user that comes next
  answered_joins : (user : Option Mind) (memory : Bool) (l : Loop ModelEnd) (us : List Mind) (ws : Stream) (k : ℕ) (ys : List JournalEntry) → next_user l.users ≡ user → (k == n) ≡ true
      → IsNeverFull n (answered_by model_ends user memory plan l k).entries → RightBy ((answered_by model_ends user memory plan l k).entries ++ ys) l us ws
      → Joins (answered_by model_ends user memory plan l k) (answered_by model_ends user memory plan (solo_loop n l us ws) k)
  unfolding own_words
  answered_joins None memory l us ws k ys next is never right = record { users = us; words = ws; alike = record { order = refl; state = refl } }
  answered_joins (Some mind) false l us ws k ys next is never right = absurd (true≢false (never.0 is))
  answered_joins (Some mind) true l us ws k ys next is never right =
      let e : ws ≡ l.words = right.1 ∙ if_so (k == n) l.words (own_words n ys (next_u64 l.words).1) is in
      subst (λ (z : Stream). Joins (answered_by model_ends (Some mind) true plan l k) (answered_by model_ends (Some mind) true plan (solo_loop n l us z) k)) (sym e)
      (served_joins mind l us k is)

  -- which one comes next
  answered_user : (user : Option Mind) (memory : Bool) (l : Loop ModelEnd) (us : List Mind) (ws : Stream) (k : ℕ) (ys : List JournalEntry) → next_user l.users ≡ user → (k == n) ≡ true
      → NoOpening n ys → IsNeverFull n (answered_by model_ends user memory plan l k).entries → RightBy ((answered_by model_ends user memory plan l k).entries ++ ys) l us ws
      → next_user us ≡ user
  unfolding user_of
  answered_user None memory l us ws k ys next is none never right = ap next_user (right.0 ∙ ap own_users (no_user n ys l.users none)) ∙ next_own None
  answered_user (Some mind) false l us ws k ys next is none never right = absurd (true≢false (never.0 is))
  answered_user (Some mind) true l us ws k ys next is none never right =
      ap next_user (right.0 ∙ ap own_users (if_so (k == n) (next_user l.users) (user_of n ys (other_users l.users)) is ∙ next)) ∙ next_own (Some mind)

  accepted_joins : (l : Loop ModelEnd) (us : List Mind) (ws : Stream) (k : ℕ) (memory : Bool) (ys : List JournalEntry) → (k == n) ≡ true → only n l.sessions ≡ [] → NoOpening n ys
      → IsNeverFull n (accepted model_ends plan l k memory).entries → RightBy ((accepted model_ends plan l k memory).entries ++ ys) l us ws
      → Joins (accepted model_ends plan l k memory) (accepted model_ends plan (solo_loop n l us ws) k memory)
  unfolding accepted
  accepted_joins l us ws k memory ys is new none never right =
      elim (cases_Bool (nat_lt (length l.sessions) most_live)) [
        | inl p ↦
            let user = next_user l.users in
            let here : accepted model_ends plan l k memory ≡ answered_by model_ends user memory plan l k =
            if_so (nat_lt (length l.sessions) most_live) (answered_by model_ends user memory plan l k) (turned_away l k (event.Full most_live)) p in
            let never_now : IsNeverFull n (answered_by model_ends user memory plan l k).entries = subst (λ (z : Out (Loop ModelEnd)). IsNeverFull n z.entries) here never in
            let right_now : RightBy ((answered_by model_ends user memory plan l k).entries ++ ys) l us ws =
            subst (λ (z : Out (Loop ModelEnd)). RightBy (z.entries ++ ys) l us ws) here right in
            let fits : nat_lt (length (only n l.sessions)) most_live ≡ true = subst (λ z. nat_lt (length z) most_live ≡ true) (sym new) refl in
            let there : accepted model_ends plan (solo_loop n l us ws) k memory ≡ answered_by model_ends user memory plan (solo_loop n l us ws) k =
            if_so (nat_lt (length (only n l.sessions)) most_live) (answered_by model_ends (next_user us) memory plan (solo_loop n l us ws) k)
            (turned_away (solo_loop n l us ws) k (event.Full most_live)) fits
            ∙ ap (λ (z : Option Mind). answered_by model_ends z memory plan (solo_loop n l us ws) k) (answered_user user memory l us ws k ys refl is none never_now right_now) in
            subst (λ z. Joins (accepted model_ends plan l k memory) z) (sym there)
            (subst (λ z. Joins z (answered_by model_ends user memory plan (solo_loop n l us ws) k)) (sym here)
            (answered_joins user memory l us ws k ys refl is never_now right_now))
        | inr p ↦
            let here : accepted model_ends plan l k memory ≡ turned_away l k (event.Full most_live) =
            if_not (nat_lt (length l.sessions) most_live) (answered_by model_ends (next_user l.users) memory plan l k) (turned_away l k (event.Full most_live)) p in
            let never_now : IsNeverFull n (turned_away l k (event.Full most_live)).entries = subst (λ (z : Out (Loop ModelEnd)). IsNeverFull n z.entries) here never in
            absurd (true≢false (never_now.0 is))
      ]

  -- ---- what is left of the events, for those behind

  answered_passes : (user : Option Mind) (memory : Bool) (l : Loop ModelEnd) (us : List Mind) (ws : Stream) (k : ℕ) (ys : List JournalEntry)
      → nat_lt (length l.sessions) most_live ≡ true → (k == n) ≡ false
      → RightBy ((answered_by model_ends user memory plan l k).entries ++ ys) l us ws → RightBy ys (answered_by model_ends user memory plan l k).state us ws
  unfolding user_of own_words
  answered_passes None memory l us ws k ys fits ne right = right
  answered_passes (Some mind) false l us ws k ys fits ne right =
      let behind = own_words n ys (next_u64 l.words).1 in (
        right.0,
        right.1 ∙ if_so (nat_lt (length l.sessions) most_live) (if k == n then l.words else behind) (own_words n ys l.words) fits ∙ if_not (k == n) l.words behind ne,
      )
  answered_passes (Some mind) true l us ws k ys fits ne right = (
    right.0 ∙ ap own_users (if_not (k == n) (next_user l.users) (user_of n ys (other_users l.users)) ne),
    right.1 ∙ if_not (k == n) l.words (own_words n ys (next_u64 l.words).1) ne,
  )

  full_passes : (l : Loop ModelEnd) (us : List Mind) (ws : Stream) (k : ℕ) (ys : List JournalEntry)
      → RightBy ((turned_away l k (event.Full most_live)).entries ++ ys) l us ws → RightBy ys (turned_away l k (event.Full most_live)).state us ws
  unfolding user_of own_words
  full_passes l us ws k ys right = right

  accepted_passes : (l : Loop ModelEnd) (us : List Mind) (ws : Stream) (k : ℕ) (memory : Bool) (ys : List JournalEntry) → (k == n) ≡ false
      → RightBy ((accepted model_ends plan l k memory).entries ++ ys) l us ws → RightBy ys (accepted model_ends plan l k memory).state us ws
  unfolding accepted
  accepted_passes l us ws k memory ys ne =
      elim (cases_Bool (nat_lt (length l.sessions) most_live)) [
        | inl p ↦ rw p (λ right. answered_passes (next_user l.users) memory l us ws k ys p ne right)
        | inr p ↦ rw p (λ right. full_passes l us ws k ys right)
      ]

  visit_passes : (visit : Visit) (l : Loop ModelEnd) (us : List Mind) (ws : Stream) (k : ℕ) (a : Met) (ys : List JournalEntry)
      → RightBy ((visited_at model_ends plan l visit k a).entries ++ ys) l us ws → RightBy ys (visited_at model_ends plan l visit k a).state us ws
  visit_passes visit l us ws k a ys right =
      let xs = (visit_at (visited model_ends (rules_of plan) l.moment visit) k l.sessions a).entries in
      let none = visit_declined (rules_of plan) l.moment visit k l.sessions a in
      (right.0 ∙ ap own_users (declined_user n xs ys l.users none), right.1 ∙ declined_words n xs ys l.words none)

  happened_passes : (what : Happening) (l : Loop ModelEnd) (us : List Mind) (ws : Stream) (a : Met) (ys : List JournalEntry) → accepts n what ≡ false
      → RightBy ((happened model_ends plan l what a).entries ++ ys) l us ws → RightBy ys (happened model_ends plan l what a).state us ws
  unfolding happened
  happened_passes (happening.Accepted conn) l us ws a ys ne right = accepted_passes l us ws conn.0 a.memory ys ne right
  happened_passes (happening.Readable conn) l us ws a ys ne right = visit_passes Read l us ws conn.0 a ys right
  happened_passes (happening.Writable conn) l us ws a ys ne right = visit_passes Write l us ws conn.0 a ys right
  happened_passes happening.Quiet l us ws a ys ne right = right
  happened_passes happening.Ended l us ws a ys ne right = right
  happened_passes happening.Failed l us ws a ys ne right = right

  readied_passes : (c : Course ModelEnd) (a : Turn) (us : List Mind) (ws : Stream) (xs ys : List JournalEntry)
      → RightBy (((readied model_ends plan c a).entries ++ xs) ++ ys) c.loop us ws → RightBy (xs ++ ys) (asks a.second (readied model_ends plan c a).state).loop us ws
  unfolding readied
  readied_passes c a us ws xs ys right =
      let ds = (readied model_ends plan c a).entries in
      let none = readied_declined plan c a in (
        right.0 ∙ ap own_users (ap (λ z. user_of n z c.loop.users) (append_assoc ds xs ys) ∙ declined_user n ds (xs ++ ys) c.loop.users none),
        right.1 ∙ ap (λ z. own_words n z c.loop.words) (append_assoc ds xs ys) ∙ declined_words n ds (xs ++ ys) c.loop.words none,
      )

  -- ---- a turn

  record Stepped (us : List Mind) (ws : Stream) (o p : Out (Course ModelEnd)) : Type 0 where
    order : deeds_on n o.order ≡ deeds_on n p.order
    state : p.state ≡ solo n o.state us ws

  -- what is known before a turn whose part this is, and of the events behind it
  record Known (top : ℕ) (c : Course ModelEnd) (us : List Mind) (ws : Stream) (o : Out (Course ModelEnd)) (ys : List JournalEntry) : Type 0 where
    ordered : Ordered top c.loop.sessions
    rises : Rises top (opened_in o.calls)
    never : IsNeverFull n o.entries
    right : top < n → RightBy (o.entries ++ ys) c.loop us ws
    later : n ≤ newest top (opened_in o.calls) → NoOpening n ys

  -- and behind it
  record Goes (top : ℕ) (l : Loop ModelEnd) (us : List Mind) (ws : Stream) (o p : Out (Course ModelEnd)) : Type 0 where
    users : List Mind
    words : Stream
    stepped : Stepped users words o p
    right : newest top (opened_in o.calls) < n → (ys : List JournalEntry) → RightBy (o.entries ++ ys) l us ws → RightBy ys o.state.loop users words

  no_both : (a b : ℕ) → a < b → b ≤ a → ⊥
  no_both a b p q = let x : ⊥ = omega arith in x

  module _ (dials : plan.dials ≡ false) where
    no_halt : (ss : List (Session ModelEnd)) → halt_by plan ss ≡ None
    no_halt ss = let g : Bool → Option Halt = λ b. if b && (length ss == 0) then Some OnClosed else None in ap g dials

    same_halt : (ss ts : List (Session ModelEnd)) → halt_by plan ts ≡ halt_by plan ss
    same_halt ss ts = no_halt ts ∙ sym (no_halt ss)

    behind_same : (what : Happening) (ss ts : List (Session ModelEnd)) → halt_behind plan (own_happening n what) ts ≡ halt_behind plan what ss
    behind_same (happening.Accepted conn) ss ts = elim (cases_Bool (conn.0 == n)) [ inl p ↦ rw p (same_halt ss ts) | inr p ↦ rw p (same_halt ss ts) ]
    behind_same (happening.Readable conn) ss ts = elim (cases_Bool (conn.0 == n)) [ inl p ↦ rw p (same_halt ss ts) | inr p ↦ rw p (same_halt ss ts) ]
    behind_same (happening.Writable conn) ss ts = elim (cases_Bool (conn.0 == n)) [ inl p ↦ rw p (same_halt ss ts) | inr p ↦ rw p (same_halt ss ts) ]
    behind_same happening.Quiet ss ts = same_halt ss ts
    behind_same happening.Ended ss ts = refl
    behind_same happening.Failed ss ts = refl

    -- what comes before it
    readied_steps : (c : Course ModelEnd) (us : List Mind) (ws : Stream) (a : Turn) → Rises 0 (numbers c.loop.sessions)
        → Stepped us ws (readied model_ends plan c a) (readied model_ends plan (solo n c us ws) (own_turn n (numbers c.loop.sessions) a))
    unfolding readied
    readied_steps c us ws a rises =
        let m = max c.loop.moment a.first in
        let own : Sweeps = record { ticks = own_ticks n a.sweeps.ticks (numbers c.loop.sessions); closings = [] } in
        let h = before_beside (rules_of plan) m n c.loop.sessions a.sweeps rises in
        let b = before model_ends (rules_of plan) m c.loop.sessions a.sweeps in
        let k = before model_ends (rules_of plan) m (only n c.loop.sessions) own in
        let g : List (Session ModelEnd) → Option Halt → Course ModelEnd =
        λ ss halt. record { loop = record { sessions = ss; users = us; moment = m; words = ws }; turns = c.turns; halt = halt; asked = c.asked ++ a.first ∷ [] } in
        record { order = h.order; state = ap₂ g h.state (same_halt b.state k.state) }

    readied_none : (c : Course ModelEnd) (us : List Mind) (ws : Stream) (a : Turn) → Rises 0 (numbers c.loop.sessions) → only n c.loop.sessions ≡ []
        → only n (readied model_ends plan c a).state.loop.sessions ≡ []
    unfolding readied before swept
    readied_none c us ws a rises none =
        let own : Sweeps = record { ticks = own_ticks n a.sweeps.ticks (numbers c.loop.sessions); closings = [] } in
        sym (ap (λ (z : Course ModelEnd). z.loop.sessions) (readied_steps c us ws a rises).state)
        ∙ ap (λ z. (before model_ends (rules_of plan) (max c.loop.moment a.first) z own).state) none

    halted_not : (c : Course ModelEnd) (a : Turn) → (readied model_ends plan c a).state.halt ≡ None
    unfolding readied
    halted_not c a = no_halt (before model_ends (rules_of plan) (max c.loop.moment a.first) c.loop.sessions a.sweeps).state

    -- the turn itself, and what follows it
    abbrev turned_by : Course ModelEnd → Happening → ℕ → Met → Out (Course ModelEnd)
    turned_by d what at met =
        let e : Course ModelEnd = record (asks at d) { turns = d.turns + 1 } in
        next (makes (Turns (until model_ends d.loop.sessions) what) e)
        (λ e. changed (λ l. record e { loop = l; halt = halt_behind plan what l.sessions }) (happened model_ends plan e.loop what met))

    turned_steps : (d : Course ModelEnd) (us vs : List Mind) (ws xs : Stream) (what : Happening) (at : ℕ) (met own : Met)
        → Alike n vs xs (happened model_ends plan (asks at d).loop what met) (happened model_ends plan (solo_loop n (asks at d).loop us ws) (own_happening n what) own)
        → Stepped vs xs (turned_by d what at met) (turned_by (solo n d us ws) (own_happening n what) at own)
    unfolding deeds_on
    turned_steps d us vs ws xs what at met own alike =
        let h = happened model_ends plan (asks at d).loop what met in
        let k = happened model_ends plan (solo_loop n (asks at d).loop us ws) (own_happening n what) own in
        let g : Loop ModelEnd → Option Halt → Course ModelEnd = λ l halt. record { loop = l; turns = d.turns + 1; halt = halt; asked = d.asked ++ at ∷ [] } in
        record { order = alike.order; state = ap₂ g alike.state (behind_same what h.state.sessions k.state.sessions) }

    abbrev went_by : Course ModelEnd → Turn → Happening → Met → Out (Course ModelEnd)
    went_by c a what met = next (readied model_ends plan c a) (λ d. turned_by d what a.second met)

    went_now : (c : Course ModelEnd) (a : Turn) → c.halt ≡ None → went model_ends plan c a ≡ went_by c a a.happening a.met
    went_now c a going = went_goes plan c a going (halted_not c a)

    went_steps : (c : Course ModelEnd) (us vs : List Mind) (ws xs : Stream) (a : Turn) (what : Happening) (met own : Met) → Rises 0 (numbers c.loop.sessions)
        → Alike n vs xs (happened model_ends plan (asks a.second (readied model_ends plan c a).state).loop what met)
        (happened model_ends plan (solo_loop n (asks a.second (readied model_ends plan c a).state).loop us ws) (own_happening n what) own)
        → Stepped vs xs (went_by c a what met) (went_by (solo n c us ws) (own_turn n (numbers c.loop.sessions) a) (own_happening n what) own)
    went_steps c us vs ws xs a what met own rises alike =
        let d = readied model_ends plan c a in
        let k = readied model_ends plan (solo n c us ws) (own_turn n (numbers c.loop.sessions) a) in
        let r = readied_steps c us ws a rises in
        let t : Stepped vs xs (turned_by d.state what a.second met) (turned_by k.state (own_happening n what) a.second own) =
        subst (λ (z : Course ModelEnd). Stepped vs xs (turned_by d.state what a.second met) (turned_by z (own_happening n what) a.second own)) (sym r.state)
        (turned_steps d.state us vs ws xs what a.second met own alike) in
        record {
          order = deeds_on_two n d.order (turned_by d.state what a.second met).order k.order (turned_by k.state (own_happening n what) a.second own).order r.order t.order;
          state = t.state;
        }

    -- where it isn't accepted
    goes_other : (what : Happening) (c : Course ModelEnd) (a : Turn) (top : ℕ) (us : List Mind) (ws : Stream) (met : Met) (ys : List JournalEntry) → accepts n what ≡ false
        → Known top c us ws (went_by c a what met) ys
        → Goes top c.loop us ws (went_by c a what met) (went_by (solo n c us ws) (own_turn n (numbers c.loop.sessions) a) (own_happening n what) (own_met n what met))
    goes_other what c a top us ws met ys ne known =
        let l = (asks a.second (readied model_ends plan c a).state).loop in
        record {
          users = us;
          words = ws;
          stepped = went_steps c us us ws ws a what met (own_met n what met) known.ordered.rises (happened_alike what l us ws met ne);
          right = λ lt zs right. happened_passes what l us ws met zs ne (readied_passes c a us ws (happened model_ends plan l what met).entries zs right);
        }

    -- where it is
    opens_it : (c : Course ModelEnd) (a : Turn) (conn : Conn) (met : Met)
        → opened_in (went_by c a (happening.Accepted conn) met).calls
        ≡ conn.0 ∷ opened_in (happened model_ends plan (asks a.second (readied model_ends plan c a).state).loop (happening.Accepted conn) met).calls
    unfolding opened_in
    opens_it c a conn met =
        let d = readied model_ends plan c a in
        let t = turned_by d.state (happening.Accepted conn) a.second met in
        opened_in-append d.calls t.calls ∙ ap (λ z. z ++ opened_in t.calls) (readied_opens plan c a)

    goes_new : (conn : Conn) (c : Course ModelEnd) (a : Turn) (top : ℕ) (us : List Mind) (ws : Stream) (met : Met) (ys : List JournalEntry) → (conn.0 == n) ≡ true
        → Known top c us ws (went_by c a (happening.Accepted conn) met) ys
        → Goes top c.loop us ws (went_by c a (happening.Accepted conn) met)
        (went_by (solo n c us ws) (own_turn n (numbers c.loop.sessions) a) (own_happening n (happening.Accepted conn)) (own_met n (happening.Accepted conn) met))
    unfolding happened
    goes_new conn c a top us ws met ys is known =
        let d = readied model_ends plan c a in
        let l = (asks a.second d.state).loop in
        let o = went_by c a (happening.Accepted conn) met in
        let h = happened model_ends plan l (happening.Accepted conn) met in
        let opens = opens_it c a conn met in
        let num : conn.0 ≡ n = eqb-true conn.0 n is in
        let rise : Rises top (conn.0 ∷ opened_in h.calls) = subst (λ z. Rises top z) opens known.rises in
        let above : top < n = subst (λ z. top < z) num rise.0 in
        let upto : conn.0 ≤ newest conn.0 (opened_in h.calls) = newest_later conn.0 (opened_in h.calls) rise.1 in
        let le : n ≤ newest top (opened_in o.calls) =
        subst (λ z. n ≤ newest top z) (sym opens) (subst (λ z. z ≤ newest conn.0 (opened_in h.calls)) num upto) in
        let new : only n l.sessions ≡ [] = readied_none c us ws a known.ordered.rises (only_above n top c.loop.sessions known.ordered.up_to above) in
        let j = accepted_joins l us ws conn.0 met.memory ys is new (known.later le) (never_rest n d.entries h.entries known.never) (readied_passes c a us ws h.entries ys (known.right above)) in
        let own = own_met n (happening.Accepted conn) met in
        let alike : Alike n j.users j.words h (happened model_ends plan (solo_loop n l us ws) (own_happening n (happening.Accepted conn)) own) =
        subst (λ (z : Happening). Alike n j.users j.words h (happened model_ends plan (solo_loop n l us ws) z own))
        (sym (if_so (conn.0 == n) (happening.Accepted conn) happening.Quiet is))
        (subst (λ (z : Met). Alike n j.users j.words h (happened model_ends plan (solo_loop n l us ws) (happening.Accepted conn) z))
        (sym (if_so (conn.0 == n) met nothing_met is)) j.alike) in
        record {
          users = j.users;
          words = j.words;
          stepped = went_steps c us j.users ws j.words a (happening.Accepted conn) met own known.ordered.rises alike;
          right = λ lt zs right. absurd (no_both (newest top (opened_in o.calls)) n lt le);
        }

    goes_what : (what : Happening) (c : Course ModelEnd) (a : Turn) (top : ℕ) (us : List Mind) (ws : Stream) (met : Met) (ys : List JournalEntry)
        → Known top c us ws (went_by c a what met) ys
        → Goes top c.loop us ws (went_by c a what met) (went_by (solo n c us ws) (own_turn n (numbers c.loop.sessions) a) (own_happening n what) (own_met n what met))
    goes_what (happening.Accepted conn) c a top us ws met ys known =
        elim (cases_Bool (conn.0 == n)) [
          | inl is ↦ goes_new conn c a top us ws met ys is known
          | inr ne ↦ goes_other (happening.Accepted conn) c a top us ws met ys ne known
        ]
    goes_what (happening.Readable conn) c a top us ws met ys known = goes_other (happening.Readable conn) c a top us ws met ys refl known
    goes_what (happening.Writable conn) c a top us ws met ys known = goes_other (happening.Writable conn) c a top us ws met ys refl known
    goes_what happening.Quiet c a top us ws met ys known = goes_other happening.Quiet c a top us ws met ys refl known
    goes_what happening.Ended c a top us ws met ys known = goes_other happening.Ended c a top us ws met ys refl known
    goes_what happening.Failed c a top us ws met ys known = goes_other happening.Failed c a top us ws met ys refl known

    goes_halted : (c : Course ModelEnd) (top : ℕ) (us : List Mind) (ws : Stream) (ys : List JournalEntry) → Known top c us ws (still c) ys
        → Goes top c.loop us ws (still c) (still (solo n c us ws))
    goes_halted c top us ws ys known = record { users = us; words = ws; stepped = record { order = refl; state = refl }; right = λ lt zs right. right }

    goes_from : (halt : Option Halt) (c : Course ModelEnd) (a : Turn) (top : ℕ) (us : List Mind) (ws : Stream) (ys : List JournalEntry) → c.halt ≡ halt
        → Known top c us ws (went model_ends plan c a) ys
        → Goes top c.loop us ws (went model_ends plan c a) (went model_ends plan (solo n c us ws) (own_turn n (numbers c.loop.sessions) a))
    goes_from None c a top us ws ys is =
        let own = own_turn n (numbers c.loop.sessions) a in
        subst (λ (z : Out (Course ModelEnd)). Known top c us ws (went model_ends plan c a) ys → Goes top c.loop us ws (went model_ends plan c a) z)
        (sym (went_now (solo n c us ws) own is))
        (subst (λ (z : Out (Course ModelEnd)). Known top c us ws z ys → Goes top c.loop us ws z (went_by (solo n c us ws) own own.happening own.met)) (sym (went_now c a is))
        (goes_what a.happening c a top us ws a.met ys))
    goes_from (Some halt) c a top us ws ys is =
        let own = own_turn n (numbers c.loop.sessions) a in
        subst (λ (z : Out (Course ModelEnd)). Known top c us ws (went model_ends plan c a) ys → Goes top c.loop us ws (went model_ends plan c a) z)
        (sym (went_halted plan (solo n c us ws) own halt is))
        (subst (λ (z : Out (Course ModelEnd)). Known top c us ws z ys → Goes top c.loop us ws z (still (solo n c us ws))) (sym (went_halted plan c a halt is)) (goes_halted c top us ws ys))

    -- ---- turn by turn

    record Followed (o p : Out (Course ModelEnd)) : Type 0 where
      order : deeds_on n o.order ≡ deeds_on n p.order
      sessions : p.state.loop.sessions ≡ only n o.state.loop.sessions

    ordered_on : (c : Course ModelEnd) (a : Turn) (top : ℕ) → Rises top (opened_in (went model_ends plan c a).calls) → Ordered top c.loop.sessions
        → Ordered (newest top (opened_in (went model_ends plan c a).calls)) (went model_ends plan c a).state.loop.sessions
    unfolding InOrder
    ordered_on c a top rises ordered = wise_went plan InOrder (in_order plan) c a top rises ordered

    lower : (a b c : ℕ) → a ≤ b → b < c → a < c
    lower a b c p q = omega arith

    follow : (turns : List Turn) (c : Course ModelEnd) (top : ℕ) (us : List Mind) (ws : Stream) → Ordered top c.loop.sessions
        → Rises top (opened_in (acts (went model_ends plan) c turns).calls) → IsNeverFull n (acts (went model_ends plan) c turns).entries
        → (top < n → RightBy (acts (went model_ends plan) c turns).entries c.loop us ws)
        → Followed (acts (went model_ends plan) c turns) (acts (went model_ends plan) (solo n c us ws) (own_turns n plan c turns))
    unfolding acts own_turns
    follow [] c top us ws ordered rises never right = record { order = refl; sessions = refl }
    follow (a ∷ turns) c top us ws ordered rises never right =
        let o = went model_ends plan c a in
        let rest = acts (went model_ends plan) o.state turns in
        let p = went model_ends plan (solo n c us ws) (own_turn n (numbers c.loop.sessions) a) in
        let now = newest top (opened_in o.calls) in
        let both : Rises top (opened_in o.calls ++ opened_in rest.calls) = subst (λ z. Rises top z) (opened_in-append o.calls rest.calls) rises in
        let here = rises_first top (opened_in o.calls) (opened_in rest.calls) both in
        let later = rises_rest top (opened_in o.calls) (opened_in rest.calls) both in
        let known : Known top c us ws o rest.entries = record {
          ordered = ordered;
          rises = here;
          never = never_first n o.entries rest.entries never;
          right = right;
          later = λ le. later_unopened plan n now o.state turns le later;
        } in
        let g = goes_from c.halt c a top us ws rest.entries refl known in
        let behind =
        follow turns o.state now g.users g.words (ordered_on c a top here ordered) later (never_rest n o.entries rest.entries never)
        (λ lt. g.right lt rest.entries (right (lower top now n (newest_later top (opened_in o.calls) here) lt))) in
        let others = own_turns n plan o.state turns in
        let there : Followed rest (acts (went model_ends plan) p.state others) =
        subst (λ (z : Course ModelEnd). Followed rest (acts (went model_ends plan) z others)) (sym g.stepped.state) behind in
        record {
          order = deeds_on_two n o.order rest.order p.order (acts (went model_ends plan) p.state others).order g.stepped.order there.order;
          sessions = there.sessions;
        }

-- ---- the run

pub exactly_own : (n : ℕ) (plan : Plan) (k : ℕ) (turns : List Turn) (c : Course ModelEnd)
    → own_turns n plan c (exactly k nothing_comes turns) ≡ exactly k nothing_comes (own_turns n plan c turns)
unfolding exactly own_turns own_ticks
exactly_own n plan zero turns c = refl
exactly_own n plan (suc k) [] c = ap (λ z. nothing_comes ∷ z) (exactly_own n plan k [] (went model_ends plan c nothing_comes).state)
exactly_own n plan (suc k) (a ∷ turns) c = ap (λ z. own_turn n (numbers c.loop.sessions) a ∷ z) (exactly_own n plan k turns (went model_ends plan c a).state)

entries_same : (n : ℕ) (o p : Out (Course ModelEnd)) → HasOrder o → HasOrder p → deeds_on n o.order ≡ deeds_on n p.order → of n o.entries ≡ of n p.entries
entries_same n o p x y e =
    sym (ap (λ z. of n z) x.entries) ∙ sym (entries_of_deeds n o.order) ∙ ap entries_in e ∙ entries_of_deeds n p.order ∙ ap (λ z. of n z) y.entries

calls_same : (n : ℕ) (o p : Out (Course ModelEnd)) → HasOrder o → HasOrder p → deeds_on n o.order ≡ deeds_on n p.order → calls_at n o.calls ≡ calls_at n p.calls
calls_same n o p x y e =
    sym (ap (λ z. calls_at n z) x.calls) ∙ sym (calls_of_deeds n o.order) ∙ ap calls_in e ∙ calls_of_deeds n p.order ∙ ap (λ z. calls_at n z) y.calls

pub same_at : (n : ℕ) (o p : Out (Course ModelEnd)) → HasOrder o → HasOrder p → deeds_on n o.order ≡ deeds_on n p.order
    → p.state.loop.sessions ≡ only n o.state.loop.sessions → IsSameAt n o p
same_at n o p x y e f =
    let xs = entries_same n o p x y e in
    let cs = calls_same n o p x y e in
    record {
      order = e;
      entries = xs;
      calls = cs;
      given = given_at n o.calls ∙ ap given_in cs ∙ sym (given_at n p.calls);
      heard = ap hearing xs;
      session = sym (session_of_only n o.state.loop.sessions) ∙ ap (λ z. session_of_connection n z) (sym f);
    }

alone : (plan : Plan) (c : Course ModelEnd) (turns : List Turn) → IsServing plan c turns → plan.dials ≡ false → (n : ℕ) → IsNeverFull n (run model_ends plan c turns).entries
    → IsSameAt n (run model_ends plan c turns) (run_over plan (own_outside n plan c turns))
unfolding run UpTo
alone plan c turns h dials n never =
    let given = exactly plan.turns nothing_comes turns in
    let o = acts (went model_ends plan) c given in
    let us = own_users (user_of n o.entries c.loop.users) in
    let ws = own_words n o.entries c.loop.words in
    let start : Ordered 0 c.loop.sessions = subst (λ z. Ordered 0 z) (sym h.none) (record { rises = tt; up_to = tt }) in
    let f = follow plan n dials given c 0 us ws start h.rises never (λ lt. (refl, refl)) in
    let outside = own_outside n plan c turns in
    let g : List (Session ModelEnd) → Course ModelEnd =
    λ ss. record { loop = record { sessions = ss; users = us; moment = c.loop.moment; words = ws }; turns = c.turns; halt = c.halt; asked = c.asked } in
    let begin : solo n c us ws ≡ outside.course = ap g (ap (λ z. only n z) h.none ∙ only_none n ∙ sym h.none) in
    let same : acts (went model_ends plan) (solo n c us ws) (own_turns n plan c given) ≡ run_over plan outside =
    ap₂ (λ (z : Course ModelEnd) (own : List Turn). acts (went model_ends plan) z own) begin (exactly_own n plan plan.turns turns c) in
    same_at n o (run_over plan outside) (order_run model_ends plan c turns) (order_run model_ends plan outside.course outside.turns)
    (f.order ∙ ap (λ (z : Out (Course ModelEnd)). deeds_on n z.order) same) (sym (ap (λ (z : Out (Course ModelEnd)). z.state.loop.sessions) same) ∙ f.sessions)

joined : (n : ℕ) (o p q : Out (Course ModelEnd)) → IsSameAt n o q → IsSameAt n p q → IsSameAt n o p
joined n o p q a b = record {
  order = a.order ∙ sym b.order;
  entries = a.entries ∙ sym b.entries;
  calls = a.calls ∙ sym b.calls;
  given = a.given ∙ sym b.given;
  heard = a.heard ∙ sym b.heard;
  session = a.session ∙ sym b.session;
}

pub connections_stand_alone : ConnectionsStandAlone
connections_stand_alone = record {
  each = never_or_away;
  alone = alone;
  two = λ plan c d turns others h k dials n never_c never_d same.
      let one = run_over plan (own_outside n plan d others) in
      joined n (run model_ends plan c turns) (run model_ends plan d others) one
      (subst (λ (z : Out (Course ModelEnd)). IsSameAt n (run model_ends plan c turns) z) (ap (λ (z : Outside). run_over plan z) same) (alone plan c turns h dials n never_c))
      (alone plan d others k dials n never_d);
}
