-- A replay refuses no event of a journal.
use Rattle.loop_model.specs.Ends.{ModelEnd, model_ends}
use Rattle.std.proofs.Common.{◌≡◌, ℕ, ◌+◌, ◌≤◌, max, inl, inr, Bool, true, false, ◌&&◌, ◌||◌, not, List, [], ◌∷◌, ◌++◌, length, Option, Some, None, refl, sym, ◌∙◌, ap, subst, append-nil, append_assoc, arith, eqb-true, true≢false}
use Rattle.std.specs.Prelude.{nat_lt, ◌==◌, is_some}
use Rattle.std.proofs.lemmas.Bool.{cases_Bool}
use Rattle.std.proofs.Math.Nat.{le-max_left}
use Rattle.er_settings.specs.Ranges.{AllAllowed}
use Rattle.safety_automaton.specs.Keys.{key_at}
use Rattle.er_end_model.specs.Ends.{End}
use Rattle.er_end_model.specs.Layers.{model}
use Rattle.er_end_model.specs.Outcomes.{Outcome}
use Rattle.loop_model.proofs.EndKeepings.{waiting_in}
use Rattle.loop_model.proofs.EndKeepings.{WaitsMove, OctetsBring, ReleaseStays, BreaksRelease}
use Rattle.loop_model.proofs.EndKeepings.{EndStands, StepsAlike, MadeStands, ShowsAlike}
use Rattle.er_trace.specs.declared.entry.Entry.{Entry as Event_line}
use Rattle.er_trace.specs.declared.event.Event.{Event}
use Rattle.er_trace.specs.declared.event.Event.TheVariants as event
use Rattle.er_users.specs.Users.{Mind}
use Rattle.rand_core.specs.Stream.{next_u64}
use Rattle.trace_model.specs.Connections.{end_at}
use Rattle.trace_model.specs.Printed.{entries_text}
use Rattle.trace_model.specs.Checks.{Declines, Belongs, role_of, last_moment, is_named, is_opened, is_live, connections_opened_in_trace as named_in, live_count, most_live}
use Rattle.link_trait.specs.Wires.{Call, Reading, Reads, Dials, Turns, Closes}
use Rattle.link_trait.specs.declared.wires.Conn.{Conn}
use Rattle.link_trait.specs.declared.wires.Happening.TheVariants as happening
use Rattle.loop_model.specs.Journals.{JournalEntry, trace_header, text, trace_line_of, trace_lines_of}
use Rattle.loop_model.specs.Outs.{first_answer_of}
use Rattle.loop_model.specs.Sessions.{Rules, Session, GivenToSession, Begins, Hears, Sends, Takes, Leaves, Ticks, Ends, Faults, Stalls, journal_event_of_given, is_released, entry_of, end_after, outcomes_of_given_event, most_output, octets_in, breaks, joined, fed, Says, nothing_said, handled}
use Rattle.loop_model.specs.Visits.{most_read, Met, Visit, visited, rests, served}
use Rattle.loop_model.specs.Loops.{Plan, rules_of, Loop, with_sessions, visit_at, next_user, answering, Caller, calling, called_by, called, Course, asks, Turn, run, Dialled, opens, dials_to, dials, begun_dial}
use Rattle.loop_model.specs.Parts.{session_of_connection, of, opened_in, Rises, newest}
use Rattle.loop_model.specs.Laws.{IsServing, IsDialling}
use Rattle.loop_model.specs.Recordings.{AreEvents, ReplaysTo, RecordingsReplay}
use Rattle.loop_model.proofs.Projections.{opened_in-append as opens-append, rises_first, rises_rest, newest-append}
use Rattle.loop_model.proofs.Steadies.{SteadyAt, Steady, Usual, steady_handled, follows_handled_at, Calls, CallsAt, AllLeft, all_left_of, Left, Stays, Closed, is_over, left_rests_at, left_visited_at}
use Rattle.loop_model.proofs.Lives.{Own, Keeps, Fits, Knows, knows_none, moved, knows_moved, knows_turned, accepted_above, knows_opened, knows_away, same}
use Rattle.loop_model.proofs.Dialling.{first_handled, knows_called}
use Rattle.loop_model.proofs.Owns.{Bare, Both, calls_both, usual_calls, usual_calls_at}
use Rattle.loop_model.proofs.Loopwise.{below_most}
use Rattle.loop_model.proofs.Momentwise.{Momentwise, moment_run}
use Rattle.loop_model.proofs.Printings as printings
use Rattle.loop_model.proofs.Printings.{IsOfEnd, all_of_end}
use Rattle.loop_model.proofs.Resting.{Sound, Sounds, Rests, sounds_calls, sounds_steadily, rests_calls, handled_none}
use Rattle.loop_model.proofs.Taking.{PassesAs, AllPass, all_pass-append, UpTo, up_to-append, up_to_more, not_before, lines-append, opened_own, unnamed, opened_more, opened_in-append, few_live, not_many, are_taken, all_pass_plain, text_plain}

-- ---- events of an end

of_end : (k : ModelEnd) (g : GivenToSession) → IsOfEnd g → role_of (journal_event_of_given model_ends k g) ≡ Belongs
of_end k (Begins engine rbc rb) p = absurd p
of_end k (Hears octets) p = refl
of_end k (Sends text) p = refl
of_end k Takes p = refl
of_end k (Leaves sub) p = refl
of_end k Ticks p = refl
of_end k Ends p = refl
of_end k Faults p = refl
of_end k Stalls p = refl

-- an event of an end, at this moment and this connection
pub record IsPlain (m n : ℕ) (x : JournalEntry) : Type 0 where
  pub moment : x.moment ≡ m
  pub conn : x.conn ≡ n
  pub role : role_of x.event ≡ Belongs

abbrev pub ArePlain : ℕ → ℕ → List JournalEntry → Type 0
ArePlain m n [] = Unit {0}
ArePlain m n (x ∷ xs) = IsPlain m n x × ArePlain m n xs

pub plain-append : (m n : ℕ) (xs ys : List JournalEntry) → ArePlain m n xs → ArePlain m n ys → ArePlain m n (xs ++ ys)
plain-append m n [] ys p q = q
plain-append m n (x ∷ xs) ys p q = (p.0, plain-append m n xs ys p.1 q)

unfoldable pub Plainly : ℕ → Session ModelEnd → Session ModelEnd → List JournalEntry → List Call → Type 0
Plainly m s t xs cs = (t.number ≡ s.number) × ArePlain m s.number xs

pub plainly : (r : Rules) (m : ℕ) → SteadyAt r m IsOfEnd (Plainly m)
unfolding Plainly
plainly r m = record {
  none = λ s. (refl, tt);
  then_ = λ s t u xs ys cs ds p q. (q.0 ∙ p.0, plain-append m s.number xs ys p.1 (subst (λ z. ArePlain m z ys) p.0 q.1));
  given = λ s g allowed fits. (refl, (record { moment = refl; conn = refl; role = of_end s.end g allowed }, tt));
  stalls = λ s g allowed fits. (
    refl,
    (record { moment = refl; conn = refl; role = of_end s.end g allowed }, (record { moment = refl; conn = refl; role = refl }, tt)),
  );
  heard = λ s mind. (refl, tt);
  parts = λ s told at gone. (refl, tt);
}

plain_bare : (m : ℕ) → Bare (Plainly m)
unfolding Plainly
plain_bare m = record { wrote = λ s n whole. (refl, tt); put_off = λ s. (refl, tt); failed = λ s. (refl, tt); breaks = λ s gone. (refl, tt); noted = λ s. (refl, tt) }

plain_reads : (m : ℕ) (s : Session ModelEnd) (waits : ℕ) (reading : Reading) → Plainly m s s [] (Reads s.number most_read waits reading ∷ [])
unfolding Plainly
plain_reads m s waits reading = (refl, tt)

pub plain_calls : (r : Rules) (m : ℕ) → CallsAt r m (Plainly m)
plain_calls r m = usual_calls_at r m IsOfEnd (Plainly m) (plainly r m) all_of_end (plain_bare m) (plain_reads m)

pub plain_left : (m : ℕ) (s : Session ModelEnd) (ts : List (Session ModelEnd)) (xs : List JournalEntry) (cs : List Call) → Left (Plainly m) s ts xs cs → ArePlain m s.number xs
unfolding Plainly
plain_left m s ts xs cs (Stays t p q) = q.1
plain_left m s ts xs cs (Closed t ds over p e q) = q.1

-- a visit of a number
pub plain_visit : (r : Rules) (m : ℕ) (visit : Visit) (n : ℕ) (ss : List (Session ModelEnd)) (a : Met) → ArePlain m n (visit_at (visited model_ends r m visit) n ss a).entries
unfolding visit_at
plain_visit r m visit n [] a = tt
plain_visit r m visit n (s ∷ ss) a =
    elim (cases_Bool (s.number == n)) [
      | inl p ↦ rw p (subst (λ z. ArePlain m z (visited model_ends r m visit s a).entries) (eqb-true s.number n p) (plain_left m s _ _ _ (left_visited_at r m (Plainly m) (plain_calls r m) visit s a)))
      | inr p ↦ rw p (plain_visit r m visit n ss a)
    ]

absent_visit : (f : Session ModelEnd → Met → _) (n : ℕ) (ss : List (Session ModelEnd)) (a : Met) → session_of_connection n ss ≡ None → (visit_at f n ss a).entries ≡ []
unfolding visit_at session_of_connection
absent_visit f n [] a e = refl
absent_visit f n (s ∷ ss) a e =
    elim (cases_Bool (s.number == n)) [
      | inl p ↦ absurd (let x : Some s ≡ None = rw p at e in cc)
      | inr p ↦ rw p (absent_visit f n ss a (rw p at e))
    ]

pub up_to_plain : (m n : ℕ) (xs : List JournalEntry) → ArePlain m n xs → UpTo m xs
up_to_plain m n [] p = tt
up_to_plain m n (x ∷ xs) p = (let h : x.moment ≡ m = p.0.moment in omega arith, up_to_plain m n xs p.1)

-- they open nothing
pub names_none : (m n : ℕ) (xs : List JournalEntry) → ArePlain m n xs → named_in (trace_lines_of xs) ≡ []
unfolding named_in
names_none m n [] p = refl
names_none m n (x ∷ xs) p = rw p.0.role (names_none m n xs p.1)

-- from a moment that none before is above, at a connection that was opened
plain_pass : (plan : Plan) (m n : ℕ) (js xs : List JournalEntry) → ArePlain m n xs → UpTo m js → is_opened n (trace_lines_of js) ≡ true
    → AllPass plan.settings (key_at plan.keys) (trace_lines_of js) (trace_lines_of xs)
plain_pass plan m n js [] p up is = tt
plain_pass plan m n js (x ∷ xs) p up is = (
  record {
    moment = subst (λ z. nat_lt z (last_moment (trace_lines_of js)) ≡ false) (sym p.0.moment) (not_before m js up);
    role = subst (λ z. PassesAs z plan.settings (key_at plan.keys) (trace_lines_of js) (trace_line_of x)) (sym p.0.role) (subst (λ z. is_opened z (trace_lines_of js) ≡ true) (sym p.0.conn) is);
  },
  subst (λ z. AllPass plan.settings (key_at plan.keys) z (trace_lines_of xs)) (lines-append js (x ∷ []))
      (plain_pass plan m n (js ++ x ∷ []) xs p.1 (up_to-append m js (x ∷ []) up (let h : x.moment ≡ m = p.0.moment in omega arith, tt)) (opened_more n js (x ∷ []) is)),
)

-- ---- one session

-- no event of a visit opens a connection
Belonging : Session ModelEnd → Session ModelEnd → List JournalEntry → List Call → Type 0
Belonging s t xs cs = named_in (trace_lines_of xs) ≡ []

names-append : (xs ys : List JournalEntry) → named_in (trace_lines_of (xs ++ ys)) ≡ named_in (trace_lines_of xs) ++ named_in (trace_lines_of ys)
names-append xs ys = ap named_in (lines-append xs ys) ∙ opened_in-append (trace_lines_of xs) (trace_lines_of ys)

belonging : (r : Rules) → Steady r IsOfEnd Belonging
unfolding Belonging named_in
belonging r = record {
  none = λ s. refl;
  then_ = λ s t u xs ys cs ds p q. names-append xs ys ∙ ap (λ z. z ++ named_in (trace_lines_of ys)) p ∙ q;
  given = λ m s g allowed fits. rw (of_end s.end g allowed) refl;
  stalls = λ m s g allowed fits. rw (of_end s.end g allowed) refl;
  heard = λ s mind. refl;
  parts = λ s told at gone. refl;
}

belonging_bare : Bare Belonging
unfolding Belonging named_in
belonging_bare = record { wrote = λ s n whole. refl; put_off = λ s. refl; failed = λ s. refl; breaks = λ s gone. refl; noted = λ s. refl }

belonging_calls : (r : Rules) → Calls r Belonging
unfolding Belonging named_in
belonging_calls r = usual_calls r IsOfEnd Belonging (belonging r) all_of_end belonging_bare (λ s waits reading. refl)

or_three : (a b c : Bool) → ((a || b) || c) ≡ true → (a ≡ true → b ≡ true) → (c ≡ true → b ≡ true) → b ≡ true
or_three true b c p f g = f refl
or_three false true c p f g = refl
or_three false false c p f g = g p

-- a released end at which no message waits isn't live
dead_of : (shows : ShowsAlike) (k : ModelEnd) (m : End) → EndStands k m → is_some k.core.released ≡ true → waiting_in k ≡ [] → is_live (Some m) ≡ false
dead_of shows k m stands gone none =
    let s = shows k m stands in
    let a : is_some m.core.released ≡ true = ap is_some (sym s.1) ∙ gone in
    let b : model.untaken m.core.upper ≡ 0 = sym s.2 ∙ ap length none in
    ap (λ z. not (z && (model.untaken m.core.upper == 0))) a ∙ ap (λ z. not (z == 0)) b

made_none : (plan : Plan) (l : Loop ModelEnd) → waiting_in (answering model_ends plan l) ≡ []
made_none plan l = refl

-- ---- the session that a dial opens

module _ (plan : Plan) where
  pub any_usual : Usual (λ g. Unit {0})
  any_usual = record { sends = λ text. tt; leaves = λ sub. tt; takes = tt }

  abbrev pub begins : Caller → Loop ModelEnd → GivenToSession
  begins caller l = Begins caller.engine plan.rbc (next_u64 l.words).0

  pub joined_so : (m : ℕ) (s : Session ModelEnd) (octets : List ℕ) → ((joined model_ends (rules_of plan) m s octets).0.number ≡ s.number) × ArePlain m s.number (joined model_ends (rules_of plan) m s octets).1
  unfolding joined
  joined_so m s octets =
      elim (cases_Bool (nat_lt most_output (length s.output + length octets))) [
        | inl p ↦ rw p (refl, (record { moment = refl; conn = refl; role = refl }, tt))
        | inr p ↦ rw p (refl, tt)
      ]

  -- a call, and events of its end
  pub record CallsSo (caller : Caller) (l : Loop ModelEnd) (conn : ℕ) (mind : Mind) (xs : List JournalEntry) : Type 0 where
    pub rest : List JournalEntry
    pub is : xs ≡ entry_of model_ends (rules_of plan) l.moment (begun_dial conn (calling model_ends plan caller l) mind) (begins caller l) ∷ rest
    pub plain : ArePlain l.moment conn rest

  pub record Handled (caller : Caller) (l : Loop ModelEnd) (conn : ℕ) (mind : Mind) (says : Says) : Type 0 where
    pub calls : CallsSo caller l conn mind (handled model_ends (rules_of plan) l.moment (begun_dial conn (calling model_ends plan caller l) mind) (begins caller l) says).1
    pub number : (handled model_ends (rules_of plan) l.moment (begun_dial conn (calling model_ends plan caller l) mind) (begins caller l) says).0.number ≡ conn

  pub handled_so : (caller : Caller) (l : Loop ModelEnd) (conn : ℕ) (mind : Mind) (says : Says) → Handled caller l conn mind says
  unfolding Plainly fed
  handled_so caller l conn mind says =
      let m = l.moment in
      let s = begun_dial conn (calling model_ends plan caller l) mind in
      let g = begins caller l in
      let f = follows_handled_at (rules_of plan) m IsOfEnd (Plainly m) (plainly (rules_of plan) m) all_of_end.usual s g says in
      let j = joined_so m (record s { end = end_after model_ends (rules_of plan) m s.end g; broken = s.broken || breaks g }) (octets_in (outcomes_of_given_event model_ends (rules_of plan) m s.end g)) in
      record {
        calls = record {
          rest = (joined model_ends (rules_of plan) m (record s { end = end_after model_ends (rules_of plan) m s.end g; broken = s.broken || breaks g }) (octets_in (outcomes_of_given_event model_ends (rules_of plan) m s.end g))).1 ++ f.rest;
          is = f.is;
          plain = plain-append m conn _ f.rest j.1 (subst (λ z. ArePlain m z f.rest) j.0 f.holds.1);
        };
        number = f.holds.0 ∙ j.0;
      }

  pub served_so : (caller : Caller) (l : Loop ModelEnd) (conn : ℕ) (mind : Mind) (a : Met) → CallsSo caller l conn mind (served model_ends (rules_of plan) l.moment (begun_dial conn (calling model_ends plan caller l) mind) (begins caller l) a).entries
  unfolding served Plainly
  served_so caller l conn mind a =
      let m = l.moment in
      let s = begun_dial conn (calling model_ends plan caller l) mind in
      let g = begins caller l in
      let says = first_answer_of nothing_said a.says in
      let h = handled_so caller l conn mind says in
      let t = (handled model_ends (rules_of plan) m s g says).0 in
      let o = rests model_ends (rules_of plan) m t a.wrote in
      let p : ArePlain m t.number o.entries =
      plain_left m t o.state o.entries o.calls (left_rests_at (rules_of plan) m (Plainly m) (plain_calls (rules_of plan) m).quiet t t a.wrote [] [] (refl, tt)) in
      record {
        rest = h.calls.rest ++ o.entries;
        is = ap (λ z. z ++ o.entries) h.calls.is;
        plain = plain-append m conn h.calls.rest o.entries h.calls.plain (subst (λ z. ArePlain m z o.entries) h.number p);
      }

module _ (steps : StepsAlike) (made : MadeStands) (shows : ShowsAlike) (waits : WaitsMove) (bring : OctetsBring) (stays : ReleaseStays) (breaks_release : BreaksRelease)
    (plan : Plan) (allowed : AllAllowed plan.settings)
  where
    abbrev r : Rules
    r = rules_of plan

    abbrev Told : Session ModelEnd → Session ModelEnd → List JournalEntry → List Call → Type 0
    Told = printings.Q steps made plan allowed

    abbrev Q : Session ModelEnd → Session ModelEnd → List JournalEntry → List Call → Type 0
    Q = Both Told (Both Belonging (Both Sounds Rests))

    q_each : Calls r Q
    q_each =
        calls_both r Told (Both Belonging (Both Sounds Rests)) (printings.q_each steps made plan allowed)
        (calls_both r Belonging (Both Sounds Rests) (belonging_calls r)
        (calls_both r Sounds Rests (sounds_calls stays breaks_release r) (rests_calls waits bring r)))

    q_calls : AllLeft r Q
    q_calls = all_left_of r Q q_each

    own : (s t : Session ModelEnd) (xs : List JournalEntry) (cs : List Call) → Q s t xs cs → Own s t xs cs
    own s t xs cs p = p.0.0

    -- a live session: its end is that of its events, the first of which opened it
    record Lives (s : Session ModelEnd) (xs : List JournalEntry) : Type 0 where
      told : printings.ToldTo steps made plan allowed s.end xs
      opened : is_opened s.number (trace_lines_of xs) ≡ true
      once : length (named_in (trace_lines_of xs)) ≤ 1
      sound : Sound s
      none : waiting_in s.end ≡ []

    -- one that is over: its end isn't live
    record IsOver (xs : List JournalEntry) : Type 0 where
      dead : is_live (printings.Behind steps made plan allowed None xs) ≡ false
      once : length (named_in (trace_lines_of xs)) ≤ 1

    abbrev K : Session ModelEnd → List JournalEntry → List Call → Type 0
    K s xs cs = Lives s xs

    abbrev E : List JournalEntry → List Call → Type 0
    E xs cs = IsOver xs

    once_more : (xs ys : List JournalEntry) → length (named_in (trace_lines_of xs)) ≤ 1 → named_in (trace_lines_of ys) ≡ [] → length (named_in (trace_lines_of (xs ++ ys))) ≤ 1
    once_more xs ys p q = subst (λ z. length z ≤ 1) (sym (names-append xs ys ∙ ap (λ z. named_in (trace_lines_of xs) ++ z) q ∙ append-nil (named_in (trace_lines_of xs)))) p

    lives_on : (s t : Session ModelEnd) (xs ys : List JournalEntry) (cs ds : List Call) → Lives s xs → Q s t ys ds → Lives t (xs ++ ys)
    unfolding printings.Goes Sounds Rests Belonging
    lives_on s t xs ys cs ds h q = record {
      told = printings.more steps made plan allowed s.end t.end xs ys h.told q.0.1;
      opened = subst (λ z. is_opened z (trace_lines_of (xs ++ ys)) ≡ true) (sym q.0.0.number) (opened_more s.number xs ys h.opened);
      once = once_more xs ys h.once q.1.0;
      sound = q.1.1.0 h.sound;
      none = q.1.1.1 h.none;
    }

    over_then : (t : Session ModelEnd) (xs : List JournalEntry) → is_over t ≡ true → Lives t xs → IsOver xs
    over_then t xs over h =
        let gone : is_released model_ends t ≡ true = or_three t.broken (is_released model_ends t) (is_some t.closing) over h.sound.broken h.sound.closing in
        record {
          dead = ap is_live h.told.is ∙ dead_of shows t.end h.told.now h.told.stands gone h.none;
          once = h.once;
        }

    first_opened : (conn : ℕ) (b c : Bool) → b ≡ true → ((true && b) || c) ≡ true
    first_opened conn true c p = refl
    first_opened conn false c p = absurd (true≢false (sym p))

    keeps : Keeps plan Q K E
    unfolding named_in is_opened printings.behind
    keeps = record {
      visit = λ s t xs ys cs ds h q. lives_on s t xs ys cs ds h q;
      close = λ s t xs ys cs ds over h q. over_then t (xs ++ ys) over (lives_on s t xs ys cs ds h q);
      open_ = λ l conn mind. record {
        told = (printings.keeps steps made plan allowed).open_ l conn mind;
        opened = first_opened conn (conn == conn) false (same conn);
        once = omega arith;
        sound = record { broken = λ p. absurd (true≢false (sym p)); closing = λ p. absurd (true≢false (sym p)) };
        none = made_none plan l;
      };
      never = record { dead = refl; once = omega arith };
      full = λ m conn live most. record { dead = refl; once = omega arith };
      unserved = λ m conn handed. record { dead = refl; once = omega arith };
    }

    abbrev Known : List JournalEntry → List Call → List (Session ModelEnd) → Type 0
    Known js bs ss = Knows plan Q q_calls own K E keeps js bs ss

    -- ---- the whole journal

    record Went (k : Loop ModelEnd) (js : List JournalEntry) (bs : List Call) (xs : List JournalEntry) : Type 0 where
      known : Known (js ++ xs) bs k.sessions
      up_to : UpTo k.moment (js ++ xs)
      pass : AllPass plan.settings (key_at plan.keys) (trace_lines_of js) (trace_lines_of xs)

    Goes : Loop ModelEnd → Loop ModelEnd → List JournalEntry → List Call → Type 0
    Goes l k xs cs =
        (js : List JournalEntry) (bs : List Call) → Rises (newest 0 (opened_in bs)) (opened_in cs) → Known js bs l.sessions → UpTo l.moment js
        → Went k js (bs ++ cs) xs

    -- what a connection's events so far come to
    live_has : (o : Option (Session ModelEnd)) (js : List JournalEntry) (bs : List Call) (ss : List (Session ModelEnd)) (n : ℕ) → session_of_connection n ss ≡ o → Known js bs ss
        → is_live (end_at plan.settings (key_at plan.keys) n (trace_lines_of js)) ≡ true → is_some o ≡ true
    unfolding Fits
    live_has (Some s) js bs ss n is known live = refl
    live_has None js bs ss n is known live =
        let f : IsOver (of n js) = rw is at (known.fits n) in
        absurd (true≢false (sym live ∙ ap is_live (printings.at_own steps made plan allowed n None js) ∙ f.dead))

    opened_once : (o : Option (Session ModelEnd)) (js : List JournalEntry) (bs : List Call) (ss : List (Session ModelEnd)) (n : ℕ) → session_of_connection n ss ≡ o → Known js bs ss
        → length (named_in (trace_lines_of (of n js))) ≤ 1
    unfolding Fits
    opened_once None js bs ss n is known = let f : IsOver (of n js) = rw is at (known.fits n) in f.once
    opened_once (Some s) js bs ss n is known = let f : (s.number ≡ n) × Lives s (of n js) = rw is at (known.fits n) in f.1.once

    few : (js : List JournalEntry) (bs : List Call) (ss : List (Session ModelEnd)) → Known js bs ss → live_count plan.settings (key_at plan.keys) (trace_lines_of js) ≤ length ss
    few js bs ss known =
        few_live plan.settings (key_at plan.keys) js ss (λ n live. live_has (session_of_connection n ss) js bs ss n refl known live)
        (λ n. opened_once (session_of_connection n ss) js bs ss n refl known)

    -- a visit
    visit_pass : (o : Option (Session ModelEnd)) (js : List JournalEntry) (bs : List Call) (l : Loop ModelEnd) (n : ℕ) (xs : List JournalEntry) → session_of_connection n l.sessions ≡ o
        → (o ≡ None → xs ≡ []) → ArePlain l.moment n xs → Known js bs l.sessions → UpTo l.moment js
        → AllPass plan.settings (key_at plan.keys) (trace_lines_of js) (trace_lines_of xs)
    unfolding Fits
    visit_pass None js bs l n xs is absent plain known up = subst (λ z. AllPass plan.settings (key_at plan.keys) (trace_lines_of js) (trace_lines_of z)) (sym (absent refl)) tt
    visit_pass (Some s) js bs l n xs is absent plain known up =
        let f : (s.number ≡ n) × Lives s (of n js) = rw is at (known.fits n) in
        plain_pass plan l.moment n js xs plain up (opened_own n js ∙ subst (λ z. is_opened z (trace_lines_of (of n js)) ≡ true) f.0 f.1.opened)

    goes_visit : (l : Loop ModelEnd) (visit : Visit) (n : ℕ) (a : Met)
        → Goes l (with_sessions l (visit_at (visited model_ends r l.moment visit) n l.sessions a).state)
        (visit_at (visited model_ends r l.moment visit) n l.sessions a).entries (visit_at (visited model_ends r l.moment visit) n l.sessions a).calls
    unfolding Goes
    goes_visit l visit n a js bs rises known up =
        let o = visit_at (visited model_ends r l.moment visit) n l.sessions a in
        let plain = plain_visit r l.moment visit n l.sessions a in
        record {
          known = knows_moved plan Q q_calls own K E keeps n js _ bs _ l.sessions _ known (moved plan Q q_calls own K E keeps l.moment visit n l.sessions a known.apart);
          up_to = up_to-append l.moment js o.entries up (up_to_plain l.moment n o.entries plain);
          pass =
              visit_pass (session_of_connection n l.sessions) js bs l n o.entries refl (absent_visit (visited model_ends r l.moment visit) n l.sessions a) plain known up;
        }

    at_moment : (m conn : ℕ) (what : Event) (outcomes : List Outcome) → UpTo m (record { moment = m; conn = conn; event = what; outcomes = outcomes } ∷ [])
    at_moment m conn what outcomes = (omega arith, tt)

    goes_away : (l : Loop ModelEnd) (why : Event) (until : Option ℕ) (conn : Conn) → role_of why ≡ Declines
        → ((m : ℕ) → E (record { moment = m; conn = conn.0; event = why; outcomes = [] } ∷ []) (Closes conn.0 ∷ []))
        → Goes l l (record { moment = l.moment; conn = conn.0; event = why; outcomes = [] } ∷ []) (Turns until (happening.Accepted conn) ∷ Closes conn.0 ∷ [])
    unfolding Goes
    goes_away l why until conn role over js bs rises known up =
        let above = accepted_above plan Q q_calls own K E keeps bs (Closes conn.0 ∷ []) until conn rises in
        let x : JournalEntry = record { moment = l.moment; conn = conn.0; event = why; outcomes = [] } in
        record {
          known = knows_away plan Q q_calls own K E keeps js bs l.sessions l.moment why until conn above (over l.moment) known;
          up_to = up_to-append l.moment js (x ∷ []) up (at_moment l.moment conn.0 why []);
          pass = (
            record {
              moment = not_before l.moment js up;
              role = subst (λ z. PassesAs z plan.settings (key_at plan.keys) (trace_lines_of js) (trace_line_of x)) (sym role) (unnamed conn.0 js (known.low conn.0 above).0);
            },
            tt,
          );
        }

    wise : Momentwise plan Goes
    unfolding Goes
    wise = record {
      none = λ l js bs rises known up. record { known = rw (append-nil js, append-nil bs) known; up_to = rw (append-nil js) up; pass = tt };
      then_ = λ l k n xs ys cs ds p q js bs rises known up.
          let s = subst (λ z. Rises (newest 0 (opened_in bs)) z) (opens-append cs ds) rises in
          let rest : Rises (newest 0 (opened_in (bs ++ cs))) (opened_in ds) =
          subst (λ z. Rises z (opened_in ds)) (sym (ap (λ z. newest 0 z) (opens-append bs cs) ∙ newest-append 0 (opened_in bs) (opened_in cs)))
          (rises_rest (newest 0 (opened_in bs)) (opened_in cs) (opened_in ds) s) in
          let a = p js bs (rises_first (newest 0 (opened_in bs)) (opened_in cs) (opened_in ds) s) known up in
          let b = q (js ++ xs) (bs ++ cs) rest a.known a.up_to in
          record {
            known = rw (← append_assoc js xs ys, ← append_assoc bs cs ds) b.known;
            up_to = rw (← append_assoc js xs ys) b.up_to;
            pass =
                subst (λ z. AllPass plan.settings (key_at plan.keys) (trace_lines_of js) z) (sym (lines-append xs ys))
                (all_pass-append plan.settings (key_at plan.keys) (trace_lines_of js) (trace_lines_of xs) (trace_lines_of ys) a.pass
                (subst (λ z. AllPass plan.settings (key_at plan.keys) z (trace_lines_of ys)) (lines-append js xs) b.pass));
          };
      asked = λ l at js bs rises known up. record {
        known = rw (append-nil js, append-nil bs) known;
        up_to = rw (append-nil js) (up_to_more l.moment (max l.moment at) js (le-max_left l.moment at) up);
        pass = tt;
      };
      visit = goes_visit;
      turned = λ l until happening none js bs rises known up. record {
        known = knows_turned plan Q q_calls own K E keeps js bs l.sessions until happening none known;
        up_to = rw (append-nil js) up;
        pass = tt;
      };
      opened = λ l until conn mind fits is js bs rises known up.
          let above = accepted_above plan Q q_calls own K E keeps bs [] until conn rises in
          let x : JournalEntry = record { moment = l.moment; conn = conn.0; event = event.Answer plan.rbc (next_u64 l.words).0; outcomes = [] } in
          record {
            known = knows_opened plan Q q_calls own K E keeps js bs l until conn mind above known;
            up_to = up_to-append l.moment js (x ∷ []) up (at_moment l.moment conn.0 x.event []);
            pass = (
              record {
                moment = not_before l.moment js up;
                role = (unnamed conn.0 js (known.low conn.0 above).0, tt, not_many _ (length l.sessions) (few js bs l.sessions known) fits);
              },
              tt,
            );
          };
      full = λ l until conn fits. goes_away l (event.Full most_live) until conn refl (λ m. keeps.full m conn.0 most_live (omega arith));
      wanted = λ l until conn mind fits is js bs rises known up.
          let g =
          goes_away l (event.Full (length l.sessions)) until conn refl (λ m. keeps.full m conn.0 (length l.sessions) (below_most (length l.sessions) fits)) js bs rises known up in
          record { known = g.known; up_to = g.up_to; pass = g.pass };
      unserved = λ l until conn fits is. goes_away l (event.Unserved plan.handed) until conn refl (λ m. keeps.unserved m conn.0 plan.handed);
    }

    passes : (c : Course ModelEnd) (turns : List Turn) → IsServing plan c turns → AllPass plan.settings (key_at plan.keys) [] (trace_lines_of (run model_ends plan c turns).entries)
    unfolding Goes opened_in
    passes c turns h =
        (moment_run plan Goes wise c turns [] [] h.rises (rw h.none (knows_none plan Q q_calls own K E keeps)) tt).pass

    -- ---- a dial

    names_call : (caller : Caller) (l : Loop ModelEnd) (conn : ℕ) (mind : Mind) (xs : List JournalEntry) → CallsSo plan caller l conn mind xs → length (named_in (trace_lines_of xs)) ≤ 1
    unfolding named_in
    names_call caller l conn mind xs c =
        subst (λ z. length (named_in (trace_lines_of z)) ≤ 1) (sym c.is)
        (subst (λ z. length (conn ∷ z) ≤ 1) (sym (names_none l.moment conn c.rest c.plain)) (omega arith))

    opens_call : (caller : Caller) (l : Loop ModelEnd) (conn : ℕ) (mind : Mind) (xs : List JournalEntry) → CallsSo plan caller l conn mind xs → is_opened conn (trace_lines_of xs) ≡ true
    unfolding is_opened
    opens_call caller l conn mind xs c =
        subst (λ z. is_opened conn (trace_lines_of z) ≡ true) (sym c.is) (first_opened conn (conn == conn) (is_opened conn (trace_lines_of c.rest)) (same conn))

    first : (caller : Caller) (at : ℕ) → key_at plan.keys at caller.engine plan.rbc ≡ Some caller.kmac
        → (l : Loop ModelEnd) (conn : ℕ) (mind : Mind) (says : Says) → l.moment ≡ at
        → Lives (handled model_ends r l.moment (begun_dial conn (calling model_ends plan caller l) mind) (begins plan caller l) says).0
        (handled model_ends r l.moment (begun_dial conn (calling model_ends plan caller l) mind) (begins plan caller l) says).1
    unfolding Sounds
    first caller at key l conn mind says now =
        let m = l.moment in
        let s = begun_dial conn (calling model_ends plan caller l) mind in
        let g = begins plan caller l in
        let h = handled_so plan caller l conn mind says in
        record {
          told =
              first_handled plan caller IsOfEnd Told (printings.q_steady steps made plan allowed) all_of_end.usual (printings.q_calls steps made plan allowed) (λ s t xs cs p. p.0)
              (printings.Told steps made plan allowed) (printings.Gone steps made plan allowed) (printings.keeps steps made plan allowed) at
              (printings.first_told steps made plan allowed caller at key) l conn mind says now;
          opened = subst (λ z. is_opened z (trace_lines_of (handled model_ends r m s g says).1) ≡ true) (sym h.number) (opens_call caller l conn mind _ h.calls);
          once = names_call caller l conn mind _ h.calls;
          sound =
              steady_handled r (λ g. Unit {0}) Sounds (sounds_steadily stays breaks_release r) (any_usual plan) m s g says tt
              (record { broken = λ p. absurd (true≢false (sym p)); closing = λ p. absurd (true≢false (sym p)) });
          none = handled_none waits bring r m s g says;
        }

    -- the opening
    record OpensSo (m : ℕ) (xs : List JournalEntry) : Type 0 where
      up_to : UpTo m xs
      pass : AllPass plan.settings (key_at plan.keys) [] (trace_lines_of xs)

    calls_pass : (caller : Caller) (l : Loop ModelEnd) (conn : ℕ) (mind : Mind) (xs : List JournalEntry) → key_at plan.keys l.moment caller.engine plan.rbc ≡ Some caller.kmac
        → CallsSo plan caller l conn mind xs → OpensSo l.moment xs
    unfolding is_named live_count named_in is_opened
    calls_pass caller l conn mind xs key c =
        let m = l.moment in
        let x = entry_of model_ends r m (begun_dial conn (calling model_ends plan caller l) mind) (begins plan caller l) in
        let up : UpTo m (x ∷ []) = (omega arith, tt) in
        subst (λ z. OpensSo m z) (sym c.is) (record {
          up_to = up_to-append m (x ∷ []) c.rest up (up_to_plain m conn c.rest c.plain);
          pass = (
            record { moment = not_before m [] tt; role = (refl, ap is_some key, refl) },
            plain_pass plan m conn (x ∷ []) c.rest c.plain up (first_opened conn (conn == conn) false (same conn)),
          );
        })

    called_pass : (user : Option Mind) (caller : Caller) (l : Loop ModelEnd) (conn : ℕ) (a : Met) → key_at plan.keys l.moment caller.engine plan.rbc ≡ Some caller.kmac
        → OpensSo l.moment (called_by model_ends user plan caller l conn a).entries
    unfolding is_named
    called_pass None caller l conn a key = record {
      up_to = (omega arith, tt);
      pass = (record { moment = not_before l.moment [] tt; role = refl }, tt);
    }
    called_pass (Some mind) caller l conn a key =
        calls_pass caller l conn mind (served model_ends r l.moment (begun_dial conn (calling model_ends plan caller l) mind) (begins plan caller l) a).entries key (served_so plan caller l conn mind a)

    called_moment : (user : Option Mind) (caller : Caller) (l : Loop ModelEnd) (conn : ℕ) (a : Met) → (called_by model_ends user plan caller l conn a).state.moment ≡ l.moment
    called_moment None caller l conn a = refl
    called_moment (Some mind) caller l conn a = refl

    dial_on : (caller : Caller) (d : Course ModelEnd) (conn : ℕ) (address : List ℕ) (a : Met) (turns : List Turn) → d.loop.sessions ≡ []
        → key_at plan.keys d.loop.moment caller.engine plan.rbc ≡ Some caller.kmac
        → Rises 0 (opened_in (Dials address (Some conn) ∷ ((opens model_ends plan caller d conn a).calls ++ (run model_ends plan (opens model_ends plan caller d conn a).state turns).calls)))
        → AllPass plan.settings (key_at plan.keys) [] (trace_lines_of ((opens model_ends plan caller d conn a).entries ++ (run model_ends plan (opens model_ends plan caller d conn a).state turns).entries))
    unfolding Goes called
    dial_on caller d conn address a turns none key rises =
        let user = next_user d.loop.users in
        let o = opens model_ends plan caller d conn a in
        let e = run model_ends plan o.state turns in
        let bs : List Call = Dials address (Some conn) ∷ o.calls in
        let s = subst (λ z. Rises 0 z) (opens-append bs e.calls) rises in
        let known = knows_called plan caller Q q_calls own K E keeps d.loop.moment (first caller d.loop.moment key) user d.loop conn address a none refl in
        let so = called_pass user caller d.loop conn a key in
        let went =
        moment_run plan Goes wise o.state turns o.entries bs (rises_rest 0 (opened_in bs) (opened_in e.calls) s) known
        (subst (λ z. UpTo z o.entries) (sym (called_moment user caller d.loop conn a)) so.up_to) in
        subst (λ z. AllPass plan.settings (key_at plan.keys) [] z) (sym (lines-append o.entries e.entries))
        (all_pass-append plan.settings (key_at plan.keys) [] (trace_lines_of o.entries) (trace_lines_of e.entries) so.pass went.pass)

    dial_to : (conn : Option ℕ) (caller : Caller) (c : Course ModelEnd) (address : List ℕ) (a : Dialled) → c.loop.sessions ≡ []
        → key_at plan.keys (max c.loop.moment a.first) caller.engine plan.rbc ≡ Some caller.kmac
        → Rises 0 (opened_in (dials_to model_ends conn plan caller c address a).calls)
        → AllPass plan.settings (key_at plan.keys) [] (trace_lines_of (dials_to model_ends conn plan caller c address a).entries)
    dial_to None caller c address a none key rises = tt
    dial_to (Some conn) caller c address a none key rises = dial_on caller (asks a.first c) conn address a.met a.turns none key rises

    dial_passes : (caller : Caller) (c : Course ModelEnd) (address : List ℕ) (a : Dialled) → IsDialling plan caller c address a
        → AllPass plan.settings (key_at plan.keys) [] (trace_lines_of (dials model_ends plan caller c address a).entries)
    unfolding dials
    dial_passes caller c address a h = dial_to a.conn caller c address a h.none h.key h.rises

-- ---- both

replays_to : (plan : Plan) (lines : List Event_line) (xs : List JournalEntry) → AreEvents lines xs → AllPass plan.settings (key_at plan.keys) [] (trace_lines_of xs)
    → text xs ≡ entries_text plan.settings (key_at plan.keys) [] (trace_lines_of xs) → ReplaysTo plan lines xs
unfolding trace_header
replays_to plan lines xs e pass printed = record {
  taken =
      are_taken plan.settings (key_at plan.keys) lines
      (all_pass_plain plan.settings (key_at plan.keys) [] lines (subst (λ z. AllPass plan.settings (key_at plan.keys) [] z) (sym e) pass));
  printed =
      ap (λ z. trace_header plan.settings ++ z)
      (sym (text_plain plan.settings (key_at plan.keys) [] lines) ∙ ap (λ z. entries_text plan.settings (key_at plan.keys) [] z) e ∙ sym printed);
}

pub recordings_replay : StepsAlike → MadeStands → ShowsAlike → WaitsMove → OctetsBring → ReleaseStays → BreaksRelease → RecordingsReplay
recordings_replay steps made shows waits bring stays breaks_release =
    let printed = printings.all_printed steps made in
    record {
      serving = λ plan c turns h lines e.
          replays_to plan lines (run model_ends plan c turns).entries e
          (passes steps made shows waits bring stays breaks_release plan h.allowed c turns h) (printed.serving plan c turns h);
      dialling = λ plan caller c address a h lines e.
          replays_to plan lines (dials model_ends plan caller c address a).entries e
          (dial_passes steps made shows waits bring stays breaks_release plan h.allowed caller c address a h) (printed.dialling plan caller c address a h);
    }
