-- A dial that opened its connection and no other: its recording is its own replay with any keys among which its caller's is found.
use Rattle.loop_model.specs.Ends.{ModelEnd, model_ends}
use Rattle.std.proofs.Common.{◌≡◌, ◌∙◌, ℕ, max, inl, inr, false, List, [], ◌∷◌, ◌++◌, map, Option, Some, None, refl, sym, ap, subst, append_assoc, true≢false}
use Rattle.std.proofs.lemmas.Bool.{cases_Bool}
use Rattle.safety_automaton.specs.Keys.{key_at}
use Rattle.er_end_model.specs.Steps.{Finds}
use Rattle.er_end_model.specs.Laws.{EventsSpeakOnce}
use Rattle.er_trace.specs.declared.entry.Entry.{Entry as Event_line}
use Rattle.er_trace.specs.declared.event.Event.{Event}
use Rattle.er_trace.specs.declared.event.Event.TheVariants as event
use Rattle.er_trace.specs.Laws.{PrintedIsRead}
use Rattle.er_users.specs.Users.{Mind}
use Rattle.link_trait.specs.Wires as wires
use Rattle.link_trait.specs.Wires.{Turns}
use Rattle.link_trait.specs.declared.wires.Conn.{Conn}
use Rattle.link_trait.specs.declared.wires.Happening.{Happening}
use Rattle.link_trait.specs.declared.wires.Happening.TheVariants as happening
use Rattle.rand_core.specs.Stream.{next_u64}
use Rattle.trace_model.specs.Checks.{names, role_of}
use Rattle.loop_model.specs.Journals.{JournalEntry, trace_lines_of}
use Rattle.loop_model.specs.Outs.{acts, exactly}
use Rattle.loop_model.specs.Sessions.{Begins, entry_of}
use Rattle.loop_model.specs.Visits.{Met, served}
use Rattle.loop_model.specs.Loops.{Plan, rules_of, Loop, until, next_user, begun, Caller, calling, called_by, called, Halt, Course, asks, Turn, nothing_comes, readied, went_unless, went, run, Dialled, opens, dials_to, dials, begun_dial}
use Rattle.loop_model.specs.Parts.{opened_in}
use Rattle.loop_model.specs.Parts as parts
use Rattle.loop_model.specs.Laws.{ConnectionsAreIsolated}
use Rattle.loop_model.specs.Recordings.{RecordingsReplay}
use Rattle.loop_model.specs.Openings.{openings, closed_by, event_of_accepted_connection, openings_due, openings_unless, OpeningsAreTold}
use Rattle.loop_recordings.specs.Shorts.{OutcomesAreShort}
use Rattle.loop_recordings.specs.Recordings.{FindsToo, DialsAreReplays, CallersKeySuffices}
use Rattle.loop_recordings.proofs.Lookups.{IsFoundToo, AreFoundToo, found_alike, also_taken, same_printed}
use Rattle.loop_recordings.proofs.Handlings.{none_two, IsFirst, served_first}
use Rattle.loop_recordings.proofs.Readings.{recording_read}
use Rattle.loop_recordings.proofs.Replaying.{header_and_text}

-- ---- connections that calls opened

nil_first : (xs ys : List ℕ) → xs ++ ys ≡ [] → xs ≡ []
nil_first [] ys none = refl
nil_first (x ∷ xs) ys none = absurd (let p : ⊥ = cc in p)

nil_rest : (xs ys : List ℕ) → xs ++ ys ≡ [] → ys ≡ []
nil_rest [] ys none = none
nil_rest (x ∷ xs) ys none = absurd (let p : ⊥ = cc in p)

abbrev tail : List ℕ → List ℕ
tail [] = []
tail (x ∷ xs) = xs

opened-append : (xs ys : List wires.Call) → opened_in (xs ++ ys) ≡ opened_in xs ++ opened_in ys
unfolding opened_in
opened-append [] ys = refl
opened-append (x ∷ xs) ys =
    ap (λ z. parts.connections_opened_by_call x ++ z) (opened-append xs ys) ∙ sym (append_assoc (parts.connections_opened_by_call x) (opened_in xs) (opened_in ys))

opened_first : (xs ys : List wires.Call) → opened_in (xs ++ ys) ≡ [] → opened_in xs ≡ []
opened_first xs ys none = nil_first (opened_in xs) (opened_in ys) (sym (opened-append xs ys) ∙ none)

opened_rest : (xs ys : List wires.Call) → opened_in (xs ++ ys) ≡ [] → opened_in ys ≡ []
opened_rest xs ys none = nil_rest (opened_in xs) (opened_in ys) (sym (opened-append xs ys) ∙ none)

-- ---- turns that accept no connection

module _ (told : OpeningsAreTold) (plan : Plan) where
  accepts_none : (c : Course ModelEnd) (a : Turn) (conn : Conn) → c.halt ≡ None → (readied model_ends plan c a).state.halt ≡ None → a.happening ≡ happening.Accepted conn
      → opened_in (went model_ends plan c a).calls ≡ [] → ⊥
  unfolding opened_in
  accepts_none c a conn on ready accepted none =
      let d = readied model_ends plan c a in
      let rest = closed_by (role_of (event_of_accepted_connection plan d.state.loop a.met.memory)) conn.0 in
      let calls = told.closed plan c a conn on ready accepted in
      let turns : opened_in (Turns (until model_ends d.state.loop.sessions) a.happening ∷ rest) ≡ [] =
      opened_rest d.calls (Turns (until model_ends d.state.loop.sessions) a.happening ∷ rest) (ap opened_in (sym calls) ∙ none) in
      let first : conn.0 ∷ opened_in rest ≡ [] = ap (λ (h : Happening). parts.opened_by h ++ opened_in rest) (sym accepted) ∙ turns in
      cc

  due_none : (c : Course ModelEnd) (a : Turn) (what : Happening) (e : Event) → c.halt ≡ None → (readied model_ends plan c a).state.halt ≡ None → a.happening ≡ what
      → opened_in (went model_ends plan c a).calls ≡ [] → openings_due what e ≡ []
  due_none c a (happening.Accepted conn) e on ready is none = absurd (accepts_none c a conn on ready is none)
  due_none c a (happening.Readable conn) e on ready is none = refl
  due_none c a (happening.Writable conn) e on ready is none = refl
  due_none c a happening.Quiet e on ready is none = refl
  due_none c a happening.Ended e on ready is none = refl
  due_none c a happening.Failed e on ready is none = refl

  unless_none : (c : Course ModelEnd) (a : Turn) (halt : Option Halt) (e : Event) → c.halt ≡ None → (readied model_ends plan c a).state.halt ≡ halt
      → opened_in (went model_ends plan c a).calls ≡ [] → openings_unless halt a.happening e ≡ []
  unless_none c a (Some halt) e on is none = refl
  unless_none c a None e on is none = due_none c a a.happening e on is refl none

  halted_none : (c : Course ModelEnd) (a : Turn) (halt : Halt) → c.halt ≡ Some halt → openings (went model_ends plan c a).entries ≡ []
  unfolding went openings
  halted_none c a halt is = ap (λ z. openings (went_unless model_ends z plan c a).entries) is

  went_none : (c : Course ModelEnd) (a : Turn) (halt : Option Halt) → c.halt ≡ halt → opened_in (went model_ends plan c a).calls ≡ [] → openings (went model_ends plan c a).entries ≡ []
  went_none c a (Some halt) is none = halted_none c a halt is
  went_none c a None is none =
      let d = readied model_ends plan c a in
      told.events plan c a is ∙ unless_none c a d.state.halt (event_of_accepted_connection plan d.state.loop a.met.memory) is refl none

  turns_none : (c : Course ModelEnd) (turns : List Turn) → opened_in (acts (went model_ends plan) c turns).calls ≡ [] → openings (acts (went model_ends plan) c turns).entries ≡ []
  unfolding acts openings
  turns_none c [] none = refl
  turns_none c (a ∷ turns) none =
      let o = went model_ends plan c a in
      let rest = acts (went model_ends plan) o.state turns in
      none_two o.entries rest.entries (went_none c a c.halt refl (opened_first o.calls rest.calls none))
      (turns_none o.state turns (opened_rest o.calls rest.calls none))

  run_none : (c : Course ModelEnd) (turns : List Turn) → opened_in (run model_ends plan c turns).calls ≡ [] → openings (run model_ends plan c turns).entries ≡ []
  unfolding run
  run_none c turns none = turns_none c (exactly plan.turns nothing_comes turns) none

-- ---- calls whose keys both look-ups find

module _ (f g : Finds) where
  found_unnamed : (now : ℕ) (e : Event) → names (role_of e) ≡ false → IsFoundToo f g now e
  found_unnamed now (event.Call engine rbc rb) is = absurd (true≢false is)
  found_unnamed now (event.Answer rbc ra) is = absurd (true≢false is)
  found_unnamed now (event.Octets octets) is = tt
  found_unnamed now (event.Send text) is = tt
  found_unnamed now event.Take is = tt
  found_unnamed now (event.Release sub) is = tt
  found_unnamed now event.Tick is = tt
  found_unnamed now event.Ended is = tt
  found_unnamed now event.Fault is = tt
  found_unnamed now event.Stalled is = tt
  found_unnamed now (event.Full count) is = tt
  found_unnamed now (event.Unserved count) is = tt

  found_none : (xs : List JournalEntry) → openings xs ≡ [] → AreFoundToo f g (trace_lines_of xs)
  unfolding openings
  found_none [] none = tt
  found_none (x ∷ xs) none =
      elim (cases_Bool (names (role_of x.event))) [
        | inl p ↦ absurd (let q : (x.conn, x.event) ∷ openings xs ≡ [] = rw p at none in cc)
        | inr p ↦ (found_unnamed x.moment x.event p, found_none xs (rw p at none))
      ]

  found_both : (xs ys : List JournalEntry) → AreFoundToo f g (trace_lines_of xs) → AreFoundToo f g (trace_lines_of ys) → AreFoundToo f g (trace_lines_of (xs ++ ys))
  found_both [] ys p q = q
  found_both (x ∷ xs) ys p q = (p.0, found_both xs ys p.1 q)

  found_first : (x : JournalEntry) (xs : List JournalEntry) → IsFirst x xs → IsFoundToo f g x.moment x.event → AreFoundToo f g (trace_lines_of xs)
  found_first x xs h alike = subst (λ z. AreFoundToo f g (trace_lines_of z)) (sym h.is) (alike, found_none h.rest h.none)

  -- whatever the numbers of the lines
  found_lines : (lines : List Event_line) → AreFoundToo f g (map (λ (e : Event_line). record e { line = 0 }) lines) → AreFoundToo f g lines
  found_lines [] p = tt
  found_lines (e ∷ lines) p = (p.0, found_lines lines p.1)

  called_found : (user : Option Mind) (plan : Plan) (caller : Caller) (l : Loop ModelEnd) (conn : ℕ) (a : Met)
      → FindsToo f g l.moment caller.engine plan.rbc → AreFoundToo f g (trace_lines_of (called_by model_ends user plan caller l conn a).entries)
  called_found None plan caller l conn a key = (tt, tt)
  called_found (Some mind) plan caller l conn a key =
      let s = begun_dial conn (calling model_ends plan caller l) mind in
      let given = Begins caller.engine plan.rbc (next_u64 l.words).0 in
      found_first (entry_of model_ends (rules_of plan) l.moment s given) (served model_ends (rules_of plan) l.moment s given a).entries (served_first (rules_of plan) l.moment s given a) key

  opens_found : (plan : Plan) (caller : Caller) (c : Course ModelEnd) (conn : ℕ) (a : Met)
      → FindsToo f g c.loop.moment caller.engine plan.rbc → AreFoundToo f g (trace_lines_of (opens model_ends plan caller c conn a).entries)
  unfolding called
  opens_found plan caller c conn a key = called_found (next_user c.loop.users) plan caller c.loop conn a key

  dial_found : (told : OpeningsAreTold) (to : Option ℕ) (plan : Plan) (caller : Caller) (c : Course ModelEnd) (address : List ℕ) (a : Dialled) (conn : ℕ)
      → opened_in (dials_to model_ends to plan caller c address a).calls ≡ conn ∷ []
      → FindsToo f g (max c.loop.moment a.first) caller.engine plan.rbc
      → AreFoundToo f g (trace_lines_of (dials_to model_ends to plan caller c address a).entries)
  unfolding opened_in
  dial_found told None plan caller c address a conn alone key = tt
  dial_found told (Some n) plan caller c address a conn alone key =
      let d = asks a.first c in
      let o = opens model_ends plan caller d n a.met in
      let rest = run model_ends plan o.state a.turns in
      let none : opened_in (o.calls ++ rest.calls) ≡ [] = ap tail alone in
      found_both o.entries rest.entries (opens_found plan caller d n a.met key)
      (found_none rest.entries (run_none told plan o.state a.turns (opened_rest o.calls rest.calls none)))

  dials_found : OpeningsAreTold → (plan : Plan) (caller : Caller) (c : Course ModelEnd) (address : List ℕ) (a : Dialled) (conn : ℕ)
      → opened_in (dials model_ends plan caller c address a).calls ≡ conn ∷ []
      → FindsToo f g (max c.loop.moment a.first) caller.engine plan.rbc
      → AreFoundToo f g (trace_lines_of (dials model_ends plan caller c address a).entries)
  unfolding dials
  dials_found told plan caller c address a conn alone key = dial_found told a.conn plan caller c address a conn alone key

-- ---- the recording

pub dials_are_replays : PrintedIsRead → EventsSpeakOnce → OpeningsAreTold → OutcomesAreShort → DialsAreReplays
dials_are_replays reads speak told short plan caller c address a conn finds h isolated replayed alone key =
    let o = dials model_ends plan caller c address a in
    let own = key_at plan.keys in
    let r = recording_read reads short plan o h isolated in
    let p = replayed r.lines r.events in
    let found = found_lines own finds r.lines (subst (AreFoundToo own finds) (sym r.events) (dials_found own finds told plan caller c address a conn alone key)) in
    let alike = found_alike plan.settings own finds r.lines p.taken found in
    record {
      trace = record { settings = plan.settings; entries = r.lines };
      read = r.read;
      taken = also_taken speak plan.settings own finds r.lines alike p.taken;
      printed = sym (same_printed speak plan.settings own finds r.lines alike) ∙ p.printed ∙ header_and_text plan o;
    }

pub callers_key_suffices : DialsAreReplays → ConnectionsAreIsolated → RecordingsReplay → CallersKeySuffices
callers_key_suffices replays isolated replayed plan caller c address a conn finds dialling h alone key =
    replays plan caller c address a conn finds h (isolated.dialling plan caller c address a dialling) (replayed.dialling plan caller c address a dialling) alone
    (λ kmac own. key ∙ sym dialling.key ∙ own)
