-- The outcomes of each connection are those of its own events.
use Rattle.loop_model.specs.Ends.{ModelEnd, model_ends, used_part}
use Rattle.std.proofs.Common.{if◌then◌else◌, ◌≡◌, ℕ, ◌+◌, max, inl, inr, Bool, List, [], ◌∷◌, ◌++◌, length, Option, Some, None, refl, sym, ◌∙◌, ap, subst, append-nil, eq-eqb}
use Rattle.std.specs.Prelude.{◌==◌, nat_lt}
use Rattle.std.proofs.lemmas.Bool.{cases_Bool}
use Rattle.er_base.specs.LineTexts.{line_text}
use Rattle.er_settings.specs.Values.{Settings}
use Rattle.er_settings.specs.Ranges.{AllAllowed}
use Rattle.safety_automaton.specs.Keys.{key_at}
use Rattle.er_end_model.specs.Steps.{Finds}
use Rattle.er_end_model.specs.Ends.{End, opened, step_event, Call as CallsWith, Answer as AnswersWith}
use Rattle.er_end_model.specs.Ends as end
use Rattle.loop_model.proofs.EndKeepings.{EndStands, StepsAlike, MadeStands}
use Rattle.er_trace.specs.declared.entry.Entry.{Entry as Event_line}
use Rattle.er_trace.specs.declared.event.Event.TheVariants as event
use Rattle.er_trace.specs.Texts.{entry_words}
use Rattle.er_users.specs.Users.{Mind}
use Rattle.rand_core.specs.Stream.{next_u64}
use Rattle.trace_model.specs.Connections.{goes_on, end_behind_call, happens, end_behind}
use Rattle.trace_model.specs.Printed.{outcomes_text, outcomes_at, entries_text}
use Rattle.link_trait.specs.Wires.{Call, Reading, Reads}
use Rattle.loop_model.specs.Journals.{JournalEntry, entry_text, text, trace_line_of, trace_lines_of}
use Rattle.loop_model.specs.Sessions.{Rules, Session, GivenToSession, Begins, Hears, Sends, Takes, Leaves, Ticks, Ends, Faults, Stalls, event_of, journal_event_of_given, end_after, outcomes_of_given_event, entry_of, most_output, octets_in, joined, fed}
use Rattle.loop_model.specs.Visits.{most_read}
use Rattle.loop_model.specs.Loops.{Plan, rules_of, Loop, begun, Caller, calling, Course, Turn, run, Dialled, dials, begun_dial}
use Rattle.loop_model.specs.Parts.{session_of_connection, of, calls_at}
use Rattle.loop_model.specs.Laws.{IsServing, IsDialling, HaveModelOutcomes, ConnectionsAreIsolated, JournalIsPrinted}
use Rattle.loop_model.proofs.Projections.{of-append}
use Rattle.loop_model.proofs.Steadies.{Steady, Calls, AllLeft, all_left_of}
use Rattle.loop_model.proofs.Lives.{Own, Keeps, Fits, knows_run}
use Rattle.loop_model.proofs.Dialling.{knows_dial}
use Rattle.loop_model.proofs.Owns.{Bare, AllGiven, Both, steady_both, bare_both, steady_less, own_steady, own_bare, own_reads, usual_calls}

-- events of one connection: each has the outcomes that the end model gives, and the end behind them
abbrev pub tells : Settings → Finds → Option End → List JournalEntry → Type 0
tells settings finds m [] = Unit {0}
tells settings finds m (x ∷ xs) =
    (x.outcomes ≡ (happens settings finds x.moment x.event m).1) × tells settings finds (happens settings finds x.moment x.event m).0 xs

unfoldable pub behind : Settings → Finds → Option End → List JournalEntry → Option End
behind settings finds m [] = m
behind settings finds m (x ∷ xs) = behind settings finds (happens settings finds x.moment x.event m).0 xs

tells-append : (settings : Settings) (finds : Finds) (m : Option End) (xs ys : List JournalEntry)
    → tells settings finds m xs → tells settings finds (behind settings finds m xs) ys → tells settings finds m (xs ++ ys)
unfolding behind
tells-append settings finds m [] ys p q = q
tells-append settings finds m (x ∷ xs) ys p q = (p.0, tells-append settings finds (happens settings finds x.moment x.event m).0 xs ys p.1 q)

pub behind-append : (settings : Settings) (finds : Finds) (m : Option End) (xs ys : List JournalEntry)
    → behind settings finds m (xs ++ ys) ≡ behind settings finds (behind settings finds m xs) ys
unfolding behind
behind-append settings finds m [] ys = refl
behind-append settings finds m (x ∷ xs) ys = behind-append settings finds (happens settings finds x.moment x.event m).0 xs ys

-- ---- one session

-- the events that an end takes
abbrev pub IsOfEnd : GivenToSession → Type 0
IsOfEnd (Begins engine rbc rb) = ⊥
IsOfEnd (Hears octets) = Unit {0}
IsOfEnd (Sends text) = Unit {0}
IsOfEnd Takes = Unit {0}
IsOfEnd (Leaves sub) = Unit {0}
IsOfEnd Ticks = Unit {0}
IsOfEnd Ends = Unit {0}
IsOfEnd Faults = Unit {0}
IsOfEnd Stalls = Unit {0}

pub all_of_end : AllGiven IsOfEnd
all_of_end = record {
  usual = record { sends = λ text. tt; leaves = λ sub. tt; takes = tt };
  hears = λ octets. tt;
  ticks = tt;
  ends = tt;
  faults = tt;
}

module _ (steps : StepsAlike) (made : MadeStands) (plan : Plan) (allowed : AllAllowed plan.settings) where
  rules : Rules
  rules = rules_of plan

  abbrev pub Tells : Option End → List JournalEntry → Type 0
  Tells m xs = tells plan.settings (key_at plan.keys) m xs

  abbrev pub Behind : Option End → List JournalEntry → Option End
  Behind m xs = behind plan.settings (key_at plan.keys) m xs

  -- events lead from an end that is kept to another
  pub record Leads (m : End) (k : ModelEnd) (ys : List JournalEntry) : Type 0 where
    pub told : Tells (Some m) ys
    pub now : End
    pub is : Behind (Some m) ys ≡ Some now
    pub stands : EndStands k now

  unfoldable pub Going : ModelEnd → ModelEnd → List JournalEntry → Type 0
  Going k l ys = (m : End) → EndStands k m → Leads m l ys

  unfoldable pub Goes : Session ModelEnd → Session ModelEnd → List JournalEntry → List Call → Type 0
  Goes s t ys ds = Going s.end t.end ys

  stays : (k : ModelEnd) → Going k k []
  unfolding Going behind
  stays k m st = record { told = tt; now = m; is = refl; stands = st }

  on : (k l n : ModelEnd) (xs ys : List JournalEntry) → Going k l xs → Going l n ys → Going k n (xs ++ ys)
  unfolding Going
  on k l n xs ys p q m st =
      let a = p m st in
      let b = q a.now a.stands in
      record {
        told = tells-append plan.settings (key_at plan.keys) (Some m) xs ys a.told (rw a.is b.told);
        now = b.now;
        is = behind-append plan.settings (key_at plan.keys) (Some m) xs ys ∙ ap (λ z. Behind z ys) a.is ∙ b.is;
        stands = b.stands;
      }

  same_event : (now : ℕ) (k : ModelEnd) (g : GivenToSession) (m : End) → IsOfEnd g
      → happens plan.settings (key_at plan.keys) now (journal_event_of_given model_ends k g) (Some m) ≡ goes_on now (used_part k (event_of (rules_of plan) g)) (Some m)
  same_event now k (Begins engine rbc rb) m p = absurd p
  same_event now k (Hears octets) m p = refl
  same_event now k (Sends text) m p = refl
  same_event now k Takes m p = refl
  same_event now k (Leaves sub) m p = refl
  same_event now k Ticks m p = refl
  same_event now k Ends m p = refl
  same_event now k Faults m p = refl
  same_event now k Stalls m p = refl

  one : (now conn : ℕ) (k : ModelEnd) (g : GivenToSession) → IsOfEnd g
      → Going k (end_after model_ends (rules_of plan) now k g) (record { moment = now; conn = conn; event = journal_event_of_given model_ends k g; outcomes = outcomes_of_given_event model_ends (rules_of plan) now k g } ∷ [])
  unfolding Going behind end_after outcomes_of_given_event
  one now conn k g p m st =
      let a = steps now (event_of (rules_of plan) g) k m st in
      let e = same_event now k g m p in
      record {
        told = (a.1 ∙ sym (ap (λ z. z.1) e), tt);
        now = (step_event now (used_part k (event_of (rules_of plan) g)) m).0;
        is = ap (λ z. z.0) e;
        stands = a.0;
      }

  steady : Steady (rules_of plan) IsOfEnd Goes
  unfolding Goes
  steady = record {
    none = λ s. stays s.end;
    then_ = λ s t u xs ys cs ds p q. on s.end t.end u.end xs ys p q;
    given = λ m s g p fits. one m s.number s.end g p;
    stalls = λ m s g p fits.
        let k = end_after model_ends (rules_of plan) m s.end g in
        on s.end k (end_after model_ends (rules_of plan) m k Stalls) (entry_of model_ends (rules_of plan) m s g ∷ [])
        (entry_of model_ends (rules_of plan) m (record s { end = k }) Stalls ∷ []) (one m s.number s.end g p) (one m s.number k Stalls tt);
    heard = λ s mind. stays s.end;
    parts = λ s told at gone. stays s.end;
  }

  bare : Bare Goes
  unfolding Goes
  bare = record {
    wrote = λ s n whole. stays s.end;
    put_off = λ s. stays s.end;
    noted = λ s. stays s.end;
    failed = λ s. stays s.end;
    breaks = λ s gone. stays s.end;
  }

  reads : (s : Session ModelEnd) (waits : ℕ) (reading : Reading) → Goes s s [] (Reads s.number most_read waits reading ∷ [])
  unfolding Goes
  reads s waits reading = stays s.end

  abbrev pub Q : Session ModelEnd → Session ModelEnd → List JournalEntry → List Call → Type 0
  Q = Both Own Goes

  pub q_steady : Steady (rules_of plan) IsOfEnd Q
  q_steady = steady_both (rules_of plan) IsOfEnd Own Goes (steady_less (rules_of plan) (λ g. Unit {0}) IsOfEnd Own (λ g p. tt) (own_steady (rules_of plan))) steady

  pub q_each : Calls (rules_of plan) Q
  q_each =
      usual_calls (rules_of plan) IsOfEnd Q q_steady all_of_end (bare_both Own Goes own_bare bare)
      (λ s waits reading. (own_reads s waits reading, reads s waits reading))

  pub q_calls : AllLeft (rules_of plan) Q
  q_calls = all_left_of (rules_of plan) Q q_each

  -- an end and its events so far
  pub record ToldTo (k : ModelEnd) (xs : List JournalEntry) : Type 0 where
    pub told : Tells None xs
    pub now : End
    pub is : Behind None xs ≡ Some now
    pub stands : EndStands k now

  abbrev pub Told : Session ModelEnd → List JournalEntry → List Call → Type 0
  Told s xs cs = ToldTo s.end xs

  abbrev pub Gone : List JournalEntry → List Call → Type 0
  Gone xs cs = Tells None xs

  pub more : (k l : ModelEnd) (xs ys : List JournalEntry) → ToldTo k xs → Going k l ys → ToldTo l (xs ++ ys)
  unfolding Going
  more k l xs ys h q =
      let b = q h.now h.stands in
      record {
        told = tells-append plan.settings (key_at plan.keys) None xs ys h.told (rw h.is b.told);
        now = b.now;
        is = behind-append plan.settings (key_at plan.keys) None xs ys ∙ ap (λ z. Behind z ys) h.is ∙ b.is;
        stands = b.stands;
      }

  pub keeps : Keeps plan Q Told Gone
  unfolding behind Goes
  keeps = record {
    visit = λ s t xs ys cs ds h q. more s.end t.end xs ys h q.1;
    close = λ s t xs ys cs ds over h q. (more s.end t.end xs ys h q.1).told;
    open_ = λ l conn mind. record {
      told = (refl, tt);
      now = opened (AnswersWith plan.settings plan.rbc (next_u64 l.words).0 l.moment);
      is = refl;
      stands = made (AnswersWith plan.settings plan.rbc (next_u64 l.words).0 l.moment);
    };
    never = tt;
    full = λ m conn live most. (refl, tt);
    unserved = λ m conn handed. (refl, tt);
  }

  told_in : (s : Option (Session ModelEnd)) (conn : ℕ) (xs : List JournalEntry) (cs : List Call)
      → Fits plan Q q_calls (λ s t xs cs p. p.0) Told Gone keeps s conn xs cs → Tells None xs
  unfolding Fits
  told_in None conn xs cs h = h
  told_in (Some s) conn xs cs h = h.1.told

  -- ---- the whole journal

  pub at_own : (conn : ℕ) (m : Option End) (xs : List JournalEntry) → end_behind plan.settings (key_at plan.keys) conn m (trace_lines_of xs) ≡ Behind m (of conn xs)
  unfolding end_behind behind of
  at_own conn m [] = refl
  at_own conn m (x ∷ xs) =
      let now = (happens plan.settings (key_at plan.keys) x.moment x.event m).0 in
      elim (cases_Bool (x.conn == conn)) [
        | inl p ↦
            ap (λ (b : Bool). end_behind plan.settings (key_at plan.keys) conn (if b then now else m) (trace_lines_of xs)) p
            ∙ at_own conn now xs
            ∙ sym (ap (λ (b : Bool). Behind m (if b then x ∷ of conn xs else of conn xs)) p)
        | inr p ↦
            ap (λ (b : Bool). end_behind plan.settings (key_at plan.keys) conn (if b then now else m) (trace_lines_of xs)) p
            ∙ at_own conn m xs
            ∙ sym (ap (λ (b : Bool). Behind m (if b then x ∷ of conn xs else of conn xs)) p)
      ]

  lines-last : (xs : List JournalEntry) (x : JournalEntry) → trace_lines_of (xs ++ x ∷ []) ≡ trace_lines_of xs ++ trace_line_of x ∷ []
  lines-last [] x = refl
  lines-last (y ∷ ys) x = ap (λ z. trace_line_of y ∷ z) (lines-last ys x)

  rest_of : (conn : ℕ) (x : JournalEntry) (before xs : List JournalEntry) → Tells (Behind None (of conn before)) (of conn (x ∷ xs))
      → Tells (Behind None (of conn (before ++ x ∷ []))) (of conn xs)
  unfolding of behind
  rest_of conn x before xs h =
      rw (of-append conn before (x ∷ []))
      (elim (cases_Bool (x.conn == conn)) [
        | inl p ↦
            let i = rw p at h in
            rw (p, behind-append plan.settings (key_at plan.keys) None (of conn before) (x ∷ [])) i.1
        | inr p ↦ rw (p, append-nil (of conn before)) (rw p at h)
      ])

  told_from : (before xs : List JournalEntry) → ((conn : ℕ) → Tells (Behind None (of conn before)) (of conn xs))
      → HaveModelOutcomes plan.settings (key_at plan.keys) (trace_lines_of before) xs
  unfolding of
  told_from before [] h = tt
  told_from before (x ∷ xs) h =
      let first : Tells (Behind None (of x.conn before)) (x ∷ of x.conn xs) = rw (eq-eqb x.conn x.conn refl) at (h x.conn) in (
        first.0 ∙ ap (λ z. (happens plan.settings (key_at plan.keys) x.moment x.event z).1) (sym (at_own x.conn None before)),
        subst (λ z. HaveModelOutcomes plan.settings (key_at plan.keys) z xs) (lines-last before x)
            (told_from (before ++ x ∷ []) xs (λ conn. rest_of conn x before xs (h conn))),
      )

  pub isolated : (c : Course ModelEnd) (turns : List Turn) → IsServing plan c turns → HaveModelOutcomes plan.settings (key_at plan.keys) [] (run model_ends plan c turns).entries
  unfolding behind of
  isolated c turns serving =
      let k = knows_run plan Q q_calls (λ s t xs cs p. p.0) Told Gone keeps c turns serving.none serving.rises in
      told_from [] (run model_ends plan c turns).entries (λ conn.
      told_in (session_of_connection conn (run model_ends plan c turns).state.loop.sessions) conn (of conn (run model_ends plan c turns).entries) (calls_at conn (run model_ends plan c turns).calls) (k.fits conn))

  -- ---- a dial

  abbrev pub begins : Caller → Loop ModelEnd → GivenToSession
  begins caller l = Begins caller.engine plan.rbc (next_u64 l.words).0

  told_call : (caller : Caller) (l : Loop ModelEnd) (conn : ℕ) → key_at plan.keys l.moment caller.engine plan.rbc ≡ Some caller.kmac
      → ToldTo (end_after model_ends (rules_of plan) l.moment (calling model_ends plan caller l) (begins caller l))
      (record { moment = l.moment; conn = conn; event = journal_event_of_given model_ends (calling model_ends plan caller l) (begins caller l); outcomes = outcomes_of_given_event model_ends (rules_of plan) l.moment (calling model_ends plan caller l) (begins caller l) } ∷ [])
  unfolding behind end_after outcomes_of_given_event
  told_call caller l conn key =
      let word = (next_u64 l.words).0 in
      let o = CallsWith plan.settings caller.engine plan.rbc caller.kmac word l.moment in
      let a = steps l.moment end.Start (model_ends.opens o) (opened o) (made o) in
      let e : happens plan.settings (key_at plan.keys) l.moment (event.Call caller.engine plan.rbc word) None ≡ goes_on l.moment end.Start (Some (opened o)) =
      ap (λ z. end_behind_call plan.settings l.moment caller.engine plan.rbc word z None) key in
      record {
        told = (a.1 ∙ sym (ap (λ z. z.1) e), tt);
        now = (step_event l.moment end.Start (opened o)).0;
        is = ap (λ z. z.0) e;
        stands = a.0;
      }

  pub first_told : (caller : Caller) (at : ℕ) → key_at plan.keys at caller.engine plan.rbc ≡ Some caller.kmac
      → (l : Loop ModelEnd) (conn : ℕ) (mind : Mind) → l.moment ≡ at
      → ToldTo (fed model_ends (rules_of plan) l.moment (begun_dial conn (calling model_ends plan caller l) mind) (begins caller l)).0.end
      (fed model_ends (rules_of plan) l.moment (begun_dial conn (calling model_ends plan caller l) mind) (begins caller l)).1
  unfolding fed joined
  first_told caller at key l conn mind now =
      let r = rules_of plan in
      let m = l.moment in
      let k = calling model_ends plan caller l in
      let g = begins caller l in
      let n = end_after model_ends r m k g in
      let s = begun conn k mind in
      let t = told_call caller l conn (subst (λ z. key_at plan.keys z caller.engine plan.rbc ≡ Some caller.kmac) (sym now) key) in
      elim (cases_Bool (nat_lt most_output (length s.output + length (octets_in (outcomes_of_given_event model_ends r m k g))))) [
        | inl p ↦ rw p (more n (end_after model_ends r m n Stalls) (entry_of model_ends r m s g ∷ []) (entry_of model_ends r m (record s { end = n }) Stalls ∷ []) t (one m conn n Stalls tt))
        | inr p ↦ rw p t
      ]

  pub dialled : (caller : Caller) (c : Course ModelEnd) (address : List ℕ) (a : Dialled) → IsDialling plan caller c address a
      → HaveModelOutcomes plan.settings (key_at plan.keys) [] (dials model_ends plan caller c address a).entries
  unfolding behind of
  dialled caller c address a h =
      let at = max c.loop.moment a.first in
      let k = knows_dial plan caller IsOfEnd Q q_steady all_of_end.usual q_calls (λ s t xs cs p. p.0) Told Gone keeps at (first_told caller at h.key) c address a h.none refl h.rises in
      let o = dials model_ends plan caller c address a in
      told_from [] o.entries (λ conn. told_in (session_of_connection conn o.state.loop.sessions) conn (of conn o.entries) (calls_at conn o.calls) (k.fits conn))

text_told : (settings : Settings) (finds : Finds) (before : List Event_line) (xs : List JournalEntry) → HaveModelOutcomes settings finds before xs
    → text xs ≡ entries_text settings finds before (trace_lines_of xs)
unfolding entry_text entries_text
text_told settings finds before [] h = refl
text_told settings finds before (x ∷ xs) h =
    ap (λ z. (line_text (entry_words x.moment x.conn x.event) ++ outcomes_text x.conn z) ++ text xs) h.0
    ∙ ap (λ z. (line_text (entry_words x.moment x.conn x.event) ++ outcomes_text x.conn (outcomes_at settings finds before (trace_line_of x))) ++ z)
    (text_told settings finds (before ++ trace_line_of x ∷ []) xs h.1)

pub all_isolated : StepsAlike → MadeStands → ConnectionsAreIsolated
all_isolated steps made = record {
  serving = λ plan c turns h. isolated steps made plan h.allowed c turns h;
  dialling = λ plan caller c address a h. dialled steps made plan h.allowed caller c address a h;
}

pub all_printed : StepsAlike → MadeStands → JournalIsPrinted
all_printed steps made = record {
  serving = λ plan c turns h. text_told plan.settings (key_at plan.keys) [] (run model_ends plan c turns).entries (isolated steps made plan h.allowed c turns h);
  dialling = λ plan caller c address a h.
      text_told plan.settings (key_at plan.keys) [] (dials model_ends plan caller c address a).entries (dialled steps made plan h.allowed caller c address a h);
}
