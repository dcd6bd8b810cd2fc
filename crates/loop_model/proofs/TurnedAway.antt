-- Of a connection that was turned away nothing else is told, and it is closed.
use Rattle.loop_model.specs.Ends.{ModelEnd, model_ends}
use Rattle.std.proofs.Common.{◌≡◌, ℕ, ◌≤◌, inl, inr, true, false, List, [], ◌∷◌, ◌++◌, Option, Some, None, refl, sym, ◌∙◌, subst, true≢false, eqb-true}
use Rattle.std.specs.Prelude.{◌==◌, ◌⊎◌}
use Rattle.std.proofs.lemmas.Bool.{cases_Bool}
use Rattle.er_trace.specs.declared.event.Event.TheVariants as event
use Rattle.trace_model.specs.Checks.{most_live}
use Rattle.link_trait.specs.Wires.{Call, Reading, Reads, Closes}
use Rattle.loop_model.specs.Journals.{JournalEntry}
use Rattle.loop_model.specs.Outs.{Out}
use Rattle.loop_model.specs.Sessions.{Rules, Session, GivenToSession, Begins, Hears, Sends, Takes, Leaves, Ticks, Ends, Faults, Stalls, journal_event_of_given}
use Rattle.loop_model.specs.Visits.{most_read}
use Rattle.loop_model.specs.Loops.{Plan, rules_of, Course, Turn, run}
use Rattle.loop_model.specs.Parts.{session_of_connection, of, calls_at}
use Rattle.loop_model.specs.Laws.{IsServing}
use Rattle.loop_model.specs.Alone.{says_full, IsNeverFull, IsOnlyTurnedAway}
use Rattle.loop_model.proofs.Steadies.{Steady, AllLeft, all_left_of}
use Rattle.loop_model.proofs.Lives.{Own, Keeps, Fits, knows_run}
use Rattle.loop_model.proofs.Owns.{Bare, Both, calls_both, usual_calls}
use Rattle.loop_model.proofs.Orders.{own_calls}
use Rattle.loop_model.proofs.Givings.{all_given}

-- none of these events says it
abbrev NoneFull : List JournalEntry → Type 0
NoneFull [] = Unit {0}
NoneFull (x ∷ xs) = (says_full x.event ≡ false) × NoneFull xs

none_full-append : (xs ys : List JournalEntry) → NoneFull xs → NoneFull ys → NoneFull (xs ++ ys)
none_full-append [] ys p q = q
none_full-append (x ∷ xs) ys p q = (p.0, none_full-append xs ys p.1 q)

unfoldable Serves : Session ModelEnd → Session ModelEnd → List JournalEntry → List Call → Type 0
Serves s t xs cs = NoneFull xs

given_serves : (k : ModelEnd) (g : GivenToSession) → says_full (journal_event_of_given model_ends k g) ≡ false
given_serves k (Begins engine rbc rb) = refl
given_serves k (Hears octets) = refl
given_serves k (Sends text) = refl
given_serves k Takes = refl
given_serves k (Leaves sub) = refl
given_serves k Ticks = refl
given_serves k Ends = refl
given_serves k Faults = refl
given_serves k Stalls = refl

steady : (r : Rules) → Steady r (λ g. Unit {0}) Serves
unfolding Serves
steady r = record {
  none = λ s. tt;
  then_ = λ s t u xs ys cs ds p q. none_full-append xs ys p q;
  given = λ m s g allowed fits. (given_serves s.end g, tt);
  stalls = λ m s g allowed fits. (given_serves s.end g, (refl, tt));
  heard = λ s mind. tt;
  parts = λ s told at gone. tt;
}

bare : Bare Serves
unfolding Serves
bare = record { wrote = λ s n whole. tt; put_off = λ s. tt; failed = λ s. tt; breaks = λ s gone. tt; noted = λ s. tt }

reads : (s : Session ModelEnd) (waits : ℕ) (reading : Reading) → Serves s s [] (Reads s.number most_read waits reading ∷ [])
unfolding Serves
reads s waits reading = tt

abbrev Q : Session ModelEnd → Session ModelEnd → List JournalEntry → List Call → Type 0
Q = Both Own Serves

q_left : (r : Rules) → AllLeft r Q
q_left r = all_left_of r Q (calls_both r Own Serves (own_calls r) (usual_calls r (λ g. Unit {0}) Serves (steady r) all_given bare reads))

-- of a connection that is no longer live
record Turned (xs : List JournalEntry) (cs : List Call) : Type 0 where
  moment : ℕ
  conn : ℕ
  live : ℕ
  most : live ≤ most_live
  entries : xs ≡ record { moment = moment; conn = conn; event = event.Full live; outcomes = [] } ∷ []
  calls : cs ≡ Closes conn ∷ []

abbrev Live : Session ModelEnd → List JournalEntry → List Call → Type 0
Live s xs cs = NoneFull xs

abbrev Gone : List JournalEntry → List Call → Type 0
Gone xs cs = NoneFull xs ⊎ Turned xs cs

keeps : (plan : Plan) → Keeps plan Q Live Gone
unfolding Serves
keeps plan = record {
  visit = λ s t xs ys cs ds h q. none_full-append xs ys h q.1;
  close = λ s t xs ys cs ds over h q. inl (none_full-append xs ys h q.1);
  open_ = λ l conn mind. (refl, tt);
  never = inl tt;
  full = λ m conn live most. inr (record { moment = m; conn = conn; live = live; most = most; entries = refl; calls = refl });
  unserved = λ m conn handed. inl (refl, tt);
}

-- ---- of one connection

never_of : (n : ℕ) (xs : List JournalEntry) → NoneFull (of n xs) → IsNeverFull n xs
unfolding of
never_of n [] p = tt
never_of n (x ∷ xs) p =
    elim (cases_Bool (x.conn == n)) [
      | inl e ↦ let q : NoneFull (x ∷ of n xs) = rw e at p in (λ is. q.0, never_of n xs q.1)
      | inr e ↦ let q : NoneFull (of n xs) = rw e at p in (λ is. absurd (true≢false (sym is ∙ e)), never_of n xs q)
    ]

same_head : (x y : JournalEntry) (xs ys : List JournalEntry) → x ∷ xs ≡ y ∷ ys → x ≡ y
same_head x y xs ys e = cc

no_entry : (y : JournalEntry) (ys : List JournalEntry) → y ∷ ys ≡ [] → ⊥
no_entry y ys e = cc

is_its_own : (n : ℕ) (xs ys : List JournalEntry) (y : JournalEntry) → of n xs ≡ y ∷ ys → (y.conn == n) ≡ true
unfolding of
is_its_own n [] ys y e = absurd (no_entry y ys (sym e))
is_its_own n (x ∷ xs) ys y e =
    elim (cases_Bool (x.conn == n)) [
      | inl p ↦ let q : x ∷ of n xs ≡ y ∷ ys = rw p at e in subst (λ (z : JournalEntry). (z.conn == n) ≡ true) (same_head x y (of n xs) ys q) p
      | inr p ↦ let q : of n xs ≡ y ∷ ys = rw p at e in is_its_own n xs ys y q
    ]

away_so : (n : ℕ) (o : Out (Course ModelEnd)) → Turned (of n o.entries) (calls_at n o.calls) → session_of_connection n o.state.loop.sessions ≡ None → IsOnlyTurnedAway n o
away_so n o t none =
    let x : JournalEntry = record { moment = t.moment; conn = t.conn; event = event.Full t.live; outcomes = [] } in
    let num : t.conn ≡ n = eqb-true t.conn n (is_its_own n o.entries [] x t.entries) in
    record {
      moment = t.moment;
      live = t.live;
      most = t.most;
      entries = subst (λ z. of n o.entries ≡ record { moment = t.moment; conn = z; event = event.Full t.live; outcomes = [] } ∷ []) num t.entries;
      calls = subst (λ z. calls_at n o.calls ≡ Closes z ∷ []) num t.calls;
      session = none;
    }

gone_so : (n : ℕ) (o : Out (Course ModelEnd)) → Gone (of n o.entries) (calls_at n o.calls) → session_of_connection n o.state.loop.sessions ≡ None
    → IsNeverFull n o.entries ⊎ IsOnlyTurnedAway n o
gone_so n o (inl p) none = inl (never_of n o.entries p)
gone_so n o (inr t) none = inr (away_so n o t none)

each_fits : (plan : Plan) (n : ℕ) (o : Out (Course ModelEnd)) (s : Option (Session ModelEnd)) → session_of_connection n o.state.loop.sessions ≡ s
    → Fits plan Q (q_left (rules_of plan)) (λ s t xs cs p. p.0) Live Gone (keeps plan) s n (of n o.entries) (calls_at n o.calls)
    → IsNeverFull n o.entries ⊎ IsOnlyTurnedAway n o
unfolding Fits
each_fits plan n o None is h = gone_so n o h is
each_fits plan n o (Some s) is h = inl (never_of n o.entries h.1)

pub never_or_away : (plan : Plan) (c : Course ModelEnd) (turns : List Turn) → IsServing plan c turns → (n : ℕ)
    → IsNeverFull n (run model_ends plan c turns).entries ⊎ IsOnlyTurnedAway n (run model_ends plan c turns)
never_or_away plan c turns h n =
    let o = run model_ends plan c turns in
    let k = knows_run plan Q (q_left (rules_of plan)) (λ s t xs cs p. p.0) Live Gone (keeps plan) c turns h.none h.rises in
    each_fits plan n o (session_of_connection n o.state.loop.sessions) refl (k.fits n)
