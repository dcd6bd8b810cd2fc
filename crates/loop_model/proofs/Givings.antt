-- The octets given to a connection are a beginning of those of its outcomes.
use Rattle.loop_model.specs.Ends.{ModelEnd, model_ends}
use Rattle.std.proofs.Common.{◌≡◌, ℕ, max, inl, inr, Bool, true, false, ◌||◌, List, [], ◌∷◌, ◌++◌, drop, take, Option, Some, None, refl, sym, ◌∙◌, ap, append-nil, append_assoc, true≢false, take-append-drop}
use Rattle.std.specs.Prelude.{◌==◌}
use Rattle.std.proofs.lemmas.Bool.{cases_Bool}
use Rattle.er_users.specs.Users.{Mind}
use Rattle.rand_core.specs.Stream.{next_u64}
use Rattle.link_trait.specs.Wires.{Call, Listens, Dials, Turns, Reads, Writes, Closes, given_of}
use Rattle.link_trait.specs.declared.wires.WriteAnswer.TheVariants as write
use Rattle.loop_model.specs.Journals.{JournalEntry}
use Rattle.loop_model.specs.Outs.{Out}
use Rattle.loop_model.specs.Sessions.{Rules, Session, Begins, Stalls, fed, breaks, end_after, outcomes_of_given_event, entry_of, octets_in}
use Rattle.loop_model.specs.Visits.{most_read}
use Rattle.loop_model.specs.Loops.{Plan, rules_of, Loop, Caller, calling, Course, run, dials, begun_dial}
use Rattle.loop_model.specs.Parts.{session_of_connection, of, calls_at}
use Rattle.loop_model.specs.Laws.{AreAccounted, octets_of_entries, IsBeginning, OctetsAreAccounted}
use Rattle.loop_model.proofs.Steadies.{Steady, Calls, AllLeft, all_left_of, steady_fed}
use Rattle.loop_model.proofs.Lives.{Own, Keeps, Fits, Knows, knows_run}
use Rattle.loop_model.proofs.Dialling.{knows_dial}
use Rattle.loop_model.proofs.Owns.{Bare, AllGiven, Both, steady_both, bare_both, own_steady, own_bare, own_reads, usual_calls}

-- the octets that calls gave, whichever connection they are at
abbrev pub gives : Call → List ℕ
gives (Listens address listens) = []
gives (Dials address conn) = []
gives (Turns until happening) = []
gives (Reads conn size waits reading) = []
gives (Writes conn piece (write.Some n)) = take n piece
gives (Writes conn piece write.NotNow) = []
gives (Writes conn piece write.Failed) = []
gives (Closes conn) = []

unfoldable pub given_in : List Call → List ℕ
given_in [] = []
given_in (call ∷ calls) = gives call ++ given_in calls

given_in-append : (cs ds : List Call) → given_in (cs ++ ds) ≡ given_in cs ++ given_in ds
unfolding given_in
given_in-append [] ds = refl
given_in-append (call ∷ cs) ds = ap (λ z. gives call ++ z) (given_in-append cs ds) ∙ sym (append_assoc (gives call) (given_in cs) (given_in ds))

pub octets_of-append : (xs ys : List JournalEntry) → octets_of_entries (xs ++ ys) ≡ octets_of_entries xs ++ octets_of_entries ys
unfolding octets_of_entries
octets_of-append [] ys = refl
octets_of-append (x ∷ xs) ys =
    ap (λ z. octets_in x.outcomes ++ z) (octets_of-append xs ys) ∙ sym (append_assoc (octets_in x.outcomes) (octets_of_entries xs) (octets_of_entries ys))

-- what is given to a connection is what the calls at it give
given_step : (conn : ℕ) (call : Call) (cs : List Call) → given_of conn cs ≡ given_in (calls_at conn cs)
    → given_of conn (call ∷ cs) ≡ given_in (calls_at conn (call ∷ cs))
unfolding given_of given_in calls_at
given_step conn (Listens address listens) cs p = p
given_step conn (Dials address other) cs p = p
given_step conn (Turns until happening) cs p = p
given_step conn (Reads other size waits reading) cs p =
    elim (cases_Bool (other == conn)) [ inl e ↦ rw e p | inr e ↦ rw e p ]
given_step conn (Writes other piece (write.Some n)) cs p =
    elim (cases_Bool (other == conn)) [ inl e ↦ rw e (ap (λ z. take n piece ++ z) p) | inr e ↦ rw e p ]
given_step conn (Writes other piece write.NotNow) cs p =
    elim (cases_Bool (other == conn)) [ inl e ↦ rw e p | inr e ↦ rw e p ]
given_step conn (Writes other piece write.Failed) cs p =
    elim (cases_Bool (other == conn)) [ inl e ↦ rw e p | inr e ↦ rw e p ]
given_step conn (Closes other) cs p =
    elim (cases_Bool (other == conn)) [ inl e ↦ rw e p | inr e ↦ rw e p ]

pub given_at : (conn : ℕ) (cs : List Call) → given_of conn cs ≡ given_in (calls_at conn cs)
unfolding given_of given_in calls_at
given_at conn [] = refl
given_at conn (call ∷ cs) = given_step conn call cs (given_at conn cs)

-- ---- one session

-- what waited and what came are what was given and a rest; and all but what waits was given, unless it broke off
pub record Gives (s t : Session ModelEnd) (xs : List JournalEntry) (cs : List Call) : Type 0 where
  pub rest : List ℕ
  pub is : s.output ++ octets_of_entries xs ≡ given_in cs ++ rest
  pub whole : t.broken ≡ false → (s.broken ≡ false) × (rest ≡ t.output)
  pub silent : s.broken ≡ true → given_in cs ≡ []

waits : (s t : Session ModelEnd) (xs : List JournalEntry) → t.output ≡ s.output ++ octets_of_entries xs → (t.broken ≡ false → s.broken ≡ false) → Gives s t xs []
unfolding given_in
waits s t xs e f = record { rest = s.output ++ octets_of_entries xs; is = refl; whole = λ p. (f p, sym e); silent = λ p. refl }

breaks_off : (s t : Session ModelEnd) (xs : List JournalEntry) → t.broken ≡ true → Gives s t xs []
unfolding given_in
breaks_off s t xs e = record { rest = s.output ++ octets_of_entries xs; is = refl; whole = λ p. absurd (true≢false (sym e ∙ p)); silent = λ p. refl }

gives_then : (s t u : Session ModelEnd) (xs ys : List JournalEntry) (cs ds : List Call) → Gives s t xs cs → Gives t u ys ds → Gives s u (xs ++ ys) (cs ++ ds)
gives_then s t u xs ys cs ds a b =
    elim (cases_Bool t.broken) [
      | inl p ↦ record {
        rest = a.rest ++ octets_of_entries ys;
        is =
            ap (λ z. s.output ++ z) (octets_of-append xs ys)
            ∙ sym (append_assoc s.output (octets_of_entries xs) (octets_of_entries ys))
            ∙ ap (λ z. z ++ octets_of_entries ys) a.is
            ∙ append_assoc (given_in cs) a.rest (octets_of_entries ys)
            ∙ ap (λ z. z ++ (a.rest ++ octets_of_entries ys)) (sym (given_in-append cs ds ∙ ap (λ z. given_in cs ++ z) (b.silent p) ∙ append-nil (given_in cs)));
        whole = λ q. absurd (true≢false (sym p ∙ (b.whole q).0));
        silent = λ q. given_in-append cs ds ∙ ap (λ z. given_in cs ++ z) (b.silent p) ∙ append-nil (given_in cs) ∙ a.silent q;
      }
      | inr p ↦ record {
        rest = b.rest;
        is =
            ap (λ z. s.output ++ z) (octets_of-append xs ys)
            ∙ sym (append_assoc s.output (octets_of_entries xs) (octets_of_entries ys))
            ∙ ap (λ z. z ++ octets_of_entries ys) a.is
            ∙ append_assoc (given_in cs) a.rest (octets_of_entries ys)
            ∙ ap (λ z. given_in cs ++ (z ++ octets_of_entries ys)) (a.whole p).1
            ∙ ap (λ z. given_in cs ++ z) b.is
            ∙ sym (append_assoc (given_in cs) (given_in ds) b.rest)
            ∙ ap (λ z. z ++ b.rest) (sym (given_in-append cs ds));
        whole = λ q. ((a.whole p).0, (b.whole q).1);
        silent = λ q. absurd (true≢false (sym q ∙ (a.whole p).0));
      }
    ]

or_left : (a b : Bool) → (a || b) ≡ false → a ≡ false
or_left true b p = p
or_left false b p = refl

steady : (r : Rules) → Steady r (λ g. Unit {0}) Gives
unfolding octets_of_entries
steady r = record {
  none = λ s. waits s s [] (sym (append-nil s.output)) (λ p. p);
  then_ = gives_then;
  given = λ m s g allowed fits.
      let os = octets_in (outcomes_of_given_event model_ends r m s.end g) in
      waits s (record s { end = end_after model_ends r m s.end g; output = s.output ++ os; broken = s.broken || breaks g }) (entry_of model_ends r m s g ∷ [])
      (ap (λ z. s.output ++ z) (sym (append-nil os))) (or_left s.broken (breaks g));
  stalls = λ m s g allowed fits.
      breaks_off s (record s { end = end_after model_ends r m (end_after model_ends r m s.end g) Stalls; broken = true })
      (entry_of model_ends r m s g ∷ entry_of model_ends r m (record s { end = end_after model_ends r m s.end g }) Stalls ∷ []) refl;
  heard = λ s mind. waits s (record s { mind = mind }) [] (sym (append-nil s.output)) (λ p. p);
  parts = λ s told at gone. waits s (record s { mind = None; told = told; closing = Some at }) [] (sym (append-nil s.output)) (λ p. p);
}

take_and_drop : (n : ℕ) (xs : List ℕ) → take n xs ++ drop n xs ≡ xs
take_and_drop n xs = take-append-drop n xs

bare_call : (s : Session ModelEnd) (call : Call) → gives call ≡ [] → Gives s s [] (call ∷ [])
unfolding given_in octets_of_entries
bare_call s call none = record {
  rest = s.output;
  is = append-nil s.output ∙ ap (λ z. (z ++ []) ++ s.output) (sym none);
  whole = λ p. (p, refl);
  silent = λ p. ap (λ z. z ++ []) none;
}

bare : Bare Gives
unfolding given_in octets_of_entries
bare = record {
  wrote = λ s n whole. record {
    rest = drop n s.output;
    is = append-nil s.output ∙ sym (take_and_drop n s.output) ∙ ap (λ z. z ++ drop n s.output) (sym (append-nil (take n s.output)));
    whole = λ p. (whole, refl);
    silent = λ p. absurd (true≢false (sym p ∙ whole));
  };
  put_off = λ s. bare_call s (Writes s.number s.output write.NotNow) refl;
  noted = λ s. waits s _ [] (sym (append-nil s.output)) (λ p. p);
  failed = λ s. bare_call s (Writes s.number s.output write.Failed) refl;
  breaks = λ s gone. breaks_off s (record s { broken = true }) [] refl;
}

pub all_given : AllGiven (λ g. Unit {0})
all_given = record { usual = record { sends = λ text. tt; leaves = λ sub. tt; takes = tt }; hears = λ octets. tt; ticks = tt; ends = tt; faults = tt }

abbrev pub Q : Session ModelEnd → Session ModelEnd → List JournalEntry → List Call → Type 0
Q = Both Own Gives

pub q_steady : (r : Rules) → Steady r (λ g. Unit {0}) Q
q_steady r = steady_both r (λ g. Unit {0}) Own Gives (own_steady r) (steady r)

pub q_each : (r : Rules) → Calls r Q
q_each r =
    usual_calls r (λ g. Unit {0}) Q (q_steady r) all_given (bare_both Own Gives own_bare bare)
    (λ s n reading. (own_reads s n reading, bare_call s (Reads s.number most_read n reading) refl))

q_calls : (r : Rules) → AllLeft r Q
q_calls r = all_left_of r Q (q_each r)

-- ---- a session and all that came at it

pub record Given_so (s : Session ModelEnd) (xs : List JournalEntry) (cs : List Call) : Type 0 where
  pub rest : List ℕ
  pub is : given_in cs ++ rest ≡ octets_of_entries xs
  pub whole : s.broken ≡ false → rest ≡ s.output

abbrev pub Gone : List JournalEntry → List Call → Type 0
Gone xs cs = IsBeginning (given_in cs) (octets_of_entries xs)

pub more : (s t : Session ModelEnd) (xs ys : List JournalEntry) (cs ds : List Call) → Given_so s xs cs → Gives s t ys ds → Given_so t (xs ++ ys) (cs ++ ds)
more s t xs ys cs ds h q =
    elim (cases_Bool s.broken) [
      | inl p ↦ record {
        rest = h.rest ++ octets_of_entries ys;
        is =
            ap (λ z. z ++ (h.rest ++ octets_of_entries ys)) (given_in-append cs ds ∙ ap (λ z. given_in cs ++ z) (q.silent p) ∙ append-nil (given_in cs))
            ∙ sym (append_assoc (given_in cs) h.rest (octets_of_entries ys))
            ∙ ap (λ z. z ++ octets_of_entries ys) h.is
            ∙ sym (octets_of-append xs ys);
        whole = λ e. absurd (true≢false (sym p ∙ (q.whole e).0));
      }
      | inr p ↦ record {
        rest = q.rest;
        is =
            ap (λ z. z ++ q.rest) (given_in-append cs ds)
            ∙ append_assoc (given_in cs) (given_in ds) q.rest
            ∙ ap (λ z. given_in cs ++ z) (sym q.is)
            ∙ sym (append_assoc (given_in cs) s.output (octets_of_entries ys))
            ∙ ap (λ z. (given_in cs ++ z) ++ octets_of_entries ys) (sym (h.whole p))
            ∙ ap (λ z. z ++ octets_of_entries ys) h.is
            ∙ sym (octets_of-append xs ys);
        whole = λ e. (q.whole e).1;
      }
    ]

pub closed_given : (cs ds : List Call) (n : ℕ) → given_in (cs ++ (ds ++ Closes n ∷ [])) ≡ given_in (cs ++ ds)
unfolding given_in
closed_given cs ds n =
    ap given_in (sym (append_assoc cs ds (Closes n ∷ []))) ∙ given_in-append (cs ++ ds) (Closes n ∷ []) ∙ append-nil (given_in (cs ++ ds))

pub keeps : (plan : Plan) → Keeps plan Q Given_so Gone
unfolding given_in octets_of_entries
keeps plan = record {
  visit = λ s t xs ys cs ds h q. more s t xs ys cs ds h q.1;
  close = λ s t xs ys cs ds over h q.
      let m = more s t xs ys cs ds h q.1 in
      record { rest = m.rest; is = ap (λ z. z ++ m.rest) (closed_given cs ds t.number) ∙ m.is };
  open_ = λ l conn mind. record { rest = []; is = refl; whole = λ p. refl };
  never = record { rest = []; is = refl };
  full = λ m conn live most. record { rest = []; is = refl };
  unserved = λ m conn handed. record { rest = []; is = refl };
}

given_so : (plan : Plan) (s : Option (Session ModelEnd)) (conn : ℕ) (xs : List JournalEntry) (cs : List Call)
    → Fits plan Q (q_calls (rules_of plan)) (λ s t xs cs p. p.0) Given_so Gone (keeps plan) s conn xs cs → IsBeginning (given_in cs) (octets_of_entries xs)
unfolding Fits
given_so plan None conn xs cs h = h
given_so plan (Some s) conn xs cs h = record { rest = h.1.rest; is = h.1.is }

-- the session that a dial opens
pub first : (plan : Plan) (caller : Caller) (l : Loop ModelEnd) (conn : ℕ) (mind : Mind)
    → Given_so (fed model_ends (rules_of plan) l.moment (begun_dial conn (calling model_ends plan caller l) mind) (Begins caller.engine plan.rbc (next_u64 l.words).0)).0
    (fed model_ends (rules_of plan) l.moment (begun_dial conn (calling model_ends plan caller l) mind) (Begins caller.engine plan.rbc (next_u64 l.words).0)).1 []
unfolding given_in octets_of_entries
first plan caller l conn mind =
    let r = rules_of plan in
    let s = begun_dial conn (calling model_ends plan caller l) mind in
    let g = Begins caller.engine plan.rbc (next_u64 l.words).0 in
    let f = fed model_ends r l.moment s g in
    more s f.0 [] f.1 [] [] (record { rest = []; is = refl; whole = λ p. refl }) (steady_fed r (λ g. Unit {0}) Gives (steady r) all_given.usual l.moment s g tt)

all_so : (plan : Plan) (o : Out (Course ModelEnd))
    → Knows plan Q (q_calls (rules_of plan)) (λ s t xs cs p. p.0) Given_so Gone (keeps plan) o.entries o.calls o.state.loop.sessions → AreAccounted o
all_so plan o k conn =
    rw (given_at conn o.calls)
    (given_so plan (session_of_connection conn o.state.loop.sessions) conn (of conn o.entries) (calls_at conn o.calls) (k.fits conn))

pub accounted : OctetsAreAccounted
accounted = record {
  serving = λ plan c turns h.
      all_so plan (run model_ends plan c turns)
      (knows_run plan Q (q_calls (rules_of plan)) (λ s t xs cs p. p.0) Given_so Gone (keeps plan) c turns h.none h.rises);
  dialling = λ plan caller c address a h.
      all_so plan (dials model_ends plan caller c address a)
      (knows_dial plan caller (λ g. Unit {0}) Q (q_steady (rules_of plan)) all_given.usual (q_calls (rules_of plan)) (λ s t xs cs p. p.0) Given_so Gone (keeps plan)
      (max c.loop.moment a.first) (λ l conn mind now. first plan caller l conn mind) c address a h.none refl h.rises);
}
