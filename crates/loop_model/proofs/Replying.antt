-- The users of all connections: each connection took the last user that was left, and its user speaks from that mind on.
use Rattle.loop_model.specs.Ends.{ModelEnd, model_ends}
use Rattle.std.proofs.Common.{if◌then◌else◌, ◌≡◌, ℕ, ◌<◌, inl, inr, Bool, true, false, List, [], ◌∷◌, ◌++◌, Option, Some, None, refl, sym, ◌∙◌, ap, subst, append-nil, append_assoc, eqb-true, length}
use Rattle.std.specs.Prelude.{◌==◌}
use Rattle.std.proofs.lemmas.Bool.{cases_Bool}
use Rattle.loop_model.proofs.EndKeepings.{WaitsMove, OctetsBring, ReleaseStays, BreaksRelease, ReleasedWantNone, ReleasedTellNone}
use Rattle.er_trace.specs.declared.event.Event.{Event}
use Rattle.er_trace.specs.declared.event.Event.TheVariants as event
use Rattle.er_users.specs.Users.{Mind}
use Rattle.rand_core.specs.Stream.{next_u64}
use Rattle.trace_model.specs.Checks.{is_opening_role as opens_end, role_of, most_live}
use Rattle.link_trait.specs.Wires.{Call, Dials, Turns, Closes}
use Rattle.link_trait.specs.declared.wires.Conn.{Conn}
use Rattle.link_trait.specs.declared.wires.Happening.TheVariants as happening
use Rattle.loop_model.specs.Journals.{JournalEntry}
use Rattle.loop_model.specs.Outs.{first_answer_of}
use Rattle.loop_model.specs.Sessions.{Session, nothing_said, handled}
use Rattle.loop_model.specs.Visits.{Met, Visit, visited, served}
use Rattle.loop_model.specs.Loops.{Plan, rules_of, Loop, with_sessions, visit_at, next_user, other_users, begun, answering, Caller, calling, called_by, called, Course, asks, Turn, run, Dialled, opens, dials_to, dials, begun_dial}
use Rattle.loop_model.specs.Parts.{session_of_connection, of, opened_in, Rises, newest}
use Rattle.loop_model.specs.Laws.{IsServing, IsDialling}
use Rattle.loop_model.specs.Points.{speech_of, user_of, AreDeclined, IsSpoken, UsersReply}
use Rattle.loop_model.specs.Told.{HasUserHeard, UsersHear}
use Rattle.loop_model.proofs.Projections.{of-append, opened_in-append as opens-append, rises_first, rises_rest, newest-append}
use Rattle.loop_model.proofs.Steadies.{Calls, AllLeft, all_left_of, Left as LeftBy, Stays, Closed, steady_handled, left_served}
use Rattle.loop_model.proofs.Lives.{Own, Keeps, LeftAt, own_left, Moved, Absent, Found, moved, Knows, knows_none, knows_moved, knows_turned, accepted_above, knows_opened, knows_away}
use Rattle.loop_model.proofs.Dialling.{knows_called}
use Rattle.loop_model.proofs.Owns.{Both, calls_both, own_steady}
use Rattle.loop_model.proofs.Momentwise.{Momentwise, moment_run}
use Rattle.loop_model.proofs.Orders.{own_calls}
use Rattle.loop_model.proofs.Replaying.{ArePlain, plain_visit, begins, any_usual, CallsSo, served_so}
use Rattle.loop_model.proofs.Speaking.{Ready, Speaks, speaks_calls, called_speaks, ready_told}
use Rattle.loop_model.specs.Speeches.{Spoke, leads-append}

-- ---- which user

-- the users that are left
unfoldable left_behind : List JournalEntry → List Mind → List Mind
left_behind [] users = users
left_behind (x ∷ xs) users = if opens_end (role_of x.event) then left_behind xs (other_users users) else left_behind xs users

-- no end is opened
plain_declined : (m n : ℕ) (xs : List JournalEntry) → ArePlain m n xs → AreDeclined xs
plain_declined m n [] p = tt
plain_declined m n (x ∷ xs) p = (ap opens_end p.0.role, plain_declined m n xs p.1)

no_user : (conn : ℕ) (xs : List JournalEntry) (users : List Mind) → AreDeclined xs → user_of conn xs users ≡ None
unfolding user_of
no_user conn [] users p = refl
no_user conn (x ∷ xs) users p = rw p.0 (no_user conn xs users p.1)

user_same : (conn : ℕ) (js xs : List JournalEntry) (users : List Mind) → AreDeclined xs → user_of conn (js ++ xs) users ≡ user_of conn js users
unfolding user_of
user_same conn [] xs users p = no_user conn xs users p
user_same conn (x ∷ js) xs users p =
    elim (cases_Bool (opens_end (role_of x.event))) [
      | inl q ↦ rw q (ap (λ z. if x.conn == conn then next_user users else z) (user_same conn js xs (other_users users) p))
      | inr q ↦ rw q (user_same conn js xs users p)
    ]

left_same : (js xs : List JournalEntry) (users : List Mind) → AreDeclined xs → left_behind (js ++ xs) users ≡ left_behind js users
unfolding left_behind
left_same [] [] users p = refl
left_same [] (x ∷ xs) users p = rw p.0 (left_same [] xs users p.1)
left_same (x ∷ js) xs users p =
    elim (cases_Bool (opens_end (role_of x.event))) [ inl q ↦ rw q (left_same js xs (other_users users) p) | inr q ↦ rw q (left_same js xs users p) ]

-- an end is opened
left_less : (js : List JournalEntry) (x : JournalEntry) (users : List Mind) → opens_end (role_of x.event) ≡ true → left_behind (js ++ x ∷ []) users ≡ other_users (left_behind js users)
unfolding left_behind
left_less [] x users p = rw p refl
left_less (y ∷ js) x users p =
    elim (cases_Bool (opens_end (role_of y.event))) [ inl q ↦ rw q (left_less js x (other_users users) p) | inr q ↦ rw q (left_less js x users p) ]

user_other : (conn : ℕ) (js : List JournalEntry) (x : JournalEntry) (users : List Mind) → (x.conn == conn) ≡ false → user_of conn (js ++ x ∷ []) users ≡ user_of conn js users
unfolding user_of
user_other conn [] x users p =
    elim (cases_Bool (opens_end (role_of x.event))) [ inl q ↦ rw (q, p) refl | inr q ↦ rw q refl ]
user_other conn (y ∷ js) x users p =
    elim (cases_Bool (opens_end (role_of y.event))) [
      | inl q ↦ rw q (ap (λ z. if y.conn == conn then next_user users else z) (user_other conn js x (other_users users) p))
      | inr q ↦ rw q (user_other conn js x users p)
    ]

not_head : (y : JournalEntry) (ys : List JournalEntry) → y ∷ ys ≡ [] → ⊥
not_head y ys e = cc

user_new : (conn : ℕ) (js : List JournalEntry) (x : JournalEntry) (users : List Mind) → of conn js ≡ [] → (x.conn == conn) ≡ true → opens_end (role_of x.event) ≡ true
    → user_of conn (js ++ x ∷ []) users ≡ next_user (left_behind js users)
unfolding user_of left_behind of
user_new conn [] x users none p o = rw (o, p) refl
user_new conn (y ∷ js) x users none p o =
    elim (cases_Bool (y.conn == conn)) [
      | inl e ↦ absurd (not_head y (of conn js) (rw e at none))
      | inr e ↦
          elim (cases_Bool (opens_end (role_of y.event))) [
            | inl q ↦ rw (q, e) (user_new conn js x (other_users users) (rw e at none) p o)
            | inr q ↦ rw q (user_new conn js x users (rw e at none) p o)
          ]
    ]

user_none : (conn : ℕ) (js : List JournalEntry) (users : List Mind) → of conn js ≡ [] → user_of conn js users ≡ None
unfolding user_of of
user_none conn [] users none = refl
user_none conn (y ∷ js) users none =
    elim (cases_Bool (y.conn == conn)) [
      | inl e ↦ absurd (not_head y (of conn js) (rw e at none))
      | inr e ↦
          elim (cases_Bool (opens_end (role_of y.event))) [
            | inl q ↦ rw (q, e) (user_none conn js (other_users users) (rw e at none))
            | inr q ↦ rw q (user_none conn js users (rw e at none))
          ]
    ]

one_of : (conn : ℕ) (x : JournalEntry) → of conn (x ∷ []) ≡ (if x.conn == conn then x ∷ [] else [])
unfolding of
one_of conn x = refl

new_ready : (plan : Plan) (l : Loop ModelEnd) (conn : ℕ) (mind : Mind) → Ready (begun conn (answering model_ends plan l) mind)
new_ready plan l conn mind = record { waits = refl; gone = λ e. absurd (no mind e); there = λ k e. refl }
  where
    no : (mind : Mind) → Some mind ≡ None → ⊥
    no mind e = cc

call_ready : (plan : Plan) (caller : Caller) (l : Loop ModelEnd) (conn : ℕ) (mind : Mind) → Ready (begun_dial conn (calling model_ends plan caller l) mind)
call_ready plan caller l conn mind = record { waits = refl; gone = λ e. absurd (no mind e); there = λ k e. refl }
  where
    no : (mind : Mind) → Some mind ≡ None → ⊥
    no mind e = cc

module _ (waits : WaitsMove) (bring : OctetsBring) (stays : ReleaseStays) (breaks_release : BreaksRelease) (wants_none : ReleasedWantNone) (tells_none : ReleasedTellNone)
    (plan : Plan) (users : List Mind)
  where
    abbrev Q : Session ModelEnd → Session ModelEnd → List JournalEntry → List Call → Type 0
    Q = Both Own (Speaks (rules_of plan))

    q_each : Calls (rules_of plan) Q
    q_each = calls_both (rules_of plan) Own (Speaks (rules_of plan)) (own_calls (rules_of plan)) (speaks_calls waits bring stays breaks_release wants_none tells_none (rules_of plan))

    q_calls : AllLeft (rules_of plan) Q
    q_calls = all_left_of (rules_of plan) Q q_each

    own : (s t : Session ModelEnd) (xs : List JournalEntry) (cs : List Call) → Q s t xs cs → Own s t xs cs
    own s t xs cs q = q.0

    abbrev K : Session ModelEnd → List JournalEntry → List Call → Type 0
    K s xs cs = Unit {0}

    abbrev E : List JournalEntry → List Call → Type 0
    E xs cs = Unit {0}

    keeps : Keeps plan Q K E
    keeps = record {
      visit = λ s t xs ys cs ds h q. tt;
      close = λ s t xs ys cs ds over h q. tt;
      open_ = λ l conn mind. tt;
      never = tt;
      full = λ m conn live most. tt;
      unserved = λ m conn handed. tt;
    }

    abbrev Known : List JournalEntry → List Call → List (Session ModelEnd) → Type 0
    Known js bs ss = Knows plan Q q_calls own K E keeps js bs ss

    -- a connection whose user is this one
    SaidBy : Option (Session ModelEnd) → Option Mind → List JournalEntry → Type 0
    SaidBy None user xs = IsSpoken user xs
    SaidBy (Some s) user xs = (mind : Mind) × (user ≡ Some mind) × Ready s × Spoke model_ends (rules_of plan) mind s xs

    record Said (l : Loop ModelEnd) (js : List JournalEntry) (bs : List Call) : Type 0 where
      known : Known js bs l.sessions
      left : left_behind js users ≡ l.users
      said : (conn : ℕ) → SaidBy (session_of_connection conn l.sessions) (user_of conn js users) (of conn js)

    said_on : (s : Session ModelEnd) (left : Option (Session ModelEnd)) (user : Option Mind) (js xs : List JournalEntry) (cs : List Call)
        → LeftAt plan Q q_calls own K E keeps s left xs cs → SaidBy (Some s) user js → SaidBy left user (js ++ xs)
    unfolding LeftAt SaidBy Speaks
    said_on s (Some t) user js xs cs q (mind, e, ready, p) =
        let b = q.1 ready in
        let c = b.spoke p.last p.is in
        (mind, e, b.ready, record { last = c.last; is = c.is; leads = leads-append (speech_of mind) (speech_of p.last) (speech_of c.last) js xs p.leads c.leads })
    said_on s None user js xs cs (t, ds, over, f, q) (mind, e, ready, p) =
        let b = q.1 ready in
        let c = b.spoke p.last p.is in
        subst (λ z. IsSpoken z (js ++ xs)) (sym e) (c.last, leads-append (speech_of mind) (speech_of p.last) (speech_of c.last) js xs p.leads c.leads)

    said_moved : (n : ℕ) (js xs : List JournalEntry) (cs : List Call) (ss ts : List (Session ModelEnd)) → Moved plan Q q_calls own K E keeps n ss ts xs cs → AreDeclined xs
        → ((conn : ℕ) → SaidBy (session_of_connection conn ss) (user_of conn js users) (of conn js))
        → (conn : ℕ) → SaidBy (session_of_connection conn ts) (user_of conn (js ++ xs) users) (of conn (js ++ xs))
    said_moved n js xs cs ss ts (Absent f e x y) none said conn = rw (e, x, append-nil js) (said conn)
    said_moved n js xs cs ss ts (Found s f num others left apart) none said conn =
        let o = own_left plan Q q_calls own K E keeps s (session_of_connection n ts) xs cs left in
        rw (user_same conn js xs users none, of-append conn js xs, o.entries conn)
        (elim (cases_Bool (s.number == conn)) [
          | inl p ↦
              rw p
              (subst (λ z. SaidBy (session_of_connection z ts) (user_of z js users) (of z js ++ xs)) (sym num ∙ eqb-true s.number conn p)
              (said_on s (session_of_connection n ts) (user_of n js users) (of n js) xs cs left (subst (λ z. SaidBy z (user_of n js users) (of n js)) f (said n))))
          | inr p ↦ rw (p, append-nil (of conn js), others conn (subst (λ z. (z == conn) ≡ false) num p)) (said conn)
        ])

    Goes : Loop ModelEnd → Loop ModelEnd → List JournalEntry → List Call → Type 0
    Goes l k xs cs = (js : List JournalEntry) (bs : List Call) → Rises (newest 0 (opened_in bs)) (opened_in cs) → Said l js bs → Said k (js ++ xs) (bs ++ cs)

    goes_visit : (l : Loop ModelEnd) (visit : Visit) (n : ℕ) (a : Met)
        → Goes l (with_sessions l (visit_at (visited model_ends (rules_of plan) l.moment visit) n l.sessions a).state)
        (visit_at (visited model_ends (rules_of plan) l.moment visit) n l.sessions a).entries (visit_at (visited model_ends (rules_of plan) l.moment visit) n l.sessions a).calls
    unfolding Goes
    goes_visit l visit n a js bs rises h =
        let o = visit_at (visited model_ends (rules_of plan) l.moment visit) n l.sessions a in
        let none = plain_declined l.moment n o.entries (plain_visit (rules_of plan) l.moment visit n l.sessions a) in
        let m = moved plan Q q_calls own K E keeps l.moment visit n l.sessions a h.known.apart in
        record {
          known = knows_moved plan Q q_calls own K E keeps n js _ bs _ l.sessions _ h.known m;
          left = left_same js o.entries users none ∙ h.left;
          said = said_moved n js o.entries o.calls l.sessions o.state m none h.said;
        }

    session_last : (conn : ℕ) (ss : List (Session ModelEnd)) (s : Session ModelEnd) → (s.number == conn) ≡ false → session_of_connection conn (ss ++ s ∷ []) ≡ session_of_connection conn ss
    unfolding session_of_connection
    session_last conn [] s ne = rw ne refl
    session_last conn (t ∷ ss) s ne = ap (λ z. if t.number == conn then Some t else z) (session_last conn ss s ne)

    session_new : (conn : ℕ) (ss : List (Session ModelEnd)) (s : Session ModelEnd) → session_of_connection conn ss ≡ None → (s.number == conn) ≡ true → session_of_connection conn (ss ++ s ∷ []) ≡ Some s
    unfolding session_of_connection
    session_new conn [] s none p = rw p refl
    session_new conn (t ∷ ss) s none p =
        elim (cases_Bool (t.number == conn)) [
          | inl q ↦ absurd (let x : Some t ≡ None = rw q at none in cc)
          | inr q ↦ rw q (session_new conn ss s (rw q at none) p)
        ]

    goes_away : (l : Loop ModelEnd) (why : Event) (until : Option ℕ) (conn : Conn) → opens_end (role_of why) ≡ false
        → Goes l l (record { moment = l.moment; conn = conn.0; event = why; outcomes = [] } ∷ []) (Turns until (happening.Accepted conn) ∷ Closes conn.0 ∷ [])
    unfolding Goes SaidBy
    goes_away l why until conn not js bs rises h =
        let above = accepted_above plan Q q_calls own K E keeps bs (Closes conn.0 ∷ []) until conn rises in
        let x : JournalEntry = record { moment = l.moment; conn = conn.0; event = why; outcomes = [] } in
        let new = h.known.low conn.0 above in
        record {
          known = knows_away plan Q q_calls own K E keeps js bs l.sessions l.moment why until conn above tt h.known;
          left = left_same js (x ∷ []) users (not, tt) ∙ h.left;
          said = λ n.
              rw (user_same n js (x ∷ []) users (not, tt), of-append n js (x ∷ []), one_of n x)
              (elim (cases_Bool (conn.0 == n)) [
                | inl p ↦
                    let e : conn.0 ≡ n = eqb-true conn.0 n p in
                    let f = h.known.low n (subst (λ z. newest 0 (opened_in bs) < z) e above) in
                    rw (p, f.0, f.2, user_none n js users f.0) (not, tt)
                | inr p ↦ rw (p, append-nil (of n js)) (h.said n)
              ]);
        }

    wise : Momentwise plan Goes
    unfolding Goes SaidBy
    wise = record {
      none = λ l js bs rises h. rw (append-nil js, append-nil bs) h;
      then_ = λ l k n xs ys cs ds p q js bs rises h.
          let s = subst (λ z. Rises (newest 0 (opened_in bs)) z) (opens-append cs ds) rises in
          let rest : Rises (newest 0 (opened_in (bs ++ cs))) (opened_in ds) =
          subst (λ z. Rises z (opened_in ds)) (sym (ap (λ z. newest 0 z) (opens-append bs cs) ∙ newest-append 0 (opened_in bs) (opened_in cs)))
          (rises_rest (newest 0 (opened_in bs)) (opened_in cs) (opened_in ds) s) in
          rw (← append_assoc js xs ys, ← append_assoc bs cs ds)
          (q (js ++ xs) (bs ++ cs) rest (p js bs (rises_first (newest 0 (opened_in bs)) (opened_in cs) (opened_in ds) s) h));
      asked = λ l at js bs rises h. rw (append-nil js, append-nil bs) (record { known = h.known; left = h.left; said = h.said });
      visit = goes_visit;
      turned = λ l until happening none js bs rises h. record {
        known = knows_turned plan Q q_calls own K E keeps js bs l.sessions until happening none h.known;
        left = rw (append-nil js) h.left;
        said = rw (append-nil js) h.said;
      };
      opened = λ l until conn mind fits is js bs rises h.
          let above = accepted_above plan Q q_calls own K E keeps bs [] until conn rises in
          let x : JournalEntry = record { moment = l.moment; conn = conn.0; event = event.Answer plan.rbc (next_u64 l.words).0; outcomes = [] } in
          let s = begun conn.0 (answering model_ends plan l) mind in
          record {
            known = knows_opened plan Q q_calls own K E keeps js bs l until conn mind above h.known;
            left = left_less js x users refl ∙ ap other_users h.left;
            said = λ n.
                rw (of-append n js (x ∷ []), one_of n x)
                (elim (cases_Bool (conn.0 == n)) [
                  | inl p ↦
                      let e : conn.0 ≡ n = eqb-true conn.0 n p in
                      let f = h.known.low n (subst (λ z. newest 0 (opened_in bs) < z) e above) in
                      rw (p, f.0, session_new n l.sessions s f.2 p)
                      (mind, user_new n js x users f.0 p refl ∙ ap next_user h.left ∙ is, new_ready plan l conn.0 mind, record { last = mind; is = refl; leads = (speech_of mind, (refl, refl), refl) })
                  | inr p ↦ rw (p, append-nil (of n js), session_last n l.sessions s p, user_other n js x users p) (h.said n)
                ]);
          };
      full = λ l until conn fits. goes_away l (event.Full most_live) until conn refl;
      wanted = λ l until conn mind fits is js bs rises h.
          let g = goes_away l (event.Full (length l.sessions)) until conn refl js bs rises h in record { known = g.known; left = g.left; said = g.said };
      unserved = λ l until conn fits is. goes_away l (event.Unserved plan.handed) until conn refl;
    }

    spoken_at : (o : Option (Session ModelEnd)) (user : Option Mind) (xs : List JournalEntry) → SaidBy o user xs → IsSpoken user xs
    unfolding SaidBy
    spoken_at None user xs h = h
    spoken_at (Some s) user xs (mind, e, ready, p) = subst (λ z. IsSpoken z xs) (sym e) (p.last, p.leads)

    heard_by : (o : Option (Session ModelEnd)) (user : Option Mind) (xs : List JournalEntry) → SaidBy o user xs → HasUserHeard o user xs
    unfolding SaidBy
    heard_by None user xs h = tt
    heard_by (Some s) user xs (mind, e, ready, p) = (mind, e, ready_told (rules_of plan) mind s xs ready p)

    run_said : (c : Course ModelEnd) (turns : List Turn) → IsServing plan c turns → c.loop.users ≡ users
        → (conn : ℕ) → SaidBy (session_of_connection conn (run model_ends plan c turns).state.loop.sessions) (user_of conn (run model_ends plan c turns).entries users)
        (of conn (run model_ends plan c turns).entries)
    unfolding Goes SaidBy opened_in session_of_connection user_of of left_behind
    run_said c turns h e conn =
        let start : Said c.loop [] [] = record {
          known = rw h.none (knows_none plan Q q_calls own K E keeps);
          left = sym e;
          said = λ n. rw h.none tt;
        } in
        (moment_run plan Goes wise c turns [] [] h.rises start).said conn

    -- ---- a dial

    record SaidFirst (l : Loop ModelEnd) (xs : List JournalEntry) : Type 0 where
      left : left_behind xs users ≡ l.users
      said : (conn : ℕ) → SaidBy (session_of_connection conn l.sessions) (user_of conn xs users) (of conn xs)

    own_only : (conn n : ℕ) (xs : List JournalEntry) → of n xs ≡ (if conn == n then xs else []) → (conn == n) ≡ true → of n xs ≡ xs
    own_only conn n xs e p = e ∙ ap (λ (b : Bool). if b then xs else []) p

    own_none : (conn n : ℕ) (xs : List JournalEntry) → of n xs ≡ (if conn == n then xs else []) → (conn == n) ≡ false → of n xs ≡ []
    own_none conn n xs e p = e ∙ ap (λ (b : Bool). if b then xs else []) p

    first_user : (caller : Caller) (l : Loop ModelEnd) (conn n : ℕ) (mind : Mind) (xs : List JournalEntry) → CallsSo plan caller l conn mind xs → (conn == n) ≡ true
        → user_of n xs users ≡ next_user users
    unfolding user_of
    first_user caller l conn n mind xs c p = subst (λ z. user_of n z users ≡ next_user users) (sym c.is) (rw p refl)

    first_left : (caller : Caller) (l : Loop ModelEnd) (conn : ℕ) (mind : Mind) (xs : List JournalEntry) → CallsSo plan caller l conn mind xs → left_behind xs users ≡ other_users users
    unfolding left_behind
    first_left caller l conn mind xs c =
        subst (λ z. left_behind z users ≡ other_users users) (sym c.is) (left_same [] c.rest (other_users users) (plain_declined l.moment conn c.rest c.plain))

    -- what the opening leaves, at each connection
    first_at : (caller : Caller) (l : Loop ModelEnd) (conn n : ℕ) (mind : Mind) (o : Option (Session ModelEnd)) (xs : List JournalEntry) → CallsSo plan caller l conn mind xs
        → next_user users ≡ Some mind → of n xs ≡ (if conn == n then xs else []) → SaidBy o (Some mind) xs
        → SaidBy (if conn == n then o else None) (user_of n xs users) (of n xs)
    unfolding SaidBy of
    first_at caller l conn n mind o xs c is mine h =
        elim (cases_Bool (conn == n)) [
          | inl p ↦ rw (p, own_only conn n xs mine p, first_user caller l conn n mind xs c p, is) h
          | inr p ↦ rw (p, own_none conn n xs mine p, user_none n xs users (own_none conn n xs mine p)) tt
        ]

    one_session : (n : ℕ) (t : Session ModelEnd) (conn : ℕ) → t.number ≡ conn → session_of_connection n (t ∷ []) ≡ (if conn == n then Some t else None)
    unfolding session_of_connection
    one_session n t conn e = subst (λ z. (if t.number == n then Some t else None) ≡ (if z == n then Some t else None)) e refl

    abbrev no_one : Option (Session ModelEnd)
    no_one = None

    none_if : (b : Bool) → no_one ≡ (if b then no_one else no_one)
    none_if true = refl
    none_if false = refl

    first_left_by : (caller : Caller) (l : Loop ModelEnd) (conn : ℕ) (mind : Mind) (ts : List (Session ModelEnd)) (xs : List JournalEntry) (cs : List Call) → CallsSo plan caller l conn mind xs
        → next_user users ≡ Some mind → LeftBy Q (begun_dial conn (calling model_ends plan caller l) mind) ts xs cs
        → (n : ℕ) → SaidBy (session_of_connection n ts) (user_of n xs users) (of n xs)
    unfolding Speaks SaidBy session_of_connection
    first_left_by caller l conn mind ts xs cs c is (Stays t p q) n =
        let b = q.1 (call_ready plan caller l conn mind) in
        let d = b.spoke mind refl in
        rw (p, one_session n t conn q.0.number)
        (first_at caller l conn n mind (Some t) xs c is (q.0.entries n) (mind, refl, b.ready, d))
    first_left_by caller l conn mind ts xs cs c is (Closed t ds over p e q) n =
        let b = q.1 (call_ready plan caller l conn mind) in
        let d = b.spoke mind refl in
        subst (λ z. SaidBy z (user_of n xs users) (of n xs)) (sym (ap (λ z. session_of_connection n z) p ∙ no_session n ∙ none_if (conn == n)))
        (first_at caller l conn n mind None xs c is (q.0.entries n) (d.last, d.leads))
      where
        no_session : (n : ℕ) → session_of_connection {E = ModelEnd} n [] ≡ None
        no_session n = refl

    called_said : (user : Option Mind) (caller : Caller) (l : Loop ModelEnd) (conn : ℕ) (a : Met) → l.sessions ≡ [] → l.users ≡ users → next_user l.users ≡ user
        → SaidFirst (called_by model_ends user plan caller l conn a).state (called_by model_ends user plan caller l conn a).entries
    unfolding Speaks SaidBy session_of_connection user_of of left_behind
    called_said None caller l conn a none e is = record {
      left = sym e;
      said = λ n.
          rw none
          (elim (cases_Bool (conn == n)) [ inl p ↦ rw p (refl, tt) | inr p ↦ rw p tt ]);
    }
    called_said (Some mind) caller l conn a none e is =
        let r = rules_of plan in
        let m = l.moment in
        let s = begun_dial conn (calling model_ends plan caller l) mind in
        let g = begins plan caller l in
        let says = first_answer_of nothing_said a.says in
        let o = served model_ends r m s g a in
        let c = served_so plan caller l conn mind a in
        let q : Q s (handled model_ends r m s g says).0 (handled model_ends r m s g says).1 [] = (
          steady_handled r (λ g. Unit {0}) Own (own_steady r) (any_usual plan) m s g says tt,
          λ ready. called_speaks waits bring stays breaks_release wants_none tells_none r m s caller.engine plan.rbc (next_u64 l.words).0 says mind refl,
        ) in
        record {
          left = first_left caller l conn mind o.entries c ∙ ap other_users (sym e);
          said = first_left_by caller l conn mind o.state o.entries o.calls c (ap next_user (sym e) ∙ is) (left_served r Q q_each.quiet m s g a q);
        }

    dial_on : (caller : Caller) (d : Course ModelEnd) (conn : ℕ) (address : List ℕ) (a : Met) (turns : List Turn) → d.loop.sessions ≡ [] → d.loop.users ≡ users
        → Rises 0 (opened_in (Dials address (Some conn) ∷ ((opens model_ends plan caller d conn a).calls ++ (run model_ends plan (opens model_ends plan caller d conn a).state turns).calls)))
        → (n : ℕ) → SaidBy (session_of_connection n (run model_ends plan (opens model_ends plan caller d conn a).state turns).state.loop.sessions)
        (user_of n ((opens model_ends plan caller d conn a).entries ++ (run model_ends plan (opens model_ends plan caller d conn a).state turns).entries) users)
        (of n ((opens model_ends plan caller d conn a).entries ++ (run model_ends plan (opens model_ends plan caller d conn a).state turns).entries))
    unfolding Goes called
    dial_on caller d conn address a turns none is rises n =
        let user = next_user d.loop.users in
        let o = opens model_ends plan caller d conn a in
        let e = run model_ends plan o.state turns in
        let bs : List Call = Dials address (Some conn) ∷ o.calls in
        let s = subst (λ z. Rises 0 z) (opens-append bs e.calls) rises in
        let f = called_said user caller d.loop conn a none is refl in
        let start : Said o.state.loop o.entries bs = record {
          known = knows_called plan caller Q q_calls own K E keeps d.loop.moment (λ l conn mind says now. tt) user d.loop conn address a none refl;
          left = f.left;
          said = f.said;
        } in
        (moment_run plan Goes wise o.state turns o.entries bs (rises_rest 0 (opened_in bs) (opened_in e.calls) s) start).said n

    dial_to : (conn : Option ℕ) (caller : Caller) (c : Course ModelEnd) (address : List ℕ) (a : Dialled) → c.loop.sessions ≡ [] → c.loop.users ≡ users
        → Rises 0 (opened_in (dials_to model_ends conn plan caller c address a).calls)
        → (n : ℕ) → SaidBy (session_of_connection n (dials_to model_ends conn plan caller c address a).state.loop.sessions)
        (user_of n (dials_to model_ends conn plan caller c address a).entries users) (of n (dials_to model_ends conn plan caller c address a).entries)
    unfolding SaidBy session_of_connection user_of of
    dial_to None caller c address a none is rises n = rw none tt
    dial_to (Some conn) caller c address a none is rises n = dial_on caller (asks a.first c) conn address a.met a.turns none is rises n

    dial_said : (caller : Caller) (c : Course ModelEnd) (address : List ℕ) (a : Dialled) → IsDialling plan caller c address a → c.loop.users ≡ users
        → (n : ℕ) → SaidBy (session_of_connection n (dials model_ends plan caller c address a).state.loop.sessions)
        (user_of n (dials model_ends plan caller c address a).entries users) (of n (dials model_ends plan caller c address a).entries)
    unfolding dials
    dial_said caller c address a h is n = dial_to a.conn caller c address a h.none is h.rises n

    run_spoken : (c : Course ModelEnd) (turns : List Turn) → IsServing plan c turns → c.loop.users ≡ users
        → (conn : ℕ) → IsSpoken (user_of conn (run model_ends plan c turns).entries users) (of conn (run model_ends plan c turns).entries)
    run_spoken c turns h e conn =
        let o = run model_ends plan c turns in
        spoken_at (session_of_connection conn o.state.loop.sessions) (user_of conn o.entries users) (of conn o.entries) (run_said c turns h e conn)

    run_heard : (c : Course ModelEnd) (turns : List Turn) → IsServing plan c turns → c.loop.users ≡ users
        → (conn : ℕ) → HasUserHeard (session_of_connection conn (run model_ends plan c turns).state.loop.sessions) (user_of conn (run model_ends plan c turns).entries users)
        (of conn (run model_ends plan c turns).entries)
    run_heard c turns h e conn =
        let o = run model_ends plan c turns in
        heard_by (session_of_connection conn o.state.loop.sessions) (user_of conn o.entries users) (of conn o.entries) (run_said c turns h e conn)

    dial_spoken : (caller : Caller) (c : Course ModelEnd) (address : List ℕ) (a : Dialled) → IsDialling plan caller c address a → c.loop.users ≡ users
        → (n : ℕ) → IsSpoken (user_of n (dials model_ends plan caller c address a).entries users) (of n (dials model_ends plan caller c address a).entries)
    dial_spoken caller c address a h is n =
        let o = dials model_ends plan caller c address a in
        spoken_at (session_of_connection n o.state.loop.sessions) (user_of n o.entries users) (of n o.entries) (dial_said caller c address a h is n)

    dial_heard : (caller : Caller) (c : Course ModelEnd) (address : List ℕ) (a : Dialled) → IsDialling plan caller c address a → c.loop.users ≡ users
        → (n : ℕ) → HasUserHeard (session_of_connection n (dials model_ends plan caller c address a).state.loop.sessions) (user_of n (dials model_ends plan caller c address a).entries users)
        (of n (dials model_ends plan caller c address a).entries)
    dial_heard caller c address a h is n =
        let o = dials model_ends plan caller c address a in
        heard_by (session_of_connection n o.state.loop.sessions) (user_of n o.entries users) (of n o.entries) (dial_said caller c address a h is n)

pub users_reply : WaitsMove → OctetsBring → ReleaseStays → BreaksRelease → ReleasedWantNone → ReleasedTellNone → UsersReply
users_reply waits bring stays breaks_release wants_none tells_none = record {
  serving = λ plan c turns h. run_spoken waits bring stays breaks_release wants_none tells_none plan c.loop.users c turns h refl;
  dialling = λ plan caller c address a h. dial_spoken waits bring stays breaks_release wants_none tells_none plan c.loop.users caller c address a h refl;
}

pub users_hear : WaitsMove → OctetsBring → ReleaseStays → BreaksRelease → ReleasedWantNone → ReleasedTellNone → UsersHear
users_hear waits bring stays breaks_release wants_none tells_none = record {
  serving = λ plan c turns h. run_heard waits bring stays breaks_release wants_none tells_none plan c.loop.users c turns h refl;
  dialling = λ plan caller c address a h. dial_heard waits bring stays breaks_release wants_none tells_none plan c.loop.users caller c address a h refl;
}
