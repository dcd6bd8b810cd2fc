-- A connection that was accepted gets a session, or is turned away; and what is handled whole behind a turn.
use Rattle.er_end.specs.KeptEnds.{KEnd}
use Rattle.loop_session.specs.Keeping.{kept_ends}
use Rattle.std.proofs.Common.{◌≡◌, ℕ, ◌-◌, ◌^◌, ◌<◌, ◌≤◌, nat_lt, Bool, true, false, List, [], ◌∷◌, ◌++◌, Option, Some, None, Result, Ok, Err, OnOk, length, map, take, zero, suc, slice_get, refl, sym, ◌∙◌, ap, subst, arith, length-append}
use Rattle.std.proofs.lemmas.Bool.Decides.{nat_tests}
use Rattle.rand_core.specs.Stream.{Stream, next_u64}
use Rattle.slab.specs.Slab.{Slab, get}
use Rattle.er_base.specs.declared.no_memory.NoMemory.{NoMemory as Want}
use Rattle.er_trace.specs.Ranges.{IsInRange}
use Rattle.er_trace.specs.declared.event.Event.{Event}
use Rattle.er_trace.specs.declared.event.Event.TheVariants as event
use Rattle.er_users.specs.Users.{Mind}
use Rattle.outside.specs.Acts.{Act, Called, Drew, Closed}
use Rattle.outside.specs.ActSteps.{told_call}
use Rattle.outside.specs.Chains.{did_nothing}
use Rattle.outside.specs.Doings.{Told, Did}
use Rattle.link_trait.specs.Wires.{Closes}
use Rattle.loop_model.specs.Grammar.{IsInGrammar}
use Rattle.loop_model.specs.Journals.{JournalEntry}
use Rattle.loop_model.specs.Deeds.{LoopDeed, Printing, Calling}
use Rattle.loop_model.specs.Outs.{Out, prints, makes}
use Rattle.loop_model.specs.Sessions.{Session}
use Rattle.loop_model.specs.Loops.{Plan, Loop, plain_event, turned_away, next_user, other_users, one_word_less, answered_by, accepted}
use Rattle.loop_session.specs.Parts.{writes_of_entries, Breaks, Puts}
use Rattle.loop_session.specs.declared.loop_fault.LoopFault.{LoopFault}
use Rattle.loop_session.specs.declared.loop_fault.LoopFault.TheVariants.{NoMemory}
use Rattle.loop_io.specs.Acting.{Acted, BreaksAt, DoesLoopPart}
use Rattle.loop_io.specs.Seeing.{Seen, seen}
use Rattle.loop_io.specs.Sequels.{acted_next, acted_prints, acted_makes, breaks_lines}
use Rattle.readiness_loop.specs.Books.{seat, seats, sessions, sessions_at, IsSeat, AreSeated}
use Rattle.std.specs.BTreeMap.{BTreeMap}
use Rattle.readiness_loop.specs.Courses.{Acts, answer_event, answering_session, answer_of_next_user, loop_of}
use Rattle.readiness_loop.specs.Lives.{TakesSeat}
use Rattle.readiness_loop.specs.declared.book.Book.{Book}
use Rattle.readiness_loop.proofs.Quiets.{drew_word, part_behind_drawn}

-- a line that wasn't written whole, before what follows it
pub line_breaks : {S : Type 0} (a b : Told) (o : Out S) (x : JournalEntry) (more : List LoopDeed) (fault : LoopFault)
    → o.order ≡ Printing x ∷ more → Breaks a b (writes_of_entries (x ∷ [])) fault → BreaksAt (seen a) (seen b) o fault
line_breaks a b o x more fault is p = breaks_lines a b o (x ∷ []) more fault is p

-- memory ran out before a line was written
pub line_wanted : (a : Told) (all : List Act) (want : Want) → Breaks a a all (NoMemory want)
line_wanted a all want = record { acts = []; did = did_nothing a; begun = record { done = []; left = all; is = refl; breaks = refl } }

-- an event without an outcome, in its ranges
pub opens_so : (m conn : ℕ) (event : Event) → m ≤ 1000000000000000 → conn < 2 ^ 64 → IsInRange event
    → IsInGrammar (record { moment = m; conn = conn; event = event; outcomes = [] })
opens_so m conn event p q r = record { event = record { moment = p; conn = q; event = r }; outcomes = tt }

-- the event of a connection that is turned away
abbrev away_event : ℕ → ℕ → Event → JournalEntry
away_event m conn why = record { moment = m; conn = conn; event = why; outcomes = [] }

pub away_breaks : (a b : Told) (l : Loop KEnd) (m conn : ℕ) (why : Event) (fault : LoopFault)
    → l.moment ≡ m → Breaks a b (writes_of_entries (away_event m conn why ∷ [])) fault
    → BreaksAt (seen a) (seen b) (turned_away l conn why) fault
away_breaks a b l m conn why fault is p =
    line_breaks a b (turned_away l conn why) (plain_event l conn why) (Calling (Closes conn) ∷ []) fault refl
    (subst (λ z. Breaks a b (writes_of_entries (away_event z conn why ∷ [])) fault) (sym is) p)

pub away_acted : (a mid b : Told) (l : Loop KEnd) (m conn : ℕ) (why : Event)
    → l.moment ≡ m → IsInGrammar (away_event m conn why) → Did a mid (writes_of_entries (away_event m conn why ∷ [])) → Did mid b (Called (Closed conn) ∷ [])
    → Acted (seen a) (seen b) l (turned_away l conn why)
away_acted a mid b l m conn why is grammar p q =
    acted_next (seen a) (seen mid) (seen b) l l (prints (l, plain_event l conn why ∷ [])) (makes (Closes conn))
    (acted_prints a mid l (l, plain_event l conn why ∷ []) (record {
      state = refl;
      did = subst (λ z. Did a mid (writes_of_entries (away_event z conn why ∷ []))) (sym is) p;
      in_grammar = (subst (λ z. IsInGrammar (away_event z conn why)) (sym is) grammar, tt);
    }))
    (acted_makes mid b l (Closes conn) q (told_call mid.wires.calls b.wires.calls (Closed conn) (Closes conn) refl q.wires.calls) tt)

-- ---- accepted

pub length_sessions : (newest : ℕ) (slots : Slab (Session KEnd)) (es : List (ℕ × ℕ)) → AreSeated newest slots es → length (sessions_at slots es) ≡ length es
unfolding seats AreSeated
length_sessions newest slots [] p = refl
length_sessions newest slots (e ∷ es) p = of_seat (get slots e.1) p.1 (length_sessions newest slots es p.3)
  where
    of_seat : (o : Option (Session KEnd)) → IsSeat e.0 o → length (sessions_at slots es) ≡ length es → length (seat o (sessions_at slots es)) ≡ length (e ∷ es)
    of_seat None q h = absurd q
    of_seat (Some s) q h = omega (arith, h)

not_below : (n : ℕ) → 256 ≤ n → nat_lt n 256 ≡ false
not_below n p = grind (arith, nat_tests, p)

is_below : (n : ℕ) → n < 256 → nat_lt n 256 ≡ true
is_below n p = grind (arith, nat_tests, p)

-- parts that give the same for each answer
pub part_as : {T S A : Type 0} (a b : Seen) (x y : S) (f g : A → Out S) (r : Result T LoopFault) → y ≡ x → ((answer : A) → f answer ≡ g answer)
    → DoesLoopPart a b x f r → DoesLoopPart a b y g r
part_as a b x y f g (Ok done) same is p = record {
  answers = p.answers;
  is = subst (λ z. Acted a b z (g p.answers)) (sym same) (subst (λ z. Acted a b x z) (is p.answers) p.is);
}
part_as a b x y f g (Err fault) same is p = record { answers = p.answers; breaks = subst (λ z. BreaksAt a b z fault) (is p.answers) p.breaks }

-- whether there is memory makes no difference
any_memory : {T S : Type 0} (a b : Seen) (x : S) (o : Out S) (r : Result T LoopFault) → Acts a b x o r → DoesLoopPart {A = Bool} a b x (λ memory. o) r
any_memory a b x o (Ok done) p = record { answers = true; is = p }
any_memory a b x o (Err fault) p = record { answers = true; breaks = p }

pub accept_full : {T : Type 0} (a b : Seen) (plan : Plan) (l new : Loop KEnd) (conn : ℕ) (r : Result T LoopFault)
    → 256 ≤ length l.sessions → new ≡ l → Acts a b l (turned_away l conn (event.Full 256)) r → DoesLoopPart a b new (accepted kept_ends plan l conn) r
unfolding accepted
accept_full a b plan l new conn r many same p =
    part_as a b l new (λ memory. turned_away l conn (event.Full 256)) (accepted kept_ends plan l conn) r same
    (λ memory. sym (rw (not_below (length l.sessions) many) refl)) (any_memory a b l (turned_away l conn (event.Full 256)) r p)

pub last_user : (ms : List Mind) (m : Mind) → next_user (ms ++ m ∷ []) ≡ Some m
last_user ms m = at_end ms (length (ms ++ m ∷ []) - 1) (let h = length-append ms (m ∷ []) in omega (arith, h))
  where
    at_end : (ms : List Mind) (i : ℕ) → i ≡ length ms → slice_get (ms ++ m ∷ []) i ≡ Some m
    at_end [] zero p = refl
    at_end [] (suc i) p = absurd (let q : suc i ≡ 0 = p in omega (arith, q))
    at_end (n ∷ ms) zero p = absurd (let q : 0 ≡ length (n ∷ ms) = p in omega (arith, q))
    at_end (n ∷ ms) (suc i) p = at_end ms i (omega (arith, p))

pub other_ones : (ms : List Mind) (m : Mind) → other_users (ms ++ m ∷ []) ≡ ms
other_ones ms m = up_to ms (length (ms ++ m ∷ []) - 1) (let h = length-append ms (m ∷ []) in omega (arith, h))
  where
    up_to : (ms : List Mind) (i : ℕ) → i ≡ length ms → take i (ms ++ m ∷ []) ≡ ms
    up_to [] zero p = refl
    up_to [] (suc i) p = absurd (let q : suc i ≡ 0 = p in omega (arith, q))
    up_to (n ∷ ms) zero p = absurd (let q : 0 ≡ length (n ∷ ms) = p in omega (arith, q))
    up_to (n ∷ ms) (suc i) p = ap (λ z. n ∷ z) (up_to ms i (omega (arith, p)))

pub accept_unserved : {T : Type 0} (a b : Seen) (plan : Plan) (l new : Loop KEnd) (conn : ℕ) (r : Result T LoopFault)
    → length l.sessions < 256 → l.users ≡ [] → new ≡ l → Acts a b l (turned_away l conn (event.Unserved plan.handed)) r
    → DoesLoopPart a b new (accepted kept_ends plan l conn) r
unfolding accepted
accept_unserved a b plan l new conn r few none same p =
    part_as a b l new (λ memory. turned_away l conn (event.Unserved plan.handed)) (accepted kept_ends plan l conn) r same
    (λ memory. sym (rw (is_below (length l.sessions) few) (ap (λ z. answered_by kept_ends z memory plan l conn) (ap next_user none))))
    (any_memory a b l (turned_away l conn (event.Unserved plan.handed)) r p)

-- one that finds a user
pub accept_answered : {T : Type 0} (a b : Seen) (plan : Plan) (l new : Loop KEnd) (conn : ℕ) (r : Result T LoopFault)
    → length l.sessions < 256 → DoesLoopPart a b new (answer_of_next_user plan l conn) r → DoesLoopPart a b new (accepted kept_ends plan l conn) r
unfolding accepted
accept_answered a b plan l new conn r few p =
    part_as a b new new (answer_of_next_user plan l conn) (accepted kept_ends plan l conn) r refl
    (λ memory. sym (rw (is_below (length l.sessions) few) refl)) p

-- ---- with a user

slice_get_some : (ms : List Mind) (i : ℕ) → i < length ms → (m : Mind) × (slice_get ms i ≡ Some m)
slice_get_some [] i p = absurd (let q : i < 0 = p in omega (arith, q))
slice_get_some (m ∷ ms) zero p = (m, refl)
slice_get_some (m ∷ ms) (suc i) p = slice_get_some ms i (omega (arith, p))

pub some_user : (ms : List Mind) → 0 < length ms → (m : Mind) × (next_user ms ≡ Some m)
some_user ms p = slice_get_some ms (length ms - 1) (omega (arith, p))

-- the loop behind an answer
abbrev pub answered_loop : Plan → Loop KEnd → Mind → ℕ → Loop KEnd
answered_loop plan l mind conn = record {
  sessions = l.sessions ++ answering_session (next_u64 l.words).0 plan.settings plan.rbc l.moment conn mind ∷ [];
  users = other_users l.users;
  moment = l.moment;
  words = (next_u64 l.words).1;
}

-- by the result of writing the line
answered_by_result : {T : Type 0} (a b : Told) (plan : Plan) (l new : Loop KEnd) (mind : Mind) (conn : ℕ) (r : Result T LoopFault)
    → next_user l.users ≡ Some mind
    → OnOk r (IsInGrammar (answer_event (next_u64 l.words).0 plan.rbc l.moment conn))
    → Puts a b (writes_of_entries (answer_event (next_u64 l.words).0 plan.rbc l.moment conn ∷ [])) r
    → new ≡ answered_loop plan l mind conn
    → DoesLoopPart (seen a) (seen b) new (answer_of_next_user plan l conn) r
answered_by_result a b plan l new mind conn (Ok done) next grammar p is = record {
  answers = true;
  is =
      subst (λ (z : Option Mind). Acted (seen a) (seen b) new (answered_by kept_ends z true plan l conn)) (sym next)
      (acted_prints a b new (answered_loop plan l mind conn, answer_event (next_u64 l.words).0 plan.rbc l.moment conn ∷ []) (record {
        state = is;
        did = p;
        in_grammar = (grammar, tt);
      }));
}
answered_by_result a b plan l new mind conn (Err fault) next grammar p is = record {
  answers = true;
  breaks =
      subst (λ (z : Option Mind). BreaksAt (seen a) (seen b) (answered_by kept_ends z true plan l conn) fault) (sym next)
      (line_breaks a b (answered_by kept_ends (Some mind) true plan l conn) (answer_event (next_u64 l.words).0 plan.rbc l.moment conn) [] fault refl p);
}

-- behind the draw of the random word
pub answer_seated : {T : Type 0} (a mid b : Told) (ra : ℕ) (plan : Plan) (l new : Loop KEnd) (mind : Mind) (conn : ℕ) (r : Result T LoopFault)
    → Did a mid (Drew ra ∷ []) → l.words ≡ a.words → next_user l.users ≡ Some mind
    → OnOk r (IsInGrammar (answer_event ra plan.rbc l.moment conn))
    → Puts mid b (writes_of_entries (answer_event ra plan.rbc l.moment conn ∷ [])) r
    → new ≡ answered_loop plan l mind conn
    → DoesLoopPart (seen a) (seen b) new (answer_of_next_user plan l conn) r
answer_seated a mid b ra plan l new mind conn r drew words next grammar p is =
    let word : ra ≡ (next_u64 l.words).0 = drew_word a mid ra drew ∙ ap (λ (z : Stream). (next_u64 z).0) (sym words) in
    part_behind_drawn a mid (seen b) ra new (answer_of_next_user plan l conn) r drew
    (answered_by_result mid b plan l new mind conn r next
    (subst (λ z. OnOk r (IsInGrammar (answer_event z plan.rbc l.moment conn))) word grammar)
    (subst (λ z. Puts mid b (writes_of_entries (answer_event z plan.rbc l.moment conn ∷ [])) r) word p) is)

-- the loop that this leaves
pub seated_loop : (plan : Plan) (l : Loop KEnd) (slots : Slab (Session KEnd)) (places : BTreeMap ℕ ℕ) (users : List Mind) (m : ℕ) (words : Stream) (ra : ℕ) (mind : Mind) (conn : ℕ)
    → sessions slots places ≡ l.sessions ++ answering_session ra plan.settings plan.rbc l.moment conn mind ∷ [] → ra ≡ (next_u64 l.words).0 → words ≡ (next_u64 l.words).1
    → users ≡ other_users l.users → m ≡ l.moment → loop_of slots places users m words ≡ answered_loop plan l mind conn
seated_loop plan l slots places users m words ra mind conn p w q r s = rw (p, w, q, r, s) refl

-- ---- with a user, and without memory

wanted_by_result : {T : Type 0} (a b : Seen) (plan : Plan) (l new : Loop KEnd) (mind : Mind) (conn live : ℕ) (r : Result T LoopFault)
    → next_user l.users ≡ Some mind → live ≡ length l.sessions → new ≡ one_word_less l
    → Acts a b (one_word_less l) (turned_away (one_word_less l) conn (event.Full live)) r
    → DoesLoopPart a b new (answer_of_next_user plan l conn) r
wanted_by_result a b plan l new mind conn live (Ok done) next count same p = record {
  answers = false;
  is =
      subst (λ (z : Option Mind). Acted a b new (answered_by kept_ends z false plan l conn)) (sym next)
      (subst (λ (z : ℕ). Acted a b new (turned_away (one_word_less l) conn (event.Full z))) count
      (subst (λ (z : Loop KEnd). Acted a b z (turned_away (one_word_less l) conn (event.Full live))) (sym same) p));
}
wanted_by_result a b plan l new mind conn live (Err fault) next count same p = record {
  answers = false;
  breaks =
      subst (λ (z : Option Mind). BreaksAt a b (answered_by kept_ends z false plan l conn) fault) (sym next)
      (subst (λ (z : ℕ). BreaksAt a b (turned_away (one_word_less l) conn (event.Full z)) fault) count p);
}

pub answer_wanted : {T : Type 0} (a mid b : Told) (ra : ℕ) (plan : Plan) (l new : Loop KEnd) (conn live : ℕ) (r : Result T LoopFault)
    → Did a mid (Drew ra ∷ []) → 0 < length l.users → live ≡ length l.sessions → new ≡ one_word_less l
    → Acts (seen mid) (seen b) (one_word_less l) (turned_away (one_word_less l) conn (event.Full live)) r
    → DoesLoopPart (seen a) (seen b) new (answer_of_next_user plan l conn) r
answer_wanted a mid b ra plan l new conn live r drew some count same p =
    let user = some_user l.users some in
    part_behind_drawn a mid (seen b) ra new (answer_of_next_user plan l conn) r drew (wanted_by_result (seen mid) (seen b) plan l new user.0 conn live r user.1 count same p)

-- the loop that this leaves
pub wanted_loop : (l : Loop KEnd) (slots : Slab (Session KEnd)) (places : BTreeMap ℕ ℕ) (users : List Mind) (m : ℕ) (words : Stream)
    → sessions slots places ≡ l.sessions → words ≡ (next_u64 l.words).1 → users ≡ l.users → m ≡ l.moment → loop_of slots places users m words ≡ one_word_less l
wanted_loop l slots places users m words p w r s = rw (p, w, r, s) refl

-- ---- what a function's other clauses say

pub same_loop : (slots slots' : Slab (Session KEnd)) (places places' : BTreeMap ℕ ℕ) (users users' : List Mind) (m m' : ℕ) (words words' : Stream)
    → slots' ≡ slots → places' ≡ places → users' ≡ users → m' ≡ m → words' ≡ words → loop_of slots' places' users' m' words' ≡ loop_of slots places users m words
same_loop slots slots' places places' users users' m m' words words' p q r s t = rw (p, q, r, s, t) refl

pub seated_up : (low top : ℕ) (slots : Slab (Session KEnd)) (es : List (ℕ × ℕ)) → low ≤ top → AreSeated low slots es → AreSeated top slots es
unfolding AreSeated
seated_up low top slots [] p q = tt
seated_up low top slots (e ∷ es) p q = (let h : e.0 ≤ low = q.0 in omega (arith, h, p), q.1, q.2, seated_up low top slots es p q.3)

pub away_seated : (conn : ℕ) (slots slots' : Slab (Session KEnd)) (places places' : BTreeMap ℕ ℕ)
    → slots' ≡ slots → places' ≡ places → AreSeated (conn - 1) slots places.entries → AreSeated conn slots' places'.entries
away_seated conn slots slots' places places' p q s = rw (p, q) (seated_up (conn - 1) conn slots places.entries (omega arith) s)

pub few_sessions : (newest n : ℕ) (slots : Slab (Session KEnd)) (es : List (ℕ × ℕ)) → AreSeated newest slots es → n ≡ length es → n < 256 → length (sessions_at slots es) < 256
few_sessions newest n slots es p q r = (let h = length_sessions newest slots es p in omega (arith, h, q, r))

pub many_sessions : (newest n : ℕ) (slots : Slab (Session KEnd)) (es : List (ℕ × ℕ)) → AreSeated newest slots es → n ≡ length es → 256 ≤ n → 256 ≤ length (sessions_at slots es)
many_sessions newest n slots es p q r = (let h = length_sessions newest slots es p in omega (arith, h, q, r))

pub empty_list : {A : Type 0} (xs : List A) → length xs ≡ 0 → xs ≡ []
empty_list [] p = refl
empty_list (x ∷ xs) p = absurd (let q : length (x ∷ xs) ≡ 0 = p in omega (arith, q))

pub mapped_length : {A B : Type 0} (f : A → B) (xs : List A) → length (map f xs) ≡ length xs
mapped_length f [] = refl
mapped_length f (x ∷ xs) = ap (λ z. suc z) (mapped_length f xs)

-- as many connections live as have a place
pub sessions_count : (newest n : ℕ) (slots : Slab (Session KEnd)) (places : BTreeMap ℕ ℕ) (were : Slab (Session KEnd)) (at : BTreeMap ℕ ℕ) → AreSeated newest slots places.entries
    → n ≡ length places.entries → sessions slots places ≡ sessions were at → n ≡ length (sessions were at)
sessions_count newest n slots places were at seated is same = is ∙ sym (length_sessions newest slots places.entries seated) ∙ ap length same

-- an end that is this one
pub seats_end : {T U E : Type 0} (old new : Book U) (users left : List Mind) (r : Result T E) (number : ℕ) (end is : KEnd) → end ≡ is
    → OnOk r (TakesSeat old new users left number end) → OnOk r (TakesSeat old new users left number is)
seats_end old new users left r number end is same p = subst (λ z. OnOk r (TakesSeat old new users left number z)) same p

-- ---- the book of a loop that begins

pub no_sessions : (slots : Slab (Session KEnd)) (places : BTreeMap ℕ ℕ) → places.entries ≡ [] → sessions slots places ≡ []
unfolding seats
no_sessions slots places p = rw p refl

pub no_seats : (top : ℕ) (slots : Slab (Session KEnd)) (es : List (ℕ × ℕ)) → es ≡ [] → AreSeated top slots es
unfolding AreSeated
no_seats top slots es p = rw p tt
