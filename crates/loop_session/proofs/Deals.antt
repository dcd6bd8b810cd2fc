-- Parts of a session one behind another, once for each of a list.
use Rattle.er_end.specs.KeptEnds.{KEnd}
use Rattle.loop_session.specs.Keeping.{kept_ends}
use Rattle.std.proofs.Common.{◌≡◌, ◌<◌, ℕ, zero, suc, ◌+◌, ◌-◌, List, [], ◌∷◌, ◌++◌, length, take, drop, slice_index_or, Option, Some, None, Result, Ok, Err, refl, sym, ◌∙◌, ap, subst, append-nil, append_assoc, arith}
use Rattle.er_users.specs.Saying.{SpokenByUser}
use Rattle.er_users.specs.Users.{Mind}
use Rattle.loop_model.specs.Journals.{JournalEntry}
use Rattle.loop_model.specs.Outs.{part_for_each_answer, exactly}
use Rattle.loop_model.specs.Sessions.{Rules, Session, GivenToSession, Sends, Leaves, Takes, sends_of, leave_of, heard_by_user, user_after_hearing, silent_answer, outcomes_of_given_event, fed, replied, dealt, takes_all, count_waiting_in_session, handled, parted}
use Rattle.outside.specs.Doings.{Told}
use Rattle.loop_session.specs.declared.loop_fault.LoopFault.{LoopFault}
use Rattle.loop_session.specs.Giving.{HeardSo, events_said_by_user}
use Rattle.loop_session.specs.Parts.{writes_of_entries, Breaks, Printed, Prints, Chose, BrokeOff, Chooses, WentSome, with_mind}
use Rattle.loop_session.proofs.Written.{breaks_first, breaks_then, printed_then, printed_nothing}

-- ---- folds

pub runs_then : {S A : Type 0} (f : S → A → S × List JournalEntry) (s : S) (xs ys : List A)
    → part_for_each_answer f s (xs ++ ys) ≡ (let a = part_for_each_answer f s xs in let b = part_for_each_answer f a.0 ys in (b.0, a.1 ++ b.1))
unfolding part_for_each_answer
runs_then f s [] ys = refl
runs_then f s (x ∷ xs) ys =
    let a = f s x in
    ap (λ z. (z.0, a.1 ++ z.1)) (runs_then f a.0 xs ys)
    ∙ ap (λ z. ((part_for_each_answer f (part_for_each_answer f a.0 xs).0 ys).0, z)) (sym (append_assoc a.1 (part_for_each_answer f a.0 xs).1 (part_for_each_answer f (part_for_each_answer f a.0 xs).0 ys).1))

pub runs_none : {S A : Type 0} (f : S → A → S × List JournalEntry) (s : S) → part_for_each_answer f s [] ≡ (s, [])
unfolding part_for_each_answer
runs_none f s = refl

pub runs_on : {S A : Type 0} (f : S → A → S × List JournalEntry) (s : S) (x : A) (xs : List A)
    → part_for_each_answer f s (x ∷ xs) ≡ (let a = f s x in let b = part_for_each_answer f a.0 xs in (b.0, a.1 ++ b.1))
unfolding part_for_each_answer
runs_on f s x xs = refl

runs_one : {S A : Type 0} (f : S → A → S × List JournalEntry) (s : S) (x : A) → part_for_each_answer f s (x ∷ []) ≡ f s x
unfolding part_for_each_answer
runs_one f s x = let a = f s x in ap (λ z. (a.0, z)) (append-nil a.1)

-- one more was done behind those that were
pub printed_more : {S A : Type 0} (a b c : Told) (f : S → A → S × List JournalEntry) (s t u : S) (xs : List A) (x : A)
    → Printed a b t (part_for_each_answer f s xs) → Printed b c u (f t x) → Printed a c u (part_for_each_answer f s (xs ++ x ∷ []))
printed_more a b c f s t u xs x p q =
    let there : f t x ≡ part_for_each_answer f (part_for_each_answer f s xs).0 (x ∷ []) = ap (λ z. f z x) p.state ∙ sym (runs_one f (part_for_each_answer f s xs).0 x) in
    subst (λ z. Printed a c u z) (sym (runs_then f s xs (x ∷ [])))
    (printed_then a b c t u (part_for_each_answer f s xs) (part_for_each_answer f (part_for_each_answer f s xs).0 (x ∷ [])) p (subst (λ z. Printed b c u z) there q))

-- one broke off behind those that were done
pub breaks_more_of : {S A : Type 0} (a b c : Told) (f : S → A → S × List JournalEntry) (s t : S) (xs ys : List A) (x : A) (fault : LoopFault)
    → Printed a b t (part_for_each_answer f s xs) → Breaks b c (writes_of_entries (f t x).1) fault → Breaks a c (writes_of_entries (part_for_each_answer f s (xs ++ x ∷ ys)).1) fault
breaks_more_of a b c f s t xs ys x fault p q =
    let o = part_for_each_answer f s xs in
    let on : part_for_each_answer f o.0 (x ∷ ys) ≡ (let z = f o.0 x in let w = part_for_each_answer f z.0 ys in (w.0, z.1 ++ w.1)) = runs_on f o.0 x ys in
    let first : Breaks b c (writes_of_entries (f o.0 x).1) fault = subst (λ z. Breaks b c (writes_of_entries (f z x).1) fault) p.state q in
    let more = breaks_first b c (f o.0 x).1 (part_for_each_answer f (f o.0 x).0 ys).1 fault first in
    let all : Breaks b c (writes_of_entries (part_for_each_answer f o.0 (x ∷ ys)).1) fault = subst (λ z. Breaks b c (writes_of_entries z.1) fault) (sym on) more in
    subst (λ z. Breaks a c (writes_of_entries z.1) fault) (sym (runs_then f s xs (x ∷ ys))) (breaks_then a b c t o (part_for_each_answer f o.0 (x ∷ ys)).1 fault p all)

-- ---- exactly so many answers

pub exactly_more : {A : Type 0} (n k : ℕ) (plain : A) (xs ys : List A) → n ≡ length xs + k → exactly n plain (xs ++ ys) ≡ xs ++ exactly k plain ys
unfolding exactly
exactly_more n k plain [] ys p = ap (λ z. exactly z plain ys) (let q : n ≡ k = omega (arith, p) in q)
exactly_more zero k plain (x ∷ xs) ys p = absurd (let q : ⊥ = omega (arith, p) in q)
exactly_more (suc n) k plain (x ∷ xs) ys p = ap (λ z. x ∷ z) (exactly_more n k plain xs ys (let q : n ≡ length xs + k = omega (arith, p) in q))

exactly_none : {A : Type 0} (plain : A) (xs : List A) → exactly zero plain xs ≡ []
unfolding exactly
exactly_none plain xs = refl

exactly_one : {A : Type 0} (k : ℕ) (plain x : A) → exactly (suc k) plain (x ∷ []) ≡ x ∷ exactly k plain []
unfolding exactly
exactly_one k plain x = refl

pub exactly_all : {A : Type 0} (n : ℕ) (plain : A) (xs : List A) → length xs ≡ n → exactly n plain xs ≡ xs
exactly_all n plain xs p =
    ap (λ z. exactly n plain z) (sym (append-nil xs))
    ∙ exactly_more n zero plain xs [] (let q : n ≡ length xs + 0 = omega (arith, p) in q)
    ∙ ap (λ z. xs ++ z) (exactly_none plain []) ∙ append-nil xs

-- one more than were there, and there is room for it
pub exactly_next : {A : Type 0} (n : ℕ) (plain : A) (xs : List A) (x : A) → length xs < n → exactly n plain (xs ++ x ∷ []) ≡ xs ++ x ∷ exactly (n - (length xs + 1)) plain []
exactly_next n plain xs x p =
    exactly_more n (suc (n - (length xs + 1))) plain xs (x ∷ []) (let q : n ≡ length xs + suc (n - (length xs + 1)) = omega (arith, p) in q)
    ∙ ap (λ z. xs ++ z) (exactly_one (n - (length xs + 1)) plain x)

length_more : {A : Type 0} (xs : List A) (x : A) → length (xs ++ x ∷ []) ≡ length xs + 1
length_more [] x = refl
length_more (y ∷ xs) x = (let q : length (xs ++ x ∷ []) ≡ length xs + 1 = length_more xs x in omega (arith, q))

-- ---- a part once for each of so many answers

pub went_none : {S A : Type 0} (a : Told) (f : S → A → S × List JournalEntry) (s : S) → WentSome 0 a a f s s
went_none a f s = record { answers = []; many = refl; is = subst (λ z. Printed a a s z) (sym (runs_none f s)) (printed_nothing a s) }

pub went_more : {S A : Type 0} (n : ℕ) (a b c : Told) (f : S → A → S × List JournalEntry) (s t u : S)
    → WentSome n a b f s t → Chose b c u (f t) → WentSome (n + 1) a c f s u
went_more n a b c f s t u p q = record {
  answers = p.answers ++ q.answers ∷ [];
  many = length_more p.answers q.answers ∙ ap (λ z. z + 1) p.many;
  is = printed_more a b c f s t u p.answers q.answers p.is q.is;
}

pub went_all : {S A : Type 0} (n : ℕ) (a b : Told) (f : S → A → S × List JournalEntry) (s t : S) (plain : A)
    → WentSome n a b f s t → Chose a b t (λ answers. part_for_each_answer f s (exactly n plain answers))
went_all n a b f s t plain p = record {
  answers = p.answers;
  is = subst (λ z. Printed a b t (part_for_each_answer f s z)) (sym (exactly_all n plain p.answers p.many)) p.is;
}

pub went_broke : {S A : Type 0} (n m : ℕ) (a b c : Told) (f : S → A → S × List JournalEntry) (s t : S) (plain : A) (fault : LoopFault)
    → m < n → WentSome m a b f s t → BrokeOff b c (f t) fault → BrokeOff a c (λ answers. part_for_each_answer f s (exactly n plain answers)) fault
went_broke n m a b c f s t plain fault few p q =
    let less : length p.answers < n = (let z : length p.answers ≡ m = p.many in omega (arith, z, few)) in
    record {
      answers = p.answers ++ q.answers ∷ [];
      breaks =
          subst (λ z. Breaks a c (writes_of_entries (part_for_each_answer f s z).1) fault) (sym (exactly_next n plain p.answers q.answers less))
          (breaks_more_of a b c f s t p.answers (exactly (n - (length p.answers + 1)) plain []) q.answers fault p.is q.breaks);
    }

-- ---- replies

-- a text behind those before it
next_text : (k : ℕ) (texts : List (List ℕ)) (text other : List ℕ) → k < length texts → text ≡ slice_index_or texts k other
    → sends_of texts ≡ sends_of (take k texts) ++ Sends text ∷ sends_of (drop (suc k) texts)
next_text k [] text other p q = absurd (let z : ⊥ = omega (arith, p) in z)
next_text zero (x ∷ texts) text other p q = ap (λ z. Sends z ∷ sends_of texts) (sym q)
next_text (suc k) (x ∷ texts) text other p q = ap (λ z. Sends x ∷ z) (next_text k texts text other (let z : k < length texts = omega (arith, p) in z) q)

more_texts : (k : ℕ) (texts : List (List ℕ)) (text other : List ℕ) → k < length texts → text ≡ slice_index_or texts k other
    → sends_of (take (suc k) texts) ≡ sends_of (take k texts) ++ Sends text ∷ []
more_texts k [] text other p q = absurd (let z : ⊥ = omega (arith, p) in z)
more_texts zero (x ∷ texts) text other p q = ap (λ z. Sends z ∷ []) (sym q)
more_texts (suc k) (x ∷ texts) text other p q = ap (λ z. Sends x ∷ z) (more_texts k texts text other (let z : k < length texts = omega (arith, p) in z) q)

all_texts : (texts : List (List ℕ)) (n : ℕ) → n ≡ length texts → take n texts ≡ texts
all_texts [] n p = (let z : n ≡ 0 = omega (arith, p) in ap (λ k. take k []) z)
all_texts (x ∷ texts) zero p = absurd (let z : ⊥ = omega (arith, p) in z)
all_texts (x ∷ texts) (suc n) p = ap (λ z. x ∷ z) (all_texts texts n (let z : n ≡ length texts = omega (arith, p) in z))

pub reply_none : (a : Told) (r : Rules) (m : ℕ) (s : Session KEnd) (texts : List (List ℕ)) → Printed a a s (part_for_each_answer (replied kept_ends r m) s (sends_of (take 0 texts)))
reply_none a r m s texts = subst (λ z. Printed a a s z) (sym (runs_none (replied kept_ends r m) s)) (printed_nothing a s)

pub reply_more : (a b c : Told) (r : Rules) (m : ℕ) (s t u : Session KEnd) (n : ℕ) (texts : List (List ℕ)) (text other : List ℕ)
    → n < length texts → text ≡ slice_index_or texts n other
    → Printed a b t (part_for_each_answer (replied kept_ends r m) s (sends_of (take n texts))) → Printed b c u (replied kept_ends r m t (Sends text))
    → Printed a c u (part_for_each_answer (replied kept_ends r m) s (sends_of (take (n + 1) texts)))
reply_more a b c r m s t u n texts text other few is p q =
    let plus : n + 1 ≡ suc n = omega arith in
    subst (λ z. Printed a c u (part_for_each_answer (replied kept_ends r m) s z))
    (sym (more_texts n texts text other few is) ∙ ap (λ z. sends_of (take z texts)) (sym plus))
    (printed_more a b c (replied kept_ends r m) s t u (sends_of (take n texts)) (Sends text) p q)

pub reply_broke : (a b c : Told) (r : Rules) (m : ℕ) (s t : Session KEnd) (n : ℕ) (spoken : SpokenByUser) (said other : List ℕ) (fault : LoopFault)
    → n < length spoken.texts → said ≡ slice_index_or spoken.texts n other
    → Printed a b t (part_for_each_answer (replied kept_ends r m) s (sends_of (take n spoken.texts))) → Breaks b c (writes_of_entries (replied kept_ends r m t (Sends said)).1) fault
    → Breaks a c (writes_of_entries (part_for_each_answer (replied kept_ends r m) s (events_said_by_user spoken)).1) fault
reply_broke a b c r m s t n spoken said other fault few is p q =
    let front = sends_of (take n spoken.texts) in
    let back = sends_of (drop (suc n) spoken.texts) ++ leave_of spoken.leave in
    subst (λ z. Breaks a c (writes_of_entries (part_for_each_answer (replied kept_ends r m) s z).1) fault)
    (sym (append_assoc front (Sends said ∷ sends_of (drop (suc n) spoken.texts)) (leave_of spoken.leave))
    ∙ ap (λ z. z ++ leave_of spoken.leave) (sym (next_text n spoken.texts said other few is)))
    (breaks_more_of a b c (replied kept_ends r m) s t front back (Sends said) fault p q)

pub reply_stays : (a b : Told) (r : Rules) (m : ℕ) (s t : Session KEnd) (n : ℕ) (spoken : SpokenByUser) → n ≡ length spoken.texts → spoken.leave ≡ None
    → Printed a b t (part_for_each_answer (replied kept_ends r m) s (sends_of (take n spoken.texts))) → Printed a b t (part_for_each_answer (replied kept_ends r m) s (events_said_by_user spoken))
reply_stays a b r m s t n spoken all none p =
    subst (λ z. Printed a b t (part_for_each_answer (replied kept_ends r m) s z))
    (ap sends_of (all_texts spoken.texts n all) ∙ sym (append-nil (sends_of spoken.texts)) ∙ ap (λ z. sends_of spoken.texts ++ leave_of z) (sym none)) p

pub reply_leaves : (a b c : Told) (r : Rules) (m : ℕ) (s t u : Session KEnd) (n : ℕ) (spoken : SpokenByUser) (sub : ℕ) (res : Result (Unit {0}) LoopFault)
    → n ≡ length spoken.texts → spoken.leave ≡ Some sub
    → Printed a b t (part_for_each_answer (replied kept_ends r m) s (sends_of (take n spoken.texts))) → Prints b c u (fed kept_ends r m t (Leaves sub)) res
    → Prints a c u (part_for_each_answer (replied kept_ends r m) s (events_said_by_user spoken)) res
reply_leaves a b c r m s t u n spoken sub res all leaves p q =
    subst (λ z. Prints a c u (part_for_each_answer (replied kept_ends r m) s z) res)
    (ap (λ z. z ++ Leaves sub ∷ []) (ap sends_of (all_texts spoken.texts n all)) ∙ ap (λ z. sends_of spoken.texts ++ leave_of z) (sym leaves))
    (last res q)
  where
    last : (res : Result (Unit {0}) LoopFault) → Prints b c u (fed kept_ends r m t (Leaves sub)) res
        → Prints a c u (part_for_each_answer (replied kept_ends r m) s (sends_of (take n spoken.texts) ++ Leaves sub ∷ [])) res
    last (Ok done) q = printed_more a b c (replied kept_ends r m) s t u (sends_of (take n spoken.texts)) (Leaves sub) p q
    last (Err fault) q = breaks_more_of a b c (replied kept_ends r m) s t (sends_of (take n spoken.texts)) [] (Leaves sub) fault p q

-- ---- an event of which the user hears, and its replies

pub deal_broke : (a b : Told) (r : Rules) (m : ℕ) (s : Session KEnd) (g : GivenToSession) (mind : Option Mind) (spoken : SpokenByUser) (fault : LoopFault)
    → HeardSo s.mind (heard_by_user (outcomes_of_given_event kept_ends r m s.end g)) mind spoken → Breaks a b (writes_of_entries (with_mind mind (fed kept_ends r m s g)).1) fault → BrokeOff a b (dealt kept_ends r m s g) fault
unfolding dealt
deal_broke a b r m s g mind spoken fault heard p = record {
  answers = heard.free;
  breaks =
      let e = user_after_hearing s.mind (heard_by_user (outcomes_of_given_event kept_ends r m s.end g)) heard.free in
      breaks_first a b (fed kept_ends r m s g).1 (part_for_each_answer (replied kept_ends r m) (record (fed kept_ends r m s g).0 { mind = e.0 }) e.1).1 fault p;
}

pub deal_chooses : (a b c : Told) (r : Rules) (m : ℕ) (s t u : Session KEnd) (g : GivenToSession) (mind : Option Mind) (spoken : SpokenByUser) (res : Result (Unit {0}) LoopFault)
    → HeardSo s.mind (heard_by_user (outcomes_of_given_event kept_ends r m s.end g)) mind spoken → Printed a b t (with_mind mind (fed kept_ends r m s g))
    → Prints b c u (part_for_each_answer (replied kept_ends r m) t (events_said_by_user spoken)) res → Chooses a c u (dealt kept_ends r m s g) res
unfolding dealt
deal_chooses a b c r m s t u g mind spoken res heard p q = by_result res q
  where
    o : Session KEnd × List JournalEntry
    o = with_mind mind (fed kept_ends r m s g)

    is : dealt kept_ends r m s g heard.free ≡ (let x = part_for_each_answer (replied kept_ends r m) o.0 (events_said_by_user spoken) in (x.0, o.1 ++ x.1))
    is = ap (λ z. let x = part_for_each_answer (replied kept_ends r m) (record (fed kept_ends r m s g).0 { mind = z.0 }) z.1 in (x.0, (fed kept_ends r m s g).1 ++ x.1)) heard.is

    by_result : (res : Result (Unit {0}) LoopFault) → Prints b c u (part_for_each_answer (replied kept_ends r m) t (events_said_by_user spoken)) res → Chooses a c u (dealt kept_ends r m s g) res
    by_result (Ok done) q = record {
      answers = heard.free;
      is =
          subst (λ z. Printed a c u z) (sym is)
          (printed_then a b c t u o (part_for_each_answer (replied kept_ends r m) o.0 (events_said_by_user spoken)) p (subst (λ z. Printed b c u (part_for_each_answer (replied kept_ends r m) z (events_said_by_user spoken))) p.state q));
    }
    by_result (Err fault) q = record {
      answers = heard.free;
      breaks =
          subst (λ z. Breaks a c (writes_of_entries z.1) fault) (sym is)
          (breaks_then a b c t o (part_for_each_answer (replied kept_ends r m) o.0 (events_said_by_user spoken)).1 fault p
          (subst (λ z. Breaks b c (writes_of_entries (part_for_each_answer (replied kept_ends r m) z (events_said_by_user spoken)).1) fault) p.state q));
    }

-- ---- takes

pub takes_done : (a b : Told) (r : Rules) (m : ℕ) (s t : Session KEnd) (n : ℕ) → n ≡ count_waiting_in_session kept_ends s
    → WentSome n a b (λ x free. dealt kept_ends r m x Takes free) s t → Chose a b t (takes_all kept_ends r m s)
unfolding takes_all
takes_done a b r m s t n all p =
    let x = went_all (count_waiting_in_session kept_ends s) a b (λ y free. dealt kept_ends r m y Takes free) s t silent_answer (subst (λ z. WentSome z a b (λ y free. dealt kept_ends r m y Takes free) s t) all p) in
    record { answers = x.answers; is = x.is }

pub takes_broke : (a b c : Told) (r : Rules) (m : ℕ) (s t : Session KEnd) (n : ℕ) (fault : LoopFault) → n < count_waiting_in_session kept_ends s
    → WentSome n a b (λ x free. dealt kept_ends r m x Takes free) s t → BrokeOff b c (dealt kept_ends r m t Takes) fault → BrokeOff a c (takes_all kept_ends r m s) fault
unfolding takes_all
takes_broke a b c r m s t n fault few p q =
    let x = went_broke (count_waiting_in_session kept_ends s) n a b c (λ y free. dealt kept_ends r m y Takes free) s t silent_answer fault few p (record { answers = q.answers; breaks = q.breaks }) in
    record { answers = x.answers; breaks = x.breaks }

-- ---- an event with all that follows it

pub handled_first : (a b : Told) (r : Rules) (m : ℕ) (s : Session KEnd) (g : GivenToSession) (fault : LoopFault) → BrokeOff a b (dealt kept_ends r m s g) fault
    → BrokeOff a b (handled kept_ends r m s g) fault
unfolding handled
handled_first a b r m s g fault p = record {
  answers = record { first = p.answers; rest = [] };
  breaks = (let o = dealt kept_ends r m s g p.answers in breaks_first a b o.1 (takes_all kept_ends r m o.0 []).1 fault p.breaks);
}

pub handled_then : (a b c : Told) (r : Rules) (m : ℕ) (s t : Session KEnd) (g : GivenToSession) (fault : LoopFault)
    → Chose a b t (dealt kept_ends r m s g) → BrokeOff b c (takes_all kept_ends r m t) fault → BrokeOff a c (handled kept_ends r m s g) fault
unfolding handled
handled_then a b c r m s t g fault p q = record {
  answers = record { first = p.answers; rest = q.answers };
  breaks =
      let o = dealt kept_ends r m s g p.answers in
      breaks_then a b c t o (takes_all kept_ends r m o.0 q.answers).1 fault p.is
      (subst (λ z. Breaks b c (writes_of_entries (takes_all kept_ends r m z q.answers).1) fault) p.is.state q.breaks);
}

pub handled_done : (a b c : Told) (r : Rules) (m : ℕ) (s t u new : Session KEnd) (g : GivenToSession)
    → Chose a b t (dealt kept_ends r m s g) → Chose b c u (takes_all kept_ends r m t) → new ≡ parted kept_ends r m u → Chose a c new (handled kept_ends r m s g)
unfolding handled
handled_done a b c r m s t u new g p q parts = record {
  answers = record { first = p.answers; rest = q.answers };
  is =
      let o = dealt kept_ends r m s g p.answers in
      let last : Printed b c u (takes_all kept_ends r m o.0 q.answers) = subst (λ z. Printed b c u (takes_all kept_ends r m z q.answers)) p.is.state q.is in
      let all = printed_then a b c t u o (takes_all kept_ends r m o.0 q.answers) p.is last in
      record { state = parts ∙ ap (λ (z : Session KEnd). parted kept_ends r m z) last.state; did = all.did; in_grammar = all.in_grammar };
}
