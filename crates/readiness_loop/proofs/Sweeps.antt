-- Visits one after the other: what so many of them left, printed and called.
use Rattle.er_end.specs.KeptEnds.{KEnd}
use Rattle.loop_session.specs.Keeping.{kept_ends}
use Rattle.std.proofs.Common.{◌≡◌, ℕ, zero, suc, ◌+◌, ◌<◌, ◌≤◌, List, [], ◌∷◌, ◌++◌, Option, Some, None, Result, length, take, drop, map, slice_get, refl, sym, ◌∙◌, ap, subst, arith, append_assoc, append-nil, length-append}
use Rattle.std.proofs.lemmas.List.{take-append-drop, length-take-le}
use Rattle.std.proofs.lemmas.Option.{slice_get_within}
use Rattle.slab.specs.Slab.{Slab, get}
use Rattle.er_end_model.specs.Steps.{earlier_of_moments as first_moment}
use Rattle.loop_model.specs.Outs.{Out, next}
use Rattle.loop_model.specs.Sessions.{Session}
use Rattle.loop_model.specs.Visits.{Met, wakes}
use Rattle.loop_model.specs.Loops.{visit_at, swept, numbers, until}
use Rattle.loop_session.specs.declared.loop_fault.LoopFault.{LoopFault}
use Rattle.loop_session.specs.declared.loop_fault.LoopFault.TheVariants.{NoMemory}
use Rattle.er_base.specs.declared.no_memory.NoMemory.{NoMemory as Want}
use Rattle.loop_io.specs.Acting.{Acted, BreaksAt, ActedSo, Stopped, DoesLoopPart}
use Rattle.loop_io.specs.Seeing.{Seen}
use Rattle.readiness_loop.specs.Books.{seat, seats, sessions_at, IsSeat, AreSeated}
use Rattle.loop_io.specs.Sequels.{breaks_first, breaks_wanted}
use Rattle.readiness_loop.proofs.Sequences.{acted_still, acted_then, breaks_then}

-- ---- one part, then another, then a third

-- what comes behind a part
abbrev pub after : {S T : Type 0} → Out S → Out T → Out T
after x o = record { state = o.state; entries = x.entries ++ o.entries; calls = x.calls ++ o.calls; order = x.order ++ o.order }

pub after_after : {S T U : Type 0} (x : Out S) (y : Out T) (z : Out U) → after x (after y z) ≡ after (after x y) z
after_after x y z = rw (append_assoc x.entries y.entries z.entries, append_assoc x.calls y.calls z.calls, append_assoc x.order y.order z.order) refl

unequal : (n m : ℕ) → n ≡ 0 → n ≡ m + 1 → ⊥
unequal n m p q = omega (arith, p, q)

pub swept-append : (f : Session KEnd → Met → Out (List (Session KEnd))) (ms ns : List ℕ) (ss : List (Session KEnd)) (xs bs : List Met) → length xs ≡ length ms
    → swept f (ms ++ ns) ss (xs ++ bs) ≡ next (swept f ms ss xs) (λ now. swept f ns now bs)
unfolding swept
swept-append f [] ns ss [] bs p = refl
swept-append f [] ns ss (a ∷ xs) bs p = absurd (let q : length (a ∷ xs) ≡ 0 = p in omega (arith, q))
swept-append f (m ∷ ms) ns ss [] bs p = absurd (let q : 0 ≡ length (m ∷ ms) = p in omega (arith, q))
swept-append f (m ∷ ms) ns ss (a ∷ xs) bs p =
    let x = visit_at f m ss a in
    let q : length xs ≡ length ms = omega (arith, p) in
    ap (after x) (swept-append f ms ns x.state xs bs q)
    ∙ after_after x (swept f ms x.state xs) (swept f ns (swept f ms x.state xs).state bs)

-- so many visits were made
pub record SweptSome (a b : Seen) (f : Session KEnd → Met → Out (List (Session KEnd))) (ns : List ℕ) (many : ℕ) (ss now : List (Session KEnd)) : Type 0 where
  pub answers : List Met
  pub count : length answers ≡ many
  pub is : Acted a b now (swept f (take many ns) ss answers)

pub swept_none : (a : Seen) (f : Session KEnd → Met → Out (List (Session KEnd))) (ns : List ℕ) (ss : List (Session KEnd)) → SweptSome a a f ns 0 ss ss
unfolding swept
swept_none a f ns ss = record { answers = []; count = refl; is = acted_still a ss ss refl }

drop_at : (ns : List ℕ) (i n : ℕ) → slice_get ns i ≡ Some n → drop i ns ≡ n ∷ drop (suc i) ns
drop_at [] i n p = absurd (let q : i < 0 = slice_get_within [] i n p in omega (arith, q))
drop_at (m ∷ ns) zero n p = ap (λ z. z ∷ ns) (let q : Some m ≡ Some n = p in cc)
drop_at (m ∷ ns) (suc i) n p = drop_at ns i n p

take_at : (ns : List ℕ) (i n : ℕ) → slice_get ns i ≡ Some n → take (suc i) ns ≡ take i ns ++ n ∷ []
take_at [] i n p = absurd (let q : i < 0 = slice_get_within [] i n p in omega (arith, q))
take_at (m ∷ ns) zero n p = ap (λ z. z ∷ []) (let q : Some m ≡ Some n = p in cc)
take_at (m ∷ ns) (suc i) n p = ap (λ z. m ∷ z) (take_at ns i n p)

taken : (ns : List ℕ) (i n : ℕ) → slice_get ns i ≡ Some n → length (take i ns) ≡ i
taken ns i n p = length-take-le i ns (let q : i < length ns = slice_get_within ns i n p in omega (arith, q))

-- the visit of one number, with nothing behind it
one_swept : (f : Session KEnd → Met → Out (List (Session KEnd))) (n : ℕ) (ss : List (Session KEnd)) (a : Met) → swept f (n ∷ []) ss (a ∷ []) ≡ visit_at f n ss a
unfolding swept
one_swept f n ss a = let x = visit_at f n ss a in rw (append-nil x.entries, append-nil x.calls, append-nil x.order) refl

pub swept_more : (a b c : Seen) (f : Session KEnd → Met → Out (List (Session KEnd))) (ns : List ℕ) (i n : ℕ) (ss now then_ : List (Session KEnd))
    → SweptSome a b f ns i ss now → slice_get ns i ≡ Some n → ActedSo b c then_ (visit_at f n now)
    → SweptSome a c f ns (suc i) ss then_
swept_more a b c f ns i n ss now then_ p at q =
    let same : length p.answers ≡ length (take i ns) = p.count ∙ sym (taken ns i n at) in
    let whole : swept f (take (suc i) ns) ss (p.answers ++ q.answers ∷ []) ≡ next (swept f (take i ns) ss p.answers) (λ z. swept f (n ∷ []) z (q.answers ∷ [])) =
    ap (λ z. swept f z ss (p.answers ++ q.answers ∷ [])) (take_at ns i n at) ∙ swept-append f (take i ns) (n ∷ []) ss p.answers (q.answers ∷ []) same in
    let there : visit_at f n now q.answers ≡ swept f (n ∷ []) (swept f (take i ns) ss p.answers).state (q.answers ∷ []) =
    sym (one_swept f n now q.answers) ∙ ap (λ z. swept f (n ∷ []) z (q.answers ∷ [])) p.is.state in
    record {
      answers = p.answers ++ q.answers ∷ [];
      count = length-append p.answers (q.answers ∷ []) ∙ (let h = p.count in omega (arith, h));
      is = subst (λ z. Acted a c then_ z) (sym whole)
          (acted_then a b c now then_ (swept f (take i ns) ss p.answers) (λ z. swept f (n ∷ []) z (q.answers ∷ [])) p.is
          (subst (λ z. Acted b c then_ z) there q.is));
    }

pub swept_all : (a b : Seen) (f : Session KEnd → Met → Out (List (Session KEnd))) (ns : List ℕ) (i : ℕ) (ss now : List (Session KEnd))
    → SweptSome a b f ns i ss now → length ns ≤ i → ActedSo a b now (swept f ns ss)
swept_all a b f ns i ss now p q = record { answers = p.answers; is = subst (λ z. Acted a b now (swept f z ss p.answers)) (take_beyond ns i q) p.is }
  where
    take_beyond : (ns : List ℕ) (i : ℕ) → length ns ≤ i → take i ns ≡ ns
    take_beyond [] zero q = refl
    take_beyond [] (suc i) q = refl
    take_beyond (m ∷ ns) zero q = absurd (let h : length (m ∷ ns) ≤ 0 = q in omega (arith, h))
    take_beyond (m ∷ ns) (suc i) q = ap (λ z. m ∷ z) (take_beyond ns i (omega (arith, q)))

pub swept_breaks : (a b c : Seen) (f : Session KEnd → Met → Out (List (Session KEnd))) (ns : List ℕ) (i n : ℕ) (ss now : List (Session KEnd)) (fault : LoopFault)
    → SweptSome a b f ns i ss now → slice_get ns i ≡ Some n → Stopped b c (visit_at f n now) fault
    → Stopped a c (swept f ns ss) fault
unfolding swept
swept_breaks a b c f ns i n ss now fault p at q =
    let same : length p.answers ≡ length (take i ns) = p.count ∙ sym (taken ns i n at) in
    let cut : ns ≡ take i ns ++ n ∷ drop (suc i) ns = sym (take-append-drop i ns) ∙ ap (λ z. take i ns ++ z) (drop_at ns i n at) in
    let whole : swept f ns ss (p.answers ++ q.answers ∷ []) ≡ next (swept f (take i ns) ss p.answers) (λ z. swept f (n ∷ drop (suc i) ns) z (q.answers ∷ [])) =
    ap (λ z. swept f z ss (p.answers ++ q.answers ∷ [])) cut ∙ swept-append f (take i ns) (n ∷ drop (suc i) ns) ss p.answers (q.answers ∷ []) same in
    record {
      answers = p.answers ++ q.answers ∷ [];
      breaks = subst (λ z. BreaksAt a c z fault) (sym whole)
          (breaks_then a b c now (swept f (take i ns) ss p.answers) (λ z. swept f (n ∷ drop (suc i) ns) z (q.answers ∷ [])) fault p.is
          (subst (λ z. BreaksAt b c (swept f (n ∷ drop (suc i) ns) z (q.answers ∷ [])) fault) p.is.state
          (breaks_first b c (visit_at f n now q.answers) (λ z. swept f (drop (suc i) ns) z []) fault q.breaks)));
    }

-- ---- the numbers of a book, and when its sessions wake

pub numbers_are : (newest : ℕ) (slots : Slab (Session KEnd)) (es : List (ℕ × ℕ)) → AreSeated newest slots es → numbers (sessions_at slots es) ≡ map (λ e. e.0) es
unfolding seats AreSeated
numbers_are newest slots [] p = refl
numbers_are newest slots (e ∷ es) p = of_seat (get slots e.1) p.1 (numbers_are newest slots es p.3)
  where
    of_seat : (o : Option (Session KEnd)) → IsSeat e.0 o → numbers (sessions_at slots es) ≡ map (λ x. x.0) es → numbers (seat o (sessions_at slots es)) ≡ e.0 ∷ map (λ x. x.0) es
    of_seat None q h = absurd q
    of_seat (Some s) q h = rw (q, h) refl

pub first_first : (a b c : Option ℕ) → first_moment (first_moment a b) c ≡ first_moment a (first_moment b c)
first_first None b c = refl
first_first (Some a) None c = refl
first_first (Some a) (Some b) None = refl
first_first (Some a) (Some b) (Some c) = ap Some (omega arith)

pub until_turn : (slots : Slab (Session KEnd)) (k : ℕ) (ks : List ℕ) (first : Option ℕ) (all : Option ℕ) (s : Session KEnd)
    → first_moment first (until kept_ends (seats slots (k ∷ ks))) ≡ all → Some s ≡ get slots k
    → first_moment (first_moment first (wakes kept_ends s)) (until kept_ends (seats slots ks)) ≡ all
unfolding seats until
until_turn slots k ks first all s p q =
    first_first first (wakes kept_ends s) (until kept_ends (seats slots ks)) ∙ subst (λ z. first_moment first (until kept_ends (seat z (seats slots ks))) ≡ all) (sym q) p

pub until_skip : (slots : Slab (Session KEnd)) (k : ℕ) (ks : List ℕ) (first : Option ℕ) (all : Option ℕ)
    → first_moment first (until kept_ends (seats slots (k ∷ ks))) ≡ all → None ≡ get slots k → first_moment first (until kept_ends (seats slots ks)) ≡ all
unfolding seats until
until_skip slots k ks first all p q = subst (λ z. first_moment first (until kept_ends (seat z (seats slots ks))) ≡ all) (sym q) p

pub until_end : (slots : Slab (Session KEnd)) (first : Option ℕ) (all : Option ℕ) → first_moment first (until kept_ends (seats slots [])) ≡ all → first ≡ all
unfolding seats until
until_end slots None all p = p
until_end slots (Some m) all p = p

pub want_stopped : (a : Seen) (model : List Met → Out (List (Session KEnd))) (want : Want) → Stopped a a model (NoMemory want)
want_stopped a model want = record { answers = []; breaks = breaks_wanted a (model []) want }

pub swept_next : (a b c : Seen) (f : Session KEnd → Met → Out (List (Session KEnd))) (ns : List ℕ) (i n : ℕ) (ss now then_ : List (Session KEnd))
    → SweptSome a b f ns i ss now → slice_get ns i ≡ Some n → ActedSo b c then_ (visit_at f n now)
    → SweptSome a c f ns (i + 1) ss then_
swept_next a b c f ns i n ss now then_ p at q =
    let one : suc i ≡ i + 1 = omega arith in
    subst (λ z. SweptSome a c f ns z ss then_) one (swept_more a b c f ns i n ss now then_ p at q)

pub swept_as : {T : Type 0} (a b : Seen) (f : Session KEnd → Met → Out (List (Session KEnd))) (ns ms : List ℕ) (ss now : List (Session KEnd)) (r : Result T LoopFault)
    → ns ≡ ms → DoesLoopPart a b now (swept f ns ss) r → DoesLoopPart a b now (swept f ms ss) r
swept_as a b f ns ms ss now r p q = subst (λ z. DoesLoopPart a b now (swept f z ss) r) p q

pub until_step : (slots : Slab (Session KEnd)) (k : ℕ) (ks rest : List ℕ) (first then_ wake all : Option ℕ) (s : Session KEnd)
    → ks ≡ k ∷ rest → first_moment first (until kept_ends (seats slots ks)) ≡ all → Some s ≡ get slots k → wake ≡ wakes kept_ends s → then_ ≡ first_moment first wake
    → first_moment then_ (until kept_ends (seats slots rest)) ≡ all
until_step slots k ks rest first then_ wake all s e p q w t =
    ap (λ z. first_moment z (until kept_ends (seats slots rest))) (t ∙ ap (first_moment first) w)
    ∙ until_turn slots k rest first all s (subst (λ z. first_moment first (until kept_ends (seats slots z)) ≡ all) e p) q

pub until_pass : (slots : Slab (Session KEnd)) (k : ℕ) (ks rest : List ℕ) (first all : Option ℕ)
    → ks ≡ k ∷ rest → first_moment first (until kept_ends (seats slots ks)) ≡ all → None ≡ get slots k → first_moment first (until kept_ends (seats slots rest)) ≡ all
until_pass slots k ks rest first all e p q = until_skip slots k rest first all (subst (λ z. first_moment first (until kept_ends (seats slots z)) ≡ all) e p) q

pub until_done : (slots : Slab (Session KEnd)) (ks : List ℕ) (first all : Option ℕ) → ks ≡ [] → first_moment first (until kept_ends (seats slots ks)) ≡ all → first ≡ all
until_done slots ks first all e p = until_end slots first all (subst (λ z. first_moment first (until kept_ends (seats slots z)) ≡ all) e p)
