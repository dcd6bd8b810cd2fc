-- One event more: what is kept goes on to stand for the ends of all connections.
use Rattle.std.proofs.Common.{◌≡◌, ◌≤◌, ◌∙◌, inl, inr, ℕ, max, Bool, true, false, not, ◌&&◌, ◌||◌, if◌then◌else◌, List, [], ◌∷◌, ◌++◌, length, Option, Some, None, is_some, refl, sym, ap, ap₂, arith, subst, append-nil, eqb-true}
use Rattle.er_end.specs.FrameRoom.{one_if}
use Rattle.std.specs.Prelude.{◌==◌}
use Rattle.std.proofs.lemmas.Bool.{cases_Bool, eq-eqb}
use Rattle.std.proofs.lemmas.List.Folds.{list_any-append}
use Rattle.std.specs.BTreeMap.{btree_map_len}
use Rattle.er_base.specs.declared.release.Release.{Release}
use Rattle.er_settings.specs.Values.{Settings}
use Rattle.er_trace.specs.declared.entry.Entry.{Entry}
use Rattle.er_end_model.specs.Steps.{Finds}
use Rattle.er_end_model.specs.Layers.{model}
use Rattle.er_end_model.specs.Ends.{End}
use Rattle.er_end.specs.KeptEnds.{KEnd, waiting_in}
use Rattle.er_end.specs.Standing.{ShowsAlike}
use Rattle.trace_model.specs.Connections.{happens, happens_at, end_behind, end_at}
use Rattle.trace_model.specs.Checks.{role_of, is_opening_role, names, is_named, is_opened, last_moment, is_live, connections_opened_in_trace, live_count}
use Rattle.trace_replay.specs.declared.connections.Connections.{Connections}
use Rattle.trace_replay.specs.Places.{ConnectionPlace, Absent, Declined, Live, Over, place_of_connection, place_for, over_of, is_absent, is_there, Places, FollowsEnd, IsOver, KeepsConnection, has_connection, AreApart, count_of, AllHold, HoldsOfAllConnections}
use Rattle.trace_replay.proofs.Alike.{follows_later, untaken_alike, released_alike}
use Rattle.trace_replay.proofs.Changes.{for_over, for_live}
use Rattle.trace_replay.proofs.Counts.{or_false, apart_more, count_more, count_same, count_swap, count_filter}

-- ---- one event more

pub named_more : (c : ℕ) (before : List Entry) (e : Entry) → is_named c (before ++ e ∷ []) ≡ (is_named c before || (names (role_of e.event) && (e.conn == c)))
unfolding is_named
named_more c before e =
    list_any-append (λ (x : Entry). names (role_of x.event) && (x.conn == c)) before (e ∷ [])
    ∙ ap (λ (b : Bool). is_named c before || b) (or_false (names (role_of e.event) && (e.conn == c)))

pub opened_more : (c : ℕ) (before : List Entry) (e : Entry) → is_opened c (before ++ e ∷ []) ≡ (is_opened c before || (is_opening_role (role_of e.event) && (e.conn == c)))
unfolding is_opened
opened_more c before e =
    list_any-append (λ (x : Entry). is_opening_role (role_of x.event) && (x.conn == c)) before (e ∷ [])
    ∙ ap (λ (b : Bool). is_opened c before || b) (or_false (is_opening_role (role_of e.event) && (e.conn == c)))

abbrev conns : Bool → ℕ → List ℕ
conns true c = c ∷ []
conns false c = []

pub opened_in_more : (before : List Entry) (e : Entry) → connections_opened_in_trace (before ++ e ∷ []) ≡ connections_opened_in_trace before ++ conns (is_opening_role (role_of e.event)) e.conn
unfolding connections_opened_in_trace
opened_in_more [] e = one (is_opening_role (role_of e.event))
  where
    one : (b : Bool) → (if b then e.conn ∷ [] else []) ≡ conns b e.conn
    one true = refl
    one false = refl
opened_in_more (x ∷ xs) e = more (is_opening_role (role_of x.event)) (opened_in_more xs e)
  where
    more : (b : Bool) → connections_opened_in_trace (xs ++ e ∷ []) ≡ connections_opened_in_trace xs ++ conns (is_opening_role (role_of e.event)) e.conn
        → (if b then x.conn ∷ connections_opened_in_trace (xs ++ e ∷ []) else connections_opened_in_trace (xs ++ e ∷ [])) ≡ (if b then x.conn ∷ connections_opened_in_trace xs else connections_opened_in_trace xs) ++ conns (is_opening_role (role_of e.event)) e.conn
    more true rest = ap (λ (l : List ℕ). x.conn ∷ l) rest
    more false rest = rest

pub last_more : (before : List Entry) (e : Entry) → last_moment (before ++ e ∷ []) ≡ max (last_moment before) e.moment
unfolding last_moment
last_more [] e = omega arith
last_more (x ∷ xs) e = let more = last_more xs e in omega (arith, more)

pub end_more : (settings : Settings) (finds : Finds) (c : ℕ) (m : Option End) (before : List Entry) (e : Entry)
    → end_behind settings finds c m (before ++ e ∷ []) ≡ happens_at settings finds c (end_behind settings finds c m before) e
unfolding end_behind
end_more settings finds c m [] e = refl
end_more settings finds c m (x ∷ xs) e = end_more settings finds c (happens_at settings finds c m x) xs e

pub has_opened : (c : ℕ) (before : List Entry) → has_connection c (connections_opened_in_trace before) ≡ is_opened c before
unfolding connections_opened_in_trace is_opened has_connection
has_opened c [] = refl
has_opened c (x ∷ xs) = more (is_opening_role (role_of x.event)) (has_opened c xs)
  where
    more : (b : Bool) → has_connection c (connections_opened_in_trace xs) ≡ is_opened c xs → has_connection c (if b then x.conn ∷ connections_opened_in_trace xs else connections_opened_in_trace xs) ≡ ((b && (x.conn == c)) || is_opened c xs)
    more true rest = ap (λ (d : Bool). (x.conn == c) || d) rest
    more false rest = rest

-- ---- what is kept of one connection

keeps_later : (l at : ℕ) (p : ConnectionPlace) (m : Option End) (n o : Bool) → l ≤ at → KeepsConnection l p m n o → KeepsConnection at p m n o
keeps_later l at Absent m n o le k = k
keeps_later l at Declined m n o le k = k
keeps_later l at (Live k) None n o le h = absurd h.0
keeps_later l at (Live k) (Some m) n o le h = (follows_later l at k m le h.0, h.1, h.2, h.3)
keeps_later l at (Over why) m n o le k = k

keeps_as : (l : ℕ) (p q : ConnectionPlace) (m w : Option End) (n a o b : Bool) → p ≡ q → m ≡ w → n ≡ a → o ≡ b → KeepsConnection l q w a b → KeepsConnection l p m n o
keeps_as l p q m w n a o b pp mm nn oo k =
    subst (λ (x : ConnectionPlace). KeepsConnection l x m n o) (sym pp)
    (subst (λ (x : Option End). KeepsConnection l q x n o) (sym mm) (subst (λ (x : Bool). KeepsConnection l q w x o) (sym nn) (subst (λ (x : Bool). KeepsConnection l q w a x) (sym oo) k)))

-- whether it was named, and whether its end is live
pub named_is : (l : ℕ) (p : ConnectionPlace) (m : Option End) (n o : Bool) → KeepsConnection l p m n o → n ≡ not (is_absent p)
named_is l Absent m n o k = k.1
named_is l Declined m n o k = k.1
named_is l (Live e) m n o k = k.2
named_is l (Over why) m n o k = k.1

over_not_live : (why : Release) (m : Option End) → IsOver why m → is_live m ≡ false
over_not_live why None k = absurd k
over_not_live why (Some m) k = rw (k.0, k.1) refl

there_is : (l : ℕ) (p : ConnectionPlace) (m : Option End) (n o : Bool) → KeepsConnection l p m n o → is_live m ≡ is_there p
there_is l Absent m n o k = ap (λ (x : Option End). is_live x) k.0
there_is l Declined m n o k = ap (λ (x : Option End). is_live x) k.0
there_is l (Live e) m n o k = k.1
there_is l (Over why) m n o k = over_not_live why m k.0

unopened : (l : ℕ) (p : ConnectionPlace) (m : Option End) (n o : Bool) → KeepsConnection l p m n o → o ≡ false → one_if (is_there p) ≡ 0
unopened l Absent m n o k e = refl
unopened l Declined m n o k e = refl
unopened l (Live x) m n o k e = absurd (let q : true ≡ false = sym k.3 ∙ e in let u : ⊥ = cc in u)
unopened l (Over why) m n o k e = refl

unnamed : (l : ℕ) (p : ConnectionPlace) (m : Option End) (n o : Bool) → KeepsConnection l p m n o → n ≡ false → o ≡ false
unnamed l Absent m n o k e = k.2
unnamed l Declined m n o k e = k.2
unnamed l (Live x) m n o k e = absurd (let q : true ≡ false = sym k.2 ∙ e in let u : ⊥ = cc in u)
unnamed l (Over why) m n o k e = absurd (let q : true ≡ false = sym k.1 ∙ e in let u : ⊥ = cc in u)

-- where an end is kept that stands for this one
pub keeps_end : ShowsAlike → (l : ℕ) (k : KEnd) (m : Option End) (n o : Bool) → FollowsEnd l k m → n ≡ true → o ≡ true → KeepsConnection l (place_for k) m n o
unfolding over_of
keeps_end shows l k None n o f nn oo = absurd f
keeps_end shows l k (Some m) n o f nn oo =
    let s = shows k f.exact f.stands in
    let released : k.core.released ≡ m.core.released = s.1 ∙ released_alike l f.exact m f.alike in
    let untaken : length (waiting_in k) ≡ model.untaken m.core.upper = s.2 ∙ untaken_alike l f.exact m f.alike in
    at (over_of k) refl released untaken
  where
    over_is : (n : ℕ) (r : Option Release) (why : Release) → (if n == 0 then r else None) ≡ Some why → (r ≡ Some why) × (n ≡ 0)
    over_is n r why p = elim (cases_Bool (n == 0)) [
      | inl y ↦ (sym (ap (λ (b : Bool). if b then r else None) y) ∙ p, eqb-true n 0 y)
      | inr y ↦ absurd (let q : None ≡ Some why = sym (ap (λ (b : Bool). if b then r else None) y) ∙ p in let u : ⊥ = cc in u)
    ]

    live_is : (n : ℕ) (r : Option Release) → (if n == 0 then r else None) ≡ None → not (is_some r && (n == 0)) ≡ true
    live_is n None p = refl
    live_is n (Some why) p = elim (cases_Bool (n == 0)) [
      | inl y ↦ absurd (let q : Some why ≡ None = sym (ap (λ (b : Bool). if b then Some why else None) y) ∙ p in let u : ⊥ = cc in u)
      | inr y ↦ ap (λ (b : Bool). not b) y
    ]

    at : (w : Option Release) → over_of k ≡ w → k.core.released ≡ m.core.released → length (waiting_in k) ≡ model.untaken m.core.upper → KeepsConnection l (place_for k) (Some m) n o
    at (Some why) e released untaken =
        let is = over_is (length (waiting_in k)) k.core.released why e in
        subst (λ (p : ConnectionPlace). KeepsConnection l p (Some m) n o) (sym (for_over k why e)) ((sym released ∙ is.0, sym untaken ∙ is.1), nn, oo)
    at None e released untaken =
        let live = live_is (length (waiting_in k)) k.core.released e in
        subst (λ (p : ConnectionPlace). KeepsConnection l p (Some m) n o) (sym (for_live k e))
        (f, ap₂ (λ (r : Option Release) (u : ℕ). not (is_some r && (u == 0))) (sym released) (sym untaken) ∙ live, nn, oo)

-- ---- all connections

pub seen : (settings : Settings) (finds : Finds) (before : List Entry) (c : Connections) → HoldsOfAllConnections settings finds before c → AllHold settings finds before c
unfolding HoldsOfAllConnections
seen settings finds before c h = h

pub hidden : (settings : Settings) (finds : Finds) (before : List Entry) (c : Connections) → AllHold settings finds before c → HoldsOfAllConnections settings finds before c
unfolding HoldsOfAllConnections
hidden settings finds before c h = h

pub live_is : (settings : Settings) (finds : Finds) (before : List Entry) (c : Connections) → AllHold settings finds before c
    → live_count settings finds before ≡ btree_map_len c.live
unfolding live_count
live_is settings finds before c h =
    count_filter (λ conn. is_there (place_of_connection c conn)) (λ conn. is_live (end_at settings finds conn before)) (connections_opened_in_trace before)
    (λ conn. there_is (last_moment before) (place_of_connection c conn) (end_at settings finds conn before) (is_named conn before) (is_opened conn before) (h.keeps conn))
    ∙ sym h.count

and_false : (b : Bool) → (b && false) ≡ false
and_false true = refl
and_false false = refl

and_true : (b : Bool) → (b && true) ≡ b
and_true true = refl
and_true false = refl

pub holds_next : (settings : Settings) (finds : Finds) (before : List Entry) (e : Entry) (old new : Connections) (p : ConnectionPlace)
    → AllHold settings finds before old → last_moment before ≤ e.moment → Places old new e.conn p
    → (is_opening_role (role_of e.event) ≡ true → is_named e.conn before ≡ false)
    → KeepsConnection e.moment p (happens settings finds e.moment e.event (end_at settings finds e.conn before)).0
    (is_named e.conn before || names (role_of e.event)) (is_opened e.conn before || is_opening_role (role_of e.event))
    → AllHold settings finds (before ++ e ∷ []) new
holds_next settings finds before e old new p h le s fresh keeps = record {
  keeps = each;
  apart = apart (is_opening_role (role_of e.event)) refl;
  count = counted (is_opening_role (role_of e.event)) refl;
}
  where
    last : last_moment (before ++ e ∷ []) ≡ e.moment
    last = let more = last_more before e in omega (arith, more, le)

    self : (e.conn == e.conn) ≡ true
    self = eq-eqb e.conn e.conn refl

    here : KeepsConnection (last_moment (before ++ e ∷ [])) (place_of_connection new e.conn) (end_at settings finds e.conn (before ++ e ∷ [])) (is_named e.conn (before ++ e ∷ [])) (is_opened e.conn (before ++ e ∷ []))
    here =
        subst (λ (l : ℕ). KeepsConnection l (place_of_connection new e.conn) (end_at settings finds e.conn (before ++ e ∷ [])) (is_named e.conn (before ++ e ∷ [])) (is_opened e.conn (before ++ e ∷ []))) (sym last)
        (keeps_as e.moment (place_of_connection new e.conn) p (end_at settings finds e.conn (before ++ e ∷ [])) (happens settings finds e.moment e.event (end_at settings finds e.conn before)).0
        (is_named e.conn (before ++ e ∷ [])) (is_named e.conn before || names (role_of e.event)) (is_opened e.conn (before ++ e ∷ [])) (is_opened e.conn before || is_opening_role (role_of e.event))
        s.here
        (end_more settings finds e.conn None before e
        ∙ ap (λ (b : Bool). if b then (happens settings finds e.moment e.event (end_at settings finds e.conn before)).0 else end_at settings finds e.conn before) self)
        (named_more e.conn before e ∙ ap (λ (b : Bool). is_named e.conn before || (names (role_of e.event) && b)) self ∙ ap (λ (b : Bool). is_named e.conn before || b) (and_true (names (role_of e.event))))
        (opened_more e.conn before e ∙ ap (λ (b : Bool). is_opened e.conn before || (is_opening_role (role_of e.event) && b)) self ∙ ap (λ (b : Bool). is_opened e.conn before || b) (and_true (is_opening_role (role_of e.event))))
        keeps)

    other : (c : ℕ) → (e.conn == c) ≡ false → KeepsConnection (last_moment (before ++ e ∷ [])) (place_of_connection new c) (end_at settings finds c (before ++ e ∷ [])) (is_named c (before ++ e ∷ [])) (is_opened c (before ++ e ∷ []))
    other c apart =
        subst (λ (l : ℕ). KeepsConnection l (place_of_connection new c) (end_at settings finds c (before ++ e ∷ [])) (is_named c (before ++ e ∷ [])) (is_opened c (before ++ e ∷ []))) (sym last)
        (keeps_as e.moment (place_of_connection new c) (place_of_connection old c) (end_at settings finds c (before ++ e ∷ [])) (end_at settings finds c before)
        (is_named c (before ++ e ∷ [])) (is_named c before) (is_opened c (before ++ e ∷ [])) (is_opened c before)
        (s.others c apart)
        (end_more settings finds c None before e
        ∙ ap (λ (b : Bool). if b then (happens settings finds e.moment e.event (end_at settings finds c before)).0 else end_at settings finds c before) apart)
        (named_more c before e ∙ ap (λ (b : Bool). is_named c before || (names (role_of e.event) && b)) apart ∙ ap (λ (b : Bool). is_named c before || b) (and_false (names (role_of e.event))) ∙ or_false (is_named c before))
        (opened_more c before e ∙ ap (λ (b : Bool). is_opened c before || (is_opening_role (role_of e.event) && b)) apart ∙ ap (λ (b : Bool). is_opened c before || b) (and_false (is_opening_role (role_of e.event))) ∙ or_false (is_opened c before))
        (keeps_later (last_moment before) e.moment (place_of_connection old c) (end_at settings finds c before) (is_named c before) (is_opened c before) le (h.keeps c)))

    each : (c : ℕ) → KeepsConnection (last_moment (before ++ e ∷ [])) (place_of_connection new c) (end_at settings finds c (before ++ e ∷ [])) (is_named c (before ++ e ∷ [])) (is_opened c (before ++ e ∷ []))
    each c = elim (cases_Bool (e.conn == c)) [
      | inl y ↦ subst (λ (x : ℕ). KeepsConnection (last_moment (before ++ e ∷ [])) (place_of_connection new x) (end_at settings finds x (before ++ e ∷ [])) (is_named x (before ++ e ∷ [])) (is_opened x (before ++ e ∷ []))) (eqb-true e.conn c y) here
      | inr y ↦ other c y
    ]

    listed : (b : Bool) → is_opening_role (role_of e.event) ≡ b → connections_opened_in_trace (before ++ e ∷ []) ≡ connections_opened_in_trace before ++ conns b e.conn
    listed b is = opened_in_more before e ∙ ap (λ (x : Bool). connections_opened_in_trace before ++ conns x e.conn) is

    unlisted : is_opening_role (role_of e.event) ≡ true → has_connection e.conn (connections_opened_in_trace before) ≡ false
    unlisted is =
        has_opened e.conn before
        ∙ unnamed (last_moment before) (place_of_connection old e.conn) (end_at settings finds e.conn before) (is_named e.conn before) (is_opened e.conn before) (h.keeps e.conn) (fresh is)

    apart : (b : Bool) → is_opening_role (role_of e.event) ≡ b → AreApart (connections_opened_in_trace (before ++ e ∷ []))
    apart true is = subst (λ (l : List ℕ). AreApart l) (sym (listed true is)) (apart_more e.conn (connections_opened_in_trace before) h.apart (unlisted is))
    apart false is = subst (λ (l : List ℕ). AreApart l) (sym (listed false is ∙ append-nil (connections_opened_in_trace before))) h.apart

    same : (c : ℕ) → (e.conn == c) ≡ false → is_there (place_of_connection new c) ≡ is_there (place_of_connection old c)
    same c y = ap (λ (x : ConnectionPlace). is_there x) (s.others c y)

    at_new : one_if (is_there (place_of_connection new e.conn)) ≡ one_if (is_there p)
    at_new = ap (λ (x : ConnectionPlace). one_if (is_there x)) s.here

    counted : (b : Bool) → is_opening_role (role_of e.event) ≡ b → btree_map_len new.live ≡ count_of (λ c. is_there (place_of_connection new c)) (connections_opened_in_trace (before ++ e ∷ []))
    counted true is =
        let list = ap (λ (l : List ℕ). count_of (λ c. is_there (place_of_connection new c)) l) (listed true is) in
        let more = count_more (λ c. is_there (place_of_connection new c)) (connections_opened_in_trace before) e.conn in
        let kept = count_same e.conn (λ c. is_there (place_of_connection old c)) (λ c. is_there (place_of_connection new c)) (connections_opened_in_trace before) same (unlisted is) in
        let none : one_if (is_there (place_of_connection old e.conn)) ≡ 0 =
        unopened (last_moment before) (place_of_connection old e.conn) (end_at settings finds e.conn before) (is_named e.conn before) (is_opened e.conn before) (h.keeps e.conn)
        (sym (has_opened e.conn before) ∙ unlisted is) in
        let step = s.count in
        let held = h.count in
        let at = at_new in
        omega (arith, list, more, kept, none, step, held, at)
    counted false is =
        let list = ap (λ (l : List ℕ). count_of (λ c. is_there (place_of_connection new c)) l) (listed false is ∙ append-nil (connections_opened_in_trace before)) in
        let step = s.count in
        let held = h.count in
        let at = at_new in
        elim (cases_Bool (has_connection e.conn (connections_opened_in_trace before))) [
          | inl y ↦
              let swap = count_swap e.conn (λ c. is_there (place_of_connection old c)) (λ c. is_there (place_of_connection new c)) (connections_opened_in_trace before) h.apart same y in
              omega (arith, list, swap, step, held, at)
          | inr y ↦
              let kept = count_same e.conn (λ c. is_there (place_of_connection old c)) (λ c. is_there (place_of_connection new c)) (connections_opened_in_trace before) same y in
              let shut : is_opened e.conn before ≡ false = sym (has_opened e.conn before) ∙ y in
              let none : one_if (is_there (place_of_connection old e.conn)) ≡ 0 =
              unopened (last_moment before) (place_of_connection old e.conn) (end_at settings finds e.conn before) (is_named e.conn before) (is_opened e.conn before) (h.keeps e.conn) shut in
              let after : one_if (is_there p) ≡ 0 =
              unopened e.moment p (happens settings finds e.moment e.event (end_at settings finds e.conn before)).0 (is_named e.conn before || names (role_of e.event)) (is_opened e.conn before || is_opening_role (role_of e.event)) keeps
              (ap₂ (λ (x y : Bool). x || y) shut is) in
              omega (arith, list, kept, none, after, step, held, at)
        ]
