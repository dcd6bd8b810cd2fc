-- What a change of the maps is to the place of each connection.
use Rattle.std.proofs.Common.{◌≡◌, ◌∙◌, ℕ, ◌+◌, true, false, if◌then◌else◌, Option, Some, None, is_some, Result, Ok, Err, OnOk, refl, sym, ap, ap₂, arith}
use Rattle.er_end.specs.FrameRoom.{one_if}
use Rattle.std.specs.Prelude.{◌==◌}
use Rattle.std.specs.Cmp.{unsigned_ties}
use Rattle.std.specs.BTreeMap.{BTreeMap, get, btree_map_len, is_at}
use Rattle.std.specs.Ordering.{nat_cmp}
use Rattle.er_base.specs.declared.release.Release.{Release}
use Rattle.er_base.specs.declared.no_memory.NoMemory.{NoMemory}
use Rattle.er_end.specs.KeptEnds.{KEnd}
use Rattle.trace_replay.specs.declared.connections.Connections.{Connections}
use Rattle.trace_replay.specs.Places.{ConnectionPlace, Absent, Declined, Live, Over, place_by_live_or_over, place_of_connection, place_by, place_for, over_of, is_absent, is_there, Places}

-- another key
pub apart_at : (conn c : ℕ) → (conn == c) ≡ false → is_at (nat_cmp conn) c ≡ false
apart_at conn c apart = sym (unsigned_ties conn c) ∙ apart

abbrev Ends : Connections → ℕ → Option KEnd
Ends x c = get nat_cmp x.live c

abbrev Whys : Connections → ℕ → Option (Option Release)
Whys x c = get nat_cmp x.over c

pub place_is : (x : Connections) (c : ℕ) (a : Option KEnd) (b : Option (Option Release)) → Ends x c ≡ a → Whys x c ≡ b → place_of_connection x c ≡ place_by_live_or_over a b
unfolding place_of_connection
place_is x c a b p q = ap₂ place_by_live_or_over p q

same_place : (x y : Connections) (c : ℕ) → Ends y c ≡ Ends x c → Whys y c ≡ Whys x c → place_of_connection y c ≡ place_of_connection x c
unfolding place_of_connection
same_place x y c p q = ap₂ place_by_live_or_over p q

pub for_over : (k : KEnd) (why : Release) → over_of k ≡ Some why → place_for k ≡ Over why
unfolding place_for
for_over k why p = ap (λ (o : Option Release). place_by o k) p

pub for_live : (k : KEnd) → over_of k ≡ None → place_for k ≡ Live k
unfolding place_for
for_live k p = ap (λ (o : Option Release). place_by o k) p

there : (p q : ConnectionPlace) → p ≡ q → one_if (is_there p) ≡ one_if (is_there q)
there p q e = ap (λ (x : ConnectionPlace). one_if (is_there x)) e

pub live_place : (x : Connections) (c : ℕ) (k : KEnd) → Ends x c ≡ Some k → place_of_connection x c ≡ Live k
unfolding place_of_connection
live_place x c k p = ap (λ (o : Option KEnd). place_by_live_or_over o (Whys x c)) p

-- what a look-up lends
lent_is : (end k : KEnd) (o : Option KEnd) → Some end ≡ o → o ≡ Some k → end ≡ k
lent_is end k o p q = ap (λ (x : Option KEnd). or x) (p ∙ q)
  where
    or : Option KEnd → KEnd
    or None = end
    or (Some x) = x

-- a live end that is over
pub settled_over : (old new : Connections) (conn : ℕ) (k end : KEnd) (why : Release) (r : Option Release) (removed : Option KEnd)
    → Ends old conn ≡ Some k → Some end ≡ Ends old conn → r ≡ over_of end → r ≡ Some why
    → Ends new conn ≡ None → ((c : ℕ) → is_at (nat_cmp conn) c ≡ false → Ends new c ≡ Ends old c)
    → Whys new conn ≡ Some (Some why) → ((c : ℕ) → is_at (nat_cmp conn) c ≡ false → Whys new c ≡ Whys old c)
    → removed ≡ Ends old conn → btree_map_len new.live + (if is_some removed then 1 else 0) ≡ btree_map_len old.live
    → Places old new conn (place_for k)
settled_over old new conn k end why r removed was lent by is ends others whys whys_others gone len =
    let over : over_of k ≡ Some why = ap over_of (sym (lent_is end k (Ends old conn) lent was)) ∙ sym by ∙ is in
    let found : Option KEnd → ℕ = λ o. if is_some o then 1 else 0 in
    let one : found removed ≡ 1 = ap found (gone ∙ was) in
    let before = there (place_of_connection old conn) (Live k) (live_place old conn k was) in
    let behind = there (place_for k) (Over why) (for_over k why over) in
    record {
      here = place_is new conn None (Some (Some why)) ends whys ∙ sym (for_over k why over);
      others = λ c apart. same_place old new c (others c (apart_at conn c apart)) (whys_others c (apart_at conn c apart));
      count = omega (arith, one, before, behind, len);
    }

-- one that goes on
pub settled_live : (x : Connections) (conn : ℕ) (k end : KEnd) (r : Option Release)
    → Ends x conn ≡ Some k → Some end ≡ Ends x conn → r ≡ over_of end → r ≡ None → Places x x conn (place_for k)
settled_live x conn k end r was lent by is =
    let live : over_of k ≡ None = ap over_of (sym (lent_is end k (Ends x conn) lent was)) ∙ sym by ∙ is in
    let here : place_of_connection x conn ≡ place_for k = live_place x conn k was ∙ sym (for_live k live) in
    let same = there (place_of_connection x conn) (place_for k) here in
    record { here = here; others = λ c apart. refl; count = omega (arith, same) }

no_end : (a : Option KEnd) (b : Option (Option Release)) → is_absent (place_by_live_or_over a b) ≡ true → a ≡ None
no_end None b p = refl
no_end (Some k) b p = absurd (let u : ⊥ = cc in u)

pub none_live : (x : Connections) (c : ℕ) → is_absent (place_of_connection x c) ≡ true → Ends x c ≡ None
unfolding place_of_connection
none_live x c p = no_end (Ends x c) (Whys x c) p

-- an end is put where nothing was, and settled
pub opened_places : (old mid new : Connections) (conn : ℕ) (k : KEnd) (p : ConnectionPlace) (was : Option KEnd) (r : Result (Unit {0}) NoMemory)
    → is_absent (place_of_connection old conn) ≡ true
    → Ends mid conn ≡ Some k → ((c : ℕ) → is_at (nat_cmp conn) c ≡ false → Ends mid c ≡ Ends old c) → mid.over ≡ old.over
    → was ≡ Ends old conn → btree_map_len mid.live ≡ btree_map_len old.live + (if is_some was then 0 else 1)
    → OnOk r (Places mid new conn p) → OnOk r (Places old new conn p)
opened_places old mid new conn k p was (Ok done) absent here others over found len s =
    let before = absent_none (place_of_connection old conn) absent in
    let live = there (place_of_connection mid conn) (Live k) (live_place mid conn k here) in
    let count = s.count in
    let more : Option KEnd → ℕ = λ o. if is_some o then 0 else 1 in
    let one : more was ≡ 1 = ap more (found ∙ none_live old conn absent) in
    record {
      here = s.here;
      others = λ c apart. s.others c apart ∙ same_place old mid c (others c (apart_at conn c apart)) (ap (λ (m : BTreeMap ℕ (Option Release)). get nat_cmp m c) over);
      count = omega (arith, before, live, count, len, one);
    }
  where
    absent_none : (q : ConnectionPlace) → is_absent q ≡ true → one_if (is_there q) ≡ 0
    absent_none Absent a = refl
    absent_none Declined a = refl
    absent_none (Live k) a = absurd (let u : ⊥ = cc in u)
    absent_none (Over why) a = refl
opened_places old mid new conn k p was (Err want) absent here others over found len s = tt

-- an event was given to a live end, which is then settled
pub given_places : (old mid new : Connections) (conn : ℕ) (k l : KEnd) (p : ConnectionPlace)
    → Ends old conn ≡ Some k → Ends mid conn ≡ Some l → ((c : ℕ) → (conn == c) ≡ false → Ends mid c ≡ Ends old c) → mid.over ≡ old.over
    → btree_map_len mid.live ≡ btree_map_len old.live
    → Places mid new conn p → Places old new conn p
given_places old mid new conn k l p was here others over len s =
    let before = there (place_of_connection old conn) (Live k) (live_place old conn k was) in
    let live = there (place_of_connection mid conn) (Live l) (live_place mid conn l here) in
    let count = s.count in
    record {
      here = s.here;
      others = λ c apart. s.others c apart ∙ same_place old mid c (others c apart) (ap (λ (m : BTreeMap ℕ (Option Release)). get nat_cmp m c) over);
      count = omega (arith, before, live, count, len);
    }

-- no end is opened
pub declined_places : (old new : Connections) (conn : ℕ) → is_absent (place_of_connection old conn) ≡ true
    → new.live ≡ old.live → Whys new conn ≡ Some None → ((c : ℕ) → is_at (nat_cmp conn) c ≡ false → Whys new c ≡ Whys old c)
    → Places old new conn Declined
unfolding place_of_connection
declined_places old new conn absent live whys others =
    let none : Ends old conn ≡ None = none_live old conn absent in
    let ends : Ends new conn ≡ None = ap (λ (m : BTreeMap ℕ KEnd). get nat_cmp m conn) live ∙ none in
    let before : one_if (is_there (place_of_connection old conn)) ≡ 0 = ap (λ (o : Option KEnd). one_if (is_there (place_by_live_or_over o (Whys old conn)))) none ∙ not_there (Whys old conn) in
    let len : btree_map_len new.live ≡ btree_map_len old.live = ap (λ (m : BTreeMap ℕ KEnd). btree_map_len m) live in
    record {
      here = place_is new conn None (Some None) ends whys;
      others = λ c apart. same_place old new c (ap (λ (m : BTreeMap ℕ KEnd). get nat_cmp m c) live) (others c (apart_at conn c apart));
      count = omega (arith, before, len);
    }
  where
    not_there : (b : Option (Option Release)) → one_if (is_there (place_by_live_or_over None b)) ≡ 0
    not_there None = refl
    not_there (Some None) = refl
    not_there (Some (Some why)) = refl

-- nothing changes
pub same_places : (x y : Connections) (conn : ℕ) → y ≡ x → Places x y conn (place_of_connection x conn)
same_places x y conn e =
    let len : btree_map_len y.live ≡ btree_map_len x.live = ap (λ (z : Connections). btree_map_len z.live) e in
    record {
      here = ap (λ (z : Connections). place_of_connection z conn) e;
      others = λ c apart. ap (λ (z : Connections). place_of_connection z c) e;
      count = omega (arith, len);
    }

-- whether a number was named
pub absent_if : (x : Connections) (c : ℕ) → is_some (Ends x c) ≡ false → is_some (Whys x c) ≡ false → is_absent (place_of_connection x c) ≡ true
unfolding place_of_connection
absent_if x c p q = nothing (Ends x c) (Whys x c) p q
  where
    nothing : (a : Option KEnd) (b : Option (Option Release)) → is_some a ≡ false → is_some b ≡ false → is_absent (place_by_live_or_over a b) ≡ true
    nothing None None p q = refl
    nothing (Some k) b p q = absurd (let u : ⊥ = cc in u)
    nothing None (Some b) p q = absurd (let u : ⊥ = cc in u)

pub there_live : (x : Connections) (c : ℕ) → is_some (Ends x c) ≡ true → is_absent (place_of_connection x c) ≡ false
unfolding place_of_connection
there_live x c p = some (Ends x c) (Whys x c) p
  where
    some : (a : Option KEnd) (b : Option (Option Release)) → is_some a ≡ true → is_absent (place_by_live_or_over a b) ≡ false
    some None b p = absurd (let u : ⊥ = cc in u)
    some (Some k) b p = refl

pub there_over : (x : Connections) (c : ℕ) → is_some (Whys x c) ≡ true → is_absent (place_of_connection x c) ≡ false
unfolding place_of_connection
there_over x c p = some (Ends x c) (Whys x c) p
  where
    some : (a : Option KEnd) (b : Option (Option Release)) → is_some b ≡ true → is_absent (place_by_live_or_over a b) ≡ false
    some (Some k) b p = refl
    some None None p = absurd (let u : ⊥ = cc in u)
    some None (Some None) p = refl
    some None (Some (Some why)) p = refl
