-- A session joins those of a book: its number is above theirs, and its slot was empty.
use Rattle.er_end.specs.KeptEnds.{KEnd}
use Rattle.std.proofs.Common.{◌≡◌, ◌≢◌, ℕ, ◌-◌, ◌<◌, ◌≤◌, List, [], ◌∷◌, ◌++◌, Option, Some, None, refl, sym, ◌∙◌, ap, subst, arith}
use Rattle.std.specs.Ordering.{nat_cmp, match_ordering}
use Rattle.std.specs.Cmp.{nat_cmp_is}
use Rattle.std.specs.BTreeMap.{BTreeMap, insert_entry}
use Rattle.std.specs.declared.cmp.Ordering.TheVariants.{Greater}
use Rattle.slab.specs.Slab.{Slab, get, Updates}
use Rattle.loop_model.specs.Sessions.{Session}
use Rattle.readiness_loop.specs.Books.{seat, seats, sessions, sessions_at, IsSeat, IsApart, AreSeated}
use Rattle.readiness_loop.proofs.Seats.{OthersStay}

insert_last : (newest n k : ℕ) (slots : Slab (Session KEnd)) (es : List (ℕ × ℕ)) → AreSeated newest slots es → newest < n
    → insert_entry nat_cmp es n k ≡ es ++ (n, k) ∷ []
unfolding AreSeated
insert_last newest n k slots [] p q = refl
insert_last newest n k slots (e ∷ es) p q =
    let low : e.0 ≤ newest = p.0 in
    let above : Greater ≡ nat_cmp n e.0 = nat_cmp_is n e.0 Greater (omega (arith, low, q)) in
    subst (λ o. match_ordering o ((n, k) ∷ e ∷ es) ((e.0, k) ∷ es) (e ∷ insert_entry nat_cmp es n k) ≡ e ∷ (es ++ (n, k) ∷ [])) above
    (ap (λ z. e ∷ z) (insert_last newest n k slots es p.3 q))

seat_append : (o : Option (Session KEnd)) (xs ys : List (Session KEnd)) → seat o (xs ++ ys) ≡ seat o xs ++ ys
seat_append None xs ys = refl
seat_append (Some s) xs ys = refl

seats_last : (slots : Slab (Session KEnd)) (es : List (ℕ × ℕ)) (n k : ℕ) (s : Session KEnd) → get slots k ≡ Some s
    → sessions_at slots (es ++ (n, k) ∷ []) ≡ sessions_at slots es ++ s ∷ []
unfolding seats
seats_last slots [] n k s p = ap (λ z. seat z []) p
seats_last slots (e ∷ es) n k s p =
    ap (λ z. seat (get slots e.1) z) (seats_last slots es n k s p) ∙ seat_append (get slots e.1) (sessions_at slots es) (s ∷ [])

-- an empty slot is no place's
empty_apart : (newest k : ℕ) (slots : Slab (Session KEnd)) (es : List (ℕ × ℕ)) → AreSeated newest slots es → get slots k ≡ None → IsApart k es
unfolding AreSeated
empty_apart newest k slots [] p q = tt
empty_apart newest k slots (e ∷ es) p q = (λ same. subst (λ z. IsSeat e.0 z) (ap (get slots) same ∙ q) p.1, empty_apart newest k slots es p.3 q)

others_same : (slots now : Slab (Session KEnd)) (k : ℕ) (es : List (ℕ × ℕ)) → OthersStay slots now k → IsApart k es → sessions_at now es ≡ sessions_at slots es
unfolding seats
others_same slots now k [] h p = refl
others_same slots now k (e ∷ es) h p = rw (h e.1 p.0, others_same slots now k es h p.1) refl

apart_more : (j n k : ℕ) (es : List (ℕ × ℕ)) → IsApart j es → k ≢ j → IsApart j (es ++ (n, k) ∷ [])
apart_more j n k [] p q = (q, tt)
apart_more j n k (e ∷ es) p q = (p.0, apart_more j n k es p.1 q)

seated_more : (newest n k : ℕ) (slots now : Slab (Session KEnd)) (es : List (ℕ × ℕ)) (s : Session KEnd) → AreSeated newest slots es → IsApart k es → OthersStay slots now k
    → get now k ≡ Some s → s.number ≡ n → newest ≤ n → AreSeated n now (es ++ (n, k) ∷ [])
unfolding AreSeated
seated_more newest n k slots now [] s p free h at is low = (omega arith, subst (λ z. IsSeat n z) (sym at) is, tt, tt)
seated_more newest n k slots now (e ∷ es) s p free h at is low = (
  let under : e.0 ≤ newest = p.0 in omega (arith, under, low),
  subst (λ z. IsSeat e.0 z) (sym (h e.1 free.0)) p.1,
  apart_more e.1 n k es p.2 (λ same. free.0 (sym same)),
  seated_more newest n k slots now es s p.3 free.1 h at is low,
)

-- the slab had room made first, which changes no slot
same_slots : (slots mid : Slab (Session KEnd)) (room : ℕ) → mid ≡ record slots { capacity = room } → (j : ℕ) → get mid j ≡ get slots j
same_slots slots mid room p j = ap (λ (z : Slab (Session KEnd)). get z j) p

-- room was made, and nothing more: the sessions are as they were
room_seats : (slots : Slab (Session KEnd)) (room : ℕ) (es : List (ℕ × ℕ)) → sessions_at (record slots { capacity = room }) es ≡ sessions_at slots es
unfolding seats
room_seats slots room [] = refl
room_seats slots room (e ∷ es) = ap (λ z. seat (get slots e.1) z) (room_seats slots room es)

pub room_sessions : (room : ℕ) (slots mid : Slab (Session KEnd)) (places same : BTreeMap ℕ ℕ) → mid ≡ record slots { capacity = room } → same.entries ≡ places.entries
    → sessions mid same ≡ sessions slots places
room_sessions room slots mid places same m e = ap (λ z. sessions_at z same.entries) m ∙ ap (sessions_at (record slots { capacity = room })) e ∙ room_seats slots room places.entries

room_seated_by : (slots : Slab (Session KEnd)) (room low top : ℕ) (es : List (ℕ × ℕ)) → low ≤ top → AreSeated low slots es → AreSeated top (record slots { capacity = room }) es
unfolding AreSeated
room_seated_by slots room low top [] le p = tt
room_seated_by slots room low top (e ∷ es) le p = (let h : e.0 ≤ low = p.0 in omega (arith, h, le), p.1, p.2, room_seated_by slots room low top es le p.3)

pub room_seated : (room n : ℕ) (slots mid : Slab (Session KEnd)) (places same : BTreeMap ℕ ℕ) → mid ≡ record slots { capacity = room } → same.entries ≡ places.entries
    → AreSeated (n - 1) slots places.entries → AreSeated n mid same.entries
room_seated room n slots mid places same m e p =
    subst (λ z. AreSeated n z same.entries) (sym m)
    (subst (λ z. AreSeated n (record slots { capacity = room }) z) (sym e) (room_seated_by slots room (n - 1) n places.entries (omega arith) p))

pub add_sessions : (n k room : ℕ) (slots mid now : Slab (Session KEnd)) (places more : BTreeMap ℕ ℕ) (s : Session KEnd)
    → AreSeated (s.number - 1) slots places.entries → 0 < s.number → mid ≡ record slots { capacity = room } → get mid k ≡ None → Updates mid now k (Some s)
    → n ≡ s.number → more.entries ≡ insert_entry nat_cmp places.entries n k
    → sessions now more ≡ sessions slots places ++ s ∷ []
add_sessions n k room slots mid now places more s p pos m free u is e =
    let empty : get slots k ≡ None = sym (same_slots slots mid room m k) ∙ free in
    let stays : OthersStay slots now k = λ j away. u.others j away ∙ same_slots slots mid room m j in
    let apart = empty_apart (s.number - 1) k slots places.entries p empty in
    let low : s.number - 1 < n = omega (arith, pos, is) in
    ap (λ z. sessions_at now z) (e ∙ insert_last (s.number - 1) n k slots places.entries p low)
    ∙ seats_last now places.entries n k s u.changed
    ∙ ap (λ z. z ++ s ∷ []) (others_same slots now k places.entries stays apart)

pub add_seated : (n k room : ℕ) (slots mid now : Slab (Session KEnd)) (places more : BTreeMap ℕ ℕ) (s : Session KEnd)
    → AreSeated (s.number - 1) slots places.entries → 0 < s.number → mid ≡ record slots { capacity = room } → get mid k ≡ None → Updates mid now k (Some s)
    → n ≡ s.number → more.entries ≡ insert_entry nat_cmp places.entries n k
    → AreSeated s.number now more.entries
add_seated n k room slots mid now places more s p pos m free u is e =
    let empty : get slots k ≡ None = sym (same_slots slots mid room m k) ∙ free in
    let stays : OthersStay slots now k = λ j away. u.others j away ∙ same_slots slots mid room m j in
    let apart = empty_apart (s.number - 1) k slots places.entries p empty in
    let low : s.number - 1 < n = omega (arith, pos, is) in
    subst (λ z. AreSeated z now more.entries) is
    (subst (λ z. AreSeated n now z) (sym (e ∙ insert_last (s.number - 1) n k slots places.entries p low))
    (seated_more (s.number - 1) n k slots now places.entries s p apart stays u.changed (sym is) (omega (arith, low))))

-- where the slot is the next one
pub joined_sessions : (n k slot room : ℕ) (slots mid now : Slab (Session KEnd)) (places more : BTreeMap ℕ ℕ) (s : Session KEnd)
    → AreSeated (s.number - 1) slots places.entries → 0 < s.number → mid ≡ record slots { capacity = room } → slot ≡ k → get mid slot ≡ None → Updates mid now slot (Some s)
    → n ≡ s.number → more.entries ≡ insert_entry nat_cmp places.entries n k
    → sessions now more ≡ sessions slots places ++ s ∷ []
joined_sessions n k slot room slots mid now places more s p pos m is_k free u is e =
    add_sessions n k room slots mid now places more s p pos m (subst (λ z. get mid z ≡ None) is_k free) (subst (λ z. Updates mid now z (Some s)) is_k u) is e

pub joined_seated : (n k slot room : ℕ) (slots mid now : Slab (Session KEnd)) (places more : BTreeMap ℕ ℕ) (s : Session KEnd)
    → AreSeated (s.number - 1) slots places.entries → 0 < s.number → mid ≡ record slots { capacity = room } → slot ≡ k → get mid slot ≡ None → Updates mid now slot (Some s)
    → n ≡ s.number → more.entries ≡ insert_entry nat_cmp places.entries n k
    → AreSeated s.number now more.entries
joined_seated n k slot room slots mid now places more s p pos m is_k free u is e =
    add_seated n k room slots mid now places more s p pos m (subst (λ z. get mid z ≡ None) is_k free) (subst (λ z. Updates mid now z (Some s)) is_k u) is e
