-- The connections of a relay, of which the first is asked.
use Rattle.relay_model.specs.Laws.{ClosedStays}
use Rattle.std.proofs.Common.{◌≡◌, ◌≢◌, ◌⊎◌, ℕ, ◌<◌, ◌≤◌, List, [], ◌∷◌, ◌++◌, length, refl, sym, ap, ◌∙◌, subst, append_assoc, append-nil, inl, inr, arith, fold, Option, None, ◌+◌}
use Rattle.std.proofs.lemmas.List.Sums.{fold-append}
use Rattle.link_trait.specs.declared.wires.Conn.{Conn}
use Rattle.outside.specs.Acts.{Listened, Dialled, Turned, Read, Sent, Closed}
use Rattle.outside.specs.Doings.{Told}
use Rattle.relay_script.specs.declared.script.Script.{Script}
use Rattle.relay_loop.specs.declared.fault.RelayFault.{RelayFault}
use Rattle.relay_loop.specs.declared.link.Link.{Link}
use Rattle.relay_loop.specs.Connections.{Far, Nobody, Unreached, Reached, RelayedConnection, IsSideOf, IsSideAmong, IsSocketOf, IsSocketAmong, AreDialledFor}
use Rattle.relay_loop.specs.RelayDeeds.{RelayDeed, Puts, Flushes, Calls, Asks, AreOfVisit, IsOfVisit, IsLastDone, Steadily}
use Rattle.relay_loop.specs.Links.{IsSafe, HoldsLink, IsUntouched, IsUntold, Visits, BreaksVisit, KeepsLink, IsFinished, IsSettledOf, Stays, Leaves}
use Rattle.relay_loop.specs.Rings.{behind_deed, connections_in, far_conn, IsSafeConnection, AllSafe, IsOwnDeed, AreOwnDeeds, IsSettledAt, AllSettledAt, SettleAll, AreSafe, IsOpenLink, IsServed, AllServed, AllIdle, IsPairOf, IsKnown, AllKnown, Differs, AllDiffer, AllHold, AllBelow, IsLinkOf, Parted, ArePaired, HoldsRelay, IsOfNoLink, GoesWithin, BreaksGoing, IsLeftClosed, AllLeft, older_ones}
use Rattle.relay_loop.proofs.Deeds.{performs_none, performs_then, breaks_then, breaks_here, loop_calls_append, opening_more, steadily_then, steadily_first, steadily_last}
use Rattle.relay_loop.proofs.WayGoes.{rests_go}
use Rattle.relay_loop.proofs.LinkCalls.{link_goes}
use Rattle.relay_loop.proofs.Elsewhere.{visit_untouched, visit_untold, visit_same, visit_calls, visit_opens, untouched_append, untold_append, safe_on, connection_on, own_more, settle_more, settle_visit, finished_on, connections_on, left_on}
use Rattle.relay_loop.proofs.Tellings.{silent_still, stays_none, flags_on, knows_silent}
use Rattle.relay_loop.proofs.Finishing.{settled_link, settled_finished}

-- ---- lists of connections

pub differs_back : (a b : Link) → Differs a.number a.e.0 a.r.0 b → Differs b.number b.e.0 b.r.0 a
differs_back a b d = record {
  numbers = λ same. d.numbers (sym same);
  e_e = λ same. d.e_e (sym same);
  e_r = λ same. d.r_e (sym same);
  r_e = λ same. d.e_r (sym same);
  r_r = λ same. d.r_r (sym same);
}

pub all_differ_last : (number e r : ℕ) (links : List Link) (link : Link) → AllDiffer number e r links → Differs number e r link
    → AllDiffer number e r (links ++ link ∷ [])
all_differ_last number e r [] link all one = (one, tt)
all_differ_last number e r (m ∷ links) link all one = (all.0, all_differ_last number e r links link all.1 one)

-- a connection at whose sockets nothing was done, and of which nothing was told
link_on : (script : Script) (done deeds : List RelayDeed) (link : Link) → IsUntouched link.e.0 deeds → IsUntouched link.r.0 deeds → IsUntold link.number deeds
    → HoldsLink script done link → HoldsLink script (done ++ deeds) link
link_on script done deeds link at_e at_r untold h =
    link_goes script done deeds link link [] [] [] [] [] [] refl refl refl at_e.unread untold.of_e at_r.ungiven at_r.unread untold.of_r at_e.ungiven
    (rests_go script link.from_e) (rests_go script link.from_r) (safe_on script link.number link.e.0 link.r.0 done deeds at_e at_r untold h.safe)
    (flags_on done deeds link link refl refl (stays_none link.from_e) (stays_none link.from_r) h.flags) h

pub kept_on : (script : Script) (done deeds : List RelayDeed) (link : Link) → IsUntouched link.e.0 deeds → IsUntouched link.r.0 deeds → IsUntold link.number deeds
    → KeepsLink script done link → KeepsLink script (done ++ deeds) link
kept_on script done deeds link at_e at_r untold k = record {
  holds = link_on script done deeds link at_e at_r untold k.holds;
  knows = knows_silent done deeds link link refl refl at_e.silent at_r.silent (stays_none link.from_e) (stays_none link.from_r) k.knows;
  rests = record {
    e = rw (silent_still link.r.0 done deeds at_r.silent) k.rests.e;
    r = rw (silent_still link.e.0 done deeds at_e.silent) k.rests.r;
  };
}

-- these connections hold behind deeds of another
pub all_on : (script : Script) (done deeds : List RelayDeed) (first : Link) (links : List Link) → AreOfVisit first.number first.e.0 first.r.0 deeds
    → AllDiffer first.number first.e.0 first.r.0 links → AllHold script done links → AllHold script (done ++ deeds) links
all_on script done deeds first [] of_visit differ hold = tt
all_on script done deeds first (link ∷ links) of_visit differ hold =
    let back = differs_back first link differ.0 in (
      kept_on script done deeds link (visit_untouched first.number first.e.0 first.r.0 link.e.0 deeds of_visit back.e_e back.e_r)
          (visit_untouched first.number first.e.0 first.r.0 link.r.0 deeds of_visit back.r_e back.r_r)
          (visit_untold first.number first.e.0 first.r.0 link.number deeds of_visit back.numbers) hold.0,
      (hold.1.0, all_on script done deeds first links of_visit differ.1 hold.1.1),
    )

-- another stands last behind them
pub all_last : (script : Script) (done : List RelayDeed) (link : Link) (links : List Link) → KeepsLink script done link
    → AllDiffer link.number link.e.0 link.r.0 links → AllHold script done links → AllHold script done (links ++ link ∷ [])
all_last script done link [] one differ hold = (one, (tt, tt))
all_last script done link (m ∷ links) one differ hold = (
  hold.0,
  (all_differ_last m.number m.e.0 m.r.0 links link hold.1.0 (differs_back link m differ.0), all_last script done link links one differ.1 hold.1.1),
)

pub below_last : (bound count : ℕ) (link : Link) (links : List Link) → link.number ≤ count → link.e.0 ≤ bound → link.r.0 ≤ bound → AllBelow bound count links
    → AllBelow bound count (links ++ link ∷ [])
below_last bound count link [] number e r below = ((number, (e, r)), tt)
below_last bound count link (m ∷ links) number e r below = (below.0, below_last bound count link links number e r below.1)

pub parted_last : (number e : ℕ) (far : Far) (link : Link) (links : List Link) → IsLinkOf link number e far ⊎ Differs number e (far_conn e far) link
    → Parted number e far links → Parted number e far (links ++ link ∷ [])
parted_last number e far link [] one parted = (one, tt)
parted_last number e far link (m ∷ links) one parted = (parted.0, parted_last number e far link links one parted.1)

-- ---- the first connection, which stays, and stands last, or goes

-- it has the number and the sockets that it had
same_link : (old new : Link) (number e : ℕ) (far : Far) → new.number ≡ old.number → new.e ≡ old.e → new.r ≡ old.r → IsLinkOf old number e far → IsLinkOf new number e far
same_link old new number e Nobody same_n same_e same_r is = absurd is
same_link old new number e (Unreached address) same_n same_e same_r is = absurd is
same_link old new number e (Reached address r) same_n same_e same_r is =
    (same_n ∙ is.0, (ap (λ (c : Conn). c.0) same_e ∙ is.1.0, ap (λ (c : Conn). c.0) same_r ∙ is.1.1))

same_differs : (old new : Link) (number e r : ℕ) → new.number ≡ old.number → new.e ≡ old.e → new.r ≡ old.r → Differs number e r old → Differs number e r new
same_differs old new number e r same_n same_e same_r d = record {
  numbers = λ same. d.numbers (same ∙ same_n);
  e_e = λ same. d.e_e (same ∙ ap (λ (c : Conn). c.0) same_e);
  e_r = λ same. d.e_r (same ∙ ap (λ (c : Conn). c.0) same_r);
  r_e = λ same. d.r_e (same ∙ ap (λ (c : Conn). c.0) same_e);
  r_r = λ same. d.r_r (same ∙ ap (λ (c : Conn). c.0) same_r);
}

pub kept_link : (old new : Link) (number e : ℕ) (far : Far) → new.number ≡ old.number → new.e ≡ old.e → new.r ≡ old.r
    → IsLinkOf old number e far ⊎ Differs number e (far_conn e far) old → IsLinkOf new number e far ⊎ Differs number e (far_conn e far) new
kept_link old new number e far same_n same_e same_r (inl is) = inl (same_link old new number e far same_n same_e same_r is)
kept_link old new number e far same_n same_e same_r (inr d) = inr (same_differs old new number e (far_conn e far) same_n same_e same_r d)

pub pairs_rotate : (bound : ℕ) (first new : Link) (links : List Link) (connections : List RelayedConnection) → new.number ≡ first.number → new.e ≡ first.e
    → new.r ≡ first.r → ArePaired bound (first ∷ links) connections → ArePaired bound (links ++ new ∷ []) connections
pairs_rotate bound first new links [] same_n same_e same_r paired = tt
pairs_rotate bound first new links (one ∷ others) same_n same_e same_r paired = (
  record {
    below = paired.0.below;
    parted = parted_last one.number one.e one.r new links (kept_link first new one.number one.e one.r same_n same_e same_r paired.0.parted.0) paired.0.parted.1;
  },
  pairs_rotate bound first new links others same_n same_e same_r paired.1,
)

pub pairs_drop : (bound : ℕ) (first : Link) (links : List Link) (connections : List RelayedConnection) → ArePaired bound (first ∷ links) connections
    → ArePaired bound links connections
pairs_drop bound first links [] paired = tt
pairs_drop bound first links (one ∷ others) paired =
    (record { below = paired.0.below; parted = paired.0.parted.1 }, pairs_drop bound first links others paired.1)

-- ---- what is safe behind a visit

own_safe : (script : Script) (dial : List ℕ) (link : Link) (number e : ℕ) (far : Far) (done deeds : List RelayDeed) → IsLinkOf link number e far
    → IsSafe script link.number link.e.0 link.r.0 (done ++ deeds) → IsSafeConnection script dial done number e far → IsSafeConnection script dial (done ++ deeds) number e far
own_safe script dial link number e Nobody done deeds is safe before = absurd is
own_safe script dial link number e (Unreached address) done deeds is safe before = absurd is
own_safe script dial link number e (Reached address r) done deeds is safe before = (
  before.0,
  (
    opening_more number done deeds before.1.0,
    subst (λ (n : ℕ). IsSafe script n e r (done ++ deeds)) is.0
        (subst (λ (k : ℕ). IsSafe script link.number k r (done ++ deeds)) is.1.0 (subst (λ (k : ℕ). IsSafe script link.number link.e.0 k (done ++ deeds)) is.1.1 safe)),
  ),
)

one_safe : (script : Script) (dial : List ℕ) (link : Link) (number e : ℕ) (far : Far) (done deeds : List RelayDeed) → AreOfVisit link.number link.e.0 link.r.0 deeds
    → IsSafe script link.number link.e.0 link.r.0 (done ++ deeds) → IsLinkOf link number e far ⊎ Differs number e (far_conn e far) link
    → IsSafeConnection script dial done number e far → IsSafeConnection script dial (done ++ deeds) number e far
one_safe script dial link number e far done deeds of_visit safe (inl is) before = own_safe script dial link number e far done deeds is safe before
one_safe script dial link number e far done deeds of_visit safe (inr d) before =
    connection_on script dial number e far done deeds (visit_untouched link.number link.e.0 link.r.0 e deeds of_visit d.e_e d.e_r)
    (visit_untouched link.number link.e.0 link.r.0 (far_conn e far) deeds of_visit d.r_e d.r_r)
    (visit_untold link.number link.e.0 link.r.0 number deeds of_visit d.numbers) before

pub all_safe : (script : Script) (dial : List ℕ) (bound : ℕ) (link : Link) (links : List Link) (connections : List RelayedConnection) (done deeds : List RelayDeed)
    → AreOfVisit link.number link.e.0 link.r.0 deeds → IsSafe script link.number link.e.0 link.r.0 (done ++ deeds) → ArePaired bound (link ∷ links) connections
    → AllSafe script dial done connections → AllSafe script dial (done ++ deeds) connections
all_safe script dial bound link links [] done deeds of_visit safe paired before = tt
all_safe script dial bound link links (one ∷ others) done deeds of_visit safe paired before = (
  one_safe script dial link one.number one.e one.r done deeds of_visit safe paired.0.parted.0 before.0,
  all_safe script dial bound link links others done deeds of_visit safe paired.1 before.1,
)

pub are_safe : (script : Script) (dial : List ℕ) (done : List RelayDeed) (connections : List RelayedConnection) → connections_in done ≡ connections
    → AllSafe script dial done connections → AreOwnDeeds dial [] done → SettleAll script [] done → AreSafe script dial done
are_safe script dial done connections is safe own waits =
    record { all = subst (λ (c : List RelayedConnection). AllSafe script dial done c) (sym is) safe; own = own; waits = waits }

-- ---- calls of a visit belong to its connection

side_of_pair : (e r conn at : ℕ) (far : Far) → (conn ≡ e) ⊎ (conn ≡ r) → IsPairOf e r at far → IsSideOf conn at far
side_of_pair e r conn at Nobody is pair = absurd pair
side_of_pair e r conn at (Unreached address) is pair = absurd pair
side_of_pair e r conn at (Reached address far) (inl is) pair = inl (is ∙ sym pair.0)
side_of_pair e r conn at (Reached address far) (inr is) pair = inr (is ∙ sym pair.1)

side_among : (e r conn : ℕ) (connections : List RelayedConnection) → (conn ≡ e) ⊎ (conn ≡ r) → IsKnown e r connections → IsSideAmong conn connections
side_among e r conn [] is known = absurd known
side_among e r conn (one ∷ others) is (inl pair) = inl (side_of_pair e r conn one.e one.r is pair)
side_among e r conn (one ∷ others) is (inr known) = inr (side_among e r conn others is known)

socket_of_side : (conn e : ℕ) (far : Far) → IsSideOf conn e far → IsSocketOf conn e far
socket_of_side conn e Nobody side = absurd side
socket_of_side conn e (Unreached address) side = absurd side
socket_of_side conn e (Reached address r) side = side

socket_among : (conn : ℕ) (connections : List RelayedConnection) → IsSideAmong conn connections → IsSocketAmong conn connections
socket_among conn [] side = absurd side
socket_among conn (one ∷ others) (inl side) = inl (socket_of_side conn one.e one.r side)
socket_among conn (one ∷ others) (inr side) = inr (socket_among conn others side)

own_visit : (dial : List ℕ) (number e r : ℕ) (connections : List RelayedConnection) (deed : RelayDeed) → IsKnown e r connections → IsOfVisit number e r deed
    → IsOwnDeed dial connections deed
own_visit dial number e r connections (Puts line) known of_visit = tt
own_visit dial number e r connections Flushes known of_visit = tt
own_visit dial number e r connections (Calls (Listened address listens)) known of_visit = absurd of_visit
own_visit dial number e r connections (Calls (Dialled address to)) known of_visit = absurd of_visit
own_visit dial number e r connections (Calls (Turned until what)) known of_visit = absurd of_visit
own_visit dial number e r connections (Calls (Read at size reading)) known of_visit = side_among e r at connections of_visit known
own_visit dial number e r connections (Calls (Sent at piece answer)) known of_visit = side_among e r at connections of_visit known
own_visit dial number e r connections (Calls (Closed at)) known of_visit = socket_among at connections (side_among e r at connections of_visit known)
own_visit dial number e r connections (Asks moment) known of_visit = absurd of_visit

-- ---- connections that are known

pub known_behind : (newest : RelayedConnection) (connections : List RelayedConnection) (links : List Link) → AllKnown connections links
    → AllKnown (newest ∷ connections) links
known_behind newest connections [] known = tt
known_behind newest connections (link ∷ links) known = (inr known.0, known_behind newest connections links known.1)

pub known_last : (connections : List RelayedConnection) (link : Link) (links : List Link) → IsKnown link.e.0 link.r.0 connections → AllKnown connections links
    → AllKnown connections (links ++ link ∷ [])
known_last connections link [] one known = (one, tt)
known_last connections link (m ∷ links) one known = (known.0, known_last connections link links one known.1)

-- each moment of a visit is safe for all connections
pub visit_steady : (script : Script) (dial : List ℕ) (bound : ℕ) (link : Link) (links : List Link) (connections : List RelayedConnection) (done deeds : List RelayDeed)
    → AreOfVisit link.number link.e.0 link.r.0 deeds → Steadily (IsSafe script link.number link.e.0 link.r.0) done deeds → ArePaired bound (link ∷ links) connections
    → IsKnown link.e.0 link.r.0 connections → connections_in done ≡ connections → AllSafe script dial done connections → AreOwnDeeds dial [] done
    → SettleAll script [] done → Steadily (AreSafe script dial) done deeds
visit_steady script dial bound link links connections done [] of_visit steady paired known is safe own waits =
    are_safe script dial done connections is safe own waits
visit_steady script dial bound link links connections done (deed ∷ deeds) of_visit steady paired known is safe own waits =
    let next : AllSafe script dial (done ++ deed ∷ []) connections =
    all_safe script dial bound link links connections done (deed ∷ []) (of_visit.0, tt)
    (steadily_first (IsSafe script link.number link.e.0 link.r.0) (done ++ deed ∷ []) deeds steady.1) paired safe in
    let same : connections_in (done ++ deed ∷ []) ≡ connections =
    connections_on done (deed ∷ []) (visit_same link.number link.e.0 link.r.0 (deed ∷ []) (of_visit.0, tt)) ∙ is in
    let belongs : IsOwnDeed dial (connections_in done) deed =
    subst (λ (c : List RelayedConnection). IsOwnDeed dial c deed) (sym is) (own_visit dial link.number link.e.0 link.r.0 connections deed known of_visit.0) in (
      are_safe script dial done connections is safe own waits,
      visit_steady script dial bound link links connections (done ++ deed ∷ []) deeds of_visit.1 steady.1 paired known same next (own_more dial done deed own belongs)
          (settle_more script done deed waits (settle_visit script link.number link.e.0 link.r.0 done deed of_visit.0)),
    )

-- ---- connections that are served

open_front : (number e : ℕ) (far : Far) (links : List Link) (link : Link) → IsOpenLink number e far links → IsOpenLink number e far (links ++ link ∷ [])
open_front number e far [] link open_here = absurd open_here
open_front number e far (m ∷ links) link (inl is) = inl is
open_front number e far (m ∷ links) link (inr open_here) = inr (open_front number e far links link open_here)

pub open_end : (number e : ℕ) (far : Far) (links : List Link) (link : Link) → IsLinkOf link number e far → IsOpenLink number e far (links ++ link ∷ [])
open_end number e far [] link is = inl is
open_end number e far (m ∷ links) link is = inr (open_end number e far links link is)

-- the first stays, and stands last
one_rotates : (script : Script) (first new : Link) (links : List Link) (done deeds : List RelayDeed) (number e r : ℕ) (address : List ℕ)
    → AreOfVisit first.number first.e.0 first.r.0 deeds → (IsLinkOf first number e (Reached address r) → IsLinkOf new number e (Reached address r))
    → IsLinkOf first number e (Reached address r) ⊎ Differs number e r first
    → IsOpenLink number e (Reached address r) (first ∷ links) ⊎ IsFinished script e r done
    → IsOpenLink number e (Reached address r) (links ++ new ∷ []) ⊎ IsFinished script e r (done ++ deeds)
one_rotates script first new links done deeds number e r address of_visit same parted (inl (inl is)) = inl (open_end number e (Reached address r) links new (same is))
one_rotates script first new links done deeds number e r address of_visit same parted (inl (inr open_here)) =
    inl (open_front number e (Reached address r) links new open_here)
one_rotates script first new links done deeds number e r address of_visit same (inl is) (inr f) = inl (open_end number e (Reached address r) links new (same is))
one_rotates script first new links done deeds number e r address of_visit same (inr d) (inr f) =
    inr (finished_on script e r done deeds (visit_untouched first.number first.e.0 first.r.0 e deeds of_visit d.e_e d.e_r)
    (visit_untouched first.number first.e.0 first.r.0 r deeds of_visit d.r_e d.r_r) f)

one_served : (script : Script) (first new : Link) (links : List Link) (done deeds : List RelayDeed) (number e : ℕ) (far : Far)
    → AreOfVisit first.number first.e.0 first.r.0 deeds → ((f : Far) → IsLinkOf first number e f → IsLinkOf new number e f)
    → IsLinkOf first number e far ⊎ Differs number e (far_conn e far) first → IsServed script done (first ∷ links) number e far
    → IsServed script (done ++ deeds) (links ++ new ∷ []) number e far
one_served script first new links done deeds number e Nobody of_visit same parted served = tt
one_served script first new links done deeds number e (Unreached address) of_visit same parted served = tt
one_served script first new links done deeds number e (Reached address r) of_visit same parted served =
    one_rotates script first new links done deeds number e r address of_visit (same (Reached address r)) parted served

served_rotates : (script : Script) (bound : ℕ) (first new : Link) (links : List Link) (done deeds : List RelayDeed) (connections : List RelayedConnection)
    → AreOfVisit first.number first.e.0 first.r.0 deeds → new.number ≡ first.number → new.e ≡ first.e → new.r ≡ first.r
    → ArePaired bound (first ∷ links) connections → AllServed script done (first ∷ links) connections
    → AllServed script (done ++ deeds) (links ++ new ∷ []) connections
served_rotates script bound first new links done deeds [] of_visit same_n same_e same_r paired served = tt
served_rotates script bound first new links done deeds (one ∷ others) of_visit same_n same_e same_r paired served = (
  one_served script first new links done deeds one.number one.e one.r of_visit (λ far. same_link first new one.number one.e far same_n same_e same_r)
      paired.0.parted.0 served.0,
  served_rotates script bound first new links done deeds others of_visit same_n same_e same_r paired.1 served.1,
)

-- the first goes
one_drops : (script : Script) (first : Link) (links : List Link) (done deeds : List RelayDeed) (number e r : ℕ) (address : List ℕ)
    → AreOfVisit first.number first.e.0 first.r.0 deeds → IsFinished script first.e.0 first.r.0 (done ++ deeds)
    → IsLinkOf first number e (Reached address r) ⊎ Differs number e r first
    → IsOpenLink number e (Reached address r) (first ∷ links) ⊎ IsFinished script e r done
    → IsOpenLink number e (Reached address r) links ⊎ IsFinished script e r (done ++ deeds)
one_drops script first links done deeds number e r address of_visit finished parted (inl (inl is)) =
    inr (subst (λ (k : ℕ). IsFinished script k r (done ++ deeds)) is.1.0 (subst (λ (k : ℕ). IsFinished script first.e.0 k (done ++ deeds)) is.1.1 finished))
one_drops script first links done deeds number e r address of_visit finished parted (inl (inr open_here)) = inl open_here
one_drops script first links done deeds number e r address of_visit finished (inl is) (inr f) =
    inr (subst (λ (k : ℕ). IsFinished script k r (done ++ deeds)) is.1.0 (subst (λ (k : ℕ). IsFinished script first.e.0 k (done ++ deeds)) is.1.1 finished))
one_drops script first links done deeds number e r address of_visit finished (inr d) (inr f) =
    inr (finished_on script e r done deeds (visit_untouched first.number first.e.0 first.r.0 e deeds of_visit d.e_e d.e_r)
    (visit_untouched first.number first.e.0 first.r.0 r deeds of_visit d.r_e d.r_r) f)

one_gone : (script : Script) (first : Link) (links : List Link) (done deeds : List RelayDeed) (number e : ℕ) (far : Far)
    → AreOfVisit first.number first.e.0 first.r.0 deeds → IsFinished script first.e.0 first.r.0 (done ++ deeds)
    → IsLinkOf first number e far ⊎ Differs number e (far_conn e far) first → IsServed script done (first ∷ links) number e far
    → IsServed script (done ++ deeds) links number e far
one_gone script first links done deeds number e Nobody of_visit finished parted served = tt
one_gone script first links done deeds number e (Unreached address) of_visit finished parted served = tt
one_gone script first links done deeds number e (Reached address r) of_visit finished parted served =
    one_drops script first links done deeds number e r address of_visit finished parted served

served_drops : (script : Script) (bound : ℕ) (first : Link) (links : List Link) (done deeds : List RelayDeed) (connections : List RelayedConnection)
    → AreOfVisit first.number first.e.0 first.r.0 deeds → IsFinished script first.e.0 first.r.0 (done ++ deeds) → ArePaired bound (first ∷ links) connections
    → AllServed script done (first ∷ links) connections → AllServed script (done ++ deeds) links connections
served_drops script bound first links done deeds [] of_visit finished paired served = tt
served_drops script bound first links done deeds (one ∷ others) of_visit finished paired served = (
  one_gone script first links done deeds one.number one.e one.r of_visit finished paired.0.parted.0 served.0,
  served_drops script bound first links done deeds others of_visit finished paired.1 served.1,
)

-- deeds at no socket of it
one_stays : (script : Script) (links : List Link) (done deeds : List RelayDeed) (number e : ℕ) (far : Far) → IsUntouched e deeds → IsUntouched (far_conn e far) deeds
    → IsServed script done links number e far → IsServed script (done ++ deeds) links number e far
one_stays script links done deeds number e Nobody at_e at_r served = tt
one_stays script links done deeds number e (Unreached address) at_e at_r served = tt
one_stays script links done deeds number e (Reached address r) at_e at_r (inl open_here) = inl open_here
one_stays script links done deeds number e (Reached address r) at_e at_r (inr f) = inr (finished_on script e r done deeds at_e at_r f)

pub served_stays : (script : Script) (links : List Link) (done deeds : List RelayDeed) (connections : List RelayedConnection)
    → ((one : RelayedConnection) → IsUntouched one.e deeds) → ((one : RelayedConnection) → IsUntouched (far_conn one.e one.r) deeds)
    → AllServed script done links connections → AllServed script (done ++ deeds) links connections
served_stays script links done deeds [] at_e at_r served = tt
served_stays script links done deeds (one ∷ others) at_e at_r served =
    (one_stays script links done deeds one.number one.e one.r (at_e one) (at_r one) served.0, served_stays script links done deeds others at_e at_r served.1)

pub served_one : (script : Script) (links : List Link) (done deeds : List RelayDeed) (number e : ℕ) (far : Far) → IsUntouched e deeds
    → IsUntouched (far_conn e far) deeds → IsServed script done links number e far → IsServed script (done ++ deeds) links number e far
served_one script links done deeds number e far at_e at_r served = one_stays script links done deeds number e far at_e at_r served

one_last : (script : Script) (links : List Link) (link : Link) (done : List RelayDeed) (number e : ℕ) (far : Far) → IsServed script done links number e far
    → IsServed script done (links ++ link ∷ []) number e far
one_last script links link done number e Nobody served = tt
one_last script links link done number e (Unreached address) served = tt
one_last script links link done number e (Reached address r) (inl open_here) = inl (open_front number e (Reached address r) links link open_here)
one_last script links link done number e (Reached address r) (inr f) = inr f

pub served_last : (script : Script) (links : List Link) (link : Link) (done : List RelayDeed) (connections : List RelayedConnection)
    → AllServed script done links connections → AllServed script done (links ++ link ∷ []) connections
served_last script links link done [] served = tt
served_last script links link done (one ∷ others) served =
    (one_last script links link done one.number one.e one.r served.0, served_last script links link done others served.1)

-- ---- what is settled at a wait

link_settled : (script : Script) (until : Option ℕ) (done : List RelayDeed) (link : Link) (number e r : ℕ) (address : List ℕ)
    → IsLinkOf link number e (Reached address r) → IsSettledOf script until done link.e.0 link.r.0 → IsSettledOf script until done e r
link_settled script until done link number e r address is h =
    subst (λ (k : ℕ). IsSettledOf script until done k r) is.1.0 (subst (λ (k : ℕ). IsSettledOf script until done link.e.0 k) is.1.1 h)

open_settled : ClosedStays → (script : Script) (until : Option ℕ) (done : List RelayDeed) (links : List Link) (number e r : ℕ) (address : List ℕ)
    → AllHold script done links → (until ≡ None → AllIdle links) → IsOpenLink number e (Reached address r) links → IsSettledOf script until done e r
open_settled stays script until done [] number e r address hold idle open_here = absurd open_here
open_settled stays script until done (link ∷ links) number e r address hold idle (inl is) =
    link_settled script until done link number e r address is (settled_link stays script until done link hold.0 (λ none. (idle none).0))
open_settled stays script until done (link ∷ links) number e r address hold idle (inr open_here) =
    open_settled stays script until done links number e r address hold.1.1 (λ none. (idle none).1) open_here

one_settled : ClosedStays → (script : Script) (until : Option ℕ) (done : List RelayDeed) (links : List Link) (number e : ℕ) (far : Far) → AllHold script done links
    → (until ≡ None → AllIdle links) → IsLeftClosed done e far → IsServed script done links number e far → IsSettledAt script until done e far
one_settled stays script until done links number e Nobody hold idle left served = left
one_settled stays script until done links number e (Unreached address) hold idle left served = left
one_settled stays script until done links number e (Reached address r) hold idle left (inl open_here) =
    open_settled stays script until done links number e r address hold idle open_here
one_settled stays script until done links number e (Reached address r) hold idle left (inr f) = settled_finished script until done e r f

all_settled : ClosedStays → (script : Script) (until : Option ℕ) (done : List RelayDeed) (links : List Link) (connections : List RelayedConnection)
    → AllHold script done links → (until ≡ None → AllIdle links) → AllLeft done connections → AllServed script done links connections
    → AllSettledAt script until done connections
all_settled stays script until done links [] hold idle left served = tt
all_settled stays script until done links (one ∷ others) hold idle left served = (
  one_settled stays script until done links one.number one.e one.r hold idle left.0 served.0,
  all_settled stays script until done links others hold idle left.1 served.1,
)

pub relay_settled : ClosedStays → (script : Script) (dial : List ℕ) (until : Option ℕ) (done : List RelayDeed) (bound : ℕ) (links : List Link)
    → (until ≡ None → AllIdle links) → AllLeft done (connections_in done) → AreDialledFor (connections_in done) → HoldsRelay script dial done bound links
    → AllSettledAt script until done (connections_in done) × AreDialledFor (connections_in done)
relay_settled stays script dial until done bound links idle left dialled h =
    (all_settled stays script until done links (connections_in done) h.hold idle left h.served, dialled)

-- ---- a visit of the first

pub above : (bound conn at : ℕ) → bound < conn → at ≤ bound → conn ≢ at
above bound conn at more less same = let q : ⊥ = omega (arith, more, less, same) in q

pub fresh_on : (script : Script) (dial : List ℕ) (done deeds : List RelayDeed) (bound : ℕ) (first : Link) (links : List Link)
    → AreOfVisit first.number first.e.0 first.r.0 deeds → HoldsRelay script dial done bound (first ∷ links) → (conn : ℕ) → bound < conn → IsUntouched conn (done ++ deeds)
fresh_on script dial done deeds bound first links of_visit h conn more =
    untouched_append conn done deeds (h.fresh conn more)
    (visit_untouched first.number first.e.0 first.r.0 conn deeds of_visit (above bound conn first.e.0 more h.below.0.1.0) (above bound conn first.r.0 more h.below.0.1.1))

pub untold_on : (script : Script) (dial : List ℕ) (done deeds : List RelayDeed) (bound : ℕ) (first : Link) (links : List Link)
    → AreOfVisit first.number first.e.0 first.r.0 deeds → HoldsRelay script dial done bound (first ∷ links) → (number : ℕ) → length (connections_in done) < number
    → IsUntold number (done ++ deeds)
untold_on script dial done deeds bound first links of_visit h number more =
    untold_append number done deeds (h.untold number more)
    (visit_untold first.number first.e.0 first.r.0 number deeds of_visit (above (length (connections_in done)) number first.number more h.below.0.0))

steady_of_visit : (script : Script) (dial : List ℕ) (first : Link) (links : List Link) (done deeds : List RelayDeed) (bound : ℕ)
    → AreOfVisit first.number first.e.0 first.r.0 deeds → Steadily (IsSafe script first.number first.e.0 first.r.0) done deeds
    → HoldsRelay script dial done bound (first ∷ links) → Steadily (AreSafe script dial) done deeds
steady_of_visit script dial first links done deeds bound of_visit steady h =
    visit_steady script dial bound first links (connections_in done) done deeds of_visit steady h.paired h.known.0 refl h.safe.all h.safe.own h.safe.waits

pub visited : (script : Script) (dial : List ℕ) (done deeds : List RelayDeed) (bound : ℕ) (first : Link) (links last : List Link)
    → AreOfVisit first.number first.e.0 first.r.0 deeds → Steadily (IsSafe script first.number first.e.0 first.r.0) done deeds → AllHold script (done ++ deeds) last
    → AllBelow bound (length (connections_in done)) last → ArePaired bound last (connections_in done) → AllKnown (connections_in done) last
    → AllServed script (done ++ deeds) last (connections_in done) → length last ≤ length links + 1 → HoldsRelay script dial done bound (first ∷ links)
    → HoldsRelay script dial (done ++ deeds) bound last
visited script dial done deeds bound first links last of_visit steady hold below paired known served few h =
    let same : connections_in (done ++ deeds) ≡ connections_in done = connections_on done deeds (visit_same first.number first.e.0 first.r.0 deeds of_visit) in
    record {
      hold = hold;
      below = rw same below;
      fresh = fresh_on script dial done deeds bound first links of_visit h;
      untold = rw same (untold_on script dial done deeds bound first links of_visit h);
      in_order = rw same h.in_order;
      paired = rw same paired;
      known = rw same known;
      served = rw same served;
      left = rw same (left_on done deeds (older_ones (connections_in done)) h.left);
      dialled = rw same h.dialled;
      crowd = rw same (omega (arith, few, h.crowd));
      safe = steadily_last (AreSafe script dial) done deeds (steady_of_visit script dial first links done deeds bound of_visit steady h);
    }

pub length_last : (links : List Link) (link : Link) → length (links ++ link ∷ []) ≤ length links + 1
length_last [] link = omega arith
length_last (m ∷ links) link = let few = length_last links link in omega (arith, few)

pub rotates : (script : Script) (dial : List ℕ) (done : List RelayDeed) (bound : ℕ) (first new : Link) (links : List Link) (waiting left : List ℕ) (before now : Told)
    (p : Stays script first new waiting left before now) → HoldsRelay script dial done bound (first ∷ links)
    → HoldsRelay script dial (done ++ p.visits.deeds) bound (links ++ new ∷ [])
rotates script dial done bound first new links waiting left before now p h =
    let v = p.visits in
    let differ : AllDiffer new.number new.e.0 new.r.0 links = rw (v.number, v.e, v.r) h.hold.1.0 in
    visited script dial done v.deeds bound first links (links ++ new ∷ []) v.only (v.steady done h.hold.0.holds)
    (all_last script (done ++ v.deeds) new links (p.keeps done h.hold.0) differ (all_on script done v.deeds first links v.only h.hold.1.0 h.hold.1.1))
    (below_last bound (length (connections_in done)) new links (rw v.number h.below.0.0) (rw v.e h.below.0.1.0) (rw v.r h.below.0.1.1) h.below.1)
    (pairs_rotate bound first new links (connections_in done) v.number v.e v.r h.paired)
    (known_last (connections_in done) new links (rw (v.e, v.r) h.known.0) h.known.1)
    (served_rotates script bound first new links done v.deeds (connections_in done) v.only v.number v.e v.r h.paired h.served) (length_last links new) h

pub drops : (script : Script) (dial : List ℕ) (done : List RelayDeed) (bound : ℕ) (first new : Link) (links : List Link) (waiting left : List ℕ) (before now : Told)
    (p : Leaves script first new waiting left before now) → HoldsRelay script dial done bound (first ∷ links)
    → HoldsRelay script dial (done ++ p.visits.deeds) bound links
drops script dial done bound first new links waiting left before now p h =
    let v = p.visits in
    visited script dial done v.deeds bound first links links v.only (v.steady done h.hold.0.holds)
    (all_on script done v.deeds first links v.only h.hold.1.0 h.hold.1.1) h.below.1 (pairs_drop bound first links (connections_in done) h.paired) h.known.1
    (served_drops script bound first links done v.deeds (connections_in done) v.only (p.finishes done h.hold.0) h.paired h.served) (omega arith) h

visit_opened : (script : Script) (first new : Link) (waiting left : List ℕ) (before now : Told) (v : Visits script first new waiting left before now)
    → now.wires.opened ≡ before.wires.opened
visit_opened script first new waiting left before now v =
    v.performs.did.wires.opened ∙ visit_opens first.number first.e.0 first.r.0 waiting v.deeds v.only before.wires.opened

apart_last : (conn : ℕ) (link : Link) (links : List Link) → (conn ≢ link.e.0) × (conn ≢ link.r.0) → IsOfNoLink conn links → IsOfNoLink conn (links ++ link ∷ [])
apart_last conn link [] one apart = (one, tt)
apart_last conn link (m ∷ links) one apart = (apart.0, apart_last conn link links one apart.1)

apart_on : (script : Script) (first new : Link) (links : List Link) (waiting left : List ℕ) (before now : Told) (v : Visits script first new waiting left before now)
    (conn : ℕ) → IsOfNoLink conn (first ∷ links) → IsUntouched conn v.deeds × IsOfNoLink conn (links ++ new ∷ [])
apart_on script first new links waiting left before now v conn h = (
  visit_untouched first.number first.e.0 first.r.0 conn v.deeds v.only h.0.0 h.0.1,
  apart_last conn new links (rw v.e h.0.0, rw v.r h.0.1) h.1,
)

pub goes_on : (script : Script) (dial : List ℕ) (first new : Link) (links all last : List Link) (waiting left : List ℕ) (before now : Told) → all ≡ first ∷ links
    → last ≡ links ++ new ∷ [] → Stays script first new waiting left before now → GoesWithin script dial all last waiting left before now
goes_on script dial first new links all last waiting left before now is_all is_last p = record {
  deeds = p.visits.deeds;
  performs = p.visits.performs;
  calls_are = visit_calls first.number first.e.0 first.r.0 p.visits.deeds p.visits.only;
  opened = visit_opened script first new waiting left before now p.visits;
  same = visit_same first.number first.e.0 first.r.0 p.visits.deeds p.visits.only;
  apart = λ conn h. rw is_last (apart_on script first new links waiting left before now p.visits conn (subst (λ (a : List Link). IsOfNoLink conn a) is_all h));
  holds = λ done bound h.
      rw is_last
      (rotates script dial done bound first new links waiting left before now p (subst (λ (a : List Link). HoldsRelay script dial done bound a) is_all h));
  steady = λ done bound h.
      let g = subst (λ (a : List Link). HoldsRelay script dial done bound a) is_all h in
      steady_of_visit script dial first links done p.visits.deeds bound p.visits.only (p.visits.steady done g.hold.0.holds) g;
}

pub goes_off : (script : Script) (dial : List ℕ) (first new : Link) (links all last : List Link) (waiting left : List ℕ) (before now : Told) → all ≡ first ∷ links
    → last ≡ links → Leaves script first new waiting left before now → GoesWithin script dial all last waiting left before now
goes_off script dial first new links all last waiting left before now is_all is_last p = record {
  deeds = p.visits.deeds;
  performs = p.visits.performs;
  calls_are = visit_calls first.number first.e.0 first.r.0 p.visits.deeds p.visits.only;
  opened = visit_opened script first new waiting left before now p.visits;
  same = visit_same first.number first.e.0 first.r.0 p.visits.deeds p.visits.only;
  apart = λ conn h.
      let g = subst (λ (a : List Link). IsOfNoLink conn a) is_all h in
      (visit_untouched first.number first.e.0 first.r.0 conn p.visits.deeds p.visits.only g.0.0 g.0.1, rw is_last g.1);
  holds = λ done bound h.
      rw is_last (drops script dial done bound first new links waiting left before now p (subst (λ (a : List Link). HoldsRelay script dial done bound a) is_all h));
  steady = λ done bound h.
      let g = subst (λ (a : List Link). HoldsRelay script dial done bound a) is_all h in
      steady_of_visit script dial first links done p.visits.deeds bound p.visits.only (p.visits.steady done g.hold.0.holds) g;
}

pub goes_broken : (fault : RelayFault) (script : Script) (dial : List ℕ) (first : Link) (links all : List Link) (waiting : List ℕ) (before now : Told)
    → all ≡ first ∷ links → BreaksVisit fault script first waiting before now → BreaksGoing fault script dial all waiting before now
goes_broken fault script dial first links all waiting before now is_all v = record {
  deeds = v.deeds;
  breaks = v.breaks;
  calls_are = visit_calls first.number first.e.0 first.r.0 v.deeds v.only;
  steady = λ done bound h.
      let g = subst (λ (a : List Link). HoldsRelay script dial done bound a) is_all h in
      steady_of_visit script dial first links done v.deeds bound v.only (v.steady done g.hold.0.holds) g;
}

-- ---- one after the other

pub goes_none : (script : Script) (dial : List ℕ) (links : List Link) (waiting : List ℕ) (t : Told) → GoesWithin script dial links links waiting waiting t t
goes_none script dial links waiting t = record {
  deeds = [];
  performs = performs_none waiting t;
  calls_are = refl;
  opened = refl;
  same = λ before. refl;
  apart = λ conn h. (record { unread = refl; ungiven = refl; unclosed = refl; silent = λ t. refl }, h);
  holds = λ done bound h. subst (λ (d : List RelayDeed). HoldsRelay script dial d bound links) (sym (append-nil done)) h;
  steady = λ done bound h. h.safe;
}

pub goes_then : (script : Script) (dial : List ℕ) (a b c : List Link) (u v w : List ℕ) (s t x : Told) → GoesWithin script dial a b u v s t → GoesWithin script dial b c v w t x
    → GoesWithin script dial a c u w s x
goes_then script dial a b c u v w s t x p q = record {
  deeds = p.deeds ++ q.deeds;
  performs = performs_then u v w s t x p.deeds q.deeds p.performs q.performs;
  calls_are = loop_calls_append p.deeds q.deeds [] [] p.calls_are q.calls_are;
  opened = q.opened ∙ p.opened;
  same = λ before. fold-append behind_deed before p.deeds q.deeds ∙ q.same (fold behind_deed before p.deeds) ∙ p.same before;
  apart = λ conn h.
      let first = p.apart conn h in
      let second = q.apart conn first.1 in
      (untouched_append conn p.deeds q.deeds first.0 second.0, second.1);
  holds = λ done bound h.
      subst (λ (d : List RelayDeed). HoldsRelay script dial d bound c) (append_assoc done p.deeds q.deeds) (q.holds (done ++ p.deeds) bound (p.holds done bound h));
  steady = λ done bound h.
      steadily_then (AreSafe script dial) done p.deeds q.deeds (p.steady done bound h) (q.steady (done ++ p.deeds) bound (p.holds done bound h));
}

pub goes_breaks : (fault : RelayFault) (script : Script) (dial : List ℕ) (a b : List Link) (u v : List ℕ) (s t x : Told) → GoesWithin script dial a b u v s t
    → BreaksGoing fault script dial b v t x → BreaksGoing fault script dial a u s x
goes_breaks fault script dial a b u v s t x p q = record {
  deeds = p.deeds ++ q.deeds;
  breaks = breaks_then fault u v s t x p.deeds q.deeds p.performs q.breaks;
  calls_are = loop_calls_append p.deeds q.deeds [] [] p.calls_are q.calls_are;
  steady = λ done bound h.
      steadily_then (AreSafe script dial) done p.deeds q.deeds (p.steady done bound h) (q.steady (done ++ p.deeds) bound (p.holds done bound h));
}

-- it breaks off behind them, and nothing more was done
pub goes_broke : (fault : RelayFault) (script : Script) (dial : List ℕ) (a b : List Link) (u v : List ℕ) (s t : Told) → IsLastDone fault []
    → GoesWithin script dial a b u v s t → BreaksGoing fault script dial a u s t
goes_broke fault script dial a b u v s t none p =
    record { deeds = p.deeds; breaks = breaks_here fault u v s t p.deeds none p.performs; calls_are = p.calls_are; steady = p.steady }
