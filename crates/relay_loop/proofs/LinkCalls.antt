-- A connection, call by call.
use Rattle.std.proofs.Common.{◌≡◌, ◌≢◌, ℕ, Bool, true, false, List, [], ◌∷◌, ◌++◌, refl, sym, ap, ◌∙◌, subst, append_assoc, append-nil, inl, true≢false, Ok}
use Rattle.er_base.specs.declared.side.Side.TheVariants.{E, R}
use Rattle.outside.specs.Doings.{Told}
use Rattle.link_trait.specs.declared.wires.Conn.{Conn}
use Rattle.relay_script.specs.declared.script.Script.{Script}
use Rattle.relay_loop.specs.declared.fault.RelayFault.{RelayFault}
use Rattle.relay_loop.specs.declared.way.Way.{Way}
use Rattle.relay_loop.specs.declared.link.Link.{Link}
use Rattle.relay_loop.specs.Ways.{HoldsWay}
use Rattle.relay_loop.specs.RelayDeeds.{RelayDeed, BreaksBehind, IsLastDone, Steadily, given_in, octets_read_at, octets_told_of, AreOfVisit, socket_in}
use Rattle.relay_loop.specs.Links.{IsSafe, AreTold, HoldsLink, KnowsEnds, RestsLink, KeepsLink, IsUntouched, IsUntold, Visits, BreaksVisit, VisitsOn, Settles, Stays, Leaves, EndsAsk}
use Rattle.relay_loop.specs.Settled.{SocketTold, told_nothing}
use Rattle.relay_loop.proofs.Deeds.{begins_none, performs_none, performs_then, breaks_then, breaks_here, steadily_then}
use Rattle.relay_loop.proofs.WayGoes.{WayGoes, way_goes}

-- ---- a new connection

pub record IsNewWay (way : Way) : Type 0 where
  pub unended : way.ended ≡ false
  pub alive : way.lost ≡ false
  pub waits : way.waits.items ≡ []
  pub printed : way.printed.items ≡ []

pub safe_new : (script : Script) (number e r : ℕ) (done : List RelayDeed) → IsUntold number done → IsUntouched e done → IsUntouched r done → IsSafe script number e r done
safe_new script number e r done untold at_e at_r = record {
  first_to_r = rw at_r.ungiven (begins_none _);
  first_to_e = rw at_e.ungiven (begins_none _);
  carried_of_e = rw untold.of_e (begins_none _);
  carried_of_r = rw untold.of_r (begins_none _);
  closed_e = λ c. absurd (true≢false (sym c ∙ at_e.unclosed));
  closed_r = λ c. absurd (true≢false (sym c ∙ at_r.unclosed));
}

holds_new : (script : Script) (done : List RelayDeed) (link : Link) → HoldsWay script E [] [] [] link.from_e → HoldsWay script R [] [] [] link.from_r
    → IsNewWay link.from_e → IsNewWay link.from_r → link.e.0 ≢ link.r.0 → IsUntold link.number done → IsUntouched link.e.0 done → IsUntouched link.r.0 done
    → HoldsLink script done link
holds_new script done link e r new_e new_r parted untold at_e at_r = record {
  flags = record {
    lost_e = λ l. absurd (true≢false (sym l ∙ new_e.alive));
    lost_r = λ l. absurd (true≢false (sym l ∙ new_r.alive));
    ended_e = λ l. absurd (true≢false (sym l ∙ new_e.unended));
    ended_r = λ l. absurd (true≢false (sym l ∙ new_r.unended));
  };
  parted = parted;
  from_e = rw (at_e.unread, at_r.ungiven, untold.of_e) e;
  from_r = rw (at_r.unread, at_e.ungiven, untold.of_r) r;
  safe = safe_new script link.number link.e.0 link.r.0 done untold at_e at_r;
}

untold_end : (conn : ℕ) (done : List RelayDeed) → IsUntouched conn done → (socket_in conn done).ended ≡ true → ⊥
untold_end conn done untouched ended = true≢false (sym ended ∙ ap (λ (t : SocketTold). t.ended) (untouched.silent told_nothing))

pub new_link : (script : Script) (done : List RelayDeed) (link : Link) → HoldsWay script E [] [] [] link.from_e → HoldsWay script R [] [] [] link.from_r
    → IsNewWay link.from_e → IsNewWay link.from_r → link.e.0 ≢ link.r.0 → IsUntold link.number done → IsUntouched link.e.0 done → IsUntouched link.r.0 done
    → KeepsLink script done link
new_link script done link e r new_e new_r parted untold at_e at_r = record {
  holds = holds_new script done link e r new_e new_r parted untold at_e at_r;
  knows = record {
    e = λ ended _. absurd (untold_end link.e.0 done at_e ended);
    r = λ ended _. absurd (untold_end link.r.0 done at_r ended);
  };
  rests = record {
    e = record { waits = λ _ _. rw new_e.waits tt; printed = λ _ _. inl new_e.printed };
    r = record { waits = λ _ _. rw new_r.waits tt; printed = λ _ _. inl new_r.printed };
  };
}

-- ---- visits

pub of_visit_append : (number e r : ℕ) (xs ys : List RelayDeed) → AreOfVisit number e r xs → AreOfVisit number e r ys → AreOfVisit number e r (xs ++ ys)
of_visit_append number e r [] ys p q = q
of_visit_append number e r (x ∷ xs) ys p q = (p.0, of_visit_append number e r xs ys p.1 q)

-- of the same connection
pub along_visit : (a b : Link) (deeds : List RelayDeed) → b.number ≡ a.number → b.e ≡ a.e → b.r ≡ a.r → AreOfVisit b.number b.e.0 b.r.0 deeds → AreOfVisit a.number a.e.0 a.r.0 deeds
along_visit a b deeds number e r h =
    subst (λ (n : ℕ). AreOfVisit n a.e.0 a.r.0 deeds) number
    (subst (λ (k : Conn). AreOfVisit b.number k.0 a.r.0 deeds) e (subst (λ (k : Conn). AreOfVisit b.number b.e.0 k.0 deeds) r h))

pub along_steady : (script : Script) (a b : Link) (done deeds : List RelayDeed) → b.number ≡ a.number → b.e ≡ a.e → b.r ≡ a.r
    → Steadily (IsSafe script b.number b.e.0 b.r.0) done deeds → Steadily (IsSafe script a.number a.e.0 a.r.0) done deeds
along_steady script a b done deeds number e r h =
    subst (λ (n : ℕ). Steadily (IsSafe script n a.e.0 a.r.0) done deeds) number
    (subst (λ (k : Conn). Steadily (IsSafe script b.number k.0 a.r.0) done deeds) e (subst (λ (k : Conn). Steadily (IsSafe script b.number b.e.0 k.0) done deeds) r h))

pub visits_none : (script : Script) (link : Link) (waiting : List ℕ) (t : Told) → Visits script link link waiting waiting t t
visits_none script link waiting t = record {
  deeds = [];
  performs = performs_none waiting t;
  only = tt;
  number = refl;
  e = refl;
  r = refl;
  holds = λ done h. subst (λ (d : List RelayDeed). HoldsLink script d link) (sym (append-nil done)) h;
  steady = λ done h. h.safe;
}

unfoldable pub visits_then : (script : Script) (a b c : Link) (u v w : List ℕ) (s t x : Told) → Visits script a b u v s t → Visits script b c v w t x → Visits script a c u w s x
visits_then script a b c u v w s t x p q = record {
  deeds = p.deeds ++ q.deeds;
  performs = performs_then u v w s t x p.deeds q.deeds p.performs q.performs;
  only = of_visit_append a.number a.e.0 a.r.0 p.deeds q.deeds p.only (along_visit a b q.deeds p.number p.e p.r q.only);
  number = q.number ∙ p.number;
  e = q.e ∙ p.e;
  r = q.r ∙ p.r;
  holds = λ done h.
      subst (λ (d : List RelayDeed). HoldsLink script d c) (append_assoc done p.deeds q.deeds) (q.holds (done ++ p.deeds) (p.holds done h));
  steady = λ done h.
      steadily_then (IsSafe script a.number a.e.0 a.r.0) done p.deeds q.deeds (p.steady done h)
      (along_steady script a b (done ++ p.deeds) q.deeds p.number p.e p.r (q.steady (done ++ p.deeds) (p.holds done h)));
}

pub visit_breaks : (fault : RelayFault) (script : Script) (a b : Link) (u v : List ℕ) (s t x : Told) → Visits script a b u v s t → BreaksVisit fault script b v t x
    → BreaksVisit fault script a u s x
visit_breaks fault script a b u v s t x p q = record {
  deeds = p.deeds ++ q.deeds;
  breaks = breaks_then fault u v s t x p.deeds q.deeds p.performs q.breaks;
  only = of_visit_append a.number a.e.0 a.r.0 p.deeds q.deeds p.only (along_visit a b q.deeds p.number p.e p.r q.only);
  steady = λ done h.
      steadily_then (IsSafe script a.number a.e.0 a.r.0) done p.deeds q.deeds (p.steady done h)
      (along_steady script a b (done ++ p.deeds) q.deeds p.number p.e p.r (q.steady (done ++ p.deeds) (p.holds done h)));
}

-- by which each end that is told is known
pub on_none : (script : Script) (link : Link) (waiting : List ℕ) (t : Told) → VisitsOn script link link waiting waiting t t
unfolding visits_none
on_none script link waiting t = record {
  visits = visits_none script link waiting t;
  knows = λ done l k. subst (λ (d : List RelayDeed). KnowsEnds d link) (sym (append-nil done)) k;
}

pub on_then : (script : Script) (a b c : Link) (u v w : List ℕ) (s t x : Told) → VisitsOn script a b u v s t → VisitsOn script b c v w t x
    → VisitsOn script a c u w s x
unfolding visits_then
on_then script a b c u v w s t x p q = record {
  visits = visits_then script a b c u v w s t x p.visits q.visits;
  knows = λ done l k.
      subst (λ (d : List RelayDeed). KnowsEnds d c) (append_assoc done p.visits.deeds q.visits.deeds)
      (q.knows (done ++ p.visits.deeds) (p.visits.holds done l) (p.knows done l k));
}

-- and nothing is left to give behind the second
pub settles_then : (script : Script) (a b c : Link) (u v w : List ℕ) (s t x : Told) → VisitsOn script a b u v s t → Settles script b c v w t x
    → Settles script a c u w s x
unfolding visits_then on_then
settles_then script a b c u v w s t x p q = record {
  visit = on_then script a b c u v w s t x p q.visit;
  rests = λ done l.
      subst (λ (d : List RelayDeed). RestsLink d c) (append_assoc done p.visits.deeds q.visit.visits.deeds)
      (q.rests (done ++ p.visits.deeds) (p.visits.holds done l));
}

-- a connection that isn't visited stays as it is
pub stays_none : (script : Script) (link : Link) (waiting : List ℕ) (t : Told) → Stays script link link waiting waiting t t
unfolding visits_none
stays_none script link waiting t = record {
  visits = visits_none script link waiting t;
  keeps = λ done k. subst (λ (d : List RelayDeed). KeepsLink script d link) (sym (append-nil done)) k;
}

pub stays_settled : (script : Script) (old new : Link) (waiting left : List ℕ) (before now : Told) → Settles script old new waiting left before now
    → Stays script old new waiting left before now
stays_settled script old new waiting left before now s = record {
  visits = s.visit.visits;
  keeps = λ done k. record {
    holds = s.visit.visits.holds done k.holds;
    knows = s.visit.knows done k.holds k.knows;
    rests = s.rests done k.holds;
  };
}

-- it breaks off behind a visit, and nothing more was done
pub breaks_behind : (fault : RelayFault) (script : Script) (a b : Link) (u v : List ℕ) (s t : Told) → IsLastDone fault [] → Visits script a b u v s t
    → BreaksVisit fault script a u s t
breaks_behind fault script a b u v s t none p =
    record { deeds = p.deeds; breaks = breaks_here fault u v s t p.deeds none p.performs; only = p.only; steady = p.steady }

-- nothing was done
pub breaks_at_once : (fault : RelayFault) (script : Script) (link : Link) (waiting : List ℕ) (t : Told) → IsLastDone fault [] → BreaksVisit fault script link waiting t t
breaks_at_once fault script link waiting t none = breaks_behind fault script link link waiting waiting t t none (visits_none script link waiting t)

-- nothing was done but what broke it off
pub breaks_first : (fault : RelayFault) (script : Script) (link : Link) (waiting : List ℕ) (before now : Told) → BreaksBehind fault waiting before now []
    → BreaksVisit fault script link waiting before now
breaks_first fault script link waiting before now b = record { deeds = []; breaks = b; only = tt; steady = λ done h. h.safe }

-- ---- deeds by which the ways go on

-- one of two ways goes on, or both
pub link_goes : (script : Script) (done xs : List RelayDeed) (old new : Link) (read_e told_e gave_r read_r told_r gave_e : List ℕ) → new.number ≡ old.number → new.e ≡ old.e
    → new.r ≡ old.r → octets_read_at old.e.0 xs ≡ read_e → octets_told_of old.number E xs ≡ told_e → given_in old.r.0 xs ≡ gave_r → octets_read_at old.r.0 xs ≡ read_r
    → octets_told_of old.number R xs ≡ told_r → given_in old.e.0 xs ≡ gave_e → WayGoes script read_e told_e gave_r old.from_e new.from_e
    → WayGoes script read_r told_r gave_e old.from_r new.from_r → IsSafe script old.number old.e.0 old.r.0 (done ++ xs) → AreTold (done ++ xs) new
    → HoldsLink script done old → HoldsLink script (done ++ xs) new
link_goes script done xs old new read_e told_e gave_r read_r told_r gave_e number e r re te gr rr tr ge goes_e goes_r safe flags h =
    record {
      flags = flags;
      parted = rw (e, r) h.parted;
      from_e = rw (number, e, r) (way_goes script E old.e.0 old.r.0 old.number done xs read_e told_e gave_r old.from_e new.from_e re te gr goes_e h.from_e);
      from_r = rw (number, e, r) (way_goes script R old.r.0 old.e.0 old.number done xs read_r told_r gave_e old.from_r new.from_r rr tr ge goes_r h.from_r);
      safe = rw (number, e, r) safe;
    }

-- whether it stays
pub ask_stays : (b : Bool) (script : Script) (old new : Link) (waiting left : List ℕ) (before now : Told) → b ≡ true
    → EndsAsk (Ok b) script old new waiting left before now → Stays script old new waiting left before now
ask_stays b script old new waiting left before now is h = subst (λ (c : Bool). EndsAsk (Ok c) script old new waiting left before now) is h

pub ask_leaves : (b : Bool) (script : Script) (old new : Link) (waiting left : List ℕ) (before now : Told) → b ≡ false
    → EndsAsk (Ok b) script old new waiting left before now → Leaves script old new waiting left before now
ask_leaves b script old new waiting left before now is h = subst (λ (c : Bool). EndsAsk (Ok c) script old new waiting left before now) is h
