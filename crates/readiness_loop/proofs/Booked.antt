-- A visit through the book is the visit of the model.
use Rattle.er_end.specs.KeptEnds.{KEnd}
use Rattle.std.proofs.Common.{◌≡◌, ℕ, Bool, true, false, List, [], ◌∷◌, Some, None, refl, sym, ◌∙◌, ap, subst}
use Rattle.std.specs.Ordering.{nat_cmp}
use Rattle.std.specs.BTreeMap.{BTreeMap, is_at}
use Rattle.std.specs.Map.{remove_entry}
use Rattle.slab.specs.Slab.{Slab, get, with_value, Updates}
use Rattle.slab.proofs.SlabLemmas.{Updates-with_value}
use Rattle.loop_model.specs.Outs.{Out}
use Rattle.loop_model.specs.Sessions.{Session}
use Rattle.loop_model.specs.Visits.{Met, nothing_met}
use Rattle.loop_model.specs.Loops.{visit_at}
use Rattle.er_base.specs.declared.no_memory.NoMemory.{NoMemory as Want}
use Rattle.loop_session.specs.declared.loop_fault.LoopFault.{LoopFault}
use Rattle.loop_session.specs.declared.loop_fault.LoopFault.TheVariants.{NoMemory}
use Rattle.loop_io.specs.Acting.{Acted, ActedSo, Stopped}
use Rattle.loop_io.specs.Seeing.{Seen}
use Rattle.loop_io.specs.Sequels.{breaks_behind}
use Rattle.loop_io.specs.Visiting.{left}
use Rattle.readiness_loop.specs.Books.{sessions, sessions_at, AreSeated}
use Rattle.readiness_loop.proofs.Sequences.{acted_as, acted_still, breaks_as}
use Rattle.readiness_loop.proofs.Seats.{place_of, visit_none, visit_says, visit_leaves, visit_leaves_seated, visit_drops, visit_drops_seated, seat_found}

-- nobody has this number
pub nobody_did : (a : Seen) (f : Session KEnd → Met → Out (List (Session KEnd))) (newest n : ℕ) (slots : Slab (Session KEnd)) (places : BTreeMap ℕ ℕ)
    → AreSeated newest slots places.entries → place_of n places.entries ≡ None
    → ActedSo a a (sessions slots places) (visit_at f n (sessions slots places))
nobody_did a f newest n slots places p q = record {
  answers = nothing_met;
  is = subst (λ z. Acted a a (sessions slots places) z) (sym (visit_none f newest n slots places.entries nothing_met p q))
      (acted_still a (sessions slots places) (sessions slots places) refl);
}

-- the slot of a place isn't empty
pub empty_did : (a : Seen) (f : Session KEnd → Met → Out (List (Session KEnd))) (newest n k : ℕ) (slots : Slab (Session KEnd)) (places : BTreeMap ℕ ℕ)
    → AreSeated newest slots places.entries → place_of n places.entries ≡ Some k → get slots k ≡ None
    → ActedSo a a (sessions slots places) (visit_at f n (sessions slots places))
empty_did a f newest n k slots places p q r = absurd (seat_found newest n k slots places.entries p q r)

-- the session stays
pub stays_did : (a b : Seen) (f : Session KEnd → Met → Out (List (Session KEnd))) (newest n k : ℕ) (slots : Slab (Session KEnd)) (places : BTreeMap ℕ ℕ) (s t : Session KEnd) (stays : Bool)
    → AreSeated newest slots places.entries → place_of n places.entries ≡ Some k → get slots k ≡ Some s → stays ≡ true
    → ActedSo a b (left stays t) (f s)
    → ActedSo a b (sessions (with_value slots k t) places) (visit_at f n (sessions slots places))
stays_did a b f newest n k slots places s t stays p q r yes_ did =
    let is : t ∷ [] ≡ (f s did.answers).state = ap (λ z. left z t) (sym yes_) ∙ did.is.state in
    record {
      answers = did.answers;
      is = acted_as a b (left stays t) (sessions (with_value slots k t) places) (f s did.answers) (visit_at f n (sessions slots places) did.answers)
          (visit_says f newest n k slots places.entries s did.answers p q r)
          (visit_leaves f newest n k slots (with_value slots k t) places.entries s t did.answers p q r (Updates-with_value slots k t (rw r refl)) is)
          did.is;
    }

pub stays_seated : (newest now n k : ℕ) (slots : Slab (Session KEnd)) (places : BTreeMap ℕ ℕ) (s t : Session KEnd)
    → now ≡ newest → AreSeated newest slots places.entries → place_of n places.entries ≡ Some k → get slots k ≡ Some s → t.number ≡ s.number
    → AreSeated now (with_value slots k t) places.entries
stays_seated newest now n k slots places s t top p q r is =
    subst (λ z. AreSeated z (with_value slots k t) places.entries) (sym top)
    (visit_leaves_seated newest n k slots (with_value slots k t) places.entries s t p q r (Updates-with_value slots k t (rw r refl)) is)

-- it is closed
both_updates : (slots mid now : Slab (Session KEnd)) (k : ℕ) (t : Session KEnd) → Updates slots mid k (Some t) → Updates mid now k None → Updates slots now k None
both_updates slots mid now k t p q = record { changed = q.changed; others = λ j away. q.others j away ∙ p.others j away }

pub closes_did : (a b : Seen) (f : Session KEnd → Met → Out (List (Session KEnd))) (newest n k : ℕ) (slots now : Slab (Session KEnd)) (places fewer : BTreeMap ℕ ℕ) (s t : Session KEnd) (stays : Bool)
    → AreSeated newest slots places.entries → place_of n places.entries ≡ Some k → get slots k ≡ Some s → stays ≡ false
    → ActedSo a b (left stays t) (f s)
    → fewer.entries ≡ remove_entry (is_at (nat_cmp n)) places.entries → Updates (with_value slots k t) now k None
    → ActedSo a b (sessions now fewer) (visit_at f n (sessions slots places))
closes_did a b f newest n k slots now places fewer s t stays p q r no_ did e u =
    let is : [] ≡ (f s did.answers).state = ap (λ z. left z t) (sym no_) ∙ did.is.state in
    let all = both_updates slots (with_value slots k t) now k t (Updates-with_value slots k t (rw r refl)) u in
    record {
      answers = did.answers;
      is = acted_as a b (left stays t) (sessions now fewer) (f s did.answers) (visit_at f n (sessions slots places) did.answers)
          (visit_says f newest n k slots places.entries s did.answers p q r)
          (ap (λ z. sessions_at now z) e ∙ visit_drops f newest n k slots now places.entries s did.answers p q r all is)
          did.is;
    }

pub closes_seated : (newest top n k : ℕ) (slots now : Slab (Session KEnd)) (places fewer : BTreeMap ℕ ℕ) (s t : Session KEnd)
    → top ≡ newest → AreSeated newest slots places.entries → place_of n places.entries ≡ Some k → get slots k ≡ Some s
    → fewer.entries ≡ remove_entry (is_at (nat_cmp n)) places.entries → Updates (with_value slots k t) now k None
    → AreSeated top now fewer.entries
closes_seated newest top n k slots now places fewer s t is p q r e u =
    let all = both_updates slots (with_value slots k t) now k t (Updates-with_value slots k t (rw r refl)) u in
    subst (λ z. AreSeated z now fewer.entries) (sym is)
    (subst (λ z. AreSeated newest now z) (sym e) (visit_drops_seated newest n k slots now places.entries p q all))

-- it breaks off
pub stopped_visit : (a b : Seen) (f : Session KEnd → Met → Out (List (Session KEnd))) (newest n k : ℕ) (slots : Slab (Session KEnd)) (places : BTreeMap ℕ ℕ) (s : Session KEnd) (fault : LoopFault)
    → AreSeated newest slots places.entries → place_of n places.entries ≡ Some k → get slots k ≡ Some s
    → Stopped a b (f s) fault → Stopped a b (visit_at f n (sessions slots places)) fault
stopped_visit a b f newest n k slots places s fault p q r h = record {
  answers = h.answers;
  breaks = breaks_as a b (f s h.answers) (visit_at f n (sessions slots places) h.answers) fault
      (visit_says f newest n k slots places.entries s h.answers p q r) h.breaks;
}

-- memory ran out behind it
pub wanted_visit : (a b : Seen) (f : Session KEnd → Met → Out (List (Session KEnd))) (newest n k : ℕ) (slots : Slab (Session KEnd)) (places : BTreeMap ℕ ℕ) (s t : Session KEnd) (stays : Bool) (want : Want)
    → AreSeated newest slots places.entries → place_of n places.entries ≡ Some k → get slots k ≡ Some s
    → ActedSo a b (left stays t) (f s) → Stopped a b (visit_at f n (sessions slots places)) (NoMemory want)
wanted_visit a b f newest n k slots places s t stays want p q r did =
    stopped_visit a b f newest n k slots places s (NoMemory want) p q r
    (record { answers = did.answers; breaks = breaks_behind a b (left stays t) (f s did.answers) want did.is })
