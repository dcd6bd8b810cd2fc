-- An end that accepted a message told a connection; so where none that it told is forged, it told one that isn't.
use Rattle.std.proofs.Common.{◌≡◌, ◌∙◌, ℕ, Bool, true, false, List, [], ◌∷◌, ◌++◌, length, slice_index_or, Option, refl, sym, ap, subst, arith, append_assoc}
use Rattle.std.specs.Prelude.{Any, if◌then◌else◌}
use Rattle.std.proofs.lemmas.List.{length-append}
use Rattle.std.proofs.lemmas.List.Concat.{flat_map-cons}
use Rattle.er_base.specs.declared.side.Side.{Side}
use Rattle.er_base.specs.declared.side.Side.TheVariants.{E, R}
use Rattle.des_block.specs.declared.triple_key.TripleKey.{TripleKey}
use Rattle.safety_automaton.specs.Safety.{Connection}
use Rattle.safety_pair_laws.specs.Facts.{Fact, Sent, Sealed, Verified, Connected, Accepted, SideFact, is_side, MarkedFact, mark, marked_from, marked}
use Rattle.safety_pair_laws.specs.Messages.{accepted_in}
use Rattle.safety_pair_laws.specs.Deliveries.{accepted_of}
use Rattle.safety_pair_laws.specs.Openings.{OfKeys}
use Rattle.safety_pair_laws.specs.Authentic.{ConnectsAs, WasConnected, IsAuthentic, Authentic}
use Rattle.drill_model.specs.Outcomes.{Occurrence, facts_in}
use Rattle.tap_laws.specs.AnyLine.{IsConnectionFact, HasForgedConnection}
use Rattle.tap_laws.proofs.Talked.{split_at}

-- ---- one of a list

-- one of which P holds, and what stands before and behind it
record Stands (P : MarkedFact → Type 0) (all : List MarkedFact) : Type 0 where
  before : List MarkedFact
  one : MarkedFact
  behind : List MarkedFact
  all_is : all ≡ before ++ one ∷ behind
  holds : P one

index_of : (before : List MarkedFact) (one : MarkedFact) (behind : List MarkedFact) → slice_index_or (before ++ one ∷ behind) (length before) one ≡ one
index_of [] one behind = refl
index_of (x ∷ before) one behind = index_of before one behind

any_at : (P : MarkedFact → Type 0) (before : List MarkedFact) (one : MarkedFact) (behind : List MarkedFact) → P one → Any P (before ++ one ∷ behind)
any_at P before one behind holds =
    let n = length-append before (one ∷ behind) in
    (length before, one, omega (arith, n), index_of before one behind, holds)

-- ---- an accepted message

abbrev IsAcceptance : Fact → Type 0
IsAcceptance (Sent user key text) = ⊥
IsAcceptance (Sealed key text) = ⊥
IsAcceptance (Verified heard key text) = ⊥
IsAcceptance (Connected heard connection text) = ⊥
IsAcceptance (Accepted heard user key text) = Unit {0}

abbrev AcceptsAt : Side → MarkedFact → Type 0
AcceptsAt side m = (m.side ≡ side) × IsAcceptance m.fact

side_same : (side s : Side) → is_side side s ≡ true → s ≡ side
side_same E E e = refl
side_same E R e = absurd cc
side_same R E e = absurd cc
side_same R R e = refl

-- a fact is an acceptance of this side, or accepts nothing
abbrev accepts_in : Bool → Fact → List (List ℕ)
accepts_in b fact = if b then accepted_in fact else []

module _ (side : Side) (before : List MarkedFact) (f : SideFact) (facts : List SideFact) (later : (accepted_of side facts ≡ [] → ⊥)
    → Stands (AcceptsAt side) (marked_from (before ++ mark before f ∷ []) facts)) (some : accepted_of side (f ∷ facts) ≡ [] → ⊥) where
  behind_it : accepts_in (is_side side f.side) f.fact ≡ [] → Stands (AcceptsAt side) (marked_from before (f ∷ facts))
  behind_it none =
      let here : accepted_of side (f ∷ facts) ≡ accepted_of side facts =
      flat_map-cons (λ (x : SideFact). if is_side side x.side then accepted_in x.fact else []) f facts ∙ ap (λ (l : List (List ℕ)). l ++ accepted_of side facts) none in
      let s = later (λ nothing. some (here ∙ nothing)) in
      record { before = mark before f ∷ s.before; one = s.one; behind = s.behind; all_is = ap (λ (l : List MarkedFact). mark before f ∷ l) s.all_is; holds = s.holds }

  by_fact : (b : Bool) (fact : Fact) → is_side side f.side ≡ b → f.fact ≡ fact → Stands (AcceptsAt side) (marked_from before (f ∷ facts))
  by_fact true (Accepted heard user key text) own is = record {
    before = [];
    one = mark before f;
    behind = marked_from (before ++ mark before f ∷ []) facts;
    all_is = refl;
    holds = (side_same side f.side own, subst IsAcceptance (sym is) tt);
  }
  by_fact true (Sent user key text) own is = behind_it (rw (own, is) refl)
  by_fact true (Sealed key text) own is = behind_it (rw (own, is) refl)
  by_fact true (Verified heard key text) own is = behind_it (rw (own, is) refl)
  by_fact true (Connected heard connection text) own is = behind_it (rw (own, is) refl)
  by_fact false fact own is = behind_it (rw own refl)

find_accepted : (side : Side) (before : List MarkedFact) (facts : List SideFact) → (accepted_of side facts ≡ [] → ⊥) → Stands (AcceptsAt side) (marked_from before facts)
find_accepted side before [] some = absurd (some refl)
find_accepted side before (f ∷ facts) some =
    by_fact side before f facts (find_accepted side (before ++ mark before f ∷ []) facts) some (is_side side f.side) f.fact refl refl

-- ---- the connection under which it was accepted

connects : (c : Connection) (fact : Fact) → ConnectsAs c fact → IsConnectionFact fact
connects c (Sent user key text) h = absurd h
connects c (Sealed key text) h = absurd h
connects c (Verified heard key text) h = absurd h
connects c (Connected heard connection text) h = tt
connects c (Accepted heard user key text) h = absurd h

record WasReported (side : Side) (before : List MarkedFact) : Type 0 where
  connection : Connection
  reported : WasConnected side connection before

module _ (engine rbc : ℕ) (ke : TripleKey) (kr : Option TripleKey) (ra rb : ℕ) where
  reported_by : (before : List MarkedFact) (side : Side) (fact : Fact) (forged : Bool) → IsAcceptance fact → IsAuthentic (OfKeys engine rbc ke kr ra rb) before side fact forged
      → WasReported side before
  reported_by before side (Sent user key text) forged is h = absurd is
  reported_by before side (Sealed key text) forged is h = absurd is
  reported_by before side (Verified heard key text) forged is h = absurd is
  reported_by before side (Connected heard connection text) forged is h = absurd is
  reported_by before side (Accepted heard user key text) forged is h = record { connection = h.session.connection; reported = h.session.reported }

  pub told_unforged : (history : List Occurrence) → Authentic (OfKeys engine rbc ke kr ra rb) (facts_in history) → (side : Side) → (accepted_of side (facts_in history) ≡ [] → ⊥)
      → (HasForgedConnection side history → ⊥) → Any (λ f. (f.side ≡ side) × (f.forged ≡ false) × IsConnectionFact f.fact) (marked (facts_in history))
  told_unforged history authentic side some none = by m.forged refl
    where
      found : Stands (AcceptsAt side) (marked (facts_in history))
      found = find_accepted side [] (facts_in history) some

      reported : WasReported side found.before
      reported =
          subst (λ (s : Side). WasReported s found.before) found.holds.0
          (reported_by found.before found.one.side found.one.fact found.one.forged found.holds.1 (authentic found.before found.behind found.one found.all_is))

      m : MarkedFact
      m = reported.reported.1

      at : (b0 : List MarkedFact) × (a0 : List MarkedFact) × (found.before ≡ b0 ++ m ∷ a0)
      at = split_at found.before reported.reported.0 m reported.reported.2 reported.reported.3

      all_is : marked (facts_in history) ≡ at.0 ++ m ∷ (at.1 ++ found.one ∷ found.behind)
      all_is = found.all_is ∙ ap (λ (l : List MarkedFact). l ++ found.one ∷ found.behind) at.2 ∙ append_assoc at.0 (m ∷ at.1) (found.one ∷ found.behind)

      own : m.side ≡ side
      own = reported.reported.4.0

      is_connection : IsConnectionFact m.fact
      is_connection = connects reported.connection m.fact reported.reported.4.1

      by : (b : Bool) → m.forged ≡ b → Any (λ f. (f.side ≡ side) × (f.forged ≡ false) × IsConnectionFact f.fact) (marked (facts_in history))
      by true is =
          absurd (none (subst (λ (l : List MarkedFact). Any (λ f. (f.side ≡ side) × (f.forged ≡ true) × IsConnectionFact f.fact) l) (sym all_is)
          (any_at (λ f. (f.side ≡ side) × (f.forged ≡ true) × IsConnectionFact f.fact) at.0 m (at.1 ++ found.one ∷ found.behind) (own, is, is_connection))))
      by false is =
          subst (λ (l : List MarkedFact). Any (λ f. (f.side ≡ side) × (f.forged ≡ false) × IsConnectionFact f.fact) l) (sym all_is)
          (any_at (λ f. (f.side ≡ side) × (f.forged ≡ false) × IsConnectionFact f.fact) at.0 m (at.1 ++ found.one ∷ found.behind) (own, is, is_connection))
