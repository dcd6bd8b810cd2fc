-- An audit of a tapped link of a world, at level full and modulo 8, whatever its line does: of an end that isn't deceived it finds good what that end
-- accepted (UNISIG SUBSET-037; this profile).
use Rattle.hdlc_station_model.specs.Lines.{IsPrefix}
use Rattle.std.specs.Prelude.{ℕ, ◌≡◌, true, List, [], Some, Any}
use Rattle.er_base.specs.declared.side.Side.{Side}
use Rattle.er_base.specs.declared.side.Side.TheVariants.{E, R}
use Rattle.er_base.specs.Sides.{other}
use Rattle.er_settings.specs.Ranges.{AllAllowed}
use Rattle.er_scenario.specs.declared.step.Step.{Step}
use Rattle.er_tap.specs.declared.tap_line.TapLine.{TapLine}
use Rattle.safety_automaton.specs.Keys.{KmacEntry, key_at}
use Rattle.safety_pair_laws.specs.Facts.{Fact, Sent, Sealed, Verified, Connected, Accepted, marked}
use Rattle.drill_model.specs.Outcomes.{Occurrence, facts_in}
use Rattle.drill_model.specs.Links.{Link, end_of}
use Rattle.drill_model.specs.Steps.{AllFit}
use Rattle.drill_model.specs.Worlds.{DrillPlan, link_at, history_on, world_run}
use Rattle.drill_model.specs.Kinds.{accepted_by}
use Rattle.drill_model.specs.Hearing.{passed_of}
use Rattle.tap_model.specs.Hearing.{heard, items}
use Rattle.tap_model.specs.Lines.{TapOpening}
use Rattle.tap_model.specs.Verdicts.{rb_in, ra_in, first_number, good_texts}
use Rattle.tap_model.specs.Texts.{judged_at}
use Rattle.tap_laws.specs.OneEnd.{Tells}
use Rattle.tap_laws.specs.Worlds.{IsTapped, opened_as, IsUnreleased}

-- ---- an end that isn't deceived

-- the first item that is heard of what was passed of a side tells the random number of its end
abbrev pub TellsAtSide : Side → (ra rb : ℕ) → List Occurrence → Type 0
TellsAtSide E ra rb history = Tells (first_number rb_in (items (heard E (passed_of E history)))) rb
TellsAtSide R ra rb history = Tells (first_number ra_in (items (heard R (passed_of R history)))) ra

abbrev pub IsConnectionFact : Fact → Type 0
IsConnectionFact (Sent user key text) = ⊥
IsConnectionFact (Sealed key text) = ⊥
IsConnectionFact (Verified heard key text) = ⊥
IsConnectionFact (Connected heard connection text) = Unit {0}
IsConnectionFact (Accepted heard user key text) = ⊥

-- the end of this side told a connection that is marked as forged
abbrev pub HasForgedConnection : Side → List Occurrence → Type 0
HasForgedConnection side history = Any (λ f. (f.side ≡ side) × (f.forged ≡ true) × IsConnectionFact f.fact) (marked (facts_in history))

-- ---- what is found

-- what the end of this side accepted is a prefix of the texts of the other side's good DTs, and all of them while it isn't released
pub record FindsAtSide (keys : List KmacEntry) (lines : List TapLine) (m : ℕ) (o : TapOpening) (l : Link) (history : List Occurrence)
    (side : Side) : Type 0 where
  pub prefix : IsPrefix (accepted_by side history) (good_texts (judged_at (key_at keys) m o lines (other side)))
  pub all : IsUnreleased (end_of l side) → accepted_by side history ≡ good_texts (judged_at (key_at keys) m o lines (other side))

-- for every list of steps whose numbers fit, of each link, and for every tap and key file of it: at each end of which, if it accepted a message, the
-- tap tells the own number. Whoever has the tap can see whether it does. It refuses an audit that looks KMACs up at moment 0 and not at the tap's
abbrev pub AuditFindsTold : Type 0
AuditFindsTold =
    (plan : DrillPlan) (steps : List Step) → AllFit steps → AllAllowed plan.settings → plan.settings.modulo ≡ 8
    → (n : ℕ) (l : Link) → link_at (world_run plan steps).0 n ≡ Some l
    → (keys : List KmacEntry) (lines : List TapLine) (m : ℕ) → (t : IsTapped keys lines m l (history_on n (world_run plan steps).1))
    → (side : Side)
    → ((accepted_by side (history_on n (world_run plan steps).1) ≡ [] → ⊥) → TellsAtSide side t.ra t.rb (history_on n (world_run plan steps).1))
    → FindsAtSide keys lines m (opened_as keys lines m l (history_on n (world_run plan steps).1) t) l (history_on n (world_run plan steps).1) side

-- and at each end whose connection isn't marked as forged, whatever its messages or the other end are marked. It refuses what the one above does, and
-- a connection that isn't marked where an AU2 before it was forged
abbrev pub AuditFindsUnforged : Type 0
AuditFindsUnforged =
    (plan : DrillPlan) (steps : List Step) → AllFit steps → AllAllowed plan.settings → plan.settings.modulo ≡ 8
    → (n : ℕ) (l : Link) → link_at (world_run plan steps).0 n ≡ Some l
    → (keys : List KmacEntry) (lines : List TapLine) (m : ℕ) → (t : IsTapped keys lines m l (history_on n (world_run plan steps).1))
    → (side : Side) → (HasForgedConnection side (history_on n (world_run plan steps).1) → ⊥)
    → FindsAtSide keys lines m (opened_as keys lines m l (history_on n (world_run plan steps).1) t) l (history_on n (world_run plan steps).1) side
