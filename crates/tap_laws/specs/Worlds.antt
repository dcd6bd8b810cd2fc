-- An audit of a tapped link of a world, at level full and modulo 8, whose line keeps its order: it finds good what both ends accepted (UNISIG
-- SUBSET-037; this profile).
use Rattle.hdlc_station_model.specs.Lines.{IsPrefix}
use Rattle.std.specs.Prelude.{ℕ, ◌≡◌, List, Some, None}
use Rattle.er_base.specs.declared.side.Side.TheVariants.{E, R}
use Rattle.des_block.specs.declared.triple_key.TripleKey.{TripleKey}
use Rattle.er_settings.specs.Ranges.{AllAllowed}
use Rattle.er_scenario.specs.declared.step.Step.{Step}
use Rattle.er_tap.specs.declared.tap_line.TapLine.{TapLine}
use Rattle.safety_automaton.specs.Keys.{KmacEntry, key_at}
use Rattle.drill_model.specs.Outcomes.{Occurrence}
use Rattle.drill_model.specs.Ends.{EndAtLevel, OfSafe, OfStation, OfStack}
use Rattle.drill_model.specs.Links.{Link, OfStacks}
use Rattle.drill_model.specs.Steps.{AllFit}
use Rattle.drill_model.specs.Worlds.{DrillPlan, link_at, history_on, world_run}
use Rattle.drill_model.specs.Kinds.{accepted_by, IsOrderKeeping}
use Rattle.drill_model.specs.Hearing.{passed_of}
use Rattle.tap_model.specs.Lines.{TapOpening, tap_opening_of_link, stream_of}
use Rattle.tap_model.specs.Verdicts.{good_texts}
use Rattle.tap_model.specs.Texts.{judged_at}

-- link m of a tap is a link with what came at it, and a key file has the KMAC of both its ends
pub record IsTapped (keys : List KmacEntry) (lines : List TapLine) (m : ℕ) (l : Link) (history : List Occurrence) : Type 0 where
  pub engine : ℕ
  pub rbc : ℕ
  pub kmac : TripleKey
  pub ra : ℕ
  pub rb : ℕ
  pub moment : ℕ
  -- the ends have one KMAC
  pub link_is : l.opening ≡ OfStacks engine rbc kmac (Some kmac) ra rb
  -- the tap has their numbers, and a moment at which this KMAC is found
  pub tap_is : tap_opening_of_link m lines ≡ Some (record { engine = engine; rbc = rbc; moment = moment })
  pub found : key_at keys moment engine rbc ≡ Some kmac
  -- and all octets that were passed of each side
  pub of_e : stream_of m E lines ≡ passed_of E history
  pub of_r : stream_of m R lines ≡ passed_of R history

-- how the tap opens the link
abbrev pub opened_as : (keys : List KmacEntry) (lines : List TapLine) (m : ℕ) (l : Link) (history : List Occurrence) → IsTapped keys lines m l history
    → TapOpening
opened_as keys lines m l history t = record { engine = t.engine; rbc = t.rbc; moment = t.moment }

-- an end of four layers that isn't released
abbrev pub IsUnreleased : EndAtLevel → Type 0
IsUnreleased (OfSafe side) = ⊥
IsUnreleased (OfStation selective station stream) = ⊥
IsUnreleased (OfStack m) = m.core.released ≡ None

-- what each end accepted is a prefix of the texts of the other side's good DTs, and all of them while it isn't released
pub record FindsGood (keys : List KmacEntry) (lines : List TapLine) (m : ℕ) (o : TapOpening) (l : Link) (history : List Occurrence) : Type 0 where
  pub at_r : IsPrefix (accepted_by R history) (good_texts (judged_at (key_at keys) m o lines E))
  pub at_e : IsPrefix (accepted_by E history) (good_texts (judged_at (key_at keys) m o lines R))
  pub all_at_r : IsUnreleased l.r → accepted_by R history ≡ good_texts (judged_at (key_at keys) m o lines E)
  pub all_at_e : IsUnreleased l.e → accepted_by E history ≡ good_texts (judged_at (key_at keys) m o lines R)

-- for every list of steps whose numbers fit, of each link that is order-keeping so far, and for every tap and key file of it
abbrev pub AuditFindsAccepted : Type 0
AuditFindsAccepted =
    (plan : DrillPlan) (steps : List Step) → AllFit steps → AllAllowed plan.settings → plan.settings.modulo ≡ 8
    → (n : ℕ) (l : Link) → link_at (world_run plan steps).0 n ≡ Some l → IsOrderKeeping l.opening (history_on n (world_run plan steps).1)
    → (keys : List KmacEntry) (lines : List TapLine) (m : ℕ) → (t : IsTapped keys lines m l (history_on n (world_run plan steps).1))
    → FindsGood keys lines m (opened_as keys lines m l (history_on n (world_run plan steps).1) t) l (history_on n (world_run plan steps).1)
