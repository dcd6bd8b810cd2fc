-- Representation: what the code keeps of all that came at a link, so that it marks what comes; no claim rests on it.
use Rattle.std.specs.Prelude.{ℕ, ◌≡◌, ◌&&◌, ◌||◌, not, Bool, false, if◌then◌else◌, List, [], ◌∷◌, ◌++◌, map, Option, Some, None}
use Rattle.std.specs.List.{list_any}
use Rattle.er_base.specs.declared.side.Side.{Side}
use Rattle.er_base.specs.declared.side.Side.TheVariants.{E, R}
use Rattle.des_block.specs.declared.triple_key.TripleKey.{TripleKey}
use Rattle.safety_pair_laws.specs.Facts.{MarkedFact, Sealing, is_sealing, was_sealed, mistrusts, is_side, marked_from}
use Rattle.drill_model.specs.Outcomes.{DrillOutcome, at_end, facts_in, frames_in}
use Rattle.drill_model.specs.Marks.{marks_behind}
use Rattle.drill_model.specs.Texts.{link_lines, up_line, connected_line, accepted_line, taken_line, none_line, refused_line, released_line, frame_line}
use Rattle.er_world.specs.declared.place.Place.{Place}
use Rattle.er_world.specs.declared.ledger.Ledger.{Ledger}
use Rattle.drill_ends.specs.declared.told.Told.{Told}
use Rattle.drill_ends.specs.declared.told.Told.TheVariants as told
use Rattle.er_world.specs.Pairs.{Gains}
use Rattle.drill_ends.specs.Refusals.{shown_refusal}
use Rattle.drill_ends.specs.Tellings.{EachTold}

-- what is kept is what came
pub record HoldsLedger (kept : Ledger) (facts : List MarkedFact) : Type 0 where
  -- the pairs that are kept are those that were sealed
  pub same : (key : TripleKey) (text : List ℕ) → list_any (is_sealing key text) kept.pairs ≡ was_sealed key text facts
  pub of_e : kept.e_mistrusts ≡ mistrusts E facts
  pub of_r : kept.r_mistrusts ≡ mistrusts R facts

abbrev pub mistrusts_of : Ledger → Side → Bool
mistrusts_of kept E = kept.e_mistrusts
mistrusts_of kept R = kept.r_mistrusts

-- what is kept, queued and printed of one thing that an end did
pub record ToldRow : Type 0 where
  -- the pairs that are kept
  pub sealed : List Sealing
  -- whether a text of the set-up was forged
  pub mark : Bool
  pub frames : List (List ℕ)
  pub line : List ℕ

abbrev of_line : List ℕ → ToldRow
of_line line = record { sealed = []; mark = false; frames = []; line = line }

-- a text is forged that neither end had sealed under these session keys, by what is kept
abbrev is_forged_by : Ledger → TripleKey → List ℕ → Bool
is_forged_by kept key text = not (list_any (is_sealing key text) kept.pairs)

-- its row
abbrev pub told_row : Ledger → Place → Told → ToldRow
told_row kept place (told.Sealed key text) = record (of_line []) { sealed = record { key = key; text = text } ∷ [] }
told_row kept place (told.Verified key text) = record (of_line []) { mark = is_forged_by kept key text }
told_row kept place (told.Connected peer key text) =
    of_line (connected_line place.number place.side peer (is_forged_by kept key text || mistrusts_of kept place.side))
told_row kept place (told.Accepted user key text) = of_line (accepted_line place.number place.side user (is_forged_by kept key text))
told_row kept place told.Up = of_line (up_line place.number place.side)
told_row kept place (told.Arrived payload) = of_line (accepted_line place.number place.side payload false)
told_row kept place (told.Took message) = of_line (taken_line place.number place.side message)
told_row kept place told.NothingToTake = of_line (none_line place.number place.side)
told_row kept place (told.Refused refused) = of_line (refused_line place.number place.side (shown_refusal refused))
told_row kept place (told.Released release) = of_line (released_line place.number place.side release)
told_row kept place (told.Frame octets) = record (of_line (if place.show then frame_line place.number place.side octets else [])) { frames = octets ∷ [] }

-- the mark of an end is kept
pub record Marks (side : Side) (forged : Bool) (old new : Ledger) : Type 0 where
  pub pairs : new.pairs ≡ old.pairs
  pub of_e : new.e_mistrusts ≡ (old.e_mistrusts || (is_side E side && forged))
  pub of_r : new.r_mistrusts ≡ (old.r_mistrusts || (is_side R side && forged))

-- a text that was sealed is kept, with its session keys
pub record KeepsSealing (sealing : Sealing) (old new : Ledger) : Type 0 where
  pub gains : Gains (sealing ∷ []) old.pairs new.pairs
  pub of_e : new.e_mistrusts ≡ old.e_mistrusts
  pub of_r : new.r_mistrusts ≡ old.r_mistrusts

-- what a row says is kept
pub record KeepsInLedger (side : Side) (row : ToldRow) (old new : Ledger) : Type 0 where
  pub gains : Gains row.sealed old.pairs new.pairs
  pub of_e : new.e_mistrusts ≡ (old.e_mistrusts || (is_side E side && row.mark))
  pub of_r : new.r_mistrusts ≡ (old.r_mistrusts || (is_side R side && row.mark))

-- what a row says is kept, queued and printed
pub record TellsRow (side : Side) (row : ToldRow) (old new : Ledger) (waited waits : List (List ℕ)) (before now : List ℕ) : Type 0 where
  pub keeps : KeepsInLedger side row old new
  pub queued : waits ≡ waited ++ row.frames
  pub printed : now ≡ before ++ row.line

-- so it is with one thing that an end did
abbrev pub TellsOne : Place → Told → (old new : Ledger) → (waited waits : List (List ℕ)) → (before now : List ℕ) → Type 0
TellsOne place t old new waited waits before now = TellsRow place.side (told_row old place t) old new waited waits before now

-- outcomes of an end, behind these facts of its link, were kept, queued and printed
pub record TellsAll (place : Place) (facts : List MarkedFact) (outcomes : List DrillOutcome) (new : Ledger) (waited waits : List (List ℕ)) (before now : List ℕ)
    : Type 0 where
  pub holds : HoldsLedger new (facts ++ marked_from facts (facts_in (map (at_end place.side) outcomes)))
  pub queued : waits ≡ waited ++ frames_in outcomes
  pub printed : now ≡ before ++ link_lines place.show place.number (marks_behind facts (map (at_end place.side) outcomes))

-- the first thing that was told, and the others
abbrev pub IsNext : List Told → Option Told → List Told → Type 0
IsNext old None new = (old ≡ []) × (new ≡ [])
IsNext old (Some t) new = old ≡ t ∷ new

-- in the midst of it: what is left leads from here to where all lead from the beginning
pub record Telling (place : Place) (facts : List MarkedFact) (outcomes : List DrillOutcome) (list : List Told) (kept : Ledger)
    (waited waits : List (List ℕ)) (before now : List ℕ) : Type 0 where
  pub seen : List MarkedFact
  pub left : List DrillOutcome
  pub told : EachTold left list
  pub holds : HoldsLedger kept seen
  pub marks : seen ++ marked_from seen (facts_in (map (at_end place.side) left))
      ≡ facts ++ marked_from facts (facts_in (map (at_end place.side) outcomes))
  pub queued : waits ++ frames_in left ≡ waited ++ frames_in outcomes
  pub printed : now ++ link_lines place.show place.number (marks_behind seen (map (at_end place.side) left))
      ≡ before ++ link_lines place.show place.number (marks_behind facts (map (at_end place.side) outcomes))
