-- Representation: a link as the code keeps it, and where it stands among the links of the model; no claim rests on it.
use Rattle.std.specs.Fmt.{decimal}
use Rattle.std.specs.Prelude.{ℕ, ◌≡◌, ◌+◌, ◌<◌, ◌^◌, nat_lt, Bool, false, codes, if◌then◌else◌, List, [], ◌∷◌, ◌++◌, length, Option, Some, None}
use Rattle.er_base.specs.declared.side.Side.{Side}
use Rattle.er_base.specs.declared.side.Side.TheVariants.{E, R}
use Rattle.safety_automaton.specs.Keys.{KmacEntry, key_at}
use Rattle.safety_pair_laws.specs.Facts.{marked}
use Rattle.drill_model.specs.Outcomes.{Occurrence, facts_in}
use Rattle.drill_model.specs.Waiting.{change_first}
use Rattle.drill_model.specs.Links.{Link, key_on}
use Rattle.hdlc_station_model.specs.Lines.{next_of}
use Rattle.drill_model.specs.Worlds.{Drain, drain}
use Rattle.drill_model.specs.Marks.{marks_behind}
use Rattle.drill_model.specs.Texts.{link_lines}
use Rattle.er_world.specs.declared.waiting.Change.{Change}
use Rattle.er_world.specs.declared.action.LineChange.{LineChange}
use Rattle.drill_ends.specs.declared.drill_end.DrillEnd.{DrillEnd}
use Rattle.er_world.specs.declared.link.Link.{Link as KeptLink}
use Rattle.er_world.specs.Changes.{outcomes_of_line_change, change_of}
use Rattle.drill_ends.specs.KeptEnds.{StandsEnd}
use Rattle.er_world.specs.Ledgers.{HoldsLedger}
use Rattle.er_world.specs.Counts.{counts_of, no_totals}

-- the frames of a side that wait
abbrev pub waiting_frames_of_side : KeptLink → Side → List (List ℕ)
waiting_frames_of_side kept E = kept.e.waiting
waiting_frames_of_side kept R = kept.r.waiting

abbrev pub with_waiting_at : KeptLink → Side → List (List ℕ) → KeptLink
with_waiting_at kept E frames = record kept { e = record kept.e { waiting = frames } }
with_waiting_at kept R frames = record kept { r = record kept.r { waiting = frames } }

-- a link that was just made
abbrev pub new_link : DrillEnd → DrillEnd → List KmacEntry → (moment : ℕ) → KeptLink
new_link e r keys moment = record {
  e = record { end = e; waiting = [] };
  r = record { end = r; waiting = [] };
  keys = keys;
  ledger = record { pairs = []; e_mistrusts = false; r_mistrusts = false };
  moment = moment;
  totals = no_totals;
}

-- a link of the code stands where a link of the model does, at which this came
pub record StandsLink (kept : KeptLink) (l : Link) (history : List Occurrence) : Type 0 where
  pub of_e : StandsEnd kept.e.end l.e
  pub of_r : StandsEnd kept.r.end l.r
  pub from_e : kept.e.waiting ≡ l.from_e
  pub from_r : kept.r.waiting ≡ l.from_r
  pub keys : (now : ℕ) → now < 2 ^ 64 → key_at kept.keys now ≡ key_on l.opening
  pub moment : kept.moment ≡ l.moment
  pub holds : HoldsLedger kept.ledger (marked (facts_in history))
  pub totals : kept.totals ≡ counts_of history

-- it went on so, and its lines were printed
pub record LinkWent (a : Link × List Occurrence) (show : Bool) (number : ℕ) (history : List Occurrence) (new : KeptLink) (before now : List ℕ)
    : Type 0 where
  pub stands : StandsLink new a.0 (history ++ a.1)
  pub printed : now ≡ before ++ link_lines show number (marks_behind (marked (facts_in history)) a.1)

-- a step of a link, wherever it stands
abbrev pub LinkDoes : (Link → Link × List Occurrence) → Bool → ℕ → KeptLink → KeptLink → List ℕ → List ℕ → Type 0
LinkDoes moves show number old new before now =
    (l : Link) (history : List Occurrence) → StandsLink old l history → LinkWent (moves l) show number history new before now

-- the first frame of a side that waits was taken, if there was one
abbrev pub TakesFirstWaitingFrame : KeptLink → Side → Option (List ℕ) → KeptLink → Type 0
TakesFirstWaitingFrame old side None new = (waiting_frames_of_side old side ≡ []) × (new ≡ old)
TakesFirstWaitingFrame old side (Some frame) new =
    (waiting_frames_of_side old side ≡ frame ∷ waiting_frames_of_side new side) × (new ≡ with_waiting_at old side (waiting_frames_of_side new side))

-- what waits of a side was changed
pub record ChangesFrames (old : KeptLink) (side : Side) (how : LineChange) (c : Change) (new : KeptLink) : Type 0 where
  pub changed : change_first (change_of how) (waiting_frames_of_side old side) ≡ (waiting_frames_of_side new side, outcomes_of_line_change c)
  pub others : new ≡ with_waiting_at old side (waiting_frames_of_side new side)

-- the side whose frame a drain passes next, and the side of which too many wait
abbrev pub next_at : KeptLink → Option Side
next_at kept = next_of kept.e.waiting kept.r.waiting

abbrev pub overfull_side_of_kept : KeptLink → Option Side
overfull_side_of_kept kept =
    if nat_lt 4096 (length kept.e.waiting) then Some E
    else if nat_lt 4096 (length kept.r.waiting) then Some R
    else None

-- where a drain goes on: the side whose frame it passes next, none where nothing waits or too many frames wait
abbrev pub next_drained_side : Option Side → Option Side → Option Side
next_drained_side None overfull = None
next_drained_side (Some side) None = Some side
next_drained_side (Some side) (Some overfull) = None

-- a drain, with what came before it and the passes before it
abbrev pub ahead : List Occurrence → ℕ → Drain → Drain
ahead came passes d = record { link = d.link; came = came ++ d.came; passes = passes + d.passes }

-- after so many passes of a drain of at most `most`: where it stands
pub record IsWithinDrain (history : List Occurrence) (most : ℕ) (first : Link) (show : Bool) (number passes : ℕ) (kept : KeptLink) (before now : List ℕ)
    : Type 0 where
  pub came : List Occurrence
  pub link : Link
  pub left : ℕ
  pub all : passes + left ≡ most
  pub whole : drain most first ≡ ahead came passes (drain left link)
  pub stands : StandsLink kept link (history ++ came)
  pub printed : now ≡ before ++ link_lines show number (marks_behind (marked (facts_in history)) came)

-- a drain is over
pub record Drains (d : Drain) (show : Bool) (number passes : ℕ) (history : List Occurrence) (new : KeptLink) (before now : List ℕ) : Type 0 where
  pub count : passes ≡ d.passes
  pub went : LinkWent (d.link, d.came) show number history new before now

-- the closing line of a link
unfoldable pub closing_kept : ℕ → KeptLink → List ℕ
closing_kept number kept =
    (decimal number ++ (codes " end passes " ++ decimal kept.totals.passes))
    ++ ((codes " waiting " ++ decimal (length kept.e.waiting)) ++ (codes " " ++ (decimal (length kept.r.waiting) ++ codes "\n")))
