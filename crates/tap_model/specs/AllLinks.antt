-- Which links the text of an audit is of (this profile): each that the tap opens, numbers rising, and no other.
use Rattle.std.specs.Prelude.{ℕ, ◌≡◌, ◌≤◌, ◌+◌, ◌⊎◌, Bool, List, [], ◌∷◌, ◌++◌, Some}
use Rattle.std.specs.List.{flat_map}
use Rattle.er_base.specs.declared.side.Side.TheVariants.{E, R}
use Rattle.er_tap.specs.declared.tap_line.TapLine.{TapLine}
use Rattle.er_tap.specs.Ranges.{AreInRange}
use Rattle.er_end_model.specs.Steps.{Finds}
use Rattle.tap_model.specs.Lines.{TapOpening, tap_opening_of_link}
use Rattle.tap_model.specs.Texts.{side_text, judged_at}
use Rattle.tap_model.specs.EndTexts.{end_text, text_of_audit}

-- a link that the lines of a tap open, and how
pub record TappedLink : Type 0 where
  pub number : ℕ
  pub opening : TapOpening

-- each number is above all before it, and at least this
abbrev pub AreRisingFrom : (least : ℕ) → List TappedLink → Type 0
AreRisingFrom least [] = Unit {0}
AreRisingFrom least (link ∷ links) = (least ≤ link.number) × AreRisingFrom (link.number + 1) links

abbrev pub IsAmong : TappedLink → List TappedLink → Type 0
IsAmong link [] = ⊥
IsAmong link (first ∷ links) = (link ≡ first) ⊎ IsAmong link links

-- the text of a link: its engine's side, and then the other; of each side its items, and behind them the line of its end where ends are asked for
abbrev pub text_of_link : (ends : Bool) → Finds → List TapLine → TappedLink → List ℕ
text_of_link ends finds lines link =
    (side_text link.number E (judged_at finds link.number link.opening lines E) ++ end_text ends lines link.number E)
    ++ (side_text link.number R (judged_at finds link.number link.opening lines R) ++ end_text ends lines link.number R)

-- a text is of all links that the lines open, in the order of their numbers, and of these alone
pub record IsOfAllLinks (ends : Bool) (finds : Finds) (lines : List TapLine) (text : List ℕ) : Type 0 where
  pub links : List TappedLink
  pub rising : AreRisingFrom 0 links
  pub each : (n : ℕ) (o : TapOpening) → tap_opening_of_link n lines ≡ Some o → IsAmong (record { number = n; opening = o }) links
  pub only : (n : ℕ) (o : TapOpening) → IsAmong (record { number = n; opening = o }) links → tap_opening_of_link n lines ≡ Some o
  pub text_is : text ≡ flat_map (text_of_link ends finds lines) links

-- of each tap that can be read, with ends and without. It refuses an audit that leaves out the links above a number; and one that prints the ends of
-- all links behind the items of all
abbrev pub AuditHasAllLinks : Type 0
AuditHasAllLinks = (ends : Bool) (finds : Finds) (lines : List TapLine) → AreInRange lines → IsOfAllLinks ends finds lines (text_of_audit ends finds lines)
