-- Representation: what is kept of the links that lines open; no claim rests on it.
use Rattle.std.specs.Prelude.{ℕ, zero, suc, ◌≡◌, ◌+◌, ◌-◌, ◌≤◌, Bool, List, [], ◌++◌, Option, Some, None, is_some, Result, Ok, Err, slice_index_or}
use Rattle.er_tap.specs.declared.tap_line.TapLine.{TapLine}
use Rattle.tap_model.specs.declared.audit_fault.AuditFault.{AuditFault}
use Rattle.tap_model.specs.declared.audit_fault.AuditFault.TheVariants.{NoLink, LinkTwice, Sink, NoMemory}
use Rattle.tap_model.specs.Lines.{TapOpening, NoLinkAt, TwiceAt, has, fault_at, links_opened_behind, fault_of_tap_lines, opens_link, first_opening}
use Rattle.tap_model.specs.Lines.{tap_opening_of_link}
use Rattle.er_end_model.specs.Steps.{Finds}
use Rattle.tap_model.specs.EndTexts.{ends_of_link}
use Rattle.link_audit.specs.AuditLines.{lines_of_link}
use Rattle.link_audit.specs.declared.opening.Opening.{Opening}
use Rattle.link_audit.specs.declared.openings.Openings.{Openings}

-- how a link was opened
abbrev pub tap_opening_of_kept : Opening → TapOpening
tap_opening_of_kept o = record { engine = o.engine; rbc = o.rbc; moment = o.moment }

abbrev pub shown_of : Option Opening → Option TapOpening
shown_of None = None
shown_of (Some o) = Some (tap_opening_of_kept o)

unfoldable pub opening_at : Openings → ℕ → Option TapOpening
opening_at o n = shown_of (slice_index_or o.links (n - 1) None)

-- the lines of the links from number n on, so many, by how they were opened
unfoldable pub links_opened : (ends : Bool) → Finds → List TapLine → Openings → (n count : ℕ) → List (List ℕ)
links_opened ends finds lines o n zero = []
links_opened ends finds lines o n (suc count) = lines_of_link ends finds lines n (opening_at o n) ++ links_opened ends finds lines o (n + 1) count

-- of each link: whether it is among those that were opened
abbrev pub StandsForOpenedLinks : (opened : List ℕ) → Openings → Type 0
StandsForOpenedLinks opened o = (n : ℕ) → 1 ≤ n → n ≤ 64 → has n opened ≡ is_some (opening_at o n)

-- a line stands behind those that it needs
pub record Passes (old new : Openings) (x : TapLine) : Type 0 where
  pub stands : (opened : List ℕ) → StandsForOpenedLinks opened old
      → (fault_at opened x.line x.step ≡ None) × StandsForOpenedLinks (links_opened_behind x.step opened) new
  pub openings : (n : ℕ) → 1 ≤ n → n ≤ 64 → opening_at new n ≡ first_opening (opening_at old n) (opens_link n x.step)

-- whether it does
abbrev pub TakesTapLine : Openings → Openings → TapLine → Result (Unit {0}) AuditFault → Type 0
TakesTapLine old new x (Ok done) = Passes old new x
TakesTapLine old new x (Err (NoLink line n)) = (opened : List ℕ) → StandsForOpenedLinks opened old → fault_at opened x.line x.step ≡ Some (NoLinkAt line n)
TakesTapLine old new x (Err (LinkTwice line n)) = (opened : List ℕ) → StandsForOpenedLinks opened old → fault_at opened x.line x.step ≡ Some (TwiceAt line n)
TakesTapLine old new x (Err Sink) = ⊥
TakesTapLine old new x (Err (NoMemory want)) = ⊥

-- whether all lines do
abbrev pub Checks : List TapLine → Result Openings AuditFault → Type 0
Checks lines (Ok o) = (fault_of_tap_lines lines ≡ None) × ((n : ℕ) → 1 ≤ n → n ≤ 64 → opening_at o n ≡ tap_opening_of_link n lines)
Checks lines (Err (NoLink line n)) = fault_of_tap_lines lines ≡ Some (NoLinkAt line n)
Checks lines (Err (LinkTwice line n)) = fault_of_tap_lines lines ≡ Some (TwiceAt line n)
Checks lines (Err Sink) = ⊥
Checks lines (Err (NoMemory want)) = ⊥

-- the ends of the links from number n on, so many, by how they were opened
unfoldable pub ends_opened : List TapLine → Openings → (n count : ℕ) → List ℕ
ends_opened lines o n zero = []
ends_opened lines o n (suc count) = ends_of_link lines n (opening_at o n) ++ ends_opened lines o (n + 1) count
