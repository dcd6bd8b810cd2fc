-- How lines open links: one line more, one that is refused, and none.
use Rattle.std.proofs.Common.{arith, ◌≡◌, ℕ, ◌≤◌, ◌+◌, ◌-◌, ◌==◌, Bool, true, false, zero, suc, List, [], ◌∷◌, length, drop, Option, Some, None, is_some, Err, refl, subst, sym, ap, ◌∙◌, inl, inr}
use Rattle.std.specs.Prelude.{slice_index_or, slice_set, replicate}
use Rattle.std.proofs.lemmas.Bool.{cases_eq, ne_eqb}
use Rattle.std.proofs.lemmas.Bool.Decides.{eqb_tells}
use Rattle.std.proofs.lemmas.List.{get_or-replicate, get_or-set_same, get_or-set_other, drop_all}
use Rattle.er_tap.specs.declared.tap_line.TapLine.{TapLine}
use Rattle.er_tap.specs.declared.tap_step.TapStep.TheVariants as step
use Rattle.er_base.specs.declared.side.Side.{Side}
use Rattle.er_tap.specs.Ranges.{IsInRange, AreInRange}
use Rattle.tap_model.specs.Lines.{TapOpening, TapFault, NoLinkAt, TwiceAt, has, fault_at, links_opened_behind, fault_from, fault_of_tap_lines, opens_link, first_opening, tap_opening_of_link}
use Rattle.link_audit.specs.declared.opening.Opening.{Opening}
use Rattle.link_audit.specs.declared.openings.Openings.{Openings}
use Rattle.tap_model.specs.declared.audit_fault.AuditFault.{AuditFault}
use Rattle.tap_model.specs.declared.audit_fault.AuditFault.TheVariants.{NoLink, LinkTwice, Sink, NoMemory}
use Rattle.link_audit.specs.Openings.{tap_opening_of_kept, shown_of, opening_at, StandsForOpenedLinks, Passes, TakesTapLine, Checks}

-- ---- what is kept

shown_some : (x : Option Opening) → is_some (shown_of x) ≡ is_some x
shown_some None = refl
shown_some (Some o) = refl

pub none_opened : (n : ℕ) → 1 ≤ n → n ≤ 64 → opening_at (record { links = replicate 64 None }) n ≡ None
unfolding opening_at
none_opened n least most = ap shown_of (get_or-replicate 64 (n - 1) None None (omega arith))

-- what stands at its place, and none stands past all places
pub kept_at : (o : Openings) (n place : ℕ) (x : Option Opening) → place ≡ n - 1 → slice_index_or o.links place None ≡ x → shown_of x ≡ opening_at o n
unfolding opening_at
kept_at o n place x at is = ap shown_of (sym is ∙ ap (λ (k : ℕ). slice_index_or o.links k None) at)

-- whether a link was opened
pub is_kept : (x : Option Opening) (o : Openings) (n : ℕ) (found : Bool) → shown_of x ≡ opening_at o n → found ≡ is_some x → is_some (opening_at o n) ≡ found
is_kept x o n found shows is = ap (λ (y : Option TapOpening). is_some y) (sym shows) ∙ shown_some x ∙ sym is

module _ (o : Openings) (m : ℕ) (x : Opening) where
  -- with one more
  abbrev pub with_one : Openings
  with_one = record { links = slice_set o.links (m - 1) (Some x) }

  this_one : length o.links ≡ 64 → 1 ≤ m → m ≤ 64 → opening_at with_one m ≡ Some (tap_opening_of_kept x)
  unfolding opening_at
  this_one long least most = ap shown_of (get_or-set_same o.links (m - 1) (Some x) None (omega arith))

  another : (n : ℕ) → 1 ≤ m → 1 ≤ n → (n ≡ m → ⊥) → opening_at with_one n ≡ opening_at o n
  unfolding opening_at
  another n one least other = ap shown_of (get_or-set_other o.links (m - 1) (n - 1) (Some x) None (λ e. other (omega arith)))

-- ---- one line

eq_self : (n : ℕ) → (n == n) ≡ true
eq_self n = elim (eqb_tells n n) [
  | inl same ↦ same.0
  | inr other ↦ absurd (other.1 refl)
]

first_none : (x : Option TapOpening) → first_opening x None ≡ x
first_none None = refl
first_none (Some o) = refl

unopened : (x : Option TapOpening) → is_some x ≡ false → x ≡ None
unopened None e = refl
unopened (Some o) e = absurd cc

-- of a link that isn't opened
has_none : (opened : List ℕ) (o : Openings) (m : ℕ) → StandsForOpenedLinks opened o → 1 ≤ m → m ≤ 64 → is_some (opening_at o m) ≡ false → has m opened ≡ false
has_none opened o m stands least most none = stands m least most ∙ none

has_one : (opened : List ℕ) (o : Openings) (m : ℕ) → StandsForOpenedLinks opened o → 1 ≤ m → m ≤ 64 → is_some (opening_at o m) ≡ true → has m opened ≡ true
has_one opened o m stands least most one = stands m least most ∙ one

stands_more : (opened : List ℕ) (o : Openings) (m : ℕ) (x : Opening) → length o.links ≡ 64 → 1 ≤ m → m ≤ 64 → StandsForOpenedLinks opened o → StandsForOpenedLinks (m ∷ opened) (with_one o m x)
unfolding has
stands_more opened o m x long least most stands n one more = elim (cases_eq n m) [
  | inl same ↦ rw (same, eq_self m, this_one o m x long least most) refl
  | inr other ↦ rw (ne_eqb n m other, another o m x n least one other) (stands n one more)
]

opening_more : (o : Openings) (m engine rbc at n : ℕ) → length o.links ≡ 64 → 1 ≤ m → m ≤ 64 → is_some (opening_at o m) ≡ false → 1 ≤ n → n ≤ 64
    → opening_at (with_one o m (record { engine = engine; rbc = rbc; moment = at })) n ≡ first_opening (opening_at o n) (opens_link n (step.Link m engine rbc at))
opening_more o m engine rbc at n long least most none one more = elim (cases_eq n m) [
  | inl same ↦
      let empty = unopened (opening_at o m) none in
      rw (same, eq_self m, empty) (this_one o m (record { engine = engine; rbc = rbc; moment = at }) long least most)
  | inr other ↦
      rw (ne_eqb m n (λ e. other (sym e)), first_none (opening_at o n)) (another o m (record { engine = engine; rbc = rbc; moment = at }) n least one other)
]

pub link_passes : (o : Openings) (x : TapLine) (m engine rbc at : ℕ) → x.step ≡ step.Link m engine rbc at → length o.links ≡ 64 → IsInRange x.step
    → is_some (opening_at o m) ≡ false → Passes o (with_one o m (record { engine = engine; rbc = rbc; moment = at })) x
link_passes o x m engine rbc at is long ranged none =
    let range = rw is at ranged in
    record {
      stands = λ opened stands. rw (is, has_none opened o m stands range.0.0 range.0.1 none)
          (refl, stands_more opened o m (record { engine = engine; rbc = rbc; moment = at }) long range.0.0 range.0.1 stands);
      openings = λ n one more. rw is (opening_more o m engine rbc at n long range.0.0 range.0.1 none one more);
    }

pub link_twice : (o : Openings) (x : TapLine) (m engine rbc at : ℕ) → x.step ≡ step.Link m engine rbc at → IsInRange x.step
    → is_some (opening_at o m) ≡ true → (opened : List ℕ) → StandsForOpenedLinks opened o → fault_at opened x.line x.step ≡ Some (TwiceAt x.line m)
link_twice o x m engine rbc at is ranged one opened stands =
    let range = rw is at ranged in
    rw (is, has_one opened o m stands range.0.0 range.0.1 one) refl

pub octets_pass : (o : Openings) (x : TapLine) (m : ℕ) (side : Side) (text : List ℕ) → x.step ≡ step.Octets m side text → IsInRange x.step
    → is_some (opening_at o m) ≡ true → Passes o o x
octets_pass o x m side text is ranged one =
    let range = rw is at ranged in
    record {
      stands = λ opened stands. rw (is, has_one opened o m stands range.0.0 range.0.1 one) (refl, stands);
      openings = λ n least most. rw is (sym (first_none (opening_at o n)));
    }

pub no_link : (o : Openings) (x : TapLine) (m : ℕ) (side : Side) (text : List ℕ) → x.step ≡ step.Octets m side text → IsInRange x.step
    → is_some (opening_at o m) ≡ false → (opened : List ℕ) → StandsForOpenedLinks opened o → fault_at opened x.line x.step ≡ Some (NoLinkAt x.line m)
no_link o x m side text is ranged none opened stands =
    let range = rw is at ranged in
    rw (is, has_none opened o m stands range.0.0 range.0.1 none) refl

-- ---- all lines

-- lines passed, and these are left
pub record Checked (lines left : List TapLine) (o : Openings) : Type 0 where
  pub opened : List ℕ
  pub stands : StandsForOpenedLinks opened o
  pub faults : fault_from opened left ≡ fault_of_tap_lines lines
  pub openings : (n : ℕ) → 1 ≤ n → n ≤ 64 → first_opening (opening_at o n) (tap_opening_of_link n left) ≡ tap_opening_of_link n lines

pub none_checked : (lines : List TapLine) (o : Openings) → ((n : ℕ) → 1 ≤ n → n ≤ 64 → opening_at o n ≡ None) → Checked lines lines o
unfolding has
none_checked lines o none = record {
  opened = [];
  stands = λ n least most. rw (none n least most) refl;
  faults = refl;
  openings = λ n least most. rw (none n least most) refl;
}

first_assoc : (a b c : Option TapOpening) → first_opening (first_opening a b) c ≡ first_opening a (first_opening b c)
first_assoc None b c = refl
first_assoc (Some o) b c = refl

pub one_checked : (lines rest : List TapLine) (x : TapLine) (old new : Openings) → Checked lines (x ∷ rest) old → Passes old new x → Checked lines rest new
unfolding fault_from tap_opening_of_link
one_checked lines rest x old new was passes =
    let stood = passes.stands was.opened was.stands in
    record {
      opened = links_opened_behind x.step was.opened;
      stands = stood.1;
      faults = rw stood.0 at was.faults;
      openings = λ n least most.
          ap (λ (a : Option TapOpening). first_opening a (tap_opening_of_link n rest)) (passes.openings n least most)
          ∙ first_assoc (opening_at old n) (opens_link n x.step) (tap_opening_of_link n rest)
          ∙ was.openings n least most;
    }

pub one_refused : (lines rest : List TapLine) (x : TapLine) (o : Openings) (fault : TapFault) → Checked lines (x ∷ rest) o
    → ((opened : List ℕ) → StandsForOpenedLinks opened o → fault_at opened x.line x.step ≡ Some fault) → fault_of_tap_lines lines ≡ Some fault
unfolding fault_from
one_refused lines rest x o fault was refused =
    let here = refused was.opened was.stands in
    let all = was.faults in
    sym (rw here at all)

pub all_checked : (lines : List TapLine) (o : Openings) → Checked lines [] o
    → (fault_of_tap_lines lines ≡ None) × ((n : ℕ) → 1 ≤ n → n ≤ 64 → opening_at o n ≡ tap_opening_of_link n lines)
unfolding fault_from tap_opening_of_link
all_checked lines o was = (sym was.faults, λ n least most. sym (first_none (opening_at o n)) ∙ was.openings n least most)

-- what is refused of a line is refused of all
pub refused_checks : (lines left : List TapLine) (n : ℕ) (x : TapLine) (old new : Openings) (fault : AuditFault) → left ≡ x ∷ drop (n + 1) lines
    → Checked lines left old → TakesTapLine old new x (Err fault) → Checks lines (Err fault)
refused_checks lines left n x old new (NoLink line m) is was refused =
    one_refused lines (drop (n + 1) lines) x old (NoLinkAt line m) (subst (λ (l : List TapLine). Checked lines l old) is was) refused
refused_checks lines left n x old new (LinkTwice line m) is was refused =
    one_refused lines (drop (n + 1) lines) x old (TwiceAt line m) (subst (λ (l : List TapLine). Checked lines l old) is was) refused
refused_checks lines left n x old new Sink is was refused = absurd refused
refused_checks lines left n x old new (NoMemory want) is was refused = absurd refused

pub passed_checked : (lines left : List TapLine) (n : ℕ) (x : TapLine) (old new : Openings) → left ≡ x ∷ drop (n + 1) lines
    → Checked lines left old → Passes old new x → Checked lines (drop (n + 1) lines) new
passed_checked lines left n x old new is was passes =
    one_checked lines (drop (n + 1) lines) x old new (subst (λ (l : List TapLine). Checked lines l old) is was) passes

pub end_checked : (lines : List TapLine) (n : ℕ) (o : Openings) → length lines ≤ n → Checked lines (drop n lines) o
    → (fault_of_tap_lines lines ≡ None) × ((n : ℕ) → 1 ≤ n → n ≤ 64 → opening_at o n ≡ tap_opening_of_link n lines)
end_checked lines n o past was = all_checked lines o (subst (λ (l : List TapLine). Checked lines l o) (drop_all n lines past) was)

-- ---- ranges

behind_in_range : (n : ℕ) (lines : List TapLine) → AreInRange lines → AreInRange (drop n lines)
behind_in_range zero lines h = h
behind_in_range (suc n) [] h = tt
behind_in_range (suc n) (x ∷ lines) h = behind_in_range n lines h.1

first_in_range : (lines : List TapLine) (x : TapLine) (rest : List TapLine) → lines ≡ x ∷ rest → AreInRange lines → IsInRange x.step
first_in_range lines x rest is h = (subst AreInRange is h).0

-- the line at a place
pub line_in_range : (n : ℕ) (lines : List TapLine) (x : TapLine) → drop n lines ≡ x ∷ drop (n + 1) lines → AreInRange lines → IsInRange x.step
line_in_range n lines x is h = first_in_range (drop n lines) x (drop (n + 1) lines) is (behind_in_range n lines h)
