-- Lines of other sides and links, and the next one that has the mark.
use Rattle.std.proofs.Common.{arith, ◌≡◌, ℕ, zero, suc, ◌+◌, ◌==◌, ◌<◌, ◌≤◌, if◌then◌else◌, true, inl, inr, List, [], ◌∷◌, ◌++◌, length, map, take, drop, get_or, Some, None, refl, ap, sym, ◌∙◌}
use Rattle.std.proofs.lemmas.Bool.{cases_Bool, eqb-true, eq-eqb}
use Rattle.std.proofs.lemmas.List.{drop_all, drop-map, length-map, map-append, take_more}
use Rattle.std.specs.Prelude.{Option, MatchOption, IfSome}
use Rattle.memchr.specs.Find.{IsFirstByte, is_byte}
use Rattle.er_base.specs.declared.side.Side.{Side}
use Rattle.er_base.specs.declared.side.Side.TheVariants.{E, R}
use Rattle.er_tap.specs.declared.tap_line.TapLine.{TapLine}
use Rattle.er_tap.specs.declared.tap_step.TapStep.{TapStep}
use Rattle.er_tap.specs.declared.tap_step.TapStep.TheVariants.{Link, Octets}
use Rattle.tap_model.specs.Lines.{is_side, piece_of, stream_of}
use Rattle.link_audit.specs.Marks.{mark_of_link_side, mark_in, marks_in}

-- octets of another mark are another's
other_side : (link m : ℕ) (side of : Side) (text : List ℕ) → m ≡ link → (mark_of_link_side m of ≡ mark_of_link_side link side → ⊥) → (if is_side side of then text else []) ≡ []
other_side link m E E text same other = absurd (other (ap (λ n. mark_of_link_side n E) same))
other_side link m E R text same other = refl
other_side link m R E text same other = refl
other_side link m R R text same other = absurd (other (ap (λ n. mark_of_link_side n R) same))

other_piece : (link : ℕ) (side : Side) (step : TapStep) → (mark_in step ≡ mark_of_link_side link side → ⊥) → piece_of link side step ≡ []
other_piece link side (Link m engine rbc moment) other = refl
other_piece link side (Octets m of text) other =
    elim (cases_Bool (m == link)) [
      | inl same ↦ rw same (other_side link m side of text (eqb-true m link same) other)
      | inr apart ↦ rw apart refl
    ]

-- lines of other marks bring nothing
skipped : (link : ℕ) (side : Side) (lines : List TapLine) (count : ℕ) → count ≤ length lines
    → ((k : ℕ) → k < count → get_or (marks_in lines) k 0 ≡ mark_of_link_side link side → ⊥) → stream_of link side lines ≡ stream_of link side (drop count lines)
unfolding stream_of marks_in
skipped link side lines zero within none = refl
skipped link side [] (suc count) within none = absurd (omega arith)
skipped link side (x ∷ lines) (suc count) within none =
    let first = other_piece link side x.step (none 0 (omega arith)) in
    rw first (skipped link side lines count (omega arith) (λ k below. none (suc k) (omega arith)))

module _ (link : ℕ) (side : Side) (lines : List TapLine) (marks : List ℕ) (are : marks ≡ marks_in lines) where
  pub same_length : length marks ≡ length lines
  unfolding marks_in
  same_length = ap length are ∙ length-map lines (λ x. mark_in x.step)

  not_at : (k : ℕ) → ((get_or marks k 0 == mark_of_link_side link side) ≡ true → ⊥) → get_or (marks_in lines) k 0 ≡ mark_of_link_side link side → ⊥
  not_at k other same = other (eq-eqb (get_or marks k 0) (mark_of_link_side link side) (ap (λ (l : List ℕ). get_or l k 0) are ∙ same))

  -- where a search for the mark stops
  pub searched : (r : Option ℕ) → IsFirstByte (is_byte (mark_of_link_side link side)) marks r
      → MatchOption r (stream_of link side lines ≡ []) (λ count. stream_of link side lines ≡ stream_of link side (drop count lines))
      × IfSome r (λ count. count < length lines)
  unfolding stream_of
  searched None nowhere =
      let all = same_length in (
        skipped link side lines (length lines) (omega arith) (λ k below. not_at k (nowhere k (omega arith) (omega (arith, below, all))))
            ∙ ap (stream_of link side) (drop_all (length lines) lines (omega arith)),
        tt,
      )
  searched (Some count) first =
      let all = same_length in
      let high = first.0.high in
      (skipped link side lines count (omega (arith, high, all)) (λ k below. not_at k (first.0.before k (omega arith) below)), omega (arith, high, all))

-- the next piece, and what is left
pub piece_then : (link : ℕ) (side : Side) (lines rest : List TapLine) (x : TapLine) (count : ℕ) → stream_of link side lines ≡ stream_of link side (drop count lines)
    → drop count lines ≡ x ∷ rest → stream_of link side lines ≡ piece_of link side x.step ++ stream_of link side rest
unfolding stream_of
piece_then link side lines rest x count skips is = skips ∙ ap (stream_of link side) is

-- the marks of what is left
pub marks_left : (lines : List TapLine) (marks : List ℕ) (count : ℕ) → marks ≡ marks_in lines → drop count marks ≡ marks_in (drop count lines)
unfolding marks_in
marks_left lines marks count are = ap (λ (l : List ℕ). drop count l) are ∙ drop-map (λ (x : TapLine). mark_in x.step) count lines

-- the marks so far
pub no_marks : (marks : List ℕ) → marks ≡ [] → marks ≡ marks_in []
unfolding marks_in
no_marks marks none = none

pub mark_more : (lines : List TapLine) (marks : List ℕ) (i : ℕ) (x : TapLine) → i < length lines → x ≡ get_or lines i x → marks ≡ marks_in (take i lines)
    → marks ++ mark_in x.step ∷ [] ≡ marks_in (take (i + 1) lines)
unfolding marks_in
mark_more lines marks i x within is so_far =
    let mark = λ (y : TapLine). mark_in y.step in
    ap (λ (l : List ℕ). l ++ mark x ∷ []) so_far
    ∙ sym (map-append mark (take i lines) (x ∷ []))
    ∙ ap (map mark) (ap (λ (y : TapLine). take i lines ++ y ∷ []) is ∙ sym (take_more lines i x within))
