-- The verdict is that nothing differs exactly where the lines are the printed ones.
use Rattle.std.proofs.Common.{arith, ◌≡◌, ℕ, zero, suc, ◌+◌, ◌<◌, ◌≤◌, ◌==◌, ◌||◌, nat_lt, not, if◌then◌else◌, Bool, true, false, inl, inr, List, [], ◌∷◌, length, map, Option, Some, None, refl, sym, ap, ◌∙◌, subst, eqb-true}
use Rattle.std.specs.Prelude.{filter}
use Rattle.std.specs.Str.{bytes_eq}
use Rattle.std.proofs.lemmas.Bool.{cases_Bool, ltb-false, le-ltb}
use Rattle.std.proofs.lemmas.List.{length-map}
use Rattle.std.proofs.lemmas.Slice.Eq.{bytes_eq-Decides}
use Rattle.er_base.specs.Lines.{lines_of, is_skipped}
use Rattle.trace_model.specs.declared.check_verdict.CheckVerdict.{CheckVerdict}
use Rattle.trace_model.specs.declared.check_verdict.CheckVerdict.TheVariants.{Same, Differs, Cut, Missing}
use Rattle.trace_model.specs.Recordings.{has_line_feed, ended_part, NumberedLine, unskipped, first_difference, is_outcome_line, verdict_on_rest, verdict_with, verdict_on_lines, check_verdict}
use Rattle.trace_replay.specs.Laws.{IsEnded, IsPrinted, SameIsPrinted}

-- ---- ended files

short_of : (xs : List ℕ) → length (ended_part xs) ≤ length xs
unfolding ended_part
short_of [] = omega arith
short_of (x ∷ xs) =
    elim (cases_Bool (has_line_feed (x ∷ xs))) [
      | inl has ↦ rw has (let least = short_of xs in omega (arith, least))
      | inr none ↦ rw none (omega arith)
    ]

-- where nothing is left out
whole_has : (xs : List ℕ) → IsEnded xs → 0 < length xs → has_line_feed xs ≡ true
unfolding has_line_feed
whole_has [] ended some = absurd (omega (arith, some))
whole_has (x ∷ []) ended some = rw ended refl
whole_has (x ∷ y ∷ ys) ended some = rw (whole_has (y ∷ ys) ended (omega arith)) (or_true (x == 10))
  where
    or_true : (b : Bool) → (b || true) ≡ true
    or_true true = refl
    or_true false = refl

ended_whole : (xs : List ℕ) → IsEnded xs → ended_part xs ≡ xs
unfolding ended_part
ended_whole [] ended = refl
ended_whole (x ∷ []) ended = rw (whole_has (x ∷ []) ended (omega arith)) refl
ended_whole (x ∷ y ∷ ys) ended = rw (whole_has (x ∷ y ∷ ys) ended (omega arith)) (ap (λ (l : List ℕ). x ∷ l) (ended_whole (y ∷ ys) ended))

only_feed : (x : ℕ) → has_line_feed (x ∷ []) ≡ true → x ≡ 10
unfolding has_line_feed
only_feed x has =
    elim (cases_Bool (x == 10)) [
      | inl feed ↦ eqb-true x 10 feed
      | inr other ↦ absurd (let none : false ≡ true = rw other at has in cc)
    ]

whole_ended : (xs : List ℕ) → length xs ≤ length (ended_part xs) → (IsEnded xs) × (ended_part xs ≡ xs)
unfolding ended_part
whole_ended [] long = (tt, refl)
whole_ended (x ∷ []) long =
    elim (cases_Bool (has_line_feed (x ∷ []))) [
      | inl has ↦ rw has (only_feed x has, refl)
      | inr none ↦ absurd (let no = rw none at long in omega (arith, no))
    ]
whole_ended (x ∷ y ∷ ys) long =
    elim (cases_Bool (has_line_feed (x ∷ y ∷ ys))) [
      | inl has ↦
          let rest = whole_ended (y ∷ ys) (let least = rw has at long in omega (arith, least)) in
          rw has (rest.0, ap (λ (l : List ℕ). x ∷ l) rest.1)
      | inr none ↦ absurd (let no = rw none at long in omega (arith, no))
    ]

-- ---- lines

abbrev octets_of : List NumberedLine → List (List ℕ)
octets_of lines = map (λ l. l.octets) lines

kept_octets : (before : ℕ) (lines : List (List ℕ)) → octets_of (unskipped before lines) ≡ filter (λ line. not (is_skipped line)) lines
unfolding unskipped
kept_octets before [] = refl
kept_octets before (line ∷ lines) =
    elim (cases_Bool (is_skipped line)) [
      | inl skipped ↦ rw skipped (kept_octets (before + 1) lines)
      | inr kept ↦ rw kept (ap (λ (l : List (List ℕ)). line ∷ l) (kept_octets (before + 1) lines))
    ]

none_some : {A : Type 0} (x : A) → Some x ≡ None → ⊥
none_some x e = cc

-- no line differs and none is missing
no_difference : (lines : List NumberedLine) (printed : List (List ℕ)) → first_difference lines printed ≡ None → length printed ≤ length lines → octets_of lines ≡ printed
unfolding first_difference
no_difference [] [] none few = refl
no_difference [] (text ∷ printed) none few = absurd (omega (arith, few))
no_difference (line ∷ lines) [] none few = absurd (none_some line.number none)
no_difference (line ∷ lines) (text ∷ printed) none few =
    elim (cases_Bool (bytes_eq line.octets text)) [
      | inl same ↦
          let rest = rw same at none in
          rw ((bytes_eq-Decides line.octets text).0 same) (ap (λ (l : List (List ℕ)). text ∷ l) (no_difference lines printed rest (omega (arith, few))))
      | inr other ↦ absurd (let some = rw other at none in none_some line.number some)
    ]

same_lines : (lines : List NumberedLine) (printed : List (List ℕ)) → octets_of lines ≡ printed → (first_difference lines printed ≡ None) × (length lines ≡ length printed)
unfolding first_difference
same_lines lines printed is = rw (sym is) (to_itself lines, sym (length-map lines (λ l. l.octets)))
  where
    to_itself : (lines : List NumberedLine) → first_difference lines (octets_of lines) ≡ None
    to_itself [] = refl
    to_itself (line ∷ lines) = rw ((bytes_eq-Decides line.octets line.octets).1 refl) (to_itself lines)

-- ---- the verdict

-- what it says where it says the same
pub record IsSame (difference : Option ℕ) (cut missing : Bool) : Type 0 where
  pub none : difference ≡ None
  pub whole : cut ≡ false
  pub all : missing ≡ false

same_says : (difference : Option ℕ) (next : ℕ) (cut missing : Bool) (outcomes k : ℕ) → verdict_with difference (verdict_on_rest next cut missing outcomes) ≡ Same k → IsSame difference cut missing
same_says (Some line) next cut missing outcomes k is = absurd cc
same_says None next true missing outcomes k is = absurd cc
same_says None next false true outcomes k is = absurd cc
same_says None next false false outcomes k is = record { none = refl; whole = refl; all = refl }

pub same_is_printed : SameIsPrinted
same_is_printed = record {
  printed = λ file printed outcomes is.
      let lines = unskipped 0 (lines_of (ended_part file)) in
      let says = same_says (first_difference lines (lines_of printed)) (length (lines_of (ended_part file)) + 1) (nat_lt (length (ended_part file)) (length file))
      (nat_lt (length lines) (length (lines_of printed))) (length (filter is_outcome_line (lines_of printed))) outcomes is in
      let whole = whole_ended file (ltb-false (length (ended_part file)) (length file) says.whole) in
      record {
        ended = whole.0;
        lines =
            subst (λ (f : List ℕ). filter (λ line. not (is_skipped line)) (lines_of f) ≡ lines_of printed) whole.1
            (sym (kept_octets 0 (lines_of (ended_part file)))
            ∙ no_difference lines (lines_of printed) says.none (ltb-false (length lines) (length (lines_of printed)) says.all));
      };
  same = λ file printed is.
      let whole = ended_whole file is.ended in
      let same = same_lines (unskipped 0 (lines_of file)) (lines_of printed) (kept_octets 0 (lines_of file) ∙ is.lines) in
      let full = le-ltb (length file) (length file) (omega arith) in
      let all = le-ltb (length (lines_of printed)) (length (lines_of printed)) (omega arith) in
      (length (filter is_outcome_line (lines_of printed)), rw (whole, same.0, same.1, full, all) refl);
}
