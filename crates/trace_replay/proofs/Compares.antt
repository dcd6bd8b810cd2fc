-- A recording held against what its replay prints: one line more, and the end.
use Rattle.std.proofs.Common.{arith, ◌≡◌, ℕ, suc, ◌+◌, ◌<◌, ◌==◌, Bool, true, false, if◌then◌else◌, List, [], ◌∷◌, length, nat_lt, Err, refl, sym, ap, ◌∙◌, inl, inr, eqb-true}
use Rattle.std.specs.Prelude.{filter}
use Rattle.std.proofs.lemmas.Bool.{cases_lt, lt-ltb, le-ltb}
use Rattle.std.specs.Str.{bytes_eq}
use Rattle.er_base.specs.Lines.{lines_of, is_skipped, onto_first_line}
use Rattle.er_settings.specs.Values.{Settings}
use Rattle.er_trace.specs.declared.entry.Entry.{Entry}
use Rattle.er_end_model.specs.Steps.{Finds}
use Rattle.trace_model.specs.declared.check_verdict.CheckVerdict.{CheckVerdict}
use Rattle.trace_model.specs.declared.check_verdict.CheckVerdict.TheVariants.{Same, Differs, Cut, Missing}
use Rattle.trace_model.specs.declared.replay_fault.ReplayFault.{ReplayFault}
use Rattle.trace_model.specs.declared.replay_fault.ReplayFault.TheVariants as fault
use Rattle.trace_model.specs.Recordings.{ended_part, unskipped, first_difference, is_outcome_line, check_verdict, IsJudged, IsChecked}
use Rattle.trace_replay.specs.Replays.{HasReplayedAll, ReplaysAll}
use Rattle.trace_replay.specs.Compared.{verdict_left}

lt_suc : (m n : ℕ) → nat_lt (suc m) (suc n) ≡ nat_lt m n
lt_suc m n =
    elim (cases_lt m n) [
      | inl below ↦ lt-ltb (suc m) (suc n) (omega (arith, below)) ∙ sym (lt-ltb m n below)
      | inr above ↦ le-ltb (suc m) (suc n) (omega (arith, above)) ∙ sym (le-ltb m n above)
    ]

-- ---- lines

module _ (number outcomes : ℕ) (line : List ℕ) (lines printed : List (List ℕ)) (is_cut : Bool) where
  -- a line that is skipped
  pub skipped_left : is_skipped line ≡ true → verdict_left number outcomes (line ∷ lines) printed is_cut ≡ verdict_left (number + 1) outcomes lines printed is_cut
  unfolding verdict_left unskipped
  skipped_left skipped =
      let count : number + length (line ∷ lines) + 1 ≡ number + 1 + length lines + 1 = omega arith in
      rw (skipped, count) refl

  -- a line behind all that are printed
  pub more_left : is_skipped line ≡ false → verdict_left number outcomes (line ∷ lines) [] is_cut ≡ Differs (number + 1)
  unfolding verdict_left unskipped first_difference
  more_left kept = rw kept refl

  -- another line
  pub other_left : (text : List ℕ) → is_skipped line ≡ false → bytes_eq line text ≡ false → verdict_left number outcomes (line ∷ lines) (text ∷ printed) is_cut ≡ Differs (number + 1)
  unfolding verdict_left unskipped first_difference
  other_left text kept other = rw (kept, other) refl

  -- the same line
  pub same_left : (text : List ℕ) (next : ℕ) → is_skipped line ≡ false → bytes_eq line text ≡ true
      → next + length (filter is_outcome_line printed) ≡ outcomes + length (filter is_outcome_line (text ∷ printed))
      → verdict_left number outcomes (line ∷ lines) (text ∷ printed) is_cut ≡ verdict_left (number + 1) next lines printed is_cut
  unfolding verdict_left unskipped first_difference
  same_left text next kept same count =
      let lines_count : number + length (line ∷ lines) + 1 ≡ number + 1 + length lines + 1 = omega arith in
      rw (kept, same, lines_count, sym count, lt_suc (length (unskipped (number + 1) lines)) (length printed)) refl

pub outcome_counted : (outcomes : ℕ) (text : List ℕ) (printed : List (List ℕ)) → is_outcome_line text ≡ true
    → outcomes + 1 + length (filter is_outcome_line printed) ≡ outcomes + length (filter is_outcome_line (text ∷ printed))
outcome_counted outcomes text printed is = rw is (omega arith)

pub event_counted : (outcomes : ℕ) (text : List ℕ) (printed : List (List ℕ)) → is_outcome_line text ≡ false
    → outcomes + length (filter is_outcome_line printed) ≡ outcomes + length (filter is_outcome_line (text ∷ printed))
event_counted outcomes text printed is = rw is refl

-- ---- no line is left

pub cut_left : (number outcomes : ℕ) (printed : List (List ℕ)) → verdict_left number outcomes [] printed true ≡ Cut (number + 1)
unfolding verdict_left unskipped first_difference
cut_left number outcomes printed = let none : number + 0 + 1 ≡ number + 1 = omega arith in rw none refl

missing_line : (number outcomes : ℕ) (printed : List (List ℕ)) → 0 < length printed → verdict_left number outcomes [] printed false ≡ Missing (number + 1)
unfolding verdict_left unskipped first_difference
missing_line number outcomes [] some = absurd (omega (arith, some))
missing_line number outcomes (text ∷ printed) some =
    let none : number + 0 + 1 ≡ number + 1 = omega arith in
    rw (none, lt-ltb 0 (length (text ∷ printed)) (omega arith)) refl

some_line : (x : ℕ) (xs : List ℕ) → 0 < length (lines_of (x ∷ xs))
unfolding lines_of
some_line x xs = some_by (x == 10) (lines_of xs)
  where
    onto : (ls : List (List ℕ)) → 0 < length (onto_first_line x ls)
    onto [] = omega arith
    onto (l ∷ ls) = omega arith

    some_by : (feed : Bool) (ls : List (List ℕ)) → 0 < length (if feed then [] ∷ ls else onto_first_line x ls)
    some_by true ls = omega arith
    some_by false ls = onto ls

pub missing_left : (number outcomes : ℕ) (text : List ℕ) → (length text == 0) ≡ false → verdict_left number outcomes [] (lines_of text) false ≡ Missing (number + 1)
missing_left number outcomes [] some = absurd cc
missing_left number outcomes (x ∷ xs) some = missing_line number outcomes (lines_of (x ∷ xs)) (some_line x xs)

pub all_left : (number outcomes : ℕ) (text : List ℕ) → (length text == 0) ≡ true → verdict_left number outcomes [] (lines_of text) false ≡ Same outcomes
unfolding verdict_left unskipped first_difference lines_of
all_left number outcomes [] none = let same : outcomes + 0 ≡ outcomes = omega arith in rw same refl
all_left number outcomes (x ∷ xs) none = absurd (let e = eqb-true (length (x ∷ xs)) 0 none in omega (arith, e))

-- ---- all lines

pub first_left : (file printed : List ℕ) → verdict_left 0 0 (lines_of (ended_part file)) (lines_of printed) (nat_lt (length (ended_part file)) (length file)) ≡ check_verdict file printed
unfolding verdict_left
first_left file printed =
    let count : 0 + length (lines_of (ended_part file)) + 1 ≡ length (lines_of (ended_part file)) + 1 = omega arith in
    let outcomes : 0 + length (filter is_outcome_line (lines_of printed)) ≡ length (filter is_outcome_line (lines_of printed)) = omega arith in
    rw (count, outcomes) refl

-- ---- a replay into memory

pub checked_all : (s : Settings) (f : Finds) (entries : List Entry) (file octets : List ℕ) (verdict : CheckVerdict)
    → HasReplayedAll s f entries [] octets → verdict ≡ check_verdict file octets → IsJudged s f entries file verdict
checked_all s f entries file octets verdict all is = record { taken = all.taken; is = is ∙ ap (check_verdict file) all.text }

pub checked_part : (s : Settings) (f : Finds) (entries : List Entry) (file out octets : List ℕ) (why : ReplayFault)
    → ReplaysAll s f entries out octets (Err why) → IsChecked s f entries file (Err why)
checked_part s f entries file out octets (fault.NoConn line conn) part = part.first
checked_part s f entries file out octets (fault.ConnTwice line conn) part = part.first
checked_part s f entries file out octets (fault.MomentBack line was moment) part = part.first
checked_part s f entries file out octets (fault.NoKey line engine rbc) part = part.first
checked_part s f entries file out octets (fault.Many line live) part = part.first
checked_part s f entries file out octets fault.Sink part = absurd part
checked_part s f entries file out octets (fault.NoMemory want) part = tt
