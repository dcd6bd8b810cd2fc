-- From the printed lines all is told again that came and is printed: they are lines of words, and the words of a line tell what it says.
use Rattle.std.proofs.Common.{◌≡◌, ℕ, ◌+◌, ◌<◌, ◌^◌, nat_lt, Bool, true, false, inl, inr, List, [], ◌∷◌, ◌++◌, length, map, codes, refl, sym, ap, ap₂, subst, ◌∙◌, append-nil, append_assoc, if◌then◌else◌}
use Rattle.std.specs.Prelude.{Option, Some, None}
use Rattle.std.specs.List.{flat_map, list_all, AllByRecursion}
use Rattle.std.specs.Fmt.{decimal}
use Rattle.std.specs.Str.{bytes_eq}
use Rattle.std.proofs.lemmas.Bool.{cases_Bool, ltb-true}
use Rattle.er_base.specs.declared.side.Side.{Side}
use Rattle.er_base.specs.declared.side.Side.TheVariants.{E, R}
use Rattle.er_base.specs.Hexadecimal.{hex_of, octets_spelled, IsReadBack}
use Rattle.er_base.specs.Lines.{Row, lines_of, rows_of}
use Rattle.er_base.specs.LineTexts.{line_end, line_text, lines_text, AreSolid, IsSolid, AreWords, IsLine, AreLines, rows_from, LinesAreReadBack, WordsAreReadBack}
use Rattle.er_base.specs.Numbers.{decimal_of, NamesWhatIsPrinted}
use Rattle.er_base.specs.Octets.{AreOctets}
use Rattle.er_base.specs.Sides.{side_word, side_of}
use Rattle.er_scenario.specs.declared.scenario.Scenario.{Scenario}
use Rattle.safety_pair_laws.specs.Facts.{Connected, Accepted}
use Rattle.er_end_model.specs.Outcomes.{SendRefusal, RefusedReleased, RefusedNotConnected, RefusedLength, RefusedFull}
use Rattle.drill_model.specs.Outcomes.{DrillOutcome, OfSafety, Arrived, Up, Took, NothingToTake, Refused, Released, Frame, NothingWaits, IsShort}
use Rattle.drill_model.specs.Worlds.{plan_of, steps_of, world_run}
use Rattle.drill_model.specs.Marks.{MarkedCame, MarkedOn, MarkedDrain, marks_from}
use Rattle.drill_model.specs.Texts.{head, release_words, up_line, connected_line, accepted_line, taken_line, none_line, refused_line, released_line, frame_line, empty_line, short_line, passes_line, outcome_line, came_line, lines, drill_text}
use Rattle.drill_model.specs.PrintedCounts.{Closing, closing_words, HasClosingLines, LinksAreClosed}
use Rattle.drill_model.specs.PrintedWords.{Saying, SaysUp, SaysConnected, SaysAccepted, SaysTaken, SaysNothingToTake, SaysRefusedReleased, SaysRefusedNotConnected, SaysRefusedLength, SaysRefusedFull, SaysReleased, SaysFrame, SaysNothingWaits, SaysShort, PrintedLine, OfEnd, OfDrain, OfClosing, said_of, told_of, told_of_closing, told, text_with_closings, FitsSaying, FitsLine, TextReadsBack, TellsOfDrill, DrillsAreTold, DrillTextReadsBack}

-- ---- the words of a line

abbrev mark_words : Bool → List (List ℕ)
mark_words true = codes "forged" ∷ []
mark_words false = []

abbrev who_words : Bool → List (List ℕ)
who_words true = codes "peer" ∷ []
who_words false = codes "local" ∷ []

abbrev saying_words : Saying → List (List ℕ)
saying_words SaysUp = codes "up" ∷ []
saying_words (SaysConnected peer forged) = codes "connected" ∷ decimal peer ∷ mark_words forged
saying_words (SaysAccepted octets forged) = codes "accepted" ∷ hex_of octets ∷ mark_words forged
saying_words (SaysTaken octets) = codes "taken" ∷ hex_of octets ∷ []
saying_words SaysNothingToTake = codes "none" ∷ []
saying_words (SaysRefusedReleased reason sub) = codes "refused" ∷ codes "released" ∷ decimal reason ∷ decimal sub ∷ []
saying_words SaysRefusedNotConnected = codes "refused" ∷ codes "notconnected" ∷ []
saying_words (SaysRefusedLength found) = codes "refused" ∷ codes "length" ∷ decimal found ∷ []
saying_words (SaysRefusedFull waiting) = codes "refused" ∷ codes "full" ∷ decimal waiting ∷ []
saying_words (SaysReleased reason sub by_peer) = codes "released" ∷ decimal reason ∷ decimal sub ∷ who_words by_peer
saying_words (SaysFrame octets) = codes "frame" ∷ hex_of octets ∷ []
saying_words SaysNothingWaits = codes "empty" ∷ []
saying_words (SaysShort found) = codes "short" ∷ decimal found ∷ []

abbrev words_of_line : PrintedLine → List (List ℕ)
words_of_line (OfEnd link side saying) = decimal link ∷ side_word side ∷ saying_words saying
words_of_line (OfDrain link passes) = decimal link ∷ codes "passes" ∷ decimal passes ∷ []
words_of_line (OfClosing link passes from_e from_r) =
    decimal link ∷ codes "end" ∷ codes "passes" ∷ decimal passes ∷ codes "waiting" ∷ decimal from_e ∷ decimal from_r ∷ []

lines_text_append : (a b : List (List (List ℕ))) → lines_text (a ++ b) ≡ lines_text a ++ lines_text b
lines_text_append [] b = refl
lines_text_append (line ∷ others) b =
    ap (λ (t : List ℕ). line_text line ++ t) (lines_text_append others b)
    ∙ sym (append_assoc (line_text line) (lines_text others) (lines_text b))

-- ---- the printed lines are these words

abbrev text_of : PrintedLine → List ℕ
text_of line = line_text (words_of_line line)

refusal_text : (n : ℕ) (side : Side) (refusal : SendRefusal)
    → refused_line n side refusal ≡ lines_text (map words_of_line (map (OfEnd n side) (said_of false (Refused refusal) false)))
unfolding refused_line head release_words line_text line_end
refusal_text n side (RefusedReleased release) = simp (append_assoc, append-nil)
refusal_text n side RefusedNotConnected = simp (append_assoc, append-nil)
refusal_text n side (RefusedLength found) = simp (append_assoc, append-nil)
refusal_text n side (RefusedFull waiting) = simp (append_assoc, append-nil)

connected_text : (n : ℕ) (side : Side) (peer : ℕ) (forged : Bool)
    → connected_line n side peer forged ≡ lines_text (map words_of_line (OfEnd n side (SaysConnected peer forged) ∷ []))
unfolding connected_line head line_text line_end
connected_text n side peer true = simp (append_assoc, append-nil)
connected_text n side peer false = simp (append_assoc, append-nil)

accepted_text : (n : ℕ) (side : Side) (user : List ℕ) (forged : Bool)
    → accepted_line n side user forged ≡ lines_text (map words_of_line (OfEnd n side (SaysAccepted user forged) ∷ []))
unfolding accepted_line head line_text line_end
accepted_text n side user true = simp (append_assoc, append-nil)
accepted_text n side user false = simp (append_assoc, append-nil)

released_text : (n : ℕ) (side : Side) (reason sub : ℕ) (by_peer : Bool)
    → released_line n side (record { reason = reason; sub = sub; by_peer = by_peer })
    ≡ lines_text (map words_of_line (OfEnd n side (SaysReleased reason sub by_peer) ∷ []))
unfolding released_line head release_words line_text line_end
released_text n side reason sub true = simp (append_assoc, append-nil)
released_text n side reason sub false = simp (append_assoc, append-nil)

abbrev TextIs : Bool → ℕ → Side → DrillOutcome → Bool → Type 0
TextIs show n side o forged = outcome_line show n side o forged ≡ lines_text (map words_of_line (map (OfEnd n side) (said_of show o forged)))

frame_text : (show : Bool) (n : ℕ) (side : Side) (octets : List ℕ) (forged : Bool) → TextIs show n side (Frame octets) forged
unfolding frame_line head line_text line_end
frame_text true n side octets forged = simp (append_assoc, append-nil)
frame_text false n side octets forged = refl

outcome_text : (show : Bool) (n : ℕ) (side : Side) (o : DrillOutcome) (forged : Bool) → TextIs show n side o forged
unfolding up_line taken_line none_line empty_line short_line head line_text line_end
outcome_text show n side (OfSafety (Connected heard connection text)) forged = connected_text n side connection.peer forged
outcome_text show n side (OfSafety (Accepted heard user key text)) forged = accepted_text n side user forged
outcome_text show n side (OfSafety fact) forged = refl
outcome_text show n side (Arrived payload) forged = accepted_text n side payload false
outcome_text show n side Up forged = simp (append_assoc, append-nil)
outcome_text show n side (Took message) forged = simp (append_assoc, append-nil)
outcome_text show n side NothingToTake forged = simp (append_assoc, append-nil)
outcome_text show n side (Refused refusal) forged = refusal_text n side refusal
outcome_text show n side (Released release) forged = released_text n side release.reason release.sub release.by_peer
outcome_text show n side (Frame octets) forged = frame_text show n side octets forged
outcome_text show n side NothingWaits forged = simp (append_assoc, append-nil)
outcome_text show n side (IsShort found) forged = simp (append_assoc, append-nil)
outcome_text show n side _ forged = refl

came_text : (show : Bool) (c : MarkedCame) → came_line show c ≡ lines_text (map words_of_line (told_of show c))
unfolding passes_line line_text line_end
came_text show (MarkedOn link m) = outcome_text show link m.side m.outcome m.forged
came_text show (MarkedDrain link passes) = simp (append_assoc, append-nil)

map_append : (xs ys : List PrintedLine) → map words_of_line (xs ++ ys) ≡ map words_of_line xs ++ map words_of_line ys
map_append [] ys = refl
map_append (x ∷ xs) ys = ap (λ (l : List (List (List ℕ))). words_of_line x ∷ l) (map_append xs ys)

lines_are : (show : Bool) (came : List MarkedCame) → lines show came ≡ lines_text (map words_of_line (flat_map (told_of show) came))
lines_are show [] = refl
lines_are show (c ∷ came) =
    ap₂ (λ (a b : List ℕ). a ++ b) (came_text show c) (lines_are show came)
    ∙ sym (lines_text_append (map words_of_line (told_of show c)) (map words_of_line (flat_map (told_of show) came)))
    ∙ ap lines_text (sym (map_append (told_of show c) (flat_map (told_of show) came)))

closings_are : (closings : List Closing) → map closing_words closings ≡ map words_of_line (map told_of_closing closings)
closings_are [] = refl
closings_are (c ∷ closings) = ap (λ (l : List (List (List ℕ))). closing_words c ∷ l) (closings_are closings)

text_is : (show : Bool) (came : List MarkedCame) (closings : List Closing)
    → text_with_closings show came closings ≡ lines_text (map words_of_line (told show came closings))
text_is show came closings =
    let first : List PrintedLine = flat_map (told_of show) came in
    let last : List PrintedLine = map told_of_closing closings in
    ap₂ (λ (a b : List ℕ). a ++ b) (lines_are show came) (ap lines_text (closings_are closings))
    ∙ sym (lines_text_append (map words_of_line first) (map words_of_line last))
    ∙ ap lines_text (sym (map_append first last))

-- ---- the words stand by themselves

solid_from : (word : List ℕ) → list_all (λ x. nat_lt 35 x) word ≡ true → AreSolid word
solid_from [] h = tt
solid_from (x ∷ word) h =
    elim (cases_Bool (nat_lt 35 x)) [
      | inl t ↦ (ltb-true 35 x t, solid_from word (rw t at h))
      | inr f ↦ let e : false ≡ true = rw f at h in absurd (cc)
    ]

-- a word that is written out
solid : (word : List ℕ) → nat_lt 0 (length word) ≡ true → list_all (λ x. nat_lt 35 x) word ≡ true → IsSolid word
solid word some all = record { some = ltb-true 0 (length word) some; octets = solid_from word all }

mark_solid : (forged : Bool) → AreWords (mark_words forged)
mark_solid true = (solid (codes "forged") refl refl, tt)
mark_solid false = tt

who_solid : (by_peer : Bool) → AreWords (who_words by_peer)
who_solid true = (solid (codes "peer") refl refl, tt)
who_solid false = (solid (codes "local") refl refl, tt)

module _ (words : WordsAreReadBack) where
  saying_solid : (s : Saying) → FitsSaying s → AreWords (saying_words s)
  saying_solid SaysUp h = (solid (codes "up") refl refl, tt)
  saying_solid (SaysConnected peer forged) h = (solid (codes "connected") refl refl, (words.number_word peer h, mark_solid forged))
  saying_solid (SaysAccepted octets forged) h = (solid (codes "accepted") refl refl, (words.octets_word octets h, mark_solid forged))
  saying_solid (SaysTaken octets) h = (solid (codes "taken") refl refl, (words.octets_word octets h, tt))
  saying_solid SaysNothingToTake h = (solid (codes "none") refl refl, tt)
  saying_solid (SaysRefusedReleased reason sub) h =
      (solid (codes "refused") refl refl, (solid (codes "released") refl refl, (words.number_word reason h.0, (words.number_word sub h.1, tt))))
  saying_solid SaysRefusedNotConnected h = (solid (codes "refused") refl refl, (solid (codes "notconnected") refl refl, tt))
  saying_solid (SaysRefusedLength found) h =
      (solid (codes "refused") refl refl, (solid (codes "length") refl refl, (words.number_word found h, tt)))
  saying_solid (SaysRefusedFull waiting) h =
      (solid (codes "refused") refl refl, (solid (codes "full") refl refl, (words.number_word waiting h, tt)))
  saying_solid (SaysReleased reason sub by_peer) h =
      (solid (codes "released") refl refl, (words.number_word reason h.0, (words.number_word sub h.1, who_solid by_peer)))
  saying_solid (SaysFrame octets) h = (solid (codes "frame") refl refl, (words.octets_word octets h, tt))
  saying_solid SaysNothingWaits h = (solid (codes "empty") refl refl, tt)
  saying_solid (SaysShort found) h = (solid (codes "short") refl refl, (words.number_word found h, tt))

  line_solid : (line : PrintedLine) → FitsLine line → IsLine (words_of_line line)
  line_solid (OfEnd link side saying) h = (words.number_word link h.0, (words.side_is_word side, saying_solid saying h.1))
  line_solid (OfDrain link passes) h = (words.number_word link h.0, (solid (codes "passes") refl refl, (words.number_word passes h.1, tt)))
  line_solid (OfClosing link passes from_e from_r) h =
      let waiting : AreWords (codes "waiting" ∷ decimal from_e ∷ decimal from_r ∷ []) =
      (solid (codes "waiting") refl refl, (words.number_word from_e h.2, (words.number_word from_r h.3, tt))) in
      (words.number_word link h.0, (solid (codes "end") refl refl, (solid (codes "passes") refl refl, (words.number_word passes h.1, waiting))))

  lines_solid : (told_lines : List PrintedLine) → AllByRecursion FitsLine told_lines → AreLines (map words_of_line told_lines)
  lines_solid [] h = tt
  lines_solid (line ∷ others) h = (line_solid line h.0, lines_solid others h.1)

-- ---- what the words of a line say

abbrev given : {A B : Type 0} → Option A → (A → Option B) → Option B
given None f = None
given (Some x) f = f x

-- whether a word stands there; whether it is `peer`
abbrev mark_in : List (List ℕ) → Bool
mark_in [] = false
mark_in (word ∷ words) = true

abbrev by_peer_in : List (List ℕ) → Bool
by_peer_in [] = false
by_peer_in (word ∷ words) = bytes_eq word (codes "peer")

abbrev number_said : (ℕ → Saying) → List (List ℕ) → Option Saying
number_said made [] = None
number_said made (word ∷ words) = given (decimal_of word) (λ n. Some (made n))

abbrev octets_said : (List ℕ → Saying) → List (List ℕ) → Option Saying
octets_said made [] = None
octets_said made (word ∷ words) = given (octets_spelled word) (λ octets. Some (made octets))

abbrev release_said : (ℕ → ℕ → Saying) → List (List ℕ) → Option Saying
release_said made [] = None
release_said made (reason ∷ []) = None
release_said made (reason ∷ sub ∷ words) = given (decimal_of reason) (λ n. given (decimal_of sub) (λ m. Some (made n m)))

abbrev marked_number : List (List ℕ) → Option Saying
marked_number [] = None
marked_number (word ∷ words) = given (decimal_of word) (λ n. Some (SaysConnected n (mark_in words)))

abbrev marked_octets : List (List ℕ) → Option Saying
marked_octets [] = None
marked_octets (word ∷ words) = given (octets_spelled word) (λ octets. Some (SaysAccepted octets (mark_in words)))

abbrev released_said : List (List ℕ) → Option Saying
released_said [] = None
released_said (reason ∷ []) = None
released_said (reason ∷ sub ∷ words) =
    given (decimal_of reason) (λ n. given (decimal_of sub) (λ m. Some (SaysReleased n m (by_peer_in words))))

abbrev refused_said : List (List ℕ) → Option Saying
refused_said [] = None
refused_said (why ∷ words) =
    if bytes_eq why (codes "released") then release_said SaysRefusedReleased words
    else if bytes_eq why (codes "notconnected") then Some SaysRefusedNotConnected
    else if bytes_eq why (codes "length") then number_said SaysRefusedLength words
    else number_said SaysRefusedFull words

abbrev saying_in : List (List ℕ) → Option Saying
saying_in [] = None
saying_in (name ∷ words) =
    if bytes_eq name (codes "up") then Some SaysUp
    else if bytes_eq name (codes "connected") then marked_number words
    else if bytes_eq name (codes "accepted") then marked_octets words
    else if bytes_eq name (codes "taken") then octets_said SaysTaken words
    else if bytes_eq name (codes "none") then Some SaysNothingToTake
    else if bytes_eq name (codes "refused") then refused_said words
    else if bytes_eq name (codes "released") then released_said words
    else if bytes_eq name (codes "frame") then octets_said SaysFrame words
    else if bytes_eq name (codes "empty") then Some SaysNothingWaits
    else number_said SaysShort words

abbrev passes_in_line : (link : ℕ) → List (List ℕ) → Option PrintedLine
passes_in_line link [] = None
passes_in_line link (word ∷ words) = given (decimal_of word) (λ passes. Some (OfDrain link passes))

abbrev closing_in_line : (link : ℕ) → List (List ℕ) → Option PrintedLine
closing_in_line link (of_passes ∷ passes ∷ of_waiting ∷ from_e ∷ from_r ∷ []) =
    given (decimal_of passes) (λ n. given (decimal_of from_e) (λ e. given (decimal_of from_r) (λ r. Some (OfClosing link n e r))))
closing_in_line link words = None

abbrev line_in : List (List ℕ) → Option PrintedLine
line_in [] = None
line_in (number ∷ []) = None
line_in (number ∷ second ∷ words) =
    given (decimal_of number) (λ link.
    if bytes_eq second (codes "passes") then passes_in_line link words
    else if bytes_eq second (codes "end") then closing_in_line link words
    else given (side_of second) (λ side. given (saying_in words) (λ saying. Some (OfEnd link side saying))))

module _ (names : NamesWhatIsPrinted) (spelled : IsReadBack) where
  number : (n : ℕ) → n < 2 ^ 64 → decimal_of (decimal n) ≡ Some n
  number n h = (names (decimal n) n).1 (h, refl)

  octets_back : (octets : List ℕ) → AreOctets octets → octets_spelled (hex_of octets) ≡ Some octets
  octets_back octets h = spelled octets (λ k within. h k)

  saying_back : (s : Saying) → FitsSaying s → saying_in (saying_words s) ≡ Some s
  saying_back SaysUp h = refl
  saying_back (SaysConnected peer true) h = rw (number peer h) refl
  saying_back (SaysConnected peer false) h = rw (number peer h) refl
  saying_back (SaysAccepted octets true) h = rw (octets_back octets h) refl
  saying_back (SaysAccepted octets false) h = rw (octets_back octets h) refl
  saying_back (SaysTaken octets) h = rw (octets_back octets h) refl
  saying_back SaysNothingToTake h = refl
  saying_back (SaysRefusedReleased reason sub) h = rw (number reason h.0) (rw (number sub h.1) refl)
  saying_back SaysRefusedNotConnected h = refl
  saying_back (SaysRefusedLength found) h = rw (number found h) refl
  saying_back (SaysRefusedFull waiting) h = rw (number waiting h) refl
  saying_back (SaysReleased reason sub true) h = rw (number reason h.0) (rw (number sub h.1) refl)
  saying_back (SaysReleased reason sub false) h = rw (number reason h.0) (rw (number sub h.1) refl)
  saying_back (SaysFrame octets) h = rw (octets_back octets h) refl
  saying_back SaysNothingWaits h = refl
  saying_back (SaysShort found) h = rw (number found h) refl

  line_back : (line : PrintedLine) → FitsLine line → line_in (words_of_line line) ≡ Some line
  line_back (OfEnd link E saying) h = rw (number link h.0, saying_back saying h.1) refl
  line_back (OfEnd link R saying) h = rw (number link h.0, saying_back saying h.1) refl
  line_back (OfDrain link passes) h = rw (number link h.0) (rw (number passes h.1) refl)
  line_back (OfClosing link passes from_e from_r) h =
      rw (number link h.0) (rw (number passes h.1) (rw (number from_e h.2) (rw (number from_r h.3) refl)))

  -- two lines of the same words are one
  same_lines : (xs ys : List PrintedLine) → AllByRecursion FitsLine xs → AllByRecursion FitsLine ys
      → map words_of_line xs ≡ map words_of_line ys → xs ≡ ys
  same_lines [] [] hx hy e = refl
  same_lines [] (y ∷ ys) hx hy e = absurd cc
  same_lines (x ∷ xs) [] hx hy e = absurd cc
  same_lines (x ∷ xs) (y ∷ ys) hx hy e =
      let first : words_of_line x ≡ words_of_line y = ap first_of e in
      let rest : map words_of_line xs ≡ map words_of_line ys = ap rest_of e in
      ap₂ (λ (a : PrintedLine) (b : List PrintedLine). a ∷ b) (some_same x y (sym (line_back x hx.0) ∙ ap line_in first ∙ line_back y hy.0))
      (same_lines xs ys hx.1 hy.1 rest)
    where
      first_of : List (List (List ℕ)) → List (List ℕ)
      first_of [] = []
      first_of (line ∷ others) = line

      rest_of : List (List (List ℕ)) → List (List (List ℕ))
      rest_of [] = []
      rest_of (line ∷ others) = others

      some_same : (x y : PrintedLine) → Some x ≡ Some y → x ≡ y
      some_same x y e = cc

  -- ---- the text

  words_in_rows : (before : ℕ) (printed : List (List (List ℕ))) → map (λ (row : Row). row.words) (rows_from before printed) ≡ printed
  words_in_rows before [] = refl
  words_in_rows before (line ∷ others) = ap (λ (l : List (List (List ℕ))). line ∷ l) (words_in_rows (before + 1) others)

  pub text_reads_back : LinesAreReadBack → WordsAreReadBack → TextReadsBack
  text_reads_back lines_back words show one two closed others fit_one fit_two same =
      let first : List PrintedLine = told show one closed in
      let second : List PrintedLine = told show two others in
      let a : List (List (List ℕ)) = map words_of_line first in
      let b : List (List (List ℕ)) = map words_of_line second in
      let texts : lines_text a ≡ lines_text b = sym (text_is show one closed) ∙ same ∙ text_is show two others in
      let rows : rows_from 0 a ≡ rows_from 0 b =
      sym (lines_back 0 a (lines_solid words first fit_one)) ∙ ap (λ (t : List ℕ). rows_of 0 (lines_of t)) texts
      ∙ lines_back 0 b (lines_solid words second fit_two) in
      same_lines first second fit_one fit_two
      (sym (words_in_rows 0 a) ∙ ap (λ (rs : List Row). map (λ (row : Row). row.words) rs) rows ∙ words_in_rows 0 b)

-- ---- whole drills

text_of_drill : (scenario : Scenario) (printed : List PrintedLine) (t : TellsOfDrill scenario printed)
    → drill_text scenario ≡ text_with_closings scenario.show (marks_from [] (world_run (plan_of scenario) (steps_of scenario)).1) t.last.closings
text_of_drill scenario printed t =
    ap (λ (b : List ℕ). lines scenario.show (marks_from [] (world_run (plan_of scenario) (steps_of scenario)).1) ++ b) t.last.text

same_show : TextReadsBack → (show other : Bool) (one two : List MarkedCame) (closed others : List Closing) (first second : List PrintedLine)
    → show ≡ other
    → first ≡ told show one closed → second ≡ told other two others → AllByRecursion FitsLine first → AllByRecursion FitsLine second
    → text_with_closings show one closed ≡ text_with_closings other two others → first ≡ second
same_show law show other one two closed others first second same is_first is_second fit_first fit_second texts =
    let second_is : second ≡ told show two others = is_second ∙ ap (λ (b : Bool). told b two others) (sym same) in
    is_first
    ∙ law show one two closed others (subst (λ (l : List PrintedLine). AllByRecursion FitsLine l) is_first fit_first)
    (subst (λ (l : List PrintedLine). AllByRecursion FitsLine l) second_is fit_second)
    (texts ∙ ap (λ (b : Bool). text_with_closings b two others) (sym same))
    ∙ sym second_is

pub drills_are_told : LinksAreClosed → DrillsAreTold
drills_are_told closed scenario =
    let h : HasClosingLines (world_run (plan_of scenario) (steps_of scenario)).0 (world_run (plan_of scenario) (steps_of scenario)).1 =
    closed (plan_of scenario) (steps_of scenario) in
    (told scenario.show (marks_from [] (world_run (plan_of scenario) (steps_of scenario)).1) h.closings, record { last = h; are = refl })

pub drill_text_reads_back : TextReadsBack → DrillTextReadsBack
drill_text_reads_back law one two first second same a b fit_first fit_second texts =
    same_show law one.show two.show (marks_from [] (world_run (plan_of one) (steps_of one)).1) (marks_from [] (world_run (plan_of two) (steps_of two)).1)
    a.last.closings b.last.closings first second same a.are b.are fit_first fit_second (sym (text_of_drill one first a) ∙ texts ∙ text_of_drill two second b)
