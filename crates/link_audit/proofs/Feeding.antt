-- What the octets up to the first that closes a frame come to, the next line, and the end of the lines.
use Rattle.std.proofs.Common.{arith, ◌≡◌, ℕ, ◌+◌, ◌==◌, Bool, true, false, List, [], ◌∷◌, ◌++◌, length, take, drop, Option, Some, None, is_some, refl, sym, ap, ◌∙◌, subst, append_assoc, append-nil, eqb-true}
use Rattle.std.proofs.lemmas.List.{take-append-drop}
use Rattle.std.specs.Option.{option_to_list}
use Rattle.er_base.specs.declared.side.Side.{Side}
use Rattle.hdlc_frames.specs.Framing.{Verdict, frames_of, between_flags, all_but_last, cut}
use Rattle.hdlc_frames.specs.Deframing.{KeptDeframer, kept_of, stream_behind_kept, feeding_of, IsKeptOfStream, AddsToFrames}
use Rattle.hdlc_frames.specs.Laws.{KeptStandsForStream}
use Rattle.er_tap.specs.declared.tap_line.TapLine.{TapLine}
use Rattle.tap_model.specs.declared.end_cause.EndCause.{EndCause}
use Rattle.tap_model.specs.Hearing.{frames_read, items, heard}
use Rattle.tap_model.specs.Ears.{new_ear, hearing_of_frames, HearingTurns}
use Rattle.tap_model.specs.Ends.{frames_among, stream_end}
use Rattle.tap_model.specs.Lines as lines
use Rattle.link_audit.specs.Turns.{KEar}
use Rattle.link_audit.specs.Counts.{counted_end, told_of_stream, KCountedEar, new_counted_ear, items_of_rest, items_behind, told_behind, with_brought, items_where_found, told_where_found}
use Rattle.link_audit.specs.Streams.{KStream, octets_left, verdicts_left, items_left, told_left, pending}
use Rattle.link_audit.proofs.Counting.{told_same, found_items, found_told, no_items}

-- ---- what is kept of a stream

-- what is kept behind a call, by the octets that it used
pub feeding_kept : (k new : KeptDeframer) (piece : List ℕ) (used : ℕ) → new ≡ (feeding_of k piece).kept → used ≡ (feeding_of k piece).used
    → new ≡ kept_of (stream_behind_kept k ++ take used piece)
unfolding feeding_of
feeding_kept k new piece used kept is = kept ∙ ap (λ n. kept_of (stream_behind_kept k ++ take n piece)) (sym is)

module _ (law : KeptStandsForStream) where
  pub kept_nothing : IsKeptOfStream (kept_of [])
  kept_nothing = (law [] []).0.0

  pub kept_more : (k new : KeptDeframer) (octets : List ℕ) → new ≡ kept_of (stream_behind_kept k ++ octets) → IsKeptOfStream new
  kept_more k new octets is = subst IsKeptOfStream (sym is) (law (stream_behind_kept k ++ octets) []).0.0

  pub no_frames : (k : KeptDeframer) → IsKeptOfStream k → frames_of (stream_behind_kept k) ≡ []
  no_frames k is = subst (λ (s : KeptDeframer). frames_of (stream_behind_kept s) ≡ []) is (law (stream_behind_kept k) []).0.1

  pub frames_split : (k new : KeptDeframer) (piece used more : List ℕ) (found : Option Verdict) → IsKeptOfStream k
      → new ≡ kept_of (stream_behind_kept k ++ used) → frames_of (stream_behind_kept k ++ used) ≡ frames_of (stream_behind_kept k) ++ option_to_list found
      → frames_of (stream_behind_kept k ++ (used ++ more)) ≡ option_to_list found ++ frames_of (stream_behind_kept new ++ more)
  frames_split k new piece used more found is kept adds =
      ap frames_of (sym (append_assoc (stream_behind_kept k) used more))
      ∙ (law (stream_behind_kept k ++ used) more).1.0
      ∙ ap (λ (vs : List Verdict). vs ++ frames_of (stream_behind_kept (kept_of (stream_behind_kept k ++ used)) ++ more)) (adds ∙ ap (λ (vs : List Verdict). vs ++ option_to_list found) (no_frames k is))
      ∙ ap (λ (s : KeptDeframer). option_to_list found ++ frames_of (stream_behind_kept s ++ more)) (sym kept)

-- ---- one feed

module _ (law : KeptStandsForStream) where
  abbrev rest_of : KStream → List ℕ
  rest_of s = lines.stream_of s.link s.ear.ear.side s.lines

  module _ (old new : KStream) (used : ℕ) (found : Option Verdict) (kept : IsKeptOfStream old.kept) (same_lines : new.lines ≡ old.lines) (same_link : new.link ≡ old.link)
      (same_side : new.ear.ear.side ≡ old.ear.ear.side) (same_piece : new.piece ≡ drop used old.piece)
      (now : new.kept ≡ kept_of (stream_behind_kept old.kept ++ take used old.piece)) (adds : AddsToFrames old.kept old.piece used found) where
    verdicts_split : verdicts_left old ≡ option_to_list found ++ verdicts_left new
    verdicts_split =
        let split = frames_split law old.kept new.kept old.piece (take used old.piece) (drop used old.piece ++ rest_of old) found kept now (adds (stream_behind_kept old.kept) (sym kept)) in
        let whole : take used old.piece ++ (drop used old.piece ++ rest_of old) ≡ old.piece ++ rest_of old =
        sym (append_assoc (take used old.piece) (drop used old.piece) (rest_of old)) ∙ ap (λ (l : List ℕ). l ++ rest_of old) (take-append-drop used old.piece) in
        let behind : drop used old.piece ++ rest_of old ≡ octets_left new = rw (same_lines, same_link, same_side, same_piece) refl in
        ap (λ (l : List ℕ). frames_of (stream_behind_kept old.kept ++ l)) (sym whole) ∙ split
        ∙ ap (λ (l : List ℕ). option_to_list found ++ frames_of (stream_behind_kept new.kept ++ l)) behind

    pub fed_items : (brings : Bool) → ((verdicts : List Verdict) → items_where_found old.ear found verdicts ≡ with_brought brings new.ear.ear.text (items_behind new.ear verdicts))
        → items_left old ≡ with_brought brings new.ear.ear.text (items_left new)
    unfolding items_left
    fed_items brings takes =
        ap (items_behind old.ear) verdicts_split ∙ found_items old.ear found (verdicts_left new) ∙ takes (verdicts_left new)

    pub fed_told : ((verdicts : List Verdict) → told_where_found old.ear found verdicts ≡ told_behind new.ear verdicts) → told_left old ≡ told_left new
    unfolding told_left
    fed_told takes =
        ap (told_behind old.ear) verdicts_split ∙ found_told old.ear found (verdicts_left new) ∙ takes (verdicts_left new)

  -- one feed of a piece that is heard whole
  pub feed_told : (old new : KCountedEar) (k kept : KeptDeframer) (piece : List ℕ) (used : ℕ) (found : Option Verdict) (more : List ℕ) → IsKeptOfStream k
      → kept ≡ kept_of (stream_behind_kept k ++ take used piece) → AddsToFrames k piece used found
      → ((verdicts : List Verdict) → told_where_found old found verdicts ≡ told_behind new verdicts)
      → told_behind old (frames_of (stream_behind_kept k ++ (piece ++ more))) ≡ told_behind new (frames_of (stream_behind_kept kept ++ (drop used piece ++ more)))
  feed_told old new k kept piece used found more is stands adds takes =
      let behind = frames_of (stream_behind_kept kept ++ (drop used piece ++ more)) in
      ap (λ (s : List ℕ). told_behind old (frames_of (stream_behind_kept k ++ s)))
      (sym (sym (append_assoc (take used piece) (drop used piece) more) ∙ ap (λ (l : List ℕ). l ++ more) (take-append-drop used piece)))
      ∙ ap (told_behind old) (frames_split law k kept piece (take used piece) (drop used piece ++ more) found is stands (adds (stream_behind_kept k) (sym is)))
      ∙ found_told old found behind
      ∙ takes behind

  -- ---- the end of the lines

  none_verdicts : (s : KStream) → IsKeptOfStream s.kept → rest_of s ≡ [] → s.piece ≡ [] → verdicts_left s ≡ []
  none_verdicts s kept none empty = rw (none, empty, append-nil (stream_behind_kept s.kept)) (no_frames law s.kept kept)

  pub none_left : HearingTurns → (s : KStream) → IsKeptOfStream s.kept → rest_of s ≡ [] → s.piece ≡ [] → items_left s ≡ []
  unfolding items_left
  none_left turns s kept none empty = ap (items_behind s.ear) (none_verdicts s kept none empty) ∙ no_items turns s.ear

  pub none_told : (k : KCountedEar) (kept : KeptDeframer) → IsKeptOfStream kept → told_behind k (frames_of (stream_behind_kept kept ++ [])) ≡ told_behind k []
  none_told k kept is =
      ap (λ (l : List ℕ). told_behind k (frames_of l)) (append-nil (stream_behind_kept kept)) ∙ ap (told_behind k) (no_frames law kept is)

over_rest : (o : Option EndCause) (ear : KEar) (verdicts : List Verdict) → is_some o ≡ true → items_of_rest o ear verdicts ≡ []
over_rest None ear verdicts e = absurd cc
over_rest (Some why) ear verdicts e = refl

pub over_left : (s : KStream) → is_some s.ear.over ≡ true → items_left s ≡ []
unfolding items_left items_behind
over_left s over = over_rest s.ear.over s.ear.ear (verdicts_left s) over

pub no_octets : {A : Type 0} (xs : List A) → length xs ≡ 0 → xs ≡ []
no_octets [] e = refl
no_octets (x ∷ xs) e = absurd (omega (arith, e))

-- ---- the next piece

module _ (link : ℕ) (left rest : List TapLine) (piece next : List ℕ) (kept : KeptDeframer) (ear : KCountedEar) (none : (length piece == 0) ≡ true)
    (taken : lines.stream_of link ear.ear.side left ≡ next ++ lines.stream_of link ear.ear.side rest) where
  abbrev with_piece : (all : List TapLine) (octets : List ℕ) → KStream
  with_piece all octets = record { lines = all; piece = octets; link = link; kept = kept; ear = ear }

  piece_octets : next ++ lines.stream_of link ear.ear.side rest ≡ piece ++ lines.stream_of link ear.ear.side left
  piece_octets = rw (no_octets piece (eqb-true (length piece) 0 none)) (sym taken)

  pub piece_items : items_left (with_piece rest next) ≡ items_left (with_piece left piece)
  unfolding items_left
  piece_items = ap (λ (l : List ℕ). items_behind ear (frames_of (stream_behind_kept kept ++ l))) piece_octets

  pub piece_told : told_left (with_piece rest next) ≡ told_left (with_piece left piece)
  unfolding told_left
  piece_told = ap (λ (l : List ℕ). told_behind ear (frames_of (stream_behind_kept kept ++ l))) piece_octets

-- ---- a whole stream

first_frames : frames_of [] ≡ []
unfolding frames_of between_flags all_but_last cut
first_frames = refl

-- and so of a stream behind nothing that is kept
first_split : KeptStandsForStream → (stream : List ℕ) → frames_of stream ≡ frames_of (stream_behind_kept (kept_of []) ++ stream)
first_split law stream = (law [] stream).1.0 ∙ ap (λ (vs : List Verdict). vs ++ frames_of (stream_behind_kept (kept_of []) ++ stream)) first_frames

-- of a side of which nothing was heard, all is left
module _ (law : KeptStandsForStream) (turns : HearingTurns) (side : Side) where
  whole_heard : (verdicts : List Verdict) (stream : List ℕ) → verdicts ≡ frames_of stream → items_behind (new_counted_ear side) verdicts ≡ items (heard side stream)
  unfolding items_behind
  whole_heard verdicts stream is =
      ap (λ (vs : List Verdict). items (hearing_of_frames side new_ear (frames_read vs))) is ∙ ap items (turns.begins side stream)

  module _ (s : KStream) (link : ℕ) (all : List TapLine) (same_lines : s.lines ≡ all) (same_piece : s.piece ≡ []) (same_link : s.link ≡ link) (same_kept : s.kept ≡ kept_of [])
      (same_ear : s.ear ≡ new_counted_ear side) where
    abbrev stream : List ℕ
    stream = lines.stream_of link side all

    whole_verdicts : verdicts_left s ≡ frames_of stream
    whole_verdicts = rw (same_lines, same_piece, same_link, same_kept, same_ear) (sym (first_split law stream))

    pub whole_items : items_left s ≡ items (heard side stream)
    unfolding items_left
    whole_items = ap (λ (ear : KCountedEar). items_behind ear (verdicts_left s)) same_ear ∙ whole_heard (verdicts_left s) stream whole_verdicts

    pub whole_told : told_left s ≡ told_of_stream side stream
    unfolding told_left told_behind
    whole_told =
        let verdicts = frames_of stream in
        let heard_all : length (items_behind (new_counted_ear side) verdicts) ≡ length (items (heard side stream)) =
        ap (λ (l : List (List ℕ)). length l) (whole_heard verdicts stream refl) in
        ap (λ (ear : KCountedEar). told_behind ear (verdicts_left s)) same_ear ∙ ap (told_behind (new_counted_ear side)) whole_verdicts
        ∙ told_same (0 + frames_among verdicts) (frames_among verdicts) (0 + length (items_behind (new_counted_ear side) verdicts)) (length (items (heard side stream)))
        (counted_end 0 (stream_end side verdicts)) (counted_end 0 (stream_end side verdicts)) (omega arith) (omega (arith, heard_all)) refl

-- what is pending behind the first step
pub first_pending : (result : Bool) (old new : KStream) → (result ≡ true → items_left old ≡ new.ear.ear.text ∷ items_left new)
    → (result ≡ false → (items_left old ≡ []) × (items_left new ≡ [])) → pending result new ≡ items_left old
unfolding pending
first_pending true old new some none = sym (some refl)
first_pending false old new some none = sym (none refl).0
