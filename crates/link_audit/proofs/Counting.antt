-- What is told of a stream stays the same, frame by frame, and what is heard goes on by the texts that frames bring.
use Rattle.std.proofs.Common.{arith, ◌≡◌, ℕ, ◌+◌, ◌<◌, Bool, true, false, List, [], ◌∷◌, ◌++◌, length, Option, Some, None, is_some, refl, sym, ap, ◌∙◌}
use Rattle.std.specs.Option.{option_to_list}
use Rattle.hdlc_frames.specs.declared.controls.Control.{Control}
use Rattle.hdlc_frames.specs.Framing.{Verdict, Frame, BadFcs, TooShort, TooLong, Aborted}
use Rattle.hdlc_frames.specs.ControlOctets.{control_of}
use Rattle.tap_model.specs.declared.end_cause.EndCause.{EndCause}
use Rattle.tap_model.specs.declared.end_cause.EndCause.TheVariants.{Dr}
use Rattle.tap_model.specs.Hearing.{frames_read, items}
use Rattle.tap_model.specs.Ears.{HearingTurns}
use Rattle.tap_model.specs.Ends.{StreamEnd, is_frame, frames_among, end_from, stream_end}
use Rattle.link_audit.specs.declared.frame_outcome.FrameOutcome.{FrameOutcome}
use Rattle.link_audit.specs.declared.frame_outcome.FrameOutcome.TheVariants as it
use Rattle.link_audit.specs.declared.frame_outcome.TextOutcome.TheVariants as said
use Rattle.link_audit.specs.declared.told.Told.{Told}
use Rattle.link_audit.specs.Turns.{KEar, FrameTurn, frame_turn, turned}
use Rattle.link_audit.specs.Counts.{kept_count, counted_end, told_with, KCountedEar, receiver_state_of, end_where, items_heard_of, end_of_rest, items_of_rest, counted_end_of_rest, items_behind, told_behind, why_told, left_told, brings_text, with_brought, count_brought, ear_behind, items_at_turn, end_one_more, end_at_turn, items_where_found, told_where_found}
use Rattle.link_audit.proofs.Outcomes.{unread_end, read_end}
use Rattle.link_audit.proofs.Reducing.{unread_heard, read_heard}

-- ---- counts

abbrev end_with : (heard left : ℕ) → EndCause → StreamEnd
end_with heard left why = record { heard = heard; left = left; why = why }

end_same : (a b c d : ℕ) (why : EndCause) → a ≡ b → c ≡ d → end_with a c why ≡ end_with b d why
end_same a b c d why p q = ap (λ (n : ℕ). end_with n c why) p ∙ ap (λ (n : ℕ). end_with b n why) q

pub told_same : (a b c d : ℕ) (x y : StreamEnd) → kept_count a ≡ kept_count b → kept_count c ≡ kept_count d → x ≡ y → told_with a c x ≡ told_with b d y
told_same a b c d x y frames texts ends = rw (frames, texts, ends) refl

count_more : (a n : ℕ) → kept_count (a + (n + 1)) ≡ kept_count (kept_count (a + 1) + n)
count_more a n = omega arith

frames_more : (address : ℕ) (body : List ℕ) (verdicts : List Verdict) → frames_among (Frame address body ∷ verdicts) ≡ frames_among verdicts + 1
unfolding frames_among
frames_more address body verdicts = omega arith

none_among : frames_among [] ≡ 0
unfolding frames_among
none_among = refl

-- one more counts
counted_more : (h : ℕ) (e : StreamEnd) → counted_end h (end_one_more e) ≡ counted_end (kept_count (h + 1)) e
counted_more h e = end_same (kept_count (h + (e.heard + 1))) (kept_count (kept_count (h + 1) + e.heard)) (kept_count e.left) (kept_count e.left) e.why (count_more h e.heard) refl

-- as the last one
counted_last : (h n : ℕ) (why : EndCause) → counted_end h (end_with 1 n why) ≡ counted_end (kept_count (h + 1)) (end_with 0 (0 + n) why)
counted_last h n why = end_same (kept_count (h + 1)) (kept_count (kept_count (h + 1) + 0)) (kept_count n) (kept_count (0 + n)) why (omega arith) (omega arith)

-- and where none does
ended_last : (h n : ℕ) (why : EndCause) → counted_end h (end_with 0 n why) ≡ counted_end h (end_with 0 (0 + n) why)
ended_last h n why = end_same (kept_count (h + 0)) (kept_count (h + 0)) (kept_count n) (kept_count (0 + n)) why refl (omega arith)

pub texts_more : (brings : Bool) (n : ℕ) (text : List ℕ) (rest : List (List ℕ))
    → kept_count (n + length (with_brought brings text rest)) ≡ kept_count (count_brought brings n + length rest)
texts_more true n text rest = omega arith
texts_more false n text rest = refl

-- ---- what a frame came to, and what is kept then

module _ (k : KCountedEar) (new : KEar) (verdicts : List Verdict) (live : k.over ≡ None) (side : new.side ≡ k.ear.side) where
  items_live : items_heard_of k.ear.side new.ear verdicts ≡ items_of_rest k.over new verdicts
  items_live = rw (live, side) refl

  end_live : (left : ℕ) → end_where new.ear.opened k.ear.side (receiver_state_of new.ear new.gap) verdicts ≡ end_of_rest k.over left new verdicts
  end_live left = rw (live, side) refl

  pub came_items : (outcome : FrameOutcome)
      → items_at_turn k.ear.side (turned outcome new) verdicts
      ≡ with_brought (brings_text outcome) (ear_behind outcome (record k { ear = new })).ear.text (items_behind (ear_behind outcome (record k { ear = new })) verdicts)
  unfolding items_behind
  came_items it.PassedOver = items_live
  came_items (it.Counted said.NoText) = items_live
  came_items (it.Counted said.Text) = ap (λ (l : List (List ℕ)). new.text ∷ l) items_live
  came_items (it.Counted said.LastText) = refl
  came_items (it.Counted (said.Ended why)) = refl
  came_items (it.LinkEnded why) = refl

  pub came_end : (outcome : FrameOutcome)
      → counted_end k.counted (end_at_turn k.ear.side (turned outcome new) verdicts) ≡ counted_end_of_rest (ear_behind outcome (record k { ear = new })) verdicts
  came_end it.PassedOver = ap (counted_end k.counted) (end_live k.left)
  came_end (it.Counted said.NoText) =
      counted_more k.counted (end_where new.ear.opened k.ear.side (receiver_state_of new.ear new.gap) verdicts) ∙ ap (counted_end (kept_count (k.counted + 1))) (end_live k.left)
  came_end (it.Counted said.Text) =
      counted_more k.counted (end_where new.ear.opened k.ear.side (receiver_state_of new.ear new.gap) verdicts) ∙ ap (counted_end (kept_count (k.counted + 1))) (end_live k.left)
  came_end (it.Counted said.LastText) = counted_last k.counted (frames_among verdicts) Dr
  came_end (it.Counted (said.Ended why)) = counted_last k.counted (frames_among verdicts) why
  came_end (it.LinkEnded why) = ended_last k.counted (frames_among verdicts) why

pub came_texts : (k : KCountedEar) (new : KEar) (outcome : FrameOutcome) → (ear_behind outcome (record k { ear = new })).texts ≡ count_brought (brings_text outcome) k.texts
came_texts k new it.PassedOver = refl
came_texts k new (it.Counted said.NoText) = refl
came_texts k new (it.Counted said.Text) = refl
came_texts k new (it.Counted said.LastText) = refl
came_texts k new (it.Counted (said.Ended why)) = refl
came_texts k new (it.LinkEnded why) = refl

pub came_frames : (k : KCountedEar) (new : KEar) (outcome : FrameOutcome) → (ear_behind outcome (record k { ear = new })).frames ≡ k.frames
came_frames k new it.PassedOver = refl
came_frames k new (it.Counted said.NoText) = refl
came_frames k new (it.Counted said.Text) = refl
came_frames k new (it.Counted said.LastText) = refl
came_frames k new (it.Counted (said.Ended why)) = refl
came_frames k new (it.LinkEnded why) = refl

pub came_ear : (k : KCountedEar) (new : KEar) (outcome : FrameOutcome) → (ear_behind outcome (record k { ear = new })).ear ≡ new
came_ear k new it.PassedOver = refl
came_ear k new (it.Counted said.NoText) = refl
came_ear k new (it.Counted said.Text) = refl
came_ear k new (it.Counted said.LastText) = refl
came_ear k new (it.Counted (said.Ended why)) = refl
came_ear k new (it.LinkEnded why) = refl

-- ---- one frame

-- behind the end
module _ (k : KCountedEar) (f l : ℕ) (over : is_some k.over ≡ true) (address : ℕ) (body : List ℕ) (verdicts : List Verdict) where
  abbrev behind_end : KCountedEar
  behind_end = record k { frames = f; left = l }

  nothing_heard : (o : Option EndCause) (vs ws : List Verdict) → is_some o ≡ true → items_of_rest o k.ear vs ≡ items_of_rest o k.ear ws
  nothing_heard None vs ws e = absurd cc
  nothing_heard (Some why) vs ws e = refl

  pub over_items : items_behind k (Frame address body ∷ verdicts) ≡ items_behind behind_end verdicts
  unfolding items_behind
  over_items = nothing_heard k.over (Frame address body ∷ verdicts) verdicts over

  left_more : (o : Option EndCause) → is_some o ≡ true → l ≡ kept_count (k.left + 1)
      → counted_end k.counted (end_of_rest o k.left k.ear (Frame address body ∷ verdicts)) ≡ counted_end k.counted (end_of_rest o l k.ear verdicts)
  left_more None e less = absurd cc
  left_more (Some why) e less =
      let one : frames_among (Frame address body ∷ verdicts) ≡ frames_among verdicts + 1 = frames_more address body verdicts in
      end_same (kept_count (k.counted + 0)) (kept_count (k.counted + 0)) (kept_count (k.left + frames_among (Frame address body ∷ verdicts))) (kept_count (l + frames_among verdicts)) why
      refl (omega (arith, one, less))

  pub over_told : f ≡ kept_count (k.frames + 1) → l ≡ kept_count (k.left + 1) → told_behind k (Frame address body ∷ verdicts) ≡ told_behind behind_end verdicts
  unfolding told_behind
  over_told more less =
      let one : frames_among (Frame address body ∷ verdicts) ≡ frames_among verdicts + 1 = frames_more address body verdicts in
      told_same (k.frames + frames_among (Frame address body ∷ verdicts)) (f + frames_among verdicts)
      (k.texts + length (items_behind k (Frame address body ∷ verdicts))) (k.texts + length (items_behind behind_end verdicts))
      (counted_end_of_rest k (Frame address body ∷ verdicts)) (counted_end_of_rest behind_end verdicts)
      (omega (arith, one, more)) (ap (λ (items : List (List ℕ)). kept_count (k.texts + length items)) over_items) (left_more k.over over less)

live_is : (o : Option EndCause) → is_some o ≡ false → o ≡ None
live_is None e = refl
live_is (Some why) e = absurd cc

-- where more may be heard
module _ (turns : HearingTurns) (k : KCountedEar) (live : is_some k.over ≡ false) (address : ℕ) (body : List ℕ) (verdicts : List Verdict) where
  items_now : (vs : List Verdict) → items_behind k vs ≡ items_heard_of k.ear.side k.ear.ear vs
  unfolding items_behind
  items_now vs = ap (λ (o : Option EndCause). items_of_rest o k.ear vs) (live_is k.over live)

  end_now : (vs : List Verdict) → end_of_rest k.over k.left k.ear vs ≡ end_where k.ear.ear.opened k.ear.side (receiver_state_of k.ear.ear k.ear.gap) vs
  end_now vs = ap (λ (o : Option EndCause). end_of_rest o k.left k.ear vs) (live_is k.over live)

  -- a frame whose control can't be read
  module _ (f : ℕ) (none : control_of 8 body ≡ None) where
    abbrev unread : KCountedEar
    unread = record k { frames = f }

    pub unread_items : items_behind k (Frame address body ∷ verdicts) ≡ items_behind unread verdicts
    unfolding items_behind
    unread_items =
        ap (λ (o : Option EndCause). items_of_rest o k.ear (Frame address body ∷ verdicts)) (live_is k.over live)
        ∙ unread_heard turns k.ear.side k.ear.ear address body verdicts none
        ∙ sym (ap (λ (o : Option EndCause). items_of_rest o k.ear verdicts) (live_is k.over live))

    pub unread_told : f ≡ kept_count (k.frames + 1) → told_behind k (Frame address body ∷ verdicts) ≡ told_behind unread verdicts
    unfolding told_behind
    unread_told more =
        let one : frames_among (Frame address body ∷ verdicts) ≡ frames_among verdicts + 1 = frames_more address body verdicts in
        told_same (k.frames + frames_among (Frame address body ∷ verdicts)) (f + frames_among verdicts)
        (k.texts + length (items_behind k (Frame address body ∷ verdicts))) (k.texts + length (items_behind unread verdicts))
        (counted_end_of_rest k (Frame address body ∷ verdicts)) (counted_end_of_rest unread verdicts)
        (omega (arith, one, more)) (ap (λ (items : List (List ℕ)). kept_count (k.texts + length items)) unread_items)
        (ap (counted_end k.counted) (end_now (Frame address body ∷ verdicts)
        ∙ unread_end k.ear.side k.ear.ear k.ear.gap address body verdicts k.ear.ear.opened (receiver_state_of k.ear.ear k.ear.gap) none
        ∙ sym (end_now verdicts)))

  -- one that was read
  module _ (control : Control) (information : List ℕ) (is : control_of 8 body ≡ Some (control, information)) (few : k.ear.ear.count < 8) (low : k.ear.ear.dts < 128)
      (brings : Bool) (new : KCountedEar) where
    abbrev turn : FrameTurn
    turn = frame_turn k.ear.side k.ear.ear k.ear.gap (record { address = address; control = control; information = information })

    pub read_items : items_at_turn k.ear.side turn verdicts ≡ with_brought brings new.ear.text (items_behind new verdicts)
        → items_behind k (Frame address body ∷ verdicts) ≡ with_brought brings new.ear.text (items_behind new verdicts)
    read_items came =
        items_now (Frame address body ∷ verdicts) ∙ read_heard turns k.ear.side k.ear.ear address body verdicts k.ear.gap control information few low is ∙ came

    pub read_told : items_at_turn k.ear.side turn verdicts ≡ with_brought brings new.ear.text (items_behind new verdicts)
        → counted_end k.counted (end_at_turn k.ear.side turn verdicts) ≡ counted_end_of_rest new verdicts → new.texts ≡ count_brought brings k.texts
        → new.frames ≡ kept_count (k.frames + 1) → told_behind k (Frame address body ∷ verdicts) ≡ told_behind new verdicts
    unfolding told_behind
    read_told came ended texts more =
        let one : frames_among (Frame address body ∷ verdicts) ≡ frames_among verdicts + 1 = frames_more address body verdicts in
        told_same (k.frames + frames_among (Frame address body ∷ verdicts)) (new.frames + frames_among verdicts)
        (k.texts + length (items_behind k (Frame address body ∷ verdicts))) (new.texts + length (items_behind new verdicts))
        (counted_end_of_rest k (Frame address body ∷ verdicts)) (counted_end_of_rest new verdicts)
        (omega (arith, one, more))
        (ap (λ (items : List (List ℕ)). kept_count (k.texts + length items)) (read_items came)
        ∙ texts_more brings k.texts new.ear.text (items_behind new verdicts)
        ∙ ap (λ (n : ℕ). kept_count (n + length (items_behind new verdicts))) (sym texts))
        (ap (counted_end k.counted) (end_now (Frame address body ∷ verdicts)
        ∙ read_end k.ear.side k.ear.ear k.ear.gap address body verdicts control information is)
        ∙ ended)

-- ---- what is no frame

module _ (k : KCountedEar) (verdict : Verdict) (verdicts : List Verdict) where
  no_frame : (o : Option EndCause) → is_frame verdict ≡ false → items_of_rest o k.ear (verdict ∷ verdicts) ≡ items_of_rest o k.ear verdicts
  unfolding frames_read
  no_frame (Some why) other = refl
  no_frame None other = passes verdict other
    where
      passes : (v : Verdict) → is_frame v ≡ false → items_heard_of k.ear.side k.ear.ear (v ∷ verdicts) ≡ items_heard_of k.ear.side k.ear.ear verdicts
      passes (Frame address body) other = absurd cc
      passes BadFcs other = refl
      passes TooShort other = refl
      passes TooLong other = refl
      passes Aborted other = refl

  pub other_items : is_frame verdict ≡ false → items_behind k (verdict ∷ verdicts) ≡ items_behind k verdicts
  unfolding items_behind
  other_items other = no_frame k.over other

  other_among : (v : Verdict) → is_frame v ≡ false → frames_among (v ∷ verdicts) ≡ frames_among verdicts
  unfolding frames_among
  other_among (Frame address body) other = absurd cc
  other_among BadFcs other = refl
  other_among TooShort other = refl
  other_among TooLong other = refl
  other_among Aborted other = refl

  other_end : (o : Option EndCause) → is_frame verdict ≡ false → end_of_rest o k.left k.ear (verdict ∷ verdicts) ≡ end_of_rest o k.left k.ear verdicts
  unfolding end_from stream_end
  other_end (Some why) other = ap (λ (n : ℕ). end_with 0 (k.left + n) why) (other_among verdict other)
  other_end None other = passes k.ear.ear.opened verdict other
    where
      passes : (opened : Bool) (v : Verdict) → is_frame v ≡ false
          → end_where opened k.ear.side (receiver_state_of k.ear.ear k.ear.gap) (v ∷ verdicts) ≡ end_where opened k.ear.side (receiver_state_of k.ear.ear k.ear.gap) verdicts
      passes opened (Frame address body) other = absurd cc
      passes true BadFcs other = refl
      passes false BadFcs other = refl
      passes true TooShort other = refl
      passes false TooShort other = refl
      passes true TooLong other = refl
      passes false TooLong other = refl
      passes true Aborted other = refl
      passes false Aborted other = refl

  pub other_told : is_frame verdict ≡ false → told_behind k (verdict ∷ verdicts) ≡ told_behind k verdicts
  unfolding told_behind
  other_told other =
      told_same (k.frames + frames_among (verdict ∷ verdicts)) (k.frames + frames_among verdicts)
      (k.texts + length (items_behind k (verdict ∷ verdicts))) (k.texts + length (items_behind k verdicts))
      (counted_end_of_rest k (verdict ∷ verdicts)) (counted_end_of_rest k verdicts)
      (ap (λ (n : ℕ). kept_count (k.frames + n)) (other_among verdict other))
      (ap (λ (items : List (List ℕ)). kept_count (k.texts + length items)) (other_items other))
      (ap (counted_end k.counted) (other_end k.over other))

-- what a deframer found
pub found_items : (k : KCountedEar) (found : Option Verdict) (verdicts : List Verdict) → items_behind k (option_to_list found ++ verdicts) ≡ items_where_found k found verdicts
found_items k None verdicts = refl
found_items k (Some (Frame address body)) verdicts = refl
found_items k (Some BadFcs) verdicts = other_items k BadFcs verdicts refl
found_items k (Some TooShort) verdicts = other_items k TooShort verdicts refl
found_items k (Some TooLong) verdicts = other_items k TooLong verdicts refl
found_items k (Some Aborted) verdicts = other_items k Aborted verdicts refl

pub found_told : (k : KCountedEar) (found : Option Verdict) (verdicts : List Verdict) → told_behind k (option_to_list found ++ verdicts) ≡ told_where_found k found verdicts
found_told k None verdicts = refl
found_told k (Some (Frame address body)) verdicts = refl
found_told k (Some BadFcs) verdicts = other_told k BadFcs verdicts refl
found_told k (Some TooShort) verdicts = other_told k TooShort verdicts refl
found_told k (Some TooLong) verdicts = other_told k TooLong verdicts refl
found_told k (Some Aborted) verdicts = other_told k Aborted verdicts refl

-- ---- nothing that is left

abbrev told_end : (frames texts : ℕ) → StreamEnd → Told
told_end frames texts e = record { frames = frames; heard = e.heard; items = texts; left = e.left; why = e.why }

module _ (turns : HearingTurns) where
  no_rest : (o : Option EndCause) (ear : KEar) → items_of_rest o ear [] ≡ []
  unfolding frames_read
  no_rest (Some why) ear = refl
  no_rest None ear = ap items (turns.rests ear.side ear.ear)

  pub no_items : (k : KCountedEar) → items_behind k [] ≡ []
  unfolding items_behind
  no_items k = no_rest k.over k.ear

  last_end : (o : Option EndCause) (ear : KEar) (h l : ℕ)
      → end_with (kept_count h) (kept_count (left_told o l)) (why_told o ear.ear.opened ear.gap) ≡ counted_end h (end_of_rest o l ear [])
  unfolding end_from stream_end
  last_end (Some why) ear h l =
      let none : frames_among [] ≡ 0 = none_among in
      end_same (kept_count h) (kept_count (h + 0)) (kept_count l) (kept_count (l + frames_among [])) why (omega arith) (omega (arith, none))
  last_end None ear h l = by_opened ear.ear.opened
    where
      by_opened : (opened : Bool)
          → end_with (kept_count h) (kept_count 0) (why_told None opened ear.gap) ≡ counted_end h (end_where opened ear.side (receiver_state_of ear.ear ear.gap) [])
      by_opened true = end_same (kept_count h) (kept_count (h + 0)) (kept_count 0) (kept_count 0) (why_told None true ear.gap) (omega arith) refl
      by_opened false = end_same (kept_count h) (kept_count (h + 0)) (kept_count 0) (kept_count 0) (why_told None false ear.gap) (omega arith) refl

  told_parts : (a b c d : ℕ) (x y : StreamEnd) → a ≡ b → c ≡ d → x ≡ y → told_end a c x ≡ told_end b d y
  told_parts a b c d x y p q r = rw (p, q, r) refl

  pub told_now : (k : KCountedEar)
      → record {
        frames = kept_count k.frames;
        heard = kept_count k.counted;
        items = kept_count k.texts;
        left = kept_count (left_told k.over k.left);
        why = why_told k.over k.ear.ear.opened k.ear.gap;
      }
      ≡ told_behind k []
  unfolding told_behind
  told_now k =
      let none : frames_among [] ≡ 0 = none_among in
      let heard : length (items_behind k []) ≡ 0 = ap (λ (items : List (List ℕ)). length items) (no_items k) in
      told_parts (kept_count k.frames) (kept_count (k.frames + frames_among [])) (kept_count k.texts) (kept_count (k.texts + length (items_behind k [])))
      (end_with (kept_count k.counted) (kept_count (left_told k.over k.left)) (why_told k.over k.ear.ear.opened k.ear.gap)) (counted_end_of_rest k [])
      (omega (arith, none)) (omega (arith, heard)) (last_end k.over k.ear k.counted k.left)
