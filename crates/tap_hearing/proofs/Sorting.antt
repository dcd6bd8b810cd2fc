-- What one frame is to an ear, and what it hears then.
use Rattle.std.proofs.Common.{◌≡◌, ◌∙◌, ℕ, ◌+◌, Bool, true, false, List, [], ◌∷◌, ◌++◌, refl, ap}
use Rattle.std.specs.Prelude.{if◌then◌else◌}
use Rattle.er_base.specs.declared.side.Side.{Side}
use Rattle.tap_model.specs.Hearing.{ReadFrame, is_link_opening, behind_opening, ends, before_end, is_next, in_sequence}
use Rattle.tap_model.specs.Ears.{Ear, open_ear, hearing_of_frames, TapFrameTurn, GoesOn, Ends, turn_at_piece, turn_of_tap_frame, behind_turn, HearingTurns}

-- what a frame is to an ear: it opens the link, ends it, counts with its information, or is nothing to it
pub data Weight : Type 0 where
  Nothing : Weight
  Opens : Weight
  Counts : (piece : List ℕ) → Weight
  EndsIt : Weight

abbrev pub weight_if : (opened : Bool) → Side → (count : ℕ) → ReadFrame → Weight
weight_if true side count f = if ends side f then EndsIt else if is_next side count f then Counts f.information else Nothing
weight_if false side count f = if is_link_opening side f then Opens else Nothing

-- of the frame that was read, where one was
abbrev pub weight_in : (opened : Bool) → Side → (count : ℕ) → List ReadFrame → Weight
weight_in opened side count [] = Nothing
weight_in opened side count (f ∷ fs) = weight_if opened side count f

-- ---- the turn

abbrev pub turn_by : Ear → Weight → TapFrameTurn
turn_by k Nothing = GoesOn k
turn_by k Opens = GoesOn open_ear
turn_by k (Counts piece) = turn_at_piece k piece
turn_by k EndsIt = Ends

open_turn : (side : Side) (k : Ear) (f : ReadFrame) (e n : Bool)
    → (if e then Ends else if n then turn_at_piece k f.information else GoesOn k) ≡ turn_by k (if e then EndsIt else if n then Counts f.information else Nothing)
open_turn side k f true n = refl
open_turn side k f false true = refl
open_turn side k f false false = refl

closed_turn : (k : Ear) (o : Bool) → (if o then GoesOn open_ear else GoesOn k) ≡ turn_by k (if o then Opens else Nothing)
closed_turn k true = refl
closed_turn k false = refl

turn_weighs : (side : Side) (k : Ear) (f : ReadFrame) (opened : Bool)
    → turn_of_tap_frame side (record k { opened = opened }) f ≡ turn_by (record k { opened = opened }) (weight_if opened side k.count f)
unfolding turn_of_tap_frame
turn_weighs side k f true = open_turn side (record k { opened = true }) f (ends side f) (is_next side k.count f)
turn_weighs side k f false = closed_turn (record k { opened = false }) (is_link_opening side f)

-- ---- the pieces that count

abbrev pub pieces_if : (opened : Bool) → Side → (count : ℕ) → List ReadFrame → List (List ℕ)
pieces_if true side count frames = in_sequence side count (before_end side frames)
pieces_if false side count frames = in_sequence side 0 (before_end side (behind_opening side frames))

unfoldable pub pieces : Side → Ear → List ReadFrame → List (List ℕ)
pieces side k frames = pieces_if k.opened side k.count frames

abbrev pub pieces_by : Side → Ear → Weight → List ReadFrame → List (List ℕ)
pieces_by side k Nothing rest = pieces side k rest
pieces_by side k Opens rest = pieces side open_ear rest
pieces_by side k (Counts piece) rest = piece ∷ pieces side (record k { count = k.count + 1 }) rest
pieces_by side k EndsIt rest = []

open_pieces : (side : Side) (k : Ear) (f : ReadFrame) (rest : List ReadFrame) (e n : Bool) → ends side f ≡ e → is_next side k.count f ≡ n
    → in_sequence side k.count (before_end side (f ∷ rest))
    ≡ pieces_by side (record k { opened = true }) (if e then EndsIt else if n then Counts f.information else Nothing) rest
unfolding pieces in_sequence before_end
open_pieces side k f rest true n is next = rw is refl
open_pieces side k f rest false true is next = rw (is, next) refl
open_pieces side k f rest false false is next = rw (is, next) refl

closed_pieces : (side : Side) (k : Ear) (f : ReadFrame) (rest : List ReadFrame) (o : Bool) → is_link_opening side f ≡ o
    → in_sequence side 0 (before_end side (behind_opening side (f ∷ rest))) ≡ pieces_by side (record k { opened = false }) (if o then Opens else Nothing) rest
unfolding pieces behind_opening
closed_pieces side k f rest true is = rw is refl
closed_pieces side k f rest false is = rw is refl

pieces_weigh : (side : Side) (k : Ear) (f : ReadFrame) (rest : List ReadFrame) (opened : Bool)
    → pieces side (record k { opened = opened }) (f ∷ rest) ≡ pieces_by side (record k { opened = opened }) (weight_if opened side k.count f) rest
unfolding pieces
pieces_weigh side k f rest true = open_pieces side k f rest (ends side f) (is_next side k.count f) refl refl
pieces_weigh side k f rest false = closed_pieces side k f rest (is_link_opening side f) refl

-- ---- of the frame that was read, where one was

-- at most one is read
abbrev pub IsOne : List ReadFrame → Type 0
IsOne [] = Unit {0}
IsOne (f ∷ []) = Unit {0}
IsOne (f ∷ g ∷ fs) = ⊥

module _ (turns : HearingTurns) (side : Side) where
  pub hears_by : (k : Ear) (read rest : List ReadFrame) → IsOne read
      → hearing_of_frames side k (read ++ rest) ≡ behind_turn (turn_by k (weight_in k.opened side k.count read)) (λ next. hearing_of_frames side next rest)
  hears_by k [] rest one = refl
  hears_by k (f ∷ []) rest one =
      turns.goes_on side k f rest ∙ ap (λ (t : TapFrameTurn). behind_turn t (λ next. hearing_of_frames side next rest)) (turn_weighs side k f k.opened)
  hears_by k (f ∷ g ∷ fs) rest one = absurd one

  pub pieces_with : (k : Ear) (read rest : List ReadFrame) → IsOne read
      → pieces side k (read ++ rest) ≡ pieces_by side k (weight_in k.opened side k.count read) rest
  pieces_with k [] rest one = refl
  pieces_with k (f ∷ []) rest one = pieces_weigh side k f rest k.opened
  pieces_with k (f ∷ g ∷ fs) rest one = absurd one
