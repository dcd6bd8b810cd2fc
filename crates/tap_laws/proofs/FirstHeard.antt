-- What is heard of the frames that an end sent, up to the first I frame: its payload counts first.
use Rattle.std.proofs.Common.{◌≡◌, ◌∙◌, ◌≤◌, ◌<◌, ◌⊎◌, inl, inr, ℕ, Bool, true, false, List, [], ◌∷◌, ◌++◌, length, map, Option, Some, refl, sym, ap, arith, append_assoc}
use Rattle.std.specs.Prelude.{◌%◌}
use Rattle.std.specs.List.{flat_map, AllByRecursion}
use Rattle.std.proofs.lemmas.List.Concat.{flat_map-cons}
use Rattle.er_base.specs.declared.side.Side.{Side}
use Rattle.er_base.specs.declared.side.Side.TheVariants.{E, R}
use Rattle.hdlc_frames.specs.declared.controls.Control.{Control}
use Rattle.hdlc_frames.specs.ControlOctets.{control_of}
use Rattle.hdlc_frames.specs.Framing as framing
use Rattle.hdlc_frames.specs.Framing.{flag, Verdict, frames_of, between_flags, all_but_last, cut}
use Rattle.hdlc_frames.specs.Spelling.{spelling, escaped, content_of}
use Rattle.hdlc_frames.specs.Laws.{FrameReadsAsItself, FlagParts, ControlReadsBack}
use Rattle.hdlc_station_model.specs.Frames.{Frame, Info, Rr, Rej, Srej, SetUp, Disc, Dm, Ua, shown, information, sent_address, sent_body, sent_octets}
use Rattle.tap_model.specs.Hearing.{ReadFrame, frames_read, read_as, read_frame, is_link_opening, behind_opening, ends, before_end, is_next, in_sequence, payloads}

-- ---- frames up to the first I frame

-- what may be sent before it
abbrev pub IsQuiet : Frame → Type 0
IsQuiet (Info ns nr payload) = ⊥
IsQuiet (Rr nr) = Unit {0}
IsQuiet (Rej nr) = Unit {0}
IsQuiet (Srej nr) = Unit {0}
IsQuiet SetUp = Unit {0}
IsQuiet Disc = ⊥
IsQuiet Dm = ⊥
IsQuiet (Ua final) = Unit {0}

abbrev pub AreQuiet : List Frame → Type 0
AreQuiet fs = AllByRecursion IsQuiet fs

-- what opens the link of its side
abbrev pub IsOpeningFrame : (calling : Bool) → Frame → Type 0
IsOpeningFrame calling (Info ns nr payload) = ⊥
IsOpeningFrame calling (Rr nr) = ⊥
IsOpeningFrame calling (Rej nr) = ⊥
IsOpeningFrame calling (Srej nr) = ⊥
IsOpeningFrame calling SetUp = calling ≡ true
IsOpeningFrame calling Disc = ⊥
IsOpeningFrame calling Dm = ⊥
IsOpeningFrame calling (Ua final) = calling ≡ false

abbrev pub HasOpeningFrame : (calling : Bool) → List Frame → Type 0
HasOpeningFrame calling [] = ⊥
HasOpeningFrame calling (f ∷ fs) = IsOpeningFrame calling f ⊎ HasOpeningFrame calling fs

pub quiet_append : (xs ys : List Frame) → AreQuiet xs → AreQuiet ys → AreQuiet (xs ++ ys)
quiet_append [] ys h g = g
quiet_append (x ∷ xs) ys h g = (h.0, quiet_append xs ys h.1 g)

pub opening_before : (calling : Bool) (xs ys : List Frame) → HasOpeningFrame calling xs → HasOpeningFrame calling (xs ++ ys)
opening_before calling [] ys h = absurd h
opening_before calling (x ∷ xs) ys (inl h) = inl h
opening_before calling (x ∷ xs) ys (inr h) = inr (opening_before calling xs ys h)

pub opening_last : (calling : Bool) (xs : List Frame) (f : Frame) → IsOpeningFrame calling f → HasOpeningFrame calling (xs ++ f ∷ [])
opening_last calling [] f h = inl h
opening_last calling (x ∷ xs) f h = inr (opening_last calling xs f h)

-- the side of a station
abbrev pub side_of_station : (calling : Bool) → Side
side_of_station true = E
side_of_station false = R

abbrev pub octets_of_frames : (calling : Bool) → List Frame → List ℕ
octets_of_frames calling fs = flat_map (sent_octets calling false) fs

-- ---- what a frame is read as

abbrev read_sent : (calling : Bool) → Frame → ReadFrame
read_sent calling f = record { address = sent_address calling f; control = shown false f; information = information f }

abbrev verdict_sent : (calling : Bool) → Frame → Verdict
verdict_sent calling f = framing.Frame (sent_address calling f) (sent_body false f)

abbrev IsShortFrame : Frame → Type 0
IsShortFrame f = (1 ≤ length (sent_body false f)) × (length (sent_body false f) ≤ 1029)

quiet_short : (f : Frame) → IsQuiet f → IsShortFrame f
quiet_short (Info ns nr payload) h = absurd h
quiet_short (Rr nr) h = (omega arith, omega arith)
quiet_short (Rej nr) h = (omega arith, omega arith)
quiet_short (Srej nr) h = (omega arith, omega arith)
quiet_short SetUp h = (omega arith, omega arith)
quiet_short Disc h = absurd h
quiet_short Dm h = absurd h
quiet_short (Ua final) h = (omega arith, omega arith)

info_short : (ns nr : ℕ) (payload : List ℕ) → length payload ≤ 1026 → IsShortFrame (Info ns nr payload)
info_short ns nr payload h = (omega arith, omega (arith, h))

below_8 : (n : ℕ) → n % 8 < 8
below_8 n = omega arith

module _ (back : ControlReadsBack) where
  control_back : (f : Frame) → control_of 8 (sent_body false f) ≡ Some (shown false f, information f)
  control_back (Info ns nr payload) = back 8 (shown false (Info ns nr payload)) false _ payload (below_8 ns, below_8 nr) refl
  control_back (Rr nr) = back 8 (shown false (Rr nr)) false _ [] (below_8 nr) refl
  control_back (Rej nr) = back 8 (shown false (Rej nr)) false _ [] (below_8 nr) refl
  control_back (Srej nr) = back 8 (shown false (Srej nr)) false _ [] (below_8 nr) refl
  control_back SetUp = back 8 (shown false SetUp) true _ [] tt refl
  control_back Disc = back 8 (shown false Disc) true _ [] tt refl
  control_back Dm = back 8 (shown false Dm) true _ [] tt refl
  control_back (Ua final) = back 8 (shown false (Ua final)) final _ [] tt refl

  read_back : (calling : Bool) (f : Frame) → read_frame (verdict_sent calling f) ≡ read_sent calling f ∷ []
  read_back calling f = ap (λ (o : Option (Control × List ℕ)). read_as (sent_address calling f) o) (control_back f)

  all_read_back : (calling : Bool) (fs : List Frame) (vs : List Verdict) → frames_read (map (verdict_sent calling) fs ++ vs) ≡ map (read_sent calling) fs ++ frames_read vs
  unfolding frames_read
  all_read_back calling [] vs = refl
  all_read_back calling (f ∷ fs) vs =
      flat_map-cons read_frame (verdict_sent calling f) (map (verdict_sent calling) fs ++ vs)
      ∙ ap (λ (l : List ReadFrame). l ++ frames_read (map (verdict_sent calling) fs ++ vs)) (read_back calling f)
      ∙ ap (λ (l : List ReadFrame). read_sent calling f ∷ l) (all_read_back calling fs vs)

-- ---- octets

no_frames : frames_of (flag ∷ flag ∷ []) ≡ []
unfolding frames_of between_flags all_but_last cut
no_frames = refl

module _ (itself : FrameReadsAsItself) (parts : FlagParts) (calling : Bool) where
  -- a flag before a frame changes nothing
  flag_again : (address : ℕ) (body rest : List ℕ) → frames_of (flag ∷ (spelling address body ++ rest)) ≡ frames_of (spelling address body ++ rest)
  unfolding spelling
  flag_again address body rest =
      (parts (flag ∷ []) ((escaped (content_of address body) ++ flag ∷ []) ++ rest)).0
      ∙ ap (λ (vs : List Verdict). vs ++ frames_of (flag ∷ ((escaped (content_of address body) ++ flag ∷ []) ++ rest))) no_frames

  one_more : (f : Frame) (fs : List Frame) (rest : List ℕ) → octets_of_frames calling (f ∷ fs) ++ rest ≡ sent_octets calling false f ++ (octets_of_frames calling fs ++ rest)
  one_more f fs rest =
      ap (λ (os : List ℕ). os ++ rest) (flat_map-cons (sent_octets calling false) f fs) ∙ append_assoc (sent_octets calling false f) (octets_of_frames calling fs) rest

  frames_behind_flag : (fs : List Frame) → AllByRecursion IsShortFrame fs → (rest : List ℕ)
      → frames_of (flag ∷ (octets_of_frames calling fs ++ rest)) ≡ map (verdict_sent calling) fs ++ frames_of (flag ∷ rest)
  frames_behind_flag [] h rest = refl
  frames_behind_flag (f ∷ fs) h rest =
      ap (λ (os : List ℕ). frames_of (flag ∷ os)) (one_more f fs rest)
      ∙ flag_again (sent_address calling f) (sent_body false f) (octets_of_frames calling fs ++ rest)
      ∙ itself (sent_address calling f) (sent_body false f) (octets_of_frames calling fs ++ rest) h.0.0 h.0.1
      ∙ ap (λ (vs : List Verdict). verdict_sent calling f ∷ vs) (frames_behind_flag fs h.1 rest)

  frames_sent : (f : Frame) (fs : List Frame) → AllByRecursion IsShortFrame (f ∷ fs) → (rest : List ℕ)
      → frames_of (octets_of_frames calling (f ∷ fs) ++ rest) ≡ map (verdict_sent calling) (f ∷ fs) ++ frames_of (flag ∷ rest)
  frames_sent f fs h rest =
      ap frames_of (one_more f fs rest)
      ∙ itself (sent_address calling f) (sent_body false f) (octets_of_frames calling fs ++ rest) h.0.0 h.0.1
      ∙ ap (λ (vs : List Verdict). verdict_sent calling f ∷ vs) (frames_behind_flag fs h.1 rest)

-- ---- what counts

-- none of them ends the link or counts
quiet_ends : (calling : Bool) (f : Frame) → IsQuiet f → ends (side_of_station calling) (read_sent calling f) ≡ false
quiet_ends calling (Info ns nr payload) h = absurd h
quiet_ends true (Rr nr) h = refl
quiet_ends false (Rr nr) h = refl
quiet_ends true (Rej nr) h = refl
quiet_ends false (Rej nr) h = refl
quiet_ends true (Srej nr) h = refl
quiet_ends false (Srej nr) h = refl
quiet_ends true SetUp h = refl
quiet_ends false SetUp h = refl
quiet_ends calling Disc h = absurd h
quiet_ends calling Dm h = absurd h
quiet_ends true (Ua final) h = refl
quiet_ends false (Ua final) h = refl

quiet_next : (calling : Bool) (n : ℕ) (f : Frame) → IsQuiet f → is_next (side_of_station calling) n (read_sent calling f) ≡ false
quiet_next calling n (Info ns nr payload) h = absurd h
quiet_next true n (Rr nr) h = refl
quiet_next false n (Rr nr) h = refl
quiet_next true n (Rej nr) h = refl
quiet_next false n (Rej nr) h = refl
quiet_next true n (Srej nr) h = refl
quiet_next false n (Srej nr) h = refl
quiet_next true n SetUp h = refl
quiet_next false n SetUp h = refl
quiet_next calling n Disc h = absurd h
quiet_next calling n Dm h = absurd h
quiet_next true n (Ua final) h = refl
quiet_next false n (Ua final) h = refl

first_next : (calling : Bool) (nr : ℕ) (payload : List ℕ) → is_next (side_of_station calling) 0 (read_sent calling (Info 0 nr payload)) ≡ true
first_next true nr payload = refl
first_next false nr payload = refl

opens_is : (calling : Bool) (f : Frame) → IsOpeningFrame calling f → is_link_opening (side_of_station calling) (read_sent calling f) ≡ true
opens_is calling (Info ns nr payload) h = absurd h
opens_is calling (Rr nr) h = absurd h
opens_is calling (Rej nr) h = absurd h
opens_is calling (Srej nr) h = absurd h
opens_is true SetUp h = refl
opens_is false SetUp h = absurd cc
opens_is calling Disc h = absurd h
opens_is calling Dm h = absurd h
opens_is true (Ua final) h = absurd cc
opens_is false (Ua final) h = refl

module _ (calling : Bool) (nr : ℕ) (payload : List ℕ) (tail : List ReadFrame) where
  abbrev side : Side
  side = side_of_station calling

  -- the frames from the first I frame on
  abbrev from_first : List ReadFrame
  from_first = read_sent calling (Info 0 nr payload) ∷ tail

  abbrev rest : List (List ℕ)
  rest = in_sequence side 1 (before_end side tail)

  counts_first : in_sequence side 0 (before_end side from_first) ≡ payload ∷ rest
  unfolding before_end in_sequence
  counts_first = rw (first_next calling nr payload) refl

  skips_quiet : (fs : List Frame) → AreQuiet fs → in_sequence side 0 (before_end side (map (read_sent calling) fs ++ from_first)) ≡ payload ∷ rest
  unfolding before_end in_sequence
  skips_quiet [] h = counts_first
  skips_quiet (f ∷ fs) h = rw (quiet_ends calling f h.0, quiet_next calling 0 f h.0) (skips_quiet fs h.1)

  -- behind what opens the link
  module _ (f : Frame) (fs : List Frame) (all : AreQuiet (f ∷ fs)) (later : HasOpeningFrame calling fs
      → in_sequence side 0 (before_end side (behind_opening side (map (read_sent calling) fs ++ from_first))) ≡ payload ∷ rest) where
    at_frame : IsOpeningFrame calling f ⊎ HasOpeningFrame calling fs → (b : Bool) → is_link_opening side (read_sent calling f) ≡ b
        → in_sequence side 0 (before_end side (behind_opening side (map (read_sent calling) (f ∷ fs) ++ from_first))) ≡ payload ∷ rest
    unfolding behind_opening
    at_frame h true is = rw is (skips_quiet fs all.1)
    at_frame (inl h) false is = absurd (let z : false ≡ true = sym is ∙ opens_is calling f h in cc)
    at_frame (inr h) false is = rw is (later h)

  behind_quiet : (fs : List Frame) → AreQuiet fs → HasOpeningFrame calling fs
      → in_sequence side 0 (before_end side (behind_opening side (map (read_sent calling) fs ++ from_first))) ≡ payload ∷ rest
  behind_quiet [] all h = absurd h
  behind_quiet (f ∷ fs) all h = at_frame f fs all (λ g. behind_quiet fs all.1 g) h (is_link_opening side (read_sent calling f)) refl

all_short : (fs : List Frame) (nr : ℕ) (payload : List ℕ) → AreQuiet fs → length payload ≤ 1026 → AllByRecursion IsShortFrame (fs ++ Info 0 nr payload ∷ [])
all_short [] nr payload h short = (info_short 0 nr payload short, tt)
all_short (f ∷ fs) nr payload h short = (quiet_short f h.0, all_short fs nr payload h.1 short)

map_more : (calling : Bool) (fs : List Frame) (nr : ℕ) (payload : List ℕ) (tail : List ReadFrame)
    → map (read_sent calling) (fs ++ Info 0 nr payload ∷ []) ++ tail ≡ map (read_sent calling) fs ++ (read_sent calling (Info 0 nr payload) ∷ tail)
map_more calling [] nr payload tail = refl
map_more calling (f ∷ fs) nr payload tail = ap (λ (l : List ReadFrame). read_sent calling f ∷ l) (map_more calling fs nr payload tail)

-- the payload of the first I frame counts first, whatever is sent behind it
pub first_counts : FrameReadsAsItself → FlagParts → ControlReadsBack → (calling : Bool) (fs : List Frame) (nr : ℕ) (payload : List ℕ) → AreQuiet fs → HasOpeningFrame calling fs
    → length payload ≤ 1026 → (more : List ℕ)
    → (rest : List (List ℕ)) × (payloads (side_of_station calling) (octets_of_frames calling (fs ++ Info 0 nr payload ∷ []) ++ more) ≡ payload ∷ rest)
unfolding payloads
first_counts itself parts back calling [] nr payload quiet opens short more = absurd opens
first_counts itself parts back calling (f ∷ fs) nr payload quiet opens short more =
    (rest calling nr payload (frames_read (frames_of (flag ∷ more))), is)
  where
    all : List Frame
    all = f ∷ (fs ++ Info 0 nr payload ∷ [])

    frames : frames_read (frames_of (octets_of_frames calling (f ∷ (fs ++ Info 0 nr payload ∷ [])) ++ more))
        ≡ map (read_sent calling) (f ∷ fs) ++ (read_sent calling (Info 0 nr payload) ∷ frames_read (frames_of (flag ∷ more)))
    frames =
        ap frames_read (frames_sent itself parts calling f (fs ++ Info 0 nr payload ∷ []) (all_short (f ∷ fs) nr payload quiet short) more)
        ∙ all_read_back back calling (f ∷ (fs ++ Info 0 nr payload ∷ [])) (frames_of (flag ∷ more))
        ∙ map_more calling (f ∷ fs) nr payload (frames_read (frames_of (flag ∷ more)))

    is : payloads (side_of_station calling) (octets_of_frames calling (f ∷ (fs ++ Info 0 nr payload ∷ [])) ++ more) ≡ payload ∷ rest calling nr payload (frames_read (frames_of (flag ∷ more)))
    is =
        ap (λ (l : List ReadFrame). in_sequence (side_of_station calling) 0 (before_end (side_of_station calling) (behind_opening (side_of_station calling) l))) frames
        ∙ behind_quiet calling nr payload (frames_read (frames_of (flag ∷ more))) (f ∷ fs) quiet opens
