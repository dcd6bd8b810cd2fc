-- The public laws on frames: what holds of every stream and every way to cut it. Each is proved as a
-- function of the module `laws`.
use Rattle.std.specs.Prelude.{◌≡◌, ◌↔◌, ℕ, zero, suc, ◌+◌, ◌*◌, ◌<◌, ◌≤◌, Bool, List, slice_index, Some, [], ◌∷◌, ◌++◌, length, take, drop, map, flat_map}
use Rattle.std.specs.Option.{option_to_list}
use Rattle.hdlc_frames.specs.Controls.{control_octets}
use Rattle.hdlc_frames.specs.Bodies.{HasControl, IsBelow}
use Rattle.hdlc_frames.specs.ControlOctets.{control_of}
use Rattle.hdlc_frames.specs.declared.controls.Control.{Control}
use Rattle.hdlc_frames.specs.Framing.{flag, Verdict, Frame, frames_of}
use Rattle.hdlc_frames.specs.Spelling.{spelling}
use Rattle.hdlc_frames.specs.FirstClose.{ClosesFirst}
use Rattle.hdlc_frames.specs.Deframing.{KeptDeframer, after_flag, stream_behind_kept, IsKeptOfStream, feeding_of, kept_of}

-- ---- what is kept stands for the stream

-- what is kept of a stream is kept of a stream with no frame in it, and that one stands for the first: what
-- comes behind is read and kept alike
abbrev pub KeptStandsForStream : Type 0
KeptStandsForStream =
    (stream octets : List ℕ)
    → (IsKeptOfStream (kept_of stream) × (frames_of (stream_behind_kept (kept_of stream)) ≡ []))
    × ((frames_of (stream ++ octets) ≡ frames_of stream ++ frames_of (stream_behind_kept (kept_of stream) ++ octets))
    × (kept_of (stream ++ octets) ≡ kept_of (stream_behind_kept (kept_of stream) ++ octets)))

-- ---- pieces fed one after another, each once

-- the octets that are used of them
abbrev pub octets_used_of_pieces : KeptDeframer → List (List ℕ) → List ℕ
octets_used_of_pieces k [] = []
octets_used_of_pieces k (piece ∷ pieces) = take (feeding_of k piece).used piece ++ octets_used_of_pieces (feeding_of k piece).kept pieces

-- the verdicts that are given
abbrev pub verdicts_of : KeptDeframer → List (List ℕ) → List Verdict
verdicts_of k [] = []
verdicts_of k (piece ∷ pieces) = option_to_list (feeding_of k piece).verdict ++ verdicts_of (feeding_of k piece).kept pieces

-- what is kept then
abbrev pub kept_behind_pieces : KeptDeframer → List (List ℕ) → KeptDeframer
kept_behind_pieces k [] = k
kept_behind_pieces k (piece ∷ pieces) = kept_behind_pieces (feeding_of k piece).kept pieces

-- the verdicts over any list of pieces are the frames of the octets used
abbrev pub VerdictsAreFrames : Type 0
VerdictsAreFrames = (pieces : List (List ℕ)) → verdicts_of (kept_of []) pieces ≡ frames_of (octets_used_of_pieces (kept_of []) pieces)

-- two lists of pieces of which the same octets are used give the same verdicts
abbrev pub SameOctetsSameVerdicts : Type 0
SameOctetsSameVerdicts =
    (pieces others : List (List ℕ)) → octets_used_of_pieces (kept_of []) pieces ≡ octets_used_of_pieces (kept_of []) others
    → verdicts_of (kept_of []) pieces ≡ verdicts_of (kept_of []) others

-- the same behind any stream: the frames go on by the verdicts, and what is kept goes on by the octets used
abbrev pub FeedingGoesOn : Type 0
FeedingGoesOn =
    (stream : List ℕ) (pieces : List (List ℕ))
    → (frames_of (stream ++ octets_used_of_pieces (kept_of stream) pieces) ≡ frames_of stream ++ verdicts_of (kept_of stream) pieces)
    × (kept_of (stream ++ octets_used_of_pieces (kept_of stream) pieces) ≡ kept_behind_pieces (kept_of stream) pieces)

-- behind a stream too: what is given and kept of one piece more
abbrev pub StreamGoesOn : Type 0
StreamGoesOn =
    (stream piece : List ℕ)
    → (frames_of (stream ++ take (feeding_of (kept_of stream) piece).used piece)
    ≡ frames_of stream ++ option_to_list (feeding_of (kept_of stream) piece).verdict)
    × (kept_of (stream ++ take (feeding_of (kept_of stream) piece).used piece) ≡ (feeding_of (kept_of stream) piece).kept)

-- ---- a stream cut into pieces, each fed again from where the deframer stopped until it is used whole

-- feeding octets and then what is left of them, n times over
abbrev pub pieces_fed_again : ℕ → KeptDeframer → List ℕ → List (List ℕ)
pieces_fed_again zero k octets = []
pieces_fed_again (suc n) k octets = octets ∷ pieces_fed_again n (feeding_of k octets).kept (drop (feeding_of k octets).used octets)

-- what is kept after such rounds
abbrev pub kept_after_feedings : ℕ → KeptDeframer → List ℕ → KeptDeframer
kept_after_feedings zero k octets = k
kept_after_feedings (suc n) k octets = kept_after_feedings n (feeding_of k octets).kept (drop (feeding_of k octets).used octets)

-- the verdicts on pieces that are each used whole; a call uses an octet at least, so as many rounds as a
-- piece has octets are enough
unfoldable pub verdicts_on_cut : KeptDeframer → List (List ℕ) → List Verdict
verdicts_on_cut k [] = []
verdicts_on_cut k (piece ∷ pieces) =
    verdicts_of k (pieces_fed_again (length piece) k piece) ++ verdicts_on_cut (kept_after_feedings (length piece) k piece) pieces

-- what is kept behind such pieces
unfoldable pub kept_on_cut : KeptDeframer → List (List ℕ) → KeptDeframer
kept_on_cut k [] = k
kept_on_cut k (piece ∷ pieces) = kept_on_cut (kept_after_feedings (length piece) k piece) pieces

-- any cut of a stream into pieces gives the frames of the stream
abbrev pub AnyCutIsWhole : Type 0
AnyCutIsWhole = (pieces : List (List ℕ)) → verdicts_on_cut (kept_of []) pieces ≡ frames_of (flat_map (λ piece. piece) pieces)

-- and behind any stream: what a cut of the octets that follow gives, and what is kept then, is that of the
-- octets as a whole
abbrev pub CutGoesOn : Type 0
CutGoesOn =
    (stream : List ℕ) (pieces : List (List ℕ))
    → (frames_of (stream ++ flat_map (λ piece. piece) pieces) ≡ frames_of stream ++ verdicts_on_cut (kept_of stream) pieces)
    × (kept_of (stream ++ flat_map (λ piece. piece) pieces) ≡ kept_on_cut (kept_of stream) pieces)

-- from whatever a deframer keeps, two cuts of the same octets give the same verdicts and leave the same
abbrev pub SameOctetsSameCut : Type 0
SameOctetsSameCut =
    (k : KeptDeframer) → IsKeptOfStream k → (pieces others : List (List ℕ))
    → flat_map (λ piece. piece) pieces ≡ flat_map (λ piece. piece) others
    → (verdicts_on_cut k pieces ≡ verdicts_on_cut k others) × (kept_on_cut k pieces ≡ kept_on_cut k others)

-- ---- frames written and read

-- a frame is read as itself, and what follows it as it would be read behind one flag
abbrev pub FrameReadsAsItself : Type 0
FrameReadsAsItself =
    (address : ℕ) (body rest : List ℕ) → 1 ≤ length body → length body ≤ 1029
    → frames_of (spelling address body ++ rest) ≡ Frame address body ∷ frames_of (flag ∷ rest)

-- and alone it is this one frame
abbrev pub FrameAlone : Type 0
FrameAlone =
    (address : ℕ) (body : List ℕ) → 1 ≤ length body → length body ≤ 1029
    → frames_of (spelling address body) ≡ Frame address body ∷ []

-- each of these frames has a body of 1 to 1,029 octets
abbrev pub AreWritable : List (ℕ × List ℕ) → Type 0
AreWritable [] = Unit {0}
AreWritable (frame ∷ frames) = ((1 ≤ length frame.1) × (length frame.1 ≤ 1029)) × AreWritable frames

-- frames written one behind another are read as these frames
abbrev pub WrittenAreRead : Type 0
WrittenAreRead =
    (frames : List (ℕ × List ℕ)) → AreWritable frames
    → frames_of (flat_map (λ frame. spelling frame.0 frame.1) frames) ≡ map (λ frame. Frame frame.0 frame.1) frames

-- the flag that ends a written frame closes the first frame, whatever follows
abbrev pub WrittenIsFirst : Type 0
WrittenIsFirst =
    (address : ℕ) (body rest : List ℕ) → ClosesFirst (spelling address body ++ rest) (length (spelling address body))

-- a deframer that just read a flag, or nothing yet, uses a written frame whole and gives exactly that frame,
-- whatever follows
abbrev pub WrittenIsFed : Type 0
WrittenIsFed =
    (address : ℕ) (body rest : List ℕ) → 1 ≤ length body → length body ≤ 1029
    → (feeding_of after_flag (spelling address body ++ rest)
    ≡ record { used = length (spelling address body); verdict = Some (Frame address body); kept = after_flag })
    × (feeding_of (kept_of []) (spelling address body ++ rest)
    ≡ record { used = length (spelling address body); verdict = Some (Frame address body); kept = after_flag })

-- a flag parts a stream: what stands behind it is read, and kept, without what stands before it
abbrev pub FlagParts : Type 0
FlagParts =
    (before rest : List ℕ)
    → (frames_of (before ++ flag ∷ rest) ≡ frames_of (before ++ flag ∷ []) ++ frames_of (flag ∷ rest))
    × (kept_of (before ++ flag ∷ rest) ≡ kept_of (flag ∷ rest))

-- a frame takes at most twice its content and the two flags
abbrev pub FrameLength : Type 0
FrameLength = (address : ℕ) (body : List ℕ) → length (spelling address body) ≤ 2 * length body + 8

-- ---- controls

-- a body of octets is read as the control and the information that the table at its modulo says, and no other
abbrev pub ControlIsTable : Type 0
ControlIsTable =
    (modulo : ℕ) (body : List ℕ) → ((k : ℕ) → slice_index body k < 256) → (control : Control) (information : List ℕ)
    → (control_of modulo body ≡ Some (control, information)) ↔ HasControl modulo body control information

-- the octets of a control with information behind them are read as that control and information
abbrev pub ControlReadsBack : Type 0
ControlReadsBack =
    (modulo : ℕ) (control : Control) (bit : Bool) (octets information : List ℕ)
    → IsBelow modulo control → control_octets modulo control bit ≡ Some octets
    → control_of modulo (octets ++ information) ≡ Some (control, information)

-- a control has one octet or two
abbrev pub ControlLength : Type 0
ControlLength =
    (modulo : ℕ) (control : Control) (bit : Bool) (octets : List ℕ)
    → control_octets modulo control bit ≡ Some octets → (1 ≤ length octets) × (length octets ≤ 2)
