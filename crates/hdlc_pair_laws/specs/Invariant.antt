-- Lemmas: the invariant of a losing line, which no claim rests on. It speaks of the frames that wait with their absolute numbers.
use Rattle.std.specs.Prelude.{◌≡◌, ℕ, ◌+◌, ◌*◌, ◌≤◌, min, max, Bool, true, false, not, List, [], ◌∷◌, ◌++◌, length, take, slice_index_or}
use Rattle.std.specs.List.{flat_map}
use Rattle.hdlc_station_model.specs.declared.phase.Phase.{Phase}
use Rattle.hdlc_station_model.specs.declared.phase.Phase.TheVariants.{Idle, Setting, Up, Down}
use Rattle.hdlc_station_model.specs.Frames.{Frame, Info, Rr, Rej, Srej, SetUp, Disc, Dm, Ua, modulo}
use Rattle.hdlc_station_model.specs.Stations.{Station}
use Rattle.hdlc_pair_laws.specs.Laws.{IsLosingLineRelease}

-- ---- what waits

-- the numbers and payloads of the I frames
abbrev pub info_of : Frame → List (ℕ × List ℕ)
info_of (Info ns nr payload) = (ns, payload) ∷ []
info_of (Rr nr) = []
info_of (Rej nr) = []
info_of (Srej nr) = []
info_of SetUp = []
info_of Disc = []
info_of Dm = []
info_of (Ua final) = []

abbrev pub infos : List Frame → List (ℕ × List ℕ)
infos l = flat_map info_of l

-- the numbers N(R)
abbrev pub receive_numbers_in_frame : Frame → List ℕ
receive_numbers_in_frame (Info ns nr payload) = nr ∷ []
receive_numbers_in_frame (Rr nr) = nr ∷ []
receive_numbers_in_frame (Rej nr) = nr ∷ []
receive_numbers_in_frame (Srej nr) = []
receive_numbers_in_frame SetUp = []
receive_numbers_in_frame Disc = []
receive_numbers_in_frame Dm = []
receive_numbers_in_frame (Ua final) = []

abbrev pub receive_numbers_in_frames : List Frame → List ℕ
receive_numbers_in_frames l = flat_map receive_numbers_in_frame l

-- the mark 2 is above each that a station has: it stands for a frame that no station of this kind sends
abbrev pub foreign_if : Bool → List ℕ
foreign_if true = 2 ∷ []
foreign_if false = []

-- the set-up frame has the mark 0, an I frame the mark 1; no station with go-back sends SREJ, and none with selective reject sends REJ
abbrev pub marks_in_frame : (selective : Bool) → Frame → List ℕ
marks_in_frame selective (Info ns nr payload) = 1 ∷ []
marks_in_frame selective (Rr nr) = []
marks_in_frame selective (Rej nr) = foreign_if selective
marks_in_frame selective (Srej nr) = foreign_if (not selective)
marks_in_frame selective SetUp = 0 ∷ []
marks_in_frame selective Disc = []
marks_in_frame selective Dm = []
marks_in_frame selective (Ua final) = []

abbrev pub marks : (selective : Bool) → List Frame → List ℕ
marks selective l = flat_map (marks_in_frame selective) l

-- ---- one direction: from a sender to a receiver

-- numbers that don't fall, from low up to high
abbrev pub Climbs : ℕ → List ℕ → ℕ → Type 0
Climbs low [] high = low ≤ high
Climbs low (x ∷ xs) high = (low ≤ x) × Climbs x xs high

-- the I frames that wait, the first one first: low is V(R) of the receiver as it will be by then if it takes what it can
abbrev pub Forward : ℕ → List (List ℕ) → ℕ → List (ℕ × List ℕ) → ℕ → Type 0
Forward k handed low [] high = low ≤ high
Forward k handed low (f ∷ fs) high = (low ≤ f.0 + k) × (f.1 ≡ slice_index_or handed f.0 []) × Forward k handed (max low (f.0 + 1)) fs high

-- the sender was handed payloads, V(A) is a and V(S) is s; the receiver took payloads; these I frames wait towards it, and these
-- numbers N(R) wait towards the sender; k is the greatest window: one below the modulo, or half of it at the most
pub record Way (k : ℕ) (handed : List (List ℕ)) (a s : ℕ) (taken : List (List ℕ)) (waits : List (ℕ × List ℕ)) (shows : List ℕ) : Type 0 where
  pub prefix : taken ≡ take (length taken) handed
  pub window : s ≤ a + k
  pub given : s ≤ length handed
  -- hence V(R) ≤ V(S), each number is below V(S), and V(R) ≤ each number + k
  pub chain : Forward k handed (length taken) waits s
  -- hence V(A) ≤ each N(R) ≤ V(R)
  pub climb : Climbs a shows (length taken)

-- the marks that wait from a sender, by its role: the calling one sends set-up frames, and none behind an I frame; while one waits the
-- receiver took nothing
abbrev pub least_mark : Bool → List (List ℕ) → ℕ
least_mark true taken = min 1 (length taken)
least_mark false taken = 1

abbrev pub greatest_mark : Bool → ℕ → ℕ
greatest_mark true sent = min 1 sent
greatest_mark false sent = 1

-- before it is up a station sent no I frame, and Setting is for the calling one
abbrev pub Early : Phase → Bool → ℕ → Type 0
Early Idle calling sent = sent ≡ 0
Early Setting calling sent = (sent ≡ 0) × (calling ≡ true)
Early Up calling sent = Unit {0}
Early Down calling sent = Unit {0}

-- payloads as users hand them down
abbrev pub AllShort : List (List ℕ) → Type 0
AllShort [] = Unit {0}
AllShort (p ∷ ps) = (length p ≤ 1026) × AllShort ps

-- ---- what a station with selective reject holds

-- the greater of V(R) and one more than the greatest number that is held
abbrev pub reach : ℕ → List (ℕ × List ℕ) → ℕ
reach next [] = next
reach next (h ∷ held) = max (h.0 + 1) (reach next held)

-- each payload that is held is the one that was handed down for its number
abbrev pub AllOwn : List (List ℕ) → List (ℕ × List ℕ) → Type 0
AllOwn handed [] = Unit {0}
AllOwn handed (h ∷ held) = (h.1 ≡ slice_index_or handed h.0 []) × AllOwn handed held

-- the I frames that wait towards it lie at most k below all that came, and so what is held is below V(S) of the sender
pub record Holding (k : ℕ) (handed : List (List ℕ)) (s next : ℕ) (held : List (ℕ × List ℕ)) (waits : List (ℕ × List ℕ)) : Type 0 where
  pub chain : Forward k handed (reach next held) waits s
  pub own : AllOwn handed held

-- a station with go-back holds nothing
abbrev pub HoldsOutOfOrderPayloads : (selective : Bool) → (k : ℕ) (handed : List (List ℕ)) (s next : ℕ) (held : List (ℕ × List ℕ)) (waits : List (ℕ × List ℕ))
    → Type 0
HoldsOutOfOrderPayloads true k handed s next held waits = Holding k handed s next held waits
HoldsOutOfOrderPayloads false k handed s next held waits = held ≡ []

-- of what x sends to y: the I frames and the marks that wait from x, and the numbers N(R) that wait from y
abbrev pub Half : (selective : Bool) → ℕ → List (ℕ × List ℕ) → List ℕ → List ℕ → Station → Station → Type 0
Half selective k waits from shows x y =
    Way k x.handed x.acked x.sent y.taken waits shows
    × Climbs (least_mark x.calling y.taken) from (greatest_mark x.calling x.sent)
    × Early x.phase x.calling x.sent
    × (x.window ≤ k)
    × AllShort x.handed
    × IsLosingLineRelease x.released
    × HoldsOutOfOrderPayloads selective k x.handed x.sent (length y.taken) y.held waits

-- the greatest window of a kind
abbrev pub IsSpan : (selective extended : Bool) → ℕ → Type 0
IsSpan true extended k = 2 * k ≤ modulo extended
IsSpan false extended k = k + 1 ≡ modulo extended

-- two stations of one kind and what waits between them: lx from x, ly from y
abbrev pub IsStationPair : (selective : Bool) → ℕ → List Frame → Station → List Frame → Station → Type 0
IsStationPair selective k lx x ly y =
    Half selective k (infos lx) (marks selective lx) (receive_numbers_in_frames ly) x y
    × Half selective k (infos ly) (marks selective ly) (receive_numbers_in_frames lx) y x
    × (x.calling ≡ not y.calling)
    × (x.extended ≡ y.extended)
    × IsSpan selective x.extended k

-- within a call of x, where w waited from x before it
abbrev pub Both : (selective : Bool) → ℕ → List Frame → Station → List Frame → Station → Type 0
Both selective k w x l y = IsStationPair selective k (w ++ x.said) x l y
