-- What a station of either kind keeps of gaps, and what it says of them (ISO/IEC 13239, asynchronous balanced mode; that REJ goes once for a gap and
-- SREJ once for a number is this profile's): with go-back the gap mark, with selective reject what is held and what was asked for.
use Rattle.std.specs.Prelude.{◌≡◌, ◌↔◌, ℕ, ◌+◌, ◌%◌, ◌<◌, ◌≤◌, ◌==◌, Bool, true, false, if◌then◌else◌, List, [], ◌∷◌, ◌++◌, length, map}
use Rattle.std.specs.List.{list_any}
use Rattle.er_base.specs.Octets.{AreOctets}
use Rattle.hdlc_frames.specs.declared.controls.Control.{Control}
use Rattle.hdlc_frames.specs.declared.controls.Control.TheVariants as control
use Rattle.hdlc_frames.specs.Framing.{Verdict, Frame as Found}
use Rattle.hdlc_station_model.specs.declared.phase.Phase.TheVariants.{Up, Down}
use Rattle.hdlc_station_model.specs.Frames.{Frame, Info, Rr, Rej, Srej, SetUp, Disc, Dm, Ua, modulo}
use Rattle.hdlc_station_model.specs.Stations.{Station}
use Rattle.hdlc_station_model.specs.Calls.{starts, hands, finishes, ticks, closes}
use Rattle.hdlc_station_model.specs.Selective.{receives_as}
use Rattle.hdlc_station_model.specs.Causes.{Comes, IsSetUp, IsOfOctets}

-- the RR, REJ and SREJ among these frames
abbrev pub supervisory : List Frame → List Frame
supervisory [] = []
supervisory (Info ns nr payload ∷ frames) = supervisory frames
supervisory (Rr nr ∷ frames) = Rr nr ∷ supervisory frames
supervisory (Rej nr ∷ frames) = Rej nr ∷ supervisory frames
supervisory (Srej nr ∷ frames) = Srej nr ∷ supervisory frames
supervisory (SetUp ∷ frames) = supervisory frames
supervisory (Disc ∷ frames) = supervisory frames
supervisory (Dm ∷ frames) = supervisory frames
supervisory (Ua final ∷ frames) = supervisory frames

-- a call of a station that said nothing yet says these
abbrev pub Answers : Station → Station → List Frame → Type 0
Answers s t frames = s.said ≡ [] → supervisory t.said ≡ frames

-- nothing that is kept of gaps changes
pub record KeepsGaps (s t : Station) : Type 0 where
  pub gap : t.gap ≡ s.gap
  pub held : t.held ≡ s.held
  pub asked : t.asked ≡ s.asked
  pub taken : t.taken ≡ s.taken

-- ---- go-back

-- an I frame that comes while the link is up and doesn't release
pub record ComesInfo (selective : Bool) (now : ℕ) (s : Station) (address : ℕ) (body : List ℕ) (ns nr : ℕ) (payload : List ℕ) : Type 0 where
  pub octets : AreOctets body
  pub comes : Comes s address body (control.Info ns nr) payload
  pub up : s.phase ≡ Up
  pub goes_on : (receives_as selective now (Found address body) s).phase ≡ Up

-- the next one clears the gap mark and is taken; any other, an old one too, is answered by REJ where the mark isn't set, which sets it, else by RR
pub record GoesBack (s : Station) (ns : ℕ) (payload : List ℕ) (t : Station) : Type 0 where
  pub next : length s.taken % modulo s.extended ≡ ns → (t.gap ≡ false) × (t.taken ≡ s.taken ++ payload ∷ []) × Answers s t []
  pub other : (length s.taken % modulo s.extended ≡ ns → ⊥)
      → (t.gap ≡ true) × (t.taken ≡ s.taken) × Answers s t ((if s.gap then Rr (length s.taken) else Rej (length s.taken)) ∷ [])

-- ---- selective reject

-- a frame with this number is held, and this number was asked for
abbrev pub is_held : Station → ℕ → Bool
is_held s n = list_any (λ h. h.0 == n) s.held

abbrev pub lists_number : List ℕ → ℕ → Bool
lists_number ns n = list_any (λ m. m == n) ns

-- the numbers rise, from one on
abbrev pub AreRising : (from : ℕ) → List ℕ → Type 0
AreRising from [] = Unit {0}
AreRising from (n ∷ ns) = (from ≤ n) × AreRising (n + 1) ns

-- the numbers from V(R) to n - 1 that are neither held nor were asked for
pub record AreMissing (s : Station) (n : ℕ) (missing : List ℕ) : Type 0 where
  pub rising : AreRising (length s.taken) missing
  pub each : (m : ℕ) → (lists_number missing m ≡ true) ↔ ((length s.taken ≤ m) × (m < n) × (is_held s m ≡ false) × (lists_number s.asked m ≡ false))

-- n is shown as ns, and it may come: it lies from V(R) on within the window
pub record MayCome (s : Station) (ns n : ℕ) : Type 0 where
  pub low : length s.taken ≤ n
  pub high : n < length s.taken + s.window
  pub shown : n % modulo s.extended ≡ ns

-- this payload is held for this number
pub record IsHeldWith (held : List (ℕ × List ℕ)) (n : ℕ) (payload : List ℕ) : Type 0 where
  pub before : List (ℕ × List ℕ)
  pub after : List (ℕ × List ℕ)
  pub parts : held ≡ before ++ (n, payload) ∷ after

-- these payloads are held for the numbers from n on
abbrev pub AreHeldFrom : List (ℕ × List ℕ) → (n : ℕ) → List (List ℕ) → Type 0
AreHeldFrom held n [] = Unit {0}
AreHeldFrom held n (payload ∷ payloads) = IsHeldWith held n payload × AreHeldFrom held (n + 1) payloads

-- what an I frame does
pub data HearsInfo (s : Station) (ns : ℕ) (payload : List ℕ) (t : Station) : Type 0 where
  -- it is old: RR says again which is the next
  IsOld : ((n : ℕ) → MayCome s ns n → ⊥) → KeepsGaps s t → Answers s t (Rr (length s.taken) ∷ []) → HearsInfo s ns payload t
  IsHeldAlready : (n : ℕ) → MayCome s ns n → length s.taken < n → is_held s n ≡ true → KeepsGaps s t → Answers s t (Rr (length s.taken) ∷ [])
      → HearsInfo s ns payload t
  -- it is the next: it is taken with what is held for the numbers that follow, up to the first that isn't, and what is below the new V(R) is
  -- neither held nor asked for
  IsNext : (run : List (List ℕ)) → MayCome s ns (length s.taken) → t.taken ≡ s.taken ++ payload ∷ run → AreHeldFrom s.held (length s.taken + 1) run
      → is_held s (length t.taken) ≡ false
      → ((m : ℕ) → lists_number t.asked m ≡ true → (lists_number s.asked m ≡ true) × (length t.taken ≤ m))
      → ((m : ℕ) → lists_number s.asked m ≡ true → length t.taken ≤ m → lists_number t.asked m ≡ true)
      → ((m : ℕ) → is_held t m ≡ true → (is_held s m ≡ true) × (length t.taken ≤ m))
      → ((m : ℕ) → is_held s m ≡ true → length t.taken ≤ m → is_held t m ≡ true)
      → Answers s t [] → HearsInfo s ns payload t
  -- a frame before it is missing: it is held, and SREJ asks once for each that is missing and wasn't asked for
  IsAhead : (n : ℕ) (missing : List ℕ) → MayCome s ns n → length s.taken < n → is_held s n ≡ false → AreMissing s n missing
      → t.held ≡ s.held ++ (n, payload) ∷ [] → t.asked ≡ s.asked ++ missing → t.taken ≡ s.taken → Answers s t (map Srej missing) → HearsInfo s ns payload t

-- ---- each call

-- the set-up frame once more, before the first I frame that was taken
pub record ForgetsGaps (selective : Bool) (t : Station) : Type 0 where
  pub gap : selective ≡ false → t.gap ≡ false
  pub held : selective ≡ true → t.held ≡ []
  pub asked : selective ≡ true → t.asked ≡ []

-- REJ and SREJ are said at I frames alone, and RR there and where an answer is owed; what is kept of gaps changes at I frames and at the set-up frame alone
pub record GapsOfCalls : Type 0 where
  pub goes_back : (now : ℕ) (s : Station) (address : ℕ) (body : List ℕ) (ns nr : ℕ) (payload : List ℕ) → ComesInfo false now s address body ns nr payload
      → GoesBack s ns payload (receives_as false now (Found address body) s)
  pub files : (now : ℕ) (s : Station) (address : ℕ) (body : List ℕ) (ns nr : ℕ) (payload : List ℕ) → 1 ≤ s.window
      → ComesInfo true now s address body ns nr payload
      → HearsInfo s ns payload (receives_as true now (Found address body) s)
  pub set_up : (selective : Bool) (now : ℕ) (s : Station) (address : ℕ) (body : List ℕ) (control : Control) → AreOctets body → Comes s address body control []
      → IsSetUp control
      → s.phase ≡ Up → (receives_as selective now (Found address body) s).phase ≡ Up → ForgetsGaps selective (receives_as selective now (Found address body) s)
  -- any frame but I and the set-up frame
  pub others : (selective : Bool) (now : ℕ) (s : Station) (verdict : Verdict) → IsOfOctets verdict
      → ((address : ℕ) (body : List ℕ) (ns nr : ℕ) (information : List ℕ) → verdict ≡ Found address body
      → Comes s address body (control.Info ns nr) information → ⊥)
      → Answers s (receives_as selective now verdict s) []
      × (((address : ℕ) (body : List ℕ) (control : Control) (information : List ℕ) → verdict ≡ Found address body → Comes s address body control information
      → IsSetUp control → ⊥)
      → KeepsGaps s (receives_as selective now verdict s))
  pub asleep : (selective : Bool) (now : ℕ) (s : Station) (verdict : Verdict) → IsOfOctets verdict
      → (s.phase ≡ Up → ⊥) → KeepsGaps s (receives_as selective now verdict s) × Answers s (receives_as selective now verdict s) []
  pub released : (selective : Bool) (now : ℕ) (s : Station) (verdict : Verdict) → IsOfOctets verdict → ((receives_as selective now verdict s).phase ≡ Up → ⊥)
      → KeepsGaps s (receives_as selective now verdict s) × Answers s (receives_as selective now verdict s) []
  pub starts : (now : ℕ) (s : Station) → KeepsGaps s (starts now s) × Answers s (starts now s) []
  pub hands : (now : ℕ) (payload : List ℕ) (s : Station) → KeepsGaps s (hands now payload s) × Answers s (hands now payload s) []
  pub finishes : (s : Station) → (s.phase ≡ Down → ⊥) → KeepsGaps s (finishes s) × Answers s (finishes s) (if s.owed then Rr (length s.taken) ∷ [] else [])
  pub ticks : (now : ℕ) (s : Station) → KeepsGaps s (ticks now s) × Answers s (ticks now s) []
  pub closes : (s : Station) → KeepsGaps s (closes s) × Answers s (closes s) []
