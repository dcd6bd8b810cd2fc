-- Lemmas: what holds of two stations whatever their line lost and repeated, and what a moment leads to that finds each running T1 expired;
-- no claim rests on it. It speaks of the frames that wait with their absolute numbers. Everywhere c says whether x is the calling station.
use Rattle.std.specs.Prelude.{if◌then◌else◌, ◌≡◌, ◌⊎◌, ℕ, ◌+◌, ◌<◌, ◌≤◌, ◌==◌, Bool, true, false, not, List, [], ◌∷◌, ◌++◌, length, Option, None}
use Rattle.hdlc_station_model.specs.declared.phase.Phase.{Phase}
use Rattle.hdlc_station_model.specs.declared.phase.Phase.TheVariants.{Idle, Setting, Up, Down}
use Rattle.hdlc_station_model.specs.Frames.{Frame, Info, Rr, Rej, Srej, SetUp, Disc, Dm, Ua}
use Rattle.hdlc_station_model.specs.Stations.{Station, is_up, is_down}
use Rattle.hdlc_station_model.specs.Selective.{held_for, is_found}
use Rattle.hdlc_pair_laws.specs.Invariant.{infos, receive_numbers_in_frames}
use Rattle.hdlc_pair_laws.specs.Flowing.{Consecutive, EndsAtNumber, HasNoPayloadToSend}

-- ---- one station, at any moment

-- a frame that a station sends before it is released
abbrev pub IsPolite : Frame → Type 0
IsPolite (Info ns nr payload) = Unit {0}
IsPolite (Rr nr) = Unit {0}
IsPolite (Rej nr) = Unit {0}
IsPolite (Srej nr) = Unit {0}
IsPolite SetUp = Unit {0}
IsPolite Disc = ⊥
IsPolite Dm = ⊥
IsPolite (Ua final) = Unit {0}

abbrev pub AllPolite : List Frame → Type 0
AllPolite [] = Unit {0}
AllPolite (f ∷ fs) = IsPolite f × AllPolite fs

-- T1 runs exactly while frames are unacknowledged, or while the set-up is unanswered; where it doesn't run no expiry is counted
abbrev pub Timed : Phase → Option ℕ → (expiries acked sent : ℕ) → Type 0
Timed Idle timer expiries acked sent = (timer ≡ None) × (expiries ≡ 0)
Timed Setting timer expiries acked sent = timer ≡ None → ⊥
Timed Up timer expiries acked sent = (timer ≡ None → (acked ≡ sent) × (expiries ≡ 0)) × (acked ≡ sent → timer ≡ None) × (acked ≤ sent)
Timed Down timer expiries acked sent = timer ≡ None

-- of a station and the frames that wait from it: its role and its window stay, its peer is never busy; the called one sends once it took a
-- payload; the next frame isn't held; and in Idle it said nothing
abbrev pub Own : (calling : Bool) (window : ℕ) → List Frame → Station → Type 0
Own calling window lx x =
    (x.calling ≡ calling)
    × (x.window ≡ window)
    × (x.busy ≡ false)
    × (calling ≡ false → length x.taken ≡ 0 → x.sent ≡ 0)
    × Timed x.phase x.timer x.expiries x.acked x.sent
    × (held_for (length x.taken) x.held ≡ None)
    × (is_down x.phase ≡ false → AllPolite lx)
    × (x.phase ≡ Idle → (lx ≡ []) × (x.owed ≡ false))

-- behind a call: no payload may be sent, or none is left, and a station that isn't released owes no answer
abbrev pub Rested : Station → Type 0
Rested x = HasNoPayloadToSend x × (is_down x.phase ≡ false → x.owed ≡ false)

-- of the calling station and the called one: this one is up before that one, and that one started
abbrev pub HasBegun : (calling called : Station) → Type 0
HasBegun calling called = (called.phase ≡ Idle → is_up calling.phase ≡ false) × (calling.phase ≡ Idle → ⊥)

-- ---- two stations that are up, once each sent again what was unacknowledged

-- the number V(R) behind the I frames that wait, if each is taken where it is the next one
abbrev pub leads : ℕ → List (ℕ × List ℕ) → ℕ
leads next [] = next
leads next (f ∷ fs) = if next == f.0 then leads (next + 1) fs else leads next fs

-- an I frame with this number waits
abbrev pub Waits : ℕ → List (ℕ × List ℕ) → Type 0
Waits m [] = ⊥
Waits m (f ∷ fs) = (f.0 ≡ m) ⊎ Waits m fs

-- all that was sent comes: with go-back in its order; with selective reject each number is held or waits
abbrev pub HasAllSentComing : (selective : Bool) (next : ℕ) (held waits : List (ℕ × List ℕ)) (sent : ℕ) → Type 0
HasAllSentComing true next held waits sent = (m : ℕ) → next ≤ m → m < sent → (is_found (held_for m held) ≡ true) ⊎ Waits m waits
HasAllSentComing false next held waits sent = leads next waits ≡ sent

-- of what x sends to y: and where no I frame waits, the last N(R) that waits is V(R), or y owes an answer
abbrev pub Toward : (selective : Bool) → List (ℕ × List ℕ) → List ℕ → Station → Station → Type 0
Toward selective waits shows x y =
    HasAllSentComing selective (length y.taken) y.held waits x.sent × (y.owed ≡ false → waits ≡ [] → EndsAtNumber x.acked shows (length y.taken))

-- I frames, RR, REJ and SREJ alone wait
abbrev pub IsExchange : Frame → Type 0
IsExchange (Info ns nr payload) = Unit {0}
IsExchange (Rr nr) = Unit {0}
IsExchange (Rej nr) = Unit {0}
IsExchange (Srej nr) = Unit {0}
IsExchange SetUp = ⊥
IsExchange Disc = ⊥
IsExchange Dm = ⊥
IsExchange (Ua final) = ⊥

abbrev pub AllExchange : List Frame → Type 0
AllExchange [] = Unit {0}
AllExchange (f ∷ fs) = IsExchange f × AllExchange fs

-- without the answer of x
abbrev pub Near : (selective : Bool) → List Frame → Station → List Frame → Station → Type 0
Near selective lx x ly y =
    Toward selective (infos lx) (receive_numbers_in_frames ly) x y
    × HasAllSentComing selective (length x.taken) x.held (infos ly) y.sent
    × AllExchange lx
    × AllExchange ly
    × (x.phase ≡ Up)
    × (y.phase ≡ Up)

-- the same of some ways alone: out says that it holds of what x sends, back of what y sends
abbrev pub NearSome : (selective out back : Bool) → List Frame → Station → List Frame → Station → Type 0
NearSome selective out back lx x ly y =
    (out ≡ true → Toward selective (infos lx) (receive_numbers_in_frames ly) x y)
    × (back ≡ true → HasAllSentComing selective (length x.taken) x.held (infos ly) y.sent)
    × AllExchange lx
    × AllExchange ly
    × (x.phase ≡ Up)
    × (y.phase ≡ Up)

abbrev pub MendsSome : (selective out back : Bool) → List Frame → Station → List Frame → Station → Type 0
MendsSome selective out back lx x ly y =
    NearSome selective out back lx x ly y
    × (back ≡ true → x.owed ≡ false → infos ly ≡ [] → EndsAtNumber y.acked (receive_numbers_in_frames lx) (length x.taken))

-- what waits in both directions leads to all that was sent, and to its acknowledgement
abbrev pub Mends : (selective : Bool) → List Frame → Station → List Frame → Station → Type 0
Mends selective lx x ly y =
    Near selective lx x ly y × (x.owed ≡ false → infos ly ≡ [] → EndsAtNumber y.acked (receive_numbers_in_frames lx) (length x.taken))

-- ---- the tick, and the set-up where it was lost

abbrev pub AllAre : ℕ → List ℕ → Type 0
AllAre n [] = Unit {0}
AllAre n (x ∷ xs) = (x ≡ n) × AllAre n xs

-- what a station sent at the tick: its I frames are all from V(A) to V(S) - 1, and each N(R) is V(R)
abbrev pub Fires : List Frame → Station → Type 0
Fires l x = Consecutive x.acked (infos l) x.sent × AllAre (length x.taken) (receive_numbers_in_frames l) × AllExchange l × (x.phase ≡ Up)

-- whatever it sent at the tick, each N(R) is V(R)
abbrev pub Shows : List Frame → Station → Type 0
Shows l x = AllAre (length x.taken) (receive_numbers_in_frames l) × AllExchange l × (x.phase ≡ Up)

-- of the calling station x and the called one y: no answer is owed, and nothing was taken
abbrev pub IsUnused : Station → Station → Type 0
IsUnused x y = (x.owed ≡ false) × (y.owed ≡ false) × (length y.taken ≡ 0)

-- the set-up frame waits, and nothing else; it comes to a station that may have been set up before
abbrev pub HasSetUpFrameWaiting : List Frame → Station → List Frame → Station → Type 0
HasSetUpFrameWaiting lx x ly y = (x.phase ≡ Setting) × (lx ≡ SetUp ∷ []) × (ly ≡ []) × ((y.phase ≡ Idle) ⊎ (y.phase ≡ Up)) × IsUnused x y

-- its answer waits, and nothing else
abbrev pub HasSetUpAnswerWaiting : List Frame → Station → List Frame → Station → Type 0
HasSetUpAnswerWaiting lx x ly y = (x.phase ≡ Setting) × (lx ≡ []) × (ly ≡ Ua true ∷ []) × (y.phase ≡ Up) × IsUnused x y

-- ---- how far two stations are

-- any moment of a line that loses and repeats; the calling station had its tick; both had
pub data Progress : Type 0 where
  Lossy : Progress
  HalfTicked : Progress
  Ticked : Progress
  -- of two that are up: the calling one had its tick, whatever it found, and T1 of the called one is found expired next
  Shown : Progress
  -- T1 of the calling one was found expired, or of the called one, whatever the other lost
  OneWay : (calling : Bool) → Progress

-- what that says of the frames that wait
abbrev pub Reached : Progress → (selective c : Bool) → List Frame → Station → List Frame → Station → Type 0
Reached Lossy selective c lx x ly y = Unit {0}
Reached HalfTicked selective true lx x ly y = HasSetUpFrameWaiting lx x ly y ⊎ (Fires lx x × (ly ≡ []) × (y.phase ≡ Up))
Reached HalfTicked selective false lx x ly y = HasSetUpFrameWaiting ly y lx x ⊎ (Fires ly y × (lx ≡ []) × (x.phase ≡ Up))
Reached Ticked selective true lx x ly y = HasSetUpFrameWaiting lx x ly y ⊎ HasSetUpAnswerWaiting lx x ly y ⊎ Mends selective lx x ly y
Reached Ticked selective false lx x ly y = HasSetUpFrameWaiting ly y lx x ⊎ HasSetUpAnswerWaiting ly y lx x ⊎ Mends selective lx x ly y
Reached Shown selective true lx x ly y = Shows lx x × (ly ≡ []) × (y.phase ≡ Up)
Reached Shown selective false lx x ly y = Shows ly y × (lx ≡ []) × (x.phase ≡ Up)
Reached (OneWay true) selective true lx x ly y = MendsSome selective true false lx x ly y
Reached (OneWay true) selective false lx x ly y = MendsSome selective false true lx x ly y
Reached (OneWay false) selective true lx x ly y = MendsSome selective false true lx x ly y
Reached (OneWay false) selective false lx x ly y = MendsSome selective true false lx x ly y

-- a frame may come: not between the two ticks
abbrev pub MayHear : Progress → Type 0
MayHear Lossy = Unit {0}
MayHear HalfTicked = ⊥
MayHear Ticked = Unit {0}
MayHear Shown = ⊥
MayHear (OneWay calling) = Unit {0}

-- payloads may be handed down: between the two ticks at the calling station alone, in its tick
abbrev pub MaySpeak : Progress → (c : Bool) → Type 0
MaySpeak Lossy c = Unit {0}
MaySpeak HalfTicked true = Unit {0}
MaySpeak HalfTicked false = ⊥
MaySpeak Ticked c = Unit {0}
MaySpeak Shown true = Unit {0}
MaySpeak Shown false = ⊥
MaySpeak (OneWay calling) c = Unit {0}

abbrev pub Began : (c : Bool) → Station → Station → Type 0
Began true x y = HasBegun x y
Began false x y = HasBegun y x

-- between two calls: lx waits from x, ly from y
pub record Between (p : Progress) (selective c : Bool) (window : ℕ) (lx : List Frame) (x : Station) (ly : List Frame) (y : Station) : Type 0 where
  pub own : Own c window lx x
  pub peers : Own (not c) window ly y
  pub rests : Rested x
  pub peer_rests : Rested y
  pub began : Began c x y
  pub reached : Reached p selective c lx x ly y

-- within a call of x: w waited from x before it, l waits from y
pub record Within (p : Progress) (selective c : Bool) (window : ℕ) (w : List Frame) (x : Station) (l : List Frame) (y : Station) : Type 0 where
  pub own : Own c window (w ++ x.said) x
  pub peers : Own (not c) window l y
  pub rests : HasNoPayloadToSend x
  pub given : x.sent ≤ length x.handed
  pub peer_rests : Rested y
  pub began : Began c x y
  pub reached : Reached p selective c (w ++ x.said) x l y
