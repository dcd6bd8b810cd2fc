-- The steps of two ends over two lines: their users send, take and release, the lines pass, lose, repeat, alter and put in frames, and
-- time goes on (this profile).
use Rattle.std.specs.Prelude.{ℕ, zero, suc, ◌+◌, ◌==◌, ◌≡◌, max, nat_lt, Bool, true, false, not, ◌&&◌, ◌||◌, if◌then◌else◌, List, [], ◌∷◌, length, Option, Some}
use Rattle.std.specs.Prelude.{None}
use Rattle.er_base.specs.declared.side.Side.{Side}
use Rattle.er_base.specs.declared.side.Side.TheVariants.{E, R}
use Rattle.er_base.specs.Sides.{other}
use Rattle.hdlc_station_model.specs.Lines.{altered, next_of}
use Rattle.pair_model.specs.Links.{EndKind, PairLink, end_of_side, frames_from, with_frames_from, end_did}

pub data PairStep : Type 0 where
  -- the user of this end sends
  Send : (side : Side) (user : List ℕ) → PairStep
  -- the first waiting frame of this end is given to the other end
  Pass : (side : Side) → PairStep
  -- that frame is removed
  Lose : (side : Side) → PairStep
  -- a copy of that frame is put right behind it
  Repeat : (side : Side) → PairStep
  -- the octet of that frame at this place, from 0, is changed by exclusive or
  Alter : (side : Side) (place mask : ℕ) → PairStep
  -- these octets become the first waiting frame of that direction
  Put : (side : Side) (octets : List ℕ) → PairStep
  -- the user of this end takes a message
  Take : (side : Side) → PairStep
  -- the user of this end releases, with this sub-reason
  UserRelease : (side : Side) (sub : ℕ) → PairStep
  -- passes, at most so many, until no frame waits
  Drain : (most : ℕ) → PairStep
  -- it is this moment
  Tick : (moment : ℕ) → PairStep

-- ---- the lines, of any kind of end

abbrev pub lose : {A : Type 0} → Side → List (List ℕ) → PairLink A → PairLink A
lose side [] l = l
lose side (frame ∷ frames) l = with_frames_from side frames (record l { loss_free = false })

abbrev pub repeat : {A : Type 0} → Side → List (List ℕ) → PairLink A → PairLink A
repeat side [] l = l
repeat side (frame ∷ frames) l = with_frames_from side (frame ∷ frame ∷ frames) (record l { loss_free = false })

-- a mask of 0 changes nothing
abbrev pub alter : {A : Type 0} → Side → ℕ → ℕ → List (List ℕ) → PairLink A → PairLink A
alter side place mask [] l = l
alter side place mask (frame ∷ frames) l =
    if nat_lt place (length frame)
    then (if mask == 0 then l else with_frames_from side (altered frame place mask ∷ frames) (record l { order_kept = false; loss_free = false }))
    else l

abbrev pub put : {A : Type 0} → Side → List ℕ → PairLink A → PairLink A
put side octets l = with_frames_from side (octets ∷ frames_from l side) (record l { order_kept = false; loss_free = false })

-- too many frames wait in one direction
abbrev pub is_overfull : {A : Type 0} → PairLink A → Bool
is_overfull l = nat_lt 4096 (length l.from_e) || nat_lt 4096 (length l.from_r)

abbrev pub NoFrameWaits : {A : Type 0} → PairLink A → Type 0
NoFrameWaits l = (l.from_e ≡ []) × (l.from_r ≡ [])

-- ---- what is given to the ends

module _ {A : Type 0} (kind : EndKind A) where
  abbrev pub send : Side → List ℕ → PairLink A → PairLink A
  send side user l = end_did side (kind.send l.moment user (end_of_side l side)) l

  abbrev pub take : Side → PairLink A → PairLink A
  take side l = end_did side (kind.take l.moment (end_of_side l side)) l

  abbrev pub release : Side → ℕ → PairLink A → PairLink A
  release side sub l = end_did side (kind.release l.moment sub (end_of_side l side)) (record l { loss_free = false })

  abbrev pub pass : Side → List (List ℕ) → PairLink A → PairLink A
  pass side [] l = l
  pass side (frame ∷ frames) l =
      end_did (other side) (kind.receive l.moment frame (end_of_side l (other side))) (with_frames_from side frames (record l { passes = l.passes + 1 }))

  -- ---- time

  abbrev pub tick_at : Side → PairLink A → PairLink A
  tick_at side l = end_did side (kind.tick l.moment (end_of_side l side)) l

  -- a moment below the link's counts as the link's
  abbrev pub tick : ℕ → PairLink A → PairLink A
  tick now l =
      let to = max l.moment now in
      tick_at R (tick_at E (record l { moment = to; loss_free = l.loss_free && not (kind.is_late to l.e || kind.is_late to l.r) }))

  -- ---- a drain

  -- one pass, where a frame waits and not too many do: of e where one of e waits, else of r; else the link stays as it is
  abbrev pub pass_next : Option Side → Bool → PairLink A → PairLink A
  pass_next None overfull l = l
  pass_next (Some side) true l = l
  pass_next (Some side) false l = pass side (frames_from l side) l

  -- at most so many passes
  abbrev pub drained : ℕ → PairLink A → PairLink A
  drained zero l = l
  drained (suc most) l = drained most (pass_next (next_of l.from_e l.from_r) (is_overfull l) l)

  -- ---- one step, and a list of steps

  abbrev pub pair_step : PairStep → PairLink A → PairLink A
  pair_step (Send side user) l = send side user l
  pair_step (Pass side) l = pass side (frames_from l side) l
  pair_step (Lose side) l = lose side (frames_from l side) l
  pair_step (Repeat side) l = repeat side (frames_from l side) l
  pair_step (Alter side place mask) l = alter side place mask (frames_from l side) l
  pair_step (Put side octets) l = put side octets l
  pair_step (Take side) l = take side l
  pair_step (UserRelease side sub) l = release side sub l
  pair_step (Drain most) l = drained most l
  pair_step (Tick moment) l = tick moment l

  abbrev pub pair_run : PairLink A → List PairStep → PairLink A
  pair_run l [] = l
  pair_run l (s ∷ rest) = pair_run (pair_step s l) rest

-- ---- steps that repair: the line gives a frame, or a user takes what was accepted

abbrev pub IsPassOrTake : PairStep → Type 0
IsPassOrTake (Send side user) = ⊥
IsPassOrTake (Pass side) = Unit {0}
IsPassOrTake (Lose side) = ⊥
IsPassOrTake (Repeat side) = ⊥
IsPassOrTake (Alter side place mask) = ⊥
IsPassOrTake (Put side octets) = ⊥
IsPassOrTake (Take side) = Unit {0}
IsPassOrTake (UserRelease side sub) = ⊥
IsPassOrTake (Drain most) = ⊥
IsPassOrTake (Tick moment) = ⊥

abbrev pub ArePassesAndTakes : List PairStep → Type 0
ArePassesAndTakes [] = Unit {0}
ArePassesAndTakes (s ∷ steps) = IsPassOrTake s × ArePassesAndTakes steps

-- ---- what the users send

-- what a user sends at this step is of this kind
abbrev pub SendsOnly : (Fits : List ℕ → Type 0) → PairStep → Type 0
SendsOnly Fits (Send side user) = Fits user
SendsOnly Fits (Pass side) = Unit {0}
SendsOnly Fits (Lose side) = Unit {0}
SendsOnly Fits (Repeat side) = Unit {0}
SendsOnly Fits (Alter side place mask) = Unit {0}
SendsOnly Fits (Put side octets) = Unit {0}
SendsOnly Fits (Take side) = Unit {0}
SendsOnly Fits (UserRelease side sub) = Unit {0}
SendsOnly Fits (Drain most) = Unit {0}
SendsOnly Fits (Tick moment) = Unit {0}

-- what the users send is of this kind
abbrev pub AllSend : (Fits : List ℕ → Type 0) → List PairStep → Type 0
AllSend Fits [] = Unit {0}
AllSend Fits (s ∷ rest) = SendsOnly Fits s × AllSend Fits rest
