-- What holds of one end by itself: of its own fields, of the TPDUs that it gave, and of those that it heard. Two ends are tied by this
-- alone: what one of them heard is a beginning of what the other gave.
use Rattle.std.proofs.Common.{◌≡◌, ℕ, ◌+◌, ◌≤◌, ◌⊎◌, Bool, true, false, not, List, [], length, map, take, Option, Some, None}
use Rattle.std.specs.List.{flat_map}
use Rattle.er_base.specs.declared.release.Release.{Release}
use Rattle.t70_header.specs.Blocks.{last_block}
use Rattle.sapdu.specs.Spelling.{di_in}
use Rattle.safety_automaton.specs.Safety.{Safety, Phase, Ready, WaitAu1, WaitAu2, WaitAu3, WaitAr, Connected, Released}
use Rattle.hdlc_station_model.specs.declared.phase.Phase.{Phase as Link_phase}
use Rattle.hdlc_station_model.specs.Frames.{Frame}
use Rattle.hdlc_station_model.specs.Stations.{is_up, is_down}
use Rattle.hdlc_pair_laws.specs.Invariant.{Both}
use Rattle.x224_class2.specs.Segments.{Segment, messages_in}
use Rattle.x224_class2.specs.Tpdus.{GivenTpdu, Cr, Cc, Dr, octets_given}
use Rattle.x224_class2.specs.declared.stage.Stage.{Stage}
use Rattle.x224_class2.specs.declared.stage.Stage.TheVariants as stages
use Rattle.er_end_model.specs.Layers.{Core, model}
use Rattle.er_end_model.specs.Steps.{why_of, has_next_tpdu}
use Rattle.er_end_pair_laws.specs.Openings.{EndLinkOpening, Agree}
use Rattle.er_end_pair_laws.specs.Reasons.{IsLosingLineRelease}
use Rattle.er_end_pair_laws.proofs.Lists.{Head, Each, Ends}
use Rattle.er_end_pair_laws.proofs.Locals.{drs, dcs, aks, Gives, Gets, Cuts, Opens, Fits}
use Rattle.er_end_pair_laws.proofs.Constants.{side_in, own_number, flag_at, session, connection_at, greeting, said_all, users_of, Sendable}

-- the user octets of messages
abbrev pub users : List (List ℕ) → List (List ℕ)
users messages = flat_map users_of messages

-- ---- always, also of a released end

pub record Always (s : EndLinkOpening) (c : Bool) (segs : List Segment) (given acked edge newest : ℕ) (contents : List Segment) (gave : List GivenTpdu)
    (sent accepted : List (List ℕ)) (h : List GivenTpdu) : Type 0 where
  pub gives : Gives s.settings.credit segs given acked edge newest contents gave
  pub gets : Gets acked contents h
  pub cuts : Cuts s.settings.size segs
  pub opens : Opens c s.settings.credit s.settings.size gave
  pub dc_few : length (dcs gave) ≤ length (drs h)
  pub out : users (messages_in segs) ≡ sent
  pub within : Head accepted (users (messages_in contents))
  pub fits : Each Fits gave
  pub sendable : Each Sendable sent

abbrev pub AlwaysOf : EndLinkOpening → Bool → Core → List GivenTpdu → Type 0
AlwaysOf s c x h =
    Always s c x.upper.transport.segments x.upper.transport.given x.upper.transport.acked x.upper.transport.edge x.upper.transport.newest
    x.upper.transport.contents x.upper.transport.gave x.upper.sent x.upper.accepted h

-- ---- where the keys agree, also of a released end

-- what a TPDU says; of a DR, the release that its receiver makes of it
abbrev pub Proper : EndLinkOpening → Bool → GivenTpdu → Type 0
Proper s c (Cr credit size user) = user ≡ greeting s c
Proper s c (Cc credit size user) = user ≡ greeting s c
Proper s c (Dr reason user) = IsLosingLineRelease (Some (why_of (di_in user (flag_at c))))
Proper s c _ = Unit {0}

abbrev pub Said : EndLinkOpening → Bool → List (List ℕ) → List (List ℕ) → Type 0
Said s c messages sent = ((messages ≡ []) × (sent ≡ [])) ⊎ (messages ≡ said_all s c sent)

pub record Told (s : EndLinkOpening) (c : Bool) (segs : List Segment) (gave : List GivenTpdu) (sent : List (List ℕ)) (released : Option Release) : Type 0 where
  pub proper : Each (Proper s c) gave
  pub said : Said s c (messages_in segs) sent
  pub good : IsLosingLineRelease released

abbrev pub ToldOf : EndLinkOpening → Bool → Core → Type 0
ToldOf s c x = Told s c x.upper.transport.segments x.upper.transport.gave x.upper.sent x.released

-- ---- of a live end: its transport and its station

abbrev pub Stages : Bool → Stage → Option (List ℕ) → List GivenTpdu → List GivenTpdu → Link_phase → Type 0
Stages true stages.New due h gave phase = (due ≡ None) × (h ≡ []) × (gave ≡ []) × (is_up phase ≡ false)
Stages false stages.New due h gave phase = (due ≡ None) × (h ≡ []) × (gave ≡ [])
Stages true stages.Calling due h gave phase = (h ≡ []) × (due ≡ None → 1 ≤ length gave) × (is_up phase ≡ true)
Stages false stages.Calling due h gave phase = ⊥
Stages c stages.Called due h gave phase = ⊥
Stages c stages.Open due h gave phase = (1 ≤ length h) × (due ≡ None → 1 ≤ length gave)
Stages c stages.Over due h gave phase = ⊥

-- what is due is the first TPDU
abbrev pub DueIs : EndLinkOpening → Bool → Option (List ℕ) → List GivenTpdu → Type 0
DueIs s c None gave = Unit {0}
DueIs s c (Some user) gave = (gave ≡ []) × (length user ≤ 32) × (Agree s → user ≡ greeting s c)

abbrev pub EdgeIs : Stage → (acked edge credit : ℕ) → Type 0
EdgeIs stages.New acked edge credit = (edge ≡ 0) × (acked ≡ 0)
EdgeIs stages.Calling acked edge credit = (edge ≡ 0) × (acked ≡ 0)
EdgeIs stages.Called acked edge credit = ⊥
EdgeIs stages.Open acked edge credit = edge ≡ acked + credit
EdgeIs stages.Over acked edge credit = ⊥

pub record Alive (s : EndLinkOpening) (c : Bool) (stage : Stage) (is_caller : Bool) (credit size : ℕ) (due : Option (List ℕ)) (gave h : List GivenTpdu)
    (given acked edge newest : ℕ) (joined : List ℕ) (phase : Link_phase) : Type 0 where
  pub stages : Stages c stage due h gave phase
  pub role_is : is_caller ≡ c
  pub size_is : size ≡ s.settings.size
  pub credit_is : credit ≡ s.settings.credit
  pub joined_is : joined ≡ []
  pub no_dr : length (drs gave) ≡ 0
  pub no_dr_heard : length (drs h) ≡ 0
  pub count : length gave ≤ 1 + given + newest
  pub final : Ends 0 (aks gave) newest
  pub edge_is : EdgeIs stage acked edge s.settings.credit
  pub due_is : DueIs s c due gave
  pub awake : is_down phase ≡ false

abbrev pub AliveOf : EndLinkOpening → Bool → Core → List GivenTpdu → Type 0
AliveOf s c x h =
    Alive s c x.upper.transport.stage x.upper.transport.is_caller x.upper.transport.credit x.upper.transport.size x.upper.transport.due
    x.upper.transport.gave h x.upper.transport.given x.upper.transport.acked x.upper.transport.edge x.upper.transport.newest x.joined x.line.phase

-- ---- of a live end: its safety side and its user

abbrev pub Joint : EndLinkOpening → Bool → Stage → Phase → Type 0
Joint s c stages.New (Ready peer kmac rb) = (c ≡ true) × (peer ≡ s.rbc) × (kmac ≡ s.kmac) × (rb ≡ s.rb)
Joint s c stages.New (WaitAu1 ra) = (c ≡ false) × (ra ≡ s.ra)
Joint s c stages.New (WaitAu2 peer kmac rb) = ⊥
Joint s c stages.New (WaitAu3 connection) = ⊥
Joint s c stages.New (WaitAr connection) = ⊥
Joint s c stages.New (Connected peer key) = ⊥
Joint s c stages.New (Released release known) = ⊥
Joint s c stages.Calling (Ready peer kmac rb) = ⊥
Joint s c stages.Calling (WaitAu1 ra) = ⊥
Joint s c stages.Calling (WaitAu2 peer kmac rb) = (c ≡ true) × (peer ≡ s.rbc) × (kmac ≡ s.kmac) × (rb ≡ s.rb)
Joint s c stages.Calling (WaitAu3 connection) = ⊥
Joint s c stages.Calling (WaitAr connection) = ⊥
Joint s c stages.Calling (Connected peer key) = ⊥
Joint s c stages.Calling (Released release known) = ⊥
Joint s c stages.Called phase = ⊥
Joint s c stages.Open (Ready peer kmac rb) = ⊥
Joint s c stages.Open (WaitAu1 ra) = ⊥
Joint s c stages.Open (WaitAu2 peer kmac rb) = ⊥
Joint s c stages.Open (WaitAu3 connection) = c ≡ false
Joint s c stages.Open (WaitAr connection) = c ≡ true
Joint s c stages.Open (Connected peer key) = Unit {0}
Joint s c stages.Open (Released release known) = ⊥
Joint s c stages.Over phase = ⊥

-- where the keys agree: what is known, what was said and what came
abbrev pub PhaseIs : EndLinkOpening → Bool → Phase → (out : List (List ℕ)) → (sent : List (List ℕ)) → (came : List (List ℕ)) → (accepted : List (List ℕ)) → Type 0
PhaseIs s c (WaitAu3 connection) out sent came accepted =
    (out ≡ []) × (sent ≡ []) × (came ≡ []) × (accepted ≡ []) × (connection ≡ connection_at s c)
PhaseIs s c (WaitAr connection) out sent came accepted =
    (out ≡ said_all s c []) × (sent ≡ []) × (came ≡ []) × (accepted ≡ []) × (connection ≡ connection_at s c)
PhaseIs s c (Connected peer key) out sent came accepted =
    (out ≡ said_all s c sent) × (came ≡ said_all s (not c) accepted) × (peer ≡ own_number s (not c)) × (key ≡ session s)
PhaseIs s c (Released release known) out sent came accepted = ⊥
PhaseIs s c _ out sent came accepted = (out ≡ []) × (sent ≡ []) × (came ≡ []) × (accepted ≡ [])

pub record Trusting (s : EndLinkOpening) (c : Bool) (stage : Stage) (safety : Safety) (segs contents : List Segment) (sent accepted : List (List ℕ)) (taken used : ℕ) : Type 0 where
  pub joint : Joint s c stage safety.phase
  pub side_is : safety ≡ side_in s c safety.phase
  pub users_is : users (messages_in contents) ≡ accepted
  pub took_is : taken + length accepted ≡ length (messages_in contents) + used
  pub phase_is : Agree s → PhaseIs s c safety.phase (messages_in segs) sent (messages_in contents) accepted

abbrev pub TrustingOf : EndLinkOpening → Bool → Core → Type 0
TrustingOf s c x =
    Trusting s c x.upper.transport.stage x.safe.safety x.upper.transport.segments x.upper.transport.contents x.upper.sent x.upper.accepted
    x.upper.transport.taken x.upper.used

-- ---- an end at rest

-- nothing is due, and no TPDU goes down
abbrev pub Rested : Core → Type 0
Rested x = (x.upper.transport.due ≡ None) × (has_next_tpdu model x ≡ false)

pub record Lives (s : EndLinkOpening) (c : Bool) (x : Core) (h : List GivenTpdu) : Type 0 where
  pub alive : AliveOf s c x h
  pub trusting : TrustingOf s c x
  pub rested : Rested x

pub record Own (s : EndLinkOpening) (c : Bool) (x : Core) (h : List GivenTpdu) : Type 0 where
  pub always : AlwaysOf s c x h
  pub told : Agree s → ToldOf s c x
  pub lives : x.released ≡ None → Lives s c x h

-- ---- two ends, within an event of x

-- the TPDUs that x heard
abbrev pub heard : Core → Core → List GivenTpdu
heard x y = take (length x.line.taken) y.upper.transport.gave

abbrev pub block : GivenTpdu → List ℕ
block g = last_block (octets_given g)

-- the station was handed the TPDUs that were given, one block each
abbrev pub Spelled : Core → Type 0
Spelled x = x.line.handed ≡ map block x.upper.transport.gave

abbrev pub Beside : EndLinkOpening → Bool → ℕ → List Frame → Core → List Frame → Core → Type 0
Beside s c k w x l y = Both false k w x.line l y.line × Spelled x × Spelled y × Own s (not c) y (heard y x)

-- x is live and at work
pub record Busy (s : EndLinkOpening) (c : Bool) (k : ℕ) (w : List Frame) (x : Core) (l : List Frame) (y : Core) : Type 0 where
  pub beside : Beside s c k w x l y
  pub always : AlwaysOf s c x (heard x y)
  pub told : Agree s → ToldOf s c x
  pub alive : AliveOf s c x (heard x y)
  pub trusting : TrustingOf s c x

-- x was released
pub record Gone (s : EndLinkOpening) (c : Bool) (k : ℕ) (w : List Frame) (x : Core) (l : List Frame) (y : Core) : Type 0 where
  pub beside : Beside s c k w x l y
  pub always : AlwaysOf s c x (heard x y)
  pub told : Agree s → ToldOf s c x

-- behind an event of x
pub record Done (s : EndLinkOpening) (c : Bool) (k : ℕ) (w : List Frame) (x : Core) (l : List Frame) (y : Core) : Type 0 where
  pub beside : Beside s c k w x l y
  pub own : Own s c x (heard x y)
