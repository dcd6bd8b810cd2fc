-- Contract: how what the code keeps stands for a side of the transport model, so that clauses speak of the model's steps; and that each
-- call's function on what is kept is the model's step.
use Rattle.std.specs.Prelude.{ℕ, ◌≡◌, ◌+◌, ◌-◌, ◌%◌, ◌<◌, ◌≤◌, suc, Bool, true, false, List, [], ◌∷◌, ◌++◌, length, map, drop, Option, Some, is_some}
use Rattle.std.specs.Prelude.{MatchOption}
use Rattle.er_settings.specs.Values.{Settings}
use Rattle.er_settings.specs.Ranges.{AllAllowed}
use Rattle.x224_tpdu.specs.Spellings.{IsSize, IsWritable}
use Rattle.x224_class2.specs.Segments.{Segment, segments_of, messages_in, text_so_far, ack_number, AllCarried}
use Rattle.x224_class2.specs.Tpdus.{GivenTpdu, pdu_given}
use Rattle.x224_class2.specs.Transport.{Transport, is_called, is_open, is_new, side_made, after_connect, after_accept, after_hand, after_taken, waiting_count}
use Rattle.x224_class2.specs.Transport.{untaken_count, reception, next_tpdu, after_next}
use Rattle.x224_class2.specs.Kept.{KeptTransport, kept_made, kept_after_connect, kept_after_accept, kept_after_hand, kept_after_taken, kept_reception}
use Rattle.x224_class2.specs.Kept.{kept_next_tpdu, kept_after_next, octets_next}
use Rattle.x224_class2.specs.declared.stage.Stage.{Stage}
use Rattle.x224_class2.specs.declared.stage.Stage.TheVariants as stages

-- the numbers of the segments that end a message, where the first segment has the number n
abbrev pub last_numbers : ℕ → List Segment → List ℕ
last_numbers n [] = []
last_numbers n ((true, octets) ∷ segments) = n ∷ last_numbers (suc n) segments
last_numbers n ((false, octets) ∷ segments) = last_numbers (suc n) segments

-- several messages in segments
abbrev pub segments_of_all : ℕ → List (List ℕ) → List Segment
segments_of_all size [] = []
segments_of_all size (message ∷ messages) = segments_of size message ++ segments_of_all size messages

-- what is kept of a side
abbrev pub kept_of : Transport → KeptTransport
kept_of t = record {
  is_caller = t.is_caller;
  credit = t.credit;
  stage = t.stage;
  size = t.size;
  waiting = messages_in (drop t.given t.segments);
  given = t.given % 128;
  acked = t.acked % 128;
  edge = t.edge % 128;
  received = length t.contents % 128;
  newest = t.newest % 128;
  lasts = map (λ n. n % 128) (drop t.taken (last_numbers 0 t.contents));
  text = text_so_far t.contents;
  due = t.due;
}

-- no message is handed before the connection is made
abbrev pub HasNoneEarly : Stage → List Segment → Type 0
HasNoneEarly stages.New segments = segments ≡ []
HasNoneEarly stages.Calling segments = segments ≡ []
HasNoneEarly stages.Called segments = segments ≡ []
HasNoneEarly stages.Open segments = Unit {0}
HasNoneEarly stages.Over segments = Unit {0}

-- what is to be given can be written
pub record CanWrite (size : ℕ) (due : Option (List ℕ)) (segments : List Segment) : Type 0 where
  pub is_size : IsSize size
  pub most : size ≤ 1024
  pub user : MatchOption due (Unit {0}) (λ user. length user ≤ 32)
  pub carried : AllCarried (size - 5) segments

-- what holds of every side that calls lead to
pub record IsSound (t : Transport) : Type 0 where
  pub credit : t.credit ≤ 15
  pub size : 6 ≤ t.size
  pub early : HasNoneEarly t.stage t.segments
  pub given : t.given ≤ length t.segments
  pub acked : t.acked ≤ t.given
  pub edge_least : t.given ≤ t.edge
  pub edge_most : t.edge ≤ t.acked + 15
  pub waits : drop t.given t.segments ≡ segments_of_all t.size (messages_in (drop t.given t.segments))
  pub taken : t.taken ≤ length (messages_in t.contents)
  pub newest : t.newest ≤ ack_number t.taken t.contents
  pub granted : length t.contents ≤ t.newest + t.credit
  pub can_write : CanWrite t.size t.due t.segments

-- what is kept stands for a side of the model
pub record StandsForTransport (k : KeptTransport) (t : Transport) : Type 0 where
  pub is : k ≡ kept_of t
  pub sound : IsSound t

-- a call does this step of the model, whichever side of the model what was kept stood for
abbrev pub FollowsTransportStep : KeptTransport → KeptTransport → (Transport → Transport) → Type 0
FollowsTransportStep old new step = (t : Transport) → StandsForTransport old t → StandsForTransport new (step t)

-- what holds of each side of the model that what is kept stands for
abbrev pub Shown : KeptTransport → (Transport → Type 0) → Type 0
Shown k P = (t : Transport) → StandsForTransport k t → P t

-- a made side
abbrev pub MadeStands : Type 0
MadeStands = (is_caller : Bool) (settings : Settings) → AllAllowed settings → StandsForTransport (kept_made is_caller settings) (side_made is_caller settings)

-- connect and accept
abbrev pub ConnectStands : Type 0
ConnectStands = (k : KeptTransport) (t : Transport) (user : List ℕ) → StandsForTransport k t → is_new t.stage ≡ true → length user ≤ 32
    → StandsForTransport (kept_after_connect k user) (after_connect t user)

abbrev pub AcceptStands : Type 0
AcceptStands = (k : KeptTransport) (t : Transport) (user : List ℕ) → StandsForTransport k t → is_called t.stage ≡ true → length user ≤ 32
    → StandsForTransport (kept_after_accept k user) (after_accept t user)

-- hand
abbrev pub HandStands : Type 0
HandStands = (k : KeptTransport) (t : Transport) (message : List ℕ) → StandsForTransport k t → is_open t.stage ≡ true → 0 < length message
    → StandsForTransport (kept_after_hand k message) (after_hand t message)

-- taken
abbrev pub TakenStands : Type 0
TakenStands = (k : KeptTransport) (t : Transport) → StandsForTransport k t → 0 < untaken_count t → StandsForTransport (kept_after_taken k) (after_taken t)

-- receive: what is kept, and the deed
abbrev pub ReceptionStands : Type 0
ReceptionStands =
    (k : KeptTransport) (t : Transport) (octets : List ℕ) → StandsForTransport k t
    → StandsForTransport (kept_reception k octets).0 (reception t octets).0 × ((kept_reception k octets).1 ≡ (reception t octets).1)

-- next_tpdu: what is kept, the octets, and whether there are any
abbrev pub NextStands : Type 0
NextStands =
    (k : KeptTransport) (t : Transport) → StandsForTransport k t
    → StandsForTransport (kept_after_next k) (after_next t) × (octets_next (kept_next_tpdu k) ≡ octets_next (next_tpdu t))
    × (is_some (kept_next_tpdu k) ≡ is_some (next_tpdu t))

-- untaken and waiting
abbrev pub CountsStand : Type 0
CountsStand = (k : KeptTransport) (t : Transport) → StandsForTransport k t → (length k.lasts ≡ untaken_count t) × (length k.waiting ≡ waiting_count t)

-- what is given can be written, so that it is read back, and has 1,024 octets at most
abbrev pub NextIsWritable : Type 0
NextIsWritable = (k : KeptTransport) (t : Transport) (tpdu : GivenTpdu) → StandsForTransport k t → next_tpdu t ≡ Some tpdu → IsWritable (pdu_given tpdu)
