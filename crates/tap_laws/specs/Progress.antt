-- Lemmas: how far the safety side of an end is, by the octets that it was given (UNISIG SUBSET-037): what it knows of its session and what it
-- accepted are what these octets say.
use Rattle.std.specs.Prelude.{ℕ, ◌≡◌, ◌⊎◌, Bool, false, true, List, [], ◌∷◌, ◌++◌, Option, Some, None, Ok}
use Rattle.er_base.specs.declared.release.Release.{Release}
use Rattle.des_block.specs.declared.triple_key.TripleKey.{TripleKey}
use Rattle.cbc_mac.specs.Mac.{mac_of}
use Rattle.session_keys.specs.Session.{session_of}
use Rattle.sapdu.specs.Spelling.{Au1, Au2, Dt, read_of}
use Rattle.safety_automaton.specs.declared.role.Role.{Role}
use Rattle.safety_automaton.specs.declared.role.Role.TheVariants.{Initiator, Responder}
use Rattle.safety_automaton.specs.Safety.{Connection, Phase, Ready, WaitAu1, WaitAu2, WaitAu3, WaitAr, Connected, Released, flag_of, other_role, message_text}
use Rattle.safety_automaton.specs.Rules.{IsOpen}
use Rattle.er_end_model.specs.Steps.{Finds}
use Rattle.er_end_model.specs.Layers.{Core}
use Rattle.er_end_model.specs.Ends.{Opening, Call, Answer, Moment, opened, end_run}
use Rattle.tap_model.specs.Given.{received}
use Rattle.tap_laws.specs.LookingUp.{AllLookUp}

-- ---- an opening

abbrev pub etcs_number_of_end : Opening → ℕ
etcs_number_of_end (Call settings me peer kmac rb now) = me
etcs_number_of_end (Answer settings me ra now) = me

abbrev pub role_of_opened_end : Opening → Role
role_of_opened_end (Call settings me peer kmac rb now) = Initiator
role_of_opened_end (Answer settings me ra now) = Responder

-- the flag of what comes to it
abbrev pub flag_to : Opening → Bool
flag_to o = flag_of (other_role (role_of_opened_end o))

-- a KMAC is found, at some moment
abbrev pub IsKmacFound : Finds → (engine rbc : ℕ) → TripleKey → Type 0
IsKmacFound finds engine rbc kmac = (now : ℕ) × (finds now engine rbc ≡ Some kmac)

-- ---- the texts that were given

-- an AU1 that told these numbers, to a responder with this number and this random number; the session keys are those of the KMAC and both numbers
pub record FirstAu1 (finds : Finds) (me ra : ℕ) (c : Connection) (first : List ℕ) : Type 0 where
  pub kmac : TripleKey
  pub read : read_of first ≡ Ok (Au1 c.peer 1 c.rb, false)
  pub own : c.ra ≡ ra
  pub found : IsKmacFound finds c.peer me kmac
  pub keys : c.session ≡ session_of kmac c.ra c.rb

-- an AU2 that told them, to an initiator that called this peer with this KMAC and this random number
pub record FirstAu2 (peer : ℕ) (kmac : TripleKey) (rb : ℕ) (c : Connection) (first : List ℕ) : Type 0 where
  pub mac : ℕ
  pub read : read_of first ≡ Ok (Au2 c.peer 1 c.ra mac, true)
  pub called : c.peer ≡ peer
  pub own : c.rb ≡ rb
  pub keys : c.session ≡ session_of kmac c.ra c.rb

abbrev pub IsFirstSetUpText : Finds → Opening → Connection → List ℕ → Type 0
IsFirstSetUpText finds (Call settings me peer kmac rb now) c first = FirstAu2 peer kmac rb c first
IsFirstSetUpText finds (Answer settings me ra now) c first = FirstAu1 finds me ra c first

-- each text is a DT with this flag, whose MAC is that of its sealed text to this number under these keys, and these are their user octets
abbrev pub AreMessages : TripleKey → (flag : Bool) → (me : ℕ) → (texts users : List (List ℕ)) → Type 0
AreMessages session flag me [] [] = Unit {0}
AreMessages session flag me [] (user ∷ users) = ⊥
AreMessages session flag me (text ∷ texts) [] = ⊥
AreMessages session flag me (text ∷ texts) (user ∷ users) =
    (read_of text ≡ Ok (Dt user (mac_of session (message_text flag me user)), flag)) × AreMessages session flag me texts users

-- ---- how far it is

-- nothing was given, accepted or sent
pub record GotNone (given accepted sent : List (List ℕ)) : Type 0 where
  pub given_is : given ≡ []
  pub accepted_is : accepted ≡ []
  pub sent_is : sent ≡ []

-- the first text was given, and nothing accepted or sent
pub record GotOne (finds : Finds) (o : Opening) (c : Connection) (given accepted sent : List (List ℕ)) : Type 0 where
  pub first : List ℕ
  pub is_first : IsFirstSetUpText finds o c first
  pub given_is : given ≡ first ∷ []
  pub accepted_is : accepted ≡ []
  pub sent_is : sent ≡ []

-- the first two were given, and then the messages that were accepted
pub record GotAll (finds : Finds) (o : Opening) (c : Connection) (given accepted : List (List ℕ)) : Type 0 where
  pub first : List ℕ
  pub second : List ℕ
  pub texts : List (List ℕ)
  pub is_first : IsFirstSetUpText finds o c first
  pub given_is : given ≡ first ∷ second ∷ texts
  pub messages : AreMessages c.session (flag_to o) (etcs_number_of_end o) texts accepted

pub data Got (finds : Finds) (o : Opening) (given accepted sent : List (List ℕ)) : Type 0 where
  GotsNone : GotNone given accepted sent → Got finds o given accepted sent
  GotsOne : (c : Connection) → GotOne finds o c given accepted sent → Got finds o given accepted sent
  GotsAll : (c : Connection) → GotAll finds o c given accepted → Got finds o given accepted sent

-- the session keys that a side knows by what it got
abbrev pub session_got : (finds : Finds) (o : Opening) (given accepted sent : List (List ℕ)) → Got finds o given accepted sent → Option TripleKey
session_got finds o given accepted sent (GotsNone n) = None
session_got finds o given accepted sent (GotsOne c n) = Some c.session
session_got finds o given accepted sent (GotsAll c n) = Some c.session

-- a side that waits for its first text, or is yet to call
abbrev pub IsBeginningPhase : Opening → Phase → Type 0
IsBeginningPhase (Call settings me peer kmac rb now) phase = (phase ≡ Ready peer kmac rb) ⊎ (phase ≡ WaitAu2 peer kmac rb)
IsBeginningPhase (Answer settings me ra now) phase = phase ≡ WaitAu1 ra

-- one that waits for its second
abbrev pub WaitsForSecondText : Opening → Connection → Phase → Type 0
WaitsForSecondText (Call settings me peer kmac rb now) c phase = phase ≡ WaitAr c
WaitsForSecondText (Answer settings me ra now) c phase = phase ≡ WaitAu3 c

-- by its phase; behind a release by how far it was, whose session keys it keeps
pub data Stage (finds : Finds) (o : Opening) (phase : Phase) (given accepted sent : List (List ℕ)) : Type 0 where
  Begins : IsBeginningPhase o phase → GotNone given accepted sent → Stage finds o phase given accepted sent
  Waits : (c : Connection) → WaitsForSecondText o c phase → GotOne finds o c given accepted sent → Stage finds o phase given accepted sent
  Speaks : (c : Connection) → phase ≡ Connected c.peer c.session → GotAll finds o c given accepted → Stage finds o phase given accepted sent
  Gone : (release : Release) (session : Option TripleKey) → phase ≡ Released release session → (front rest : List (List ℕ)) → given ≡ front ++ rest
      → (got : Got finds o front accepted sent) → session ≡ session_got finds o front accepted sent got → Stage finds o phase given accepted sent

-- how far a side is, which was given these texts
pub record Progresses (finds : Finds) (o : Opening) (given : List (List ℕ)) (x : Core) : Type 0 where
  pub me : x.safe.safety.me ≡ etcs_number_of_end o
  pub role : x.safe.safety.role ≡ role_of_opened_end o
  pub stage : Stage finds o x.safe.safety.phase given x.upper.accepted x.upper.sent

-- every end behind all events, where KMACs are looked up in one way
abbrev pub SidesProgress : Type 0
SidesProgress =
    (opening : Opening) (finds : Finds) (events : List Moment) → AllLookUp finds events
    → Progresses finds opening (received events (opened opening)) (end_run events (opened opening)).core

-- and the safety side of an end that isn't released isn't released either
abbrev pub LiveSides : Type 0
LiveSides =
    (opening : Opening) (events : List Moment) → (end_run events (opened opening)).core.released ≡ None
    → IsOpen (end_run events (opened opening)).core.safe.safety.phase
