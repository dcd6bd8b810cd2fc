-- An audit of the octets that came to one end, beside any stream of that end's own side: what it finds good of what the end accepted (UNISIG
-- SUBSET-037; this profile).
use Rattle.hdlc_station_model.specs.Lines.{IsPrefix}
use Rattle.std.specs.Prelude.{ℕ, ◌≡◌, List, [], ◌∷◌, Option, Some, None, Ok, false}
use Rattle.er_base.specs.declared.side.Side.TheVariants.{E, R}
use Rattle.bit_lists.specs.Bits.{bits}
use Rattle.des_block.specs.declared.triple_key.TripleKey.{TripleKey}
use Rattle.sapdu.specs.Spelling.{Au1, read_of}
use Rattle.er_end_model.specs.Steps.{Finds}
use Rattle.er_end_model.specs.Ends.{Opening, Call, Answer, Moment, opened, end_run}
use Rattle.tap_model.specs.Hearing.{heard, items}
use Rattle.tap_model.specs.Given.{octets_of_moments, sender_to, settings_of_opening, IsCallerStartedFirst}
use Rattle.tap_model.specs.Verdicts.{Known, known_of, rb_in, ra_in, first_number, judged_from, good_texts}
use Rattle.tap_laws.specs.LookingUp.{AllLookUp}

-- what is known of a link by the octets that came to an end, and by a stream of the end's own side
abbrev pub known_beside : (engine rbc : ℕ) → TripleKey → Opening → (came own : List ℕ) → Known
known_beside engine rbc kmac (Call settings me peer key rb now) came own = known_of engine rbc (Some kmac) (items (heard E own)) (items (heard R came))
known_beside engine rbc kmac (Answer settings me ra now) came own = known_of engine rbc (Some kmac) (items (heard E came)) (items (heard R own))

-- ---- the KMAC of an end

-- of an end that calls: the one that it was opened with
pub record IsCallers (me peer : ℕ) (own : TripleKey) (engine rbc : ℕ) (kmac : TripleKey) : Type 0 where
  pub engine_is : engine ≡ me
  pub rbc_is : rbc ≡ peer
  pub kmac_is : kmac ≡ own

-- of one that answers: whatever is found, at whatever moment, for the engine that its first text names in an AU1; so it is one that doesn't change
pub record IsAnswerers (finds : Finds) (me : ℕ) (came : List ℕ) (rbc : ℕ) (kmac : TripleKey) : Type 0 where
  pub rbc_is : rbc ≡ me
  pub kmac_is : (at id rb : ℕ) (first : List ℕ) (rest : List (List ℕ)) (found : TripleKey) → (heard E came).texts ≡ first ∷ rest
      → read_of first ≡ Ok (Au1 id 1 rb, false) → finds at id me ≡ Some found → found ≡ kmac

abbrev pub IsKeyOf : Finds → Opening → (came : List ℕ) → (engine rbc : ℕ) → TripleKey → Type 0
IsKeyOf finds (Call settings me peer key rb now) came engine rbc kmac = IsCallers me peer key engine rbc kmac
IsKeyOf finds (Answer settings me ra now) came engine rbc kmac = IsAnswerers finds me came rbc kmac

-- ---- its own side

-- a number was told, in its 64 bits
pub record Tells (found : Option ℕ) (number : ℕ) : Type 0 where
  pub told : ℕ
  pub is : found ≡ Some told
  pub same : bits 64 told ≡ bits 64 number

-- the first item that is heard of a stream of an end's own side tells the random number of its opening
abbrev pub TellsOwn : Opening → (own : List ℕ) → Type 0
TellsOwn (Call settings me peer key rb now) own = Tells (first_number rb_in (items (heard E own))) rb
TellsOwn (Answer settings me ra now) own = Tells (first_number ra_in (items (heard R own))) ra

-- ---- what is found

-- the texts of the good DTs of what came to an end
abbrev pub good_to : Opening → Known → List Moment → List (List ℕ)
good_to o known events = good_texts (judged_from known (sender_to o) 0 (items (heard (sender_to o) (octets_of_moments events))))

-- what an end accepted is a prefix of the texts of its peer's good DTs, and all of them while it isn't released
pub record FindsOwn (o : Opening) (known : Known) (events : List Moment) : Type 0 where
  pub prefix : IsPrefix (end_run events (opened o)).core.upper.accepted (good_to o known events)
  pub all : (end_run events (opened o)).core.released ≡ None → (end_run events (opened o)).core.upper.accepted ≡ good_to o known events

-- of each end at modulo 8, behind all events, and beside each stream that tells its random number if it accepted a message: nothing is said of
-- the line or of the peer. It refuses an audit that derives the keys of the session from Rb and Ra in place of Ra and Rb
abbrev pub AcceptedIsGood : Type 0
AcceptedIsGood =
    (o : Opening) (finds : Finds) (events : List Moment) → (settings_of_opening o).modulo ≡ 8 → IsCallerStartedFirst o events → AllLookUp finds events
    → (engine rbc : ℕ) (kmac : TripleKey) → IsKeyOf finds o (octets_of_moments events) engine rbc kmac
    → (own : List ℕ) → (((end_run events (opened o)).core.upper.accepted ≡ [] → ⊥) → TellsOwn o own)
    → FindsOwn o (known_beside engine rbc kmac o (octets_of_moments events) own) events
