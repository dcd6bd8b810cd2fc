-- Whoever sealed, verified or reported under session keys in a talk of two sides knows these keys still; so both sides know those of an unforged
-- connection.
use Rattle.std.proofs.Common.{◌≡◌, ◌∙◌, ◌<◌, ℕ, zero, suc, Bool, false, List, [], ◌∷◌, ◌++◌, length, slice_index_or, map, Some, refl, sym, ap, subst, arith}
use Rattle.std.specs.Prelude.{Any}
use Rattle.std.specs.List.{AllByRecursion}
use Rattle.er_base.specs.declared.side.Side.{Side}
use Rattle.er_base.specs.declared.side.Side.TheVariants.{E, R}
use Rattle.er_base.specs.Sides.{other}
use Rattle.des_block.specs.declared.triple_key.TripleKey.{TripleKey}
use Rattle.safety_automaton.specs.Safety.{Connection, Safety, SafetyEvent, SafetyOutcome, SentAu1, SentAu2, SentAu3, SentAr, ReceivedAr, AcceptedDt, SentDt, Refused, ReleasedLocally, ReleasedByPeer, NothingDone, session_in}
use Rattle.safety_automaton.specs.Laws.{session_keys_of_outcome, KeysAreOwn, KeysStay}
use Rattle.safety_pair_laws.specs.Facts.{Fact, Sent, Sealed, Verified, Connected, Accepted, SideFact, at_side, heard_in, facts_by, facts_of, MarkedFact, mark, marked_from, marked}
use Rattle.safety_pair_laws.specs.Openings.{PairOpening, Pair, key_for, safety_of, with_safety}
use Rattle.safety_pair_laws.specs.Authentic.{Seals, WasSealed, SealedSetUp, IsPeered, IsAuthentic, Authentic}
use Rattle.safety_pair_laws.specs.Talks.{answer, Talks, Begins, Goes}
use Rattle.tap_laws.specs.AnyLine.{IsConnectionFact}
use Rattle.tap_laws.proofs.Genuine.{all_at}

-- ---- the keys of a fact

abbrev pub keys_of_fact : Fact → TripleKey
keys_of_fact (Sent user key text) = key
keys_of_fact (Sealed key text) = key
keys_of_fact (Verified heard key text) = key
keys_of_fact (Connected heard connection text) = connection.session
keys_of_fact (Accepted heard user key text) = key

-- the side of a fact knows them
abbrev pub Knows : Pair → Side → Fact → Type 0
Knows pair side fact = session_in (safety_of pair side).phase ≡ Some (keys_of_fact fact)

abbrev AllKnown : Pair → List SideFact → Type 0
AllKnown pair facts = AllByRecursion (λ f. Knows pair f.side f.fact) facts

all_append : (P : SideFact → Type 0) (xs ys : List SideFact) → AllByRecursion P xs → AllByRecursion P ys → AllByRecursion P (xs ++ ys)
all_append P [] ys a b = b
all_append P (x ∷ xs) ys a b = (a.0, all_append P xs ys a.1 b)

all_more : (P Q : SideFact → Type 0) → ((x : SideFact) → P x → Q x) → (xs : List SideFact) → AllByRecursion P xs → AllByRecursion Q xs
all_more P Q f [] h = tt
all_more P Q f (x ∷ xs) h = (f x h.0, all_more P Q f xs h.1)

-- the facts of an outcome have its keys
outcome_known : (P : Fact → Type 0) (heard : List ℕ) (outcome : SafetyOutcome) → ((fact : Fact) → session_keys_of_outcome outcome ≡ Some (keys_of_fact fact) → P fact)
    → AllByRecursion P (facts_by heard outcome)
outcome_known P heard (SentAu1 octets) h = tt
outcome_known P heard (SentAu2 session sealed octets) h = (h (Sealed session sealed) refl, tt)
outcome_known P heard (SentAu3 session verified sealed octets) h = (h (Verified heard session verified) refl, (h (Sealed session sealed) refl, tt))
outcome_known P heard (SentAr connection verified sealed octets) h = (h (Connected heard connection verified) refl, (h (Sealed connection.session sealed) refl, tt))
outcome_known P heard (ReceivedAr connection verified) h = (h (Connected heard connection verified) refl, tt)
outcome_known P heard (AcceptedDt session user verified) h = (h (Accepted heard user session verified) refl, tt)
outcome_known P heard (SentDt session user sealed octets) h = (h (Sent user session sealed) refl, tt)
outcome_known P heard (Refused refusal) h = tt
outcome_known P heard (ReleasedLocally release octets) h = tt
outcome_known P heard (ReleasedByPeer release) h = tt
outcome_known P heard NothingDone h = tt

facts_known : (side : Side) (pair : Pair) (facts : List Fact) → AllByRecursion (λ fact. Knows pair side fact) facts → AllKnown pair (map (at_side side) facts)
facts_known side pair [] h = tt
facts_known side pair (fact ∷ facts) h = (h.0, facts_known side pair facts h.1)

module _ (own : KeysAreOwn) (stay : KeysStay) (opening : PairOpening) where
  -- what was known stays known
  still_known : (pair : Pair) (side : Side) (event : SafetyEvent) (at : Side) (fact : Fact) → Knows pair at fact → Knows (with_safety pair side (answer opening pair side event).0) at fact
  still_known pair E event E fact h = stay (key_for opening) pair.e event (keys_of_fact fact) h
  still_known pair E event R fact h = h
  still_known pair R event E fact h = h
  still_known pair R event R fact h = stay (key_for opening) pair.r event (keys_of_fact fact) h

  new_known : (pair : Pair) (side : Side) (event : SafetyEvent)
      → AllKnown (with_safety pair side (answer opening pair side event).0) (map (at_side side) (facts_of event (answer opening pair side event).1))
  new_known pair E event =
      let a : Safety × SafetyOutcome = answer opening pair E event in
      facts_known E (with_safety pair E a.0) (facts_of event a.1)
      (outcome_known (λ fact. session_in a.0.phase ≡ Some (keys_of_fact fact)) (heard_in event) a.1 (λ fact e. own (key_for opening) pair.e event (keys_of_fact fact) e))
  new_known pair R event =
      let a : Safety × SafetyOutcome = answer opening pair R event in
      facts_known R (with_safety pair R a.0) (facts_of event a.1)
      (outcome_known (λ fact. session_in a.0.phase ≡ Some (keys_of_fact fact)) (heard_in event) a.1 (λ fact e. own (key_for opening) pair.r event (keys_of_fact fact) e))

  all_known : (facts : List SideFact) (pair : Pair) → Talks opening facts pair → AllKnown pair facts
  all_known facts pair Begins = tt
  all_known facts pair (Goes before was side event talks) =
      let next : Pair = with_safety was side (answer opening was side event).0 in
      all_append (λ f. Knows next f.side f.fact) before (map (at_side side) (facts_of event (answer opening was side event).1))
      (all_more (λ f. Knows was f.side f.fact) (λ f. Knows next f.side f.fact) (λ f h. still_known was side event f.side f.fact h) before (all_known before was talks))
      (new_known was side event)

-- ---- marked facts

marked_known : (P : Side → Fact → Type 0) (before : List MarkedFact) (facts : List SideFact) → AllByRecursion (λ f. P f.side f.fact) facts
    → AllByRecursion (λ m. P m.side m.fact) (marked_from before facts)
marked_known P before [] h = tt
marked_known P before (f ∷ facts) h = (h.0, marked_known P (before ++ mark before f ∷ []) facts h.1)

all_front : (P : MarkedFact → Type 0) (xs ys : List MarkedFact) → AllByRecursion P (xs ++ ys) → AllByRecursion P xs
all_front P [] ys h = tt
all_front P (x ∷ xs) ys h = (h.0, all_front P xs ys h.1)

-- where one of a list stands
pub split_at : (xs : List MarkedFact) (k : ℕ) (x : MarkedFact) → k < length xs → slice_index_or xs k x ≡ x
    → (before : List MarkedFact) × (after : List MarkedFact) × (xs ≡ before ++ x ∷ after)
split_at [] k x inside is = absurd (omega arith)
split_at (y ∷ ys) zero x inside is = ([], ys, ap (λ (z : MarkedFact). z ∷ ys) is)
split_at (y ∷ ys) (suc k) x inside is = let r = split_at ys k x (omega arith) is in (y ∷ r.0, r.1, ap (λ (zs : List MarkedFact). y ∷ zs) r.2)

seals_keys : (key : TripleKey) (text : List ℕ) (fact : Fact) → Seals key text fact → keys_of_fact fact ≡ key
seals_keys key text (Sent user own sealed) h = absurd h
seals_keys key text (Sealed own sealed) h = h.0
seals_keys key text (Verified heard own sealed) h = absurd h
seals_keys key text (Connected heard connection sealed) h = absurd h
seals_keys key text (Accepted heard user own sealed) h = absurd h

-- a side that sealed under keys knows them
sealer_knows : (pair : Pair) (side : Side) (key : TripleKey) (text : List ℕ) (before : List MarkedFact) → AllByRecursion (λ m. Knows pair m.side m.fact) before
    → WasSealed side key text before → session_in (safety_of pair side).phase ≡ Some key
sealer_knows pair side key text before all was =
    let m : MarkedFact = was.1 in
    let h : (m.side ≡ side) × Seals key text m.fact = was.4 in
    let known : Knows pair m.side m.fact = all_at (λ x. Knows pair x.side x.fact) before was.0 m was.2 was.3 all in
    ap (λ (s : Side). session_in (safety_of pair s).phase) (sym h.0) ∙ known ∙ ap (λ (k : TripleKey). Some k) (seals_keys key text m.fact h.1)

peer_knows : (pair : Pair) (side : Side) (c : Connection) (before : List MarkedFact) → AllByRecursion (λ m. Knows pair m.side m.fact) before → SealedSetUp before side c
    → session_in (safety_of pair (other side)).phase ≡ Some c.session
peer_knows pair E c before all h = sealer_knows pair R c.session _ before all h.0
peer_knows pair R c before all h = sealer_knows pair E c.session _ before all h

-- a connection that isn't forged
record IsUnforgedAs (opening : PairOpening) (before : List MarkedFact) (side : Side) (fact : Fact) : Type 0 where
  connection : Connection
  keys_are : keys_of_fact fact ≡ connection.session
  peered : IsPeered opening before side connection

unforged_as : (opening : PairOpening) (before : List MarkedFact) (side : Side) (fact : Fact) (forged : Bool) → forged ≡ false → IsConnectionFact fact → IsAuthentic opening before side fact forged
    → IsUnforgedAs opening before side fact
unforged_as opening before side (Sent user key text) forged e is h = absurd is
unforged_as opening before side (Sealed key text) forged e is h = absurd is
unforged_as opening before side (Verified heard key text) forged e is h = absurd is
unforged_as opening before side (Connected heard connection text) forged e is h = record { connection = connection; keys_are = refl; peered = h.peered e }
unforged_as opening before side (Accepted heard user key text) forged e is h = absurd is

-- both sides know the same keys
pub record BothKnow (pair : Pair) (side : Side) : Type 0 where
  pub key : TripleKey
  pub own : session_in (safety_of pair side).phase ≡ Some key
  pub peers : session_in (safety_of pair (other side)).phase ≡ Some key

pub both_know : KeysAreOwn → KeysStay → (opening : PairOpening) (facts : List SideFact) (pair : Pair) → Talks opening facts pair → Authentic opening facts → (side : Side)
    → Any (λ f. (f.side ≡ side) × (f.forged ≡ false) × IsConnectionFact f.fact) (marked facts) → BothKnow pair side
both_know own stay opening facts pair talks authentic side one =
    let m : MarkedFact = one.1 in
    let h : (m.side ≡ side) × (m.forged ≡ false) × IsConnectionFact m.fact = one.4 in
    let all : AllByRecursion (λ x. Knows pair x.side x.fact) (marked facts) = marked_known (λ s f. Knows pair s f) [] facts (all_known own stay opening facts pair talks) in
    let at = split_at (marked facts) one.0 m one.2 one.3 in
    let u : IsUnforgedAs opening at.0 m.side m.fact = unforged_as opening at.0 m.side m.fact m.forged h.1 h.2 (authentic at.0 at.1 m at.2) in
    let front : AllByRecursion (λ x. Knows pair x.side x.fact) at.0 =
    all_front (λ x. Knows pair x.side x.fact) at.0 (m ∷ at.1) (subst (λ (xs : List MarkedFact). AllByRecursion (λ x. Knows pair x.side x.fact) xs) at.2 all) in
    let known : Knows pair m.side m.fact = all_at (λ x. Knows pair x.side x.fact) (marked facts) one.0 m one.2 one.3 all in
    let here : BothKnow pair m.side = record {
      key = u.connection.session;
      own = known ∙ ap (λ (k : TripleKey). Some k) u.keys_are;
      peers = peer_knows pair m.side u.connection at.0 front u.peered.sealed;
    } in
    subst (λ (s : Side). BothKnow pair s) h.0 here
