-- What a side seals is a text of its own: so a sealed text tells who sealed it, for what, and with which random numbers.
use Rattle.std.proofs.Common.{◌≡◌, ℕ, Bool, true, false, inl, inr, List, refl, sym, ap, ◌∙◌}
use Rattle.std.specs.Prelude.{Any}
use Rattle.std.specs.List.{AllByRecursion}
use Rattle.er_base.specs.declared.side.Side.{Side}
use Rattle.er_base.specs.declared.side.Side.TheVariants.{E, R}
use Rattle.er_base.specs.Sides.{other}
use Rattle.er_base.specs.Octets.{eight}
use Rattle.des_block.specs.declared.triple_key.TripleKey.{TripleKey}
use Rattle.safety_automaton.specs.Safety.{Connection, au2_text, au3_text, ar_text, message_text}
use Rattle.safety_automaton.specs.Laws.{TextsTell}
use Rattle.safety_pair_laws.specs.Facts.{Fact, Sent, Sealed, Verified, Connected, Accepted, MarkedFact, was_sealed}
use Rattle.safety_pair_laws.specs.Openings.{PairOpening, OfFixed, OfKeys, flag_from}
use Rattle.safety_pair_laws.specs.Authentic.{Sends, WasSent, Seals, WasSealed, IsSetUpSealing, IsShared, HasRandoms, IsOwn}
use Rattle.safety_pair_laws.proofs.Along.{any_map}
use Rattle.safety_pair_laws.proofs.Sealings.{HasPair, sealed_before}

-- what a side seals
abbrev pub HonestFact : PairOpening → Side → Fact → Type 0
HonestFact opening side (Sent user key text) = (to : ℕ) × (text ≡ message_text (flag_from side) to user)
HonestFact opening side (Sealed key text) = IsSetUpSealing opening side key text
HonestFact opening side (Verified heard key text) = Unit {0}
HonestFact opening side (Connected heard connection text) = Unit {0}
HonestFact opening side (Accepted heard user key text) = Unit {0}

abbrev pub AllHonest : PairOpening → List MarkedFact → Type 0
AllHonest opening facts = AllByRecursion (λ m. HonestFact opening m.side m.fact) facts

same_side : (a b : Side) → flag_from a ≡ flag_from b → a ≡ b
same_side E E e = refl
same_side E R e = cc
same_side R E e = cc
same_side R R e = refl

module _ (tell : TextsTell) (opening : PairOpening) where
  -- ---- messages

  no_message : (found : Side) (key : TripleKey) (sealed : List ℕ) (flag : Bool) (to : ℕ) (user : List ℕ)
      → IsSetUpSealing opening found key sealed → sealed ≡ message_text flag to user → ⊥
  no_message E key sealed flag to user honest is =
      let c : Connection = honest.connection in
      tell.au3_message false flag c.peer to c.ra c.rb user (sym honest.text_is ∙ is)
  no_message R key sealed flag to user honest is =
      let c : Connection = honest.connection in
      elim honest.text_is [
        | inl au2 ↦ tell.au2_message true flag c.peer to c.me 1 c.ra c.rb user (sym au2 ∙ is)
        | inr ar ↦ tell.ar_message true flag c.peer to user (sym ar ∙ is)
      ]

  one_sent : (side : Side) (key : TripleKey) (text : List ℕ) (to : ℕ) (user : List ℕ) → text ≡ message_text (flag_from side) to user
      → (found : Side) (fact : Fact) → HonestFact opening found fact → HasPair key text fact → (found ≡ side) × Sends user key text fact
  one_sent side key text to user is found (Sent sent own sealed) honest pair =
      let same = tell.message (flag_from found) (flag_from side) honest.0 to sent user (sym honest.1 ∙ pair.1 ∙ is) in
      (same_side found side same.flag, (same.users, pair.0, pair.1))
  one_sent side key text to user is found (Sealed own sealed) honest pair =
      absurd (no_message found own sealed (flag_from side) to user honest (pair.1 ∙ is))
  one_sent side key text to user is found (Verified heard own sealed) honest pair = absurd pair
  one_sent side key text to user is found (Connected heard c sealed) honest pair = absurd pair
  one_sent side key text to user is found (Accepted heard sent own sealed) honest pair = absurd pair

  -- the text of a message, if it was sealed, was sent from the side of its flag
  pub was_sent : (side : Side) (key : TripleKey) (text : List ℕ) (to : ℕ) (user : List ℕ) → text ≡ message_text (flag_from side) to user
      → (before : List MarkedFact) → AllHonest opening before → was_sealed key text before ≡ true → WasSent side user key text before
  was_sent side key text to user is before honest e =
      sealed_before (λ m. (m.side ≡ side) × Sends user key text m.fact) (λ m. HonestFact opening m.side m.fact) key text
      (λ m. one_sent side key text to user is m.side m.fact) before honest e

  -- ---- the set-up

  -- a fact of a side that sealed this text, where the two sides share a connection
  abbrev Shares : Side → Connection → List ℕ → MarkedFact → Type 0
  Shares side c text m = ((m.side ≡ other side) × Seals c.session text m.fact) × IsShared opening side c

  one_au3 : (c : Connection) (found : Side) (fact : Fact) → HonestFact opening found fact → HasPair c.session (au3_text false c.me c.ra c.rb) fact
      → ((found ≡ E) × Seals c.session (au3_text false c.me c.ra c.rb) fact) × IsShared opening R c
  one_au3 c found (Sent sent own sealed) honest pair =
      absurd (tell.au3_message false (flag_from found) c.me honest.0 c.ra c.rb sent (sym pair.1 ∙ honest.1))
  one_au3 c E (Sealed own sealed) honest pair =
      let d : Connection = honest.connection in
      let same = tell.au3 false false d.peer c.me d.ra c.ra d.rb c.rb (sym honest.text_is ∙ pair.1) in (
        (refl, pair),
        record { theirs = d; own = honest.own; session = sym honest.key_is ∙ pair.0; ra = same.responders; rb = same.initiators },
      )
  one_au3 c R (Sealed own sealed) honest pair =
      let d : Connection = honest.connection in
      elim honest.text_is [
        | inl au2 ↦ absurd (tell.au2_au3 true false d.peer c.me d.me 1 d.ra c.ra d.rb c.rb (sym au2 ∙ pair.1))
        | inr ar ↦ absurd (tell.au3_ar false true c.me d.peer c.ra c.rb (sym pair.1 ∙ ar))
      ]
  one_au3 c found (Verified heard own sealed) honest pair = absurd pair
  one_au3 c found (Connected heard d sealed) honest pair = absurd pair
  one_au3 c found (Accepted heard sent own sealed) honest pair = absurd pair

  one_au2 : (c : Connection) (found : Side) (fact : Fact) → HonestFact opening found fact
      → HasPair c.session (au2_text true c.me c.peer 1 c.ra c.rb) fact
      → ((found ≡ R) × Seals c.session (au2_text true c.me c.peer 1 c.ra c.rb) fact) × IsShared opening E c
  one_au2 c found (Sent sent own sealed) honest pair =
      absurd (tell.au2_message true (flag_from found) c.me honest.0 c.peer 1 c.ra c.rb sent (sym pair.1 ∙ honest.1))
  one_au2 c E (Sealed own sealed) honest pair =
      let d : Connection = honest.connection in
      absurd (tell.au2_au3 true false c.me d.peer c.peer 1 c.ra d.ra c.rb d.rb (sym pair.1 ∙ honest.text_is))
  one_au2 c R (Sealed own sealed) honest pair =
      let d : Connection = honest.connection in
      elim honest.text_is [
        | inl au2 ↦
            let same = tell.au2 true true d.peer c.me d.me c.peer 1 1 d.ra c.ra d.rb c.rb (sym au2 ∙ pair.1) in (
              (refl, pair),
              record { theirs = d; own = honest.own; session = sym honest.key_is ∙ pair.0; ra = same.responders; rb = same.initiators },
            )
        | inr ar ↦ absurd (tell.au2_ar true true c.me d.peer c.peer 1 c.ra c.rb (sym pair.1 ∙ ar))
      ]
  one_au2 c found (Verified heard own sealed) honest pair = absurd pair
  one_au2 c found (Connected heard d sealed) honest pair = absurd pair
  one_au2 c found (Accepted heard sent own sealed) honest pair = absurd pair

  one_ar : (c : Connection) (found : Side) (fact : Fact) → HonestFact opening found fact → HasPair c.session (ar_text true c.me) fact
      → (found ≡ R) × Seals c.session (ar_text true c.me) fact
  one_ar c found (Sent sent own sealed) honest pair =
      absurd (tell.ar_message true (flag_from found) c.me honest.0 sent (sym pair.1 ∙ honest.1))
  one_ar c E (Sealed own sealed) honest pair =
      let d : Connection = honest.connection in
      absurd (tell.au3_ar false true d.peer c.me d.ra d.rb (sym honest.text_is ∙ pair.1))
  one_ar c R (Sealed own sealed) honest pair = (refl, pair)
  one_ar c found (Verified heard own sealed) honest pair = absurd pair
  one_ar c found (Connected heard d sealed) honest pair = absurd pair
  one_ar c found (Accepted heard sent own sealed) honest pair = absurd pair

  -- the text of the AU3 of a connection, if it was sealed, was sealed by an engine that shares the connection
  pub was_au3 : (c : Connection) (before : List MarkedFact) → AllHonest opening before → was_sealed c.session (au3_text false c.me c.ra c.rb) before ≡ true
      → WasSealed E c.session (au3_text false c.me c.ra c.rb) before × IsShared opening R c
  was_au3 c before honest e =
      let text : List ℕ = au3_text false c.me c.ra c.rb in
      let one : Any (Shares R c text) before =
      sealed_before (Shares R c text) (λ m. HonestFact opening m.side m.fact) c.session text (λ m. one_au3 c m.side m.fact) before honest e in
      (any_map (Shares R c text) (λ m. (m.side ≡ E) × Seals c.session text m.fact) before (λ m h. h.0) one, one.4.1)

  -- that of the AU2 by a radio block centre that shares it
  pub was_au2 : (c : Connection) (before : List MarkedFact) → AllHonest opening before → was_sealed c.session (au2_text true c.me c.peer 1 c.ra c.rb) before ≡ true
      → WasSealed R c.session (au2_text true c.me c.peer 1 c.ra c.rb) before × IsShared opening E c
  was_au2 c before honest e =
      let text : List ℕ = au2_text true c.me c.peer 1 c.ra c.rb in
      let one : Any (Shares E c text) before =
      sealed_before (Shares E c text) (λ m. HonestFact opening m.side m.fact) c.session text (λ m. one_au2 c m.side m.fact) before honest e in
      (any_map (Shares E c text) (λ m. (m.side ≡ R) × Seals c.session text m.fact) before (λ m h. h.0) one, one.4.1)

  -- and that of the AR by a radio block centre
  pub was_ar : (c : Connection) (before : List MarkedFact) → AllHonest opening before → was_sealed c.session (ar_text true c.me) before ≡ true
      → WasSealed R c.session (ar_text true c.me) before
  was_ar c before honest e =
      let text : List ℕ = ar_text true c.me in
      sealed_before (λ m. (m.side ≡ R) × Seals c.session text m.fact) (λ m. HonestFact opening m.side m.fact) c.session text
      (λ m. one_ar c m.side m.fact) before honest e

-- a connection that is shared has both random numbers of the opening
pub randoms : (opening : PairOpening) (side : Side) (c : Connection) → IsOwn opening side c → IsShared opening side c → HasRandoms opening c
randoms (OfFixed engine rbc ke kr) side c own shared = absurd own
randoms (OfKeys engine rbc ke kr ra rb) E c own shared = (sym shared.ra ∙ ap eight shared.own.own, ap eight own.own)
randoms (OfKeys engine rbc ke kr ra rb) R c own shared = (ap eight own.own, sym shared.rb ∙ ap eight shared.own.own)
