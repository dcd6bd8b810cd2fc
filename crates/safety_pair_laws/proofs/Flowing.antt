-- One direction between connected sides: the messages that were sent and aren't accepted yet are those under way, and each was sealed.
use Rattle.std.proofs.Common.{◌≡◌, ℕ, ◌+◌, ◌&&◌, ◌||◌, ◌==◌, Bool, true, false, List, [], ◌∷◌, ◌++◌, length, Result, Ok, refl, sym, ap, ap₂, subst, ◌∙◌, append_assoc, append-nil, length-append}
use Rattle.std.specs.List.{list_any}
use Rattle.std.proofs.lemmas.Bool.{or_parts, or_right, eq-eqb}
use Rattle.std.proofs.lemmas.List.Concat.{flat_map-append}
use Rattle.std.proofs.lemmas.List.Folds.{list_any-append}
use Rattle.std.proofs.lemmas.Slice.Eq.{bytes_eq-Decides}
use Rattle.er_base.specs.declared.side.Side.{Side}
use Rattle.des_block.specs.declared.triple_key.TripleKey.{TripleKey}
use Rattle.cbc_mac.specs.Mac.{mac_of}
use Rattle.sapdu.specs.declared.fault.SaFault.{SaFault}
use Rattle.sapdu.specs.Spelling.{SafetyPdu, Dt, read_of}
use Rattle.safety_automaton.specs.Safety.{message_text}
use Rattle.safety_pair_laws.specs.Facts.{Fact, Sent, Sealed, Verified, Connected, Accepted, SideFact, MarkedFact, is_key, is_sealing, sealings_of, sealings, was_sealed, is_side, is_mistrust_of, is_mistrust, mistrusts, marked_from, marked}
use Rattle.safety_pair_laws.proofs.Marking.{marks_grow}
use Rattle.safety_pair_laws.proofs.Sealings.{was_sealed_more}
use Rattle.safety_pair_laws.proofs.Tallies.{Tally, tally_of, plus, tally_of-append}

-- ---- what is under way

-- what the SaPDU of a message with this flag to the side of that number is read as
abbrev pub message_from : TripleKey → Bool → ℕ → List ℕ → Result (SafetyPdu × Bool) SaFault
message_from key flag to user = Ok (Dt user (mac_of key (message_text flag to user)), flag)

-- it is that of this message, which was sealed
abbrev pub Bears : List MarkedFact → TripleKey → Bool → ℕ → List ℕ → List ℕ → Type 0
Bears seen key flag to octets user = (read_of octets ≡ message_from key flag to user) × (was_sealed key (message_text flag to user) seen ≡ true)

-- SaPDUs that bear these messages, one each
abbrev pub Carry : List MarkedFact → TripleKey → Bool → ℕ → List (List ℕ) → List (List ℕ) → Type 0
Carry seen key flag to [] [] = Unit {0}
Carry seen key flag to [] (user ∷ users) = ⊥
Carry seen key flag to (octets ∷ line) [] = ⊥
Carry seen key flag to (octets ∷ line) (user ∷ users) = Bears seen key flag to octets user × Carry seen key flag to line users

pub record Direction (seen : List MarkedFact) (key : TripleKey) (flag : Bool) (to : ℕ) (line sent accepted : List (List ℕ)) : Type 0 where
  pub waiting : List (List ℕ)
  pub carry : Carry seen key flag to line waiting
  pub all : accepted ++ waiting ≡ sent

-- the first SaPDU is that of a message, and the others flow on
pub record IsTaken (seen : List MarkedFact) (key : TripleKey) (flag : Bool) (to : ℕ) (octets : List ℕ) (line sent accepted : List (List ℕ)) : Type 0 where
  pub user : List ℕ
  pub bears : Bears seen key flag to octets user
  pub rest : Direction seen key flag to line sent (accepted ++ user ∷ [])

module _ (key : TripleKey) (flag : Bool) (to : ℕ) where
  pub flows_none : (seen : List MarkedFact) → Direction seen key flag to [] [] []
  flows_none seen = record { waiting = []; carry = tt; all = refl }

  carry_later : (seen more : List MarkedFact) (line waiting : List (List ℕ)) → Carry seen key flag to line waiting → Carry (seen ++ more) key flag to line waiting
  carry_later seen more [] [] c = tt
  carry_later seen more [] (user ∷ users) c = absurd c
  carry_later seen more (octets ∷ line) [] c = absurd c
  carry_later seen more (octets ∷ line) (user ∷ users) c =
      ((c.0.0, was_sealed_more key (message_text flag to user) seen more c.0.1), carry_later seen more line users c.1)

  -- behind further facts
  pub flows_later : (facts more : List SideFact) (line sent accepted : List (List ℕ)) → Direction (marked facts) key flag to line sent accepted
      → Direction (marked (facts ++ more)) key flag to line sent accepted
  flows_later facts more line sent accepted d =
      let P : List MarkedFact → Type 0 = λ ms. Direction ms key flag to line sent accepted in
      subst P (sym (marks_grow [] facts more))
      (record { waiting = d.waiting; carry = carry_later (marked facts) (marked_from (marked facts) more) line d.waiting d.carry; all = d.all })

  carry_more : (seen : List MarkedFact) (line waiting : List (List ℕ)) (octets user : List ℕ) → Carry seen key flag to line waiting
      → Bears seen key flag to octets user → Carry seen key flag to (line ++ octets ∷ []) (waiting ++ user ∷ [])
  carry_more seen [] [] octets user c bears = (bears, tt)
  carry_more seen [] (u ∷ users) octets user c bears = absurd c
  carry_more seen (o ∷ line) [] octets user c bears = absurd c
  carry_more seen (o ∷ line) (u ∷ users) octets user c bears = (c.0, carry_more seen line users octets user c.1 bears)

  -- one message more is sent
  pub flows_sent : (seen : List MarkedFact) (line sent accepted : List (List ℕ)) (octets user : List ℕ) → Direction seen key flag to line sent accepted
      → Bears seen key flag to octets user → Direction seen key flag to (line ++ octets ∷ []) (sent ++ user ∷ []) accepted
  flows_sent seen line sent accepted octets user d bears =
      record {
        waiting = d.waiting ++ user ∷ [];
        carry = carry_more seen line d.waiting octets user d.carry bears;
        all = sym (append_assoc accepted d.waiting (user ∷ [])) ∙ ap (λ (l : List (List ℕ)). l ++ user ∷ []) d.all;
      }

  taken : (seen : List MarkedFact) (octets : List ℕ) (line sent accepted waiting : List (List ℕ)) → Carry seen key flag to (octets ∷ line) waiting
      → accepted ++ waiting ≡ sent → IsTaken seen key flag to octets line sent accepted
  taken seen octets line sent accepted [] c all = absurd c
  taken seen octets line sent accepted (user ∷ waiting) c all =
      record {
        user = user;
        bears = c.0;
        rest = record { waiting = waiting; carry = c.1; all = append_assoc accepted (user ∷ []) waiting ∙ all };
      }

  pub flows_taken : (seen : List MarkedFact) (octets : List ℕ) (line sent accepted : List (List ℕ)) → Direction seen key flag to (octets ∷ line) sent accepted
      → IsTaken seen key flag to octets line sent accepted
  flows_taken seen octets line sent accepted d = taken seen octets line sent accepted d.waiting d.carry d.all

  none_waits : (seen : List MarkedFact) (waiting : List (List ℕ)) → Carry seen key flag to [] waiting → waiting ≡ []
  none_waits seen [] c = refl
  none_waits seen (user ∷ waiting) c = absurd c

  -- where nothing is under way, all that was sent is accepted
  pub flows_done : (seen : List MarkedFact) (sent accepted : List (List ℕ)) → Direction seen key flag to [] sent accepted → accepted ≡ sent
  flows_done seen sent accepted d =
      let none : d.waiting ≡ [] = none_waits seen d.waiting d.carry in
      sym (append-nil accepted) ∙ ap (λ (l : List (List ℕ)). accepted ++ l) (sym none) ∙ d.all

  -- no more are accepted than were sent
  pub flows_length : (seen : List MarkedFact) (line sent accepted : List (List ℕ)) (d : Direction seen key flag to line sent accepted)
      → length accepted + length d.waiting ≡ length sent
  flows_length seen line sent accepted d = sym (length-append accepted d.waiting) ∙ ap length d.all

-- ---- facts

-- what the facts of two sides amount to: nothing forged, and what was sent and accepted
pub record IsClean (facts : List SideFact) (t : Tally) : Type 0 where
  pub unforged : list_any (λ (m : MarkedFact). m.forged) (marked facts) ≡ false
  pub tally_is : tally_of facts ≡ t

pub clean_more : (facts more : List SideFact) (t u : Tally) → IsClean facts t
    → list_any (λ (m : MarkedFact). m.forged) (marked_from (marked facts) more) ≡ false → plus t (tally_of more) ≡ u → IsClean (facts ++ more) u
clean_more facts more t u clean unforged sum =
    let p : MarkedFact → Bool = λ m. m.forged in
    let both : (list_any p (marked facts) || list_any p (marked_from (marked facts) more)) ≡ false =
    ap₂ (λ (a b : Bool). a || b) clean.unforged unforged in
    record {
      unforged = ap (list_any p) (marks_grow [] facts more) ∙ list_any-append p (marked facts) (marked_from (marked facts) more) ∙ both;
      tally_is = tally_of-append facts more ∙ ap (λ (s : Tally). plus s (tally_of more)) clean.tally_is ∙ sum;
    }

no_mistrust : (side : Side) (m : MarkedFact) → m.forged ≡ false → is_mistrust side m ≡ false
no_mistrust side m unforged = both (is_side side m.side) m.fact m.forged unforged
  where
    both : (b : Bool) (fact : Fact) (forged : Bool) → forged ≡ false → (b && is_mistrust_of fact forged) ≡ false
    both false fact forged e = refl
    both true (Sent user key text) forged e = refl
    both true (Sealed key text) forged e = refl
    both true (Verified heard key text) forged e = e
    both true (Connected heard c text) forged e = refl
    both true (Accepted heard user key text) forged e = refl

-- where nothing is forged, nothing is mistrusted
pub none_mistrusted : (side : Side) (facts : List MarkedFact) → list_any (λ (m : MarkedFact). m.forged) facts ≡ false → mistrusts side facts ≡ false
none_mistrusted side [] none = refl
none_mistrusted side (m ∷ facts) none =
    let parts : (m.forged ≡ false) × (list_any (λ (n : MarkedFact). n.forged) facts ≡ false) = or_parts m.forged (list_any (λ (n : MarkedFact). n.forged) facts) none in
    ap₂ (λ (a b : Bool). a || b) (no_mistrust side m parts.0) (none_mistrusted side facts parts.1)

-- ---- sealings

self_key : (key : TripleKey) → is_key key key ≡ true
self_key key =
    let first : (key.first == key.first) ≡ true = eq-eqb key.first key.first refl in
    let second : (key.second == key.second) ≡ true = eq-eqb key.second key.second refl in
    let third : (key.third == key.third) ≡ true = eq-eqb key.third key.third refl in
    ap₂ (λ (a b : Bool). a && b) (ap₂ (λ (a b : Bool). a && b) first second) third

pub self_sealing : (key : TripleKey) (text : List ℕ) → is_sealing key text (record { key = key; text = text }) ≡ true
self_sealing key text = ap₂ (λ (a b : Bool). a && b) (self_key key) ((bytes_eq-Decides text text).1 refl)

-- what is sealed by further facts
pub sealed_by_more : (facts more : List SideFact) (key : TripleKey) (text : List ℕ)
    → list_any (is_sealing key text) (sealings (marked_from (marked facts) more)) ≡ true → was_sealed key text (marked (facts ++ more)) ≡ true
sealed_by_more facts more key text e =
    ap (was_sealed key text) (marks_grow [] facts more)
    ∙ ap (list_any (is_sealing key text)) (flat_map-append (λ (m : MarkedFact). sealings_of m.fact) (marked facts) (marked_from (marked facts) more))
    ∙ list_any-append (is_sealing key text) (sealings (marked facts)) (sealings (marked_from (marked facts) more))
    ∙ or_right (was_sealed key text (marked facts)) (list_any (is_sealing key text) (sealings (marked_from (marked facts) more))) e

-- what was sealed before
pub sealed_still : (facts more : List SideFact) (key : TripleKey) (text : List ℕ) → was_sealed key text (marked facts) ≡ true
    → was_sealed key text (marked (facts ++ more)) ≡ true
sealed_still facts more key text e =
    ap (was_sealed key text) (marks_grow [] facts more) ∙ was_sealed_more key text (marked facts) (marked_from (marked facts) more) e
