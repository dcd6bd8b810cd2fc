-- The audit of a link that keeps its order knows the session keys under which either end accepted messages.
use Rattle.std.proofs.Common.{◌≡◌, ◌∙◌, ◌≤◌, ℕ, true, false, List, [], ◌∷◌, ◌++◌, length, drop, Option, Result, Ok, refl, sym, ap, subst, arith, append_assoc, append-nil}
use Rattle.hdlc_station_model.specs.Lines.{IsPrefix}
use Rattle.std.specs.Option.{option_to_list}
use Rattle.std.proofs.lemmas.List.{take-append-drop}
use Rattle.er_base.specs.declared.side.Side.{Side}
use Rattle.er_base.specs.declared.side.Side.TheVariants.{E, R}
use Rattle.t70_header.specs.Blocks.{last_block}
use Rattle.t70_header.specs.Joining as joining
use Rattle.t70_header.specs.JoiningLaws.{WrappedIsJoined}
use Rattle.x224_tpdu.specs.declared.fault.TpFault.{TpFault}
use Rattle.x224_tpdu.specs.Spelling.{TransportPdu, connection_request, connection_confirm, disconnect_request}
use Rattle.x224_tpdu.specs.Function.{reading}
use Rattle.sapdu.specs.Spelling.{Au1, Au2, read_of}
use Rattle.sapdu.specs.Spelling as sapdu
use Rattle.safety_automaton.specs.Safety.{Connection, Phase}
use Rattle.er_end_model.specs.Steps.{Finds}
use Rattle.er_end_model.specs.Ends.{Opening, End}
use Rattle.tap_model.specs.Hearing.{payloads, tpdu_before, tpdus_from, pdu_before, pdus_in, Hearing, texts_from, heard_of, heard, items}
use Rattle.tap_model.specs.Given.{HasHeardStreamTexts}
use Rattle.tap_model.specs.Verdicts.{random_number_in_item, first_number}
use Rattle.er_end_pair_laws.specs.Openings as pair
use Rattle.tap_laws.specs.Progress.{GotAll, GotsNone, GotsOne, GotsAll, Stage, Begins, Waits, Speaks, Gone}
use Rattle.er_end_pair_laws.specs.Greetings.{IsCallBlock, IsAnswerBlock, Confirms, Parts, StartsWith}
use Rattle.tap_laws.proofs.Finding.{IsFront}

-- ---- lists that begin

-- this one first
abbrev pub HasHead : List ℕ → List (List ℕ) → Type 0
HasHead x xs = (rest : List (List ℕ)) × (xs ≡ x ∷ rest)

one_head : (x y : List ℕ) (xs : List (List ℕ)) → HasHead x xs → HasHead y xs → x ≡ y
one_head x y xs h g = let z : x ∷ h.0 ≡ y ∷ g.0 = sym h.1 ∙ g.1 in cc

pub front_head : (x : List ℕ) (xs ys : List (List ℕ)) → HasHead x xs → IsFront xs ys → HasHead x ys
front_head x xs ys h f = (h.0 ++ f.0, f.1 ∙ ap (λ (z : List (List ℕ)). z ++ f.0) h.1)

pub prefix_front : (xs ys : List (List ℕ)) → IsPrefix xs ys → IsFront xs ys
prefix_front xs ys h = (drop (length xs) ys, sym (take-append-drop (length xs) ys) ∙ ap (λ (z : List (List ℕ)). z ++ drop (length xs) ys) (sym h))

pub items_front : (h : Hearing) → IsFront h.texts (items h)
items_front h = (option_to_list h.parting, refl)

pub then_front : (xs ys zs : List (List ℕ)) → IsFront xs ys → IsFront ys zs → IsFront xs zs
then_front xs ys zs f g = (f.0 ++ g.0, g.1 ∙ ap (λ (z : List (List ℕ)). z ++ g.0) f.1 ∙ append_assoc xs f.0 g.0)

-- the number that a first item tells
pub head_number : (of_pdu : sapdu.SafetyPdu → Option ℕ) (x : List ℕ) (xs : List (List ℕ)) → HasHead x xs → first_number of_pdu xs ≡ random_number_in_item of_pdu (read_of x)
head_number of_pdu x xs h = ap (λ (z : List (List ℕ)). first_number of_pdu z) h.1

-- ---- what was given to an end that sent or accepted

pub got_all : (finds : Finds) (o : Opening) (phase : Phase) (g a t : List (List ℕ)) → Stage finds o phase g a t → (t ≡ [] → ⊥)
    → (c : Connection) × (front : List (List ℕ)) × IsFront front g × GotAll finds o c front a
got_all finds o phase g a t (Begins b n) some = absurd (some n.sent_is)
got_all finds o phase g a t (Waits c w n) some = absurd (some n.sent_is)
got_all finds o phase g a t (Speaks c e n) some = (c, g, ([], sym (append-nil g)), n)
got_all finds o phase g a t (Gone release session e front rest is (GotsNone n) k) some = absurd (some n.sent_is)
got_all finds o phase g a t (Gone release session e front rest is (GotsOne c n) k) some = absurd (some n.sent_is)
got_all finds o phase g a t (Gone release session e front rest is (GotsAll c n) k) some = (c, front, (rest, is), n)

pub all_head : (finds : Finds) (o : Opening) (c : Connection) (front g a : List (List ℕ)) → (n : GotAll finds o c front a) → IsFront front g → HasHead n.first g
all_head finds o c front g a n is = front_head n.first front g (n.second ∷ n.texts, n.given_is) is

-- ---- the first payload

module _ (wrapped : WrappedIsJoined) where
  -- of a block that holds a whole TPDU
  first_heard : (tpdu : List ℕ) (pdu : TransportPdu) (rest : List (List ℕ)) → length tpdu ≤ 1024 → reading tpdu ≡ Ok pdu
      → heard_of (last_block tpdu ∷ rest) ≡ texts_from 0 [] (pdu ∷ pdus_in (tpdus_from [] rest))
  unfolding heard_of tpdus_from pdus_in
  first_heard tpdu pdu rest short read =
      ap (λ (j : List ℕ × joining.BlockJoiningResult). texts_from 0 [] (pdus_in (tpdu_before j.1 (tpdus_from j.0 rest)))) (wrapped tpdu short)
      ∙ ap (λ (r : Result TransportPdu TpFault). texts_from 0 [] (pdu_before r (pdus_in (tpdus_from [] rest)))) read

  pub call_heard : (tpdu user : List ℕ) (credit dst src size : ℕ) (rest : List (List ℕ)) → length tpdu ≤ 1024 → reading tpdu ≡ Ok (connection_request credit dst src size user)
      → HasHead user (heard_of (last_block tpdu ∷ rest)).texts
  unfolding texts_from
  call_heard tpdu user credit dst src size rest short read =
      ((texts_from 0 [] (pdus_in (tpdus_from [] rest))).texts, ap (λ (h : Hearing). h.texts) (first_heard tpdu (connection_request credit dst src size user) rest short read))

  pub confirm_heard : (tpdu user : List ℕ) (credit dst src size : ℕ) (rest : List (List ℕ)) → length tpdu ≤ 1024 → reading tpdu ≡ Ok (connection_confirm credit dst src size user)
      → HasHead user (heard_of (last_block tpdu ∷ rest)).texts
  unfolding texts_from
  confirm_heard tpdu user credit dst src size rest short read =
      ((texts_from 0 [] (pdus_in (tpdus_from [] rest))).texts, ap (λ (h : Hearing). h.texts) (first_heard tpdu (connection_confirm credit dst src size user) rest short read))

  part_heard : (tpdu user : List ℕ) (dst src reason : ℕ) (rest : List (List ℕ)) → length tpdu ≤ 1024 → reading tpdu ≡ Ok (disconnect_request dst src reason user)
      → (heard_of (last_block tpdu ∷ rest)).texts ≡ []
  unfolding texts_from
  part_heard tpdu user dst src reason rest short read =
      ap (λ (h : Hearing). h.texts) (first_heard tpdu (disconnect_request dst src reason user) rest short read)

  -- the stream is heard of its payloads
  pub heard_is : (side : Side) (stream : List ℕ) → heard side stream ≡ heard_of (payloads side stream)
  unfolding heard
  heard_is side stream = refl

  -- where a text was given a payload was taken, and it is the first that counts
  first_taken : (side : Side) (stream : List ℕ) (given : List (List ℕ)) (z : End) (x : List ℕ) → HasHeardStreamTexts side stream given z → HasHead x given
      → (payload : List ℕ) × HasHead payload z.core.line.taken × HasHead payload (payloads side stream)
  first_taken side stream given z x h head = by z.core.line.taken refl
    where
      by : (taken : List (List ℕ)) → z.core.line.taken ≡ taken → (payload : List ℕ) × HasHead payload z.core.line.taken × HasHead payload (payloads side stream)
      by [] e =
          let g : length given ≡ length (x ∷ head.0) = ap (λ (l : List (List ℕ)). length l) head.1 in
          let n : length z.core.line.taken ≡ 0 = ap (λ (l : List (List ℕ)). length l) e in
          let some : 1 ≤ length given = omega (arith, g) in
          let one = h.carried some in
          absurd (omega (arith, n, one))
      by (payload ∷ more) e =
          (payload, (more, e), front_head payload z.core.line.taken (payloads side stream) (more, e) (prefix_front z.core.line.taken (payloads side stream) h.taken))

  starts_at : (P : List ℕ → Type 0) (x : List ℕ) (xs : List (List ℕ)) → StartsWith P xs → HasHead x xs → P x
  starts_at P x xs h head = subst (λ (l : List (List ℕ)). StartsWith P l) head.1 h

  -- the text of the first payload is the first that was given
  texts_at : (side : Side) (stream payload : List ℕ) → HasHead payload (payloads side stream)
      → (rest : List (List ℕ)) × ((heard side stream).texts ≡ (heard_of (payload ∷ rest)).texts)
  texts_at side stream payload h = (h.0, ap (λ (t : Hearing). t.texts) (heard_is side stream) ∙ ap (λ (l : List (List ℕ)). (heard_of l).texts) h.1)

  pub given_head : (side : Side) (stream : List ℕ) (given : List (List ℕ)) (z : End) (x : List ℕ) → HasHeardStreamTexts side stream given z → HasHead x given → HasHead x (heard side stream).texts
  given_head side stream given z x h head = front_head x given (heard side stream).texts head (prefix_front given (heard side stream).texts h.given)

  module _ (s : pair.EndLinkOpening) where
    -- an AU1 that the radio block centre was given is the engine's
    pub call_is : (stream : List ℕ) (given : List (List ℕ)) (z : End) (x : List ℕ) → HasHeardStreamTexts E stream given z → StartsWith (IsCallBlock s) z.core.line.taken → HasHead x given
        → read_of x ≡ Ok (Au1 s.engine 1 s.rb, false)
    call_is stream given z x h starts head =
        let f = first_taken E stream given z x h head in
        let c : IsCallBlock s f.0 = starts_at (IsCallBlock s) f.0 z.core.line.taken starts f.1 in
        let t = texts_at E stream f.0 f.2 in
        let u : HasHead c.user (heard_of (last_block c.tpdu ∷ t.0)).texts = call_heard c.tpdu c.user c.credit c.dst c.src c.size t.0 c.short c.read in
        let texts : (heard E stream).texts ≡ (heard_of (last_block c.tpdu ∷ t.0)).texts = t.1 ∙ ap (λ (p : List ℕ). (heard_of (p ∷ t.0)).texts) c.block in
        let same : x ≡ c.user = one_head x c.user (heard E stream).texts (given_head E stream given z x h head) (u.0, texts ∙ u.1) in
        ap read_of same ∙ c.text

    -- an AU2 that the engine was given is the radio block centre's
    pub answer_is : (stream : List ℕ) (given : List (List ℕ)) (z : End) (x : List ℕ) → HasHeardStreamTexts R stream given z → StartsWith (IsAnswerBlock s) z.core.line.taken → HasHead x given
        → (mac : ℕ) × (read_of x ≡ Ok (Au2 s.rbc 1 s.ra mac, true))
    answer_is stream given z x h starts head =
        let f = first_taken R stream given z x h head in
        let t = texts_at R stream f.0 f.2 in
        by f.0 t.0 t.1 (starts_at (IsAnswerBlock s) f.0 z.core.line.taken starts f.1)
      where
        by : (payload : List ℕ) (rest : List (List ℕ)) → (heard R stream).texts ≡ (heard_of (payload ∷ rest)).texts → IsAnswerBlock s payload
            → (mac : ℕ) × (read_of x ≡ Ok (Au2 s.rbc 1 s.ra mac, true))
        by payload rest e (Confirms tpdu user credit dst src size mac block short read text) =
            let u : HasHead user (heard_of (last_block tpdu ∷ rest)).texts = confirm_heard tpdu user credit dst src size rest short read in
            let texts : (heard R stream).texts ≡ (heard_of (last_block tpdu ∷ rest)).texts = e ∙ ap (λ (p : List ℕ). (heard_of (p ∷ rest)).texts) block in
            let same : x ≡ user = one_head x user (heard R stream).texts (given_head R stream given z x h head) (u.0, texts ∙ u.1) in
            (mac, ap read_of same ∙ text)
        by payload rest e (Parts tpdu user dst src reason block short read) =
            let texts : (heard R stream).texts ≡ [] = e ∙ ap (λ (p : List ℕ). (heard_of (p ∷ rest)).texts) block ∙ part_heard tpdu user dst src reason rest short read in
            let some = given_head R stream given z x h head in
            absurd (let z : x ∷ some.0 ≡ [] = sym some.1 ∙ texts in cc)
