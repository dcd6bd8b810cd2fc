-- Lemmas: the first payload that each end took of a line that keeps its order, where the keys agree, an end being released or not: a CR with
-- AU1, and a CC with AU2 or a DR, with the numbers of the opening (ITU-T X.224, T.70; UNISIG SUBSET-037).
use Rattle.std.specs.Prelude.{ℕ, ◌≡◌, ◌≤◌, true, false, List, [], ◌∷◌, length, Ok}
use Rattle.t70_header.specs.Blocks.{last_block}
use Rattle.x224_tpdu.specs.Spelling.{connection_request, connection_confirm, disconnect_request}
use Rattle.x224_tpdu.specs.Function.{reading}
use Rattle.sapdu.specs.Spelling.{Au1, Au2, read_of}
use Rattle.pair_model.specs.Steps.{PairStep}
use Rattle.er_end_pair_laws.specs.Openings.{EndLinkOpening, Agree}
use Rattle.er_end_pair_laws.specs.Steps.{AllFit}
use Rattle.er_end_pair_laws.specs.Laws.{end_link_after}

-- a payload is the block of a CR whose user data is the AU1 of the engine
pub record IsCallBlock (s : EndLinkOpening) (payload : List ℕ) : Type 0 where
  pub tpdu : List ℕ
  pub credit : ℕ
  pub dst : ℕ
  pub src : ℕ
  pub size : ℕ
  pub user : List ℕ
  pub block : payload ≡ last_block tpdu
  pub short : length tpdu ≤ 1024
  pub read : reading tpdu ≡ Ok (connection_request credit dst src size user)
  pub text : read_of user ≡ Ok (Au1 s.engine 1 s.rb, false)

-- that of a CC whose user data is the AU2 of the radio block centre, or that of a DR
pub data IsAnswerBlock (s : EndLinkOpening) (payload : List ℕ) : Type 0 where
  Confirms : (tpdu user : List ℕ) (credit dst src size mac : ℕ) → payload ≡ last_block tpdu → length tpdu ≤ 1024
      → reading tpdu ≡ Ok (connection_confirm credit dst src size user) → read_of user ≡ Ok (Au2 s.rbc 1 s.ra mac, true) → IsAnswerBlock s payload
  Parts : (tpdu user : List ℕ) (dst src reason : ℕ) → payload ≡ last_block tpdu → length tpdu ≤ 1024
      → reading tpdu ≡ Ok (disconnect_request dst src reason user) → IsAnswerBlock s payload

abbrev pub StartsWith : (List ℕ → Type 0) → List (List ℕ) → Type 0
StartsWith P [] = Unit {0}
StartsWith P (payload ∷ payloads) = P payload

abbrev pub Greets : Type 0
Greets =
    (s : EndLinkOpening) (steps : List PairStep) → AllFit steps → Agree s → (end_link_after s steps).order_kept ≡ true
    → StartsWith (IsCallBlock s) (end_link_after s steps).r.core.line.taken × StartsWith (IsAnswerBlock s) (end_link_after s steps).e.core.line.taken
