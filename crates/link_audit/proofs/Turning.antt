-- What the information of a frame comes to, by the code's answer and by what it keeps then.
use Rattle.std.proofs.Common.{◌≡◌, ℕ, ◌+◌, ◌%◌, false, List, Some, Ok, ap}
use Rattle.er_base.specs.declared.side.Side.{Side}
use Rattle.t70_header.specs.Joining as joining
use Rattle.x224_tpdu.specs.Function.{reading}
use Rattle.tap_model.specs.Ears.{Ear}
use Rattle.link_audit.specs.declared.frame_outcome.FrameOutcome.TheVariants as it
use Rattle.link_audit.specs.declared.frame_outcome.TextOutcome.{TextOutcome}
use Rattle.link_audit.specs.declared.frame_outcome.TextOutcome.TheVariants as said
use Rattle.link_audit.specs.Turns.{KTexts, TextTurn, text_turn, text_turned, turn_at_text, turn_at_information, turned}

pub text_turns : (outcome : TextOutcome) (side : Side) (k : Ear) (now : KTexts) (turn : TextTurn) → text_turned outcome now ≡ turn
    → turned (it.Counted outcome) (record { side = side; ear = record k { dts = now.dts; begun = now.begun }; gap = false; text = now.text }) ≡ turn_at_text k turn
text_turns said.NoText side k now turn e = ap (λ (t : TextTurn). turn_at_text k t) e
text_turns said.Text side k now turn e = ap (λ (t : TextTurn). turn_at_text k t) e
text_turns said.LastText side k now turn e = ap (λ (t : TextTurn). turn_at_text k t) e
text_turns (said.Ended why) side k now turn e = ap (λ (t : TextTurn). turn_at_text k t) e

-- where the block ends a TPDU
pub information_turns : (outcome : TextOutcome) (side : Side) (k : Ear) (held : List ℕ) (now : KTexts) (information tpdu : List ℕ)
    → held ≡ (joining.block_step k.held information).0 → (joining.block_step k.held information).1 ≡ Ok (Some tpdu)
    → text_turned outcome now ≡ text_turn k.dts k.begun (reading tpdu)
    → turned (it.Counted outcome)
    (record { side = side; ear = record k { count = (k.count + 1) % 8; held = held; dts = now.dts; begun = now.begun }; gap = false; text = now.text })
    ≡ turn_at_information k information
information_turns outcome side k held now information tpdu is answer e =
    rw (is, answer)
    (text_turns outcome side (record k { count = (k.count + 1) % 8; held = (joining.block_step k.held information).0 }) now (text_turn k.dts k.begun (reading tpdu)) e)
