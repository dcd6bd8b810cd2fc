-- TPDUs that go down while no payload waits.
use Rattle.std.proofs.Common.{◌≡◌, inl, inr, ◌<◌, ◌≤◌, ◌-◌, ℕ, zero, suc, true, false, refl, arith}
use Rattle.std.specs.Prelude.{is_some}
use Rattle.std.proofs.lemmas.Bool.{cases_Bool}
use Rattle.er_end_model.specs.Stacks.{Ops, Stack}
use Rattle.er_end_model.specs.Steps.{has_next_tpdu, hand_next_tpdu, hand_waiting_tpdus, conclude_event}
use Rattle.x224_class2.specs.Transport.{TpduTurn, Rest, Opening, Acknowledgement, Data}
use Rattle.x224_class2.specs.Kept.{KeptTransport, kept_turn, kept_tpdu_at, kept_behind, kept_next_tpdu, kept_after_next}
use Rattle.er_end.specs.KeptLayers.{KCore, kept}

-- a turn without a TPDU changes nothing
rests : (k : KeptTransport) (t : TpduTurn) → is_some (kept_tpdu_at k t) ≡ false → kept_behind k t ≡ k
rests k Rest e = refl
rests k (Opening user) e = absurd cc
rests k Acknowledgement e = absurd cc
rests k Data e = absurd cc

pub none_due : (k : KeptTransport) → is_some (kept_next_tpdu k) ≡ false → kept_after_next k ≡ k
none_due k e = rests k (kept_turn k) e

-- ---- up to so many times

module _ {S U : Type 0} (o : Ops S U) where
  pub stops : (n : ℕ) (x : Stack S U) → has_next_tpdu o x ≡ false → hand_waiting_tpdus o n x ≡ x
  unfolding hand_waiting_tpdus
  stops zero x e = refl
  stops (suc n) x e = rw e refl

  pub none_left : (n : ℕ) (x : Stack S U) → n ≤ 0 → hand_waiting_tpdus o n x ≡ x
  unfolding hand_waiting_tpdus
  none_left zero x e = refl
  none_left (suc n) x e = absurd (omega arith)

  pub one_more : (n : ℕ) (x : Stack S U) → 0 < n → has_next_tpdu o x ≡ true → hand_waiting_tpdus o n x ≡ hand_waiting_tpdus o (n - 1) (hand_next_tpdu o x)
  unfolding hand_waiting_tpdus
  one_more zero x l e = absurd (omega arith)
  one_more (suc n) x l e =
      let m : suc n - 1 ≡ n = omega arith in
      rw (e, m) refl

-- ---- what goes down leaves the messages that wait for the user

offers_keep : (n : ℕ) (x : KCore) → (hand_waiting_tpdus kept n x).upper.inbox ≡ x.upper.inbox
unfolding hand_waiting_tpdus
offers_keep zero x = refl
offers_keep (suc n) x = elim (cases_Bool (has_next_tpdu kept x)) [
  | inl y ↦ rw y (offers_keep n (hand_next_tpdu kept x))
  | inr m ↦ rw m refl
]

pub concludes_keep : (x : KCore) → (conclude_event kept x).upper.inbox ≡ x.upper.inbox
concludes_keep x = elim (cases_Bool (is_some x.released)) [
  | inl y ↦ rw y refl
  | inr n ↦ rw n (offers_keep 33 x)
]
