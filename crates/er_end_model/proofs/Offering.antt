-- TPDUs go down until a payload waits or none is due: the window lets so many go at most.
use Rattle.std.proofs.Common.{◌≡◌, inl, inr, ◌-◌, ◌<◌, ◌≤◌, ◌∙◌, ℕ, zero, suc, Bool, true, false, ◌&&◌, List, [], ◌∷◌, ◌++◌, length, refl, sym, ap, subst, arith, length-append, eqb-true, ltb-true}
use Rattle.std.specs.Prelude.{◌==◌, nat_lt, not, ◌||◌}
use Rattle.std.proofs.lemmas.Bool.{cases_Bool}
use Rattle.hdlc_station_model.specs.Stations.{Station, is_down, is_up, sees}
use Rattle.hdlc_station_model.specs.Sending.{waiting, can_send, sends_up_to}
use Rattle.hdlc_station_model.specs.Calls.{hands}
use Rattle.t70_header.specs.Blocks.{last_block}
use Rattle.er_end_model.specs.Steps.{has_next_tpdu, hand_next_tpdu, hand_waiting_tpdus}
use Rattle.er_end_model.specs.Layers.{Core, model}
use Rattle.er_end_model.specs.Laws.{OffersRest}

-- how many frames the window still lets go, and one
abbrev left : Station → ℕ
left s = s.window - (s.sent - s.acked)

-- a live station that was handed what it sent, and maybe more
pub record Lives (s : Station) : Type 0 where
  pub live : is_down s.phase ≡ false
  pub order : s.acked ≤ s.sent
  pub given : s.sent ≤ length s.handed

left_part : (b c : Bool) → (b && c) ≡ true → b ≡ true
left_part true c e = refl
left_part false c e = absurd cc

right_part : (b c : Bool) → (b && c) ≡ true → c ≡ true
right_part true c e = e
right_part false c e = absurd cc

-- what comes of a payload that is handed to a station where none waits: it is sent, or it waits
pub data Handed (s t : Station) : Type 0 where
  Went : Lives t → left t < left s → t.window ≡ s.window → Handed s t
  Waits : (waiting t == 0) ≡ false → Handed s t

handed : (now : ℕ) (p : List ℕ) (s : Station) → Lives s → (waiting s == 0) ≡ true → Handed s (hands now p s)
handed now p s h free =
    let t : Station = record (sees now s) { handed = s.handed ++ p ∷ [] } in
    let none : length s.handed - s.sent ≡ 0 = eqb-true (length s.handed - s.sent) 0 free in
    let more = length-append s.handed (p ∷ []) in
    let one : waiting t ≡ 1 = omega (arith, h.given) in
    let is : hands now p s ≡ sends_up_to 1 t = rw h.live (ap (λ (n : ℕ). sends_up_to n t) one) in
    subst (λ (u : Station). Handed s u) (sym is) (elim (cases_Bool (can_send t)) [
      | inl y ↦
          let may : s.sent - s.acked < s.window =
          ltb-true (s.sent - s.acked) s.window (right_part (is_up s.phase && not s.busy) (nat_lt (s.sent - s.acked) s.window)
          (left_part (is_up s.phase && not s.busy && nat_lt (s.sent - s.acked) s.window) (s.calling || nat_lt 0 (length s.taken)) y)) in
          rw y (Went (record { live = h.live; order = omega (arith, h.order); given = omega (arith, h.given) }) (omega (arith, h.order)) refl)
      | inr n ↦ rw n (Waits (ap (λ (k : ℕ). k == 0) one))
    ])

stops : (n : ℕ) (x : Core) → has_next_tpdu model x ≡ false → hand_waiting_tpdus model n x ≡ x
unfolding hand_waiting_tpdus
stops zero x e = refl
stops (suc n) x e = rw e refl

rests : (n : ℕ) (x : Core) → Lives x.line → left x.line < n → has_next_tpdu model (hand_waiting_tpdus model n x) ≡ false
unfolding hand_waiting_tpdus
rests zero x h l = absurd (omega arith)
rests (suc n) x h l = elim (cases_Bool (has_next_tpdu model x)) [
  | inr e ↦ rw e e
  | inl e ↦
      let y : Core = hand_next_tpdu model x in
      rw e (elim (handed x.moment (last_block (model.next x.upper)) x.line h (left_part (waiting x.line == 0) (model.has_next x.upper) e)) [
        | Went lives falls window ↦ rests n y lives (omega arith)
        | Waits w ↦
            let stopped : has_next_tpdu model y ≡ false = rw w refl in
            ap (λ (z : Core). has_next_tpdu model z) (stops n y stopped) ∙ stopped
      ])
]

pub offers_rest : OffersRest
offers_rest x live order given window = rests 33 x (record { live = live; order = order; given = given }) (omega arith)
