-- I frames that are sent for the first time behind an event: what they leave alone, and when there are none.
use Rattle.std.proofs.Common.{if◌then◌else◌, ◌≡◌, inl, inr, ℕ, zero, suc, ◌-◌, Bool, true, false, not, ◌&&◌, ◌||◌, length, refl, sym, ap, ◌∙◌, true≢false}
use Rattle.std.specs.Prelude.{nat_lt}
use Rattle.std.proofs.lemmas.Bool.{cond_both, cases_Bool, and_parts}
use Rattle.hdlc_station_model.specs.declared.phase.Phase.{Phase}
use Rattle.hdlc_station_model.specs.declared.phase.Phase.TheVariants.{Idle, Setting, Up, Down}
use Rattle.hdlc_station_model.specs.Stations.{Station, is_up}
use Rattle.hdlc_station_model.specs.Sending.{can_send, waiting, sends_next, sends_up_to, sends_waiting}

-- all but what was said, V(S), the owed answer and T1 stays
abbrev pub MoreSaid : Station → Station → Type 0
MoreSaid x t = t ≡ record x { said = t.said; sent = t.sent; owed = t.owed; timer = t.timer }

more_up_to : (n : ℕ) (x : Station) → MoreSaid x (sends_up_to n x)
more_up_to zero x = refl
more_up_to (suc n) x = cond_both (can_send x) (sends_up_to n (sends_next x)) x (MoreSaid x) (λ can. more_up_to n (sends_next x)) (λ cannot. refl)

pub more_said : (x : Station) → MoreSaid x (sends_waiting x)
more_said x = more_up_to (waiting x) x

-- a station that may not send sends nothing
none_up_to : (n : ℕ) (x : Station) → can_send x ≡ false → sends_up_to n x ≡ x
none_up_to zero x cannot = refl
none_up_to (suc n) x cannot = ap (λ (b : Bool). if b then sends_up_to n (sends_next x) else x) cannot

pub none_sent : (x : Station) → can_send x ≡ false → sends_waiting x ≡ x
none_sent x cannot = none_up_to (waiting x) x cannot

up_of : (p : Phase) → is_up p ≡ true → p ≡ Up
up_of Idle h = absurd (true≢false (sym h))
up_of Setting h = absurd (true≢false (sym h))
up_of Up h = refl
up_of Down h = absurd (true≢false (sym h))

-- what it must be to send
pub up_where_sends : (x : Station) → can_send x ≡ true → x.phase ≡ Up
up_where_sends x can =
    let three = (and_parts (is_up x.phase && not x.busy && nat_lt (x.sent - x.acked) x.window) (x.calling || nat_lt 0 (length x.taken)) can).0 in
    let two = (and_parts (is_up x.phase && not x.busy) (nat_lt (x.sent - x.acked) x.window) three).0 in
    up_of x.phase (and_parts (is_up x.phase) (not x.busy) two).0

ready_where_sends : (x : Station) → can_send x ≡ true → not x.busy ≡ true
ready_where_sends x can =
    let three = (and_parts (is_up x.phase && not x.busy && nat_lt (x.sent - x.acked) x.window) (x.calling || nat_lt 0 (length x.taken)) can).0 in
    let two = (and_parts (is_up x.phase && not x.busy) (nat_lt (x.sent - x.acked) x.window) three).0 in
    (and_parts (is_up x.phase) (not x.busy) two).1

-- at another phase, and to a busy peer, none is sent
pub none_unless_up : (x : Station) → (x.phase ≡ Up → ⊥) → sends_waiting x ≡ x
none_unless_up x other = elim (cases_Bool (can_send x)) [
  | inl can ↦ absurd (other (up_where_sends x can))
  | inr cannot ↦ none_sent x cannot
]

pub none_to_busy : (x : Station) → x.busy ≡ true → sends_waiting x ≡ x
none_to_busy x busy = elim (cases_Bool (can_send x)) [
  | inl can ↦ absurd (true≢false (sym (ready_where_sends x can) ∙ ap not busy))
  | inr cannot ↦ none_sent x cannot
]
