-- The steps of what a station sends, against what the code keeps.
use Rattle.std.proofs.Common.{inl, inr, if◌then◌else◌, ◌≡◌, ℕ, zero, suc, ◌+◌, ◌-◌, ◌<◌, Bool, true, false, List, [], ◌∷◌, ◌++◌, length, Option, None, Some, is_some, refl, sym, ap, ◌∙◌, subst, arith, add-one, length-drop}
use Rattle.std.specs.Prelude.{◌==◌}
use Rattle.std.proofs.lemmas.Bool.{cases_Bool}
use Rattle.er_base.specs.Stored.{Stored}
use Rattle.hdlc_station_model.specs.declared.phase.Phase.{Phase}
use Rattle.hdlc_station_model.specs.Stations.{Station, Deed, expiry_moment}
use Rattle.hdlc_station_model.specs.Sending.{info_at, started, can_send, sends_next, sends_up_to, sends_again, counts_expiry}
use Rattle.hdlc_station.specs.Kept.{KeptStation, kept_of, Stands, WritesFramesAtMost}
use Rattle.hdlc_station.specs.Replies.{info_text, info_texts}
use Rattle.hdlc_station.proofs.Saying.{put, info_said, says_again}

-- ---- what doesn't write

-- nothing is owed any more
pub owed_settled : (k : KeptStation) (before : List ℕ) (out : Stored) (d : Deed) (s : Station) → Stands k before out d s
    → Stands (record k { owed = false }) before out d (record s { owed = false })
owed_settled k before out d s h = record { is = ap (λ (q : KeptStation). record q { owed = false }) h.is; order = h.order; given = h.given; deed = h.deed; text = h.text }

pub phased : (k : KeptStation) (before : List ℕ) (out : Stored) (d : Deed) (s : Station) (phase : Phase) → Stands k before out d s
    → Stands (record k { phase = phase }) before out d (record s { phase = phase })
phased k before out d s phase h = record { is = ap (λ (q : KeptStation). record q { phase = phase }) h.is; order = h.order; given = h.given; deed = h.deed; text = h.text }

pub counted : (k : KeptStation) (before : List ℕ) (out : Stored) (d : Deed) (s : Station) → Stands k before out d s
    → Stands (record k { expiries = k.expiries + 1 }) before out d (counts_expiry s)
counted k before out d s h = record { is = ap (λ (q : KeptStation). record q { expiries = q.expiries + 1 }) h.is; order = h.order; given = h.given; deed = h.deed; text = h.text }

-- ---- the next payload

pub next_said : (k : KeptStation) (before : List ℕ) (out out' : Stored) (d : Deed) (s : Station) → Stands k before out d s → k.ahead < length k.ring
    → out'.items ≡ out.items ++ info_texts k k.ahead 1
    → Stands (record k { ahead = k.ahead + 1; owed = false; timer = started k.timer (k.moment + k.t1) }) before out' d (sends_next s)
next_said k before out out' d s h there e =
    let ahead : k.ahead ≡ s.sent - s.acked = ap (λ (q : KeptStation). q.ahead) h.is in
    let waits : length k.ring ≡ length s.handed - s.acked = ap (λ (q : KeptStation). length q.ring) h.is ∙ length-drop s.acked s.handed in
    let next : s.acked + k.ahead ≡ s.sent = omega (arith, h.order) in
    let said = put k before out out' d s (info_at s (s.acked + k.ahead)) h
    (e ∙ ap (λ (os : List ℕ). out.items ++ os) (ap (λ (i : ℕ). info_text k i) (omega arith) ∙ info_said k s k.ahead h.is)) in
    let sent = subst (λ (n : ℕ). Stands k before out' d (record s { said = s.said ++ info_at s n ∷ [] })) next said in
    record {
      is = ap (λ (q : KeptStation). record q { ahead = q.ahead + 1; owed = false; timer = started q.timer (q.moment + q.t1) }) h.is
          ∙ ap (λ (n : ℕ). record (kept_of s) { ahead = n; owed = false; timer = started s.timer (expiry_moment s) }) (omega (arith, h.order));
      order = omega (arith, h.order);
      given = omega (arith, h.order, h.given);
      deed = h.deed;
      text = sent.text;
    }

-- ---- the payloads that may be sent

abbrev pub one_if_can : Station → Station
one_if_can s = if can_send s then sends_next s else s

up_to_suc : (i : ℕ) (s : Station) → one_if_can (sends_up_to i s) ≡ sends_up_to (suc i) s
up_to_suc zero s = refl
up_to_suc (suc i) s = elim (cases_Bool (can_send s)) [
  | inl can ↦
      ap (λ (b : Bool). one_if_can (if b then sends_up_to i (sends_next s) else s)) can
      ∙ up_to_suc i (sends_next s)
      ∙ sym (ap (λ (b : Bool). if b then sends_up_to (suc i) (sends_next s) else s) can)
  | inr cannot ↦
      ap (λ (b : Bool). one_if_can (if b then sends_up_to i (sends_next s) else s)) cannot
      ∙ ap (λ (b : Bool). if b then sends_next s else s) cannot
      ∙ sym (ap (λ (b : Bool). if b then sends_up_to (suc i) (sends_next s) else s) cannot)
]

pub up_to_step : (i : ℕ) (s : Station) → one_if_can (sends_up_to i s) ≡ sends_up_to (i + 1) s
up_to_step i s = up_to_suc i s ∙ ap (λ (n : ℕ). sends_up_to n s) (sym (add-one i))

-- T1 starts where it doesn't run
pub started_none : (timer : Option ℕ) (m : ℕ) → is_some timer ≡ false → Some m ≡ started timer m
started_none None m h = refl
started_none (Some running) m h = absurd cc

pub started_some : (timer : Option ℕ) (m : ℕ) → is_some timer ≡ true → timer ≡ started timer m
started_some None m h = absurd cc
started_some (Some running) m h = refl

-- a payload counts as sent, where it may be
pub next_counted : (k j : KeptStation) (timer : Option ℕ) (before : List ℕ) (out out' : Stored) (d : Deed) (s : Station) → j ≡ k → timer ≡ started j.timer (j.moment + j.t1)
    → Stands k before out d s → k.ahead < length k.ring → out'.items ≡ out.items ++ info_texts k k.ahead (j.ahead + 1 - k.ahead) → can_send s ≡ true
    → Stands (record j { ahead = j.ahead + 1; owed = false; timer = timer }) before out' d (one_if_can s)
next_counted k j timer before out out' d s same run h there e can =
    let ahead = ap (λ (q : KeptStation). q.ahead) same in
    let one : j.ahead + 1 - k.ahead ≡ 1 = omega (arith, ahead) in
    let counted = next_said k before out out' d s h there (e ∙ ap (λ (n : ℕ). out.items ++ info_texts k k.ahead n) one) in
    subst (λ (q : KeptStation). Stands q before out' d (one_if_can s))
    (sym (ap (λ (t : Option ℕ). record j { ahead = j.ahead + 1; owed = false; timer = t }) run
    ∙ ap (λ (q : KeptStation). record q { ahead = q.ahead + 1; owed = false; timer = started q.timer (q.moment + q.t1) }) same))
    (subst (λ (b : Bool). Stands (record k { ahead = k.ahead + 1; owed = false; timer = started k.timer (k.moment + k.t1) }) before out' d (if b then sends_next s else s)) (sym can) counted)

-- ---- frames that are sent again

pub repeated : (k : KeptStation) (before : List ℕ) (out out' : Stored) (d : Deed) (s : Station) → Stands k before out d s → out'.items ≡ out.items ++ info_texts k 0 k.ahead
    → Stands (record k { owed = if k.ahead == 0 then k.owed else false }) before out' d (sends_again s)
repeated k before out out' d s h e =
    let said = says_again k before out out' d s h e in
    record {
      is = ap (λ (q : KeptStation). record q { owed = if q.ahead == 0 then q.owed else false }) h.is;
      order = h.order;
      given = h.given;
      deed = h.deed;
      text = said.text;
    }

-- ---- how much was written

pub within_more : (k k' k'' : KeptStation) (out out' out'' : Stored) (n m : ℕ) → WritesFramesAtMost k out k' out' n → WritesFramesAtMost k' out' k'' out'' m → WritesFramesAtMost k out k'' out'' (n + m)
within_more k k' k'' out out' out'' n m h g = record {
  window = g.window ∙ h.window;
  near = g.near;
  capacity = g.capacity ∙ h.capacity;
  items = omega (arith, h.items, g.items);
}
