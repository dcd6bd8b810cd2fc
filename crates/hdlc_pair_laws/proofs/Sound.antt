-- One station, whatever its line loses and repeats: what holds of it alone at any moment, and that no frame of a station that isn't released
-- releases the other one. Everywhere x acts and y doesn't, and w waited from x before the call.
use Rattle.std.proofs.Common.{if◌then◌else◌, ◌≡◌, ℕ, zero, suc, ◌+◌, ◌-◌, ◌≤◌, Bool, true, false, List, [], ◌∷◌, ◌++◌, Some, None, refl, sym, subst, arith, ltb-true, append_assoc, append-nil}
use Rattle.std.specs.Prelude.{nat_lt}
use Rattle.std.proofs.lemmas.Bool.{ltb-false}
use Rattle.er_base.specs.declared.cause.Cause.{Cause}
use Rattle.hdlc_station_model.specs.declared.phase.Phase.TheVariants.{Up}
use Rattle.hdlc_station_model.specs.Frames.{Frame}
use Rattle.hdlc_station_model.specs.Stations.{Station, puts}
use Rattle.hdlc_station_model.specs.Sending.{info_at, frames_again, sends_again, starts_timer, station_down_for_cause}
use Rattle.hdlc_station_model.specs.Receiving.{acknowledges}
use Rattle.hdlc_pair_laws.specs.Mending.{AllPolite, IsPolite, Own, Timed}

-- within a call
abbrev pub OwnIn : (calling : Bool) (window : ℕ) → List Frame → Station → Type 0
OwnIn calling window w x = Own calling window (w ++ x.said) x

-- ---- one frame more

pub polite_push : (l : List Frame) (f : Frame) → AllPolite l → IsPolite f → AllPolite (l ++ f ∷ [])
polite_push [] f h p = (p, tt)
polite_push (g ∷ gs) f h p = (h.0, polite_push gs f h.1 p)

pub polite_said : (w said : List Frame) (f : Frame) → AllPolite (w ++ said) → IsPolite f → AllPolite (w ++ (said ++ f ∷ []))
polite_said w said f h p = subst AllPolite (append_assoc w said (f ∷ [])) (polite_push (w ++ said) f h p)

polite_again : (w : List Frame) (x : Station) (n : ℕ) → AllPolite (w ++ x.said) → AllPolite (w ++ (x.said ++ frames_again n x))
polite_again w x zero h = subst (λ t. AllPolite (w ++ t)) (sym (append-nil x.said)) h
polite_again w x (suc n) h =
    subst (λ t. AllPolite (w ++ t)) (append_assoc x.said (frames_again n x) (info_at x (x.acked + n) ∷ []))
    (polite_said w (x.said ++ frames_again n x) (info_at x (x.acked + n)) (polite_again w x n h) tt)

-- ---- a station that is up

module _ (c : Bool) (wd : ℕ) (w : List Frame) where
  pub own_puts : (x : Station) (f : Frame) → IsPolite f → OwnIn c wd w (record x { phase = Up }) → OwnIn c wd w (puts f (record x { phase = Up }))
  own_puts x f p h = (h.0, h.1, h.2, h.3, h.4, h.5, λ live. polite_said w x.said f (h.6 live) p, λ e. absurd cc)

  -- V(A) becomes r
  timed_ack : (x : Station) (r : ℕ) → x.acked ≤ r → r ≤ x.sent → Timed Up x.timer x.expiries x.acked x.sent
      → Timed Up (acknowledges r x).timer (acknowledges r x).expiries r x.sent
  timed_ack x r low high h = at (nat_lt x.acked r) refl
    where
      rises : (b : Bool) → nat_lt r x.sent ≡ b → Timed Up (if b then Some (x.moment + x.t1) else None) 0 r x.sent
      rises true e = (λ none. absurd cc, λ same. absurd (let lt = ltb-true r x.sent e in let u : ⊥ = omega (arith, lt, same) in u), high)
      rises false e = (λ none. (omega (arith, high, ltb-false r x.sent e), refl), λ same. refl, high)

      at : (b : Bool) → nat_lt x.acked r ≡ b → Timed Up (if b then (if nat_lt r x.sent then Some (x.moment + x.t1) else None) else x.timer) (if b then 0 else x.expiries) r x.sent
      at true e = rises (nat_lt r x.sent) refl
      at false e =
          let same : x.acked ≡ r = omega (arith, low, ltb-false x.acked r e) in
          subst (λ (n : ℕ). Timed Up x.timer x.expiries n x.sent) same h

  pub own_ack : (x : Station) (r : ℕ) → x.acked ≤ r → r ≤ x.sent → OwnIn c wd w (record x { phase = Up }) → OwnIn c wd w (acknowledges r (record x { phase = Up }))
  own_ack x r low high h = (h.0, h.1, h.2, h.3, timed_ack (record x { phase = Up }) r low high h.4, h.5, h.6, λ e. absurd cc)

  -- frames are sent again, and T1 starts anew
  pub own_again : (x : Station) → (x.acked ≡ x.sent → ⊥) → OwnIn c wd w (record x { phase = Up }) → OwnIn c wd w (starts_timer (sends_again (record x { phase = Up })))
  own_again x some h =
      (h.0, h.1, h.2, h.3, (λ none. absurd cc, λ same. absurd (some same), h.4.2), h.5, λ live. polite_again w (record x { phase = Up }) (x.sent - x.acked) (h.6 live), λ e. absurd cc)

  -- ---- a released one
  pub own_dead : (x : Station) (said lx : List Frame) (cause : Cause) → Own c wd lx x → OwnIn c wd w (station_down_for_cause cause (record x { said = said }))
  own_dead x said lx cause h = (h.0, h.1, h.2, h.3, refl, h.5, λ live. absurd cc, λ e. absurd cc)
