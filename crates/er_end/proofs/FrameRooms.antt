-- What an event sends has room: how each call of the station leaves the frames that may still be sent.
use Rattle.std.proofs.Common.{◌≡◌, inl, inr, ◌+◌, ◌*◌, ◌≤◌, ◌∙◌, ℕ, zero, suc, Bool, true, false, not, List, [], ◌∷◌, ◌++◌, length, Result, Ok, Err, IfOk, IfErr, refl, sym, ap, subst, arith}
use Rattle.std.proofs.lemmas.Bool.{cases_Bool}
use Rattle.hdlc_station_model.specs.declared.phase.Phase.{Phase}
use Rattle.er_base.specs.Stored.{Stored}
use Rattle.hdlc_station_model.specs.Stations.{Station, no_deed, is_down, sees}
use Rattle.hdlc_station_model.specs.Sending.{can_send, waiting, sends_next, sends_up_to}
use Rattle.hdlc_station_model.specs.Calls.{hands}
use Rattle.hdlc_station.specs.Kept.{KeptStation, kept_of, WritesFramesAtMost}
use Rattle.hdlc_station.specs.Stations.{StationKept}
use Rattle.hdlc_station.specs.Alike.{model_of, DoesStationCall}
use Rattle.er_end.specs.FrameRoom.{one_if, FitsFrameRoom}

one_at_most : (b : Bool) → one_if b ≤ 1
one_at_most true = omega arith
one_at_most false = omega arith

-- ---- where an event begins

pub begins_fit : (k : KeptStation) (out : List ℕ) → k.window ≤ 31 → length out ≤ 32 * 2064 → FitsFrameRoom k out
begins_fit k out w l = omega (arith, w, l, one_at_most k.owed, one_at_most (not (is_down k.phase)))

-- ---- a payload is handed down

-- the phase stays, and an answer isn't owed that wasn't before
abbrev OwesNoMore : Station → Station → Type 0
OwesNoMore s t = (t.phase ≡ s.phase) × (one_if t.owed ≤ one_if s.owed)

up_to_owes : (n : ℕ) (s : Station) → OwesNoMore s (sends_up_to n s)
up_to_owes zero s = (refl, omega arith)
up_to_owes (suc n) s = elim (cases_Bool (can_send s)) [
  | inl y ↦ rw y (let h : OwesNoMore (sends_next s) (sends_up_to n (sends_next s)) = up_to_owes n (sends_next s) in (h.0, omega (arith, h.1)))
  | inr m ↦ rw m (refl, omega arith)
]

hands_owes : (now : ℕ) (m : List ℕ) (s : Station) → OwesNoMore s (hands now m s)
hands_owes now m s = elim (cases_Bool (is_down s.phase)) [
  | inl y ↦ rw y (refl, omega arith)
  | inr n ↦ rw n (let t : Station = record (sees now s) { handed = s.handed ++ m ∷ [] } in up_to_owes (waiting t) t)
]

-- the payload's frames are written, as many as V(S) - V(A) grew
hand_fits : (k : KeptStation) (now : ℕ) (m : List ℕ) (new : KeptStation) (out out' : List ℕ)
    → new ≡ kept_of (hands now m (model_of k)) → new.window ≡ k.window → k.ahead ≤ new.ahead → new.ahead ≤ new.window
    → length out' + k.ahead * 2064 ≤ length out + new.ahead * 2064 → FitsFrameRoom k out → FitsFrameRoom new out'
hand_fits k now m new out out' is w grows near sent fits =
    let h : OwesNoMore (model_of k) (hands now m (model_of k)) = hands_owes now m (model_of k) in
    let p : new.phase ≡ k.phase = ap (λ (n : KeptStation). n.phase) is ∙ h.0 in
    let o : one_if new.owed ≤ one_if k.owed = subst (λ (n : KeptStation). one_if n.owed ≤ one_if k.owed) (sym is) h.1 in
    let d : one_if (not (is_down new.phase)) ≡ one_if (not (is_down k.phase)) = ap (λ (q : Phase). one_if (not (is_down q))) p in
    omega (arith, w, grows, near, sent, fits, o, d)

pub hand_keeps : {E : Type 0} (old : StationKept) (now : ℕ) (m : List ℕ) (new : StationKept) (out out' : Stored) (r : Result (Unit {0}) E)
    → IfOk r (λ _. DoesStationCall new.core out out' no_deed (hands now m (model_of old.core))) → IfErr r (λ _. new ≡ old) → IfErr r (λ _. out' ≡ out)
    → old.core.ahead ≤ new.core.ahead → WritesFramesAtMost old.core out new.core out' old.core.window
    → length out'.items + old.core.ahead * 2064 ≤ length out.items + new.core.ahead * 2064
    → FitsFrameRoom old.core out.items → FitsFrameRoom new.core out'.items
hand_keeps old now m new out out' (Ok done) does same unwritten grows within sent fits =
    hand_fits old.core now m new.core out.items out'.items does.kept within.window grows within.near sent fits
hand_keeps old now m new out out' (Err full) does same unwritten grows within sent fits = rw (same, unwritten) fits
