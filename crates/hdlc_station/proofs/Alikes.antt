-- Two stations of which the code keeps the same do the same in each call.
use Rattle.std.proofs.Common.{if◌then◌else◌, ◌≡◌, inl, inr, ℕ, zero, suc, ◌+◌, ◌-◌, ◌%◌, ◌<◌, ◌≤◌, Bool, true, false, not, ◌&&◌, ◌||◌, List, [], ◌∷◌, ◌++◌, length, drop, Option, Some, None, refl, sym, ap, ap₂, subst, ◌∙◌, arith, max, append-nil, get_or-drop, length-append, length-drop, drop-drop, eq-eqb, lt-ltb, le-ltb, ltb-false, eqb-true, true≢false, replicate, mod-lt, mod-eq_of_lt}
use Rattle.std.specs.Prelude.{◌==◌, nat_lt, slice_index_or, option_map}
use native.Mathlib.Nat.{mod-add-mod}
use Rattle.std.proofs.lemmas.Bool.{cases_Bool, cases_lt}
use Rattle.std.proofs.lemmas.Grind.{flat_map-append}
use Rattle.std.proofs.lemmas.List.{drop-append-le, length-replicate}
use Rattle.std.proofs.Math.Seq.{drop-append_seam}
use Rattle.er_base.specs.Stored.{Stored}
use Rattle.er_base.specs.declared.cause.Cause.{Cause}
use Rattle.er_base.specs.declared.cause.Cause.TheVariants.{SetUpUnanswered, NoProgress, FrameError, PeerDisconnected}
use Rattle.hdlc_frames.specs.declared.controls.Control.{Control}
use Rattle.hdlc_frames.specs.declared.controls.Control.TheVariants as control
use Rattle.hdlc_frames.specs.Controls.{control_octets}
use Rattle.hdlc_frames.specs.ControlOctets.{control_of}
use Rattle.hdlc_frames.specs.Spelling.{spelling}
use Rattle.hdlc_frames.specs.Framing.{Verdict, Frame as Frame_found, BadFcs, TooShort, TooLong, Aborted}
use Rattle.hdlc_station_model.specs.declared.phase.Phase.{Phase}
use Rattle.hdlc_station_model.specs.declared.phase.Phase.TheVariants.{Idle, Setting, Up, Down}
use Rattle.hdlc_station_model.specs.Frames.{Frame, Rr, Rej, SetUp, Disc, Dm, Ua, modulo, address_of, table_octets, sent_octets}
use Rattle.hdlc_station_model.specs.Stations.{Station, Deed, no_deed, is_up, is_down, sees, puts}
use Rattle.hdlc_station_model.specs.Sending.{info_at, started, can_send, waiting, sends_next, sends_up_to, sends_waiting, frames_again, sends_again_some, sends_again, starts_timer, settles, gives_up, counts_expiry, expires_at, expires, expires_if_due, is_due, refuses_frame, station_down_for_cause}
use Rattle.hdlc_station_model.specs.Receiving.{strays, is_known_address, is_addressed, is_error, errs, number_shown_as, acknowledges, acknowledging, by_number, accepts, rejects, takes, marks_busy, repeats_rejected, comes_up, agrees, sets_up_again, row_of_phase, hears, hears_control}
use Rattle.hdlc_station_model.specs.Calls.{starts_at, starts, receives, hands, ticks, closes_at, closes}
use Rattle.hdlc_station.specs.Kept.{KeptStation, kept_of, octets_of_sent_frames, Follows, Tells, Shown, Ranged}
use Rattle.hdlc_station.specs.Alike.{model_of, Sound, Alike, KeepsStationsAlike, KeptIsModelled, DoesStationCall}

-- ---- tests that are the same on both sides

alike_if : (b c : Bool) (x y x' y' : Station) → b ≡ c → (b ≡ true → Alike x x') → (b ≡ false → Alike y y') → Alike (if b then x else y) (if c then x' else y')
alike_if true true x y x' y' e h g = h refl
alike_if true false x y x' y' e h g = absurd cc
alike_if false true x y x' y' e h g = absurd cc
alike_if false false x y x' y' e h g = g refl

phase_same : (s t : Station) → Alike s t → s.phase ≡ t.phase
phase_same s t h = ap (λ (k : KeptStation). k.phase) h.0

-- a step by the phase
alike_by : (step : Phase → Station → Station) (s t : Station) → Alike s t → ((p : Phase) → Alike (step p s) (step p t)) → Alike (step s.phase s) (step t.phase t)
alike_by step s t h g = subst (λ (q : Phase). Alike (step s.phase s) (step q t)) (phase_same s t h) (g s.phase)

-- ---- frames

puts_alike : (f g : Frame) (s t : Station) → sent_octets s.calling s.extended f ≡ sent_octets t.calling t.extended g → Alike s t → Alike (puts f s) (puts g t)
puts_alike f g s t e h = (
  h.0,
  h.1,
  h.2,
  h.3,
  flat_map-append (sent_octets s.calling s.extended) s.said (f ∷ [])
      ∙ ap₂ (λ (a b : List ℕ). a ++ b) h.4 (append-nil _ ∙ e ∙ sym (append-nil _))
      ∙ sym (flat_map-append (sent_octets t.calling t.extended) t.said (g ∷ [])),
)

-- a frame that shows neither V(S) nor V(R)
same_frame : (f : Frame) (s t : Station) → Alike s t → sent_octets s.calling s.extended f ≡ sent_octets t.calling t.extended f
same_frame f s t h = ap (λ (k : KeptStation). sent_octets k.calling k.extended f) h.0

puts_same : (f : Frame) (s t : Station) → Alike s t → Alike (puts f s) (puts f t)
puts_same f s t h = puts_alike f f s t (same_frame f s t h) h

-- RR and REJ by what is kept
abbrev shown_text : (ℕ → Control) → KeptStation → List ℕ
shown_text c k = spelling (address_of k.calling) (table_octets (control_octets (modulo k.extended) (c k.vr) false) ++ [])

ready_same : (s t : Station) → Alike s t → Alike (puts (Rr (length s.taken)) s) (puts (Rr (length t.taken)) t)
ready_same s t h = puts_alike (Rr (length s.taken)) (Rr (length t.taken)) s t (ap (shown_text (λ n. control.Rr n)) h.0) h

reject_same : (s t : Station) → Alike s t → Alike (puts (Rej (length s.taken)) s) (puts (Rej (length t.taken)) t)
reject_same s t h = puts_alike (Rej (length s.taken)) (Rej (length t.taken)) s t (ap (shown_text (λ n. control.Rej n)) h.0) h

-- the I frame that is i places behind V(A), by what is kept
abbrev info_text : ℕ → KeptStation → List ℕ
info_text i k =
    spelling (address_of (not k.calling))
    (table_octets (control_octets (modulo k.extended) (control.Info ((k.va + i) % modulo k.extended) k.vr) false) ++ slice_index_or k.ring i [])

info_octets : (i : ℕ) (s : Station) → sent_octets s.calling s.extended (info_at s (s.acked + i)) ≡ info_text i (kept_of s)
info_octets i s =
    ap₂ (λ (n : ℕ) (p : List ℕ). spelling (address_of (not s.calling)) (table_octets (control_octets (modulo s.extended) (control.Info n (length s.taken % modulo s.extended)) false) ++ p))
    (sym (mod-add-mod s.acked (modulo s.extended) i)) (sym (get_or-drop s.acked s.handed i []))

info_same : (i : ℕ) (s t : Station) → Alike s t → sent_octets s.calling s.extended (info_at s (s.acked + i)) ≡ sent_octets t.calling t.extended (info_at t (t.acked + i))
info_same i s t h = info_octets i s ∙ ap (info_text i) h.0 ∙ sym (info_octets i t)

-- ---- payloads that may be sent

-- what is kept behind the next payload
next_kept : (s : Station) → s.acked ≤ s.sent
    → kept_of (sends_next s) ≡ record (kept_of s) { ahead = s.sent - s.acked + 1; owed = false; timer = started s.timer (s.moment + s.t1) }
next_kept s order =
    let e : s.sent + 1 - s.acked ≡ s.sent - s.acked + 1 = omega arith in
    ap (λ (n : ℕ). record (kept_of s) { ahead = n; owed = false; timer = started s.timer (s.moment + s.t1) }) e

next_alike : (s t : Station) → s.sent < length s.handed → t.sent < length t.handed → Alike s t → Alike (sends_next s) (sends_next t)
next_alike s t some_s some_t h =
    let i : ℕ = s.sent - s.acked in
    let at_s : s.acked + i ≡ s.sent = omega (arith, h.1.0) in
    let ahead : s.sent - s.acked ≡ t.sent - t.acked = ap (λ (k : KeptStation). k.ahead) h.0 in
    let at_t : t.acked + i ≡ t.sent = omega (arith, h.2.0) in
    let octets = ap (λ (n : ℕ). sent_octets s.calling s.extended (info_at s n)) (sym at_s) ∙ info_same i s t h ∙ ap (λ (n : ℕ). sent_octets t.calling t.extended (info_at t n)) at_t in
    let said = puts_alike (info_at s s.sent) (info_at t t.sent) s t octets h in (
      next_kept s h.1.0
          ∙ ap (λ (k : KeptStation). record k { ahead = k.ahead + 1; owed = false; timer = started k.timer (k.moment + k.t1) }) h.0
          ∙ sym (next_kept t h.2.0),
      (omega (arith, h.1.0), omega arith),
      (omega (arith, h.2.0), omega arith),
      h.3,
      said.4,
    )

can_same : (s t : Station) → Alike s t → can_send s ≡ can_send t
can_same s t h = ap (λ (k : KeptStation). is_up k.phase && not k.busy && nat_lt k.ahead k.window && (k.calling || k.begun)) h.0

up_to_alike : (n : ℕ) (s t : Station) → s.sent + n ≤ length s.handed → t.sent + n ≤ length t.handed → Alike s t → Alike (sends_up_to n s) (sends_up_to n t)
up_to_alike zero s t a b h = h
up_to_alike (suc n) s t a b h =
    alike_if (can_send s) (can_send t) (sends_up_to n (sends_next s)) s (sends_up_to n (sends_next t)) t (can_same s t h)
    (λ e. up_to_alike n (sends_next s) (sends_next t) (omega arith) (omega arith) (next_alike s t (omega arith) (omega arith) h)) (λ e. h)

waiting_is : (s : Station) → Sound s → waiting s ≡ length (drop s.acked s.handed) - (s.sent - s.acked)
waiting_is s h = let l = length-drop s.acked s.handed in omega (arith, h.0, h.1)

waiting_same : (s t : Station) → Alike s t → waiting s ≡ waiting t
waiting_same s t h = waiting_is s h.1 ∙ ap (λ (k : KeptStation). length k.ring - k.ahead) h.0 ∙ sym (waiting_is t h.2)

waiting_alike : (s t : Station) → Alike s t → Alike (sends_waiting s) (sends_waiting t)
waiting_alike s t h =
    let e = waiting_same s t h in
    subst (λ (n : ℕ). Alike (sends_up_to (waiting s) s) (sends_up_to n t)) e
    (up_to_alike (waiting s) s t (omega (arith, h.1.1)) (omega (arith, h.2.1)) h)

-- ---- frames that are sent again

again_texts : (n : ℕ) (s t : Station) → Alike s t → octets_of_sent_frames s.calling s.extended (frames_again n s) ≡ octets_of_sent_frames t.calling t.extended (frames_again n t)
again_texts zero s t h = refl
again_texts (suc n) s t h =
    flat_map-append (sent_octets s.calling s.extended) (frames_again n s) (info_at s (s.acked + n) ∷ [])
    ∙ ap₂ (λ (a b : List ℕ). a ++ b) (again_texts n s t h) (append-nil _ ∙ info_same n s t h ∙ sym (append-nil _))
    ∙ sym (flat_map-append (sent_octets t.calling t.extended) (frames_again n t) (info_at t (t.acked + n) ∷ []))

some_alike : (n : ℕ) (s t : Station) → Alike s t → Alike (sends_again_some n s) (sends_again_some n t)
some_alike n s t h = (
  ap (λ (k : KeptStation). record k { owed = if n == 0 then k.owed else false }) h.0,
  h.1,
  h.2,
  h.3,
  flat_map-append (sent_octets s.calling s.extended) s.said (frames_again n s)
      ∙ ap₂ (λ (a b : List ℕ). a ++ b) h.4 (again_texts n s t h)
      ∙ sym (flat_map-append (sent_octets t.calling t.extended) t.said (frames_again n t)),
)

again_alike : (s t : Station) → Alike s t → Alike (sends_again s) (sends_again t)
again_alike s t h =
    subst (λ (n : ℕ). Alike (sends_again_some (s.sent - s.acked) s) (sends_again_some n t)) (ap (λ (k : KeptStation). k.ahead) h.0) (some_alike (s.sent - s.acked) s t h)

timer_alike : (s t : Station) → Alike s t → Alike (starts_timer s) (starts_timer t)
timer_alike s t h = (ap (λ (k : KeptStation). record k { timer = Some (k.moment + k.t1) }) h.0, h.1, h.2, h.3, h.4)

settles_alike : (s t : Station) → Alike s t → Alike (settles s) (settles t)
settles_alike s t h =
    let r = ready_same s t h in
    alike_if s.owed t.owed (record (puts (Rr (length s.taken)) s) { owed = false }) s (record (puts (Rr (length t.taken)) t) { owed = false }) t (ap (λ (k : KeptStation). k.owed) h.0)
    (λ e. (ap (λ (k : KeptStation). record k { owed = false }) r.0, r.1, r.2, r.3, r.4)) (λ e. h)

-- ---- releases

releases_alike : (c : Cause) (s t : Station) → Alike s t → Alike (station_down_for_cause c s) (station_down_for_cause c t)
releases_alike c s t h = (ap (λ (k : KeptStation). record k { phase = Down; timer = None }) h.0, h.1, h.2, refl, h.4)

refuses_alike : (s t : Station) → Alike s t → Alike (refuses_frame s) (refuses_frame t)
refuses_alike s t h = releases_alike FrameError (puts Dm s) (puts Dm t) (puts_same Dm s t h)

strays_alike : (s t : Station) → Alike s t → Alike (strays s) (strays t)
strays_alike s t h = (ap (λ (k : KeptStation). record k { counts = (strays (record s { counts = k.counts })).counts }) h.0, h.1, h.2, h.3, h.4)

-- ---- N(R)

-- how far above a the number is
abbrev offset : Bool → ℕ → ℕ → ℕ → Option ℕ
offset e a zero r = if a % modulo e == r then Some 0 else None
offset e a (suc n) r = if a % modulo e == r then Some 0 else option_map (λ u. u + 1) (offset e (a + 1) n r)

from_one_more : (a : ℕ) (o : Option ℕ) → option_map (λ u. a + 1 + u) o ≡ option_map (λ u. a + u) (option_map (λ u. u + 1) o)
from_one_more a None = refl
from_one_more a (Some u) = ap Some (omega arith)

named_is : (e : Bool) (n a r : ℕ) → number_shown_as e a n r ≡ option_map (λ u. a + u) (offset e a n r)
named_is e zero a r = elim (cases_Bool (a % modulo e == r)) [
  | inl y ↦ rw y (ap Some (omega arith))
  | inr y ↦ rw y refl
]
named_is e (suc n) a r = elim (cases_Bool (a % modulo e == r)) [
  | inl y ↦ rw y (ap Some (omega arith))
  | inr y ↦ rw y (named_is e n (a + 1) r ∙ from_one_more a (offset e (a + 1) n r))
]

offset_same : (e : Bool) (n a b r : ℕ) → a % modulo e ≡ b % modulo e → offset e a n r ≡ offset e b n r
offset_same e zero a b r h = ap (λ (m : ℕ). if m == r then Some 0 else None) h
offset_same e (suc n) a b r h =
    let more : (a + 1) % modulo e ≡ (b + 1) % modulo e = sym (mod-add-mod a (modulo e) 1) ∙ ap (λ (m : ℕ). (m + 1) % modulo e) h ∙ mod-add-mod b (modulo e) 1 in
    ap₂ (λ (m : ℕ) (o : Option ℕ). if m == r then Some 0 else option_map (λ u. u + 1) o) h (offset_same e n (a + 1) (b + 1) r more)

abbrev IsWithin : ℕ → Option ℕ → Type 0
IsWithin n None = Unit {0}
IsWithin n (Some u) = u ≤ n

within_more : (n : ℕ) (o : Option ℕ) → IsWithin n o → IsWithin (suc n) (option_map (λ u. u + 1) o)
within_more n None h = tt
within_more n (Some u) h = omega arith

offset_within : (e : Bool) (n a r : ℕ) → IsWithin n (offset e a n r)
offset_within e zero a r = elim (cases_Bool (a % modulo e == r)) [ inl y ↦ rw y (omega arith) | inr y ↦ rw y tt ]
offset_within e (suc n) a r = elim (cases_Bool (a % modulo e == r)) [ inl y ↦ rw y (omega arith) | inr y ↦ rw y (within_more n (offset e (a + 1) n r) (offset_within e n (a + 1) r)) ]

-- what is kept behind an acknowledgement
abbrev acked_kept : ℕ → KeptStation → KeptStation
acked_kept u k = record k {
  va = (k.va + u) % modulo k.extended;
  ring = drop u k.ring;
  ahead = k.ahead - u;
  expiries = if nat_lt 0 u then 0 else k.expiries;
  timer = if nat_lt 0 u then (if nat_lt u k.ahead then Some (k.moment + k.t1) else None) else k.timer;
}

rise : (a u : ℕ) → nat_lt a (a + u) ≡ nat_lt 0 u
rise a u = elim (cases_lt 0 u) [ inl y ↦ lt-ltb a (a + u) (omega arith) ∙ sym (lt-ltb 0 u y) | inr y ↦ le-ltb a (a + u) (omega arith) ∙ sym (le-ltb 0 u y) ]

left : (a u s : ℕ) → a ≤ s → nat_lt (a + u) s ≡ nat_lt u (s - a)
left a u s h = elim (cases_lt (a + u) s) [ inl y ↦ lt-ltb (a + u) s y ∙ sym (lt-ltb u (s - a) (omega arith)) | inr y ↦ le-ltb (a + u) s y ∙ sym (le-ltb u (s - a) (omega arith)) ]

acked_is : (u : ℕ) (s : Station) → s.acked ≤ s.sent → kept_of (acknowledges (s.acked + u) s) ≡ acked_kept u (kept_of s)
acked_is u s order =
    let ahead : s.sent - (s.acked + u) ≡ s.sent - s.acked - u = omega arith in
    ap (λ (r : List (List ℕ)). record (kept_of (acknowledges (s.acked + u) s)) { ring = r }) (sym (drop-drop u s.acked s.handed))
    ∙ ap₂ (λ (a h : ℕ). record (kept_of (acknowledges (s.acked + u) s)) { ring = drop u (drop s.acked s.handed); va = a; ahead = h }) (sym (mod-add-mod s.acked (modulo s.extended) u)) ahead
    ∙ ap₂ (λ (b c : Bool). record (acked_kept u (kept_of s)) { expiries = if b then 0 else s.expiries; timer = if b then (if c then Some (s.moment + s.t1) else None) else s.timer })
    (rise s.acked u) (left s.acked u s.sent order)

acked_alike : (u : ℕ) (s t : Station) → u ≤ s.sent - s.acked → Alike s t → Alike (acknowledges (s.acked + u) s) (acknowledges (t.acked + u) t)
acked_alike u s t near h =
    let ahead : s.sent - s.acked ≡ t.sent - t.acked = ap (λ (k : KeptStation). k.ahead) h.0 in
    (acked_is u s h.1.0 ∙ ap (acked_kept u) h.0 ∙ sym (acked_is u t h.2.0), (omega (arith, h.1.0), h.1.1), (omega (arith, h.2.0), h.2.1), h.3, h.4)

number_alike : (r : ℕ) (rest : Station → Station) (s t : Station) → ((x y : Station) → Alike x y → Alike (rest x) (rest y)) → Alike s t
    → Alike (by_number r rest s) (by_number r rest t)
number_alike r rest s t keeps h =
    let n : ℕ = s.sent - s.acked in
    let o : Option ℕ = offset s.extended s.acked n r in
    let same_e : s.extended ≡ t.extended = ap (λ (k : KeptStation). k.extended) h.0 in
    let acked : s.acked % modulo s.extended ≡ t.acked % modulo s.extended = ap (λ (k : KeptStation). k.va) h.0 ∙ ap (λ (e : Bool). t.acked % modulo e) (sym same_e) in
    let in_t : number_shown_as t.extended t.acked (t.sent - t.acked) r ≡ option_map (λ u. t.acked + u) o =
    ap₂ (λ (e : Bool) (m : ℕ). number_shown_as e t.acked m r) (sym same_e) (sym (ap (λ (k : KeptStation). k.ahead) h.0))
    ∙ named_is s.extended n t.acked r ∙ ap (option_map (λ u. t.acked + u)) (offset_same s.extended n t.acked s.acked r (sym acked)) in
    subst (λ (p : Option ℕ). Alike (acknowledging p rest s) (by_number r rest t)) (sym (named_is s.extended n s.acked r))
    (subst (λ (p : Option ℕ). Alike (acknowledging (option_map (λ u. s.acked + u) o) rest s) (acknowledging p rest t)) (sym in_t)
    (by_offset o rest s t keeps (offset_within s.extended n s.acked r) h)) where
      by_offset : (o : Option ℕ) (rest : Station → Station) (s t : Station) → ((x y : Station) → Alike x y → Alike (rest x) (rest y)) → IsWithin (s.sent - s.acked) o → Alike s t
          → Alike (acknowledging (option_map (λ u. s.acked + u) o) rest s) (acknowledging (option_map (λ u. t.acked + u) o) rest t)
      by_offset None rest s t keeps near h = refuses_alike s t h
      by_offset (Some u) rest s t keeps near h = keeps (acknowledges (s.acked + u) s) (acknowledges (t.acked + u) t) (acked_alike u s t near h)

-- ---- N(S)

accepted_kept : (p : List ℕ) (s : Station) → kept_of (accepts p s) ≡ record (kept_of s) { vr = (length s.taken % modulo s.extended + 1) % modulo s.extended; begun = true; gap = false; owed = true }
accepted_kept p s =
    let len : length (s.taken ++ p ∷ []) ≡ length s.taken + 1 = length-append s.taken (p ∷ []) in
    ap₂ (λ (g : ℕ) (b : Bool). record (kept_of s) { vr = g; begun = b; gap = false; owed = true })
    (ap (λ (n : ℕ). n % modulo s.extended) len ∙ sym (mod-add-mod (length s.taken) (modulo s.extended) 1)) (lt-ltb 0 (length (s.taken ++ p ∷ [])) (omega arith))

accepts_alike : (p : List ℕ) (s t : Station) → Alike s t → Alike (accepts p s) (accepts p t)
accepts_alike p s t h = (
  accepted_kept p s ∙ ap (λ (k : KeptStation). record k { vr = (k.vr + 1) % modulo k.extended; begun = true; gap = false; owed = true }) h.0 ∙ sym (accepted_kept p t),
  h.1,
  h.2,
  refl,
  h.4,
)

gap_alike : (b : Bool) (s t : Station) → Alike s t → Alike (record s { gap = b }) (record t { gap = b })
gap_alike b s t h = (ap (λ (k : KeptStation). record k { gap = b }) h.0, h.1, h.2, h.3, h.4)

rejects_alike : (s t : Station) → Alike s t → Alike (rejects s) (rejects t)
rejects_alike s t h =
    alike_if s.gap t.gap (puts (Rr (length s.taken)) s) (puts (Rej (length s.taken)) (record s { gap = true }))
    (puts (Rr (length t.taken)) t) (puts (Rej (length t.taken)) (record t { gap = true })) (ap (λ (k : KeptStation). k.gap) h.0)
    (λ e. ready_same s t h) (λ e. reject_same (record s { gap = true }) (record t { gap = true }) (gap_alike true s t h))

takes_alike : (ns : ℕ) (p : List ℕ) (s t : Station) → Alike s t → Alike (takes ns p s) (takes ns p t)
takes_alike ns p s t h =
    alike_if (length s.taken % modulo s.extended == ns) (length t.taken % modulo t.extended == ns) (accepts p s) (rejects s) (accepts p t) (rejects t)
    (ap (λ (k : KeptStation). k.vr == ns) h.0) (λ e. accepts_alike p s t h) (λ e. rejects_alike s t h)

-- ---- rows

busy_alike : (b : Bool) (s t : Station) → Alike s t → Alike (marks_busy b s) (marks_busy b t)
busy_alike b s t h = (ap (λ (k : KeptStation). record k { busy = b }) h.0, h.1, h.2, h.3, h.4)

ahead_is : (s : Station) → nat_lt s.acked s.sent ≡ nat_lt 0 (s.sent - s.acked)
ahead_is s = elim (cases_lt s.acked s.sent) [ inl y ↦ lt-ltb s.acked s.sent y ∙ sym (lt-ltb 0 (s.sent - s.acked) (omega arith)) | inr y ↦ le-ltb s.acked s.sent y ∙ sym (le-ltb 0 (s.sent - s.acked) (omega arith)) ]

repeats_alike : (s t : Station) → Alike s t → Alike (repeats_rejected s) (repeats_rejected t)
repeats_alike s t h =
    alike_if (nat_lt s.acked s.sent) (nat_lt t.acked t.sent) (starts_timer (sends_again s)) s (starts_timer (sends_again t)) t
    (ahead_is s ∙ ap (λ (k : KeptStation). nat_lt 0 k.ahead) h.0 ∙ sym (ahead_is t))
    (λ e. timer_alike (sends_again s) (sends_again t) (again_alike s t h)) (λ e. h)

up_alike : (s t : Station) → Alike s t → Alike (comes_up s) (comes_up t)
up_alike s t h = (ap (λ (k : KeptStation). record k { phase = Up }) h.0, h.1, h.2, refl, h.4)

stopped_alike : (s t : Station) → Alike s t → Alike (comes_up (record s { timer = None; expiries = 0 })) (comes_up (record t { timer = None; expiries = 0 }))
stopped_alike s t h = (ap (λ (k : KeptStation). record k { phase = Up; timer = None; expiries = 0 }) h.0, h.1, h.2, refl, h.4)

none_is : (s : Station) → (length s.taken == 0) ≡ not (nat_lt 0 (length s.taken))
none_is s = elim (cases_lt 0 (length s.taken)) [
  | inl y ↦ let e : (length s.taken == 0) ≡ false = elim (cases_Bool (length s.taken == 0)) [ inl a ↦ absurd (let z : length s.taken ≡ 0 = eqb-true (length s.taken) 0 a in let u : ⊥ = omega arith in u) | inr a ↦ a ] in
      e ∙ sym (ap not (lt-ltb 0 (length s.taken) y))
  | inr y ↦ eq-eqb (length s.taken) 0 (omega arith) ∙ sym (ap not (le-ltb 0 (length s.taken) y))
]

set_up_alike : (poll : Bool) (s t : Station) → Alike s t → Alike (sets_up_again poll s) (sets_up_again poll t)
set_up_alike poll s t h =
    alike_if (length s.taken == 0) (length t.taken == 0) (agrees poll (record s { gap = false })) (refuses_frame s) (agrees poll (record t { gap = false })) (refuses_frame t)
    (none_is s ∙ ap (λ (k : KeptStation). not k.begun) h.0 ∙ sym (none_is t))
    (λ e. puts_same (Ua poll) (record s { gap = false }) (record t { gap = false }) (gap_alike false s t h)) (λ e. refuses_alike s t h)

leaves_alike : (poll : Bool) (s t : Station) → Alike s t → Alike (station_down_for_cause PeerDisconnected (agrees poll s)) (station_down_for_cause PeerDisconnected (agrees poll t))
leaves_alike poll s t h = releases_alike PeerDisconnected (agrees poll s) (agrees poll t) (puts_same (Ua poll) s t h)

row_alike : (p : Phase) (c : Control) (i : List ℕ) (s t : Station) → Alike s t → Alike (row_of_phase p s c i) (row_of_phase p t c i)
row_alike Idle (control.Info ns nr) i s t h = strays_alike s t h
row_alike Idle (control.Rr nr) i s t h = strays_alike s t h
row_alike Idle (control.Rnr nr) i s t h = strays_alike s t h
row_alike Idle (control.Rej nr) i s t h = strays_alike s t h
row_alike Idle (control.Srej nr) i s t h = strays_alike s t h
row_alike Idle (control.Sabm poll) i s t h = puts_same (Ua poll) (comes_up s) (comes_up t) (up_alike s t h)
row_alike Idle (control.Sabme poll) i s t h = puts_same (Ua poll) (comes_up s) (comes_up t) (up_alike s t h)
row_alike Idle (control.Disc poll) i s t h = strays_alike s t h
row_alike Idle control.Ua i s t h = strays_alike s t h
row_alike Idle control.Dm i s t h = strays_alike s t h
row_alike Idle control.Frmr i s t h = strays_alike s t h
row_alike Setting (control.Info ns nr) i s t h = strays_alike s t h
row_alike Setting (control.Rr nr) i s t h = strays_alike s t h
row_alike Setting (control.Rnr nr) i s t h = strays_alike s t h
row_alike Setting (control.Rej nr) i s t h = strays_alike s t h
row_alike Setting (control.Srej nr) i s t h = refuses_alike s t h
row_alike Setting (control.Sabm poll) i s t h = refuses_alike s t h
row_alike Setting (control.Sabme poll) i s t h = refuses_alike s t h
row_alike Setting (control.Disc poll) i s t h = leaves_alike poll s t h
row_alike Setting control.Ua i s t h = stopped_alike s t h
row_alike Setting control.Dm i s t h = releases_alike PeerDisconnected s t h
row_alike Setting control.Frmr i s t h = releases_alike PeerDisconnected s t h
row_alike Up (control.Info ns nr) i s t h = number_alike nr (takes ns i) s t (takes_alike ns i) h
row_alike Up (control.Rr nr) i s t h = number_alike nr (marks_busy false) s t (busy_alike false) h
row_alike Up (control.Rnr nr) i s t h = number_alike nr (marks_busy true) s t (busy_alike true) h
row_alike Up (control.Rej nr) i s t h =
    number_alike nr (λ x. repeats_rejected (marks_busy false x)) s t (λ x y a. repeats_alike (marks_busy false x) (marks_busy false y) (busy_alike false x y a)) h
row_alike Up (control.Srej nr) i s t h = refuses_alike s t h
row_alike Up (control.Sabm poll) i s t h = set_up_alike poll s t h
row_alike Up (control.Sabme poll) i s t h = set_up_alike poll s t h
row_alike Up (control.Disc poll) i s t h = leaves_alike poll s t h
row_alike Up control.Ua i s t h = strays_alike s t h
row_alike Up control.Dm i s t h = releases_alike PeerDisconnected s t h
row_alike Up control.Frmr i s t h = releases_alike PeerDisconnected s t h
row_alike Down c i s t h = h

errs_alike : (p : Phase) (s t : Station) → Alike s t → Alike (errs p s) (errs p t)
errs_alike Idle s t h =
    alike_if s.calling t.calling (refuses_frame s) (strays s) (refuses_frame t) (strays t) (ap (λ (k : KeptStation). k.calling) h.0) (λ e. refuses_alike s t h) (λ e. strays_alike s t h)
errs_alike Setting s t h = refuses_alike s t h
errs_alike Up s t h = refuses_alike s t h
errs_alike Down s t h = h

control_alike : (a : ℕ) (o : Option (Control × List ℕ)) (s t : Station) → Alike s t → Alike (hears_control a o s) (hears_control a o t)
control_alike a None s t h = alike_by errs s t h (λ p. errs_alike p s t h)
control_alike a (Some r) s t h =
    alike_if (is_addressed s.calling a r.0) (is_addressed t.calling a r.0) (if is_error s.calling r.0 r.1 then errs s.phase s else row_of_phase s.phase s r.0 r.1) (strays s)
    (if is_error t.calling r.0 r.1 then errs t.phase t else row_of_phase t.phase t r.0 r.1) (strays t) (ap (λ (k : KeptStation). is_addressed k.calling a r.0) h.0)
    (λ e. alike_if (is_error s.calling r.0 r.1) (is_error t.calling r.0 r.1) (errs s.phase s) (row_of_phase s.phase s r.0 r.1) (errs t.phase t) (row_of_phase t.phase t r.0 r.1)
    (ap (λ (k : KeptStation). is_error k.calling r.0 r.1) h.0) (λ e. alike_by errs s t h (λ p. errs_alike p s t h))
    (λ e. alike_by (λ p x. row_of_phase p x r.0 r.1) s t h (λ p. row_alike p r.0 r.1 s t h)))
    (λ e. strays_alike s t h)

hears_alike : (v : Verdict) (s t : Station) → Alike s t → Alike (hears v s) (hears v t)
hears_alike (Frame_found a body) s t h =
    alike_if (is_known_address a) (is_known_address a) (hears_control a (control_of (modulo s.extended) body) s) (strays s) (hears_control a (control_of (modulo t.extended) body) t) (strays t) refl
    (λ e. subst (λ (o : Option (Control × List ℕ)). Alike (hears_control a (control_of (modulo s.extended) body) s) (hears_control a o t)) (ap (λ (k : KeptStation). control_of (modulo k.extended) body) h.0)
    (control_alike a (control_of (modulo s.extended) body) s t h))
    (λ e. strays_alike s t h)
hears_alike BadFcs s t h = (ap (λ (k : KeptStation). record k { counts = (hears BadFcs (record s { counts = k.counts })).counts }) h.0, h.1, h.2, h.3, h.4)
hears_alike TooShort s t h = (ap (λ (k : KeptStation). record k { counts = (hears TooShort (record s { counts = k.counts })).counts }) h.0, h.1, h.2, h.3, h.4)
hears_alike TooLong s t h = (ap (λ (k : KeptStation). record k { counts = (hears TooLong (record s { counts = k.counts })).counts }) h.0, h.1, h.2, h.3, h.4)
hears_alike Aborted s t h = (ap (λ (k : KeptStation). record k { counts = (hears Aborted (record s { counts = k.counts })).counts }) h.0, h.1, h.2, h.3, h.4)

-- ---- calls

sees_alike : (now : ℕ) (s t : Station) → Alike s t → Alike (sees now s) (sees now t)
sees_alike now s t h = (ap (λ (k : KeptStation). record k { moment = max k.moment now }) h.0, h.1, h.2, h.3, h.4)

-- a call that does nothing after a release
live_alike : (s t x y : Station) → Alike s t → Alike x y → Alike (if is_down s.phase then s else x) (if is_down t.phase then t else y)
live_alike s t x y h g = alike_if (is_down s.phase) (is_down t.phase) s x t y (ap (λ (k : KeptStation). is_down k.phase) h.0) (λ e. h) (λ e. g)

receives_alike : (now : ℕ) (v : Verdict) (s t : Station) → Alike s t → Alike (receives now v s) (receives now v t)
receives_alike now v s t h =
    live_alike s t (sends_waiting (hears v (sees now s))) (sends_waiting (hears v (sees now t))) h
    (waiting_alike (hears v (sees now s)) (hears v (sees now t)) (hears_alike v (sees now s) (sees now t) (sees_alike now s t h)))

kept_push : (p : List ℕ) (s : Station) → Sound s → drop s.acked (s.handed ++ p ∷ []) ≡ drop s.acked s.handed ++ p ∷ []
kept_push p s h = drop-append-le s.acked s.handed (p ∷ []) (omega (arith, h.0, h.1))

handed_alike : (p : List ℕ) (s t : Station) → Alike s t → Alike (record s { handed = s.handed ++ p ∷ [] }) (record t { handed = t.handed ++ p ∷ [] })
handed_alike p s t h =
    let ls = length-append s.handed (p ∷ []) in
    let lt = length-append t.handed (p ∷ []) in (
      ap (λ (r : List (List ℕ)). record (kept_of s) { ring = r }) (kept_push p s h.1) ∙ ap (λ (k : KeptStation). record k { ring = k.ring ++ p ∷ [] }) h.0
          ∙ sym (ap (λ (r : List (List ℕ)). record (kept_of t) { ring = r }) (kept_push p t h.2)),
      (h.1.0, omega (arith, h.1.1)),
      (h.2.0, omega (arith, h.2.1)),
      h.3,
      h.4,
    )

hands_alike : (now : ℕ) (p : List ℕ) (s t : Station) → Alike s t → Alike (hands now p s) (hands now p t)
hands_alike now p s t h =
    live_alike s t (sends_waiting (record (sees now s) { handed = s.handed ++ p ∷ [] })) (sends_waiting (record (sees now t) { handed = t.handed ++ p ∷ [] })) h
    (waiting_alike (record (sees now s) { handed = s.handed ++ p ∷ [] }) (record (sees now t) { handed = t.handed ++ p ∷ [] })
    (handed_alike p (sees now s) (sees now t) (sees_alike now s t h)))

expires_alike : (p : Phase) (s t : Station) → Alike s t → Alike (expires_at p s) (expires_at p t)
expires_alike Idle s t h = h
expires_alike Setting s t h =
    alike_if (nat_lt s.n2 (s.expiries + 1)) (nat_lt t.n2 (t.expiries + 1)) (gives_up SetUpUnanswered s) (starts_timer (puts SetUp (counts_expiry s)))
    (gives_up SetUpUnanswered t) (starts_timer (puts SetUp (counts_expiry t))) (ap (λ (k : KeptStation). nat_lt k.n2 (k.expiries + 1)) h.0)
    (λ e. releases_alike SetUpUnanswered (puts Disc s) (puts Disc t) (puts_same Disc s t h))
    (λ e. timer_alike (puts SetUp (counts_expiry s)) (puts SetUp (counts_expiry t)) (puts_same SetUp (counts_expiry s) (counts_expiry t)
    (ap (λ (k : KeptStation). record k { expiries = k.expiries + 1 }) h.0, h.1, h.2, h.3, h.4)))
expires_alike Up s t h =
    alike_if (nat_lt s.n2 (s.expiries + 1)) (nat_lt t.n2 (t.expiries + 1)) (gives_up NoProgress s) (starts_timer (sends_again (counts_expiry s)))
    (gives_up NoProgress t) (starts_timer (sends_again (counts_expiry t))) (ap (λ (k : KeptStation). nat_lt k.n2 (k.expiries + 1)) h.0)
    (λ e. releases_alike NoProgress (puts Disc s) (puts Disc t) (puts_same Disc s t h))
    (λ e. timer_alike (sends_again (counts_expiry s)) (sends_again (counts_expiry t)) (again_alike (counts_expiry s) (counts_expiry t)
    (ap (λ (k : KeptStation). record k { expiries = k.expiries + 1 }) h.0, h.1, h.2, h.3, h.4)))
expires_alike Down s t h = h

due_alike : (s t : Station) → Alike s t → Alike (expires_if_due s) (expires_if_due t)
due_alike s t h =
    alike_if (is_due s.timer s.moment) (is_due t.timer t.moment) (expires s) s (expires t) t (ap (λ (k : KeptStation). is_due k.timer k.moment) h.0)
    (λ e. alike_by expires_at s t h (λ p. expires_alike p s t h)) (λ e. h)

ticks_alike : (now : ℕ) (s t : Station) → Alike s t → Alike (ticks now s) (ticks now t)
ticks_alike now s t h =
    live_alike s t (sends_waiting (expires_if_due (sees now s))) (sends_waiting (expires_if_due (sees now t))) h
    (waiting_alike (expires_if_due (sees now s)) (expires_if_due (sees now t)) (due_alike (sees now s) (sees now t) (sees_alike now s t h)))

starts_at_alike : (p : Phase) (s t : Station) → Alike s t → Alike (starts_at p s) (starts_at p t)
starts_at_alike Idle s t h =
    alike_if s.calling t.calling (starts_timer (puts SetUp (record s { phase = Setting }))) s (starts_timer (puts SetUp (record t { phase = Setting }))) t (ap (λ (k : KeptStation). k.calling) h.0)
    (λ e. timer_alike (puts SetUp (record s { phase = Setting })) (puts SetUp (record t { phase = Setting })) (puts_same SetUp (record s { phase = Setting }) (record t { phase = Setting })
    (ap (λ (k : KeptStation). record k { phase = Setting }) h.0, h.1, h.2, h.3, h.4))) (λ e. h)
starts_at_alike Setting s t h = h
starts_at_alike Up s t h = h
starts_at_alike Down s t h = h

starts_alike : (now : ℕ) (s t : Station) → Alike s t → Alike (starts now s) (starts now t)
starts_alike now s t h =
    let g = sees_alike now s t h in
    live_alike s t (starts_at s.phase (sees now s)) (starts_at t.phase (sees now t)) h (alike_by starts_at (sees now s) (sees now t) g (λ p. starts_at_alike p (sees now s) (sees now t) g))

closes_at_alike : (p : Phase) (s t : Station) → Alike s t → Alike (closes_at p s) (closes_at p t)
closes_at_alike Idle s t h = h
closes_at_alike Setting s t h = puts_same Disc s t h
closes_at_alike Up s t h = puts_same Disc s t h
closes_at_alike Down s t h = h

closes_alike : (s t : Station) → Alike s t → Alike (closes s) (closes t)
closes_alike s t h =
    let g = alike_by closes_at s t h (λ p. closes_at_alike p s t h) in
    live_alike s t (record (closes_at s.phase s) { phase = Down; timer = None }) (record (closes_at t.phase t) { phase = Down; timer = None }) h
    (ap (λ (k : KeptStation). record k { phase = Down; timer = None }) g.0, g.1, g.2, g.3, g.4)

pub steps_alike : KeepsStationsAlike
steps_alike = record {
  starts = starts_alike;
  receives = receives_alike;
  hands = hands_alike;
  finishes = λ s t h. live_alike s t (settles s) (settles t) h (settles_alike s t h);
  ticks = ticks_alike;
  closes = closes_alike;
}

abbrev no_payload : List ℕ
no_payload = []

above_none : (g : ℕ) → (g == 0) ≡ false → 0 < g
above_none g h = elim (cases_lt 0 g) [ inl y ↦ y | inr z ↦ absurd (true≢false (sym (eq-eqb g 0 (omega arith)) ∙ h)) ]

some_modulo : (e : Bool) → 0 < modulo e
some_modulo true = omega arith
some_modulo false = omega arith

-- ---- the station that is made of what is kept

made_taken : (e b : Bool) (g : ℕ) → g < modulo e → (b ≡ false → g ≡ 0)
    → (length (replicate (if b then (if g == 0 then modulo e else g) else 0) no_payload) % modulo e ≡ g)
    × (nat_lt 0 (length (replicate (if b then (if g == 0 then modulo e else g) else 0) no_payload)) ≡ b)
made_taken e false g small none =
    let z : g ≡ 0 = none refl in (mod-eq_of_lt (some_modulo e) ∙ sym z, refl)
made_taken true true g small none = elim (cases_Bool (g == 0)) [
  | inl y ↦ let z : g ≡ 0 = eqb-true g 0 y in rw y (sym z, refl)
  | inr n ↦ rw n (ap (λ (m : ℕ). m % 128) (length-replicate g no_payload) ∙ mod-eq_of_lt small, ap (λ (m : ℕ). nat_lt 0 m) (length-replicate g no_payload) ∙ lt-ltb 0 g (above_none g n))
]
made_taken false true g small none = elim (cases_Bool (g == 0)) [
  | inl y ↦ let z : g ≡ 0 = eqb-true g 0 y in rw y (sym z, refl)
  | inr n ↦ rw n (ap (λ (m : ℕ). m % 8) (length-replicate g no_payload) ∙ mod-eq_of_lt small, ap (λ (m : ℕ). nat_lt 0 m) (length-replicate g no_payload) ∙ lt-ltb 0 g (above_none g n))
]

pub whole : (k : KeptStation) → Ranged k → k ≡ kept_of (model_of k)
whole k r =
    let m = made_taken k.extended k.begun k.vr r.small_vr r.none_vr in
    let len = length-replicate k.va no_payload in
    let ring : drop k.va (replicate k.va no_payload ++ k.ring) ≡ k.ring =
    ap (λ (n : ℕ). drop n (replicate k.va no_payload ++ k.ring)) (sym len) ∙ drop-append_seam (replicate k.va no_payload) k.ring in
    let ahead : k.va + k.ahead - k.va ≡ k.ahead = omega arith in
    ap₂ (λ (r : List (List ℕ)) (a : ℕ). record k { ring = r; va = a }) (sym ring) (sym (mod-eq_of_lt r.small_va))
    ∙ ap₂ (λ (h g : ℕ). record (kept_of (model_of k)) { ahead = h; vr = g; begun = k.begun }) (sym ahead) (sym m.0)
    ∙ ap (λ (b : Bool). record (kept_of (model_of k)) { begun = b }) (sym m.1)

sound_made : (k : KeptStation) → k.ahead ≤ length k.ring → Sound (model_of k)
sound_made k h =
    let len = length-replicate k.va no_payload in
    let all = length-append (replicate k.va no_payload) k.ring in
    (omega arith, omega arith)

ranged_of : (s : Station) → Sound s → Ranged (kept_of s)
ranged_of s h =
    let l = length-drop s.acked s.handed in
    record {
      small_va = mod-lt s.acked (some_modulo s.extended);
      small_vr = mod-lt (length s.taken) (some_modulo s.extended);
      none_vr = λ e. let z : length s.taken ≤ 0 = ltb-false 0 (length s.taken) e in let y : length s.taken ≡ 0 = omega arith in ap (λ (n : ℕ). n % modulo s.extended) y ∙ mod-eq_of_lt (some_modulo s.extended);
      all_sent = omega (arith, h.0, h.1);
    }

pub kept_is_modelled : KeptIsModelled
kept_is_modelled s h said deed =
    let r = ranged_of s h in
    (sym (whole (kept_of s) r), sound_made (kept_of s) r.all_sent, h, sym deed, sym (ap (octets_of_sent_frames s.calling s.extended) said))

-- what holds of each station that is kept so holds of that one
pub shown_made : (k : KeptStation) (P : Station → Type 0) → Ranged k → Shown k P → P (model_of k)
shown_made k P r shown = let o = sound_made k r.all_sent in shown (model_of k) (whole k r) o.0 o.1

-- ---- a call of the code, as what it does to that station

pub does_told : (k : KeptStation) (out : Stored) (new : KeptStation) (out' : Stored) (told : Deed) (step : Station → Station) → Ranged k → Tells k out new out' told step
    → DoesStationCall new out out' told (step (model_of k))
does_told k out new out' told step r tells =
    let o = sound_made k r.all_sent in
    let h = tells (model_of k) out.items (record { is = whole k r; order = o.0; given = o.1; deed = refl; text = sym (append-nil out.items) }) in
    record { kept = h.is; text = h.text; tells = sym h.deed }

pub does_followed : (k : KeptStation) (out : Stored) (new : KeptStation) (out' : Stored) (step : Station → Station) → Ranged k → Follows k out new out' step
    → DoesStationCall new out out' no_deed (step (model_of k))
does_followed k out new out' step r follows = does_told k out new out' no_deed step r (λ s before h. follows s before no_deed h)
