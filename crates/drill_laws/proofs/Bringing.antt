-- What a call of a station leaves of its settings; and that the payloads which it tells and holds are the information of I frames that
-- came.
use Rattle.std.proofs.Common.{◌≡◌, ◌⊎◌, inl, inr, ℕ, zero, suc, ◌+◌, ◌-◌, ◌%◌, ◌==◌, nat_lt, nat_le, if◌then◌else◌, true, false, Bool, List, [], ◌∷◌, ◌++◌, length, refl, ap, subst}
use Rattle.std.specs.Prelude.{Option, Some, None}
use Rattle.std.specs.List.{filter, AllByRecursion}
use Rattle.std.proofs.lemmas.Bool.{eqb-true}
use Rattle.er_base.specs.declared.cause.Cause.TheVariants.{SetUpUnanswered, NoProgress}
use Rattle.hdlc_frames.specs.declared.controls.Control.{Control}
use Rattle.hdlc_frames.specs.declared.controls.Control.TheVariants as control
use Rattle.hdlc_frames.specs.ControlOctets.{control_of}
use Rattle.hdlc_frames.specs.Framing.{Verdict, Frame, BadFcs, TooShort, TooLong, Aborted}
use Rattle.hdlc_station_model.specs.declared.phase.Phase.{Phase}
use Rattle.hdlc_station_model.specs.declared.phase.Phase.TheVariants.{Idle, Setting, Up, Down}
use Rattle.hdlc_station_model.specs.Frames.{Rr, Rej, SetUp, modulo, address_of}
use Rattle.hdlc_station_model.specs.Stations.{Station, is_down, sees, puts}
use Rattle.hdlc_station_model.specs.Sending.{refuses_frame, can_send, waiting, sends_next, sends_up_to, sends_waiting, sends_again, starts_timer, settles, is_due, gives_up, counts_expiry, expires_at, expires, expires_if_due}
use Rattle.hdlc_station_model.specs.Calls.{starts_at, starts, receives, hands, finishes, ticks, closes_at, closes}
use Rattle.hdlc_station_model.specs.Receiving.{strays, is_known_address, is_addressed, is_error, errs, number_shown_as, acknowledges, acknowledging, by_number, accepts, rejects, takes, marks_busy, repeats_rejected, agrees, sets_up_again, row_idle, row_setting, row_up, row_of_phase, hears_control, hears}
use Rattle.hdlc_station_model.specs.Selective.{is_selective_error, held_for, is_found, without_gap, takes_run, holds, says_next, files_at, files, repeats_at, repeats_one, sets_up_selective_again, selective_row_setting, selective_row_up, selective_row, selective_hears_control, selective_hears, selective_receives}
use Rattle.drill_model.specs.Hearing.{IsInformationOf}
use Rattle.drill_laws.proofs.Tellings.{all_taken}

-- ---- lists of what is held

abbrev pub HeldIs : (List ℕ → Type 0) → List (ℕ × List ℕ) → Type 0
HeldIs P held = AllByRecursion (λ h. P h.1) held

held_if : (P : List ℕ → Type 0) (b : Bool) (h : ℕ × List ℕ) (rest : List (ℕ × List ℕ)) → P h.1 → HeldIs P rest → HeldIs P (if b then h ∷ rest else rest)
held_if P true h rest one all = (one, all)
held_if P false h rest one all = all

held_filter : (P : List ℕ → Type 0) (f : ℕ × List ℕ → Bool) (held : List (ℕ × List ℕ)) → HeldIs P held → HeldIs P (filter f held)
held_filter P f [] all = tt
held_filter P f (h ∷ held) all = held_if P (f h) h (filter f held) all.0 (held_filter P f held all.1)

held_push : (P : List ℕ → Type 0) (held : List (ℕ × List ℕ)) (n : ℕ) (payload : List ℕ) → HeldIs P held → P payload → HeldIs P (held ++ (n, payload) ∷ [])
held_push P [] n payload all new = (new, tt)
held_push P (h ∷ held) n payload all new = (all.0, held_push P held n payload all.1 new)

found_if : (P : List ℕ → Type 0) (b : Bool) (mine : List ℕ) (rest : Option (List ℕ)) (payload : List ℕ) → P mine → (rest ≡ Some payload → P payload)
    → (if b then Some mine else rest) ≡ Some payload → P payload
found_if P true mine rest payload one others is = let same : mine ≡ payload = cc in subst P same one
found_if P false mine rest payload one others is = others is

found_is : (P : List ℕ → Type 0) (n : ℕ) (held : List (ℕ × List ℕ)) (payload : List ℕ) → HeldIs P held → held_for n held ≡ Some payload → P payload
found_is P n [] payload all is = absurd cc
found_is P n (h ∷ held) payload all is = found_if P (h.0 == n) h.1 (held_for n held) payload all.0 (found_is P n held payload all.1) is

none_or_some : (o : Option (List ℕ)) → (o ≡ None) ⊎ ((payload : List ℕ) × (o ≡ Some payload))
none_or_some None = inl refl
none_or_some (Some payload) = inr (payload, refl)

run_is : (P : List ℕ → Type 0) (most n : ℕ) (held : List (ℕ × List ℕ)) → HeldIs P held → AllByRecursion P (without_gap most n held)
run_is P zero n held all = tt
run_is P (suc most) n held all =
    elim (none_or_some (held_for n held)) [
      | inl none ↦ rw none tt
      | inr some ↦ let found : held_for n held ≡ Some some.0 = some.1 in rw found (found_is P n held some.0 all some.1, run_is P most (n + 1) held all)
    ]

-- ---- a station

module _ (C X : Bool) (W N T : ℕ) (Told Held : List ℕ → Type 0) where
  -- it keeps these settings, holds such payloads, and tells such
  abbrev pub Kept : Station → Type 0
  Kept s =
      (s.calling ≡ C) × (s.extended ≡ X) × (s.window ≡ W) × (s.n2 ≡ N) × (s.t1 ≡ T) × HeldIs Held s.held × AllByRecursion Told (all_taken s.deed)

  if_kept : (b : Bool) (s t : Station) → Kept s → Kept t → Kept (if b then s else t)
  if_kept true s t hs ht = hs
  if_kept false s t hs ht = ht

  -- nothing is told of a payload
  quiet : (s : Station) → Kept s → (s.calling ≡ C) × (s.extended ≡ X) × (s.window ≡ W) × (s.n2 ≡ N) × (s.t1 ≡ T) × HeldIs Held s.held × Unit {0}
  quiet s h = (h.0, h.1, h.2, h.3, h.4, h.5, tt)

  up_to_kept : (n : ℕ) (s : Station) → Kept s → Kept (sends_up_to n s)
  up_to_kept zero s h = h
  up_to_kept (suc n) s h = if_kept (can_send s) (sends_up_to n (sends_next s)) s (up_to_kept n (sends_next s) h) h

  waiting_kept : (s : Station) → Kept s → Kept (sends_waiting s)
  waiting_kept s h = up_to_kept (waiting s) s h

  errs_kept : (p : Phase) (s : Station) → Kept s → Kept (errs p s)
  errs_kept Idle s h = if_kept s.calling (refuses_frame s) (strays s) (quiet s h) h
  errs_kept Setting s h = quiet s h
  errs_kept Up s h = quiet s h
  errs_kept Down s h = h

  ack_kept : (o : Option ℕ) (rest : Station → Station) (s : Station) → ((t : Station) → Kept t → Kept (rest t)) → Kept s → Kept (acknowledging o rest s)
  ack_kept None rest s each h = quiet s h
  ack_kept (Some n) rest s each h = each (acknowledges n s) h

  number_kept : (nr : ℕ) (rest : Station → Station) (s : Station) → ((t : Station) → Kept t → Kept (rest t)) → Kept s → Kept (by_number nr rest s)
  number_kept nr rest s each h = ack_kept (number_shown_as s.extended s.acked (s.sent - s.acked) nr) rest s each h

  repeats_kept : (s : Station) → Kept s → Kept (repeats_rejected s)
  repeats_kept s h = if_kept (nat_lt s.acked s.sent) (starts_timer (sends_again s)) s h h

  idle_kept : (s : Station) (c : Control) (information : List ℕ) → Kept s → Kept (row_idle s c information)
  idle_kept s (control.Sabm poll) information h = quiet s h
  idle_kept s (control.Sabme poll) information h = quiet s h
  idle_kept s _ information h = h

  -- ---- with go-back

  takes_kept : (ns : ℕ) (payload : List ℕ) (s : Station) → Told payload → Kept s → Kept (takes ns payload s)
  takes_kept ns payload s told h =
      if_kept (length s.taken % modulo s.extended == ns) (accepts payload s) (rejects s) (h.0, h.1, h.2, h.3, h.4, h.5, (told, tt))
      (if_kept s.gap (puts (Rr (length s.taken)) s) (puts (Rej (length s.taken)) (record s { gap = true })) h h)

  again_kept : (poll : Bool) (s : Station) → Kept s → Kept (sets_up_again poll s)
  again_kept poll s h = if_kept (length s.taken == 0) (agrees poll (record s { gap = false })) (refuses_frame s) h (quiet s h)

  setting_kept : (s : Station) (c : Control) (information : List ℕ) → Kept s → Kept (row_setting s c information)
  setting_kept s (control.Info ns nr) information h = h
  setting_kept s (control.Rr nr) information h = h
  setting_kept s (control.Rnr nr) information h = h
  setting_kept s (control.Rej nr) information h = h
  setting_kept s (control.Srej nr) information h = quiet s h
  setting_kept s (control.Sabm poll) information h = quiet s h
  setting_kept s (control.Sabme poll) information h = quiet s h
  setting_kept s (control.Disc poll) information h = quiet s h
  setting_kept s control.Ua information h = quiet s h
  setting_kept s control.Dm information h = quiet s h
  setting_kept s control.Frmr information h = quiet s h

  -- the information of an I frame may be told
  abbrev Brings : (List ℕ → Type 0) → Control → List ℕ → Type 0
  Brings P (control.Info ns nr) information = P information
  Brings P _ information = Unit {0}

  up_kept : (s : Station) (c : Control) (information : List ℕ) → Brings Told c information → Kept s → Kept (row_up s c information)
  up_kept s (control.Info ns nr) information told h = number_kept nr (takes ns information) s (λ t. takes_kept ns information t told) h
  up_kept s (control.Rr nr) information told h = number_kept nr (marks_busy false) s (λ t g. g) h
  up_kept s (control.Rnr nr) information told h = number_kept nr (marks_busy true) s (λ t g. g) h
  up_kept s (control.Rej nr) information told h = number_kept nr (λ t. repeats_rejected (marks_busy false t)) s (λ t g. repeats_kept (marks_busy false t) g) h
  up_kept s (control.Srej nr) information told h = quiet s h
  up_kept s (control.Sabm poll) information told h = again_kept poll s h
  up_kept s (control.Sabme poll) information told h = again_kept poll s h
  up_kept s (control.Disc poll) information told h = quiet s h
  up_kept s control.Ua information told h = h
  up_kept s control.Dm information told h = quiet s h
  up_kept s control.Frmr information told h = quiet s h

  row_kept : (p : Phase) (s : Station) (c : Control) (information : List ℕ) → Brings Told c information → Kept s → Kept (row_of_phase p s c information)
  row_kept Idle s c information told h = idle_kept s c information h
  row_kept Setting s c information told h = setting_kept s c information h
  row_kept Up s c information told h = up_kept s c information told h
  row_kept Down s c information told h = h

  -- ---- calls that bring no frame

  pub starts_kept : (now : ℕ) (s : Station) → Kept s → Kept (starts now s)
  starts_kept now s h = if_kept (is_down s.phase) s (starts_at s.phase (sees now s)) h (at s.phase (sees now s) h)
    where
      at : (p : Phase) (t : Station) → Kept t → Kept (starts_at p t)
      at Idle t g = if_kept t.calling (starts_timer (puts SetUp (record t { phase = Setting }))) t g g
      at _ t g = g

  pub hands_kept : (now : ℕ) (payload : List ℕ) (s : Station) → Kept s → Kept (hands now payload s)
  hands_kept now payload s h =
      let t : Station = record (sees now s) { handed = s.handed ++ payload ∷ [] } in
      if_kept (is_down s.phase) s (sends_waiting t) h (waiting_kept t h)

  pub finishes_kept : (s : Station) → Kept s → Kept (finishes s)
  finishes_kept s h = if_kept (is_down s.phase) s (settles s) h (if_kept s.owed (record (puts (Rr (length s.taken)) s) { owed = false }) s h h)

  expires_kept : (p : Phase) (s : Station) → Kept s → Kept (expires_at p s)
  expires_kept Idle s h = h
  expires_kept Setting s h =
      if_kept (nat_lt s.n2 (s.expiries + 1)) (gives_up SetUpUnanswered s) (starts_timer (puts SetUp (counts_expiry s))) (quiet s h) h
  expires_kept Up s h =
      if_kept (nat_lt s.n2 (s.expiries + 1)) (gives_up NoProgress s) (starts_timer (sends_again (counts_expiry s))) (quiet s h) h
  expires_kept Down s h = h

  pub ticks_kept : (now : ℕ) (s : Station) → Kept s → Kept (ticks now s)
  ticks_kept now s h =
      let t : Station = sees now s in
      if_kept (is_down s.phase) s (sends_waiting (expires_if_due t)) h
      (waiting_kept (expires_if_due t) (if_kept (is_due t.timer t.moment) (expires t) t (expires_kept t.phase t h) h))

  pub closes_kept : (s : Station) → Kept s → Kept (closes s)
  closes_kept s h = if_kept (is_down s.phase) s (record (closes_at s.phase s) { phase = Down; timer = None }) h (at s.phase s h)
    where
      at : (p : Phase) (t : Station) → Kept t → Kept (record (closes_at p t) { phase = Down; timer = None })
      at Idle t g = g
      at Setting t g = g
      at Up t g = g
      at Down t g = g

  -- ---- a frame that comes, with go-back

  if_so : (b : Bool) (s t : Station) → (b ≡ true → Kept s) → Kept t → Kept (if b then s else t)
  if_so true s t hs ht = hs refl
  if_so false s t hs ht = ht

  -- the information of an I frame with this station's address
  abbrev BringsTo : (List ℕ → Type 0) → ℕ → Option (Control × List ℕ) → Type 0
  BringsTo P address o = (ns nr : ℕ) (payload : List ℕ) → o ≡ Some (control.Info ns nr, payload) → (address == address_of C) ≡ true → P payload

  brings : (P : List ℕ → Type 0) (address : ℕ) (s : Station) (c : Control) (information : List ℕ) → Kept s → BringsTo P address (Some (c, information))
      → is_addressed s.calling address c ≡ true → Brings P c information
  brings P address s (control.Info ns nr) information h to addressed =
      to ns nr information refl (subst (λ (b : Bool). (address == address_of b) ≡ true) h.0 addressed)
  brings P address s _ information h to addressed = tt

  control_kept : (address : ℕ) (o : Option (Control × List ℕ)) (s : Station) → BringsTo Told address o → Kept s → Kept (hears_control address o s)
  control_kept address None s to h = errs_kept s.phase s h
  control_kept address (Some (c, information)) s to h =
      if_so (is_addressed s.calling address c) (if is_error s.calling c information then errs s.phase s else row_of_phase s.phase s c information) (strays s)
      (λ addressed.
      if_kept (is_error s.calling c information) (errs s.phase s) (row_of_phase s.phase s c information) (errs_kept s.phase s h)
      (row_kept s.phase s c information (brings Told address s c information h to addressed) h)) h

  -- of an octet string that a deframer found
  abbrev pub Found : (List ℕ → Type 0) → Verdict → Type 0
  Found P verdict = (payload : List ℕ) → IsInformationOf C X verdict payload → P payload

  to_frame : (P : List ℕ → Type 0) (address : ℕ) (body : List ℕ) (s : Station) → Kept s → Found P (Frame address body) → BringsTo P address (control_of (modulo s.extended) body)
  to_frame P address body s h found ns nr payload read addressed =
      let is : address ≡ address_of C = eqb-true address (address_of C) addressed in
      found payload (record {
        body = body;
        ns = ns;
        nr = nr;
        frame = ap (λ (a : ℕ). Frame a body) is;
        read = subst (λ (x : Bool). control_of (modulo x) body ≡ Some (control.Info ns nr, payload)) h.1 read;
      })

  hears_kept : (verdict : Verdict) (s : Station) → Found Told verdict → Kept s → Kept (hears verdict s)
  hears_kept (Frame address body) s found h =
      if_kept (is_known_address address) (hears_control address (control_of (modulo s.extended) body) s) (strays s)
      (control_kept address (control_of (modulo s.extended) body) s (to_frame Told address body s h found) h) h
  hears_kept BadFcs s found h = h
  hears_kept TooShort s found h = h
  hears_kept TooLong s found h = h
  hears_kept Aborted s found h = h

  pub receives_kept : (now : ℕ) (verdict : Verdict) (s : Station) → Found Told verdict → Kept s → Kept (receives now verdict s)
  receives_kept now verdict s found h =
      let t : Station = sees now s in
      if_kept (is_down s.phase) s (sends_waiting (hears verdict t)) h (waiting_kept (hears verdict t) (hears_kept verdict t found h))

  -- ---- with selective reject: what is held is told later

  module _ (tells : (payload : List ℕ) → Held payload → Told payload) where
    all_tell : (payloads : List (List ℕ)) → AllByRecursion Held payloads → AllByRecursion Told payloads
    all_tell [] all = tt
    all_tell (payload ∷ payloads) all = (tells payload all.0, all_tell payloads all.1)

    files_kept : (o : Option ℕ) (payload : List ℕ) (s : Station) → Held payload → Kept s → Kept (files_at o payload s)
    files_kept None payload s new h = h
    files_kept (Some n) payload s new h =
        let run : List (List ℕ) = without_gap (length s.held) (n + 1) s.held in
        let next : ℕ = length s.taken + 1 + length run in
        if_kept (n == length s.taken) (takes_run payload run s) (if is_found (held_for n s.held) then says_next s else holds n payload s)
        (h.0, h.1, h.2, h.3, h.4, held_filter Held (λ k. nat_le next k.0) s.held h.5, (tells payload new, all_tell run (run_is Held (length s.held) (n + 1) s.held h.5)))
        (if_kept (is_found (held_for n s.held)) (says_next s) (holds n payload s) h (h.0, h.1, h.2, h.3, h.4, held_push Held s.held n payload h.5 new, h.6))

    repeat_kept : (o : Option ℕ) (s : Station) → Kept s → Kept (repeats_at o s)
    repeat_kept None s h = h
    repeat_kept (Some n) s h = h

    one_kept : (nr : ℕ) (s : Station) → Kept s → Kept (repeats_one nr s)
    one_kept nr s h =
        if_kept (nat_lt s.acked s.sent) (repeats_at (number_shown_as s.extended s.acked (s.sent - s.acked - 1) nr) s) (strays s)
        (repeat_kept (number_shown_as s.extended s.acked (s.sent - s.acked - 1) nr) s h) h

    selective_again_kept : (poll : Bool) (s : Station) → Kept s → Kept (sets_up_selective_again poll s)
    selective_again_kept poll s h =
        if_kept (length s.taken == 0) (agrees poll (record s { held = []; asked = [] })) (refuses_frame s) (h.0, h.1, h.2, h.3, h.4, tt, h.6) (quiet s h)

    selective_setting_kept : (s : Station) (c : Control) (information : List ℕ) → Kept s → Kept (selective_row_setting s c information)
    selective_setting_kept s (control.Info ns nr) information h = h
    selective_setting_kept s (control.Rr nr) information h = h
    selective_setting_kept s (control.Rnr nr) information h = h
    selective_setting_kept s (control.Rej nr) information h = quiet s h
    selective_setting_kept s (control.Srej nr) information h = h
    selective_setting_kept s (control.Sabm poll) information h = quiet s h
    selective_setting_kept s (control.Sabme poll) information h = quiet s h
    selective_setting_kept s (control.Disc poll) information h = quiet s h
    selective_setting_kept s control.Ua information h = quiet s h
    selective_setting_kept s control.Dm information h = quiet s h
    selective_setting_kept s control.Frmr information h = quiet s h

    selective_up_kept : (s : Station) (c : Control) (information : List ℕ) → Brings Held c information → Kept s → Kept (selective_row_up s c information)
    selective_up_kept s (control.Info ns nr) information new h =
        number_kept nr (files ns information) s (λ t g. files_kept (number_shown_as t.extended (length t.taken) (t.window - 1) ns) information t new g) h
    selective_up_kept s (control.Rr nr) information new h = number_kept nr (marks_busy false) s (λ t g. g) h
    selective_up_kept s (control.Rnr nr) information new h = number_kept nr (marks_busy true) s (λ t g. g) h
    selective_up_kept s (control.Rej nr) information new h = quiet s h
    selective_up_kept s (control.Srej nr) information new h = one_kept nr s h
    selective_up_kept s (control.Sabm poll) information new h = selective_again_kept poll s h
    selective_up_kept s (control.Sabme poll) information new h = selective_again_kept poll s h
    selective_up_kept s (control.Disc poll) information new h = quiet s h
    selective_up_kept s control.Ua information new h = h
    selective_up_kept s control.Dm information new h = quiet s h
    selective_up_kept s control.Frmr information new h = quiet s h

    selective_row_kept : (p : Phase) (s : Station) (c : Control) (information : List ℕ) → Brings Held c information → Kept s → Kept (selective_row p s c information)
    selective_row_kept Idle s c information new h = idle_kept s c information h
    selective_row_kept Setting s c information new h = selective_setting_kept s c information h
    selective_row_kept Up s c information new h = selective_up_kept s c information new h
    selective_row_kept Down s c information new h = h

    selective_control_kept : (address : ℕ) (o : Option (Control × List ℕ)) (s : Station) → BringsTo Held address o → Kept s → Kept (selective_hears_control address o s)
    selective_control_kept address None s to h = errs_kept s.phase s h
    selective_control_kept address (Some (c, information)) s to h =
        if_so (is_addressed s.calling address c) (if is_selective_error s.calling c information then errs s.phase s else selective_row s.phase s c information) (strays s)
        (λ addressed.
        if_kept (is_selective_error s.calling c information) (errs s.phase s) (selective_row s.phase s c information) (errs_kept s.phase s h)
        (selective_row_kept s.phase s c information (brings Held address s c information h to addressed) h)) h

    selective_hears_kept : (verdict : Verdict) (s : Station) → Found Held verdict → Kept s → Kept (selective_hears verdict s)
    selective_hears_kept (Frame address body) s found h =
        if_kept (is_known_address address) (selective_hears_control address (control_of (modulo s.extended) body) s) (strays s)
        (selective_control_kept address (control_of (modulo s.extended) body) s (to_frame Held address body s h found) h) h
    selective_hears_kept BadFcs s found h = h
    selective_hears_kept TooShort s found h = h
    selective_hears_kept TooLong s found h = h
    selective_hears_kept Aborted s found h = h

    pub selective_receives_kept : (now : ℕ) (verdict : Verdict) (s : Station) → Found Held verdict → Kept s → Kept (selective_receives now verdict s)
    selective_receives_kept now verdict s found h =
        let t : Station = sees now s in
        if_kept (is_down s.phase) s (sends_waiting (selective_hears verdict t)) h (waiting_kept (selective_hears verdict t) (selective_hears_kept verdict t found h))
