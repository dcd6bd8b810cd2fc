-- What one station keeps at every call, whatever comes to it: no more than its window is sent and unacknowledged, and only a station that took a
-- payload owes an answer.
use Rattle.std.proofs.Common.{if◌then◌else◌, ◌≡◌, ℕ, zero, suc, ◌+◌, ◌-◌, ◌%◌, ◌<◌, ◌≤◌, Bool, true, false, not, ◌&&◌, ◌||◌, List, [], ◌∷◌, ◌++◌, length, Option, Some, None, refl, sym, arith, length-append, ltb-true, true≢false}
use Rattle.std.specs.Prelude.{◌==◌, nat_lt}
use Rattle.std.proofs.lemmas.Bool.{cond_both, and_parts}
use Rattle.er_base.specs.declared.cause.Cause.TheVariants.{SetUpUnanswered, NoProgress}
use Rattle.hdlc_frames.specs.declared.controls.Control.{Control}
use Rattle.hdlc_frames.specs.declared.controls.Control.TheVariants as control
use Rattle.hdlc_frames.specs.ControlOctets.{control_of}
use Rattle.hdlc_frames.specs.Framing.{Verdict, Frame, BadFcs, TooShort, TooLong, Aborted}
use Rattle.hdlc_station_model.specs.declared.phase.Phase.{Phase}
use Rattle.hdlc_station_model.specs.declared.phase.Phase.TheVariants.{Idle, Setting, Up, Down}
use Rattle.hdlc_station_model.specs.Frames.{Rr, Rej, SetUp, modulo}
use Rattle.hdlc_station_model.specs.Stations.{Station, is_up, is_down, sees, puts}
use Rattle.hdlc_station_model.specs.Sending.{can_send, waiting, sends_next, sends_up_to, sends_waiting, sends_again, starts_timer, settles, gives_up, counts_expiry, expires_at, expires, expires_if_due, is_due, refuses_frame}
use Rattle.hdlc_station_model.specs.Receiving.{strays, is_known_address, is_addressed, is_error, errs, number_shown_as, acknowledges, acknowledging, by_number, accepts, rejects, takes, marks_busy, repeats_rejected, agrees, sets_up_again, row_idle, row_of_phase, hears, hears_control}
use Rattle.hdlc_station_model.specs.Selective.{is_selective_error, held_for, is_found, without_gap, takes_run, holds, says_next, files_at, files, repeats_at, repeats_one, sets_up_selective_again, selective_row, selective_hears, selective_hears_control, receives_as}
use Rattle.hdlc_station_model.specs.Calls.{hands, finishes, ticks, closes_at}
use Rattle.hdlc_station_model.specs.Events.{quits}
use Rattle.hdlc_pair_laws.proofs.SelectiveRows.{named_at}
use Rattle.hdlc_pair_laws.proofs.Hearing.{hears_as, received}

-- so many payloads were handed down, and the window is this one
pub record InWindowAt (window : ℕ) (given : List (List ℕ)) (own sent acked : ℕ) (owed : Bool) (taken handed : List (List ℕ)) : Type 0 where
  pub is : own ≡ window
  pub room : sent ≤ acked + window
  pub owes : owed ≡ true → 1 ≤ length taken
  pub handed_is : handed ≡ given

abbrev pub InWindow : (window : ℕ) (given : List (List ℕ)) → Station → Type 0
InWindow window given x = InWindowAt window given x.window x.sent x.acked x.owed x.taken x.handed

module _ (window : ℕ) (given : List (List ℕ)) where
  -- ---- what is sent

  next_in : (x : Station) → can_send x ≡ true → InWindow window given x → InWindow window given (sends_next x)
  next_in x can h =
      let first = and_parts (is_up x.phase && not x.busy && nat_lt (x.sent - x.acked) x.window) (x.calling || nat_lt 0 (length x.taken)) can in
      let second = and_parts (is_up x.phase && not x.busy) (nat_lt (x.sent - x.acked) x.window) first.0 in
      let room : x.sent - x.acked < x.window = ltb-true (x.sent - x.acked) x.window second.1 in
      record { is = h.is; room = omega (arith, h.is); owes = λ e. absurd (true≢false (sym e)); handed_is = h.handed_is }

  up_to_in : (n : ℕ) (x : Station) → InWindow window given x → InWindow window given (sends_up_to n x)
  up_to_in zero x h = h
  up_to_in (suc n) x h = cond_both (can_send x) (sends_up_to n (sends_next x)) x (InWindow window given) (λ can. up_to_in n (sends_next x) (next_in x can h)) (λ cannot. h)

  waiting_in : (x : Station) → InWindow window given x → InWindow window given (sends_waiting x)
  waiting_in x h = up_to_in (waiting x) x h

  settled_owes : (n : ℕ) (b : Bool) → (if n == 0 then b else false) ≡ true → b ≡ true
  settled_owes n b = cond_both (n == 0) b false (λ c. c ≡ true → b ≡ true) (λ e o. o) (λ e o. absurd (true≢false (sym o)))

  again_in : (x : Station) → InWindow window given x → InWindow window given (sends_again x)
  again_in x h = record { is = h.is; room = h.room; owes = λ e. h.owes (settled_owes (x.sent - x.acked) x.owed e); handed_is = h.handed_is }

  no_debt : (x : Station) → InWindow window given x → InWindow window given (record x { owed = false })
  no_debt x h = record { is = h.is; room = h.room; owes = λ e. absurd (true≢false (sym e)); handed_is = h.handed_is }

  -- ---- a frame that comes

  numbered_in : (r : ℕ) (rest : Station → Station) (x : Station) → ((t : Station) → InWindow window given t → InWindow window given (rest t)) → (o : Option ℕ) → number_shown_as x.extended x.acked (x.sent - x.acked) r ≡ o
      → InWindow window given x → InWindow window given (acknowledging o rest x)
  numbered_in r rest x keeps None e h = h
  numbered_in r rest x keeps (Some n) e h =
      let at = named_at x.extended x.acked (x.sent - x.acked) r n e in
      keeps (acknowledges n x) (record { is = h.is; room = omega (arith, h.room, at.low); owes = h.owes; handed_is = h.handed_is })

  by_number_in : (r : ℕ) (rest : Station → Station) (x : Station) → ((t : Station) → InWindow window given t → InWindow window given (rest t))
      → InWindow window given x → InWindow window given (by_number r rest x)
  by_number_in r rest x keeps h = numbered_in r rest x keeps (number_shown_as x.extended x.acked (x.sent - x.acked) r) refl h

  takes_in : (ns : ℕ) (p : List ℕ) (x : Station) → InWindow window given x → InWindow window given (takes ns p x)
  takes_in ns p x h =
      cond_both (length x.taken % modulo x.extended == ns) (accepts p x) (rejects x) (InWindow window given)
      (λ e. record { is = h.is; room = h.room; owes = λ o. (let l = length-append x.taken (p ∷ []) in omega (arith, l)); handed_is = h.handed_is })
      (λ e. cond_both x.gap (puts (Rr (length x.taken)) x) (puts (Rej (length x.taken)) (record x { gap = true })) (InWindow window given) (λ g. h) (λ g. h))

  repeats_in : (x : Station) → InWindow window given x → InWindow window given (repeats_rejected x)
  repeats_in x h = cond_both (nat_lt x.acked x.sent) (starts_timer (sends_again x)) x (InWindow window given) (λ e. again_in x h) (λ e. h)

  set_up_in : (poll : Bool) (x : Station) → InWindow window given x → InWindow window given (sets_up_again poll x)
  set_up_in poll x h = cond_both (length x.taken == 0) (agrees poll (record x { gap = false })) (refuses_frame x) (InWindow window given) (λ e. h) (λ e. h)

  idle_in : (c : Control) (i : List ℕ) (x : Station) → InWindow window given x → InWindow window given (row_idle x c i)
  idle_in (control.Info ns nr) i x h = h
  idle_in (control.Rr nr) i x h = h
  idle_in (control.Rnr nr) i x h = h
  idle_in (control.Rej nr) i x h = h
  idle_in (control.Srej nr) i x h = h
  idle_in (control.Sabm poll) i x h = h
  idle_in (control.Sabme poll) i x h = h
  idle_in (control.Disc poll) i x h = h
  idle_in control.Ua i x h = h
  idle_in control.Dm i x h = h
  idle_in control.Frmr i x h = h

  row_in : (p : Phase) (c : Control) (i : List ℕ) (x : Station) → InWindow window given x → InWindow window given (row_of_phase p x c i)
  row_in Idle c i x h = idle_in c i x h
  row_in Up (control.Info ns nr) i x h = by_number_in nr (takes ns i) x (takes_in ns i) h
  row_in Up (control.Rr nr) i x h = by_number_in nr (marks_busy false) x (λ t g. g) h
  row_in Up (control.Rnr nr) i x h = by_number_in nr (marks_busy true) x (λ t g. g) h
  row_in Up (control.Rej nr) i x h = by_number_in nr (λ t. repeats_rejected (marks_busy false t)) x (λ t g. repeats_in (marks_busy false t) g) h
  row_in Up (control.Sabm poll) i x h = set_up_in poll x h
  row_in Up (control.Sabme poll) i x h = set_up_in poll x h
  row_in Setting (control.Info ns nr) i x h = h
  row_in Setting (control.Rr nr) i x h = h
  row_in Setting (control.Rnr nr) i x h = h
  row_in Setting (control.Rej nr) i x h = h
  row_in Setting (control.Srej nr) i x h = h
  row_in Setting (control.Sabm poll) i x h = h
  row_in Setting (control.Sabme poll) i x h = h
  row_in Setting (control.Disc poll) i x h = h
  row_in Setting control.Ua i x h = h
  row_in Setting control.Dm i x h = h
  row_in Setting control.Frmr i x h = h
  row_in Up (control.Srej nr) i x h = h
  row_in Up (control.Disc poll) i x h = h
  row_in Up control.Ua i x h = h
  row_in Up control.Dm i x h = h
  row_in Up control.Frmr i x h = h
  row_in Down c i x h = h

  errs_in : (p : Phase) (x : Station) → InWindow window given x → InWindow window given (errs p x)
  errs_in Idle x h = cond_both x.calling (refuses_frame x) (strays x) (InWindow window given) (λ e. h) (λ e. h)
  errs_in p x h = h

  control_in : (address : ℕ) (o : Option (Control × List ℕ)) (x : Station) → InWindow window given x → InWindow window given (hears_control address o x)
  control_in address None x h = errs_in x.phase x h
  control_in address (Some read) x h =
      cond_both (is_addressed x.calling address read.0) (if is_error x.calling read.0 read.1 then errs x.phase x else row_of_phase x.phase x read.0 read.1) (strays x) (InWindow window given)
      (λ e. cond_both (is_error x.calling read.0 read.1) (errs x.phase x) (row_of_phase x.phase x read.0 read.1) (InWindow window given)
      (λ e. errs_in x.phase x h) (λ e. row_in x.phase read.0 read.1 x h))
      (λ e. h)

  hears_in : (v : Verdict) (x : Station) → InWindow window given x → InWindow window given (hears v x)
  hears_in (Frame address body) x h =
      cond_both (is_known_address address) (hears_control address (control_of (modulo x.extended) body) x) (strays x) (InWindow window given)
      (λ e. control_in address (control_of (modulo x.extended) body) x h) (λ e. h)
  hears_in BadFcs x h = h
  hears_in TooShort x h = h
  hears_in TooLong x h = h
  hears_in Aborted x h = h

  -- ---- the same with selective reject

  files_in : (o : Option ℕ) (p : List ℕ) (x : Station) → InWindow window given x → InWindow window given (files_at o p x)
  files_in None p x h = h
  files_in (Some n) p x h =
      let run : List (List ℕ) = without_gap (length x.held) (n + 1) x.held in
      cond_both (n == length x.taken) (takes_run p run x) (if is_found (held_for n x.held) then says_next x else holds n p x) (InWindow window given)
      (λ e. record { is = h.is; room = h.room; owes = λ o. (let l = length-append x.taken (p ∷ run) in omega (arith, l)); handed_is = h.handed_is })
      (λ e. cond_both (is_found (held_for n x.held)) (says_next x) (holds n p x) (InWindow window given) (λ g. h) (λ g. h))

  one_at : (o : Option ℕ) (x : Station) → InWindow window given x → InWindow window given (repeats_at o x)
  one_at None x h = h
  one_at (Some n) x h = no_debt x h

  one_in : (r : ℕ) (x : Station) → InWindow window given x → InWindow window given (repeats_one r x)
  one_in r x h =
      cond_both (nat_lt x.acked x.sent) (repeats_at (number_shown_as x.extended x.acked (x.sent - x.acked - 1) r) x) (strays x) (InWindow window given)
      (λ e. one_at (number_shown_as x.extended x.acked (x.sent - x.acked - 1) r) x h) (λ e. h)

  set_up_selective_in : (poll : Bool) (x : Station) → InWindow window given x → InWindow window given (sets_up_selective_again poll x)
  set_up_selective_in poll x h = cond_both (length x.taken == 0) (agrees poll (record x { held = []; asked = [] })) (refuses_frame x) (InWindow window given) (λ e. h) (λ e. h)

  selective_row_in : (p : Phase) (c : Control) (i : List ℕ) (x : Station) → InWindow window given x → InWindow window given (selective_row p x c i)
  selective_row_in Idle c i x h = idle_in c i x h
  selective_row_in Up (control.Info ns nr) i x h =
      by_number_in nr (files ns i) x (λ t g. files_in (number_shown_as t.extended (length t.taken) (t.window - 1) ns) i t g) h
  selective_row_in Up (control.Rr nr) i x h = by_number_in nr (marks_busy false) x (λ t g. g) h
  selective_row_in Up (control.Rnr nr) i x h = by_number_in nr (marks_busy true) x (λ t g. g) h
  selective_row_in Up (control.Srej nr) i x h = one_in nr x h
  selective_row_in Up (control.Sabm poll) i x h = set_up_selective_in poll x h
  selective_row_in Up (control.Sabme poll) i x h = set_up_selective_in poll x h
  selective_row_in Setting (control.Info ns nr) i x h = h
  selective_row_in Setting (control.Rr nr) i x h = h
  selective_row_in Setting (control.Rnr nr) i x h = h
  selective_row_in Setting (control.Rej nr) i x h = h
  selective_row_in Setting (control.Srej nr) i x h = h
  selective_row_in Setting (control.Sabm poll) i x h = h
  selective_row_in Setting (control.Sabme poll) i x h = h
  selective_row_in Setting (control.Disc poll) i x h = h
  selective_row_in Setting control.Ua i x h = h
  selective_row_in Setting control.Dm i x h = h
  selective_row_in Setting control.Frmr i x h = h
  selective_row_in Up (control.Rej nr) i x h = h
  selective_row_in Up (control.Disc poll) i x h = h
  selective_row_in Up control.Ua i x h = h
  selective_row_in Up control.Dm i x h = h
  selective_row_in Up control.Frmr i x h = h
  selective_row_in Down c i x h = h

  selective_control_in : (address : ℕ) (o : Option (Control × List ℕ)) (x : Station) → InWindow window given x → InWindow window given (selective_hears_control address o x)
  selective_control_in address None x h = errs_in x.phase x h
  selective_control_in address (Some read) x h =
      cond_both (is_addressed x.calling address read.0) (if is_selective_error x.calling read.0 read.1 then errs x.phase x else selective_row x.phase x read.0 read.1) (strays x)
      (InWindow window given)
      (λ e. cond_both (is_selective_error x.calling read.0 read.1) (errs x.phase x) (selective_row x.phase x read.0 read.1) (InWindow window given)
      (λ e. errs_in x.phase x h) (λ e. selective_row_in x.phase read.0 read.1 x h))
      (λ e. h)

  selective_hears_in : (v : Verdict) (x : Station) → InWindow window given x → InWindow window given (selective_hears v x)
  selective_hears_in (Frame address body) x h =
      cond_both (is_known_address address) (selective_hears_control address (control_of (modulo x.extended) body) x) (strays x) (InWindow window given)
      (λ e. selective_control_in address (control_of (modulo x.extended) body) x h) (λ e. h)
  selective_hears_in BadFcs x h = h
  selective_hears_in TooShort x h = h
  selective_hears_in TooLong x h = h
  selective_hears_in Aborted x h = h

  hears_as_in : (selective : Bool) (v : Verdict) (x : Station) → InWindow window given x → InWindow window given (hears_as selective v x)
  hears_as_in true v x h = selective_hears_in v x h
  hears_as_in false v x h = hears_in v x h

  -- ---- the calls

  pub receives_in : (selective : Bool) (now : ℕ) (v : Verdict) (x : Station) → InWindow window given x → InWindow window given (receives_as selective now v x)
  receives_in selective now v x h =
      rw (received selective now v x)
      (cond_both (is_down x.phase) x (sends_waiting (hears_as selective v (sees now x))) (InWindow window given) (λ e. h)
      (λ e. waiting_in (hears_as selective v (sees now x)) (hears_as_in selective v (sees now x) h)))

  pub finishes_in : (x : Station) → InWindow window given x → InWindow window given (finishes x)
  finishes_in x h =
      cond_both (is_down x.phase) x (settles x) (InWindow window given) (λ e. h)
      (λ e. cond_both x.owed (record (puts (Rr (length x.taken)) x) { owed = false }) x (InWindow window given) (λ o. no_debt x h) (λ o. h))

  expires_in : (p : Phase) (x : Station) → InWindow window given x → InWindow window given (expires_at p x)
  expires_in Idle x h = h
  expires_in Setting x h =
      cond_both (nat_lt x.n2 (x.expiries + 1)) (gives_up SetUpUnanswered x) (starts_timer (puts SetUp (counts_expiry x))) (InWindow window given) (λ e. h) (λ e. h)
  expires_in Up x h =
      cond_both (nat_lt x.n2 (x.expiries + 1)) (gives_up NoProgress x) (starts_timer (sends_again (counts_expiry x))) (InWindow window given) (λ e. h)
      (λ e. again_in (counts_expiry x) h)
  expires_in Down x h = h

  pub ticks_in : (now : ℕ) (x : Station) → InWindow window given x → InWindow window given (ticks now x)
  ticks_in now x h =
      cond_both (is_down x.phase) x (sends_waiting (expires_if_due (sees now x))) (InWindow window given) (λ e. h)
      (λ e. waiting_in (expires_if_due (sees now x))
      (cond_both (is_due x.timer (sees now x).moment) (expires (sees now x)) (sees now x) (InWindow window given) (λ d. expires_in x.phase (sees now x) h) (λ d. h)))

  pub quits_in : (sub : ℕ) (x : Station) → InWindow window given x → InWindow window given (quits sub x)
  quits_in sub x h =
      cond_both (is_down x.phase) x (record (closes_at x.phase x) { phase = Down; timer = None }) (InWindow window given) (λ e. h) (λ e. closes_in x.phase x h)
    where
      closes_in : (p : Phase) (z : Station) → InWindow window given z → InWindow window given (closes_at p z)
      closes_in Idle z g = g
      closes_in Setting z g = g
      closes_in Up z g = g
      closes_in Down z g = g

-- what was handed down so far is what was handed down
pub own_handed : (window : ℕ) (given : List (List ℕ)) (x : Station) → InWindow window given x → InWindow window x.handed x
own_handed window given x h = record { is = h.is; room = h.room; owes = h.owes; handed_is = refl }

-- one payload more is handed down
pub hands_in : (window now : ℕ) (p : List ℕ) (x : Station) → InWindow window x.handed x → InWindow window (hands now p x).handed (hands now p x)
hands_in window now p x h =
    cond_both (is_down x.phase) x (sends_waiting (record (sees now x) { handed = x.handed ++ p ∷ [] })) (λ t. InWindow window t.handed t) (λ e. h)
    (λ e. own_handed window (x.handed ++ p ∷ []) (sends_waiting (record (sees now x) { handed = x.handed ++ p ∷ [] }))
    (waiting_in window (x.handed ++ p ∷ []) (record (sees now x) { handed = x.handed ++ p ∷ [] })
    (record { is = h.is; room = h.room; owes = h.owes; handed_is = refl })))
