-- An end that calls sends its CR, with its AU1, in the event in which the link comes up: in its first I frame.
use Rattle.std.proofs.Common.{◌≡◌, ◌∙◌, ◌≤◌, ℕ, ◌+◌, ◌-◌, Bool, true, false, ◌||◌, List, [], ◌∷◌, ◌++◌, length, Option, Some, None, Ok, refl, sym, ap, subst, arith}
use Rattle.std.specs.Prelude.{nat_lt, if◌then◌else◌}
use Rattle.std.proofs.lemmas.Bool.{lt-ltb}
use Rattle.er_base.specs.declared.release.Release.{Release}
use Rattle.er_base.specs.declared.cause.Cause.TheVariants.{SetUpUnanswered, FrameError, PeerDisconnected}
use Rattle.er_base.specs.Causes.{release_of}
use Rattle.hdlc_frames.specs.declared.controls.Control.{Control}
use Rattle.hdlc_frames.specs.declared.controls.Control.TheVariants as control
use Rattle.hdlc_frames.specs.ControlOctets.{control_of}
use Rattle.hdlc_frames.specs.Framing.{Verdict}
use Rattle.hdlc_frames.specs.Framing as framing
use Rattle.hdlc_station_model.specs.declared.phase.Phase.{Phase}
use Rattle.hdlc_station_model.specs.declared.phase.Phase.TheVariants.{Idle, Setting, Up, Down}
use Rattle.hdlc_station_model.specs.Frames.{Frame, SetUp, modulo}
use Rattle.hdlc_station_model.specs.Frames as frames
use Rattle.hdlc_station_model.specs.Stations.{Station, no_deed, is_down, is_up, settled, sees, puts}
use Rattle.hdlc_station_model.specs.Sending.{waiting, can_send, sends_next, sends_waiting, starts_timer, counts_expiry, gives_up, is_due, expires, expires_at, expires_if_due}
use Rattle.hdlc_station_model.specs.Receiving.{is_known_address, is_addressed, is_error, errs, strays, is_some_octets, row_idle, row_setting, row_of_phase, hears_control, hears}
use Rattle.hdlc_station_model.specs.Calls.{starts, starts_at, receives, hands, finishes, closes, ticks}
use Rattle.t70_header.specs.Blocks.{last_block}
use Rattle.x224_tpdu.specs.Spelling.{connection_request}
use Rattle.x224_tpdu.specs.Function.{reading}
use Rattle.sapdu.specs.Spelling.{Au1, read_of}
use Rattle.tap_laws.proofs.FirstWalk.{Keeps}
use Rattle.tap_laws.proofs.FirstSent.{IsUnspoken, Stays, Unspoken, Lost, HasFirstFrame, Appends, hands_append, finishes_append, closes_append, spoken_then, speaks, hears_stays, due_stays, seen}

-- ---- the station of an end that calls, before the link came up

pub record IsCallingStation (s : Station) : Type 0 where
  pub not_up : is_up s.phase ≡ false
  pub free : s.busy ≡ false
  pub window : 1 ≤ s.window
  pub deed : s.deed ≡ no_deed

-- what a call leads to: as before; released; up
pub data CallsOn (t : Station) : Type 0 where
  StaysCalling : is_down t.phase ≡ false → IsCallingStation t → CallsOn t
  Releases : (why : Release) → t.deed ≡ record { up = false; payload = None; more = []; released = Some why } → CallsOn t
  ComesUp : t.phase ≡ Up → t.busy ≡ false → 1 ≤ t.window → t.deed ≡ record { up = true; payload = None; more = []; released = None } → CallsOn t

-- what time leads to
pub data TimesOn (t : Station) : Type 0 where
  Waits : is_down t.phase ≡ false → IsCallingStation t → TimesOn t
  GivesUp : (why : Release) → t.deed.released ≡ Some why → TimesOn t

none_sends : (t : Station) → t.handed ≡ [] → sends_waiting t ≡ t
none_sends t none = let zero_waits : waiting t ≡ 0 = ap (λ (l : List (List ℕ)). length l - t.sent) none ∙ omega arith in rw zero_waits refl

module _ (s : Station) (calling : s.calling ≡ true) (live : is_down s.phase ≡ false) (c : IsCallingStation s) where
  stray_on : CallsOn (strays s)
  stray_on = StaysCalling live (record { not_up = c.not_up; free = c.free; window = c.window; deed = c.deed })

  errs_on : (p : Phase) → s.phase ≡ p → CallsOn (errs p s)
  errs_on Idle at = rw calling (Releases (release_of FrameError) refl)
  errs_on Setting at = Releases (release_of FrameError) refl
  errs_on Up at = Releases (release_of FrameError) refl
  errs_on Down at = absurd (let z : true ≡ false = sym (ap is_down at) ∙ live in cc)

  idle_on : (k : Control) (information : List ℕ) → is_error s.calling k information ≡ false → CallsOn (row_idle s k information)
  idle_on (control.Info ns nr) payload fine = stray_on
  idle_on (control.Rr nr) information fine = stray_on
  idle_on (control.Rnr nr) information fine = stray_on
  idle_on (control.Rej nr) information fine = stray_on
  idle_on (control.Srej nr) information fine = stray_on
  idle_on (control.Sabm poll) information fine = absurd (let z : (true || is_some_octets information) ≡ false = rw calling at fine in cc)
  idle_on (control.Sabme poll) information fine = absurd (let z : (true || is_some_octets information) ≡ false = rw calling at fine in cc)
  idle_on (control.Disc poll) information fine = stray_on
  idle_on control.Ua information fine = stray_on
  idle_on control.Dm information fine = stray_on
  idle_on control.Frmr information fine = stray_on

  setting_on : (k : Control) (information : List ℕ) → CallsOn (row_setting s k information)
  setting_on (control.Info ns nr) payload = stray_on
  setting_on (control.Rr nr) information = stray_on
  setting_on (control.Rnr nr) information = stray_on
  setting_on (control.Rej nr) information = stray_on
  setting_on (control.Srej nr) information = Releases (release_of FrameError) refl
  setting_on (control.Sabm poll) information = Releases (release_of FrameError) refl
  setting_on (control.Sabme poll) information = Releases (release_of FrameError) refl
  setting_on (control.Disc poll) information = Releases (release_of PeerDisconnected) refl
  setting_on control.Ua information = ComesUp refl c.free c.window refl
  setting_on control.Dm information = Releases (release_of PeerDisconnected) refl
  setting_on control.Frmr information = Releases (release_of PeerDisconnected) refl

  row_on : (p : Phase) → s.phase ≡ p → (k : Control) (information : List ℕ) → is_error s.calling k information ≡ false → CallsOn (row_of_phase p s k information)
  row_on Idle at k information fine = idle_on k information fine
  row_on Setting at k information fine = setting_on k information
  row_on Up at k information fine = absurd (let z : true ≡ false = sym (ap is_up at) ∙ c.not_up in cc)
  row_on Down at k information fine = absurd (let z : true ≡ false = sym (ap is_down at) ∙ live in cc)

  control_on : (address : ℕ) (read : Option (Control × List ℕ)) → CallsOn (hears_control address read s)
  control_on address None = errs_on s.phase refl
  control_on address (Some read) = by (is_addressed s.calling address read.0) (is_error s.calling read.0 read.1) refl
    where
      by : (a b : Bool) → is_error s.calling read.0 read.1 ≡ b
          → CallsOn (if a then (if b then errs s.phase s else row_of_phase s.phase s read.0 read.1) else strays s)
      by true true e = errs_on s.phase refl
      by true false e = row_on s.phase refl read.0 read.1 e
      by false b e = stray_on

  hears_on : (verdict : Verdict) → CallsOn (hears verdict s)
  hears_on (framing.Frame address body) = by (is_known_address address)
    where
      by : (b : Bool) → CallsOn (if b then hears_control address (control_of (modulo s.extended) body) s else strays s)
      by true = control_on address (control_of (modulo s.extended) body)
      by false = stray_on
  hears_on framing.BadFcs = StaysCalling live (record { not_up = c.not_up; free = c.free; window = c.window; deed = c.deed })
  hears_on framing.TooShort = StaysCalling live (record { not_up = c.not_up; free = c.free; window = c.window; deed = c.deed })
  hears_on framing.TooLong = StaysCalling live (record { not_up = c.not_up; free = c.free; window = c.window; deed = c.deed })
  hears_on framing.Aborted = StaysCalling live (record { not_up = c.not_up; free = c.free; window = c.window; deed = c.deed })

  expires_on : (p : Phase) → s.phase ≡ p → TimesOn (expires_at p s)
  expires_on Idle at = Waits live c
  expires_on Setting at = by (nat_lt s.n2 (s.expiries + 1))
    where
      by : (b : Bool) → TimesOn (if b then gives_up SetUpUnanswered s else starts_timer (puts SetUp (counts_expiry s)))
      by true = GivesUp (release_of SetUpUnanswered) refl
      by false = Waits live (record { not_up = c.not_up; free = c.free; window = c.window; deed = c.deed })
  expires_on Up at = absurd (let z : true ≡ false = sym (ap is_up at) ∙ c.not_up in cc)
  expires_on Down at = absurd (let z : true ≡ false = sym (ap is_down at) ∙ live in cc)

  due_on : (b : Bool) → TimesOn (if b then expires s else s)
  due_on true = expires_on s.phase refl
  due_on false = Waits live c

  start_on : (p : Phase) → s.phase ≡ p → (is_down (starts_at p s).phase ≡ false) × IsCallingStation (starts_at p s)
  start_on Idle at = rw calling (refl, record { not_up = refl; free = c.free; window = c.window; deed = c.deed })
  start_on Setting at = (live, c)
  start_on Up at = (live, c)
  start_on Down at = (live, c)

module _ (base : List Frame) (s : Station) (u : IsUnspoken true base s) (none : s.handed ≡ []) (c : IsCallingStation s) (now : ℕ) where
  abbrev seen_now : Station
  seen_now = sees now s

  calling_now : IsCallingStation seen_now
  calling_now = record { not_up = c.not_up; free = c.free; window = c.window; deed = c.deed }

  -- nothing waits, so nothing more is sent
  same_sends : (t : Station) → Stays true base s.handed t → sends_waiting t ≡ t
  same_sends t (Unspoken w same) = none_sends t (same ∙ none)
  same_sends t (Lost l same) = none_sends t (same ∙ none)

  pub receives_on : (verdict : Verdict) → CallsOn (receives now verdict s)
  receives_on verdict =
      rw u.live (subst CallsOn (sym (same_sends (hears verdict seen_now) (hears_stays true base seen_now (seen true base s u now) verdict)))
      (hears_on seen_now u.calling_is u.live calling_now verdict))

  pub ticks_on : TimesOn (ticks now s)
  ticks_on =
      rw u.live (subst TimesOn (sym (same_sends (expires_if_due seen_now) (due_stays true base seen_now (seen true base s u now) (is_due s.timer seen_now.moment))))
      (due_on seen_now u.calling_is u.live calling_now (is_due s.timer seen_now.moment)))

  pub starts_on : (is_down (starts now s).phase ≡ false) × IsCallingStation (starts now s)
  starts_on = rw u.live (start_on seen_now u.calling_is u.live calling_now s.phase refl)

pub finishes_on : (s : Station) → IsCallingStation s → IsCallingStation (finishes s)
finishes_on s c = by (is_down s.phase) s.owed
  where
    by : (b d : Bool) → IsCallingStation (if b then s else (if d then record (puts (frames.Rr (length s.taken)) s) { owed = false } else s))
    by true d = c
    by false true = record { not_up = c.not_up; free = c.free; window = c.window; deed = c.deed }
    by false false = c

pub settled_on : (s : Station) → IsCallingStation s → IsCallingStation (settled s)
settled_on s c = record { not_up = c.not_up; free = c.free; window = c.window; deed = refl }

-- ---- the CR

-- a payload is the block of a CR whose user data is the AU1 of an end
pub record IsCall (me rb : ℕ) (payload : List ℕ) : Type 0 where
  pub tpdu : List ℕ
  pub user : List ℕ
  pub credit : ℕ
  pub size : ℕ
  pub block : payload ≡ last_block tpdu
  pub short : length tpdu ≤ 1024
  pub read : reading tpdu ≡ Ok (connection_request credit 0 1 size user)
  pub text : read_of user ≡ Ok (Au1 me 1 rb, false)

-- the first I frame was sent
pub record Speaks (P : List ℕ → Type 0) (calling : Bool) (base : List Frame) (s : Station) : Type 0 where
  pub calling_is : s.calling ≡ calling
  pub basic : s.extended ≡ false
  pub spoken : HasFirstFrame P calling (base ++ s.said)

module _ (P : List ℕ → Type 0) (calling : Bool) (base : List Frame) where
  speaks_then : (s t : Station) → Appends s t → Speaks P calling base s → Speaks P calling base t
  speaks_then s t a h =
      record { calling_is = a.calling_is ∙ h.calling_is; basic = a.extended_is ∙ h.basic; spoken = spoken_then P calling base s t a h.spoken }

  pub speaks_keeps : Keeps (Speaks P calling base)
  speaks_keeps = record {
    hands = λ now payload s h. speaks_then s (hands now payload s) (hands_append now payload s) h;
    finishes = λ s h. speaks_then s (finishes s) (finishes_append s) h;
    closes = λ s h. speaks_then s (closes s) (closes_append s) h;
  }

-- at a station that is up and free the first payload goes at once
module _ (P : List ℕ → Type 0) (base : List Frame) (now : ℕ) (payload : List ℕ) (good : P payload) (s : Station) (u : IsUnspoken true base s) (none : s.handed ≡ []) (up : s.phase ≡ Up)
    (free : s.busy ≡ false) (window : 1 ≤ s.window) where
  abbrev handed_one : Station
  handed_one = record (sees now s) { handed = s.handed ++ payload ∷ [] }

  one_waits : waiting handed_one ≡ 1
  one_waits = let n = u.unsent in ap (λ (l : List (List ℕ)). length (l ++ payload ∷ []) - s.sent) none ∙ omega (arith, n)

  may : can_send handed_one ≡ true
  may =
      let room : nat_lt (s.sent - s.acked) s.window ≡ true = let n = u.unsent in lt-ltb (s.sent - s.acked) s.window (omega (arith, n, window)) in
      rw (up, free, room, u.calling_is) refl

  at_once : hands now payload s ≡ sends_next handed_one
  at_once = rw (u.live, one_waits, may) refl

  unspoken_one : IsUnspoken true base handed_one
  unspoken_one = record { calling_is = u.calling_is; basic = u.basic; live = u.live; unsent = u.unsent; quiet = u.quiet; opened = u.opened }

  pub speaks_at_once : Speaks P true base (hands now payload s)
  speaks_at_once =
      subst (Speaks P true base) (sym at_once) (record {
        calling_is = u.calling_is;
        basic = u.basic;
        spoken = speaks P true base handed_one unspoken_one (record { first = payload; later = []; is = ap (λ (l : List (List ℕ)). l ++ payload ∷ []) none; good = good })
            (ap is_up up);
      })
