-- What a station sends up to its first I frame, call by call: that frame has the payload that was handed down first.
use Rattle.std.proofs.Common.{◌≡◌, ◌∙◌, ℕ, zero, suc, ◌+◌, ◌-◌, Bool, true, false, not, ◌&&◌, ◌||◌, List, [], ◌∷◌, ◌++◌, length, Option, Some, None, refl, sym, ap, subst, arith, append_assoc, append-nil}
use Rattle.std.specs.Prelude.{◌==◌, ◌%◌, nat_lt, if◌then◌else◌, slice_index_or}
use Rattle.std.proofs.lemmas.Bool.{and_parts}
use Rattle.er_base.specs.declared.cause.Cause.TheVariants.{SetUpUnanswered, NoProgress}
use Rattle.hdlc_frames.specs.declared.controls.Control.{Control}
use Rattle.hdlc_frames.specs.declared.controls.Control.TheVariants as control
use Rattle.hdlc_frames.specs.ControlOctets.{control_of}
use Rattle.hdlc_frames.specs.Framing.{Verdict}
use Rattle.hdlc_frames.specs.Framing as framing
use Rattle.hdlc_station_model.specs.declared.phase.Phase.{Phase}
use Rattle.hdlc_station_model.specs.declared.phase.Phase.TheVariants.{Idle, Setting, Up, Down}
use Rattle.hdlc_station_model.specs.Frames.{Frame, Info, Rr, Rej, SetUp, Disc, Ua, modulo}
use Rattle.hdlc_station_model.specs.Stations.{Station, is_down, is_up, puts, sees}
use Rattle.hdlc_station_model.specs.Sending.{refuses_frame, gives_up, info_at, sends_next, can_send, waiting, sends_up_to, sends_waiting, sends_again, frames_again, starts_timer, counts_expiry, settles, is_due, expires, expires_at, expires_if_due}
use Rattle.hdlc_station_model.specs.Receiving.{is_known_address, is_addressed, is_error, errs, strays, is_some_octets, number_shown_as, acknowledges, acknowledging, takes, accepts, rejects, marks_busy, repeats_rejected, comes_up, agrees, sets_up_again, row_idle, row_setting, row_up, row_of_phase, hears_control, hears_frame, hears}
use Rattle.hdlc_station_model.specs.Calls.{starts, starts_at, receives, hands, finishes, ticks, closes, closes_at}
use Rattle.tap_laws.proofs.FirstWalk.{Keeps, Begins}
use Rattle.tap_laws.proofs.FirstHeard.{IsQuiet, AreQuiet, IsOpeningFrame, HasOpeningFrame, quiet_append, opening_before, opening_last}

-- ---- before the first I frame

-- a station of these phases sent what opens the link
abbrev pub WantsOpening : Phase → Type 0
WantsOpening Idle = ⊥
WantsOpening Setting = Unit {0}
WantsOpening Up = Unit {0}
WantsOpening Down = ⊥

-- behind these frames no I frame was sent
pub record IsUnspoken (calling : Bool) (base : List Frame) (s : Station) : Type 0 where
  pub calling_is : s.calling ≡ calling
  pub basic : s.extended ≡ false
  pub live : is_down s.phase ≡ false
  pub unsent : s.sent ≡ 0
  pub quiet : AreQuiet (base ++ s.said)
  pub opened : WantsOpening s.phase → HasOpeningFrame calling (base ++ s.said)

-- no I frame will be
pub record IsLost (s : Station) : Type 0 where
  pub unsent : s.sent ≡ 0
  pub down : is_down s.phase ≡ true

-- the first I frame was sent, with such a payload
pub record HasFirstFrame (P : List ℕ → Type 0) (calling : Bool) (all : List Frame) : Type 0 where
  pub fs : List Frame
  pub nr : ℕ
  pub payload : List ℕ
  pub more : List Frame
  pub is : all ≡ fs ++ Info 0 nr payload ∷ more
  pub quiet : AreQuiet fs
  pub opened : HasOpeningFrame calling fs
  pub good : P payload

pub spoken_more : (P : List ℕ → Type 0) (calling : Bool) (all more : List Frame) → HasFirstFrame P calling all → HasFirstFrame P calling (all ++ more)
spoken_more P calling all more h = record {
  fs = h.fs;
  nr = h.nr;
  payload = h.payload;
  more = h.more ++ more;
  is = ap (λ (l : List Frame). l ++ more) h.is ∙ append_assoc h.fs (Info 0 h.nr h.payload ∷ h.more) more;
  quiet = h.quiet;
  opened = h.opened;
  good = h.good;
}

-- what a call leads to where nothing was handed down that waits
pub data Stays (calling : Bool) (base : List Frame) (handed : List (List ℕ)) (t : Station) : Type 0 where
  Unspoken : IsUnspoken calling base t → t.handed ≡ handed → Stays calling base handed t
  Lost : IsLost t → t.handed ≡ handed → Stays calling base handed t

or_left : (a b : Bool) → (a || b) ≡ false → a ≡ false
or_left true b e = absurd cc
or_left false b e = refl

module _ (calling : Bool) (base : List Frame) where
  -- one quiet frame more
  said_more : (s : Station) (f : Frame) → IsUnspoken calling base s → IsQuiet f → AreQuiet (base ++ (s.said ++ f ∷ []))
  said_more s f u q = subst AreQuiet (append_assoc base s.said (f ∷ [])) (quiet_append (base ++ s.said) (f ∷ []) u.quiet (q, tt))

  still_opened : (s : Station) (f : Frame) → HasOpeningFrame calling (base ++ s.said) → HasOpeningFrame calling (base ++ (s.said ++ f ∷ []))
  still_opened s f h = subst (HasOpeningFrame calling) (append_assoc base s.said (f ∷ [])) (opening_before calling (base ++ s.said) (f ∷ []) h)

  now_opened : (s : Station) (f : Frame) → IsOpeningFrame calling f → HasOpeningFrame calling (base ++ (s.said ++ f ∷ []))
  now_opened s f h = subst (HasOpeningFrame calling) (append_assoc base s.said (f ∷ [])) (opening_last calling (base ++ s.said) f h)

  -- a station that is down sends nothing
  down_sends : (n : ℕ) (s : Station) → is_down s.phase ≡ true → sends_up_to n s ≡ s
  down_sends zero s down = refl
  down_sends (suc n) s down = rw (not_up s.phase down) refl
    where
      not_up : (p : Phase) → is_down p ≡ true → is_up p ≡ false
      not_up Idle e = absurd cc
      not_up Setting e = absurd cc
      not_up Up e = absurd cc
      not_up Down e = refl

  module _ (s : Station) (u : IsUnspoken calling base s) where
    -- nothing that counts here changed
    same : (t : Station) → t.calling ≡ s.calling → t.extended ≡ s.extended → t.phase ≡ s.phase → t.sent ≡ s.sent → t.said ≡ s.said → t.handed ≡ s.handed → Stays calling base s.handed t
    same t c e p n said handed = Unspoken (record {
      calling_is = c ∙ u.calling_is;
      basic = e ∙ u.basic;
      live = ap is_down p ∙ u.live;
      unsent = n ∙ u.unsent;
      quiet = subst (λ (fs : List Frame). AreQuiet (base ++ fs)) (sym said) u.quiet;
      opened = λ w. subst (λ (fs : List Frame). HasOpeningFrame calling (base ++ fs)) (sym said) (u.opened (subst WantsOpening p w));
    }) handed

    -- a quiet frame was sent
    said_one : (f : Frame) (t : Station) → IsQuiet f → t.calling ≡ s.calling → t.extended ≡ s.extended → t.phase ≡ s.phase → t.sent ≡ s.sent → t.said ≡ s.said ++ f ∷ []
        → t.handed ≡ s.handed → Stays calling base s.handed t
    said_one f t q c e p n said handed = Unspoken (record {
      calling_is = c ∙ u.calling_is;
      basic = e ∙ u.basic;
      live = ap is_down p ∙ u.live;
      unsent = n ∙ u.unsent;
      quiet = subst (λ (fs : List Frame). AreQuiet (base ++ fs)) (sym said) (said_more s f u q);
      opened = λ w. subst (λ (fs : List Frame). HasOpeningFrame calling (base ++ fs)) (sym said) (still_opened s f (u.opened (subst WantsOpening p w)));
    }) handed

    gone : (t : Station) → is_down t.phase ≡ true → t.sent ≡ s.sent → t.handed ≡ s.handed → Stays calling base s.handed t
    gone t down n handed = Lost (record { unsent = n ∙ u.unsent; down = down }) handed

    stray : Stays calling base s.handed (strays s)
    stray = same (strays s) refl refl refl refl refl refl

    errs_at : (p : Phase) → Stays calling base s.handed (errs p s)
    errs_at Idle = by s.calling
      where
        by : (b : Bool) → Stays calling base s.handed (if b then refuses_frame s else strays s)
        by true = gone _ refl refl refl
        by false = stray
    errs_at Setting = gone _ refl refl refl
    errs_at Up = gone _ refl refl refl
    errs_at Down = same s refl refl refl refl refl refl

    -- nothing is there to be sent again
    again_none : (t : Station) → t.sent ≡ 0 → frames_again (t.sent - t.acked) t ≡ []
    again_none t n = let z : t.sent - t.acked ≡ 0 = omega (arith, n) in rw z refl

  -- one N(R)
  numbered : (s : Station) → IsUnspoken calling base s → (shown : Option ℕ) (rest : Station → Station)
      → ((n : ℕ) → Stays calling base s.handed (rest (acknowledges n s))) → Stays calling base s.handed (acknowledging shown rest s)
  numbered s u None rest h = gone s u _ refl refl refl
  numbered s u (Some n) rest h = h n

  module _ (s : Station) (u : IsUnspoken calling base s) (up : s.phase ≡ Up) where
    rejecting : (t : Station) → IsUnspoken calling base t → t.handed ≡ s.handed → Stays calling base s.handed (rejects t)
    rejecting t w handed = by t.gap
      where
        by : (b : Bool) → Stays calling base s.handed (if b then puts (Rr (length t.taken)) t else puts (Rej (length t.taken)) (record t { gap = true }))
        by true = subst (λ (h : List (List ℕ)). Stays calling base h (puts (Rr (length t.taken)) t)) handed (said_one t w (Rr (length t.taken)) _ tt refl refl refl refl refl refl)
        by false = subst (λ (h : List (List ℕ)). Stays calling base h (puts (Rej (length t.taken)) (record t { gap = true }))) handed
            (said_one t w (Rej (length t.taken)) _ tt refl refl refl refl refl refl)

    acked : (n : ℕ) → IsUnspoken calling base (acknowledges n s)
    acked n = record { calling_is = u.calling_is; basic = u.basic; live = u.live; unsent = u.unsent; quiet = u.quiet; opened = u.opened }

    taking : (ns : ℕ) (payload : List ℕ) (n : ℕ) → Stays calling base s.handed (takes ns payload (acknowledges n s))
    taking ns payload n = by (length s.taken % modulo s.extended == ns)
      where
        by : (b : Bool) → Stays calling base s.handed (if b then accepts payload (acknowledges n s) else rejects (acknowledges n s))
        by true = same s u _ refl refl refl refl refl refl
        by false = rejecting (acknowledges n s) (acked n) refl

    repeating : (n : ℕ) → Stays calling base s.handed (repeats_rejected (marks_busy false (acknowledges n s)))
    repeating n = by (nat_lt n s.sent)
      where
        t : Station
        t = marks_busy false (acknowledges n s)

        none : s.said ++ frames_again (t.sent - t.acked) t ≡ s.said
        none = ap (λ (fs : List Frame). s.said ++ fs) (again_none s u t u.unsent) ∙ append-nil s.said

        by : (b : Bool) → Stays calling base s.handed (if b then starts_timer (sends_again t) else t)
        by true = same s u _ refl refl refl refl none refl
        by false = same s u _ refl refl refl refl refl refl

    setting_up : (poll : Bool) → Stays calling base s.handed (sets_up_again poll s)
    setting_up poll = by (length s.taken == 0)
      where
        by : (b : Bool) → Stays calling base s.handed (if b then agrees poll (record s { gap = false }) else refuses_frame s)
        by true = said_one s u (Ua poll) _ tt refl refl refl refl refl refl
        by false = gone s u _ refl refl refl

    up_row : (c : Control) (information : List ℕ) → Stays calling base s.handed (row_up s c information)
    up_row (control.Info ns nr) payload = numbered s u (number_shown_as s.extended s.acked (s.sent - s.acked) nr) (takes ns payload) (taking ns payload)
    up_row (control.Rr nr) information =
        numbered s u (number_shown_as s.extended s.acked (s.sent - s.acked) nr) (marks_busy false) (λ n. same s u _ refl refl refl refl refl refl)
    up_row (control.Rnr nr) information =
        numbered s u (number_shown_as s.extended s.acked (s.sent - s.acked) nr) (marks_busy true) (λ n. same s u _ refl refl refl refl refl refl)
    up_row (control.Rej nr) information =
        numbered s u (number_shown_as s.extended s.acked (s.sent - s.acked) nr) (λ t. repeats_rejected (marks_busy false t)) repeating
    up_row (control.Srej nr) information = gone s u _ refl refl refl
    up_row (control.Sabm poll) information = setting_up poll
    up_row (control.Sabme poll) information = setting_up poll
    up_row (control.Disc poll) information = gone s u _ refl refl refl
    up_row control.Ua information = stray s u
    up_row control.Dm information = gone s u _ refl refl refl
    up_row control.Frmr information = gone s u _ refl refl refl

  -- the link comes up
  module _ (s : Station) (u : IsUnspoken calling base s) where
    agreed : (poll : Bool) → calling ≡ false → Stays calling base s.handed (agrees poll (comes_up s))
    agreed poll called = Unspoken (record {
      calling_is = u.calling_is;
      basic = u.basic;
      live = refl;
      unsent = u.unsent;
      quiet = said_more s (Ua poll) u tt;
      opened = λ w. now_opened s (Ua poll) called;
    }) refl

    idle_row : (c : Control) (information : List ℕ) → is_error s.calling c information ≡ false → Stays calling base s.handed (row_idle s c information)
    idle_row (control.Info ns nr) payload fine = stray s u
    idle_row (control.Rr nr) information fine = stray s u
    idle_row (control.Rnr nr) information fine = stray s u
    idle_row (control.Rej nr) information fine = stray s u
    idle_row (control.Srej nr) information fine = stray s u
    idle_row (control.Sabm poll) information fine = agreed poll (sym u.calling_is ∙ or_left s.calling (is_some_octets information) fine)
    idle_row (control.Sabme poll) information fine = agreed poll (sym u.calling_is ∙ or_left s.calling (is_some_octets information) fine)
    idle_row (control.Disc poll) information fine = stray s u
    idle_row control.Ua information fine = stray s u
    idle_row control.Dm information fine = stray s u
    idle_row control.Frmr information fine = stray s u

    came_up : s.phase ≡ Setting → Stays calling base s.handed (comes_up (record s { timer = None; expiries = 0 }))
    came_up setting = Unspoken (record {
      calling_is = u.calling_is;
      basic = u.basic;
      live = refl;
      unsent = u.unsent;
      quiet = u.quiet;
      opened = λ w. u.opened (subst WantsOpening (sym setting) tt);
    }) refl

    setting_row : s.phase ≡ Setting → (c : Control) (information : List ℕ) → Stays calling base s.handed (row_setting s c information)
    setting_row at (control.Info ns nr) payload = stray s u
    setting_row at (control.Rr nr) information = stray s u
    setting_row at (control.Rnr nr) information = stray s u
    setting_row at (control.Rej nr) information = stray s u
    setting_row at (control.Srej nr) information = gone s u _ refl refl refl
    setting_row at (control.Sabm poll) information = gone s u _ refl refl refl
    setting_row at (control.Sabme poll) information = gone s u _ refl refl refl
    setting_row at (control.Disc poll) information = gone s u _ refl refl refl
    setting_row at control.Ua information = came_up at
    setting_row at control.Dm information = gone s u _ refl refl refl
    setting_row at control.Frmr information = gone s u _ refl refl refl

    row_at : (p : Phase) → s.phase ≡ p → (c : Control) (information : List ℕ) → is_error s.calling c information ≡ false
        → Stays calling base s.handed (row_of_phase p s c information)
    row_at Idle at c information fine = idle_row c information fine
    row_at Setting at c information fine = setting_row at c information
    row_at Up at c information fine = up_row s u at c information
    row_at Down at c information fine = same s u s refl refl refl refl refl refl

    control_stays : (address : ℕ) (read : Option (Control × List ℕ)) → Stays calling base s.handed (hears_control address read s)
    control_stays address None = errs_at s u s.phase
    control_stays address (Some read) = by (is_addressed s.calling address read.0) (is_error s.calling read.0 read.1) refl
      where
        by : (a b : Bool) → is_error s.calling read.0 read.1 ≡ b
            → Stays calling base s.handed (if a then (if b then errs s.phase s else row_of_phase s.phase s read.0 read.1) else strays s)
        by true true e = errs_at s u s.phase
        by true false e = row_at s.phase refl read.0 read.1 e
        by false b e = stray s u

    frame_stays : (address : ℕ) (body : List ℕ) → Stays calling base s.handed (hears_frame address body s)
    frame_stays address body = by (is_known_address address)
      where
        by : (b : Bool) → Stays calling base s.handed (if b then hears_control address (control_of (modulo s.extended) body) s else strays s)
        by true = control_stays address (control_of (modulo s.extended) body)
        by false = stray s u

    pub hears_stays : (verdict : Verdict) → Stays calling base s.handed (hears verdict s)
    hears_stays (framing.Frame address body) = frame_stays address body
    hears_stays framing.BadFcs = same s u _ refl refl refl refl refl refl
    hears_stays framing.TooShort = same s u _ refl refl refl refl refl refl
    hears_stays framing.TooLong = same s u _ refl refl refl refl refl refl
    hears_stays framing.Aborted = same s u _ refl refl refl refl refl refl

    -- time
    again_stays : (b : Bool) → Stays calling base s.handed (if b then gives_up NoProgress s else starts_timer (sends_again (counts_expiry s)))
    again_stays true = gone s u _ refl refl refl
    again_stays false =
        same s u _ refl refl refl refl (ap (λ (fs : List Frame). s.said ++ fs) (again_none s u (counts_expiry s) u.unsent) ∙ append-nil s.said) refl

    set_up_stays : (b : Bool) → Stays calling base s.handed (if b then gives_up SetUpUnanswered s else starts_timer (puts SetUp (counts_expiry s)))
    set_up_stays true = gone s u _ refl refl refl
    set_up_stays false = said_one s u SetUp _ tt refl refl refl refl refl refl

    expires_stays : (p : Phase) → Stays calling base s.handed (expires_at p s)
    expires_stays Idle = same s u s refl refl refl refl refl refl
    expires_stays Setting = set_up_stays (nat_lt s.n2 (s.expiries + 1))
    expires_stays Up = again_stays (nat_lt s.n2 (s.expiries + 1))
    expires_stays Down = same s u s refl refl refl refl refl refl

    pub due_stays : (b : Bool) → Stays calling base s.handed (if b then expires s else s)
    due_stays true = expires_stays s.phase
    due_stays false = same s u s refl refl refl refl refl refl

    start_stays : (p : Phase) → s.phase ≡ p → Stays calling base s.handed (starts_at p s)
    start_stays Idle at = by s.calling refl
      where
        by : (b : Bool) → s.calling ≡ b → Stays calling base s.handed (if b then starts_timer (puts SetUp (record s { phase = Setting })) else s)
        by true is = Unspoken (record {
          calling_is = u.calling_is;
          basic = u.basic;
          live = refl;
          unsent = u.unsent;
          quiet = said_more s SetUp u tt;
          opened = λ w. now_opened s SetUp (sym u.calling_is ∙ is);
        }) refl
        by false is = same s u s refl refl refl refl refl refl
    start_stays Setting at = same s u s refl refl refl refl refl refl
    start_stays Up at = same s u s refl refl refl refl refl refl
    start_stays Down at = same s u s refl refl refl refl refl refl

    settles_stays : Stays calling base s.handed (settles s)
    settles_stays = by s.owed
      where
        by : (b : Bool) → Stays calling base s.handed (if b then record (puts (Rr (length s.taken)) s) { owed = false } else s)
        by true = said_one s u (Rr (length s.taken)) _ tt refl refl refl refl refl refl
        by false = same s u s refl refl refl refl refl refl

    pub seen : (now : ℕ) → IsUnspoken calling base (sees now s)
    seen now = record { calling_is = u.calling_is; basic = u.basic; live = u.live; unsent = u.unsent; quiet = u.quiet; opened = u.opened }

-- ---- the payloads that wait

-- more frames were said, by the same station
pub record Appends (s t : Station) : Type 0 where
  pub more : List Frame
  pub is : t.said ≡ s.said ++ more
  pub calling_is : t.calling ≡ s.calling
  pub extended_is : t.extended ≡ s.extended

appends_none : (s : Station) → Appends s s
appends_none s = record { more = []; is = sym (append-nil s.said); calling_is = refl; extended_is = refl }

sends_by : (n : ℕ) (s : Station) → ((t : Station) → Appends t (sends_up_to n t)) → (b : Bool) → Appends s (if b then sends_up_to n (sends_next s) else s)
sends_by n s later true =
    let a : Appends (sends_next s) (sends_up_to n (sends_next s)) = later (sends_next s) in
    record {
      more = info_at s s.sent ∷ a.more;
      is = a.is ∙ append_assoc s.said (info_at s s.sent ∷ []) a.more;
      calling_is = a.calling_is;
      extended_is = a.extended_is;
    }
sends_by n s later false = appends_none s

sends_append : (n : ℕ) (s : Station) → Appends s (sends_up_to n s)
sends_append zero s = appends_none s
sends_append (suc n) s = sends_by n s (sends_append n) (can_send s)

pub hands_append : (now : ℕ) (payload : List ℕ) (s : Station) → Appends s (hands now payload s)
hands_append now payload s = by (is_down s.phase)
  where
    t : Station
    t = record (sees now s) { handed = s.handed ++ payload ∷ [] }

    by : (b : Bool) → Appends s (if b then s else sends_waiting t)
    by true = appends_none s
    by false =
        let later : Appends t (sends_waiting t) = sends_append (waiting t) t in
        record { more = later.more; is = later.is; calling_is = later.calling_is; extended_is = later.extended_is }

pub finishes_append : (s : Station) → Appends s (finishes s)
finishes_append s = by (is_down s.phase) s.owed
  where
    by : (b c : Bool) → Appends s (if b then s else (if c then record (puts (Rr (length s.taken)) s) { owed = false } else s))
    by true c = appends_none s
    by false true = record { more = Rr (length s.taken) ∷ []; is = refl; calling_is = refl; extended_is = refl }
    by false false = appends_none s

pub closes_append : (s : Station) → Appends s (closes s)
closes_append s = by (is_down s.phase) s.phase
  where
    by : (b : Bool) (p : Phase) → Appends s (if b then s else record (closes_at p s) { phase = Down; timer = None })
    by true p = appends_none s
    by false Idle = record { more = []; is = sym (append-nil s.said); calling_is = refl; extended_is = refl }
    by false Setting = record { more = Disc ∷ []; is = refl; calling_is = refl; extended_is = refl }
    by false Up = record { more = Disc ∷ []; is = refl; calling_is = refl; extended_is = refl }
    by false Down = record { more = []; is = sym (append-nil s.said); calling_is = refl; extended_is = refl }

-- ---- where a payload was handed down

-- the first payload that was handed down is such a one
pub record HasFirst (P : List ℕ → Type 0) (handed : List (List ℕ)) : Type 0 where
  pub first : List ℕ
  pub later : List (List ℕ)
  pub is : handed ≡ first ∷ later
  pub good : P first

pub data Goes (P : List ℕ → Type 0) (calling : Bool) (base : List Frame) (s : Station) : Type 0 where
  Waits : IsUnspoken calling base s → HasFirst P s.handed → Goes P calling base s
  Spoke : s.calling ≡ calling → s.extended ≡ false → HasFirstFrame P calling (base ++ s.said) → Goes P calling base s
  Ends : IsLost s → Goes P calling base s

module _ (P : List ℕ → Type 0) (calling : Bool) (base : List Frame) where
  pub spoken_then : (s t : Station) → Appends s t → HasFirstFrame P calling (base ++ s.said) → HasFirstFrame P calling (base ++ t.said)
  spoken_then s t a h =
      subst (HasFirstFrame P calling) (append_assoc base s.said a.more ∙ ap (λ (fs : List Frame). base ++ fs) (sym a.is)) (spoken_more P calling (base ++ s.said) a.more h)

  wants : (p : Phase) → is_up p ≡ true → WantsOpening p
  wants Idle e = absurd cc
  wants Setting e = absurd cc
  wants Up e = tt
  wants Down e = absurd cc

  pub speaks : (s : Station) → IsUnspoken calling base s → HasFirst P s.handed → is_up s.phase ≡ true → HasFirstFrame P calling (base ++ (sends_next s).said)
  speaks s u h up = record {
    fs = base ++ s.said;
    nr = length s.taken;
    payload = slice_index_or s.handed 0 [];
    more = [];
    is = ap (λ (n : ℕ). base ++ (s.said ++ Info n (length s.taken) (slice_index_or s.handed n []) ∷ [])) u.unsent
        ∙ sym (append_assoc base s.said (Info 0 (length s.taken) (slice_index_or s.handed 0 []) ∷ []));
    quiet = u.quiet;
    opened = u.opened (wants s.phase up);
    good = subst (λ (l : List (List ℕ)). P (slice_index_or l 0 [])) (sym h.is) h.good;
  }

  -- so many of them
  pub sends_go : (n : ℕ) (s : Station) → IsUnspoken calling base s → HasFirst P s.handed → Goes P calling base (sends_up_to n s)
  sends_go zero s u h = Waits u h
  sends_go (suc n) s u h = by (can_send s) refl
    where
      by : (b : Bool) → can_send s ≡ b → Goes P calling base (if b then sends_up_to n (sends_next s) else s)
      by true can =
          let up : is_up s.phase ≡ true =
          (and_parts (is_up s.phase) (not s.busy) (and_parts (is_up s.phase && not s.busy) (nat_lt (s.sent - s.acked) s.window)
          (and_parts (is_up s.phase && not s.busy && nat_lt (s.sent - s.acked) s.window) (s.calling || nat_lt 0 (length s.taken)) can).0).0).0 in
          let a : Appends (sends_next s) (sends_up_to n (sends_next s)) = sends_append n (sends_next s) in
          Spoke (a.calling_is ∙ u.calling_is) (a.extended_is ∙ u.basic) (spoken_then (sends_next s) (sends_up_to n (sends_next s)) a (speaks s u h up))
      by false can = Waits u h

  waiting_go : (s : Station) (handed : List (List ℕ)) → Stays calling base handed s → HasFirst P handed → Goes P calling base (sends_waiting s)
  waiting_go s handed (Unspoken u same) h = sends_go (waiting s) s u (subst (HasFirst P) (sym same) h)
  waiting_go s handed (Lost l same) h = subst (Goes P calling base) (sym (down_sends calling base (waiting s) s l.down)) (Ends l)

  -- with nothing handed down, nothing is sent
  none_wait : (s : Station) → Stays calling base [] s → Stays calling base [] (sends_waiting s)
  none_wait s (Unspoken u same) =
      let none : waiting s ≡ 0 = ap (λ (l : List (List ℕ)). length l - s.sent) same ∙ omega arith in
      rw none (Unspoken u same)
  none_wait s (Lost l same) = rw (down_sends calling base (waiting s) s l.down) (Lost l same)

  lost_same : (s t : Station) → t ≡ s → IsLost s → Goes P calling base t
  lost_same s t is l = subst (Goes P calling base) (sym is) (Ends l)

  -- ---- the calls, of a station to which such a payload was handed down first

  spoke_then : (s t : Station) → Appends s t → s.calling ≡ calling → s.extended ≡ false → HasFirstFrame P calling (base ++ s.said) → Goes P calling base t
  spoke_then s t a c e h = Spoke (a.calling_is ∙ c) (a.extended_is ∙ e) (spoken_then s t a h)

  silent_goes : (handed : List (List ℕ)) (t : Station) → Stays calling base handed t → HasFirst P handed → Goes P calling base t
  silent_goes handed t (Unspoken w same) h = Waits w (subst (HasFirst P) (sym same) h)
  silent_goes handed t (Lost l same) h = Ends l

  receives_go : (now : ℕ) (verdict : Verdict) (s : Station) → IsUnspoken calling base s → HasFirst P s.handed → Goes P calling base (receives now verdict s)
  receives_go now verdict s u h =
      rw u.live (waiting_go (hears verdict (sees now s)) s.handed (hears_stays calling base (sees now s) (seen calling base s u now) verdict) h)

  starts_go : (now : ℕ) (s : Station) → IsUnspoken calling base s → HasFirst P s.handed → Goes P calling base (starts now s)
  starts_go now s u h =
      rw u.live (silent_goes s.handed (starts_at s.phase (sees now s)) (start_stays calling base (sees now s) (seen calling base s u now) s.phase refl) h)

  ticks_go : (now : ℕ) (s : Station) → IsUnspoken calling base s → HasFirst P s.handed → Goes P calling base (ticks now s)
  ticks_go now s u h =
      rw u.live (waiting_go (expires_if_due (sees now s)) s.handed (due_stays calling base (sees now s) (seen calling base s u now) (is_due s.timer (sees now s).moment)) h)

  hands_go : (now : ℕ) (payload : List ℕ) (s : Station) → Goes P calling base s → Goes P calling base (hands now payload s)
  hands_go now payload s (Waits u h) =
      let t : Station = record (sees now s) { handed = s.handed ++ payload ∷ [] } in
      let w : IsUnspoken calling base t =
      record { calling_is = u.calling_is; basic = u.basic; live = u.live; unsent = u.unsent; quiet = u.quiet; opened = u.opened } in
      rw u.live (sends_go (waiting t) t w (record { first = h.first; later = h.later ++ payload ∷ []; is = ap (λ (l : List (List ℕ)). l ++ payload ∷ []) h.is; good = h.good }))
  hands_go now payload s (Spoke c e h) = spoke_then s (hands now payload s) (hands_append now payload s) c e h
  hands_go now payload s (Ends l) = lost_same s (hands now payload s) (rw l.down refl) l

  finishes_go : (s : Station) → Goes P calling base s → Goes P calling base (finishes s)
  finishes_go s (Waits u h) = rw u.live (silent_goes s.handed (settles s) (settles_stays calling base s u) h)
  finishes_go s (Spoke c e h) = spoke_then s (finishes s) (finishes_append s) c e h
  finishes_go s (Ends l) = lost_same s (finishes s) (rw l.down refl) l

  closes_go : (s : Station) → Goes P calling base s → Goes P calling base (closes s)
  closes_go s (Waits u h) = rw u.live (by s.phase)
    where
      by : (p : Phase) → Goes P calling base (record (closes_at p s) { phase = Down; timer = None })
      by Idle = Ends (record { unsent = u.unsent; down = refl })
      by Setting = Ends (record { unsent = u.unsent; down = refl })
      by Up = Ends (record { unsent = u.unsent; down = refl })
      by Down = Ends (record { unsent = u.unsent; down = refl })
  closes_go s (Spoke c e h) = spoke_then s (closes s) (closes_append s) c e h
  closes_go s (Ends l) = lost_same s (closes s) (rw l.down refl) l

  -- the first payload that is handed down
  pub first_goes : (now : ℕ) (payload : List ℕ) (s : Station) → Stays calling base [] s → P payload → Goes P calling base (hands now payload s)
  first_goes now payload s (Unspoken u none) good =
      let t : Station = record (sees now s) { handed = s.handed ++ payload ∷ [] } in
      let w : IsUnspoken calling base t =
      record { calling_is = u.calling_is; basic = u.basic; live = u.live; unsent = u.unsent; quiet = u.quiet; opened = u.opened } in
      rw u.live (sends_go (waiting t) t w (record { first = payload; later = []; is = ap (λ (l : List (List ℕ)). l ++ payload ∷ []) none; good = good }))
  first_goes now payload s (Lost l none) good = lost_same s (hands now payload s) (rw l.down refl) l

  -- ---- and of one to which nothing was

  stay_lost : (s t : Station) → t ≡ s → IsLost s → s.handed ≡ [] → Stays calling base [] t
  stay_lost s t is l none = subst (Stays calling base []) (sym is) (Lost l none)

  pub receives_stay : (now : ℕ) (verdict : Verdict) (s : Station) → Stays calling base [] s → Stays calling base [] (receives now verdict s)
  receives_stay now verdict s (Unspoken u none) =
      rw u.live (none_wait (hears verdict (sees now s))
      (subst (λ (l : List (List ℕ)). Stays calling base l (hears verdict (sees now s))) none (hears_stays calling base (sees now s) (seen calling base s u now) verdict)))
  receives_stay now verdict s (Lost l none) = stay_lost s (receives now verdict s) (rw l.down refl) l none

  pub starts_stay : (now : ℕ) (s : Station) → Stays calling base [] s → Stays calling base [] (starts now s)
  starts_stay now s (Unspoken u none) =
      rw u.live (subst (λ (l : List (List ℕ)). Stays calling base l (starts_at s.phase (sees now s))) none
      (start_stays calling base (sees now s) (seen calling base s u now) s.phase refl))
  starts_stay now s (Lost l none) = stay_lost s (starts now s) (rw l.down refl) l none

  pub ticks_stay : (now : ℕ) (s : Station) → Stays calling base [] s → Stays calling base [] (ticks now s)
  ticks_stay now s (Unspoken u none) =
      rw u.live (none_wait (expires_if_due (sees now s))
      (subst (λ (l : List (List ℕ)). Stays calling base l (expires_if_due (sees now s))) none
      (due_stays calling base (sees now s) (seen calling base s u now) (is_due s.timer (sees now s).moment))))
  ticks_stay now s (Lost l none) = stay_lost s (ticks now s) (rw l.down refl) l none

  pub finishes_stay : (s : Station) → Stays calling base [] s → Stays calling base [] (finishes s)
  finishes_stay s (Unspoken u none) =
      rw u.live (subst (λ (l : List (List ℕ)). Stays calling base l (settles s)) none (settles_stays calling base s u))
  finishes_stay s (Lost l none) = rw l.down (Lost l none)

-- ---- a station that is down

lost_then : (s t : Station) → t ≡ s → IsLost s → IsLost t
lost_then s t is l = subst IsLost (sym is) l

pub lost_keeps : Keeps IsLost
lost_keeps = record {
  hands = λ now payload s l. lost_then s (hands now payload s) (rw l.down refl) l;
  finishes = λ s l. lost_then s (finishes s) (rw l.down refl) l;
  closes = λ s l. lost_then s (closes s) (rw l.down refl) l;
}

pub lost_begins : (s : Station) → IsLost s → Begins IsLost s
lost_begins s l = record {
  itself = l;
  starts = λ now. lost_then s (starts now s) (rw l.down refl) l;
  receives = λ now verdict. lost_then s (receives now verdict s) (rw l.down refl) l;
  ticks = λ now. lost_then s (ticks now s) (rw l.down refl) l;
}

pub goes_keeps : (P : List ℕ → Type 0) (calling : Bool) (base : List Frame) → Keeps (Goes P calling base)
goes_keeps P calling base = record { hands = hands_go P calling base; finishes = finishes_go P calling base; closes = closes_go P calling base }

pub goes_begins : (P : List ℕ → Type 0) (calling : Bool) (base : List Frame) (s : Station) → IsUnspoken calling base s → HasFirst P s.handed → Begins (Goes P calling base) s
goes_begins P calling base s u h = record {
  itself = Waits u h;
  starts = λ now. starts_go P calling base now s u h;
  receives = λ now verdict. receives_go P calling base now verdict s u h;
  ticks = λ now. ticks_go P calling base now s u h;
}
