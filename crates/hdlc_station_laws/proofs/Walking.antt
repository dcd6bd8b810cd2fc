-- What an event does to a station of either kind, before I frames are sent for the first time: its settings, its phase, its T1 and what it counts.
use Rattle.std.proofs.Common.{if◌then◌else◌, ◌≡◌, ◌⊎◌, inl, inr, ℕ, zero, suc, ◌+◌, ◌-◌, ◌%◌, ◌<◌, ◌≤◌, Bool, true, false, ◌||◌, List, [], ◌∷◌, ◌++◌, length, map, Option, Some, None, refl, sym, subst, ◌∙◌, arith, ltb-true}
use Rattle.std.specs.Prelude.{◌==◌, nat_lt, nat_le}
use Rattle.std.specs.List.{list_any}
use Rattle.std.proofs.lemmas.Bool.{cond_both, lt-ltb, le-ltb, lt-leb, or_from}
use Rattle.std.proofs.lemmas.List.Folds.{list_any-append}
use Rattle.er_base.specs.declared.cause.Cause.{Cause}
use Rattle.er_base.specs.declared.cause.Cause.TheVariants.{PeerDisconnected}
use Rattle.hdlc_frames.specs.declared.controls.Control.{Control}
use Rattle.hdlc_frames.specs.declared.controls.Control.TheVariants as control
use Rattle.hdlc_frames.specs.ControlOctets.{control_of}
use Rattle.hdlc_frames.specs.Framing.{Verdict, Frame as Frame_found, BadFcs, TooShort, TooLong, Aborted}
use Rattle.hdlc_station_model.specs.declared.phase.Phase.{Phase}
use Rattle.hdlc_station_model.specs.declared.phase.Phase.TheVariants.{Idle, Setting, Up, Down}
use Rattle.hdlc_station_model.specs.Frames.{Frame, Rr, Rej, Srej, Dm, Ua, modulo}
use Rattle.hdlc_station_model.specs.Stations.{Station, puts}
use Rattle.hdlc_station_model.specs.Sending.{info_at, frames_again, sends_again, starts_timer, station_down_for_cause, refuses_frame}
use Rattle.hdlc_station_model.specs.Receiving.{strays, is_known_address, is_addressed, is_error, errs, number_shown_as, acknowledges, acknowledging, accepts, rejects, takes, marks_busy, repeats_rejected, comes_up, agrees, sets_up_again, row_of_phase, hears, hears_control}
use Rattle.hdlc_station_model.specs.Selective.{is_selective_error, held_for, is_found, without_gap, takes_run, missing_below, holds, says_next, files_at, files, repeats_at, repeats_one, sets_up_selective_again, selective_row, selective_hears, selective_hears_control}
use Rattle.hdlc_station_laws.specs.Settings.{station_settings}
use Rattle.hdlc_station_laws.specs.Busy.{is_first}
use Rattle.hdlc_station_laws.proofs.Hearing.{hears_as}
use Rattle.hdlc_station_laws.proofs.Numbers.{named_at}

-- ---- what is said is no I frame for the first time

pub first_none : (k : ℕ) (said : List Frame) → said ≡ [] → list_any (is_first k) said ≡ false
first_none k said c = subst (λ (l : List Frame). list_any (is_first k) l ≡ false) (sym c) refl

pub first_behind : (k : ℕ) (said fs : List Frame) → list_any (is_first k) fs ≡ false → said ≡ [] → list_any (is_first k) (said ++ fs) ≡ false
first_behind k said fs h c = subst (λ (l : List Frame). list_any (is_first k) (l ++ fs) ≡ false) (sym c) h

-- I frames from V(A) on, below V(S)
pub first_again : (k m : ℕ) (x : Station) → m ≤ k - x.acked → list_any (is_first k) (frames_again m x) ≡ false
first_again k zero x below = refl
first_again k (suc n) x below =
    list_any-append (is_first k) (frames_again n x) (info_at x (x.acked + n) ∷ [])
    ∙ or_from (list_any (is_first k) (frames_again n x)) (nat_le k (x.acked + n) || false) (first_again k n x (omega (arith, below)))
    (or_from (nat_le k (x.acked + n)) false (lt-leb k (x.acked + n) (omega (arith, below))) refl)

pub first_asked : (k : ℕ) (ms : List ℕ) → list_any (is_first k) (map Srej ms) ≡ false
first_asked k [] = refl
first_asked k (m ∷ ms) = first_asked k ms

-- ---- an event

-- what it leaves alone at a station in this phase, and where it leads
pub record Went (p : Phase) (x y : Station) : Type 0 where
  pub settings : station_settings y ≡ station_settings x
  pub sent : y.sent ≡ x.sent
  pub moves : (y.phase ≡ p) ⊎ ((y.phase ≡ Down) × (y.timer ≡ None)) ⊎ ((y.phase ≡ Up) × ((p ≡ Idle) ⊎ (p ≡ Setting))) ⊎ ((y.phase ≡ Setting) × (p ≡ Idle))
  pub idle : y.phase ≡ Idle → y.timer ≡ x.timer
  pub first : x.said ≡ [] → list_any (is_first x.sent) y.said ≡ false

-- and what it counts, where it isn't a tick
pub record Counted (p : Phase) (x y : Station) : Type 0 where
  pub acked : x.acked ≤ y.acked
  pub progress : x.acked < y.acked → y.expiries ≡ 0
  pub answered : p ≡ Setting → y.phase ≡ Up → y.expiries ≡ 0
  pub others : y.acked ≡ x.acked → (p ≡ Setting → y.phase ≡ Up → ⊥) → y.expiries ≡ x.expiries

pub record Walked (p : Phase) (x y : Station) : Type 0 where
  pub went : Went p x y
  pub counted : Counted p x y

pub counts_none : (p : Phase) (x y : Station) → y.acked ≡ x.acked → y.expiries ≡ x.expiries → (p ≡ Setting → y.phase ≡ Up → ⊥) → Counted p x y
counts_none p x y a n other = record {
  acked = omega (arith, a);
  progress = λ rise. absurd (let u : ⊥ = omega (arith, a, rise) in u);
  answered = λ setting up. absurd (other setting up);
  others = λ same never. n;
}

-- all of it is as it was
pub rest : (p : Phase) (x y : Station) → station_settings y ≡ station_settings x → y.sent ≡ x.sent → y.acked ≡ x.acked → y.expiries ≡ x.expiries → y.phase ≡ p → y.timer ≡ x.timer
    → (x.said ≡ [] → list_any (is_first x.sent) y.said ≡ false) → Walked p x y
rest p x y m s a n e t f = record {
  went = record { settings = m; sent = s; moves = inl e; idle = λ i. t; first = f };
  counted = counts_none p x y a n (λ setting up. let g : Setting ≡ Up = sym setting ∙ sym e ∙ up in absurd cc);
}

-- it is released
pub gone : (p : Phase) (x y : Station) → station_settings y ≡ station_settings x → y.sent ≡ x.sent → y.acked ≡ x.acked → y.expiries ≡ x.expiries → y.phase ≡ Down → y.timer ≡ None
    → (x.said ≡ [] → list_any (is_first x.sent) y.said ≡ false) → Walked p x y
gone p x y m s a n d t f = record {
  went = record { settings = m; sent = s; moves = inr (inl (d, t)); idle = λ i. let g : Down ≡ Idle = sym d ∙ i in absurd cc; first = f };
  counted = counts_none p x y a n (λ setting up. let g : Down ≡ Up = sym d ∙ up in absurd cc);
}

-- it is up, and a number was acknowledged
pub told : (nr n : ℕ) (x y : Station) → number_shown_as x.extended x.acked (x.sent - x.acked) nr ≡ Some n → station_settings y ≡ station_settings x → y.sent ≡ x.sent
    → y.acked ≡ n → y.expiries ≡ (acknowledges n x).expiries → y.phase ≡ Up → (x.said ≡ [] → list_any (is_first x.sent) y.said ≡ false) → Walked Up x y
told nr n x y is m s a n' e f =
    let b = named_at x.extended x.acked (x.sent - x.acked) nr n is in
    let low = b.low in
    record {
      went = record { settings = m; sent = s; moves = inl e; idle = λ i. let g : Up ≡ Idle = sym e ∙ i in absurd cc; first = f };
      counted = record {
        acked = omega (arith, a, low);
        progress = λ rise. n' ∙ (rw (lt_is (omega (arith, a, rise))) refl);
        answered = λ setting up. absurd cc;
        others = λ same never. n' ∙ (rw (lt_isnt (omega (arith, a, same))) refl);
      };
    }
  where
    lt_is : x.acked < n → nat_lt x.acked n ≡ true
    lt_is h = lt-ltb x.acked n h

    lt_isnt : n ≡ x.acked → nat_lt x.acked n ≡ false
    lt_isnt h = le-ltb x.acked n (omega (arith, h))

-- ---- rules

strayed : (p : Phase) (x : Station) → x.phase ≡ p → Walked p x (strays x)
strayed p x e = rest p x (strays x) refl refl refl refl e refl (first_none x.sent x.said)

refused : (p : Phase) (x : Station) → Walked p x (refuses_frame x)
refused p x = gone p x (refuses_frame x) refl refl refl refl refl refl (first_behind x.sent x.said (Dm ∷ []) refl)

-- it says this, and is released
left : (p : Phase) (fs : List Frame) (cause : Cause) (x : Station) → list_any (is_first x.sent) fs ≡ false
    → Walked p x (station_down_for_cause cause (record x { said = x.said ++ fs }))
left p fs cause x f = gone p x (station_down_for_cause cause (record x { said = x.said ++ fs })) refl refl refl refl refl refl (first_behind x.sent x.said fs f)

dropped : (p : Phase) (cause : Cause) (x : Station) → Walked p x (station_down_for_cause cause x)
dropped p cause x = gone p x (station_down_for_cause cause x) refl refl refl refl refl refl (first_none x.sent x.said)

-- a called station comes up, and a calling one does
called_up : (poll : Bool) (x : Station) → Walked Idle x (agrees poll (comes_up x))
called_up poll x = record {
  went = record { settings = refl; sent = refl; moves = inr (inr (inl (refl, inl refl))); idle = λ i. absurd cc; first = first_behind x.sent x.said (Ua poll ∷ []) refl };
  counted = counts_none Idle x (agrees poll (comes_up x)) refl refl (λ setting up. absurd cc);
}

answered_up : (x : Station) → Walked Setting x (comes_up (record x { timer = None; expiries = 0 }))
answered_up x = record {
  went = record { settings = refl; sent = refl; moves = inr (inr (inl (refl, inr refl))); idle = λ i. absurd cc; first = first_none x.sent x.said };
  counted = record {
    acked = omega arith;
    progress = λ rise. absurd (let u : ⊥ = omega (arith, rise) in u);
    answered = λ setting up. refl;
    others = λ same never. absurd (never refl refl);
  };
}

-- ---- a number, and what stands behind it

abbrev Names : ℕ → Station → ℕ → Type 0
Names nr x n = number_shown_as x.extended x.acked (x.sent - x.acked) nr ≡ Some n

numbered : (o : Option ℕ) (f : Station → Station) (x : Station) → ((n : ℕ) → o ≡ Some n → Walked Up x (f (acknowledges n x))) → Walked Up x (acknowledging o f x)
numbered None f x h = refused Up x
numbered (Some n) f x h = h n refl

took : (nr n ns : ℕ) (payload : List ℕ) (x : Station) → x.phase ≡ Up → Names nr x n → Walked Up x (takes ns payload (acknowledges n x))
took nr n ns payload x e is =
    let t : Station = acknowledges n x in
    cond_both (length t.taken % modulo t.extended == ns) (accepts payload t) (rejects t) (Walked Up x)
    (λ same. told nr n x (accepts payload t) is refl refl refl refl e (first_none x.sent x.said))
    (λ other. cond_both t.gap (puts (Rr (length t.taken)) t) (puts (Rej (length t.taken)) (record t { gap = true })) (Walked Up x)
    (λ gap. told nr n x (puts (Rr (length t.taken)) t) is refl refl refl refl e (first_behind x.sent x.said (Rr (length t.taken) ∷ []) refl))
    (λ none. told nr n x (puts (Rej (length t.taken)) (record t { gap = true })) is refl refl refl refl e (first_behind x.sent x.said (Rej (length t.taken) ∷ []) refl)))

marked : (nr n : ℕ) (busy : Bool) (x : Station) → x.phase ≡ Up → Names nr x n → Walked Up x (marks_busy busy (acknowledges n x))
marked nr n busy x e is = told nr n x (marks_busy busy (acknowledges n x)) is refl refl refl refl e (first_none x.sent x.said)

rejected : (nr n : ℕ) (x : Station) → x.phase ≡ Up → Names nr x n → Walked Up x (repeats_rejected (marks_busy false (acknowledges n x)))
rejected nr n x e is =
    let t : Station = marks_busy false (acknowledges n x) in
    cond_both (nat_lt t.acked t.sent) (starts_timer (sends_again t)) t (Walked Up x)
    (λ some. told nr n x (starts_timer (sends_again t)) is refl refl refl refl e
    (first_behind x.sent x.said (frames_again (x.sent - n) t) (first_again x.sent (x.sent - n) t (omega arith))))
    (λ none. marked nr n false x e is)

set_up : (poll : Bool) (x : Station) → x.phase ≡ Up → Walked Up x (sets_up_again poll x)
set_up poll x e = cond_both (length x.taken == 0) (agrees poll (record x { gap = false })) (refuses_frame x) (Walked Up x)
    (λ none. rest Up x (agrees poll (record x { gap = false })) refl refl refl refl e refl (first_behind x.sent x.said (Ua poll ∷ []) refl))
    (λ some. refused Up x)

-- ---- the rows of a station with go-back

rowed : (p : Phase) (c : Control) (information : List ℕ) (x : Station) → x.phase ≡ p → Walked p x (row_of_phase p x c information)
rowed Idle (control.Info ns nr) information x e = strayed Idle x e
rowed Idle (control.Rr nr) information x e = strayed Idle x e
rowed Idle (control.Rnr nr) information x e = strayed Idle x e
rowed Idle (control.Rej nr) information x e = strayed Idle x e
rowed Idle (control.Srej nr) information x e = strayed Idle x e
rowed Idle (control.Sabm poll) information x e = called_up poll x
rowed Idle (control.Sabme poll) information x e = called_up poll x
rowed Idle (control.Disc poll) information x e = strayed Idle x e
rowed Idle control.Ua information x e = strayed Idle x e
rowed Idle control.Dm information x e = strayed Idle x e
rowed Idle control.Frmr information x e = strayed Idle x e
rowed Setting (control.Info ns nr) information x e = strayed Setting x e
rowed Setting (control.Rr nr) information x e = strayed Setting x e
rowed Setting (control.Rnr nr) information x e = strayed Setting x e
rowed Setting (control.Rej nr) information x e = strayed Setting x e
rowed Setting (control.Srej nr) information x e = refused Setting x
rowed Setting (control.Sabm poll) information x e = refused Setting x
rowed Setting (control.Sabme poll) information x e = refused Setting x
rowed Setting (control.Disc poll) information x e = left Setting (Ua poll ∷ []) PeerDisconnected x refl
rowed Setting control.Ua information x e = answered_up x
rowed Setting control.Dm information x e = dropped Setting PeerDisconnected x
rowed Setting control.Frmr information x e = dropped Setting PeerDisconnected x
rowed Up (control.Info ns nr) information x e =
    numbered (number_shown_as x.extended x.acked (x.sent - x.acked) nr) (takes ns information) x (λ n is. took nr n ns information x e is)
rowed Up (control.Rr nr) information x e = numbered (number_shown_as x.extended x.acked (x.sent - x.acked) nr) (marks_busy false) x (λ n is. marked nr n false x e is)
rowed Up (control.Rnr nr) information x e = numbered (number_shown_as x.extended x.acked (x.sent - x.acked) nr) (marks_busy true) x (λ n is. marked nr n true x e is)
rowed Up (control.Rej nr) information x e =
    numbered (number_shown_as x.extended x.acked (x.sent - x.acked) nr) (λ t. repeats_rejected (marks_busy false t)) x (λ n is. rejected nr n x e is)
rowed Up (control.Srej nr) information x e = refused Up x
rowed Up (control.Sabm poll) information x e = set_up poll x e
rowed Up (control.Sabme poll) information x e = set_up poll x e
rowed Up (control.Disc poll) information x e = left Up (Ua poll ∷ []) PeerDisconnected x refl
rowed Up control.Ua information x e = strayed Up x e
rowed Up control.Dm information x e = dropped Up PeerDisconnected x
rowed Up control.Frmr information x e = dropped Up PeerDisconnected x
rowed Down control information x e = rest Down x x refl refl refl refl e refl (first_none x.sent x.said)

erred : (p : Phase) (x : Station) → x.phase ≡ p → Walked p x (errs p x)
erred Idle x e = cond_both x.calling (refuses_frame x) (strays x) (Walked Idle x) (λ calls. refused Idle x) (λ called. strayed Idle x e)
erred Setting x e = refused Setting x
erred Up x e = refused Up x
erred Down x e = rest Down x x refl refl refl refl e refl (first_none x.sent x.said)

heard_control : (address : ℕ) (o : Option (Control × List ℕ)) (x : Station) → Walked x.phase x (hears_control address o x)
heard_control address None x = erred x.phase x refl
heard_control address (Some read) x =
    cond_both (is_addressed x.calling address read.0) (if is_error x.calling read.0 read.1 then errs x.phase x else row_of_phase x.phase x read.0 read.1) (strays x) (Walked x.phase x)
    (λ own. cond_both (is_error x.calling read.0 read.1) (errs x.phase x) (row_of_phase x.phase x read.0 read.1) (Walked x.phase x)
    (λ wrong. erred x.phase x refl) (λ right. rowed x.phase read.0 read.1 x refl))
    (λ foreign. strayed x.phase x refl)

-- ---- and of a station with selective reject

filed : (nr n : ℕ) (o : Option ℕ) (payload : List ℕ) (x : Station) → x.phase ≡ Up → Names nr x n → Walked Up x (files_at o payload (acknowledges n x))
filed nr n None payload x e is =
    told nr n x (says_next (acknowledges n x)) is refl refl refl refl e (first_behind x.sent x.said (Rr (length x.taken) ∷ []) refl)
filed nr n (Some m) payload x e is =
    let t : Station = acknowledges n x in
    let run : List (List ℕ) = without_gap (length t.held) (m + 1) t.held in
    cond_both (m == length t.taken) (takes_run payload run t) (if is_found (held_for m t.held) then says_next t else holds m payload t) (Walked Up x)
    (λ next. told nr n x (takes_run payload run t) is refl refl refl refl e (first_none x.sent x.said))
    (λ behind. cond_both (is_found (held_for m t.held)) (says_next t) (holds m payload t) (Walked Up x)
    (λ held. told nr n x (says_next t) is refl refl refl refl e (first_behind x.sent x.said (Rr (length x.taken) ∷ []) refl))
    (λ new. told nr n x (holds m payload t) is refl refl refl refl e
    (first_behind x.sent x.said (map Srej (missing_below m t)) (first_asked x.sent (missing_below m t)))))

again_at : (nr : ℕ) (o : Option ℕ) (x : Station) → x.phase ≡ Up → x.acked < x.sent → number_shown_as x.extended x.acked (x.sent - x.acked - 1) nr ≡ o → Walked Up x (repeats_at o x)
again_at nr None x e some is = strayed Up x e
again_at nr (Some n) x e some is =
    let b = named_at x.extended x.acked (x.sent - x.acked - 1) nr n is in
    let h = b.high in
    let y : Station = starts_timer (record (puts (info_at x n) x) { owed = false }) in
    record {
      went = record {
        settings = refl;
        sent = refl;
        moves = inl e;
        idle = λ i. let g : Up ≡ Idle = sym e ∙ i in absurd cc;
        first = first_behind x.sent x.said (info_at x n ∷ []) (or_from (nat_le x.sent n) false (lt-leb x.sent n (omega (arith, h, some))) refl);
      };
      counted = counts_none Up x y refl refl (λ setting up. absurd cc);
    }

one_again : (nr : ℕ) (x : Station) → x.phase ≡ Up → Walked Up x (repeats_one nr x)
one_again nr x e =
    let o : Option ℕ = number_shown_as x.extended x.acked (x.sent - x.acked - 1) nr in
    cond_both (nat_lt x.acked x.sent) (repeats_at o x) (strays x) (Walked Up x) (λ some. again_at nr o x e (ltb-true x.acked x.sent some) refl) (λ none. strayed Up x e)

selective_set_up : (poll : Bool) (x : Station) → x.phase ≡ Up → Walked Up x (sets_up_selective_again poll x)
selective_set_up poll x e = cond_both (length x.taken == 0) (agrees poll (record x { held = []; asked = [] })) (refuses_frame x) (Walked Up x)
    (λ none. rest Up x (agrees poll (record x { held = []; asked = [] })) refl refl refl refl e refl (first_behind x.sent x.said (Ua poll ∷ []) refl))
    (λ some. refused Up x)

-- the rows that differ from those above, and the others
selective_rowed : (p : Phase) (c : Control) (information : List ℕ) (x : Station) → x.phase ≡ p → Walked p x (selective_row p x c information)
selective_rowed Idle control information x e = rowed Idle control information x e
selective_rowed Setting (control.Rej nr) information x e = refused Setting x
selective_rowed Setting (control.Srej nr) information x e = strayed Setting x e
selective_rowed Setting control information x e = rowed Setting control information x e
selective_rowed Up (control.Info ns nr) information x e =
    numbered (number_shown_as x.extended x.acked (x.sent - x.acked) nr) (files ns information) x
    (λ n is. filed nr n (number_shown_as x.extended (length x.taken) (x.window - 1) ns) information x e is)
selective_rowed Up (control.Rej nr) information x e = refused Up x
selective_rowed Up (control.Srej nr) information x e = one_again nr x e
selective_rowed Up (control.Sabm poll) information x e = selective_set_up poll x e
selective_rowed Up (control.Sabme poll) information x e = selective_set_up poll x e
selective_rowed Up control information x e = rowed Up control information x e
selective_rowed Down control information x e = rowed Down control information x e

selective_heard_control : (address : ℕ) (o : Option (Control × List ℕ)) (x : Station) → Walked x.phase x (selective_hears_control address o x)
selective_heard_control address None x = erred x.phase x refl
selective_heard_control address (Some read) x =
    cond_both (is_addressed x.calling address read.0) (if is_selective_error x.calling read.0 read.1 then errs x.phase x else selective_row x.phase x read.0 read.1) (strays x) (Walked x.phase x)
    (λ own. cond_both (is_selective_error x.calling read.0 read.1) (errs x.phase x) (selective_row x.phase x read.0 read.1) (Walked x.phase x)
    (λ wrong. erred x.phase x refl) (λ right. selective_rowed x.phase read.0 read.1 x refl))
    (λ foreign. strayed x.phase x refl)

-- ---- a frame that comes, or octets that are none

ignored : (x y : Station) → station_settings y ≡ station_settings x → y.sent ≡ x.sent → y.acked ≡ x.acked → y.expiries ≡ x.expiries → y.phase ≡ x.phase → y.timer ≡ x.timer
    → y.said ≡ x.said → Walked x.phase x y
ignored x y m s a n e t said = rest x.phase x y m s a n e t (λ c. first_none x.sent y.said (said ∙ c))

pub heard : (selective : Bool) (v : Verdict) (x : Station) → Walked x.phase x (hears_as selective v x)
heard false (Frame_found address body) x =
    cond_both (is_known_address address) (hears_control address (control_of (modulo x.extended) body) x) (strays x) (Walked x.phase x)
    (λ known. heard_control address (control_of (modulo x.extended) body) x) (λ foreign. strayed x.phase x refl)
heard true (Frame_found address body) x =
    cond_both (is_known_address address) (selective_hears_control address (control_of (modulo x.extended) body) x) (strays x) (Walked x.phase x)
    (λ known. selective_heard_control address (control_of (modulo x.extended) body) x) (λ foreign. strayed x.phase x refl)
heard false BadFcs x = ignored x (hears BadFcs x) refl refl refl refl refl refl refl
heard false TooShort x = ignored x (hears TooShort x) refl refl refl refl refl refl refl
heard false TooLong x = ignored x (hears TooLong x) refl refl refl refl refl refl refl
heard false Aborted x = ignored x (hears Aborted x) refl refl refl refl refl refl refl
heard true BadFcs x = ignored x (selective_hears BadFcs x) refl refl refl refl refl refl refl
heard true TooShort x = ignored x (selective_hears TooShort x) refl refl refl refl refl refl refl
heard true TooLong x = ignored x (selective_hears TooLong x) refl refl refl refl refl refl refl
heard true Aborted x = ignored x (selective_hears Aborted x) refl refl refl refl refl refl refl
