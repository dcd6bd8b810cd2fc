-- Recovery of one end at a time: the end whose T1 expires sends again all that is unacknowledged, and whatever the other one lost, once no frame waits that
-- was taken. With the deadline of the other end all was taken both ways.
use Rattle.std.proofs.Common.{◌≡◌, ℕ, ◌<◌, ◌≤◌, ◌⊎◌, inl, inr, max, Bool, true, false, not, ◌||◌, List, [], ◌∷◌, ◌++◌, length, None, refl, sym, ◌∙◌, ap, subst, arith, append-nil, length-append, lt-ltb, true≢false}
use Rattle.std.specs.Prelude.{nat_lt}
use Rattle.std.specs.Option.{option_to_list}
use Rattle.std.proofs.lemmas.Bool.{cases_lt, cond_both}
use Rattle.er_base.specs.declared.side.Side.{Side}
use Rattle.er_base.specs.declared.side.Side.TheVariants.{E, R}
use Rattle.er_base.specs.Sides.{other}
use Rattle.hdlc_frames.specs.Laws.{ControlReadsBack}
use Rattle.hdlc_station_model.specs.declared.phase.Phase.{Phase}
use Rattle.hdlc_station_model.specs.declared.phase.Phase.TheVariants.{Up}
use Rattle.hdlc_station_model.specs.Frames.{Frame, Rr}
use Rattle.hdlc_station_model.specs.Stations.{Station, no_deed, is_up, is_down, sees, puts, settled}
use Rattle.hdlc_station_model.specs.Sending.{waiting, sends_waiting, sends_again, starts_timer, counts_expiry, settles, expires_at}
use Rattle.hdlc_station_model.specs.Selective.{receives_as}
use Rattle.hdlc_station_model.specs.Calls.{finishes, ticks}
use Rattle.hdlc_station_model.specs.Events.{is_late}
use Rattle.hdlc_station_model.specs.Repeating.{MayRepeat}
use Rattle.pair_model.specs.Links.{end_of_side}
use Rattle.pair_model.specs.Steps.{PairStep, Tick, tick_at, tick, pair_run, NoFrameWaits, ArePassesAndTakes}
use Rattle.pair_model.specs.Walks.{pair_run_append}
use Rattle.hdlc_pair_laws.specs.Links.{StationLink, station_kind, opened_station_link}
use Rattle.hdlc_pair_laws.specs.Laws.{StationLinkOpening, after}
use Rattle.hdlc_pair_laws.specs.Invariant.{IsStationPair, Both, infos, receive_numbers_in_frames}
use Rattle.hdlc_pair_laws.specs.Keeping.{found, FramesGive}
use Rattle.hdlc_pair_laws.specs.Recovery.{AreLive, GoOn}
use Rattle.hdlc_pair_laws.specs.EachEnd.{IsFoundExpired, HasExpiryLeft, NoneGivesUp, IsRepaired, RecoveryOfEachEnd, RecoveryInTurn}
use Rattle.hdlc_pair_laws.specs.Mending.{Timed, Own, Rested, Shows, MendsSome}
use Rattle.hdlc_pair_laws.proofs.Ways.{way_bounds}
use Rattle.hdlc_pair_laws.proofs.Events.{swap, finishes_keeps, ticks_keeps}
use Rattle.hdlc_pair_laws.proofs.Lines.{none_on_line, answered}
use Rattle.hdlc_pair_laws.proofs.Acts.{Frames, at_moment, e_begun, r_begun}
use Rattle.hdlc_pair_laws.proofs.Delivered.{all_sent, whole}
use Rattle.hdlc_pair_laws.proofs.Telling.{phases_stay, ticks_tell}
use Rattle.hdlc_pair_laws.proofs.Giving.{up_to_same}
use Rattle.hdlc_pair_laws.proofs.SoundCalls.{ticks_leaves}
use Rattle.hdlc_pair_laws.proofs.Sounds.{Claim, Sounds, ToR, ToE, e_does, r_does, e_own, r_own, same, passes_keep}
use Rattle.hdlc_pair_laws.proofs.SoundRuns.{NoClaim, Sound, passes_sound, after_sound}
use Rattle.hdlc_pair_laws.proofs.Mending.{MendsSomeIn, some_swap, finishes_some}
use Rattle.hdlc_pair_laws.proofs.Repeats.{ticked, up_expires, finishes_shows}
use Rattle.hdlc_pair_laws.proofs.Recovers.{Recovers, received_some, recovers_to_r, recovers_to_e}
use Rattle.hdlc_pair_laws.proofs.Ticks.{called_phase, both_phases, none_taken}
use Rattle.hdlc_pair_laws.proofs.OneTick.{none_late, up_ticks, late_mends, ticks_some, early_stopped}
use Rattle.hdlc_pair_laws.proofs.Recovered.{Behind, both_ticked, took_all, emptied, behind}

-- ---- the payloads that were taken

finishes_taken : (t : Station) → (finishes t).taken ≡ t.taken
finishes_taken t =
    cond_both (is_down t.phase) t (settles t) (λ s. s.taken ≡ t.taken) (λ e. refl)
    (λ e. cond_both t.owed (record (puts (Rr (length t.taken)) t) { owed = false }) t (λ s. s.taken ≡ t.taken) (λ e. refl) (λ e. refl))

ticks_taken : (now : ℕ) (x : Station) → x.phase ≡ Up → MayRepeat now x → (finishes (ticks now x)).taken ≡ x.taken
ticks_taken now x up may =
    let z : Station = sees now x in
    let v : Station = starts_timer (sends_again (counts_expiry z)) in
    finishes_taken (ticks now x)
    ∙ ticked now x (λ t. t.taken ≡ x.taken) (ap is_down up) may (λ none. (up_to_same (waiting z) z).1)
    (λ less.
    let e : expires_at x.phase z ≡ v = ap (λ (q : Phase). expires_at q z) up ∙ up_expires z less in
    subst (λ (t : Station). (sends_waiting t).taken ≡ x.taken) (sym e) (up_to_same (waiting v) v).1)

taken_more : FramesGive → (selective : Bool) (now : ℕ) (y : Station) (f : Frame) (x : Station) → x.deed ≡ no_deed → length x.taken ≤ length (answered selective now y f x).taken
taken_more give selective now y f x none =
    let t : Station = receives_as selective now (found y f) x in
    let news : List (List ℕ) = option_to_list t.deed.payload ++ t.deed.more in
    let g : t.taken ≡ x.taken ++ news = (give selective now (found y f) x none).taken in
    let len = length-append x.taken news in
    let all : length (finishes t).taken ≡ length (x.taken ++ news) = ap (λ (ts : List (List ℕ)). length ts) (finishes_taken t ∙ g) in
    omega (arith, len, all)

-- the called station sends once it took a payload
some_taken : (wd : ℕ) (w : List Frame) (now : ℕ) (x : Station) → x.phase ≡ Up → Own false wd w x → is_late now x ≡ true → 1 ≤ length x.taken
some_taken wd w now x up own late = elim (cases_lt 0 (length x.taken)) [
  | inl some ↦ omega (arith, some)
  | inr none ↦
      let t = subst (λ (p : Phase). Timed p x.timer x.expiries x.acked x.sent) up own.4 in
      let unsent_yet : x.sent ≡ 0 = own.3 refl (let z : length x.taken ≡ 0 = omega (arith, none) in z) in
      let low = t.2 in
      absurd (true≢false (sym late ∙ none_late now x (t.1 (let e : x.acked ≡ x.sent = omega (arith, unsent_yet, low) in e))))
]

-- ---- what this end sent comes, whatever is lost of the other

abbrev SideMends : Side → Claim
SideMends E selective fe e fr r = MendsSome selective true false fe e fr r
SideMends R selective fe e fr r = MendsSome selective false true fe e fr r × (r.deed ≡ no_deed) × (1 ≤ length r.taken)

answered_some : ControlReadsBack → (selective out back c : Bool) (k wd now : ℕ) (w : List Frame) (x : Station) (f : Frame) (fs : List Frame) (y : Station) → (selective ≡ true → k ≡ wd) → x.said ≡ []
    → Both selective k w x (f ∷ fs) y → Own c wd w x → MendsSome selective out back w x (f ∷ fs) y → MendsSomeIn selective out back w (answered selective now y f x) fs y
answered_some law selective out back c k wd now w x f fs y wide quiet b own h =
    let unsaid : w ++ x.said ≡ w = ap (λ (t : List Frame). w ++ t) quiet ∙ append-nil w in
    finishes_some selective out back w fs y (receives_as selective now (found y f) x)
    (received_some law selective out back k now w x f fs y b (λ s. wide s ∙ sym own.1) own.5 (subst (λ (t : List Frame). MendsSome selective out back t x (f ∷ fs) y) (sym unsaid) h))

to_r : ControlReadsBack → FramesGive → (wd : ℕ) (side : Side) → ToR wd (SideMends side)
to_r law give wd E selective k now fr r f fs e wide quiet b own_r own_e rests_r rests_e h =
    let t : Station = answered selective now e f r in
    some_swap selective false true (fr ++ t.said) t fs e (answered_some law selective false true false k wd now fr r f fs e wide quiet b own_r (some_swap selective true false (f ∷ fs) e fr r h))
to_r law give wd R selective k now fr r f fs e wide quiet b own_r own_e rests_r rests_e h =
    let t : Station = answered selective now e f r in
    let more = taken_more give selective now e f r h.1 in (
      some_swap selective true false (fr ++ t.said) t fs e (answered_some law selective true false false k wd now fr r f fs e wide quiet b own_r (some_swap selective false true (f ∷ fs) e fr r h.0)),
      refl,
      omega (arith, more, h.2),
    )

to_e : ControlReadsBack → (wd : ℕ) (side : Side) → ToE wd (SideMends side)
to_e law wd E selective k now fe e f fs r wide quiet b own_e own_r rests_e rests_r h = answered_some law selective true false true k wd now fe e f fs r wide quiet b own_e h
to_e law wd R selective k now fe e f fs r wide quiet b own_e own_r rests_e rests_r h = (answered_some law selective false true true k wd now fe e f fs r wide quiet b own_e h.0, h.1, h.2)

-- ---- the moment comes to both

-- the calling one had its tick
abbrev CallingShows : Claim
CallingShows selective fe e fr r = Shows fe e × (fr ≡ []) × (r.phase ≡ Up)

module _ (selective : Bool) (wd : ℕ) where
  e_ticks : (P : Claim) (l : StationLink) (g : Sound selective wd l) → let x : Station = finishes (ticks l.moment l.e.station) in P selective (g.fe ++ x.said) (settled x) g.fr l.r.station
      → Sounds selective wd P (tick_at (station_kind selective) E l)
  e_ticks P l g claim =
      let e : Station = l.e.station in
      let t : Station = ticks l.moment e in
      e_does selective wd NoClaim P l g (finishes t) (finishes_keeps selective g.k g.fe t g.fr l.r.station (ticks_keeps selective g.k g.fe l.moment e g.fr l.r.station (e_begun selective l g.stands)))
      (ticks_leaves true wd g.fe l.moment e g.stands.pair.0.0.given (e_own selective wd NoClaim l g)) (λ idle. ap is_up (phases_stay.finishes t) ∙ ticks_tell.asleep l.moment e (g.first idle)) claim

  r_ticks : (Q P : Claim) (l : StationLink) (g : Sounds selective wd Q l) → let x : Station = finishes (ticks l.moment l.r.station) in P selective g.fe l.e.station (g.fr ++ x.said) (settled x)
      → Sounds selective wd P (tick_at (station_kind selective) R l)
  r_ticks Q P l g claim =
      let r : Station = l.r.station in
      let t : Station = ticks l.moment r in
      r_does selective wd Q P l g (finishes t) (finishes_keeps selective g.k g.fr t g.fe l.e.station (ticks_keeps selective g.k g.fr l.moment r g.fe l.e.station (r_begun selective l g.stands)))
      (ticks_leaves false wd g.fr l.moment r g.stands.pair.1.0.given (r_own selective wd Q l g)) claim

  -- V(A) is at most V(S)
  e_low : (Q : Claim) (l : StationLink) → Sounds selective wd Q l → l.e.station.acked ≤ l.e.station.sent
  e_low Q l g =
      let e : Station = l.e.station in
      let b = way_bounds g.k e.handed e.acked e.sent l.r.station.taken (infos g.fe) (receive_numbers_in_frames g.fr) g.stands.pair.0.0 in
      omega (arith, b.0, b.1)

  r_low : (Q : Claim) (l : StationLink) → Sounds selective wd Q l → l.r.station.acked ≤ l.r.station.sent
  r_low Q l g =
      let r : Station = l.r.station in
      let b = way_bounds g.k r.handed r.acked r.sent l.e.station.taken (infos g.fr) (receive_numbers_in_frames g.fe) g.stands.pair.1.0 in
      omega (arith, b.0, b.1)

  -- T1 of the calling one is found expired
  e_goes : (l : StationLink) → Sound selective wd l → NoFrameWaits l → l.e.station.phase ≡ Up → l.r.station.phase ≡ Up → is_late l.moment l.e.station ≡ true → l.e.station.expiries < l.e.station.n2
      → HasExpiryLeft l.moment l.r.station → Sounds selective wd (SideMends E) (tick_at (station_kind selective) R (tick_at (station_kind selective) E l))
  e_goes l g empty up_e up_r late less left =
      let e : Station = l.e.station in
      let r : Station = l.r.station in
      let ne : g.fe ≡ [] = none_on_line e g.fe (sym empty.0 ∙ g.stands.lined_x) in
      let nr : g.fr ≡ [] = none_on_line r g.fr (sym empty.1 ∙ g.stands.lined_y) in
      let t : Station = ticks l.moment e in
      let b = ticks_keeps selective g.k g.fe l.moment e g.fr r (e_begun selective l g.stands) in
      let m : StationLink = tick_at (station_kind selective) E l in
      let h : Sounds selective wd (SideMends E) m = e_ticks (SideMends E) l g
      (finishes_some selective true false g.fe g.fr r t
      (late_mends selective true g.k wd g.fe l.moment e g.fr r ne g.stands.quiet_x g.stands.pair b g.own_e up_e (subst (λ (q : List Frame). Shows q r) (sym nr) (tt, tt, up_r)) late less)) in
      let unsaid : h.fr ++ r.said ≡ h.fr = ap (λ (q : List Frame). h.fr ++ q) h.stands.quiet_y ∙ append-nil h.fr in
      let z : Station = finishes (ticks l.moment r) in
      r_ticks (SideMends E) (SideMends E) m h
      (some_swap selective false true (h.fr ++ z.said) z h.fe m.e.station
      (finishes_some selective false true h.fr h.fe m.e.station (ticks l.moment r)
      (ticks_some selective false true h.fr l.moment r h.fe m.e.station up_r (r_low (SideMends E) m h) left
      (subst (λ (q : List Frame). MendsSome selective false true q r h.fe m.e.station) (sym unsaid) (some_swap selective true false h.fe m.e.station h.fr r h.claim)))))

  -- or of the called one
  r_goes : (l : StationLink) → Sound selective wd l → NoFrameWaits l → l.e.station.phase ≡ Up → l.r.station.phase ≡ Up → is_late l.moment l.r.station ≡ true → l.r.station.expiries < l.r.station.n2
      → HasExpiryLeft l.moment l.e.station → Sounds selective wd (SideMends R) (tick_at (station_kind selective) R (tick_at (station_kind selective) E l))
  r_goes l g empty up_e up_r late less left =
      let e : Station = l.e.station in
      let r : Station = l.r.station in
      let ne : g.fe ≡ [] = none_on_line e g.fe (sym empty.0 ∙ g.stands.lined_x) in
      let nr : g.fr ≡ [] = none_on_line r g.fr (sym empty.1 ∙ g.stands.lined_y) in
      let m : StationLink = tick_at (station_kind selective) E l in
      let h : Sounds selective wd CallingShows m = e_ticks CallingShows l g
      (finishes_shows g.fe (ticks l.moment e) (up_ticks true wd g.fe l.moment e ne g.stands.quiet_x up_e (e_low NoClaim l g) g.own_e g.rests_e.0 left), nr, up_r) in
      let t : Station = ticks l.moment r in
      let z : Station = finishes t in
      let b = ticks_keeps selective h.k h.fr l.moment r h.fe m.e.station (r_begun selective m h.stands) in
      let q = finishes_some selective true false h.fr h.fe m.e.station t
      (late_mends selective false h.k wd h.fr l.moment r h.fe m.e.station h.claim.1 h.stands.quiet_y (swap selective h.k h.fe m.e.station h.fr r h.stands.pair) b h.own_r up_r h.claim.0 late less) in
      r_ticks CallingShows (SideMends R) m h (
        some_swap selective true false (h.fr ++ z.said) z h.fe m.e.station q,
        refl,
        subst (λ (ts : List (List ℕ)). 1 ≤ length ts) (sym (ticks_taken l.moment r up_r (inr (late, less)))) (some_taken wd g.fr l.moment r up_r g.own_r late),
      )

  -- while the calling one is setting up both ticks lead to what repairs all, and T1 of the called one doesn't run
  e_ticked : (l : StationLink) (now : ℕ) → Sound selective wd l → AreLive l → NoFrameWaits l → NoneGivesUp now l → IsFoundExpired E now l
      → Sounds selective wd Recovers (tick (station_kind selective) now l) ⊎ Sounds selective wd (SideMends E) (tick (station_kind selective) now l)
  e_ticked l now h live empty none late =
      let e : Station = l.e.station in
      let r : Station = l.r.station in
      let called = called_phase r.phase r.calling r.sent live.1 h.own_r.0 h.stands.pair.1.2 in
      elim (both_phases e.phase r.phase live.0 h.begun h.first called) [
        | inl up ↦ inr (e_goes (at_moment (max l.moment now) l) (same selective wd NoClaim l h _ l.passes l.order_kept _) empty up.0 up.1 late (none.0 late) none.1)
        | inr early ↦
            let stopped : r.timer ≡ None = early_stopped wd h.fr r early.1 h.own_r (none_taken selective h.k h.fe e h.fr r early.0 h.stands.pair) in
            inl (both_ticked selective wd l now h live empty (inr (late, none.0 late), inl stopped))
      ]

  r_ticked : (l : StationLink) (now : ℕ) → Sound selective wd l → AreLive l → NoFrameWaits l → NoneGivesUp now l → IsFoundExpired R now l
      → Sounds selective wd (SideMends R) (tick (station_kind selective) now l)
  r_ticked l now h live empty none late =
      let e : Station = l.e.station in
      let r : Station = l.r.station in
      let called = called_phase r.phase r.calling r.sent live.1 h.own_r.0 h.stands.pair.1.2 in
      elim (both_phases e.phase r.phase live.0 h.begun h.first called) [
        | inl up ↦ r_goes (at_moment (max l.moment now) l) (same selective wd NoClaim l h _ l.passes l.order_kept _) empty up.0 up.1 late (none.1 late) none.0
        | inr early ↦
            let stopped : r.timer ≡ None = early_stopped wd h.fr r early.1 h.own_r (none_taken selective h.k h.fe e h.fr r early.0 h.stands.pair) in
            absurd (true≢false (sym late ∙ none_late (max l.moment now) r stopped))
      ]

-- ---- no frame waits any more

-- of x: T1 doesn't run, no expiry is counted, and all was taken
record Done (x y : Station) : Type 0 where
  stopped : x.timer ≡ None
  none : x.expiries ≡ 0
  took : y.taken ≡ x.handed

-- all that it sent was taken, and is acknowledged
pub way_acked : (selective c : Bool) (k wd : ℕ) (lx : List Frame) (x : Station) (ly : List Frame) (y : Station) → lx ≡ [] → ly ≡ [] → IsStationPair selective k lx x ly y → Own c wd ly y
    → Rested y → MendsSome selective true false lx x ly y → (length y.taken ≡ x.sent) × (x.acked ≡ x.sent)
way_acked selective c k wd lx x ly y ex ey p own_y rests_y m =
    let b = way_bounds k x.handed x.acked x.sent y.taken (infos lx) (receive_numbers_in_frames ly) p.0.0 in
    let way = subst (λ (t : List Frame). MendsSome selective true false t x [] y) ex (subst (λ (t : List Frame). MendsSome selective true false lx x t y) ey m) in
    let all : length y.taken ≡ x.sent = took_all selective (length y.taken) x.sent y.held b.1 own_y.5 (way.0.0 refl).0 in
    let acked : x.acked ≡ length y.taken = (way.0.0 refl).1 (rests_y.1 (ap is_down m.0.5)) refl in
    (all, acked ∙ all)

pub up_stopped : (c : Bool) (wd : ℕ) (lx : List Frame) (x : Station) → Own c wd lx x → x.phase ≡ Up → x.acked ≡ x.sent → (x.timer ≡ None) × (x.expiries ≡ 0)
up_stopped c wd lx x own up acked =
    let t = subst (λ (q : Phase). Timed q x.timer x.expiries x.acked x.sent) up own.4 in
    (t.1 acked, (t.0 (t.1 acked)).1)

way_done : (selective c : Bool) (k wd : ℕ) (lx : List Frame) (x : Station) (ly : List Frame) (y : Station) → 1 ≤ wd → lx ≡ [] → ly ≡ [] → IsStationPair selective k lx x ly y → Own c wd lx x
    → Own (not c) wd ly y → Rested x → Rested y → MendsSome selective true false lx x ly y → (x.calling || nat_lt 0 (length x.taken)) ≡ true → Done x y
way_done selective c k wd lx x ly y some ex ey p own_x own_y rests_x rests_y m may =
    let a = way_acked selective (not c) k wd lx x ly y ex ey p own_y rests_y m in
    let stopped = up_stopped c wd lx x own_x m.0.4 a.1 in
    let sent : x.sent ≡ length x.handed = all_sent x c m.0.4 own_x.2 (sym a.1) (subst (λ (n : ℕ). 1 ≤ n) (sym own_x.1) some) may rests_x.0 in
    record { stopped = stopped.0; none = stopped.1; took = whole y.taken x.handed x.sent p.0.0.prefix a.0 sent }

module _ (selective : Bool) (wd : ℕ) (some : 1 ≤ wd) where
  -- behind the passes: one way is repaired, both stations are live, and what holds of each alone holds yet
  record Passed (side : Side) (l : StationLink) : Type 0 where
    repaired : IsRepaired side l
    live : AreLive l
    sound : Sound selective wd l

  forgets : (Q : Claim) (l : StationLink) → Sounds selective wd Q l → Sound selective wd l
  forgets Q l h =
      record { k = h.k; fe = h.fe; fr = h.fr; stands = h.stands; own_e = h.own_e; own_r = h.own_r; rests_e = h.rests_e; rests_r = h.rests_r; first = h.first; wide = h.wide; begun = h.begun; claim = tt }

  one_emptied : (side : Side) (l : StationLink) → NoFrameWaits l → Sounds selective wd (SideMends side) l → Passed side l
  one_emptied E l empty g =
      let e : Station = l.e.station in
      let r : Station = l.r.station in
      let ne : g.fe ≡ [] = none_on_line e g.fe (sym empty.0 ∙ g.stands.lined_x) in
      let nr : g.fr ≡ [] = none_on_line r g.fr (sym empty.1 ∙ g.stands.lined_y) in
      let d = way_done selective true g.k wd g.fe e g.fr r some ne nr g.stands.pair g.own_e g.own_r g.rests_e g.rests_r g.claim (ap (λ (c : Bool). c || nat_lt 0 (length e.taken)) g.own_e.0) in
      record { repaired = record { stopped = d.stopped; none = d.none; took = d.took }; live = (ap is_down g.claim.0.4, ap is_down g.claim.0.5); sound = forgets (SideMends E) l g }
  one_emptied R l empty g =
      let e : Station = l.e.station in
      let r : Station = l.r.station in
      let ne : g.fe ≡ [] = none_on_line e g.fe (sym empty.0 ∙ g.stands.lined_x) in
      let nr : g.fr ≡ [] = none_on_line r g.fr (sym empty.1 ∙ g.stands.lined_y) in
      let took : 0 < length r.taken = g.claim.2 in
      let may : (r.calling || nat_lt 0 (length r.taken)) ≡ true = ap (λ (c : Bool). c || nat_lt 0 (length r.taken)) g.own_r.0 ∙ lt-ltb 0 (length r.taken) took in
      let d = way_done selective false g.k wd g.fr r g.fe e some nr ne (swap selective g.k g.fe e g.fr r g.stands.pair) g.own_r g.own_e g.rests_r g.rests_e
      (some_swap selective false true g.fe e g.fr r g.claim.0) may in
      record { repaired = record { stopped = d.stopped; none = d.none; took = d.took }; live = (ap is_down g.claim.0.0.4, ap is_down g.claim.0.0.5); sound = forgets (SideMends R) l g }

  both_emptied : (l : StationLink) → NoFrameWaits l → Sounds selective wd Recovers l → Passed E l
  both_emptied l empty g =
      let m = emptied selective wd l some g empty in
      record { repaired = record { stopped = m.x_stopped.0; none = m.x_stopped.1; took = m.at_y }; live = (ap is_down m.x_up, ap is_down m.y_up); sound = forgets Recovers l g }

  -- the tick, and passes until no frame waits
  passed : Frames → FramesGive → (side : Side) (l : StationLink) (now : ℕ) → Sound selective wd l → AreLive l → NoFrameWaits l → NoneGivesUp now l → IsFoundExpired side now l
      → (second : List PairStep) → ArePassesAndTakes second → NoFrameWaits (pair_run (station_kind selective) l (Tick now ∷ second)) → Passed side (pair_run (station_kind selective) l (Tick now ∷ second))
  passed laws give E l now h live empty none late second are end =
      let m : StationLink = tick (station_kind selective) now l in
      elim (e_ticked selective wd l now h live empty none late) [
        | inl g ↦ both_emptied (pair_run (station_kind selective) m second) end (passes_keep selective wd Recovers laws (recovers_to_r laws.back wd) (recovers_to_e laws.back wd) second m are g).0
        | inr g ↦ one_emptied E (pair_run (station_kind selective) m second) end (passes_keep selective wd (SideMends E) laws (to_r laws.back give wd E) (to_e laws.back wd E) second m are g).0
      ]
  passed laws give R l now h live empty none late second are end =
      let m : StationLink = tick (station_kind selective) now l in
      let g = r_ticked selective wd l now h live empty none late in
      one_emptied R (pair_run (station_kind selective) m second) end (passes_keep selective wd (SideMends R) laws (to_r laws.back give wd R) (to_e laws.back wd R) second m are g).0

-- ---- the laws

-- up to the tick
after_passed : Frames → FramesGive → (s : StationLinkOpening) (steps : List PairStep) → (after s steps).order_kept ≡ true → AreLive (after s steps)
    → (first : List PairStep) → ArePassesAndTakes first → NoFrameWaits (after s (steps ++ first))
    → (now : ℕ) → NoneGivesUp now (after s (steps ++ first)) → (side : Side) → IsFoundExpired side now (after s (steps ++ first))
    → (second : List PairStep) → ArePassesAndTakes second → NoFrameWaits (pair_run (station_kind s.selective) (after s (steps ++ first)) (Tick now ∷ second))
    → Passed s.selective s.window s.some side (pair_run (station_kind s.selective) (after s (steps ++ first)) (Tick now ∷ second))
after_passed laws give s steps kept live first passes empty now none side late second more end =
    let b : Bool = s.selective in
    let wd : ℕ = s.window in
    let o : StationLink = opened_station_link b s.extended wd s.n2 s.t1 s.moment in
    let l : StationLink = after s (steps ++ first) in
    let split : l ≡ pair_run (station_kind b) (after s steps) first = pair_run_append (station_kind b) steps first o in
    let h = passes_sound b wd laws first (after s steps) passes (after_sound laws s steps kept) in
    passed b wd s.some laws give side l now (subst (Sound b wd) (sym split) h.0) (subst AreLive (sym split) (h.1 live)) empty none late second more end

-- how the lists are joined
join : (s : StationLinkOpening) (steps first more : List PairStep) → after s (steps ++ first ++ more) ≡ pair_run (station_kind s.selective) (after s (steps ++ first)) more
join s steps first more =
    pair_run_append (station_kind s.selective) (steps ++ first) more (opened_station_link s.selective s.extended s.window s.n2 s.t1 s.moment)

pub recovery_of_each_end : Frames → FramesGive → RecoveryOfEachEnd
recovery_of_each_end laws give s steps kept live first passes empty now none side late second more end =
    let e = join s steps first (Tick now ∷ second) in
    subst (IsRepaired side) (sym e) (after_passed laws give s steps kept live first passes empty now none side late second more (subst NoFrameWaits e end)).repaired

may_go_on : (side : Side) (l : StationLink) (later : ℕ) → (end_of_side l side).station.timer ≡ None → MayRepeat (max l.moment later) (end_of_side l (other side)).station → GoOn later l
may_go_on E l later stopped may = (inl stopped, may)
may_go_on R l later stopped may = (may, inl stopped)

pub recovery_in_turn : Frames → FramesGive → RecoveryInTurn
recovery_in_turn laws give s steps kept live first passes empty now none side late second more end later may third last done =
    let b : Bool = s.selective in
    let e = join s steps first (Tick now ∷ second) in
    let p = after_passed laws give s steps kept live first passes empty now none side late second more (subst NoFrameWaits e end) in
    let m : StationLink = after s (steps ++ first ++ Tick now ∷ second) in
    let sound = subst (Sound b s.window) (sym e) p.sound in
    let all : after s (steps ++ first ++ Tick now ∷ second ++ Tick later ∷ third) ≡ pair_run (station_kind b) m (Tick later ∷ third) =
    pair_run_append (station_kind b) (steps ++ first ++ Tick now ∷ second) (Tick later ∷ third) (opened_station_link b s.extended s.window s.n2 s.t1 s.moment) in
    let h = behind laws b s.window m s.some sound (subst AreLive (sym e) p.live) end later (may_go_on side m later (subst (IsRepaired side) (sym e) p.repaired).stopped may) third last (subst NoFrameWaits all done) in
    let g : Behind (after s (steps ++ first ++ Tick now ∷ second ++ Tick later ∷ third)) = subst Behind (sym all) h in
    (g.recovered, g.renewed)
