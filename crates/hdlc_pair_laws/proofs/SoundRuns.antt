-- Each step of an order-keeping line keeps what holds of each station alone; while frames are given alone, no live end is released.
use Rattle.std.proofs.Common.{◌≡◌, ℕ, inl, max, Bool, true, false, List, [], ◌∷◌, None, refl, sym, ◌∙◌, ap, subst, true≢false}
use Rattle.std.proofs.lemmas.Bool.{cond_both}
use Rattle.er_base.specs.declared.side.Side.{Side}
use Rattle.er_base.specs.declared.side.Side.TheVariants.{E, R}
use Rattle.hdlc_station_model.specs.declared.phase.Phase.{Phase}
use Rattle.hdlc_station_model.specs.declared.phase.Phase.TheVariants.{Idle, Setting, Up, Down}
use Rattle.hdlc_station_model.specs.Frames.{Frame, SetUp}
use Rattle.hdlc_station_model.specs.Stations.{Station, is_up, is_down}
use Rattle.hdlc_station_model.specs.Calls.{hands, finishes, ticks, closes_at}
use Rattle.hdlc_station_model.specs.Events.{quits}
use Rattle.pair_model.specs.Links.{frames_from}
use Rattle.pair_model.specs.Steps.{PairStep, send, lose, repeat, release, tick_at, tick, pair_run, ArePassesAndTakes}
use Rattle.pair_model.specs.Walks.{pair_run_append, all_send_any, runs_keep_in_order}
use Rattle.hdlc_pair_laws.specs.Links.{StationLink, station_kind, opened_station_link}
use Rattle.hdlc_pair_laws.specs.Laws.{StationLinkOpening, after}
use Rattle.hdlc_pair_laws.specs.Timers.{TimedAt, TimersRun}
use Rattle.hdlc_pair_laws.specs.Recovery.{AreLive, PassesRelease}
use Rattle.hdlc_pair_laws.specs.Mending.{Own, Timed}
use Rattle.hdlc_pair_laws.proofs.Events.{finishes_keeps, hands_keeps, ticks_keeps, quits_keeps}
use Rattle.hdlc_pair_laws.proofs.Lines.{first_of_line}
use Rattle.hdlc_pair_laws.proofs.Acts.{Frames, at_moment, unmoved_keeps, sends, releases, e_begun, r_begun, e_repeated, r_repeated}
use Rattle.hdlc_pair_laws.proofs.Opened.{span_of, opened_stands}
use Rattle.hdlc_pair_laws.proofs.Runs.{short_enough}
use Rattle.hdlc_pair_laws.proofs.Telling.{phases_stay, ticks_tell}
use Rattle.hdlc_pair_laws.proofs.SoundCalls.{hands_leaves, ticks_leaves, quits_leaves}
use Rattle.hdlc_pair_laws.proofs.Sounds.{Claim, Sounds, own_twice, e_does, r_does, e_loses, r_loses, e_own, r_own, same, ToR, ToE, passed, passes_keep}

-- nothing is claimed besides
abbrev pub NoClaim : Claim
NoClaim selective fe e fr r = Unit {0}

abbrev pub Sound : (selective : Bool) (window : ℕ) → StationLink → Type 0
Sound selective window l = Sounds selective window NoClaim l

-- ---- a frame is passed

to_r : (wd : ℕ) → ToR wd NoClaim
to_r wd selective k now fr r f fs e wide quiet b or oe rr re c = tt

to_e : (wd : ℕ) → ToE wd NoClaim
to_e wd selective k now fe e f fs r wide quiet b oe or re rr c = tt

quits_down : (sub : ℕ) (x : Station) → is_down x.phase ≡ false → is_up (quits sub x).phase ≡ false
quits_down sub x live =
    cond_both (is_down x.phase) x (record (closes_at x.phase x) { phase = Down; timer = None }) (λ t. is_up t.phase ≡ false) (λ down. absurd (true≢false (sym down ∙ live))) (λ e. refl)

module _ (selective : Bool) (wd : ℕ) where
  pub passes_sound : Frames → (passes : List PairStep) (l : StationLink) → ArePassesAndTakes passes → Sound selective wd l
      → Sound selective wd (pair_run (station_kind selective) l passes) × (AreLive l → AreLive (pair_run (station_kind selective) l passes))
  passes_sound laws passes l p h = passes_keep selective wd NoClaim laws (to_r wd) (to_e wd) passes l p h

  -- ---- sends

  sent_sound : (side : Side) (p : List ℕ) (l : StationLink) → Sound selective wd l → Sound selective wd (send (station_kind selective) side p l)
  sent_sound E p l h =
      let x : Station = hands l.moment p l.e.station in
      sends selective (Sound selective wd) E p l
      (λ may. e_does selective wd NoClaim NoClaim l h (finishes x)
      (finishes_keeps selective h.k h.fe x h.fr l.r.station (hands_keeps selective h.k h.fe l.moment l.e.station h.fr l.r.station p (short_enough p l.e.station may) (e_begun selective l h.stands)))
      (hands_leaves true wd h.fe l.moment p l.e.station h.stands.pair.0.0.given (e_own selective wd NoClaim l h))
      (λ idle. ap is_up (phases_stay.finishes x ∙ phases_stay.hands l.moment p l.e.station) ∙ h.first idle) tt) h
  sent_sound R p l h =
      let x : Station = hands l.moment p l.r.station in
      sends selective (Sound selective wd) R p l
      (λ may. r_does selective wd NoClaim NoClaim l h (finishes x)
      (finishes_keeps selective h.k h.fr x h.fe l.e.station (hands_keeps selective h.k h.fr l.moment l.r.station h.fe l.e.station p (short_enough p l.r.station may) (r_begun selective l h.stands)))
      (hands_leaves false wd h.fr l.moment p l.r.station h.stands.pair.1.0.given (r_own selective wd NoClaim l h)) tt) h

  -- ---- a frame is lost or repeated

  lost_sound : (side : Side) (line : List (List ℕ)) (l : StationLink) → frames_from l side ≡ line → Sound selective wd l → Sound selective wd (lose side line l)
  lost_sound side [] l e h = h
  lost_sound E (octets ∷ rest) l e h = e_loses selective wd NoClaim NoClaim l octets rest h (first_of_line l.e.station octets rest h.fe (sym e ∙ h.stands.lined_x)) tt
  lost_sound R (octets ∷ rest) l e h = r_loses selective wd NoClaim NoClaim l octets rest h (first_of_line l.r.station octets rest h.fr (sym e ∙ h.stands.lined_y)) tt

  repeated_sound : (side : Side) (line : List (List ℕ)) (l : StationLink) → frames_from l side ≡ line → Sound selective wd l → Sound selective wd (repeat side line l)
  repeated_sound side [] l e h = h
  repeated_sound E (octets ∷ rest) l e h =
      let f = first_of_line l.e.station octets rest h.fe (sym e ∙ h.stands.lined_x) in
      record {
        k = h.k;
        fe = f.frame ∷ f.frame ∷ f.frames;
        fr = h.fr;
        stands = e_repeated selective l h.stands octets rest f;
        own_e = own_twice true wd f.frame f.frames l.e.station (subst (λ (q : List Frame). Own true wd q l.e.station) f.all h.own_e);
        own_r = h.own_r;
        rests_e = h.rests_e;
        rests_r = h.rests_r;
        first = h.first;
        wide = h.wide;
        begun = h.begun;
        claim = tt;
      }
  repeated_sound R (octets ∷ rest) l e h =
      let f = first_of_line l.r.station octets rest h.fr (sym e ∙ h.stands.lined_y) in
      record {
        k = h.k;
        fe = h.fe;
        fr = f.frame ∷ f.frame ∷ f.frames;
        stands = r_repeated selective l h.stands octets rest f;
        own_e = h.own_e;
        own_r = own_twice false wd f.frame f.frames l.r.station (subst (λ (q : List Frame). Own false wd q l.r.station) f.all h.own_r);
        rests_e = h.rests_e;
        rests_r = h.rests_r;
        first = h.first;
        wide = h.wide;
        begun = h.begun;
        claim = tt;
      }

  -- ---- a release, a tick

  released_sound : (side : Side) (sub : ℕ) (l : StationLink) → Sound selective wd l → Sound selective wd (release (station_kind selective) side sub l)
  released_sound E sub l h =
      let lossy : StationLink = record l { loss_free = false } in
      let g : Sound selective wd lossy = same selective wd NoClaim l h l.moment l.passes l.order_kept false in
      releases selective (Sound selective wd) E sub l g
      (λ live. e_does selective wd NoClaim NoClaim lossy g (quits sub l.e.station) (quits_keeps selective g.k g.fe l.e.station g.fr l.r.station sub (e_begun selective lossy g.stands))
      (quits_leaves true wd g.fe sub l.e.station live (e_own selective wd NoClaim lossy g)) (λ idle. quits_down sub l.e.station live) tt)
  released_sound R sub l h =
      let lossy : StationLink = record l { loss_free = false } in
      let g : Sound selective wd lossy = same selective wd NoClaim l h l.moment l.passes l.order_kept false in
      releases selective (Sound selective wd) R sub l g
      (λ live. r_does selective wd NoClaim NoClaim lossy g (quits sub l.r.station) (quits_keeps selective g.k g.fr l.r.station g.fe l.e.station sub (r_begun selective lossy g.stands))
      (quits_leaves false wd g.fr sub l.r.station live (r_own selective wd NoClaim lossy g)) tt)

  e_ticked : (l : StationLink) → Sound selective wd l → Sound selective wd (tick_at (station_kind selective) E l)
  e_ticked l h =
      let x : Station = ticks l.moment l.e.station in
      e_does selective wd NoClaim NoClaim l h (finishes x)
      (finishes_keeps selective h.k h.fe x h.fr l.r.station (ticks_keeps selective h.k h.fe l.moment l.e.station h.fr l.r.station (e_begun selective l h.stands)))
      (ticks_leaves true wd h.fe l.moment l.e.station h.stands.pair.0.0.given (e_own selective wd NoClaim l h))
      (λ idle. ap is_up (phases_stay.finishes x) ∙ ticks_tell.asleep l.moment l.e.station (h.first idle)) tt

  r_ticked : (l : StationLink) → Sound selective wd l → Sound selective wd (tick_at (station_kind selective) R l)
  r_ticked l h =
      let x : Station = ticks l.moment l.r.station in
      r_does selective wd NoClaim NoClaim l h (finishes x)
      (finishes_keeps selective h.k h.fr x h.fe l.e.station (ticks_keeps selective h.k h.fr l.moment l.r.station h.fe l.e.station (r_begun selective l h.stands)))
      (ticks_leaves false wd h.fr l.moment l.r.station h.stands.pair.1.0.given (r_own selective wd NoClaim l h)) tt

  ticked_sound : (now : ℕ) (l : StationLink) → Sound selective wd l → Sound selective wd (tick (station_kind selective) now l)
  ticked_sound now l h =
      let first : StationLink = at_moment (max l.moment now) l in
      r_ticked (tick_at (station_kind selective) E first) (e_ticked first (same selective wd NoClaim l h _ l.passes l.order_kept _))

-- ---- a link that was just opened

pub wide_at : (selective extended : Bool) (window : ℕ) → selective ≡ true → span_of selective extended window ≡ window
wide_at true extended window e = refl
wide_at false extended window e = absurd cc

opened_sound : (s : StationLinkOpening) → Sound s.selective s.window (opened_station_link s.selective s.extended s.window s.n2 s.t1 s.moment)
opened_sound s = record {
  k = span_of s.selective s.extended s.window;
  fe = SetUp ∷ [];
  fr = [];
  stands = opened_stands s;
  own_e = (refl, refl, refl, λ called none. refl, λ none. absurd cc, refl, λ live. (tt, tt), λ idle. absurd cc);
  own_r = (refl, refl, refl, λ called none. refl, (refl, refl), refl, λ live. tt, λ idle. (refl, refl));
  rests_e = (inl refl, λ live. refl);
  rests_r = (inl refl, λ live. refl);
  first = λ idle. refl;
  wide = wide_at s.selective s.extended s.window;
  begun = λ idle. absurd cc;
  claim = tt;
}

pub after_sound : Frames → (s : StationLinkOpening) (steps : List PairStep) → (after s steps).order_kept ≡ true → Sound s.selective s.window (after s steps)
after_sound laws s steps =
    let b : Bool = s.selective in
    let wd : ℕ = s.window in
    runs_keep_in_order (station_kind b) (λ user. Unit {0}) (Sound b wd) (record {
      sent = λ side user l any. sent_sound b wd side user l;
      passed = λ side l h. (passed b wd NoClaim laws (to_r wd) (to_e wd) side l h).0;
      lost = λ side l. lost_sound b wd side (frames_from l side) l refl;
      repeated = λ side l. repeated_sound b wd side (frames_from l side) l refl;
      took = unmoved_keeps (Sound b wd);
      released = released_sound b wd;
      ticked = ticked_sound b wd;
    }) steps (opened_station_link b s.extended wd s.n2 s.t1 s.moment) (all_send_any steps) (opened_sound s)

-- ---- passes release no live end

pub passes_release : Frames → PassesRelease
passes_release laws s steps kept live passes p =
    subst AreLive (sym (pair_run_append (station_kind s.selective) steps passes (opened_station_link s.selective s.extended s.window s.n2 s.t1 s.moment)))
    ((passes_sound s.selective s.window laws passes (after s steps) p (after_sound laws s steps kept)).1 live)

-- ---- T1

timed_at : (p : Phase) (x : Station) → Timed p x.timer x.expiries x.acked x.sent → TimedAt p x
timed_at Idle x h = h
timed_at Setting x h = h
timed_at Up x h = (h.0, h.1)
timed_at Down x h = h

pub timers_run : Frames → TimersRun
timers_run laws s steps kept =
    let h = after_sound laws s steps kept in
    let l : StationLink = after s steps in
    (timed_at l.e.station.phase l.e.station h.own_e.4, timed_at l.r.station.phase l.r.station h.own_r.4)
