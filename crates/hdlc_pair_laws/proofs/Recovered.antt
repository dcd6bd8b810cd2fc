-- The law of recovery: the tick sends again all that is unacknowledged, and once no frame waits behind it, all was taken.
use Rattle.std.proofs.Common.{◌≡◌, ℕ, ◌<◌, ◌≤◌, inl, inr, max, Bool, true, false, ◌||◌, List, [], ◌∷◌, ◌++◌, length, None, refl, sym, ◌∙◌, ap, subst, arith, append-nil, lt-ltb, true≢false}
use Rattle.std.specs.Prelude.{nat_lt}
use Rattle.std.proofs.lemmas.Bool.{cases_lt}
use Rattle.er_base.specs.declared.side.Side.TheVariants.{E, R}
use Rattle.hdlc_station_model.specs.declared.phase.Phase.{Phase}
use Rattle.hdlc_station_model.specs.Frames.{Frame, SetUp, Ua}
use Rattle.hdlc_station_model.specs.Stations.{Station, is_up, is_down, settled}
use Rattle.hdlc_station_model.specs.Selective.{held_for, is_found}
use Rattle.hdlc_station_model.specs.Calls.{finishes, ticks}
use Rattle.pair_model.specs.Steps.{PairStep, Tick, tick_at, tick, pair_run, NoFrameWaits, ArePassesAndTakes}
use Rattle.pair_model.specs.Walks.{pair_run_append}
use Rattle.hdlc_pair_laws.specs.Links.{StationLink, station_kind, opened_station_link}
use Rattle.hdlc_pair_laws.specs.Laws.{StationLinkOpening, after}
use Rattle.hdlc_pair_laws.specs.Invariant.{IsStationPair}
use Rattle.hdlc_pair_laws.specs.Recovery.{AreLive, GoOn, IsRecovered, Recovery}
use Rattle.hdlc_station_model.specs.Repeating.{MayRepeat}
use Rattle.hdlc_pair_laws.specs.Timers.{IsRenewed, Renewal}
use Rattle.hdlc_pair_laws.specs.Mending.{Timed, Own, Rested, HasAllSentComing, Mends, HalfTicked, Ticked, Reached}
use Rattle.hdlc_pair_laws.specs.Repairs.{IsMended}
use Rattle.hdlc_pair_laws.proofs.Ways.{way_bounds}
use Rattle.hdlc_pair_laws.proofs.Events.{finishes_keeps, ticks_keeps}
use Rattle.hdlc_pair_laws.proofs.Lines.{none_on_line}
use Rattle.hdlc_pair_laws.proofs.Acts.{Frames, at_moment, e_begun, r_begun}
use Rattle.hdlc_pair_laws.proofs.Delivered.{all_sent, whole}
use Rattle.hdlc_pair_laws.proofs.Telling.{phases_stay, ticks_tell}
use Rattle.hdlc_pair_laws.proofs.SoundCalls.{ticks_leaves}
use Rattle.hdlc_pair_laws.proofs.Sounds.{Claim, Sounds, e_does, r_does, e_own, r_own, same, passes_keep}
use Rattle.hdlc_pair_laws.proofs.SoundRuns.{NoClaim, Sound, passes_sound, after_sound}
use Rattle.hdlc_pair_laws.proofs.Recovers.{Recovers, turned_reached, settled_reached, finished_reached, recovers_to_r, recovers_to_e}
use Rattle.hdlc_pair_laws.proofs.Ticks.{calling_ticks, called_ticks}

-- ---- the tick

-- once the calling station ticked
abbrev HalfRecovers : Claim
HalfRecovers selective fe e fr r = Reached HalfTicked selective true fe e fr r

module _ (selective : Bool) (wd : ℕ) where
  e_ticks : (l : StationLink) → Sound selective wd l → AreLive l → NoFrameWaits l → MayRepeat l.moment l.e.station → Sounds selective wd HalfRecovers (tick_at (station_kind selective) E l)
  e_ticks l g live empty may =
      let e : Station = l.e.station in
      let r : Station = l.r.station in
      let t : Station = ticks l.moment e in
      let x : Station = finishes t in
      let ne : g.fe ≡ [] = none_on_line e g.fe (sym empty.0 ∙ g.stands.lined_x) in
      let nr : g.fr ≡ [] = none_on_line r g.fr (sym empty.1 ∙ g.stands.lined_y) in
      e_does selective wd NoClaim HalfRecovers l g x (finishes_keeps selective g.k g.fe t g.fr r (ticks_keeps selective g.k g.fe l.moment e g.fr r (e_begun selective l g.stands)))
      (ticks_leaves true wd g.fe l.moment e g.stands.pair.0.0.given (e_own selective wd NoClaim l g))
      (λ idle. ap is_up (phases_stay.finishes t) ∙ ticks_tell.asleep l.moment e (g.first idle))
      (settled_reached HalfTicked selective true (g.fe ++ x.said) x g.fr r
      (finished_reached HalfTicked selective true g.fe t g.fr r tt
      (calling_ticks selective g.k wd g.fe l.moment e g.fr r ne nr g.stands.quiet_x g.stands.pair g.own_e g.own_r g.rests_e g.rests_r (g.first, g.begun) live.0 live.1 may)))

  r_ticks : (l : StationLink) → Sounds selective wd HalfRecovers l → MayRepeat l.moment l.r.station → Sounds selective wd Recovers (tick_at (station_kind selective) R l)
  r_ticks l g may =
      let e : Station = l.e.station in
      let r : Station = l.r.station in
      let t : Station = ticks l.moment r in
      let x : Station = finishes t in
      let h = turned_reached HalfTicked selective true g.fe e g.fr r g.claim in
      let b = r_begun selective l g.stands in
      let unsaid : g.fr ++ r.said ≡ g.fr = ap (λ (v : List Frame). g.fr ++ v) g.stands.quiet_y ∙ append-nil g.fr in
      r_does selective wd HalfRecovers Recovers l g x (finishes_keeps selective g.k g.fr t g.fe e (ticks_keeps selective g.k g.fr l.moment r g.fe e b))
      (ticks_leaves false wd g.fr l.moment r g.stands.pair.1.0.given (r_own selective wd HalfRecovers l g))
      (turned_reached Ticked selective false (g.fr ++ x.said) (settled x) g.fe e (settled_reached Ticked selective false (g.fr ++ x.said) x g.fe e
      (finished_reached Ticked selective false g.fr t g.fe e tt
      (called_ticks selective g.k wd g.fr l.moment r g.fe e g.stands.quiet_y b g.own_r
      (subst (λ (v : List Frame). Reached HalfTicked selective false v r g.fe e) (sym unsaid) h) may))))

  pub both_ticked : (l : StationLink) (now : ℕ) → Sound selective wd l → AreLive l → NoFrameWaits l → GoOn now l → Sounds selective wd Recovers (tick (station_kind selective) now l)
  both_ticked l now h live empty may =
      let first : StationLink = at_moment (max l.moment now) l in
      let g : Sound selective wd first = same selective wd NoClaim l h _ l.passes l.order_kept _ in
      r_ticks (tick_at (station_kind selective) E first) (e_ticks first g live empty may.0) may.1

-- ---- no frame waits any more

pub took_all : (selective : Bool) (next sent : ℕ) (held : List (ℕ × List ℕ)) → next ≤ sent → held_for next held ≡ None → HasAllSentComing selective next held [] sent → next ≡ sent
took_all true next sent held le free h = elim (cases_lt next sent) [
  | inl lower ↦ elim (h next (omega arith) lower) [ inl is ↦ absurd (true≢false (sym is ∙ ap is_found free)) | inr w ↦ absurd w ]
  | inr top ↦ omega (arith, le, top)
]
took_all false next sent held le free h = h

-- both are up, and all is acknowledged
mended_at : (selective : Bool) (k wd : ℕ) (x y : Station) → 1 ≤ wd → IsStationPair selective k [] x [] y → Own true wd [] x → Own false wd [] y → Rested x → Rested y → Mends selective [] x [] y → IsMended x y
mended_at selective k wd x y some p own_x own_y rests_x rests_y m =
    let bx = way_bounds k x.handed x.acked x.sent y.taken [] [] p.0.0 in
    let by = way_bounds k y.handed y.acked y.sent x.taken [] [] p.1.0 in
    let all_x : length y.taken ≡ x.sent = took_all selective (length y.taken) x.sent y.held bx.1 own_y.5 m.0.0.0 in
    let all_y : length x.taken ≡ y.sent = took_all selective (length x.taken) y.sent x.held by.1 own_x.5 m.0.1 in
    let acked_x : x.acked ≡ length y.taken = m.0.0.1 (rests_y.1 (ap is_down m.0.5)) refl in
    let acked_y : y.acked ≡ length x.taken = m.1 (rests_x.1 (ap is_down m.0.4)) refl in
    let tx = subst (λ (p : Phase). Timed p x.timer x.expiries x.acked x.sent) m.0.4 own_x.4 in
    let ty = subst (λ (p : Phase). Timed p y.timer y.expiries y.acked y.sent) m.0.5 own_y.4 in
    let sent_x : x.sent ≡ length x.handed =
    all_sent x true m.0.4 own_x.2 (sym (acked_x ∙ all_x)) (subst (λ (n : ℕ). 1 ≤ n) (sym own_x.1) some) (ap (λ (c : Bool). c || nat_lt 0 (length x.taken)) own_x.0) rests_x.0 in
    let sent_y : 1 ≤ length x.handed → y.sent ≡ length y.handed = λ given.
    let first : 0 < length y.taken = omega (arith, all_x, sent_x, given) in
    let may : (y.calling || nat_lt 0 (length y.taken)) ≡ true = ap (λ (c : Bool). c || nat_lt 0 (length y.taken)) own_y.0 ∙ lt-ltb 0 (length y.taken) first in
    all_sent y false m.0.5 own_y.2 (sym (acked_y ∙ all_y)) (subst (λ (n : ℕ). 1 ≤ n) (sym own_y.1) some) may rests_y.0 in
    record {
      x_up = m.0.4;
      y_up = m.0.5;
      at_y = whole y.taken x.handed x.sent p.0.0.prefix all_x sent_x;
      at_x = λ given. whole x.taken y.handed y.sent p.1.0.prefix all_y (sent_y given);
      x_acked = acked_x ∙ all_x;
      y_acked = acked_y ∙ all_y;
      x_sent = sent_x;
      y_sent = sent_y;
      x_stopped = (tx.1 (acked_x ∙ all_x), (tx.0 (tx.1 (acked_x ∙ all_x))).1);
      y_stopped = (ty.1 (acked_y ∙ all_y), (ty.0 (ty.1 (acked_y ∙ all_y))).1);
    }

reached_mended : (selective : Bool) (k wd : ℕ) (x y : Station) → 1 ≤ wd → IsStationPair selective k [] x [] y → Own true wd [] x → Own false wd [] y → Rested x → Rested y
    → Reached Ticked selective true [] x [] y → IsMended x y
reached_mended selective k wd x y some p own_x own_y rests_x rests_y (inl a) = absurd (let e : [] ≡ SetUp ∷ [] = a.1 in let u : ⊥ = cc in u)
reached_mended selective k wd x y some p own_x own_y rests_x rests_y (inr (inl a)) = absurd (let e : [] ≡ Ua true ∷ [] = a.2 in let u : ⊥ = cc in u)
reached_mended selective k wd x y some p own_x own_y rests_x rests_y (inr (inr m)) = mended_at selective k wd x y some p own_x own_y rests_x rests_y m

pub mended : (selective : Bool) (k wd : ℕ) (lx : List Frame) (x : Station) (ly : List Frame) (y : Station) → 1 ≤ wd → lx ≡ [] → ly ≡ [] → IsStationPair selective k lx x ly y
    → Own true wd lx x → Own false wd ly y → Rested x → Rested y → Reached Ticked selective true lx x ly y → IsMended x y
mended selective k wd lx x ly y some ex ey p own_x own_y rests_x rests_y h =
    reached_mended selective k wd x y some
    (subst (λ (t : List Frame). IsStationPair selective k t x [] y) ex (subst (λ (t : List Frame). IsStationPair selective k lx x t y) ey p))
    (subst (λ (t : List Frame). Own true wd t x) ex own_x) (subst (λ (t : List Frame). Own false wd t y) ey own_y) rests_x rests_y
    (subst (λ (t : List Frame). Reached Ticked selective true t x [] y) ex (subst (λ (t : List Frame). Reached Ticked selective true lx x t y) ey h))

pub emptied : (selective : Bool) (wd : ℕ) (l : StationLink) → 1 ≤ wd → Sounds selective wd Recovers l → NoFrameWaits l → IsMended l.e.station l.r.station
emptied selective wd l some g empty =
    let e : Station = l.e.station in
    let r : Station = l.r.station in
    mended selective g.k wd g.fe e g.fr r some (none_on_line e g.fe (sym empty.0 ∙ g.stands.lined_x)) (none_on_line r g.fr (sym empty.1 ∙ g.stands.lined_y))
    g.stands.pair g.own_e g.own_r g.rests_e g.rests_r g.claim

-- ---- the laws

-- what holds behind the tick and the passes
pub record Behind (l : StationLink) : Type 0 where
  pub recovered : IsRecovered l
  pub renewed : IsRenewed l

pub behind : Frames → (selective : Bool) (wd : ℕ) (l : StationLink) → 1 ≤ wd → Sound selective wd l → AreLive l → NoFrameWaits l → (now : ℕ) → GoOn now l
    → (second : List PairStep) → ArePassesAndTakes second → NoFrameWaits (pair_run (station_kind selective) l (Tick now ∷ second)) → Behind (pair_run (station_kind selective) l (Tick now ∷ second))
behind laws selective wd l some h live empty now may second passes end =
    let g = both_ticked selective wd l now h live empty may in
    let r = (passes_keep selective wd Recovers laws (recovers_to_r laws.back wd) (recovers_to_e laws.back wd) second (tick (station_kind selective) now l) passes g).0 in
    let e = emptied selective wd (pair_run (station_kind selective) l (Tick now ∷ second)) some r end in
    record {
      recovered = record { e_up = e.x_up; r_up = e.y_up; at_r = e.at_y; at_e = e.at_x };
      renewed = record { e_stopped = e.x_stopped.0; r_stopped = e.y_stopped.0; e_none = e.x_stopped.1; r_none = e.y_stopped.1 };
    }

all_behind : Frames → (s : StationLinkOpening) (steps : List PairStep) → (after s steps).order_kept ≡ true → AreLive (after s steps)
    → (first : List PairStep) → ArePassesAndTakes first → NoFrameWaits (after s (steps ++ first))
    → (now : ℕ) → GoOn now (after s (steps ++ first))
    → (second : List PairStep) → ArePassesAndTakes second → NoFrameWaits (after s (steps ++ first ++ Tick now ∷ second))
    → Behind (after s (steps ++ first ++ Tick now ∷ second))
all_behind laws s steps kept live first passes empty now may second more end =
    let b : Bool = s.selective in
    let wd : ℕ = s.window in
    let o : StationLink = opened_station_link b s.extended wd s.n2 s.t1 s.moment in
    let l : StationLink = after s (steps ++ first) in
    let split : after s (steps ++ first) ≡ pair_run (station_kind b) (after s steps) first = pair_run_append (station_kind b) steps first o in
    let h = passes_sound b wd laws first (after s steps) passes (after_sound laws s steps kept) in
    let join : after s (steps ++ first ++ Tick now ∷ second) ≡ pair_run (station_kind b) l (Tick now ∷ second) = pair_run_append (station_kind b) (steps ++ first) (Tick now ∷ second) o in
    subst Behind (sym join)
    (behind laws b wd l s.some (subst (Sound b wd) (sym split) h.0) (subst AreLive (sym split) (h.1 live)) empty now may second more (subst NoFrameWaits join end))

pub recovery : Frames → Recovery
recovery laws s steps kept live first passes empty now may second more end =
    (all_behind laws s steps kept live first passes empty now may second more end).recovered

pub renewal : Frames → Renewal
renewal laws s steps kept live first passes empty now may second more end =
    (all_behind laws s steps kept live first passes empty now may second more end).renewed
