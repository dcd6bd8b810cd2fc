-- How many passes a link lasts while frames are given alone.
use Rattle.std.proofs.Common.{◌≡◌, ◌⊎◌, ℕ, zero, suc, ◌+◌, ◌≤◌, inl, inr, Bool, true, false, List, [], ◌∷◌, ◌++◌, length, map, Option, Some, None, refl, sym, ◌∙◌, ap, subst, arith}
use Rattle.std.proofs.lemmas.List.{length-map}
use Rattle.er_base.specs.declared.side.Side.{Side}
use Rattle.er_base.specs.declared.side.Side.TheVariants.{E, R}
use Rattle.hdlc_frames.specs.Framing.{Verdict, Frame as Frame_found}
use Rattle.hdlc_station_model.specs.Frames.{Frame, sent_address, sent_body}
use Rattle.hdlc_station_model.specs.Stations.{Station}
use Rattle.hdlc_station_model.specs.Selective.{receives_as}
use Rattle.hdlc_station_model.specs.Lines.{next_of}
use Rattle.pair_model.specs.Links.{frames_from}
use Rattle.pair_model.specs.Steps.{PairStep, NoFrameWaits, pass, is_overfull, pass_next, drained}
use Rattle.pair_model.specs.Walks.{pair_run_append, passes_run}
use Rattle.hdlc_pair_laws.specs.Links.{StationLink, station_kind, opened_station_link}
use Rattle.hdlc_pair_laws.specs.Laws.{StationLinkOpening, after}
use Rattle.hdlc_pair_laws.specs.Recovery.{bound_of, PassesBound, DrainEmptiesLive}
use Rattle.hdlc_station_model.specs.Repeating.{passes_bound}
use Rattle.hdlc_pair_laws.proofs.Lines.{first_of_line, answered}
use Rattle.hdlc_pair_laws.proofs.Acts.{Frames, unmoved_keeps, StandsAt, e_gives, r_gives}
use Rattle.hdlc_pair_laws.proofs.Runs.{Holds, after_holds}
use Rattle.hdlc_pair_laws.proofs.Delivered.{none_next, full_next, next_is}
use Rattle.hdlc_pair_laws.proofs.Windows.{InWindow, own_handed, receives_in, finishes_in}
use Rattle.hdlc_pair_laws.proofs.WindowsRun.{Windowed, after_windowed}
use Rattle.hdlc_pair_laws.proofs.Bounded.{answered_spends, left, came_left, left_le, left_none}

-- with those that are left there are at most so many passes
pub record Lasts (selective : Bool) (window n : ℕ) (l : StationLink) : Type 0 where
  pub k : ℕ
  pub fe : List Frame
  pub fr : List Frame
  pub stands : StandsAt selective k fe fr l
  pub windowed : Windowed window l
  pub few : l.passes + left selective window fe l.e.station fr l.r.station ≤ n

-- ---- a pass

answered_in : (window : ℕ) (selective : Bool) (now : ℕ) (y : Station) (f : Frame) (x : Station) → InWindow window x.handed x → InWindow window x.handed (answered selective now y f x)
answered_in window selective now y f x h =
    let v : Verdict = Frame_found (sent_address y.calling f) (sent_body y.extended f) in
    finishes_in window x.handed (receives_as selective now v x) (receives_in window x.handed selective now v x h)

module _ (laws : Frames) (selective : Bool) (window n : ℕ) where
  line_lasts : (side : Side) (line : List (List ℕ)) (l : StationLink) → frames_from l side ≡ line → Lasts selective window n l → Lasts selective window n (pass (station_kind selective) side line l)
  line_lasts side [] l e h = h
  line_lasts E (octets ∷ rest) l e h =
      let y : Station = l.e.station in
      let z : Station = l.r.station in
      let f = first_of_line y octets rest h.fe (sym e ∙ h.stands.lined_x) in
      let x : Station = answered selective l.moment y f.frame z in
      let i = answered_in window selective l.moment y f.frame z h.windowed.1 in
      let was : l.passes + left selective window h.fr z (f.frame ∷ f.frames) y ≤ n =
      subst (λ (q : List Frame). l.passes + left selective window h.fr z q y ≤ n) f.all (omega (arith, h.few)) in
      e_gives selective l h.stands laws (Lasts selective window n) octets rest f (λ b stands.
      let less = came_left selective window h.fr z x f.frame f.frames y h.stands.quiet_y i.handed_is
      (λ cost. answered_spends laws.back cost window selective h.k h.fr l.moment z f.frame f.frames y h.windowed.1.room b) in
      record { k = h.k; fe = f.frames; fr = h.fr ++ x.said; stands = stands; windowed = (h.windowed.0, own_handed window z.handed x i); few = omega (arith, was, less) })
  line_lasts R (octets ∷ rest) l e h =
      let y : Station = l.r.station in
      let z : Station = l.e.station in
      let f = first_of_line y octets rest h.fr (sym e ∙ h.stands.lined_y) in
      let x : Station = answered selective l.moment y f.frame z in
      let i = answered_in window selective l.moment y f.frame z h.windowed.0 in
      let was : l.passes + left selective window h.fe z (f.frame ∷ f.frames) y ≤ n = subst (λ (q : List Frame). l.passes + left selective window h.fe z q y ≤ n) f.all h.few in
      r_gives selective l h.stands laws (Lasts selective window n) octets rest f (λ b stands.
      let less = came_left selective window h.fe z x f.frame f.frames y h.stands.quiet_x i.handed_is
      (λ cost. answered_spends laws.back cost window selective h.k h.fe l.moment z f.frame f.frames y h.windowed.0.room b) in
      record { k = h.k; fe = h.fe ++ x.said; fr = f.frames; stands = stands; windowed = (own_handed window z.handed x i, h.windowed.1); few = omega (arith, was, less) })

  pass_lasts : (side : Side) (l : StationLink) → Lasts selective window n l → Lasts selective window n (pass (station_kind selective) side (frames_from l side) l)
  pass_lasts side l h = line_lasts side (frames_from l side) l refl h

-- ---- a drain

abbrev Ends : StationLink → Type 0
Ends l = NoFrameWaits l ⊎ (is_overfull l ≡ true)

-- the pass of the end that is next is a delivery
next_counts : (selective : Bool) (side : Side) (l : StationLink) (from_e from_r : List (List ℕ)) → l.from_e ≡ from_e → l.from_r ≡ from_r → next_of from_e from_r ≡ Some side
    → (pass (station_kind selective) side (frames_from l side) l).passes ≡ l.passes + 1
next_counts selective E l (f ∷ fs) from_r e r next = rw e refl
next_counts selective R l [] (f ∷ fs) e r next = rw r refl
next_counts selective R l (f ∷ fs) from_r e r next = absurd cc
next_counts selective E l [] (f ∷ fs) e r next = absurd cc
next_counts selective E l [] [] e r next = absurd cc
next_counts selective R l [] [] e r next = absurd cc

module _ (laws : Frames) (selective : Bool) (window n : ℕ) where
  abbrev Rest : ℕ → Type 0
  Rest most = (l : StationLink) → n ≤ l.passes + most → Lasts selective window n l → Ends (drained (station_kind selective) most l)

  one_round : (most : ℕ) → Rest most → (l : StationLink) → n ≤ l.passes + suc most → Lasts selective window n l → (o : Option Side) (b : Bool)
      → next_of l.from_e l.from_r ≡ o → is_overfull l ≡ b → Ends (drained (station_kind selective) most (pass_next (station_kind selective) o b l))
  one_round most rest l few h None b next full = subst Ends (sym (none_next selective most l next)) (inl (next_is l.from_e l.from_r next))
  one_round most rest l few h (Some side) true next full = subst Ends (sym (full_next selective most l full)) (inr full)
  one_round most rest l few h (Some side) false next full =
      rest (pass (station_kind selective) side (frames_from l side) l) (omega (arith, few, next_counts selective side l l.from_e l.from_r refl refl next)) (pass_lasts laws selective window n side l h)

  drained_ends : (most : ℕ) → Rest most
  drained_ends zero l few h =
      let none = left_none selective window h.fe l.e.station h.fr l.r.station (omega (arith, few, h.few)) in
      inl (h.stands.lined_x ∙ ap (map _) none.0, h.stands.lined_y ∙ ap (map _) none.1)
  drained_ends (suc most) l few h = one_round most (drained_ends most) l few h (next_of l.from_e l.from_r) (is_overfull l) refl refl

-- ---- the laws

after_lasts : Frames → (s : StationLinkOpening) (steps : List PairStep) → (after s steps).order_kept ≡ true
    → Lasts s.selective s.window ((after s steps).passes + bound_of s (after s steps)) (after s steps)
after_lasts laws s steps kept =
    let l : StationLink = after s steps in
    let h : Holds s.selective l = after_holds laws s steps kept in
    let w : Windowed s.window l = after_windowed s steps in
    let ne : length l.from_e ≡ length h.fe = ap length h.stands.lined_x ∙ length-map h.fe _ in
    let nr : length l.from_r ≡ length h.fr = ap length h.stands.lined_y ∙ length-map h.fr _ in
    let waits : length h.fe + length h.fr ≡ length l.from_e + length l.from_r = omega arith in
    let few = left_le s.selective h.k s.window h.fe l.e.station h.fr l.r.station s.some h.stands.pair w.0 w.1 in
    record {
      k = h.k;
      fe = h.fe;
      fr = h.fr;
      stands = h.stands;
      windowed = w;
      few = omega (arith, subst (λ (n : ℕ). left s.selective s.window h.fe l.e.station h.fr l.r.station ≤ passes_bound s.window n (length l.e.station.handed + length l.r.station.handed)) waits few);
    }

pub passes_bounded : Frames → PassesBound
passes_bounded laws s steps kept live passes are =
    let l : StationLink = after s steps in
    let o : StationLink = opened_station_link s.selective s.extended s.window s.n2 s.t1 s.moment in
    let n : ℕ = l.passes + bound_of s l in
    let P : StationLink → Type 0 = Lasts s.selective s.window n in
    let all = passes_run (station_kind s.selective) P (pass_lasts laws s.selective s.window n) (unmoved_keeps P) passes l are (after_lasts laws s steps kept) in
    subst (λ (t : StationLink). t.passes ≤ n) (sym (pair_run_append (station_kind s.selective) steps passes o)) (omega (arith, all.few))

pub drain_empties : Frames → DrainEmptiesLive
drain_empties laws s steps most kept live enough =
    let l : StationLink = after s steps in
    drained_ends laws s.selective s.window (l.passes + bound_of s l) most l (omega (arith, enough)) (after_lasts laws s steps kept)
