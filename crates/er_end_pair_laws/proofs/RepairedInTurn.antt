-- The law of recovery in turn: a tick that finds T1 of one end expired leaves nothing unacknowledged of it once no frame waits; then T1 of the other end
-- alone may run, and the law of recovery does the rest.
use Rattle.std.proofs.Common.{◌≡◌, ◌⊎◌, inl, inr, max, Bool, true, false, not, ◌&&◌, ◌||◌, ℕ, List, [], ◌∷◌, ◌++◌, Option, None, refl, sym, ◌∙◌, ap, subst, true≢false}
use Rattle.er_base.specs.declared.side.Side.{Side}
use Rattle.er_base.specs.declared.side.Side.TheVariants.{E, R}
use Rattle.er_base.specs.Sides.{other}
use Rattle.hdlc_station_model.specs.declared.phase.Phase.TheVariants.{Up}
use Rattle.hdlc_station_model.specs.Sending.{is_due}
use Rattle.hdlc_station_model.specs.Events.{is_late}
use Rattle.hdlc_station_model.specs.Calls as station
use Rattle.hdlc_pair_laws.specs.Mending.{Progress, Lossy, Ticked, Shown, OneWay, MaySpeak}
use Rattle.hdlc_pair_laws.specs.Repairs.{MendEnds, OneWayEnds}
use Rattle.er_end_model.specs.Layers.{Core, model}
use Rattle.er_end_model.specs.Steps.{new_event_at, step_tick, is_spent}
use Rattle.er_end_model.specs.Ends as event
use Rattle.pair_model.specs.Links.{end_of_side}
use Rattle.pair_model.specs.Steps.{PairStep, Tick, tick, NoFrameWaits, pair_run, ArePassesAndTakes}
use Rattle.pair_model.specs.Walks.{pair_run_append}
use Rattle.er_end_pair_laws.specs.Openings.{EndLinkOpening, Agree}
use Rattle.er_end_pair_laws.specs.Links.{EndLink, end_kind, opened_end_link, is_end_expired_at}
use Rattle.er_end_pair_laws.specs.Laws.{end_link_after, IsEmpty}
use Rattle.er_end_pair_laws.specs.Recovery.{GoOn, IsRecovered}
use Rattle.er_end_pair_laws.specs.RecoveryInTurn.{LivesOnAt, LiveOn, IsFoundExpired, OtherGoesOn, RecoveryInTurn}
use Rattle.er_end_pair_laws.specs.LawsBelow.{MendingLawsBelow}
use Rattle.er_end_pair_laws.proofs.Given.{give}
use Rattle.er_end_pair_laws.proofs.Happens.{ticked_keeps, e_begins, r_begins}
use Rattle.er_end_pair_laws.proofs.Worlds.{none_on_line}
use Rattle.er_end_pair_laws.proofs.Mended.{In, ticked_mends, ticked_lives}
use Rattle.er_end_pair_laws.proofs.Mending.{Mends, e_mends, r_mends, r_between, other_mends}
use Rattle.er_end_pair_laws.proofs.Lasting.{after_lasts, calm_mends, both_go}
use Rattle.er_end_pair_laws.proofs.Repaired.{both_tick, behind}

module _ (laws : MendingLawsBelow) (s : EndLinkOpening) where
  -- ---- the tick of one end leads from p to q

  e_leads : (p q : Progress) (l : EndLink) (g : Mends p s l) → MaySpeak q true → (q ≡ Lossy → ⊥) → let x : Core = new_event_at model l.moment l.e.core in
      In q s true g.holds.fe (station.ticks x.moment x.line) g.holds.fr l.r.core.line → is_spent x ≡ false → Mends q s (give E event.Tick l)
  e_leads p q l g speaks some w spent =
      let h = g.holds in
      let x : Core = new_event_at model l.moment l.e.core in
      let awake = laws.keep.lives q false true s.settings.window h.fe (station.ticks x.moment x.line) h.fr l.r.core.line some w in
      let live = ticked_lives x g.live_e (laws.keep.ticked_untold x.moment x.line refl awake) spent in
      e_mends laws s p q l g (step_tick model l.moment l.e.core) (ticked_keeps laws.below s true h.k h.fe x h.fr l.r.core refl (e_begins s h.k h.fe l.e.core h.fr l.r.core l.moment h.two))
      (ticked_mends laws q s true speaks h.fe h.fr l.r.core.line x live w)

  r_leads : (p q : Progress) (l : EndLink) (g : Mends p s l) → MaySpeak q false → (q ≡ Lossy → ⊥) → let x : Core = new_event_at model l.moment l.r.core in
      In q s false g.holds.fr (station.ticks x.moment x.line) g.holds.fe l.e.core.line → is_spent x ≡ false → Mends q s (give R event.Tick l)
  r_leads p q l g speaks some w spent =
      let h = g.holds in
      let x : Core = new_event_at model l.moment l.r.core in
      let awake = laws.keep.lives q false false s.settings.window h.fr (station.ticks x.moment x.line) h.fe l.e.core.line some w in
      let live = ticked_lives x g.live_r (laws.keep.ticked_untold x.moment x.line refl awake) spent in
      r_mends laws s p q l g (step_tick model l.moment l.r.core) (ticked_keeps laws.below s false h.k h.fr x h.fe l.e.core refl (r_begins laws.below s h.k h.fe l.e.core h.fr l.r.core l.moment h.two))
      (ticked_mends laws q s false speaks h.fr h.fe l.e.core.line x live w)

  -- ---- both ticks, where both stations are up

  e_expires : (l : EndLink) → Mends Lossy s l → NoFrameWaits l → l.e.core.line.phase ≡ Up → l.r.core.line.phase ≡ Up → LivesOnAt l.moment l.e → LivesOnAt l.moment l.r
      → (let x : Core = new_event_at model l.moment l.e.core in is_late x.moment x.line ≡ true) → Mends (OneWay true) s (give R event.Tick (give E event.Tick l))
  e_expires l g empty up_e up_r on_e on_r late =
      let h = g.holds in
      let x : Core = new_event_at model l.moment l.e.core in
      let z : Core = new_event_at model l.moment l.r.core in
      let ne : h.fe ≡ [] = none_on_line l.e.core.line h.fe (sym empty.0 ∙ h.lined_e) in
      let nr : h.fr ≡ [] = none_on_line l.r.core.line h.fr (sym empty.1 ∙ h.lined_r) in
      let w = laws.keep.calling_expired false h.k s.settings.window h.fe x.moment l.e.core.line h.fr l.r.core.line ne nr h.two.lines g.between up_e up_r late (on_e.0 late) in
      let m : EndLink = give E event.Tick l in
      let f : Mends (OneWay true) s m = e_leads Lossy (OneWay true) l g tt (λ e. absurd cc) w on_e.1 in
      let v = laws.keep.called_goes_on false f.holds.k s.settings.window f.holds.fr z.moment l.r.core.line f.holds.fe m.e.core.line
      (laws.below.keep.swapped false f.holds.k f.holds.fe m.e.core.line f.holds.fr l.r.core.line f.holds.two.lines) (r_between laws s (OneWay true) m f) on_r.0 in
      r_leads (OneWay true) (OneWay true) m f tt (λ e. absurd cc) v on_r.1

  r_expires : (l : EndLink) → Mends Lossy s l → NoFrameWaits l → l.e.core.line.phase ≡ Up → l.r.core.line.phase ≡ Up → LivesOnAt l.moment l.e → LivesOnAt l.moment l.r
      → (let x : Core = new_event_at model l.moment l.r.core in is_late x.moment x.line ≡ true) → Mends (OneWay false) s (give R event.Tick (give E event.Tick l))
  r_expires l g empty up_e up_r on_e on_r late =
      let h = g.holds in
      let x : Core = new_event_at model l.moment l.e.core in
      let z : Core = new_event_at model l.moment l.r.core in
      let ne : h.fe ≡ [] = none_on_line l.e.core.line h.fe (sym empty.0 ∙ h.lined_e) in
      let nr : h.fr ≡ [] = none_on_line l.r.core.line h.fr (sym empty.1 ∙ h.lined_r) in
      let w = laws.keep.calling_goes_on false h.k s.settings.window h.fe x.moment l.e.core.line h.fr l.r.core.line ne nr h.two.lines g.between up_e up_r on_e.0 in
      let m : EndLink = give E event.Tick l in
      let f : Mends Shown s m = e_leads Lossy Shown l g tt (λ e. absurd cc) w on_e.1 in
      let v = laws.keep.called_expired false f.holds.k s.settings.window f.holds.fr z.moment l.r.core.line f.holds.fe m.e.core.line
      (laws.below.keep.swapped false f.holds.k f.holds.fe m.e.core.line f.holds.fr l.r.core.line f.holds.two.lines) (r_between laws s Shown m f) late (on_r.0 late) in
      r_leads Shown (OneWay false) m f tt (λ e. absurd cc) v on_r.1

  -- T1 of the called one runs only while both are up
  phases : (l : EndLink) (g : Mends Lossy s l) → ((l.e.core.line.phase ≡ Up) × (l.r.core.line.phase ≡ Up)) ⊎ (l.r.core.line.timer ≡ None)
  phases l g =
      let h = g.holds in
      laws.keep.live_phases false h.k s.settings.window h.fe l.e.core.line h.fr l.r.core.line h.two.lines g.between
      (h.two.own_e.lives g.live_e).alive.awake (h.two.own_r.lives g.live_r).alive.awake

  -- ---- a tick, and passes until no frame waits: T1 of that end doesn't run

  -- what holds whatever was lost
  forgets : (p : Progress) (l : EndLink) → Mends p s l → Mends Lossy s l
  forgets p l g = record {
    holds = g.holds;
    live_e = g.live_e;
    live_r = g.live_r;
    between = record { own = g.between.own; peers = g.between.peers; rests = g.between.rests; peer_rests = g.between.peer_rests; began = g.between.began; reached = tt };
  }

  record Stopped (side : Side) (l : EndLink) : Type 0 where
    mends : Mends Lossy s l
    stopped : (end_of_side l side).core.line.timer ≡ None

  one_stopped : OneWayEnds → (calling : Bool) (l : EndLink) → NoFrameWaits l → Mends (OneWay calling) s l → (calling ≡ true → l.e.core.line.timer ≡ None) × (calling ≡ false → l.r.core.line.timer ≡ None)
  one_stopped ends calling l empty g =
      let h = g.holds in
      let ne : h.fe ≡ [] = none_on_line l.e.core.line h.fe (sym empty.0 ∙ h.lined_e) in
      let nr : h.fr ≡ [] = none_on_line l.r.core.line h.fr (sym empty.1 ∙ h.lined_r) in
      ends false calling h.k s.settings.window h.fe l.e.core.line h.fr l.r.core.line ne nr h.two.lines g.between

  both_stopped : MendEnds → (l : EndLink) → NoFrameWaits l → Mends Ticked s l → l.e.core.line.timer ≡ None
  both_stopped ends l empty g =
      let h = g.holds in
      let ne : h.fe ≡ [] = none_on_line l.e.core.line h.fe (sym empty.0 ∙ h.lined_e) in
      let nr : h.fr ≡ [] = none_on_line l.r.core.line h.fr (sym empty.1 ∙ h.lined_r) in
      let some = (laws.below.bounded s.settings s.allowed).window.0 in
      (ends false h.k s.settings.window h.fe l.e.core.line h.fr l.r.core.line some ne nr h.two.lines g.between).x_stopped.0

  stops : MendEnds → OneWayEnds → Agree s → (side : Side) (l : EndLink) (now : ℕ) → Mends Lossy s l → NoFrameWaits l → LiveOn now l → IsFoundExpired side now l
      → (second : List PairStep) → ArePassesAndTakes second → NoFrameWaits (pair_run (end_kind s.finder) l (Tick now ∷ second)) → Stopped side (pair_run (end_kind s.finder) l (Tick now ∷ second))
  stops ends one agree E l now g empty on late second are end =
      let to : ℕ = max l.moment now in
      let flag : Bool = l.loss_free && not (is_end_expired_at to l.e || is_end_expired_at to l.r) in
      let first : EndLink = record l { moment = to; loss_free = flag } in
      let ticks : EndLink = tick (end_kind s.finder) now l in
      let done : EndLink = pair_run (end_kind s.finder) ticks second in
      elim (phases l g) [
        | inl up ↦
            let t : Mends (OneWay true) s ticks = e_expires first (other_mends laws s Lossy l to l.passes l.order_kept flag g) empty up.0 up.1 on.0 on.1 late in
            let d = calm_mends laws s agree (OneWay true) (record { hears = tt; speaks = λ c. tt }) second ticks are t in
            record { mends = forgets (OneWay true) done d; stopped = (one_stopped one true done end d).0 refl }
        | inr none ↦
            let t : Mends Ticked s ticks = both_tick laws s l now g empty ((inr (late, on.0.0 late), on.0.1), (inl none, on.1.1)) in
            let d = calm_mends laws s agree Ticked (record { hears = tt; speaks = λ c. tt }) second ticks are t in
            record { mends = forgets Ticked done d; stopped = both_stopped ends done end d }
      ]
  stops ends one agree R l now g empty on late second are end =
      let to : ℕ = max l.moment now in
      let flag : Bool = l.loss_free && not (is_end_expired_at to l.e || is_end_expired_at to l.r) in
      let first : EndLink = record l { moment = to; loss_free = flag } in
      let ticks : EndLink = tick (end_kind s.finder) now l in
      let done : EndLink = pair_run (end_kind s.finder) ticks second in
      let x : Core = new_event_at model to l.r.core in
      elim (phases l g) [
        | inl up ↦
            let t : Mends (OneWay false) s ticks = r_expires first (other_mends laws s Lossy l to l.passes l.order_kept flag g) empty up.0 up.1 on.0 on.1 late in
            let d = calm_mends laws s agree (OneWay false) (record { hears = tt; speaks = λ c. tt }) second ticks are t in
            record { mends = forgets (OneWay false) done d; stopped = (one_stopped one false done end d).1 refl }
        | inr none ↦ absurd (true≢false (sym late ∙ ap (λ (o : Option ℕ). is_due o (max x.line.moment x.moment)) none))
      ]

-- ---- the law

goes_on : (side : Side) (l : EndLink) (later : ℕ) → (end_of_side l side).core.line.timer ≡ None → OtherGoesOn side later l → GoOn later l
goes_on E l later stopped on = ((inl stopped, on.0), on.1)
goes_on R l later stopped on = (on.1, (inl stopped, on.0))

pub recovery_in_turn : MendingLawsBelow → MendEnds → OneWayEnds → RecoveryInTurn
recovery_in_turn laws ends one s steps fits agree kept live first passes empty now on side late second more end later other third last done =
    let l : EndLink = end_link_after s (steps ++ first) in
    let split : l ≡ pair_run (end_kind s.finder) (end_link_after s steps) first = pair_run_append (end_kind s.finder) steps first (opened_end_link s) in
    let g : Mends Lossy s (pair_run (end_kind s.finder) (end_link_after s steps) first) = calm_mends laws s agree Lossy both_go first (end_link_after s steps) passes (after_lasts laws s agree steps fits kept live) in
    let m : EndLink = end_link_after s (steps ++ first ++ Tick now ∷ second) in
    let join : m ≡ pair_run (end_kind s.finder) l (Tick now ∷ second) = pair_run_append (end_kind s.finder) (steps ++ first) (Tick now ∷ second) (opened_end_link s) in
    let d : Stopped laws s side (pair_run (end_kind s.finder) l (Tick now ∷ second)) =
    stops laws s ends one agree side l now (subst (Mends Lossy s) (sym split) g) empty on late second more (subst NoFrameWaits join end) in
    let b : Stopped laws s side m = subst (Stopped laws s side) (sym join) d in
    let all : end_link_after s (steps ++ first ++ Tick now ∷ second ++ Tick later ∷ third) ≡ pair_run (end_kind s.finder) m (Tick later ∷ third) =
    pair_run_append (end_kind s.finder) (steps ++ first ++ Tick now ∷ second) (Tick later ∷ third) (opened_end_link s) in
    subst IsRecovered (sym all) (behind laws s ends agree m b.mends end later (goes_on side m later b.stopped other) third last (subst IsEmpty all done))
