-- The law of gaps: a line that lost nothing loses one frame before others. REJ or SREJ asks for it, and once no frame waits, all was taken.
use Rattle.std.proofs.Common.{◌≡◌, ℕ, ◌+◌, ◌<◌, ◌≤◌, inl, inr, Bool, true, false, List, [], ◌∷◌, ◌++◌, length, refl, sym, ◌∙◌, ap, subst, arith, length-append, true≢false}
use Rattle.er_base.specs.declared.side.Side.{Side}
use Rattle.er_base.specs.declared.side.Side.TheVariants.{E, R}
use Rattle.hdlc_frames.specs.Laws.{ControlReadsBack}
use Rattle.hdlc_station_model.specs.Frames.{Frame, Info, Rr, Rej, Srej, SetUp, Disc, Dm, Ua}
use Rattle.hdlc_station_model.specs.Stations.{Station}
use Rattle.er_base.specs.Sides.{other}
use Rattle.pair_model.specs.Links.{frames_from}
use Rattle.pair_model.specs.Steps.{PairStep, Lose, lose, pair_run, NoFrameWaits, ArePassesAndTakes}
use Rattle.pair_model.specs.Walks.{pair_run_append}
use Rattle.hdlc_pair_laws.specs.Links.{StationLink, station_kind, opened_station_link}
use Rattle.hdlc_pair_laws.specs.Laws.{after}
use Rattle.hdlc_pair_laws.specs.Invariant.{infos, receive_numbers_in_frames}
use Rattle.hdlc_pair_laws.specs.Flowing.{Consecutive, EndsAtNumber, AllData, Still, Shape}
use Rattle.hdlc_pair_laws.specs.Filling.{TwoWait, GapsAreFilled}
use Rattle.hdlc_pair_laws.specs.Recovery.{IsRecovered}
use Rattle.hdlc_pair_laws.specs.EachEnd.{IsMadeGood}
use Rattle.hdlc_pair_laws.specs.Mending.{AllExchange, HasAllSentComing, Mends, leads}
use Rattle.hdlc_pair_laws.proofs.Lines.{first_of_line, none_on_line}
use Rattle.hdlc_pair_laws.proofs.Acts.{Frames}
use Rattle.hdlc_pair_laws.proofs.Flows.{still_swap}
use Rattle.hdlc_pair_laws.proofs.Mending.{mends_swap}
use Rattle.hdlc_pair_laws.proofs.Sounds.{Claim, Sounds, e_loses, r_loses, ToR, ToE, passes_keep}
use Rattle.hdlc_pair_laws.proofs.Ticks.{leads_all, comes_all}
use Rattle.hdlc_pair_laws.proofs.Recovered.{mended}
use Rattle.hdlc_pair_laws.proofs.Filling.{HasRej, Gap, Filled, consecutive_lacks}
use Rattle.hdlc_pair_laws.proofs.FillCalls.{sender_step, receiver_step}
use Rattle.hdlc_pair_laws.proofs.Asking.{HasSrej, HeldGap, HeldFilled}
use Rattle.hdlc_pair_laws.proofs.AskCalls.{held_sender_step, held_receiver_step}
use Rattle.hdlc_pair_laws.proofs.Calm.{Calm, IsCalm, after_calm}

-- ---- the frame is lost

consecutive_le : (low high : ℕ) (fs : List (ℕ × List ℕ)) → Consecutive low fs high → low ≤ high
consecutive_le low high [] h = omega (arith, h)
consecutive_le low high (f ∷ fs) h = let g = consecutive_le (low + 1) high fs h.1 in omega (arith, g)

all_come : (next sent : ℕ) (held fs : List (ℕ × List ℕ)) → Consecutive next fs sent → HasAllSentComing true next held fs sent
all_come next sent held fs h = let g = consecutive_le next sent fs h in comes_all true next next sent held fs (omega arith) g h

in_order : (low high : ℕ) (fs : List (ℕ × List ℕ)) → Consecutive low fs high → leads low fs ≡ high
in_order low high fs h = let g = consecutive_le low high fs h in leads_all low low high fs (omega arith) g h

data_exchange : (l : List Frame) → AllData l → AllExchange l
data_exchange [] h = tt
data_exchange (Info ns nr p ∷ fs) h = (tt, data_exchange fs h.1)
data_exchange (Rr nr ∷ fs) h = (tt, data_exchange fs h.1)
data_exchange (Rej nr ∷ fs) h = absurd h.0
data_exchange (Srej nr ∷ fs) h = absurd h.0
data_exchange (SetUp ∷ fs) h = absurd h.0
data_exchange (Disc ∷ fs) h = absurd h.0
data_exchange (Dm ∷ fs) h = absurd h.0
data_exchange (Ua final ∷ fs) h = absurd h.0

-- where an I frame waits, the last N(R) doesn't hang on what was acknowledged
ends_any : (a b high : ℕ) (l : List Frame) → AllData l → (infos l ≡ [] → ⊥) → EndsAtNumber a (receive_numbers_in_frames l) high → EndsAtNumber b (receive_numbers_in_frames l) high
ends_any a b high [] d some h = absurd (some refl)
ends_any a b high (Info ns nr p ∷ fs) d some h = h
ends_any a b high (Rr nr ∷ fs) d some h = h
ends_any a b high (Rej nr ∷ fs) d some h = absurd d.0
ends_any a b high (Srej nr ∷ fs) d some h = absurd d.0
ends_any a b high (SetUp ∷ fs) d some h = absurd d.0
ends_any a b high (Disc ∷ fs) d some h = absurd d.0
ends_any a b high (Dm ∷ fs) d some h = absurd d.0
ends_any a b high (Ua final ∷ fs) d some h = absurd d.0

some_wait : (low high : ℕ) (fs : List (ℕ × List ℕ)) → low < high → Consecutive low fs high → fs ≡ [] → ⊥
some_wait low high fs below h none = let e : low ≡ high = subst (λ (t : List (ℕ × List ℕ)). Consecutive low t high) none h in let u : ⊥ = omega (arith, e, below) in u

lost_filled : (c : Bool) (n : ℕ) (f : Frame) (fs : List Frame) (x : Station) (ly : List Frame) (y : Station) → Still c n (f ∷ fs) x ly y → y.gap ≡ false → length y.taken + 2 ≤ x.sent
    → Filled fs x ly y
lost_filled c n (Info m r q) fs x ly y h gap two =
    let v : ℕ = length y.taken in
    let len : length (y.taken ++ q ∷ []) ≡ v + 1 = length-append y.taken (q ∷ []) in
    let some : infos fs ≡ [] → ⊥ = some_wait (v + 1) x.sent (infos fs) (omega (arith, two)) h.0.2.1 in
    inr (record {
      before = y.taken ++ q ∷ [];
      least = x.sent;
      mends = (
        (
          (ap (λ (j : ℕ). leads j (infos fs)) len ∙ in_order (v + 1) x.sent (infos fs) h.0.2.1, λ owes. absurd (true≢false owes)),
          in_order (length x.taken) y.sent (infos ly) h.1.2,
          data_exchange fs h.2.1,
          data_exchange ly h.3,
          h.0.0,
          h.1.0,
        ),
        λ owes none. ends_any r y.acked (length x.taken) fs h.2.1 some (h.1.3 owes),
      );
      out = (omega (arith, two), omega arith, consecutive_lacks v (v + 1) x.sent (infos fs) (omega arith) h.0.2.1, λ owes none. h.0.3 owes);
      notes = inl (gap, omega (arith, len, two));
    })
lost_filled c n (Rr r) fs x ly y h gap two =
    let some : infos fs ≡ [] → ⊥ = some_wait (length y.taken) x.sent (infos fs) (omega (arith, two)) h.0.2 in
    inl (
      (
        (in_order (length y.taken) x.sent (infos fs) h.0.2, λ owes none. h.0.3 owes),
        in_order (length x.taken) y.sent (infos ly) h.1.2,
        data_exchange fs h.2.1,
        data_exchange ly h.3,
        h.0.0,
        h.1.0,
      ),
      λ owes none. ends_any r y.acked (length x.taken) fs h.2.1 some (h.1.3 owes),
    )
lost_filled c n (Rej r) fs x ly y h gap two = absurd h.2.0
lost_filled c n (Srej r) fs x ly y h gap two = absurd h.2.0
lost_filled c n SetUp fs x ly y h gap two = absurd h.2.0
lost_filled c n Disc fs x ly y h gap two = absurd h.2.0
lost_filled c n Dm fs x ly y h gap two = absurd h.2.0
lost_filled c n (Ua final) fs x ly y h gap two = absurd h.2.0

lost_held : (c : Bool) (n : ℕ) (f : Frame) (fs : List Frame) (x : Station) (ly : List Frame) (y : Station) → Still c n (f ∷ fs) x ly y → y.asked ≡ [] → length y.taken + 2 ≤ x.sent
    → HeldFilled fs x ly y
lost_held c n (Info m r q) fs x ly y h asked two =
    let v : ℕ = length y.taken in
    let all : Consecutive v ((v, q) ∷ infos fs) x.sent = (refl, h.0.2.1) in
    inr (record {
      nr = r;
      payload = q;
      least = x.sent;
      mends = (
        (
          (all_come v x.sent y.held ((v, q) ∷ infos fs) all, λ owes none. h.0.3 owes),
          all_come (length x.taken) y.sent x.held (infos ly) h.1.2,
          (tt, data_exchange fs h.2.1),
          data_exchange ly h.3,
          h.0.0,
          h.1.0,
        ),
        λ owes none. h.1.3 owes,
      );
      out = (omega (arith, two), omega arith, consecutive_lacks v (v + 1) x.sent (infos fs) (omega arith) h.0.2.1, λ owes. absurd (true≢false owes));
      asks = inl (h.1.6, asked, omega (arith, two));
    })
lost_held c n (Rr r) fs x ly y h asked two =
    let some : infos fs ≡ [] → ⊥ = some_wait (length y.taken) x.sent (infos fs) (omega (arith, two)) h.0.2 in
    inl (
      (
        (all_come (length y.taken) x.sent y.held (infos fs) h.0.2, λ owes none. h.0.3 owes),
        all_come (length x.taken) y.sent x.held (infos ly) h.1.2,
        data_exchange fs h.2.1,
        data_exchange ly h.3,
        h.0.0,
        h.1.0,
      ),
      λ owes none. ends_any r y.acked (length x.taken) fs h.2.1 some (h.1.3 owes),
    )
lost_held c n (Rej r) fs x ly y h asked two = absurd h.2.0
lost_held c n (Srej r) fs x ly y h asked two = absurd h.2.0
lost_held c n SetUp fs x ly y h asked two = absurd h.2.0
lost_held c n Disc fs x ly y h asked two = absurd h.2.0
lost_held c n Dm fs x ly y h asked two = absurd h.2.0
lost_held c n (Ua final) fs x ly y h asked two = absurd h.2.0

-- of either kind
abbrev FilledAs : (selective : Bool) → List Frame → Station → List Frame → Station → Type 0
FilledAs true lx x ly y = HeldFilled lx x ly y
FilledAs false lx x ly y = Filled lx x ly y

lost_as : (selective c : Bool) (n : ℕ) (f : Frame) (fs : List Frame) (x : Station) (ly : List Frame) (y : Station) → Still c n (f ∷ fs) x ly y → IsCalm selective y → length y.taken + 2 ≤ x.sent
    → FilledAs selective fs x ly y
lost_as true c n f fs x ly y h calm two = lost_held c n f fs x ly y h calm two
lost_as false c n f fs x ly y h calm two = lost_filled c n f fs x ly y h calm two

-- both are up
calling_still : (n : ℕ) (lx : List Frame) (x : Station) (ly : List Frame) (y : Station) → Shape n lx x ly y → 2 ≤ x.sent → Still true n lx x ly y
calling_still n lx x ly y (inl a) two = absurd (let e = a.4.0 in let u : ⊥ = omega (arith, e, two) in u)
calling_still n lx x ly y (inr (inl a)) two = absurd (let e = a.4.0 in let u : ⊥ = omega (arith, e, two) in u)
calling_still n lx x ly y (inr (inr a)) two = a.0

called_still : (n : ℕ) (lx : List Frame) (x : Station) (ly : List Frame) (y : Station) → Shape n lx x ly y → 2 ≤ y.sent → Still false n ly y lx x
called_still n lx x ly y (inl a) two = absurd (let e = a.5.0 in let u : ⊥ = omega (arith, e, two) in u)
called_still n lx x ly y (inr (inl a)) two = absurd (let e = a.5.0 in let u : ⊥ = omega (arith, e, two) in u)
called_still n lx x ly y (inr (inr a)) two = still_swap n lx x ly y a.0

-- a frame waits
no_line : (c : Bool) (n : ℕ) (lx : List Frame) (x : Station) (ly : List Frame) (y : Station) → lx ≡ [] → Still c n lx x ly y → length y.taken + 2 ≤ x.sent → ⊥
no_line c n lx x ly y none h two =
    some_wait (length y.taken) x.sent (infos lx) (omega (arith, two)) h.0.2 (ap infos none)

-- ---- the claim: the end E lost a frame, or the end R

abbrev Fills : Side → Claim
Fills E selective fe e fr r = FilledAs selective fe e fr r
Fills R selective fe e fr r = FilledAs selective fr r fe e

to_r : ControlReadsBack → (wd : ℕ) (side : Side) → ToR wd (Fills side)
to_r law wd E true k now fr r f fs e wide quiet b own_r own_e rests_r rests_e h = held_receiver_step law k now fr r f fs e quiet b (wide refl ∙ sym own_r.1) own_r.5 h
to_r law wd R true k now fr r f fs e wide quiet b own_r own_e rests_r rests_e h = held_sender_step law k now fr r f fs e quiet b (wide refl ∙ sym own_r.1) own_r.5 h
to_r law wd E false k now fr r f fs e wide quiet b own_r own_e rests_r rests_e h = receiver_step law k now fr r f fs e quiet b own_r.5 h
to_r law wd R false k now fr r f fs e wide quiet b own_r own_e rests_r rests_e h = sender_step law k now fr r f fs e quiet b own_r.5 h

to_e : ControlReadsBack → (wd : ℕ) (side : Side) → ToE wd (Fills side)
to_e law wd E true k now fe e f fs r wide quiet b own_e own_r rests_e rests_r h = held_sender_step law k now fe e f fs r quiet b (wide refl ∙ sym own_e.1) own_e.5 h
to_e law wd R true k now fe e f fs r wide quiet b own_e own_r rests_e rests_r h = held_receiver_step law k now fe e f fs r quiet b (wide refl ∙ sym own_e.1) own_e.5 h
to_e law wd E false k now fe e f fs r wide quiet b own_e own_r rests_e rests_r h = sender_step law k now fe e f fs r quiet b own_e.5 h
to_e law wd R false k now fe e f fs r wide quiet b own_e own_r rests_e rests_r h = receiver_step law k now fe e f fs r quiet b own_e.5 h

module _ (selective : Bool) (wd : ℕ) where
  lost_fills : (side : Side) (l : StationLink) → TwoWait side l → (line : List (List ℕ)) → frames_from l side ≡ line → Sounds selective wd (Calm (other side)) l → Sounds selective wd (Fills side) (lose side line l)
  lost_fills E l two [] e h =
      let q = h.claim in
      absurd (no_line true q.0 h.fe l.e.station h.fr l.r.station (none_on_line l.e.station h.fe (sym e ∙ h.stands.lined_x))
      (calling_still q.0 h.fe l.e.station h.fr l.r.station q.1.0 (omega (arith, two))) two)
  lost_fills R l two [] e h =
      let q = h.claim in
      absurd (no_line false q.0 h.fr l.r.station h.fe l.e.station (none_on_line l.r.station h.fr (sym e ∙ h.stands.lined_y))
      (called_still q.0 h.fe l.e.station h.fr l.r.station q.1.0 (omega (arith, two))) two)
  lost_fills E l two (octets ∷ rest) e h =
      let q = h.claim in
      let x : Station = l.e.station in
      let y : Station = l.r.station in
      let f = first_of_line x octets rest h.fe (sym e ∙ h.stands.lined_x) in
      e_loses selective wd (Calm R) (Fills E) l octets rest h f
      (lost_as selective true q.0 f.frame f.frames x h.fr y (subst (λ (s : List Frame). Still true q.0 s x h.fr y) f.all (calling_still q.0 h.fe x h.fr y q.1.0 (omega (arith, two)))) q.1.1 two)
  lost_fills R l two (octets ∷ rest) e h =
      let q = h.claim in
      let x : Station = l.r.station in
      let y : Station = l.e.station in
      let f = first_of_line x octets rest h.fr (sym e ∙ h.stands.lined_y) in
      r_loses selective wd (Calm E) (Fills R) l octets rest h f
      (lost_as selective false q.0 f.frame f.frames x h.fe y (subst (λ (s : List Frame). Still false q.0 s x h.fe y) f.all (called_still q.0 h.fe y h.fr x q.1.0 (omega (arith, two)))) q.1.1 two)

-- ---- no frame waits any more

gap_waits : (lx : List Frame) (x : Station) (ly : List Frame) (y : Station) → lx ≡ [] → ly ≡ [] → Gap lx x ly y → ⊥
gap_waits lx x ly y ex ey g = elim g.notes [
  | inl n ↦
      let e : length g.before ≡ x.sent = subst (λ (t : List Frame). leads (length g.before) (infos t) ≡ x.sent) ex g.mends.0.0.0 in
      let below = n.1 in
      let least = g.out.1 in
      let u : ⊥ = omega (arith, e, below, least) in u
  | inr has ↦ subst HasRej ey has
]

held_gap_waits : (lx : List Frame) (x : Station) (ly : List Frame) (y : Station) → lx ≡ [] → ly ≡ [] → HeldGap lx x ly y → ⊥
held_gap_waits lx x ly y ex ey g = elim g.asks [
  | inl n ↦
      let v : ℕ = length y.taken in
      let c : HasAllSentComing true v [] ((v, g.payload) ∷ []) x.sent =
      subst (λ (held : List (ℕ × List ℕ)). HasAllSentComing true v held ((v, g.payload) ∷ []) x.sent) n.0 (subst (λ (t : List Frame). HasAllSentComing true v y.held ((v, g.payload) ∷ infos t) x.sent) ex g.mends.0.0.0) in
      let below = n.2 in
      let least = g.out.1 in
      elim (c (v + 1) (omega arith) (omega (arith, below, least))) [
        | inl is ↦ absurd (true≢false (sym is))
        | inr (inl same) ↦ (let u : ⊥ = omega (arith, same) in u)
        | inr (inr w) ↦ absurd w
      ]
  | inr has ↦ subst (HasSrej (length y.taken)) ey has
]

filled_mends : (selective : Bool) (lx : List Frame) (x : Station) (ly : List Frame) (y : Station) → lx ≡ [] → ly ≡ [] → FilledAs selective lx x ly y → Mends selective lx x ly y
filled_mends true lx x ly y ex ey (inl m) = m
filled_mends true lx x ly y ex ey (inr g) = absurd (held_gap_waits lx x ly y ex ey g)
filled_mends false lx x ly y ex ey (inl m) = m
filled_mends false lx x ly y ex ey (inr g) = absurd (gap_waits lx x ly y ex ey g)

side_mends : (side : Side) (selective : Bool) (fe : List Frame) (e : Station) (fr : List Frame) (r : Station) → fe ≡ [] → fr ≡ [] → Fills side selective fe e fr r → Mends selective fe e fr r
side_mends E selective fe e fr r ee er h = filled_mends selective fe e fr r ee er h
side_mends R selective fe e fr r ee er h = mends_swap selective fr r fe e (filled_mends selective fr r fe e er ee h)

emptied : (selective : Bool) (wd : ℕ) (side : Side) (l : StationLink) → 1 ≤ wd → Sounds selective wd (Fills side) l → NoFrameWaits l → IsMadeGood l
emptied selective wd side l some g empty =
    let e : Station = l.e.station in
    let r : Station = l.r.station in
    let ee = none_on_line e g.fe (sym empty.0 ∙ g.stands.lined_x) in
    let er = none_on_line r g.fr (sym empty.1 ∙ g.stands.lined_y) in
    let m = mended selective g.k wd g.fe e g.fr r some ee er g.stands.pair g.own_e g.own_r g.rests_e g.rests_r (inr (inr (side_mends side selective g.fe e g.fr r ee er g.claim))) in (
      record { e_up = m.x_up; r_up = m.y_up; at_r = m.at_y; at_e = m.at_x },
      record { e_stopped = m.x_stopped.0; r_stopped = m.y_stopped.0; e_none = m.x_stopped.1; r_none = m.y_stopped.1 },
    )

-- of any link at which all is calm
pub filled_behind : Frames → (selective : Bool) (wd : ℕ) (side : Side) (l : StationLink) → 1 ≤ wd → Sounds selective wd (Calm (other side)) l → TwoWait side l
    → (passes : List PairStep) → ArePassesAndTakes passes → NoFrameWaits (pair_run (station_kind selective) l (Lose side ∷ passes)) → IsMadeGood (pair_run (station_kind selective) l (Lose side ∷ passes))
filled_behind laws selective wd side l some h two passes are end =
    let lossy : StationLink = lose side (frames_from l side) l in
    let g = lost_fills selective wd side l two (frames_from l side) refl h in
    let r = (passes_keep selective wd (Fills side) laws (to_r laws.back wd side) (to_e laws.back wd side) passes lossy are g).0 in
    emptied selective wd side (pair_run (station_kind selective) lossy passes) some r end

pub gaps_are_filled : Frames → GapsAreFilled
gaps_are_filled laws s steps free side two passes are end =
    let l : StationLink = after s steps in
    let b : Bool = s.selective in
    let split : after s (steps ++ Lose side ∷ passes) ≡ pair_run (station_kind b) l (Lose side ∷ passes) =
    pair_run_append (station_kind b) steps (Lose side ∷ passes) (opened_station_link b s.extended s.window s.n2 s.t1 s.moment) in
    subst IsRecovered (sym split) (filled_behind laws b s.window side l s.some (after_calm laws (other side) s steps free) two passes are (subst NoFrameWaits split end)).0
