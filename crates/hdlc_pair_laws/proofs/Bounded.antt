-- Each frame that is given brings down what two stations and their frames may still cost in passes, so the passes are bounded.
use Rattle.std.proofs.Common.{◌≡◌, ℕ, ◌+◌, ◌-◌, ◌*◌, ◌≤◌, inl, inr, Bool, true, false, not, List, [], ◌∷◌, ◌++◌, length, refl, sym, ◌∙◌, ap, subst, arith}
use Rattle.std.proofs.lemmas.Bool.{cases_Bool, cond_both}
use Rattle.hdlc_frames.specs.Framing.{Verdict, Frame as Frame_found}
use Rattle.hdlc_frames.specs.Laws.{ControlReadsBack}
use Rattle.hdlc_station_model.specs.Frames.{Frame, shown, information, sent_address, sent_body}
use Rattle.hdlc_station_model.specs.Stations.{Station, is_down, sees}
use Rattle.hdlc_station_model.specs.Sending.{sends_waiting, settles}
use Rattle.hdlc_station_model.specs.Calls.{finishes}
use Rattle.hdlc_station_model.specs.Selective.{receives_as}
use Rattle.hdlc_station_model.specs.Repeating.{passes_bound}
use Rattle.hdlc_pair_laws.specs.Invariant.{IsStationPair, Both, infos, receive_numbers_in_frames}
use Rattle.hdlc_pair_laws.specs.Flowing.{one_if}
use Rattle.hdlc_pair_laws.proofs.Ways.{way_bounds}
use Rattle.hdlc_pair_laws.proofs.Hearing.{row_as, hears_as, received, frame_heard}
use Rattle.hdlc_pair_laws.proofs.Rows.{may_come}
use Rattle.hdlc_pair_laws.proofs.Events.{not_not, heard_keeps}
use Rattle.hdlc_pair_laws.proofs.Lines.{answered}
use Rattle.hdlc_pair_laws.proofs.Potential.{weight, weights, weights_join, weights_le, sets_up, sets_up_join, set_up_heavy, rejections, rejections_one, rejections_le, rejections_are, rejections_join, rejections_some, one_le}
use Rattle.hdlc_pair_laws.proofs.Repairs.{unasked_le, ungapped, ungapped_le, repairs}
use Rattle.hdlc_pair_laws.proofs.Spending.{Spends, total, weight_some, waiting_spends, settles_spends, down_spends, go_back_spends}
use Rattle.hdlc_pair_laws.proofs.SpendingSelective.{selective_spends}
use Rattle.hdlc_pair_laws.proofs.Windows.{InWindow}

-- ---- a frame comes

module _ (law : ControlReadsBack) (set_up_cost window : ℕ) where
  row_spends : (selective : Bool) (k : ℕ) (lw : List Frame) (x : Station) (f : Frame) (fs : List Frame) (y : Station) → x.sent ≤ x.acked + window
      → Both selective k lw x (f ∷ fs) y
      → Spends selective set_up_cost window (length y.handed) (sets_up (f ∷ fs)) (sets_up fs) (weight 2 window f) x (row_as selective x.phase x (shown x.extended f) (information f))
  row_spends true k lw x f fs y room b = selective_spends set_up_cost window k lw x.phase x f fs y b
  row_spends false k lw x f fs y room b = go_back_spends set_up_cost window k lw x.phase x f fs y room b

  heard_spends : (selective : Bool) (k : ℕ) (lw : List Frame) (x : Station) (f : Frame) (fs : List Frame) (y : Station) → x.sent ≤ x.acked + window
      → Both selective k lw x (f ∷ fs) y
      → Spends selective set_up_cost window (length y.handed) (sets_up (f ∷ fs)) (sets_up fs) (weight 2 window f) x
      (sends_waiting (hears_as selective (Frame_found (sent_address (not x.calling) f) (sent_body x.extended f)) x))
  heard_spends selective k lw x f fs y room b =
      let high : ℕ = length y.handed in
      let v : Verdict = Frame_found (sent_address (not x.calling) f) (sent_body x.extended f) in
      let t : Station = hears_as selective v x in
      let r = subst (λ (t : Station). Spends selective set_up_cost window high (sets_up (f ∷ fs)) (sets_up fs) (weight 2 window f) x t)
      (sym (frame_heard law selective x f (may_come selective k (lw ++ x.said) x f fs y b))) (row_spends selective k lw x f fs y room b) in
      let h = heard_keeps law selective k lw x f fs y b in
      omega (arith, r, waiting_spends set_up_cost window selective high (sets_up fs) t h.0.0.given)

  own_spends : (selective : Bool) (k : ℕ) (lw : List Frame) (now : ℕ) (x : Station) (f : Frame) (fs : List Frame) (y : Station) → x.sent ≤ x.acked + window
      → Both selective k lw x (f ∷ fs) y
      → Spends selective set_up_cost window (length y.handed) (sets_up (f ∷ fs)) (sets_up fs) (weight 2 window f) x
      (receives_as selective now (Frame_found (sent_address (not x.calling) f) (sent_body x.extended f)) x)
  own_spends selective k lw now x f fs y room b =
      let v : Verdict = Frame_found (sent_address (not x.calling) f) (sent_body x.extended f) in
      subst (λ (t : Station). Spends selective set_up_cost window (length y.handed) (sets_up (f ∷ fs)) (sets_up fs) (weight 2 window f) x t) (sym (received selective now v x))
      (cond_both (is_down x.phase) x (sends_waiting (hears_as selective v (sees now x)))
      (λ t. Spends selective set_up_cost window (length y.handed) (sets_up (f ∷ fs)) (sets_up fs) (weight 2 window f) x t)
      (λ e. down_spends set_up_cost window selective (length y.handed) f (sets_up fs) x)
      (λ e. heard_spends selective k lw (sees now x) f fs y room b))

  receives_spends : (selective : Bool) (k : ℕ) (lw : List Frame) (now : ℕ) (x : Station) (f : Frame) (fs : List Frame) (y : Station) → x.sent ≤ x.acked + window
      → Both selective k lw x (f ∷ fs) y
      → Spends selective set_up_cost window (length y.handed) (sets_up (f ∷ fs)) (sets_up fs) (weight 2 window f) x
      (receives_as selective now (Frame_found (sent_address y.calling f) (sent_body y.extended f)) x)
  receives_spends selective k lw now x f fs y room b =
      let P : Station → Type 0 = λ t. Spends selective set_up_cost window (length y.handed) (sets_up (f ∷ fs)) (sets_up fs) (weight 2 window f) x t in
      subst (λ (c : Bool). P (receives_as selective now (Frame_found (sent_address c f) (sent_body y.extended f)) x)) (sym (not_not x.calling y.calling b.2))
      (subst (λ (e : Bool). P (receives_as selective now (Frame_found (sent_address (not x.calling) f) (sent_body e f)) x)) b.3
      (own_spends selective k lw now x f fs y room b))

  finishes_spends : (selective : Bool) (high : ℕ) (fresh : Bool) (x : Station)
      → total selective set_up_cost window high fresh (finishes x) ≤ total selective set_up_cost window high fresh x
  finishes_spends selective high fresh x =
      cond_both (is_down x.phase) x (settles x) (λ t. total selective set_up_cost window high fresh t ≤ total selective set_up_cost window high fresh x)
      (λ e. omega arith) (λ e. settles_spends set_up_cost window selective high fresh x)

  pub answered_spends : (selective : Bool) (k : ℕ) (lw : List Frame) (now : ℕ) (x : Station) (f : Frame) (fs : List Frame) (y : Station) → x.sent ≤ x.acked + window
      → Both selective k lw x (f ∷ fs) y
      → Spends selective set_up_cost window (length y.handed) (sets_up (f ∷ fs)) (sets_up fs) (weight 2 window f) x (answered selective now y f x)
  answered_spends selective k lw now x f fs y room b =
      let t : Station = receives_as selective now (Frame_found (sent_address y.calling f) (sent_body y.extended f)) x in
      omega (arith, receives_spends selective k lw now x f fs y room b, finishes_spends selective (length y.handed) (sets_up fs) t)

-- ---- two stations and what waits between them

-- what a station may still ask for, has to send and owes
abbrev pub upkeep : (selective : Bool) (window high : ℕ) (fresh : Bool) → Station → ℕ
upkeep selective window high fresh x =
    repairs selective window high fresh (length x.taken) x.gap x.held x.asked + 2 * (length x.handed - x.sent) + one_if x.owed

abbrev pub left : (selective : Bool) (window : ℕ) → List Frame → Station → List Frame → Station → ℕ
left selective window lx x ly y =
    weights 2 window lx + weights 2 window ly
    + (upkeep selective window (length y.handed) (sets_up ly) x + upkeep selective window (length x.handed) (sets_up lx) y)

-- a station that spends so little, whatever a set-up frame costs, says none
says_no_set_up : (selective : Bool) (window high : ℕ) (before behind : Bool) (brought : ℕ) (x t : Station) → x.said ≡ []
    → ((set_up_cost : ℕ) → Spends selective set_up_cost window high before behind brought x t) → sets_up t.said ≡ false
says_no_set_up selective window high before behind brought x t quiet spends =
    let cost : ℕ = brought + upkeep selective window high before x in
    let none : weights cost window x.said ≡ 0 = ap (weights cost window) quiet in
    elim (cases_Bool (sets_up t.said)) [
      | inl e ↦ absurd (let u : ⊥ = omega (arith, none, spends cost, set_up_heavy cost window t.said e) in u)
      | inr e ↦ e
    ]

-- x became t at the first frame of y
pub came_left : (selective : Bool) (window : ℕ) (lx : List Frame) (x t : Station) (f : Frame) (fs : List Frame) (y : Station) → x.said ≡ [] → t.handed ≡ x.handed
    → ((set_up_cost : ℕ) → Spends selective set_up_cost window (length y.handed) (sets_up (f ∷ fs)) (sets_up fs) (weight 2 window f) x t)
    → left selective window (lx ++ t.said) t fs y + 1 ≤ left selective window lx x (f ∷ fs) y
came_left selective window lx x t f fs y quiet handed spends =
    let none : weights 2 window x.said ≡ 0 = ap (weights 2 window) quiet in
    let same = sets_up_join lx t.said (says_no_set_up selective window (length y.handed) (sets_up (f ∷ fs)) (sets_up fs) (weight 2 window f) x t quiet spends) in
    let other : upkeep selective window (length t.handed) (sets_up (lx ++ t.said)) y ≡ upkeep selective window (length x.handed) (sets_up lx) y =
    ap (λ (l : List (List ℕ)). upkeep selective window (length l) (sets_up (lx ++ t.said)) y) handed
    ∙ ap (λ (b : Bool). upkeep selective window (length x.handed) b y) same in
    omega (arith, none, other, spends 2, weights_join 2 window lx t.said)

-- ---- before the first pass

upkeep_le : (selective : Bool) (window given : ℕ) (owed : Bool) (next : ℕ) (fresh gap : Bool) (held : List (ℕ × List ℕ)) (asked : List ℕ) → 1 ≤ window → next ≤ given → (owed ≡ true → 1 ≤ next)
    → repairs selective window given fresh next gap held asked + one_if owed ≤ rejections window (given + 1)
upkeep_le true window given owed next fresh gap held asked some low owes =
    omega (arith, some, one_le owed, unasked_le fresh next given held asked, rejections_some window given some, rejections_one window given)
upkeep_le false window given true next fresh gap held asked some low owes =
    let all : given - next + ungapped fresh gap ≤ given = omega (arith, low, owes refl, ungapped_le fresh gap) in
    omega (arith, some, rejections_le window (given - next + ungapped fresh gap) given all, rejections_one window given)
upkeep_le false window given false next fresh gap held asked some low owes =
    omega (arith, rejections_le window (given - next + ungapped fresh gap) (given + 1) (omega (arith, ungapped_le fresh gap)))

pub left_le : (selective : Bool) (k window : ℕ) (lx : List Frame) (x : Station) (ly : List Frame) (y : Station) → 1 ≤ window → IsStationPair selective k lx x ly y
    → InWindow window x.handed x → InWindow window y.handed y
    → left selective window lx x ly y ≤ passes_bound window (length lx + length ly) (length x.handed + length y.handed)
left_le selective k window lx x ly y some p wx wy =
    let bx = way_bounds k x.handed x.acked x.sent y.taken (infos lx) (receive_numbers_in_frames ly) p.0.0 in
    let by = way_bounds k y.handed y.acked y.sent x.taken (infos ly) (receive_numbers_in_frames lx) p.1.0 in
    let hx : ℕ = length x.handed in
    let hy : ℕ = length y.handed in
    let ux = upkeep_le selective window hy x.owed (length x.taken) (sets_up ly) x.gap x.held x.asked some (omega (arith, by.1, p.1.0.given)) wx.owes in
    let uy = upkeep_le selective window hx y.owed (length y.taken) (sets_up lx) y.gap y.held y.asked some (omega (arith, bx.1, p.0.0.given)) wy.owes in
    let a = rejections_join window (length lx) (length ly) in
    let b = rejections_join window (hx + 1) (hy + 1) in
    let c = rejections_join window (length lx + length ly) (hx + 1 + (hy + 1)) in
    let e : length lx + length ly + (hx + 1 + (hy + 1)) ≡ length lx + length ly + (hx + hy) + 2 = omega arith in
    let d : rejections window (length lx + length ly + (hx + 1 + (hy + 1))) ≡ rejections window (length lx + length ly + (hx + hy) + 2) = ap (rejections window) e in
    omega (arith, ux, uy, a, b, c, d, rejections_are window (length lx + length ly + (hx + hy) + 2), weights_le window lx some, weights_le window ly some)

weights_none : (window : ℕ) (l : List Frame) → weights 2 window l ≤ 0 → l ≡ []
weights_none window [] h = refl
weights_none window (f ∷ l) h = absurd (let u : ⊥ = omega (arith, h, weight_some window f) in u)

-- none is left: no frame waits
pub left_none : (selective : Bool) (window : ℕ) (lx : List Frame) (x : Station) (ly : List Frame) (y : Station) → left selective window lx x ly y ≤ 0 → (lx ≡ []) × (ly ≡ [])
left_none selective window lx x ly y h = (weights_none window lx (omega arith), weights_none window ly (omega arith))
