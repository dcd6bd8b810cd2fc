-- What a station spends at a frame that comes: what it says, and what it may still ask for and send, comes to less than the frame brought and it
-- had before.
use Rattle.std.proofs.Common.{if◌then◌else◌, ◌≡◌, ℕ, zero, suc, ◌+◌, ◌-◌, ◌*◌, ◌%◌, ◌<◌, ◌≤◌, max, Bool, true, false, ◌||◌, List, [], ◌∷◌, ◌++◌, length, Option, sym, ap, subst, arith, length-append, eqb-true}
use Rattle.std.specs.Prelude.{nat_lt, ◌==◌}
use Rattle.std.proofs.lemmas.Bool.{cond_both}
use Rattle.hdlc_station_model.specs.declared.phase.Phase.{Phase}
use Rattle.hdlc_station_model.specs.declared.phase.Phase.TheVariants.{Idle, Setting, Up, Down}
use Rattle.hdlc_station_model.specs.Frames.{Frame, Info, Rr, Rej, Srej, SetUp, Disc, Dm, Ua, modulo, set_up, shown, information}
use Rattle.hdlc_station_model.specs.Stations.{Station, puts}
use Rattle.hdlc_station_model.specs.Sending.{info_at, can_send, waiting, sends_next, sends_up_to, sends_waiting, frames_again, sends_again, starts_timer, refuses_frame, settles}
use Rattle.hdlc_station_model.specs.Receiving.{acknowledges, acknowledging, by_number, accepts, rejects, takes, marks_busy, repeats_rejected, agrees, sets_up_again, row_idle, row_up, row_of_phase}
use Rattle.hdlc_pair_laws.specs.Invariant.{Half, IsSpan, Both, infos, receive_numbers_in_frames, marks, greatest_mark}
use Rattle.hdlc_pair_laws.specs.Flowing.{one_if}
use Rattle.hdlc_pair_laws.proofs.Ways.{forward_le, way_tells}
use Rattle.hdlc_pair_laws.proofs.Rows.{named_is, span_below}
use Rattle.hdlc_pair_laws.proofs.Potential.{weight, weights, weights_join, weights_push, weights_again, is_set_up, sets_up, none_sets_up, rejections, rejections_one, rejections_le}
use Rattle.hdlc_pair_laws.proofs.Repairs.{ungapped, repairs, repairs_le}

-- what a station said, may still ask for, has to send and owes: fresh says whether a set-up frame waits towards it, high is the number of
-- payloads that were handed to the other one
abbrev pub total : (selective : Bool) (set_up window high : ℕ) (fresh : Bool) → Station → ℕ
total selective set_up window high fresh x =
    weights set_up window x.said + repairs selective window high fresh (length x.taken) x.gap x.held x.asked + 2 * (length x.handed - x.sent) + one_if x.owed

-- x becomes t at a frame that brings so much
abbrev pub Spends : (selective : Bool) (set_up window high : ℕ) (before behind : Bool) (brought : ℕ) → Station → Station → Type 0
Spends selective set_up window high before behind brought x t =
    total selective set_up window high behind t + 1 ≤ brought + total selective set_up window high before x

pub fresh_le : (selective : Bool) (window high : ℕ) (c b : Bool) (x : Station)
    → repairs selective window high b (length x.taken) x.gap x.held x.asked ≤ repairs selective window high (c || b) (length x.taken) x.gap x.held x.asked
fresh_le selective window high true b x = repairs_le selective window high b (length x.taken) x.gap x.gap x.held x.held x.asked x.asked
fresh_le selective window high false b x = omega arith

pub weight_some : (window : ℕ) (f : Frame) → 1 ≤ weight 2 window f
weight_some window (Info ns nr payload) = omega arith
weight_some window (Rr nr) = omega arith
weight_some window (Rej nr) = omega arith
weight_some window (Srej nr) = omega arith
weight_some window SetUp = omega arith
weight_some window Disc = omega arith
weight_some window Dm = omega arith
weight_some window (Ua final) = omega arith

-- a frame that shows this number acknowledges it, and then the rest of the frame
pub numbered : (selective : Bool) (k : ℕ) (i : List (ℕ × List ℕ)) (m ns : List ℕ) (x : Station) (r : ℕ) (y : Station) (rest : Station → Station) (P : Station → Type 0)
    → IsSpan selective x.extended k → Half selective k i m (r ∷ ns) x y → P (rest (acknowledges r x)) → P (by_number (r % modulo x.extended) rest x)
numbered selective k i m ns x r y rest P span h p =
    subst (λ (o : Option ℕ). P (acknowledging o rest x)) (sym (named_is selective k r i m ns x y span h)) p

module _ (set_up_cost window : ℕ) where
  -- ---- what stations of both kinds do

  -- a payload that is sent was to be sent, and settles an answer
  up_to_spends : (selective : Bool) (high : ℕ) (fresh : Bool) (n : ℕ) (x : Station) → x.sent + n ≤ length x.handed
      → total selective set_up_cost window high fresh (sends_up_to n x) ≤ total selective set_up_cost window high fresh x
  up_to_spends selective high fresh zero x h = omega arith
  up_to_spends selective high fresh (suc n) x h =
      cond_both (can_send x) (sends_up_to n (sends_next x)) x
      (λ t. total selective set_up_cost window high fresh t ≤ total selective set_up_cost window high fresh x)
      (λ can. omega (arith, up_to_spends selective high fresh n (sends_next x) (omega arith), weights_push set_up_cost window x.said (info_at x x.sent)))
      (λ cannot. omega arith)

  pub waiting_spends : (selective : Bool) (high : ℕ) (fresh : Bool) (x : Station) → x.sent ≤ length x.handed
      → total selective set_up_cost window high fresh (sends_waiting x) ≤ total selective set_up_cost window high fresh x
  waiting_spends selective high fresh x h = up_to_spends selective high fresh (waiting x) x (omega arith)

  pub settles_spends : (selective : Bool) (high : ℕ) (fresh : Bool) (x : Station)
      → total selective set_up_cost window high fresh (settles x) ≤ total selective set_up_cost window high fresh x
  settles_spends selective high fresh x =
      cond_both x.owed (record (puts (Rr (length x.taken)) x) { owed = false }) x
      (λ t. total selective set_up_cost window high fresh t ≤ total selective set_up_cost window high fresh x)
      (λ e. omega (arith, ap one_if e, weights_push set_up_cost window x.said (Rr (length x.taken)))) (λ e. omega arith)

  pub idle_spends : (selective : Bool) (high : ℕ) (fresh e : Bool) (x : Station)
      → Spends selective set_up_cost window high true fresh 2 x (row_idle x (set_up e) [])
  idle_spends selective high fresh true x =
      omega (arith, weights_push set_up_cost window x.said (Ua true), repairs_le selective window high fresh (length x.taken) x.gap x.gap x.held x.held x.asked x.asked)
  idle_spends selective high fresh false x =
      omega (arith, weights_push set_up_cost window x.said (Ua true), repairs_le selective window high fresh (length x.taken) x.gap x.gap x.held x.held x.asked x.asked)

  -- an end that refuses answers DM
  pub refuses_spends : (selective : Bool) (high : ℕ) (c fresh : Bool) (x : Station)
      → Spends selective set_up_cost window high (c || fresh) fresh 2 x (refuses_frame x)
  refuses_spends selective high c fresh x = omega (arith, weights_push set_up_cost window x.said Dm, fresh_le selective window high c fresh x)

  pub down_spends : (selective : Bool) (high : ℕ) (f : Frame) (fresh : Bool) (x : Station)
      → Spends selective set_up_cost window high (is_set_up f || fresh) fresh (weight 2 window f) x x
  down_spends selective high f fresh x = omega (arith, weight_some window f, fresh_le selective window high (is_set_up f) fresh x)

  -- ---- go-back

  accepts_spends : (high : ℕ) (p : List ℕ) (x : Station) → length x.taken < high → Spends false set_up_cost window high false false 2 x (accepts p x)
  accepts_spends high p x low =
      let l = length-append x.taken (p ∷ []) in
      let r = rejections_le window (high - length (x.taken ++ p ∷ []) + 1) (high - length x.taken + ungapped false x.gap) (omega arith) in
      omega (arith, r)

  rejects_spends : (high : ℕ) (x : Station) → Spends false set_up_cost window high false false 2 x (rejects x)
  rejects_spends high x =
      cond_both x.gap (puts (Rr (length x.taken)) x) (puts (Rej (length x.taken)) (record x { gap = true })) (λ t. Spends false set_up_cost window high false false 2 x t)
      (λ e. omega (arith, weights_push set_up_cost window x.said (Rr (length x.taken))))
      (λ e.
      let same : high - length x.taken + ungapped false x.gap ≡ high - length x.taken + 1 = ap (λ (b : Bool). high - length x.taken + ungapped false b) e in
      let one : rejections window (high - length x.taken + ungapped false x.gap) ≡ rejections window (high - length x.taken + 1) = ap (rejections window) same in
      let none : high - length x.taken + 0 ≡ high - length x.taken = omega arith in
      let zero_more : rejections window (high - length x.taken + 0) ≡ rejections window (high - length x.taken) = ap (rejections window) none in
      omega (arith, one, zero_more, rejections_one window (high - length x.taken), weights_push set_up_cost window x.said (Rej (length x.taken))))

  takes_spends : (high ns : ℕ) (p : List ℕ) (x : Station) → (length x.taken % modulo x.extended ≡ ns → length x.taken < high)
      → Spends false set_up_cost window high false false 2 x (takes ns p x)
  takes_spends high ns p x low =
      cond_both (length x.taken % modulo x.extended == ns) (accepts p x) (rejects x) (λ t. Spends false set_up_cost window high false false 2 x t)
      (λ e. accepts_spends high p x (low (eqb-true (length x.taken % modulo x.extended) ns e))) (λ e. rejects_spends high x)

  settled_le : (n : ℕ) (b : Bool) → one_if (if n == 0 then b else false) ≤ one_if b
  settled_le n b = cond_both (n == 0) b false (λ c. one_if c ≤ one_if b) (λ e. omega arith) (λ e. omega arith)

  repeats_spends : (high : ℕ) (fresh : Bool) (x : Station) → x.sent ≤ x.acked + window → Spends false set_up_cost window high fresh fresh (1 + 2 * window) x (repeats_rejected x)
  repeats_spends high fresh x room =
      cond_both (nat_lt x.acked x.sent) (starts_timer (sends_again x)) x (λ t. Spends false set_up_cost window high fresh fresh (1 + 2 * window) x t)
      (λ e. omega (arith, weights_join set_up_cost window x.said (frames_again (x.sent - x.acked) x), weights_again set_up_cost window (x.sent - x.acked) x, settled_le (x.sent - x.acked) x.owed))
      (λ e. omega arith)

  agrees_spends : (high : ℕ) (fresh : Bool) (x : Station) → Spends false set_up_cost window high true fresh 2 x (sets_up_again true x)
  agrees_spends high fresh x =
      cond_both (length x.taken == 0) (agrees true (record x { gap = false })) (refuses_frame x) (λ t. Spends false set_up_cost window high true fresh 2 x t)
      (λ e. omega (arith, weights_push set_up_cost window x.said (Ua true), repairs_le false window high fresh (length x.taken) false x.gap x.held x.held x.asked x.asked))
      (λ e. refuses_spends false high true fresh x)

  set_up_spends : (high : ℕ) (fresh e : Bool) (x : Station) → Spends false set_up_cost window high true fresh 2 x (row_up x (set_up e) [])
  set_up_spends high fresh true x = agrees_spends high fresh x
  set_up_spends high fresh false x = agrees_spends high fresh x

  -- an I frame that shows V(R) is the next one, and it was handed down
  next_below : (k : ℕ) (lw : List Frame) (x : Station) (n r : ℕ) (q : List ℕ) (fs : List Frame) (y : Station) → Both false k lw x (Info n r q ∷ fs) y
      → length x.taken % modulo x.extended ≡ n % modulo x.extended → length x.taken < length y.handed
  next_below k lw x n r q fs y b same =
      let v = b.1.0 in
      let e = way_tells x.extended k y.handed y.acked y.sent x.taken (n, q) (infos fs) (receive_numbers_in_frames (lw ++ x.said)) (span_below false x.extended k b.4) same v in
      let le = forward_le k (max (length x.taken) (n + 1)) y.sent y.handed (infos fs) v.chain.2 in
      omega (arith, e, le, v.given)

  pub go_back_spends : (k : ℕ) (lw : List Frame) (p : Phase) (x : Station) (f : Frame) (fs : List Frame) (y : Station) → x.sent ≤ x.acked + window
      → Both false k lw (record x { phase = p }) (f ∷ fs) y
      → Spends false set_up_cost window (length y.handed) (sets_up (f ∷ fs)) (sets_up fs) (weight 2 window f) x (row_of_phase p (record x { phase = p }) (shown x.extended f) (information f))
  go_back_spends k lw Idle x (Info n r q) fs y room b = omega arith
  go_back_spends k lw Idle x (Rr r) fs y room b = omega arith
  go_back_spends k lw Idle x (Rej r) fs y room b = omega arith
  go_back_spends k lw Idle x (Srej r) fs y room b = omega arith
  go_back_spends k lw Idle x SetUp fs y room b = idle_spends false (length y.handed) (sets_up fs) x.extended (record x { phase = Idle })
  go_back_spends k lw Idle x Disc fs y room b = omega arith
  go_back_spends k lw Idle x Dm fs y room b = omega arith
  go_back_spends k lw Idle x (Ua final) fs y room b = omega arith
  go_back_spends k lw Setting x (Info n r q) fs y room b = omega arith
  go_back_spends k lw Setting x (Rr r) fs y room b = omega arith
  go_back_spends k lw Setting x (Rej r) fs y room b = omega arith
  go_back_spends k lw Setting x (Srej r) fs y room b = omega (arith, refuses_spends false (length y.handed) false (sets_up fs) (record x { phase = Setting }))
  go_back_spends k lw Setting x SetUp fs y room b = setting_spends (length y.handed) (sets_up fs) x.extended (record x { phase = Setting })
    where
      setting_spends : (high : ℕ) (fresh e : Bool) (z : Station) → Spends false set_up_cost window high true fresh 2 z (row_of_phase Setting z (set_up e) [])
      setting_spends high fresh true z = refuses_spends false high true fresh z
      setting_spends high fresh false z = refuses_spends false high true fresh z
  go_back_spends k lw Setting x Disc fs y room b = omega (arith, weights_push set_up_cost window x.said (Ua true))
  go_back_spends k lw Setting x Dm fs y room b = omega arith
  go_back_spends k lw Setting x (Ua final) fs y room b = omega arith
  go_back_spends k lw Up x (Info n r q) fs y room b =
      let u : Station = record x { phase = Up } in
      let high : ℕ = length y.handed in
      let none = none_sets_up false 1 fs (greatest_mark y.calling y.sent) (omega arith) b.1.1.1 in
      numbered false k (infos (lw ++ x.said)) (marks false (lw ++ x.said)) (receive_numbers_in_frames fs) u r y (takes (n % modulo x.extended) q)
      (λ t. Spends false set_up_cost window high (sets_up fs) (sets_up fs) 2 x t) b.4 b.0
      (subst (λ (c : Bool). Spends false set_up_cost window high c c 2 x (takes (n % modulo x.extended) q (acknowledges r u))) (sym none)
      (takes_spends high (n % modulo x.extended) q (acknowledges r u) (next_below k lw u n r q fs y b)))
  go_back_spends k lw Up x (Rr r) fs y room b =
      let u : Station = record x { phase = Up } in
      numbered false k (infos (lw ++ x.said)) (marks false (lw ++ x.said)) (receive_numbers_in_frames fs) u r y (marks_busy false)
      (λ t. Spends false set_up_cost window (length y.handed) (sets_up fs) (sets_up fs) 1 x t) b.4 b.0 (omega arith)
  go_back_spends k lw Up x (Rej r) fs y room b =
      let u : Station = record x { phase = Up } in
      numbered false k (infos (lw ++ x.said)) (marks false (lw ++ x.said)) (receive_numbers_in_frames fs) u r y (λ t. repeats_rejected (marks_busy false t))
      (λ t. Spends false set_up_cost window (length y.handed) (sets_up fs) (sets_up fs) (1 + 2 * window) x t) b.4 b.0
      (repeats_spends (length y.handed) (sets_up fs) (marks_busy false (acknowledges r u)) (omega (arith, b.0.0.climb.0)))
  go_back_spends k lw Up x (Srej r) fs y room b = omega (arith, refuses_spends false (length y.handed) false (sets_up fs) (record x { phase = Up }))
  go_back_spends k lw Up x SetUp fs y room b = set_up_spends (length y.handed) (sets_up fs) x.extended (record x { phase = Up })
  go_back_spends k lw Up x Disc fs y room b = omega (arith, weights_push set_up_cost window x.said (Ua true))
  go_back_spends k lw Up x Dm fs y room b = omega arith
  go_back_spends k lw Up x (Ua final) fs y room b = omega arith
  go_back_spends k lw Down x f fs y room b = down_spends false (length y.handed) f (sets_up fs) x
