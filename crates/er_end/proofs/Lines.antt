-- The station that the code keeps does in each call what the station model does, also within an event.
use Rattle.std.proofs.Common.{◌≡◌, inl, inr, ◌-◌, ◌≤◌, ◌∙◌, ℕ, zero, suc, Bool, false, ◌&&◌, ◌||◌, not, List, [], ◌∷◌, ◌++◌, length, None, refl, sym, ap, ap₂, subst, arith, append_assoc, append-nil, length-drop, eq-eqb, eqb-true, true≢false}
use Rattle.std.specs.Prelude.{nat_lt, ◌==◌}
use Rattle.std.proofs.lemmas.Bool.{cases_Bool}
use Rattle.std.proofs.lemmas.Grind.{flat_map-append}
use Rattle.hdlc_frames.specs.Framing.{Verdict}
use Rattle.hdlc_station_model.specs.declared.phase.Phase.{Phase}
use Rattle.hdlc_station_model.specs.declared.phase.Phase.TheVariants.{Idle, Setting, Up, Down}
use Rattle.hdlc_station_model.specs.Frames.{Frame, Rr, Disc, sent_octets}
use Rattle.hdlc_station_model.specs.Stations.{Station, Deed, no_deed, settled, is_down, is_up, sees, puts}
use Rattle.hdlc_station_model.specs.Sending.{can_send, waiting, sends_next, sends_up_to, settles}
use Rattle.hdlc_station_model.specs.Calls.{starts, receives, hands, finishes, ticks, closes, closes_at, may_send}
use Rattle.hdlc_station.specs.Kept.{KeptStation, kept_of, octets_of_sent_frames}
use Rattle.hdlc_station.specs.Alike.{model_of, Sound, Alike, KeepsStationsAlike, KeptIsModelled}
use Rattle.er_end.specs.KeptLayers.{KLine, ran, line_starts, line_receives, line_told, line_hands, line_finishes, line_ticks, line_given_up, line_closes, line_may_send, line_is_free}
use Rattle.er_end.specs.Standing.{LineStands}

-- ---- what was sent before, and what was told, make no difference to a call

abbrev behind : List Frame → Deed → Station → Station
behind w d s = record s { said = w ++ s.said; deed = d }

puts_behind : (w : List Frame) (d : Deed) (f : Frame) (s : Station) → puts f (behind w d s) ≡ behind w d (puts f s)
puts_behind w d f s = ap (λ (l : List Frame). record s { said = l; deed = d }) (append_assoc w s.said (f ∷ []))

settles_behind : (w : List Frame) (d : Deed) (s : Station) → settles (behind w d s) ≡ behind w d (settles s)
settles_behind w d s = elim (cases_Bool s.owed) [
  | inl y ↦ rw y (ap (λ (t : Station). record t { owed = false }) (puts_behind w d (Rr (length s.taken)) s))
  | inr n ↦ rw n refl
]

finishes_behind : (w : List Frame) (d : Deed) (s : Station) → finishes (behind w d s) ≡ behind w d (finishes s)
finishes_behind w d s = elim (cases_Bool (is_down s.phase)) [
  | inl y ↦ rw y refl
  | inr n ↦ rw n (settles_behind w d s)
]

closes_at_behind : (p : Phase) (w : List Frame) (d : Deed) (s : Station) → closes_at p (behind w d s) ≡ behind w d (closes_at p s)
closes_at_behind Idle w d s = refl
closes_at_behind Setting w d s = puts_behind w d Disc s
closes_at_behind Up w d s = puts_behind w d Disc s
closes_at_behind Down w d s = refl

closes_behind : (w : List Frame) (d : Deed) (s : Station) → closes (behind w d s) ≡ behind w d (closes s)
closes_behind w d s = elim (cases_Bool (is_down s.phase)) [
  | inl y ↦ rw y refl
  | inr n ↦ rw n (ap (λ (t : Station). record t { phase = Down; timer = None }) (closes_at_behind s.phase w d s))
]

up_to_behind : (n : ℕ) (w : List Frame) (d : Deed) (s : Station) → sends_up_to n (behind w d s) ≡ behind w d (sends_up_to n s)
up_to_behind zero w d s = refl
up_to_behind (suc n) w d s = elim (cases_Bool (can_send s)) [
  | inl y ↦ rw y (ap (λ (l : List Frame). sends_up_to n (record (sends_next s) { said = l; deed = d })) (append_assoc w s.said _) ∙ up_to_behind n w d (sends_next s))
  | inr m ↦ rw m refl
]

hands_behind : (now : ℕ) (m : List ℕ) (w : List Frame) (d : Deed) (s : Station) → hands now m (behind w d s) ≡ behind w d (hands now m s)
hands_behind now m w d s = elim (cases_Bool (is_down s.phase)) [
  | inl y ↦ rw y refl
  | inr n ↦ rw n (let t : Station = record (sees now s) { handed = s.handed ++ m ∷ [] } in up_to_behind (waiting t) w d t)
]

-- ---- a call leaves the role and the width

abbrev IsOne : Station → Station → Type 0
IsOne s t = (t.calling ≡ s.calling) × (t.extended ≡ s.extended)

finishes_one : (s : Station) → IsOne s (finishes s)
finishes_one s = elim (cases_Bool (is_down s.phase)) [
  | inl y ↦ rw y (refl, refl)
  | inr n ↦ rw n (elim (cases_Bool s.owed) [ inl y ↦ rw y (refl, refl) | inr m ↦ rw m (refl, refl) ])
]

closes_at_one : (p : Phase) (s : Station) → IsOne s (closes_at p s)
closes_at_one Idle s = (refl, refl)
closes_at_one Setting s = (refl, refl)
closes_at_one Up s = (refl, refl)
closes_at_one Down s = (refl, refl)

closes_one : (s : Station) → IsOne s (closes s)
closes_one s = elim (cases_Bool (is_down s.phase)) [
  | inl y ↦ rw y (refl, refl)
  | inr n ↦ rw n (closes_at_one s.phase s)
]

up_to_one : (n : ℕ) (s : Station) → IsOne s (sends_up_to n s)
up_to_one zero s = (refl, refl)
up_to_one (suc n) s = elim (cases_Bool (can_send s)) [
  | inl y ↦ rw y (up_to_one n (sends_next s))
  | inr m ↦ rw m (refl, refl)
]

hands_one : (now : ℕ) (m : List ℕ) (s : Station) → IsOne s (hands now m s)
hands_one now m s = elim (cases_Bool (is_down s.phase)) [
  | inl y ↦ rw y (refl, refl)
  | inr n ↦ rw n (let t : Station = record (sees now s) { handed = s.handed ++ m ∷ [] } in up_to_one (waiting t) t)
]

-- ---- stations that are kept alike

-- a station where an event begins
pub record LineBegins (l : KLine) (s : Station) : Type 0 where
  pub is : l.station ≡ kept_of s
  pub sound : Sound s
  pub out : l.out ≡ []
  pub said : s.said ≡ []
  pub deed : s.deed ≡ no_deed

pub line_begun : (l : KLine) (s : Station) → LineBegins l s → LineStands l s
line_begun l s b = record { is = b.is; sound = b.sound; text = b.out ∙ sym (ap (octets_of_sent_frames s.calling s.extended) b.said) }

pub line_settles : (l : KLine) (s : Station) → LineStands l s → LineBegins (record l { out = [] }) (settled s)
line_settles l s h = record { is = h.is; sound = h.sound; out = refl; said = refl; deed = refl }

module _ (steps : KeepsStationsAlike) (modelled : KeptIsModelled) where
  alike_of : (l : KLine) (s : Station) → l.station ≡ kept_of s → Sound s → Alike (model_of l.station) (settled s)
  alike_of l s is sound = subst (λ (k : KeptStation). Alike (model_of k) (settled s)) (sym is) (modelled (settled s) sound refl refl)

  -- a call where an event begins
  begins_by : (step : Station → Station) → ((s t : Station) → Alike s t → Alike (step s) (step t)) → (l : KLine) (s : Station) → LineBegins l s
      → Alike (step (model_of l.station)) (step s)
  begins_by step alike l s b =
      let h : Alike (model_of l.station) (settled s) = alike_of l s b.is b.sound in
      alike (model_of l.station) s (h.0, h.1, b.sound, sym b.deed, sym (ap (octets_of_sent_frames s.calling s.extended) b.said))

  ran_from : (l : KLine) (a t : Station) → l.out ≡ [] → Alike a t → LineStands (ran l a) t
  ran_from l a t out h = record { is = h.0; sound = h.2; text = ap (λ (o : List ℕ). o ++ octets_of_sent_frames a.calling a.extended a.said) out ∙ h.4 }

  pub starts_stand : (now : ℕ) (l : KLine) (s : Station) → LineBegins l s → LineStands (line_starts now l) (starts now s)
  unfolding line_starts
  starts_stand now l s b = ran_from l (starts now (model_of l.station)) (starts now s) b.out (begins_by (starts now) (steps.starts now) l s b)

  pub receives_stand : (now : ℕ) (v : Verdict) (l : KLine) (s : Station) → LineBegins l s → LineStands (line_receives now v l) (receives now v s)
  unfolding line_receives
  receives_stand now v l s b = ran_from l (receives now v (model_of l.station)) (receives now v s) b.out (begins_by (receives now v) (steps.receives now v) l s b)

  pub told_stand : (now : ℕ) (v : Verdict) (l : KLine) (s : Station) → LineBegins l s → (receives now v s).deed ≡ line_told now v l
  unfolding line_told
  told_stand now v l s b = sym (begins_by (receives now v) (steps.receives now v) l s b).3

  pub ticks_stand : (now : ℕ) (l : KLine) (s : Station) → LineBegins l s → LineStands (line_ticks now l) (ticks now s)
  unfolding line_ticks
  ticks_stand now l s b = ran_from l (ticks now (model_of l.station)) (ticks now s) b.out (begins_by (ticks now) (steps.ticks now) l s b)

  pub given_up_stand : (now : ℕ) (l : KLine) (s : Station) → LineBegins l s → (ticks now s).deed.released ≡ line_given_up now l
  unfolding line_given_up
  given_up_stand now l s b = ap (λ (d : Deed). d.released) (sym (begins_by (ticks now) (steps.ticks now) l s b).3)

  -- a call within an event
  ran_on : (step : Station → Station) → ((w : List Frame) (d : Deed) (s : Station) → step (behind w d s) ≡ behind w d (step s)) → ((s : Station) → IsOne s (step s))
      → ((s t : Station) → Alike s t → Alike (step s) (step t)) → (l : KLine) (s : Station) → LineStands l s → LineStands (ran l (step (model_of l.station))) (step s)
  ran_on step framed one alike l s h =
      let a : Station = step (model_of l.station) in
      let b : Station = step (settled s) in
      let g : Alike a b = alike (model_of l.station) (settled s) (alike_of l s h.is h.sound) in
      let e : step s ≡ behind s.said s.deed b =
      ap (λ (w : List Frame). step (record s { said = w })) (sym (append-nil s.said)) ∙ framed s.said s.deed (settled s) in
      let o = one (settled s) in
      let before : l.out ≡ octets_of_sent_frames b.calling b.extended s.said = h.text ∙ ap₂ (λ (c x : Bool). octets_of_sent_frames c x s.said) (sym o.0) (sym o.1) in
      subst (λ (t : Station). LineStands (ran l a) t) (sym e) (record {
        is = g.0;
        sound = g.2;
        text = ap₂ (λ (x y : List ℕ). x ++ y) before g.4 ∙ sym (flat_map-append (sent_octets b.calling b.extended) s.said b.said);
      })

  pub hands_stand : (now : ℕ) (m : List ℕ) (l : KLine) (s : Station) → LineStands l s → LineStands (line_hands now m l) (hands now m s)
  unfolding line_hands
  hands_stand now m l s h = ran_on (hands now m) (hands_behind now m) (hands_one now m) (steps.hands now m) l s h

  pub finishes_stand : (l : KLine) (s : Station) → LineStands l s → LineStands (line_finishes l) (finishes s)
  unfolding line_finishes
  finishes_stand l s h = ran_on finishes finishes_behind finishes_one steps.finishes l s h

  pub closes_stand : (l : KLine) (s : Station) → LineStands l s → LineStands (line_closes l) (closes s)
  unfolding line_closes
  closes_stand l s h = ran_on closes closes_behind closes_one steps.closes l s h

  -- ---- tests

  none_left : (n a s : ℕ) → a ≤ s → s ≤ n → (n - s == 0) ≡ (n - a == s - a)
  none_left n a s low high = elim (cases_Bool (n - s == 0)) [
    | inl y ↦ let z : n - s ≡ 0 = eqb-true (n - s) 0 y in y ∙ sym (eq-eqb (n - a) (s - a) (omega arith))
    | inr m ↦ elim (cases_Bool (n - a == s - a)) [
      | inl y ↦ let z : n - a ≡ s - a = eqb-true (n - a) (s - a) y in absurd (true≢false (sym (eq-eqb (n - s) 0 (omega arith)) ∙ m))
      | inr f ↦ m ∙ sym f
    ]
  ]

  -- by what is kept
  abbrev free_at : KeptStation → Bool
  free_at k = length k.ring == k.ahead

  free_of : (s : Station) → Sound s → (waiting s == 0) ≡ free_at (kept_of s)
  free_of s h =
      none_left (length s.handed) s.acked s.sent h.0 h.1 ∙ ap (λ (n : ℕ). n == s.sent - s.acked) (sym (length-drop s.acked s.handed))

  pub free_stands : (l : KLine) (s : Station) → LineStands l s → (waiting s == 0) ≡ line_is_free l
  free_stands l s h = free_of s h.sound ∙ ap free_at (sym h.is)

  abbrev may_at : KeptStation → Bool
  may_at k = (is_up k.phase && not k.busy && nat_lt k.ahead k.window && (k.calling || k.begun)) && free_at k

  may_of : (s : Station) → Sound s → may_send s ≡ may_at (kept_of s)
  may_of s h = ap (λ (b : Bool). can_send s && b) (free_of s h)

  pub may_send_stands : (l : KLine) (s : Station) → LineStands l s → may_send s ≡ line_may_send l
  unfolding line_may_send
  may_send_stands l s h =
      let g : Alike (model_of l.station) (settled s) = alike_of l s h.is h.sound in
      may_of s h.sound ∙ ap may_at (sym g.0) ∙ sym (may_of (model_of l.station) g.1)
