-- What a station sends where a payload is handed to it and goes at once, where it is closed, and where it finishes.
use Rattle.std.proofs.Common.{◌≡◌, inl, inr, ◌∙◌, ◌≤◌, ℕ, ◌+◌, ◌-◌, Bool, true, false, not, ◌&&◌, ◌||◌, List, [], ◌∷◌, ◌++◌, length, slice_index_or, refl, sym, ap, append-nil, length-append, arith, true≢false, lt-ltb, ltb-true, eq-eqb, eqb-true}
use Rattle.std.specs.Prelude.{◌==◌, nat_lt, if◌then◌else◌, None}
use Rattle.std.proofs.lemmas.Bool.{cond_both, and_parts, and_from, or_cases, or_left, or_right}
use Rattle.hdlc_station_model.specs.declared.phase.Phase.{Phase}
use Rattle.hdlc_station_model.specs.declared.phase.Phase.TheVariants.{Idle, Setting, Up, Down}
use Rattle.hdlc_station_model.specs.Frames.{Frame, Info, Rr}
use Rattle.hdlc_station_model.specs.Stations.{Station, is_up, is_down, sees, puts}
use Rattle.hdlc_station_model.specs.Sending.{can_send, waiting, sends_next, sends_up_to, sends_waiting}
use Rattle.hdlc_station_model.specs.Calls.{hands, finishes, closes, closes_at, may_send}
use Rattle.er_end_laws.specs.LastTpdus.{SendsAtOnce, disc_at, owed_answer}

-- ---- whether it may

up_of : (p : Phase) → is_up p ≡ true → p ≡ Up
up_of Idle h = absurd (true≢false (sym h))
up_of Setting h = absurd (true≢false (sym h))
up_of Up h = refl
up_of Down h = absurd (true≢false (sym h))

ready_of : (b : Bool) → not b ≡ true → b ≡ false
ready_of true h = absurd (true≢false (sym h))
ready_of false h = refl

pub at_once : (s : Station) → s.sent ≤ length s.handed → may_send s ≡ true → SendsAtOnce s
at_once s low may =
    let two = and_parts (can_send s) (waiting s == 0) may in
    let four = and_parts (is_up s.phase && not s.busy && nat_lt (s.sent - s.acked) s.window) (s.calling || nat_lt 0 (length s.taken)) two.0 in
    let three = and_parts (is_up s.phase && not s.busy) (nat_lt (s.sent - s.acked) s.window) four.0 in
    let first = and_parts (is_up s.phase) (not s.busy) three.0 in
    let none : waiting s ≡ 0 = eqb-true (waiting s) 0 two.1 in
    record {
      up = up_of s.phase first.0;
      ready = ready_of s.busy first.1;
      room = ltb-true (s.sent - s.acked) s.window three.1;
      begun = elim (or_cases s.calling (nat_lt 0 (length s.taken)) four.1) [
        | inl calls ↦ inl calls
        | inr took ↦ inr (let some = ltb-true 0 (length s.taken) took in omega (arith, some))
      ];
      none_waits = omega (arith, low, none);
    }

pub may_at_once : (s : Station) → SendsAtOnce s → may_send s ≡ true
may_at_once s h =
    let none = h.none_waits in
    and_from (can_send s) (waiting s == 0)
    (and_from (is_up s.phase && not s.busy && nat_lt (s.sent - s.acked) s.window) (s.calling || nat_lt 0 (length s.taken))
    (and_from (is_up s.phase && not s.busy) (nat_lt (s.sent - s.acked) s.window) (and_from (is_up s.phase) (not s.busy) (ap is_up h.up) (ap not h.ready))
    (lt-ltb (s.sent - s.acked) s.window h.room))
    (elim h.begun [
      | inl calls ↦ or_left s.calling (nat_lt 0 (length s.taken)) calls
      | inr took ↦ or_right s.calling (nat_lt 0 (length s.taken)) (lt-ltb 0 (length s.taken) (omega (arith, took)))
    ]))
    (eq-eqb (waiting s) 0 (omega (arith, none)))

-- ---- what it sends

last_at : {X : Type 0} (xs : List X) (x d : X) → slice_index_or (xs ++ x ∷ []) (length xs) d ≡ x
last_at [] x d = refl
last_at (y ∷ xs) x d = last_at xs x d

-- behind a payload that went at once
pub record WentAtOnce (payload : List ℕ) (s t : Station) : Type 0 where
  pub said : t.said ≡ s.said ++ Info s.sent (length s.taken) payload ∷ []
  pub phase : t.phase ≡ s.phase
  pub owed : t.owed ≡ false

pub went_at_once : (now : ℕ) (payload : List ℕ) (s : Station) → SendsAtOnce s → WentAtOnce payload s (hands now payload s)
went_at_once now payload s h =
    let y : Station = record (sees now s) { handed = s.handed ++ payload ∷ [] } in
    let can : can_send s ≡ true = (and_parts (can_send s) (waiting s == 0) (may_at_once s h)).0 in
    let longer : length (s.handed ++ payload ∷ []) ≡ length s.handed + 1 = length-append s.handed (payload ∷ []) in
    let one : waiting y ≡ 1 = let none = h.none_waits in omega (arith, none, longer) in
    let goes : hands now payload s ≡ sends_next y =
    ap (λ (b : Bool). if b then s else sends_waiting y) (ap is_down h.up)
    ∙ ap (λ (n : ℕ). sends_up_to n y) one
    ∙ ap (λ (b : Bool). if b then sends_next y else y) can in
    let last : slice_index_or (s.handed ++ payload ∷ []) s.sent [] ≡ payload =
    ap (λ (n : ℕ). slice_index_or (s.handed ++ payload ∷ []) n []) h.none_waits ∙ last_at s.handed payload [] in
    record {
      said = ap (λ (t : Station). t.said) goes ∙ ap (λ (p : List ℕ). s.said ++ Info s.sent (length s.taken) p ∷ []) last;
      phase = ap (λ (t : Station). t.phase) goes;
      owed = ap (λ (t : Station). t.owed) goes;
    }

-- ---- a close, and the answer that is owed

closed_at : (p : Phase) (s : Station) → s.phase ≡ p → (closes_at p s).said ≡ s.said ++ disc_at p
closed_at Idle s is = sym (append-nil s.said)
closed_at Setting s is = refl
closed_at Up s is = refl
closed_at Down s is = sym (append-nil s.said)

pub closed : (s : Station) → (closes s).said ≡ s.said ++ disc_at s.phase
closed s =
    cond_both (is_down s.phase) s (record (closes_at s.phase s) { phase = Down; timer = None }) (λ t. t.said ≡ s.said ++ disc_at s.phase)
    (λ down. sym (append-nil s.said) ∙ ap (λ (l : List Frame). s.said ++ l) (sym (none s.phase down))) (λ up. closed_at s.phase s refl)
  where
    none : (p : Phase) → is_down p ≡ true → disc_at p ≡ []
    none Idle d = absurd (true≢false (sym d))
    none Setting d = absurd (true≢false (sym d))
    none Up d = absurd (true≢false (sym d))
    none Down d = refl

pub finished_by : (s : Station) → (finishes s).said ≡ s.said ++ owed_answer s
finished_by s = by_both (is_down s.phase) s.owed
  where
    by_both : (down owed : Bool)
        → (if down then s else (if owed then record (puts (Rr (length s.taken)) s) { owed = false } else s)).said
        ≡ s.said ++ (if not down && owed then Rr (length s.taken) ∷ [] else [])
    by_both true owed = sym (append-nil s.said)
    by_both false true = refl
    by_both false false = sym (append-nil s.said)
