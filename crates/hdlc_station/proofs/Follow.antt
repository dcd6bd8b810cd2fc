-- N(R) by what is kept.
use Rattle.std.proofs.Common.{◌≡◌, ℕ, zero, suc, ◌+◌, ◌-◌, ◌%◌, ◌<◌, ◌≤◌, Bool, true, false, List, ◌++◌, length, Some, None, refl, sym, ap, ap₂, ◌∙◌, arith, eq-eqb, ne_eqb, lt-ltb, ltb-true, length-append}
use native.Mathlib.Nat.{mod-add-mod}
use Rattle.std.specs.Prelude.{◌==◌, nat_lt}
use Rattle.hdlc_station_model.specs.Frames.{modulo}
use Rattle.er_base.specs.Stored.{Stored}
use Rattle.hdlc_station_model.specs.Stations.{Station, Deed}
use Rattle.hdlc_station_model.specs.Receiving.{number_shown_as}
use Rattle.hdlc_station.specs.Kept.{KeptStation, kept_of, Stands}

-- the numbers are searched from V(A) on: the first one that is shown as r is u above it
found : (e : Bool) (n a u r : ℕ) → (a + u) % modulo e ≡ r → u ≤ n → n < modulo e → number_shown_as e a n r ≡ Some (a + u)
found true zero a u r shown near small =
    let none : u ≡ 0 = omega arith in
    let same : a + u ≡ a = omega arith in
    rw (eq-eqb (a % 128) r (ap (λ t. t % 128) (sym same) ∙ shown), same) refl
found true (suc n) a zero r shown near small =
    let same : a + 0 ≡ a = omega arith in
    rw (eq-eqb (a % 128) r (ap (λ t. t % 128) (sym same) ∙ shown), same) refl
found true (suc n) a (suc u) r shown near small =
    let differs : (a % 128 == r) ≡ false = ne_eqb (a % 128) r (λ e. omega arith) in
    let moved : a + 1 + u ≡ a + suc u = omega arith in
    rw differs (found true n (a + 1) u r (ap (λ t. t % 128) moved ∙ shown) (omega arith) (omega arith) ∙ ap Some moved)
found false zero a u r shown near small =
    let none : u ≡ 0 = omega arith in
    let same : a + u ≡ a = omega arith in
    rw (eq-eqb (a % 8) r (ap (λ t. t % 8) (sym same) ∙ shown), same) refl
found false (suc n) a zero r shown near small =
    let same : a + 0 ≡ a = omega arith in
    rw (eq-eqb (a % 8) r (ap (λ t. t % 8) (sym same) ∙ shown), same) refl
found false (suc n) a (suc u) r shown near small =
    let differs : (a % 8 == r) ≡ false = ne_eqb (a % 8) r (λ e. omega arith) in
    let moved : a + 1 + u ≡ a + suc u = omega arith in
    rw differs (found false n (a + 1) u r (ap (λ t. t % 8) moved ∙ shown) (omega arith) (omega arith) ∙ ap Some moved)

-- none is where the first one is further than n above
missed : (e : Bool) (n a u r : ℕ) → (a + u) % modulo e ≡ r → n < u → u < modulo e → number_shown_as e a n r ≡ None
missed true zero a u r shown far small = rw (ne_eqb (a % 128) r (λ e. omega arith)) refl
missed true (suc n) a zero r shown far small = absurd (omega arith)
missed true (suc n) a (suc u) r shown far small =
    let moved : a + 1 + u ≡ a + suc u = omega arith in
    rw (ne_eqb (a % 128) r (λ e. omega arith)) (missed true n (a + 1) u r (ap (λ t. t % 128) moved ∙ shown) (omega arith) (omega arith))
missed false zero a u r shown far small = rw (ne_eqb (a % 8) r (λ e. omega arith)) refl
missed false (suc n) a zero r shown far small = absurd (omega arith)
missed false (suc n) a (suc u) r shown far small =
    let moved : a + 1 + u ≡ a + suc u = omega arith in
    rw (ne_eqb (a % 8) r (λ e. omega arith)) (missed false n (a + 1) u r (ap (λ t. t % 8) moved ∙ shown) (omega arith) (omega arith))

-- no number is shown as one that isn't below the modulo
pub beyond : (e : Bool) (n a r : ℕ) → modulo e ≤ r → number_shown_as e a n r ≡ None
beyond true zero a r high = rw (ne_eqb (a % 128) r (λ e. omega arith)) refl
beyond true (suc n) a r high = rw (ne_eqb (a % 128) r (λ e. omega arith)) (beyond true n (a + 1) r high)
beyond false zero a r high = rw (ne_eqb (a % 8) r (λ e. omega arith)) refl
beyond false (suc n) a r high = rw (ne_eqb (a % 8) r (λ e. omega arith)) (beyond false n (a + 1) r high)

-- V(A) modulo the modulo does as well
shown_from : (e : Bool) (a u r : ℕ) → (a % modulo e + u) % modulo e ≡ r → (a + u) % modulo e ≡ r
shown_from true a u r h = omega arith
shown_from false a u r h = omega arith

pub named_on : (k : KeptStation) (s : Station) (up r : ℕ) → k ≡ kept_of s → s.acked ≤ s.sent → k.ahead < modulo k.extended → (k.va + up) % modulo k.extended ≡ r → up ≤ k.ahead
    → number_shown_as s.extended s.acked (s.sent - s.acked) r ≡ Some (s.acked + up)
named_on k s up r is order small shown near =
    let ahead = ap (λ (q : KeptStation). q.ahead) is in
    let sum = ap (λ (q : KeptStation). (q.va + up) % modulo q.extended) is in
    let width = ap (λ (q : KeptStation). modulo q.extended) is in
    found s.extended (s.sent - s.acked) s.acked up r (shown_from s.extended s.acked up r (sym sum ∙ shown)) (omega arith) (omega arith)

pub named_off : (k : KeptStation) (s : Station) (up r : ℕ) → k ≡ kept_of s → s.acked ≤ s.sent → up < modulo k.extended → (k.va + up) % modulo k.extended ≡ r → k.ahead < up
    → number_shown_as s.extended s.acked (s.sent - s.acked) r ≡ None
named_off k s up r is order small shown far =
    let ahead = ap (λ (q : KeptStation). q.ahead) is in
    let sum = ap (λ (q : KeptStation). (q.va + up) % modulo q.extended) is in
    let width = ap (λ (q : KeptStation). modulo q.extended) is in
    missed s.extended (s.sent - s.acked) s.acked up r (shown_from s.extended s.acked up r (sym sum ∙ shown)) (omega arith) (omega arith)

-- ---- N(S), searched from V(R) on

pub next_on : (k : KeptStation) (s : Station) (up r : ℕ) → k ≡ kept_of s → k.window < modulo k.extended → (k.vr + up) % modulo k.extended ≡ r → up < k.window
    → number_shown_as s.extended (length s.taken) (s.window - 1) r ≡ Some (length s.taken + up)
next_on k s up r is small shown near =
    let window = ap (λ (q : KeptStation). q.window) is in
    let sum = ap (λ (q : KeptStation). (q.vr + up) % modulo q.extended) is in
    let width = ap (λ (q : KeptStation). modulo q.extended) is in
    found s.extended (s.window - 1) (length s.taken) up r (shown_from s.extended (length s.taken) up r (sym sum ∙ shown)) (omega arith) (omega arith)

pub next_off : (k : KeptStation) (s : Station) (up r : ℕ) → k ≡ kept_of s → 1 ≤ k.window → up < modulo k.extended → (k.vr + up) % modulo k.extended ≡ r → k.window ≤ up
    → number_shown_as s.extended (length s.taken) (s.window - 1) r ≡ None
next_off k s up r is some small shown far =
    let window = ap (λ (q : KeptStation). q.window) is in
    let sum = ap (λ (q : KeptStation). (q.vr + up) % modulo q.extended) is in
    let width = ap (λ (q : KeptStation). modulo q.extended) is in
    missed s.extended (s.window - 1) (length s.taken) up r (shown_from s.extended (length s.taken) up r (sym sum ∙ shown)) (omega arith) (omega arith)

-- ---- V(R)

pub more_taken : (k : KeptStation) (s : Station) (payloads : List (List ℕ)) (count : ℕ) → k ≡ kept_of s → k.begun ≡ true → length payloads ≡ count
    → record k { vr = (k.vr + count) % modulo k.extended } ≡ kept_of (record s { taken = s.taken ++ payloads })
more_taken k s payloads count is begun n =
    let some : nat_lt 0 (length s.taken) ≡ true = sym (ap (λ (q : KeptStation). q.begun) is) ∙ begun in
    let above : 0 < length s.taken = ltb-true 0 (length s.taken) some in
    let all : length s.taken + count ≡ length (s.taken ++ payloads) = ap (λ (m : ℕ). length s.taken + m) (sym n) ∙ sym (length-append s.taken payloads) in
    let more : nat_lt 0 (length (s.taken ++ payloads)) ≡ true = lt-ltb 0 (length (s.taken ++ payloads)) (omega (arith, all, above)) in
    ap (λ (q : KeptStation). record q { vr = (q.vr + count) % modulo q.extended }) is
    ∙ ap₂ (λ (g : ℕ) (b : Bool). record (kept_of s) { vr = g; begun = b })
    (mod-add-mod (length s.taken) (modulo s.extended) count ∙ ap (λ (m : ℕ). m % modulo s.extended) all) (some ∙ sym more)

pub run_taken : (k : KeptStation) (before : List ℕ) (out : Stored) (d : Deed) (s : Station) (payloads : List (List ℕ)) (count : ℕ) → k.begun ≡ true → length payloads ≡ count
    → Stands k before out d s → Stands (record k { vr = (k.vr + count) % modulo k.extended }) before out d (record s { taken = s.taken ++ payloads })
run_taken k before out d s payloads count begun n h =
    record { is = more_taken k s payloads count h.is begun n; order = h.order; given = h.given; deed = h.deed; text = h.text }
