-- What a take tells: the message and what goes to the line, and no more.
use Rattle.std.proofs.lemmas.Bool.{ne_eqb}
use Rattle.std.proofs.Common.{arith, ◌≡◌, ℕ, zero, suc, true, false, ◌==◌, List, [], ◌∷◌, ◌++◌, length, refl, sym, ap, ◌∙◌}
use Rattle.std.specs.Prelude.{Some, None, is_some, cond, pos, slice_get}
use Rattle.er_end_model.specs.Outcomes.{Outcome}
use Rattle.er_end_model.specs.Steps.{hand_waiting_tpdus, has_next_tpdu, hand_next_tpdu, new_event_at, conclude_event, if_octets, if_taken}
use Rattle.er_end.specs.Inboxes.{KInbox, first_in}
use Rattle.er_end.specs.KeptLayers.{KCore, kept}
use Rattle.er_end.specs.KeptEnds.{KEnd, after_take, waiting_in, told_by}
use Rattle.er_end_c.specs.declared.held.Held.{Held}
use Rattle.er_end_c.specs.declared.face.CDeeds.{CDeeds}
use Rattle.er_end_c.specs.Deeds.{deeds_told, status_told, no_deeds}
use Rattle.er_end_c.specs.Calls.{Take, deeds_at, told_at}
use Rattle.er_end_c.specs.Shown.{taken_deeds}

-- nothing but octets is told there
pub record Quiet (x : KCore) : Type 0 where
  pub connected : x.connected ≡ None
  pub leaves : x.leaves ≡ None
  pub fresh : x.upper.inbox.fresh ≡ false

offered : (n : ℕ) (x : KCore) → Quiet x → Quiet (hand_waiting_tpdus kept n x)
unfolding hand_waiting_tpdus
offered zero x q = q
offered (suc n) x q =
    elim (has_next_tpdu kept x) as (λ b. Quiet (cond b (hand_waiting_tpdus kept n (hand_next_tpdu kept x)) x)) [
      | true ↦ offered n (hand_next_tpdu kept x) (record { connected = q.connected; leaves = q.leaves; fresh = q.fresh })
      | false ↦ q
    ]

concluded : (x : KCore) → Quiet x → Quiet (conclude_event kept x)
concluded x q =
    elim (is_some x.released) as (λ b. Quiet (cond b x (record (hand_waiting_tpdus kept 33 x) { line = kept.finishes (hand_waiting_tpdus kept 33 x).line }))) [
      | true ↦ q
      | false ↦ (let o = offered 33 x q in record { connected = o.connected; leaves = o.leaves; fresh = o.fresh })
    ]

begun : (now : ℕ) (x : KCore) → Quiet (new_event_at kept now x)
begun now x = record { connected = refl; leaves = refl; fresh = refl }

-- behind a take
pub quiet : (now : ℕ) (k : KEnd) → Quiet (after_take now k).core
unfolding after_take
quiet now k =
    let x : KCore = new_event_at kept now k.core in
    elim (length (waiting_in k) == 0) as (λ b. Quiet (cond b x (conclude_event kept (record x { upper = kept.uses x.upper })))) [
      | true ↦ begun now k.core
      | false ↦ concluded (record x { upper = kept.uses x.upper }) (record { connected = refl; leaves = refl; fresh = refl })
    ]

octets_told : (octets : List ℕ) → deeds_told (if_octets octets) ≡ record no_deeds { out = length octets }
octets_told [] = refl
octets_told (o ∷ os) = refl

octets_fine : (octets : List ℕ) → status_told (if_octets octets) ≡ pos 0
octets_fine [] = refl
octets_fine (o ∷ os) = refl

-- what is told behind a take
pub told_octets : (now : ℕ) (k : KEnd) → told_by (after_take now k) ≡ if_octets (after_take now k).core.line.out
told_octets now k = let q = quiet now k in rw (q.connected, q.leaves, q.fresh) refl

-- a take with nothing to take sends nothing
unsent : (now : ℕ) (k : KEnd) → waiting_in k ≡ [] → (after_take now k).core.line.out ≡ []
unfolding after_take
unsent now k e = rw e refl

pub deeds_some : (now : ℕ) (k : KEnd) → deeds_told (told_by (after_take now k)) ≡ record no_deeds { out = length (after_take now k).core.line.out }
deeds_some now k = ap deeds_told (told_octets now k) ∙ octets_told (after_take now k).core.line.out

pub status_some : (now : ℕ) (k : KEnd) → status_told (told_by (after_take now k)) ≡ pos 0
status_some now k = ap status_told (told_octets now k) ∙ octets_fine (after_take now k).core.line.out

pub deeds_none : (now : ℕ) (k : KEnd) → waiting_in k ≡ [] → deeds_told (told_by (after_take now k)) ≡ no_deeds
deeds_none now k e = deeds_some now k ∙ ap (λ os. record no_deeds { out = length os }) (unsent now k e)

-- a message was the oldest, and these outcomes tell octets alone
some_of : (T : List Outcome) (k : KEnd) (ms : List (List ℕ)) (told : CDeeds) → deeds_told T ≡ record no_deeds { out = length k.core.line.out } → status_told T ≡ pos 0
    → Some told ≡ taken_deeds ms k
    → (told ≡ record (deeds_told (if_taken (slice_get ms 0) ++ T)) { used = 0 }) × (status_told (if_taken (slice_get ms 0) ++ T) ≡ pos 0)
some_of T k [] told d s e = absurd (cc e)
some_of T k (m ∷ ms) told d s e =
    let t : told ≡ record no_deeds { out = length k.core.line.out; message = length m } = cc e in
    (t ∙ ap (λ (x : CDeeds). record x { message = length m; used = 0 }) (sym d), s)

none_of : (T : List Outcome) (ms : List (List ℕ)) → deeds_told T ≡ no_deeds → ms ≡ []
    → (no_deeds ≡ record (deeds_told (if_taken (slice_get ms 0) ++ T)) { used = 0 }) × (status_told (if_taken (slice_get ms 0) ++ T) ≡ pos 5)
none_of T [] d e = (ap (λ (x : CDeeds). record x { used = 0 }) (sym d), refl)
none_of T (m ∷ ms) d e = absurd (cc e)

none_waits : (ms : List (List ℕ)) (k : KEnd) → None ≡ taken_deeds ms k → ms ≡ []
none_waits [] k e = refl
none_waits (m ∷ ms) k e = absurd (cc e)

-- a message was taken
pub take_some : (now : ℕ) (h : Held) (told : CDeeds) → Some told ≡ taken_deeds (waiting_in h.end) (after_take now h.end)
    → (told ≡ deeds_at (Take now) h) × (status_told (told_at (Take now) h) ≡ pos 0)
take_some now h told e =
    some_of (told_by (after_take now h.end)) (after_take now h.end) (waiting_in h.end) told (deeds_some now h.end) (status_some now h.end) e

-- none was there
pub take_none : (now : ℕ) (h : Held) → None ≡ taken_deeds (waiting_in h.end) (after_take now h.end)
    → (no_deeds ≡ deeds_at (Take now) h) × (status_told (told_at (Take now) h) ≡ pos 5)
take_none now h e =
    let w = none_waits (waiting_in h.end) (after_take now h.end) e in
    none_of (told_by (after_take now h.end)) (waiting_in h.end) (deeds_none now h.end w) w

-- ---- the message that is left to be read

inbox_offered : (n : ℕ) (x : KCore) → (hand_waiting_tpdus kept n x).upper.inbox ≡ x.upper.inbox
unfolding hand_waiting_tpdus
inbox_offered zero x = refl
inbox_offered (suc n) x =
    elim (has_next_tpdu kept x) as (λ b. (cond b (hand_waiting_tpdus kept n (hand_next_tpdu kept x)) x).upper.inbox ≡ x.upper.inbox) [
      | true ↦ inbox_offered n (hand_next_tpdu kept x)
      | false ↦ refl
    ]

inbox_concluded : (x : KCore) → (conclude_event kept x).upper.inbox ≡ x.upper.inbox
inbox_concluded x =
    elim (is_some x.released) as (λ b. (cond b x (record (hand_waiting_tpdus kept 33 x) { line = kept.finishes (hand_waiting_tpdus kept 33 x).line })).upper.inbox ≡ x.upper.inbox) [
      | true ↦ refl
      | false ↦ inbox_offered 33 x
    ]

last_for : (x : KCore) (ms : List (List ℕ)) → x.upper.inbox.waits ≡ ms → x.upper.inbox.last ≡ []
    → (cond (length ms == 0) x (conclude_event kept (record x { upper = kept.uses x.upper }))).upper.inbox.last ≡ first_in ms
last_for x [] w e = e
last_for x (m ∷ ms) w e =
    let some : (length (m ∷ ms) == 0) ≡ false = ne_eqb (length (m ∷ ms)) 0 (λ none. absurd (omega (arith, none))) in
    rw some (ap (λ (q : KInbox). q.last) (inbox_concluded (record x { upper = kept.uses x.upper })) ∙ ap first_in w)

pub last_taken : (now : ℕ) (k : KEnd) → (after_take now k).core.upper.inbox.last ≡ first_in (waiting_in k)
unfolding after_take
last_taken now k = last_for (new_event_at kept now k.core) (waiting_in k) refl refl
