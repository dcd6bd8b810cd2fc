-- What a call keeps and tells, said of the sides of the model that what was kept stands for.
use Rattle.std.proofs.Common.{◌≡◌, ℕ, ◌<◌, ◌≤◌, ◌&&◌, Bool, true, List, length, is_some, sym, ◌∙◌, ap, subst}
use Rattle.er_base.specs.Stored.{Stored, Appends}
use Rattle.er_settings.specs.Values.{Settings}
use Rattle.er_settings.specs.Ranges.{AllAllowed}
use Rattle.x224_class2.specs.Transport.{Transport, ReceptionDeed, side_made, is_new, is_called, is_open, after_connect, after_accept, after_hand, after_taken, after_next, reception, next_tpdu, waiting_count, untaken_count}
use Rattle.x224_class2.specs.Kept.{KeptTransport, kept_made, kept_after_connect, kept_after_accept, kept_after_hand, kept_after_taken, kept_reception, kept_next_tpdu, kept_after_next, octets_next}
use Rattle.x224_class2.specs.Standing.{StandsForTransport, FollowsTransportStep, Shown, ReceptionStands}
use Rattle.x224_class2.specs.declared.stage.Stage.{Stage}
use Rattle.x224_class2.proofs.Steps.{made_stands, connect_stands, accept_stands, hand_stands, taken_stands, next_stands, counts_stand}

same_stage : (k : KeptTransport) (t : Transport) (test : Stage → Bool) → StandsForTransport k t → test k.stage ≡ test t.stage
same_stage k t test s = ap (λ (j : KeptTransport). test j.stage) s.is

pub connect_follows : (k new : KeptTransport) (user : List ℕ) → new ≡ kept_after_connect k user → is_new k.stage ≡ true → length user ≤ 32
    → FollowsTransportStep k new (λ t. after_connect t user)
connect_follows k new user is at short t s =
    rw is (connect_stands k t user s (sym (same_stage k t is_new s) ∙ at) short)

pub accept_follows : (k new : KeptTransport) (user : List ℕ) → new ≡ kept_after_accept k user → is_called k.stage ≡ true → length user ≤ 32
    → FollowsTransportStep k new (λ t. after_accept t user)
accept_follows k new user is at short t s =
    rw is (accept_stands k t user s (sym (same_stage k t is_called s) ∙ at) short)

pub hand_follows : (k new : KeptTransport) (message : List ℕ) → new ≡ kept_after_hand k message → is_open k.stage ≡ true → 1 ≤ length message
    → FollowsTransportStep k new (λ t. after_hand t message)
hand_follows k new message is at some t s =
    rw is (hand_stands k t message s (sym (same_stage k t is_open s) ∙ at) some)

pub few_wait : (k : KeptTransport) → length k.waiting < 16 → Shown k (λ t. waiting_count t < 16)
few_wait k few t s = subst (λ (n : ℕ). n < 16) (counts_stand k t s).1 few

pub sixteen_wait : (k : KeptTransport) (n : ℕ) → length k.waiting ≡ 16 → n ≡ 16 → Shown k (λ t. (waiting_count t ≡ 16) × (n ≡ 16))
sixteen_wait k n all is t s = (sym (counts_stand k t s).1 ∙ all, is)

pub taken_follows : (k new : KeptTransport) → new ≡ kept_after_taken k → 0 < length k.lasts → FollowsTransportStep k new after_taken
taken_follows k new is some t s = rw is (taken_stands k t s (subst (λ (n : ℕ). 0 < n) (counts_stand k t s).0 some))

pub reception_follows : ReceptionStands → (k : KeptTransport) (octets : List ℕ) → FollowsTransportStep k (kept_reception k octets).0 (λ t. (reception t octets).0)
reception_follows law k octets t s = (law k t octets s).0

pub reception_tells : ReceptionStands → (k : KeptTransport) (octets : List ℕ) (deed : ReceptionDeed) → deed ≡ (kept_reception k octets).1
    → Shown k (λ t. deed ≡ (reception t octets).1)
reception_tells law k octets deed is t s = is ∙ (law k t octets s).1

pub next_follows : (k new : KeptTransport) → new ≡ kept_after_next k → FollowsTransportStep k new after_next
next_follows k new is t s = rw is (next_stands k t s).0

pub next_gives : (k : KeptTransport) (old new : Stored) (some : Bool) → Appends old new (octets_next (kept_next_tpdu k)) → some ≡ is_some (kept_next_tpdu k)
    → Shown k (λ t. Appends old new (octets_next (next_tpdu t)) × (some ≡ is_some (next_tpdu t)))
next_gives k old new some wrote is t s =
    (subst (λ (xs : List ℕ). Appends old new xs) (next_stands k t s).1 wrote, is ∙ (next_stands k t s).2)

pub untaken_shown : (k : KeptTransport) (n : ℕ) → n ≡ length k.lasts → Shown k (λ t. n ≡ untaken_count t)
untaken_shown k n is t s = is ∙ (counts_stand k t s).0

pub waiting_shown : (k : KeptTransport) (n : ℕ) → n ≡ length k.waiting → Shown k (λ t. n ≡ waiting_count t)
waiting_shown k n is t s = is ∙ (counts_stand k t s).1

pub open_shown : (k : KeptTransport) (b : Bool) → b ≡ is_open k.stage → Shown k (λ t. b ≡ is_open t.stage)
open_shown k b is t s = is ∙ same_stage k t is_open s

pub may_connect_shown : (k : KeptTransport) (b : Bool) → b ≡ (k.is_caller && is_new k.stage) → Shown k (λ t. b ≡ (t.is_caller && is_new t.stage))
may_connect_shown k b is t s = is ∙ ap (λ (j : KeptTransport). j.is_caller && is_new j.stage) s.is

pub made_follows : (made : KeptTransport) (is_caller : Bool) (settings : Settings) → AllAllowed settings → made ≡ kept_made is_caller settings
    → StandsForTransport made (side_made is_caller settings)
made_follows made is_caller settings allowed is = rw is (made_stands is_caller settings allowed)
