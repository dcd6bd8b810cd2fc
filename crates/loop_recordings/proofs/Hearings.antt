-- What a user hears where a message is taken for it.
use Rattle.std.proofs.Common.{◌≡◌, ◌≤◌, ℕ, true, List, length, Some, refl, ap, subst, arith, lt-ltb}
use Rattle.std.specs.Prelude.{nat_lt, if◌then◌else◌, None}
use Rattle.sapdu.specs.Messages.{IsMessage}
use Rattle.er_users.specs.Saying.{is_text}
use Rattle.er_users.specs.Users.{Message}
use Rattle.loop_recordings.specs.Shorts.{AreShort, OutcomesAreShort}
use Rattle.loop_recordings.specs.Heard.{take_at, TakenAreHeard}

-- a message can be said
message_is_text : (message : List ℕ) → IsMessage message → is_text message ≡ true
message_is_text message h =
    let some : nat_lt 0 (length message) ≡ true = lt-ltb 0 (length message) (let one : 1 ≤ length message = h.0 in omega (arith, one)) in
    let few : nat_lt (length message) 1024 ≡ true = lt-ltb (length message) 1024 (let most : length message ≤ 1023 = h.1 in omega (arith, most)) in
    rw (some, few) refl

pub taken_are_heard : OutcomesAreShort → TakenAreHeard
taken_are_heard short finds before line moment conn readable one message rest is =
    let all = subst AreShort is (short finds before (take_at line moment conn) readable one) in
    ap (λ z. if z then Some (Message message) else None) (message_is_text message all.0)
