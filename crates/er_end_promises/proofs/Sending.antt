-- How much one call gives to the line, and when a message is taken.
use Rattle.std.proofs.Common.{◌≡◌, ◌∙◌, ◌≤◌, ◌<◌, ℕ, Bool, true, false, List, [], length, Option, Some, None, refl, sym, ap, subst, arith}
use Rattle.std.specs.Prelude.{◌↔◌, nat_le, if◌then◌else◌}
use Rattle.std.proofs.lemmas.Bool.{leb-false, le-leb, lt-leb}
use Rattle.sapdu.specs.Messages.{IsMessage, is_message}
use Rattle.er_end_model.specs.Outcomes.{SendRefusal, RefusedFull}
use Rattle.er_end_model.specs.Ends.{Event, Start, Come, Send, Take, Leave, Tick, Ended, Fault, Stalled}
use Rattle.er_end.specs.KeptLayers.{kept}
use Rattle.er_end.specs.KeptEnds.{KEnd, kept_end_behind_event, refusal_of_send, tells}
use Rattle.er_end_promises.specs.Told.{octets_for_line}
use Rattle.er_end_promises.specs.Calls.{IsEventDone}
use Rattle.er_end_promises.specs.Sending.{CallGivesAtMost, TakesWhileFewWait}
use Rattle.er_end_promises.proofs.Telling.{calls_tell_deeds}

-- ---- octets for the line

done : (end : KEnd) → length end.core.line.out ≤ 134160 → (now : ℕ) (event : Event) (k : KEnd) → IsEventDone event k → kept_end_behind_event now event k ≡ end
    → length (octets_for_line (tells now event k)) ≤ 134160
done end fits now event k is_done is =
    subst (λ (os : List ℕ). length os ≤ 134160) (sym ((calls_tell_deeds.done now event k is_done).line ∙ ap (λ (e : KEnd). e.core.line.out) is)) fits

sent : (end : KEnd) → length end.core.line.out ≤ 134160 → (now : ℕ) (user : List ℕ) (k : KEnd) (refusal : Option SendRefusal) → refusal_of_send user k ≡ refusal
    → kept_end_behind_event now (Send user) k ≡ end → length (octets_for_line (tells now (Send user) k)) ≤ 134160
sent end fits now user k None e is = done end fits now (Send user) k e is
sent end fits now user k (Some refusal) e is =
    let none : octets_for_line (tells now (Send user) k) ≡ [] = calls_tell_deeds.refused now user k (λ n. absurd (cc (e, n))) in
    subst (λ (os : List ℕ). length os ≤ 134160) (sym none) (omega arith)

pub call_gives_at_most : (end : KEnd) → length end.core.line.out ≤ 134160 → CallGivesAtMost end
call_gives_at_most end fits now Start k is = done end fits now Start k tt is
call_gives_at_most end fits now (Come finds octets) k is = done end fits now (Come finds octets) k tt is
call_gives_at_most end fits now (Send user) k is = sent end fits now user k (refusal_of_send user k) refl is
call_gives_at_most end fits now Take k is = done end fits now Take k tt is
call_gives_at_most end fits now (Leave sub) k is = done end fits now (Leave sub) k tt is
call_gives_at_most end fits now Tick k is = done end fits now Tick k tt is
call_gives_at_most end fits now Ended k is = done end fits now Ended k tt is
call_gives_at_most end fits now Fault k is = done end fits now Fault k tt is
call_gives_at_most end fits now Stalled k is = done end fits now Stalled k tt is

-- ---- messages to be sent

abbrev full_if : Bool → ℕ → Option SendRefusal
full_if full n = if full then Some (RefusedFull n) else None

none_is : (full : Bool) (n : ℕ) → full_if full n ≡ None → full ≡ false
none_is true n e = absurd (cc e)
none_is false n e = refl

few : (n : ℕ) → (full_if (nat_le 16 n) n ≡ None) ↔ (n < 16)
few n = (λ e. leb-false 16 n (none_is (nat_le 16 n) n e), λ less. ap (λ (b : Bool). full_if b n) (lt-leb 16 n less))

is_one : (user : List ℕ) → IsMessage user → is_message user ≡ true
is_one user fits = let least = le-leb 1 (length user) fits.0 in let most = le-leb (length user) 1023 fits.1 in rw (least, most) refl

pub takes_while_few_wait : TakesWhileFewWait
unfolding refusal_of_send
takes_while_few_wait user k live stands fits = rw (live, stands, is_one user fits) (few (kept.waiting k.core.upper))
