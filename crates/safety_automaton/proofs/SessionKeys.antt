-- The session keys of an outcome are those of the side; they stay; and they come to be known with an AU2 or an AU3 that is sent.
use Rattle.std.proofs.Common.{◌≡◌, ◌∙◌, ℕ, Option, Some, None, sym, ap}
use Rattle.des_block.specs.declared.triple_key.TripleKey.{TripleKey}
use Rattle.safety_automaton.specs.Safety.{Safety, Phase, SafetyEvent, SafetyOutcome, SentAu1, SentAu2, SentAu3, SentAr, ReceivedAr, AcceptedDt, SentDt, Refused, ReleasedLocally, ReleasedByPeer, NothingDone, session_in, step}
use Rattle.safety_automaton.specs.Rules.{IsStep}
use Rattle.safety_automaton.specs.Laws.{session_keys_of_outcome, KeysAreOwn, KeysStay, ComesToKnow, WithAu2, WithAu3, KeysOnly}
use Rattle.safety_automaton.proofs.Only.{steps_only}
use Rattle.safety_automaton.proofs.Messages.{idle_same}

-- the keys of a side by its phase
in_next : (s next : Safety) (phase : Phase) → next ≡ record s { phase = phase } → session_in next.phase ≡ session_in phase
in_next s next phase e = ap (λ (n : Safety). session_in n.phase) e

in_same : (s next : Safety) → next ≡ s → session_in next.phase ≡ session_in s.phase
in_same s next e = ap (λ (n : Safety). session_in n.phase) e

own : (key_of : ℕ → ℕ → Option TripleKey) (s : Safety) (event : SafetyEvent) (next : Safety) (outcome : SafetyOutcome) (session : TripleKey)
    → IsStep key_of s event next outcome → session_keys_of_outcome outcome ≡ Some session → session_in next.phase ≡ Some session
own key_of s event next (SentAu1 octets) session met e = absurd cc
own key_of s event next (SentAu2 key sealed octets) session met e = in_next s next _ met.next_is ∙ ap Some (sym met.session_is) ∙ e
own key_of s event next (SentAu3 key verified sealed octets) session met e = in_next s next _ met.next_is ∙ ap Some (sym met.session_is) ∙ e
own key_of s event next (SentAr c verified sealed octets) session met e = in_next s next _ met.next_is ∙ e
own key_of s event next (ReceivedAr c verified) session met e = in_next s next _ met.next_is ∙ e
own key_of s event next (AcceptedDt key user verified) session met e = in_same s next met.next_is ∙ ap session_in met.connected ∙ e
own key_of s event next (SentDt key user sealed octets) session met e = in_same s next met.next_is ∙ ap session_in met.connected ∙ e
own key_of s event next (Refused refusal) session met e = absurd cc
own key_of s event next (ReleasedLocally release octets) session met e = absurd cc
own key_of s event next (ReleasedByPeer release) session met e = absurd cc
own key_of s event next NothingDone session met e = absurd cc

pub keys_are_own : KeysAreOwn
keys_are_own key_of s event session e =
    own key_of s event (step key_of s event).0 (step key_of s event).1 session (steps_only key_of s event) e

stay : (key_of : ℕ → ℕ → Option TripleKey) (s : Safety) (event : SafetyEvent) (next : Safety) (outcome : SafetyOutcome) (session : TripleKey)
    → IsStep key_of s event next outcome → session_in s.phase ≡ Some session → session_in next.phase ≡ Some session
stay key_of s event next (SentAu1 octets) session met e = let none = sym (ap session_in met.waits) ∙ e in absurd cc
stay key_of s event next (SentAu2 key sealed octets) session met e = let none = sym (ap session_in met.waits) ∙ e in absurd cc
stay key_of s event next (SentAu3 key verified sealed octets) session met e = let none = sym (ap session_in met.waits) ∙ e in absurd cc
stay key_of s event next (SentAr c verified sealed octets) session met e = in_next s next _ met.next_is ∙ sym (ap session_in met.waits) ∙ e
stay key_of s event next (ReceivedAr c verified) session met e = in_next s next _ met.next_is ∙ sym (ap session_in met.waits) ∙ e
stay key_of s event next (AcceptedDt key user verified) session met e = in_same s next met.next_is ∙ e
stay key_of s event next (SentDt key user sealed octets) session met e = in_same s next met.next_is ∙ e
stay key_of s event next (Refused refusal) session met e = in_same s next met.next_is ∙ e
stay key_of s event next (ReleasedLocally release octets) session met e = in_next s next _ met.releases.next_is ∙ e
stay key_of s event next (ReleasedByPeer release) session met e = in_next s next _ met.next_is ∙ e
stay key_of s event next NothingDone session met e = in_same s next (idle_same s event next met) ∙ e

pub keys_stay : KeysStay
keys_stay key_of s event session e = stay key_of s event (step key_of s event).0 (step key_of s event).1 session (steps_only key_of s event) e

only : (key_of : ℕ → ℕ → Option TripleKey) (s : Safety) (event : SafetyEvent) (next : Safety) (outcome : SafetyOutcome) (session : TripleKey)
    → IsStep key_of s event next outcome → session_in s.phase ≡ None → session_in next.phase ≡ Some session → ComesToKnow outcome session
only key_of s event next (SentAu1 octets) session met none e = let w = sym (in_next s next _ met.next_is) ∙ e in absurd cc
only key_of s event next (SentAu2 key sealed octets) session met none e =
    let some : Some met.connection.session ≡ Some session = sym (in_next s next _ met.next_is) ∙ e in
    let same : met.connection.session ≡ session = cc in
    WithAu2 sealed octets (ap (λ k. SentAu2 k sealed octets) (met.session_is ∙ same))
only key_of s event next (SentAu3 key verified sealed octets) session met none e =
    let some : Some met.connection.session ≡ Some session = sym (in_next s next _ met.next_is) ∙ e in
    let same : met.connection.session ≡ session = cc in
    WithAu3 verified sealed octets (ap (λ k. SentAu3 k verified sealed octets) (met.session_is ∙ same))
only key_of s event next (SentAr c verified sealed octets) session met none e = let w = sym none ∙ ap session_in met.waits in absurd cc
only key_of s event next (ReceivedAr c verified) session met none e = let w = sym none ∙ ap session_in met.waits in absurd cc
only key_of s event next (AcceptedDt key user verified) session met none e = let w = sym none ∙ ap session_in met.connected in absurd cc
only key_of s event next (SentDt key user sealed octets) session met none e = let w = sym none ∙ ap session_in met.connected in absurd cc
only key_of s event next (Refused refusal) session met none e = let w = sym none ∙ sym (in_same s next met.next_is) ∙ e in absurd cc
only key_of s event next (ReleasedLocally release octets) session met none e =
    let w = sym none ∙ sym (in_next s next _ met.releases.next_is) ∙ e in absurd cc
only key_of s event next (ReleasedByPeer release) session met none e = let w = sym none ∙ sym (in_next s next _ met.next_is) ∙ e in absurd cc
only key_of s event next NothingDone session met none e = let w = sym none ∙ sym (in_same s next (idle_same s event next met)) ∙ e in absurd cc

pub keys_only : KeysOnly
keys_only key_of s event session none e =
    only key_of s event (step key_of s event).0 (step key_of s event).1 session (steps_only key_of s event) none e
