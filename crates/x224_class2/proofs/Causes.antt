-- A side refuses exactly where a cause is met.
use Rattle.std.proofs.Common.{◌≡◌, ◌≢◌, ℕ, ◌+◌, ◌-◌, ◌%◌, ◌<◌, ◌≤◌, zero, suc, nat_lt, nat_le, eqb, not, ◌&&◌, if◌then◌else◌, inl, inr, Bool, true, false, List, ◌++◌, length, Option, Some, None, Result, Ok, Err, refl, sym, ◌∙◌, ap, subst, arith}
use Rattle.std.proofs.lemmas.Bool.{cases_Bool, lt-ltb, ltb-true, ltb-false, le-leb, leb-true, leb-false, eqb-true, eqb-false, eq-eqb, and_parts, and_from, both_ways, cases_order, false_from_ne_true, not-true, not-false}
use Rattle.er_base.specs.Causes.{release_of}
use Rattle.er_base.specs.declared.cause.Cause.{Cause}
use Rattle.er_base.specs.declared.cause.Cause.TheVariants as cause
use Rattle.x224_tpdu.specs.declared.fault.TpFault.{TpFault}
use Rattle.x224_tpdu.specs.Spelling.{TransportPdu, connection_request, connection_confirm, disconnect_request, disconnect_confirm, data_tpdu, acknowledgement, tpdu_error}
use Rattle.x224_tpdu.specs.Function.{reading}
use Rattle.x224_class2.specs.Segments.{text_so_far}
use Rattle.x224_class2.specs.Refusals.{dr_reason, protocol_error, tpdu_refused, message_too_long}
use Rattle.x224_class2.specs.Transport.{Transport, ReceptionDeed, Nothing, Message, Refused, is_new, is_calling, is_open, is_over, refusal_of_tpdu, is_expected, on_data, number_named, on_named, on_acknowledgement, on_reading, reception}
use Rattle.x224_class2.specs.Causes.{IsExpectedAt, HasReferences, BreaksRule, AtStage, ByReference, BySize, ByNumber, AtEdge, ByLength, ByNoName, ByEdge, IsRefusedTpdu, OfFault, OfRule, MakesTooLong, CauseMet, CauseRefuses, RefusesOnly}
use Rattle.x224_class2.specs.declared.stage.Stage.{Stage}
use Rattle.x224_class2.specs.declared.stage.Stage.TheVariants as stages

-- ---- stages as tests

not_over : (s : Stage) → s ≢ stages.Over → is_over s ≡ false
not_over stages.New h = refl
not_over stages.Calling h = refl
not_over stages.Called h = refl
not_over stages.Open h = refl
not_over stages.Over h = absurd (h refl)

new_is : (s : Stage) → is_new s ≡ true → s ≡ stages.New
new_is stages.New e = refl
new_is stages.Calling e = absurd cc
new_is stages.Called e = absurd cc
new_is stages.Open e = absurd cc
new_is stages.Over e = absurd cc

calling_is : (s : Stage) → is_calling s ≡ true → s ≡ stages.Calling
calling_is stages.New e = absurd cc
calling_is stages.Calling e = refl
calling_is stages.Called e = absurd cc
calling_is stages.Open e = absurd cc
calling_is stages.Over e = absurd cc

open_is : (s : Stage) → is_open s ≡ true → s ≡ stages.Open
open_is stages.New e = absurd cc
open_is stages.Calling e = absurd cc
open_is stages.Called e = absurd cc
open_is stages.Open e = refl
open_is stages.Over e = absurd cc

-- ---- the number that an AK names

abbrev Naming : (n more shown : ℕ) → Option ℕ → Type 0
Naming n more shown None = (k : ℕ) → k ≤ more → (n + k) % 128 ≢ shown
Naming n more shown (Some m) =
    (k : ℕ) × (m ≡ n + k) × (k ≤ more) × ((n + k) % 128 ≡ shown) × ((j : ℕ) → j < k → (n + j) % 128 ≢ shown)

names_here : (n more shown : ℕ) → n % 128 ≡ shown → Naming n more shown (Some n)
names_here n more shown e = (0, omega arith, omega arith, omega (arith, e), λ j h. absurd (omega (arith, h)))

names_later : (n more shown : ℕ) (o : Option ℕ) → n % 128 ≢ shown → Naming (n + 1) more shown o → Naming n (suc more) shown o
names_later n more shown None here none = none_behind
  where
    none_behind : (k : ℕ) → k ≤ suc more → (n + k) % 128 ≢ shown
    none_behind zero h = λ e. here (omega (arith, e))
    none_behind (suc k) h = λ e. none k (omega (arith, h)) (omega (arith, e))
names_later n more shown (Some m) here (k, is, most, named, least) =
    (suc k, omega (arith, is), omega (arith, most), omega (arith, named), before)
  where
    before : (j : ℕ) → j < suc k → (n + j) % 128 ≢ shown
    before zero h = λ e. here (omega (arith, e))
    before (suc j) h = λ e. least j (omega (arith, h)) (omega (arith, e))

named_is : (n more shown : ℕ) → Naming n more shown (number_named n more shown)
named_is n zero shown =
    elim (cases_Bool (eqb (n % 128) shown)) [
      | inl e ↦ rw e (names_here n zero shown (eqb-true _ _ e))
      | inr e ↦ rw e (λ k h f. eqb-false _ _ e (omega (arith, h, f)))
    ]
named_is n (suc more) shown =
    elim (cases_Bool (eqb (n % 128) shown)) [
      | inl e ↦ rw e (names_here n (suc more) shown (eqb-true _ _ e))
      | inr e ↦ rw e (names_later n more shown (number_named (n + 1) more shown) (eqb-false _ _ e) (named_is (n + 1) more shown))
    ]

none_named : (n more shown : ℕ) (o : Option ℕ) → Naming n more shown o → ((k : ℕ) → k ≤ more → (n + k) % 128 ≢ shown) → o ≡ None
none_named n more shown None named none = refl
none_named n more shown (Some m) (k, is, most, same, least) none = absurd (none k most same)

one_named : (n more shown k : ℕ) (o : Option ℕ) → Naming n more shown o → k ≤ more → (n + k) % 128 ≡ shown
    → ((j : ℕ) → j < k → (n + j) % 128 ≢ shown) → o ≡ Some (n + k)
one_named n more shown k None named h e least = absurd (named k h e)
one_named n more shown k (Some m) (i, is, most, same, first) h e least =
    elim (cases_order i k) [
      | inl f ↦ ap (λ (x : ℕ). Some x) (is ∙ ap (λ (x : ℕ). n + x) f)
      | inr (inl f) ↦ absurd (least i f same)
      | inr (inr f) ↦ absurd (first k f e)
    ]

-- ---- where a cause is met

at_reading : (t : Transport) (octets : List ℕ) (answer : Result TransportPdu TpFault) → t.stage ≢ stages.Over → reading octets ≡ answer
    → reception t octets ≡ on_reading t answer
at_reading t octets answer live e = rw (not_over t.stage live, e) refl

either_way : (b : Bool) (x : Transport × ReceptionDeed) → (if b then x else x) ≡ x
either_way true x = refl
either_way false x = refl

abbrev by_rule : Transport → Transport × ReceptionDeed
by_rule t = refusal_of_tpdu t tpdu_refused protocol_error

data_refused : (t : Transport) (dst : ℕ) (last : Bool) (number : ℕ) (user : List ℕ) → (is_expected t dst number user ≡ true → ⊥)
    → on_data t dst last number user ≡ by_rule t
data_refused t dst last number user h = let e = false_from_ne_true (is_expected t dst number user) h in rw e refl

-- what holds of a DT that is expected
record Expected (t : Transport) (dst number : ℕ) (user : List ℕ) : Type 0 where
  made : is_open t.stage ≡ true
  ours : dst ≡ 1
  next : number ≡ length t.contents % 128
  granted : length t.contents < t.newest + t.credit
  fits : length user ≤ t.size - 5

expected_is : (t : Transport) (dst number : ℕ) (user : List ℕ) → is_expected t dst number user ≡ true → Expected t dst number user
expected_is t dst number user e =
    let four = and_parts _ _ e in
    let three = and_parts _ _ four.0 in
    let two = and_parts _ _ three.0 in
    let one = and_parts _ _ two.0 in
    record {
      made = one.0;
      ours = eqb-true _ _ one.1;
      next = eqb-true _ _ two.1;
      granted = ltb-true _ _ three.1;
      fits = leb-true _ _ four.1;
    }

open_of : (s : Stage) → s ≡ stages.Open → is_open s ≡ true
open_of s e = rw e refl

is_new_of : (s : Stage) → s ≡ stages.New → is_new s ≡ true
is_new_of s e = rw e refl

-- a test that refuses fails
unexpected : (t : Transport) (p : TransportPdu) → (IsExpectedAt t p → ⊥) → on_reading t (Ok p) ≡ by_rule t
unexpected t (connection_request credit dst src size user) h =
    let e = false_from_ne_true (not t.is_caller && is_new t.stage && eqb dst 0 && eqb src 1) (λ e.
    let both = and_parts _ _ (and_parts _ _ (and_parts _ _ e).0).0 in
    h (not-true _ both.0, new_is _ both.1)) in
    rw e refl
unexpected t (connection_confirm credit dst src size user) h =
    let e = false_from_ne_true (is_calling t.stage && eqb dst 1 && eqb src 1 && nat_le size t.size) (λ e. h (calling_is _ (and_parts _ _ (and_parts _ _ (and_parts _ _ e).0).0).0)) in
    rw e refl
unexpected t (disconnect_request dst src reason user) h =
    let e = false_from_ne_true (not (is_new t.stage) && eqb dst 1 && eqb src 1) (λ e.
    h (λ f. both_ways _ (not-true _ (and_parts _ _ (and_parts _ _ e).0).0) (is_new_of t.stage f))) in
    rw e refl
unexpected t (disconnect_confirm dst src) h = refl
unexpected t (data_tpdu dst last number user) h =
    data_refused t dst last number user (λ e. let x = expected_is t dst number user e in h (open_is _ x.made))
unexpected t (acknowledgement credit dst number) h =
    let e = false_from_ne_true (is_open t.stage && eqb dst 1) (λ e. h (open_is _ (and_parts _ _ e).0)) in
    rw e refl
unexpected t (tpdu_error dst cause) h = refl

other_reference : (t : Transport) (p : TransportPdu) → (HasReferences p → ⊥) → on_reading t (Ok p) ≡ by_rule t
other_reference t (connection_request credit dst src size user) h =
    let e = false_from_ne_true (not t.is_caller && is_new t.stage && eqb dst 0 && eqb src 1) (λ e.
    let both = and_parts _ _ e in
    h (eqb-true _ _ (and_parts _ _ both.0).1, eqb-true _ _ both.1)) in
    rw e refl
other_reference t (connection_confirm credit dst src size user) h =
    let e = false_from_ne_true (is_calling t.stage && eqb dst 1 && eqb src 1 && nat_le size t.size) (λ e.
    let both = and_parts _ _ (and_parts _ _ e).0 in
    h (eqb-true _ _ (and_parts _ _ both.0).1, eqb-true _ _ both.1)) in
    rw e refl
other_reference t (disconnect_request dst src reason user) h =
    let e = false_from_ne_true (not (is_new t.stage) && eqb dst 1 && eqb src 1) (λ e.
    let both = and_parts _ _ e in
    h (eqb-true _ _ (and_parts _ _ both.0).1, eqb-true _ _ both.1)) in
    rw e refl
other_reference t (disconnect_confirm dst src) h = refl
other_reference t (data_tpdu dst last number user) h =
    data_refused t dst last number user (λ e. let x = expected_is t dst number user e in h x.ours)
other_reference t (acknowledgement credit dst number) h =
    let e = false_from_ne_true (is_open t.stage && eqb dst 1) (λ e. h (eqb-true _ _ (and_parts _ _ e).1)) in
    rw e refl
other_reference t (tpdu_error dst cause) h = refl

larger_size : (t : Transport) (credit dst src size : ℕ) (user : List ℕ) → t.size < size
    → on_reading t (Ok (connection_confirm credit dst src size user)) ≡ by_rule t
larger_size t credit dst src size user larger =
    let e = false_from_ne_true (is_calling t.stage && eqb dst 1 && eqb src 1 && nat_le size t.size) (λ e. absurd (omega (arith, larger, leb-true size t.size (and_parts _ _ e).1))) in
    rw e refl

none_acknowledged : (t : Transport) (credit dst number : ℕ) → ((more : ℕ) → more ≤ t.given - t.acked → (t.acked + more) % 128 ≢ number)
    → on_acknowledgement t credit dst number ≡ by_rule t
none_acknowledged t credit dst number none =
    let e = none_named t.acked (t.given - t.acked) number _ (named_is t.acked (t.given - t.acked) number) none in
    rw e (either_way (is_open t.stage && eqb dst 1) (by_rule t))

lowered : (t : Transport) (credit dst number more : ℕ) → more ≤ t.given - t.acked → (t.acked + more) % 128 ≡ number
    → ((fewer : ℕ) → fewer < more → (t.acked + fewer) % 128 ≢ number) → t.acked + more + credit < t.edge
    → on_acknowledgement t credit dst number ≡ by_rule t
lowered t credit dst number more most named least lower =
    let e = one_named t.acked (t.given - t.acked) number more _ (named_is t.acked (t.given - t.acked) number) most named least in
    let l = lt-ltb _ _ lower in
    rw (e, l) (either_way (is_open t.stage && eqb dst 1) (by_rule t))

breaks : (t : Transport) (octets : List ℕ) → t.stage ≢ stages.Over → BreaksRule t octets → reception t octets ≡ by_rule t
breaks t octets live (AtStage pdu read h) = at_reading t octets _ live read ∙ unexpected t pdu h
breaks t octets live (ByReference pdu read h) = at_reading t octets _ live read ∙ other_reference t pdu h
breaks t octets live (BySize credit dst src size user read calling larger) =
    at_reading t octets _ live read ∙ larger_size t credit dst src size user larger
breaks t octets live (ByNumber dst last number user read other) =
    at_reading t octets _ live read ∙ data_refused t dst last number user (λ e. other (expected_is t dst number user e).next)
breaks t octets live (AtEdge dst last number user read edge) =
    at_reading t octets _ live read ∙ data_refused t dst last number user (λ e. absurd (omega (arith, edge, (expected_is t dst number user e).granted)))
breaks t octets live (ByLength dst last number user read longer) =
    at_reading t octets _ live read ∙ data_refused t dst last number user (λ e. absurd (omega (arith, longer, (expected_is t dst number user e).fits)))
breaks t octets live (ByNoName credit dst number read none) =
    at_reading t octets _ live read ∙ none_acknowledged t credit dst number none
breaks t octets live (ByEdge credit dst number more read most named least lower) =
    at_reading t octets _ live read ∙ lowered t credit dst number more most named least lower

refused : (t : Transport) (octets : List ℕ) (reason : ℕ) → t.stage ≢ stages.Over → IsRefusedTpdu t octets reason
    → reception t octets ≡ refusal_of_tpdu t tpdu_refused reason
refused t octets reason live (OfFault fault read is) = at_reading t octets _ live read ∙ ap (refusal_of_tpdu t tpdu_refused) (sym is)
refused t octets reason live (OfRule met is) = breaks t octets live met ∙ ap (refusal_of_tpdu t tpdu_refused) (sym is)

too_long : (t : Transport) (octets : List ℕ) → t.stage ≢ stages.Over → MakesTooLong t octets
    → reception t octets ≡ refusal_of_tpdu t message_too_long protocol_error
too_long t octets live m =
    let number = length t.contents % 128 in
    let expected : is_expected t 1 number m.user ≡ true = and_from _ _ (and_from _ _ (and_from _ _ (and_from _ _ (open_of t.stage m.made) refl) (eq-eqb number number refl)) (lt-ltb _ _ m.granted)) (le-leb _ _ m.fits) in
    let long : nat_lt 1032 (length (text_so_far t.contents ++ m.user)) ≡ true = lt-ltb _ _ m.long in
    at_reading t octets _ live m.read ∙ rw (expected, long) refl

pub cause_refuses : CauseRefuses
cause_refuses t octets (cause.User sub) reason live met = absurd met
cause_refuses t octets cause.SetUpUnanswered reason live met = absurd met
cause_refuses t octets cause.NoProgress reason live met = absurd met
cause_refuses t octets cause.FrameError reason live met = absurd met
cause_refuses t octets cause.PeerDisconnected reason live met = absurd met
cause_refuses t octets cause.LineEnded reason live met = absurd met
cause_refuses t octets cause.LineFailed reason live met = absurd met
cause_refuses t octets cause.LineStalled reason live met = absurd met
cause_refuses t octets cause.DisconnectWithoutDi reason live met = absurd met
cause_refuses t octets cause.TpduRefused reason live met = refused t octets reason live met
cause_refuses t octets cause.MessageTooLong reason live met = too_long t octets live met.0 ∙ ap (refusal_of_tpdu t message_too_long) (sym met.1)
cause_refuses t octets cause.BlockRefused reason live met = absurd met
cause_refuses t octets cause.NoKey reason live met = absurd met
cause_refuses t octets cause.Au2MacWrong reason live met = absurd met
cause_refuses t octets cause.Au3MacWrong reason live met = absurd met
cause_refuses t octets cause.ArMacWrong reason live met = absurd met
cause_refuses t octets cause.OtherResponder reason live met = absurd met
cause_refuses t octets cause.OtherFeature reason live met = absurd met
cause_refuses t octets cause.DtMacWrong reason live met = absurd met
cause_refuses t octets cause.WrongDirection reason live met = absurd met
cause_refuses t octets cause.Unexpected reason live met = absurd met
cause_refuses t octets cause.Malformed reason live met = absurd met
cause_refuses t octets cause.SetUpTimeSpent reason live met = absurd met

-- ---- only there

-- a cause was found
abbrev Found : Transport → List ℕ → (sub reason : ℕ) → Type 0
Found t octets sub reason = (why : Cause) × CauseMet t octets why reason × (sub ≡ (release_of why).sub)

found_rule : (t : Transport) (octets : List ℕ) (sub reason : ℕ) → BreaksRule t octets → Refused tpdu_refused protocol_error ≡ Refused sub reason
    → Found t octets sub reason
found_rule t octets sub reason met e =
    let s : sub ≡ tpdu_refused = cc in
    let r : reason ≡ protocol_error = cc in
    (cause.TpduRefused, OfRule met r, s)

-- a test that refuses where it fails
by_test : (t : Transport) (octets : List ℕ) (sub reason : ℕ) (b : Bool) (x : Transport × ReceptionDeed) → (x.1 ≡ Refused sub reason → ⊥)
    → (b ≡ false → BreaksRule t octets) → (if b then x else by_rule t).1 ≡ Refused sub reason → Found t octets sub reason
by_test t octets sub reason true x accepted failed e = absurd (accepted e)
by_test t octets sub reason false x accepted failed e = found_rule t octets sub reason (failed refl) e

request_found : (t : Transport) (octets : List ℕ) (credit dst src size : ℕ) (user : List ℕ)
    → reading octets ≡ Ok (connection_request credit dst src size user)
    → (not t.is_caller && is_new t.stage && eqb dst 0 && eqb src 1) ≡ false → BreaksRule t octets
request_found t octets credit dst src size user read e =
    elim (cases_Bool (not t.is_caller && is_new t.stage)) [
      | inl f ↦ ByReference _ read (λ h. both_ways _ e (and_from _ _ (and_from _ _ f (eq-eqb _ _ h.0)) (eq-eqb _ _ h.1)))
      | inr f ↦ AtStage _ read (λ h. both_ways _ f (and_from _ _ (ap (λ (b : Bool). not b) h.0) (is_new_of t.stage h.1)))
    ]

confirm_found : (t : Transport) (octets : List ℕ) (credit dst src size : ℕ) (user : List ℕ)
    → reading octets ≡ Ok (connection_confirm credit dst src size user)
    → (is_calling t.stage && eqb dst 1 && eqb src 1 && nat_le size t.size) ≡ false → BreaksRule t octets
confirm_found t octets credit dst src size user read e =
    elim (cases_Bool (is_calling t.stage)) [
      | inl f ↦
          elim (cases_Bool (nat_le size t.size)) [
            | inl g ↦ ByReference _ read (λ h. both_ways _ e (and_from _ _ (and_from _ _ (and_from _ _ f (eq-eqb _ _ h.0)) (eq-eqb _ _ h.1)) g))
            | inr g ↦ BySize credit dst src size user read (calling_is _ f) (leb-false _ _ g)
          ]
      | inr f ↦ AtStage _ read (λ h. both_ways _ f (calling_of t.stage h))
    ]
  where
    calling_of : (s : Stage) → s ≡ stages.Calling → is_calling s ≡ true
    calling_of s h = rw h refl

disconnect_found : (t : Transport) (octets : List ℕ) (dst src reason : ℕ) (user : List ℕ)
    → reading octets ≡ Ok (disconnect_request dst src reason user)
    → (not (is_new t.stage) && eqb dst 1 && eqb src 1) ≡ false → BreaksRule t octets
disconnect_found t octets dst src reason user read e =
    elim (cases_Bool (not (is_new t.stage))) [
      | inl f ↦ ByReference _ read (λ h. both_ways _ e (and_from _ _ (and_from _ _ f (eq-eqb _ _ h.0)) (eq-eqb _ _ h.1)))
      | inr f ↦ AtStage _ read (λ h. h (new_is _ (not-false _ f)))
    ]

unexpected_found : (t : Transport) (octets : List ℕ) (dst : ℕ) (last : Bool) (number : ℕ) (user : List ℕ)
    → reading octets ≡ Ok (data_tpdu dst last number user) → is_expected t dst number user ≡ false → BreaksRule t octets
unexpected_found t octets dst last number user read e =
    elim (cases_Bool (is_open t.stage)) [
      | inr f ↦ AtStage _ read (λ h. both_ways _ f (open_of t.stage h))
      | inl f ↦
          elim (cases_Bool (eqb number (length t.contents % 128))) [
            | inr g ↦ ByNumber dst last number user read (eqb-false _ _ g)
            | inl g ↦
                elim (cases_Bool (nat_lt (length t.contents) (t.newest + t.credit))) [
                  | inr i ↦ AtEdge dst last number user read (ltb-false _ _ i)
                  | inl i ↦
                      elim (cases_Bool (nat_le (length user) (t.size - 5))) [
                        | inr j ↦ ByLength dst last number user read (leb-false _ _ j)
                        | inl j ↦ ByReference _ read (λ h. both_ways _ e (and_from _ _ (and_from _ _ (and_from _ _ (and_from _ _ f (eq-eqb _ _ h)) g) i) j))
                      ]
                ]
          ]
    ]

data_found : (t : Transport) (octets : List ℕ) (dst : ℕ) (last : Bool) (number : ℕ) (user : List ℕ) (sub reason : ℕ)
    → reading octets ≡ Ok (data_tpdu dst last number user) → (on_data t dst last number user).1 ≡ Refused sub reason → Found t octets sub reason
data_found t octets dst last number user sub reason read e =
    elim (cases_Bool (is_expected t dst number user)) [
      | inr f ↦ found_rule t octets sub reason (unexpected_found t octets dst last number user read f) (rw f at e)
      | inl f ↦
          elim (cases_Bool (nat_lt 1032 (length (text_so_far t.contents ++ user)))) [
            | inr g ↦ absurd (accepted last (text_so_far t.contents ++ user) (rw (f, g) at e))
            | inl g ↦ long (expected_is t dst number user f) (ltb-true _ _ g) (rw (f, g) at e)
          ]
    ]
  where
    accepted : (last : Bool) (text : List ℕ) → (if last then Message text else Nothing) ≡ Refused sub reason → ⊥
    accepted true text h = absurd cc
    accepted false text h = absurd cc

    long : Expected t dst number user → 1032 < length (text_so_far t.contents ++ user) → Refused message_too_long protocol_error ≡ Refused sub reason → Found t octets sub reason
    long x l h =
        let s : sub ≡ message_too_long = cc in
        let r : reason ≡ protocol_error = cc in
        let as_read : reading octets ≡ Ok (data_tpdu 1 last (length t.contents % 128) user) =
        subst (λ (n : ℕ). reading octets ≡ Ok (data_tpdu 1 last n user)) x.next (subst (λ (n : ℕ). reading octets ≡ Ok (data_tpdu n last number user)) x.ours read) in
        (cause.MessageTooLong, (record { last = last; user = user; read = as_read; made = open_is _ x.made; granted = x.granted; fits = x.fits; long = l }, r), s)

named_found : (t : Transport) (octets : List ℕ) (credit dst number : ℕ) (o : Option ℕ) (sub reason : ℕ)
    → reading octets ≡ Ok (acknowledgement credit dst number) → Naming t.acked (t.given - t.acked) number o
    → (on_named t credit o).1 ≡ Refused sub reason → Found t octets sub reason
named_found t octets credit dst number None sub reason read none e = found_rule t octets sub reason (ByNoName credit dst number read none) e
named_found t octets credit dst number (Some m) sub reason read (k, is, most, named, least) e =
    elim (cases_Bool (nat_lt (m + credit) t.edge)) [
      | inl f ↦ found_rule t octets sub reason (ByEdge credit dst number k read most named least (omega (arith, is, ltb-true _ _ f))) (rw f at e)
      | inr f ↦ let h : Nothing ≡ Refused sub reason = rw f at e in absurd cc
    ]

acknowledgement_found : (t : Transport) (octets : List ℕ) (credit dst number sub reason : ℕ)
    → reading octets ≡ Ok (acknowledgement credit dst number) → (on_acknowledgement t credit dst number).1 ≡ Refused sub reason
    → Found t octets sub reason
acknowledgement_found t octets credit dst number sub reason read e =
    elim (cases_Bool (is_open t.stage && eqb dst 1)) [
      | inl f ↦
          named_found t octets credit dst number (number_named t.acked (t.given - t.acked) number) sub reason read
          (named_is t.acked (t.given - t.acked) number) (rw f at e)
      | inr f ↦ found_rule t octets sub reason (broken f) (rw f at e)
    ]
  where
    broken : (is_open t.stage && eqb dst 1) ≡ false → BreaksRule t octets
    broken f =
        elim (cases_Bool (is_open t.stage)) [
          | inl g ↦ ByReference _ read (λ h. both_ways _ f (and_from _ _ g (eq-eqb _ _ h)))
          | inr g ↦ AtStage _ read (λ h. both_ways _ g (open_of t.stage h))
        ]

found : (t : Transport) (octets : List ℕ) (answer : Result TransportPdu TpFault) (sub reason : ℕ) → reading octets ≡ answer
    → (on_reading t answer).1 ≡ Refused sub reason → Found t octets sub reason
found t octets (Ok (connection_request credit dst src size user)) sub reason read e =
    by_test t octets sub reason _ _ (λ h. absurd cc) (request_found t octets credit dst src size user read) e
found t octets (Ok (connection_confirm credit dst src size user)) sub reason read e =
    by_test t octets sub reason _ _ (λ h. absurd cc) (confirm_found t octets credit dst src size user read) e
found t octets (Ok (disconnect_request dst src cause user)) sub reason read e =
    by_test t octets sub reason _ _ (λ h. absurd cc) (disconnect_found t octets dst src cause user read) e
found t octets (Ok (disconnect_confirm dst src)) sub reason read e = found_rule t octets sub reason (AtStage _ read (λ h. h)) e
found t octets (Ok (data_tpdu dst last number user)) sub reason read e = data_found t octets dst last number user sub reason read e
found t octets (Ok (acknowledgement credit dst number)) sub reason read e = acknowledgement_found t octets credit dst number sub reason read e
found t octets (Ok (tpdu_error dst cause)) sub reason read e = found_rule t octets sub reason (AtStage _ read (λ h. h)) e
found t octets (Err fault) sub reason read e =
    let s : sub ≡ tpdu_refused = cc in
    let r : reason ≡ dr_reason fault = cc in
    (cause.TpduRefused, OfFault fault read r, s)

pub refuses_only : RefusesOnly
refuses_only t octets sub reason e =
    elim (cases_Bool (is_over t.stage)) [
      | inl over ↦ let h : Nothing ≡ Refused sub reason = rw over at e in absurd cc
      | inr live ↦
          let f = found t octets (reading octets) sub reason refl (rw live at e) in
          (f.0, f.1, (λ h. both_ways _ live (over_of t.stage h)), f.2)
    ]
  where
    over_of : (s : Stage) → s ≡ stages.Over → is_over s ≡ true
    over_of s h = rw h refl
