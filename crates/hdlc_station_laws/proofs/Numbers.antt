-- N(R): what it names, and what addresses and tables say of a frame.
use Rattle.std.proofs.Common.{if◌then◌else◌, ◌≡◌, ◌⊎◌, inl, inr, ℕ, zero, suc, ◌+◌, ◌-◌, ◌%◌, ◌<◌, ◌≤◌, Bool, true, false, not, List, Option, Some, None, refl, sym, ap, ◌∙◌, arith, true≢false}
use Rattle.std.specs.Prelude.{◌==◌}
use Rattle.std.proofs.lemmas.Bool.{cond_both, cases_Bool, cases_lt, or_cases, eqb-true, eq-eqb}
use Rattle.std.proofs.lemmas.Option.{none-some}
use Rattle.er_base.specs.Octets.{AreOctets}
use Rattle.hdlc_frames.specs.declared.controls.Control.{Control}
use Rattle.hdlc_frames.specs.declared.controls.Control.TheVariants.{Info, Rr, Rnr, Rej, Srej, Sabm, Sabme, Disc, Ua, Dm, Frmr}
use Rattle.hdlc_frames.specs.Bodies.{HasNoControl}
use Rattle.hdlc_frames.specs.ControlOctets.{control_of}
use Rattle.hdlc_frames.specs.Laws.{ControlIsTable}
use Rattle.hdlc_station_model.specs.Frames.{modulo, address_of}
use Rattle.hdlc_station_model.specs.Stations.{Station}
use Rattle.hdlc_station_model.specs.Receiving.{is_known_address, is_addressed, number_shown_as}
use Rattle.hdlc_station_model.specs.Causes.{FrameKind, Command, Response, Either, command_or_response, IsAddressOf, IsValidReceiveNumber}

-- ---- N(R)

-- where no number is found, none from a to a + k is shown as r
pub names_none_at : (e : Bool) (a k r : ℕ) → number_shown_as e a k r ≡ None → (n : ℕ) → a ≤ n → n ≤ a + k → n % modulo e ≡ r → ⊥
names_none_at e a zero r none n low high shown =
    let same : n ≡ a = omega arith in
    let is : (a % modulo e == r) ≡ true = eq-eqb (a % modulo e) r (ap (λ (m : ℕ). m % modulo e) (sym same) ∙ shown) in
    none-some a (sym none ∙ ap (λ (b : Bool). if b then Some a else None) is)
names_none_at e a (suc k) r none n low high shown =
    elim (cases_Bool (a % modulo e == r)) [
      | inl is ↦ none-some a (sym none ∙ ap (λ (b : Bool). if b then Some a else number_shown_as e (a + 1) k r) is)
      | inr isnt ↦
          let rest : number_shown_as e (a + 1) k r ≡ None = sym (ap (λ (b : Bool). if b then Some a else number_shown_as e (a + 1) k r) isnt) ∙ none in
          elim (cases_lt a n) [
            | inl above ↦ names_none_at e (a + 1) k r rest n (omega arith) (omega arith) shown
            | inr below ↦
                let same : n ≡ a = omega arith in
                let is : (a % modulo e == r) ≡ true = eq-eqb (a % modulo e) r (ap (λ (m : ℕ). m % modulo e) (sym same) ∙ shown) in
                true≢false (sym is ∙ isnt)
          ]
    ]

low_of : (a s n : ℕ) → (n ≡ a) ⊎ ((a < n) × (n ≤ s)) → a ≤ n
low_of a s n (inl same) = omega arith
low_of a s n (inr within) = omega arith

high_of : (a s n : ℕ) → (n ≡ a) ⊎ ((a < n) × (n ≤ s)) → n ≤ a + (s - a)
high_of a s n (inl same) = omega arith
high_of a s n (inr within) = omega arith

within_of : (a s n : ℕ) → a ≤ n → n ≤ a + (s - a) → (n ≡ a) ⊎ ((a < n) × (n ≤ s))
within_of a s n low high =
    elim (cases_lt a n) [
      | inl above ↦ inr (above, omega arith)
      | inr below ↦ inl (omega arith)
    ]

pub names_none : (s : Station) (r : ℕ) → number_shown_as s.extended s.acked (s.sent - s.acked) r ≡ None → IsValidReceiveNumber s r → ⊥
names_none s r none x =
    names_none_at s.extended s.acked (s.sent - s.acked) r none x.number (low_of s.acked s.sent x.number x.within) (high_of s.acked s.sent x.number x.within) x.shown

none_named_at : (e : Bool) (a k r : ℕ) → ((n : ℕ) → a ≤ n → n ≤ a + k → n % modulo e ≡ r → ⊥) → number_shown_as e a k r ≡ None
none_named_at e a zero r never =
    cond_both (a % modulo e == r) (Some a) None (λ o. o ≡ None) (λ is. absurd (never a (omega arith) (omega arith) (eqb-true (a % modulo e) r is))) (λ isnt. refl)
none_named_at e a (suc k) r never =
    cond_both (a % modulo e == r) (Some a) (number_shown_as e (a + 1) k r) (λ o. o ≡ None)
    (λ is. absurd (never a (omega arith) (omega arith) (eqb-true (a % modulo e) r is)))
    (λ isnt. none_named_at e (a + 1) k r (λ n low high shown. never n (omega arith) (omega arith) shown))

pub none_named : (s : Station) (r : ℕ) → (IsValidReceiveNumber s r → ⊥) → number_shown_as s.extended s.acked (s.sent - s.acked) r ≡ None
none_named s r never =
    none_named_at s.extended s.acked (s.sent - s.acked) r
    (λ n low high shown. never (record { number = n; within = within_of s.acked s.sent n low high; shown = shown }))

-- ---- addresses

pub either : (calling : Bool) (address : ℕ) → is_known_address address ≡ true → IsAddressOf Either calling address
either true address known =
    elim (or_cases (address == address_of true) (address == address_of false) known) [
      | inl a ↦ inl (eqb-true address (address_of true) a)
      | inr b ↦ inr (eqb-true address (address_of false) b)
    ]
either false address known =
    elim (or_cases (address == address_of true) (address == address_of false) known) [
      | inl a ↦ inr (eqb-true address (address_of true) a)
      | inr b ↦ inl (eqb-true address (address_of false) b)
    ]

pub addressed : (calling : Bool) (address : ℕ) (c : Control) → is_known_address address ≡ true → is_addressed calling address c ≡ true
    → IsAddressOf (command_or_response c) calling address
addressed calling address (Info ns nr) known is = eqb-true address (address_of calling) is
addressed calling address (Rr nr) known is = either calling address known
addressed calling address (Rnr nr) known is = either calling address known
addressed calling address (Rej nr) known is = either calling address known
addressed calling address (Srej nr) known is = either calling address known
addressed calling address (Sabm poll) known is = eqb-true address (address_of calling) is
addressed calling address (Sabme poll) known is = eqb-true address (address_of calling) is
addressed calling address (Disc poll) known is = eqb-true address (address_of calling) is
addressed calling address Ua known is = eqb-true address (address_of (not calling)) is
addressed calling address Dm known is = eqb-true address (address_of (not calling)) is
addressed calling address Frmr known is = eqb-true address (address_of (not calling)) is

own_known : (calling : Bool) → is_known_address (address_of calling) ≡ true
own_known true = refl
own_known false = refl

pub is_known : (k : FrameKind) (calling : Bool) (address : ℕ) → IsAddressOf k calling address → is_known_address address ≡ true
is_known Command calling address at = ap is_known_address at ∙ own_known calling
is_known Response calling address at = ap is_known_address at ∙ own_known (not calling)
is_known Either calling address (inl at) = ap is_known_address at ∙ own_known calling
is_known Either calling address (inr at) = ap is_known_address at ∙ own_known (not calling)

pub may_bear : (calling : Bool) (address : ℕ) (c : Control) → IsAddressOf (command_or_response c) calling address → is_addressed calling address c ≡ true
may_bear calling address (Info ns nr) at = eq-eqb address (address_of calling) at
may_bear calling address (Rr nr) at = refl
may_bear calling address (Rnr nr) at = refl
may_bear calling address (Rej nr) at = refl
may_bear calling address (Srej nr) at = refl
may_bear calling address (Sabm poll) at = eq-eqb address (address_of calling) at
may_bear calling address (Sabme poll) at = eq-eqb address (address_of calling) at
may_bear calling address (Disc poll) at = eq-eqb address (address_of calling) at
may_bear calling address Ua at = eq-eqb address (address_of (not calling)) at
may_bear calling address Dm at = eq-eqb address (address_of (not calling)) at
may_bear calling address Frmr at = eq-eqb address (address_of (not calling)) at

-- ---- the tables

pub has_none : ControlIsTable → (m : ℕ) (body : List ℕ) → AreOctets body → control_of m body ≡ None → HasNoControl m body
has_none law m body octets none c i has = none-some (c, i) (sym none ∙ (law m body octets c i).1 has)

none_of : (o : Option (Control × List ℕ)) → ((read : Control × List ℕ) → o ≡ Some read → ⊥) → o ≡ None
none_of None never = refl
none_of (Some read) never = absurd (never read refl)

pub reads_none : ControlIsTable → (m : ℕ) (body : List ℕ) → AreOctets body → HasNoControl m body → control_of m body ≡ None
reads_none law m body octets never = none_of (control_of m body) (λ read e. never read.0 read.1 ((law m body octets read.0 read.1).0 e))

-- ---- the number that is named

-- n is shown as r, and it lies from a to a + count
pub record Named (e : Bool) (a count r n : ℕ) : Type 0 where
  pub low : a ≤ n
  pub high : n ≤ a + count
  pub shows : n % modulo e ≡ r

first_named : (e : Bool) (a count r n : ℕ) → (a % modulo e == r) ≡ true → Some a ≡ Some n → Named e a count r n
first_named e a count r n is same =
    let at : a ≡ n = cc in
    record { low = omega (arith, at); high = omega (arith, at); shows = sym (ap (λ (k : ℕ). k % modulo e) at) ∙ eqb-true (a % modulo e) r is }

pub named_at : (e : Bool) (a count r n : ℕ) → number_shown_as e a count r ≡ Some n → Named e a count r n
named_at e a zero r n = cond_both (a % modulo e == r) (Some a) None (λ o. o ≡ Some n → Named e a zero r n) (λ is same. first_named e a zero r n is same) (λ isnt same. absurd cc)
named_at e a (suc count) r n =
    cond_both (a % modulo e == r) (Some a) (number_shown_as e (a + 1) count r) (λ o. o ≡ Some n → Named e a (suc count) r n) (λ is same. first_named e a (suc count) r n is same)
    (λ isnt same.
    let m = named_at e (a + 1) count r n same in
    record { low = omega (arith, m.low); high = omega (arith, m.high); shows = m.shows })
