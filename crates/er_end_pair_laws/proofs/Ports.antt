-- A TPDU of the other side is heard: which it can be, and what the transport makes of it.
use Rattle.std.proofs.Common.{◌≡◌, ℕ, zero, suc, ◌+◌, ◌-◌, ◌%◌, ◌<◌, ◌≤◌, inl, inr, Bool, true, false, not, ◌&&◌, List, [], ◌∷◌, ◌++◌, length, take, Option, Some, None, Result, Ok, refl, ◌∙◌, ap, subst, arith, eq-eqb, eqb-true, lt-ltb}
use Rattle.std.specs.Prelude.{nat_lt, nat_le, ◌==◌, min, if◌then◌else◌}
use Rattle.std.proofs.lemmas.Bool.{cases_Bool, cases_lt, le-leb, le-ltb}
use Rattle.std.proofs.lemmas.List.{length-take-le}
use Rattle.x224_tpdu.specs.Spelling.{TransportPdu}
use Rattle.x224_tpdu.specs.Function.{reading}
use Rattle.x224_tpdu.specs.ReadingLaws.{ReadingOfWritten}
use Rattle.x224_tpdu.specs.declared.fault.TpFault.{TpFault}
use Rattle.x224_class2.specs.Segments.{Segment, text_so_far}
use Rattle.x224_class2.specs.Tpdus.{GivenTpdu, Dt, Ak, pdu_given, octets_given}
use Rattle.x224_class2.specs.Transport.{Transport, ReceptionDeed, Nothing, Called, Confirmed, Message, Disconnected, is_new, is_calling, is_open, is_over, refusal_of_tpdu, on_request, on_confirm, on_disconnect, on_data, on_acknowledgement, on_named, number_named, on_reading, reception}
use Rattle.x224_class2.specs.Refusals.{tpdu_refused, message_too_long, protocol_error}
use Rattle.x224_class2.specs.declared.stage.Stage.TheVariants as stages
use Rattle.er_end_pair_laws.proofs.Lists.{Head, head_length, head_flat, number, number_next, Climbs, Ends, ends_next, ends_at, flat_one}
use Rattle.er_end_pair_laws.proofs.Locals.{dt_of, ak_of, dts, aks, Fits}

-- ---- what is given is read

pub came_is : ReadingOfWritten → (t : Transport) (g : GivenTpdu) → is_over t.stage ≡ false → Fits g → reception t (octets_given g) ≡ on_reading t (Ok (pdu_given g))
came_is back t g live fits =
    ap (λ (b : Bool). if b then (t, Nothing) else on_reading t (reading (octets_given g))) live
    ∙ ap (λ (r : Result TransportPdu TpFault). on_reading t r) (back (pdu_given g) fits)

-- ---- a DT

-- its number is the next one, and it is the next segment
pub dt_next : (h gave : List GivenTpdu) (got segs : List Segment) (given : ℕ) (last : Bool) (n : ℕ) (user : List ℕ)
    → dts h ≡ number 0 got → dts gave ≡ number 0 (take given segs) → Head (h ++ Dt last n user ∷ []) gave
    → (n ≡ length got) × Head (got ++ (last, user) ∷ []) (take given segs)
dt_next h gave got segs given last n user eh eg next =
    let f = head_flat dt_of (h ++ Dt last n user ∷ []) gave next in
    let p : dts (h ++ Dt last n user ∷ []) ≡ number 0 got ++ (n, (last, user)) ∷ [] =
    flat_one dt_of h (Dt last n user) (n, (last, user)) refl ∙ ap (λ (ps : List (ℕ × Segment)). ps ++ (n, (last, user)) ∷ []) eh in
    let f' : Head (number 0 got ++ (n, (last, user)) ∷ []) (number 0 (take given segs)) =
    subst (λ (t : List (ℕ × Segment)). Head t (number 0 (take given segs))) p (subst (λ (t : List (ℕ × Segment)). Head (dts (h ++ Dt last n user ∷ [])) t) eg f) in
    let r = number_next 0 n (last, user) got (take given segs) f' in (omega (arith, r.0), r.1)

-- what was got is a beginning of what was given
pub got_head : (h gave : List GivenTpdu) (got segs : List Segment) (given : ℕ) → dts h ≡ number 0 got → dts gave ≡ number 0 (take given segs) → Head h gave
    → Head got (take given segs)
got_head h gave got segs given eh eg next =
    let f = head_flat dt_of h gave next in
    unnumber got (take given segs) 0 (subst (λ (t : List (ℕ × Segment)). Head t (number 0 (take given segs))) eh (subst (λ (t : List (ℕ × Segment)). Head (dts h) t) eg f))
  where
    unnumber : (xs ys : List Segment) (k : ℕ) → Head (number k xs) (number k ys) → Head xs ys
    unnumber [] ys k h = tt
    unnumber (x ∷ xs) [] k h = absurd h
    unnumber (x ∷ xs) (y ∷ ys) k h = (ap (λ (p : ℕ × Segment). p.1) h.0, unnumber xs ys (suc k) h.1)

-- and not more than was granted
pub got_most : (h gave : List GivenTpdu) (got segs : List Segment) (given : ℕ) → dts h ≡ number 0 got → dts gave ≡ number 0 (take given segs) → Head h gave → given ≤ length segs
    → length got ≤ given
got_most h gave got segs given eh eg next most =
    let l = head_length got (take given segs) (got_head h gave got segs given eh eg next) in
    omega (arith, length-take-le given segs most)

-- the acknowledged number is at most the newest that was told
pub acked_most : (h gave : List GivenTpdu) (acked newest : ℕ) → Ends 0 (aks h) acked → Climbs 0 (aks gave) newest → Head h gave → acked ≤ newest
acked_most h gave acked newest e c next = ends_at 0 acked newest (aks h) (aks gave) e c (head_flat ak_of h gave next)

-- what the transport makes of it
pub dt_heard : (t : Transport) (last : Bool) (n : ℕ) (user : List ℕ) → is_open t.stage ≡ true → n ≡ length t.contents → length t.contents < t.newest + t.credit
    → length user ≤ t.size - 5 → length (text_so_far t.contents ++ user) ≤ 1032
    → on_data t 1 last (n % 128) user ≡ (record t { contents = t.contents ++ (last, user) ∷ [] }, if last then Message (text_so_far t.contents ++ user) else Nothing)
dt_heard t last n user up same granted short small =
    let number : ((n % 128) == length t.contents % 128) ≡ true = eq-eqb (n % 128) (length t.contents % 128) (ap (λ m. m % 128) same) in
    tested (is_open t.stage) ((n % 128) == length t.contents % 128) (nat_lt (length t.contents) (t.newest + t.credit)) (nat_le (length user) (t.size - 5))
    (nat_lt 1032 (length (text_so_far t.contents ++ user))) up number (lt-ltb _ _ granted) (le-leb _ _ short) (le-ltb _ _ small) (refusal_of_tpdu t tpdu_refused protocol_error)
    (refusal_of_tpdu t message_too_long protocol_error)
    (record t { contents = t.contents ++ (last, user) ∷ [] }, if last then Message (text_so_far t.contents ++ user) else Nothing)
  where
    tested : (a b c d e : Bool) → a ≡ true → b ≡ true → c ≡ true → d ≡ true → e ≡ false → (x y z : Transport × ReceptionDeed)
        → (if not (a && true && b && c && d) then x else if e then y else z) ≡ z
    tested true true true true false p q r s u x y z = refl
    tested false b c d e p q r s u x y z = absurd cc
    tested true false c d e p q r s u x y z = absurd cc
    tested true true false d e p q r s u x y z = absurd cc
    tested true true true false e p q r s u x y z = absurd cc
    tested true true true true true p q r s u x y z = absurd cc

-- ---- an AK

pub ak_next : (h gave : List GivenTpdu) (acked newest credit n : ℕ) → Ends 0 (aks h) acked → Climbs 0 (aks gave) newest → Head (h ++ Ak credit n ∷ []) gave
    → (acked ≤ n) × (n ≤ newest)
ak_next h gave acked newest credit n e c next =
    ends_next 0 acked n newest (aks h) (aks gave) e c
    (subst (λ (t : List ℕ). Head t (aks gave)) (flat_one ak_of h (Ak credit n) n refl) (head_flat ak_of (h ++ Ak credit n ∷ []) gave next))

named_is : (more n m : ℕ) → n ≤ m → m ≤ n + more → more < 128 → number_named n more (m % 128) ≡ Some m
named_is zero n m low high small =
    let same : n ≡ m = omega arith in
    ap (λ (b : Bool). if b then Some n else None) (eq-eqb (n % 128) (m % 128) (ap (λ t. t % 128) same)) ∙ ap Some same
named_is (suc more) n m low high small =
    elim (cases_lt n m) [
      | inl lower ↦
          let differs : ((n % 128) == (m % 128)) ≡ false = elim (cases_Bool ((n % 128) == (m % 128))) [
            | inl e ↦ absurd (let s : n % 128 ≡ m % 128 = eqb-true (n % 128) (m % 128) e in let u : ⊥ = omega arith in u)
            | inr e ↦ e
          ] in
          ap (λ (b : Bool). if b then Some n else number_named (n + 1) more (m % 128)) differs ∙ named_is more (n + 1) m (omega arith) (omega arith) (omega arith)
      | inr above ↦
          let same : n ≡ m = omega arith in
          ap (λ (b : Bool). if b then Some n else number_named (n + 1) more (m % 128)) (eq-eqb (n % 128) (m % 128) (ap (λ t. t % 128) same)) ∙ ap Some same
    ]

pub ak_heard : (t : Transport) (credit n : ℕ) → is_open t.stage ≡ true → t.acked ≤ n → n ≤ t.given → t.given ≤ t.acked + 15 → t.edge ≤ n + credit
    → on_acknowledgement t credit 1 (n % 128) ≡ (record t { acked = n; edge = n + credit }, Nothing)
ak_heard t credit n up low high near edge =
    ap (λ (b : Bool). if b && true then on_named t credit (number_named t.acked (t.given - t.acked) (n % 128)) else refusal_of_tpdu t tpdu_refused protocol_error) up
    ∙ ap (λ (o : Option ℕ). on_named t credit o) (named_is (t.given - t.acked) t.acked n low (omega arith) (omega arith))
    ∙ ap (λ (b : Bool). if b then refusal_of_tpdu t tpdu_refused protocol_error else (record t { acked = n; edge = n + credit }, Nothing)) (le-ltb (n + credit) t.edge edge)

-- ---- CR, CC and DR

pub cr_heard : (t : Transport) (credit size : ℕ) (user : List ℕ) → t.is_caller ≡ false → is_new t.stage ≡ true → size ≡ t.size → size ≤ 1024
    → on_request t credit 0 1 size user ≡ (record t { stage = stages.Called; edge = credit }, Called user)
cr_heard t credit size user role fresh same most =
    let least : min (min size 1024) t.size ≡ t.size = omega arith in
    ap (λ (b : Bool). if not b && is_new t.stage && true && true then (record t { stage = stages.Called; size = min (min size 1024) t.size; edge = credit }, Called user) else refusal_of_tpdu t tpdu_refused protocol_error) role
    ∙ ap (λ (b : Bool). if b && true && true then (record t { stage = stages.Called; size = min (min size 1024) t.size; edge = credit }, Called user) else refusal_of_tpdu t tpdu_refused protocol_error) fresh
    ∙ ap (λ (n : ℕ). (record t { stage = stages.Called; size = n; edge = credit }, Called user)) least

pub cc_heard : (t : Transport) (credit size : ℕ) (user : List ℕ) → is_calling t.stage ≡ true → size ≡ t.size
    → on_confirm t credit 1 1 size user ≡ (record t { stage = stages.Open; edge = credit }, Confirmed user)
cc_heard t credit size user calling same =
    ap (λ (b : Bool). if b && true && true && nat_le size t.size then (record t { stage = stages.Open; size = size; edge = credit }, Confirmed user) else refusal_of_tpdu t tpdu_refused protocol_error) calling
    ∙ ap (λ (b : Bool). if b then (record t { stage = stages.Open; size = size; edge = credit }, Confirmed user) else refusal_of_tpdu t tpdu_refused protocol_error) (le-leb size t.size (omega arith))
    ∙ ap (λ (n : ℕ). (record t { stage = stages.Open; size = n; edge = credit }, Confirmed user)) same

pub dr_heard : (t : Transport) (user : List ℕ) → is_new t.stage ≡ false → on_disconnect t 1 1 user ≡ (record t { stage = stages.Over }, Disconnected user)
dr_heard t user begun =
    ap (λ (b : Bool). if not b && true && true then (record t { stage = stages.Over }, Disconnected user) else refusal_of_tpdu t tpdu_refused protocol_error) begun
