-- Octets cut one behind another, and runs of octets of no unit.
use Rattle.std.proofs.Common.{arith, ◌≡◌, ℕ, zero, suc, ◌+◌, ◌<◌, ◌≤◌, ◌==◌, true, false, List, [], ◌∷◌, ◌++◌, length, take, get_or, refl, ap, subst, add-one, sym, ◌∙◌, append_assoc, append-nil}
use Rattle.std.proofs.lemmas.Bool.{eqb-true, false_from_ne_true}
use Rattle.std.proofs.lemmas.List.{take_more, length-take-le, get_or-take}
use Rattle.memchr.specs.Find.{Nowhere, Passes, is_byte}
use Rattle.hdlc_frames.specs.Framing.{flag}
use Rattle.relay_model.specs.Units.{Part, Outside, Standing, Unbegun, Holding, Overlong, UnitTurn, turn_to, unit_turn, standing_from, parts_from, octets_in_parts}
use Rattle.relay_carrier.specs.declared.came.CutOutcome.{CutOutcome}
use Rattle.relay_carrier.specs.declared.came.CutOutcome.TheVariants as brought
use Rattle.relay_carrier.specs.Told.{AreOutside, parts_told, TellsParts}

pub parts_append : (s : Standing) (came more : List ℕ) → parts_from s (came ++ more) ≡ parts_from s came ++ parts_from (standing_from s came) more
unfolding parts_from standing_from
parts_append s [] more = refl
parts_append s (x ∷ came) more =
    ap (λ (p : List Part). (unit_turn s x).parts ++ p) (parts_append (unit_turn s x).next came more)
    ∙ sym (append_assoc (unit_turn s x).parts (parts_from (unit_turn s x).next came) (parts_from (standing_from (unit_turn s x).next came) more))

pub standing_append : (s : Standing) (came more : List ℕ) → standing_from s (came ++ more) ≡ standing_from (standing_from s came) more
unfolding standing_from
standing_append s [] more = refl
standing_append s (x ∷ came) more = standing_append (unit_turn s x).next came more

parts_one : (s : Standing) (x : ℕ) → parts_from s (x ∷ []) ≡ (unit_turn s x).parts
unfolding parts_from
parts_one s x = append-nil (unit_turn s x).parts

standing_one : (s : Standing) (x : ℕ) → standing_from s (x ∷ []) ≡ (unit_turn s x).next
unfolding standing_from
standing_one s x = refl

-- ---- one octet more of a list

-- so far octets brought no part, and the side stands here
pub record HeldSoFar (s : Standing) (octets : List ℕ) (n : ℕ) (now : Standing) : Type 0 where
  pub stands : now ≡ standing_from s (take n octets)
  pub none : parts_from s (take n octets) ≡ []

pub none_so_far : (s : Standing) (octets : List ℕ) → HeldSoFar s octets 0 s
unfolding standing_from parts_from
none_so_far s octets = record { stands = refl; none = refl }

-- the next one brings these parts
pub record TurnsAt (s : Standing) (octets : List ℕ) (n : ℕ) (next : Standing) (parts : List Part) : Type 0 where
  pub stands : next ≡ standing_from s (take (n + 1) octets)
  pub parts_are : parts_from s (take (n + 1) octets) ≡ parts

pub turns_at : (s : Standing) (octets : List ℕ) (n x : ℕ) (now next : Standing) (parts : List Part) → n < length octets → x ≡ get_or octets n 0
    → HeldSoFar s octets n now → unit_turn now x ≡ turn_to next parts → TurnsAt s octets n next parts
turns_at s octets n x now next parts inside is so turn =
    let more : take (n + 1) octets ≡ take n octets ++ x ∷ [] =
    take_more octets n 0 inside ∙ ap (λ (y : ℕ). take n octets ++ y ∷ []) (sym is) in
    let here = standing_from s (take n octets) in
    let turned : unit_turn here x ≡ turn_to next parts = ap (λ (h : Standing). unit_turn h x) (sym so.stands) ∙ turn in
    record {
      stands =
          sym (ap (standing_from s) more ∙ standing_append s (take n octets) (x ∷ []) ∙ standing_one here x ∙ ap (λ (t : UnitTurn). t.next) turned);
      parts_are =
          ap (parts_from s) more
          ∙ parts_append s (take n octets) (x ∷ [])
          ∙ ap (λ (p : List Part). p ++ parts_from here (x ∷ [])) so.none
          ∙ parts_one here x
          ∙ ap (λ (t : UnitTurn). t.parts) turned;
    }

-- ---- runs

pub record PassesTo (s : Standing) (octets : List ℕ) (next : Standing) : Type 0 where
  pub stands : standing_from s octets ≡ next
  pub outside : AreOutside (parts_from s octets)
  pub octets_are : octets_in_parts (parts_from s octets) ≡ octets

abbrev pub ArePlain : List ℕ → Type 0
ArePlain [] = Unit {0}
ArePlain (x ∷ octets) = ((x == flag) ≡ false) × ArePlain octets

-- by the octets at their places
pub plain_by_places : (octets : List ℕ) → ((k : ℕ) → k < length octets → (get_or octets k 0 == flag) ≡ false) → ArePlain octets
plain_by_places [] h = tt
plain_by_places (x ∷ octets) h = (h 0 (omega arith), plain_by_places octets (λ k inside. subst (λ (n : ℕ). (get_or (x ∷ octets) n 0 == flag) ≡ false) (add-one k) (h (k + 1) (omega (arith, inside)))))

passes_none : (s : Standing) → PassesTo s [] s
unfolding standing_from parts_from octets_in_parts
passes_none s = record { stands = refl; outside = tt; octets_are = refl }

-- an octet that passes, before others
passes_first : (s next last : Standing) (x : ℕ) (octets : List ℕ) → unit_turn s x ≡ turn_to next (Outside (x ∷ []) ∷ []) → PassesTo next octets last
    → PassesTo s (x ∷ octets) last
unfolding standing_from parts_from octets_in_parts
passes_first s next last x octets turn p =
    record {
      stands = rw turn p.stands;
      outside = rw turn p.outside;
      octets_are = rw turn (ap (λ (o : List ℕ). x ∷ o) p.octets_are);
    }

plain_first : (x : ℕ) → (x == flag) ≡ false → unit_turn Unbegun x ≡ turn_to Unbegun (Outside (x ∷ []) ∷ [])
plain_first x f = rw f refl

plain_overlong : (x : ℕ) → (x == flag) ≡ false → unit_turn Overlong x ≡ turn_to Overlong (Outside (x ∷ []) ∷ [])
plain_overlong x f = rw f refl

flag_overlong : unit_turn Overlong flag ≡ turn_to (Holding [] false) (Outside (flag ∷ []) ∷ [])
flag_overlong = refl

pub passes_before : (octets : List ℕ) → ArePlain octets → PassesTo Unbegun octets Unbegun
passes_before [] plain = passes_none Unbegun
passes_before (x ∷ octets) plain = passes_first Unbegun Unbegun Unbegun x octets (plain_first x plain.0) (passes_before octets plain.1)

pub passes_on : (octets : List ℕ) → ArePlain octets → PassesTo Overlong octets Overlong
passes_on [] plain = passes_none Overlong
passes_on (x ∷ octets) plain = passes_first Overlong Overlong Overlong x octets (plain_overlong x plain.0) (passes_on octets plain.1)

pub passes_flag : (octets : List ℕ) → ArePlain octets → PassesTo Overlong (octets ++ flag ∷ []) (Holding [] false)
passes_flag [] plain = passes_first Overlong (Holding [] false) (Holding [] false) flag [] flag_overlong (passes_none (Holding [] false))
passes_flag (x ∷ octets) plain =
    passes_first Overlong Overlong (Holding [] false) x (octets ++ flag ∷ []) (plain_overlong x plain.0) (passes_flag octets plain.1)

-- the first flag is held as one behind a unit would be
flag_turn : unit_turn Unbegun flag ≡ unit_turn (Holding [] false) flag
flag_turn = refl

pub first_flag_stands : (octets : List ℕ) → standing_from Unbegun (flag ∷ octets) ≡ standing_from (Holding [] false) (flag ∷ octets)
unfolding standing_from
first_flag_stands octets = refl

pub first_flag_parts : (octets : List ℕ) → parts_from Unbegun (flag ∷ octets) ≡ parts_from (Holding [] false) (flag ∷ octets)
unfolding parts_from
first_flag_parts octets = refl

-- ---- runs that the code finds

plain_until : (octets : List ℕ) (n : ℕ) → n ≤ length octets → Nowhere (Passes (is_byte 0x7e) octets) 0 n → ArePlain (take n octets)
plain_until octets n inside none =
    let size : length (take n octets) ≡ n = length-take-le n octets inside in
    plain_by_places (take n octets)
    (λ k within.
    let early : k < n = omega (arith, size, within) in
    let same : get_or (take n octets) k 0 ≡ get_or octets k 0 = get_or-take n octets k 0 early in
    rw same (false_from_ne_true (get_or octets k 0 == flag) (none k (omega arith) early)))

pub passes_until : (octets : List ℕ) (n : ℕ) → n ≤ length octets → Nowhere (Passes (is_byte 0x7e) octets) 0 n → PassesTo Unbegun (take n octets) Unbegun
passes_until octets n inside none = passes_before (take n octets) (plain_until octets n inside none)

pub passes_on_until : (octets : List ℕ) (n : ℕ) → n ≤ length octets → Nowhere (Passes (is_byte 0x7e) octets) 0 n → PassesTo Overlong (take n octets) Overlong
passes_on_until octets n inside none = passes_on (take n octets) (plain_until octets n inside none)

pub passes_with_flag : (octets : List ℕ) (n : ℕ) → n < length octets → Nowhere (Passes (is_byte 0x7e) octets) 0 n → (get_or octets n 0 == flag) ≡ true
    → PassesTo Overlong (take (n + 1) octets) (Holding [] false)
passes_with_flag octets n inside none at =
    let last : take (n + 1) octets ≡ take n octets ++ flag ∷ [] =
    take_more octets n 0 inside ∙ ap (λ (x : ℕ). take n octets ++ x ∷ []) (eqb-true (get_or octets n 0) flag at) in
    rw last (passes_flag (take n octets) (plain_until octets n (omega (arith, inside)) none))

-- the first octet is a flag
pub first_taken : (octets : List ℕ) (n : ℕ) → 0 < length octets → (get_or octets 0 0 == flag) ≡ true → 0 < n
    → (standing_from Unbegun (take n octets) ≡ standing_from (Holding [] false) (take n octets))
    × (parts_from Unbegun (take n octets) ≡ parts_from (Holding [] false) (take n octets))
first_taken [] n some at moves = absurd (omega (arith, some))
first_taken (x ∷ octets) zero some at moves = absurd (omega (arith, moves))
first_taken (x ∷ octets) (suc n) some at moves =
    rw (eqb-true x flag at) (first_flag_stands (take n octets), first_flag_parts (take n octets))

-- ---- what the code tells of one octet, it tells of all

pub tells_told : (what : CutOutcome) (octets : List ℕ) (parts : List Part) → (what ≡ brought.Held → octets ≡ []) → parts ≡ parts_told what octets
    → TellsParts what octets parts
unfolding octets_in_parts
tells_told brought.Held octets parts none is = (is, none refl)
tells_told brought.Outside octets parts none is = rw is (tt, append-nil octets)
tells_told brought.Unit octets parts none is = is
