-- Pieces of octets that come one behind another.
use Rattle.std.proofs.Common.{arith, ◌≡◌, ◌==◌, ℕ, ◌<◌, nat_lt, true, false, if◌then◌else◌, inl, inr, List, [], ◌∷◌, ◌++◌, length, Some, None, Option, refl, ap, sym, ◌∙◌, append_assoc, length-append}
use Rattle.std.specs.List.{slice_split, onto_first, concat}
use Rattle.std.proofs.lemmas.Bool.{cases_Bool, ne_eqb, le-ltb, lt-ltb, ltb-true, ltb-false}
use Rattle.std.proofs.lemmas.List.Splits.{length-slice_split, slice_split_none}
use Rattle.std.proofs.Math.Dec.{eqb-suc-zero}
use Rattle.application_lines.specs.declared.application_line.ApplicationLine.{ApplicationLine}
use Rattle.application_lines.specs.Streams.{is_feed, next_line_number, piece_tells, pieces_tell, stream_says}
use Rattle.application_lines.specs.Standings.{LineStanding, at_first_line, at_last_piece, onto_first_piece, lines_told_behind, stands_behind, says_from, line_standing_from, CanStand}
use Rattle.application_lines.specs.StreamLaws.{LinesGoOn, IsWholeFromTheFirst, StandsWell, said_in_pieces, CutAnywhereIsTheSame, LongIsTold}

-- ---- the pieces of octets behind others: the last piece and the first one are one

abbrev joined : List (List ℕ) → List (List ℕ) → List (List ℕ)
joined [] more = more
joined (piece ∷ pieces) more = if length pieces == 0 then onto_first_piece piece more else piece ∷ joined pieces more

-- there is at least one piece
split_some : (octets : List ℕ) → 0 < length (slice_split is_feed octets)
split_some octets = let e = length-slice_split is_feed octets in omega (arith, e)

onto_nothing : (more : List (List ℕ)) → 0 < length more → onto_first_piece [] more ≡ more
onto_nothing [] some = absurd (omega (arith, some))
onto_nothing (piece ∷ more) some = refl

feed_joined : (pieces more : List (List ℕ)) → 0 < length pieces → [] ∷ joined pieces more ≡ joined ([] ∷ pieces) more
feed_joined pieces more some =
    let other : length pieces ≡ 0 → ⊥ = omega (arith, some) in
    rw (ne_eqb (length pieces) 0 other) refl

onto_onto : (x : ℕ) (piece : List ℕ) (more : List (List ℕ)) → onto_first x (onto_first_piece piece more) ≡ onto_first_piece (x ∷ piece) more
onto_onto x piece [] = refl
onto_onto x piece (first ∷ more) = refl

octet_joined : (x : ℕ) (pieces more : List (List ℕ)) → 0 < length pieces → onto_first x (joined pieces more) ≡ joined (onto_first x pieces) more
octet_joined x [] more some = absurd (omega (arith, some))
octet_joined x (piece ∷ pieces) more some =
    elim (cases_Bool (length pieces == 0)) [
      | inl last ↦ rw last (onto_onto x piece more)
      | inr goes ↦ rw goes refl
    ]

pub split_joined : (octets more : List ℕ) → slice_split is_feed (octets ++ more) ≡ joined (slice_split is_feed octets) (slice_split is_feed more)
split_joined [] more = sym (onto_nothing (slice_split is_feed more) (split_some more))
split_joined (x ∷ octets) more =
    elim (cases_Bool (is_feed x)) [
      | inl feed ↦
          rw feed (ap (λ (p : List (List ℕ)). [] ∷ p) (split_joined octets more) ∙ feed_joined (slice_split is_feed octets) (slice_split is_feed more) (split_some octets))
      | inr other ↦
          rw other (ap (onto_first x) (split_joined octets more) ∙ octet_joined x (slice_split is_feed octets) (slice_split is_feed more) (split_some octets))
    ]

-- ---- what pieces say behind others

-- pieces that go on where the last of others stood
pub record PiecesGoOn (number : ℕ) (pieces more : List (List ℕ)) : Type 0 where
  pub says : pieces_tell number (joined pieces more)
      ≡ pieces_tell number pieces ++ lines_told_behind (at_last_piece number pieces).number (at_last_piece number pieces).held more
  pub stands : at_last_piece number (joined pieces more)
      ≡ stands_behind (at_last_piece number pieces).number (at_last_piece number pieces).held more

longer : (piece first : List ℕ) → nat_lt 4096 (length piece) ≡ true → nat_lt 4096 (length (piece ++ first)) ≡ true
longer piece first t =
    let more = ltb-true 4096 (length piece) t in
    let long = length-append piece first in
    lt-ltb 4096 (length (piece ++ first)) (omega (arith, more, long))

-- behind one piece
one_goes_on : (number : ℕ) (piece : List ℕ) (more : List (List ℕ)) → 0 < length more → PiecesGoOn number (piece ∷ []) more
unfolding pieces_tell at_last_piece
one_goes_on number piece [] some = absurd (omega (arith, some))
one_goes_on number piece (first ∷ more) some =
    elim (cases_Bool (nat_lt 4096 (length piece))) [
      | inl long ↦
          let still = longer piece first long in
          record { says = rw (long, still) refl; stands = rw (long, still) refl }
      | inr short ↦ record { says = rw short refl; stands = rw short refl }
    ]

is_ended_joined : (pieces more : List (List ℕ)) → 0 < length pieces → 0 < length more → (length (joined pieces more) == 0) ≡ false
is_ended_joined [] more some one = absurd (omega (arith, some))
is_ended_joined (piece ∷ pieces) [] some one = absurd (omega (arith, one))
is_ended_joined (piece ∷ pieces) (first ∷ more) some one =
    elim (cases_Bool (length pieces == 0)) [
      | inl last ↦ rw last (eqb-suc-zero (length more))
      | inr goes ↦ rw goes (eqb-suc-zero (length (joined pieces (first ∷ more))))
    ]

pub pieces_go_on : (number : ℕ) (pieces more : List (List ℕ)) → 0 < length pieces → 0 < length more → PiecesGoOn number pieces more
unfolding pieces_tell at_last_piece
pieces_go_on number [] more some one = absurd (omega (arith, some))
pieces_go_on number (piece ∷ []) more some one = one_goes_on number piece more one
pieces_go_on number (piece ∷ next ∷ pieces) more some one =
    let rest = pieces_go_on (next_line_number number) (next ∷ pieces) more (omega arith) one in
    let ended = is_ended_joined (next ∷ pieces) more (omega arith) one in
    let mine = piece_tells number piece true in
    record {
      says =
          rw (eqb-suc-zero (length pieces), ended)
          (ap (λ (lines : List ApplicationLine). mine ++ lines) rest.says ∙ sym (append_assoc mine (pieces_tell (next_line_number number) (next ∷ pieces)) _));
      stands = rw (eqb-suc-zero (length pieces), ended) rest.stands;
    }

-- ---- where a line goes on

record LineGoesOn (number : ℕ) (held : Option (List ℕ)) (pieces more : List (List ℕ)) : Type 0 where
  says : lines_told_behind number held (joined pieces more)
      ≡ lines_told_behind number held pieces ++ lines_told_behind (stands_behind number held pieces).number (stands_behind number held pieces).held more
  stands : stands_behind number held (joined pieces more)
      ≡ stands_behind (stands_behind number held pieces).number (stands_behind number held pieces).held more

onto_twice : (held piece : List ℕ) (more : List (List ℕ)) → onto_first_piece held (onto_first_piece piece more) ≡ onto_first_piece (held ++ piece) more
onto_twice held piece [] = refl
onto_twice held piece (first ∷ more) = ap (λ (line : List ℕ). line ∷ more) (sym (append_assoc held piece first))

onto_joined : (held : List ℕ) (pieces more : List (List ℕ)) → 0 < length pieces
    → onto_first_piece held (joined pieces more) ≡ joined (onto_first_piece held pieces) more
onto_joined held [] more some = absurd (omega (arith, some))
onto_joined held (piece ∷ pieces) more some =
    elim (cases_Bool (length pieces == 0)) [ inl last ↦ rw last (onto_twice held piece more) | inr goes ↦ rw goes refl ]

onto_some : (held : List ℕ) (pieces : List (List ℕ)) → 0 < length pieces → 0 < length (onto_first_piece held pieces)
onto_some held [] some = omega arith
onto_some held (piece ∷ pieces) some = omega arith

short_goes_on : (number : ℕ) (held : List ℕ) (pieces more : List (List ℕ)) → 0 < length pieces → 0 < length more → LineGoesOn number (Some held) pieces more
short_goes_on number held pieces more some one =
    let rest = pieces_go_on number (onto_first_piece held pieces) more (onto_some held pieces some) one in
    let all = onto_joined held pieces more some in
    record { says = ap (pieces_tell number) all ∙ rest.says; stands = ap (at_last_piece number) all ∙ rest.stands }

long_goes_on : (number : ℕ) (pieces more : List (List ℕ)) → 0 < length pieces → 0 < length more → LineGoesOn number None pieces more
unfolding pieces_tell
long_goes_on number [] more some one = absurd (omega (arith, some))
long_goes_on number (piece ∷ []) [] some one = absurd (omega (arith, one))
long_goes_on number (piece ∷ []) (first ∷ more) some one = record { says = refl; stands = refl }
long_goes_on number (piece ∷ next ∷ pieces) more some one =
    let rest = pieces_go_on (next_line_number number) (next ∷ pieces) more (omega arith) one in
    let ended = is_ended_joined (next ∷ pieces) more (omega arith) one in
    record { says = rw (eqb-suc-zero (length pieces)) rest.says; stands = rw (eqb-suc-zero (length pieces), ended) rest.stands }

line_goes_on : (number : ℕ) (held : Option (List ℕ)) (pieces more : List (List ℕ)) → 0 < length pieces → 0 < length more → LineGoesOn number held pieces more
line_goes_on number None pieces more some one = long_goes_on number pieces more some one
line_goes_on number (Some held) pieces more some one = short_goes_on number held pieces more some one

-- ---- the laws

pub goes_on : LinesGoOn
unfolding says_from line_standing_from
goes_on s octets more =
    let line = line_goes_on s.number s.held (slice_split is_feed octets) (slice_split is_feed more) (split_some octets) (split_some more) in
    let all = split_joined octets more in
    record { says = ap (lines_told_behind s.number s.held) all ∙ line.says; stands = ap (stands_behind s.number s.held) all ∙ line.stands }

pub whole_from_the_first : IsWholeFromTheFirst
unfolding stream_says says_from
whole_from_the_first octets = ap (pieces_tell 1) (sym (onto_nothing (slice_split is_feed octets) (split_some octets)))

last_stands_well : (number : ℕ) (pieces : List (List ℕ)) → CanStand (at_last_piece number pieces)
unfolding at_last_piece
last_stands_well number [] = omega arith
last_stands_well number (piece ∷ pieces) =
    elim (cases_Bool (length pieces == 0)) [
      | inl last ↦
          elim (cases_Bool (nat_lt 4096 (length piece))) [
            | inl long ↦ rw (last, long) tt
            | inr short ↦ rw (last, short) (ltb-false 4096 (length piece) short)
          ]
      | inr goes ↦ rw goes (last_stands_well (next_line_number number) pieces)
    ]

line_stands_well : (number : ℕ) (held : Option (List ℕ)) (pieces : List (List ℕ)) → CanStand (stands_behind number held pieces)
line_stands_well number (Some held) pieces = last_stands_well number (onto_first_piece held pieces)
line_stands_well number None [] = tt
line_stands_well number None (piece ∷ pieces) =
    elim (cases_Bool (length pieces == 0)) [
      | inl last ↦ rw last tt
      | inr goes ↦ rw goes (last_stands_well (next_line_number number) pieces)
    ]

pub stands_well : StandsWell
unfolding line_standing_from
stands_well s octets = line_stands_well s.number s.held (slice_split is_feed octets)

nothing_told : (number : ℕ) (held : Option (List ℕ)) → CanStand (record { number = number; held = held }) → lines_told_behind number held ([] ∷ []) ≡ []
unfolding pieces_tell
nothing_told number None can = refl
nothing_told number (Some held) can =
    let long = length-append held [] in
    rw (le-ltb 4096 (length (held ++ [])) (omega (arith, long, can))) refl

nothing_says : (s : LineStanding) → CanStand s → says_from s [] ≡ []
unfolding says_from
nothing_says s can = nothing_told s.number s.held can

pieces_say : (s : LineStanding) (pieces : List (List ℕ)) → CanStand s → said_in_pieces s pieces ≡ says_from s (concat pieces)
pieces_say s [] can = sym (nothing_says s can)
pieces_say s (octets ∷ pieces) can =
    ap (λ (lines : List ApplicationLine). says_from s octets ++ lines) (pieces_say (line_standing_from s octets) pieces (stands_well s octets))
    ∙ sym (goes_on s octets (concat pieces)).says

pub cut_anywhere : CutAnywhereIsTheSame
cut_anywhere pieces = pieces_say at_first_line pieces (omega arith) ∙ sym (whole_from_the_first (concat pieces))

pub long_is_told : LongIsTold
unfolding stream_says pieces_tell
long_is_told octets none many =
    let cut : slice_split is_feed octets ≡ octets ∷ [] = slice_split_none is_feed octets none in
    rw (cut, lt-ltb 4096 (length octets) many) refl
