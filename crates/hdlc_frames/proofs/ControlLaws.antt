-- A control is read as the tables say.
use Rattle.std.proofs.Common.{◌≡◌, ℕ, ◌+◌, ◌*◌, ◌/◌, ◌%◌, ◌<◌, Bool, true, false, not, ◌==◌, ◌&&◌, nat_lt, List, [], ◌∷◌, ◌++◌, Option, None, Some, refl, sym, ◌∙◌, ap, arith, inl, inr, bit_and, ◌⊎◌, Bor, if◌then◌else◌}
use Rattle.std.specs.Prelude.{slice_index, option_map, MatchOption}
use Rattle.std.proofs.lemmas.Bool.{agree_below_at, eqb-true, ltb-true, and_parts}
use Rattle.std.proofs.lemmas.Bool.Decides.{nat_tests}
use Rattle.std.proofs.lemmas.Nat.{and_mask}
use Rattle.hdlc_frames.specs.declared.controls.Control.{Control}
use Rattle.hdlc_frames.specs.declared.controls.Control.TheVariants.{Info, Rr, Rnr, Rej, Srej, Sabm, Sabme, Disc, Ua, Dm, Frmr}
use Rattle.hdlc_frames.specs.Controls.{octets_modulo_8, octets_modulo_128, control_octets, poll_final_value, extended_bit_of}
use Rattle.hdlc_frames.specs.Bodies.{IsBelow, HasControl, HasNoControl}
use Rattle.hdlc_frames.specs.ControlOctets.{control_at, control_modulo_8, extended_unnumbered_at, extended_numbered_at, extended_numbered_of, control_modulo_128, control_of}
use Rattle.hdlc_frames.specs.Laws.{ControlIsTable, ControlReadsBack}

-- ---- from the table to the function, modulo 8

-- the octet of an information frame
info_at : (ns nr bit : ℕ) → ns < 8 → nr < 8 → (o : ℕ) → o ≡ ns * 0x02 + nr * 0x20 + bit → (bit ≡ 0) ⊎ (bit ≡ 0x10) → control_at o ≡ Some (Info ns nr)
info_at ns nr bit hs hr o e h =
    let even : bit_and o 0x01 ≡ 0 = and_mask o 1 ∙ omega arith in
    let sent : bit_and (o / 2) 0x07 ≡ ns = and_mask (o / 2) 3 ∙ omega arith in
    let wanted : o / 32 ≡ nr = omega arith in
    rw (even, sent, wanted) refl

-- the tests of an octet whose last four bits are `low`
low_at : (low nr bit : ℕ) → low < 16 → nr < 8 → (o : ℕ) → o ≡ low + nr * 0x20 + bit → (bit ≡ 0) ⊎ (bit ≡ 0x10) → (bit_and o 0x01 ≡ low % 2) × (bit_and o 0x0f ≡ low) × (o / 32 ≡ nr)
low_at low nr bit hl hr o e h = (and_mask o 1 ∙ omega arith, and_mask o 4 ∙ omega arith, omega arith)

bit_either : (bit : Bool) → (poll_final_value bit ≡ 0) ⊎ (poll_final_value bit ≡ 0x10)
bit_either true = inr refl
bit_either false = inl refl

extended_bit_small : (bit : Bool) → extended_bit_of bit < 2
extended_bit_small true = omega arith
extended_bit_small false = omega arith

same_octets : (xs ys : List ℕ) → Some xs ≡ Some ys → xs ≡ ys
same_octets xs ys e = cc

-- what is read where the octets of a control are these
read_8 : (o : ℕ) (octets information : List ℕ) (c : Control) → Some (o ∷ []) ≡ Some octets → control_at o ≡ Some c → control_modulo_8 (octets ++ information) ≡ Some (c, information)
read_8 o octets information c e h = rw (← same_octets (o ∷ []) octets e, h) refl

read_back_8 : (c : Control) (bit : Bool) (octets information : List ℕ) → IsBelow 8 c → octets_modulo_8 c bit ≡ Some octets → control_modulo_8 (octets ++ information) ≡ Some (c, information)
read_back_8 (Info ns nr) bit octets i h e = read_8 (ns * 0x02 + nr * 0x20 + poll_final_value bit) octets i (Info ns nr) e (info_at ns nr (poll_final_value bit) h.0 h.1 (ns * 0x02 + nr * 0x20 + poll_final_value bit) refl (bit_either bit))
read_back_8 (Rr nr) bit octets i h e = let t = low_at 0x01 nr (poll_final_value bit) (omega arith) h (0x01 + nr * 0x20 + poll_final_value bit) refl (bit_either bit) in read_8 (0x01 + nr * 0x20 + poll_final_value bit) octets i (Rr nr) e (rw (t.0, t.1, t.2) refl)
read_back_8 (Rnr nr) bit octets i h e = let t = low_at 0x05 nr (poll_final_value bit) (omega arith) h (0x05 + nr * 0x20 + poll_final_value bit) refl (bit_either bit) in read_8 (0x05 + nr * 0x20 + poll_final_value bit) octets i (Rnr nr) e (rw (t.0, t.1, t.2) refl)
read_back_8 (Rej nr) bit octets i h e = let t = low_at 0x09 nr (poll_final_value bit) (omega arith) h (0x09 + nr * 0x20 + poll_final_value bit) refl (bit_either bit) in read_8 (0x09 + nr * 0x20 + poll_final_value bit) octets i (Rej nr) e (rw (t.0, t.1, t.2) refl)
read_back_8 (Srej nr) bit octets i h e = let t = low_at 0x0d nr (poll_final_value bit) (omega arith) h (0x0d + nr * 0x20 + poll_final_value bit) refl (bit_either bit) in read_8 (0x0d + nr * 0x20 + poll_final_value bit) octets i (Srej nr) e (rw (t.0, t.1, t.2) refl)
read_back_8 (Sabm true) bit octets i h e = read_8 0x3f octets i (Sabm true) e refl
read_back_8 (Sabm false) bit octets i h e = read_8 0x2f octets i (Sabm false) e refl
read_back_8 (Sabme poll) bit octets i h e = cc
read_back_8 (Disc true) bit octets i h e = read_8 0x53 octets i (Disc true) e refl
read_back_8 (Disc false) bit octets i h e = read_8 0x43 octets i (Disc false) e refl
read_back_8 Ua true octets i h e = read_8 0x73 octets i Ua e refl
read_back_8 Ua false octets i h e = read_8 0x63 octets i Ua e refl
read_back_8 Dm true octets i h e = read_8 0x1f octets i Dm e refl
read_back_8 Dm false octets i h e = read_8 0x0f octets i Dm e refl
read_back_8 Frmr true octets i h e = read_8 0x97 octets i Frmr e refl
read_back_8 Frmr false octets i h e = read_8 0x87 octets i Frmr e refl

-- ---- the same, modulo 128

-- what is read where a control is one octet
read_one : (o : ℕ) (octets information : List ℕ) (c : Control) → Some (o ∷ []) ≡ Some octets → bit_and o 0x03 ≡ 0x03
    → extended_unnumbered_at (bit_and o 0xef) (not (bit_and o 0x10 == 0)) ≡ Some c → control_modulo_128 (octets ++ information) ≡ Some (c, information)
read_one o octets information c e low h = rw (← same_octets (o ∷ []) octets e, low, h) refl

-- what is read where a control is two octets
read_two : (o second : ℕ) (octets information : List ℕ) (c : Control) → Some (o ∷ second ∷ []) ≡ Some octets → (bit_and o 0x03 == 0x03) ≡ false
    → extended_numbered_at o second ≡ Some c → control_modulo_128 (octets ++ information) ≡ Some (c, information)
read_two o second octets information c e low h = rw (← same_octets (o ∷ second ∷ []) octets e, low, h) refl

halved : (nr : ℕ) (bit : Bool) → (nr * 0x02 + extended_bit_of bit) / 2 ≡ nr
halved nr bit = omega (arith, extended_bit_small bit)

info_extended_at : (ns nr : ℕ) (bit : Bool) → (bit_and (ns * 0x02) 0x03 == 0x03 ≡ false) × (extended_numbered_at (ns * 0x02) (nr * 0x02 + extended_bit_of bit) ≡ Some (Info ns nr))
info_extended_at ns nr bit =
    let even : bit_and (ns * 0x02) 0x01 ≡ 0 = and_mask (ns * 0x02) 1 ∙ omega arith in
    let half : ns * 0x02 / 2 ≡ ns = omega arith in
    let low : bit_and (ns * 0x02) 0x03 ≡ ns * 0x02 % 4 = and_mask (ns * 0x02) 2 in
    (rw low (grind (arith, nat_tests)), rw (even, half, halved nr bit) refl)

read_back_128 : (c : Control) (bit : Bool) (octets information : List ℕ) → IsBelow 128 c → octets_modulo_128 c bit ≡ Some octets → control_modulo_128 (octets ++ information) ≡ Some (c, information)
read_back_128 (Info ns nr) bit octets i h e = let t = info_extended_at ns nr bit in read_two (ns * 0x02) (nr * 0x02 + extended_bit_of bit) octets i (Info ns nr) e t.0 t.1
read_back_128 (Rr nr) bit octets i h e = read_two 0x01 (nr * 0x02 + extended_bit_of bit) octets i (Rr nr) e refl (rw (halved nr bit) refl)
read_back_128 (Rnr nr) bit octets i h e = read_two 0x05 (nr * 0x02 + extended_bit_of bit) octets i (Rnr nr) e refl (rw (halved nr bit) refl)
read_back_128 (Rej nr) bit octets i h e = read_two 0x09 (nr * 0x02 + extended_bit_of bit) octets i (Rej nr) e refl (rw (halved nr bit) refl)
read_back_128 (Srej nr) bit octets i h e = read_two 0x0d (nr * 0x02 + extended_bit_of bit) octets i (Srej nr) e refl (rw (halved nr bit) refl)
read_back_128 (Sabm poll) bit octets i h e = cc
read_back_128 (Sabme true) bit octets i h e = read_one 0x7f octets i (Sabme true) e refl refl
read_back_128 (Sabme false) bit octets i h e = read_one 0x6f octets i (Sabme false) e refl refl
read_back_128 (Disc true) bit octets i h e = read_one 0x53 octets i (Disc true) e refl refl
read_back_128 (Disc false) bit octets i h e = read_one 0x43 octets i (Disc false) e refl refl
read_back_128 Ua true octets i h e = read_one 0x73 octets i Ua e refl refl
read_back_128 Ua false octets i h e = read_one 0x63 octets i Ua e refl refl
read_back_128 Dm true octets i h e = read_one 0x1f octets i Dm e refl refl
read_back_128 Dm false octets i h e = read_one 0x0f octets i Dm e refl refl
read_back_128 Frmr true octets i h e = read_one 0x97 octets i Frmr e refl refl
read_back_128 Frmr false octets i h e = read_one 0x87 octets i Frmr e refl refl

-- ---- from the function to the table, modulo 8: by trying all octets

-- the P/F bit of an octet
abbrev set_bit : ℕ → Bool
set_bit o = not (bit_and o 0x10 == 0)

-- whether the table at modulo 8 has the octet for this control
abbrev says : ℕ → Option Control → Bool
says o None = true
says o (Some (Info ns nr)) = nat_lt ns 8 && (nat_lt nr 8 && (o == ns * 0x02 + nr * 0x20 + poll_final_value (set_bit o)))
says o (Some (Rr nr)) = nat_lt nr 8 && (o == 0x01 + nr * 0x20 + poll_final_value (set_bit o))
says o (Some (Rnr nr)) = nat_lt nr 8 && (o == 0x05 + nr * 0x20 + poll_final_value (set_bit o))
says o (Some (Rej nr)) = nat_lt nr 8 && (o == 0x09 + nr * 0x20 + poll_final_value (set_bit o))
says o (Some (Srej nr)) = nat_lt nr 8 && (o == 0x0d + nr * 0x20 + poll_final_value (set_bit o))
says o (Some (Sabm poll)) = o == 0x2f + poll_final_value poll
says o (Some (Sabme poll)) = false
says o (Some (Disc poll)) = o == 0x43 + poll_final_value poll
says o (Some Ua) = o == 0x63 + poll_final_value (set_bit o)
says o (Some Dm) = o == 0x0f + poll_final_value (set_bit o)
says o (Some Frmr) = o == 0x87 + poll_final_value (set_bit o)

says_all : (o : ℕ) → o < 256 → says o (control_at o) ≡ true
says_all o h = agree_below_at (λ n. says n (control_at n)) (λ _. true) 256 o refl h

-- a control that has these octets
has : (modulo : ℕ) (octets : List ℕ) (c : Control) (bit : Bool) (spelled information : List ℕ) → IsBelow modulo c → control_octets modulo c bit ≡ Some spelled → octets ≡ spelled
    → HasControl modulo (octets ++ information) c information
has modulo octets c bit spelled information below e same = (below, (bit, (spelled, (e, ap (λ (xs : List ℕ). xs ++ information) same))))

-- two octets that are equal
one : (m n : ℕ) → (m == n) ≡ true → m ∷ [] ≡ n ∷ []
one m n e = ap (λ x. x ∷ []) (eqb-true m n e)

sound_8 : (o : ℕ) (c : Control) (i : List ℕ) → says o (Some c) ≡ true → HasControl 8 (o ∷ i) c i
sound_8 o (Info ns nr) i h =
    let a = and_parts (nat_lt ns 8) (nat_lt nr 8 && (o == ns * 0x02 + nr * 0x20 + poll_final_value (set_bit o))) h in
    let b = and_parts (nat_lt nr 8) (o == ns * 0x02 + nr * 0x20 + poll_final_value (set_bit o)) a.1 in
    has 8 (o ∷ []) (Info ns nr) (set_bit o) ((ns * 0x02 + nr * 0x20 + poll_final_value (set_bit o)) ∷ []) i (ltb-true ns 8 a.0, ltb-true nr 8 b.0) refl (one o _ b.1)
sound_8 o (Rr nr) i h = let b = and_parts (nat_lt nr 8) (o == 0x01 + nr * 0x20 + poll_final_value (set_bit o)) h in has 8 (o ∷ []) (Rr nr) (set_bit o) ((0x01 + nr * 0x20 + poll_final_value (set_bit o)) ∷ []) i (ltb-true nr 8 b.0) refl (one o _ b.1)
sound_8 o (Rnr nr) i h = let b = and_parts (nat_lt nr 8) (o == 0x05 + nr * 0x20 + poll_final_value (set_bit o)) h in has 8 (o ∷ []) (Rnr nr) (set_bit o) ((0x05 + nr * 0x20 + poll_final_value (set_bit o)) ∷ []) i (ltb-true nr 8 b.0) refl (one o _ b.1)
sound_8 o (Rej nr) i h = let b = and_parts (nat_lt nr 8) (o == 0x09 + nr * 0x20 + poll_final_value (set_bit o)) h in has 8 (o ∷ []) (Rej nr) (set_bit o) ((0x09 + nr * 0x20 + poll_final_value (set_bit o)) ∷ []) i (ltb-true nr 8 b.0) refl (one o _ b.1)
sound_8 o (Srej nr) i h = let b = and_parts (nat_lt nr 8) (o == 0x0d + nr * 0x20 + poll_final_value (set_bit o)) h in has 8 (o ∷ []) (Srej nr) (set_bit o) ((0x0d + nr * 0x20 + poll_final_value (set_bit o)) ∷ []) i (ltb-true nr 8 b.0) refl (one o _ b.1)
sound_8 o (Sabm poll) i h = has 8 (o ∷ []) (Sabm poll) poll ((0x2f + poll_final_value poll) ∷ []) i tt refl (one o _ h)
sound_8 o (Sabme poll) i h = cc
sound_8 o (Disc poll) i h = has 8 (o ∷ []) (Disc poll) poll ((0x43 + poll_final_value poll) ∷ []) i tt refl (one o _ h)
sound_8 o Ua i h = has 8 (o ∷ []) Ua (set_bit o) ((0x63 + poll_final_value (set_bit o)) ∷ []) i tt refl (one o _ h)
sound_8 o Dm i h = has 8 (o ∷ []) Dm (set_bit o) ((0x0f + poll_final_value (set_bit o)) ∷ []) i tt refl (one o _ h)
sound_8 o Frmr i h = has 8 (o ∷ []) Frmr (set_bit o) ((0x87 + poll_final_value (set_bit o)) ∷ []) i tt refl (one o _ h)

same_pair : {A : Type 0} (p q : A × List ℕ) → Some p ≡ Some q → p ≡ q
same_pair p q e = cc

some_second : {A : Type 0} (rest i : List ℕ) (a c : A) → ◌≡◌ {A = Option (A × List ℕ)} (Some (a, rest)) (Some (c, i)) → rest ≡ i
some_second {A} rest i a c e = ap (λ (p : A × List ℕ). p.1) (same_pair (a, rest) (c, i) e)

-- what an `option_map` gives comes of a value
some_of : {A : Type 0} (d : Option A) (rest : List ℕ) (c : A) (i : List ℕ) → option_map {U = A × List ℕ} (λ a. (a, rest)) d ≡ Some (c, i) → (d ≡ Some c) × (rest ≡ i)
some_of None rest c i e = cc
some_of {A} (Some a) rest c i e = (ap (λ (r : Option (A × List ℕ)). option_map {U = A} (λ p. p.0) r) e, some_second rest i a c e)

table_8 : (body : List ℕ) → ((k : ℕ) → slice_index body k < 256) → (c : Control) (i : List ℕ) → control_modulo_8 body ≡ Some (c, i) → HasControl 8 body c i
table_8 [] small c i e = cc
table_8 (o ∷ rest) small c i e =
    let v = some_of (control_at o) rest c i e in
    rw (← v.1) (sound_8 o c rest (ap (λ d. says o d) (sym v.0) ∙ says_all o (small 0)))

-- ---- the same, modulo 128

-- what an octet without a number says
abbrev unnumbered : ℕ → Option Control
unnumbered o = extended_unnumbered_at (bit_and o 0xef) (set_bit o)

-- whether the table at modulo 128 has the one octet for this control
abbrev says_one : ℕ → Option Control → Bool
says_one o None = true
says_one o (Some (Info ns nr)) = false
says_one o (Some (Rr nr)) = false
says_one o (Some (Rnr nr)) = false
says_one o (Some (Rej nr)) = false
says_one o (Some (Srej nr)) = false
says_one o (Some (Sabm poll)) = false
says_one o (Some (Sabme poll)) = o == 0x6f + poll_final_value poll
says_one o (Some (Disc poll)) = o == 0x43 + poll_final_value poll
says_one o (Some Ua) = o == 0x63 + poll_final_value (set_bit o)
says_one o (Some Dm) = o == 0x0f + poll_final_value (set_bit o)
says_one o (Some Frmr) = o == 0x87 + poll_final_value (set_bit o)

says_one_all : (o : ℕ) → o < 256 → says_one o (unnumbered o) ≡ true
says_one_all o h = agree_below_at (λ n. says_one n (unnumbered n)) (λ _. true) 256 o refl h

sound_one : (o : ℕ) (c : Control) (i : List ℕ) → says_one o (Some c) ≡ true → HasControl 128 (o ∷ i) c i
sound_one o (Info ns nr) i h = cc
sound_one o (Rr nr) i h = cc
sound_one o (Rnr nr) i h = cc
sound_one o (Rej nr) i h = cc
sound_one o (Srej nr) i h = cc
sound_one o (Sabm poll) i h = cc
sound_one o (Sabme poll) i h = has 128 (o ∷ []) (Sabme poll) poll ((0x6f + poll_final_value poll) ∷ []) i tt refl (one o _ h)
sound_one o (Disc poll) i h = has 128 (o ∷ []) (Disc poll) poll ((0x43 + poll_final_value poll) ∷ []) i tt refl (one o _ h)
sound_one o Ua i h = has 128 (o ∷ []) Ua (set_bit o) ((0x63 + poll_final_value (set_bit o)) ∷ []) i tt refl (one o _ h)
sound_one o Dm i h = has 128 (o ∷ []) Dm (set_bit o) ((0x0f + poll_final_value (set_bit o)) ∷ []) i tt refl (one o _ h)
sound_one o Frmr i h = has 128 (o ∷ []) Frmr (set_bit o) ((0x87 + poll_final_value (set_bit o)) ∷ []) i tt refl (one o _ h)

same_control : (c d : Control) → Some c ≡ Some d → c ≡ d
same_control c d e = cc

-- which test of a control of two octets was met
numbered_cases : (even rr rnr rej srej : Bool) (first_c second_c third_c fourth_c fifth_c c : Control)
    → (if even then Some first_c else if rr then Some second_c else if rnr then Some third_c else if rej then Some fourth_c else if srej then Some fifth_c else None) ≡ Some c
    → ((even ≡ true) × (first_c ≡ c)) ⊎ (((rr ≡ true) × (second_c ≡ c)) ⊎ (((rnr ≡ true) × (third_c ≡ c)) ⊎ (((rej ≡ true) × (fourth_c ≡ c)) ⊎ ((srej ≡ true) × (fifth_c ≡ c)))))
numbered_cases true rr rnr rej srej v w x y z c h = inl (refl, same_control v c h)
numbered_cases false true rnr rej srej v w x y z c h = inr (inl (refl, same_control w c h))
numbered_cases false false true rej srej v w x y z c h = inr (inr (inl (refl, same_control x c h)))
numbered_cases false false false true srej v w x y z c h = inr (inr (inr (inl (refl, same_control y c h))))
numbered_cases false false false false true v w x y z c h = inr (inr (inr (inr (refl, same_control z c h))))
numbered_cases false false false false false v w x y z c h = cc

-- the P/F bit of a second octet
abbrev last_bit : ℕ → Bool
last_bit second = second % 2 == 1

by_bit : (second : ℕ) (b : Bool) → last_bit second ≡ b → second ≡ second / 2 * 0x02 + extended_bit_of b
by_bit second true e = let odd = eqb-true (second % 2) 1 e in omega arith
by_bit second false e = grind (arith, nat_tests)

second_of : (second : ℕ) → second ≡ second / 2 * 0x02 + extended_bit_of (last_bit second)
second_of second = by_bit second (last_bit second) refl

two : (m n p q : ℕ) → m ≡ p → n ≡ q → m ∷ n ∷ [] ≡ p ∷ q ∷ []
two m n p q e f = rw (e, f) refl

-- a kind with N(R) in two octets
sound_kind : (first kind second : ℕ) (c : Control) (i : List ℕ) → first ≡ kind → IsBelow 128 c → control_octets 128 c (last_bit second) ≡ Some (kind ∷ (second / 2 * 0x02 + extended_bit_of (last_bit second)) ∷ []) → HasControl 128 (first ∷ second ∷ i) c i
sound_kind first kind second c i same below e =
    has 128 (first ∷ second ∷ []) c (last_bit second) (kind ∷ (second / 2 * 0x02 + extended_bit_of (last_bit second)) ∷ []) i below e (two first second kind _ same (second_of second))

sound_two : (first second : ℕ) (c : Control) (i : List ℕ) → first < 256 → second < 256
    → ((bit_and first 0x01 == 0 ≡ true) × (Info (first / 2) (second / 2) ≡ c)) ⊎ (((first == 0x01 ≡ true) × (Rr (second / 2) ≡ c)) ⊎ (((first == 0x05 ≡ true) × (Rnr (second / 2) ≡ c)) ⊎ (((first == 0x09 ≡ true) × (Rej (second / 2) ≡ c)) ⊎ ((first == 0x0d ≡ true) × (Srej (second / 2) ≡ c)))))
    → HasControl 128 (first ∷ second ∷ i) c i
sound_two first second c i f s (inl h) =
    let even = and_mask first 1 in
    let none = eqb-true (bit_and first 0x01) 0 h.0 in
    rw (← h.1) (sound_kind first (first / 2 * 0x02) second (Info (first / 2) (second / 2)) i (omega arith) (omega arith, omega arith) refl)
sound_two first second c i f s (inr (inl h)) = rw (← h.1) (sound_kind first 0x01 second (Rr (second / 2)) i (eqb-true first 0x01 h.0) (omega arith) refl)
sound_two first second c i f s (inr (inr (inl h))) = rw (← h.1) (sound_kind first 0x05 second (Rnr (second / 2)) i (eqb-true first 0x05 h.0) (omega arith) refl)
sound_two first second c i f s (inr (inr (inr (inl h)))) = rw (← h.1) (sound_kind first 0x09 second (Rej (second / 2)) i (eqb-true first 0x09 h.0) (omega arith) refl)
sound_two first second c i f s (inr (inr (inr (inr h)))) = rw (← h.1) (sound_kind first 0x0d second (Srej (second / 2)) i (eqb-true first 0x0d h.0) (omega arith) refl)

table_two : (first : ℕ) (rest : List ℕ) → ((k : ℕ) → slice_index (first ∷ rest) k < 256) → (c : Control) (i : List ℕ) → extended_numbered_of first rest ≡ Some (c, i) → HasControl 128 (first ∷ rest) c i
table_two first [] small c i e = cc
table_two first (second ∷ rest) small c i e =
    let v = some_of (extended_numbered_at first second) rest c i e in
    let met = numbered_cases (bit_and first 0x01 == 0) (first == 0x01) (first == 0x05) (first == 0x09) (first == 0x0d) (Info (first / 2) (second / 2)) (Rr (second / 2)) (Rnr (second / 2)) (Rej (second / 2)) (Srej (second / 2)) c v.0 in
    rw (← v.1) (sound_two first second c rest (small 0) (small 1) met)

by_low : (low : Bool) (o : ℕ) (rest : List ℕ) → ((k : ℕ) → slice_index (o ∷ rest) k < 256) → (c : Control) (i : List ℕ)
    → (if low then option_map (λ c. (c, rest)) (unnumbered o) else extended_numbered_of o rest) ≡ Some (c, i) → HasControl 128 (o ∷ rest) c i
by_low true o rest small c i e =
    let v = some_of (unnumbered o) rest c i e in
    rw (← v.1) (sound_one o c rest (ap (λ d. says_one o d) (sym v.0) ∙ says_one_all o (small 0)))
by_low false o rest small c i e = table_two o rest small c i e

table_128 : (body : List ℕ) → ((k : ℕ) → slice_index body k < 256) → (c : Control) (i : List ℕ) → control_modulo_128 body ≡ Some (c, i) → HasControl 128 body c i
table_128 [] small c i e = cc
table_128 (o ∷ rest) small c i e = by_low (bit_and o 0x03 == 0x03) o rest small c i e

-- ---- both moduli

-- whether a number is 8, 128 or another
data Modulus : ℕ → Type 0 where
  eight : Modulus 8
  wide : Modulus 128
  other : {m : ℕ} → (m == 8) ≡ false → (m == 128) ≡ false → Modulus m

modulus_by : (m : ℕ) (a b : Bool) → (m == 8) ≡ a → (m == 128) ≡ b → Modulus m
modulus_by m true b e f = rw (eqb-true m 8 e) eight
modulus_by m false true e f = rw (eqb-true m 128 f) wide
modulus_by m false false e f = other e f

modulus : (m : ℕ) → Modulus m
modulus m = modulus_by m (m == 8) (m == 128) refl refl

read_back_by : (m : ℕ) → Modulus m → (c : Control) (bit : Bool) (octets information : List ℕ) → IsBelow m c → control_octets m c bit ≡ Some octets → control_of m (octets ++ information) ≡ Some (c, information)
unfolding control_of
read_back_by m eight c bit octets i h e = read_back_8 c bit octets i h e
read_back_by m wide c bit octets i h e = read_back_128 c bit octets i h e
read_back_by m (other x y) c bit octets i h e = cc

pub control_reads_back : ControlReadsBack
control_reads_back m c bit octets i h e = read_back_by m (modulus m) c bit octets i h e

table_by : (m : ℕ) → Modulus m → (body : List ℕ) → ((k : ℕ) → slice_index body k < 256) → (c : Control) (i : List ℕ) → control_of m body ≡ Some (c, i) → HasControl m body c i
unfolding control_of
table_by m eight body small c i e = table_8 body small c i e
table_by m wide body small c i e = table_128 body small c i e
table_by m (other x y) body small c i e = cc

from_table : (m : ℕ) (body : List ℕ) (c : Control) (i : List ℕ) → HasControl m body c i → control_of m body ≡ Some (c, i)
from_table m body c i h = rw h.1.1.1.1 (control_reads_back m c h.1.0 h.1.1.0 i h.0 h.1.1.1.0)

pub control_is_table : ControlIsTable
control_is_table m body small c i = (table_by m (modulus m) body small c i, from_table m body c i)

-- what a reader answers is the table, if it is the function
pub table_of : (m : ℕ) (body : List ℕ) → ((k : ℕ) → slice_index body k < 256) → (answer : Option (Control × Bor (List ℕ)))
    → option_map (λ (r : Control × Bor (List ℕ)). (r.0, r.1.now)) answer ≡ control_of m body
    → MatchOption answer (HasNoControl m body) (λ r. HasControl m body r.0 r.1.now)
table_of m body small None e = λ c i h. let read = from_table m body c i h in cc
table_of m body small (Some (c, i)) e = (control_is_table m body small c i.now).0 (sym e)

pub value_8 : (body : List ℕ) → control_modulo_8 body ≡ control_of 8 body
unfolding control_of
value_8 body = refl

pub value_128 : (body : List ℕ) → control_modulo_128 body ≡ control_of 128 body
unfolding control_of
value_128 body = refl
