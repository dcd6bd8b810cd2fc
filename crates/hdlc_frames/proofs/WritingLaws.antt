-- A frame written part by part.
use Rattle.std.proofs.Common.{◌≡◌, ℕ, ◌+◌, ◌*◌, ◌<◌, ◌≤◌, ◌≢◌, ◌⊎◌, zero, suc, List, [], ◌∷◌, ◌++◌, length, take, drop, refl, sym, ◌∙◌, ap, arith, append_assoc, append-nil, length-append, get_or, ◌-◌, ◌==◌, ◌||◌, if◌then◌else◌, bit_xor, true, false, inl, inr}
use Rattle.std.specs.Prelude.{flat_map}
use Rattle.std.proofs.lemmas.Grind.{flat_map-append}
use Rattle.std.proofs.lemmas.Bool.{ne_eqb}
use Rattle.std.proofs.lemmas.List.{drop_more, drop_all, take_all, length-take, length-drop}
use Rattle.hdlc_fcs.specs.Contents.{content_of}
use Rattle.hdlc_fcs.specs.Laws.{ContentReadsBack}
use Rattle.hdlc_frames.specs.Framing.{flag, escape}
use Rattle.hdlc_frames.specs.Laws.{FrameLength}
use Rattle.hdlc_frames.specs.Scanning.{PlainBefore}
use Rattle.hdlc_frames.specs.Spelling.{escaped_octet, escaped, spelling}

pub escaped-append : (xs ys : List ℕ) → escaped (xs ++ ys) ≡ escaped xs ++ escaped ys
unfolding escaped
escaped-append xs ys = flat_map-append escaped_octet xs ys

escaped_nothing : escaped [] ≡ []
unfolding escaped
escaped_nothing = refl

-- octets that stand for themselves
plain_octet : (x : ℕ) → x ≢ flag → x ≢ escape → escaped_octet x ≡ x ∷ []
unfolding escaped_octet
plain_octet x f e = rw (ne_eqb x flag f, ne_eqb x escape e) refl

pub escaped-plain : (n : ℕ) (xs : List ℕ) → n ≤ length xs → PlainBefore xs n → escaped xs ≡ take n xs ++ escaped (drop n xs)
unfolding escaped
escaped-plain zero xs h plain = refl
escaped-plain (suc n) [] h plain = absurd (omega arith)
escaped-plain (suc n) (x ∷ xs) h plain =
    let one = plain 0 (omega arith) in
    let rest = escaped-plain n xs (omega arith) (λ k lt. plain (suc k) (omega arith)) in
    ap (λ ys. ys ++ flat_map escaped_octet xs) (plain_octet x one.0 one.1) ∙ ap (λ ys. x ∷ ys) rest

-- an octet that doesn't
pub escaped-special : (x : ℕ) (xs : List ℕ) → (x ≡ flag) ⊎ (x ≡ escape) → escaped (x ∷ xs) ≡ escape ∷ bit_xor x 0x20 ∷ escaped xs
unfolding escaped escaped_octet
escaped-special x xs (inl f) = rw f refl
escaped-special x xs (inr e) = rw e refl

-- octets that stand for themselves, and then one that doesn't
split_special : (n : ℕ) (xs : List ℕ) → n < length xs → PlainBefore xs n → (get_or xs n 0 ≡ flag) ⊎ (get_or xs n 0 ≡ escape)
    → escaped xs ≡ take n xs ++ (escape ∷ bit_xor (get_or xs n 0) 0x20 ∷ escaped (drop (n + 1) xs))
split_special n xs lt plain special =
    escaped-plain n xs (omega arith) plain ∙ ap (λ ys. take n xs ++ ys) (ap escaped (drop_more xs n 0 lt) ∙ escaped-special (get_or xs n 0) (drop (n + 1) xs) special)

-- what is held, and what is left to come, are the whole
abbrev pub Left : List ℕ → List ℕ → List ℕ → List ℕ → Type 0
Left held rest old content = held ++ escaped rest ≡ old ++ escaped content

left_size : (held rest old content : List ℕ) → Left held rest old content → length held + length (escaped rest) ≡ length old + length (escaped content)
left_size held rest old content e = sym (length-append held (escaped rest)) ∙ ap length e ∙ length-append old (escaped content)

-- there is room for the octets that stand for themselves
pub run_room : (held rest old content : List ℕ) (n all now : ℕ) → Left held rest old content → n ≤ length rest → PlainBefore rest n → now ≡ all → length old + length (escaped content) ≤ all
    → length held + length (take n rest) ≤ now
run_room held rest old content n all now e inside plain same room =
    let size = ap length (escaped-plain n rest inside plain) ∙ length-append (take n rest) (escaped (drop n rest)) in
    omega (arith, left_size held rest old content e)

-- and for the one that doesn't
pub special_room : (held next rest old content : List ℕ) (n all now : ℕ) → Left held rest old content → n < length rest → PlainBefore rest n → (get_or rest n 0 ≡ flag) ⊎ (get_or rest n 0 ≡ escape) → next ≡ held ++ take n rest
    → now ≡ all → length old + length (escaped content) ≤ all → length next + 2 ≤ now
special_room held next rest old content n all now e lt plain special put same room =
    let more : List ℕ = escape ∷ bit_xor (get_or rest n 0) 0x20 ∷ escaped (drop (n + 1) rest) in
    let size : length (escaped rest) ≡ length (take n rest) + length more = ap length (split_special n rest lt plain special) ∙ length-append (take n rest) more in
    let two : length more ≡ 2 + length (escaped (drop (n + 1) rest)) = omega arith in
    let held_more = ap length put ∙ length-append held (take n rest) in
    omega (arith, left_size held rest old content e)

pub special_put : (held next last rest tail old content : List ℕ) (n : ℕ) → Left held rest old content → n < length rest → PlainBefore rest n → (get_or rest n 0 ≡ flag) ⊎ (get_or rest n 0 ≡ escape) → next ≡ held ++ take n rest
    → last ≡ next ++ escape ∷ bit_xor (get_or rest n 0) 0x20 ∷ [] → tail ≡ take (length rest - (n + 1)) (drop (n + 1) rest) → Left last tail old content
special_put held next last rest tail old content n e lt plain special put again cut =
    let whole : tail ≡ drop (n + 1) rest = cut ∙ take_all (length rest - (n + 1)) (drop (n + 1) rest) (omega (arith, length-drop (n + 1) rest)) in
    let y : ℕ = bit_xor (get_or rest n 0) 0x20 in
    let more : List ℕ = escaped (drop (n + 1) rest) in
    ap (λ ys. last ++ escaped ys) whole ∙ ap (λ ys. ys ++ more) (again ∙ ap (λ ys. ys ++ escape ∷ y ∷ []) put)
    ∙ append_assoc (held ++ take n rest) (escape ∷ y ∷ []) more ∙ append_assoc held (take n rest) (escape ∷ y ∷ more)
    ∙ ap (λ ys. held ++ ys) (sym (split_special n rest lt plain special)) ∙ e

pub part_shorter : (rest tail content : List ℕ) (n : ℕ) → tail ≡ take (length rest - (n + 1)) (drop (n + 1) rest) → length rest ≤ length content → length tail ≤ length content
part_shorter rest tail content n cut short =
    omega (arith, ap length cut, length-take (length rest - (n + 1)) (drop (n + 1) rest), length-drop (n + 1) rest)

-- nothing else is left
pub run_last : (held next rest old content : List ℕ) (n : ℕ) → Left held rest old content → n ≡ length rest → PlainBefore rest n → next ≡ held ++ take n rest → next ≡ old ++ escaped content
run_last held next rest old content n e all plain put =
    let none : escaped (drop n rest) ≡ [] = ap escaped (drop_all n rest (omega arith)) ∙ escaped_nothing in
    put ∙ ap (λ ys. held ++ ys) (sym (append-nil (take n rest)) ∙ ap (λ ys. take n rest ++ ys) (sym none) ∙ sym (escaped-plain n rest (omega arith) plain)) ∙ e

pub nothing_left : (held rest old content : List ℕ) → Left held rest old content → length rest ≡ 0 → held ≡ old ++ escaped content
nothing_left held [] old content e none = sym (append-nil held) ∙ ap (λ ys. held ++ ys) (sym escaped_nothing) ∙ e
nothing_left held (x ∷ rest) old content e none = absurd (omega arith)

-- ---- a whole frame in its parts

-- a frame is what stands before the information field, the information field, and what stands behind it
pub spelling-parts : (a : ℕ) (control information check : List ℕ) → a ∷ (control ++ information) ++ check ≡ content_of a (control ++ information)
    → spelling a (control ++ information) ≡ (flag ∷ escaped (a ∷ control)) ++ (escaped information ++ (escaped check ++ flag ∷ []))
unfolding spelling
spelling-parts a control information check e =
    let whole : escaped (content_of a (control ++ information)) ≡ escaped (a ∷ control) ++ (escaped information ++ escaped check) =
    ap escaped (sym e ∙ ap (λ ys. a ∷ ys) (append_assoc control information check)) ∙ escaped-append (a ∷ control) (information ++ check)
    ∙ ap (λ ys. escaped (a ∷ control) ++ ys) (escaped-append information check) in
    ap (λ ys. flag ∷ ys)
    (ap (λ ys. ys ++ flag ∷ []) whole ∙ append_assoc (escaped (a ∷ control)) (escaped information ++ escaped check) (flag ∷ [])
    ∙ ap (λ ys. escaped (a ∷ control) ++ ys) (append_assoc (escaped information) (escaped check) (flag ∷ [])))

pub length-spelling : (a : ℕ) (control information check : List ℕ) → a ∷ (control ++ information) ++ check ≡ content_of a (control ++ information)
    → length (spelling a (control ++ information)) ≡ length (flag ∷ escaped (a ∷ control)) + length (escaped information) + length (escaped check ++ flag ∷ [])
length-spelling a control information check e =
    let whole = ap length (spelling-parts a control information check e) in
    let one = length-append (flag ∷ escaped (a ∷ control)) (escaped information ++ (escaped check ++ flag ∷ [])) in
    let two = length-append (escaped information) (escaped check ++ flag ∷ []) in
    whole ∙ omega arith

-- ---- how long a frame is

escaped_octet_room : (x : ℕ) → length (escaped_octet x) ≤ 2
unfolding escaped_octet
escaped_octet_room x =
    elim (x == flag || x == escape) as (λ b. length (if b then escape ∷ bit_xor x 0x20 ∷ [] else x ∷ []) ≤ 2) [
      | true ↦ omega arith
      | false ↦ omega arith
    ]

escaped_room : (xs : List ℕ) → length (escaped xs) ≤ 2 * length xs
unfolding escaped
escaped_room [] = omega arith
escaped_room (x ∷ xs) = omega (arith, escaped_room xs, escaped_octet_room x, length-append (escaped_octet x) (flat_map escaped_octet xs))

spelling_is : (a : ℕ) (body : List ℕ) → spelling a body ≡ flag ∷ (escaped (content_of a body) ++ flag ∷ [])
unfolding spelling
spelling_is a body = refl

pub spelling_room : ContentReadsBack → FrameLength
spelling_room reads a body =
    omega (arith, ap length (spelling_is a body), length-append (escaped (content_of a body)) (flag ∷ []), escaped_room (content_of a body), (reads a body).1.1)
