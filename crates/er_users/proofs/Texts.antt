-- Texts that are said, one by one: rooms as a list of texts, and lists of texts that are said in turn.
use Rattle.std.proofs.Common.{ℕ, ◌+◌, ◌^◌, ◌<◌, ◌≤◌, ◌≡◌, true, nat_lt, Vec, List, [], ◌∷◌, ◌++◌, length, take, map, slice_index_or, slice_set, Option, refl, sym, ap, subst, ◌∙◌, arith}
use Rattle.std.specs.List.{All}
use Rattle.std.specs.Fmt.{decimal}
use Rattle.std.proofs.lemmas.Bool.{lt-ltb, ltb-true, and_parts}
use Rattle.std.proofs.lemmas.Fmt.{decimal_nonempty}
use Rattle.std.proofs.lemmas.List.{take_more, take_more_set, map-set, get_or-map, get_or-take, length-map, length-take-le}
use Rattle.std.proofs.lemmas.List.Elements.{All-append, All-get_or, All-cons, All-nil}
use Rattle.er_base.specs.Stored.{Stored}
use Rattle.er_users.specs.Saying.{SpokenByUser, IsText, is_text, may_say, said_more, nothing}

-- the text in a room
abbrev pub text_in : Stored → List ℕ
text_in room = room.items

-- a text that fits is said
pub sayable : (spoken : SpokenByUser) (text : List ℕ) → length spoken.texts < 8 → 1 ≤ length text → length text ≤ 1023 → may_say spoken text ≡ true
sayable spoken text free some most =
    rw (lt-ltb (length spoken.texts) 8 free, lt-ltb 0 (length text) (omega arith), lt-ltb (length text) 1024 (omega arith)) refl

pub says_more : (spoken : SpokenByUser) (text : List ℕ) → length spoken.texts < 8 → 1 ≤ length text → length text ≤ 1023
    → said_more spoken text ≡ record spoken { texts = spoken.texts ++ text ∷ [] }
says_more spoken text free some most = rw (sayable spoken text free some most) refl

-- a decimal number is said
pub says_decimal : (spoken : SpokenByUser) (n : ℕ) → spoken ≡ nothing → n < 2 ^ 64 → length (decimal n) ≤ 40
    → said_more spoken (decimal n) ≡ record nothing { texts = decimal n ∷ [] }
says_decimal spoken n is fits short = rw (is) (says_more nothing (decimal n) (omega arith) (decimal_nonempty n fits) (omega arith))

-- the next room was filled
pub texts_set : (rooms : List Stored) (n : ℕ) (room : Stored) → n < length rooms
    → take (n + 1) (map text_in (slice_set rooms n room)) ≡ take n (map text_in rooms) ++ room.items ∷ []
texts_set rooms n room fits =
    rw (map-set text_in rooms n room) (take_more_set (map text_in rooms) n room.items (omega (arith, length-map rooms text_in)))

-- one text alone
all_one : (text : List ℕ) → IsText text → All IsText (text ∷ [])
all_one text is = All-cons IsText text [] is (All-nil IsText)

-- a text by its test is a text
is_text-IsText : (text : List ℕ) → is_text text ≡ true → IsText text
is_text-IsText text fits =
    let parts : (nat_lt 0 (length text) ≡ true) × (nat_lt (length text) 1024 ≡ true) = and_parts _ _ fits in
    (omega (arith, ltb-true 0 (length text) parts.0), omega (arith, ltb-true (length text) 1024 parts.1))

may_say_rooms : (rooms : List Stored) (n : ℕ) (leave : Option ℕ) (text : List ℕ) → length rooms ≡ 8 → n < 8 → is_text text ≡ true
    → may_say (record { texts = take n (map text_in rooms); leave = leave }) text ≡ true
may_say_rooms rooms n leave text all free fits =
    let text_fits = is_text-IsText text fits in
    sayable (record { texts = take n (map text_in rooms); leave = leave }) text (omega (arith, length-take-le n (map text_in rooms) (omega (arith, length-map rooms text_in)))) text_fits.0 text_fits.1

-- what was said in rooms, and a text in the next one
pub say_rooms : (rooms : List Stored) (n : ℕ) (leave : Option ℕ) (room : Stored) (text : List ℕ) (all : length rooms ≡ 8) → n < 8 → room.items ≡ text → is_text text ≡ true
    → record { texts = take (n + 1) (map text_in (slice_set rooms n room)); leave = leave } ≡ said_more (record { texts = take n (map text_in rooms); leave = leave }) text
say_rooms rooms n leave room text all free is fits =
    rw (texts_set rooms n room (omega arith), is, may_say_rooms rooms n leave text all free fits) refl

-- each text that is said next to texts is a text
pub all_next : (rooms : List Stored) (n : ℕ) (room : Stored) (text : List ℕ) → n < length rooms → room.items ≡ text → is_text text ≡ true
    → All IsText (take n (map text_in rooms)) → All IsText (take (n + 1) (map text_in (slice_set rooms n room)))
all_next rooms n room text free is fits each =
    rw (texts_set rooms n room free, is) (All-append IsText (take n (map text_in rooms)) (text ∷ []) each (all_one text (is_text-IsText text fits)))

-- one of the texts that were said
pub is_one : (rooms : List Stored) (n k : ℕ) (d : Stored) → n ≤ length rooms → k < n → All IsText (take n (map text_in rooms)) → IsText (slice_index_or rooms k d).items
is_one rooms n k d held below each =
    subst IsText (get_or-take n (map text_in rooms) k (text_in d) below ∙ get_or-map text_in rooms k d (text_in d) (omega arith))
    (All-get_or IsText (take n (map text_in rooms)) k (text_in d) (omega (arith, length-take-le n (map text_in rooms) (omega (arith, length-map rooms text_in)))) each)

-- the octets of a vector
abbrev pub items_of : {Y : Type 0} → Vec ℕ Y → List ℕ
items_of text = text.items

-- texts that are said in turn
pub say_next : {Y : Type 0} (texts : List (Vec ℕ Y)) (i : ℕ) (text : Vec ℕ Y) (out : SpokenByUser) → i < length texts → length texts ≤ 8 → All IsText (map items_of texts)
    → out ≡ record nothing { texts = take i (map items_of texts) } → text ≡ slice_index_or texts i text
    → said_more out text.items ≡ record nothing { texts = take (i + 1) (map items_of texts) }
say_next texts i text out below most each said is =
    let len : length (take i (map items_of texts)) ≡ i = length-take-le i (map items_of texts) (omega (arith, length-map texts items_of)) in
    let here : IsText text.items = subst IsText (get_or-map items_of texts i text (text.items) below ∙ ap items_of (sym is))
    (All-get_or IsText (map items_of texts) i text.items (omega (arith, length-map texts items_of)) each) in
    rw (said, says_more (record nothing { texts = take i (map items_of texts) }) text.items (omega arith) here.0 here.1)
    (ap (λ ts. record nothing { texts = ts }) (sym (take_more (map items_of texts) i text.items (omega (arith, length-map texts items_of))
    ∙ ap (λ t. take i (map items_of texts) ++ t ∷ []) (get_or-map items_of texts i text (text.items) below ∙ ap items_of (sym is)))))

-- a place among the texts that were said
pub below_count : (rooms : List Stored) (n k : ℕ) → n ≤ length rooms → k < length (take n (map text_in rooms)) → k < n
below_count rooms n k held below =
    subst (λ m. k < m) (length-take-le n (map text_in rooms) (omega (arith, held, length-map rooms text_in))) below
