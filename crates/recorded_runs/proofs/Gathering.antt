-- What is gathered from a list of acts, of two lists that are joined, and of the acts but the writes.
use Rattle.std.proofs.Common.{◌≡◌, ℕ, Bool, true, false, ◌||◌, List, [], ◌∷◌, ◌++◌, get_or, drop, filter, IsFalse, cond, refl, sym, ap, ◌∙◌, append_assoc, true≢false}
use Rattle.std.specs.List.{list_any}
use Rattle.std.proofs.lemmas.List.Concat.{flat_map-append}
use Rattle.std.proofs.lemmas.List.Folds.{list_any-append}
use Rattle.link_trait.specs.Wires.{Reading}
use Rattle.outside.specs.Acts.{SeenCall, Listened, Dialled, Turned, Read, Sent, Closed, Act, Fetched, Wrote, Called, Asked, Drew, is_write, is_call, is_sink_fault}
use Rattle.recorded.specs.Recordings.{octets_written_by, octets_written_in, octets_offered_by, octets_offered_in, unless_write, acts_but_writes, when_inward, inward_acts}
use Rattle.readiness_loop.specs.Recorded.{pieces_in, given_in_call, given_to_connection, is_call_at, is_act_at}

-- ---- lists

pub head_is : {A : Type 0} (x y : A) (xs ys : List A) → x ∷ xs ≡ y ∷ ys → x ≡ y
head_is {A} x y xs ys p = ap (λ (zs : List A). get_or zs 0 x) p

pub tail_is : {A : Type 0} (x y : A) (xs ys : List A) → x ∷ xs ≡ y ∷ ys → xs ≡ ys
tail_is {A} x y xs ys p = ap (λ (zs : List A). drop 1 zs) p

-- equal beginnings leave equal rests
pub same_rest : {A : Type 0} (xs ys zs : List A) → xs ++ ys ≡ xs ++ zs → ys ≡ zs
same_rest [] ys zs p = p
same_rest (x ∷ xs) ys zs p = same_rest xs ys zs (tail_is x x (xs ++ ys) (xs ++ zs) p)

-- ---- tests

pub neither : (a b : Bool) → (a || b) ≡ false → IsFalse a × IsFalse b
neither true b h = absurd (true≢false h)
neither false b h = (refl, h)

pub none_of_both : (is : Act → Bool) (xs ys : List Act) → IsFalse (list_any is xs) → IsFalse (list_any is ys) → IsFalse (list_any is (xs ++ ys))
none_of_both is xs ys p q = list_any-append is xs ys ∙ both (list_any is xs) (list_any is ys) p q
  where
    both : (a b : Bool) → IsFalse a → IsFalse b → IsFalse (a || b)
    both true b h g = absurd (true≢false h)
    both false b h g = g

-- one that stands among acts of which none is so
pub not_among : (is : Act → Bool) (xs : List Act) (y : Act) (ys : List Act) → IsFalse (list_any is (xs ++ y ∷ ys)) → IsFalse (is y)
not_among is [] y ys h = (neither (is y) (list_any is ys) h).0
not_among is (x ∷ xs) y ys h = not_among is xs y ys (neither (is x) (list_any is (xs ++ y ∷ ys)) h).1

pub none_by_filter : (is : Act → Bool) (xs : List Act) → filter is xs ≡ [] → IsFalse (list_any is xs)
none_by_filter is [] p = refl
none_by_filter is (x ∷ xs) p = at (is x) (λ q. none_by_filter is xs q) p
  where
    at : (b : Bool) → (filter is xs ≡ [] → IsFalse (list_any is xs)) → cond b (x ∷ filter is xs) (filter is xs) ≡ [] → (b || list_any is xs) ≡ false
    at true later q = absurd cc
    at false later q = later q

pub filter_by_none : (is : Act → Bool) (xs : List Act) → IsFalse (list_any is xs) → filter is xs ≡ []
filter_by_none is [] p = refl
filter_by_none is (x ∷ xs) p = at (is x) (λ q. filter_by_none is xs q) p
  where
    at : (b : Bool) → (IsFalse (list_any is xs) → filter is xs ≡ []) → (b || list_any is xs) ≡ false → cond b (x ∷ filter is xs) (filter is xs) ≡ []
    at true later q = absurd (true≢false q)
    at false later q = later q

-- none is so where none is at its place
pub none_at_places : (is : Act → Bool) (xs : List Act) → ((before : List Act) (x : Act) (behind : List Act) → xs ≡ before ++ x ∷ behind → IsFalse (is x)) → IsFalse (list_any is xs)
none_at_places is [] each = refl
none_at_places is (x ∷ xs) each =
    at (is x) (each [] x xs refl) (none_at_places is xs (λ before y behind p. each (x ∷ before) y behind (ap (λ (zs : List Act). x ∷ zs) p)))
  where
    at : (b : Bool) → IsFalse b → IsFalse (list_any is xs) → (b || list_any is xs) ≡ false
    at true h later = absurd (true≢false h)
    at false h later = later

-- ---- joined

pub written_then : (xs ys : List Act) → octets_written_in (xs ++ ys) ≡ octets_written_in xs ++ octets_written_in ys
unfolding octets_written_in
written_then xs ys = flat_map-append octets_written_by xs ys

pub acts_then : (xs ys : List Act) → acts_but_writes (xs ++ ys) ≡ acts_but_writes xs ++ acts_but_writes ys
unfolding acts_but_writes
acts_then xs ys = flat_map-append unless_write xs ys

pub acts_with_call : (xs : List Act) (call : SeenCall) (ys : List Act) → acts_but_writes (xs ++ Called call ∷ ys) ≡ acts_but_writes xs ++ Called call ∷ acts_but_writes ys
unfolding acts_but_writes
acts_with_call xs call ys = flat_map-append unless_write xs (Called call ∷ ys)

pub inward_then : (xs ys : List Act) → inward_acts (xs ++ ys) ≡ inward_acts xs ++ inward_acts ys
unfolding inward_acts
inward_then xs ys = flat_map-append when_inward xs ys

pub inward_close : (conn : ℕ) (ys : List Act) → inward_acts (Called (Closed conn) ∷ ys) ≡ inward_acts ys
unfolding inward_acts
inward_close conn ys = refl

pub inward_read : (conn size : ℕ) (reading : Reading) (ys : List Act) → inward_acts (Called (Read conn size reading) ∷ ys) ≡ Called (Read conn size reading) ∷ inward_acts ys
unfolding inward_acts
inward_read conn size reading ys = refl

-- ---- octets

-- where no write failed, the pieces are what was written
pub pieces_whole : (acts : List Act) → IsFalse (list_any is_sink_fault acts) → octets_written_in acts ≡ pieces_in acts
unfolding octets_written_in pieces_in
pieces_whole [] h = refl
pieces_whole (Fetched name answer ∷ acts) h = pieces_whole acts h
pieces_whole (Wrote piece true ∷ acts) h = ap (λ (os : List ℕ). piece ++ os) (pieces_whole acts h)
pieces_whole (Wrote piece false ∷ acts) h = absurd (true≢false h)
pieces_whole (Called call ∷ acts) h = pieces_whole acts h
pieces_whole (Asked moment ∷ acts) h = pieces_whole acts h
pieces_whole (Drew word ∷ acts) h = pieces_whole acts h

-- without a write nothing is written
pub none_written : (acts : List Act) → IsFalse (list_any is_write acts) → octets_written_in acts ≡ []
unfolding octets_written_in
none_written [] h = refl
none_written (Fetched name answer ∷ acts) h = none_written acts h
none_written (Wrote piece done ∷ acts) h = absurd (true≢false h)
none_written (Called call ∷ acts) h = none_written acts h
none_written (Asked moment ∷ acts) h = none_written acts h
none_written (Drew word ∷ acts) h = none_written acts h

pub no_pieces : (acts : List Act) → IsFalse (list_any is_write acts) → pieces_in acts ≡ []
unfolding pieces_in
no_pieces [] h = refl
no_pieces (Fetched name answer ∷ acts) h = no_pieces acts h
no_pieces (Wrote piece done ∷ acts) h = absurd (true≢false h)
no_pieces (Called call ∷ acts) h = no_pieces acts h
no_pieces (Asked moment ∷ acts) h = no_pieces acts h
no_pieces (Drew word ∷ acts) h = no_pieces acts h

pub pieces_offered : (acts : List Act) → octets_offered_in acts ≡ pieces_in acts
unfolding octets_offered_in pieces_in
pieces_offered [] = refl
pieces_offered (Fetched name answer ∷ acts) = pieces_offered acts
pieces_offered (Wrote piece done ∷ acts) = ap (λ (os : List ℕ). piece ++ os) (pieces_offered acts)
pieces_offered (Called call ∷ acts) = pieces_offered acts
pieces_offered (Asked moment ∷ acts) = pieces_offered acts
pieces_offered (Drew word ∷ acts) = pieces_offered acts

pub offered_then : (xs ys : List Act) → octets_offered_in (xs ++ ys) ≡ octets_offered_in xs ++ octets_offered_in ys
unfolding octets_offered_in
offered_then xs ys = flat_map-append octets_offered_by xs ys

-- ---- what was given

-- no write gives anything
pub given_but_writes : (conn : ℕ) (acts : List Act) → given_to_connection conn (acts_but_writes acts) ≡ given_to_connection conn acts
unfolding acts_but_writes given_to_connection
given_but_writes conn [] = refl
given_but_writes conn (Fetched name answer ∷ acts) = given_but_writes conn acts
given_but_writes conn (Wrote piece done ∷ acts) = given_but_writes conn acts
given_but_writes conn (Called call ∷ acts) = ap (λ (os : List ℕ). given_in_call conn call ++ os) (given_but_writes conn acts)
given_but_writes conn (Asked moment ∷ acts) = given_but_writes conn acts
given_but_writes conn (Drew word ∷ acts) = given_but_writes conn acts

pub given_alike : (conn : ℕ) (xs ys : List Act) (call : SeenCall) → acts_but_writes xs ≡ acts_but_writes ys
    → given_to_connection conn (xs ++ Called call ∷ []) ≡ given_to_connection conn (ys ++ Called call ∷ [])
given_alike conn xs ys call p =
    sym (given_but_writes conn (xs ++ Called call ∷ []))
    ∙ ap (given_to_connection conn) (acts_with_call xs call [] ∙ ap (λ (zs : List Act). zs ++ Called call ∷ acts_but_writes []) p ∙ sym (acts_with_call ys call []))
    ∙ given_but_writes conn (ys ++ Called call ∷ [])

pub given_then : (conn : ℕ) (xs ys : List Act) → given_to_connection conn (xs ++ ys) ≡ given_to_connection conn xs ++ given_to_connection conn ys
unfolding given_to_connection
given_then conn [] ys = refl
given_then conn (Fetched name answer ∷ xs) ys = given_then conn xs ys
given_then conn (Wrote piece done ∷ xs) ys = given_then conn xs ys
given_then conn (Called call ∷ xs) ys =
    ap (λ (os : List ℕ). given_in_call conn call ++ os) (given_then conn xs ys) ∙ sym (append_assoc (given_in_call conn call) (given_to_connection conn xs) (given_to_connection conn ys))
given_then conn (Asked moment ∷ xs) ys = given_then conn xs ys
given_then conn (Drew word ∷ xs) ys = given_then conn xs ys

-- without a call nothing is given
pub none_given : (conn : ℕ) (acts : List Act) → IsFalse (list_any is_call acts) → given_to_connection conn acts ≡ []
unfolding given_to_connection
none_given conn [] h = refl
none_given conn (Fetched name answer ∷ acts) h = none_given conn acts h
none_given conn (Wrote piece done ∷ acts) h = none_given conn acts h
none_given conn (Called call ∷ acts) h = absurd (true≢false h)
none_given conn (Asked moment ∷ acts) h = none_given conn acts h
none_given conn (Drew word ∷ acts) h = none_given conn acts h

-- ---- at a connection

pub none_at : (conn : ℕ) (acts : List Act) → IsFalse (list_any is_call acts) → IsFalse (list_any (is_act_at conn) acts)
none_at conn [] h = refl
none_at conn (Fetched name answer ∷ acts) h = none_at conn acts h
none_at conn (Wrote piece done ∷ acts) h = none_at conn acts h
none_at conn (Called call ∷ acts) h = absurd (true≢false h)
none_at conn (Asked moment ∷ acts) h = none_at conn acts h
none_at conn (Drew word ∷ acts) h = none_at conn acts h

pub none_at_but_writes : (conn : ℕ) (acts : List Act) → IsFalse (list_any (is_act_at conn) acts) → IsFalse (list_any (is_act_at conn) (acts_but_writes acts))
unfolding acts_but_writes
none_at_but_writes conn [] h = refl
none_at_but_writes conn (Fetched name answer ∷ acts) h = none_at_but_writes conn acts h
none_at_but_writes conn (Wrote piece done ∷ acts) h = none_at_but_writes conn acts h
none_at_but_writes conn (Called call ∷ acts) h =
    let n = neither (is_call_at conn call) (list_any (is_act_at conn) acts) h in
    ap (λ (b : Bool). b || list_any (is_act_at conn) (acts_but_writes acts)) n.0 ∙ none_at_but_writes conn acts n.1
none_at_but_writes conn (Asked moment ∷ acts) h = none_at_but_writes conn acts h
none_at_but_writes conn (Drew word ∷ acts) h = none_at_but_writes conn acts h

-- what comes in of the acts but the writes is what comes in
pub inward_but_writes : (acts : List Act) → inward_acts (acts_but_writes acts) ≡ inward_acts acts
unfolding acts_but_writes inward_acts
inward_but_writes [] = refl
inward_but_writes (Fetched name answer ∷ acts) = ap (λ (xs : List Act). Fetched name answer ∷ xs) (inward_but_writes acts)
inward_but_writes (Wrote piece done ∷ acts) = inward_but_writes acts
inward_but_writes (Called call ∷ acts) = ap (λ (xs : List Act). when_inward (Called call) ++ xs) (inward_but_writes acts)
inward_but_writes (Asked moment ∷ acts) = ap (λ (xs : List Act). Asked moment ∷ xs) (inward_but_writes acts)
inward_but_writes (Drew word ∷ acts) = ap (λ (xs : List Act). Drew word ∷ xs) (inward_but_writes acts)

pub none_inward_at : (conn : ℕ) (acts : List Act) → IsFalse (list_any (is_act_at conn) acts) → IsFalse (list_any (is_act_at conn) (inward_acts acts))
unfolding inward_acts
none_inward_at conn [] h = refl
none_inward_at conn (Fetched name answer ∷ acts) h = none_inward_at conn acts h
none_inward_at conn (Wrote piece done ∷ acts) h = none_inward_at conn acts h
none_inward_at conn (Called (Listened address listens) ∷ acts) h = none_inward_at conn acts h
none_inward_at conn (Called (Dialled address opened) ∷ acts) h = none_inward_at conn acts h
none_inward_at conn (Called (Turned until what) ∷ acts) h = none_inward_at conn acts h
none_inward_at conn (Called (Read other size reading) ∷ acts) h =
    let n = neither (is_call_at conn (Read other size reading)) (list_any (is_act_at conn) acts) h in
    ap (λ (b : Bool). b || list_any (is_act_at conn) (inward_acts acts)) n.0 ∙ none_inward_at conn acts n.1
none_inward_at conn (Called (Sent other piece answer) ∷ acts) h =
    none_inward_at conn acts (neither (is_call_at conn (Sent other piece answer)) (list_any (is_act_at conn) acts) h).1
none_inward_at conn (Called (Closed other) ∷ acts) h =
    none_inward_at conn acts (neither (is_call_at conn (Closed other)) (list_any (is_act_at conn) acts) h).1
none_inward_at conn (Asked moment ∷ acts) h = none_inward_at conn acts h
none_inward_at conn (Drew word ∷ acts) h = none_inward_at conn acts h
