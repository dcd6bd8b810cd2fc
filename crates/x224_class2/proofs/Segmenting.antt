-- Messages and their segments.
use Rattle.std.proofs.Common.{◌≡◌, ℕ, ◌+◌, ◌-◌, ◌*◌, ◌/◌, ◌<◌, ◌≤◌, zero, suc, nat_lt, inl, inr, true, false, List, [], ◌∷◌, ◌++◌, length, take, drop, get_or, refl, sym, ◌∙◌, ap, append_assoc, arith, length-drop}
use Rattle.std.proofs.lemmas.List.{append-nil, take-append-drop, length-take-le}
use Rattle.std.proofs.Math.Nat.{add-div_right}
use Rattle.std.proofs.lemmas.Nat.{div-mul-add}
use Rattle.std.proofs.lemmas.Bool.{cases_Bool, cases_lt, lt-ltb, le-ltb, ltb-true}
use Rattle.x224_class2.specs.Segments.{Segment, segments_within, segments_of, messages_behind, messages_in, text_behind, text_so_far, AllCarried}
use Rattle.x224_class2.specs.Kept.{next_segment, waiting_behind}
use Rattle.x224_class2.specs.Standing.{segments_of_all}

-- more segments
pub messages-append : (begun : List ℕ) (xs ys : List Segment) → messages_behind begun (xs ++ ys) ≡ messages_behind begun xs ++ messages_behind (text_behind begun xs) ys
messages-append begun [] ys = refl
messages-append begun ((true, octets) ∷ xs) ys = ap (λ (ms : List (List ℕ)). (begun ++ octets) ∷ ms) (messages-append [] xs ys)
messages-append begun ((false, octets) ∷ xs) ys = messages-append (begun ++ octets) xs ys

pub text-append : (begun : List ℕ) (xs ys : List Segment) → text_behind begun (xs ++ ys) ≡ text_behind (text_behind begun xs) ys
text-append begun [] ys = refl
text-append begun ((true, octets) ∷ xs) ys = text-append [] xs ys
text-append begun ((false, octets) ∷ xs) ys = text-append (begun ++ octets) xs ys

-- a message that is cut is whole again
within_whole : (budget n : ℕ) (begun message : List ℕ) → messages_behind begun (segments_within budget n message) ≡ (begun ++ message) ∷ []
within_whole zero n begun message = refl
within_whole (suc budget) n begun message =
    elim (cases_Bool (nat_lt n (length message))) [
      | inl long ↦ rw long (within_whole budget n (begun ++ take n message) (drop n message) ∙ rw (append_assoc begun (take n message) (drop n message), take-append-drop n message) refl)
      | inr short ↦ rw short refl
    ]

within_text : (budget n : ℕ) (begun message : List ℕ) → text_behind begun (segments_within budget n message) ≡ []
within_text zero n begun message = refl
within_text (suc budget) n begun message =
    elim (cases_Bool (nat_lt n (length message))) [
      | inl long ↦ rw long (within_text budget n (begun ++ take n message) (drop n message))
      | inr short ↦ rw short refl
    ]

pub messages_of_segments : (size : ℕ) (message : List ℕ) → messages_in (segments_of size message) ≡ message ∷ []
unfolding segments_of
messages_of_segments size message = within_whole (length message) (size - 5) [] message

pub text_of_segments : (size : ℕ) (message : List ℕ) → text_so_far (segments_of size message) ≡ []
unfolding segments_of
text_of_segments size message = within_text (length message) (size - 5) [] message

-- any budget of the message's length is enough
within_enough : (b d n : ℕ) (message : List ℕ) → 1 ≤ n → length message ≤ b → length message ≤ d → segments_within b n message ≡ segments_within d n message
within_enough zero zero n message some h g = refl
within_enough zero (suc d) n message some h g =
    let short : nat_lt n (length message) ≡ false = le-ltb _ _ (omega arith) in
    rw short refl
within_enough (suc b) zero n message some h g =
    let short : nat_lt n (length message) ≡ false = le-ltb _ _ (omega arith) in
    rw short refl
within_enough (suc b) (suc d) n message some h g =
    elim (cases_Bool (nat_lt n (length message))) [
      | inl long ↦
          (let l : n < length message = ltb-true _ _ long in
          let f : length (drop n message) ≤ b = omega (arith, length-drop n message) in
          let e : length (drop n message) ≤ d = omega (arith, length-drop n message) in
          rw long (ap (λ (ss : List Segment). (false, take n message) ∷ ss) (within_enough b d n (drop n message) some f e)))
      | inr short ↦ rw short refl
    ]

segments_long : (size : ℕ) (message : List ℕ) → 6 ≤ size → size - 5 < length message → segments_of size message ≡ (false, take (size - 5) message) ∷ segments_of size (drop (size - 5) message)
unfolding segments_of
segments_long size message h long = goes_on (length message) refl
  where
    goes_on : (b : ℕ) → length message ≡ b → segments_within b (size - 5) message ≡ (false, take (size - 5) message) ∷ segments_within (length (drop (size - 5) message)) (size - 5) (drop (size - 5) message)
    goes_on zero e = absurd (omega arith)
    goes_on (suc b) e =
        let t : nat_lt (size - 5) (length message) ≡ true = lt-ltb _ _ long in
        rw t (ap (λ (ss : List Segment). (false, take (size - 5) message) ∷ ss) (within_enough b (length (drop (size - 5) message)) (size - 5) (drop (size - 5) message) (omega arith) (omega (arith, length-drop (size - 5) message)) (omega arith)))

segments_short : (size : ℕ) (message : List ℕ) → length message ≤ size - 5 → segments_of size message ≡ (true, message) ∷ []
unfolding segments_of
segments_short size message short = at (length message)
  where
    at : (b : ℕ) → segments_within b (size - 5) message ≡ (true, message) ∷ []
    at zero = refl
    at (suc b) = let f : nat_lt (size - 5) (length message) ≡ false = le-ltb _ _ short in rw f refl

-- several messages
pub messages_of_all : (size : ℕ) (ms : List (List ℕ)) → messages_in (segments_of_all size ms) ≡ ms
messages_of_all size [] = refl
messages_of_all size (m ∷ ms) =
    messages-append [] (segments_of size m) (segments_of_all size ms)
    ∙ rw (messages_of_segments size m, text_of_segments size m) (ap (λ (xs : List (List ℕ)). m ∷ xs) (messages_of_all size ms))

pub text_of_all : (size : ℕ) (ms : List (List ℕ)) → text_so_far (segments_of_all size ms) ≡ []
text_of_all size [] = refl
text_of_all size (m ∷ ms) = text-append [] (segments_of size m) (segments_of_all size ms) ∙ rw (text_of_segments size m) (text_of_all size ms)

pub all_push : (size : ℕ) (ms : List (List ℕ)) (m : List ℕ) → segments_of_all size (ms ++ m ∷ []) ≡ segments_of_all size ms ++ segments_of size m
all_push size [] m = append-nil (segments_of size m)
all_push size (x ∷ ms) m = ap (λ (ss : List Segment). segments_of size x ++ ss) (all_push size ms m) ∙ sym (append_assoc (segments_of size x) (segments_of_all size ms) (segments_of size m))

-- the next segment, and what is left behind it
pub next_of_all : (size : ℕ) (m : List ℕ) (ms : List (List ℕ)) → 6 ≤ size → segments_of_all size (m ∷ ms) ≡ next_segment size (m ∷ ms) ∷ segments_of_all size (waiting_behind size (m ∷ ms))
next_of_all size m ms h =
    elim (cases_lt (size - 5) (length m)) [
      | inl long ↦ (let t : nat_lt (size - 5) (length m) ≡ true = lt-ltb _ _ long in rw (t, segments_long size m h long) refl)
      | inr short ↦ (let f : nat_lt (size - 5) (length m) ≡ false = le-ltb _ _ short in rw (f, segments_short size m short) refl)
    ]

-- the place where a list goes on
pub goes_on_at : {A : Type 0} (g : ℕ) (xs : List A) (y : A) (ys : List A) (d : A) → drop g xs ≡ y ∷ ys → (get_or xs g d ≡ y) × (drop (suc g) xs ≡ ys) × (g < length xs)
goes_on_at zero [] y ys d e = absurd cc
goes_on_at (suc g) [] y ys d e = absurd cc
goes_on_at zero (x ∷ xs) y ys d e = (cc, cc, omega arith)
goes_on_at (suc g) (x ∷ xs) y ys d e =
    let behind = goes_on_at g xs y ys d e in
    (behind.0, behind.1, omega (arith, behind.2))

pub ends_at : {A : Type 0} (g : ℕ) (xs : List A) → drop g xs ≡ [] → length xs ≤ g
ends_at zero [] e = omega arith
ends_at (suc g) [] e = omega arith
ends_at zero (x ∷ xs) e = absurd cc
ends_at (suc g) (x ∷ xs) e = omega (arith, ends_at g xs e)

pub drop-append_within : {A : Type 0} (g : ℕ) (xs ys : List A) → g ≤ length xs → drop g (xs ++ ys) ≡ drop g xs ++ ys
drop-append_within zero xs ys h = refl
drop-append_within (suc g) [] ys h = absurd (omega arith)
drop-append_within (suc g) (x ∷ xs) ys h = drop-append_within g xs ys (omega arith)

pub drop_nil : {A : Type 0} (g : ℕ) → drop {A = A} g [] ≡ []
drop_nil zero = refl
drop_nil (suc g) = refl

-- what segments carry
pub carried-append : (n : ℕ) (xs ys : List Segment) → AllCarried n xs → AllCarried n ys → AllCarried n (xs ++ ys)
carried-append n [] ys h g = g
carried-append n ((last, octets) ∷ xs) ys h g = (h.0, h.1, carried-append n xs ys h.2 g)

pub carried_at : (n g : ℕ) (ss : List Segment) (d : Segment) → AllCarried n ss → g < length ss → (0 < length (get_or ss g d).1) × (length (get_or ss g d).1 ≤ n)
carried_at n g [] d h less = absurd (omega arith)
carried_at n zero ((last, octets) ∷ ss) d h less = (h.0, h.1)
carried_at n (suc g) ((last, octets) ∷ ss) d h less = carried_at n g ss d h.2 (omega arith)

within_carried : (b n : ℕ) (message : List ℕ) → 1 ≤ n → length message ≤ b + n → 0 < length message → AllCarried n (segments_within b n message)
within_carried zero n message least h some = (some, omega arith, tt)
within_carried (suc b) n message least h some =
    elim (cases_lt n (length message)) [
      | inl long ↦
          (let t : nat_lt n (length message) ≡ true = lt-ltb _ _ long in
          let taken : length (take n message) ≡ n = length-take-le n message (omega arith) in
          rw t (omega (arith, taken), omega (arith, taken), within_carried b n (drop n message) least (omega (arith, length-drop n message)) (omega (arith, length-drop n message))))
      | inr short ↦ (let f : nat_lt n (length message) ≡ false = le-ltb _ _ short in rw f (some, short, tt))
    ]

pub segments_carried : (size : ℕ) (message : List ℕ) → 6 ≤ size → 0 < length message → AllCarried (size - 5) (segments_of size message)
unfolding segments_of
segments_carried size message h some = within_carried (length message) (size - 5) message (omega arith) (omega arith) some

-- how many segments a message has
within_count : (b n : ℕ) (message : List ℕ) → 1 ≤ n → length message ≤ b → 0 < length message → length (segments_within b n message) ≡ (length message + (n - 1)) / n
within_count zero n message least h some = absurd (omega arith)
within_count (suc b) n message least h some =
    elim (cases_lt n (length message)) [
      | inl long ↦
          (let t : nat_lt n (length message) ≡ true = lt-ltb _ _ long in
          let rest : length message ≡ length (drop n message) + n = omega (arith, length-drop n message) in
          let behind = within_count b n (drop n message) least (omega (arith, length-drop n message)) (omega (arith, length-drop n message)) in
          rw t (one_more (length message) (length (drop n message)) n (length (segments_within b n (drop n message))) least rest behind))
      | inr short ↦ (let f : nat_lt n (length message) ≡ false = le-ltb _ _ short in rw f (sym (one_only (length message) n some short)))
    ]
  where
    one_more : (m r n c : ℕ) → 1 ≤ n → m ≡ r + n → c ≡ (r + (n - 1)) / n → suc c ≡ (m + (n - 1)) / n
    one_more m r n c least e h =
        let pos : zero < n = omega arith in
        let sum : m + (n - 1) ≡ (r + (n - 1)) + n = omega arith in
        let more : ((r + (n - 1)) + n) / n ≡ (r + (n - 1)) / n + 1 = add-div_right (r + (n - 1)) pos in
        rw (sum, more) (omega (arith, h))

    one_only : (m n : ℕ) → 0 < m → m ≤ n → (m + (n - 1)) / n ≡ 1
    one_only m n some short =
        let sum : m + (n - 1) ≡ 1 * n + (m - 1) = omega arith in
        let less : m - 1 < n = omega arith in
        rw sum (div-mul-add 1 n (m - 1) less)

pub segments_count : (size : ℕ) (message : List ℕ) → 6 ≤ size → 0 < length message → length (segments_of size message) ≡ (length message + (size - 6)) / (size - 5)
unfolding segments_of
segments_count size message h some = let e : size - 6 ≡ size - 5 - 1 = omega arith in rw e (within_count (length message) (size - 5) message (omega arith) (omega arith) some)
