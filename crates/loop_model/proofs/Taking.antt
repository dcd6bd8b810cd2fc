-- What a replay tests of an event behind others, and of the events of a journal.
use Rattle.loop_model.specs.Ends.{ModelEnd}
use Rattle.std.proofs.Common.{◌≡◌, ℕ, ◌+◌, ◌<◌, ◌≤◌, max, inl, inr, Bool, true, false, ◌&&◌, ◌||◌, List, [], ◌∷◌, ◌++◌, map, length, Option, Some, None, refl, sym, ◌∙◌, ap, subst, append-nil, append_assoc, arith, true≢false, le-ltb, eqb-true, eq-eqb, ltb-true}
use Rattle.std.specs.Prelude.{nat_lt, nat_le, ◌==◌, if◌then◌else◌, filter, is_some}
use Rattle.std.specs.List.{list_any}
use Rattle.std.proofs.Math.Nat.{max-le}
use Rattle.std.proofs.lemmas.Bool.{cases_Bool, lt-leb}
use Rattle.std.proofs.lemmas.List.Folds.{list_any-append}
use Rattle.des_block.specs.declared.triple_key.TripleKey.{TripleKey}
use Rattle.er_base.specs.LineTexts.{line_text}
use Rattle.er_settings.specs.Values.{Settings}
use Rattle.er_end_model.specs.Steps.{Finds}
use Rattle.er_end_model.specs.Ends.{End}
use Rattle.er_trace.specs.declared.entry.Entry.{Entry as Event_line}
use Rattle.er_trace.specs.declared.event.Event.{Event}
use Rattle.er_trace.specs.declared.event.Event.TheVariants as event
use Rattle.er_trace.specs.Texts.{entry_words}
use Rattle.trace_model.specs.Connections.{happens, happens_at, end_behind, end_at}
use Rattle.trace_model.specs.Checks.{Role, Opens, Declines, Belongs, role_of, is_opening_role, names, is_named, is_opened, last_moment, is_live, connections_opened_in_trace, live_count, most_live, no_key, key_check, role_check, fault_of_trace_event}
use Rattle.trace_model.specs.Printed.{outcomes_text, entry_text, entries_text}
use Rattle.trace_model.specs.Replays.{AreTaken}
use Rattle.loop_model.specs.Journals.{JournalEntry, trace_line_of, trace_lines_of}
use Rattle.loop_model.specs.Sessions.{Session}
use Rattle.loop_model.specs.Parts.{session_of_connection, of}

-- ---- one event

abbrev pub HasKey : Finds → Event_line → Event → Type 0
HasKey finds e (event.Call engine rbc rb) = is_some (finds e.moment engine rbc) ≡ true
HasKey finds e (event.Answer rbc ra) = Unit {0}
HasKey finds e (event.Octets octets) = Unit {0}
HasKey finds e (event.Send text) = Unit {0}
HasKey finds e event.Take = Unit {0}
HasKey finds e (event.Release sub) = Unit {0}
HasKey finds e event.Tick = Unit {0}
HasKey finds e event.Ended = Unit {0}
HasKey finds e event.Fault = Unit {0}
HasKey finds e event.Stalled = Unit {0}
HasKey finds e (event.Full count) = Unit {0}
HasKey finds e (event.Unserved count) = Unit {0}

abbrev pub PassesAs : Role → Settings → Finds → List Event_line → Event_line → Type 0
PassesAs Opens settings finds before e = (is_named e.conn before ≡ false) × HasKey finds e e.event × (nat_le most_live (live_count settings finds before) ≡ false)
PassesAs Declines settings finds before e = is_named e.conn before ≡ false
PassesAs Belongs settings finds before e = is_opened e.conn before ≡ true

pub record Passes (settings : Settings) (finds : Finds) (before : List Event_line) (e : Event_line) : Type 0 where
  pub moment : nat_lt e.moment (last_moment before) ≡ false
  pub role : PassesAs (role_of e.event) settings finds before e

key_passes : (e : Event_line) (o : Option TripleKey) (line engine rbc : ℕ) → is_some o ≡ true → no_key line engine rbc o None ≡ None
key_passes e None line engine rbc p = absurd (true≢false (sym p))
key_passes e (Some kmac) line engine rbc p = refl

key_check_none : (finds : Finds) (e : Event_line) (what : Event) → HasKey finds e what → key_check finds e what None ≡ None
key_check_none finds e (event.Call engine rbc rb) p = key_passes e (finds e.moment engine rbc) e.line engine rbc p
key_check_none finds e (event.Answer rbc ra) p = refl
key_check_none finds e (event.Octets octets) p = refl
key_check_none finds e (event.Send text) p = refl
key_check_none finds e event.Take p = refl
key_check_none finds e (event.Release sub) p = refl
key_check_none finds e event.Tick p = refl
key_check_none finds e event.Ended p = refl
key_check_none finds e event.Fault p = refl
key_check_none finds e event.Stalled p = refl
key_check_none finds e (event.Full count) p = refl
key_check_none finds e (event.Unserved count) p = refl

role_none : (role : Role) (settings : Settings) (finds : Finds) (before : List Event_line) (e : Event_line)
    → PassesAs role settings finds before e → role_check settings finds before e role ≡ None
role_none Opens settings finds before e p = rw (p.0, p.2) (key_check_none finds e e.event p.1)
role_none Declines settings finds before e p = rw p refl
role_none Belongs settings finds before e p = rw p refl

no_fault : (settings : Settings) (finds : Finds) (before : List Event_line) (e : Event_line) → Passes settings finds before e → fault_of_trace_event settings finds before e ≡ None
unfolding fault_of_trace_event
no_fault settings finds before e p = rw p.moment (role_none (role_of e.event) settings finds before e p.role)

-- ---- events one behind the other

abbrev pub AllPass : Settings → Finds → List Event_line → List Event_line → Type 0
AllPass settings finds before [] = Unit {0}
AllPass settings finds before (e ∷ es) = Passes settings finds before e × AllPass settings finds (before ++ e ∷ []) es

pub all_pass-append : (settings : Settings) (finds : Finds) (before xs ys : List Event_line)
    → AllPass settings finds before xs → AllPass settings finds (before ++ xs) ys → AllPass settings finds before (xs ++ ys)
all_pass-append settings finds before [] ys p q = subst (λ z. AllPass settings finds z ys) (append-nil before) q
all_pass-append settings finds before (x ∷ xs) ys p q =
    (p.0, all_pass-append settings finds (before ++ x ∷ []) xs ys p.1 (subst (λ z. AllPass settings finds z ys) (sym (append_assoc before (x ∷ []) xs)) q))

taken_from : (settings : Settings) (finds : Finds) (before first rest : List Event_line) (e : Event_line)
    → AllPass settings finds before (first ++ e ∷ rest) → fault_of_trace_event settings finds (before ++ first) e ≡ None
taken_from settings finds before [] rest e p = rw (append-nil before) (no_fault settings finds before e p.0)
taken_from settings finds before (x ∷ first) rest e p =
    subst (λ z. fault_of_trace_event settings finds z e ≡ None) (append_assoc before (x ∷ []) first) (taken_from settings finds (before ++ x ∷ []) first rest e p.1)

pub are_taken : (settings : Settings) (finds : Finds) (es : List Event_line) → AllPass settings finds [] es → AreTaken settings finds es
are_taken settings finds es p first e rest is = taken_from settings finds [] first rest e (subst (λ z. AllPass settings finds [] z) is p)

-- ---- whatever the numbers of the lines

abbrev plain : Event_line → Event_line
plain e = record e { line = 0 }

any_plain : (test : Event_line → Bool) → ((e : Event_line) → test (plain e) ≡ test e) → (es : List Event_line) → list_any test (map plain es) ≡ list_any test es
any_plain test same [] = refl
any_plain test same (e ∷ es) = ap (λ z. z || list_any test (map plain es)) (same e) ∙ ap (λ z. test e || z) (any_plain test same es)

named_plain : (conn : ℕ) (es : List Event_line) → is_named conn (map plain es) ≡ is_named conn es
unfolding is_named
named_plain conn es = any_plain (λ e. names (role_of e.event) && (e.conn == conn)) (λ e. refl) es

opened_plain : (conn : ℕ) (es : List Event_line) → is_opened conn (map plain es) ≡ is_opened conn es
unfolding is_opened
opened_plain conn es = any_plain (λ e. is_opening_role (role_of e.event) && (e.conn == conn)) (λ e. refl) es

last_plain : (es : List Event_line) → last_moment (map plain es) ≡ last_moment es
unfolding last_moment
last_plain [] = refl
last_plain (e ∷ es) = ap (λ z. max e.moment z) (last_plain es)

opened_in_plain : (es : List Event_line) → connections_opened_in_trace (map plain es) ≡ connections_opened_in_trace es
unfolding connections_opened_in_trace
opened_in_plain [] = refl
opened_in_plain (e ∷ es) = ap (λ z. if is_opening_role (role_of e.event) then e.conn ∷ z else z) (opened_in_plain es)

end_plain : (settings : Settings) (finds : Finds) (conn : ℕ) (m : Option End) (es : List Event_line) → end_behind settings finds conn m (map plain es) ≡ end_behind settings finds conn m es
unfolding end_behind
end_plain settings finds conn m [] = refl
end_plain settings finds conn m (e ∷ es) = end_plain settings finds conn (happens_at settings finds conn m e) es

filter_same : (p q : ℕ → Bool) → ((n : ℕ) → p n ≡ q n) → (ns : List ℕ) → filter p ns ≡ filter q ns
filter_same p q same [] = refl
filter_same p q same (n ∷ ns) = elim (cases_Bool (q n)) [
  | inl e ↦ rw (same n, e) (ap (λ z. n ∷ z) (filter_same p q same ns))
  | inr e ↦ rw (same n, e) (filter_same p q same ns)
]

live_plain : (settings : Settings) (finds : Finds) (es : List Event_line) → live_count settings finds (map plain es) ≡ live_count settings finds es
unfolding live_count
live_plain settings finds es =
    ap (λ z. length (filter (λ conn. is_live (end_at settings finds conn (map plain es))) z)) (opened_in_plain es)
    ∙ ap length (filter_same (λ conn. is_live (end_at settings finds conn (map plain es))) (λ conn. is_live (end_at settings finds conn es))
    (λ conn. ap is_live (end_plain settings finds conn None es)) (connections_opened_in_trace es))

has_key_plain : (finds : Finds) (e : Event_line) (what : Event) → HasKey finds (plain e) what → HasKey finds e what
has_key_plain finds e (event.Call engine rbc rb) p = p
has_key_plain finds e (event.Answer rbc ra) p = p
has_key_plain finds e (event.Octets octets) p = p
has_key_plain finds e (event.Send text) p = p
has_key_plain finds e event.Take p = p
has_key_plain finds e (event.Release sub) p = p
has_key_plain finds e event.Tick p = p
has_key_plain finds e event.Ended p = p
has_key_plain finds e event.Fault p = p
has_key_plain finds e event.Stalled p = p
has_key_plain finds e (event.Full count) p = p
has_key_plain finds e (event.Unserved count) p = p

role_plain : (role : Role) (settings : Settings) (finds : Finds) (before : List Event_line) (e : Event_line)
    → PassesAs role settings finds (map plain before) (plain e) → PassesAs role settings finds before e
role_plain Opens settings finds before e p =
    (sym (named_plain e.conn before) ∙ p.0, has_key_plain finds e e.event p.1, ap (nat_le most_live) (sym (live_plain settings finds before)) ∙ p.2)
role_plain Declines settings finds before e p = sym (named_plain e.conn before) ∙ p
role_plain Belongs settings finds before e p = sym (opened_plain e.conn before) ∙ p

map_last : (es : List Event_line) (e : Event_line) → map plain (es ++ e ∷ []) ≡ map plain es ++ plain e ∷ []
map_last [] e = refl
map_last (x ∷ es) e = ap (λ z. plain x ∷ z) (map_last es e)

pub all_pass_plain : (settings : Settings) (finds : Finds) (before es : List Event_line)
    → AllPass settings finds (map plain before) (map plain es) → AllPass settings finds before es
all_pass_plain settings finds before [] p = tt
all_pass_plain settings finds before (e ∷ es) p = (
  record {
    moment = ap (nat_lt e.moment) (sym (last_plain before)) ∙ p.0.moment;
    role = role_plain (role_of e.event) settings finds before e p.0.role;
  },
  all_pass_plain settings finds (before ++ e ∷ []) es (subst (λ z. AllPass settings finds z (map plain es)) (sym (map_last before e)) p.1),
)

-- ---- the events of a journal

pub lines-append : (xs ys : List JournalEntry) → trace_lines_of (xs ++ ys) ≡ trace_lines_of xs ++ trace_lines_of ys
lines-append [] ys = refl
lines-append (x ∷ xs) ys = ap (λ z. trace_line_of x ∷ z) (lines-append xs ys)

-- no moment is above this one
abbrev pub UpTo : ℕ → List JournalEntry → Type 0
UpTo m [] = Unit {0}
UpTo m (x ∷ xs) = (x.moment ≤ m) × UpTo m xs

pub up_to-append : (m : ℕ) (xs ys : List JournalEntry) → UpTo m xs → UpTo m ys → UpTo m (xs ++ ys)
up_to-append m [] ys p q = q
up_to-append m (x ∷ xs) ys p q = (p.0, up_to-append m xs ys p.1 q)

pub up_to_more : (m n : ℕ) (xs : List JournalEntry) → m ≤ n → UpTo m xs → UpTo n xs
up_to_more m n [] p q = tt
up_to_more m n (x ∷ xs) p q = (let h : x.moment ≤ m = q.0 in omega arith, up_to_more m n xs p q.1)

pub last_up_to : (m : ℕ) (xs : List JournalEntry) → UpTo m xs → last_moment (trace_lines_of xs) ≤ m
unfolding last_moment
last_up_to m [] p = omega arith
last_up_to m (x ∷ xs) p = max-le p.0 (last_up_to m xs p.1)

pub not_before : (m : ℕ) (xs : List JournalEntry) → UpTo m xs → nat_lt m (last_moment (trace_lines_of xs)) ≡ false
not_before m xs p = le-ltb m (last_moment (trace_lines_of xs)) (last_up_to m xs p)

-- what is named and opened is so in the events of its own number
and_false : (a : Bool) → (a && false) ≡ false
and_false true = refl
and_false false = refl

any_own : (test : Event → Bool) (conn : ℕ) (xs : List JournalEntry)
    → list_any (λ (e : Event_line). test e.event && (e.conn == conn)) (trace_lines_of xs) ≡ list_any (λ (e : Event_line). test e.event && (e.conn == conn)) (trace_lines_of (of conn xs))
unfolding of
any_own test conn [] = refl
any_own test conn (x ∷ xs) = elim (cases_Bool (x.conn == conn)) [
  | inl p ↦ rw p (rw p (ap (λ z. (test x.event && true) || z) (any_own test conn xs)))
  | inr p ↦ rw p (ap (λ z. z || list_any (λ (e : Event_line). test e.event && (e.conn == conn)) (trace_lines_of xs)) (and_false (test x.event)) ∙ any_own test conn xs)
]

pub named_own : (conn : ℕ) (xs : List JournalEntry) → is_named conn (trace_lines_of xs) ≡ is_named conn (trace_lines_of (of conn xs))
unfolding is_named
named_own conn xs = any_own (λ e. names (role_of e)) conn xs

pub opened_own : (conn : ℕ) (xs : List JournalEntry) → is_opened conn (trace_lines_of xs) ≡ is_opened conn (trace_lines_of (of conn xs))
unfolding is_opened
opened_own conn xs = any_own (λ e. is_opening_role (role_of e)) conn xs

pub unnamed : (conn : ℕ) (xs : List JournalEntry) → of conn xs ≡ [] → is_named conn (trace_lines_of xs) ≡ false
unfolding is_named
unnamed conn xs e = named_own conn xs ∙ ap (λ z. is_named conn (trace_lines_of z)) e

or_first : (a b : Bool) → a ≡ true → (a || b) ≡ true
or_first true b p = refl
or_first false b p = absurd (true≢false (sym p))

pub opened_more : (conn : ℕ) (xs ys : List JournalEntry) → is_opened conn (trace_lines_of xs) ≡ true → is_opened conn (trace_lines_of (xs ++ ys)) ≡ true
unfolding is_opened
opened_more conn xs ys p =
    ap (λ z. is_opened conn z) (lines-append xs ys)
    ∙ list_any-append (λ (e : Event_line). is_opening_role (role_of e.event) && (e.conn == conn)) (trace_lines_of xs) (trace_lines_of ys)
    ∙ or_first (is_opened conn (trace_lines_of xs)) (is_opened conn (trace_lines_of ys)) p

-- ---- how many are live

-- how many events open this connection
count : ℕ → List ℕ → ℕ
count n [] = 0
count n (k ∷ ks) = (if k == n then 1 else 0) + count n ks

pub opened_in-append : (xs ys : List Event_line) → connections_opened_in_trace (xs ++ ys) ≡ connections_opened_in_trace xs ++ connections_opened_in_trace ys
unfolding connections_opened_in_trace
opened_in-append [] ys = refl
opened_in-append (x ∷ xs) ys = elim (cases_Bool (is_opening_role (role_of x.event))) [
  | inl p ↦ rw p (ap (λ z. x.conn ∷ z) (opened_in-append xs ys))
  | inr p ↦ rw p (opened_in-append xs ys)
]

occurs : List ℕ → List (Session ModelEnd) → ℕ
occurs ks [] = 0
occurs ks (s ∷ ss) = count s.number ks + occurs ks ss

count_least : (n k : ℕ) (ks : List ℕ) → count n ks ≤ count n (k ∷ ks)
unfolding count
count_least n k ks = omega arith

occurs_least : (k : ℕ) (ks : List ℕ) (ss : List (Session ModelEnd)) → occurs ks ss ≤ occurs (k ∷ ks) ss
unfolding occurs
occurs_least k ks [] = omega arith
occurs_least k ks (s ∷ ss) =
    let h : occurs ks ss ≤ occurs (k ∷ ks) ss = occurs_least k ks ss in
    let c : count s.number ks ≤ count s.number (k ∷ ks) = count_least s.number k ks in
    omega arith

one_more : (n k : ℕ) (ks : List ℕ) → (k == n) ≡ true → count n (k ∷ ks) ≡ 1 + count n ks
unfolding count
one_more n k ks e = rw e refl

occurs_more : (k : ℕ) (ks : List ℕ) (ss : List (Session ModelEnd)) → is_some (session_of_connection k ss) ≡ true → occurs ks ss + 1 ≤ occurs (k ∷ ks) ss
unfolding occurs session_of_connection
occurs_more k ks [] p = absurd (true≢false (sym p))
occurs_more k ks (s ∷ ss) p =
    elim (cases_Bool (s.number == k)) [
      | inl e ↦
          (let h : occurs ks ss ≤ occurs (k ∷ ks) ss = occurs_least k ks ss in
          let c : count s.number (k ∷ ks) ≡ 1 + count s.number ks = one_more s.number k ks (eq-eqb k s.number (sym (eqb-true s.number k e))) in
          omega arith)
      | inr e ↦
          (let h : occurs ks ss + 1 ≤ occurs (k ∷ ks) ss = occurs_more k ks ss (rw e at p) in
          let c : count s.number ks ≤ count s.number (k ∷ ks) = count_least s.number k ks in
          omega arith)
    ]

passing_few : (test : ℕ → Bool) (ss : List (Session ModelEnd)) → ((n : ℕ) → test n ≡ true → is_some (session_of_connection n ss) ≡ true) → (ks : List ℕ) → length (filter test ks) ≤ occurs ks ss
passing_few test ss there [] = omega arith
passing_few test ss there (k ∷ ks) =
    let h : length (filter test ks) ≤ occurs ks ss = passing_few test ss there ks in
    elim (cases_Bool (test k)) [
      | inl e ↦ rw e (let m : occurs ks ss + 1 ≤ occurs (k ∷ ks) ss = occurs_more k ks ss (there k e) in omega arith)
      | inr e ↦ rw e (let m : occurs ks ss ≤ occurs (k ∷ ks) ss = occurs_least k ks ss in omega arith)
    ]

occurs_few : (ks : List ℕ) → ((n : ℕ) → count n ks ≤ 1) → (ss : List (Session ModelEnd)) → occurs ks ss ≤ length ss
unfolding occurs
occurs_few ks once [] = omega arith
occurs_few ks once (s ∷ ss) =
    let h : occurs ks ss ≤ length ss = occurs_few ks once ss in let c : count s.number ks ≤ 1 = once s.number in omega arith

count_own : (conn : ℕ) (xs : List JournalEntry) → count conn (connections_opened_in_trace (trace_lines_of xs)) ≡ length (connections_opened_in_trace (trace_lines_of (of conn xs)))
unfolding count of connections_opened_in_trace
count_own conn [] = refl
count_own conn (x ∷ xs) =
    let h : count conn (connections_opened_in_trace (trace_lines_of xs)) ≡ length (connections_opened_in_trace (trace_lines_of (of conn xs))) = count_own conn xs in
    elim (cases_Bool (x.conn == conn)) [
      | inl p ↦
          elim (cases_Bool (is_opening_role (role_of x.event))) [
            | inl q ↦ rw (q, p, q) (omega arith)
            | inr q ↦ rw (p, q) h
          ]
      | inr p ↦
          elim (cases_Bool (is_opening_role (role_of x.event))) [
            | inl q ↦ rw (q, p) (omega arith)
            | inr q ↦ rw (p, q) h
          ]
    ]

-- where each live end has a session, and no connection is opened twice
pub few_live : (settings : Settings) (finds : Finds) (xs : List JournalEntry) (ss : List (Session ModelEnd))
    → ((n : ℕ) → is_live (end_at settings finds n (trace_lines_of xs)) ≡ true → is_some (session_of_connection n ss) ≡ true)
    → ((n : ℕ) → length (connections_opened_in_trace (trace_lines_of (of n xs))) ≤ 1)
    → live_count settings finds (trace_lines_of xs) ≤ length ss
unfolding live_count
few_live settings finds xs ss there once =
    let h = passing_few (λ conn. is_live (end_at settings finds conn (trace_lines_of xs))) ss there (connections_opened_in_trace (trace_lines_of xs)) in
    let k = occurs_few (connections_opened_in_trace (trace_lines_of xs)) (λ n. subst (λ z. z ≤ 1) (sym (count_own n xs)) (once n)) ss in
    at_most _ _ _ h k
  where
    at_most : (a b c : ℕ) → a ≤ b → b ≤ c → a ≤ c
    at_most a b c p q = omega arith

pub not_many : (live some : ℕ) → live ≤ some → nat_lt some most_live ≡ true → nat_le most_live live ≡ false
not_many live some p q = lt-leb most_live live (let h : some < most_live = ltb-true some most_live q in omega arith)

-- ---- what is printed, whatever the numbers of the lines

pub text_plain : (settings : Settings) (finds : Finds) (before es : List Event_line)
    → entries_text settings finds (map plain before) (map plain es) ≡ entries_text settings finds before es
unfolding entries_text
text_plain settings finds before [] = refl
text_plain settings finds before (e ∷ es) =
    ap (λ z. (line_text (entry_words e.moment e.conn e.event) ++ outcomes_text e.conn (happens settings finds e.moment e.event z).1) ++ entries_text settings finds (map plain before ++ plain e ∷ []) (map plain es))
    (end_plain settings finds e.conn None before)
    ∙ ap (λ z. entry_text settings finds before e ++ entries_text settings finds z (map plain es)) (sym (map_last before e))
    ∙ ap (λ z. entry_text settings finds before e ++ z) (text_plain settings finds (before ++ e ∷ []) es)
