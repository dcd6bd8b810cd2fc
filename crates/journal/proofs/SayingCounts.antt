-- What the lines of an event say: the words of each, and what each word counts.
use Rattle.std.proofs.Common.{◌≡◌, ◌<◌, ◌^◌, ℕ, cond, Bool, true, false, if◌then◌else◌, List, [], ◌∷◌, map, length, filter, filter_map, Option, Some, None, option_map, Result, Ok, arith, refl, sym, ap, ◌∙◌, suc, codes}
use Rattle.std.specs.List.{cons_option}
use Rattle.std.specs.Str.{bytes_eq}
use Rattle.std.specs.Fmt.{decimal}
use Rattle.er_base.specs.declared.release.Release.{Release}
use Rattle.er_base.specs.declared.why.Why.{Why}
use Rattle.er_base.specs.Arguments.{number_argument}
use Rattle.er_base.specs.LineTexts.{lines_text, WordsAreReadBack}
use Rattle.er_base.specs.Octets.{eight}
use Rattle.er_end_model.specs.Outcomes.{Outcome, RefusedReleased, RefusedNotConnected, RefusedLength, RefusedFull, ConnectedTo, Accepted, Taken, NothingToTake, Refused, WasReleased}
use Rattle.er_end_model.specs.Outcomes as outcome
use Rattle.er_trace.specs.declared.event.Event.{Event}
use Rattle.er_trace.specs.declared.event.Event.TheVariants as event
use Rattle.er_trace.specs.Table.{releaser_word, releaser_argument}
use Rattle.er_trace.specs.Texts.{entry_words, outcome_words}
use Rattle.trace_model.specs.Printed.{trace_outcome_of, outcomes_text}
use Rattle.loop_model.specs.Journals.{JournalEntry, entry_text}
use Rattle.journal.specs.declared.began.Began.{Began}
use Rattle.journal.specs.declared.began.Began.TheVariants.{Nothing, End, Full, Unserved}
use Rattle.journal.specs.Tallies.{count_outcomes, tells_connection, tells_acceptance, tells_refusal, told_release, releases_told, release_or_none}
use Rattle.journal.specs.Tallies.{what_event_begins, messages_said_by_event}
use Rattle.journal.specs.Saying.{HasReasonOctets, LinesSayCounts}
use Rattle.journal.proofs.Cutting.{cut, ArePlain, IsPlainLine, ArePlainLines, cut_lines, plain_codes, plain_decimal, plain_hex}

-- ---- the lines of an event, by their words

abbrev outcome_line : ℕ → Outcome → List (List ℕ)
outcome_line conn o = outcome_words conn (trace_outcome_of o)

abbrev outcome_lines : JournalEntry → List (List (List ℕ))
outcome_lines x = map (outcome_line x.conn) x.outcomes

abbrev event_line : JournalEntry → List (List ℕ)
event_line x = entry_words x.moment x.conn x.event

abbrev lines_of_event : JournalEntry → List (List (List ℕ))
lines_of_event x = event_line x ∷ outcome_lines x

text_is : (x : JournalEntry) → entry_text x ≡ lines_text (lines_of_event x)
unfolding entry_text outcomes_text
text_is x = refl

-- no word has a space or LF
plain_event : (at conn : ℕ) (e : Event) → IsPlainLine (entry_words at conn e)
plain_event at conn (event.Call engine rbc rb) =
    (plain_codes (codes ">") refl, (plain_decimal at, (plain_decimal conn, (plain_codes (codes "call") refl, (plain_decimal engine, (plain_decimal rbc, (plain_hex (eight rb), tt)))))))
plain_event at conn (event.Answer rbc ra) =
    (plain_codes (codes ">") refl, (plain_decimal at, (plain_decimal conn, (plain_codes (codes "answer") refl, (plain_decimal rbc, (plain_hex (eight ra), tt))))))
plain_event at conn (event.Octets octets) =
    (plain_codes (codes ">") refl, (plain_decimal at, (plain_decimal conn, (plain_codes (codes "octets") refl, (plain_hex octets, tt)))))
plain_event at conn (event.Send text) =
    (plain_codes (codes ">") refl, (plain_decimal at, (plain_decimal conn, (plain_codes (codes "send") refl, (plain_hex text, tt)))))
plain_event at conn event.Take =
    (plain_codes (codes ">") refl, (plain_decimal at, (plain_decimal conn, (plain_codes (codes "take") refl, tt))))
plain_event at conn (event.Release sub) =
    (plain_codes (codes ">") refl, (plain_decimal at, (plain_decimal conn, (plain_codes (codes "release") refl, (plain_decimal sub, tt)))))
plain_event at conn event.Tick =
    (plain_codes (codes ">") refl, (plain_decimal at, (plain_decimal conn, (plain_codes (codes "tick") refl, tt))))
plain_event at conn event.Ended =
    (plain_codes (codes ">") refl, (plain_decimal at, (plain_decimal conn, (plain_codes (codes "ended") refl, tt))))
plain_event at conn event.Fault =
    (plain_codes (codes ">") refl, (plain_decimal at, (plain_decimal conn, (plain_codes (codes "fault") refl, tt))))
plain_event at conn event.Stalled =
    (plain_codes (codes ">") refl, (plain_decimal at, (plain_decimal conn, (plain_codes (codes "stalled") refl, tt))))
plain_event at conn (event.Full count) =
    (plain_codes (codes ">") refl, (plain_decimal at, (plain_decimal conn, (plain_codes (codes "full") refl, (plain_decimal count, tt)))))
plain_event at conn (event.Unserved count) =
    (plain_codes (codes ">") refl, (plain_decimal at, (plain_decimal conn, (plain_codes (codes "unserved") refl, (plain_decimal count, tt)))))

plain_releaser : (by_peer : Bool) → ArePlain (releaser_word by_peer)
plain_releaser true = plain_codes (codes "peer") refl
plain_releaser false = plain_codes (codes "local") refl

plain_outcome : (conn : ℕ) (o : Outcome) → IsPlainLine (outcome_line conn o)
plain_outcome conn (ConnectedTo peer) = (plain_codes (codes "<") refl, (plain_decimal conn, (plain_codes (codes "connected") refl, (plain_decimal peer, tt))))
plain_outcome conn (Accepted message) = (plain_codes (codes "<") refl, (plain_decimal conn, (plain_codes (codes "accepted") refl, (plain_hex message, tt))))
plain_outcome conn (Taken message) = (plain_codes (codes "<") refl, (plain_decimal conn, (plain_codes (codes "taken") refl, (plain_hex message, tt))))
plain_outcome conn NothingToTake = (plain_codes (codes "<") refl, (plain_decimal conn, (plain_codes (codes "none") refl, tt)))
plain_outcome conn (Refused (RefusedReleased r)) =
    (plain_codes (codes "<") refl, (plain_decimal conn, (plain_codes (codes "refused") refl, (plain_codes (codes "released") refl, (plain_decimal r.reason, (plain_decimal r.sub, tt))))))
plain_outcome conn (Refused RefusedNotConnected) =
    (plain_codes (codes "<") refl, (plain_decimal conn, (plain_codes (codes "refused") refl, (plain_codes (codes "notconnected") refl, tt))))
plain_outcome conn (Refused (RefusedLength found)) =
    (plain_codes (codes "<") refl, (plain_decimal conn, (plain_codes (codes "refused") refl, (plain_codes (codes "length") refl, (plain_decimal found, tt)))))
plain_outcome conn (Refused (RefusedFull waiting)) =
    (plain_codes (codes "<") refl, (plain_decimal conn, (plain_codes (codes "refused") refl, (plain_codes (codes "full") refl, (plain_decimal waiting, tt)))))
plain_outcome conn (WasReleased r) =
    (plain_codes (codes "<") refl, (plain_decimal conn, (plain_codes (codes "released") refl, (plain_decimal r.reason, (plain_decimal r.sub, (plain_releaser r.by_peer, tt))))))
plain_outcome conn (outcome.Octets octets) = (plain_codes (codes "<") refl, (plain_decimal conn, (plain_codes (codes "octets") refl, (plain_hex octets, tt))))

plain_outcomes : (conn : ℕ) (os : List Outcome) → ArePlainLines (map (outcome_line conn) os)
plain_outcomes conn [] = tt
plain_outcomes conn (o ∷ os) = (plain_outcome conn o, plain_outcomes conn os)

-- the text, cut, is these words
cut_event : (x : JournalEntry) → cut (entry_text x) ≡ lines_of_event x
cut_event x = ap cut (text_is x) ∙ cut_lines (lines_of_event x) (plain_event x.moment x.conn x.event, plain_outcomes x.conn x.outcomes)

-- ---- the line of an event, read

abbrev third_word : List (List ℕ) → List ℕ
third_word [] = []
third_word (a ∷ []) = []
third_word (a ∷ b ∷ []) = []
third_word (a ∷ b ∷ c ∷ words) = c

abbrev behind_first : List (List ℕ) → List (List ℕ)
behind_first [] = []
behind_first (a ∷ words) = words

abbrev begins_by : List ℕ → Began
begins_by word =
    if bytes_eq word (codes "call") then End else if bytes_eq word (codes "answer") then End else if bytes_eq word (codes "full") then Full
    else if bytes_eq word (codes "unserved") then Unserved else Nothing

abbrev says_by : List ℕ → ℕ
says_by word = if bytes_eq word (codes "send") then 1 else 0

abbrev event_name : List (List ℕ) → List ℕ
event_name line = third_word (behind_first line)

begins_read : (at conn : ℕ) (e : Event) → begins_by (event_name (entry_words at conn e)) ≡ what_event_begins e
begins_read at conn (event.Call engine rbc rb) = refl
begins_read at conn (event.Answer rbc ra) = refl
begins_read at conn (event.Octets octets) = refl
begins_read at conn (event.Send text) = refl
begins_read at conn event.Take = refl
begins_read at conn (event.Release sub) = refl
begins_read at conn event.Tick = refl
begins_read at conn event.Ended = refl
begins_read at conn event.Fault = refl
begins_read at conn event.Stalled = refl
begins_read at conn (event.Full count) = refl
begins_read at conn (event.Unserved count) = refl

says_read : (at conn : ℕ) (e : Event) → says_by (event_name (entry_words at conn e)) ≡ messages_said_by_event e
says_read at conn (event.Call engine rbc rb) = refl
says_read at conn (event.Answer rbc ra) = refl
says_read at conn (event.Octets octets) = refl
says_read at conn (event.Send text) = refl
says_read at conn event.Take = refl
says_read at conn (event.Release sub) = refl
says_read at conn event.Tick = refl
says_read at conn event.Ended = refl
says_read at conn event.Fault = refl
says_read at conn event.Stalled = refl
says_read at conn (event.Full count) = refl
says_read at conn (event.Unserved count) = refl

-- ---- the lines of outcomes, read

abbrev names : List ℕ → List (List ℕ) → Bool
names word line = bytes_eq (third_word line) word

connection_read : (conn : ℕ) (o : Outcome) → tells_connection o ≡ names (codes "connected") (outcome_line conn o)
connection_read conn (ConnectedTo peer) = refl
connection_read conn (Accepted message) = refl
connection_read conn (Taken message) = refl
connection_read conn NothingToTake = refl
connection_read conn (Refused (RefusedReleased r)) = refl
connection_read conn (Refused RefusedNotConnected) = refl
connection_read conn (Refused (RefusedLength found)) = refl
connection_read conn (Refused (RefusedFull waiting)) = refl
connection_read conn (WasReleased r) = refl
connection_read conn (outcome.Octets octets) = refl

acceptance_read : (conn : ℕ) (o : Outcome) → tells_acceptance o ≡ names (codes "accepted") (outcome_line conn o)
acceptance_read conn (ConnectedTo peer) = refl
acceptance_read conn (Accepted message) = refl
acceptance_read conn (Taken message) = refl
acceptance_read conn NothingToTake = refl
acceptance_read conn (Refused (RefusedReleased r)) = refl
acceptance_read conn (Refused RefusedNotConnected) = refl
acceptance_read conn (Refused (RefusedLength found)) = refl
acceptance_read conn (Refused (RefusedFull waiting)) = refl
acceptance_read conn (WasReleased r) = refl
acceptance_read conn (outcome.Octets octets) = refl

refusal_read : (conn : ℕ) (o : Outcome) → tells_refusal o ≡ names (codes "refused") (outcome_line conn o)
refusal_read conn (ConnectedTo peer) = refl
refusal_read conn (Accepted message) = refl
refusal_read conn (Taken message) = refl
refusal_read conn NothingToTake = refl
refusal_read conn (Refused (RefusedReleased r)) = refl
refusal_read conn (Refused RefusedNotConnected) = refl
refusal_read conn (Refused (RefusedLength found)) = refl
refusal_read conn (Refused (RefusedFull waiting)) = refl
refusal_read conn (WasReleased r) = refl
refusal_read conn (outcome.Octets octets) = refl

one_more : {A B : Type 0} (b : Bool) (x : A) (y : B) (xs : List A) (ys : List B) → length xs ≡ length ys → length (cond b (x ∷ xs) xs) ≡ length (cond b (y ∷ ys) ys)
one_more true x y xs ys p = ap suc p
one_more false x y xs ys p = p

-- as many are told as lines are named so
count_read : (tells : Outcome → Bool) (word : List ℕ) (conn : ℕ) (os : List Outcome) → ((o : Outcome) → tells o ≡ names word (outcome_line conn o))
    → count_outcomes tells os ≡ length (filter (names word) (map (outcome_line conn) os))
count_read tells word conn [] h = refl
count_read tells word conn (o ∷ os) h =
    let rest : List (List (List ℕ)) = map (outcome_line conn) os in
    ap (λ (b : Bool). length (cond b (o ∷ filter tells os) (filter tells os))) (h o)
    ∙ one_more (names word (outcome_line conn o)) o (outcome_line conn o) (filter tells os) (filter (names word) rest) (count_read tells word conn os h)

-- the words behind that of a release
abbrev words_of_release : Release → List (List ℕ)
words_of_release r = decimal r.reason ∷ decimal r.sub ∷ releaser_word r.by_peer ∷ []

abbrev behind_name : List (List ℕ) → List (List ℕ)
behind_name line = behind_first (behind_first (behind_first line))

abbrev release_in : List (List ℕ) → Option (List (List ℕ))
release_in line = if names (codes "released") line then Some (behind_name line) else None

release_read : (conn : ℕ) (o : Outcome) → option_map words_of_release (told_release o) ≡ release_in (outcome_line conn o)
release_read conn (ConnectedTo peer) = refl
release_read conn (Accepted message) = refl
release_read conn (Taken message) = refl
release_read conn NothingToTake = refl
release_read conn (Refused (RefusedReleased r)) = refl
release_read conn (Refused RefusedNotConnected) = refl
release_read conn (Refused (RefusedLength found)) = refl
release_read conn (Refused (RefusedFull waiting)) = refl
release_read conn (WasReleased r) = refl
release_read conn (outcome.Octets octets) = refl

onto_release : (a : Option Release) (rs : List Release) → map words_of_release (cons_option a rs) ≡ cons_option (option_map words_of_release a) (map words_of_release rs)
onto_release None rs = refl
onto_release (Some r) rs = refl

-- the releases that are told are those of the lines
releases_read : (conn : ℕ) (os : List Outcome) → map words_of_release (releases_told os) ≡ filter_map release_in (map (outcome_line conn) os)
releases_read conn [] = refl
releases_read conn (o ∷ os) =
    onto_release (told_release o) (releases_told os)
    ∙ ap (λ (a : Option (List (List ℕ))). cons_option a (map words_of_release (releases_told os))) (release_read conn o)
    ∙ ap (λ (ls : List (List (List ℕ))). cons_option (release_in (outcome_line conn o)) ls) (releases_read conn os)

-- ---- what was read, told apart

abbrev number_result : ℕ → Result ℕ Why
number_result n = Ok n

abbrev bool_result : Bool → Result Bool Why
bool_result b = Ok b

-- a number below 2 ^ 64 by its word
number_is : WordsAreReadBack → (m n : ℕ) → m < 2 ^ 64 → n < 2 ^ 64 → decimal m ≡ decimal n → m ≡ n
number_is words m n small also same =
    ok_is m n (sym (words.number 0 18446744073709551615 m (omega arith) (omega (arith, small)) small)
    ∙ ap (λ (w : List ℕ). number_argument 0 18446744073709551615 w) same
    ∙ words.number 0 18446744073709551615 n (omega arith) (omega (arith, also)) also)
  where
    ok_is : (m n : ℕ) → number_result m ≡ number_result n → m ≡ n
    ok_is m n p = cc

releaser_is : (a b : Bool) → releaser_word a ≡ releaser_word b → a ≡ b
releaser_is a b p = ok_is a b (sym (releaser_read a) ∙ ap releaser_argument p ∙ releaser_read b)
  where
    releaser_read : (a : Bool) → releaser_argument (releaser_word a) ≡ Ok a
    releaser_read true = refl
    releaser_read false = refl

    ok_is : (a b : Bool) → bool_result a ≡ bool_result b → a ≡ b
    ok_is a b p = cc

abbrev first_word : List (List ℕ) → List ℕ
first_word [] = []
first_word (a ∷ words) = a

release_is : WordsAreReadBack → (a b : Release) → (a.reason < 256) × (a.sub < 256) → (b.reason < 256) × (b.sub < 256) → words_of_release a ≡ words_of_release b → a ≡ b
release_is words a b p q same =
    let reason : a.reason ≡ b.reason = number_is words a.reason b.reason (omega (arith, p.0)) (omega (arith, q.0)) (ap first_word same) in
    let sub : a.sub ≡ b.sub = number_is words a.sub b.sub (omega (arith, p.1)) (omega (arith, q.1)) (ap (λ (ws : List (List ℕ)). first_word (behind_first ws)) same) in
    let side : a.by_peer ≡ b.by_peer = releaser_is a.by_peer b.by_peer (ap third_word same) in
    ap (λ (n : ℕ). let r : Release = record { reason = n; sub = a.sub; by_peer = a.by_peer } in r) reason
    ∙ ap (λ (n : ℕ). let r : Release = record { reason = b.reason; sub = n; by_peer = a.by_peer } in r) sub
    ∙ ap (λ (c : Bool). let r : Release = record { reason = b.reason; sub = b.sub; by_peer = c } in r) side

first_is : (a b : List (List ℕ)) → a ∷ [] ≡ b ∷ [] → a ≡ b
first_is a b p = cc

released_is : WordsAreReadBack → (a b : Option Release) → HasReasonOctets a → HasReasonOctets b
    → map words_of_release (release_or_none a) ≡ map words_of_release (release_or_none b) → a ≡ b
released_is words None None p q same = refl
released_is words None (Some b) p q same = absurd cc
released_is words (Some a) None p q same = absurd cc
released_is words (Some a) (Some b) p q same = ap (λ (r : Release). Some r) (release_is words a b p q (first_is (words_of_release a) (words_of_release b) same))

-- ---- all together

abbrev first_line : List (List (List ℕ)) → List (List ℕ)
first_line [] = []
first_line (line ∷ lines) = line

abbrev other_lines : List (List (List ℕ)) → List (List (List ℕ))
other_lines [] = []
other_lines (line ∷ lines) = lines

pub lines_say_counts : WordsAreReadBack → LinesSayCounts
lines_say_counts words lines s t small also one two =
    let x : JournalEntry = one.entry in
    let y : JournalEntry = two.entry in
    let same : lines_of_event x ≡ lines_of_event y = sym (cut_event x) ∙ ap cut (sym one.text ∙ two.text) ∙ cut_event y in
    let line : event_line x ≡ event_line y = ap first_line same in
    let outcomes : outcome_lines x ≡ outcome_lines y = ap other_lines same in
    let conn_word : decimal x.conn ≡ decimal y.conn = ap third_word line in
    let as_many = λ (tells : Outcome → Bool) (word : List ℕ) (h : (conn : ℕ) (o : Outcome) → tells o ≡ names word (outcome_line conn o)).
    count_read tells word x.conn x.outcomes (h x.conn) ∙ ap (λ (ls : List (List (List ℕ))). length (filter (names word) ls)) outcomes
    ∙ sym (count_read tells word y.conn y.outcomes (h y.conn)) in
    record {
      conn = number_is words s.conn t.conn small.conn also.conn (ap decimal one.counts.conn ∙ conn_word ∙ sym (ap decimal two.counts.conn));
      began = one.counts.began ∙ sym (begins_read x.moment x.conn x.event) ∙ ap (λ (l : List (List ℕ)). begins_by (event_name l)) line
          ∙ begins_read y.moment y.conn y.event ∙ sym two.counts.began;
      said = one.counts.said ∙ sym (says_read x.moment x.conn x.event) ∙ ap (λ (l : List (List ℕ)). says_by (event_name l)) line
          ∙ says_read y.moment y.conn y.event ∙ sym two.counts.said;
      refused = one.counts.refused ∙ as_many tells_refusal (codes "refused") refusal_read ∙ sym two.counts.refused;
      accepted = one.counts.accepted ∙ as_many tells_acceptance (codes "accepted") acceptance_read ∙ sym two.counts.accepted;
      connected = one.counts.connected ∙ as_many tells_connection (codes "connected") connection_read ∙ sym two.counts.connected;
      released = released_is words s.released t.released small.released also.released
          (ap (λ (rs : List Release). map words_of_release rs) one.counts.released ∙ releases_read x.conn x.outcomes
          ∙ ap (λ (ls : List (List (List ℕ))). filter_map release_in ls) outcomes ∙ sym (releases_read y.conn y.outcomes)
          ∙ sym (ap (λ (rs : List Release). map words_of_release rs) two.counts.released));
    }
