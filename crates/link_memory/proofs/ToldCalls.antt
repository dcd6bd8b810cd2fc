-- What each call of wires in memory leaves alone and what it changes of what is told.
use Rattle.std.proofs.Common.{ℕ, ◌+◌, ◌-◌, ◌≤◌, ◌≡◌, ◌≢◌, ◌==◌, min, Bool, true, false, List, [], ◌∷◌, ◌++◌, length, take, drop, Option, None, Some, Result, Ok, Err, refl, sym, ap, subst, ◌∙◌, arith, if◌then◌else◌}
use Rattle.std.specs.Prelude.{is_some, unwrap_or, IfSome, IfOk}
use Rattle.std.proofs.lemmas.Bool.{cond-true, cond-false, ne_eqb, eq-eqb, eqb-true}
use Rattle.std.proofs.lemmas.List.{nil_from_length}
use Rattle.link_memory.specs.declared.act.Act.{Act}
use Rattle.link_memory.specs.declared.memory_line.MemoryLine.{MemoryLine}
use Rattle.link_trait.specs.declared.wires.Conn.{Conn}
use Rattle.link_trait.specs.declared.wires.Happening.{Happening}
use Rattle.link_trait.specs.declared.wires.Happening.TheVariants as happening
use Rattle.link_trait.specs.declared.wires.ReadAnswer.{ReadAnswer}
use Rattle.link_trait.specs.declared.wires.ReadAnswer.TheVariants as read_answer
use Rattle.link_trait.specs.declared.wires.WriteAnswer.{WriteAnswer}
use Rattle.link_trait.specs.declared.wires.WriteAnswer.TheVariants as write_answer
use Rattle.link_trait.specs.Outside.{Grew}
use Rattle.link_trait.specs.Wires.{Call, Listens, Dials, Turns, Reads, Writes, Closes, Gave, NotNow, End, Failed, Lines, Told, AllStay, OnlyAdds, KeepsOctets, IsNew, Takes, GivesWrittenOctets, StaysAtRead, StaysAtWrite, count_waiting_at_connection, reading_of, taken_of, octets_taken_by_call, given_of, given_by}
use Rattle.link_memory.specs.KeptCalls.{IsUntouched}
use Rattle.link_memory.specs.WiresMemory.{KeptWires, is_to_fail, fits, places_of, octets_to, between, brought, line_at, open_at, memory_lines_with_change, waits_of, waits_at, gives, line_of_connection, told_lines, told_calls, room_of, shut_of, wires_with_call_counted, wires_with_call_kept, comes, coming, first_open, first_act, after_listen, after_dial, after_turn, after_read, after_write_to, after_close, answer_to_read, read_in, read_done, writes_of, written_in, write_done, new_line}
use Rattle.link_memory.proofs.ToldLines.{told_still, told_spent, told_if, line_at-more, line_at-changed, line_at-changed_other, line_at-open, changed_here, changed_any, drop_twice, taken_stays, given_stays, line_kept, line_stays, Grows, grows_same, next_grows}
use Rattle.link_memory.proofs.KeptLists.{taken_of-more, given_of-more}

-- a call that neither takes nor gives was kept, and the lines stay
stay : (s t : KeptWires) (call : Call) → t.spent ≡ s.spent → t.calls ≡ s.calls ++ call ∷ [] → t.acts ≡ s.acts → t.done ≡ s.done
    → ((conn : ℕ) → conn ≤ length s.lines → line_at t.lines conn ≡ line_at s.lines conn)
    → ((conn : ℕ) → octets_taken_by_call conn call ≡ []) → ((conn : ℕ) → given_by conn call ≡ []) → Told (told_lines s) (told_lines t) (λ before now. AllStay (length s.lines) before now)
stay s t call spent calls acts done lines no_taking no_giving =
    told_still s t (λ before now. AllStay (length s.lines) before now) (λ is. spent ∙ is)
    (λ conn within. line_stays s t call conn calls acts done (lines conn within) (no_taking conn) (no_giving conn))

-- ---- listen and dial

pub listen_stays : (s : KeptWires) (address : List ℕ) → Told (told_lines s) (told_lines (after_listen s address)) (λ before now. AllStay (length s.lines) before now)
listen_stays s address =
    told_if (fits s 1 (length address)) s _ _ (λ before now. AllStay (length s.lines) before now)
    (told_if (is_to_fail s) s _ _ (λ before now. AllStay (length s.lines) before now)
    (stay s _ (Listens address false) refl refl refl refl (λ conn within. refl) (λ conn. refl) (λ conn. refl))
    (stay s _ (Listens address true) refl refl refl refl (λ conn within. refl) (λ conn. refl) (λ conn. refl)))
    (told_spent s _ _ refl)

pub dial_stays : (s : KeptWires) (address : List ℕ) → Told (told_lines s) (told_lines (after_dial s address)) (λ before now. AllStay (length s.lines) before now)
dial_stays s address =
    told_if (is_to_fail s) s _ _ (λ before now. AllStay (length s.lines) before now)
    (told_if (fits s 1 (length address)) s _ _ (λ before now. AllStay (length s.lines) before now)
    (stay s _ (Dials address None) refl refl refl refl (λ conn within. refl) (λ conn. refl) (λ conn. refl))
    (told_spent s _ _ refl))
    (told_if (fits s 2 (length address)) s _ _ (λ before now. AllStay (length s.lines) before now)
    (stay s _ (Dials address (Some (length s.lines + 1))) refl refl refl refl (λ conn within. line_at-more s.lines (new_line s.done s.room) conn within) (λ conn. refl) (λ conn. refl))
    (told_spent s _ _ refl))

spent_if : (b : Bool) (s x y : KeptWires) → (s.spent ≡ true → x.spent ≡ true) → (s.spent ≡ true → y.spent ≡ true) → s.spent ≡ true → (if b then x else y).spent ≡ true
spent_if true s x y first second is = first is
spent_if false s x y first second is = second is

dial_spent : (s : KeptWires) (address : List ℕ) → s.spent ≡ true → (after_dial s address).spent ≡ true
dial_spent s address =
    spent_if (is_to_fail s) s _ _ (spent_if (fits s 1 (length address)) s _ _ (λ is. is) (λ is. refl)) (spent_if (fits s 2 (length address)) s _ _ (λ is. is) (λ is. refl))

-- a connection that is untouched is new
is_new : (t : KeptWires) (conn : ℕ) → IsUntouched conn t.calls → IsNew (line_of_connection t conn)
unfolding line_of_connection
is_new t conn untouched = record { taken = untouched.taken; given = untouched.given }

pub dial_new : {E : Type 0} (s t : KeptWires) (address : List ℕ) (result : Result Conn E) → t ≡ after_dial s address → IfOk result (λ conn. IsUntouched conn.0 t.calls)
    → Told (told_lines s) (told_lines t) (λ before now. IfOk result (λ conn. IsNew (now conn.0)))
dial_new s t address (Ok conn) is untouched =
    told_still s t (λ before now. IsNew (now conn.0)) (λ spent. ap (λ u. u.spent) is ∙ dial_spent s address spent) (is_new t conn.0 untouched)
dial_new s t address (Err fault) is untouched =
    told_still s t (λ before now. Unit {0}) (λ spent. ap (λ u. u.spent) is ∙ dial_spent s address spent) tt

-- ---- turn

next_spent : (s : KeptWires) (first : ℕ × Option ℕ) (next : ℕ × Option Act) → s.spent ≡ true → (coming (wires_with_call_counted s) first next).state.spent ≡ true
next_spent s (passed, Some at) next is = is
next_spent s (passed, None) (count, one) is = is

abbrev GrowsAll : ℕ → Lines → Lines → Type 0
GrowsAll opened before now = (conn : ℕ) → conn ≤ opened → Grows (before conn) (now conn)

turn_grows : (s : KeptWires) (until : Option ℕ) → Told (told_lines s) (told_lines (after_turn s until)) (λ before now. GrowsAll (length s.lines) before now)
turn_grows s until =
    told_if (is_to_fail s) s _ _ (λ before now. GrowsAll (length s.lines) before now)
    (told_if (fits s 1 0) s _ _ (λ before now. GrowsAll (length s.lines) before now)
    (told_still s _ (λ before now. GrowsAll (length s.lines) before now) (λ is. is)
    (λ conn within. grows_same (line_of_connection s conn) _ (line_stays s _ (Turns until happening.Failed) conn refl refl refl refl refl refl)))
    (told_spent s _ _ refl))
    (told_if (fits s (places_of (comes (wires_with_call_counted s)).happening) 0) s _ _ (λ before now. GrowsAll (length s.lines) before now)
    (told_still s _ (λ before now. GrowsAll (length s.lines) before now) (next_spent s (first_open s.lines (drop s.heard s.again)) (first_act s.listening (drop s.done s.acts)))
    (λ conn within. next_grows s (first_open s.lines (drop s.heard s.again)) (first_act s.listening (drop s.done s.acts))
    (Turns until (comes (wires_with_call_counted s)).happening) (places_of (comes (wires_with_call_counted s)).happening) conn within refl refl))
    (told_spent s _ _ refl))

told_weaker : (a b : Option Lines) (Strong Weak : Lines → Lines → Type 0) → ((before now : Lines) → Strong before now → Weak before now) → Told a b Strong → Told a b Weak
told_weaker None None Strong Weak gives told = tt
told_weaker None (Some now) Strong Weak gives told = told
told_weaker (Some before) None Strong Weak gives told = tt
told_weaker (Some before) (Some now) Strong Weak gives told = gives before now told

pub turn_adds : (s : KeptWires) (until : Option ℕ)
    → Told (told_lines s) (told_lines (after_turn s until)) (λ before now. (conn : ℕ) → conn ≤ length s.lines → OnlyAdds (before conn) (now conn))
turn_adds s until =
    told_weaker (told_lines s) (told_lines (after_turn s until)) (λ before now. GrowsAll (length s.lines) before now)
    (λ before now. (conn : ℕ) → conn ≤ length s.lines → OnlyAdds (before conn) (now conn)) (λ before now grows conn within. (grows conn within).adds) (turn_grows s until)

pub turn_keeps : (s : KeptWires) (until : Option ℕ)
    → Told (told_lines s) (told_lines (after_turn s until)) (λ before now. (conn : ℕ) → conn ≤ length s.lines → KeepsOctets (before conn) (now conn))
turn_keeps s until =
    told_weaker (told_lines s) (told_lines (after_turn s until)) (λ before now. GrowsAll (length s.lines) before now)
    (λ before now. (conn : ℕ) → conn ≤ length s.lines → KeepsOctets (before conn) (now conn)) (λ before now grows conn within. (grows conn within).keeps) (turn_grows s until)

turn_spent : (s : KeptWires) (until : Option ℕ) → s.spent ≡ true → (after_turn s until).spent ≡ true
turn_spent s until =
    spent_if (is_to_fail s) s _ _ (spent_if (fits s 1 0) s _ _ (λ is. is) (λ is. refl))
    (spent_if (fits s (places_of (comes (wires_with_call_counted s)).happening) 0) s _ _
    (next_spent s (first_open s.lines (drop s.heard s.again)) (first_act s.listening (drop s.done s.acts))) (λ is. refl))

pub turn_new : (s t : KeptWires) (until : Option ℕ) (result : Happening) → t ≡ after_turn s until
    → ((conn : Conn) → result ≡ happening.Accepted conn → IsUntouched conn.0 t.calls)
    → Told (told_lines s) (told_lines t) (λ before now. (conn : Conn) → result ≡ happening.Accepted conn → IsNew (now conn.0))
turn_new s t until result is untouched =
    told_still s t (λ before now. (conn : Conn) → result ≡ happening.Accepted conn → IsNew (now conn.0)) (λ spent. ap (λ u. u.spent) is ∙ turn_spent s until spent)
    (λ conn accepted. is_new t conn.0 (untouched conn accepted))

-- ---- read

-- a read that gave octets was one of an open connection where at least so many waited
record GaveSome (found : Option MemoryLine) (waits n : ℕ) : Type 0 where
  line : MemoryLine
  there : found ≡ Some line
  waited : n ≤ waits

gave_by : (none shut : Bool) (size waits n : ℕ) → (if none then (if shut then read_answer.End else read_answer.NotNow) else read_answer.Some (min size waits)) ≡ read_answer.Some n → n ≤ waits
gave_by true true size waits n is = absurd (cc is)
gave_by true false size waits n is = absurd (cc is)
gave_by false shut size waits n is =
    let same : min size waits ≡ n = cc is in
    omega (arith, same)

gave_some : (room listed : Bool) (found : Option MemoryLine) (waits size n : ℕ)
    → (if room then (if listed then read_answer.Failed else answer_to_read found waits size) else read_answer.Failed) ≡ read_answer.Some n → GaveSome found waits n
gave_some true true found waits size n is = absurd (cc is)
gave_some true false None waits size n is = absurd (cc is)
gave_some true false (Some line) waits size n is = record { line = line; there = refl; waited = gave_by (waits == 0) line.is_shut size waits n is }
gave_some false listed found waits size n is = absurd (cc is)

-- one that found none was one of an open connection where none waited
record GaveNone (found : Option MemoryLine) (waits : ℕ) (is_shut : Bool) : Type 0 where
  line : MemoryLine
  there : found ≡ Some line
  none : waits ≡ 0
  shut : line.is_shut ≡ is_shut

not_now_by : (none : Bool) (shut : Bool) (n : ℕ) → (if none then (if shut then read_answer.End else read_answer.NotNow) else read_answer.Some n) ≡ read_answer.NotNow → (none ≡ true) × (shut ≡ false)
not_now_by true true n is = absurd (cc is)
not_now_by true false n is = (refl, refl)
not_now_by false shut n is = absurd (cc is)

end_by : (none : Bool) (shut : Bool) (n : ℕ) → (if none then (if shut then read_answer.End else read_answer.NotNow) else read_answer.Some n) ≡ read_answer.End → (none ≡ true) × (shut ≡ true)
end_by true true n is = (refl, refl)
end_by true false n is = absurd (cc is)
end_by false shut n is = absurd (cc is)

gave_not_now : (room listed : Bool) (found : Option MemoryLine) (waits size : ℕ)
    → (if room then (if listed then read_answer.Failed else answer_to_read found waits size) else read_answer.Failed) ≡ read_answer.NotNow → GaveNone found waits false
gave_not_now true true found waits size is = absurd (cc is)
gave_not_now true false None waits size is = absurd (cc is)
gave_not_now true false (Some line) waits size is =
    let found : ((waits == 0) ≡ true) × (line.is_shut ≡ false) = not_now_by (waits == 0) line.is_shut (min size waits) is in
    record { line = line; there = refl; none = eqb-true waits 0 found.0; shut = found.1 }
gave_not_now false listed found waits size is = absurd (cc is)

gave_end : (room listed : Bool) (found : Option MemoryLine) (waits size : ℕ)
    → (if room then (if listed then read_answer.Failed else answer_to_read found waits size) else read_answer.Failed) ≡ read_answer.End → GaveNone found waits true
gave_end true true found waits size is = absurd (cc is)
gave_end true false None waits size is = absurd (cc is)
gave_end true false (Some line) waits size is =
    let found : ((waits == 0) ≡ true) × (line.is_shut ≡ true) = end_by (waits == 0) line.is_shut (min size waits) is in
    record { line = line; there = refl; none = eqb-true waits 0 found.0; shut = found.1 }
gave_end false listed found waits size is = absurd (cc is)

if_either : (b : Bool) (f : Lines) (Holds : Lines → Type 0) → Holds f → IfSome (if b then None else Some f) Holds
if_either true f Holds holds = tt
if_either false f Holds holds = holds

if_told : (s : KeptWires) (Holds : Lines → Type 0) → Holds (line_of_connection s) → IfSome (told_lines s) Holds
unfolding told_lines
if_told s Holds holds = if_either s.spent (line_of_connection s) Holds holds

found_none : (s : KeptWires) (conn : ℕ) (shut : Bool) → GaveNone (open_at s.lines conn) (length (waits_at s conn)) shut
    → IfSome (told_lines s) (λ before. ((before conn).waits ≡ []) × ((before conn).shut ≡ shut))
unfolding line_of_connection
found_none s conn shut gave =
    if_told s (λ before. ((before conn).waits ≡ []) × ((before conn).shut ≡ shut))
    (nil_from_length (waits_at s conn) gave.none, ap shut_of (line_at-open s.lines conn gave.line gave.there) ∙ gave.shut)

pub read_not_now : (s : KeptWires) (conn size : ℕ) (result : ReadAnswer) → result ≡ read_in s conn size → result ≡ read_answer.NotNow
    → IfSome (told_lines s) (λ before. ((before conn).waits ≡ []) × ((before conn).shut ≡ false))
read_not_now s conn size result answer is =
    found_none s conn false (gave_not_now (fits s 1 0) (is_to_fail s) (open_at s.lines conn) (length (waits_at s conn)) size (sym answer ∙ is))

pub read_end : (s : KeptWires) (conn size : ℕ) (result : ReadAnswer) → result ≡ read_in s conn size → result ≡ read_answer.End
    → IfSome (told_lines s) (λ before. ((before conn).waits ≡ []) × ((before conn).shut ≡ true))
read_end s conn size result answer is =
    found_none s conn true (gave_end (fits s 1 0) (is_to_fail s) (open_at s.lines conn) (length (waits_at s conn)) size (sym answer ∙ is))

-- what a read changes, for each of its answers
abbrev read_by : KeptWires → ℕ → ℕ → ℕ → ReadAnswer → KeptWires
read_by s conn size waits answer = read_done (wires_with_call_kept (wires_with_call_counted s) (Reads conn size waits (gives answer (waits_at s conn))) 1 0) conn waits answer

took_else : (conn other : ℕ) (octets : List ℕ) → other ≢ conn → (if conn == other then octets else []) ≡ []
took_else conn other octets differs = cond-false (conn == other) octets [] (ne_eqb conn other (λ same. differs (sym same)))

took_here : (conn : ℕ) (octets : List ℕ) → (if conn == conn then octets else []) ≡ octets
took_here conn octets = cond-true (conn == conn) octets [] (eq-eqb conn conn refl)

stays_by : (s : KeptWires) (conn size waits : ℕ) (answer : ReadAnswer)
    → Told (told_lines s) (told_lines (read_by s conn size waits answer)) (λ before now. StaysAtRead answer (length s.lines) conn before now)
unfolding line_of_connection
stays_by s conn size waits (read_answer.Some n) =
    told_still s _ (λ before now. StaysAtRead (read_answer.Some n) (length s.lines) conn before now) (λ is. is) (
      λ other within differs.
          line_stays s (read_by s conn size waits (read_answer.Some n)) (Reads conn size waits (Gave (take n (waits_at s conn)))) other refl refl refl
          (line_at-changed_other s.lines conn other (λ line. record line { taken = line.taken + n }) differs) (took_else conn other (take n (waits_at s conn)) differs) refl,
      record {
        given = given_stays s (read_by s conn size waits (read_answer.Some n)) (Reads conn size waits (Gave (take n (waits_at s conn)))) conn refl refl;
        room = changed_here (λ before now. room_of now ≡ room_of before) s.lines conn (λ line. record line { taken = line.taken + n }) (λ line. refl) (λ line is_open. refl);
        shut = changed_here (λ before now. shut_of now ≡ shut_of before) s.lines conn (λ line. record line { taken = line.taken + n }) (λ line. refl) (λ line is_open. refl);
      },
    )
stays_by s conn size waits read_answer.NotNow = stay s _ (Reads conn size waits NotNow) refl refl refl refl (λ at within. refl) (λ at. refl) (λ at. refl)
stays_by s conn size waits read_answer.End = stay s _ (Reads conn size waits End) refl refl refl refl (λ at within. refl) (λ at. refl) (λ at. refl)
stays_by s conn size waits read_answer.Failed = stay s _ (Reads conn size waits Failed) refl refl refl refl (λ at within. refl) (λ at. refl) (λ at. refl)

pub read_stays : (s t : KeptWires) (conn size : ℕ) (result : ReadAnswer) → result ≡ read_in s conn size → t ≡ after_read s conn size
    → Told (told_lines s) (told_lines t) (λ before now. StaysAtRead result (length s.lines) conn before now)
read_stays s t conn size result answer state =
    let all : Told (told_lines s) (told_lines (after_read s conn size)) (λ before now. StaysAtRead (read_in s conn size) (length s.lines) conn before now) =
    told_if (fits s 1 0) s _ _ (λ before now. StaysAtRead (read_in s conn size) (length s.lines) conn before now)
    (stays_by s conn size (length (waits_at s conn)) (read_in s conn size)) (told_spent s _ _ refl) in
    subst (λ u. Told (told_lines s) (told_lines u) (λ before now. StaysAtRead result (length s.lines) conn before now)) (sym state)
    (subst (λ a. Told (told_lines s) (told_lines (after_read s conn size)) (λ before now. StaysAtRead a (length s.lines) conn before now)) (sym answer) all)

same_octets : (xs ys : List ℕ) → Gave xs ≡ Gave ys → xs ≡ ys
same_octets xs ys same = cc same

takes_by : (s : KeptWires) (conn size waits : ℕ) (into : List ℕ) (answer : ReadAnswer)
    → ((n : ℕ) → answer ≡ read_answer.Some n → GaveSome (open_at s.lines conn) (length (waits_at s conn)) n) → reading_of answer into ≡ gives answer (waits_at s conn)
    → Told (told_lines s) (told_lines (read_by s conn size waits answer)) (λ before now. Takes answer (before conn) (now conn) into)
unfolding line_of_connection
takes_by s conn size waits into (read_answer.Some n) some gave =
    let found : GaveSome (open_at s.lines conn) (length (waits_at s conn)) n = some n refl in
    told_still s _ (λ before now. Takes (read_answer.Some n) (before conn) (now conn) into) (λ is. is) (record {
      waited = found.waited;
      put = same_octets (take n into) (take n (waits_at s conn)) gave;
      taken = taken_of-more conn s.calls (Reads conn size waits (Gave (take n (waits_at s conn))))
          ∙ ap (λ os. taken_of conn s.calls ++ os) (took_here conn (take n (waits_at s conn)));
      waits = ap (waits_of s.acts s.done conn) (line_at-changed s.lines conn (λ line. record line { taken = line.taken + n }) found.line found.there)
          ∙ drop_twice found.line.taken n (brought s.acts s.done conn found.line)
          ∙ sym (ap (λ line. drop n (waits_of s.acts s.done conn line)) (line_at-open s.lines conn found.line found.there));
    })
takes_by s conn size waits into read_answer.NotNow some gave = told_still s _ (λ before now. Unit {0}) (λ is. is) tt
takes_by s conn size waits into read_answer.End some gave = told_still s _ (λ before now. Unit {0}) (λ is. is) tt
takes_by s conn size waits into read_answer.Failed some gave = told_still s _ (λ before now. Unit {0}) (λ is. is) tt

pub read_takes : (s t : KeptWires) (conn size : ℕ) (into : List ℕ) (result : ReadAnswer) → result ≡ read_in s conn size → t ≡ after_read s conn size
    → reading_of result into ≡ gives result (waits_at s conn) → Told (told_lines s) (told_lines t) (λ before now. Takes result (before conn) (now conn) into)
read_takes s t conn size into result answer state gave =
    let all : Told (told_lines s) (told_lines (after_read s conn size)) (λ before now. Takes (read_in s conn size) (before conn) (now conn) into) =
    told_if (fits s 1 0) s _ _ (λ before now. Takes (read_in s conn size) (before conn) (now conn) into)
    (takes_by s conn size (length (waits_at s conn)) into (read_in s conn size)
    (λ n is. gave_some (fits s 1 0) (is_to_fail s) (open_at s.lines conn) (length (waits_at s conn)) size n is)
    (subst (λ a. reading_of a into ≡ gives a (waits_at s conn)) answer gave)) (told_spent s _ _ refl) in
    subst (λ u. Told (told_lines s) (told_lines u) (λ before now. Takes result (before conn) (now conn) into)) (sym state)
    (subst (λ a. Told (told_lines s) (told_lines (after_read s conn size)) (λ before now. Takes a (before conn) (now conn) into)) (sym answer) all)

-- the record of a read
grew_by : (b c : Bool) (xs ys more : List Call) → c ≡ b → (b ≡ false → ys ≡ xs ++ more) → Grew (if b then None else Some xs) (if c then None else Some ys) more
grew_by true true xs ys more same grew = tt
grew_by true false xs ys more same grew = absurd (cc same)
grew_by false true xs ys more same grew = absurd (cc same)
grew_by false false xs ys more same grew = grew refl

grew_spent : (b c : Bool) (xs ys more : List Call) → c ≡ true → Grew (if b then None else Some xs) (if c then None else Some ys) more
grew_spent true true xs ys more spent = tt
grew_spent true false xs ys more spent = absurd (cc spent)
grew_spent false true xs ys more spent = tt
grew_spent false false xs ys more spent = absurd (cc spent)

grew_if : (b : Bool) (s x y : KeptWires) (more : List Call) → Grew (told_calls s) (told_calls x) more → Grew (told_calls s) (told_calls y) more
    → Grew (told_calls s) (told_calls (if b then x else y)) more
grew_if true s x y more first second = first
grew_if false s x y more first second = second

done_calls : (s : KeptWires) (conn waits : ℕ) (answer : ReadAnswer) → (read_done s conn waits answer).calls ≡ s.calls
done_calls s conn waits (read_answer.Some n) = refl
done_calls s conn waits read_answer.NotNow = refl
done_calls s conn waits read_answer.End = refl
done_calls s conn waits read_answer.Failed = refl

done_spent : (s : KeptWires) (conn waits : ℕ) (answer : ReadAnswer) → (read_done s conn waits answer).spent ≡ s.spent
done_spent s conn waits (read_answer.Some n) = refl
done_spent s conn waits read_answer.NotNow = refl
done_spent s conn waits read_answer.End = refl
done_spent s conn waits read_answer.Failed = refl

waiting_told : (s : KeptWires) (conn : ℕ) → s.spent ≡ false → count_waiting_at_connection (told_lines s) conn ≡ length (waits_at s conn)
unfolding told_lines line_of_connection
waiting_told s conn tells = ap (λ told. count_waiting_at_connection told conn) (cond-false s.spent None (Some (line_of_connection s)) tells)

pub read_told : (s t : KeptWires) (conn size : ℕ) (into : List ℕ) (result : ReadAnswer) → result ≡ read_in s conn size → t ≡ after_read s conn size
    → reading_of result into ≡ gives result (waits_at s conn)
    → Grew (told_calls s) (told_calls t) (Reads conn size (count_waiting_at_connection (told_lines s) conn) (reading_of result into) ∷ [])
read_told s t conn size into result answer state gave =
    let call : Call = Reads conn size (count_waiting_at_connection (told_lines s) conn) (reading_of result into) in
    let same : s.spent ≡ false → Reads conn size (length (waits_at s conn)) (gives (read_in s conn size) (waits_at s conn)) ≡ call =
    λ tells. ap (λ a. Reads conn size (length (waits_at s conn)) (gives a (waits_at s conn))) (sym answer) ∙ ap (Reads conn size (length (waits_at s conn))) (sym gave)
    ∙ ap (λ n. Reads conn size n (reading_of result into)) (sym (waiting_told s conn tells)) in
    let before : KeptWires = wires_with_call_kept (wires_with_call_counted s) (Reads conn size (length (waits_at s conn)) (gives (read_in s conn size) (waits_at s conn))) 1 0 in
    subst (λ u. Grew (told_calls s) (told_calls u) (call ∷ [])) (sym state)
    (grew_if (fits s 1 0) s _ _ (call ∷ [])
    (grew_by s.spent (read_done before conn (length (waits_at s conn)) (read_in s conn size)).spent s.calls (read_done before conn (length (waits_at s conn)) (read_in s conn size)).calls (call ∷ [])
    (done_spent before conn (length (waits_at s conn)) (read_in s conn size))
    (λ tells. done_calls before conn (length (waits_at s conn)) (read_in s conn size) ∙ ap (λ one. s.calls ++ one ∷ []) (same tells)))
    (grew_spent s.spent true s.calls s.calls (call ∷ []) refl))

-- ---- write

record WroteSome (found : Option MemoryLine) (n : ℕ) : Type 0 where
  line : MemoryLine
  there : found ≡ Some line
  room : n ≤ line.room

wrote_by : (none : Bool) (size room n : ℕ) → (if none then write_answer.NotNow else write_answer.Some (min size room)) ≡ write_answer.Some n → n ≤ room
wrote_by true size room n is = absurd (cc is)
wrote_by false size room n is =
    let same : min size room ≡ n = cc is in
    omega (arith, same)

wrote_some : (room listed : Bool) (found : Option MemoryLine) (size n : ℕ)
    → (if room then (if listed then write_answer.Failed else writes_of found size) else write_answer.Failed) ≡ write_answer.Some n → WroteSome found n
wrote_some true true found size n is = absurd (cc is)
wrote_some true false None size n is = absurd (cc is)
wrote_some true false (Some line) size n is = record { line = line; there = refl; room = wrote_by (line.room == 0) size line.room n is }
wrote_some false listed found size n is = absurd (cc is)

no_room_by : (none : Bool) (n : ℕ) → (if none then write_answer.NotNow else write_answer.Some n) ≡ write_answer.NotNow → none ≡ true
no_room_by true n is = refl
no_room_by false n is = absurd (cc is)

wrote_none : (room listed : Bool) (found : Option MemoryLine) (size : ℕ)
    → (if room then (if listed then write_answer.Failed else writes_of found size) else write_answer.Failed) ≡ write_answer.NotNow → WroteSome found 0 × (room_of found ≡ 0)
wrote_none true true found size is = absurd (cc is)
wrote_none true false None size is = absurd (cc is)
wrote_none true false (Some line) size is =
    (record { line = line; there = refl; room = omega arith }, eqb-true line.room 0 (no_room_by (line.room == 0) (min size line.room) is))
wrote_none false listed found size is = absurd (cc is)

pub write_not_now : (s : KeptWires) (conn size : ℕ) (result : WriteAnswer) → result ≡ written_in s conn size → result ≡ write_answer.NotNow
    → IfSome (told_lines s) (λ before. (before conn).room ≡ 0)
unfolding line_of_connection
write_not_now s conn size result answer is =
    let none : WroteSome (open_at s.lines conn) 0 × (room_of (open_at s.lines conn) ≡ 0) =
    wrote_none (fits s 1 size) (is_to_fail s) (open_at s.lines conn) size (sym answer ∙ is) in
    if_told s (λ before. (before conn).room ≡ 0) (ap room_of (line_at-open s.lines conn none.0.line none.0.there) ∙ ap room_of (sym none.0.there) ∙ none.1)

abbrev write_by : KeptWires → ℕ → List ℕ → WriteAnswer → KeptWires
write_by s conn piece answer = write_done (wires_with_call_kept (wires_with_call_counted s) (Writes conn piece answer) 1 (length piece)) conn answer

stays_at : (s : KeptWires) (conn : ℕ) (piece : List ℕ) (answer : WriteAnswer)
    → Told (told_lines s) (told_lines (write_by s conn piece answer)) (λ before now. StaysAtWrite answer (length s.lines) conn before now)
unfolding line_of_connection
stays_at s conn piece (write_answer.Some n) =
    told_still s _ (λ before now. StaysAtWrite (write_answer.Some n) (length s.lines) conn before now) (λ is. is) (
      λ other within differs.
          line_stays s (write_by s conn piece (write_answer.Some n)) (Writes conn piece (write_answer.Some n)) other refl refl refl
          (line_at-changed_other s.lines conn other (λ line. record line { room = line.room - n }) differs) refl (took_else conn other (take n piece) differs),
      record {
        taken = taken_stays s (write_by s conn piece (write_answer.Some n)) (Writes conn piece (write_answer.Some n)) conn refl refl;
        waits = changed_here (λ before now. waits_of s.acts s.done conn now ≡ waits_of s.acts s.done conn before) s.lines conn (λ line. record line { room = line.room - n })
            (λ line. refl) (λ line is_open. refl);
        shut = changed_here (λ before now. shut_of now ≡ shut_of before) s.lines conn (λ line. record line { room = line.room - n }) (λ line. refl) (λ line is_open. refl);
      },
    )
stays_at s conn piece write_answer.NotNow = stay s _ (Writes conn piece write_answer.NotNow) refl refl refl refl (λ at within. refl) (λ at. refl) (λ at. refl)
stays_at s conn piece write_answer.Failed = stay s _ (Writes conn piece write_answer.Failed) refl refl refl refl (λ at within. refl) (λ at. refl) (λ at. refl)

pub write_stays : (s t : KeptWires) (conn : ℕ) (piece : List ℕ) (result : WriteAnswer) → result ≡ written_in s conn (length piece) → t ≡ after_write_to s conn piece
    → Told (told_lines s) (told_lines t) (λ before now. StaysAtWrite result (length s.lines) conn before now)
write_stays s t conn piece result answer state =
    let all : Told (told_lines s) (told_lines (after_write_to s conn piece)) (λ before now. StaysAtWrite (written_in s conn (length piece)) (length s.lines) conn before now) =
    told_if (fits s 1 (length piece)) s _ _ (λ before now. StaysAtWrite (written_in s conn (length piece)) (length s.lines) conn before now)
    (stays_at s conn piece (written_in s conn (length piece))) (told_spent s _ _ refl) in
    subst (λ u. Told (told_lines s) (told_lines u) (λ before now. StaysAtWrite result (length s.lines) conn before now)) (sym state)
    (subst (λ a. Told (told_lines s) (told_lines (after_write_to s conn piece)) (λ before now. StaysAtWrite a (length s.lines) conn before now)) (sym answer) all)

gives_by : (s : KeptWires) (conn : ℕ) (piece : List ℕ) (answer : WriteAnswer) → ((n : ℕ) → answer ≡ write_answer.Some n → WroteSome (open_at s.lines conn) n)
    → Told (told_lines s) (told_lines (write_by s conn piece answer)) (λ before now. GivesWrittenOctets answer (before conn) (now conn) piece)
unfolding line_of_connection
gives_by s conn piece (write_answer.Some n) some =
    let found : WroteSome (open_at s.lines conn) n = some n refl in
    let before : room_of (line_at s.lines conn) ≡ found.line.room = ap room_of (line_at-open s.lines conn found.line found.there) in
    let after : room_of (line_at (memory_lines_with_change s.lines conn (λ line. record line { room = line.room - n })) conn) ≡ found.line.room - n =
    ap room_of (line_at-changed s.lines conn (λ line. record line { room = line.room - n }) found.line found.there) in
    told_still s _ (λ before now. GivesWrittenOctets (write_answer.Some n) (before conn) (now conn) piece) (λ is. is) (record {
      given = given_of-more conn s.calls (Writes conn piece (write_answer.Some n)) ∙ ap (λ os. given_of conn s.calls ++ os) (took_here conn (take n piece));
      room = omega (arith, before, after, found.room);
    })
gives_by s conn piece write_answer.NotNow some = told_still s _ (λ before now. Unit {0}) (λ is. is) tt
gives_by s conn piece write_answer.Failed some = told_still s _ (λ before now. Unit {0}) (λ is. is) tt

pub write_gives : (s t : KeptWires) (conn : ℕ) (piece : List ℕ) (result : WriteAnswer) → result ≡ written_in s conn (length piece) → t ≡ after_write_to s conn piece
    → Told (told_lines s) (told_lines t) (λ before now. GivesWrittenOctets result (before conn) (now conn) piece)
write_gives s t conn piece result answer state =
    let all : Told (told_lines s) (told_lines (after_write_to s conn piece)) (λ before now. GivesWrittenOctets (written_in s conn (length piece)) (before conn) (now conn) piece) =
    told_if (fits s 1 (length piece)) s _ _ (λ before now. GivesWrittenOctets (written_in s conn (length piece)) (before conn) (now conn) piece)
    (gives_by s conn piece (written_in s conn (length piece))
    (λ n is. wrote_some (fits s 1 (length piece)) (is_to_fail s) (open_at s.lines conn) (length piece) n is)) (told_spent s _ _ refl) in
    subst (λ u. Told (told_lines s) (told_lines u) (λ before now. GivesWrittenOctets result (before conn) (now conn) piece)) (sym state)
    (subst (λ a. Told (told_lines s) (told_lines (after_write_to s conn piece)) (λ before now. GivesWrittenOctets a (before conn) (now conn) piece)) (sym answer) all)

-- ---- close

not_closed : (closed : Option ℕ) (done : ℕ) → is_some closed ≡ false → done ≡ unwrap_or closed done
not_closed None done is_open = refl
not_closed (Some place) done is_open = absurd (cc is_open)

record SameLine (acts : List Act) (done conn : ℕ) (before now : Option MemoryLine) : Type 0 where
  waits : waits_of acts done conn now ≡ waits_of acts done conn before
  room : room_of now ≡ room_of before
  shut : shut_of now ≡ shut_of before

pub close_stays : (s : KeptWires) (conn : ℕ) → Told (told_lines s) (told_lines (after_close s conn)) (λ before now. AllStay (length s.lines) before now)
close_stays s conn =
    told_if (is_some (open_at s.lines conn)) s _ _ (λ before now. AllStay (length s.lines) before now)
    (told_still s _ (λ before now. AllStay (length s.lines) before now) (λ is. is) (λ at within.
    let same : SameLine s.acts s.done at (line_at s.lines at) (line_at (memory_lines_with_change s.lines conn (λ line. record line { closed = Some s.done })) at) =
    changed_any (SameLine s.acts s.done at) s.lines conn at (λ line. record line { closed = Some s.done })
    (λ line. record { waits = refl; room = refl; shut = refl })
    (λ line is_open. record {
      waits = ap (λ n. drop line.taken (octets_to at (between line.from n s.acts))) (not_closed line.closed s.done is_open);
      room = refl;
      shut = refl;
    }) in
    line_kept s _ (Closes conn) at refl same.waits same.room same.shut refl refl))
    (told_if (fits s 1 0) s _ _ (λ before now. AllStay (length s.lines) before now)
    (stay s _ (Closes conn) refl refl refl refl (λ at within. refl) (λ at. refl) (λ at. refl))
    (told_spent s _ _ refl))
