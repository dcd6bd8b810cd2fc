-- What wires in memory tell of each connection, from one state to the next.
use Rattle.std.proofs.Common.{ℕ, zero, suc, ◌+◌, ◌-◌, ◌<◌, ◌≤◌, ◌≡◌, ◌≢◌, ◌==◌, inl, inr, Bool, true, false, List, [], ◌∷◌, ◌++◌, length, take, drop, Option, None, Some, refl, sym, ap, subst, ◌∙◌, arith, slice_set, if◌then◌else◌}
use Rattle.std.specs.Prelude.{is_some, slice_get, unwrap_or}
use Rattle.std.proofs.lemmas.Bool.{cond-false, ne_eqb, cases_eq, cases_lt}
use Rattle.std.proofs.lemmas.List.{append-nil, append_assoc, drop-append-le, drop_all}
use Rattle.std.proofs.Math.Seq.{take-add}
use Rattle.link_memory.specs.declared.act.Act.{Act}
use Rattle.link_memory.specs.declared.act.Act.TheVariants as act
use Rattle.link_memory.specs.declared.memory_line.MemoryLine.{MemoryLine}
use Rattle.link_trait.specs.Wires.{Call, Line, Lines, Told, taken_of, octets_taken_by_call, given_of, given_by, OnlyAdds, KeepsOctets}
use Rattle.link_memory.specs.WiresMemory.{KeptWires, octets_to, brought_by, between, waits_of, line_at, open_at, memory_lines_with_change, changed_at, line_of_connection, told_lines, room_of, shut_of, lines_after, new_line, coming, wires_with_call_kept, wires_with_call_counted}
use Rattle.link_memory.proofs.KeptLists.{taken_of-more, given_of-more, if_open_some, open_place}

-- ---- what is told, where a capacity was found spent and where it wasn't

told_later : (before now : Bool) (f g : Lines) (Holds : Lines → Lines → Type 0) → (before ≡ true → now ≡ true) → Holds f g
    → Told (if before then None else Some f) (if now then None else Some g) Holds
told_later true true f g Holds later holds = tt
told_later true false f g Holds later holds = absurd (cc (later refl))
told_later false true f g Holds later holds = tt
told_later false false f g Holds later holds = holds

told_never : (before now : Bool) (f g : Lines) (Holds : Lines → Lines → Type 0) → now ≡ true
    → Told (if before then None else Some f) (if now then None else Some g) Holds
told_never true true f g Holds spent = tt
told_never before false f g Holds spent = absurd (cc spent)
told_never false true f g Holds spent = tt

-- it is told still
pub told_still : (s t : KeptWires) (Holds : Lines → Lines → Type 0) → (s.spent ≡ true → t.spent ≡ true) → Holds (line_of_connection s) (line_of_connection t)
    → Told (told_lines s) (told_lines t) Holds
unfolding told_lines
told_still s t Holds later holds = told_later s.spent t.spent (line_of_connection s) (line_of_connection t) Holds later holds

-- it is told no more
pub told_spent : (s t : KeptWires) (Holds : Lines → Lines → Type 0) → t.spent ≡ true → Told (told_lines s) (told_lines t) Holds
unfolding told_lines
told_spent s t Holds spent = told_never s.spent t.spent (line_of_connection s) (line_of_connection t) Holds spent

pub told_if : (b : Bool) (s x y : KeptWires) (Holds : Lines → Lines → Type 0) → Told (told_lines s) (told_lines x) Holds → Told (told_lines s) (told_lines y) Holds
    → Told (told_lines s) (told_lines (if b then x else y)) Holds
told_if true s x y Holds yes_holds no_holds = yes_holds
told_if false s x y Holds yes_holds no_holds = no_holds

-- ---- lines in their list

slice_get-more : (lines : List MemoryLine) (line : MemoryLine) (place : ℕ) → place < length lines → slice_get (lines ++ line ∷ []) place ≡ slice_get lines place
slice_get-more [] line place below = absurd (omega (arith, below))
slice_get-more (x ∷ lines) line zero below = refl
slice_get-more (x ∷ lines) line (suc place) below = slice_get-more lines line place (omega (arith, below))

slice_get-put : (lines : List MemoryLine) (line : MemoryLine) (place : ℕ) → place < length lines → slice_get (slice_set lines place line) place ≡ Some line
slice_get-put [] line place below = absurd (omega (arith, below))
slice_get-put (x ∷ lines) line zero below = refl
slice_get-put (x ∷ lines) line (suc place) below = slice_get-put lines line place (omega (arith, below))

slice_get-other : (lines : List MemoryLine) (line : MemoryLine) (place other : ℕ) → other ≢ place → slice_get (slice_set lines place line) other ≡ slice_get lines other
slice_get-other [] line place other differs = refl
slice_get-other (x ∷ lines) line zero zero differs = absurd (differs refl)
slice_get-other (x ∷ lines) line zero (suc other) differs = refl
slice_get-other (x ∷ lines) line (suc place) zero differs = refl
slice_get-other (x ∷ lines) line (suc place) (suc other) differs = slice_get-other lines line place other (λ same. differs (ap suc same))

-- a number above 0 is that of a place, and 0 is none
line_at-place : (lines : List MemoryLine) (conn : ℕ) → 0 < conn → line_at lines conn ≡ slice_get lines (conn - 1)
line_at-place lines conn some = cond-false (conn == 0) None (slice_get lines (conn - 1)) (ne_eqb conn 0 (λ same. absurd (omega (arith, same, some))))

line_at-none : (lines : List MemoryLine) (conn : ℕ) → conn ≤ 0 → line_at lines conn ≡ None
line_at-none lines conn none =
    let zero_is : conn ≡ 0 = omega (arith, none) in
    ap (line_at lines) zero_is

-- the lines before stay where one more is opened
pub line_at-more : (lines : List MemoryLine) (line : MemoryLine) (conn : ℕ) → conn ≤ length lines → line_at (lines ++ line ∷ []) conn ≡ line_at lines conn
line_at-more lines line conn within = elim (cases_lt 0 conn) [
  | inl some ↦
      line_at-place (lines ++ line ∷ []) conn some ∙ slice_get-more lines line (conn - 1) (omega (arith, some, within)) ∙ sym (line_at-place lines conn some)
  | inr none ↦ line_at-none (lines ++ line ∷ []) conn none ∙ sym (line_at-none lines conn none)
]

line_at-put : (lines : List MemoryLine) (line : MemoryLine) (conn : ℕ) → 1 ≤ conn → conn - 1 < length lines → line_at (slice_set lines (conn - 1) line) conn ≡ Some line
line_at-put lines line conn some within = line_at-place (slice_set lines (conn - 1) line) conn (omega (arith, some)) ∙ slice_get-put lines line (conn - 1) within

line_at-other : (lines : List MemoryLine) (line : MemoryLine) (conn other : ℕ) → 1 ≤ conn → other ≢ conn → line_at (slice_set lines (conn - 1) line) other ≡ line_at lines other
line_at-other lines line conn other some differs = elim (cases_lt 0 other) [
  | inl above ↦
      line_at-place (slice_set lines (conn - 1) line) other above
      ∙ slice_get-other lines line (conn - 1) (other - 1) (λ same. differs (omega (arith, same, some, above)))
      ∙ sym (line_at-place lines other above)
  | inr none ↦ line_at-none (slice_set lines (conn - 1) line) other none ∙ sym (line_at-none lines other none)
]

-- the other lines stay where one that is open changes
other_when : (lines : List MemoryLine) (conn other : ℕ) (change : MemoryLine → MemoryLine) (found : Option MemoryLine) → open_at lines conn ≡ found → other ≢ conn
    → line_at (changed_at lines conn change found) other ≡ line_at lines other
other_when lines conn other change None there differs = refl
other_when lines conn other change (Some line) there differs = line_at-other lines (change line) conn other (open_place lines conn line there).0 differs

pub line_at-changed_other : (lines : List MemoryLine) (conn other : ℕ) (change : MemoryLine → MemoryLine) → other ≢ conn → line_at (memory_lines_with_change lines conn change) other ≡ line_at lines other
line_at-changed_other lines conn other change differs = other_when lines conn other change (open_at lines conn) refl differs

-- and one that is open is changed
pub line_at-changed : (lines : List MemoryLine) (conn : ℕ) (change : MemoryLine → MemoryLine) (line : MemoryLine) → open_at lines conn ≡ Some line
    → line_at (memory_lines_with_change lines conn change) conn ≡ Some (change line)
line_at-changed lines conn change line there =
    ap (λ found. line_at (changed_at lines conn change found) conn) there
    ∙ line_at-put lines (change line) conn (open_place lines conn line there).0 (open_place lines conn line there).1

pub line_at-open : (lines : List MemoryLine) (conn : ℕ) (line : MemoryLine) → open_at lines conn ≡ Some line → line_at lines conn ≡ Some line
line_at-open lines conn line there = (if_open_some (line_at lines conn) line there).0

-- so whatever holds of each line and of an open one with the change holds of the lines before and after
changed_when : (P : Option MemoryLine → Option MemoryLine → Type 0) (lines : List MemoryLine) (conn : ℕ) (change : MemoryLine → MemoryLine) (found : Option MemoryLine)
    → open_at lines conn ≡ found → ((line : Option MemoryLine) → P line line) → ((line : MemoryLine) → is_some line.closed ≡ false → P (Some line) (Some (change line)))
    → P (line_at lines conn) (line_at (changed_at lines conn change found) conn)
changed_when P lines conn change None there same other = same (line_at lines conn)
changed_when P lines conn change (Some line) there same other =
    subst (λ after. P (line_at lines conn) after) (sym (line_at-put lines (change line) conn (open_place lines conn line there).0 (open_place lines conn line there).1))
    (subst (λ before. P before (Some (change line))) (sym (line_at-open lines conn line there)) (other line (if_open_some (line_at lines conn) line there).1))

pub changed_here : (P : Option MemoryLine → Option MemoryLine → Type 0) (lines : List MemoryLine) (conn : ℕ) (change : MemoryLine → MemoryLine)
    → ((line : Option MemoryLine) → P line line) → ((line : MemoryLine) → is_some line.closed ≡ false → P (Some line) (Some (change line)))
    → P (line_at lines conn) (line_at (memory_lines_with_change lines conn change) conn)
changed_here P lines conn change same other = changed_when P lines conn change (open_at lines conn) refl same other

pub changed_any : (P : Option MemoryLine → Option MemoryLine → Type 0) (lines : List MemoryLine) (conn at : ℕ) (change : MemoryLine → MemoryLine)
    → ((line : Option MemoryLine) → P line line) → ((line : MemoryLine) → is_some line.closed ≡ false → P (Some line) (Some (change line)))
    → P (line_at lines at) (line_at (memory_lines_with_change lines conn change) at)
changed_any P lines conn at change same other = elim (cases_eq at conn) [
  | inl here ↦ subst (λ n. P (line_at lines n) (line_at (memory_lines_with_change lines conn change) n)) (sym here) (changed_here P lines conn change same other)
  | inr differs ↦ subst (λ line. P (line_at lines at) line) (sym (line_at-changed_other lines conn at change differs)) (same (line_at lines at))
]

-- ---- what waits

pub octets_to-append : (conn : ℕ) (some more : List Act) → octets_to conn (some ++ more) ≡ octets_to conn some ++ octets_to conn more
unfolding octets_to
octets_to-append conn [] more = refl
octets_to-append conn (one ∷ some) more =
    ap (λ os. brought_by conn one ++ os) (octets_to-append conn some more) ∙ sym (append_assoc (brought_by conn one) (octets_to conn some) (octets_to conn more))

-- between two places stands what stood there before, and more where the second lies behind
pub between-more : (from to further : ℕ) (acts : List Act) → to ≤ further
    → between from further acts ≡ between from to acts ++ take ((further - from) - (to - from)) (drop (to - from) (drop from acts))
between-more from to further acts later =
    let whole : further - from ≡ (to - from) + ((further - from) - (to - from)) = omega (arith, later) in
    ap (λ n. take n (drop from acts)) whole ∙ take-add (to - from) ((further - from) - (to - from)) (drop from acts)

-- what waits behind so many octets taken, where more octets come
record Longer (before now : List ℕ) : Type 0 where
  more : List ℕ
  is : now ≡ before ++ more

longer_behind : (n : ℕ) (some more : List ℕ) → Longer (drop n some) (drop n (some ++ more))
longer_behind n some more = elim (cases_lt (length some) n) [
  | inl past ↦ record {
    more = drop n (some ++ more);
    is = ap (λ xs. xs ++ drop n (some ++ more)) (sym (drop_all n some (omega (arith, past))));
  }
  | inr within ↦ record { more = more; is = drop-append-le n some more within }
]

pub drop_twice : (n m : ℕ) (xs : List ℕ) → drop (n + m) xs ≡ drop m (drop n xs)
drop_twice zero m xs =
    let same : zero + m ≡ m = omega arith in
    ap (λ k. drop k xs) same
drop_twice (suc n) m [] =
    let none : List ℕ = [] in
    drop_all (suc n + m) none (omega arith) ∙ sym (drop_all m none (omega arith))
drop_twice (suc n) m (x ∷ xs) =
    let same : suc n + m ≡ suc (n + m) = omega arith in
    ap (λ k. drop k (x ∷ xs)) same ∙ drop_twice n m xs

-- ---- what is told of a connection

abbrev line_of : List ℕ → List ℕ → List ℕ → ℕ → Bool → Line
line_of taken given waits room shut = record { taken = taken; given = given; waits = waits; room = room; shut = shut }

same_line : (taken given waits taken' given' waits' : List ℕ) (room room' : ℕ) (shut shut' : Bool) → taken' ≡ taken → given' ≡ given → waits' ≡ waits → room' ≡ room → shut' ≡ shut
    → line_of taken' given' waits' room' shut' ≡ line_of taken given waits room shut
same_line taken given waits taken' given' waits' room room' shut shut' a b c d e = cc (a, b, c, d, e)

-- the octets taken and given, where a call takes none and gives none
pub taken_stays : (s t : KeptWires) (call : Call) (conn : ℕ) → t.calls ≡ s.calls ++ call ∷ [] → octets_taken_by_call conn call ≡ [] → taken_of conn t.calls ≡ taken_of conn s.calls
taken_stays s t call conn calls none =
    ap (taken_of conn) calls ∙ taken_of-more conn s.calls call ∙ ap (λ os. taken_of conn s.calls ++ os) none ∙ append-nil (taken_of conn s.calls)

pub given_stays : (s t : KeptWires) (call : Call) (conn : ℕ) → t.calls ≡ s.calls ++ call ∷ [] → given_by conn call ≡ [] → given_of conn t.calls ≡ given_of conn s.calls
given_stays s t call conn calls none =
    ap (given_of conn) calls ∙ given_of-more conn s.calls call ∙ ap (λ os. given_of conn s.calls ++ os) none ∙ append-nil (given_of conn s.calls)

-- it stays, where a call takes nothing from it and gives nothing to it, and what waits, the room and the peer's side stay
pub line_kept : (s t : KeptWires) (call : Call) (conn : ℕ) → t.calls ≡ s.calls ++ call ∷ [] → waits_of t.acts t.done conn (line_at t.lines conn) ≡ waits_of s.acts s.done conn (line_at s.lines conn)
    → room_of (line_at t.lines conn) ≡ room_of (line_at s.lines conn) → shut_of (line_at t.lines conn) ≡ shut_of (line_at s.lines conn)
    → octets_taken_by_call conn call ≡ [] → given_by conn call ≡ [] → line_of_connection t conn ≡ line_of_connection s conn
unfolding line_of_connection
line_kept s t call conn calls waits room shut no_taking no_giving =
    same_line _ _ _ _ _ _ _ _ _ _ (taken_stays s t call conn calls no_taking) (given_stays s t call conn calls no_giving) waits room shut

pub line_stays : (s t : KeptWires) (call : Call) (conn : ℕ) → t.calls ≡ s.calls ++ call ∷ [] → t.acts ≡ s.acts → t.done ≡ s.done → line_at t.lines conn ≡ line_at s.lines conn
    → octets_taken_by_call conn call ≡ [] → given_by conn call ≡ [] → line_of_connection t conn ≡ line_of_connection s conn
line_stays s t call conn calls acts done line no_taking no_giving =
    let waits : waits_of t.acts t.done conn (line_at t.lines conn) ≡ waits_of s.acts s.done conn (line_at s.lines conn) =
    ap (λ xs. waits_of xs t.done conn (line_at t.lines conn)) acts ∙ ap (λ n. waits_of s.acts n conn (line_at t.lines conn)) done ∙ ap (waits_of s.acts s.done conn) line in
    line_kept s t call conn calls waits (ap room_of line) (ap shut_of line) no_taking no_giving

-- ---- behind a turn: a line with more acts done, more room or less, or a peer that has closed

record LaterOf (before now : MemoryLine) : Type 0 where
  from : now.from ≡ before.from
  closed : now.closed ≡ before.closed
  taken : now.taken ≡ before.taken
  shut : before.is_shut ≡ true → now.is_shut ≡ true

abbrev Later : Option MemoryLine → Option MemoryLine → Type 0
Later None None = Unit {0}
Later None (Some now) = ⊥
Later (Some before) None = ⊥
Later (Some before) (Some now) = LaterOf before now

later_same : (found : Option MemoryLine) → Later found found
later_same None = tt
later_same (Some line) = record { from = refl; closed = refl; taken = refl; shut = λ is. is }

later_after : (lines : List MemoryLine) (done room conn : ℕ) (one : Option Act) → conn ≤ length lines → Later (line_at lines conn) (line_at (lines_after lines done room one) conn)
later_after lines done room conn None within = later_same (line_at lines conn)
later_after lines done room conn (Some act.Accept) within =
    subst (λ line. Later (line_at lines conn) line) (sym (line_at-more lines (new_line done room) conn within)) (later_same (line_at lines conn))
later_after lines done room conn (Some (act.Bring at octets)) within = later_same (line_at lines conn)
later_after lines done room conn (Some (act.Room at more)) within =
    changed_any Later lines at conn (λ line. record line { room = more }) later_same (λ line is_open. record { from = refl; closed = refl; taken = refl; shut = λ is. is })
later_after lines done room conn (Some (act.Shut at)) within =
    changed_any Later lines at conn (λ line. record line { is_shut = true }) later_same (λ line is_open. record { from = refl; closed = refl; taken = refl; shut = λ is. refl })
later_after lines done room conn (Some act.Quiet) within = later_same (line_at lines conn)

abbrev waits_with : List Act → ℕ → ℕ → ℕ → Option ℕ → ℕ → List ℕ
waits_with acts done conn from closed taken = drop taken (octets_to conn (between from (unwrap_or closed done) acts))

longer_brought : (acts : List Act) (done count conn from : ℕ) (closed : Option ℕ)
    → Longer (octets_to conn (between from (unwrap_or closed done) acts)) (octets_to conn (between from (unwrap_or closed (done + count)) acts))
longer_brought acts done count conn from None = record {
  more = octets_to conn (take ((done + count - from) - (done - from)) (drop (done - from) (drop from acts)));
  is = ap (octets_to conn) (between-more from done (done + count) acts (omega arith))
      ∙ octets_to-append conn (between from done acts) (take ((done + count - from) - (done - from)) (drop (done - from) (drop from acts)));
}
longer_brought acts done count conn from (Some place) = record { more = []; is = sym (append-nil (octets_to conn (between from place acts))) }

longer_drop : (n : ℕ) (before now : List ℕ) → Longer before now → Longer (drop n before) (drop n now)
longer_drop n before now longer = subst (λ xs. Longer (drop n before) (drop n xs)) (sym longer.is) (longer_behind n before longer.more)

longer_waits : (acts : List Act) (done count conn : ℕ) (before now : Option MemoryLine) → Later before now → Longer (waits_of acts done conn before) (waits_of acts (done + count) conn now)
longer_waits acts done count conn None None later = record { more = []; is = refl }
longer_waits acts done count conn None (Some now) later = absurd later
longer_waits acts done count conn (Some before) None later = absurd later
longer_waits acts done count conn (Some before) (Some now) later =
    let same : waits_of acts (done + count) conn (Some now) ≡ waits_with acts (done + count) conn before.from before.closed before.taken =
    ap (λ n. waits_with acts (done + count) conn n now.closed now.taken) later.from ∙ ap (λ o. waits_with acts (done + count) conn before.from o now.taken) later.closed
    ∙ ap (waits_with acts (done + count) conn before.from before.closed) later.taken in
    subst (λ xs. Longer (waits_of acts done conn (Some before)) xs) (sym same) (longer_drop before.taken _ _ (longer_brought acts done count conn before.from before.closed))

shut_later : (before now : Option MemoryLine) → Later before now → shut_of before ≡ true → shut_of now ≡ true
shut_later None None later is = is
shut_later None (Some now) later is = absurd later
shut_later (Some before) None later is = absurd later
shut_later (Some before) (Some now) later is = later.shut is

pub record Grows (before now : Line) : Type 0 where
  pub adds : OnlyAdds before now
  pub keeps : KeepsOctets before now

pub grows_same : (before now : Line) → now ≡ before → Grows before now
grows_same before now same = record {
  adds = record { more = []; waits = ap (λ l. l.waits) same ∙ sym (append-nil before.waits); shut = λ is. ap (λ l. l.shut) same ∙ is };
  keeps = record { taken = ap (λ l. l.taken) same; given = ap (λ l. l.given) same };
}

grows_by : (s t : KeptWires) (call : Call) (count conn : ℕ) → t.calls ≡ s.calls ++ call ∷ [] → t.acts ≡ s.acts → t.done ≡ s.done + count
    → Later (line_at s.lines conn) (line_at t.lines conn) → octets_taken_by_call conn call ≡ [] → given_by conn call ≡ [] → Grows (line_of_connection s conn) (line_of_connection t conn)
unfolding line_of_connection
grows_by s t call count conn calls acts done later no_taking no_giving =
    let longer : Longer (waits_of s.acts s.done conn (line_at s.lines conn)) (waits_of s.acts (s.done + count) conn (line_at t.lines conn)) =
    longer_waits s.acts s.done count conn (line_at s.lines conn) (line_at t.lines conn) later in
    record {
      adds = record {
        more = longer.more;
        waits = ap (λ xs. waits_of xs t.done conn (line_at t.lines conn)) acts ∙ ap (λ n. waits_of s.acts n conn (line_at t.lines conn)) done ∙ longer.is;
        shut = shut_later (line_at s.lines conn) (line_at t.lines conn) later;
      };
      keeps = record { taken = taken_stays s t call conn calls no_taking; given = given_stays s t call conn calls no_giving };
    }

-- what comes next adds octets, sets room or closes the peer's side, at the connections that are opened
pub next_grows : (s : KeptWires) (first : ℕ × Option ℕ) (next : ℕ × Option Act) (call : Call) (places conn : ℕ) → conn ≤ length s.lines → octets_taken_by_call conn call ≡ [] → given_by conn call ≡ []
    → Grows (line_of_connection s conn) (line_of_connection (wires_with_call_kept (coming (wires_with_call_counted s) first next).state call places 0) conn)
next_grows s (passed, Some at) next call places conn within no_taking no_giving =
    grows_same (line_of_connection s conn) _ (line_stays s _ call conn refl refl refl refl no_taking no_giving)
next_grows s (passed, None) (count, one) call places conn within no_taking no_giving =
    grows_by s _ call count conn refl refl refl (later_after s.lines (s.done + count) s.room conn one within) no_taking no_giving
