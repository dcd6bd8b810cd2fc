-- The record of wires in memory, call by call, and the connections that are open.
use Rattle.std.proofs.Common.{ℕ, zero, suc, ◌+◌, ◌-◌, ◌<◌, ◌≤◌, ◌≡◌, ◌==◌, not, nat_lt, inl, inr, Bool, true, false, List, [], ◌∷◌, ◌++◌, length, take, drop, Option, None, Some, refl, sym, ap, subst, ◌∙◌, arith, Vec, slice_set, if◌then◌else◌}
use Rattle.std.specs.Prelude.{IfSome, is_some, slice_get, vec_len, vec_capacity}
use Rattle.std.proofs.lemmas.Option.{slice_get_within}
use Rattle.std.proofs.lemmas.Bool.{cond-false, ne_eqb, cases_lt, lt-ltb, and_parts}
use Rattle.std.proofs.lemmas.List.{length-append, append_assoc, append-nil, take-append-le, drop-append-le, take_all, length-drop, length-set}
use Rattle.link_memory.specs.declared.act.Act.{Act}
use Rattle.link_memory.specs.declared.memory_line.MemoryLine.{MemoryLine}
use Rattle.link_memory.specs.declared.call_record.KeptCall.{KeptCall}
use Rattle.link_memory.specs.declared.call_record.CallRecord.{CallRecord}
use Rattle.link_trait.specs.Wires.{Call, Reading, Gave, NotNow, End, Failed, Reads, taken_of, octets_taken_by_call, given_of, given_by}
use Rattle.link_memory.specs.KeptCalls.{calls_with_octets, octet_count_of_calls, count_of_open_connections, call_of, IsCallRecordSound, KeepsCallInRecord, IsCallRecordInOrder, StaysOpen, IsUntouched}
use Rattle.link_memory.specs.WiresMemory.{KeptWires, fits, open_at, line_at, if_open}
use Rattle.link_memory.specs.declared.call_record.Note.{Note}

none_some : {A : Type 0} {x : A} → None ≡ Some x → ⊥
none_some is = cc is

true_false : true ≡ false → ⊥
true_false is = cc is

-- one call more
pub total-more : (ks : List KeptCall) (k : KeptCall) → octet_count_of_calls (ks ++ k ∷ []) ≡ octet_count_of_calls ks + k.octets
unfolding octet_count_of_calls
total-more [] k = omega arith
total-more (x ∷ ks) k = ap (λ n. x.octets + n) (total-more ks k) ∙ omega arith

pub told-more : (acts : List Act) (ks : List KeptCall) (os : List ℕ) (k : KeptCall) (xs : List ℕ) → length os ≡ octet_count_of_calls ks → k.octets ≡ length xs
    → calls_with_octets acts (ks ++ k ∷ []) (os ++ xs) ≡ calls_with_octets acts ks os ++ call_of acts xs k.note ∷ []
unfolding calls_with_octets octet_count_of_calls
told-more acts [] [] k xs all own = ap (λ ys. call_of acts ys k.note ∷ []) (take_all k.octets xs (omega (arith, own)))
told-more acts [] (o ∷ os) k xs all own = absurd (omega (arith, all))
told-more acts (x ∷ ks) os k xs all own =
    let within : x.octets ≤ length os = omega (arith, all) in
    let rest : length (drop x.octets os) ≡ octet_count_of_calls ks = omega (arith, all, length-drop x.octets os) in
    ap (λ ys. call_of acts ys x.note ∷ calls_with_octets acts (ks ++ k ∷ []) (drop x.octets (os ++ xs))) (take-append-le x.octets os xs within)
    ∙ ap (λ ys. call_of acts (take x.octets os) x.note ∷ calls_with_octets acts (ks ++ k ∷ []) ys) (drop-append-le x.octets os xs within)
    ∙ ap (λ cs. call_of acts (take x.octets os) x.note ∷ cs) (told-more acts ks (drop x.octets os) k xs rest own)

pub given_of-more : (conn : ℕ) (calls : List Call) (call : Call) → given_of conn (calls ++ call ∷ []) ≡ given_of conn calls ++ given_by conn call
unfolding given_of
given_of-more conn [] call = append-nil (given_by conn call)
given_of-more conn (x ∷ calls) call = ap (λ ys. given_by conn x ++ ys) (given_of-more conn calls call) ∙ sym (append_assoc (given_by conn x) (given_of conn calls) (given_by conn call))

pub taken_of-more : (conn : ℕ) (calls : List Call) (call : Call) → taken_of conn (calls ++ call ∷ []) ≡ taken_of conn calls ++ octets_taken_by_call conn call
unfolding taken_of
taken_of-more conn [] call = append-nil (octets_taken_by_call conn call)
taken_of-more conn (x ∷ calls) call = ap (λ ys. octets_taken_by_call conn x ++ ys) (taken_of-more conn calls call) ∙ sym (append_assoc (octets_taken_by_call conn x) (taken_of conn calls) (octets_taken_by_call conn call))

-- how many are open with one connection more, and with another one in the place of an open one
abbrev pub one_of : MemoryLine → ℕ
one_of line = if is_some line.closed then 0 else 1

pub opens-more : (lines : List MemoryLine) (line : MemoryLine) → count_of_open_connections (lines ++ line ∷ []) ≡ count_of_open_connections lines + one_of line
unfolding count_of_open_connections
opens-more [] line = omega arith
opens-more (x ∷ lines) line = ap (λ n. one_of x + n) (opens-more lines line) ∙ omega arith

pub opens-set : (lines : List MemoryLine) (place : ℕ) (line other : MemoryLine) → slice_get lines place ≡ Some line → is_some line.closed ≡ false
    → count_of_open_connections (slice_set lines place other) + 1 ≡ count_of_open_connections lines + one_of other
unfolding count_of_open_connections
opens-set [] place line other there is_open = absurd (none_some there)
opens-set (x ∷ lines) zero line other there is_open =
    let same : x ≡ line = cc there in
    let one : one_of x ≡ 1 = ap one_of same ∙ rw (is_open) refl in
    omega (arith, one)
opens-set (x ∷ lines) (suc place) line other there is_open = omega (arith, opens-set lines place line other there is_open)

-- a record with one call more: `after` connections are open then
pub sound_more : (r now : CallRecord) (call : Note) (xs : List ℕ) (before after places : ℕ) → IsCallRecordSound r before → KeepsCallInRecord r now call xs places
    → 1 + after ≡ before + places → r.places + places ≤ r.call_places → vec_len r.octets + length xs ≤ r.octet_places → IsCallRecordSound now after
sound_more r now call xs before after places sound keeps turn room octet_fits = record {
  octets = omega (arith, sound.octets, ap length keeps.octet_list, length-append r.octets.items xs, ap octet_count_of_calls keeps.calls, total-more r.kept.items (record { note = call; octets = length xs }));
  octet_room = omega (arith, keeps.octet_count, octet_fits, keeps.octet_places);
  octet_capacity = omega (arith, sound.octet_capacity, keeps.octet_capacity, keeps.octet_places);
  places = omega (arith, sound.places, keeps.call_count, keeps.taken, turn);
  call_room = omega (arith, keeps.taken, room, keeps.call_places);
  call_capacity = omega (arith, sound.call_capacity, keeps.call_capacity, keeps.call_places);
}

pub told_keep : (acts : List Act) (r now : CallRecord) (call : Note) (xs : List ℕ) (before places : ℕ) → IsCallRecordSound r before → KeepsCallInRecord r now call xs places
    → calls_with_octets acts now.kept.items now.octets.items ≡ calls_with_octets acts r.kept.items r.octets.items ++ call_of acts xs call ∷ []
told_keep acts r now call xs before places sound keeps =
    ap (λ ks. calls_with_octets acts ks now.octets.items) keeps.calls ∙ ap (λ os. calls_with_octets acts (r.kept.items ++ record { note = call; octets = length xs } ∷ []) os) keeps.octet_list
    ∙ told-more acts r.kept.items r.octets.items (record { note = call; octets = length xs }) xs sound.octets refl

-- a connection stays untouched at a call that neither takes from it nor gives to it
untouched_more : (acts : List Act) (r now : CallRecord) (call : Note) (xs : List ℕ) (before places conn : ℕ) → IsCallRecordSound r before → KeepsCallInRecord r now call xs places
    → IsUntouched conn (calls_with_octets acts r.kept.items r.octets.items) → octets_taken_by_call conn (call_of acts xs call) ≡ [] → given_by conn (call_of acts xs call) ≡ []
    → IsUntouched conn (calls_with_octets acts now.kept.items now.octets.items)
untouched_more acts r now call xs before places conn sound keeps none no_taking no_giving =
    let calls : calls_with_octets acts now.kept.items now.octets.items ≡ calls_with_octets acts r.kept.items r.octets.items ++ call_of acts xs call ∷ [] =
    told_keep acts r now call xs before places sound keeps in
    record {
      taken = ap (taken_of conn) calls ∙ taken_of-more conn (calls_with_octets acts r.kept.items r.octets.items) (call_of acts xs call)
          ∙ ap (λ os. os ++ octets_taken_by_call conn (call_of acts xs call)) none.taken ∙ no_taking;
      given = ap (given_of conn) calls ∙ given_of-more conn (calls_with_octets acts r.kept.items r.octets.items) (call_of acts xs call)
          ∙ ap (λ os. os ++ given_by conn (call_of acts xs call)) none.given ∙ no_giving;
    }

-- a call that takes one place was kept
pub stands_keep : {Y Z : Type 0} (acts : List Act) (r now : CallRecord) (lines : Vec MemoryLine Y) (again : Vec ℕ Z) (call : Note) (xs : List ℕ)
    → IsCallRecordInOrder acts r lines again → KeepsCallInRecord r now call xs 1 → r.places + 1 ≤ r.call_places → vec_len r.octets + length xs ≤ r.octet_places
    → ((conn : ℕ) → length lines.items < conn → octets_taken_by_call conn (call_of acts xs call) ≡ [])
    → ((conn : ℕ) → length lines.items < conn → given_by conn (call_of acts xs call) ≡ []) → IsCallRecordInOrder acts now lines again
stands_keep acts r now lines again call xs stands keeps room octet_fits no_taking no_giving = record {
  sound = sound_more r now call xs (count_of_open_connections lines.items) (count_of_open_connections lines.items) 1 stands.sound keeps (omega arith) room octet_fits;
  line_count = omega (arith, stands.line_count, keeps.call_count);
  line_room = omega (arith, stands.line_room, keeps.call_places);
  again_count = omega (arith, stands.again_count, keeps.call_count);
  again_room = omega (arith, stands.again_room, keeps.call_places);
  untouched = λ conn above.
      untouched_more acts r now call xs (count_of_open_connections lines.items) 1 conn stands.sound keeps (stands.untouched conn above) (no_taking conn above) (no_giving conn above);
}

-- a call that opens a connection was kept
pub stands_open : {Y Z : Type 0} (acts : List Act) (r now : CallRecord) (lines more : Vec MemoryLine Y) (again : Vec ℕ Z) (call : Note) (xs : List ℕ) (line : MemoryLine)
    → IsCallRecordInOrder acts r lines again → KeepsCallInRecord r now call xs 2 → r.places + 2 ≤ r.call_places → vec_len r.octets + length xs ≤ r.octet_places
    → more.items ≡ lines.items ++ line ∷ [] → vec_len more ≡ vec_len lines + 1 → vec_capacity lines ≤ vec_capacity more → line.closed ≡ None
    → ((conn : ℕ) → octets_taken_by_call conn (call_of acts xs call) ≡ []) → ((conn : ℕ) → given_by conn (call_of acts xs call) ≡ []) → IsCallRecordInOrder acts now more again
stands_open acts r now lines more again call xs line stands keeps room octet_fits grew count memory is_open no_taking no_giving =
    let one : one_of line ≡ 1 = ap (λ c. if is_some c then 0 else 1) is_open in
    let turn : count_of_open_connections more.items ≡ count_of_open_connections lines.items + 1 = ap count_of_open_connections grew ∙ opens-more lines.items line ∙ ap (λ n. count_of_open_connections lines.items + n) one in
    let longer : length more.items ≡ length lines.items + 1 = ap length grew ∙ length-append lines.items (line ∷ []) in
    record {
      sound = sound_more r now call xs (count_of_open_connections lines.items) (count_of_open_connections more.items) 2 stands.sound keeps (omega (arith, turn)) room octet_fits;
      line_count = omega (arith, stands.line_count, keeps.call_count, count);
      line_room = omega (arith, stands.line_room, keeps.call_places, memory);
      again_count = omega (arith, stands.again_count, keeps.call_count);
      again_room = omega (arith, stands.again_room, keeps.call_places);
      untouched = λ conn above.
          untouched_more acts r now call xs (count_of_open_connections lines.items) 2 conn stands.sound keeps (stands.untouched conn (omega (arith, longer, above))) (no_taking conn) (no_giving conn);
    }

-- the connection that it opens is untouched
pub opened_untouched : {Y Z : Type 0} (acts : List Act) (r now : CallRecord) (lines : Vec MemoryLine Y) (again : Vec ℕ Z) (call : Note) (xs : List ℕ)
    → IsCallRecordInOrder acts r lines again → KeepsCallInRecord r now call xs 2
    → ((conn : ℕ) → octets_taken_by_call conn (call_of acts xs call) ≡ []) → ((conn : ℕ) → given_by conn (call_of acts xs call) ≡ [])
    → IsUntouched (length lines.items + 1) (calls_with_octets acts now.kept.items now.octets.items)
opened_untouched acts r now lines again call xs stands keeps no_taking no_giving =
    untouched_more acts r now call xs (count_of_open_connections lines.items) 2 (length lines.items + 1) stands.sound keeps (stands.untouched (length lines.items + 1) (omega arith))
    (no_taking (length lines.items + 1)) (no_giving (length lines.items + 1))

-- an open connection by its number
pub record IsOpen (lines : List MemoryLine) (conn : ℕ) (line : MemoryLine) : Type 0 where
  pub some : 0 < conn
  pub get : slice_get lines (conn - 1) ≡ Some line
  pub is_open : is_some line.closed ≡ false

cond_some : (b : Bool) (found : Option MemoryLine) (line : MemoryLine) → (if b then None else found) ≡ Some line → (b ≡ false) × (found ≡ Some line)
cond_some true found line there = absurd (none_some there)
cond_some false found line there = (refl, there)

pub if_open_some : (found : Option MemoryLine) (line : MemoryLine) → if_open found ≡ Some line → (found ≡ Some line) × (is_some line.closed ≡ false)
if_open_some None line there = absurd (none_some there)
if_open_some (Some l) line there =
    let parts : (is_some l.closed ≡ false) × (Some l ≡ Some line) = cond_some (is_some l.closed) (Some l) line there in
    let same : l ≡ line = cc parts.1 in
    (parts.1, ap (λ x. is_some x.closed) (sym same) ∙ parts.0)

above_zero : (n : ℕ) → (n == 0) ≡ false → 0 < n
above_zero zero test = absurd (true_false test)
above_zero (suc n) test = omega arith

pub is_open_by : (lines : List MemoryLine) (conn : ℕ) (line : MemoryLine) → open_at lines conn ≡ Some line → IsOpen lines conn line
is_open_by lines conn line there =
    let found : (line_at lines conn ≡ Some line) × (is_some line.closed ≡ false) = if_open_some (line_at lines conn) line there in
    let place : ((conn == 0) ≡ false) × (slice_get lines (conn - 1) ≡ Some line) = cond_some (conn == 0) (slice_get lines (conn - 1)) line found.0 in
    record { some = above_zero conn place.0; get = place.1; is_open = found.1 }

-- an open connection became another one that is open, or was closed
pub stands_put : {Y Z : Type 0} (acts : List Act) (r : CallRecord) (lines now : Vec MemoryLine Y) (again : Vec ℕ Z) (conn : ℕ) (line other : MemoryLine)
    → IsCallRecordInOrder acts r lines again → open_at lines.items conn ≡ Some line → is_some other.closed ≡ false
    → now.items ≡ slice_set lines.items (conn - 1) other → vec_len now ≡ vec_len lines → vec_capacity now ≡ vec_capacity lines → IsCallRecordInOrder acts r now again
stands_put acts r lines now again conn line other stands there is_open put count memory =
    let here : IsOpen lines.items conn line = is_open_by lines.items conn line there in
    let one : one_of other ≡ 1 = ap (λ b. if b then 0 else 1) is_open in
    let same : count_of_open_connections now.items ≡ count_of_open_connections lines.items = omega (arith, ap count_of_open_connections put, opens-set lines.items (conn - 1) line other here.get here.is_open, one) in
    let long : length now.items ≡ length lines.items = ap length put ∙ length-set lines.items (conn - 1) other in
    record {
      sound = subst (IsCallRecordSound r) (sym same) stands.sound;
      line_count = omega (arith, stands.line_count, count);
      line_room = omega (arith, stands.line_room, memory);
      again_count = stands.again_count;
      again_room = stands.again_room;
      untouched = λ at above. stands.untouched at (omega (arith, long, above));
    }

pub stands_close : {Y Z : Type 0} (acts : List Act) (r kept : CallRecord) (lines now : Vec MemoryLine Y) (again : Vec ℕ Z) (conn : ℕ) (line other : MemoryLine) (call : Note)
    → IsCallRecordInOrder acts r lines again → open_at lines.items conn ≡ Some line → is_some other.closed ≡ true → KeepsCallInRecord r kept call [] 0
    → now.items ≡ slice_set lines.items (conn - 1) other → vec_len now ≡ vec_len lines → vec_capacity now ≡ vec_capacity lines
    → ((conn : ℕ) → octets_taken_by_call conn (call_of acts [] call) ≡ []) → ((conn : ℕ) → given_by conn (call_of acts [] call) ≡ []) → IsCallRecordInOrder acts kept now again
stands_close acts r kept lines now again conn line other call stands there is_closed keeps put count memory no_taking no_giving =
    let here : IsOpen lines.items conn line = is_open_by lines.items conn line there in
    let none : one_of other ≡ 0 = ap (λ b. if b then 0 else 1) is_closed in
    let less : count_of_open_connections now.items + 1 ≡ count_of_open_connections lines.items = omega (arith, ap count_of_open_connections put, opens-set lines.items (conn - 1) line other here.get here.is_open, none) in
    let long : length now.items ≡ length lines.items = ap length put ∙ length-set lines.items (conn - 1) other in
    record {
      sound = sound_more r kept call [] (count_of_open_connections lines.items) (count_of_open_connections now.items) 0 stands.sound keeps (omega (arith, less)) (omega (arith, stands.sound.call_room)) (omega (arith, stands.sound.octet_room));
      line_count = omega (arith, stands.line_count, count, keeps.call_count);
      line_room = omega (arith, stands.line_room, memory, keeps.call_places);
      again_count = omega (arith, stands.again_count, keeps.call_count);
      again_room = omega (arith, stands.again_room, keeps.call_places);
      untouched = λ at above.
          untouched_more acts r kept call [] (count_of_open_connections lines.items) 0 at stands.sound keeps (stands.untouched at (omega (arith, long, above))) (no_taking at) (no_giving at);
    }

not_below : (m n : ℕ) → not (nat_lt m n) ≡ true → n ≤ m
not_below m n test = elim (cases_lt m n) [
  | inl below ↦ absurd (true_false (sym test ∙ ap not (lt-ltb m n below)))
  | inr within ↦ within
]

-- what fits has room
pub fits_room : (s : KeptWires) (places octets : ℕ) → fits s places octets ≡ true → (s.places + places ≤ s.call_places) × (s.octets + octets ≤ s.octet_places)
fits_room s places octets test =
    let parts : (not (nat_lt s.call_places (s.places + places)) ≡ true) × (not (nat_lt s.octet_places (s.octets + octets)) ≡ true) = and_parts _ _ test in
    (not_below s.call_places (s.places + places) parts.0, not_below s.octet_places (s.octets + octets) parts.1)

stands_stay_at : {Y Z : Type 0} (acts : List Act) (r : CallRecord) (lines now : Vec MemoryLine Y) (again : Vec ℕ Z) (conn : ℕ) (other : MemoryLine) (found : Option MemoryLine)
    → open_at lines.items conn ≡ found → IsCallRecordInOrder acts r lines again → StaysOpen lines.items conn other
    → now.items ≡ slice_set lines.items (conn - 1) other → vec_len now ≡ vec_len lines → vec_capacity now ≡ vec_capacity lines → IsCallRecordInOrder acts r now again
stands_stay_at acts r lines now again conn other None there stands stays put count memory = absurd (true_false (sym (sym (ap is_some there) ∙ stays.open_before)))
stands_stay_at acts r lines now again conn other (Some line) there stands stays put count memory =
    stands_put acts r lines now again conn line other stands there stays.open_after put count memory

-- a line in the place of one that is open
pub stands_stay : {Y Z : Type 0} (acts : List Act) (r : CallRecord) (lines now : Vec MemoryLine Y) (again : Vec ℕ Z) (conn : ℕ) (other : MemoryLine)
    → IsCallRecordInOrder acts r lines again → StaysOpen lines.items conn other
    → now.items ≡ slice_set lines.items (conn - 1) other → vec_len now ≡ vec_len lines → vec_capacity now ≡ vec_capacity lines → IsCallRecordInOrder acts r now again
stands_stay acts r lines now again conn other stands stays put count memory =
    stands_stay_at acts r lines now again conn other (open_at lines.items conn) refl stands stays put count memory

pub length-told : (acts : List Act) (ks : List KeptCall) (os : List ℕ) → length (calls_with_octets acts ks os) ≡ length ks
unfolding calls_with_octets
length-told acts [] os = refl
length-told acts (k ∷ ks) os = ap suc (length-told acts ks (drop k.octets os))

-- a connection joined those whose reads left octets
pub stands_leave : {Y Z : Type 0} (acts : List Act) (r : CallRecord) (lines : Vec MemoryLine Y) (again more : Vec ℕ Z)
    → IsCallRecordInOrder acts r lines again → vec_len again + 1 ≤ vec_len r.kept → vec_len more ≡ vec_len again + 1 → vec_capacity again ≤ vec_capacity more → IsCallRecordInOrder acts r lines more
stands_leave acts r lines again more stands room count memory = record {
  sound = stands.sound;
  line_count = stands.line_count;
  line_room = stands.line_room;
  untouched = stands.untouched;
  again_count = omega (arith, room, count);
  again_room = omega (arith, stands.again_room, memory);
}

-- an open connection has a place that its close can take
pub close_fits : {Y Z : Type 0} (acts : List Act) (r : CallRecord) (lines : Vec MemoryLine Y) (again : Vec ℕ Z) (conn : ℕ) (line : MemoryLine)
    → IsCallRecordInOrder acts r lines again → open_at lines.items conn ≡ Some line → vec_len r.kept + 1 ≤ vec_capacity r.kept
close_fits acts r lines again conn line stands there =
    let here : IsOpen lines.items conn line = is_open_by lines.items conn line there in
    let other : MemoryLine = record line { closed = Some 0 } in
    omega (arith, stands.sound.places, stands.sound.call_room, stands.sound.call_capacity, opens-set lines.items (conn - 1) line other here.get here.is_open)

-- and its number is one of a place in the list
pub open_place : (lines : List MemoryLine) (conn : ℕ) (line : MemoryLine) → open_at lines conn ≡ Some line → (1 ≤ conn) × (conn - 1 < length lines)
open_place lines conn line there =
    let here : IsOpen lines conn line = is_open_by lines conn line there in
    (omega (arith, here.some), slice_get_within lines (conn - 1) line here.get)

-- an empty record
pub told_new : (acts : List Act) (ks : List KeptCall) (os : List ℕ) → ks ≡ [] → calls_with_octets acts ks os ≡ []
unfolding calls_with_octets
told_new acts ks os none = ap (λ xs. calls_with_octets acts xs os) none

none_untouched : (conn : ℕ) (calls : List Call) → calls ≡ [] → IsUntouched conn calls
unfolding given_of taken_of
none_untouched conn calls none = record { taken = ap (taken_of conn) none; given = ap (given_of conn) none }

none_open : (lines : List MemoryLine) → lines ≡ [] → count_of_open_connections lines ≡ 0
unfolding count_of_open_connections
none_open lines none = ap count_of_open_connections none

pub stands_new : {Y Z : Type 0} (acts : List Act) (r : CallRecord) (lines : Vec MemoryLine Y) (again : Vec ℕ Z) → IsCallRecordSound r 0 → r.kept.items ≡ [] → lines.items ≡ []
    → vec_len lines ≡ 0 → vec_len again ≡ 0 → r.call_places ≤ vec_capacity lines → r.call_places ≤ vec_capacity again → IsCallRecordInOrder acts r lines again
stands_new acts r lines again sound calls none line_count again_count line_room again_room = record {
  sound = subst (IsCallRecordSound r) (sym (none_open lines.items none)) sound;
  line_count = omega (arith, line_count);
  line_room = line_room;
  again_count = omega (arith, again_count);
  again_room = again_room;
  untouched = λ conn above. none_untouched conn (calls_with_octets acts r.kept.items r.octets.items) (told_new acts r.kept.items r.octets.items calls);
}

differs : (m n : ℕ) → m < n → (m == n) ≡ false
differs m n less = ne_eqb m n (λ same. absurd (omega (arith, same, less)))

-- the number of an open connection is at most that of the newest
pub open_within : (lines : List MemoryLine) (conn : ℕ) (found : Option MemoryLine) → found ≡ open_at lines conn → IfSome found (λ line. conn ≤ length lines)
open_within lines conn None there = tt
open_within lines conn (Some line) there = omega (arith, (open_place lines conn line (sym there)).1)

pub open_found : (lines : List MemoryLine) (conn : ℕ) (found : Option MemoryLine) → found ≡ open_at lines conn → IfSome found (λ line. line_at lines conn ≡ Some line)
open_found lines conn None there = tt
open_found lines conn (Some line) there = (if_open_some (line_at lines conn) line (sym there)).0

-- a write to an opened connection gives nothing to a later one, and a read takes nothing from it
pub given_to_other : (newest conn other n : ℕ) (piece : List ℕ) → conn ≤ newest → newest < other → (if conn == other then take n piece else []) ≡ []
given_to_other newest conn other n piece opened later = cond-false (conn == other) (take n piece) [] (differs conn other (omega arith))

pub taken_from_other : (newest conn other size waits : ℕ) (reading : Reading) → conn ≤ newest → newest < other → octets_taken_by_call other (Reads conn size waits reading) ≡ []
taken_from_other newest conn other size waits (Gave octets) opened later = cond-false (conn == other) octets [] (differs conn other (omega arith))
taken_from_other newest conn other size waits NotNow opened later = refl
taken_from_other newest conn other size waits End opened later = refl
taken_from_other newest conn other size waits Failed opened later = refl
