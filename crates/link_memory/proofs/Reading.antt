-- A read of wires in memory that takes octets.
use Rattle.std.proofs.Common.{ℕ, ◌+◌, ◌-◌, ◌<◌, ◌≤◌, ◌≡◌, ◌==◌, min, true, false, nat_lt, List, [], ◌∷◌, ◌++◌, length, take, drop, slice_set, Some, if◌then◌else◌, inl, inr, refl, sym, ap, subst, ◌∙◌, arith}
use Rattle.std.proofs.lemmas.Bool.{cond-true, ne_eqb, cases_lt, cases_Bool, lt-ltb, ltb-true}
use Rattle.std.proofs.lemmas.List.{length-drop, take_all}
use Rattle.link_memory.specs.declared.memory_line.MemoryLine.{MemoryLine}
use Rattle.link_trait.specs.declared.wires.ReadAnswer.{ReadAnswer}
use Rattle.link_trait.specs.declared.wires.ReadAnswer.TheVariants as read_answer
use Rattle.link_trait.specs.Wires.{Reads, Gave}
use Rattle.link_memory.specs.WiresMemory.{KeptWires, fits, wires_with_call_kept, wires_with_call_counted, is_to_fail, open_at, waits_at, read_in, read_done, gives, after_read}

-- how many octets wait, and which were copied
pub counted_waits : (size count taken : ℕ) (whole waits : List ℕ) → waits ≡ drop taken whole → count ≡ min size (length whole - taken) → count ≡ min size (length waits)
counted_waits size count taken whole waits is counted = counted ∙ ap (min size) (sym (ap length is ∙ length-drop taken whole))

pub copied_waits : (size count taken : ℕ) (into whole waits : List ℕ) → waits ≡ drop taken whole → count ≡ min size (length whole - taken)
    → take count into ≡ take size (drop taken whole) → take count into ≡ take count waits
copied_waits size count taken into whole waits is counted copied =
    let long : length waits ≡ length whole - taken = ap length is ∙ length-drop taken whole in
    copied ∙ ap (take size) (sym is) ∙ elim (cases_lt (length waits) size) [
      | inl past ↦ take_all size waits (omega (arith, past)) ∙ sym (take_all count waits (omega (arith, counted, long, past)))
      | inr within ↦ ap (λ n. take n waits) (omega (arith, counted, long, within))
    ]

not_below : (m n : ℕ) → n ≤ m → nat_lt m n ≡ false
not_below m n past = elim (cases_Bool (nat_lt m n)) [
  | inl below ↦ absurd (omega (arith, ltb-true m n below, past))
  | inr test ↦ test
]

not_none : (n : ℕ) → 0 < n → (n == 0) ≡ false
not_none n some = ne_eqb n 0 (λ same. absurd (omega (arith, same, some)))

-- the answer
pub read_answers : (s : KeptWires) (conn size count waiting : ℕ) (line : MemoryLine) → fits s 1 0 ≡ true → is_to_fail s ≡ false → open_at s.lines conn ≡ Some line
    → waiting ≡ length (waits_at s conn) → 0 < waiting → count ≡ min size (length (waits_at s conn)) → read_answer.Some count ≡ read_in s conn size
read_answers s conn size count waiting line room unlisted there waits some counted =
    rw (room, unlisted, there, not_none (length (waits_at s conn)) (subst (λ n. 0 < n) waits some), counted) refl

read_state : (s : KeptWires) (conn size count waiting : ℕ) (line : MemoryLine) → fits s 1 0 ≡ true → is_to_fail s ≡ false → open_at s.lines conn ≡ Some line
    → waiting ≡ length (waits_at s conn) → 0 < waiting → count ≡ min size (length (waits_at s conn))
    → after_read s conn size ≡ record (wires_with_call_kept (wires_with_call_counted s) (Reads conn size (length (waits_at s conn)) (Gave (take count (waits_at s conn)))) 1 0) {
      lines = slice_set s.lines (conn - 1) (record line { taken = line.taken + count });
      again = if nat_lt count (length (waits_at s conn)) then s.again ++ conn ∷ [] else s.again;
    }
read_state s conn size count waiting line room unlisted there waits some counted =
    let answer : read_in s conn size ≡ read_answer.Some count = sym (read_answers s conn size count waiting line room unlisted there waits some counted) in
    let done : after_read s conn size ≡ read_done (wires_with_call_kept (wires_with_call_counted s) (Reads conn size (length (waits_at s conn)) (gives (read_in s conn size) (waits_at s conn))) 1 0) conn (length (waits_at s conn)) (read_in s conn size) =
    cond-true (fits s 1 0) _ _ room in
    done
    ∙ ap {A = ReadAnswer} (λ a. read_done (wires_with_call_kept (wires_with_call_counted s) (Reads conn size (length (waits_at s conn)) (gives a (waits_at s conn))) 1 0) conn (length (waits_at s conn)) a) answer
    ∙ rw (there) refl

kept_with : (s : KeptWires) (conn size count waiting : ℕ) (line : MemoryLine) → waiting ≡ length (waits_at s conn)
    → record (wires_with_call_kept (wires_with_call_counted s) (Reads conn size waiting (Gave (take count (waits_at s conn)))) 1 0) { lines = slice_set s.lines (conn - 1) (record line { taken = line.taken + count }) }
    ≡ record (wires_with_call_kept (wires_with_call_counted s) (Reads conn size (length (waits_at s conn)) (Gave (take count (waits_at s conn)))) 1 0) { lines = slice_set s.lines (conn - 1) (record line { taken = line.taken + count }) }
kept_with s conn size count waiting line waits =
    ap (λ n. record (wires_with_call_kept (wires_with_call_counted s) (Reads conn size n (Gave (take count (waits_at s conn)))) 1 0) { lines = slice_set s.lines (conn - 1) (record line { taken = line.taken + count }) }) waits

-- the state, where octets are left and where none is
pub read_leaves : (s now kept_now : KeptWires) (conn size count waiting : ℕ) (line : MemoryLine) → fits s 1 0 ≡ true → is_to_fail s ≡ false → open_at s.lines conn ≡ Some line
    → waiting ≡ length (waits_at s conn) → 0 < waiting → count ≡ min size (length (waits_at s conn)) → count < waiting
    → kept_now ≡ record (wires_with_call_kept (wires_with_call_counted s) (Reads conn size waiting (Gave (take count (waits_at s conn)))) 1 0) { lines = slice_set s.lines (conn - 1) (record line { taken = line.taken + count }) }
    → now ≡ record kept_now { again = kept_now.again ++ conn ∷ [] } → now ≡ after_read s conn size
read_leaves s now kept_now conn size count waiting line room unlisted there waits some counted left kept_is now_is =
    let below : nat_lt count (length (waits_at s conn)) ≡ true = lt-ltb count (length (waits_at s conn)) (omega (arith, waits, left)) in
    now_is ∙ ap {A = KeptWires} (λ t. record t { again = t.again ++ conn ∷ [] }) (kept_is ∙ kept_with s conn size count waiting line waits) ∙ sym (read_state s conn size count waiting line room unlisted there waits some counted ∙ rw (below) refl)

pub read_takes_all : (s now : KeptWires) (conn size count waiting : ℕ) (line : MemoryLine) → fits s 1 0 ≡ true → is_to_fail s ≡ false → open_at s.lines conn ≡ Some line
    → waiting ≡ length (waits_at s conn) → 0 < waiting → count ≡ min size (length (waits_at s conn)) → waiting ≤ count
    → now ≡ record (wires_with_call_kept (wires_with_call_counted s) (Reads conn size waiting (Gave (take count (waits_at s conn)))) 1 0) { lines = slice_set s.lines (conn - 1) (record line { taken = line.taken + count }) }
    → now ≡ after_read s conn size
read_takes_all s now conn size count waiting line room unlisted there waits some counted none now_is =
    let past : nat_lt count (length (waits_at s conn)) ≡ false = not_below count (length (waits_at s conn)) (omega (arith, waits, none)) in
    now_is ∙ kept_with s conn size count waiting line waits ∙ sym (read_state s conn size count waiting line room unlisted there waits some counted ∙ rw (past) refl)

pub read_fits : (size count waiting n : ℕ) (waits : List ℕ) → waiting ≡ length waits → 0 < waiting → 0 < size → count ≡ min size (length waits)
    → read_answer.Some count ≡ read_answer.Some n → (1 ≤ n) × (n ≤ size)
read_fits size count waiting n waits is some room counted same =
    let equal : count ≡ n = cc same in
    (omega (arith, is, some, room, counted, equal), omega (arith, counted, equal))
