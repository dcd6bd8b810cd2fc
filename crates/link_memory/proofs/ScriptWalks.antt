-- Walks over the script of wires in memory and over connections: one step on, and the end.
use Rattle.std.proofs.Common.{ℕ, ◌+◌, ◌-◌, ◌<◌, ◌≤◌, ◌≡◌, ◌||◌, not, min, Bool, true, false, List, [], ◌∷◌, ◌++◌, length, take, drop, slice_index_or, None, Some, inl, inr, refl, sym, ap, ◌∙◌, arith}
use Rattle.std.specs.Prelude.{is_some}
use Rattle.std.proofs.lemmas.Bool.{cases_lt}
use Rattle.std.proofs.Math.Seq.{drop-append-add, take-append-add, take-append_seam}
use Rattle.std.proofs.lemmas.List.{drop_more, drop_all, take_all, length-append, append_assoc, append-nil, length-drop, take-append-le, drop-append-le, length-take-le}
use Rattle.link_memory.specs.declared.act.Act.{Act}
use Rattle.link_memory.specs.declared.memory_line.MemoryLine.{MemoryLine}
use Rattle.link_memory.specs.WiresMemory.{octets_to, brought_by, first_open, first_act, is_accept, open_at}

-- what is brought behind a place: the octets of the act there, and those of the acts behind it
pub octets_next : (conn : ℕ) (acts : List Act) (i : ℕ) (one : Act) → i < length acts → one ≡ slice_index_or acts i one
    → octets_to conn (drop i acts) ≡ brought_by conn one ++ octets_to conn (drop (i + 1) acts)
unfolding octets_to
octets_next conn acts i one below is =
    ap (octets_to conn) (drop_more acts i one below) ∙ ap (λ a. brought_by conn a ++ octets_to conn (drop (i + 1) acts)) (sym is)

pub octets_end : (conn : ℕ) (acts : List Act) (i : ℕ) → length acts ≤ i → octets_to conn (drop i acts) ≡ []
unfolding octets_to
octets_end conn acts i past = ap (octets_to conn) (drop_all i acts past)

-- counting
pub count_next : (conn : ℕ) (acts : List Act) (i n : ℕ) (one : Act) → i < length acts → one ≡ slice_index_or acts i one
    → n + length (octets_to conn (drop i acts)) ≡ length (octets_to conn acts)
    → n + length (brought_by conn one) + length (octets_to conn (drop (i + 1) acts)) ≡ length (octets_to conn acts)
count_next conn acts i n one below is counted =
    omega (arith, counted, ap length (octets_next conn acts i one below is), length-append (brought_by conn one) (octets_to conn (drop (i + 1) acts)))

pub count_end : (conn : ℕ) (acts : List Act) (i n : ℕ) → length acts ≤ i
    → n + length (octets_to conn (drop i acts)) ≡ length (octets_to conn acts) → n ≡ length (octets_to conn acts)
count_end conn acts i n past counted = omega (arith, counted, ap length (octets_end conn acts i past))

-- the first open connection
pub open_here : (lines : List MemoryLine) (conns : List ℕ) (i : ℕ) → i < length conns
    → is_some (open_at lines (slice_index_or conns i 0)) ≡ true
    → first_open lines conns ≡ (i + (first_open lines (drop i conns)).0, (first_open lines (drop i conns)).1)
    → (i + 1, Some (slice_index_or conns i 0)) ≡ first_open lines conns
unfolding first_open
open_here lines conns i below opened first =
    let there : first_open lines (drop i conns) ≡ (1, Some (slice_index_or conns i 0)) =
    ap (first_open lines) (drop_more conns i 0 below) ∙ rw (opened) refl in
    sym (first ∙ ap (λ r. (i + r.0, r.1)) there)

pub open_behind : (lines : List MemoryLine) (conns : List ℕ) (i : ℕ) → i < length conns
    → is_some (open_at lines (slice_index_or conns i 0)) ≡ false
    → first_open lines conns ≡ (i + (first_open lines (drop i conns)).0, (first_open lines (drop i conns)).1)
    → first_open lines conns ≡ (i + 1 + (first_open lines (drop (i + 1) conns)).0, (first_open lines (drop (i + 1) conns)).1)
unfolding first_open
open_behind lines conns i below closed first =
    let there : first_open lines (drop i conns) ≡ (1 + (first_open lines (drop (i + 1) conns)).0, (first_open lines (drop (i + 1) conns)).1) =
    ap (first_open lines) (drop_more conns i 0 below) ∙ rw (closed) refl in
    first ∙ ap (λ r. (i + r.0, r.1)) there ∙ ap (λ n. (n, (first_open lines (drop (i + 1) conns)).1)) (omega arith)

pub open_nowhere : (lines : List MemoryLine) (conns : List ℕ) (i : ℕ) → length conns ≤ i → i ≤ length conns
    → first_open lines conns ≡ (i + (first_open lines (drop i conns)).0, (first_open lines (drop i conns)).1)
    → (i, None) ≡ first_open lines conns
unfolding first_open
open_nowhere lines conns i past within first =
    sym (first ∙ ap (λ r. (i + r.0, r.1)) (ap (first_open lines) (drop_all i conns past)) ∙ ap (λ n. (n, None)) (omega arith))

-- the first act that isn't skipped
pub act_here : (listening : Bool) (acts : List Act) (i : ℕ) (one : Act) → i < length acts → one ≡ slice_index_or acts i one
    → (listening || not (is_accept one)) ≡ true
    → first_act listening acts ≡ (i + (first_act listening (drop i acts)).0, (first_act listening (drop i acts)).1)
    → (i + 1, Some one) ≡ first_act listening acts
unfolding first_act
act_here listening acts i one below is stays first =
    let there : first_act listening (drop i acts) ≡ (1, Some one) =
    ap (first_act listening) (drop_more acts i one below ∙ ap (λ c. c ∷ drop (i + 1) acts) (sym is)) ∙ rw (stays) refl in
    sym (first ∙ ap (λ r. (i + r.0, r.1)) there)

pub act_behind : (listening : Bool) (acts : List Act) (i : ℕ) (one : Act) → i < length acts → one ≡ slice_index_or acts i one
    → (listening || not (is_accept one)) ≡ false
    → first_act listening acts ≡ (i + (first_act listening (drop i acts)).0, (first_act listening (drop i acts)).1)
    → first_act listening acts ≡ (i + 1 + (first_act listening (drop (i + 1) acts)).0, (first_act listening (drop (i + 1) acts)).1)
unfolding first_act
act_behind listening acts i one below is skipped first =
    let there : first_act listening (drop i acts) ≡ (1 + (first_act listening (drop (i + 1) acts)).0, (first_act listening (drop (i + 1) acts)).1) =
    ap (first_act listening) (drop_more acts i one below ∙ ap (λ c. c ∷ drop (i + 1) acts) (sym is)) ∙ rw (skipped) refl in
    first ∙ ap (λ r. (i + r.0, r.1)) there ∙ ap (λ n. (n, (first_act listening (drop (i + 1) acts)).1)) (omega arith)

pub act_nowhere : (listening : Bool) (acts : List Act) (i : ℕ) → length acts ≤ i
    → first_act listening acts ≡ (i + (first_act listening (drop i acts)).0, (first_act listening (drop i acts)).1)
    → (i, None) ≡ first_act listening acts
unfolding first_act
act_nowhere listening acts i past first =
    sym (first ∙ ap (λ r. (i + r.0, r.1)) (ap (first_act listening) (drop_all i acts past)) ∙ ap (λ n. (n, None)) (omega arith))

-- copying: what is left behind some octets of two pieces
drop_both : (n m : ℕ) (xs ys : List ℕ) → m ≡ min n (length xs) → drop n (xs ++ ys) ≡ drop m xs ++ drop (n - m) ys
drop_both n m xs ys least = elim (cases_lt (length xs) n) [
  | inl past ↦
      let all : m ≡ length xs = omega (arith, least) in
      let whole : n ≡ length xs + (n - m) = omega (arith, all, past) in
      ap (λ k. drop k (xs ++ ys)) whole ∙ drop-append-add xs ys (n - m)
      ∙ ap (λ zs. zs ++ drop (n - m) ys) (sym (ap (λ k. drop k xs) all ∙ drop_all (length xs) xs (omega arith)))
  | inr within ↦
      let all : m ≡ n = omega (arith, least) in
      let none : n - m ≡ 0 = omega (arith, all) in
      drop-append-le n xs ys within ∙ ap (λ k. drop k xs ++ ys) (sym all) ∙ ap (λ k. drop m xs ++ drop k ys) (sym none)
]

-- a piece was put behind others, as far as the slice goes
take_both : (size filled count : ℕ) (before piece rest : List ℕ) → length before ≡ filled → filled ≤ size → count ≡ min (length piece) (size - filled)
    → take size ((before ++ take count piece) ++ rest) ≡ take size (before ++ (piece ++ rest))
take_both size filled count before piece rest len room least = elim (cases_lt (size - filled) (length piece)) [
  | inl past ↦
      let all : size ≡ length before + count = omega (arith, len, room, least) in
      let full : length (before ++ take count piece) ≡ size =
      length-append before (take count piece) ∙ ap (λ k. length before + k) (length-take-le count piece (omega (arith, least))) ∙ sym all in
      ap (λ k. take k ((before ++ take count piece) ++ rest)) (sym full) ∙ take-append_seam (before ++ take count piece) rest
      ∙ sym (ap (λ k. take k (before ++ (piece ++ rest))) all ∙ take-append-add before (piece ++ rest) count
      ∙ ap (λ zs. before ++ zs) (take-append-le count piece rest (omega (arith, least))))
  | inr within ↦
      ap (λ zs. take size ((before ++ zs) ++ rest)) (take_all count piece (omega (arith, least)))
      ∙ ap (take size) (append_assoc before piece rest)
]

pub copy_next : (conn : ℕ) (acts : List Act) (i size passed skipped filled count : ℕ) (one : Act) (before now whole : List ℕ) → i < length acts → one ≡ slice_index_or acts i one
    → skipped ≡ min passed (length (brought_by conn one)) → length before ≡ filled → filled ≤ size
    → count ≡ min (length (drop skipped (brought_by conn one))) (size - filled)
    → now ≡ before ++ take count (drop skipped (brought_by conn one))
    → take size (before ++ drop passed (octets_to conn (drop i acts))) ≡ whole
    → take size (now ++ drop (passed - skipped) (octets_to conn (drop (i + 1) acts))) ≡ whole
copy_next conn acts i size passed skipped filled count one before now whole below is least len room counted put copied =
    ap (λ zs. take size (zs ++ drop (passed - skipped) (octets_to conn (drop (i + 1) acts)))) put
    ∙ take_both size filled count before (drop skipped (brought_by conn one)) (drop (passed - skipped) (octets_to conn (drop (i + 1) acts))) len room counted
    ∙ ap (λ zs. take size (before ++ zs))
    (sym (ap (drop passed) (octets_next conn acts i one below is)
    ∙ drop_both passed skipped (brought_by conn one) (octets_to conn (drop (i + 1) acts)) least))
    ∙ copied

pub copy_end : (conn : ℕ) (acts : List Act) (i size passed : ℕ) (before whole : List ℕ) → length acts ≤ i → length before ≤ size
    → take size (before ++ drop passed (octets_to conn (drop i acts))) ≡ whole → before ≡ whole
copy_end conn acts i size passed before whole past room copied =
    let none : drop passed (octets_to conn (drop i acts)) ≡ [] = ap (drop passed) (octets_end conn acts i past) ∙ drop_all passed [] (omega arith) in
    sym (ap (take size) (ap (λ zs. before ++ zs) none ∙ append-nil before) ∙ take_all size before room) ∙ copied

-- how many octets were copied
pub copied_count : (size taken filled : ℕ) (into whole : List ℕ) → length into ≡ size → filled ≤ size → take filled into ≡ take size (drop taken whole)
    → filled ≡ min size (length whole - taken)
copied_count size taken filled into whole len room copied = elim (cases_lt (length whole - taken) size) [
  | inl past ↦
      let all : length (take size (drop taken whole)) ≡ length whole - taken =
      ap length (take_all size (drop taken whole) (omega (arith, length-drop taken whole, past))) ∙ length-drop taken whole in
      omega (arith, sym (length-take-le filled into (omega (arith, len, room))) ∙ ap length copied ∙ all, past)
  | inr within ↦
      let all : length (take size (drop taken whole)) ≡ size = length-take-le size (drop taken whole) (omega (arith, length-drop taken whole, within)) in
      omega (arith, sym (length-take-le filled into (omega (arith, len, room))) ∙ ap length copied ∙ all, within)
]
