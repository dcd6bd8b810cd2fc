-- Blocks that are added one by one come to what they are joined to.
use Rattle.std.proofs.Common.{◌≡◌, ℕ, ◌<◌, ◌≤◌, ◌↔◌, ◌⊎◌, inl, inr, nat_lt, nat_le, Bool, true, false, IsSome, IsNone, is_some, List, [], ◌∷◌, ◌++◌, length, Option, Some, None, Ok, Err, refl, sym, ◌∙◌, ap, subst, append_assoc, arith, length-append}
use Rattle.std.proofs.lemmas.List.{append-nil}
use Rattle.std.proofs.lemmas.Bool.{lt-ltb, le-ltb, le-leb, cases_lt}
use Rattle.t70_header.specs.declared.fault.BlockFault.{BlockFault}
use Rattle.t70_header.specs.declared.fault.BlockFault.TheVariants.{Header, Long}
use Rattle.t70_header.specs.Blocks.{last_block, more_of, content_of_block}
use Rattle.t70_header.specs.JoiningLaws.{joined_contents, AllMore, answer_to_last_block, HasFault, JoinedBehind, Joined}
use Rattle.t70_header.specs.Joining.{BlockJoiningResult, block_step, fault_of_header}

-- a block's header has the more-bit, or doesn't, or is none
header_cases : (header : Option Bool) → (header ≡ None) ⊎ ((header ≡ Some true) ⊎ (header ≡ Some false))
header_cases None = inl refl
header_cases (Some true) = inr (inl refl)
header_cases (Some false) = inr (inr refl)

none_from : (header : Option Bool) → IsNone header → header ≡ None
none_from None h = refl
none_from (Some more) h = cc

some_not_none : (header : Option Bool) → IsSome header → header ≡ None → ⊥
some_not_none header s m = let e : is_some header ≡ false = ap is_some m in cc

-- a block with the more-bit that can be joined is held
step_more : (held block : List ℕ) → more_of block ≡ Some true → length (held ++ content_of_block block) ≤ 1024 → block_step held block ≡ (held ++ content_of_block block, Ok None)
step_more held block m h =
    let short : nat_lt 1024 (length (held ++ content_of_block block)) ≡ false = le-ltb _ _ h in
    rw (m, short) refl

-- a last block that can be joined makes the whole TPDU
step_last : (held block : List ℕ) → more_of block ≡ Some false → length (held ++ content_of_block block) ≤ 1024 → block_step held block ≡ ([], Ok (Some (held ++ content_of_block block)))
step_last held block m h =
    let short : nat_lt 1024 (length (held ++ content_of_block block)) ≡ false = le-ltb _ _ h in
    rw (m, short) refl

-- a block whose header is none is refused
step_unknown : (held block : List ℕ) → more_of block ≡ None → block_step held block ≡ ([], Err (fault_of_header block))
step_unknown held block m = rw m refl

-- a block that makes too many octets is refused
step_long : (held block : List ℕ) → IsSome (more_of block) → 1024 < length (held ++ content_of_block block) → block_step held block ≡ ([], Err (Long (length (held ++ content_of_block block))))
step_long held block s h =
    let long : nat_lt 1024 (length (held ++ content_of_block block)) ≡ true = lt-ltb _ _ h in
    elim (header_cases (more_of block)) [
      | inl m ↦ absurd (some_not_none _ s m)
      | inr (inl m) ↦ rw (m, long) refl
      | inr (inr m) ↦ rw (m, long) refl
    ]

-- a faulty block is refused
step_faulty : (held block : List ℕ) (fault : BlockFault) → HasFault held block fault → block_step held block ≡ ([], Err fault)
step_faulty held block (Header found first second) h =
    step_unknown held block (none_from _ h.0) ∙ ap (λ (e : BlockFault). ([], Err e)) (sym h.1)
step_faulty held block (Long n) h =
    let long : 1024 < length (held ++ content_of_block block) = omega (arith, h.1, h.2) in
    step_long held block h.0 long ∙ ap (λ (k : ℕ). ([], Err (Long k))) (sym h.1)

-- blocks with the more-bit are held, and what follows them is added behind
added_more : (front : List (List ℕ)) (held : List ℕ) (rest : List (List ℕ)) → AllMore front → length (held ++ joined_contents front) ≤ 1024 → answer_to_last_block held (front ++ rest) ≡ answer_to_last_block (held ++ joined_contents front) rest
added_more [] held rest more fits = rw (append-nil held) refl
added_more (block ∷ front) held rest more fits =
    let regroup : held ++ (content_of_block block ++ joined_contents front) ≡ (held ++ content_of_block block) ++ joined_contents front = sym (append_assoc held (content_of_block block) (joined_contents front)) in
    let all_fit : length ((held ++ content_of_block block) ++ joined_contents front) ≤ 1024 = rw regroup at fits in
    let first_fits : length (held ++ content_of_block block) ≤ 1024 = omega (arith, length-append (held ++ content_of_block block) (joined_contents front), all_fit) in
    rw (step_more held block more.0 first_fits, regroup) (added_more front (held ++ content_of_block block) rest more.1 all_fit)

-- what blocks come to is what adding them one by one answers
answers_joined : (held : List ℕ) (blocks : List (List ℕ)) (answer : BlockJoiningResult) → JoinedBehind held blocks answer → answer_to_last_block held blocks ≡ answer
answers_joined held blocks (Ok None) j =
    let all : answer_to_last_block held (blocks ++ []) ≡ Ok None = added_more blocks held [] j.0 j.1 in
    rw (append-nil blocks) at all
answers_joined held blocks (Ok (Some tpdu)) j =
    let last_fits : length (held ++ joined_contents j.front ++ content_of_block j.last) ≤ 1024 = rw j.octets at j.fits in
    let front_fits : length (held ++ joined_contents j.front) ≤ 1024 = omega (arith, length-append (held ++ joined_contents j.front) (content_of_block j.last), last_fits) in
    rw (j.cut, added_more j.front held (j.last ∷ j.rest) j.more front_fits, step_last (held ++ joined_contents j.front) j.last j.ends last_fits, j.octets) refl
answers_joined held blocks (Err fault) j =
    rw (j.cut, added_more j.front held (j.block ∷ j.rest) j.more j.fits, step_faulty (held ++ joined_contents j.front) j.block fault j.has_fault) refl

-- what blocks come to behind a block with the more-bit
behind_more : (held block : List ℕ) (blocks : List (List ℕ)) (answer : BlockJoiningResult) → more_of block ≡ Some true → JoinedBehind (held ++ content_of_block block) blocks answer → JoinedBehind held (block ∷ blocks) answer
behind_more held block blocks (Ok None) m j =
    ((m, j.0), rw (← append_assoc held (content_of_block block) (joined_contents blocks)) j.1)
behind_more held block blocks (Ok (Some tpdu)) m j = record {
  front = block ∷ j.front;
  last = j.last;
  rest = j.rest;
  cut = ap (λ (bs : List (List ℕ)). block ∷ bs) j.cut;
  more = (m, j.more);
  ends = j.ends;
  octets = j.octets ∙ ap (λ (os : List ℕ). os ++ content_of_block j.last) (append_assoc held (content_of_block block) (joined_contents j.front));
  fits = j.fits;
}
behind_more held block blocks (Err fault) m j =
    let regroup : (held ++ content_of_block block) ++ joined_contents j.front ≡ held ++ (content_of_block block ++ joined_contents j.front) = append_assoc held (content_of_block block) (joined_contents j.front) in
    record {
      front = block ∷ j.front;
      block = j.block;
      rest = j.rest;
      cut = ap (λ (bs : List (List ℕ)). block ∷ bs) j.cut;
      more = (m, j.more);
      fits = rw regroup at j.fits;
      has_fault = subst (λ (os : List ℕ). HasFault os j.block fault) regroup j.has_fault;
    }

-- a first block that isn't held is the answer
faulty_first : (held block : List ℕ) (blocks : List (List ℕ)) (fault : BlockFault) → length held ≤ 1024 → HasFault held block fault → JoinedBehind held (block ∷ blocks) (Err fault)
faulty_first held block blocks fault fits h = record {
  front = [];
  block = block;
  rest = blocks;
  cut = refl;
  more = tt;
  fits = rw (append-nil held) fits;
  has_fault = rw (append-nil held) h;
}

-- what adding blocks one by one answers is what they come to
joined_answers : (blocks : List (List ℕ)) (held : List ℕ) → length held ≤ 1024 → JoinedBehind held blocks (answer_to_last_block held blocks)
joined_answers [] held fits = (tt, rw (append-nil held) fits)
joined_answers (block ∷ blocks) held fits =
    elim (header_cases (more_of block)) [
      | inl m ↦ rw (step_unknown held block m) (faulty_first held block blocks (fault_of_header block) fits (ap is_some m, refl))
      | inr (inl m) ↦ elim (cases_lt 1024 (length (held ++ content_of_block block))) [
        | inl long ↦ rw (step_long held block (ap is_some m) long) (faulty_first held block blocks (Long (length (held ++ content_of_block block))) fits (ap is_some m, refl, long))
        | inr short ↦ rw (step_more held block m short) (behind_more held block blocks _ m (joined_answers blocks (held ++ content_of_block block) short))
      ]
      | inr (inr m) ↦ elim (cases_lt 1024 (length (held ++ content_of_block block))) [
        | inl long ↦ rw (step_long held block (ap is_some m) long) (faulty_first held block blocks (Long (length (held ++ content_of_block block))) fits (ap is_some m, refl, long))
        | inr short ↦ rw (step_last held block m short) (record {
          front = [];
          last = block;
          rest = blocks;
          cut = refl;
          more = tt;
          ends = m;
          octets = rw (append-nil held) refl;
          fits = short;
        })
      ]
    ]

pub adding_joins : (blocks : List (List ℕ)) (answer : BlockJoiningResult) → Joined blocks answer ↔ (answer_to_last_block [] blocks ≡ answer)
adding_joins blocks answer = (
  answers_joined [] blocks answer,
  λ (e : answer_to_last_block [] blocks ≡ answer). subst (λ (a : BlockJoiningResult). Joined blocks a) e (joined_answers blocks [] (omega arith)),
)

pub holds_only_what_waits : (held block : List ℕ) → ((block_step held block).0 ≡ []) ⊎ ((block_step held block).1 ≡ Ok None)
holds_only_what_waits held block =
    elim (header_cases (more_of block)) [
      | inl m ↦ inl (ap (λ p. p.0) (step_unknown held block m))
      | inr (inl m) ↦ elim (cases_lt 1024 (length (held ++ content_of_block block))) [
        | inl long ↦ inl (ap (λ p. p.0) (step_long held block (ap is_some m) long))
        | inr short ↦ inr (ap (λ p. p.1) (step_more held block m short))
      ]
      | inr (inr m) ↦ elim (cases_lt 1024 (length (held ++ content_of_block block))) [
        | inl long ↦ inl (ap (λ p. p.0) (step_long held block (ap is_some m) long))
        | inr short ↦ inl (ap (λ p. p.0) (step_last held block m short))
      ]
    ]

pub wrapped_is_joined : (tpdu : List ℕ) → length tpdu ≤ 1024 → block_step [] (last_block tpdu) ≡ ([], Ok (Some tpdu))
wrapped_is_joined tpdu h =
    let long : nat_le 2 (length (last_block tpdu)) ≡ true = le-leb 2 (length (last_block tpdu)) (omega arith) in
    let ends : more_of (last_block tpdu) ≡ Some false = rw long refl in
    step_last [] (last_block tpdu) ends h
