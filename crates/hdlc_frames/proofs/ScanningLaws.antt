-- Going through octets many at a time.
use Rattle.std.proofs.Common.{◌≡◌, ◌≢◌, ℕ, zero, suc, ◌+◌, ◌-◌, ◌<◌, ◌≤◌, Bool, true, false, ◌==◌, List, [], ◌∷◌, ◌++◌, length, take, drop, None, Some, refl, sym, ◌∙◌, ap, arith, append_assoc, append-nil, bit_xor, get_or, inl, inr, eq-eqb}
use Rattle.std.proofs.lemmas.Bool.{ne_eqb, cases_lt}
use Rattle.std.proofs.lemmas.List.{take_all, take-append-le, length-take-le, length-take, length-drop, drop-drop, get_or-drop}
use Rattle.hdlc_frames.specs.Framing.{flag, escape}
use Rattle.hdlc_frames.specs.Deframing.{KeptDeframer, Feeding}
use Rattle.hdlc_frames.specs.Scanning.{kept_content, after_octet, verdict_at, octet_scan, scan_of, Advances, NoFlagBefore, PlainBefore, EscapesAt}

pub goes_nowhere : (k : KeptDeframer) (piece : List ℕ) → Advances k piece 0 k
goes_nowhere k piece = record { within = omega arith; used = omega arith; verdict = refl; kept = refl }

-- a part and then another
pub goes_further : (k next last : KeptDeframer) (piece : List ℕ) (m n : ℕ) → Advances k piece m next → Advances next (drop m piece) n last → Advances k piece (m + n) last
goes_further k next last piece m n g h =
    let same : drop n (drop m piece) ≡ drop (m + n) piece = drop-drop n m piece in
    record {
      within = omega (arith, g.within, h.within, length-drop m piece);
      used = ap (λ (xs : List ℕ). (scan_of last xs).used + (m + n)) (sym same) ∙ omega (arith, g.used, h.used);
      verdict = ap (λ (xs : List ℕ). (scan_of last xs).verdict) (sym same) ∙ h.verdict ∙ g.verdict;
      kept = ap (λ (xs : List ℕ). (scan_of last xs).kept) (sym same) ∙ h.kept ∙ g.kept;
    }

goes_by : (k : KeptDeframer) (x : ℕ) (xs : List ℕ) → verdict_at k x ≡ None → Advances k (x ∷ xs) 1 (after_octet k x)
goes_by k x xs none =
    let rest : Feeding = scan_of (after_octet k x) xs in
    record {
      within = omega arith;
      used = ap (λ v. (octet_scan (after_octet k x) v rest).used) (sym none);
      verdict = ap (λ v. (octet_scan (after_octet k x) v rest).verdict) (sym none);
      kept = ap (λ v. (octet_scan (after_octet k x) v rest).kept) (sym none);
    }

-- one octet that is no flag
goes_octet : (k next : KeptDeframer) (x : ℕ) (xs : List ℕ) → (x == flag) ≡ false → after_octet k x ≡ next → Advances k (x ∷ xs) 1 next
goes_octet k next x xs f e = rw (← e) (goes_by k x xs (rw f refl))

pub goes_one : (k next : KeptDeframer) (piece : List ℕ) → 0 < length piece → get_or piece 0 0 ≢ flag → after_octet k (get_or piece 0 0) ≡ next → Advances k piece 1 next
goes_one k next [] some other e = absurd (omega arith)
goes_one k next (x ∷ xs) some other e = goes_octet k next x xs (ne_eqb x flag other) e

-- octets before the first flag
pub goes_before : (escaping : Bool) (content : List ℕ) (n : ℕ) (piece : List ℕ) → n ≤ length piece → NoFlagBefore piece n
    → Advances (record { begun = false; escaping = escaping; content = content }) piece n (record { begun = false; escaping = escaping; content = content })
goes_before escaping content zero piece inside none = goes_nowhere (record { begun = false; escaping = escaping; content = content }) piece
goes_before escaping content (suc n) [] inside none = absurd (omega arith)
goes_before escaping content (suc n) (x ∷ xs) inside none =
    let k : KeptDeframer = record { begun = false; escaping = escaping; content = content } in
    let f : (x == flag) ≡ false = ne_eqb x flag (none 0 (omega arith)) in
    let first : Advances k (x ∷ xs) 1 k = goes_octet k k x xs f (rw f refl) in
    let rest : Advances k xs n k = goes_before escaping content n xs (omega arith) (λ j lt. none (suc j) (omega arith)) in
    let both = goes_further k k k (x ∷ xs) 1 n first rest in
    let more : 1 + n ≡ suc n = omega arith in
    rw more at both

-- the same of what the code keeps
pub goes_before_of : (begun escaping : Bool) (content : List ℕ) (n : ℕ) (piece : List ℕ) → begun ≡ false → n ≤ length piece → NoFlagBefore piece n
    → Advances (record { begun = begun; escaping = escaping; content = content }) piece n (record { begun = begun; escaping = escaping; content = content })
goes_before_of begun escaping content n piece none inside h = rw none (goes_before escaping content n piece inside h)

take-front : (n : ℕ) (c ys : List ℕ) → take n (take n c ++ ys) ≡ take n (c ++ ys)
take-front n c ys =
    elim (cases_lt (length c) n) [
      | inl short ↦ ap (λ d. take n (d ++ ys)) (take_all n c (omega arith))
      | inr long ↦
          let wide : n ≤ length c = omega arith in
          let size : length (take n c) ≡ n = length-take-le n c wide in
          take-append-le n (take n c) ys (omega arith) ∙ take_all n (take n c) (omega arith) ∙ sym (take-append-le n c ys wide)
    ]

-- what is kept where content comes and no escape is open
abbrev pub with_content : List ℕ → KeptDeframer
with_content content = record { begun = true; escaping = false; content = content }

-- one octet that stands for itself
pub goes_plain : (content : List ℕ) (x : ℕ) (xs : List ℕ) → (x == flag) ≡ false → (x == escape) ≡ false → Advances (with_content content) (x ∷ xs) 1 (with_content (kept_content content x))
goes_plain content x xs f e = goes_octet (with_content content) (with_content (kept_content content x)) x xs f (rw (f, e) refl)

-- an escape, and the octet that it escapes
pub goes_escaped : (content : List ℕ) (x y : ℕ) (xs : List ℕ) → (x == flag) ≡ false → (x == escape) ≡ true → (y == flag) ≡ false
    → Advances (with_content content) (x ∷ y ∷ xs) 2 (with_content (kept_content content (bit_xor y 0x20)))
goes_escaped content x y xs f e g =
    let opened : KeptDeframer = record { begun = true; escaping = true; content = content } in
    let last : KeptDeframer = with_content (kept_content content (bit_xor y 0x20)) in
    goes_further (with_content content) opened last (x ∷ y ∷ xs) 1 1
    (goes_octet (with_content content) opened x (y ∷ xs) f (rw (f, e) refl))
    (goes_octet opened last y xs g (rw g refl))

-- an escape with nothing behind it that it escapes
pub goes_open : (content : List ℕ) (x : ℕ) (xs : List ℕ) → (x == flag) ≡ false → (x == escape) ≡ true → Advances (with_content content) (x ∷ xs) 1 (record { begun = true; escaping = true; content = content })
goes_open content x xs f e = goes_octet (with_content content) (record { begun = true; escaping = true; content = content }) x xs f (rw (f, e) refl)

-- so many octets that stand for themselves
pub goes_run : (n : ℕ) (content piece : List ℕ) → n ≤ length piece → PlainBefore piece n → length content ≤ 1033
    → Advances (with_content content) piece n (with_content (take 1033 (content ++ take n piece)))
goes_run zero content piece inside plain short =
    let same : take 1033 (content ++ []) ≡ content = ap (take 1033) (append-nil content) ∙ take_all 1033 content short in
    rw same (goes_nowhere (with_content content) piece)
goes_run (suc n) content [] inside plain short = absurd (omega arith)
goes_run (suc n) content (x ∷ xs) inside plain short =
    let f : (x == flag) ≡ false = ne_eqb x flag (plain 0 (omega arith)).0 in
    let e : (x == escape) ≡ false = ne_eqb x escape (plain 0 (omega arith)).1 in
    let next : List ℕ = kept_content content x in
    let fits : length next ≤ 1033 = omega (arith, length-take 1033 (content ++ x ∷ [])) in
    let first = goes_plain content x xs f e in
    let rest = goes_run n next xs (omega arith) (λ j lt. plain (suc j) (omega arith)) fits in
    let joined : take 1033 (next ++ take n xs) ≡ take 1033 (content ++ x ∷ take n xs) =
    take-front 1033 (content ++ x ∷ []) (take n xs) ∙ ap (take 1033) (append_assoc content (x ∷ []) (take n xs)) in
    let both = goes_further (with_content content) (with_content next) (with_content (take 1033 (next ++ take n xs))) (x ∷ xs) 1 n first rest in
    let more : 1 + n ≡ suc n = omega arith in
    rw (more, joined) at both

-- the same of what the code keeps
pub goes_run_of : (begun escaping : Bool) (content next piece : List ℕ) (n : ℕ) → begun ≡ true → escaping ≡ false → n ≤ length piece → PlainBefore piece n → length content ≤ 1033 → next ≡ take 1033 (content ++ take n piece)
    → Advances (record { begun = begun; escaping = escaping; content = content }) piece n (record { begun = begun; escaping = escaping; content = next })
goes_run_of begun escaping content next piece n is_begun is_shut inside plain short e = rw (is_begun, is_shut, e) (goes_run n content piece inside plain short)

-- ---- behind a place of a piece

-- a part, and then another of what is left
pub goes_behind : (k next last : KeptDeframer) (piece left : List ℕ) (m n : ℕ) → left ≡ take (length piece - m) (drop m piece) → Advances k piece m next → Advances next left n last → Advances k piece (m + n) last
goes_behind k next last piece left m n e g h =
    let same : left ≡ drop m piece = e ∙ take_all (length piece - m) (drop m piece) (omega (arith, length-drop m piece)) in
    goes_further k next last piece m n g (rw same at h)

-- what one octet leaves of what the code keeps, where content comes and no escape is open
plain_step : (begun escaping : Bool) (content : List ℕ) (x : ℕ) → begun ≡ true → escaping ≡ false → (x == flag) ≡ false → (x == escape) ≡ false
    → after_octet (record { begun = begun; escaping = escaping; content = content }) x ≡ record { begun = begun; escaping = escaping; content = kept_content content x }
plain_step begun escaping content x b s f e = rw (f, b, s, e) refl

open_step : (begun escaping : Bool) (content : List ℕ) (x : ℕ) → begun ≡ true → escaping ≡ false → (x == flag) ≡ false → (x == escape) ≡ true
    → after_octet (record { begun = begun; escaping = escaping; content = content }) x ≡ record { begun = begun; escaping = true; content = content }
open_step begun escaping content x b s f e = rw (f, b, s, e) refl

shut_step : (begun escaping : Bool) (content : List ℕ) (y : ℕ) → begun ≡ true → escaping ≡ false → (y == flag) ≡ false
    → after_octet (record { begun = begun; escaping = true; content = content }) y ≡ record { begun = begun; escaping = escaping; content = kept_content content (bit_xor y 0x20) }
shut_step begun escaping content y b s f = rw (f, b, s) refl

-- the octet at a place of a piece
goes_at : (k mid last : KeptDeframer) (piece : List ℕ) (at : ℕ) → Advances k piece at mid → at < length piece → get_or piece at 0 ≢ flag → after_octet mid (get_or piece at 0) ≡ last → Advances k piece (at + 1) last
goes_at k mid last piece at g inside other e =
    let plus : at + 0 ≡ at = omega arith in
    let first : get_or (drop at piece) 0 0 ≡ get_or piece at 0 = get_or-drop at piece 0 0 ∙ ap (λ i. get_or piece i 0) plus in
    goes_further k mid last piece at 1 g (goes_one mid last (drop at piece) (omega (arith, length-drop at piece)) (rw first other) (rw first e))

pub goes_plain_at : (k : KeptDeframer) (begun escaping : Bool) (content next piece : List ℕ) (at : ℕ)
    → Advances k piece at (record { begun = begun; escaping = escaping; content = content }) → begun ≡ true → escaping ≡ false → at < length piece → get_or piece at 0 ≢ flag → get_or piece at 0 ≢ escape
    → next ≡ kept_content content (get_or piece at 0) → Advances k piece (at + 1) (record { begun = begun; escaping = escaping; content = next })
goes_plain_at k begun escaping content next piece at g b s inside f e kept =
    let x : ℕ = get_or piece at 0 in
    rw kept (goes_at k (record { begun = begun; escaping = escaping; content = content }) (record { begun = begun; escaping = escaping; content = kept_content content x }) piece at g inside f
    (plain_step begun escaping content x b s (ne_eqb x flag f) (ne_eqb x escape e)))

-- an escape at a place of a piece, with nothing behind it that it escapes
pub goes_open_at : (k : KeptDeframer) (begun escaping : Bool) (content piece : List ℕ) (at : ℕ)
    → Advances k piece at (record { begun = begun; escaping = escaping; content = content }) → begun ≡ true → escaping ≡ false → at < length piece → get_or piece at 0 ≡ escape
    → Advances k piece (at + 1) (record { begun = begun; escaping = true; content = content })
goes_open_at k begun escaping content piece at g b s inside e =
    let x : ℕ = get_or piece at 0 in
    let other : x ≢ flag = λ (f : x ≡ flag). absurd (omega (arith, e, f)) in
    goes_at k (record { begun = begun; escaping = escaping; content = content }) (record { begun = begun; escaping = true; content = content }) piece at g inside other
    (open_step begun escaping content x b s (ne_eqb x flag other) (eq-eqb x escape e))

-- an escape at a place of a piece, and the octet that it escapes
pub goes_escaped_at : (k : KeptDeframer) (begun escaping : Bool) (content next piece : List ℕ) (at y : ℕ)
    → Advances k piece at (record { begun = begun; escaping = escaping; content = content }) → begun ≡ true → escaping ≡ false → at < length piece → get_or piece at 0 ≡ escape
    → EscapesAt piece (at + 1) (Some y) → next ≡ kept_content content (bit_xor y 0x20) → Advances k piece (at + 2) (record { begun = begun; escaping = escaping; content = next })
goes_escaped_at k begun escaping content next piece at y g b s inside e escapes kept =
    let opened : KeptDeframer = record { begun = begun; escaping = true; content = content } in
    let there : get_or piece (at + 1) 0 ≡ y = escapes.1.0 in
    let other : get_or piece (at + 1) 0 ≢ flag = rw there escapes.1.1 in
    let two : at + 2 ≡ (at + 1) + 1 = omega arith in
    let step : after_octet opened (get_or piece (at + 1) 0) ≡ record { begun = begun; escaping = escaping; content = kept_content content (bit_xor y 0x20) } =
    ap (after_octet opened) there ∙ shut_step begun escaping content y b s (ne_eqb y flag escapes.1.1) in
    rw (two, kept) (goes_at k opened (record { begun = begun; escaping = escaping; content = kept_content content (bit_xor y 0x20) }) piece (at + 1)
    (goes_open_at k begun escaping content piece at g b s inside e) escapes.0 other step)

-- a flag isn't reached at once where none stands first
pub flag_comes_later : (piece : List ℕ) (at : ℕ) → get_or piece 0 0 ≢ flag → get_or piece at 0 ≡ flag → 0 < at
flag_comes_later piece zero other e = absurd (other e)
flag_comes_later piece (suc n) other e = omega arith
