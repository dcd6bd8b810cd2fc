-- A stream of which something is kept, and feeding by the frames of the whole stream.
use Rattle.std.proofs.Common.{◌≡◌, ℕ, ◌+◌, ◌<◌, ◌≤◌, Bool, true, false, List, [], ◌∷◌, ◌++◌, length, take, drop, Option, None, Some, refl, sym, ◌∙◌, ap, arith, append_assoc, append-nil, if◌then◌else◌, take-append-drop}
use Rattle.std.specs.Prelude.{slice_get, flat_map}
use Rattle.std.specs.Option.{option_to_list}
use Rattle.std.proofs.lemmas.List.{take_all, length-take}
use Rattle.hdlc_frames.specs.Framing.{flag, escape, Verdict, unescaped, ends_in_escape, frames_of}
use Rattle.hdlc_frames.specs.Spelling.{escaped_octet, escaped}
use Rattle.hdlc_frames.specs.Deframing.{KeptDeframer, Feeding, open_piece, kept_since, kept_of, stream_behind_kept, IsKeptOfStream, used_behind, feeding_of}
use Rattle.hdlc_frames.specs.Scanning.{after_octet, verdict_at, octet_scan, scan_of}
use Rattle.hdlc_frames.proofs.StreamLaws.{behind, closed_by, frames_from, piece_from, frames_from-cons, frames_from-nil, piece_from-cons, piece_from-nil, frames_of-append, frames_of-nothing, open_piece-append, none_open, behind-flag}
use Rattle.hdlc_frames.proofs.SpellingLaws.{no_flag, octet_back, plain_frames, plain_piece, behind_one_flag}
use Rattle.hdlc_frames.proofs.DeframingLaws.{kept_since-octet, verdict_of_octet, kept_of-is, kept_of-nothing, scan_answers, scan_frames, scan_kept, scan_moves}

-- ---- what a deframer keeps of any stream

-- what can be kept: nothing before the first flag, and at most 1,033 octets
pub record CanBeKept (k : KeptDeframer) : Type 0 where
  pub before : k.begun ≡ false → (k.escaping ≡ false) × (k.content ≡ [])
  pub short : length k.content ≤ 1033

can_since : (s : Option (List ℕ)) → CanBeKept (kept_since s)
unfolding kept_since
can_since None = record { before = λ e. (refl, refl); short = omega arith }
can_since (Some p) = record { before = λ e. cc; short = omega (arith, length-take 1033 (unescaped p false)) }

pub can_be_kept : (stream : List ℕ) → CanBeKept (kept_of stream)
unfolding kept_of
can_be_kept stream = can_since (open_piece stream)

-- ---- the stream of what is kept

-- the escape that is open at the end
abbrev tail : Bool → List ℕ
tail escaping = if escaping then escape ∷ [] else []

tail_back : (b : Bool) → (no_flag (tail b) ≡ true) × (ends_in_escape (tail b) false ≡ b) × (unescaped (tail b) false ≡ [])
unfolding no_flag ends_in_escape unescaped
tail_back true = (refl, refl, refl)
tail_back false = (refl, refl, refl)

content_tail : (c : List ℕ) (b : Bool) → (no_flag (escaped c ++ tail b) ≡ true) × (ends_in_escape (escaped c ++ tail b) false ≡ b) × (unescaped (escaped c ++ tail b) false ≡ c)
unfolding escaped
content_tail [] b = tail_back b
content_tail (x ∷ c) b =
    let rest = content_tail c b in
    let one = octet_back x (flat_map escaped_octet c ++ tail b) rest.0 in
    let same = append_assoc (escaped_octet x) (flat_map escaped_octet c) (tail b) in
    rw same (one.0, one.1 ∙ rest.1, one.2 ∙ ap (λ d. x ∷ d) rest.2)

begun_stream : (escaping : Bool) (content : List ℕ) → stream_behind_kept (record { begun = true; escaping = escaping; content = content }) ≡ flag ∷ (escaped content ++ tail escaping)
unfolding stream_behind_kept
begun_stream escaping content = refl

fresh_stream : (escaping : Bool) (content : List ℕ) → stream_behind_kept (record { begun = false; escaping = escaping; content = content }) ≡ []
unfolding stream_behind_kept
fresh_stream escaping content = refl

-- the octets behind a flag, none of which is one
open_behind : (xs : List ℕ) → no_flag xs ≡ true → open_piece (flag ∷ xs) ≡ Some xs
open_behind xs h =
    open_piece-append [] (flag ∷ xs) ∙ ap (λ s. piece_from s (flag ∷ xs)) none_open ∙ piece_from-cons None flag xs
    ∙ ap (λ s. piece_from s xs) (behind-flag None flag refl) ∙ plain_piece xs [] h

since_some : (piece : List ℕ) (escaping : Bool) (content : List ℕ) → ends_in_escape piece false ≡ escaping → unescaped piece false ≡ content → length content ≤ 1033
    → kept_since (Some piece) ≡ record { begun = true; escaping = escaping; content = content }
unfolding kept_since
since_some piece escaping content e f short = rw (e, f, take_all 1033 content short) refl

is_kept : (begun escaping : Bool) (content : List ℕ) → CanBeKept (record { begun = begun; escaping = escaping; content = content }) → IsKeptOfStream (record { begun = begun; escaping = escaping; content = content })
is_kept true escaping content can =
    let back = content_tail content escaping in
    kept_of-is (stream_behind_kept (record { begun = true; escaping = escaping; content = content }))
    ∙ ap (λ xs. kept_since (open_piece xs)) (begun_stream escaping content)
    ∙ ap kept_since (open_behind (escaped content ++ tail escaping) back.0)
    ∙ since_some (escaped content ++ tail escaping) escaping content back.1 back.2 can.short
is_kept false escaping content can =
    let parts = can.before refl in
    ap kept_of (fresh_stream escaping content) ∙ kept_of-nothing
    ∙ ap (λ b. record { begun = false; escaping = b; content = [] }) (sym parts.0) ∙ ap (λ (c : List ℕ). record { begun = false; escaping = escaping; content = c }) (sym parts.1)

pub kept_again : (k : KeptDeframer) → CanBeKept k → IsKeptOfStream k
kept_again k can = is_kept k.begun k.escaping k.content can

-- what the buffer keeps
pub buffer_is_kept : (begun escaping : Bool) (len : ℕ) (octets : List ℕ) → len ≤ 1033 → (begun ≡ false → (escaping ≡ false) × (len ≡ 0)) → IsKeptOfStream (record { begun = begun; escaping = escaping; content = take len octets })
buffer_is_kept begun escaping len octets fits fresh =
    kept_again (record { begun = begun; escaping = escaping; content = take len octets })
    (record { before = λ e. ((fresh e).0, ap (λ n. take n octets) (fresh e).1); short = omega (arith, length-take len octets) })

-- ---- no frame is in it

no_frames_in : (begun escaping : Bool) (content : List ℕ) → frames_of (stream_behind_kept (record { begun = begun; escaping = escaping; content = content })) ≡ []
no_frames_in true escaping content =
    let xs : List ℕ = escaped content ++ tail escaping in
    ap frames_of (begun_stream escaping content) ∙ behind_one_flag xs ∙ plain_frames xs [] (content_tail content escaping).0
no_frames_in false escaping content = ap frames_of (fresh_stream escaping content) ∙ frames_of-nothing

pub no_frames : (k : KeptDeframer) → frames_of (stream_behind_kept k) ≡ []
no_frames k = no_frames_in k.begun k.escaping k.content

-- ---- feeding, by the machine that goes octet by octet

-- the octets of a stream with no frame in it stand for what the machine keeps
one_closes : (stream : List ℕ) (x : ℕ) → frames_of stream ≡ [] → frames_of (stream ++ x ∷ []) ≡ option_to_list (verdict_at (kept_of stream) x)
one_closes stream x none =
    frames_of-append stream (x ∷ []) ∙ ap (λ v. v ++ frames_from (open_piece stream) (x ∷ [])) none
    ∙ frames_from-cons (open_piece stream) x [] ∙ ap (λ v. closed_by (open_piece stream) x ++ v) (frames_from-nil (behind (open_piece stream) x)) ∙ append-nil (closed_by (open_piece stream) x)
    ∙ sym (ap (λ (k : KeptDeframer). option_to_list (verdict_at k x)) (kept_of-is stream) ∙ verdict_of_octet (open_piece stream) x)

one_kept : (stream : List ℕ) (x : ℕ) → after_octet (kept_of stream) x ≡ kept_of (stream ++ x ∷ [])
one_kept stream x =
    ap (λ (k : KeptDeframer). after_octet k x) (kept_of-is stream) ∙ kept_since-octet (open_piece stream) x
    ∙ ap kept_since (sym (open_piece-append stream (x ∷ []) ∙ piece_from-cons (open_piece stream) x [] ∙ piece_from-nil (behind (open_piece stream) x)))
    ∙ sym (kept_of-is (stream ++ x ∷ []))

used_more : (stream : List ℕ) (x : ℕ) (xs : List ℕ) (v : Option Verdict) (k : KeptDeframer) (rest : Feeding) → frames_of (stream ++ x ∷ []) ≡ option_to_list v
    → (frames_of (stream ++ x ∷ []) ≡ [] → used_behind (stream ++ x ∷ []) xs ≡ rest.used) → used_behind stream (x ∷ xs) ≡ (octet_scan k v rest).used
unfolding used_behind
used_more stream x xs None k rest e onward = rw e (ap (λ n. n + 1) (onward e))
used_more stream x xs (Some v) k rest e onward = rw e refl

used_is : (xs stream : List ℕ) → frames_of stream ≡ [] → used_behind stream xs ≡ (scan_of (kept_of stream) xs).used
unfolding used_behind
used_is [] stream none = refl
used_is (x ∷ xs) stream none =
    used_more stream x xs (verdict_at (kept_of stream) x) (after_octet (kept_of stream) x) (scan_of (after_octet (kept_of stream) x) xs) (one_closes stream x none)
    (λ e. used_is xs (stream ++ x ∷ []) e ∙ ap (λ (k : KeptDeframer). (scan_of k xs).used) (sym (one_kept stream x)))

-- the first verdict on a piece is the one that is given
pub first_verdict : (stream piece : List ℕ) (v : Option Verdict) (n : ℕ) → frames_of stream ≡ [] → frames_of (stream ++ take n piece) ≡ option_to_list v → (v ≡ None → n ≡ length piece)
    → slice_get (frames_of (stream ++ piece)) 0 ≡ v
first_verdict stream piece None n none e whole = rw (sym (ap (λ xs. frames_of (stream ++ xs)) (take_all n piece (omega (arith, whole refl)))) ∙ e) refl
first_verdict stream piece (Some v) n none e whole =
    let split : frames_of (stream ++ piece) ≡ v ∷ frames_from (open_piece (stream ++ take n piece)) (drop n piece) =
    ap (λ xs. frames_of (stream ++ xs)) (sym (take-append-drop n piece)) ∙ ap frames_of (sym (append_assoc stream (take n piece) (drop n piece)))
    ∙ frames_of-append (stream ++ take n piece) (drop n piece) ∙ ap (λ vs. vs ++ frames_from (open_piece (stream ++ take n piece)) (drop n piece)) e in
    rw split refl

feeding_by : (s piece : List ℕ) (f : Feeding) → frames_of s ≡ [] → used_behind s piece ≡ f.used → frames_of (s ++ take f.used piece) ≡ option_to_list f.verdict → (f.verdict ≡ None → f.used ≡ length piece) → kept_of (s ++ take f.used piece) ≡ f.kept
    → record { used = used_behind s piece; verdict = slice_get (frames_of (s ++ piece)) 0; kept = kept_of (s ++ take (used_behind s piece) piece) } ≡ f
feeding_by s piece f none used frames whole kept = rw (used, first_verdict s piece f.verdict f.used none frames whole, kept) refl

-- feeding is what the machine does
pub feeding_is : (k : KeptDeframer) (piece : List ℕ) → IsKeptOfStream k → feeding_of k piece ≡ scan_of k piece
unfolding feeding_of
feeding_is k piece is =
    let s : List ℕ = stream_behind_kept k in
    let none : frames_of s ≡ [] = no_frames k in
    let f : Feeding = scan_of (kept_of s) piece in
    feeding_by s piece f none (used_is piece s none)
    (scan_frames s piece ∙ ap (λ vs. vs ++ option_to_list f.verdict) none)
    (scan_answers s piece).whole
    (scan_kept s piece)
    ∙ ap (λ (j : KeptDeframer). scan_of j piece) is

pub feeding_scans : (stream piece : List ℕ) → feeding_of (kept_of stream) piece ≡ scan_of (kept_of stream) piece
feeding_scans stream piece = feeding_is (kept_of stream) piece (kept_again (kept_of stream) (can_be_kept stream))

pub feeding_frames : (stream piece : List ℕ) → frames_of (stream ++ take (feeding_of (kept_of stream) piece).used piece) ≡ frames_of stream ++ option_to_list (feeding_of (kept_of stream) piece).verdict
feeding_frames stream piece = rw (feeding_scans stream piece) (scan_frames stream piece)

pub feeding_kept : (stream piece : List ℕ) → kept_of (stream ++ take (feeding_of (kept_of stream) piece).used piece) ≡ (feeding_of (kept_of stream) piece).kept
feeding_kept stream piece = rw (feeding_scans stream piece) (scan_kept stream piece)

pub feeding_moves : (stream piece : List ℕ) → 0 < length piece → 0 < (feeding_of (kept_of stream) piece).used
feeding_moves stream piece h = rw (feeding_scans stream piece) (scan_moves piece (kept_of stream) h)
