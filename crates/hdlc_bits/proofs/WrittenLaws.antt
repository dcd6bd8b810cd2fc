-- A frame that was written is read as itself.
use Rattle.std.proofs.Common.{◌≡◌, ℕ, zero, suc, ◌+◌, ◌-◌, ◌*◌, ◌/◌, ◌%◌, ◌^◌, ◌<◌, ◌≤◌, true, false, ◌==◌, List, [], ◌∷◌, ◌++◌, length, map, replicate, Option, Some, refl, sym, subst, ◌∙◌, ap, arith, inl, inr, append_assoc, append-nil, length-append, eq-eqb}
use Rattle.std.specs.Prelude.{flat_map, slice_index}
use Rattle.std.proofs.lemmas.Bool.{cases_Bool, cases_lt, le-ltb, ne_eqb, eqb-true}
use Rattle.std.proofs.lemmas.List.{replicate_more, get_or_append_left, get_or-append_right}
use Rattle.bit_lists.specs.LowestFirst.{low_bits}
use Rattle.hdlc_fcs.specs.FrameCheck.{fcs_of, sent_bits}
use Rattle.hdlc_fcs.specs.Contents.{content_of, address_in_content, body_of, checked_part, check_number, IsIntact}
use Rattle.hdlc_fcs.specs.Laws.{ContentReadsBack, FcsIsSmall}
use Rattle.hdlc_bits.specs.Framing.{Verdict, Frame, zero_if, segment_bits, has_bits, verdict_by_frame_check_sequence, verdict_on_bits, verdict_on_segment}
use Rattle.hdlc_bits.specs.Keeping.{added}
use Rattle.hdlc_bits.specs.Stuffing.{flag_bits, stuffed_behind, spelling_in_bits}
use Rattle.hdlc_bits.specs.Laws.{IsWritableFrame, AreWritable, WrittenAreRead, FrameAlone, FrameLength}
use Rattle.hdlc_bits.proofs.RunLaws.{At, at_first, told, next, brought, frames_from, after, frames_from-append, after-append, frames_of_bits-from, frames_from-nil, after-nil, frames_from-cons, after-cons}
use Rattle.hdlc_bits.proofs.KeptLaws.{gap_of, gap_of-push, segment_bits-push}
use Rattle.hdlc_bits.proofs.BitLaws.{length-sent_bits, octets_of_sent}

-- ---- bits

-- each is 0 or 1
AreBits : List ℕ → Type 0
AreBits [] = Unit {0}
AreBits (b ∷ bs) = (b < 2) × AreBits bs

bits_joined : (xs ys : List ℕ) → AreBits xs → AreBits ys → AreBits (xs ++ ys)
unfolding AreBits
bits_joined [] ys h k = k
bits_joined (x ∷ xs) ys h k = (h.0, bits_joined xs ys h.1 k)

low_bits_are : (w n : ℕ) → AreBits (low_bits w n)
unfolding AreBits low_bits
low_bits_are zero n = tt
low_bits_are (suc w) n = (omega arith, low_bits_are w (n / 2))

sent_bits_are : (os : List ℕ) → AreBits (sent_bits os)
unfolding AreBits sent_bits
sent_bits_are [] = tt
sent_bits_are (o ∷ os) = bits_joined (low_bits 8 o) (sent_bits os) (low_bits_are 8 o) (sent_bits_are os)

-- ---- one bit read

-- behind so many ones and these elements
abbrev at : ℕ → List ℕ → At
at n es = record { ones = n; elements = Some es }

next_one : (n : ℕ) (s : Option (List ℕ)) → next (record { ones = n; elements = s }) 1 ≡ record { ones = n + 1; elements = s }
unfolding next
next_one n s = refl

brought_one : (n : ℕ) (s : Option (List ℕ)) → brought (record { ones = n; elements = s }) 1 ≡ []
unfolding brought
brought_one n s = refl

next_zero : (n : ℕ) (es : List ℕ) → n < 6 → next (at n es) 0 ≡ at 0 (es ++ n ∷ [])
unfolding next
next_zero n es h = rw (ne_eqb n 6 (λ e. absurd (omega arith)), le-ltb 5 n (omega arith)) refl

brought_zero : (n : ℕ) (es : List ℕ) → n < 6 → brought (at n es) 0 ≡ []
unfolding brought
brought_zero n es h = rw (le-ltb 5 n (omega arith)) refl

-- ---- stuffed bits read

-- reading these bits brings nothing, and the elements and ones then write this content
record Reads (a : At) (bits content : List ℕ) : Type 0 where
  ones : ℕ
  elements : List ℕ
  few : ones < 5
  nothing : frames_from a bits ≡ []
  stands : after a bits ≡ at ones elements
  writes : segment_bits (elements ++ ones ∷ []) ≡ content

reads_none : (n : ℕ) (es : List ℕ) → n < 5 → Reads (at n es) [] (segment_bits (es ++ n ∷ []) ++ [])
reads_none n es h = record {
  ones = n;
  elements = es;
  few = h;
  nothing = frames_from-nil (at n es);
  stands = after-nil (at n es);
  writes = sym (append-nil (segment_bits (es ++ n ∷ [])));
}

reads_more : (a b : At) (bit : ℕ) (bits content : List ℕ) → next a bit ≡ b → brought a bit ≡ [] → Reads b bits content → Reads a (bit ∷ bits) content
reads_more a b bit bits content is none r = record {
  ones = r.ones;
  elements = r.elements;
  few = r.few;
  nothing = frames_from-cons a bit bits ∙ ap (λ vs. vs ++ frames_from (next a bit) bits) none ∙ ap (λ (c : At). frames_from c bits) is ∙ r.nothing;
  stands = after-cons a bit bits ∙ ap (λ (c : At). after c bits) is ∙ r.stands;
  writes = r.writes;
}

reads_other : (a : At) (bits content other : List ℕ) → content ≡ other → Reads a bits content → Reads a bits other
reads_other a bits content other e r = record { ones = r.ones; elements = r.elements; few = r.few; nothing = r.nothing; stands = r.stands; writes = r.writes ∙ e }

-- the content after one bit more
zero_written : (n : ℕ) (es : List ℕ) → n < 5 → segment_bits ((es ++ n ∷ []) ++ 0 ∷ []) ≡ segment_bits (es ++ n ∷ []) ++ 0 ∷ []
zero_written n es h =
    segment_bits-push (es ++ n ∷ []) 0
    ∙ ap (λ g. segment_bits (es ++ n ∷ []) ++ added g 0) (gap_of-push es n)
    ∙ rw (ne_eqb n 5 (λ e. absurd (omega arith))) refl

one_written : (n : ℕ) (es : List ℕ) → segment_bits (es ++ (n + 1) ∷ []) ≡ segment_bits (es ++ n ∷ []) ++ 1 ∷ []
one_written n es =
    segment_bits-push es (n + 1)
    ∙ ap (λ bs. segment_bits es ++ (zero_if (gap_of es) ++ bs)) (sym (replicate_more n 1))
    ∙ ap (λ bs. segment_bits es ++ bs) (sym (append_assoc (zero_if (gap_of es)) (replicate n 1) (1 ∷ [])))
    ∙ sym (append_assoc (segment_bits es) (added (gap_of es) n) (1 ∷ []))
    ∙ ap (λ bs. bs ++ 1 ∷ []) (sym (segment_bits-push es n))

-- five ones write themselves, and the 0 behind them nothing
five_written : (es : List ℕ) → segment_bits ((es ++ 5 ∷ []) ++ 0 ∷ []) ≡ segment_bits (es ++ 4 ∷ []) ++ 1 ∷ []
five_written es =
    segment_bits-push (es ++ 5 ∷ []) 0
    ∙ ap (λ g. segment_bits (es ++ 5 ∷ []) ++ added g 0) (gap_of-push es 5)
    ∙ append-nil (segment_bits (es ++ 5 ∷ []))
    ∙ one_written 4 es

bit_is : (b : ℕ) → b < 2 → (b == 0) ≡ false → b ≡ 1
bit_is zero h f = cc
bit_is (suc zero) h f = refl
bit_is (suc (suc b)) h f = absurd (omega arith)

below_four : (n : ℕ) → n < 5 → (n == 4) ≡ false → n + 1 < 5
below_four n k g =
    elim (cases_lt n 4) [
      | inl lt ↦ omega arith
      | inr ge ↦ let four : n ≡ 4 = omega arith in let t = eq-eqb n 4 four in cc
    ]

stuffed_zero : (n b : ℕ) (bs : List ℕ) → (b == 0) ≡ true → stuffed_behind n (b ∷ bs) ≡ 0 ∷ stuffed_behind 0 bs
unfolding stuffed_behind
stuffed_zero n b bs t = rw t refl

stuffed_fifth : (n b : ℕ) (bs : List ℕ) → (b == 0) ≡ false → (n == 4) ≡ true → stuffed_behind n (b ∷ bs) ≡ 1 ∷ 0 ∷ stuffed_behind 0 bs
unfolding stuffed_behind
stuffed_fifth n b bs f t = rw (f, t) refl

stuffed_one : (n b : ℕ) (bs : List ℕ) → (b == 0) ≡ false → (n == 4) ≡ false → stuffed_behind n (b ∷ bs) ≡ 1 ∷ stuffed_behind (n + 1) bs
unfolding stuffed_behind
stuffed_one n b bs f g = rw (f, g) refl

stuffed_none : (n : ℕ) → stuffed_behind n [] ≡ []
unfolding stuffed_behind
stuffed_none n = refl

reads_same : (a : At) (xs ys content : List ℕ) → ys ≡ xs → Reads a xs content → Reads a ys content
reads_same a xs ys content e r = subst (λ (zs : List ℕ). Reads a zs content) (sym e) r

stuffed_reads : (bs : List ℕ) (n : ℕ) (es : List ℕ) → AreBits bs → n < 5 → Reads (at n es) (stuffed_behind n bs) (segment_bits (es ++ n ∷ []) ++ bs)
unfolding AreBits
stuffed_reads [] n es h k = reads_same (at n es) [] (stuffed_behind n []) (segment_bits (es ++ n ∷ []) ++ []) (stuffed_none n) (reads_none n es k)
stuffed_reads (b ∷ bs) n es h k =
    let front : List ℕ = segment_bits (es ++ n ∷ []) in
    elim (cases_Bool (b == 0)) [
      | inl t ↦
          let is : b ≡ 0 = eqb-true b 0 t in
          let content : segment_bits ((es ++ n ∷ []) ++ 0 ∷ []) ++ bs ≡ front ++ b ∷ bs =
          ap (λ xs. xs ++ bs) (zero_written n es k) ∙ append_assoc front (0 ∷ []) bs ∙ ap (λ x. front ++ x ∷ bs) (sym is) in
          reads_same (at n es) (0 ∷ stuffed_behind 0 bs) (stuffed_behind n (b ∷ bs)) (front ++ b ∷ bs) (stuffed_zero n b bs t)
          (reads_more (at n es) (at 0 (es ++ n ∷ [])) 0 (stuffed_behind 0 bs) (front ++ b ∷ bs) (next_zero n es (omega arith)) (brought_zero n es (omega arith))
          (reads_other (at 0 (es ++ n ∷ [])) (stuffed_behind 0 bs) (segment_bits ((es ++ n ∷ []) ++ 0 ∷ []) ++ bs) (front ++ b ∷ bs) content (stuffed_reads bs 0 (es ++ n ∷ []) h.1 (omega arith))))
      | inr f ↦
          let is : b ≡ 1 = bit_is b h.0 f in
          elim (cases_Bool (n == 4)) [
            | inl t ↦
                let four : n ≡ 4 = eqb-true n 4 t in
                let five : n + 1 ≡ 5 = omega arith in
                let content : segment_bits ((es ++ (n + 1) ∷ []) ++ 0 ∷ []) ++ bs ≡ front ++ b ∷ bs =
                ap (λ m. segment_bits ((es ++ m ∷ []) ++ 0 ∷ []) ++ bs) five ∙ ap (λ xs. xs ++ bs) (five_written es ∙ ap (λ m. segment_bits (es ++ m ∷ []) ++ 1 ∷ []) (sym four))
                ∙ append_assoc front (1 ∷ []) bs ∙ ap (λ x. front ++ x ∷ bs) (sym is) in
                reads_same (at n es) (1 ∷ 0 ∷ stuffed_behind 0 bs) (stuffed_behind n (b ∷ bs)) (front ++ b ∷ bs) (stuffed_fifth n b bs f t)
                (reads_more (at n es) (at (n + 1) es) 1 (0 ∷ stuffed_behind 0 bs) (front ++ b ∷ bs) (next_one n (Some es)) (brought_one n (Some es))
                (reads_more (at (n + 1) es) (at 0 (es ++ (n + 1) ∷ [])) 0 (stuffed_behind 0 bs) (front ++ b ∷ bs) (next_zero (n + 1) es (omega arith)) (brought_zero (n + 1) es (omega arith))
                (reads_other (at 0 (es ++ (n + 1) ∷ [])) (stuffed_behind 0 bs) (segment_bits ((es ++ (n + 1) ∷ []) ++ 0 ∷ []) ++ bs) (front ++ b ∷ bs) content (stuffed_reads bs 0 (es ++ (n + 1) ∷ []) h.1 (omega arith)))))
            | inr g ↦
                let other : n + 1 < 5 = below_four n k g in
                let content : segment_bits (es ++ (n + 1) ∷ []) ++ bs ≡ front ++ b ∷ bs =
                ap (λ xs. xs ++ bs) (one_written n es) ∙ append_assoc front (1 ∷ []) bs ∙ ap (λ x. front ++ x ∷ bs) (sym is) in
                reads_same (at n es) (1 ∷ stuffed_behind (n + 1) bs) (stuffed_behind n (b ∷ bs)) (front ++ b ∷ bs) (stuffed_one n b bs f g)
                (reads_more (at n es) (at (n + 1) es) 1 (stuffed_behind (n + 1) bs) (front ++ b ∷ bs) (next_one n (Some es)) (brought_one n (Some es))
                (reads_other (at (n + 1) es) (stuffed_behind (n + 1) bs) (segment_bits (es ++ (n + 1) ∷ []) ++ bs) (front ++ b ∷ bs) content (stuffed_reads bs (n + 1) es h.1 other)))
          ]
    ]

-- ---- flags read

-- the verdict on what a flag ends
ended_by_flag : List ℕ → List Verdict
ended_by_flag es = told (record { elements = es; right = 6 })

-- a flag behind ones and elements ends their segment
flag_frames : (n : ℕ) (es : List ℕ) → n < 6 → frames_from (at n es) flag_bits ≡ ended_by_flag (es ++ n ∷ [])
unfolding frames_from brought next ended_by_flag
flag_frames n es h = rw (ne_eqb n 6 (λ e. absurd (omega arith)), le-ltb 5 n (omega arith)) (append-nil _ ∙ append-nil (told (record { elements = es ++ n ∷ []; right = 6 })))

flag_stands : (n : ℕ) (es : List ℕ) → n < 6 → after (at n es) flag_bits ≡ at 0 []
unfolding after next
flag_stands n es h = refl

first_frames : frames_from at_first flag_bits ≡ []
unfolding frames_from brought next
first_frames = refl

first_stands : after at_first flag_bits ≡ at 0 []
unfolding after next
first_stands = refl

again_frames : frames_from (at 0 []) flag_bits ≡ []
unfolding frames_from brought next verdict_on_segment segment_bits
again_frames = refl

again_stands : after (at 0 []) flag_bits ≡ at 0 []
unfolding after next
again_stands = refl

-- ---- a whole frame

none_before : segment_bits ([] ++ 0 ∷ []) ≡ []
unfolding segment_bits
none_before = refl

nonempty : (bs : List ℕ) → 0 < length bs → has_bits bs ≡ true
nonempty [] h = absurd (omega arith)
nonempty (b ∷ bs) h = refl

on_content : (c : List ℕ) → IsIntact c → verdict_by_frame_check_sequence c ≡ Frame (address_in_content c) (body_of c)
unfolding verdict_by_frame_check_sequence
on_content c intact = rw (eq-eqb (fcs_of (checked_part c)) (check_number c) intact.1) refl

on_bits : (c : List ℕ) → ((i : ℕ) → slice_index c i < 256) → 4 ≤ length c → length c ≤ 1032 → IsIntact c → verdict_on_bits (sent_bits c) ≡ Frame (address_in_content c) (body_of c)
unfolding verdict_on_bits
on_bits c below long short intact =
    let size = length-sent_bits c in
    rw (size, le-ltb 8256 (8 * length c) (omega arith), le-ltb 0 (8 * length c % 8) (omega arith), le-ltb (8 * length c) 32 (omega arith))
    (ap verdict_by_frame_check_sequence (octets_of_sent c below) ∙ on_content c intact)

on_segment : (es c : List ℕ) → segment_bits es ≡ sent_bits c → ((i : ℕ) → slice_index c i < 256) → 4 ≤ length c → length c ≤ 1032 → IsIntact c → ended_by_flag es ≡ Frame (address_in_content c) (body_of c) ∷ []
unfolding ended_by_flag verdict_on_segment
on_segment es c is below long short intact =
    rw (is, nonempty (sent_bits c) (omega (arith, length-sent_bits c)), on_bits c below long short intact) refl

two_below : (x y i : ℕ) → x < 256 → y < 256 → slice_index (x ∷ y ∷ []) i < 256
two_below x y zero h k = h
two_below x y (suc zero) h k = k
two_below x y (suc (suc i)) h k = omega arith

check_below : FcsIsSmall → (address : ℕ) (body : List ℕ) → IsWritableFrame (address, body) → (i : ℕ) → slice_index (content_of address body) i < 256
unfolding content_of
check_below small address body w zero = w.0
check_below small address body w (suc i) =
    let number : ℕ = fcs_of (address ∷ body) in
    let narrow : number < 2 ^ 16 = small (address ∷ body) in
    elim (cases_lt i (length body)) [
      | inl lt ↦ rw (get_or_append_left body (number % 256 ∷ number / 256 ∷ []) 0 i lt) (w.1.0 i)
      | inr ge ↦ rw (get_or-append_right body (number % 256 ∷ number / 256 ∷ []) (length body) i 0 refl (omega arith)) (two_below (number % 256) (number / 256) (i - length body) (omega arith) (omega arith))
    ]

-- what a frame is read as behind a flag, up to its last flag
content_read : ContentReadsBack → FcsIsSmall → (address : ℕ) (body : List ℕ) → IsWritableFrame (address, body)
    → (frames_from (at 0 []) (stuffed_behind 0 (sent_bits (content_of address body)) ++ flag_bits) ≡ Frame address body ∷ [])
    × (after (at 0 []) (stuffed_behind 0 (sent_bits (content_of address body)) ++ flag_bits) ≡ at 0 [])
content_read back small address body w =
    let c : List ℕ = content_of address body in
    let bits : List ℕ = stuffed_behind 0 (sent_bits c) in
    let reads : Reads (at 0 []) bits (segment_bits ([] ++ 0 ∷ []) ++ sent_bits c) = stuffed_reads (sent_bits c) 0 [] (sent_bits_are c) (omega arith) in
    let facts = back address body in
    let size : length c ≡ length body + 3 = facts.1.1 in
    let writes : segment_bits (reads.elements ++ reads.ones ∷ []) ≡ sent_bits c = reads.writes ∙ ap (λ bs. bs ++ sent_bits c) none_before in
    let ended : ended_by_flag (reads.elements ++ reads.ones ∷ []) ≡ Frame (address_in_content c) (body_of c) ∷ [] =
    on_segment (reads.elements ++ reads.ones ∷ []) c writes (check_below small address body w) (omega (arith, w.1.1.0)) (omega (arith, w.1.1.1)) facts.0.0 in
    let named : Frame (address_in_content c) (body_of c) ≡ Frame address body = ap (λ a. Frame a (body_of c)) facts.0.1 ∙ ap (λ b. Frame address b) facts.1.0 in
    let few : reads.ones < 6 = omega (arith, reads.few) in (
      frames_from-append bits (at 0 []) flag_bits
          ∙ ap (λ vs. vs ++ frames_from (after (at 0 []) bits) flag_bits) reads.nothing
          ∙ ap (λ (a : At). frames_from a flag_bits) reads.stands
          ∙ flag_frames reads.ones reads.elements few ∙ ended ∙ ap (λ v. v ∷ []) named,
      after-append bits (at 0 []) flag_bits ∙ ap (λ (a : At). after a flag_bits) reads.stands ∙ flag_stands reads.ones reads.elements few,
    )

-- where a first flag brings nothing, a frame is read as itself
frame_read : ContentReadsBack → FcsIsSmall → (a : At) (address : ℕ) (body : List ℕ) → frames_from a flag_bits ≡ [] → after a flag_bits ≡ at 0 [] → IsWritableFrame (address, body)
    → (frames_from a (spelling_in_bits address body) ≡ Frame address body ∷ []) × (after a (spelling_in_bits address body) ≡ at 0 [])
unfolding spelling_in_bits
frame_read back small a address body none is w =
    let bits : List ℕ = stuffed_behind 0 (sent_bits (content_of address body)) in
    let rest = content_read back small address body w in
    let joined : (flag_bits ++ bits) ++ flag_bits ≡ flag_bits ++ (bits ++ flag_bits) = append_assoc flag_bits bits flag_bits in (
      ap (λ bs. frames_from a bs) joined ∙ frames_from-append flag_bits a (bits ++ flag_bits) ∙ ap (λ vs. vs ++ frames_from (after a flag_bits) (bits ++ flag_bits)) none
          ∙ ap (λ (b : At). frames_from b (bits ++ flag_bits)) is ∙ rest.0,
      ap (λ bs. after a bs) joined ∙ after-append flag_bits a (bits ++ flag_bits) ∙ ap (λ (b : At). after b (bits ++ flag_bits)) is ∙ rest.1,
    )

pub frame_alone : ContentReadsBack → FcsIsSmall → FrameAlone
frame_alone back small address body w = frames_of_bits-from (spelling_in_bits address body) ∙ (frame_read back small at_first address body first_frames first_stands w).0

written_behind : ContentReadsBack → FcsIsSmall → (frames : List (ℕ × List ℕ)) (a : At) → frames_from a flag_bits ≡ [] → after a flag_bits ≡ at 0 [] → AreWritable frames
    → frames_from a (flat_map (λ frame. spelling_in_bits frame.0 frame.1) frames) ≡ map (λ frame. Frame frame.0 frame.1) frames
written_behind back small [] a none is w = frames_from-nil a
written_behind back small (frame ∷ frames) a none is w =
    let rest : List ℕ = flat_map (λ frame. spelling_in_bits frame.0 frame.1) frames in
    let one = frame_read back small a frame.0 frame.1 none is w.0 in
    let more = written_behind back small frames (at 0 []) again_frames again_stands w.1 in
    frames_from-append (spelling_in_bits frame.0 frame.1) a rest
    ∙ ap (λ vs. vs ++ frames_from (after a (spelling_in_bits frame.0 frame.1)) rest) one.0
    ∙ ap (λ (b : At). Frame frame.0 frame.1 ∷ frames_from b rest) one.1
    ∙ ap (λ vs. Frame frame.0 frame.1 ∷ vs) more

pub written_are_read : ContentReadsBack → FcsIsSmall → WrittenAreRead
written_are_read back small frames w = frames_of_bits-from (flat_map (λ frame. spelling_in_bits frame.0 frame.1) frames) ∙ written_behind back small frames at_first first_frames first_stands w

-- ---- how long

stuffed_length : (bs : List ℕ) (n : ℕ) → 5 * length (stuffed_behind n bs) ≤ 6 * length bs + n
unfolding stuffed_behind
stuffed_length [] n = omega arith
stuffed_length (b ∷ bs) n =
    elim (cases_Bool (b == 0)) [
      | inl t ↦ rw t (omega (arith, stuffed_length bs 0))
      | inr f ↦
          elim (cases_Bool (n == 4)) [
            | inl t ↦ let four : n ≡ 4 = eqb-true n 4 t in rw (f, t) (omega (arith, stuffed_length bs 0))
            | inr g ↦ rw (f, g) (omega (arith, stuffed_length bs (n + 1)))
          ]
    ]

pub frame_length : ContentReadsBack → FrameLength
unfolding spelling_in_bits
frame_length back address body =
    let c : List ℕ = content_of address body in
    let bits : List ℕ = stuffed_behind 0 (sent_bits c) in
    let size : length c ≡ length body + 3 = (back address body).1.1 in
    omega (arith, length-append (flag_bits ++ bits) flag_bits, length-append flag_bits bits, stuffed_length (sent_bits c) 0, length-sent_bits c)
