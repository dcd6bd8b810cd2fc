-- How long the line of a notice is.
use Rattle.std.proofs.Common.{arith, ◌≡◌, ℕ, ◌+◌, ◌<◌, ◌≤◌, ◌^◌, Bool, true, false, List, [], ◌∷◌, length, length-append, refl, codes}
use Rattle.std.specs.Fmt.{decimal}
use Rattle.std.proofs.lemmas.Fmt.{length-decimal-le}
use Rattle.std.proofs.Math.Dec.{eqb-suc-zero}
use Rattle.hex.specs.Hex.{lower_digits}
use Rattle.hex.proofs.HexLemmas.{length-encode_with}
use Rattle.er_base.specs.declared.why.Why.{Why}
use Rattle.er_base.specs.declared.why.Why.TheVariants as why
use Rattle.er_base.specs.Hexadecimal.{hex_of}
use Rattle.er_base.specs.LineTexts.{line_end, line_text}
use Rattle.application_lines.specs.Notices.{NoticeRefusal, EndReleased, Unconnected, OfLength, Overfull, Connected, Message, Refused, Released, Gone, Counts, Keys, KeysFault, Fault, line_fault_word, releaser_name, send_refusal_words}
use Rattle.application_lines.specs.NoticeLaws.{IsRefusalInRange, NoticesAreShort}

-- ---- words

number_short : (n : ℕ) → n < 2 ^ 64 → length (decimal n) ≤ 20
number_short n h = length-decimal-le 20 n (omega arith) (omega (arith, h)) h

octet_short : (n : ℕ) → n < 256 → length (decimal n) ≤ 20
octet_short n h = number_short n (omega (arith, h))

hex_short : (text : List ℕ) → length text ≤ 2000 → length (hex_of text) ≤ 4000
unfolding hex_of
hex_short [] h = omega arith
hex_short (x ∷ xs) h =
    let long = length-encode_with lower_digits (x ∷ xs) in
    rw (eqb-suc-zero (length xs)) (omega (arith, long, h))

who_short : (by_peer : Bool) → length (releaser_name by_peer) ≤ 5
who_short true = omega arith
who_short false = omega arith

why_short : (fault : Why) → length (line_fault_word fault) ≤ 6
why_short why.Header = omega arith
why_short why.Word = omega arith
why_short why.Count = omega arith
why_short why.Level = omega arith
why_short why.Late = omega arith
why_short why.Number = omega arith
why_short why.Hex = omega arith
why_short why.Value = omega arith
why_short why.Long = omega arith

-- ---- lines

end_one : (word : List ℕ) (words : List (List ℕ)) → length (line_end (word ∷ words)) ≡ 1 + (length word + length (line_end words))
unfolding line_end
end_one word words = let e = length-append word (line_end words) in omega (arith, e)

end_none : length (line_end []) ≡ 1
unfolding line_end
end_none = refl

line_long : (name : List ℕ) (words : List (List ℕ)) → length (line_text (name ∷ words)) ≡ length name + length (line_end words)
unfolding line_text
line_long name words = length-append name (line_end words)

refusal_short : (refusal : NoticeRefusal) → IsRefusalInRange refusal → length (line_end (send_refusal_words refusal)) ≤ 60
refusal_short (EndReleased reason sub) h =
    let a = end_one (codes "released") (decimal reason ∷ decimal sub ∷ []) in
    let b = end_one (decimal reason) (decimal sub ∷ []) in
    let c = end_one (decimal sub) [] in
    let d = octet_short reason h.0 in
    let e = octet_short sub h.1 in
    let f = end_none in
    omega (arith, a, b, c, d, e, f)
refusal_short Unconnected h =
    let a = end_one (codes "notconnected") [] in
    let f = end_none in
    omega (arith, a, f)
refusal_short (OfLength octets) h =
    let a = end_one (codes "length") (decimal octets ∷ []) in
    let b = end_one (decimal octets) [] in
    let d = number_short octets h in
    let f = end_none in
    omega (arith, a, b, d, f)
refusal_short (Overfull waiting) h =
    let a = end_one (codes "full") (decimal waiting ∷ []) in
    let b = end_one (decimal waiting) [] in
    let d = number_short waiting h in
    let f = end_none in
    omega (arith, a, b, d, f)

pub notices_are_short : NoticesAreShort
notices_are_short (Connected c peer) h s =
    let l = line_long (codes "connected") (decimal c ∷ decimal peer ∷ []) in
    let a = end_one (decimal c) (decimal peer ∷ []) in
    let b = end_one (decimal peer) [] in
    let d = number_short c h.0 in
    let e = number_short peer (omega (arith, h.1)) in
    let f = end_none in
    omega (arith, l, a, b, d, e, f)
notices_are_short (Message c text) h s =
    let l = line_long (codes "message") (decimal c ∷ hex_of text ∷ []) in
    let a = end_one (decimal c) (hex_of text ∷ []) in
    let b = end_one (hex_of text) [] in
    let d = number_short c h.0 in
    let e = hex_short text s in
    let f = end_none in
    omega (arith, l, a, b, d, e, f)
notices_are_short (Refused c text refusal) h s =
    let words = send_refusal_words refusal in
    let l = line_long (codes "refused") (decimal c ∷ hex_of text ∷ words) in
    let a = end_one (decimal c) (hex_of text ∷ words) in
    let b = end_one (hex_of text) words in
    let d = number_short c h.0 in
    let e = hex_short text s in
    let f = refusal_short refusal h.2 in
    omega (arith, l, a, b, d, e, f)
notices_are_short (Released c r) h s =
    let l = line_long (codes "released") (decimal c ∷ decimal r.reason ∷ decimal r.sub ∷ releaser_name r.by_peer ∷ []) in
    let a = end_one (decimal c) (decimal r.reason ∷ decimal r.sub ∷ releaser_name r.by_peer ∷ []) in
    let b = end_one (decimal r.reason) (decimal r.sub ∷ releaser_name r.by_peer ∷ []) in
    let g = end_one (decimal r.sub) (releaser_name r.by_peer ∷ []) in
    let k = end_one (releaser_name r.by_peer) [] in
    let d = number_short c h.0 in
    let e = octet_short r.reason h.1 in
    let m = octet_short r.sub h.2 in
    let n = who_short r.by_peer in
    let f = end_none in
    omega (arith, l, a, b, g, k, d, e, m, n, f)
notices_are_short (Gone c) h s =
    let l = line_long (codes "gone") (decimal c ∷ []) in
    let a = end_one (decimal c) [] in
    let d = number_short c h in
    let f = end_none in
    omega (arith, l, a, d, f)
notices_are_short (Counts live opened connected messages) h s =
    let l = line_long (codes "counts") (decimal live ∷ decimal opened ∷ decimal connected ∷ decimal messages ∷ []) in
    let a = end_one (decimal live) (decimal opened ∷ decimal connected ∷ decimal messages ∷ []) in
    let b = end_one (decimal opened) (decimal connected ∷ decimal messages ∷ []) in
    let g = end_one (decimal connected) (decimal messages ∷ []) in
    let k = end_one (decimal messages) [] in
    let d = number_short live h.0 in
    let e = number_short opened h.1 in
    let m = number_short connected h.2 in
    let n = number_short messages h.3 in
    let f = end_none in
    omega (arith, l, a, b, g, k, d, e, m, n, f)
notices_are_short (Keys entries) h s =
    let l = line_long (codes "keys") (decimal entries ∷ []) in
    let a = end_one (decimal entries) [] in
    let d = number_short entries h in
    let f = end_none in
    omega (arith, l, a, d, f)
notices_are_short (KeysFault words) h s = let l = line_long (codes "keys") words in omega (arith, l, s)
notices_are_short (Fault line fault) h s =
    let l = line_long (codes "fault") (decimal line ∷ line_fault_word fault ∷ []) in
    let a = end_one (decimal line) (line_fault_word fault ∷ []) in
    let b = end_one (line_fault_word fault) [] in
    let d = number_short line h in
    let e = why_short fault in
    let f = end_none in
    omega (arith, l, a, b, d, e, f)
