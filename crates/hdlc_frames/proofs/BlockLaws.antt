-- Sixteen octets that are looked at, and copied, at once.
use Rattle.std.proofs.Common.{◌≡◌, ◌≢◌, ℕ, ◌+◌, ◌%◌, ◌^◌, ◌≤◌, Bool, true, false, not, cond, eqb, List, ◌++◌, map, length, take, get_or, sym, ap, ◌∙◌, subst, arith, length-append}
use Rattle.std.specs.List.{prefix_len}
use Rattle.std.proofs.lemmas.Simd.{map-map, mask_l-mod, length-chunk, first_set_mask_l, run_in_chunk_le, run_in_chunk_fails}
use Rattle.std.proofs.lemmas.List.{length-map, length-take, length-take-le, take_all, take-take, take-append-le}
use Rattle.std.proofs.Math.Seq.{take-append-add}
use lib.Lanes.{chunk, mask_l, top}
use lib.Count.{count_trailing_zeros}
use Rattle.hdlc_frames.specs.Scanning.{Advances, PlainBefore}
use Rattle.hdlc_frames.proofs.ScanningLaws.{goes_run_of}

-- ---- looked at: lane by lane f, whose top bit is set where a lane stops

module _ (d : List ℕ) (r : ℕ) (z : List ℕ) (f : ℕ → ℕ) (room : 16 ≤ length d)
    (found : r ≡ cond (eqb (mask_l (map (top 7) z) % 2 ^ 64) 0) 16 (count_trailing_zeros 64 (mask_l (map (top 7) z) % 2 ^ 64)))
    (lanes : z ≡ map f (chunk 0 16 d)) where
  abbrev stops : ℕ → Bool
  stops x = top 7 (f x)

  long : length (chunk 0 16 d) ≡ 16
  long = length-chunk 0 16 d room

  counted : r ≡ prefix_len (λ x. not (stops x)) (chunk 0 16 d)
  counted =
      let v = chunk 0 16 d in
      let mask = ap (λ l. mask_l l % 2 ^ 64) (ap (map (top 7)) lanes ∙ map-map (top 7) f v) ∙ mask_l-mod (map stops v) 64 (omega (arith, length-map v stops, long)) in
      found ∙ ap (λ m. cond (eqb m 0) 16 (count_trailing_zeros 64 m)) mask ∙ first_set_mask_l stops v 16 long (omega arith)

  differs : (x y : ℕ) → stops x ≡ false → stops y ≡ true → x ≢ y
  differs x y goes halts e = let same : stops y ≡ false = subst (λ w. stops w ≡ false) e goes in cc

  pub block_within : r ≤ 16
  block_within = run_in_chunk_le stops d 0 16 r 0 room counted

  -- the octets before the first lane that stops are plain, where flags and escapes stop
  pub block_plain : stops 0x7e ≡ true → stops 0x7d ≡ true → PlainBefore d r
  block_plain at_flag at_escape k lt =
      let goes : stops (get_or d k 0) ≡ false = run_in_chunk_fails stops d 0 16 r 0 room counted k (omega arith) (omega arith) in
      (differs (get_or d k 0) 0x7e goes at_flag, differs (get_or d k 0) 0x7d goes at_escape)

-- ---- copied

-- sixteen octets of which the first n are kept behind those that are kept already
pub kept_block : (xs new post block : List ℕ) (len n : ℕ) → len + 16 ≤ 1033 → length xs ≡ 1033 → 16 ≤ length block → n ≤ 16 → new ≡ take 16 block
    → take (len + n) (take len xs ++ (new ++ post)) ≡ take len xs ++ take n block
kept_block xs new post block len n fits full whole few e =
    let c : List ℕ = take len xs in
    let size : length c ≡ len = length-take-le len xs (omega arith) in
    let long : length new ≡ 16 = ap length e ∙ length-take-le 16 block whole in
    ap (λ m. take (m + n) (c ++ (new ++ post))) (sym size) ∙ take-append-add c (new ++ post) n
    ∙ ap (λ ys. c ++ ys) (take-append-le n new post (omega arith) ∙ ap (take n) e ∙ take-take n 16 block few)

-- what fits is kept whole
pub kept_whole : (content block next : List ℕ) (n : ℕ) → length content + n ≤ 1033 → next ≡ content ++ take n block → next ≡ take 1033 (content ++ take n block)
kept_whole content block next n fits e =
    e ∙ sym (take_all 1033 (content ++ take n block) (omega (arith, length-append content (take n block), length-take n block)))

-- the plain octets of a block are gone through
pub goes_block : (begun escaping : Bool) (len count : ℕ) (xs new rest : List ℕ) → begun ≡ true → escaping ≡ false → len + 16 ≤ 1033 → length xs ≡ 1033 → 16 ≤ length rest → count ≤ 16 → PlainBefore rest count
    → ((n : ℕ) → n ≤ 16 → take (len + n) new ≡ take len xs ++ take n rest)
    → Advances (record { begun = begun; escaping = escaping; content = take len xs }) rest count (record { begun = begun; escaping = escaping; content = take (len + count) new })
goes_block begun escaping len count xs new rest b s fits whole there few plain keeps =
    let size : length (take len xs) ≡ len = length-take-le len xs (omega arith) in
    goes_run_of begun escaping (take len xs) (take (len + count) new) rest count b s (omega arith) plain (omega arith)
    (kept_whole (take len xs) rest (take (len + count) new) count (omega arith) (keeps count few))

-- and all of its octets, where all are plain
pub goes_whole_block : (begun escaping : Bool) (len count : ℕ) (xs new rest : List ℕ) → begun ≡ true → escaping ≡ false → len + 16 ≤ 1033 → length xs ≡ 1033 → 16 ≤ length rest → count ≡ 16 → PlainBefore rest count
    → ((n : ℕ) → n ≤ 16 → take (len + n) new ≡ take len xs ++ take n rest)
    → Advances (record { begun = begun; escaping = escaping; content = take len xs }) rest 16 (record { begun = begun; escaping = escaping; content = take (len + count) new })
goes_whole_block begun escaping len count xs new rest b s fits whole there all plain keeps =
    subst (λ (m : ℕ). Advances (record { begun = begun; escaping = escaping; content = take len xs }) rest m (record { begun = begun; escaping = escaping; content = take (len + count) new })) all
    (goes_block begun escaping len count xs new rest b s fits whole there (omega arith) plain keeps)
