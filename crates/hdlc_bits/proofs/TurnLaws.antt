-- One turn of the reader's loop: the ones of an octet from a place on, and the 0 behind them.
use Rattle.std.proofs.Common.{◌≡◌, ℕ, ◌+◌, ◌-◌, ◌*◌, ◌/◌, ◌%◌, ◌<◌, ◌≤◌, List, length, take, drop, replicate, Option, None, Some, refl, sym, ◌∙◌, ap, arith, get_or}
use Rattle.std.specs.Prelude.{slice_index}
use Rattle.std.proofs.lemmas.List.{get_or-drop}
use Rattle.bit_lists.specs.LowestFirst.{low_bits}
use Rattle.std.specs.Prelude.{option_map}
use Rattle.hdlc_bits.specs.Framing.{Verdict}
use Rattle.hdlc_bits.specs.Judgements.{verdict_of}
use Rattle.hdlc_bits.specs.declared.judgement.Judgement.{Judgement}
use Rattle.hdlc_bits.specs.Keeping.{KeptBitDeframer, after_zero, after_ones, closing_verdict}
use Rattle.hdlc_bits.specs.Buffers.{HasOnes}
use Rattle.hdlc_bits.specs.Pieces.{bits_between}
use Rattle.hdlc_bits.specs.Advancing.{Advances}
use Rattle.hdlc_bits.proofs.BitLaws.{length-bits_between, drop-bits_between, begins_with_ones, zero_behind_ones}
use Rattle.hdlc_bits.proofs.ScanningLaws.{by_ones, by_zero, Gives, gives, Ends, ends}

-- the octet at a place has so many ones from there on
abbrev pub OnesAt : List ℕ → ℕ → ℕ → Type 0
OnesAt os at t = HasOnes (drop (at % 8) (low_bits 8 (slice_index os (at / 8)))) t

-- the ones, as far as the octet and the bits go
pub turn_ones : (k next : KeptBitDeframer) (os : List ℕ) (first at end t m : ℕ) → first ≤ at → at < end → end ≤ 8 * length os → Advances k (bits_between os first end) (at - first) next → next.ones ≤ 7 → OnesAt os at t → m ≤ t → m ≤ end - at
    → Advances k (bits_between os first end) (at + m - first) (after_ones next m)
turn_ones k next os first at end t m order lt within a small h few fits =
    let sum : at - first + m ≡ at + m - first = omega arith in
    let size : length (bits_between os first end) ≡ end - first = length-bits_between os first end (omega arith) within in
    let ones : take m (drop (at - first) (bits_between os first end)) ≡ replicate m 1 =
    ap (λ bs. take m bs) (drop-bits_between os first at end order (omega arith)) ∙ begins_with_ones os at end t m lt within h few fits in
    rw sum at (by_ones k (bits_between os first end) (at - first) m next a small (omega arith) ones)

-- the bit behind fewer ones than are left of the octet and the bits
bit_behind : (os : List ℕ) (first at end t : ℕ) → first ≤ at → at < end → end ≤ 8 * length os → OnesAt os at t → t < 8 - at % 8 → t < end - at → get_or (bits_between os first end) (at + t - first) 0 ≡ 0
bit_behind os first at end t order lt within h short fits =
    let sum : at - first + t ≡ at + t - first = omega arith in
    let there : get_or (drop (at - first) (bits_between os first end)) t 0 ≡ get_or (bits_between os first end) (at - first + t) 0 = get_or-drop (at - first) (bits_between os first end) t 0 in
    let here : get_or (bits_between os first end) (at - first + t) 0 ≡ 0 =
    sym there ∙ ap (λ bs. get_or bs t 0) (drop-bits_between os first at end order (omega arith)) ∙ zero_behind_ones os at end t lt within h short fits in
    rw sum at here

-- the ones and a 0 that brings no verdict
pub turn_zero : (k next : KeptBitDeframer) (os : List ℕ) (first at end o t : ℕ) → o ≡ t → first ≤ at → at < end → end ≤ 8 * length os → Advances k (bits_between os first end) (at + t - first) next → OnesAt os at o → t < 8 - at % 8 → t < end - at
    → None ≡ closing_verdict next → Advances k (bits_between os first end) (at + t + 1 - first) (after_zero next)
turn_zero k next os first at end o t same order lt within a h short fits none =
    let there : OnesAt os at t = rw same at h in
    let sum : at + t - first + 1 ≡ at + t + 1 - first = omega arith in
    let size : length (bits_between os first end) ≡ end - first = length-bits_between os first end (omega arith) within in
    rw sum at (by_zero k (bits_between os first end) (at + t - first) next a (omega arith) (bit_behind os first at end t order lt within there short fits) none)

-- the ones and a 0 that brings one
pub turn_gives : (k next : KeptBitDeframer) (os : List ℕ) (first at end o t : ℕ) (v : Verdict) → o ≡ t → first ≤ at → at < end → end ≤ 8 * length os → Advances k (bits_between os first end) (at + t - first) next → OnesAt os at o → t < 8 - at % 8 → t < end - at
    → Some v ≡ closing_verdict next → Gives k (bits_between os first end) (at + t - first) next v
turn_gives k next os first at end o t v same order lt within a h short fits some =
    let there : OnesAt os at t = rw same at h in
    let size : length (bits_between os first end) ≡ end - first = length-bits_between os first end (omega arith) within in
    gives k (bits_between os first end) (at + t - first) next v a (omega arith) (bit_behind os first at end t order lt within there short fits) some

-- all bits are used
pub turn_ends : (k next : KeptBitDeframer) (os : List ℕ) (first at end : ℕ) → first ≤ at → at ≤ end → end ≤ at → end ≤ 8 * length os → Advances k (bits_between os first end) (at - first) next → Ends k (bits_between os first end) (at - first) next
turn_ends k next os first at end order before over within a =
    let size : length (bits_between os first end) ≡ end - first = length-bits_between os first end (omega arith) within in
    ends k (bits_between os first end) (at - first) next a (omega arith)

-- ---- what the 0 brought

pub brings_none : (os : List ℕ) (found : Option Judgement) (v : Option Verdict) → option_map (verdict_of os) found ≡ v → ((j : Judgement) → found ≡ Some j → ⊥) → None ≡ v
brings_none os None v e h = e
brings_none os (Some j) v e h = absurd (h j refl)

pub brings_some : (os : List ℕ) (found : Option Judgement) (v : Option Verdict) (j : Judgement) → option_map (verdict_of os) found ≡ v → found ≡ Some j → Some (verdict_of os j) ≡ v
brings_some os found v j e is = rw is at e
