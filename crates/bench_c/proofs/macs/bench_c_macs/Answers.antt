-- What is kept is the exclusive or of the MACs of the texts so far.
use Rattle.std.proofs.Common.{◌≡◌, ℕ, ◌+◌, ◌-◌, ◌*◌, ◌/◌, ◌<◌, List, length, take, drop, get_or, refl, arith}
use Rattle.std.specs.Prelude.{bit_xor}
use Rattle.std.proofs.lemmas.List.{take_all}
use Rattle.std.proofs.lemmas.List.FromFn.{get_or-map-range_with_len, length-map-range_with_len}
use Rattle.std.proofs.lemmas.List.Sums.{fold_more}
use Rattle.des_block.specs.declared.triple_key.TripleKey.{TripleKey}
use Rattle.cbc_mac.specs.Mac.{mac_of}
use Rattle.bench_c.specs.MacPieces.{macs, folded_macs}
use Rattle.bench_c.proofs.macs.bench_c_macs.Goals as goal

length-macs : (key : TripleKey) (size : ℕ) (texts : List ℕ) → length (macs key size texts) ≡ length texts / size
unfolding macs
length-macs key size texts = length-map-range_with_len (λ n. mac_of key (take size (drop (size * n) texts))) 0 (length texts / size)

get_or-macs : (key : TripleKey) (size : ℕ) (texts : List ℕ) (i : ℕ) → i < length texts / size → get_or (macs key size texts) i 0 ≡ mac_of key (take size (drop (size * i) texts))
unfolding macs
get_or-macs key size texts i h = get_or-map-range_with_len (λ n. mac_of key (take size (drop (size * n) texts))) 0 (length texts / size) i i 0 h (omega arith)

pub loop-i-preserved : goal.loop-i-preserved
loop-i-preserved c =
    let texts : List ℕ = c.args.texts.now in
    let size : ℕ = c.args.size in
    let i : ℕ = c.loop-i.i in
    let key : TripleKey = c.new-key.result in
    let within : i < length texts / size = omega arith in
    let more = fold_more bit_xor 0 (macs key size texts) i 0 (omega (arith, length-macs key size texts)) in
    let whole : size * i + size - size * i ≡ size = omega arith in
    let given : c.mac-all.result ≡ mac_of key (take size (drop (size * i) texts)) = rw whole at c.mac-all.ensures in
    rw (more, ← c.loop-i.invariant, get_or-macs key size texts i within, ← given) refl

pub returns : goal.returns
unfolding folded_macs
returns c =
    let texts : List ℕ = c.args.texts.now in
    let size : ℕ = c.args.size in
    let key : TripleKey = c.new-key.result in
    let over : take c.loop-i.i (macs key size texts) ≡ macs key size texts = take_all c.loop-i.i (macs key size texts) (omega (arith, length-macs key size texts)) in
    let all = rw over at c.loop-i.invariant in
    rw (← c.new-key.ensures) all
