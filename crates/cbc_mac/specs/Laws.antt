-- What holds of the MAC of every text (ISO/IEC 9797-1).
use Rattle.std.specs.Prelude.{ℕ, ◌^◌, ◌<◌, List}
use Rattle.des_block.specs.declared.triple_key.TripleKey.{TripleKey}
use Rattle.cbc_mac.specs.Mac.{mac_of}

-- the MAC is a number of 64 bits
abbrev pub MacBelow : Type 0
MacBelow = (key : TripleKey) (text : List ℕ) → mac_of key text < 2 ^ 64
