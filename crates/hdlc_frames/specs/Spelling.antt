-- How a frame is written under start/stop transmission with octet transparency (ISO/IEC 13239): a flag,
-- the content with its flags and escapes escaped, a flag.
use Rattle.std.specs.Prelude.{ℕ, ◌==◌, ◌||◌, List, [], ◌∷◌, ◌++◌, flat_map, bit_xor, if◌then◌else◌}
pub use Rattle.hdlc_fcs.specs.Contents.{content_of}
use Rattle.hdlc_frames.specs.Framing.{flag, escape}

-- the octets that stand for one octet of the content
unfoldable pub escaped_octet : ℕ → List ℕ
escaped_octet x = if x == flag || x == escape then escape ∷ bit_xor x 0x20 ∷ [] else x ∷ []

-- the octets that stand for content
unfoldable pub escaped : List ℕ → List ℕ
escaped content = flat_map escaped_octet content

-- a whole frame
unfoldable pub spelling : ℕ → List ℕ → List ℕ
spelling address body = flag ∷ escaped (content_of address body) ++ flag ∷ []
