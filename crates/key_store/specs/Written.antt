-- Representation: the tables that the code prints as a key file, in the order of TOML's keys; no claim rests on it.
use Rattle.std.specs.Prelude.{ℕ, pos, List, [], ◌∷◌, ◌++◌, codes}
use Rattle.std.specs.Cmp.Lexicographic.{slice_cmp}
use Rattle.std.specs.Ordering.{nat_cmp, match_ordering}
use Rattle.toml.specs.Data.{Data, string, integer, array, table, Items, no_items, item, Members, no_members, member}
use Rattle.hex.specs.Hex.{encode_lower}
use Rattle.er_base.specs.Octets.{eight}
use Rattle.des_block.specs.declared.triple_key.TripleKey.{TripleKey}
use Rattle.safety_automaton.specs.Keys.{KmacEntry}

-- a member put among others
abbrev pub put_member : List ℕ → Data → Members → Members
put_member k d no_members = member k d no_members
put_member k d (member l e ms) =
    match_ordering (slice_cmp nat_cmp k l) (member k d (member l e ms)) (member l d ms) (member l e (put_member k d ms))

-- three keys as octets, and as 48 digits
abbrev pub key_octets : TripleKey → List ℕ
key_octets key = eight key.first ++ (eight key.second ++ eight key.third)

unfoldable pub key_digits : TripleKey → List ℕ
key_digits key = encode_lower (key_octets key)

abbrev pub entry_members : KmacEntry → Members
entry_members e =
    member (codes "engine") (integer (pos e.engine))
    (member (codes "from") (integer (pos e.first))
    (member (codes "kmac") (string (key_digits e.kmac))
    (member (codes "rbc") (integer (pos e.rbc)) (member (codes "to") (integer (pos e.last)) no_members))))

abbrev pub entry_items : List KmacEntry → Items
entry_items [] = no_items
entry_items (e ∷ es) = item (table (entry_members e)) (entry_items es)

abbrev pub file_members : List KmacEntry → Members
file_members es = member (codes "key") (array (entry_items es)) (member (codes "version") (integer (pos 2)) no_members)
