-- A KMAC as octets: three DES keys (FIPS 46-3) one behind the other, of each the first octet the most significant.
use Rattle.std.specs.Prelude.{ℕ, ℤ, ◌==◌, ◌&&◌, Bool, if◌then◌else◌, List, [], ◌∷◌}
use Rattle.des_block.specs.declared.triple_key.TripleKey.{TripleKey}
use Rattle.key_store.specs.KeyFiles.{three_keys}
use Rattle.er_end_c.specs.Statuses.{ok, wrong_keys}

-- all of it is zero: no KMAC, but memory that nobody filled
abbrev pub is_kmac_zero : TripleKey → Bool
is_kmac_zero kmac = kmac.first == 0 && kmac.second == 0 && kmac.third == 0

-- the three numbers of 64 bits that a KMAC is passed as
abbrev pub numbers_of_kmac : TripleKey → List ℕ
numbers_of_kmac kmac = kmac.first ∷ kmac.second ∷ kmac.third ∷ []

-- ---- of 24 octets

abbrev pub kmac_status : List ℕ → ℤ
kmac_status octets = if is_kmac_zero (three_keys octets) then wrong_keys else ok

-- what stands where the numbers were to be written; it stays as it was where the octets are refused
abbrev pub kmac_written : (octets old : List ℕ) → List ℕ
kmac_written octets old = if is_kmac_zero (three_keys octets) then old else numbers_of_kmac (three_keys octets)
