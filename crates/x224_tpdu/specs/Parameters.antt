-- The parameters of a TPDU's header (ITU-T X.224, 13.2.3): each is a code, the number of octets of
-- its value, and its value. Which of them are skipped and which are refused is this profile's.
use Rattle.std.specs.Prelude.{ℕ, ◌≡◌, ◌≢◌, ◌==◌, ◌&&◌, ◌||◌, not, nat_lt, if◌then◌else◌, zero, suc, Bool, true, false, List, [], ◌∷◌, ◌++◌, length, slice_index}
use Rattle.std.specs.Prelude.{slice_get, take, drop, Option, Some, None}
use Rattle.x224_tpdu.specs.declared.kind.Kind.{Kind}
use Rattle.x224_tpdu.specs.declared.kind.Kind.TheVariants.{Cr, Cc, Dr, Er}

-- a parameter; its length octet is the number of octets of its value
pub record Parameter : Type 0 where
  pub code : ℕ
  pub value : List ℕ

-- parameters as octets
abbrev pub parameter_octets : List Parameter → List ℕ
parameter_octets [] = []
parameter_octets (p ∷ ps) = p.code ∷ length p.value ∷ p.value ++ parameter_octets ps

-- the parameters past the first n octets, from the left, and the octets left over where no whole
-- parameter stands
abbrev pub parameters_after : ℕ → List ℕ → List Parameter × List ℕ
parameters_after n [] = ([], [])
parameters_after (suc n) (x ∷ xs) = parameters_after n xs
parameters_after zero (code ∷ xs) =
    let size = slice_index xs 0 in
    let behind = parameters_after (suc size) xs in
    if nat_lt size (length xs)
    then (record { code = code; value = take size (drop 1 xs) } ∷ behind.0, behind.1)
    else ([], code ∷ xs)

-- the parameters that octets begin with, and the octets left over where no whole parameter stands
unfoldable pub parameters_in : List ℕ → List Parameter × List ℕ
parameters_in octets = parameters_after 0 octets

-- the same without the way there: the parameters and what is left over make up the octets, and no
-- whole parameter stands where something is left over
abbrev pub CutsParameters : Type 0
CutsParameters =
    (octets : List ℕ)
    → (parameter_octets (parameters_in octets).0 ++ (parameters_in octets).1 ≡ octets)
    × ((p : Parameter) (after : List ℕ)
    → (parameters_in octets).1 ≢ p.code ∷ length p.value ∷ p.value ++ after)

-- the code of the TPDU size
abbrev pub is_size : Parameter → Bool
is_size p = p.code == 0xC0

-- the parameter may stand in a TPDU of this kind; `sized` says that a TPDU size stands before it
abbrev pub may_stand : Kind → Bool → Parameter → Bool
may_stand Cr sized p = if is_size p then (length p.value == 1) && not sized else true
may_stand Cc sized p =
    if is_size p then (length p.value == 1) && not sized else (p.code == 0xC1) || (p.code == 0xC2)
may_stand Dr sized p = p.code == 0xE0
may_stand Er sized p = true
may_stand _ sized p = false

-- the code of the first parameter that may not stand there
abbrev pub first_refused : Kind → Bool → List Parameter → Option ℕ
first_refused kind sized [] = None
first_refused kind sized (p ∷ ps) =
    if may_stand kind sized p then first_refused kind (sized || is_size p) ps else Some p.code

-- the octet of the first TPDU size, where there is one
abbrev pub size_octet : List Parameter → Option ℕ
size_octet [] = None
size_octet (p ∷ ps) = if is_size p then slice_get p.value 0 else size_octet ps
