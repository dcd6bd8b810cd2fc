-- The words of the kinds of units (this profile).
use Rattle.std.specs.Prelude.{ℕ, ◌==◌, Bool, List, [], ◌∷◌, Option, codes}
use Rattle.std.specs.List.{find}
use Rattle.std.specs.Str.{bytes_eq}
use Rattle.relay_script.specs.declared.unit_kind.UnitKind.{UnitKind}
use Rattle.relay_script.specs.declared.unit_kind.UnitKind.TheVariants.{Any, Bad, Info, Rr, Rnr, Rej, Srej, Sabm, Ua, Disc, Dm, Frmr, Other, Cr, Cc, Dr, Dc, Dt}
use Rattle.relay_script.specs.declared.unit_kind.UnitKind.TheVariants.{Ak, Er}

-- KIND
abbrev pub unit_kind_word : UnitKind → List ℕ
unit_kind_word Any = codes "any"
unit_kind_word Bad = codes "bad"
unit_kind_word Info = codes "i"
unit_kind_word Rr = codes "rr"
unit_kind_word Rnr = codes "rnr"
unit_kind_word Rej = codes "rej"
unit_kind_word Srej = codes "srej"
unit_kind_word Sabm = codes "sabm"
unit_kind_word Ua = codes "ua"
unit_kind_word Disc = codes "disc"
unit_kind_word Dm = codes "dm"
unit_kind_word Frmr = codes "frmr"
unit_kind_word Other = codes "other"
unit_kind_word Cr = codes "cr"
unit_kind_word Cc = codes "cc"
unit_kind_word Dr = codes "dr"
unit_kind_word Dc = codes "dc"
unit_kind_word Dt = codes "dt"
unit_kind_word Ak = codes "ak"
unit_kind_word Er = codes "er"

abbrev pub all_kinds : List UnitKind
all_kinds =
    Any ∷ Bad ∷ Info ∷ Rr ∷ Rnr ∷ Rej ∷ Srej ∷ Sabm ∷ Ua ∷ Disc ∷ Dm ∷ Frmr ∷ Other ∷ Cr ∷ Cc ∷ Dr ∷ Dc ∷ Dt ∷ Ak ∷ Er ∷ []

-- the kind that a word names, where it names one
abbrev pub kind_named : List ℕ → Option UnitKind
kind_named word = find (λ kind. bytes_eq word (unit_kind_word kind)) all_kinds

-- the place of a kind in the list of all
abbrev pub kind_place : UnitKind → ℕ
kind_place Any = 0
kind_place Bad = 1
kind_place Info = 2
kind_place Rr = 3
kind_place Rnr = 4
kind_place Rej = 5
kind_place Srej = 6
kind_place Sabm = 7
kind_place Ua = 8
kind_place Disc = 9
kind_place Dm = 10
kind_place Frmr = 11
kind_place Other = 12
kind_place Cr = 13
kind_place Cc = 14
kind_place Dr = 15
kind_place Dc = 16
kind_place Dt = 17
kind_place Ak = 18
kind_place Er = 19

abbrev pub is_same_kind : UnitKind → UnitKind → Bool
is_same_kind one other = kind_place one == kind_place other
