-- What holds of one side of a transport connection by itself: of its fields, of the TPDUs that it gave, and of those that it heard.
use Rattle.std.proofs.Common.{◌≡◌, ℕ, ◌+◌, ◌≤◌, Bool, true, false, List, [], ◌∷◌, length, take}
use Rattle.std.specs.List.{flat_map}
use Rattle.x224_tpdu.specs.Spellings.{IsWritable}
use Rattle.x224_class2.specs.Segments.{Segment, segments_of, messages_in, text_so_far}
use Rattle.x224_class2.specs.Tpdus.{GivenTpdu, Cr, Cc, Dt, Ak, Dr, Dc, pdu_given}
use Rattle.er_end_pair_laws.proofs.Lists.{Each, number, Climbs, Ends}
use Rattle.er_end_pair_laws.proofs.Segments.{IsShort}

-- ---- parts of TPDUs

abbrev pub dt_of : GivenTpdu → List (ℕ × Segment)
dt_of (Dt last n user) = (n, (last, user)) ∷ []
dt_of _ = []

abbrev pub ak_of : GivenTpdu → List ℕ
ak_of (Ak credit n) = n ∷ []
ak_of _ = []

abbrev pub dr_of : GivenTpdu → List ℕ
dr_of (Dr reason user) = 0 ∷ []
dr_of _ = []

abbrev pub dc_of : GivenTpdu → List ℕ
dc_of Dc = 0 ∷ []
dc_of _ = []

abbrev pub dts : List GivenTpdu → List (ℕ × Segment)
dts l = flat_map dt_of l

abbrev pub aks : List GivenTpdu → List ℕ
aks l = flat_map ak_of l

abbrev pub drs : List GivenTpdu → List ℕ
drs l = flat_map dr_of l

abbrev pub dcs : List GivenTpdu → List ℕ
dcs l = flat_map dc_of l

-- ---- what was given, what was heard, how it was cut

pub record Gives (C : ℕ) (segs : List Segment) (given acked edge newest : ℕ) (got : List Segment) (gave : List GivenTpdu) : Type 0 where
  pub all : dts gave ≡ number 0 (take given segs)
  pub most : given ≤ length segs
  pub below : given ≤ edge
  pub near : edge ≤ acked + C
  pub behind : acked ≤ given
  pub tells : Climbs 0 (aks gave) newest
  pub lag : newest ≤ length got

pub record Gets (acked : ℕ) (got : List Segment) (h : List GivenTpdu) : Type 0 where
  pub all : dts h ≡ number 0 got
  pub last : Ends 0 (aks h) acked

pub record Cuts (S : ℕ) (segs : List Segment) : Type 0 where
  pub closed : text_so_far segs ≡ []
  pub short : Each (IsShort S) segs
  pub small : Each (λ m. length m ≤ 1032) (messages_in segs)
  pub cut_is : segs ≡ flat_map (segments_of S) (messages_in segs)

-- ---- the first TPDU, and those behind it

abbrev pub First : Bool → ℕ → ℕ → GivenTpdu → Type 0
First true C S (Cr credit size user) = (credit ≡ C) × (size ≡ S)
First true C S (Cc credit size user) = ⊥
First true C S (Dt last n user) = ⊥
First true C S (Ak credit n) = ⊥
First true C S (Dr reason user) = ⊥
First true C S Dc = ⊥
First false C S (Cr credit size user) = ⊥
First false C S (Cc credit size user) = (credit ≡ C) × (size ≡ S)
First false C S (Dt last n user) = ⊥
First false C S (Ak credit n) = ⊥
First false C S (Dr reason user) = Unit {0}
First false C S Dc = ⊥

abbrev pub Later : ℕ → GivenTpdu → Type 0
Later C (Cr credit size user) = ⊥
Later C (Cc credit size user) = ⊥
Later C (Dt last n user) = Unit {0}
Later C (Ak credit n) = credit ≡ C
Later C (Dr reason user) = Unit {0}
Later C Dc = Unit {0}

abbrev pub Opens : Bool → ℕ → ℕ → List GivenTpdu → Type 0
Opens c C S [] = Unit {0}
Opens c C S (g ∷ gs) = First c C S g × Each (Later C) gs

abbrev pub Fits : GivenTpdu → Type 0
Fits g = IsWritable (pdu_given g)
