-- The frames of all that came, by where a side stands.
use Rattle.std.proofs.Common.{arith, ◌≡◌, ◌≢◌, ℕ, ◌≤◌, ◌==◌, nat_lt, ◌&&◌, Bool, true, false, not, List, [], ◌∷◌, ◌++◌, length, Some, refl, ap, subst, sym, ◌∙◌, append_assoc, append-nil, inl, inr, length-append}
use Rattle.std.proofs.lemmas.Bool.{cases_Bool, eqb-true, and_parts}
use Rattle.std.proofs.lemmas.List.Elements.{All-nil, All-cons, All-append}
use Rattle.std.specs.List.{All}
use Rattle.hdlc_frames.specs.Framing.{flag, Verdict, verdict_on, frames_of}
use Rattle.hdlc_frames.specs.Laws.{FlagParts}
use Rattle.relay_model.specs.Units.{Outside, Whole, Standing, Unbegun, Holding, Overlong, held_or_passed, unit_turn, standing_from, parts_from, standing_behind, held_in_standing, units_in}
use Rattle.relay_model.specs.UnitKinds.{found_in}
use Rattle.relay_model.specs.Laws.{EndsInFrame, UnitsEndInFrames, FramesEndUnits, UnitsAreShort}
use Rattle.relay_model.proofs.Cuts.{parts_one, turn_ends, units_append}
use Rattle.relay_model.proofs.HeldFrames.{ArePlain, plain_more, flag_cuts, flag_twice, HeldShape, shape_more, held_frames, unit_frames, StandsWell, turn_well, stands_well}

-- what the frames of more octets are, behind those that came
abbrev pub FramesSplit : (came : List ℕ) → Standing → Type 0
FramesSplit came Unbegun = ArePlain came
FramesSplit came (Holding held begun) = (more : List ℕ) → frames_of (came ++ more) ≡ frames_of came ++ frames_of (flag ∷ (held ++ more))
FramesSplit came Overlong = Unit {0}

-- behind a flag that has just come nothing is held
pub split_at_flag : FlagParts → (came : List ℕ) (x : ℕ) → (x == flag) ≡ true → FramesSplit (came ++ x ∷ []) (Holding [] false)
split_at_flag parts came x t more =
    ap (λ (y : ℕ). frames_of ((came ++ y ∷ []) ++ more)) (eqb-true x flag t)
    ∙ ap frames_of (append_assoc came (flag ∷ []) more)
    ∙ flag_cuts parts came more
    ∙ ap (λ (y : ℕ). frames_of (came ++ y ∷ []) ++ frames_of (flag ∷ more)) (sym (eqb-true x flag t))

flag_first : FlagParts → (x : ℕ) → (x == flag) ≡ true → (more : List ℕ) → frames_of (flag ∷ (x ∷ more)) ≡ frames_of (flag ∷ more)
flag_first parts x t more = ap (λ (y : ℕ). frames_of (flag ∷ (y ∷ more))) (eqb-true x flag t) ∙ flag_twice parts more

-- the first flag is held
split_at_first : FlagParts → (came : List ℕ) (x : ℕ) → (x == flag) ≡ true → FramesSplit (came ++ x ∷ []) (Holding (x ∷ []) false)
split_at_first parts came x t more =
    split_at_flag parts came x t more ∙ ap (λ (l : List Verdict). frames_of (came ++ x ∷ []) ++ l) (sym (flag_first parts x t more))

-- an octet that is held closes nothing
pub held_closes_none : FlagParts → (came held : List ℕ) (begun : Bool) (x : ℕ) → ((x == flag) && begun) ≡ false → HeldShape held begun
    → FramesSplit came (Holding held begun) → frames_of (came ++ x ∷ []) ≡ frames_of came
held_closes_none parts came held begun x f shape split =
    split (x ∷ []) ∙ ap (λ (l : List Verdict). frames_of came ++ l) (held_frames (held ++ x ∷ []) (not (x == flag)) (shape_more parts held begun x f shape))
    ∙ append-nil (frames_of came)

pub split_more : FlagParts → (came held : List ℕ) (begun : Bool) (x : ℕ) → ((x == flag) && begun) ≡ false → HeldShape held begun
    → FramesSplit came (Holding held begun) → FramesSplit (came ++ x ∷ []) (Holding (held ++ x ∷ []) (not (x == flag)))
split_more parts came held begun x f shape split more =
    ap frames_of (append_assoc came (x ∷ []) more)
    ∙ split (x ∷ more)
    ∙ ap (λ (l : List Verdict). l ++ frames_of (flag ∷ (held ++ x ∷ more))) (sym (held_closes_none parts came held begun x f shape split))
    ∙ ap (λ (o : List ℕ). frames_of (came ++ x ∷ []) ++ frames_of (flag ∷ o)) (sym (append_assoc held (x ∷ []) more))

split_held : (came held : List ℕ) (begun : Bool) → FramesSplit came (Holding held begun) → FramesSplit came (held_or_passed held begun).next
split_held came held begun split =
    elim (cases_Bool (nat_lt (length held) 4096)) [
      | inl t ↦ rw t split
      | inr f ↦ rw f tt
    ]

pub split_turn : FlagParts → (came : List ℕ) (s : Standing) (x : ℕ) → StandsWell s → FramesSplit came s → FramesSplit (came ++ x ∷ []) (unit_turn s x).next
split_turn parts came Unbegun x w split =
    elim (cases_Bool (x == flag)) [
      | inl t ↦ rw t (split_at_first parts came x t)
      | inr f ↦ rw f (plain_more came x split f)
    ]
split_turn parts came (Holding held begun) x w split =
    elim (cases_Bool ((x == flag) && begun)) [
      | inl t ↦ rw t (split_at_flag parts came x (and_parts (x == flag) begun t).0)
      | inr f ↦ rw f (split_held (came ++ x ∷ []) (held ++ x ∷ []) (not (x == flag)) (split_more parts came held begun x f w.shape split))
    ]
split_turn parts came Overlong x w split =
    elim (cases_Bool (x == flag)) [
      | inl t ↦ rw t (split_at_flag parts came x t)
      | inr f ↦ rw f tt
    ]

pub splits : FlagParts → (came more : List ℕ) (s : Standing) → StandsWell s → FramesSplit came s → FramesSplit (came ++ more) (standing_from s more)
unfolding standing_from
splits parts came [] s w split = rw (append-nil came) split
splits parts came (x ∷ more) s w split =
    rw (sym (append_assoc came (x ∷ []) more))
    (splits parts (came ++ x ∷ []) more (unit_turn s x).next (turn_well parts s x w) (split_turn parts came s x w split))

pub splits_all : FlagParts → (came : List ℕ) → FramesSplit came (standing_behind came)
splits_all parts came = splits parts [] came Unbegun tt tt

pub well : FlagParts → (came : List ℕ) → StandsWell (standing_behind came)
well parts came = stands_well parts Unbegun came tt

-- ---- a unit ends where a frame is closed

pub found_one : (unit : List ℕ) (verdict : Verdict) → frames_of (flag ∷ unit) ≡ verdict ∷ [] → found_in unit ≡ Some verdict
unfolding found_in
found_one unit verdict e = rw e refl

unit_of_held : FlagParts → (came held : List ℕ) (x : ℕ) (unit : List ℕ) → (x == flag) ≡ true → HeldShape held true → FramesSplit came (Holding held true)
    → unit ≡ held ++ x ∷ [] → EndsInFrame came x unit
unit_of_held parts came held x unit t shape split is =
    let one : frames_of (flag ∷ (held ++ x ∷ [])) ≡ verdict_on shape.piece ∷ [] =
    ap (λ (y : ℕ). frames_of (flag ∷ (held ++ y ∷ []))) (eqb-true x flag t) ∙ unit_frames held shape in
    record {
      verdict = verdict_on shape.piece;
      found = found_one unit (verdict_on shape.piece) (ap (λ (o : List ℕ). frames_of (flag ∷ o)) is ∙ one);
      frames = split (x ∷ []) ∙ ap (λ (l : List Verdict). frames_of came ++ l) one;
    }

no_part : (unit : List ℕ) → [] ≡ Whole unit ∷ [] → ⊥
no_part unit e = cc

no_whole : (octets unit : List ℕ) → Outside octets ∷ [] ≡ Whole unit ∷ [] → ⊥
no_whole octets unit e = cc

same_unit : (unit whole : List ℕ) → Whole whole ∷ [] ≡ Whole unit ∷ [] → unit ≡ whole
same_unit unit whole e = cc

-- octets that are held on end no unit
no_unit : (held : List ℕ) (begun : Bool) (unit : List ℕ) → (held_or_passed held begun).parts ≡ Whole unit ∷ [] → ⊥
no_unit held begun unit is =
    elim (cases_Bool (nat_lt (length held) 4096)) [
      | inl t ↦ no_part unit (rw t at is)
      | inr f ↦ no_whole held unit (rw f at is)
    ]

unit_at : FlagParts → (came : List ℕ) (s : Standing) (x : ℕ) (unit : List ℕ) → StandsWell s → FramesSplit came s
    → (unit_turn s x).parts ≡ Whole unit ∷ [] → EndsInFrame came x unit
unit_at parts came Unbegun x unit w split is =
    elim (cases_Bool (x == flag)) [
      | inl t ↦ absurd (no_part unit (rw t at is))
      | inr f ↦ absurd (no_whole (x ∷ []) unit (rw f at is))
    ]
unit_at parts came (Holding held begun) x unit w split is =
    elim (cases_Bool ((x == flag) && begun)) [
      | inl t ↦
          let both = and_parts (x == flag) begun t in
          let shape : HeldShape held true = subst (HeldShape held) both.1 w.shape in
          unit_of_held parts came held x unit both.0 shape split (same_unit unit (held ++ x ∷ []) (rw t at is))
      | inr f ↦ absurd (no_unit (held ++ x ∷ []) (not (x == flag)) unit (rw f at is))
    ]
unit_at parts came Overlong x unit w split is = absurd (no_whole (x ∷ []) unit is)

pub units_end_in_frames : FlagParts → UnitsEndInFrames
units_end_in_frames parts came octet unit is =
    unit_at parts came (standing_behind came) octet unit (well parts came) (splits_all parts came) (sym (parts_one (standing_behind came) octet) ∙ is)

ends_at : FlagParts → (came held : List ℕ) (begun : Bool) (octet : ℕ) → HeldShape held begun → FramesSplit came (Holding held begun)
    → frames_of (came ++ octet ∷ []) ≢ frames_of came → (unit_turn (Holding held begun) octet).parts ≡ Whole (held ++ octet ∷ []) ∷ []
ends_at parts came held begun octet shape split closes =
    elim (cases_Bool ((octet == flag) && begun)) [
      | inl t ↦ turn_ends held begun octet t
      | inr f ↦ absurd (closes (held_closes_none parts came held begun octet f shape split))
    ]

pub frames_end_units : FlagParts → FramesEndUnits
frames_end_units parts came octet held begun stands closes =
    let w : StandsWell (Holding held begun) = subst StandsWell stands (well parts came) in
    let split : FramesSplit came (Holding held begun) = subst (FramesSplit came) stands (splits_all parts came) in
    ap (λ (s : Standing). parts_from s (octet ∷ [])) stands ∙ parts_one (Holding held begun) octet ∙ ends_at parts came held begun octet w.shape split closes

-- ---- units are short

abbrev IsShort : List ℕ → Type 0
IsShort unit = length unit ≤ 4096

abbrev Short : List (List ℕ) → Type 0
Short units = All IsShort units

none_short : Short (units_in [])
unfolding units_in
none_short = All-nil IsShort

outside_short : (octets : List ℕ) → Short (units_in (Outside octets ∷ []))
unfolding units_in
outside_short octets = All-nil IsShort

unit_short : (unit : List ℕ) → length unit ≤ 4096 → Short (units_in (Whole unit ∷ []))
unfolding units_in
unit_short unit h = All-cons IsShort unit [] h (All-nil IsShort)

held_short : (held : List ℕ) (begun : Bool) → Short (units_in (held_or_passed held begun).parts)
held_short held begun =
    elim (cases_Bool (nat_lt (length held) 4096)) [
      | inl t ↦ rw t none_short
      | inr f ↦ rw f (outside_short held)
    ]

turn_short : (s : Standing) (x : ℕ) → StandsWell s → Short (units_in (unit_turn s x).parts)
turn_short Unbegun x w =
    elim (cases_Bool (x == flag)) [
      | inl t ↦ rw t none_short
      | inr f ↦ rw f (outside_short (x ∷ []))
    ]
turn_short (Holding held begun) x w =
    elim (cases_Bool ((x == flag) && begun)) [
      | inl t ↦ let short = w.short in rw t (unit_short (held ++ x ∷ []) (omega (arith, short, length-append held (x ∷ []))))
      | inr f ↦ rw f (held_short (held ++ x ∷ []) (not (x == flag)))
    ]
turn_short Overlong x w = outside_short (x ∷ [])

all_short : FlagParts → (s : Standing) (came : List ℕ) → StandsWell s → Short (units_in (parts_from s came))
unfolding parts_from
all_short parts s [] w = none_short
all_short parts s (x ∷ came) w =
    rw (units_append (unit_turn s x).parts (parts_from (unit_turn s x).next came))
    (All-append IsShort (units_in (unit_turn s x).parts) (units_in (parts_from (unit_turn s x).next came)) (turn_short s x w)
    (all_short parts (unit_turn s x).next came (turn_well parts s x w)))

few_held : (s : Standing) → StandsWell s → length (held_in_standing s) ≤ 4095
few_held Unbegun w = omega arith
few_held (Holding held begun) w = let short = w.short in omega (arith, short)
few_held Overlong w = omega arith

pub units_are_short : FlagParts → UnitsAreShort
units_are_short parts came = (all_short parts Unbegun came tt, few_held (standing_behind came) (well parts came))
