-- Octets that are held: flags, and then octets of one frame that is not closed.
use Rattle.std.proofs.Common.{arith, ◌≡◌, ℕ, ◌<◌, ◌==◌, nat_lt, ◌&&◌, Bool, true, false, not, List, [], ◌∷◌, ◌++◌, length, refl, ap, sym, ◌∙◌, append_assoc, append-nil, inl, inr}
use Rattle.std.proofs.lemmas.Bool.{cases_Bool, eqb-true, ltb-true, true≢false}
use Rattle.std.proofs.lemmas.List.Elements.{All-nil, All-cons}
use Rattle.std.proofs.lemmas.List.Splits.{slice_split_none, slice_split_at}
use Rattle.std.specs.List.{All}
use Rattle.hdlc_frames.specs.Framing.{flag, Verdict, verdict_on, has_octets, cut, all_but_last, between_flags, frames_of}
use Rattle.hdlc_frames.specs.Laws.{FlagParts}
use Rattle.relay_model.specs.Units.{Standing, Unbegun, Holding, Overlong, held_or_passed, unit_turn, standing_from}

-- no octet is a flag
abbrev pub ArePlain : List ℕ → Type 0
ArePlain [] = Unit {0}
ArePlain (x ∷ octets) = ((x == flag) ≡ false) × ArePlain octets

abbrev IsPlain : ℕ → Type 0
IsPlain octet = (octet == flag) ≡ false

plain_all : (octets : List ℕ) → ArePlain octets → All IsPlain octets
plain_all [] h = All-nil IsPlain
plain_all (x ∷ octets) h = All-cons IsPlain x octets h.0 (plain_all octets h.1)

pub plain_more : (octets : List ℕ) (x : ℕ) → ArePlain octets → (x == flag) ≡ false → ArePlain (octets ++ x ∷ [])
plain_more [] x h f = (f, tt)
plain_more (y ∷ octets) x h f = (h.0, plain_more octets x h.1 f)

-- ---- frames of plain octets

pub no_frame_before : (octets : List ℕ) → ArePlain octets → frames_of octets ≡ []
unfolding frames_of between_flags all_but_last cut
no_frame_before octets plain = rw (slice_split_none (λ (octet : ℕ). octet == flag) octets (plain_all octets plain)) refl

pub no_frame_at : (octets : List ℕ) → ArePlain octets → frames_of (octets ++ flag ∷ []) ≡ []
unfolding frames_of between_flags all_but_last cut
no_frame_at octets plain = rw (slice_split_at (λ (octet : ℕ). octet == flag) octets flag [] (plain_all octets plain) refl) refl

no_frame_behind : (octets : List ℕ) → ArePlain octets → frames_of (flag ∷ octets) ≡ []
unfolding frames_of between_flags all_but_last cut
no_frame_behind octets plain = rw (slice_split_none (λ (octet : ℕ). octet == flag) octets (plain_all octets plain)) refl

one_frame : (octets : List ℕ) → ArePlain octets → has_octets octets ≡ true → frames_of (flag ∷ octets ++ flag ∷ []) ≡ verdict_on octets ∷ []
unfolding frames_of between_flags all_but_last cut
one_frame octets plain some = rw (slice_split_at (λ (octet : ℕ). octet == flag) octets flag [] (plain_all octets plain) refl, some) refl

one_flag : frames_of (flag ∷ []) ≡ []
unfolding frames_of between_flags all_but_last cut
one_flag = refl

two_flags : frames_of (flag ∷ flag ∷ []) ≡ []
unfolding frames_of between_flags all_but_last cut
two_flags = refl

pub flag_alone : frames_of (flag ∷ []) ≡ []
flag_alone = one_flag

-- ---- behind a flag

-- by the law that a flag parts a stream
pub flag_cuts : FlagParts → (before rest : List ℕ) → frames_of (before ++ flag ∷ rest) ≡ frames_of (before ++ flag ∷ []) ++ frames_of (flag ∷ rest)
flag_cuts parts before rest = (parts before rest).0

-- a second flag tells nothing
pub flag_twice : FlagParts → (rest : List ℕ) → frames_of (flag ∷ flag ∷ rest) ≡ frames_of (flag ∷ rest)
flag_twice parts rest = flag_cuts parts (flag ∷ []) rest ∙ ap (λ (l : List Verdict). l ++ frames_of (flag ∷ rest)) two_flags

-- ---- the shape of what is held

pub record HeldShape (held : List ℕ) (begun : Bool) : Type 0 where
  -- what stands behind its newest flag
  pub piece : List ℕ
  pub plain : ArePlain piece
  pub some : has_octets piece ≡ begun
  -- the flags before it tell nothing
  pub same : (rest : List ℕ) → frames_of (flag ∷ (held ++ rest)) ≡ frames_of (flag ∷ (piece ++ rest))

pub shape_none : HeldShape [] false
shape_none = record { piece = []; plain = tt; some = refl; same = λ rest. refl }

pub shape_flag : FlagParts → (x : ℕ) → (x == flag) ≡ true → HeldShape (x ∷ []) false
shape_flag parts x t =
    record {
      piece = [];
      plain = tt;
      some = refl;
      same = λ rest. ap (λ (y : ℕ). frames_of (flag ∷ y ∷ rest)) (eqb-true x flag t) ∙ flag_twice parts rest;
    }

none_begun : (piece : List ℕ) → has_octets piece ≡ false → piece ≡ []
none_begun [] h = refl
none_begun (x ∷ piece) h = absurd cc

begun_more : (piece : List ℕ) (x : ℕ) → has_octets (piece ++ x ∷ []) ≡ true
begun_more [] x = refl
begun_more (y ∷ piece) x = refl

-- a flag more, where no frame is begun
shape_flag_more : FlagParts → (held : List ℕ) (x : ℕ) → (x == flag) ≡ true → HeldShape held false → HeldShape (held ++ x ∷ []) false
shape_flag_more parts held x t h =
    record {
      piece = [];
      plain = tt;
      some = refl;
      same = λ rest.
          ap (λ (o : List ℕ). frames_of (flag ∷ o)) (append_assoc held (x ∷ []) rest)
          ∙ h.same (x ∷ rest)
          ∙ ap (λ (p : List ℕ). frames_of (flag ∷ (p ++ x ∷ rest))) (none_begun h.piece h.some)
          ∙ ap (λ (y : ℕ). frames_of (flag ∷ y ∷ rest)) (eqb-true x flag t)
          ∙ flag_twice parts rest;
    }

-- another octet more
shape_octet_more : (held : List ℕ) (begun : Bool) (x : ℕ) → (x == flag) ≡ false → HeldShape held begun → HeldShape (held ++ x ∷ []) true
shape_octet_more held begun x f h =
    record {
      piece = h.piece ++ x ∷ [];
      plain = plain_more h.piece x h.plain f;
      some = begun_more h.piece x;
      same = λ rest.
          ap (λ (o : List ℕ). frames_of (flag ∷ o)) (append_assoc held (x ∷ []) rest)
          ∙ h.same (x ∷ rest)
          ∙ ap (λ (o : List ℕ). frames_of (flag ∷ o)) (sym (append_assoc h.piece (x ∷ []) rest));
    }

pub shape_more : FlagParts → (held : List ℕ) (begun : Bool) (x : ℕ) → ((x == flag) && begun) ≡ false → HeldShape held begun
    → HeldShape (held ++ x ∷ []) (not (x == flag))
shape_more parts held false x f h =
    elim (cases_Bool (x == flag)) [
      | inl t ↦ rw t (shape_flag_more parts held x t h)
      | inr g ↦ rw g (shape_octet_more held false x g h)
    ]
shape_more parts held true x f h =
    elim (cases_Bool (x == flag)) [
      | inl t ↦ absurd (true≢false (rw t at f))
      | inr g ↦ rw g (shape_octet_more held true x g h)
    ]

-- no frame is closed in it
pub held_frames : (held : List ℕ) (begun : Bool) → HeldShape held begun → frames_of (flag ∷ held) ≡ []
held_frames held begun h =
    ap (λ (o : List ℕ). frames_of (flag ∷ o)) (sym (append-nil held)) ∙ h.same [] ∙ ap (λ (o : List ℕ). frames_of (flag ∷ o)) (append-nil h.piece)
    ∙ no_frame_behind h.piece h.plain

-- a flag more closes one
pub unit_frames : (held : List ℕ) (h : HeldShape held true) → frames_of (flag ∷ (held ++ flag ∷ [])) ≡ verdict_on h.piece ∷ []
unit_frames held h = h.same (flag ∷ []) ∙ one_frame h.piece h.plain h.some

-- ---- where a side stands

pub record HeldWell (held : List ℕ) (begun : Bool) : Type 0 where
  pub shape : HeldShape held begun
  pub short : length held < 4096

abbrev pub StandsWell : Standing → Type 0
StandsWell Unbegun = Unit {0}
StandsWell (Holding held begun) = HeldWell held begun
StandsWell Overlong = Unit {0}

held_on : (held : List ℕ) (begun : Bool) → HeldShape held begun → StandsWell (held_or_passed held begun).next
held_on held begun h =
    elim (cases_Bool (nat_lt (length held) 4096)) [
      | inl t ↦ rw t (record { shape = h; short = ltb-true (length held) 4096 t })
      | inr f ↦ rw f tt
    ]

empty_well : HeldWell [] false
empty_well = record { shape = shape_none; short = omega arith }

pub turn_well : FlagParts → (s : Standing) (x : ℕ) → StandsWell s → StandsWell (unit_turn s x).next
turn_well parts Unbegun x w =
    elim (cases_Bool (x == flag)) [
      | inl t ↦ rw t (record { shape = shape_flag parts x t; short = omega arith })
      | inr f ↦ rw f tt
    ]
turn_well parts (Holding held begun) x w =
    elim (cases_Bool ((x == flag) && begun)) [
      | inl t ↦ rw t empty_well
      | inr f ↦ rw f (held_on (held ++ x ∷ []) (not (x == flag)) (shape_more parts held begun x f w.shape))
    ]
turn_well parts Overlong x w =
    elim (cases_Bool (x == flag)) [
      | inl t ↦ rw t empty_well
      | inr f ↦ rw f tt
    ]

pub stands_well : FlagParts → (s : Standing) (came : List ℕ) → StandsWell s → StandsWell (standing_from s came)
unfolding standing_from
stands_well parts s [] w = w
stands_well parts s (x ∷ came) w = stands_well parts (unit_turn s x).next came (turn_well parts s x w)
