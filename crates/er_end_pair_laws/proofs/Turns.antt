-- One TPDU more is given.
use Rattle.std.proofs.Common.{◌≡◌, ℕ, zero, suc, ◌+◌, ◌<◌, ◌≤◌, Bool, true, List, [], ◌∷◌, ◌++◌, length, take, refl, sym, ◌∙◌, ap, subst, arith}
use Rattle.std.specs.Prelude.{slice_index_or}
use Rattle.std.proofs.lemmas.List.{take_more, length-take-le}
use Rattle.std.proofs.Math.Nat.{mod-lt}
use Rattle.x224_tpdu.specs.Spellings.{IsSize}
use Rattle.x224_class2.specs.Segments.{Segment}
use Rattle.x224_class2.specs.Tpdus.{GivenTpdu, Cr, Cc, Dt, Ak, Dr, Dc}
use Rattle.er_end_pair_laws.proofs.Lists.{Each, each_push, number, number_push, Climbs, climbs_push, flat_none, flat_one}
use Rattle.er_end_pair_laws.proofs.Segments.{IsShort}
use Rattle.er_end_pair_laws.proofs.Locals.{dt_of, ak_of, aks, Gives, Later, Opens, Fits}

-- a TPDU that is neither a DT nor an AK
pub gives_other : (C : ℕ) (segs : List Segment) (given acked edge newest : ℕ) (got : List Segment) (gave : List GivenTpdu) (g : GivenTpdu)
    → dt_of g ≡ [] → ak_of g ≡ [] → Gives C segs given acked edge newest got gave → Gives C segs given acked edge newest got (gave ++ g ∷ [])
gives_other C segs given acked edge newest got gave g d a h = record {
  all = flat_none dt_of gave g d ∙ h.all;
  most = h.most;
  below = h.below;
  near = h.near;
  behind = h.behind;
  tells = subst (λ (t : List ℕ). Climbs 0 t newest) (sym (flat_none ak_of gave g a)) h.tells;
  lag = h.lag;
}

-- an AK of a higher number
pub gives_ak : (C : ℕ) (segs : List Segment) (given acked edge newest : ℕ) (got : List Segment) (gave : List GivenTpdu) (credit n : ℕ)
    → newest ≤ n → n ≤ length got → Gives C segs given acked edge newest got gave → Gives C segs given acked edge n got (gave ++ Ak credit n ∷ [])
gives_ak C segs given acked edge newest got gave credit n up lag h = record {
  all = flat_none dt_of gave (Ak credit n) refl ∙ h.all;
  most = h.most;
  below = h.below;
  near = h.near;
  behind = h.behind;
  tells = subst (λ (t : List ℕ). Climbs 0 t n) (sym (flat_one ak_of gave (Ak credit n) n refl)) (climbs_push 0 newest n (aks gave) up h.tells);
  lag = lag;
}

-- the next segment
pub gives_dt : (C : ℕ) (segs : List Segment) (given acked edge newest : ℕ) (got : List Segment) (gave : List GivenTpdu) (last : Bool) (user : List ℕ)
    → given < length segs → given < edge → slice_index_or segs given (true, []) ≡ (last, user)
    → Gives C segs given acked edge newest got gave → Gives C segs (given + 1) acked edge newest got (gave ++ Dt last given user ∷ [])
gives_dt C segs given acked edge newest got gave last user some low e h =
    let t = take_more segs given (true, []) some in
    let l : 0 + length (take given segs) ≡ given = omega (arith, length-take-le given segs (omega arith)) in
    record {
      all = flat_one dt_of gave (Dt last given user) (given, (last, user)) refl
          ∙ ap (λ (ps : List (ℕ × Segment)). ps ++ (given, (last, user)) ∷ []) h.all
          ∙ sym (ap (λ (ss : List Segment). number 0 ss) (t ∙ ap (λ (s : Segment). take given segs ++ s ∷ []) e)
          ∙ number_push 0 (take given segs) (last, user)
          ∙ ap (λ (n : ℕ). number 0 (take given segs) ++ (n, (last, user)) ∷ []) l);
      most = omega arith;
      below = omega arith;
      near = h.near;
      behind = omega (arith, h.behind);
      tells = subst (λ (x : List ℕ). Climbs 0 x newest) (sym (flat_none ak_of gave (Dt last given user) refl)) h.tells;
      lag = h.lag;
    }

-- ---- what opens

pub opens_later : (c : Bool) (C S : ℕ) (gave : List GivenTpdu) (g : GivenTpdu) → 1 ≤ length gave → Later C g → Opens c C S gave → Opens c C S (gave ++ g ∷ [])
opens_later c C S [] g some l h = absurd (let u : ⊥ = omega arith in u)
opens_later c C S (x ∷ xs) g some l h = (h.0, each_push (Later C) xs g h.1 l)

-- ---- what can be written

pub segment_at : (S : ℕ) (segs : List Segment) (n : ℕ) (d : Segment) → n < length segs → Each (IsShort S) segs → IsShort S (slice_index_or segs n d)
segment_at S [] n d some h = absurd (let u : ⊥ = omega arith in u)
segment_at S (x ∷ xs) zero d some h = h.0
segment_at S (x ∷ xs) (suc n) d some h = segment_at S xs n d (omega arith) h.1

pub fits_dt : (S : ℕ) (last : Bool) (n : ℕ) (user : List ℕ) → S ≤ 1024 → IsShort S (last, user) → Fits (Dt last n user)
fits_dt S last n user most h = (((omega arith, mod-lt n (omega arith)), omega (arith, h.0), omega (arith, h.1)), tt, λ e. absurd cc)

pub fits_ak : (C n : ℕ) → C ≤ 15 → Fits (Ak C n)
fits_ak C n most = (((omega arith, omega arith, mod-lt n (omega arith)), omega arith, omega arith), tt, λ e. absurd cc)

pub fits_cr : (C S : ℕ) (user : List ℕ) → C ≤ 15 → IsSize S → length user ≤ 32 → Fits (Cr C S user)
fits_cr C S user most size short = (((omega arith, omega arith, omega arith), omega arith, short), size, λ e. absurd cc)

pub fits_cc : (C S : ℕ) (user : List ℕ) → C ≤ 15 → IsSize S → length user ≤ 32 → Fits (Cc C S user)
fits_cc C S user most size short = (((omega arith, omega arith, omega arith), omega arith, short), size, λ e. absurd cc)

pub fits_dr : (reason : ℕ) (user : List ℕ) → reason < 256 → length user ≤ 64 → Fits (Dr reason user)
fits_dr reason user low short = (((omega arith, omega arith, low), omega arith, short), tt, λ e. absurd cc)

pub fits_dc : Fits Dc
fits_dc = (((omega arith, omega arith), omega arith, omega arith), tt, λ e. absurd cc)
