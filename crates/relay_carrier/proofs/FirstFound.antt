-- What a deframer finds first of octets, where nothing came before them.
use Rattle.std.proofs.Common.{◌≡◌, ℕ, List, [], ◌∷◌, refl, ap, ◌∙◌}
use Rattle.std.specs.Prelude.{slice_get}
use Rattle.hdlc_frames.specs.Framing.{flag, cut, frames_of}
use Rattle.relay_script.specs.declared.unit_kind.UnitKind.{UnitKind}
use Rattle.relay_script.specs.declared.unit_kind.UnitKind.TheVariants.{Any}
use Rattle.relay_model.specs.UnitKinds.{found_in, kinds_of_found, kinds_in}
use Rattle.hdlc_frames.specs.Deframing.{open_piece, kept_since, kept_of, stream_behind_kept, feeding_of}

pub first_found : (framed : List ℕ) → (feeding_of (kept_of []) framed).verdict ≡ slice_get (frames_of framed) 0
unfolding feeding_of stream_behind_kept kept_of kept_since open_piece cut
first_found framed = refl

pub kinds_framed : (framed unit : List ℕ) (kinds : List UnitKind) → framed ≡ flag ∷ unit → kinds ≡ kinds_of_found (slice_get (frames_of framed) 0)
    → Any ∷ kinds ≡ kinds_in unit
unfolding kinds_in found_in
kinds_framed framed unit kinds is found =
    ap (λ (k : List UnitKind). Any ∷ k) (found ∙ ap (λ (f : List ℕ). kinds_of_found (slice_get (frames_of f) 0)) is)
