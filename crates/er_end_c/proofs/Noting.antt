-- Behind an event a handle names the peer that its deeds name.
use Rattle.std.proofs.Common.{◌≡◌, ℕ, List, [], ◌∷◌, ◌++◌, refl, ap, ◌∙◌}
use Rattle.std.specs.Prelude.{Option, Some, None}
use Rattle.er_base.specs.declared.release.Release.{Release as Why}
use Rattle.er_end_model.specs.Steps.{if_connected, if_accepted, if_released, if_octets}
use Rattle.er_end.specs.Inboxes.{newest_of}
use Rattle.er_end.specs.KeptEnds.{KEnd, told_by}
use Rattle.er_end_c.specs.declared.held.Held.{Held}
use Rattle.er_end_c.specs.declared.face.CDeeds.{CDeeds}
use Rattle.er_end_c.specs.Deeds.{deeds_told, deeds_by_outcome_kind}
use Rattle.er_end_c.specs.Shown.{deeds_of}
use Rattle.er_end_c.specs.Calls.{HandleCall, held_behind_event, deeds_at, deeds_with_back, is_back, peer_noted, last_moment_behind, held_behind_call}

pub noted_behind : (call : HandleCall) (before behind : Held) (deeds : CDeeds) → behind ≡ held_behind_event call before → deeds ≡ deeds_at call before
    → record behind { peer = peer_noted deeds behind.peer; last = last_moment_behind call behind.last } ≡ held_behind_call call before
noted_behind call before behind deeds e d =
    ap (λ (h : Held). record h { peer = peer_noted deeds h.peer; last = last_moment_behind call h.last }) e
    ∙ ap (λ (x : CDeeds). record (held_behind_event call before) { peer = peer_noted x before.peer; last = last_moment_behind call before.last }) d

-- .. and the deeds tell whether its moment went back
pub told_behind : (call : HandleCall) (before behind : Held) (deeds : CDeeds) → behind ≡ held_behind_event call before → deeds ≡ deeds_at call before
    → deeds_with_back (is_back call behind.last) deeds ≡ deeds_with_back (is_back call before.last) (deeds_at call before)
told_behind call before behind deeds e d =
    ap (λ (h : Held). deeds_with_back (is_back call h.last) deeds) e ∙ ap (deeds_with_back (is_back call before.last)) d

-- ---- deeds by what an event told of each kind are those of its outcomes

by_kind : (used : ℕ) (c : Option ℕ) (n : Option (List ℕ)) (l : Option Why) (os : List ℕ)
    → deeds_by_outcome_kind used c n l os ≡ record (deeds_told (if_connected c ++ if_accepted n ++ if_released l ++ if_octets os)) { used = used }
by_kind used None None None [] = refl
by_kind used None None None (o ∷ os) = refl
by_kind used None None (Some why) [] = refl
by_kind used None None (Some why) (o ∷ os) = refl
by_kind used None (Some m) None [] = refl
by_kind used None (Some m) None (o ∷ os) = refl
by_kind used None (Some m) (Some why) [] = refl
by_kind used None (Some m) (Some why) (o ∷ os) = refl
by_kind used (Some peer) None None [] = refl
by_kind used (Some peer) None None (o ∷ os) = refl
by_kind used (Some peer) None (Some why) [] = refl
by_kind used (Some peer) None (Some why) (o ∷ os) = refl
by_kind used (Some peer) (Some m) None [] = refl
by_kind used (Some peer) (Some m) None (o ∷ os) = refl
by_kind used (Some peer) (Some m) (Some why) [] = refl
by_kind used (Some peer) (Some m) (Some why) (o ∷ os) = refl

pub deeds_of_end : (used : ℕ) (k : KEnd) → deeds_of used k ≡ record (deeds_told (told_by k)) { used = used }
deeds_of_end used k = by_kind used k.core.connected (newest_of k.core.upper.inbox) k.core.leaves k.core.line.out
