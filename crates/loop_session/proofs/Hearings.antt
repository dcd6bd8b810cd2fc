-- What a user may have heard and said.
use Rattle.std.proofs.Common.{◌≡◌, ◌∙◌, ℕ, List, [], ◌+◌, Option, Some, None, refl, ap, sym}
use Rattle.er_base.specs.declared.release.Release.{Release}
use Rattle.er_end_model.specs.Outcomes.{SendRefusal}
use Rattle.loop_session.specs.Keeping.{kept_ends}
use Rattle.er_end.specs.KeptEnds.{KEnd}
use Rattle.er_users.specs.Saying.{SpokenByUser, nothing}
use Rattle.er_users.specs.Users.{UserKind, Echo, Tally, Lister, Silent, Callers, Mind, Heard, Refused, Said, said, Hears, Released, noting, tells_more}
use Rattle.loop_model.specs.Sessions.{Rules, Session, silent_answer, replies, notes, parts, parted}
use Rattle.loop_session.specs.Giving.{HeardSo, events_said_by_user}

pub heard_nothing : (mind : Option Mind) (spoken : SpokenByUser) → spoken ≡ nothing → HeardSo mind None mind spoken
heard_nothing None spoken p = record { free = silent_answer; is = ap (λ z. (None, events_said_by_user z)) (sym p) }
heard_nothing (Some mind) spoken p = record { free = silent_answer; is = ap (λ z. (Some mind, events_said_by_user z)) (sym p) }

pub heard_by_none : (heard : Option Heard) (spoken : SpokenByUser) → spoken ≡ nothing → HeardSo None heard None spoken
heard_by_none heard spoken p = record { free = silent_answer; is = ap (λ z. (None, events_said_by_user z)) (sym p) }

pub heard_by_one : (mind now : Mind) (heard : Heard) (spoken : SpokenByUser) → Hears mind heard now spoken → HeardSo (Some mind) (Some heard) (Some now) spoken
heard_by_one mind now heard spoken p = record {
  free = record { mind = now; texts = spoken.texts; leave = spoken.leave };
  is = ap (λ (a : Said). (Some a.mind, replies a)) p;
}

-- ---- a text that was refused

-- to a refusal no kind says anything, and no mind changes
refused_by : (kind : UserKind) (mind : Mind) (text : List ℕ) (why : SendRefusal) (free : Said) → (said kind mind (Refused text why) free).mind ≡ noting (Refused text why) mind
unfolding said
refused_by Echo mind text why free = refl
refused_by Tally mind text why free = refl
refused_by Lister mind text why free = refl
refused_by Silent mind text why free = refl
refused_by Callers mind text why free = refl

pub noted_refusal : (mind now : Mind) (text : List ℕ) (why : SendRefusal) → Hears mind (Refused text why) now nothing
    → Some now ≡ notes (Some (Refused text why)) (Some mind)
noted_refusal mind now text why p =
    ap (λ (a : Said). Some a.mind) (sym p) ∙ ap (λ z. Some z) (refused_by mind.kind mind text why (record { mind = now; texts = []; leave = None }))

-- ---- a release

told_by_kind : (kind : UserKind) (mind : Mind) (heard : Heard) (free : Said) → (said kind mind heard free).mind.told ≡ tells_more mind.told heard
unfolding said
told_by_kind Echo mind heard free = refl
told_by_kind Tally mind heard free = refl
told_by_kind Lister mind heard free = refl
told_by_kind Silent mind heard free = refl
told_by_kind Callers mind heard free = refl

pub told_released : (mind now : Mind) (heard : Heard) (spoken : SpokenByUser) → Hears mind heard now spoken → now.told ≡ tells_more mind.told heard
told_released mind now heard spoken p =
    ap (λ (a : Said). a.mind.told) (sym p) ∙ told_by_kind mind.kind mind heard (record { mind = now; texts = spoken.texts; leave = spoken.leave })

-- a user is let go, and has heard of the release
pub lets_go : (r : Rules) (m : ℕ) (s0 s : Session KEnd) (why : Release) (mind now gone : Mind) (left : Option Mind) → s ≡ s0 → Some why ≡ s0.end.core.released
    → Some mind ≡ s0.mind → Hears mind (Released why.reason why.sub why.by_peer) now nothing → gone ≡ now → left ≡ None
    → record s0 { mind = left; told = gone.told; closing = Some (m + r.setup) } ≡ parted kept_ends r m s
lets_go r m s0 s why mind now gone left same e f p is none =
    ap (λ (z : Option Mind). let t : Session KEnd = record s0 { mind = z; told = gone.told; closing = Some (m + r.setup) } in t) none
    ∙ ap (λ (z : Option (List Heard)). let t : Session KEnd = record s0 { mind = None; told = z; closing = Some (m + r.setup) } in t)
    (ap (λ (z : Mind). z.told) is ∙ told_released mind now (Released why.reason why.sub why.by_peer) nothing p)
    ∙ ap (λ (z : Option Mind). parts (Some why) z (m + r.setup) s0) f ∙ ap (λ (z : Option Release). parts z s0.mind (m + r.setup) s0) e
    ∙ ap (λ (z : Session KEnd). parted kept_ends r m z) (sym same)
