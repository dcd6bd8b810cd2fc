-- The reasons for a release of an end that a line allows which only loses and repeats frames, where the keys agree (this profile).
use Rattle.std.specs.Prelude.{◌≡◌, ◌⊎◌}
use Rattle.er_base.specs.declared.release.Release.{Release}

-- 0.x, the own user or the peer's; 1.1, the set-up of the link was never answered; 1.2, no progress; 1.4, the peer ended the link; 6.1, the
-- time for the set-up was spent; each by this end or by the peer
abbrev pub IsLosingLineReason : Release → Type 0
IsLosingLineReason release =
    (release.reason ≡ 0)
    ⊎ ((release.reason ≡ 1) × ((release.sub ≡ 1) ⊎ (release.sub ≡ 2) ⊎ (release.sub ≡ 4)))
    ⊎ ((release.reason ≡ 6) × (release.sub ≡ 1))
