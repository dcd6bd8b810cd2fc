-- Known answers, worked out by hand: what comes of short drills at level safe, and their faults.
use Rattle.std.specs.Prelude.{◌≡◌, false, true, [], ◌∷◌, Some, None, refl}
use Rattle.er_base.specs.declared.side.Side.TheVariants.{E, R}
use Rattle.des_block.specs.declared.triple_key.TripleKey.{TripleKey}
use Rattle.er_base.specs.Octets.{eight}
use Rattle.er_settings.specs.Making.{usual_settings}
use Rattle.er_scenario.specs.declared.level.Level.TheVariants.{Safe}
use Rattle.er_scenario.specs.declared.step.Step.{Step}
use Rattle.er_scenario.specs.declared.step.Step.TheVariants as does
use Rattle.drill_model.specs.declared.world_fault.WorldFault.TheVariants.{NoLink, LinkTwice, MomentBack}
use Rattle.er_end_model.specs.Outcomes.{RefusedNotConnected, RefusedLength, RefusedReleased}
use Rattle.drill_model.specs.Outcomes.{Refused, Released, Frame, UserReleased, Passed, Lost, Repeated, Altered, Inserted, NothingWaits, IsShort, at_end}
use Rattle.drill_model.specs.Worlds.{DrillPlan, On, Drained, drain, tick_each_link, world_run}
use Rattle.drill_model.specs.Faults.{fault_behind}

abbrev plan : DrillPlan
plan = record { level = Safe; settings = usual_settings; show = false }

abbrev key : TripleKey
key = record { first = 1; second = 2; third = 3 }

-- engine 5 and the radio block centre 9, connected
abbrev fixed : Step
fixed = does.Fixed 1 5 9 key key

-- engine 5 calls the radio block centre 9
abbrev called : Step
called = does.Link 2 5 9 key (Some key) 7 8

-- an octet that spells no SaPDU is put, repeated, changed, removed, and what is left is passed: the radio block centre releases with 5.2
pub known_line : (world_run plan (
    fixed ∷ does.Put 1 E (1 ∷ []) ∷ does.Repeat 1 E ∷ does.Alter 1 E 0 3 ∷ does.Alter 1 E 0 0 ∷ does.Alter 1 E 1 3 ∷ does.Lose 1 E ∷ does.Pass 1 E
    ∷ does.Pass 1 E ∷ []
    )).1
    ≡ On 1 (at_end E Inserted) ∷ On 1 (at_end E Repeated) ∷ On 1 (at_end E Altered) ∷ On 1 (at_end E (IsShort 1)) ∷ On 1 (at_end E Lost)
    ∷ On 1 (at_end E (Passed (1 ∷ []))) ∷ On 1 (at_end R (Released (record { reason = 5; sub = 2; by_peer = false })))
    ∷ On 1 (at_end R (Frame (0x11 ∷ 5 ∷ 2 ∷ []))) ∷ On 1 (at_end E NothingWaits) ∷ []
known_line = refl

-- sends that are refused, and a release
pub known_refusals : (world_run plan (fixed ∷ does.Send 1 E [] ∷ does.Release 1 E 4 ∷ does.Send 1 E (65 ∷ []) ∷ called ∷ does.Send 2 R (65 ∷ []) ∷ [])).1
    ≡ On 1 (at_end E (Refused (RefusedLength 0))) ∷ On 1 (at_end E (UserReleased 4))
    ∷ On 1 (at_end E (Released (record { reason = 0; sub = 4; by_peer = false }))) ∷ On 1 (at_end E (Frame (0x10 ∷ 0 ∷ 4 ∷ [])))
    ∷ On 1 (at_end E (Refused (RefusedReleased (record { reason = 0; sub = 4; by_peer = false }))))
    ∷ On 2 (at_end E (Frame (0x42 ∷ 0 ∷ 0 ∷ 5 ∷ 1 ∷ 0 ∷ 0 ∷ 0 ∷ 0 ∷ 0 ∷ 0 ∷ 0 ∷ 8 ∷ []))) ∷ On 2 (at_end R (Refused RefusedNotConnected)) ∷ []
unfolding eight
known_refusals = refl

-- a drain of what waits, e first
pub known_drain : (world_run plan (fixed ∷ does.Release 1 R 2 ∷ does.Put 1 E [] ∷ does.Drain 1 5 ∷ does.Drain 1 0 ∷ [])).1
    ≡ On 1 (at_end R (UserReleased 2)) ∷ On 1 (at_end R (Released (record { reason = 0; sub = 2; by_peer = false })))
    ∷ On 1 (at_end R (Frame (0x11 ∷ 0 ∷ 2 ∷ []))) ∷ On 1 (at_end E Inserted) ∷ On 1 (at_end E (Passed [])) ∷ On 1 (at_end R (Passed (0x11 ∷ 0 ∷ 2 ∷ [])))
    ∷ On 1 (at_end E (Released (record { reason = 0; sub = 2; by_peer = true }))) ∷ Drained 1 2 ∷ Drained 1 0 ∷ []
unfolding drain
known_drain = refl

-- refused steps
pub known_no_link : fault_behind plan (fixed ∷ []) (does.Copy 1 E 2 E) ≡ Some (NoLink 2)
known_no_link = refl

pub known_twice : fault_behind plan (fixed ∷ []) (does.Link 1 5 9 key None 7 8) ≡ Some (LinkTwice 1)
known_twice = refl

pub known_link_out_of_range : fault_behind plan (fixed ∷ []) (does.Fixed 65 5 9 key key) ≡ Some (NoLink 65)
known_link_out_of_range = refl

pub known_back : fault_behind plan (does.Tick 5 ∷ []) (does.Tick 4) ≡ Some (MomentBack 5 4)
unfolding tick_each_link
known_back = refl
