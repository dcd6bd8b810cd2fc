-- Representation: what the way up of a payload comes to before anything goes down; no claim rests on it.
use Rattle.std.specs.Prelude.{◌≡◌, true, [], Some}
use Rattle.x224_class2.specs.Tpdus.{GivenTpdu, Dr, Dc}
use Rattle.x224_class2.specs.Transport.{is_called}
use Rattle.er_end_model.specs.Steps.{Carrier, InCr, InCc, InDt, hand_answer, on_safety_release, answer_dr, send_dr}
use Rattle.er_end.specs.KeptLayers.{KCore, kept}
use Rattle.er_end.specs.declared.came.Came.{Came}
use Rattle.er_end.specs.declared.came.Came.TheVariants as came
use Rattle.er_end.specs.declared.came.Brought.{Brought}
use Rattle.er_end.specs.declared.came.Brought.TheVariants as brought
use Rattle.er_end.specs.declared.own_tpdu.OwnTpdu.{OwnTpdu}
use Rattle.er_end.specs.declared.own_tpdu.OwnTpdu.TheVariants as own

abbrev pub carrier_of : Brought → Carrier
carrier_of brought.InCr = InCr
carrier_of brought.InCc = InCc
carrier_of brought.InDt = InDt

-- what goes down
abbrev pub comes_to : Came → KCore → KCore
comes_to came.Nothing x = x
comes_to (came.Answers by answer) x = hand_answer kept (carrier_of by) answer x
comes_to (came.Connects by answer peer) x = record (hand_answer kept (carrier_of by) answer x) { connected = Some peer }
comes_to (came.SafetyReleased why di) x = on_safety_release kept why di x
comes_to (came.PeerDisconnects why) x = answer_dr kept why x
comes_to (came.Refused why reason) x = send_dr kept why reason [] x

-- a call that is to be accepted is there
abbrev pub IsCalledBy : Brought → KCore → Type 0
IsCalledBy brought.InCr x = is_called x.upper.transport.stage ≡ true
IsCalledBy brought.InCc x = Unit {0}
IsCalledBy brought.InDt x = Unit {0}

abbrev pub CanCome : Came → KCore → Type 0
CanCome came.Nothing x = Unit {0}
CanCome (came.Answers by answer) x = IsCalledBy by x
CanCome (came.Connects by answer peer) x = IsCalledBy by x
CanCome (came.SafetyReleased why di) x = Unit {0}
CanCome (came.PeerDisconnects why) x = Unit {0}
CanCome (came.Refused why reason) x = Unit {0}

-- a TPDU of the end's own
abbrev pub given_of_own_tpdu : OwnTpdu → GivenTpdu
given_of_own_tpdu (own.Dr reason user) = Dr reason user
given_of_own_tpdu own.Dc = Dc
