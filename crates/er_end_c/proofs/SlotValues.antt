-- The machine values of a slot.
use Rattle.std.proofs.Common.{◌≡◌, List, [], ◌∷◌, ◌++◌, refl, subst}
use seplogic.Ra.Ura.{Ura}
use mir.Val.{Val, vstruct, vcons, vnil, of_list}
use types.Logic.{Logic}
use types.Kit.{Item, Goal, Seq, Step, step, ‵, ◌$◌, drop, fsplit, fjoin, fpick, fpack, feq_i, feq_l}
use denote.RattleType.{Valss}
use denote.Builtin.{RawPtr}
use denote.RawPtr.{Ptr, ptr_val}
use denote.Steps.{nothing}
use denote.Struct.Struct.{within}
use denote.Struct.Owning.{shape}
use Rattle.std.specs.Prelude.{Option}
use Rattle.er_end_c.specs.Slots.{slot_owns}
use Rattle.er_end_c.specs.contracts.held.Held.{the_row as Held}
use Rattle.er_end_c.specs.contracts.slot.Slot as slot

abbrev pub lone : Val → Val
lone v = vstruct (vcons v vnil)

module _ {M : Type 1} {𝓤 : Ura M} {𝓛 : Logic 𝓤} {K : Type 0} {Γ : List (Item 𝓤)} {G : Goal 𝓤 𝓛.H} where
  pub slot_out : K → (d : slot.the_row.Denot) (vs : List Val)
      → (vs ≡ lone (ptr_val d.at) ∷ [] → Seq K 𝓛 (‵ (slot_owns Held d.at d.held) ∷ Γ) G)
      → Seq K 𝓛 (‵ (slot.the_row.own_val d vs) ∷ Γ) G
  slot_out t d vs k =
      fsplit t $ fpick t (λ vss. fsplit t $ feq_l t (λ ev. fsplit t $ feq_l t (λ ep. drop t $
      k (subst (λ (ps : List Val). vs ≡ vstruct (of_list (ps ++ [])) ∷ []) ep ev))))

  pub slot_in : K → (p : Ptr) (x : Option Held.Denot)
      → Step K 𝓛 (‵ (slot.the_row.own_val (record { at = p; held = x }) (lone (ptr_val p) ∷ [])) ∷ Γ) G (‵ (slot_owns Held p x) ∷ Γ) G
  slot_in t p x = step (λ s. let v : Val = lone (ptr_val p) in
      nothing t $ feq_i t (List Val) (ptr_val p ∷ []) (ptr_val p ∷ []) refl $ fjoin t $ feq_i t (List Val) (v ∷ []) (v ∷ []) refl $ fjoin t $
      fpack t (Valss (RawPtr ∷ [])) (within (shape slot.the_type) (p, tt) (v ∷ [])) (ptr_val p ∷ [], tt) $ fjoin t $ s)
