-- A slot that holds a box becomes it again.
use Rattle.std.proofs.Common.{◌≡◌, List, [], ◌∷◌, ◌++◌, refl, sym, ap, ◌∙◌, subst}
use mir.Val.{vptr}
use mir.Raw.{raw as bare}
use base.Logic.{never, fst∗}
use types.Logic.{sem}
use denote.Memory.{lone as one_of}
use mir.Val.{Val}
use base.Logic.{SProp, ent, emp, id⊢}
use prog.Wp.{WpFn}
use types.Kit.{‵, raw, ◌⊛◌, ◌$◌, ◌∵◌, !, qed, by, move, keep, split, fsplit3, fjoin, suffices, use0, rewrite}
use types.Run.{stop, fld, of_opd, no_more, and_then, returns, enter}
use types.ByLocal.{alloc_all, pass_all, free_all, look_at, get, get_in, sets}
use types.Part.{agg, sub, whole}
use contract.Monad.{fact, fact_i}
use contract.Running.{tables}
use denote.Exit.{yes}
use denote.RattleType.{owns}
use denote.Signature.{types_at, plain}
use denote.RawPtr.{block_ptr, null_ptr, ptr_val, in_a_block}
use denote.Steps.{nothing, heard}
use denote.Param.{layout}
use denote.Triple.Entry.{alive}
use denote.Triple.Walked.{Stays, stay_dropped, walk_of, Goes-dropped}
use Rattle.std.proofs.raw_atomic.Walks.{proved_at, leaves}
use Rattle.std.specs.Prelude.{Option, Some, None, IsSome}
use Rattle.std_alloc.specs.Box.Ownership.{box_owns}
use Rattle.libc.specs.Heap.{chunk}
use Rattle.core.proofs.cell.Inside.{one}
use Rattle.std.specs.contracts.alloc.Global as heap
use Rattle.std.proofs.alloc.Global.TheLaws as heap_laws
use Rattle.std.specs.contracts.impls.GlobalAllocator.TheImpl.{ghosts}
use Rattle.loose_box.specs.Values.{both, loose_good, loose_in}
use Rattle.er_end_c.specs.Slots.{slot_owns}
use Rattle.er_end_c.specs.contracts.held.Held.{the_row as Held}
use Rattle.er_end_c.specs.contracts.slot.Slot as slot
use Rattle.er_end_c.proofs.SlotValues.{lone, slot_out}
use Rattle.er_end_c.specs.contracts.slot.Slot.into_loose.{ended, clauses}
use Rattle.er_end_c.specs.contracts.slot.Slot.into_loose.Key.{name as #self}
use Rattle.er_end_c.proofs.slot.Slot.into_loose.Statement.{statement}
use Rattle.er_end_c.proofs.slot.Slot.into_loose.Code as code

found : (x : Option Held.Denot) → IsSome x → (h : Held.Denot) × (x ≡ Some h)
found None not_some = absurd cc
found (Some h) is_some = (h, refl)

pub into_loose_spec : {M : Type 1} → statement M
into_loose_spec 𝓤 𝓛 𝓜 𝓡 wired =
    let H = 𝓛.H in let 𝓣 = tables 𝓤 H 𝓜 𝓡 𝓡.env in let En = ended in let c = clauses 𝓛 𝓜.mem 𝓡.returns in let fn = code.function in
    let Z = heap.the_row in let LZ = heap_laws.the_row_laws in let S = slot.the_row in
    let hs : Stays En.signature.params En.kept = (stay_dropped (plain (λ _. S)) yes, (stay_dropped (plain (λ _. Z)) yes, tt)) in
    proved_at 𝓛 En hs c 𝓜 𝓡 (Goes-dropped 𝓛 0 (plain (λ _. S)) yes (λ κs x f. refl), (Goes-dropped 𝓛 0 (plain (λ _. Z)) yes (λ κs x f. refl), tt)) #self fn (code.unfolded 𝓤 H 𝓜 𝓡 wired) (λ z are.
    let κs = z.0.0 in let qs = z.0.1 in let d = z.0.3.0 in let a = z.0.3.1.0 in let Post : Val → SProp 𝓤 = (walk_of 𝓛 En hs c).post z in let Run : List Val → SProp 𝓤 = λ ws. WpFn 𝓤 H 𝓣.C 𝓣.Λ fn ws Post in
    let h = one (layout Z) z.0.4.1.0 ((LZ.lawful 𝓛).typed a z.0.4.1.0 are.1.0) in
    qed 𝓛 ((raw (alive 𝓛 En.signature κs qs) ⊛ ‵ (owns (types_at En.signature.params κs) z.0.3 z.0.4)) ∷ raw (fact 𝓤 (IsSome d.held)) ∷ []) ∵
    move ! (1 ∷ []) $ heard ! (IsSome d.held) (λ some. let x = found d.held some in split ! $ move ! (1 ∷ []) $ fsplit3 ! $
    rewrite ! 1 (λ (us : List Val). ‵ (Z.own_val a us)) h.1 refl $ slot_out ! d z.0.4.0 (λ ws.
    rewrite ! 0 (λ (held : Option Held.Denot). ‵ (slot_owns Held d.at held)) x.1 refl $
    in_a_block ! d.at (λ p. box_owns chunk Held p x.0) (fst∗ 𝓤 (never 𝓤) (sem 𝓛 (chunk (bare (one_of Held.mir)) null_ptr))) (λ b o e. let v : Val = lone (vptr b o) in
    let is : z.0.4.0 ≡ v ∷ [] = ws ∙ ap (λ p. lone (ptr_val p) ∷ []) e in
    suffices ! (Run (v ∷ h.0 ∷ [])) (subst (λ (us : List Val). ent 𝓤 (Run (v ∷ h.0 ∷ [])) (Run us)) (sym (λ i. is i ++ (h.1 i ++ []))) (id⊢ 𝓤 (Run (v ∷ h.0 ∷ [])))) $
    -- [the box; the allocator; nothing; the tokens]
    enter ! 𝓣.C 𝓣.Λ fn (v ∷ h.0 ∷ []) Post $ alloc_all ! (λ l. pass_all ! refl ((tt, (tt, tt)), (h.2, tt)) $
    sets ! (of_opd ! (get_in ! (fld ! refl (stop !)) (sub ! 0 refl (whole !)))) refl (tt, tt) $ sets ! (of_opd ! (get ! refl)) refl (tt, tt) $
    sets ! (agg ! (and_then ! (get ! refl) (and_then ! (get ! refl) (no_more !)))) refl (loose_good Held Z LZ ghosts b o h.0 h.2) $
    loose_in Held Z LZ ghosts ! b o h.0 a x.0 $
    use0 𝓛 (raw (fact 𝓤 (d.held ≡ Some x.0))) (fact_i 𝓤 (d.held ≡ Some x.0) (emp 𝓤) x.1) $ nothing ! $ nothing ! $ fjoin ! $ nothing ! $ fjoin ! $
    -- [nothing; what was found; the box as Loose; nothing; the tokens]
    returns ! (look_at ! 0 refl) $ free_all ! refl $ keep ! (4 ∷ 0 ∷ 2 ∷ 1 ∷ []) $
    by ! (leaves 𝓛 En hs c z (both (vptr b o) h.0) (record { at = block_ptr b o; alloc = a; value = x.0 }) (tt, (tt, tt)) (tt, (tt, tt))))))))
