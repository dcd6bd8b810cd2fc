use Rattle.std.proofs.Common.{◌≡◌, ℕ, ap, sym, subst, refl, Option, Some, None, Result, Ok}
use Rattle.std.specs.Prelude.{option_map}
use Rattle.hdlc_bits.specs.Framing.{Verdict}
use Rattle.hdlc_bits.specs.Shown.{verdict_of_bits_found}
use Rattle.hdlc_bits.specs.declared.found.BitFound.{BitFound}
use Rattle.outside.specs.Doings.{Told}
use Rattle.er_statuses.specs.declared.stop.Stop.{Stop}
use Rattle.er_program.specs.BitScripts.{SaysVerdict, SaysFound}
use Rattle.er_program.proofs.bits.tell.Goals as goal

says_some : (v : Option Verdict) (x : Verdict) (before now : Told) (r : Result ℕ Stop) → v ≡ Some x → SaysVerdict x before now r → SaysFound v before now r
says_some v x before now r is says = subst (λ (u : Option Verdict). SaysFound u before now r) (sym is) says

says_none : (v : Option Verdict) (t : Told) → v ≡ None → SaysFound v t t (Ok 0)
says_none v t is = subst (λ (u : Option Verdict). SaysFound u t t (Ok 0)) (sym is) (refl, refl)

pub returns-in-Some : goal.returns-in-Some
returns-in-Some g c = record {
  says = says_some _ (verdict_of_bits_found c.in-Some.found) _ _ _ (ap (λ (f : Option BitFound). option_map verdict_of_bits_found f) c.in-Some.is) c.tell_found.ensures.says;
}

pub returns-in-None : goal.returns-in-None
returns-in-None g c = record { says = says_none _ _ (ap (λ (f : Option BitFound). option_map verdict_of_bits_found f) c.in-None.is) }
