-- No line waits, or the write failed.
use Rattle.std.proofs.Common.{◌≡◌, ◌==◌, ℕ, true, List, [], ◌∷◌, length, eqb-true, arith, refl}
use Rattle.outside.specs.Doings.{Told, Did}
use Rattle.outside.specs.Chains.{did_nothing}
use Rattle.outside.specs.Scripts.{printing}
use Rattle.relay_loop.specs.declared.fault.RelayFault.TheVariants as fault
use Rattle.relay_loop.proofs.Deeds.{breaks_sink}
use Rattle.relay_loop.proofs.printing.write_lines.Goals as goal

nothing_said : (text : List ℕ) (t : Told) → (length text == 0) ≡ true → Did t t (printing text)
nothing_said [] t none = did_nothing t
nothing_said (octet ∷ octets) t none = absurd (let q : ⊥ = omega (arith, eqb-true (length (octet ∷ octets)) 0 none) in q)

pub returns-then-is_empty-clause-told : goal.returns-then-is_empty-clause-told
returns-then-is_empty-clause-told g c = nothing_said c.args.lines.now.items _ (rw (c.is_empty.ensures, c.as_slice.ensures.value) at c.if-is_empty.true)

pub returns-in-Err-clause-broke : goal.returns-in-Err-clause-broke
returns-in-Err-clause-broke g c = breaks_sink fault.Sink c.args.lines.now.items _ _ _ (_, refl) c.in-Err.ensures.does
