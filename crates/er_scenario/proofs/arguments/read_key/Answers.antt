-- All of 24 octets.
use Rattle.std.proofs.Common.{◌≡◌, ◌∙◌, ap, take, arith, refl}
use Rattle.std.proofs.lemmas.List.{take_all}
use Rattle.er_scenario.specs.Table.{key_argument}
use Rattle.er_scenario.proofs.arguments.read_key.Goals as goal

pub returns-clause-value : goal.returns-clause-value
unfolding key_argument
returns-clause-value c =
    let all : take 24 c.in_ok-octets.octets ≡ c.in_ok-octets.octets = take_all 24 c.in_ok-octets.octets (omega (arith, c.in_ok-octets.ensures.range)) in
    let read : c.in-Some.octets.now ≡ c.in_ok-octets.octets = c.in-Some.ensures.cases.0 ∙ ap (take 24) c.as_slice.ensures ∙ all in
    rw (c.in_ok-octets.ensures.value, c.keys.ensures.value, read) refl
