use Rattle.std.proofs.Common.{rules, ◌≡◌, ◌<◌, ℕ, List, [], ◌∷◌, ◌++◌, length, get_or, set, drop, ap, sym, ◌∙◌, arith, vec_len}
use Rattle.std.proofs.lemmas.List.{get_or_default}
use Rattle.hdlc_station.specs.Places.{NumberPlace, no_place, cleared}
use Rattle.hdlc_station.specs.PlaceRings.{spot, from_head}
use Rattle.hdlc_station.proofs.Rings.{get_or-from_head, gone_on, spot_first}
use Rattle.hdlc_station.proofs.places.Places.go_on.Goals as goal

pub returns : goal.returns
returns c =
    let q = c.self.inside in
    let xs = q.places.items in
    let length_xs : length xs ≡ vec_len q.places = search rules in
    let head : q.head < length xs = omega (arith, length_xs, c.self.invariant) in
    let v = c.self.view_is in
    let first : c.index_mut.result.now ≡ get_or c.args.self.now 0 no_place =
    c.index_mut.ensures.value
    ∙ get_or_default xs q.head c.index_mut.result.now no_place head
    ∙ ap (λ (j : ℕ). get_or xs j no_place) (sym (spot_first (length xs) q.head head))
    ∙ sym (get_or-from_head q.head xs 0 no_place head (omega (arith, head)))
    ∙ ap (λ (ps : List NumberPlace). get_or ps 0 no_place) v in
    let y : NumberPlace = cleared (get_or c.args.self.now 0 no_place) in
    ap (λ (h : ℕ). from_head h (set xs q.head c.clear.new.self)) (c.spot-self-inside.ensures ∙ ap (λ (n : ℕ). spot n q.head 1) (c.len.ensures ∙ sym length_xs))
    ∙ ap (λ (x : NumberPlace). from_head (spot (length xs) q.head 1) (set xs q.head x)) (c.clear.ensures ∙ ap cleared first)
    ∙ gone_on q.head xs y head
    ∙ ap (λ (ps : List NumberPlace). drop 1 ps ++ y ∷ []) v
