use Rattle.std.proofs.Common.{rules, ◌≡◌, ◌<◌, ℕ, List, true, length, get_or, set, ap, sym, ◌∙◌, arith, vec_len}
use Rattle.std.proofs.lemmas.List.{get_or_default}
use Rattle.hdlc_station.specs.Places.{NumberPlace, no_place}
use Rattle.hdlc_station.specs.PlaceRings.{spot, from_head}
use Rattle.hdlc_station.proofs.Rings.{length-from_head, get_or-from_head, set_from_head, spot_within}
use Rattle.hdlc_station.proofs.places.Places.hold.Goals as goal

pub returns : goal.returns
returns c =
    let q = c.self.inside in
    let xs = q.places.items in
    let i = c.args.i in
    let length_xs : length xs ≡ vec_len q.places = search rules in
    let head : q.head < length xs = omega (arith, length_xs, c.self.invariant) in
    let v = c.self.view_is in
    let whole = length-from_head q.head xs head in
    let counted = ap (λ (ps : List NumberPlace). length ps) v in
    let within : i < length xs = omega (arith, c.requires, whole, counted) in
    let at : c.spot-at.result ≡ spot (length xs) q.head i = c.spot-at.ensures ∙ ap (λ (n : ℕ). spot n q.head i) (c.len.ensures ∙ sym length_xs) in
    let low = spot_within (length xs) q.head i head within in
    let old : c.index_mut.result.now ≡ get_or c.args.self.now i no_place =
    c.index_mut.ensures.value
    ∙ get_or_default xs c.spot-at.result c.index_mut.result.now no_place (omega (arith, at, low))
    ∙ ap (λ (j : ℕ). get_or xs j no_place) at
    ∙ sym (get_or-from_head q.head xs i no_place head within)
    ∙ ap (λ (ps : List NumberPlace). get_or ps i no_place) v in
    let x : NumberPlace = record (get_or c.args.self.now c.args.i no_place) { payload = c.args.payload.now; held = true } in
    ap (λ (y : NumberPlace). from_head q.head (set xs c.spot-at.result y)) (c.hold.ensures ∙ ap (λ (y : NumberPlace). record y { payload = c.args.payload.now; held = true }) old)
    ∙ ap (λ (j : ℕ). from_head q.head (set xs j x)) at
    ∙ set_from_head q.head xs i x head within
    ∙ ap (λ (ps : List NumberPlace). set ps i x) v
