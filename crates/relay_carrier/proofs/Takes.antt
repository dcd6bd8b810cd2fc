-- What a carrier gives of octets, by their parts.
use Rattle.std.proofs.Common.{◌≡◌, ℕ, Bool, false, List, [], ◌∷◌, ◌++◌, refl, ap, subst, sym, ◌∙◌, append_assoc, append-nil, inl, inr}
use Rattle.std.proofs.lemmas.Bool.{cases_Bool}
use Rattle.std.proofs.lemmas.List.Elements.{All-nil, All-cons}
use Rattle.std.specs.List.{All, flat_map}
use Rattle.er_base.specs.declared.side.Side.{Side}
use Rattle.relay_script.specs.declared.script.Script.{Script}
use Rattle.relay_model.specs.Laws.{UnitsGoOn, LoadsGoOn}
use Rattle.relay_model.specs.Units.{Part, Outside, Whole, Standing, standing_from, parts_from, standing_behind, parts_of_sent, units_in, unit_in_part, octets_in_parts}
use Rattle.relay_model.specs.Loads as model
use Rattle.relay_model.specs.Loads.{load_as_it_came, load_of_unit, behind_load, loads_from}
use Rattle.relay_model.specs.Carried.{octets_of_loads, closes_behind, loads_behind, given_of_sent, is_closed_by, due_behind}
use Rattle.relay_carrier.specs.declared.load.Load.{Load}
use Rattle.relay_carrier.specs.Counting.{within_64_bits, CountsUnits, KeepsLoad}
use Rattle.relay_carrier.specs.Standing.{KCarrier, StandsBehind, TakesOctets, TakesUnitBehind}
use Rattle.relay_carrier.specs.Told.{AreOutside}

-- ---- a unit

pub takes_unit : (script : Script) (old new : KCarrier) (counts : List ℕ) (kept : Load) (moment due : ℕ) (unit given : List ℕ) (units : List (List ℕ))
    → KeepsLoad kept (load_of_unit script.lines old.side units unit) → CountsUnits counts (units ++ unit ∷ []) → given ≡ kept.octets.items
    → new ≡ record { side = old.side; standing = old.standing; counts = counts; closed = kept.closes; newest = due }
    → ((exact : ℕ) → kept.delay ≡ within_64_bits exact → due ≡ within_64_bits (due_behind old.newest moment exact))
    → TakesUnitBehind script old new moment unit given due units
takes_unit script old new counts kept moment due unit given units keeps counted gives is when =
    subst (λ (n : KCarrier). TakesUnitBehind script old n moment unit given due units) (sym is)
    (record {
      side = refl;
      standing = refl;
      counts = counted;
      newest = refl;
      gives = gives ∙ keeps.octets;
      closed = keeps.closes;
      due_is = when (load_of_unit script.lines old.side units unit).delay keeps.delay;
    })

-- ---- what parts give

-- the loads of parts: their octets, whether they close, and when each is due
pub record PartsGive (script : Script) (side : Side) (units : List (List ℕ)) (parts : List Part) (given : List ℕ) (closed : Bool) (newest moment due : ℕ) : Type 0 where
  pub octets : octets_of_loads (loads_from script.lines side units parts) ≡ given
  pub closes : closes_behind (loads_from script.lines side units parts) ≡ closed
  pub dues : All (λ (load : model.Load). due ≡ within_64_bits (due_behind newest moment load.delay)) (loads_from script.lines side units parts)

pub none_gives : (script : Script) (side : Side) (units : List (List ℕ)) (parts : List Part) (newest moment due : ℕ) → parts ≡ []
    → PartsGive script side units parts [] false newest moment due
unfolding octets_of_loads loads_from
none_gives script side units parts newest moment due none =
    rw none
    (record {
      octets = refl;
      closes = refl;
      dues = All-nil (λ (load : model.Load). due ≡ within_64_bits (due_behind newest moment load.delay));
    })

pub outside_gives : (script : Script) (side : Side) (units : List (List ℕ)) (parts : List Part) (newest moment due : ℕ) → AreOutside parts
    → due ≡ within_64_bits (due_behind newest moment 0) → PartsGive script side units parts (octets_in_parts parts) false newest moment due
unfolding octets_of_loads loads_from octets_in_parts
outside_gives script side units [] newest moment due outside when =
    record {
      octets = refl;
      closes = refl;
      dues = All-nil (λ (load : model.Load). due ≡ within_64_bits (due_behind newest moment load.delay));
    }
outside_gives script side units (Outside octets ∷ parts) newest moment due outside when =
    let rest = outside_gives script side units parts newest moment due outside when in
    record {
      octets = ap (λ (o : List ℕ). octets ++ o) rest.octets;
      closes = rest.closes;
      dues =
          All-cons (λ (load : model.Load). due ≡ within_64_bits (due_behind newest moment load.delay)) (load_as_it_came octets)
          (loads_from script.lines side units parts) when rest.dues;
    }
outside_gives script side units (Whole unit ∷ parts) newest moment due outside when = absurd outside

unit_alone : (load : model.Load) → behind_load load [] ≡ load ∷ []
unit_alone load =
    elim (cases_Bool load.closes) [
      | inl t ↦ rw t refl
      | inr f ↦ rw f refl
    ]

unit_loads : (script : Script) (side : Side) (units : List (List ℕ)) (unit : List ℕ)
    → loads_from script.lines side units (Whole unit ∷ []) ≡ load_of_unit script.lines side units unit ∷ []
unfolding loads_from
unit_loads script side units unit = unit_alone (load_of_unit script.lines side units unit)

octets_alone : (load : model.Load) → octets_of_loads (load ∷ []) ≡ load.octets
unfolding octets_of_loads
octets_alone load = append-nil load.octets

closes_alone : (load : model.Load) → closes_behind (load ∷ []) ≡ load.closes
closes_alone load =
    elim (cases_Bool load.closes) [
      | inl t ↦ rw t refl
      | inr f ↦ rw f refl
    ]

pub unit_gives : (script : Script) (side : Side) (units : List (List ℕ)) (parts : List Part) (unit : List ℕ) (newest moment due : ℕ) → parts ≡ Whole unit ∷ []
    → due ≡ within_64_bits (due_behind newest moment (load_of_unit script.lines side units unit).delay)
    → PartsGive script side units parts (load_of_unit script.lines side units unit).octets (load_of_unit script.lines side units unit).closes newest moment due
unit_gives script side units parts unit newest moment due is when =
    let load = load_of_unit script.lines side units unit in
    let loads : loads_from script.lines side units parts ≡ load ∷ [] =
    ap (λ (p : List Part). loads_from script.lines side units p) is ∙ unit_loads script side units unit in
    record {
      octets = ap octets_of_loads loads ∙ octets_alone load;
      closes = ap closes_behind loads ∙ closes_alone load;
      dues = rw loads (All-cons (λ (l : model.Load). due ≡ within_64_bits (due_behind newest moment l.delay)) load [] when (All-nil (λ (l : model.Load). due ≡ within_64_bits (due_behind newest moment l.delay))));
    }

-- ---- the units of parts

units_append : (p q : List Part) → units_in (p ++ q) ≡ units_in p ++ units_in q
unfolding units_in
units_append [] q = refl
units_append (x ∷ p) q =
    ap (λ (u : List (List ℕ)). unit_in_part x ++ u) (units_append p q) ∙ sym (append_assoc (unit_in_part x) (flat_map unit_in_part p) (flat_map unit_in_part q))

pub units_none : (parts : List Part) → parts ≡ [] → units_in parts ≡ []
unfolding units_in
units_none parts none = rw none refl

pub units_outside : (parts : List Part) → AreOutside parts → units_in parts ≡ []
unfolding units_in
units_outside [] outside = refl
units_outside (Outside octets ∷ parts) outside = units_outside parts outside
units_outside (Whole unit ∷ parts) outside = absurd outside

pub units_whole : (parts : List Part) (unit : List ℕ) → parts ≡ Whole unit ∷ [] → units_in parts ≡ unit ∷ []
unfolding units_in
units_whole parts unit is = rw is refl

-- ---- octets behind those that came

behind_at : (script : Script) (side : Side) (came octets : List ℕ) (standing : Standing) → standing ≡ standing_behind came
    → loads_behind script side came octets ≡ loads_from script.lines side (units_in (parts_of_sent came)) (parts_from standing octets)
unfolding loads_behind
behind_at script side came octets standing is =
    ap (λ (s : Standing). loads_from script.lines side (units_in (parts_of_sent came)) (parts_from s octets)) (sym is)

pub takes_octets : UnitsGoOn → LoadsGoOn → (script : Script) (old new : KCarrier) (moment : ℕ) (octets given : List ℕ) (due : ℕ) (came : List ℕ)
    → StandsBehind script came old → old.closed ≡ false → new.side ≡ old.side → new.standing ≡ standing_from old.standing octets
    → CountsUnits new.counts (units_in (parts_of_sent came) ++ units_in (parts_from old.standing octets))
    → PartsGive script old.side (units_in (parts_of_sent came)) (parts_from old.standing octets) given new.closed old.newest moment due
    → TakesOctets script old new moment octets given due came
takes_octets cuts gives script old new moment octets given due came s unclosed side standing counts g =
    let shut : is_closed_by script old.side came ≡ false = sym s.closed ∙ unclosed in
    let loads = behind_at script old.side came octets old.standing s.standing in
    let parts : parts_of_sent (came ++ octets) ≡ parts_of_sent came ++ parts_from old.standing octets =
    cuts.parts came octets ∙ ap (λ (t : Standing). parts_of_sent came ++ parts_from t octets) (sym s.standing) in
    let units : units_in (parts_of_sent (came ++ octets)) ≡ units_in (parts_of_sent came) ++ units_in (parts_from old.standing octets) =
    ap units_in parts ∙ units_append (parts_of_sent came) (parts_from old.standing octets) in
    record {
      stands =
          record {
            standing = standing ∙ ap (λ (t : Standing). standing_from t octets) s.standing ∙ sym (cuts.standing came octets);
            counts = rw units counts;
            closed =
                sym g.closes
                ∙ ap closes_behind (sym loads)
                ∙ sym (gives.closed script old.side came octets shut)
                ∙ ap (λ (d : Side). is_closed_by script d (came ++ octets)) (sym side);
          };
      gives =
          gives.given script old.side came octets shut
          ∙ ap (λ (l : List model.Load). given_of_sent script old.side came ++ octets_of_loads l) loads
          ∙ ap (λ (o : List ℕ). given_of_sent script old.side came ++ o) g.octets;
      due_is = rw loads g.dues;
    }

-- ---- each kind of what octets came to

pub takes_held : UnitsGoOn → LoadsGoOn → (script : Script) (old : KCarrier) (standing : Standing) (moment : ℕ) (octets given : List ℕ) (due : ℕ) (came : List ℕ)
    → StandsBehind script came old → old.closed ≡ false → parts_from old.standing octets ≡ [] → standing ≡ standing_from old.standing octets → given ≡ []
    → TakesOctets script old (record old { standing = standing }) moment octets given due came
takes_held cuts gives script old standing moment octets given due came s unclosed none stands nothing =
    let units = units_in (parts_of_sent came) in
    takes_octets cuts gives script old (record old { standing = standing }) moment octets given due came s unclosed refl stands
    (rw (units_none (parts_from old.standing octets) none, append-nil units) s.counts)
    (rw (nothing, unclosed) (none_gives script old.side units (parts_from old.standing octets) old.newest moment due none))

pub takes_outside : UnitsGoOn → LoadsGoOn → (script : Script) (old new : KCarrier) (standing : Standing) (moment : ℕ) (octets given : List ℕ) (due : ℕ) (came : List ℕ)
    → StandsBehind script came old → old.closed ≡ false → AreOutside (parts_from old.standing octets) → octets_in_parts (parts_from old.standing octets) ≡ given
    → standing ≡ standing_from old.standing octets → due ≡ within_64_bits (due_behind old.newest moment 0)
    → new ≡ record old { standing = standing; newest = due } → TakesOctets script old new moment octets given due came
takes_outside cuts gives script old new standing moment octets given due came s unclosed outside octets_are stands when is =
    let units = units_in (parts_of_sent came) in
    let all = outside_gives script old.side units (parts_from old.standing octets) old.newest moment due outside when in
    subst (λ (n : KCarrier). TakesOctets script old n moment octets given due came) (sym is)
    (takes_octets cuts gives script old (record old { standing = standing; newest = due }) moment octets given due came s unclosed refl stands
    (rw (units_outside (parts_from old.standing octets) outside, append-nil units) s.counts)
    (record { octets = all.octets ∙ octets_are; closes = all.closes ∙ sym unclosed; dues = all.dues }))

pub takes_one : UnitsGoOn → LoadsGoOn → (script : Script) (old new : KCarrier) (standing : Standing) (moment : ℕ) (octets unit given : List ℕ) (due : ℕ) (came : List ℕ)
    → StandsBehind script came old → old.closed ≡ false → parts_from old.standing octets ≡ Whole unit ∷ [] → standing ≡ standing_from old.standing octets
    → TakesUnitBehind script (record old { standing = standing }) new moment unit given due (units_in (parts_of_sent came))
    → TakesOctets script old new moment octets given due came
takes_one cuts gives script old new standing moment octets unit given due came s unclosed is stands t =
    let units = units_in (parts_of_sent came) in
    let all = unit_gives script old.side units (parts_from old.standing octets) unit old.newest moment due is t.due_is in
    takes_octets cuts gives script old new moment octets given due came s unclosed t.side (t.standing ∙ stands)
    (rw (units_whole (parts_from old.standing octets) unit is) t.counts)
    (record { octets = all.octets ∙ sym t.gives; closes = all.closes ∙ sym t.closed; dues = all.dues })
