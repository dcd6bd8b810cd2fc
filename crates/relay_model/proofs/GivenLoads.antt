-- What is given of parts, one behind another.
use Rattle.std.proofs.Common.{◌≡◌, ℕ, true, false, List, [], ◌∷◌, ◌++◌, refl, ap, sym, ◌∙◌, append_assoc, append-nil, inl, inr, if◌then◌else◌}
use Rattle.std.proofs.lemmas.Bool.{cases_Bool, false_from_ne_true, or_parts}
use Rattle.std.specs.List.{flat_map}
use Rattle.er_base.specs.declared.side.Side.{Side}
use Rattle.er_base.specs.Printing.{Begins}
use Rattle.relay_script.specs.declared.script.Script.{Script}
use Rattle.relay_script.specs.declared.script_line.ScriptLine.{ScriptLine}
use Rattle.relay_model.specs.Units.{Part, Outside, Whole, Unbegun, parts_from, standing_behind, parts_of_sent, held_in_standing, units_in, octets_in_parts}
use Rattle.relay_model.specs.Loads.{Load, load_as_it_came, is_same_side, load_by, load_of_unit, behind_load, loads_from, line_names}
use Rattle.relay_model.specs.Carried.{loads_of_sent, octets_of_loads, closes_behind, loads_behind, given_of_sent, is_closed_by, carried}
use Rattle.relay_model.specs.Losing.{NoneFor}
use Rattle.relay_model.specs.Laws.{GivenBegins, LoadsGoOn, ClosedStays, PassedIsSent}
use Rattle.relay_model.proofs.Cuts.{parts_append, parts_are_sent}

-- ---- loads behind loads

-- where the first ones close, no other follows
abbrev pub joined_loads : (front back : List Load) → List Load
joined_loads front back = if closes_behind front then front else front ++ back

-- one that doesn't close, before them
joined_more : (load : Load) (front back : List Load) → load.closes ≡ false → joined_loads (load ∷ front) back ≡ load ∷ joined_loads front back
joined_more load front back unclosed =
    elim (cases_Bool (closes_behind front)) [
      | inl t ↦ rw (unclosed, t) refl
      | inr f ↦ rw (unclosed, f) refl
    ]

joined_closed : (load : Load) (front back : List Load) → load.closes ≡ true → joined_loads (load ∷ front) back ≡ load ∷ front
joined_closed load front back closed = rw closed refl

behind_unclosed : (load : Load) (rest : List Load) → load.closes ≡ false → behind_load load rest ≡ load ∷ rest
behind_unclosed load rest unclosed = rw unclosed refl

behind_closed : (load : Load) (rest : List Load) → load.closes ≡ true → behind_load load rest ≡ load ∷ []
behind_closed load rest closed = rw closed refl

pub unclosed_joined : (front back : List Load) → closes_behind front ≡ false → joined_loads front back ≡ front ++ back
unclosed_joined front back f = rw f refl

pub unclosed_append : (front back : List Load) → closes_behind front ≡ false → closes_behind back ≡ false → closes_behind (front ++ back) ≡ false
unclosed_append [] back f g = g
unclosed_append (x ∷ front) back f g =
    let both = or_parts x.closes (closes_behind front) f in
    rw both.0 (unclosed_append front back both.1 g)

units_outside : (octets : List ℕ) (parts : List Part) → units_in (Outside octets ∷ parts) ≡ units_in parts
unfolding units_in
units_outside octets parts = refl

units_whole : (unit : List ℕ) (parts : List Part) → units_in (Whole unit ∷ parts) ≡ unit ∷ units_in parts
unfolding units_in
units_whole unit parts = refl

units_none : units_in [] ≡ []
unfolding units_in
units_none = refl

pub loads_append : (lines : List ScriptLine) (side : Side) (before : List (List ℕ)) (p q : List Part)
    → loads_from lines side before (p ++ q) ≡ joined_loads (loads_from lines side before p) (loads_from lines side (before ++ units_in p) q)
unfolding loads_from
loads_append lines side before [] q = ap (λ (u : List (List ℕ)). loads_from lines side u q) (sym (append-nil before) ∙ ap (λ (u : List (List ℕ)). before ++ u) (sym units_none))
loads_append lines side before (Outside octets ∷ p) q =
    ap (λ (l : List Load). load_as_it_came octets ∷ l) (loads_append lines side before p q)
    ∙ sym (joined_more (load_as_it_came octets) (loads_from lines side before p) (loads_from lines side (before ++ units_in p) q) refl)
    ∙ ap (λ (u : List (List ℕ)). joined_loads (load_as_it_came octets ∷ loads_from lines side before p) (loads_from lines side (before ++ u) q)) (sym (units_outside octets p))
loads_append lines side before (Whole unit ∷ p) q =
    let load = load_of_unit lines side before unit in
    let next = before ++ unit ∷ [] in
    let front = loads_from lines side next p in
    let same : next ++ units_in p ≡ before ++ units_in (Whole unit ∷ p) =
    append_assoc before (unit ∷ []) (units_in p) ∙ ap (λ (u : List (List ℕ)). before ++ u) (sym (units_whole unit p)) in
    elim (cases_Bool load.closes) [
      | inl t ↦
          behind_closed load (loads_from lines side next (p ++ q)) t
          ∙ sym (joined_closed load [] (loads_from lines side (before ++ units_in (Whole unit ∷ p)) q) t)
          ∙ ap (λ (l : List Load). joined_loads l (loads_from lines side (before ++ units_in (Whole unit ∷ p)) q)) (sym (behind_closed load front t))
      | inr f ↦
          behind_unclosed load (loads_from lines side next (p ++ q)) f
          ∙ ap (λ (l : List Load). load ∷ l) (loads_append lines side next p q)
          ∙ sym (joined_more load front (loads_from lines side (next ++ units_in p) q) f)
          ∙ ap (λ (u : List (List ℕ)). joined_loads (load ∷ front) (loads_from lines side u q)) same
          ∙ ap (λ (l : List Load). joined_loads l (loads_from lines side (before ++ units_in (Whole unit ∷ p)) q)) (sym (behind_unclosed load front f))
    ]

pub sent_append : (script : Script) (side : Side) (came more : List ℕ)
    → loads_of_sent script side (came ++ more)
    ≡ joined_loads (loads_of_sent script side came) (loads_from script.lines side (units_in (parts_of_sent came)) (parts_from (standing_behind came) more))
unfolding loads_of_sent
sent_append script side came more =
    ap (λ (p : List Part). loads_from script.lines side [] p) (parts_append Unbegun came more)
    ∙ loads_append script.lines side [] (parts_of_sent came) (parts_from (standing_behind came) more)

pub octets_append : (a b : List Load) → octets_of_loads (a ++ b) ≡ octets_of_loads a ++ octets_of_loads b
unfolding octets_of_loads
octets_append [] b = refl
octets_append (x ∷ a) b =
    ap (λ (o : List ℕ). x.octets ++ o) (octets_append a b)
    ∙ sym (append_assoc x.octets (flat_map (λ (load : Load). load.octets) a) (flat_map (λ (load : Load). load.octets) b))

-- ---- beginnings

joined_begins : (front back : List Load) → Begins (octets_of_loads front) (octets_of_loads (joined_loads front back))
joined_begins front back =
    elim (cases_Bool (closes_behind front)) [
      | inl t ↦ rw t (record { rest = []; is = sym (append-nil (octets_of_loads front)) })
      | inr f ↦ rw f (record { rest = octets_of_loads back; is = octets_append front back })
    ]

given_goes_on : (script : Script) (side : Side) (came more : List ℕ) → Begins (given_of_sent script side came) (given_of_sent script side (came ++ more))
unfolding given_of_sent
given_goes_on script side came more =
    rw (sent_append script side came more)
    (joined_begins (loads_of_sent script side came) (loads_from script.lines side (units_in (parts_of_sent came)) (parts_from (standing_behind came) more)))

begins_longer : (front whole more : List ℕ) → Begins front whole → Begins front (whole ++ more)
begins_longer front whole more b = record { rest = b.rest ++ more; is = ap (λ (l : List ℕ). l ++ more) b.is ∙ append_assoc front b.rest more }

carried_goes_on : (script : Script) (side : Side) (came more : List ℕ) → Begins (given_of_sent script side came) (carried script side (came ++ more))
unfolding carried
carried_goes_on script side came more =
    begins_longer (given_of_sent script side came) (given_of_sent script side (came ++ more))
    (if is_closed_by script side (came ++ more) then [] else held_in_standing (standing_behind (came ++ more)))
    (given_goes_on script side came more)

pub given_begins : GivenBegins
given_begins = record { given = given_goes_on; carried = carried_goes_on }

-- ---- going on

more_loads : (script : Script) (side : Side) (came more : List ℕ) → is_closed_by script side came ≡ false
    → loads_of_sent script side (came ++ more) ≡ loads_of_sent script side came ++ loads_behind script side came more
unfolding is_closed_by loads_behind
more_loads script side came more f =
    sent_append script side came more
    ∙ unclosed_joined (loads_of_sent script side came) (loads_from script.lines side (units_in (parts_of_sent came)) (parts_from (standing_behind came) more)) f

closes_append : (front back : List Load) → closes_behind front ≡ false → closes_behind (front ++ back) ≡ closes_behind back
closes_append [] back f = refl
closes_append (x ∷ front) back f =
    let both = or_parts x.closes (closes_behind front) f in
    rw both.0 (closes_append front back both.1)

more_given : (script : Script) (side : Side) (came more : List ℕ) → is_closed_by script side came ≡ false
    → given_of_sent script side (came ++ more) ≡ given_of_sent script side came ++ octets_of_loads (loads_behind script side came more)
unfolding given_of_sent
more_given script side came more f =
    ap octets_of_loads (more_loads script side came more f) ∙ octets_append (loads_of_sent script side came) (loads_behind script side came more)

more_closed : (script : Script) (side : Side) (came more : List ℕ) → is_closed_by script side came ≡ false
    → is_closed_by script side (came ++ more) ≡ closes_behind (loads_behind script side came more)
unfolding is_closed_by
more_closed script side came more f =
    ap closes_behind (more_loads script side came more f) ∙ closes_append (loads_of_sent script side came) (loads_behind script side came more) f

pub loads_go_on : LoadsGoOn
loads_go_on = record { given = more_given; closed = more_closed }

-- ---- closed

closed_joined : (front back : List Load) → closes_behind front ≡ true → joined_loads front back ≡ front
closed_joined front back t = rw t refl

closed_sent : (script : Script) (side : Side) (came more : List ℕ) → is_closed_by script side came ≡ true
    → loads_of_sent script side (came ++ more) ≡ loads_of_sent script side came
unfolding is_closed_by
closed_sent script side came more t =
    sent_append script side came more
    ∙ closed_joined (loads_of_sent script side came) (loads_from script.lines side (units_in (parts_of_sent came)) (parts_from (standing_behind came) more)) t

closed_given : (script : Script) (side : Side) (came more : List ℕ) → is_closed_by script side came ≡ true
    → given_of_sent script side (came ++ more) ≡ given_of_sent script side came
unfolding given_of_sent
closed_given script side came more t = ap octets_of_loads (closed_sent script side came more t)

closed_still : (script : Script) (side : Side) (came more : List ℕ) → is_closed_by script side came ≡ true → is_closed_by script side (came ++ more) ≡ true
unfolding is_closed_by
closed_still script side came more t = ap closes_behind (closed_sent script side came more t) ∙ t

closed_carried : (script : Script) (side : Side) (came : List ℕ) → is_closed_by script side came ≡ true
    → carried script side came ≡ given_of_sent script side came
unfolding carried
closed_carried script side came t = rw t (append-nil (given_of_sent script side came))

pub closed_stays : ClosedStays
closed_stays script side came more t = (
  closed_given script side came more t,
  closed_carried script side (came ++ more) (closed_still script side came more t) ∙ closed_given script side came more t,
)

-- ---- without a line

not_named : (line : ScriptLine) (side : Side) (before : List (List ℕ)) (unit : List ℕ) → is_same_side line.side side ≡ false
    → line_names line side before unit ≡ false
not_named line side before unit f = rw f refl

pub other_line : (line : ScriptLine) (lines : List ScriptLine) (side : Side) (before : List (List ℕ)) (unit : List ℕ) (load : Load)
    → line_names line side before unit ≡ false → load_by (line ∷ lines) side before unit load ≡ load_by lines side before unit load
unfolding load_by
other_line line lines side before unit load f = rw f refl

none_changes : (lines : List ScriptLine) (side : Side) (before : List (List ℕ)) (unit : List ℕ) (load : Load) → NoneFor side lines
    → load_by lines side before unit load ≡ load
unfolding load_by
none_changes [] side before unit load none = refl
none_changes (line ∷ lines) side before unit load none =
    other_line line lines side before unit load (not_named line side before unit (false_from_ne_true (is_same_side line.side side) none.0))
    ∙ none_changes lines side before unit load none.1

-- the same octets, and nothing closes
pub record GivesParts (loads : List Load) (parts : List Part) : Type 0 where
  pub octets : octets_of_loads loads ≡ octets_in_parts parts
  pub unclosed : closes_behind loads ≡ false

gives_none : GivesParts [] []
unfolding octets_of_loads octets_in_parts
gives_none = record { octets = refl; unclosed = refl }

gives_outside : (octets : List ℕ) (loads : List Load) (parts : List Part) → GivesParts loads parts
    → GivesParts (load_as_it_came octets ∷ loads) (Outside octets ∷ parts)
unfolding octets_of_loads octets_in_parts
gives_outside octets loads parts g = record { octets = ap (λ (o : List ℕ). octets ++ o) g.octets; unclosed = g.unclosed }

gives_whole : (unit : List ℕ) (loads : List Load) (parts : List Part) → GivesParts loads parts
    → GivesParts (behind_load (load_as_it_came unit) loads) (Whole unit ∷ parts)
unfolding octets_of_loads octets_in_parts
gives_whole unit loads parts g = record { octets = ap (λ (o : List ℕ). unit ++ o) g.octets; unclosed = g.unclosed }

none_for : (lines : List ScriptLine) (side : Side) (before : List (List ℕ)) (parts : List Part) → NoneFor side lines
    → GivesParts (loads_from lines side before parts) parts
unfolding loads_from
none_for lines side before [] none = gives_none
none_for lines side before (Outside octets ∷ parts) none = gives_outside octets (loads_from lines side before parts) parts (none_for lines side before parts none)
none_for lines side before (Whole unit ∷ parts) none =
    rw (none_changes lines side before unit (load_as_it_came unit) none)
    (gives_whole unit (loads_from lines side (before ++ unit ∷ []) parts) parts (none_for lines side (before ++ unit ∷ []) parts none))

pub unclosed_carried : (script : Script) (side : Side) (came : List ℕ) → is_closed_by script side came ≡ false
    → carried script side came ≡ given_of_sent script side came ++ held_in_standing (standing_behind came)
unfolding carried
unclosed_carried script side came f = rw f refl

sent_gives : (script : Script) (side : Side) (came : List ℕ) → NoneFor side script.lines
    → (given_of_sent script side came ≡ octets_in_parts (parts_of_sent came)) × (is_closed_by script side came ≡ false)
unfolding given_of_sent is_closed_by loads_of_sent
sent_gives script side came none =
    let g = none_for script.lines side [] (parts_of_sent came) none in
    (g.octets, g.unclosed)

pub passed_is_sent : PassedIsSent
passed_is_sent script side came none =
    let g = sent_gives script side came none in
    unclosed_carried script side came g.1
    ∙ ap (λ (o : List ℕ). o ++ held_in_standing (standing_behind came)) g.0
    ∙ parts_are_sent Unbegun came
