-- Lines that lose, repeat and delay: the frames found on the other side, by where a side stands.
use Rattle.std.proofs.Common.{◌≡◌, ℕ, ◌+◌, ◌==◌, nat_lt, ◌&&◌, Bool, true, false, not, List, [], ◌∷◌, ◌++◌, length, replicate, refl, ap, subst, sym, ◌∙◌, append_assoc, append-nil, inl, inr}
use Rattle.std.proofs.lemmas.Bool.{cases_Bool, eqb-true, and_parts}
use Rattle.std.proofs.lemmas.List.{replicate_more}
use Rattle.er_base.specs.declared.side.Side.{Side}
use Rattle.hdlc_frames.specs.Framing.{flag, Verdict, verdict_on, frames_of}
use Rattle.hdlc_frames.specs.Laws.{FlagParts}
use Rattle.relay_script.specs.declared.change.Change.{Change}
use Rattle.relay_script.specs.declared.change.Change.TheVariants.{Lose, Repeat, Alter, Put, Delay, Close}
use Rattle.relay_script.specs.declared.script.Script.{Script}
use Rattle.relay_script.specs.declared.script_line.ScriptLine.{ScriptLine}
use Rattle.relay_model.specs.Units.{Outside, Whole, Standing, Unbegun, Holding, Overlong, UnitTurn, turn_to, held_or_passed, unit_turn, standing_from, parts_from, parts_of_sent, held_in_standing, units_in}
use Rattle.relay_model.specs.Loads.{Load, load_as_it_came, load_changed, is_same_side, line_names, load_by, load_of_unit, loads_from}
use Rattle.relay_model.specs.Carried.{loads_of_sent, octets_of_loads, closes_behind, given_of_sent, is_closed_by}
use Rattle.relay_model.specs.Losing.{LosesAndRepeats, IsLosingChange, LoseOnly}
use Rattle.relay_model.specs.Laws.{LosingLine}
use Rattle.relay_model.proofs.HeldFrames.{ArePlain, no_frame_before, no_frame_at, flag_alone, flag_cuts, flag_twice, HeldShape, held_frames, unit_frames, StandsWell, turn_well}
use Rattle.relay_model.proofs.CutFrames.{FramesSplit, held_closes_none, split_more, split_turn}
use Rattle.relay_model.proofs.GivenLoads.{loads_append, octets_append, unclosed_joined, unclosed_append, other_line, unclosed_carried}
use Rattle.relay_model.proofs.Lossy.{lossy_same, lossy_join, lossy_times}

-- ---- what was given, before a frame and before what is held

pub record Follows (given held : List ℕ) : Type 0 where
  -- a flag that is given then cuts
  pub flags : (more : List ℕ) → frames_of (given ++ flag ∷ more) ≡ frames_of given ++ frames_of (flag ∷ more)
  -- and what is held would be read as behind a flag
  pub holds : (more : List ℕ) → frames_of (given ++ (held ++ more)) ≡ frames_of given ++ frames_of (flag ∷ (held ++ more))

-- what was given ends in a flag
pub record EndsInFlag (given : List ℕ) : Type 0 where
  pub front : List ℕ
  pub is : given ≡ front ++ flag ∷ []

after_flag_octets : FlagParts → (front more : List ℕ) → frames_of ((front ++ flag ∷ []) ++ more) ≡ frames_of (front ++ flag ∷ []) ++ frames_of (flag ∷ more)
after_flag_octets parts front more = ap frames_of (append_assoc front (flag ∷ []) more) ∙ flag_cuts parts front more

-- then all that is given is read as behind a flag
ends_reads : FlagParts → (given : List ℕ) → EndsInFlag given → (more : List ℕ) → frames_of (given ++ more) ≡ frames_of given ++ frames_of (flag ∷ more)
ends_reads parts given ends more = rw ends.is (after_flag_octets parts ends.front more)

follows_flag : FlagParts → (given : List ℕ) → EndsInFlag given → Follows given []
follows_flag parts given ends =
    record {
      flags = λ more. ends_reads parts given ends (flag ∷ more) ∙ ap (λ (l : List Verdict). frames_of given ++ l) (flag_twice parts more);
      holds = λ more. ends_reads parts given ends more;
    }

plain_flags : FlagParts → (given : List ℕ) → ArePlain given → (more : List ℕ) → frames_of (given ++ flag ∷ more) ≡ frames_of given ++ frames_of (flag ∷ more)
plain_flags parts given plain more =
    flag_cuts parts given more
    ∙ ap (λ (l : List Verdict). l ++ frames_of (flag ∷ more)) (no_frame_at given plain ∙ sym (no_frame_before given plain))

-- the first flag is held
follows_first : FlagParts → (given : List ℕ) (x : ℕ) → (x == flag) ≡ true → ArePlain given → Follows given (x ∷ [])
follows_first parts given x t plain =
    record {
      flags = plain_flags parts given plain;
      holds = λ more.
          ap (λ (y : ℕ). frames_of (given ++ (y ∷ more))) (eqb-true x flag t)
          ∙ plain_flags parts given plain more
          ∙ ap (λ (l : List Verdict). frames_of given ++ l) (sym (flag_twice parts more))
          ∙ ap (λ (y : ℕ). frames_of given ++ frames_of (flag ∷ (y ∷ more))) (sym (eqb-true x flag t));
    }

follows_more : (given held : List ℕ) (x : ℕ) → Follows given held → Follows given (held ++ x ∷ [])
follows_more given held x f =
    record {
      flags = f.flags;
      holds = λ more.
          ap (λ (o : List ℕ). frames_of (given ++ o)) (append_assoc held (x ∷ []) more)
          ∙ f.holds (x ∷ more)
          ∙ ap (λ (o : List ℕ). frames_of given ++ frames_of (flag ∷ o)) (sym (append_assoc held (x ∷ []) more));
    }

-- ---- what a line that loses, repeats or delays makes of a unit

-- so many frames more, each the unit's, and a flag at the end
pub record Loaded (given : List ℕ) (verdict : Verdict) (load : Load) : Type 0 where
  pub times : ℕ
  pub frames : frames_of (given ++ load.octets) ≡ frames_of given ++ replicate times verdict
  pub ends : EndsInFlag (given ++ load.octets)
  pub stays : load.closes ≡ false

-- a unit where it is given: what is held and its flag
pub record UnitComes (given held unit : List ℕ) (verdict : Verdict) : Type 0 where
  pub is : unit ≡ held ++ flag ∷ []
  pub frame : frames_of (flag ∷ (held ++ flag ∷ [])) ≡ verdict ∷ []
  pub follows : Follows given held

loaded_first : (given held unit : List ℕ) (verdict : Verdict) → UnitComes given held unit verdict → Loaded given verdict (load_as_it_came unit)
loaded_first given held unit verdict u =
    record {
      times = 1;
      frames = ap (λ (o : List ℕ). frames_of (given ++ o)) u.is ∙ u.follows.holds (flag ∷ []) ∙ ap (λ (l : List Verdict). frames_of given ++ l) u.frame;
      ends = record { front = given ++ held; is = ap (λ (o : List ℕ). given ++ o) u.is ∙ sym (append_assoc given held (flag ∷ [])) };
      stays = refl;
    }

loaded_lose : (given held unit : List ℕ) (verdict : Verdict) (load : Load) → UnitComes given held unit verdict → Loaded given verdict load
    → Loaded given verdict (load_changed Lose unit load)
loaded_lose given held unit verdict load u l =
    record {
      times = 0;
      frames = u.follows.flags [] ∙ ap (λ (v : List Verdict). frames_of given ++ v) flag_alone;
      ends = record { front = given; is = refl };
      stays = l.stays;
    }

loaded_repeat : FlagParts → (given held unit : List ℕ) (verdict : Verdict) (load : Load) → UnitComes given held unit verdict → Loaded given verdict load
    → Loaded given verdict (load_changed Repeat unit load)
loaded_repeat parts given held unit verdict load u l =
    let all = given ++ load.octets in
    let joined : given ++ (load.octets ++ unit) ≡ all ++ (held ++ flag ∷ []) =
    sym (append_assoc given load.octets unit) ∙ ap (λ (o : List ℕ). all ++ o) u.is in
    record {
      times = l.times + 1;
      frames =
          ap frames_of joined
          ∙ ends_reads parts all l.ends (held ++ flag ∷ [])
          ∙ ap (λ (v : List Verdict). frames_of all ++ v) u.frame
          ∙ ap (λ (v : List Verdict). v ++ verdict ∷ []) l.frames
          ∙ append_assoc (frames_of given) (replicate l.times verdict) (verdict ∷ [])
          ∙ ap (λ (v : List Verdict). frames_of given ++ v) (replicate_more l.times verdict);
      ends = record { front = all ++ held; is = joined ∙ sym (append_assoc all held (flag ∷ [])) };
      stays = l.stays;
    }

loaded_change : FlagParts → (change : Change) (given held unit : List ℕ) (verdict : Verdict) (load : Load) → IsLosingChange change
    → UnitComes given held unit verdict → Loaded given verdict load → Loaded given verdict (load_changed change unit load)
loaded_change parts Lose given held unit verdict load only u l = loaded_lose given held unit verdict load u l
loaded_change parts Repeat given held unit verdict load only u l = loaded_repeat parts given held unit verdict load u l
loaded_change parts (Alter place mask) given held unit verdict load only u l = absurd only
loaded_change parts (Put text) given held unit verdict load only u l = absurd only
loaded_change parts (Delay milliseconds) given held unit verdict load only u l =
    record { times = l.times; frames = l.frames; ends = l.ends; stays = l.stays }
loaded_change parts Close given held unit verdict load only u l = absurd only

named_line : (line : ScriptLine) (lines : List ScriptLine) (side : Side) (before : List (List ℕ)) (unit : List ℕ) (load : Load)
    → line_names line side before unit ≡ true → load_by (line ∷ lines) side before unit load ≡ load_by lines side before unit (load_changed line.change unit load)
unfolding load_by
named_line line lines side before unit load t = rw t refl

named_side : (line : ScriptLine) (side : Side) (before : List (List ℕ)) (unit : List ℕ) → line_names line side before unit ≡ true
    → is_same_side line.side side ≡ true
named_side line side before unit t =
    elim (cases_Bool (is_same_side line.side side)) [
      | inl s ↦ s
      | inr f ↦ absurd cc (rw f at t)
    ]

no_line_left : (side : Side) (before : List (List ℕ)) (unit : List ℕ) (load : Load) → load_by [] side before unit load ≡ load
unfolding load_by
no_line_left side before unit load = refl

loaded_by : FlagParts → (lines : List ScriptLine) (side : Side) (before : List (List ℕ)) (given held unit : List ℕ) (verdict : Verdict) (load : Load)
    → LoseOnly side lines → UnitComes given held unit verdict → Loaded given verdict load → Loaded given verdict (load_by lines side before unit load)
loaded_by parts [] side before given held unit verdict load only u l = rw (no_line_left side before unit load) l
loaded_by parts (line ∷ lines) side before given held unit verdict load only u l =
    elim (cases_Bool (line_names line side before unit)) [
      | inl t ↦
          rw (named_line line lines side before unit load t)
          (loaded_by parts lines side before given held unit verdict (load_changed line.change unit load) only.1 u
          (loaded_change parts line.change given held unit verdict load (only.0 (named_side line side before unit t)) u l))
      | inr f ↦ rw (other_line line lines side before unit load f) (loaded_by parts lines side before given held unit verdict load only.1 u l)
    ]

-- ---- both streams, by where the side stands

-- the same octets came to both behind frames of which some are left out and some repeated
pub record PassesAlike (came given : List ℕ) : Type 0 where
  pub sent : List Verdict
  pub found : List Verdict
  pub lossy : LosesAndRepeats sent found
  pub piece : List ℕ
  pub came_is : (more : List ℕ) → frames_of (came ++ more) ≡ sent ++ frames_of (flag ∷ (piece ++ more))
  pub given_is : (more : List ℕ) → frames_of (given ++ more) ≡ found ++ frames_of (flag ∷ (piece ++ more))

-- what is held came and was not given
pub record HeldAlike (came given held : List ℕ) : Type 0 where
  pub lossy : LosesAndRepeats (frames_of came) (frames_of given)
  pub follows : Follows given held

abbrev pub Alike : (came given : List ℕ) → Standing → Type 0
Alike came given Unbegun = came ≡ given
Alike came given (Holding held begun) = HeldAlike came given held
Alike came given Overlong = PassesAlike came given

-- ---- octets that pass

passes_more : (came given : List ℕ) (x : ℕ) → PassesAlike came given → PassesAlike (came ++ x ∷ []) (given ++ x ∷ [])
passes_more came given x p =
    record {
      sent = p.sent;
      found = p.found;
      lossy = p.lossy;
      piece = p.piece ++ x ∷ [];
      came_is = λ more.
          ap frames_of (append_assoc came (x ∷ []) more)
          ∙ p.came_is (x ∷ more)
          ∙ ap (λ (o : List ℕ). p.sent ++ frames_of (flag ∷ o)) (sym (append_assoc p.piece (x ∷ []) more));
      given_is = λ more.
          ap frames_of (append_assoc given (x ∷ []) more)
          ∙ p.given_is (x ∷ more)
          ∙ ap (λ (o : List ℕ). p.found ++ frames_of (flag ∷ o)) (sym (append_assoc p.piece (x ∷ []) more));
    }

-- all that is held is given
passes_held : (came given held : List ℕ) (begun : Bool) → FramesSplit came (Holding held begun) → HeldAlike came given held → PassesAlike came (given ++ held)
passes_held came given held begun split h =
    record {
      sent = frames_of came;
      found = frames_of given;
      lossy = h.lossy;
      piece = held;
      came_is = split;
      given_is = λ more. ap frames_of (append_assoc given held more) ∙ h.follows.holds more;
    }

passes_lossy : (came given : List ℕ) → PassesAlike came given → LosesAndRepeats (frames_of came) (frames_of given)
passes_lossy came given p =
    let last = frames_of (flag ∷ (p.piece ++ [])) in
    let of_came : frames_of came ≡ p.sent ++ last = ap frames_of (sym (append-nil came)) ∙ p.came_is [] in
    let of_given : frames_of given ≡ p.found ++ last = ap frames_of (sym (append-nil given)) ∙ p.given_is [] in
    rw (of_came, of_given) (lossy_join p.sent p.found last last p.lossy (lossy_same last))

-- the flag behind them
passes_flag : FlagParts → (came given : List ℕ) (x : ℕ) → (x == flag) ≡ true → PassesAlike came given → HeldAlike (came ++ x ∷ []) (given ++ x ∷ []) []
passes_flag parts came given x t p =
    record {
      lossy = passes_lossy (came ++ x ∷ []) (given ++ x ∷ []) (passes_more came given x p);
      follows = follows_flag parts (given ++ x ∷ []) (record { front = given; is = ap (λ (y : ℕ). given ++ y ∷ []) (eqb-true x flag t) });
    }

-- ---- octets that are held

-- the first flag
first_alike : FlagParts → (came given : List ℕ) (x : ℕ) → (x == flag) ≡ true → ArePlain came → came ≡ given → HeldAlike (came ++ x ∷ []) given (x ∷ [])
first_alike parts came given x t plain same =
    let none : frames_of (came ++ x ∷ []) ≡ [] = ap (λ (y : ℕ). frames_of (came ++ y ∷ [])) (eqb-true x flag t) ∙ no_frame_at came plain in
    record {
      lossy = rw none (ap frames_of (sym same) ∙ no_frame_before came plain);
      follows = follows_first parts given x t (subst ArePlain same plain);
    }

more_alike : FlagParts → (came given held : List ℕ) (begun : Bool) (x : ℕ) → ((x == flag) && begun) ≡ false → HeldShape held begun
    → FramesSplit came (Holding held begun) → HeldAlike came given held → HeldAlike (came ++ x ∷ []) given (held ++ x ∷ [])
more_alike parts came given held begun x f shape split h =
    record {
      lossy = rw (held_closes_none parts came held begun x f shape split) h.lossy;
      follows = follows_more given held x h.follows;
    }

-- a unit ends
unit_alike : FlagParts → (came given held : List ℕ) (x : ℕ) (verdict : Verdict) (load : Load) → frames_of (came ++ x ∷ []) ≡ frames_of came ++ verdict ∷ []
    → HeldAlike came given held → Loaded given verdict load → HeldAlike (came ++ x ∷ []) (given ++ load.octets) []
unit_alike parts came given held x verdict load one h l =
    record {
      lossy =
          rw (one, l.frames)
          (lossy_join (frames_of came) (frames_of given) (verdict ∷ []) (replicate l.times verdict) h.lossy (lossy_times l.times verdict));
      follows = follows_flag parts (given ++ load.octets) l.ends;
    }

-- ---- one octet

-- what it brings is given, and both streams stay alike
pub record GoesAlike (lines : List ScriptLine) (side : Side) (before : List (List ℕ)) (came given : List ℕ) (x : ℕ) (turn : UnitTurn) : Type 0 where
  pub unclosed : closes_behind (loads_from lines side before turn.parts) ≡ false
  pub alike : Alike (came ++ x ∷ []) (given ++ octets_of_loads (loads_from lines side before turn.parts)) turn.next

octets_none : (lines : List ScriptLine) (side : Side) (before : List (List ℕ)) → octets_of_loads (loads_from lines side before []) ≡ []
unfolding octets_of_loads loads_from
octets_none lines side before = refl

octets_outside : (lines : List ScriptLine) (side : Side) (before : List (List ℕ)) (octets : List ℕ)
    → octets_of_loads (loads_from lines side before (Outside octets ∷ [])) ≡ octets
unfolding octets_of_loads loads_from
octets_outside lines side before octets = append-nil octets

octets_whole : (lines : List ScriptLine) (side : Side) (before : List (List ℕ)) (unit : List ℕ) → (load_of_unit lines side before unit).closes ≡ false
    → octets_of_loads (loads_from lines side before (Whole unit ∷ [])) ≡ (load_of_unit lines side before unit).octets
unfolding octets_of_loads loads_from
octets_whole lines side before unit stays = rw stays (append-nil (load_of_unit lines side before unit).octets)

stays_none : (lines : List ScriptLine) (side : Side) (before : List (List ℕ)) → closes_behind (loads_from lines side before []) ≡ false
unfolding loads_from
stays_none lines side before = refl

stays_outside : (lines : List ScriptLine) (side : Side) (before : List (List ℕ)) (octets : List ℕ)
    → closes_behind (loads_from lines side before (Outside octets ∷ [])) ≡ false
unfolding loads_from
stays_outside lines side before octets = refl

stays_whole : (lines : List ScriptLine) (side : Side) (before : List (List ℕ)) (unit : List ℕ) → (load_of_unit lines side before unit).closes ≡ false
    → closes_behind (loads_from lines side before (Whole unit ∷ [])) ≡ false
unfolding loads_from
stays_whole lines side before unit stays = rw stays refl

goes_none : (lines : List ScriptLine) (side : Side) (before : List (List ℕ)) (came given : List ℕ) (x : ℕ) (next : Standing)
    → Alike (came ++ x ∷ []) given next → GoesAlike lines side before came given x (turn_to next [])
goes_none lines side before came given x next a =
    record {
      unclosed = stays_none lines side before;
      alike = rw (octets_none lines side before, append-nil given) a;
    }

goes_outside : (lines : List ScriptLine) (side : Side) (before : List (List ℕ)) (came given octets : List ℕ) (x : ℕ) (next : Standing)
    → Alike (came ++ x ∷ []) (given ++ octets) next → GoesAlike lines side before came given x (turn_to next (Outside octets ∷ []))
goes_outside lines side before came given octets x next a =
    record { unclosed = stays_outside lines side before octets; alike = rw (octets_outside lines side before octets) a }

goes_whole : (lines : List ScriptLine) (side : Side) (before : List (List ℕ)) (came given unit : List ℕ) (x : ℕ) (next : Standing)
    → (load_of_unit lines side before unit).closes ≡ false → Alike (came ++ x ∷ []) (given ++ (load_of_unit lines side before unit).octets) next
    → GoesAlike lines side before came given x (turn_to next (Whole unit ∷ []))
goes_whole lines side before came given unit x next stays a =
    record { unclosed = stays_whole lines side before unit stays; alike = rw (octets_whole lines side before unit stays) a }

goes_held : (lines : List ScriptLine) (side : Side) (before : List (List ℕ)) (came given held : List ℕ) (begun : Bool) (x : ℕ)
    → FramesSplit (came ++ x ∷ []) (Holding held begun) → HeldAlike (came ++ x ∷ []) given held
    → GoesAlike lines side before came given x (held_or_passed held begun)
goes_held lines side before came given held begun x split a =
    elim (cases_Bool (nat_lt (length held) 4096)) [
      | inl t ↦ rw t (goes_none lines side before came given x (Holding held begun) a)
      | inr f ↦ rw f (goes_outside lines side before came given held x Overlong (passes_held (came ++ x ∷ []) given held begun split a))
    ]

goes_unit : FlagParts → (lines : List ScriptLine) (side : Side) (before : List (List ℕ)) (came given held : List ℕ) (x : ℕ) → (x == flag) ≡ true
    → LoseOnly side lines → HeldShape held true → FramesSplit came (Holding held true) → HeldAlike came given held
    → GoesAlike lines side before came given x (turn_to (Holding [] false) (Whole (held ++ x ∷ []) ∷ []))
goes_unit parts lines side before came given held x t only shape split h =
    let unit = held ++ x ∷ [] in
    let verdict = verdict_on shape.piece in
    let is : unit ≡ held ++ flag ∷ [] = ap (λ (y : ℕ). held ++ y ∷ []) (eqb-true x flag t) in
    let frame : frames_of (flag ∷ (held ++ flag ∷ [])) ≡ verdict ∷ [] = unit_frames held shape in
    let comes : UnitComes given held unit verdict = record { is = is; frame = frame; follows = h.follows } in
    let loaded : Loaded given verdict (load_of_unit lines side before unit) =
    loaded_by parts lines side before given held unit verdict (load_as_it_came unit) only comes (loaded_first given held unit verdict comes) in
    let one : frames_of (came ++ x ∷ []) ≡ frames_of came ++ verdict ∷ [] =
    split (x ∷ []) ∙ ap (λ (l : List Verdict). frames_of came ++ l) (ap (λ (o : List ℕ). frames_of (flag ∷ o)) is ∙ frame) in
    goes_whole lines side before came given unit x (Holding [] false) loaded.stays
    (unit_alike parts came given held x verdict (load_of_unit lines side before unit) one h loaded)

goes_alike : FlagParts → (lines : List ScriptLine) (side : Side) (before : List (List ℕ)) (came given : List ℕ) (s : Standing) (x : ℕ) → LoseOnly side lines
    → StandsWell s → FramesSplit came s → Alike came given s → GoesAlike lines side before came given x (unit_turn s x)
goes_alike parts lines side before came given Unbegun x only w split a =
    elim (cases_Bool (x == flag)) [
      | inl t ↦ rw t (goes_none lines side before came given x (Holding (x ∷ []) false) (first_alike parts came given x t split a))
      | inr f ↦ rw f (goes_outside lines side before came given (x ∷ []) x Unbegun (ap (λ (o : List ℕ). o ++ x ∷ []) a))
    ]
goes_alike parts lines side before came given (Holding held begun) x only w split a =
    elim (cases_Bool ((x == flag) && begun)) [
      | inl t ↦
          let both = and_parts (x == flag) begun t in
          let shape : HeldShape held true = subst (HeldShape held) both.1 w.shape in
          rw t (goes_unit parts lines side before came given held x both.0 only shape split a)
      | inr f ↦
          rw f
          (goes_held lines side before came given (held ++ x ∷ []) (not (x == flag)) x (split_more parts came held begun x f w.shape split)
          (more_alike parts came given held begun x f w.shape split a))
    ]
goes_alike parts lines side before came given Overlong x only w split a =
    elim (cases_Bool (x == flag)) [
      | inl t ↦ rw t (goes_outside lines side before came given (x ∷ []) x (Holding [] false) (passes_flag parts came given x t a))
      | inr f ↦ rw f (goes_outside lines side before came given (x ∷ []) x Overlong (passes_more came given x a))
    ]

-- ---- all octets

-- of what comes then, all that is given and what is held in the end
pub record AllAlike (lines : List ScriptLine) (side : Side) (before : List (List ℕ)) (came given : List ℕ) (s : Standing) (more : List ℕ) : Type 0 where
  pub unclosed : closes_behind (loads_from lines side before (parts_from s more)) ≡ false
  pub lossy : LosesAndRepeats (frames_of (came ++ more))
      (frames_of (given ++ (octets_of_loads (loads_from lines side before (parts_from s more)) ++ held_in_standing (standing_from s more))))

held_found : (given held : List ℕ) (begun : Bool) → HeldShape held begun → Follows given held → frames_of (given ++ held) ≡ frames_of given
held_found given held begun shape f =
    ap (λ (o : List ℕ). frames_of (given ++ o)) (sym (append-nil held))
    ∙ f.holds []
    ∙ ap (λ (l : List Verdict). frames_of given ++ l) (ap (λ (o : List ℕ). frames_of (flag ∷ o)) (append-nil held) ∙ held_frames held begun shape)
    ∙ append-nil (frames_of given)

ends_alike : (came given : List ℕ) (s : Standing) → StandsWell s → Alike came given s → LosesAndRepeats (frames_of came) (frames_of (given ++ held_in_standing s))
ends_alike came given Unbegun w a = rw (append-nil given, sym a) (lossy_same (frames_of came))
ends_alike came given (Holding held begun) w a = rw (held_found given held begun w.shape a.follows) a.lossy
ends_alike came given Overlong w a = rw (append-nil given) (passes_lossy came given a)

none_more : (lines : List ScriptLine) (side : Side) (before : List (List ℕ)) (came given : List ℕ) (s : Standing)
    → LosesAndRepeats (frames_of came) (frames_of (given ++ held_in_standing s)) → AllAlike lines side before came given s []
unfolding parts_from standing_from
none_more lines side before came given s l =
    record { unclosed = stays_none lines side before; lossy = rw (append-nil came, octets_none lines side before) l }

one_more : (lines : List ScriptLine) (side : Side) (before : List (List ℕ)) (came given : List ℕ) (s : Standing) (x : ℕ) (more : List ℕ)
    → GoesAlike lines side before came given x (unit_turn s x)
    → AllAlike lines side (before ++ units_in (unit_turn s x).parts) (came ++ x ∷ [])
    (given ++ octets_of_loads (loads_from lines side before (unit_turn s x).parts)) (unit_turn s x).next more
    → AllAlike lines side before came given s (x ∷ more)
unfolding parts_from standing_from
one_more lines side before came given s x more g a =
    let turn = unit_turn s x in
    let front = loads_from lines side before turn.parts in
    let back = loads_from lines side (before ++ units_in turn.parts) (parts_from turn.next more) in
    let held = held_in_standing (standing_from turn.next more) in
    let loads : loads_from lines side before (turn.parts ++ parts_from turn.next more) ≡ front ++ back =
    loads_append lines side before turn.parts (parts_from turn.next more) ∙ unclosed_joined front back g.unclosed in
    let octets : given ++ (octets_of_loads (front ++ back) ++ held) ≡ (given ++ octets_of_loads front) ++ (octets_of_loads back ++ held) =
    ap (λ (o : List ℕ). given ++ (o ++ held)) (octets_append front back)
    ∙ ap (λ (o : List ℕ). given ++ o) (append_assoc (octets_of_loads front) (octets_of_loads back) held)
    ∙ sym (append_assoc given (octets_of_loads front) (octets_of_loads back ++ held)) in
    record {
      unclosed = ap closes_behind loads ∙ unclosed_append front back g.unclosed a.unclosed;
      lossy =
          rw (loads, octets)
          (subst (λ (o : List ℕ). LosesAndRepeats (frames_of o) (frames_of ((given ++ octets_of_loads front) ++ (octets_of_loads back ++ held))))
          (append_assoc came (x ∷ []) more) a.lossy);
    }

all_alike : FlagParts → (lines : List ScriptLine) (side : Side) (before : List (List ℕ)) (came given : List ℕ) (s : Standing) (more : List ℕ)
    → LoseOnly side lines → StandsWell s → FramesSplit came s → Alike came given s → AllAlike lines side before came given s more
all_alike parts lines side before came given s [] only w split a = none_more lines side before came given s (ends_alike came given s w a)
all_alike parts lines side before came given s (x ∷ more) only w split a =
    let turn = unit_turn s x in
    let g = goes_alike parts lines side before came given s x only w split a in
    one_more lines side before came given s x more g
    (all_alike parts lines side (before ++ units_in turn.parts) (came ++ x ∷ [])
    (given ++ octets_of_loads (loads_from lines side before turn.parts)) turn.next more only (turn_well parts s x w) (split_turn parts came s x w split) g.alike)

sent_unclosed : (script : Script) (side : Side) (came : List ℕ) → closes_behind (loads_from script.lines side [] (parts_of_sent came)) ≡ false
    → is_closed_by script side came ≡ false
unfolding is_closed_by loads_of_sent
sent_unclosed script side came f = f

sent_given : (script : Script) (side : Side) (came : List ℕ) → given_of_sent script side came ≡ octets_of_loads (loads_from script.lines side [] (parts_of_sent came))
unfolding given_of_sent loads_of_sent
sent_given script side came = refl

pub losing_line : FlagParts → LosingLine
losing_line parts script side came only =
    let all = all_alike parts script.lines side [] [] [] Unbegun came only tt tt refl in
    let carried_is = unclosed_carried script side came (sent_unclosed script side came all.unclosed) in
    rw (carried_is, sent_given script side came) all.lossy
