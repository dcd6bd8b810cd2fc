-- Recorded before it goes, for a whole command: from its loop, and from what was done ahead of it and behind it.
use Rattle.std.proofs.Common.{◌||◌, ◌≡◌, ℕ, List, [], ◌∷◌, ◌++◌, true, false, Bool, IsFalse, refl, ◌∙◌}
use Rattle.std.specs.List.{list_any}
use Rattle.std.proofs.lemmas.List.Folds.{list_any-append}
use Rattle.er_settings.specs.Making.{usual_settings}
use Rattle.outside.specs.Acts.{Act, Called, Sent, Closed, Wrote, is_call, is_write}
use Rattle.outside.specs.Chains.{did_nothing, did_then}
use Rattle.outside.specs.Doings.{Told, Did}
use Rattle.loop_model.specs.Journals.{trace_header}
use Rattle.readiness_loop.specs.Recorded.{IsRecordedFirst}
use Rattle.er_serving.specs.RecordedLines.{HasCalledNone, HasOnlyAsked, IsLineRecorded}

no_place : {A : Type 0} (done : List A) (y : A) (rest : List A) → done ++ y ∷ rest ≡ [] → ⊥
no_place [] y rest p = cc p
no_place (d ∷ done) y rest p = cc p

nothing_recorded : (header : List ℕ) (a : Told) → IsRecordedFirst header a a
nothing_recorded header a = record {
  acts = [];
  did = did_nothing a;
  given = λ conn piece answer done rest e. absurd (no_place done (Called (Sent conn piece answer)) rest e);
  closed = λ conn done rest e. absurd (no_place done (Called (Closed conn)) rest e);
  failed = λ piece done rest e. absurd (no_place done (Wrote piece false) rest e);
  unfetched = refl;
}

neither : (x y : Bool) → IsFalse x → IsFalse y → IsFalse (x || y)
neither false y p q = q
neither true y p q = absurd (cc p)

pub none_then : (a b c : Told) → HasCalledNone a b → HasCalledNone b c → HasCalledNone a c
none_then a b c p q = record {
  acts = p.acts ++ q.acts;
  did = did_then a b c p.acts q.acts p.did q.did;
  none = list_any-append is_call p.acts q.acts ∙ neither (list_any is_call p.acts) (list_any is_call q.acts) p.none q.none;
}

none_asked : (a : Told) → HasOnlyAsked a a
none_asked a = record { acts = []; did = did_nothing a; none = refl; unwritten = refl }

asked_then : (a b c : Told) → HasOnlyAsked a b → HasOnlyAsked b c → HasOnlyAsked a c
asked_then a b c p q = record {
  acts = p.acts ++ q.acts;
  did = did_then a b c p.acts q.acts p.did q.did;
  none = list_any-append is_call p.acts q.acts ∙ neither (list_any is_call p.acts) (list_any is_call q.acts) p.none q.none;
  unwritten = list_any-append is_write p.acts q.acts ∙ neither (list_any is_write p.acts) (list_any is_write q.acts) p.unwritten q.unwritten;
}

-- a command without a loop
pub without_loop : (a b : Told) → HasCalledNone a b → IsLineRecorded a b
without_loop a b p = record { began = a; ended = a; ahead = none_asked a; loop = nothing_recorded (trace_header usual_settings) a; behind = p }

-- a loop, and what is behind it
pub loop_recorded : (a b c : Told) → IsRecordedFirst (trace_header usual_settings) a b → HasCalledNone b c → IsLineRecorded a c
loop_recorded a b c p q = record { began = a; ended = b; ahead = none_asked a; loop = p; behind = q }

pub recorded_behind : (a b c : Told) → HasOnlyAsked a b → IsLineRecorded b c → IsLineRecorded a c
recorded_behind a b c p q = record { began = q.began; ended = q.ended; ahead = asked_then a b q.began p q.ahead; loop = q.loop; behind = q.behind }

pub recorded_then : (a b c : Told) → IsLineRecorded a b → HasCalledNone b c → IsLineRecorded a c
recorded_then a b c p q = record { began = p.began; ended = p.ended; ahead = p.ahead; loop = p.loop; behind = none_then p.ended b c p.behind q }

-- all that was done
pub record HasDone (before now : Told) : Type 0 where
  pub acts : List Act
  pub did : Did before now acts

pub all_done : (a b : Told) → IsLineRecorded a b → HasDone a b
all_done a b p = record {
  acts = p.ahead.acts ++ (p.loop.acts ++ p.behind.acts);
  did = did_then a p.began b p.ahead.acts (p.loop.acts ++ p.behind.acts) p.ahead.did (did_then p.began p.ended b p.loop.acts p.behind.acts p.loop.did p.behind.did);
}
