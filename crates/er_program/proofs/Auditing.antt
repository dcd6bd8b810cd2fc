-- What an audit does, as its script: line by line.
use Rattle.std.proofs.Common.{◌≡◌, ℕ, Bool, false, List, [], ◌∷◌, ◌++◌, Option, Some, None, Ok, Err, refl, sym, subst, inl, inr, append_assoc}
use Rattle.er_tap.specs.declared.tap_line.TapLine.{TapLine}
use Rattle.er_end_model.specs.Steps.{Finds}
use Rattle.tap_model.specs.declared.audit_fault.AuditFault.{AuditFault}
use Rattle.tap_model.specs.declared.audit_fault.AuditFault.TheVariants.{NoLink, LinkTwice, Sink, NoMemory}
use Rattle.tap_model.specs.Lines.{TapFault, NoLinkAt, TwiceAt, fault_of_tap_lines}
use Rattle.link_audit.specs.AuditLines.{lines_of_audit}
use Rattle.link_audit.specs.Audits.{DoesAudit}
use Rattle.link_audit.specs.Writes.{writing}
use Rattle.outside.specs.Acts.{Act, Wrote}
use Rattle.outside.specs.Doings.{Told}
use Rattle.outside.specs.Scripts.{End, With, Sunk, OutOfMemory, Script, Ends, Prints, Knowing, RunsScript, Does, printing}
use Rattle.er_program.specs.AuditWriting.{TellsTapFault}
use Rattle.er_program.specs.FileScripts.{prints_each}
use Rattle.er_program.specs.KeyedScripts.{audits_lines}

abbrev Lines : List (List ℕ) → Script
Lines lines = prints_each (λ line. line) lines (Knowing (Unit {0}) (Ends 0))

-- ---- the lines in the script

-- a line, and what follows
runs_printed : (line : List ℕ) (next : Script) (rest : List Act) (end : End) → RunsScript next rest end → RunsScript (Prints (λ text. text ≡ line) next) (printing line ++ rest) end
unfolding RunsScript
runs_printed line next rest end runs = inl (record { text = line; is = refl; rest = rest; acts_are = refl; follows = runs })

-- all were written
all_runs : (lines : List (List ℕ)) → RunsScript (Lines lines) (writing lines) (With 0)
unfolding RunsScript prints_each writing
all_runs [] = inl (tt, (refl, refl))
all_runs (line ∷ lines) = runs_printed line (Lines lines) (writing lines) (With 0) (all_runs lines)

-- some were, and the next one's write failed
sank_runs : (first : List (List ℕ)) (line : List ℕ) (rest : List (List ℕ)) → RunsScript (Lines (first ++ line ∷ rest)) (writing first ++ Wrote line false ∷ []) Sunk
unfolding RunsScript prints_each writing
sank_runs [] line rest = inr (inl (record { text = line; is = refl; acts_are = refl; sunk = refl }))
sank_runs (x ∷ first) line rest =
    subst (λ (acts : List Act). RunsScript (Lines (x ∷ (first ++ line ∷ rest))) acts Sunk) (sym (append_assoc (printing x) (writing first) (Wrote line false ∷ [])))
    (runs_printed x (Lines (first ++ line ∷ rest)) (writing first ++ Wrote line false ∷ []) Sunk (sank_runs first line rest))

-- some were, and memory ran out
spent_runs : (first rest : List (List ℕ)) → RunsScript (Lines (first ++ rest)) (writing first) OutOfMemory
unfolding RunsScript prints_each writing
spent_runs [] [] = inr (refl, refl)
spent_runs [] (line ∷ rest) = inr (inr (refl, refl))
spent_runs (x ∷ first) rest = runs_printed x (Lines (first ++ rest)) (writing first) OutOfMemory (spent_runs first rest)

-- ---- the script

module _ (ends : Bool) (f : Finds) (lines : List TapLine) (before : Told) where
  abbrev Whole : Option TapFault → Script
  Whole fault = audits_lines ends f lines fault

  -- all lines stand in order, and all was written
  pub audited_all : (now : Told) → DoesAudit ends f lines before now (Ok tt) → Does (audits_lines ends f lines (fault_of_tap_lines lines)) before now (With 0)
  audited_all now audit =
      subst (λ (fault : Option TapFault). Does (Whole fault) before now (With 0)) (sym audit.0)
      (record { acts = writing (lines_of_audit ends f lines); did = audit.1; runs = all_runs (lines_of_audit ends f lines) })

  -- one doesn't, and its line was told
  refused : (fault : TapFault) (mid now : Told) (end : End) → fault_of_tap_lines lines ≡ Some fault → mid ≡ before → Does (Whole (Some fault)) mid now end
      → Does (audits_lines ends f lines (fault_of_tap_lines lines)) before now end
  refused fault mid now end is rests does =
      subst (λ (found : Option TapFault). Does (Whole found) before now end) (sym is) (subst (λ (t : Told). Does (Whole (Some fault)) t now end) rests does)

  broke : (mid now : Told) (end last : End) → fault_of_tap_lines lines ≡ None → now ≡ mid → end ≡ last → Does (Whole None) before mid last
      → Does (audits_lines ends f lines (fault_of_tap_lines lines)) before now end
  broke mid now end last none rests is does =
      subst (λ (found : Option TapFault). Does (Whole found) before now end) (sym none)
      (subst (λ (e : End). Does (Whole None) before now e) (sym is) (subst (λ (t : Told). Does (Whole None) before t last) (sym rests) does))

  pub audited_part : (fault : AuditFault) (mid now : Told) (end : End) → DoesAudit ends f lines before mid (Err fault) → TellsTapFault fault mid now end
      → Does (audits_lines ends f lines (fault_of_tap_lines lines)) before now end
  audited_part (NoLink line n) mid now end audit tells = refused (NoLinkAt line n) mid now end audit.0 audit.1 tells
  audited_part (LinkTwice line n) mid now end audit tells = refused (TwiceAt line n) mid now end audit.0 audit.1 tells
  audited_part Sink mid now end audit tells =
      let sank = audit.1 in
      broke mid now end Sunk audit.0 tells.0 tells.1
      (record {
        acts = writing sank.first ++ Wrote sank.line false ∷ [];
        did = sank.did;
        runs = subst (λ (all : List (List ℕ)). RunsScript (Lines all) (writing sank.first ++ Wrote sank.line false ∷ []) Sunk) (sym sank.are) (sank_runs sank.first sank.line sank.rest);
      })
  audited_part (NoMemory want) mid now end audit tells =
      let spent = audit.1 in
      broke mid now end OutOfMemory audit.0 tells.0 tells.1
      (record {
        acts = writing spent.first;
        did = spent.did;
        runs = subst (λ (all : List (List ℕ)). RunsScript (Lines all) (writing spent.first) OutOfMemory) (sym spent.are) (spent_runs spent.first spent.rest);
      })
