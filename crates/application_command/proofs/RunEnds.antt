-- How a run with an application ends: what follows its key file, and the closed list of statuses.
use Rattle.std.proofs.Common.{◌≡◌, ◌⊎◌, ℕ, inl, inr, List, Option, Some, None, Result, Ok, Err, refl, sym, subst, ◌∙◌, codes}
use Rattle.des_block.specs.declared.triple_key.TripleKey.{TripleKey}
use Rattle.safety_automaton.specs.Keys.{KmacEntry, key_at}
use Rattle.safety_automaton.specs.Pairs.{pair_entries}
use Rattle.key_store.specs.declared.key_file_fault.KeyFileFault.{KeyFileFault}
use Rattle.key_store.specs.declared.key_file_fault.KeyFileFault.TheVariants as keys
use Rattle.key_store.specs.KeyFiles.{keys_of}
use Rattle.key_store.specs.Answers.{RefusesAsKeyFileSays}
use Rattle.outside.specs.Acts.{Act, Fetch, Gave, Failed, Spent}
use Rattle.outside.specs.Doings.{Told}
use Rattle.outside.specs.Scripts.{End, With, Sunk, OutOfMemory, Ends, RunsScript, Does, says_last}
use Rattle.outside.specs.ScriptSteps.{does_spent}
use Rattle.er_statuses.specs.KeyLines.{keys_line}
use Rattle.er_statuses.specs.LastLines.{fetch_line}
use Rattle.er_statuses.specs.ScriptEnds.{EndsRefused, ExitsBy}
use Rattle.er_settings.specs.Making.{usual_settings}
use Rattle.application_serving.specs.Serving.{found_in_entries}
use Rattle.application_serving.specs.GoingSteps.{going_start, serves_of_going}
use Rattle.application_command.specs.ApplicationCommands.{ApplicationCommand, ServeBeside, CallBeside, key_file_beside}
use Rattle.application_command.specs.ApplicationRuns.{IsApplicationStatus, keyless_line, EndsLoop, EndsService, EndsLookUp, EndsWithKeys, EndsKeyFile, EndsKeyFetch, EndsBesideApplication}

-- the ends of a run
abbrev IsEnd : End → Type 0
IsEnd (With s) = (s ≡ 0) ⊎ (s ≡ 2) ⊎ (s ≡ 4) ⊎ (s ≡ 6)
IsEnd Sunk = Unit {0}
IsEnd OutOfMemory = Unit {0}

-- a text and a status end with that status, or the write failed, or memory ran out
said_ends : (status : ℕ) (text : List ℕ) (acts : List Act) (end : End) → RunsScript (says_last status text) acts end
    → (end ≡ With status) ⊎ (end ≡ Sunk) ⊎ (end ≡ OutOfMemory)
unfolding RunsScript
said_ends status text acts end (inl printed) = inl printed.follows.1
said_ends status text acts end (inr (inl unprinted)) = inr (inl unprinted.sunk)
said_ends status text acts end (inr (inr spent)) = inr (inr spent.1)

one_is_end : (status : ℕ) (end : End) → IsEnd (With status) → (end ≡ With status) ⊎ (end ≡ Sunk) ⊎ (end ≡ OutOfMemory) → IsEnd end
one_is_end status end is (inl e) = subst IsEnd (sym e) is
one_is_end status end is (inr (inl e)) = subst IsEnd (sym e) tt
one_is_end status end is (inr (inr e)) = subst IsEnd (sym e) tt

said_is_end : (status : ℕ) (text : List ℕ) (before now : Told) (end : End) → IsEnd (With status) → Does (says_last status text) before now end → IsEnd end
said_is_end status text before now end is says = one_is_end status end is (said_ends status text says.acts end says.runs)

-- ---- the loop

-- memory ran out before it began
pub nothing_looped : (entries : List KmacEntry) (t : Told) → EndsService entries t t OutOfMemory
nothing_looped entries t =
    record {
      looped = t;
      serves = λ first. serves_of_going (going_start (record { settings = usual_settings; start = found_in_entries entries; before = t }));
      ends = inl (refl, inr (inr refl));
    }

loop_is_end : (looped now : Told) (end : End) → EndsLoop looped now end → IsEnd end
loop_is_end looped now end (inl stopped) = one_is_end 0 end (inl refl) stopped.1
loop_is_end looped now end (inr says) = said_is_end 6 (codes "! wires\n") looped now end (inr (inr (inr refl))) says

service_is_end : (entries : List KmacEntry) (before now : Told) (end : End) → EndsService entries before now end → IsEnd end
service_is_end entries before now end service = loop_is_end service.looped now end service.ends

look_up_is_end : (engine rbc : ℕ) (found : Option TripleKey) (before now : Told) (end : End) → EndsLookUp engine rbc found before now end → IsEnd end
look_up_is_end engine rbc None before now end h = said_is_end 4 (keyless_line engine rbc) before now end (inr (inr (inl refl))) h
look_up_is_end engine rbc (Some kmac) before now end h = service_is_end (pair_entries (record { engine = engine; rbc = rbc; kmac = kmac })) before now end h

keys_is_end : (command : ApplicationCommand) (entries : List KmacEntry) (before now : Told) (end : End) → EndsWithKeys command entries before now end → IsEnd end
keys_is_end (ServeBeside keys address rbc turns application) entries before now end h = service_is_end entries before now end h
keys_is_end (CallBeside keys address engine rbc turns application) entries before now end h =
    look_up_is_end engine rbc (key_at entries h.moment engine rbc) h.mid now end h.follows

-- ---- the key file

-- one that is good
pub file_good : (said : Result (List KmacEntry) KeyFileFault) (command : ApplicationCommand) (entries : List KmacEntry) (before now : Told) (end : End)
    → said ≡ Ok entries → EndsWithKeys command entries before now end → EndsKeyFile said command before now end
file_good said command entries before now end is ends = subst (λ r. EndsKeyFile r command before now end) (sym is) (inl ends)

-- one that is refused, but for want of memory
told : (said : Result (List KmacEntry) KeyFileFault) (command : ApplicationCommand) (fault : KeyFileFault) (before now : Told) (end : End)
    → said ≡ Err fault → EndsRefused fault before now end → EndsKeyFile said command before now end
told said command fault before now end is refused = subst (λ r. EndsKeyFile r command before now end) (sym is) refused

unread : (fault : KeyFileFault) (t : Told) → EndsRefused fault t t OutOfMemory
unread keys.Document t = does_spent (λ text. text ≡ keys_line keys.Document) (Ends 4) t
unread (keys.Field entry name) t = does_spent (λ text. text ≡ keys_line (keys.Field entry name)) (Ends 4) t
unread (keys.Hex entry) t = does_spent (λ text. text ≡ keys_line (keys.Hex entry)) (Ends 4) t
unread (keys.Number entry) t = does_spent (λ text. text ≡ keys_line (keys.Number entry)) (Ends 4) t
unread (keys.Range entry) t = does_spent (λ text. text ≡ keys_line (keys.Range entry)) (Ends 4) t
unread (keys.Twice first second) t = does_spent (λ text. text ≡ keys_line (keys.Twice first second)) (Ends 4) t
unread (keys.Version n) t = does_spent (λ text. text ≡ keys_line (keys.Version n)) (Ends 4) t
unread (keys.NoMemory want) t = (refl, refl)

-- memory ran out as it was read
spent : (said : Result (List KmacEntry) KeyFileFault) (command : ApplicationCommand) (t : Told) → EndsKeyFile said command t t OutOfMemory
spent (Ok entries) command t = inr (refl, refl)
spent (Err fault) command t = unread fault t

spent_so : (said : Result (List KmacEntry) KeyFileFault) (command : ApplicationCommand) (before now : Told) (end : End) → now ≡ before → end ≡ OutOfMemory
    → EndsKeyFile said command before now end
spent_so said command before now end same is =
    subst (λ (e : End). EndsKeyFile said command before now e) (sym is)
    (subst (λ (t : Told). EndsKeyFile said command before t OutOfMemory) (sym same) (spent said command before))

-- one that can't be read
pub file_refused : (said : Result (List KmacEntry) KeyFileFault) (command : ApplicationCommand) (fault : KeyFileFault) (before now : Told) (end : End)
    → RefusesAsKeyFileSays fault said → EndsRefused fault before now end → EndsKeyFile said command before now end
file_refused said command keys.Document before now end is refused = told said command keys.Document before now end is refused
file_refused said command (keys.Field entry name) before now end is refused = told said command (keys.Field entry name) before now end is refused
file_refused said command (keys.Hex entry) before now end is refused = told said command (keys.Hex entry) before now end is refused
file_refused said command (keys.Number entry) before now end is refused = told said command (keys.Number entry) before now end is refused
file_refused said command (keys.Range entry) before now end is refused = told said command (keys.Range entry) before now end is refused
file_refused said command (keys.Twice first second) before now end is refused = told said command (keys.Twice first second) before now end is refused
file_refused said command (keys.Version n) before now end is refused = told said command (keys.Version n) before now end is refused
file_refused said command (keys.NoMemory want) before now end is refused = spent_so said command before now end refused.0 refused.1

four_is_end : (text : List ℕ) (before now : Told) (end : End) → Does (says_last 4 text) before now end → IsEnd end
four_is_end text before now end h = said_is_end 4 text before now end (inr (inr (inl refl))) h

refused_is_end : (fault : KeyFileFault) (before now : Told) (end : End) → EndsRefused fault before now end → IsEnd end
refused_is_end keys.Document before now end h = four_is_end (keys_line keys.Document) before now end h
refused_is_end (keys.Field entry name) before now end h = four_is_end (keys_line (keys.Field entry name)) before now end h
refused_is_end (keys.Hex entry) before now end h = four_is_end (keys_line (keys.Hex entry)) before now end h
refused_is_end (keys.Number entry) before now end h = four_is_end (keys_line (keys.Number entry)) before now end h
refused_is_end (keys.Range entry) before now end h = four_is_end (keys_line (keys.Range entry)) before now end h
refused_is_end (keys.Twice first second) before now end h = four_is_end (keys_line (keys.Twice first second)) before now end h
refused_is_end (keys.Version n) before now end h = four_is_end (keys_line (keys.Version n)) before now end h
refused_is_end (keys.NoMemory want) before now end h = subst IsEnd (sym h.1) tt

file_is_end : (said : Result (List KmacEntry) KeyFileFault) (command : ApplicationCommand) (before now : Told) (end : End)
    → EndsKeyFile said command before now end → IsEnd end
file_is_end (Ok entries) command before now end (inl h) = keys_is_end command entries before now end h
file_is_end (Ok entries) command before now end (inr h) = subst IsEnd (sym h.1) tt
file_is_end (Err fault) command before now end h = refused_is_end fault before now end h

fetch_is_end : (command : ApplicationCommand) (answer : Fetch) (before now : Told) (end : End) → EndsKeyFetch command answer before now end → IsEnd end
fetch_is_end command (Gave file) before now end h = file_is_end (keys_of file) command before now end h
fetch_is_end command Failed before now end h = said_is_end 2 (fetch_line (key_file_beside command)) before now end (inr (inl refl)) h
fetch_is_end command Spent before now end h = subst IsEnd (sym h.1) tt

-- ---- a run, with its status

status_known : (end : End) (before now : Told) (status : ℕ) → IsEnd end → ExitsBy end before now status → IsApplicationStatus status
status_known (With s) before now status (inl e) x = inl (x.0 ∙ e)
status_known (With s) before now status (inr (inl e)) x = inr (inl (x.0 ∙ e))
status_known (With s) before now status (inr (inr (inl e))) x = inr (inr (inl (x.0 ∙ e)))
status_known (With s) before now status (inr (inr (inr e))) x = inr (inr (inr (inr (inl (x.0 ∙ e)))))
status_known Sunk before now status h x = inr (inr (inr (inl x.0)))
status_known OutOfMemory before now status h (inl x) = inr (inr (inr (inr (inr x.0))))
status_known OutOfMemory before now status h (inr x) = inr (inr (inr (inl x.0)))

-- a run that ended so has one of the statuses
pub known : (command : ApplicationCommand) (before mid now : Told) (end : End) (status : ℕ) → EndsBesideApplication command before mid end
    → ExitsBy end mid now status → IsApplicationStatus status
known command before mid now end status ends exits =
    status_known end mid now status (fetch_is_end command ends.answer ends.mid mid end ends.follows) exits
