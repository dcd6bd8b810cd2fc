-- What the commands over files do to the outside, as scripts (this profile).
use Rattle.std.specs.Prelude.{◌≡◌, ℕ, Bool, true, false, nat_lt, List, [], ◌∷◌, length, Ok, codes}
use Rattle.er_base.specs.LineTexts.{line_text}
use Rattle.hdlc_fcs.specs.FrameCheck.{sent_bits}
use Rattle.hdlc_bits.specs.Framing.{Verdict}
use Rattle.safety_automaton.specs.Keys.{KmacEntry}
use Rattle.key_store.specs.KeyFiles.{keys_of}
use Rattle.outside.specs.Scripts.{Script, Ends, Prints, says_last}
use Rattle.er_statuses.specs.LastLines.{fault_line}
use Rattle.er_statuses.specs.FileScripts.{fetches_file, behind_keys}
use Rattle.er_program.specs.BitTexts.{most_line_octets, verdict_words, verdicts_in, frame_count, counts_line}

-- entries are printed as a key file that has them one by one, in order; its octets are those that TOML's printer gives, and nothing is
-- claimed of them
abbrev pub prints_keys : List KmacEntry → Script
prints_keys entries = Prints (λ text. keys_of text ≡ Ok entries) (Ends 0)

-- `migrate KEYS`: the key file is fetched, and where it is good its entries are printed
abbrev pub migrates : (name : List ℕ) → Script
migrates name = fetches_file name (λ file. behind_keys (keys_of file) prints_keys)

-- texts are printed one after another, one a thing, and then this is done
unfoldable pub prints_each : {A : Type 0} → (A → List ℕ) → List A → Script → Script
prints_each line [] next = next
prints_each line (x ∷ xs) next = Prints (λ text. text ≡ line x) (prints_each line xs next)

-- the line of a verdict on a recorded line
abbrev pub verdict_line : Verdict → List ℕ
verdict_line verdict = line_text (verdict_words verdict)

-- the last line of a recorded line: how many bits and frames there are
abbrev pub counts_bits : (file : List ℕ) → Script
counts_bits file = says_last 0 (counts_line (length (sent_bits file)) (frame_count (verdicts_in file)))

-- a recorded line of too many octets is refused; of any other each verdict has a line, and then all is counted
abbrev pub reads_bits : (is_long : Bool) → (file : List ℕ) → Script
reads_bits true file = says_last 3 (fault_line 0 (codes "long"))
reads_bits false file = prints_each verdict_line (verdicts_in file) (counts_bits file)

-- `bits FILE`: the recorded line is fetched and read
abbrev pub reads_line : (name : List ℕ) → Script
reads_line name = fetches_file name (λ file. reads_bits (nat_lt most_line_octets (length file)) file)
