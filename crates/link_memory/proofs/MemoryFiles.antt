-- The files of a cabinet in memory are the entries of its map.
use Rattle.std.proofs.Common.{◌≡◌, ℕ, Bool, true, false, List, [], ◌∷◌, Option, None, Some, String, Vec, map, if◌then◌else◌, cond, refl, sym, ap, ◌∙◌, string_bytes}
use Rattle.std.specs.Option.{option_map}
use Rattle.std.specs.Ordering.{nat_cmp}
use Rattle.std.specs.Cmp.Lexicographic.{slice_cmp}
use Rattle.std.specs.Str.{bytes_eq}
use Rattle.std.specs.BTreeMap.{BTreeMap, UpdatesBy, get_by_text, is_at}
use Rattle.std.specs.Map.{lookup}
use Rattle.std.specs.String.{string_cmp}
use Rattle.std.proofs.lemmas.Map.Text.{is_eq-slice_cmp, btree_map_updates_text}
use Rattle.std.proofs.lemmas.Slice.Eq.{bytes_eq-Decides}
use Rattle.std.proofs.lemmas.Bool.{cond-true, cond-false, false_from_ne_true}
use Rattle.link_trait.specs.Outside.{file_of}
use Rattle.link_memory.specs.OutsideMemory.{KeptCabinet, PutsFile, fetch_answer, is_listed}

-- the entries of a map as files, name and octets
abbrev pub files_of : {Y Z : Type 0} → List (String Y × Vec ℕ Z) → List (List ℕ × List ℕ)
files_of es = map (λ e. (string_bytes e.0, e.1.items)) es

-- a file's octets, of what a look-up in the map gave
abbrev pub octets_of : {Z : Type 0} → Option (Vec ℕ Z) → Option (List ℕ)
octets_of found = option_map (λ v. v.items) found

entry_is : {Z : Type 0} (b : Bool) (v : Vec ℕ Z) (here : Option (List ℕ)) (there : Option (Vec ℕ Z))
    → here ≡ octets_of there → (if b then Some v.items else here) ≡ octets_of (cond b (Some v) there)
entry_is true v here there is = refl
entry_is false v here there is = is

-- the first file of a name is what the map has there
pub file_of-files_of : {Y Z : Type 0} (es : List (String Y × Vec ℕ Z)) (name : List ℕ)
    → file_of (files_of es) name ≡ octets_of (lookup (is_at (λ k. slice_cmp nat_cmp name (string_bytes k))) es)
file_of-files_of [] name = refl
file_of-files_of (e ∷ es) name =
    rw (is_eq-slice_cmp name (string_bytes e.0)) (entry_is (bytes_eq name (string_bytes e.0)) e.1 _ _ (file_of-files_of es name))

-- an insert into the map puts a file
pub puts_file : {Y Z : Type 0} (m n : BTreeMap (String Y) (Vec ℕ Z)) (value : Vec ℕ Z) (name : List ℕ)
    → UpdatesBy string_cmp (λ k. slice_cmp nat_cmp name (string_bytes k)) m n (Some value)
    → PutsFile (files_of m.entries) (files_of n.entries) name value.items
puts_file m n value name updates = record {
  put = file_of-files_of n.entries name
      ∙ ap octets_of (btree_map_updates_text name m n (Some value) updates name
      ∙ cond-true (bytes_eq name name) (Some value) (get_by_text m name) ((bytes_eq-Decides name name).1 refl));
  others = λ other apart. file_of-files_of n.entries other
      ∙ ap octets_of (btree_map_updates_text name m n (Some value) updates other
      ∙ cond-false (bytes_eq name other) (Some value) (get_by_text m other)
      (false_from_ne_true _ (λ same. apart (sym ((bytes_eq-Decides name other).0 same)))))
      ∙ sym (file_of-files_of m.entries other);
}

-- a fetch of a call that isn't listed gives what the map has
pub fetch_answer-unlisted : {Y Z : Type 0} (m : BTreeMap (String Y) (Vec ℕ Z)) (s : KeptCabinet) (name : List ℕ) (found : Option (Vec ℕ Z))
    → s.files ≡ files_of m.entries → is_listed s.failing s.calls ≡ false → found ≡ get_by_text m name
    → fetch_answer s name ≡ octets_of found
fetch_answer-unlisted m s name found files unlisted is =
    cond-false (is_listed s.failing s.calls) None (file_of s.files name) unlisted
    ∙ ap (λ fs. file_of fs name) files ∙ file_of-files_of m.entries name ∙ ap octets_of (sym is)

-- a fetch of a listed call gives nothing
pub fetch_answer-listed : (s : KeptCabinet) (name : List ℕ) → is_listed s.failing s.calls ≡ true → fetch_answer s name ≡ None
fetch_answer-listed s name listed = cond-true (is_listed s.failing s.calls) None (file_of s.files name) listed
