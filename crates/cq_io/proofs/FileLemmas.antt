-- What stands under each name of a list of files, and what a write of one file does to it.
use Rattle.std.proofs.Common.{◌≡◌, ℕ, zero, suc, ◌<◌, true, false, if◌then◌else◌, List, [], ◌∷◌, ◌++◌, length, get_or, set, Some, None, refl, ap, arith}
use Rattle.std.specs.Str.{bytes_eq}
use Rattle.std.proofs.lemmas.Slice.Eq.{bytes_eq-Decides}
use Rattle.std.proofs.lemmas.List.Quantifiers.{position-Some}
use Rattle.std.proofs.lemmas.List.Sums.{fails_before_first}
use Rattle.std.proofs.lemmas.Bool.Decides.{nat_tests}
use Rattle.cq_io.specs.MemShelf.{bytes_under, place_of, Puts}

-- a name's bytes with a file's
abbrev NamedFile : Type 0
NamedFile = List ℕ × List ℕ

-- the file at the place is the first that has the name; past the end of the list stands `other`
record IsFirst (files : List NamedFile) (place : ℕ) (other : NamedFile) (name : List ℕ) : Type 0 where
  pub inside : place < length files
  pub here : bytes_eq (get_or files place other).0 name ≡ true
  pub before : (k : ℕ) → k < place → bytes_eq (get_or files k other).0 name ≡ false

-- no file has the name
record NoneHas (files : List NamedFile) (other : NamedFile) (name : List ℕ) : Type 0 where
  pub differs : (k : ℕ) → k < length files → bytes_eq (get_or files k other).0 name ≡ false

-- the first file of those behind a file with another name
IsFirst-behind : (file : NamedFile) (files : List NamedFile) (place : ℕ) (other : NamedFile) (name : List ℕ)
    → IsFirst (file ∷ files) (suc place) other name → IsFirst files place other name
IsFirst-behind file files place other name first =
    record { inside = omega arith; here = first.here; before = λ k below. first.before (suc k) (omega arith) }

-- nor has one of those behind the first
NoneHas-behind : (file : NamedFile) (files : List NamedFile) (other : NamedFile) (name : List ℕ)
    → NoneHas (file ∷ files) other name → NoneHas files other name
NoneHas-behind file files other name none =
    record { differs = λ k below. none.differs (suc k) (omega arith) }

-- under the name of the first file that has it stand that file's bytes
bytes_under-first : (files : List NamedFile) (place : ℕ) (other : NamedFile) (name : List ℕ)
    → IsFirst files place other name → bytes_under files name ≡ Some (get_or files place other).1
bytes_under-first [] place other name first = absurd (omega arith)
bytes_under-first (file ∷ files) zero other name first = grind arith
bytes_under-first (file ∷ files) (suc place) other name first =
    let differs : bytes_eq file.0 name ≡ false = first.before 0 (omega arith) in
    let rest = bytes_under-first files place other name (IsFirst-behind file files place other name first) in
    grind arith

-- under a name that no file has stands nothing
bytes_under-none : (files : List NamedFile) (other : NamedFile) (name : List ℕ)
    → NoneHas files other name → bytes_under files name ≡ None
bytes_under-none [] other name none = refl
bytes_under-none (file ∷ files) other name none =
    let differs : bytes_eq file.0 name ≡ false = none.differs 0 (omega arith) in
    let rest = bytes_under-none files other name (NoneHas-behind file files other name none) in
    grind arith

-- two names that are equal as bytes pass the same comparisons
bytes_eq-same : (a b c : List ℕ) → bytes_eq a b ≡ true → bytes_eq a c ≡ bytes_eq b c
bytes_eq-same a b c same = let e : a ≡ b = (bytes_eq-Decides a b).0 same in ap (λ x. bytes_eq x c) e

-- two names that are equal to a third are equal
bytes_eq-both : (a b c : List ℕ) → bytes_eq a c ≡ true → bytes_eq b c ≡ true → bytes_eq a b ≡ true
bytes_eq-both a b c first second =
    let e : a ≡ c = (bytes_eq-Decides a c).0 first in
    let f : b ≡ c = (bytes_eq-Decides b c).0 second in
    (bytes_eq-Decides a b).1 cc

-- what stands under each name after the first file with a name is replaced
bytes_under-set : (files : List NamedFile) (place : ℕ) (other : NamedFile) (name bytes asked : List ℕ)
    → IsFirst files place other name
    → bytes_under (set files place (name, bytes)) asked ≡ (if bytes_eq name asked then Some bytes else bytes_under files asked)
bytes_under-set [] place other name bytes asked first = absurd (omega arith)
bytes_under-set (file ∷ files) zero other name bytes asked first =
    let same = bytes_eq-same file.0 name asked first.here in
    grind arith
bytes_under-set (file ∷ files) (suc place) other name bytes asked first =
    let differs : bytes_eq file.0 name ≡ false = first.before 0 (omega arith) in
    let behind = IsFirst-behind file files place other name first in
    let rest = bytes_under-set files place other name bytes asked behind in
    let both = bytes_eq-both file.0 name asked in
    grind arith

-- what stands under each name after a file with a new name is added
bytes_under-push : (files : List NamedFile) (other : NamedFile) (name bytes asked : List ℕ)
    → NoneHas files other name
    → bytes_under (files ++ (name, bytes) ∷ []) asked ≡ (if bytes_eq name asked then Some bytes else bytes_under files asked)
bytes_under-push [] other name bytes asked none = refl
bytes_under-push (file ∷ files) other name bytes asked none =
    let differs : bytes_eq file.0 name ≡ false = none.differs 0 (omega arith) in
    let behind = NoneHas-behind file files other name none in
    let rest = bytes_under-push files other name bytes asked behind in
    let both = bytes_eq-both file.0 name asked in
    grind arith

-- the place of a name is that of the first file that has it
IsFirst-place : (files : List NamedFile) (place : ℕ) (other : NamedFile) (name : List ℕ)
    → place_of files name ≡ Some place → IsFirst files place other name
IsFirst-place files place other name found =
    let first = position-Some (λ (file : NamedFile). bytes_eq file.0 name) files place other found in
    record { inside = first.0; here = first.1; before = first.2 }

-- where a name has no place, no file has it
NoneHas-place : (files : List NamedFile) (other : NamedFile) (name : List ℕ)
    → place_of files name ≡ None → NoneHas files other name
NoneHas-place files other name absent =
    let named = λ (file : NamedFile). bytes_eq file.0 name in
    record { differs = λ k inside. fails_before_first named files k other (grind (arith, nat_tests)) }

-- the bytes at the place of a name stand under it
pub bytes_under-place : (files : List NamedFile) (name : List ℕ) (place : ℕ) (other : NamedFile)
    → place_of files name ≡ Some place → bytes_under files name ≡ Some (get_or files place other).1
bytes_under-place files name place other found =
    bytes_under-first files place other name (IsFirst-place files place other name found)

-- nothing stands under a name without a place
pub bytes_under-absent : (files : List NamedFile) (name : List ℕ) → place_of files name ≡ None → bytes_under files name ≡ None
bytes_under-absent files name absent =
    bytes_under-none files ([], []) name (NoneHas-place files ([], []) name absent)

-- a file at the place of its name is replaced
pub Puts-set : (files : List NamedFile) (place : ℕ) (name bytes : List ℕ)
    → place_of files name ≡ Some place → Puts files (set files place (name, bytes)) name bytes
Puts-set files place name bytes found asked =
    bytes_under-set files place ([], []) name bytes asked (IsFirst-place files place ([], []) name found)

-- a file whose name has no place is added
pub Puts-push : (files : List NamedFile) (name bytes : List ℕ)
    → place_of files name ≡ None → Puts files (files ++ (name, bytes) ∷ []) name bytes
Puts-push files name bytes absent asked =
    bytes_under-push files ([], []) name bytes asked (NoneHas-place files ([], []) name absent)
