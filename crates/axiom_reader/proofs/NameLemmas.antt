-- Which bytes a name has.
use Rattle.std.proofs.Common.{◌≡◌, ℕ, ◌<◌, true, ◌&&◌, not, List, [], ◌∷◌, length, refl, arith}
use Rattle.std.specs.List.{list_all}
use Rattle.std.specs.Str.{IsAscii, IsUtf8}
use Rattle.std.proofs.lemmas.Bool.Decides.{nat_tests}
use Rattle.std.proofs.lemmas.Str.{IsUtf8-from_ascii}
use Rattle.std.proofs.lemmas.Str.Ascii.{IsAscii-nil, IsAscii-cons}
use Rattle.axiom_reader.specs.Name.{is_first, is_later, is_keyword, is_name_text, IsName}
use Rattle.axiom_reader.proofs.TestLemmas.{both}

-- a name may go on with any byte that it may begin with
later_first : (byte : ℕ) → is_first byte ≡ true → is_later byte ≡ true
later_first byte h = grind (arith, nat_tests)

-- the bytes of names are ASCII
pub later_ascii : (byte : ℕ) → is_later byte ≡ true → byte < 128
later_ascii byte h = grind (arith, nat_tests)

-- each byte of a name may stand after its first
pub all_later : (bytes : List ℕ) → IsName bytes → list_all is_later bytes ≡ true
unfolding is_name_text
all_later [] h = cc
all_later (byte ∷ bytes) h =
    let parts = both (is_first byte && list_all is_later bytes) (not (is_keyword (byte ∷ bytes))) h in
    let form = both (is_first byte) (list_all is_later bytes) parts.0 in
    rw (later_first byte form.0) form.1

-- bytes that a name may go on with are ASCII
later_is_ascii : (bytes : List ℕ) → list_all is_later bytes ≡ true → IsAscii bytes
later_is_ascii [] h = IsAscii-nil
later_is_ascii (byte ∷ bytes) h =
    let parts = both (is_later byte) (list_all is_later bytes) h in
    IsAscii-cons byte bytes (later_ascii byte parts.0) (later_is_ascii bytes parts.1)

-- a name is text
pub IsUtf8-name : (bytes : List ℕ) → IsName bytes → IsUtf8 bytes
IsUtf8-name bytes h = IsUtf8-from_ascii bytes (later_is_ascii bytes (all_later bytes h))

-- nothing is no name
pub empty_is_no_name : (bytes : List ℕ) → length bytes ≡ 0 → IsName bytes → ⊥
unfolding is_name_text
empty_is_no_name [] h name = cc
empty_is_no_name (byte ∷ bytes) h name = absurd (omega arith)

-- what is asked of bytes that aren't empty
pub is_name_text-cons : (bytes : List ℕ) (first : ℕ) (later : List ℕ) → bytes ≡ first ∷ later
    → is_name_text bytes ≡ (is_first first && list_all is_later later && not (is_keyword bytes))
unfolding is_name_text
is_name_text-cons bytes first later e = rw e refl
