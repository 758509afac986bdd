-- Texts with no escape stand between quotes as they are.
use Rattle.std.proofs.Common.{◌≡◌, ℕ, true, List, [], ◌∷◌, refl, arith}
use Rattle.std.proofs.lemmas.Bool.Decides.{nat_tests}
use Rattle.json.specs.Print.{escape_byte, escape}
use Rattle.report_fields.specs.Fields.{stands_for_itself, needs_no_escape}
use Rattle.report_fields.proofs.Plain.{both}

-- a byte that stands for itself has no escape
escape_byte-plain : (x : ℕ) → stands_for_itself x ≡ true → escape_byte x ≡ x ∷ []
unfolding escape_byte
escape_byte-plain x h = grind (arith, nat_tests)

-- nor has a text of such bytes
pub escape-plain : (s : List ℕ) → needs_no_escape s ≡ true → escape s ≡ s
escape-plain [] h = refl
escape-plain (x ∷ s) h =
    let parts = both (stands_for_itself x) (needs_no_escape s) h in
    rw (escape_byte-plain x parts.0, escape-plain s parts.1) refl
