-- Texts get shorter as tokens are read.
use Rattle.std.proofs.Common.{ℕ, ◌+◌, ◌<◌, ◌≤◌, Bool, true, false, cond, List, [], ◌∷◌, length, refl, ap, ◌∙◌, arith, length-append, suc, inl, inr}
use Rattle.axiom_reader.proofs.NameLemmas.{empty_is_no_name}
use Rattle.query_reader.specs.declared.place.Place.{Place}
use Rattle.query_reader.specs.Faults.{FaultFrom, FaultBehind, IsLeft, place_behind}
use Rattle.query_reader.specs.Tokens.{Token, variable, constant, name, arrow, opening, closing, comma, IsToken, Stands, Reads, token_text, after_gap, is_blank}

-- a token has a byte
pub token_some : (token : Token) → IsToken token → 0 < length (token_text token)
token_some (variable letters) valid = omega arith
token_some (constant text) valid = omega arith
token_some (name []) valid = absurd (empty_is_no_name [] refl valid)
token_some (name (byte ∷ bytes)) valid = omega arith
token_some arrow valid = omega arith
token_some opening valid = omega arith
token_some closing valid = omega arith
token_some comma valid = omega arith

-- a gap takes nothing away but bytes
pub after_gap_le : (text : List ℕ) → length (after_gap text) ≤ length text
after_gap_le [] = omega arith
after_gap_le (byte ∷ bytes) = by (is_blank byte) _ (after_gap_le bytes)
  where
    by : (b : Bool) (rest : List ℕ) → length rest ≤ length bytes → length (cond b rest (byte ∷ bytes)) ≤ suc (length bytes)
    by true rest le = omega arith
    by false rest le = omega arith

-- a token takes a byte
pub stands_shorter : (token : Token) (text after : List ℕ) → Stands token (after_gap text) after → length after < length text
stands_shorter token text after stands =
    let size = ap length stands.whole ∙ length-append (token_text token) after in
    omega (arith, token_some token stands.valid, after_gap_le text)

-- tokens take as many bytes as they are
pub reads_shorter : (tokens : List Token) (text rest : List ℕ) → Reads tokens text rest → length rest + length tokens ≤ length text
reads_shorter [] text rest e = let size = ap length e in omega arith
reads_shorter (token ∷ tokens) text rest (after, stands, parted, reads) =
    omega (arith, stands_shorter token text after stands, reads_shorter tokens after rest reads)

-- a fault is in the text
left_within : (place : Place) (text : List ℕ) (left : ℕ) → IsLeft place text left → left ≤ length text
left_within place text left (inl (ends, e)) = omega arith
left_within place text left (inr (inl breaks)) = omega (arith, breaks.left_is)
left_within place text left (inr (inr (ends, breaks, e))) = omega arith

behind_within : (read : List Token) (place : Place) (text : List ℕ) (left : ℕ) → FaultBehind read place text left → left ≤ length text
behind_within [] place text left stuck = omega (arith, left_within place (after_gap text) left stuck.left_is, after_gap_le text)
behind_within (token ∷ read) place text left (may, (after, stands, fault)) =
    omega (arith, stands_shorter token text after stands, behind_within read (place_behind place token after) after left fault)

pub fault_within : (place : Place) (text : List ℕ) (left : ℕ) → FaultFrom place text left → left ≤ length text
fault_within place text left fault = behind_within fault.read place text left fault.fault
