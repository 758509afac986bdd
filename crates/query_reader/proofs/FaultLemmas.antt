-- Faults behind tokens.
use Rattle.std.proofs.Common.{◌≡◌, ℕ, false, List, [], ◌∷◌, IsTrue, Result, Ok, Err, IfErr, IsErrAnd, refl, sym, subst}
use Rattle.query_reader.specs.declared.place.Place.{Place}
use Rattle.query_reader.specs.declared.place.Place.TheVariants as at
use Rattle.query_reader.specs.Faults.{may_stand, place_behind, IsStuck, FaultFrom}
use Rattle.query_reader.specs.Grammar.{NamedTerm, variable_term, constant_term, term_token}
use Rattle.query_reader.specs.Tokens.{Token, comma, Stands, after_gap, begins}

-- a mark stands whatever follows it
begins_none : (bytes : List ℕ) → begins (λ byte. false) bytes ≡ false
begins_none [] = refl
begins_none (byte ∷ bytes) = refl

pub comma_stands : (text after : List ℕ) → text ≡ 44 ∷ after → Stands comma text after
comma_stands text after e = record { valid = tt; whole = e; ends = begins_none after }

-- a fault right here
pub fault_here : (place : Place) (text : List ℕ) (left : ℕ) → IsStuck place (after_gap text) left → FaultFrom place text left
fault_here place text left stuck = record { read = []; fault = stuck }

-- a fault behind a token
pub fault_later : (place : Place) (token : Token) (text after : List ℕ) (left : ℕ) → IsTrue (may_stand place token) → Stands token (after_gap text) after
    → FaultFrom (place_behind place token after) after left → FaultFrom place text left
fault_later place token text after left may stands fault = record { read = token ∷ fault.read; fault = (may, (after, stands, fault.fault)) }

-- a term may stand at both its places
pub first_may : (given : NamedTerm) → IsTrue (may_stand at.FirstTerm (term_token given))
first_may (variable_term letters) = refl
first_may (constant_term meant) = refl

pub second_may : (given : NamedTerm) → IsTrue (may_stand at.SecondTerm (term_token given))
second_may (variable_term letters) = refl
second_may (constant_term meant) = refl

-- what holds of the error that is passed on
pub passed : {T E : Type 0} (P : E → Type 0) (r : Result T E) (error : E) → IsErrAnd r (λ e. e ≡ error) → P error → IfErr r P
passed P (Ok x) error h holds = tt
passed P (Err e) error h holds = subst P (sym h) holds
