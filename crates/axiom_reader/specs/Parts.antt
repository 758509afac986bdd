-- What the steps of the reader find at the front of a text, of a line and of a list of words.
use denote.Ref.{Bor}
use Rattle.std.specs.Prelude.{◌≡◌, ℕ, ◌+◌, ◌<◌, Bool, true, false, List, [], ◌∷◌, ◌++◌, length, codes, Option, None, Some, option_and_then, option_map, ◌≤◌}
use Rattle.std.specs.Prelude.{if◌then◌else◌, ◌⊎◌}
use Rattle.std.specs.Str.{bytes_eq}
use Rattle.cq_terms.specs.declared.axioms.Axiom.{Axiom}
use Rattle.cq_terms.specs.declared.names.Vocab.{Vocab}
use Rattle.axiom_reader.specs.declared.axiom.NamedRole.{NamedRole as Role}
use Rattle.axiom_reader.specs.declared.axiom.NamedBasic.{NamedBasic as Basic}
use Rattle.axiom_reader.specs.declared.axiom.NamedBasic.TheVariants as basic
use Rattle.axiom_reader.specs.declared.axiom.NamedAxiom.{NamedAxiom as Whole}
use Rattle.axiom_reader.specs.declared.axiom.NamedAxiom.TheVariants as whole
use Rattle.axiom_reader.specs.declared.lines.Line.{Line}
use Rattle.axiom_reader.specs.declared.lines.Line.TheVariants as line_kind
use Rattle.axiom_reader.specs.declared.refusal.AxiomRefusal.{AxiomRefusal}
use Rattle.axiom_reader.specs.declared.refusal.AxiomRefusal.TheVariants as refusal
use Rattle.axiom_reader.specs.Name.{is_name_text}
use Rattle.axiom_reader.specs.Axioms.{NamedRole, NamedBasic, NamedAxiom, concept, has, concepts, roles}
use Rattle.axiom_reader.specs.Lines.{lines_in, words_of}
use Rattle.axiom_reader.specs.Meaning.{IsAxiomOf}
use Rattle.axiom_reader.specs.Numbering.{with_axiom}
use Rattle.axiom_reader.specs.Reading.{LineOutcome, nothing, one, not_utf8, bad, Gives, line_not_utf8, bad_line, too_many, HasFault, most_axioms}

-- a role as contracts see it
abbrev pub role_of : Role → NamedRole
role_of role = record { name = role.name.now; inverse = role.inverse }

-- a basic concept as contracts see it
abbrev pub basic_of : Basic → NamedBasic
basic_of (basic.Concept name) = concept name.now
basic_of (basic.Has role) = has (role_of role)

-- an axiom over names as contracts see it
abbrev pub axiom_of : Whole → NamedAxiom
axiom_of (whole.Concepts left negated right) = concepts (basic_of left) negated (basic_of right)
axiom_of (whole.Roles left negated right) = roles (role_of left) negated (role_of right)

-- what a line gives, as contracts see it
abbrev pub outcome_of : Line → LineOutcome
outcome_of line_kind.Nothing = nothing
outcome_of (line_kind.Axiom named) = one (axiom_of named)
outcome_of line_kind.NotUtf8 = not_utf8
outcome_of line_kind.Bad = bad

-- what was taken from the front of a line, and the words that remain, are what was found at the front of its words
abbrev pub IsFound : {A B : Type 0} → (A → B) → Option (A × Bor (List ℕ)) → Option (B × List (List ℕ)) → Type 0
IsFound view taken found = option_map (λ pair. (view pair.0, words_of pair.1.now)) taken ≡ found

-- whether the first word is this one, and the words after it, or all of them
unfoldable pub skip_word : List ℕ → List (List ℕ) → Bool × List (List ℕ)
skip_word word [] = (false, [])
skip_word word (first ∷ words) = if bytes_eq first word then (true, words) else (false, first ∷ words)

-- the name at the front of the words, and the words after it
unfoldable pub name_at : List (List ℕ) → Option (List ℕ × List (List ℕ))
name_at [] = None
name_at (word ∷ words) = if is_name_text word then Some (word, words) else None

-- the role at the front
unfoldable pub role_at : List (List ℕ) → Option (NamedRole × List (List ℕ))
role_at words =
    let skipped = skip_word (codes "inv") words in
    option_map (λ found. (record { name = found.0; inverse = skipped.0 }, found.1)) (name_at skipped.1)

-- the basic concept at the front
unfoldable pub basic_at : List (List ℕ) → Option (NamedBasic × List (List ℕ))
basic_at words =
    let skipped = skip_word (codes "some") words in
    if skipped.0 then option_map (λ found. (has found.0, found.1)) (role_at skipped.1)
    else option_map (λ found. (concept found.0, found.1)) (name_at skipped.1)

-- `<` at the front, and whether `not` follows it
unfoldable pub sign_at : List (List ℕ) → Option (Bool × List (List ℕ))
sign_at words =
    let skipped = skip_word (codes "<") words in
    if skipped.0 then Some (skip_word (codes "not") skipped.1) else None

-- whether no word is left
abbrev pub is_ended : List (List ℕ) → Bool
is_ended [] = true
is_ended (word ∷ words) = false

-- the axiom, where no word is left
abbrev pub where_ended : NamedAxiom → List (List ℕ) → Option NamedAxiom
where_ended named words = if is_ended words then Some named else None

-- the axiom of two basic concepts that the words say
unfoldable pub concepts_at : List (List ℕ) → Option NamedAxiom
concepts_at words =
    option_and_then (λ left.
    option_and_then (λ sign.
    option_and_then (λ right. where_ended (concepts left.0 sign.0 right.0) right.1)
    (basic_at sign.1)) (sign_at left.1)) (basic_at words)

-- the axiom of two roles that the words say
unfoldable pub roles_at : List (List ℕ) → Option NamedAxiom
roles_at words =
    option_and_then (λ left.
    option_and_then (λ sign.
    option_and_then (λ right. where_ended (roles left.0 sign.0 right.0) right.1)
    (role_at sign.1)) (sign_at left.1)) (role_at words)

-- the axiom that the words say
unfoldable pub axiom_at : List (List ℕ) → Option NamedAxiom
axiom_at words =
    let skipped = skip_word (codes "role") words in
    if skipped.0 then roles_at skipped.1 else concepts_at skipped.1

-- the line at the front of a text that isn't empty, and what comes after its end
pub record IsFirstLine (text line after : List ℕ) : Type 0 where
  pub lines : lines_in text ≡ line ∷ lines_in after
  pub shorter : length line + length after ≤ length text
  pub ends : length after < length text

-- one more line was read: it gave nothing, or its axiom went last
abbrev pub IsTaken : List ℕ → Vocab → Vocab → List Axiom → List Axiom → Type 0
IsTaken line old new axioms more =
    (Gives line nothing × (new ≡ old) × (more ≡ axioms))
    ⊎ ((named : NamedAxiom) × (given : Axiom) × Gives line (one named) × (length axioms < most_axioms)
    × (new ≡ with_axiom old named) × IsAxiomOf new named given × (more ≡ axioms ++ given ∷ []))

-- the refusal is that of a line before which so many axioms stand
abbrev pub IsLineRefused : ℕ → ℕ → List ℕ → AxiomRefusal → Type 0
IsLineRefused count number line (refusal.NotUtf8 place) = HasFault line_not_utf8 count line × (place ≡ number)
IsLineRefused count number line (refusal.BadLine place) = HasFault bad_line count line × (place ≡ number)
IsLineRefused count number line refusal.TooMany = HasFault too_many count line
IsLineRefused count number line refusal.NoMemory = Unit {0}
