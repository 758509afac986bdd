-- The texts of a list of names are distinct.
use Rattle.std.proofs.Common.{◌≡◌, ◌⊎◌, inl, inr, ℕ, zero, suc, Bool, true, false, cond, List, [], ◌∷◌, ◌++◌, length, slice_get, Some, Contains, refl, sym}
use Rattle.std.proofs.Common.{ap, ◌∙◌, subst}
use Rattle.std.specs.List.{list_any}
use Rattle.std.specs.Str.{bytes_eq}
use Rattle.cq_terms.specs.Names.{with_text}
use Rattle.cq_terms.specs.declared.names.Vocab.{Vocab}
use Rattle.cq_terms.proofs.NamesLemmas.{not_there, there_at}
use Rattle.query_reader.specs.Grammar.{NamedTerm, variable_term, constant_term, NamedAtom, concept_atom, role_atom, NamedQuery}
use Rattle.query_reader.specs.Numbering.{Numbers, with_texts, with_term, with_atoms, with_query}

-- no text stands at two places
abbrev pub Apart : List (List ℕ) → Type 0
Apart texts = (i j : ℕ) (text : List ℕ) → slice_get texts i ≡ Some text → slice_get texts j ≡ Some text → i ≡ j

-- a place of a list with one more text
push_at : (texts : List (List ℕ)) (last text : List ℕ) (i : ℕ) → slice_get (texts ++ last ∷ []) i ≡ Some text → (slice_get texts i ≡ Some text)
    ⊎ ((i ≡ length texts) × (last ≡ text))
push_at [] last text zero e = inr (refl, cc)
push_at [] last text (suc i) e = cc e
push_at (first ∷ texts) last text zero e = inl e
push_at (first ∷ texts) last text (suc i) e = by (push_at texts last text i e)
  where
    by : (slice_get texts i ≡ Some text) ⊎ ((i ≡ length texts) × (last ≡ text)) → (slice_get texts i ≡ Some text)
        ⊎ ((suc i ≡ suc (length texts)) × (last ≡ text))
    by (inl h) = inl h
    by (inr (same, is)) = inr (ap suc same, is)

-- one more text that isn't there
Apart-push : (texts : List (List ℕ)) (last : List ℕ) → (Contains texts last → ⊥) → Apart texts → Apart (texts ++ last ∷ [])
Apart-push texts last new apart i j text h k = by (push_at texts last text i h) (push_at texts last text j k)
  where
    by : (slice_get texts i ≡ Some text) ⊎ ((i ≡ length texts) × (last ≡ text)) → (slice_get texts j ≡ Some text) ⊎ ((j ≡ length texts) × (last ≡ text)) → i ≡ j
    by (inl a) (inl b) = apart i j text a b
    by (inl a) (inr b) = absurd (new (subst (Contains texts) (sym b.1) (there_at texts text i a)))
    by (inr a) (inl b) = absurd (new (subst (Contains texts) (sym a.1) (there_at texts text j b)))
    by (inr a) (inr b) = a.0 ∙ sym b.0

Apart-with_text : (texts : List (List ℕ)) (text : List ℕ) → Apart texts → Apart (with_text texts text)
Apart-with_text texts text apart = by (list_any (bytes_eq text) texts) refl
  where
    by : (b : Bool) → list_any (bytes_eq text) texts ≡ b → Apart (cond b texts (texts ++ text ∷ []))
    by true e = apart
    by false e = Apart-push texts text (not_there texts text e) apart

Apart-with_texts : (texts named : List (List ℕ)) → Apart texts → Apart (with_texts texts named)
Apart-with_texts texts [] apart = apart
Apart-with_texts texts (first ∷ named) apart = Apart-with_texts (with_text texts first) named (Apart-with_text texts first apart)

Apart-with_term : (numbers : Numbers) (named : NamedTerm) → Apart numbers.variables → Apart (with_term numbers named).variables
Apart-with_term numbers (variable_term letters) apart = Apart-with_text numbers.variables letters apart
Apart-with_term numbers (constant_term text) apart = apart

Apart-with_atoms : (numbers : Numbers) (named : List NamedAtom) → Apart numbers.variables → Apart (with_atoms numbers named).variables
Apart-with_atoms numbers [] apart = apart
Apart-with_atoms numbers (concept_atom concept given ∷ named) apart =
    let start : Numbers = record numbers { concepts = with_text numbers.concepts concept } in
    Apart-with_atoms (with_term start given) named (Apart-with_term start given apart)
Apart-with_atoms numbers (role_atom role from to ∷ named) apart =
    let start : Numbers = record numbers { roles = with_text numbers.roles role } in
    Apart-with_atoms (with_term (with_term start from) to) named (Apart-with_term (with_term start from) to (Apart-with_term start from apart))

-- so are the variables of a query
pub Apart-query : (vocab : Vocab) (query : NamedQuery) → Apart (with_query vocab query).variables
Apart-query vocab query = Apart-with_atoms _ query.body (Apart-with_texts [] query.head (λ i j text h k. cc h))
