-- Texts that grow at their end, and the axioms over them.
use Rattle.std.proofs.Common.{◌≡◌, ℕ, ◌+◌, ◌<◌, Bool, true, false, List, [], ◌∷◌, ◌++◌, length, slice_get, Some, None, position, not, ltb, refl, sym, ap, ap₂}
use Rattle.std.proofs.Common.{◌∙◌, zero, suc, arith, append-nil, append_assoc, length-append, cond}
use Rattle.std.specs.List.{list_any, flat_map, position_or_len}
use Rattle.std.specs.Str.{bytes_eq}
use Rattle.std.proofs.lemmas.Bool.Decides.{Decides-ltb}
use Rattle.std.proofs.lemmas.List.Folds.{list_any-append}
use Rattle.std.proofs.lemmas.Slice.Eq.{bytes_eq-Decides}
use Rattle.cq_terms.specs.Names.{with_text, place_of}
use Rattle.cq_terms.specs.declared.axioms.Axiom.{Axiom}
use Rattle.cq_terms.specs.declared.axioms.Basic.{Basic}
use Rattle.cq_terms.specs.declared.axioms.Role.{Role}
use Rattle.cq_terms.specs.declared.names.Vocab.{Vocab}
use Rattle.axiom_reader.specs.Axioms.{NamedRole, NamedBasic, NamedAxiom, concept, has, concepts, roles}
use Rattle.axiom_reader.specs.Meaning.{IsRoleOf, IsBasicOf, IsAxiomOf, AreAxiomsOf}
use Rattle.axiom_reader.specs.Numbering.{IsPrefix, Keeps, with_texts, with_names, with_axioms, axiom_concepts, axiom_roles}
use Rattle.axiom_reader.proofs.TestLemmas.{neither}

-- a list is a prefix of itself
pub IsPrefix-refl : (texts : List (List ℕ)) → IsPrefix texts texts
IsPrefix-refl texts = ([], sym (append-nil texts))

-- a prefix of a prefix
pub IsPrefix-trans : (old mid new : List (List ℕ)) → IsPrefix old mid → IsPrefix mid new → IsPrefix old new
IsPrefix-trans old mid new (more, e) (rest, f) = (more ++ rest, f ∙ ap (λ texts. texts ++ rest) e ∙ append_assoc old more rest)

-- a put keeps what was there
pub IsPrefix-with_text : (texts : List (List ℕ)) (text : List ℕ) → IsPrefix texts (with_text texts text)
IsPrefix-with_text texts text = by (list_any (bytes_eq text) texts)
  where
    by : (b : Bool) → IsPrefix texts (cond b texts (texts ++ text ∷ []))
    by true = IsPrefix-refl texts
    by false = (text ∷ [], refl)

-- so do several
pub IsPrefix-with_texts : (texts more : List (List ℕ)) → IsPrefix texts (with_texts texts more)
IsPrefix-with_texts texts [] = IsPrefix-refl texts
IsPrefix-with_texts texts (text ∷ more) = IsPrefix-trans texts (with_text texts text) _ (IsPrefix-with_text texts text)
    (IsPrefix-with_texts (with_text texts text) more)

-- texts that are put, and then more
pub with_texts-append : (texts first more : List (List ℕ)) → with_texts texts (first ++ more) ≡ with_texts (with_texts texts first) more
with_texts-append texts [] more = refl
with_texts-append texts (text ∷ first) more = with_texts-append (with_text texts text) first more

-- what is kept twice is kept
pub Keeps-trans : (old mid new : Vocab) → Keeps old mid → Keeps mid new → Keeps old new
Keeps-trans old mid new h k = record {
  concepts = IsPrefix-trans old.concepts mid.concepts new.concepts h.concepts k.concepts;
  roles = IsPrefix-trans old.roles mid.roles new.roles h.roles k.roles;
}

-- the names that were there stay
pub Keeps-with_names : (vocab : Vocab) (concept_names role_names : List (List ℕ)) → Keeps vocab (with_names vocab concept_names role_names)
Keeps-with_names vocab concept_names role_names = record {
  concepts = IsPrefix-with_texts vocab.concepts concept_names;
  roles = IsPrefix-with_texts vocab.roles role_names;
}

-- the lists of all axioms and one more
flat_map-push : (f : NamedAxiom → List (List ℕ)) (axioms : List NamedAxiom) (named : NamedAxiom)
    → flat_map f (axioms ++ named ∷ []) ≡ flat_map f axioms ++ f named
flat_map-push f [] named = append-nil (f named)
flat_map-push f (first ∷ axioms) named = ap (λ rest. f first ++ rest) (flat_map-push f axioms named)
    ∙ sym (append_assoc (f first) (flat_map f axioms) (f named))

-- the names of all axioms and one more
pub with_axioms-push : (vocab : Vocab) (axioms : List NamedAxiom) (named : NamedAxiom)
    → with_axioms vocab (axioms ++ named ∷ []) ≡ with_names (with_axioms vocab axioms) (axiom_concepts named) (axiom_roles named)
with_axioms-push vocab axioms named =
    ap₂ (λ (c : List (List ℕ)) (r : List (List ℕ)). record vocab { concepts = c; roles = r })
    (ap (with_texts vocab.concepts) (flat_map-push axiom_concepts axioms named)
    ∙ with_texts-append vocab.concepts (flat_map axiom_concepts axioms) (axiom_concepts named))
    (ap (with_texts vocab.roles) (flat_map-push axiom_roles axioms named) ∙ with_texts-append vocab.roles (flat_map axiom_roles axioms) (axiom_roles named))

-- a text keeps its place before more texts
slice_get-append : (texts more : List (List ℕ)) (i : ℕ) (text : List ℕ) → slice_get texts i ≡ Some text
    → slice_get (texts ++ more) i ≡ Some text
slice_get-append [] more i text e = cc
slice_get-append (first ∷ texts) more zero text e = e
slice_get-append (first ∷ texts) more (suc i) text e = slice_get-append texts more i text e

-- a text keeps its place
pub slice_get-prefix : (old new : List (List ℕ)) (i : ℕ) (text : List ℕ) → IsPrefix old new → slice_get old i ≡ Some text
    → slice_get new i ≡ Some text
slice_get-prefix old new i text (more, e) at = rw e (slice_get-append old more i text at)

-- a role keeps its meaning
pub IsRoleOf-keeps : (old new : Vocab) (named : NamedRole) (given : Role) → Keeps old new → IsRoleOf old named given
    → IsRoleOf new named given
IsRoleOf-keeps old new named given kept h = record {
  number = slice_get-prefix old.roles new.roles given.pred named.name kept.roles h.number;
  inverse = h.inverse;
}

-- so does a basic concept
pub IsBasicOf-keeps : (old new : Vocab) (named : NamedBasic) (given : Basic) → Keeps old new → IsBasicOf old named given
    → IsBasicOf new named given
IsBasicOf-keeps old new (concept name) given kept h = (h.0, slice_get-prefix old.concepts new.concepts h.0 name kept.concepts h.1, h.2)
IsBasicOf-keeps old new (has role) given kept h = (h.0, IsRoleOf-keeps old new role h.0 kept h.1, h.2)

-- so does an axiom
pub IsAxiomOf-keeps : (old new : Vocab) (named : NamedAxiom) (given : Axiom) → Keeps old new → IsAxiomOf old named given
    → IsAxiomOf new named given
IsAxiomOf-keeps old new (concepts left negated right) given kept h =
    (h.0, h.1, IsBasicOf-keeps old new left h.0 kept h.2, IsBasicOf-keeps old new right h.1 kept h.3, h.4)
IsAxiomOf-keeps old new (roles left negated right) given kept h =
    (h.0, h.1, IsRoleOf-keeps old new left h.0 kept h.2, IsRoleOf-keeps old new right h.1 kept h.3, h.4)

-- so do all of a list
pub AreAxiomsOf-keeps : (old new : Vocab) (names : List NamedAxiom) (axioms : List Axiom) → Keeps old new → AreAxiomsOf old names axioms
    → AreAxiomsOf new names axioms
AreAxiomsOf-keeps old new [] [] kept h = tt
AreAxiomsOf-keeps old new (named ∷ names) (given ∷ axioms) kept h =
    (IsAxiomOf-keeps old new named given kept h.0, AreAxiomsOf-keeps old new names axioms kept h.1)
AreAxiomsOf-keeps old new [] (given ∷ axioms) kept h = absurd h
AreAxiomsOf-keeps old new (named ∷ names) [] kept h = absurd h

-- one more of both
pub AreAxiomsOf-push : (vocab : Vocab) (names : List NamedAxiom) (axioms : List Axiom) (named : NamedAxiom) (given : Axiom)
    → AreAxiomsOf vocab names axioms → IsAxiomOf vocab named given → AreAxiomsOf vocab (names ++ named ∷ []) (axioms ++ given ∷ [])
AreAxiomsOf-push vocab [] [] named given h last = (last, tt)
AreAxiomsOf-push vocab (first ∷ names) (one ∷ axioms) named given h last = (h.0, AreAxiomsOf-push vocab names axioms named given h.1 last)
AreAxiomsOf-push vocab [] (one ∷ axioms) named given h last = absurd h
AreAxiomsOf-push vocab (first ∷ names) [] named given h last = absurd h

-- there are as many axioms as named ones
pub AreAxiomsOf-length : (vocab : Vocab) (names : List NamedAxiom) (axioms : List Axiom) → AreAxiomsOf vocab names axioms
    → length names ≡ length axioms
AreAxiomsOf-length vocab [] [] h = refl
AreAxiomsOf-length vocab (first ∷ names) (one ∷ axioms) h = ap suc (AreAxiomsOf-length vocab names axioms h.1)
AreAxiomsOf-length vocab [] (one ∷ axioms) h = absurd h
AreAxiomsOf-length vocab (first ∷ names) [] h = absurd h

-- a name that stands in neither list isn't there after one was put after the other
absent : (p : List ℕ → Bool) (texts before : List (List ℕ)) → list_any p (texts ++ before) ≡ false
    → list_any p (with_texts texts before) ≡ false
absent p texts [] h = rw append-nil at h
absent p texts (text ∷ before) h = absent p (with_text texts text) before (by (list_any (bytes_eq text) texts))
  where
    by : (b : Bool) → list_any p (cond b texts (texts ++ text ∷ []) ++ before) ≡ false
    by true =
        let parts = neither (list_any p texts) (list_any p (text ∷ before)) (sym (list_any-append p texts (text ∷ before)) ∙ h) in
        let rest = neither (p text) (list_any p before) parts.1 in
        list_any-append p texts before ∙ rw (parts.0, rest.1) refl
    by false = rw (append_assoc texts (text ∷ []) before) h

-- the first that passes stands after those that don't
first_passes : (p : List ℕ → Bool) (texts : List (List ℕ)) (text : List ℕ) (more : List (List ℕ)) → list_any p texts ≡ false
    → p text ≡ true → position_or_len p (texts ++ text ∷ more) ≡ length texts
first_passes p [] text more none e = rw e refl
first_passes p (first ∷ texts) text more none e =
    let parts = neither (p first) (list_any p texts) none in
    rw (parts.0, first_passes p texts text more parts.1 e) (omega arith)

-- so its place is found
place_found : (p : List ℕ → Bool) (texts : List (List ℕ)) (text : List ℕ) (more : List (List ℕ)) → list_any p texts ≡ false
    → p text ≡ true → position p (texts ++ text ∷ more) ≡ Some (length texts)
place_found p texts text more none e =
    let at = first_passes p texts text more none e in
    let lt : length texts < length (texts ++ text ∷ more) = omega (arith, length-append texts (text ∷ more)) in
    let yes : ltb (length texts) (length (texts ++ text ∷ more)) ≡ true = (Decides-ltb _ _).1 lt in
    rw (at, yes) refl

-- a new name gets the next number
pub next_number : (texts before after : List (List ℕ)) (name : List ℕ) → list_any (bytes_eq name) (texts ++ before) ≡ false
    → place_of (with_texts texts (before ++ name ∷ after)) name ≡ Some (length (with_texts texts before))
next_number texts before after name none =
    let front = with_texts texts before in
    let new : list_any (bytes_eq name) front ≡ false = absent (bytes_eq name) texts before none in
    let put : with_text front name ≡ front ++ name ∷ [] = rw new refl in
    let more = IsPrefix-with_texts (with_text front name) after in
    let all : with_texts texts (before ++ name ∷ after) ≡ front ++ name ∷ more.0 =
    with_texts-append texts before (name ∷ after) ∙ more.1 ∙ ap (λ texts. texts ++ more.0) put ∙ append_assoc front (name ∷ []) more.0 in
    rw all (place_found (bytes_eq name) front name more.0 new ((bytes_eq-Decides name name).1 refl))

-- one more text before what is found
stay_step : (b : Bool) (found more texts : ℕ) → cond (not b) (1 + found) 0 < suc texts → (found < texts → more ≡ found)
    → cond (not b) (1 + more) 0 ≡ cond (not b) (1 + found) 0
stay_step true found more texts lt rest = refl
stay_step false found more texts lt rest = ap (λ n. 1 + n) (rest (omega arith))

-- what is found stays where it is before more texts
first_stays : (p : List ℕ → Bool) (texts more : List (List ℕ)) → position_or_len p texts < length texts
    → position_or_len p (texts ++ more) ≡ position_or_len p texts
first_stays p [] more lt = absurd (omega arith)
first_stays p (first ∷ texts) more lt = stay_step (p first) (position_or_len p texts) (position_or_len p (texts ++ more)) (length texts) lt
    (first_stays p texts more)

-- so its place is found there
place_stays : (p : List ℕ → Bool) (texts more : List (List ℕ)) (number : ℕ) → position p texts ≡ Some number
    → position p (texts ++ more) ≡ Some number
place_stays p texts more number e = by (ltb (position_or_len p texts) (length texts)) refl e
  where
    by : (b : Bool) → ltb (position_or_len p texts) (length texts) ≡ b → cond b (Some (position_or_len p texts)) None ≡ Some number
        → position p (texts ++ more) ≡ Some number
    by true t s =
        let lt : position_or_len p texts < length texts = (Decides-ltb _ _).0 t in
        let longer : position_or_len p texts < length (texts ++ more) = omega (arith, length-append texts more) in
        let yes : ltb (position_or_len p texts) (length (texts ++ more)) ≡ true = (Decides-ltb _ _).1 longer in
        rw (first_stays p texts more lt, yes) s
    by false t s = cc

-- a name keeps its number
pub keeps_number : (texts more : List (List ℕ)) (name : List ℕ) (number : ℕ) → place_of texts name ≡ Some number
    → place_of (with_texts texts more) name ≡ Some number
keeps_number texts more name number e =
    let rest = IsPrefix-with_texts texts more in
    rw rest.1 (place_stays (bytes_eq name) texts rest.0 number e)
