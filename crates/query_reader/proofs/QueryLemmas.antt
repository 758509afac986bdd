-- A query by numbers is the query over names.
use Rattle.std.proofs.Common.{◌≡◌, ◌≢◌, ◌⊎◌, inl, inr, ℕ, zero, suc, ◌<◌, ◌≤◌, List, [], ◌∷◌, ◌++◌, length, slice_get, Some, All, Any, refl, sym, ap, ◌∙◌}
use Rattle.std.proofs.Common.{arith, subst}
use Rattle.std.proofs.lemmas.List.Elements.{All-nil, All-cons, All-head, All-tail}
use Rattle.cq_terms.specs.Query.{IsMeant, StandsIn, Query}
use Rattle.cq_terms.specs.declared.names.Vocab.{Vocab}
use Rattle.cq_terms.specs.declared.query.Term.{Term}
use Rattle.cq_terms.specs.declared.query.Term.TheVariants as term
use Rattle.cq_terms.specs.declared.query.QAtom.{QAtom}
use Rattle.cq_terms.specs.declared.query.QAtom.TheVariants as atom
use Rattle.query_reader.specs.declared.draft.Draft.{Draft}
use Rattle.query_reader.specs.declared.head.Head.{Head}
use Rattle.query_reader.specs.declared.place.Place.TheVariants as at
use Rattle.query_reader.specs.declared.refusal.Halt.{Halt}
use Rattle.query_reader.specs.declared.refusal.Halt.TheVariants as halt
use Rattle.query_reader.specs.declared.refusal.QueryRefusal.{QueryRefusal}
use Rattle.query_reader.specs.declared.refusal.QueryRefusal.TheVariants as refusal
use Rattle.query_reader.specs.Grammar.{NamedTerm, variable_term, constant_term, NamedAtom, concept_atom, role_atom, NamedQuery}
use Rattle.query_reader.specs.Numbering.{Numbers, numbers_of, with_texts, with_atoms, with_query, IsTermOf, IsAtomOf, AreHeadOf, AreAtomsOf, KeepsNumbers}
use Rattle.query_reader.specs.Queries.{HasVariable, IsInBody, IsFirstOutside, IsQueryOf, Explains}
use Rattle.query_reader.specs.Steps.{IsHeadRead, IsBodyRead, IsDraft, IsRepeatOf, IsRefused, IsAccepted, IsHalt, IsWithin, IsRefusalOf}
use Rattle.query_reader.proofs.DistinctLemmas.{Apart, Apart-query}
use Rattle.query_reader.proofs.HeadLemmas.{AreHeadOf-kept}
use Rattle.query_reader.proofs.TextLemmas.{fault_within}

-- some element, at the front or later
Any-here : {X : Type 0} (P : X → Type 0) (x : X) (xs : List X) → P x → Any P (x ∷ xs)
Any-here P x xs h = (0, x, omega arith, refl, h)

Any-later : {X : Type 0} (P : X → Type 0) (x : X) (xs : List X) → Any P xs → Any P (x ∷ xs)
Any-later P x xs (k, y, lt, e, h) = (suc k, y, omega arith, e, h)

Any-cases : {X : Type 0} (P : X → Type 0) (x : X) (xs : List X) → Any P (x ∷ xs) → P x ⊎ Any P xs
Any-cases P x xs (zero, y, lt, e, h) = inl (subst P (sym e) h)
Any-cases P x xs (suc k, y, lt, e, h) = inr (k, y, omega arith, e, h)

Any-none : {X : Type 0} (P : X → Type 0) → Any P [] → ⊥
Any-none P (k, y, lt, e, h) = omega arith

-- as many atoms as over names
pub AreAtomsOf-length : (numbers : Numbers) (named : List NamedAtom) (atoms : List QAtom) → AreAtomsOf numbers named atoms → length named ≡ length atoms
AreAtomsOf-length numbers [] [] h = refl
AreAtomsOf-length numbers (first ∷ named) (given ∷ atoms) h = ap suc (AreAtomsOf-length numbers named atoms h.1)
AreAtomsOf-length numbers [] (given ∷ atoms) h = absurd h
AreAtomsOf-length numbers (first ∷ named) [] h = absurd h

module _ (numbers : Numbers) (letters : List ℕ) (number : ℕ) (is : slice_get numbers.variables number ≡ Some letters) where
  -- a term of the number is the variable
  term_to : (named : NamedTerm) (given : Term) → IsTermOf numbers named given → given ≡ term.Var number → named ≡ variable_term letters
  term_to (variable_term others) (term.Var n) h e =
      let same : n ≡ number = cc in
      let both : Some others ≡ Some letters = sym (subst (λ m. slice_get numbers.variables m ≡ Some others) same h) ∙ is in
      let texts : others ≡ letters = cc in
      ap variable_term texts
  term_to (constant_term text) (term.Ind n) h e = cc e
  term_to (variable_term others) (term.Ind n) h e = absurd h
  term_to (variable_term others) term.Any h e = absurd h
  term_to (constant_term text) (term.Var n) h e = absurd h
  term_to (constant_term text) term.Any h e = absurd h

  -- so is an atom's
  atom_to : (named : NamedAtom) (given : QAtom) → IsAtomOf numbers named given → StandsIn number given → HasVariable letters named
  atom_to (concept_atom concept one) (atom.Concept pred given) h s = term_to one given h.1 s
  atom_to (role_atom role from to) (atom.Link pred first second) h (inl s) = inl (term_to from first h.1 s)
  atom_to (role_atom role from to) (atom.Link pred first second) h (inr s) = inr (term_to to second h.2 s)
  atom_to (concept_atom concept one) (atom.Link pred first second) h s = absurd h
  atom_to (role_atom role from to) (atom.Concept pred given) h s = absurd h

  body_to : (named : List NamedAtom) (atoms : List QAtom) → AreAtomsOf numbers named atoms → Any (StandsIn number) atoms → IsInBody named letters
  body_to [] [] h some = absurd (Any-none (StandsIn number) some)
  body_to (first ∷ named) (given ∷ atoms) h some = by (body_to named atoms h.1) (Any-cases (StandsIn number) given atoms some)
    where
      by : (Any (StandsIn number) atoms → IsInBody named letters) → StandsIn number given ⊎ Any (StandsIn number) atoms → IsInBody (first ∷ named) letters
      by ih (inl s) = Any-here (HasVariable letters) first named (atom_to first given h.0 s)
      by ih (inr s) = Any-later (HasVariable letters) first named (ih s)
  body_to [] (given ∷ atoms) h some = absurd h
  body_to (first ∷ named) [] h some = absurd h

  module _ (apart : Apart numbers.variables) where
    -- the variable has the number
    term_from : (named : NamedTerm) (given : Term) → IsTermOf numbers named given → named ≡ variable_term letters → given ≡ term.Var number
    term_from (variable_term others) (term.Var n) h e =
        let texts : others ≡ letters = cc in
        ap term.Var (apart n number letters (h ∙ ap Some texts) is)
    term_from (constant_term text) (term.Ind n) h e = cc e
    term_from (variable_term others) (term.Ind n) h e = absurd h
    term_from (variable_term others) term.Any h e = absurd h
    term_from (constant_term text) (term.Var n) h e = absurd h
    term_from (constant_term text) term.Any h e = absurd h

    atom_from : (named : NamedAtom) (given : QAtom) → IsAtomOf numbers named given → HasVariable letters named → StandsIn number given
    atom_from (concept_atom concept one) (atom.Concept pred given) h s = term_from one given h.1 s
    atom_from (role_atom role from to) (atom.Link pred first second) h (inl s) = inl (term_from from first h.1 s)
    atom_from (role_atom role from to) (atom.Link pred first second) h (inr s) = inr (term_from to second h.2 s)
    atom_from (concept_atom concept one) (atom.Link pred first second) h s = absurd h
    atom_from (role_atom role from to) (atom.Concept pred given) h s = absurd h

    body_from : (named : List NamedAtom) (atoms : List QAtom) → AreAtomsOf numbers named atoms → IsInBody named letters → Any (StandsIn number) atoms
    body_from [] [] h some = absurd (Any-none (HasVariable letters) some)
    body_from (first ∷ named) (given ∷ atoms) h some = by (body_from named atoms h.1) (Any-cases (HasVariable letters) first named some)
      where
        by : (IsInBody named letters → Any (StandsIn number) atoms) → HasVariable letters first ⊎ IsInBody named letters → Any (StandsIn number) (given ∷ atoms)
        by ih (inl s) = Any-here (StandsIn number) given atoms (atom_from first given h.0 s)
        by ih (inr s) = Any-later (StandsIn number) given atoms (ih s)
    body_from [] (given ∷ atoms) h some = absurd h
    body_from (first ∷ named) [] h some = absurd h

module _ (numbers : Numbers) (body : List NamedAtom) (atoms : List QAtom) (are : AreAtomsOf numbers body atoms) where
  -- a head whose terms have a meaning is inside the body
  head_inside : (head : List (List ℕ)) (terms : List Term) → AreHeadOf numbers.variables head terms → All (IsMeant atoms) terms → All (IsInBody body) head
  head_inside [] [] h all = All-nil (IsInBody body)
  head_inside (letters ∷ head) (term.Var number ∷ terms) h all =
      All-cons (IsInBody body) letters head (body_to numbers letters number h.0 body atoms are (All-head (IsMeant atoms) (term.Var number) terms all))
      (head_inside head terms h.1 (All-tail (IsMeant atoms) (term.Var number) terms all))
  head_inside [] (given ∷ terms) h all = absurd h
  head_inside (letters ∷ head) [] h all = absurd h
  head_inside (letters ∷ head) (term.Ind number ∷ terms) h all = absurd h
  head_inside (letters ∷ head) (term.Any ∷ terms) h all = absurd h

  -- the variable of a place without a meaning isn't in the body
  outside_at : Apart numbers.variables → (head : List (List ℕ)) (before : List Term) (given : Term) (after : List Term)
      → AreHeadOf numbers.variables head (before ++ given ∷ after) → (IsMeant atoms given → ⊥) → All (IsMeant atoms) before
      → IsFirstOutside (record { head = head; body = body }) (length before)
  outside_at apart [] [] given after h unmeant all = absurd h
  outside_at apart (letters ∷ head) [] (term.Var number) after h unmeant all = record {
    before = [];
    letters = letters;
    after = head;
    whole = refl;
    place_is = refl;
    outside = λ some. unmeant (body_from numbers letters number h.0 apart body atoms are some);
    first = All-nil (IsInBody body);
  }
  outside_at apart (letters ∷ head) [] (term.Ind number) after h unmeant all = absurd h
  outside_at apart (letters ∷ head) [] term.Any after h unmeant all = absurd h
  outside_at apart [] (first ∷ before) given after h unmeant all = absurd h
  outside_at apart (letters ∷ head) (term.Var number ∷ before) given after h unmeant all =
      let more = outside_at apart head before given after h.1 unmeant (All-tail (IsMeant atoms) (term.Var number) before all) in
      record {
        before = letters ∷ more.before;
        letters = more.letters;
        after = more.after;
        whole = ap (λ texts. letters ∷ texts) more.whole;
        place_is = ap suc more.place_is;
        outside = more.outside;
        first = All-cons (IsInBody body) letters more.before (body_to numbers letters number h.0 body atoms are
            (All-head (IsMeant atoms) (term.Var number) before all)) more.first;
      }
  outside_at apart (letters ∷ head) (term.Ind number ∷ before) given after h unmeant all = absurd h
  outside_at apart (letters ∷ head) (term.Any ∷ before) given after h unmeant all = absurd h

-- a head and a body make a text
pub draft_is : (text rest : List ℕ) (old new : Vocab) (variables all : List (List ℕ)) (head : Head) (draft : Draft) → IsHeadRead text variables head rest
    → IsBodyRead rest (numbers_of variables old) (numbers_of all new) draft.body.items → KeepsNumbers (numbers_of variables old) (numbers_of all new)
    → draft.head.items ≡ head.terms.items → draft.repeated ≡ head.repeated → IsDraft text old new draft
draft_is text rest old new variables all head draft h b kept terms repeated =
    let query : NamedQuery = record { head = h.named; body = b.named } in
    let start : numbers_of variables old ≡ numbers_of (with_texts [] h.named) old = ap (λ texts. numbers_of texts old) h.variables_are in
    let whole : numbers_of all new ≡ with_query old query = b.names ∙ ap (λ numbers. with_atoms numbers b.named) start in
    let same : all ≡ (with_query old query).variables = ap (λ (numbers : Numbers). numbers.variables) whole in
    record {
      query = query;
      text_is = record { rest = b.rest; reads = h.reads _ b.rest b.reads; ends = b.ends; body = b.some };
      repeats = subst (IsRepeatOf h.named) (sym repeated) h.repeats;
      names = ap (λ texts. numbers_of texts new) (sym same) ∙ whole;
      head = subst (λ texts. AreHeadOf texts h.named draft.head.items) same
          (subst (AreHeadOf all h.named) (sym terms) (AreHeadOf-kept variables all h.named head.terms.items kept.variables h.terms));
      body = subst (λ numbers. AreAtomsOf numbers b.named draft.body.items) whole b.meaning;
      counted = subst (λ items. length items ≤ length text) (sym terms) h.counted;
    }

-- the body of a draft isn't empty
pub draft_some : (text : List ℕ) (old new : Vocab) (draft : Draft) → IsDraft text old new draft → 0 < length draft.body.items
draft_some text old new draft d = by d.query.body d.text_is.body (AreAtomsOf-length (with_query old d.query) d.query.body draft.body.items d.body)
  where
    by : (named : List NamedAtom) → named ≢ [] → length named ≡ length draft.body.items → 0 < length draft.body.items
    by [] some size = absurd (some refl)
    by (first ∷ named) some size = omega arith

-- an accepted draft is the query of the text
pub query_is : (text : List ℕ) (old new : Vocab) (draft : Draft) (given : Query) → IsDraft text old new draft → IsAccepted draft
    → given ≡ record { head = draft.head.items; body = draft.body.items } → IsQueryOf text old new given
query_is text old new draft given d accepted same = subst (IsQueryOf text old new) (sym same) (record {
  query = d.query;
  text = record {
    text = d.text_is;
    few = let few = accepted.few in
        omega (arith, AreAtomsOf-length (with_query old d.query) d.query.body draft.body.items d.body);
  };
  distinct = subst (IsRepeatOf d.query.head) accepted.distinct d.repeats;
  inside = head_inside (with_query old d.query) d.query.body draft.body.items d.body d.query.head draft.head.items d.head accepted.meant;
  concepts = ap (λ (numbers : Numbers). numbers.concepts) d.names;
  roles = ap (λ (numbers : Numbers). numbers.roles) d.names;
  inds = ap (λ (numbers : Numbers). numbers.inds) d.names;
  head = d.head;
  body = d.body;
})

-- a refused draft is a text of the grammar with what the refusal says
pub draft_refused : (text : List ℕ) (old new : Vocab) (draft : Draft) (given : QueryRefusal) → IsDraft text old new draft → IsRefused draft given
    → Explains text given
draft_refused text old new draft refusal.TooManyAtoms d h = (
  d.query,
  d.text_is,
  omega (arith, AreAtomsOf-length (with_query old d.query) d.query.body draft.body.items d.body),
)
draft_refused text old new draft (refusal.RepeatedHead place) d h = (
  d.query,
  record { text = d.text_is; few = omega (arith, AreAtomsOf-length (with_query old d.query) d.query.body draft.body.items d.body) },
  subst (IsRepeatOf d.query.head) h.1 d.repeats,
)
draft_refused text old new draft (refusal.HeadNotInBody place) d h =
    let split = h.2 in
    let out = outside_at (with_query old d.query) d.query.body draft.body.items d.body (Apart-query old d.query) d.query.head split.before split.term
    split.after (subst (AreHeadOf (with_query old d.query).variables d.query.head) split.whole d.head) split.unmeant split.first in (
      d.query,
      record { text = d.text_is; few = omega (arith, AreAtomsOf-length (with_query old d.query) d.query.body draft.body.items d.body) },
      subst (IsRepeatOf d.query.head) h.1 d.repeats,
      subst (IsFirstOutside d.query) (sym split.place_is) out,
    )
draft_refused text old new draft (refusal.BadToken byte) d h = absurd h
draft_refused text old new draft refusal.NoMemory d h = absurd h

-- a halt explains its refusal
pub halt_explains : (text : List ℕ) (given : Halt) (answer : QueryRefusal) → IsHalt at.Head text given → IsRefusalOf given (length text) answer
    → Explains text answer
halt_explains text (halt.Fault fault) (refusal.BadToken byte) h r = record { left = fault.left; fault = h; place = r }
halt_explains text halt.NoMemory refusal.NoMemory h r = tt
halt_explains text (halt.Fault fault) refusal.TooManyAtoms h r = absurd r
halt_explains text (halt.Fault fault) (refusal.RepeatedHead place) h r = absurd r
halt_explains text (halt.Fault fault) (refusal.HeadNotInBody place) h r = absurd r
halt_explains text (halt.Fault fault) refusal.NoMemory h r = absurd r
halt_explains text halt.NoMemory (refusal.BadToken byte) h r = absurd r
halt_explains text halt.NoMemory refusal.TooManyAtoms h r = absurd r
halt_explains text halt.NoMemory (refusal.RepeatedHead place) h r = absurd r
halt_explains text halt.NoMemory (refusal.HeadNotInBody place) h r = absurd r

-- a halt is within the text
pub halt_within : (text : List ℕ) (given : Halt) → IsHalt at.Head text given → IsWithin given (length text)
halt_within text (halt.Fault fault) h = fault_within at.Head text fault.left h
halt_within text halt.NoMemory h = tt
