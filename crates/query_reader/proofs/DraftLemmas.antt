-- How far the terms of a head have a meaning.
use Rattle.std.proofs.Common.{◌≡◌, ℕ, ◌+◌, ◌<◌, ◌^◌, List, [], ◌∷◌, ◌++◌, length, All, refl, sym, ap, ◌∙◌, arith, append_assoc, append-nil, length-append}
use Rattle.std.proofs.Common.{subst}
use Rattle.std.proofs.lemmas.List.Elements.{All-nil, All-push}
use Rattle.cq_terms.specs.Query.{IsMeant}
use Rattle.cq_terms.specs.declared.query.QAtom.{QAtom}
use Rattle.cq_terms.specs.declared.query.Term.{Term}
use Rattle.query_reader.specs.Steps.{IsFirstUnmeant}

-- the terms before the rest have a meaning
pub record IsMeantUpTo (body : List QAtom) (head rest : List Term) (place : ℕ) : Type 0 where
  pub before : List Term
  pub whole : head ≡ before ++ rest
  pub place_is : place ≡ length before
  pub all : All (IsMeant body) before

pub meant_none : (body : List QAtom) (head : List Term) → IsMeantUpTo body head head 0
meant_none body head = record { before = []; whole = refl; place_is = refl; all = All-nil (IsMeant body) }

pub meant_more : (body : List QAtom) (head rest : List Term) (place : ℕ) (term : Term) (later : List Term) → IsMeantUpTo body head rest place
    → rest ≡ term ∷ later → IsMeant body term → IsMeantUpTo body head later (place + 1)
meant_more body head rest place term later part split meant = record {
  before = part.before ++ term ∷ [];
  whole = part.whole ∙ ap (λ terms. part.before ++ terms) split ∙ sym (append_assoc part.before (term ∷ []) later);
  place_is = ap (λ n. n + 1) part.place_is ∙ sym (length-append part.before (term ∷ []));
  all = All-push (IsMeant body) part.before term part.all meant;
}

pub unmeant_at : (body : List QAtom) (head rest : List Term) (place : ℕ) (term : Term) (later : List Term) → IsMeantUpTo body head rest place
    → rest ≡ term ∷ later → (IsMeant body term → ⊥) → IsFirstUnmeant body head place
unmeant_at body head rest place term later part split unmeant = record {
  before = part.before;
  term = term;
  after = later;
  whole = part.whole ∙ ap (λ terms. part.before ++ terms) split;
  place_is = part.place_is;
  unmeant = unmeant;
  first = part.all;
}

pub meant_room : (body : List QAtom) (head rest : List Term) (place : ℕ) (term : Term) (later : List Term) → IsMeantUpTo body head rest place
    → rest ≡ term ∷ later → length head < 2 ^ 32 → place + 1 < 2 ^ 32
meant_room body head rest place term later part split fits =
    let size = ap length (part.whole ∙ ap (λ terms. part.before ++ terms) split) ∙ length-append part.before (term ∷ later) in
    omega (arith, part.place_is)

pub all_meant : (body : List QAtom) (head rest : List Term) (place : ℕ) → IsMeantUpTo body head rest place → length rest ≡ 0 → All (IsMeant body) head
all_meant body head rest place part none = subst (All (IsMeant body))
    (sym (part.whole ∙ ap (λ terms. part.before ++ terms) (no_terms rest none) ∙ append-nil part.before)) part.all
  where
    no_terms : (terms : List Term) → length terms ≡ 0 → terms ≡ []
    no_terms [] e = refl
    no_terms (first ∷ terms) e = absurd (omega arith)
