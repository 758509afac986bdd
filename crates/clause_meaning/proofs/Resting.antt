-- The literals of a clause that aren't false, one literal at a time, and clauses that rest.
use Rattle.std.proofs.Common.{◌≡◌, ℕ, inl, inr, List, [], ◌∷◌, ◌++◌, length, take, get_or, ◌<◌, ◌+◌, Option, Some, None, Contains, sym, subst, ap, ◌∙◌}
use Rattle.std.proofs.lemmas.Bool.{cases_eq}
use Rattle.std.proofs.lemmas.List.{take_more}
use Rattle.std.proofs.lemmas.List.Elements.{Contains-append_left, Contains-push, Contains-push_cases}
use Rattle.clause_meaning.specs.Literals.{opposite_of}
use Rattle.clause_meaning.specs.Refutation.{Forces, IsFalseUnder}
use Rattle.clause_meaning.specs.Resting.{IsOnlyFree, HasTwoFree, RestsUntil, Rests}
use Rattle.clause_meaning.proofs.Chains.{Forces-more}

pub false_push : (K : ℕ → Type 0) (xs : List ℕ) (x : ℕ) → IsFalseUnder K xs → K (opposite_of x) → IsFalseUnder K (xs ++ x ∷ [])
false_push K xs x f h k m =
    elim (Contains-push_cases xs x k m) [ inl t ↦ f k t | inr e ↦ subst (λ (y : ℕ). K (opposite_of y)) e h ]

pub Forces-push : (K : ℕ → Type 0) (xs : List ℕ) (x l : ℕ) → Forces xs K l → K (opposite_of x) → Forces (xs ++ x ∷ []) K l
Forces-push K xs x l f h = record {
  member = Contains-append_left xs (x ∷ []) l f.member;
  others = λ k m n. elim (Contains-push_cases xs x k m) [ inl t ↦ f.others k t n | inr e ↦ subst (λ (y : ℕ). K (opposite_of y)) e h ];
}

-- a false literal changes nothing
IsOnlyFree-push : (K : ℕ → Type 0) (xs : List ℕ) (x : ℕ) (free : Option ℕ) → IsOnlyFree K xs free → K (opposite_of x)
    → IsOnlyFree K (xs ++ x ∷ []) free
IsOnlyFree-push K xs x None f h = false_push K xs x f h
IsOnlyFree-push K xs x (Some l) (f, n) h = (Forces-push K xs x l f h, n)

-- the first literal that isn't false, or the same again
IsOnlyFree-push_none : (K : ℕ → Type 0) (xs : List ℕ) (x : ℕ) → IsOnlyFree K xs None → (K (opposite_of x) → ⊥)
    → IsOnlyFree K (xs ++ x ∷ []) (Some x)
IsOnlyFree-push_none K xs x f n = (
  record {
    member = Contains-push xs x;
    others = λ k m d. elim (Contains-push_cases xs x k m) [ inl t ↦ f k t | inr e ↦ absurd (d (sym e)) ];
  },
  n,
)

IsOnlyFree-push_same : (K : ℕ → Type 0) (xs : List ℕ) (x : ℕ) → IsOnlyFree K xs (Some x) → IsOnlyFree K (xs ++ x ∷ []) (Some x)
IsOnlyFree-push_same K xs x (f, n) = (
  record {
    member = Contains-push xs x;
    others = λ k m d. elim (Contains-push_cases xs x k m) [ inl t ↦ f.others k t d | inr e ↦ absurd (d (sym e)) ];
  },
  n,
)

-- the same for the first i literals of a clause, and one more
pub IsOnlyFree-more_false : (K : ℕ → Type 0) (clause : List ℕ) (i : ℕ) (free : Option ℕ) → i < length clause → IsOnlyFree K (take i clause) free
    → K (opposite_of (get_or clause i 0)) → IsOnlyFree K (take (i + 1) clause) free
IsOnlyFree-more_false K clause i free h only m =
    subst (λ (xs : List ℕ). IsOnlyFree K xs free) (sym (take_more clause i 0 h)) (IsOnlyFree-push K (take i clause) (get_or clause i 0) free only m)

pub IsOnlyFree-more_none : (K : ℕ → Type 0) (clause : List ℕ) (i : ℕ) → i < length clause → IsOnlyFree K (take i clause) None
    → (K (opposite_of (get_or clause i 0)) → ⊥) → IsOnlyFree K (take (i + 1) clause) (Some (get_or clause i 0))
IsOnlyFree-more_none K clause i h only n =
    subst (λ (xs : List ℕ). IsOnlyFree K xs (Some (get_or clause i 0))) (sym (take_more clause i 0 h))
    (IsOnlyFree-push_none K (take i clause) (get_or clause i 0) only n)

pub IsOnlyFree-more_same : (K : ℕ → Type 0) (clause : List ℕ) (i x : ℕ) → i < length clause → x ≡ get_or clause i 0 → IsOnlyFree K (take i clause) (Some x)
    → IsOnlyFree K (take (i + 1) clause) (Some x)
IsOnlyFree-more_same K clause i x h e only =
    subst (λ (xs : List ℕ). IsOnlyFree K xs (Some x)) (ap (λ (y : ℕ). take i clause ++ y ∷ []) e ∙ sym (take_more clause i 0 h))
    (IsOnlyFree-push_same K (take i clause) x only)

-- a clause with two literals that aren't false rests
pub Rests-two_free : (K : ℕ → Type 0) (clause : List ℕ) → HasTwoFree K clause → Rests K clause
Rests-two_free K clause two = record {
  not_false = λ f. two.first_free (f two.first two.has_first);
  forced = λ l f. elim (cases_eq two.first l) [
    | inl e ↦ absurd (two.second_free (f.others two.second two.has_second (λ d. two.differ (e ∙ sym d))))
    | inr n ↦ absurd (two.first_free (f.others two.first two.has_first n))
  ];
}

-- a clause with a true literal that isn't false rests
pub Rests-true : (K : ℕ → Type 0) (clause : List ℕ) (l : ℕ) → Contains clause l → K l → (K (opposite_of l) → ⊥) → Rests K clause
Rests-true K clause l member true_one free = record {
  not_false = λ f. free (f l member);
  forced = λ k f. elim (cases_eq l k) [ inl e ↦ subst K e true_one | inr n ↦ absurd (free (f.others l member n)) ];
}

-- a clause rests once what it forces is among Later
pub RestsUntil-forced : (K Later : ℕ → Type 0) (clause : List ℕ) (l : ℕ) → Forces clause K l → (K (opposite_of l) → ⊥) → Later l → RestsUntil K Later clause
RestsUntil-forced K Later clause l f free later = record {
  not_false = λ g. free (g l f.member);
  forced = λ k g. elim (cases_eq l k) [ inl e ↦ subst Later e later | inr n ↦ absurd (free (g.others l f.member n)) ];
}

-- fewer literals are true, and more come later
pub RestsUntil-more : (K L M N : ℕ → Type 0) (clause : List ℕ) → ((k : ℕ) → L k → K k) → ((k : ℕ) → M k → N k) → RestsUntil K M clause → RestsUntil L N clause
RestsUntil-more K L M N clause less more rests = record {
  not_false = λ f. rests.not_false (λ k m. less (opposite_of k) (f k m));
  forced = λ l f. more l (rests.forced l (Forces-more clause L K l less f));
}
