-- Marks that grow by what the live clauses force, and clauses that rest.
use Rattle.std.proofs.Common.{◌≡◌, ℕ, ◌<◌, ◌+◌, ◌⊎◌, inl, inr, ◌↔◌, List, [], ◌∷◌, ◌++◌, length, take, get_or, Contains, Option, append_assoc, sym, subst, ap}
use Rattle.std.proofs.Common.{◌∙◌, rules}
use Rattle.std.proofs.lemmas.List.Elements.{Contains-append_left, Contains-push, Contains-push_cases}
use Rattle.clause_meaning.specs.Literals.{opposite_of}
use Rattle.clause_meaning.specs.Refutation.{Forces, IsFalseUnder, Refutes, Reaches}
use Rattle.clause_meaning.specs.Resting.{RestsUntil, Rests}
use Rattle.clause_meaning.proofs.Members.{Contains-nil, Contains-take_more_cases}
use Rattle.clause_meaning.proofs.LiteralLaws.{opposite_of-opposite_of, opposite_of-ne}
use Rattle.clause_meaning.proofs.Chains.{Reaches-given, Reaches-forced, Reaches-more, Reaches-again, Refutes-from_clash, Refutes-from_reached, Forces-more}
use Rattle.clause_meaning.proofs.Resting.{RestsUntil-more, RestsUntil-forced}
use Rattle.rup_check.specs.Slots.{IsAt, HeldIn}
use Rattle.rup_check.specs.Marks.{IsMarked, AreConsistent}
use Rattle.rup_check.specs.Steps.{GrowsBy, RestAmong}

pub consistent_push : (marked : List ℕ) (l : ℕ) → AreConsistent marked → (IsMarked marked (opposite_of l) → ⊥) → AreConsistent (marked ++ l ∷ [])
consistent_push marked l consistent free k p q =
    elim (Contains-push_cases marked l k p) [
      | inl m ↦ elim (Contains-push_cases marked l (opposite_of k) q) [
        | inl n ↦ consistent k m n
        | inr d ↦ free (subst (IsMarked marked) (sym (opposite_of-opposite_of k) ∙ ap opposite_of (sym d)) m)
      ]
      | inr e ↦ elim (Contains-push_cases marked l (opposite_of k) q) [
        | inl m ↦ free (subst (λ (y : ℕ). IsMarked marked (opposite_of y)) (sym e) m)
        | inr d ↦ opposite_of-ne k (sym d ∙ e)
      ]
    ]

-- one more literal, which may have been marked
pub consistent_once : (old new : List ℕ) (l : ℕ) → AreConsistent old → (IsMarked old (opposite_of l) → ⊥)
    → ((k : ℕ) → IsMarked new k ↔ (IsMarked old k ⊎ (k ≡ l))) → AreConsistent new
consistent_once old new l consistent free once k p q =
    consistent_push old l consistent free k (with_last k ((once k).0 p)) (with_last (opposite_of k) ((once (opposite_of k)).0 q))
  where
    with_last : (j : ℕ) → IsMarked old j ⊎ (j ≡ l) → IsMarked (old ++ l ∷ []) j
    with_last j (inl m) = Contains-append_left old (l ∷ []) j m
    with_last j (inr e) = subst (IsMarked (old ++ l ∷ [])) (sym e) (Contains-push old l)

pub GrowsBy-same : (slots : List (Option (List ℕ))) (marked : List ℕ) → AreConsistent marked → GrowsBy slots marked marked
GrowsBy-same slots marked consistent = record {
  more = ([], search rules);
  reached = λ l m. Reaches-given (HeldIn slots) (IsMarked marked) l m;
  consistent = consistent;
}

-- one more literal, which a clause forces
pub GrowsBy-push : (slots : List (Option (List ℕ))) (old new : List ℕ) (c : List ℕ) (l : ℕ) → GrowsBy slots old new → HeldIn slots c
    → Forces c (IsMarked new) l → (IsMarked new (opposite_of l) → ⊥) → GrowsBy slots old (new ++ l ∷ [])
GrowsBy-push slots old new c l grown s f free = record {
  more = (grown.more.0 ++ l ∷ [], ap (λ (ls : List ℕ). ls ++ l ∷ []) grown.more.1 ∙ append_assoc old grown.more.0 (l ∷ []));
  reached = λ k m. elim (Contains-push_cases new l k m) [
    | inl n ↦ grown.reached k n
    | inr e ↦ subst (Reaches (HeldIn slots) (IsMarked old)) e (Reaches-forced (HeldIn slots) (IsMarked old) c l s
        (Forces-more c (IsMarked new) (Reaches (HeldIn slots) (IsMarked old)) l grown.reached f))
  ];
  consistent = consistent_push new l grown.consistent free;
}

pub GrowsBy-trans : (slots : List (Option (List ℕ))) (old new newer : List ℕ) → GrowsBy slots old new → GrowsBy slots new newer → GrowsBy slots old newer
GrowsBy-trans slots old new newer g h = record {
  more = (g.more.0 ++ h.more.0, h.more.1 ∙ (ap (λ (ls : List ℕ). ls ++ h.more.0) g.more.1 ∙ append_assoc old g.more.0 h.more.0));
  reached = λ l m. Reaches-again (HeldIn slots) (IsMarked old) l
      (Reaches-more (HeldIn slots) (HeldIn slots) (IsMarked new) (Reaches (HeldIn slots) (IsMarked old)) (λ c s. s) g.reached l (h.reached l m));
  consistent = h.consistent;
}

pub GrowsBy-stays : (slots : List (Option (List ℕ))) (old new : List ℕ) (l : ℕ) → GrowsBy slots old new → IsMarked old l → IsMarked new l
GrowsBy-stays slots old new l grown m = subst (λ (ls : List ℕ). Contains ls l) (sym grown.more.1) (Contains-append_left old grown.more.0 l m)

-- a false clause, of marks that only grew
pub refuted_by_false : (slots : List (Option (List ℕ))) (old new : List ℕ) (c : List ℕ) → GrowsBy slots old new → HeldIn slots c
    → IsFalseUnder (IsMarked new) c → Refutes (HeldIn slots) (IsMarked old)
refuted_by_false slots old new c grown s f = Refutes-from_clash (HeldIn slots) (IsMarked old) (inl (c, s, λ k m. grown.reached (opposite_of k) (f k m)))

pub refuted_later : (slots : List (Option (List ℕ))) (old new : List ℕ) → GrowsBy slots old new → Refutes (HeldIn slots) (IsMarked new)
    → Refutes (HeldIn slots) (IsMarked old)
refuted_later slots old new grown r = Refutes-from_reached (HeldIn slots) (IsMarked old) (IsMarked new) grown.reached r

-- what a look over the first i numbers keeps
pub record LooksHold (slots : List (Option (List ℕ))) (numbers old new : List ℕ) (i : ℕ) : Type 0 where
  pub grown : GrowsBy slots old new
  pub rest : RestAmong slots (take i numbers) old new

pub LooksHold-start : (slots : List (Option (List ℕ))) (numbers old : List ℕ) → AreConsistent old → LooksHold slots numbers old old 0
LooksHold-start slots numbers old consistent = record {
  grown = GrowsBy-same slots old consistent;
  rest = λ n c m e. absurd (Contains-nil n m);
}

rest_more : (slots : List (Option (List ℕ))) (numbers old new newer : List ℕ) (i : ℕ) → i < length numbers → RestAmong slots (take i numbers) old new
    → ((k : ℕ) → IsMarked new k → IsMarked newer k) → ((c : List ℕ) → IsAt slots (get_or numbers i 0) c → RestsUntil (IsMarked old) (IsMarked newer) c)
    → RestAmong slots (take (i + 1) numbers) old newer
rest_more slots numbers old new newer i h rest more here n c m e =
    elim (Contains-take_more_cases numbers i 0 n h m) [
      | inl t ↦ RestsUntil-more (IsMarked old) (IsMarked old) (IsMarked new) (IsMarked newer) c (λ k p. p) more (rest n c t e)
      | inr s ↦ here c (subst (λ (j : ℕ). IsAt slots j c) (sym s) e)
    ]

-- no clause has the number
pub LooksHold-none : (slots : List (Option (List ℕ))) (numbers old new : List ℕ) (i : ℕ) → i < length numbers → LooksHold slots numbers old new i
    → ((c : List ℕ) → IsAt slots (get_or numbers i 0) c → ⊥) → LooksHold slots numbers old new (i + 1)
LooksHold-none slots numbers old new i h holds none = record {
  grown = holds.grown;
  rest = rest_more slots numbers old new new i h holds.rest (λ k m. m) (λ c e. absurd (none c e));
}

-- the clause of the number forces one more literal
pub LooksHold-forces : (slots : List (Option (List ℕ))) (numbers old new : List ℕ) (i l : ℕ) (c : List ℕ) → i < length numbers
    → LooksHold slots numbers old new i
    → IsAt slots (get_or numbers i 0) c → ((d : List ℕ) → IsAt slots (get_or numbers i 0) d → c ≡ d)
    → Forces c (IsMarked new) l → (IsMarked new (opposite_of l) → ⊥) → LooksHold slots numbers old (new ++ l ∷ []) (i + 1)
LooksHold-forces slots numbers old new i l c h holds here only f free = record {
  grown = GrowsBy-push slots old new c l holds.grown (get_or numbers i 0, here) f free;
  rest = rest_more slots numbers old new (new ++ l ∷ []) i h holds.rest (λ k m. Contains-append_left new (l ∷ []) k m)
      (λ d e. subst (RestsUntil (IsMarked old) (IsMarked (new ++ l ∷ []))) (only d e)
      (RestsUntil-more (IsMarked new) (IsMarked old) (IsMarked (new ++ l ∷ [])) (IsMarked (new ++ l ∷ [])) c
      (λ k m. GrowsBy-stays slots old new k holds.grown m) (λ k m. m)
      (RestsUntil-forced (IsMarked new) (IsMarked (new ++ l ∷ [])) c l f free (Contains-push new l))));
}

-- the clause of the number rests
pub LooksHold-rests : (slots : List (Option (List ℕ))) (numbers old new : List ℕ) (i : ℕ) (c : List ℕ) → i < length numbers → LooksHold slots numbers old new i
    → ((d : List ℕ) → IsAt slots (get_or numbers i 0) d → c ≡ d) → Rests (IsMarked new) c → LooksHold slots numbers old new (i + 1)
LooksHold-rests slots numbers old new i c h holds only rests = record {
  grown = holds.grown;
  rest = rest_more slots numbers old new new i h holds.rest (λ k m. m)
      (λ d e. subst (RestsUntil (IsMarked old) (IsMarked new)) (only d e)
      (RestsUntil-more (IsMarked new) (IsMarked old) (IsMarked new) (IsMarked new) c (λ k m. GrowsBy-stays slots old new k holds.grown m) (λ k m. m) rests));
}
