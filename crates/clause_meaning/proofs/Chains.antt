-- Chains can be joined, so what is reached can be spoken of without them.
use Rattle.std.proofs.Common.{◌≡◌, ℕ, inl, inr, List, [], ◌∷◌, ◌++◌, Contains, Bool, true, refl, sym, subst, not, eqb}
use Rattle.std.proofs.lemmas.Bool.{cases_Bool, ne_eqb, eq-eqb, both_ways, not-true, not_from_false}
use Rattle.std.proofs.lemmas.List.Elements.{Contains-append_left, Contains-append_right}
use Rattle.clause_meaning.specs.Literals.{opposite_of}
use Rattle.clause_meaning.specs.Refutation.{Forces, IsChain, Clashes, Refutes, Reaches, IsClosed}
use Rattle.clause_meaning.proofs.Members.{Contains-nil, Contains-cons_cases, Contains-head, Contains-tail}

pub Forces-more : (c : List ℕ) (K M : ℕ → Type 0) (l : ℕ) → ((k : ℕ) → K k → M k) → Forces c K l → Forces c M l
Forces-more c K M l h f = record { member = f.member; others = λ k m n. h (opposite_of k) (f.others k m n) }

pub IsChain-more : (S T : List ℕ → Type 0) (L M : ℕ → Type 0) → ((c : List ℕ) → S c → T c) → ((l : ℕ) → L l → M l)
    → (chain : List ℕ) → IsChain S L chain → IsChain T M chain
IsChain-more S T L M s m [] h = tt
IsChain-more S T L M s m (l ∷ before) (inl g, r) = (inl (m l g), IsChain-more S T L M s m before r)
IsChain-more S T L M s m (l ∷ before) (inr (c, p, f), r) = (inr (c, s c p, f), IsChain-more S T L M s m before r)

pub IsChain-append : (S : List ℕ → Type 0) (L : ℕ → Type 0) (a b : List ℕ) → IsChain S L a → IsChain S L b → IsChain S L (a ++ b)
IsChain-append S L [] b h i = i
IsChain-append S L (l ∷ a) b (inl g, r) i = (inl g, IsChain-append S L a b r i)
IsChain-append S L (l ∷ a) b (inr (c, p, f), r) i =
    (inr (c, p, Forces-more c (Contains a) (Contains (a ++ b)) l (λ k. Contains-append_left a b k) f), IsChain-append S L a b r i)

pub Reaches-given : (S : List ℕ → Type 0) (L : ℕ → Type 0) (l : ℕ) → L l → Reaches S L l
Reaches-given S L l g = (l ∷ [], (inl g, tt), Contains-head l [] l refl)

-- one chain for all opposites of the clause's literals that pass a test
pub one_chain : (S : List ℕ → Type 0) (L : ℕ → Type 0) (P : ℕ → Bool) (c : List ℕ)
    → ((k : ℕ) → Contains c k → P k ≡ true → Reaches S L (opposite_of k))
    → (chain : List ℕ) × IsChain S L chain × ((k : ℕ) → Contains c k → P k ≡ true → Contains chain (opposite_of k))
one_chain S L P [] h = ([], tt, λ k m p. absurd (Contains-nil k m))
one_chain S L P (x ∷ xs) h =
    let r = one_chain S L P xs (λ k m. h k (Contains-tail x xs k m)) in
    elim (cases_Bool (P x)) [
      | inl passes ↦
          let q = h x (Contains-head x xs x refl) passes in (
            q.0 ++ r.0,
            IsChain-append S L q.0 r.0 q.1 r.1,
            λ k m p.
                elim (Contains-cons_cases x xs k m) [
                  | inl e ↦ Contains-append_left q.0 r.0 (opposite_of k) (subst (λ (y : ℕ). Contains q.0 (opposite_of y)) e q.2)
                  | inr t ↦ Contains-append_right q.0 r.0 (opposite_of k) (r.2 k t p)
                ],
          )
      | inr fails ↦ (
        r.0,
        r.1,
        λ k m p.
            elim (Contains-cons_cases x xs k m) [
              | inl e ↦ (let q : P x ≡ true = subst (λ (y : ℕ). P y ≡ true) (sym e) p in absurd (both_ways (P x) fails q))
              | inr t ↦ r.2 k t p
            ],
      )
    ]

-- what a clause of S forces by reached literals is reached
pub Reaches-forced : (S : List ℕ → Type 0) (L : ℕ → Type 0) (c : List ℕ) (l : ℕ) → S c → Forces c (Reaches S L) l → Reaches S L l
Reaches-forced S L c l s f =
    let q = one_chain S L (λ k. not (eqb k l)) c (λ k m p. f.others k m (λ e. both_ways (eqb k l) (not-true (eqb k l) p) (eq-eqb k l e))) in
    (l ∷ q.0, (inr (c, s, record { member = f.member; others = λ k m n. q.2 k m (not_from_false (eqb k l) (ne_eqb k l n)) }), q.1), Contains-head l q.0 l refl)

-- a clash among reached literals is a refutation, and the other way round
pub Refutes-from_clash : (S : List ℕ → Type 0) (L : ℕ → Type 0) → Clashes S (Reaches S L) → Refutes S L
Refutes-from_clash S L (inl (c, s, f)) =
    let q = one_chain S L (λ _. true) c (λ k m _. f k m) in
    (q.0, q.1, inl (c, s, λ k m. q.2 k m refl))
Refutes-from_clash S L (inr (l, p, q)) =
    (p.0 ++ q.0, IsChain-append S L p.0 q.0 p.1 q.1, inr (l, Contains-append_left p.0 q.0 l p.2, Contains-append_right p.0 q.0 (opposite_of l) q.2))

pub clash_from_Refutes : (S : List ℕ → Type 0) (L : ℕ → Type 0) → Refutes S L → Clashes S (Reaches S L)
clash_from_Refutes S L (chain, i, inl (c, s, f)) = inl (c, s, λ k m. (chain, i, f k m))
clash_from_Refutes S L (chain, i, inr (l, p, q)) = inr (l, (chain, i, p), (chain, i, q))

-- what holds of the given literals and of each that is forced, holds of each literal of a chain
pub chain_keeps : (S : List ℕ → Type 0) (L M : ℕ → Type 0) → ((l : ℕ) → L l → M l)
    → ((c : List ℕ) (l : ℕ) → S c → Forces c M l → M l) → (chain : List ℕ) → IsChain S L chain → (k : ℕ) → Contains chain k → M k
chain_keeps S L M g h [] i k m = absurd (Contains-nil k m)
chain_keeps S L M g h (l ∷ before) (inl p, r) k m =
    elim (Contains-cons_cases l before k m) [ inl e ↦ subst M e (g l p) | inr t ↦ chain_keeps S L M g h before r k t ]
chain_keeps S L M g h (l ∷ before) (inr (c, s, f), r) k m =
    elim (Contains-cons_cases l before k m) [
      | inl e ↦ subst M e (h c l s (Forces-more c (Contains before) M l (chain_keeps S L M g h before r) f))
      | inr t ↦ chain_keeps S L M g h before r k t
    ]

-- the reached literals are the least set that has the given ones and each that is forced
pub Reaches-least : (S : List ℕ → Type 0) (L M : ℕ → Type 0) → ((l : ℕ) → L l → M l)
    → ((c : List ℕ) (l : ℕ) → S c → Forces c M l → M l) → (l : ℕ) → Reaches S L l → M l
Reaches-least S L M g h l (chain, i, m) = chain_keeps S L M g h chain i l m

pub Reaches-more : (S T : List ℕ → Type 0) (L M : ℕ → Type 0) → ((c : List ℕ) → S c → T c) → ((l : ℕ) → L l → M l)
    → (l : ℕ) → Reaches S L l → Reaches T M l
Reaches-more S T L M s m l (chain, i, p) = (chain, IsChain-more S T L M s m chain i, p)

-- what is reached from reached literals is reached
pub Reaches-again : (S : List ℕ → Type 0) (L : ℕ → Type 0) (l : ℕ) → Reaches S (Reaches S L) l → Reaches S L l
Reaches-again S L l r = Reaches-least S (Reaches S L) (Reaches S L) (λ k p. p) (Reaches-forced S L) l r

pub Clashes-more : (S T : List ℕ → Type 0) (K M : ℕ → Type 0) → ((c : List ℕ) → S c → T c) → ((l : ℕ) → K l → M l) → Clashes S K → Clashes T M
Clashes-more S T K M s m (inl (c, p, f)) = inl (c, s c p, λ k e. m (opposite_of k) (f k e))
Clashes-more S T K M s m (inr (l, p, q)) = inr (l, m l p, m (opposite_of l) q)

pub Refutes-more : (S T : List ℕ → Type 0) (L M : ℕ → Type 0) → ((c : List ℕ) → S c → T c) → ((l : ℕ) → L l → M l) → Refutes S L → Refutes T M
Refutes-more S T L M s m (chain, i, e) = (chain, IsChain-more S T L M s m chain i, Clashes-more S T _ _ s (λ k p. p) e)

-- literals that clash where each is reached refute
pub Refutes-from_reached : (S : List ℕ → Type 0) (L K : ℕ → Type 0) → ((l : ℕ) → K l → Reaches S L l) → Refutes S K → Refutes S L
Refutes-from_reached S L K h r =
    Refutes-from_clash S L (Clashes-more S S (Reaches S K) (Reaches S L) (λ c s. s)
    (λ l p. Reaches-again S L l (Reaches-more S S K (Reaches S L) (λ c s. s) h l p)) (clash_from_Refutes S K r))

-- a closed set that has the given literals stands against each refutation
pub closed_not_refuted : (S : List ℕ → Type 0) (L M : ℕ → Type 0) → IsClosed S M → ((l : ℕ) → L l → M l) → Refutes S L → ⊥
closed_not_refuted S L M closed g r =
    closed.no_clash (Clashes-more S S (Reaches S L) M (λ c s. s) (Reaches-least S L M g closed.forced) (clash_from_Refutes S L r))
