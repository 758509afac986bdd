-- Clauses rest as far as the marked literals have been propagated.
use Rattle.std.proofs.Common.{◌≡◌, ℕ, ◌<◌, ◌≤◌, ◌+◌, ◌⊎◌, inl, inr, ◌↔◌, List, [], ◌++◌, length, take, get_or, Contains, Option, sym, subst, ap, ◌∙◌, arith}
use Rattle.std.proofs.lemmas.Bool.{cases_eq}
use Rattle.std.proofs.lemmas.List.{take-append-le}
use Rattle.std.proofs.lemmas.List.Elements.{Contains-append_left}
use Rattle.std.proofs.Math.Seq.{take-append_seam}
use Rattle.clause_meaning.specs.Literals.{opposite_of}
use Rattle.clause_meaning.specs.Refutation.{Clashes, Refutes, Reaches, IsClosed}
use Rattle.clause_meaning.specs.Resting.{RestsUntil, Rests}
use Rattle.clause_meaning.proofs.Members.{Contains-nil, Contains-take, Contains-take_all, Contains-take_more_cases, contained_or_not}
use Rattle.clause_meaning.proofs.LiteralLaws.{opposite_of-opposite_of}
use Rattle.clause_meaning.proofs.Chains.{Reaches-given, Reaches-more, Refutes-more, Refutes-from_clash, Refutes-from_reached, closed_not_refuted}
use Rattle.clause_meaning.proofs.Resting.{RestsUntil-more}
use Rattle.rup_check.specs.Slots.{IsAt, HeldIn}
use Rattle.rup_check.specs.Listed.{HasTwo}
use Rattle.rup_check.specs.Marks.{IsMarked, HaveOpposites}
use Rattle.rup_check.specs.Steps.{GrowsBy, RestAmong, RestOrListed, RestOrListedFrom}
use Rattle.rup_check.proofs.Growth.{GrowsBy-stays}

-- each live clause rests, where the first literals that were marked are true
abbrev pub AllRest : List (Option (List ℕ)) → List ℕ → ℕ → Type 0
AllRest slots marked done = (n : ℕ) (c : List ℕ) → IsAt slots n c → RestsUntil (Contains (take done marked)) (IsMarked marked) c

-- two literals that differ are neither both false nor all but one false where nothing is true
pub rests_by_two : (c : List ℕ) (M : ℕ → Type 0) → HasTwo c → RestsUntil (Contains []) M c
rests_by_two c M two = record {
  not_false = λ f. Contains-nil (opposite_of two.0) (f two.0 two.2);
  forced = λ l f. elim (cases_eq two.0 l) [
    | inl e ↦ absurd (Contains-nil (opposite_of two.1) (f.others two.1 two.3 (λ d. two.4 (e ∙ sym d))))
    | inr n ↦ absurd (Contains-nil (opposite_of two.0) (f.others two.0 two.2 n))
  ];
}

-- once the clauses were looked at that needn't rest where the first literals that were marked are true
pub AllRest-start : (from : ℕ) (slots : List (Option (List ℕ))) (numbers old new : List ℕ) → from ≤ length old → RestOrListedFrom from slots numbers old
    → GrowsBy slots old new → RestAmong slots numbers old new → AllRest slots new from
AllRest-start from slots numbers old new within listed grown rest n c e =
    let same : take from new ≡ take from old = ap (take from) grown.more.1 ∙ take-append-le from old grown.more.0 within in
    subst (λ (ls : List ℕ). RestsUntil (Contains ls) (IsMarked new) c) (sym same)
    (elim (listed n c e) [
      | inl m ↦ RestsUntil-more (IsMarked old) (Contains (take from old)) (IsMarked new) (IsMarked new) c (λ k p. Contains-take old from k p) (λ k p. p)
          (rest n c m e)
      | inr rests ↦ RestsUntil-more (Contains (take from old)) (Contains (take from old)) (IsMarked old) (IsMarked new) c (λ k p. p)
          (λ k p. GrowsBy-stays slots old new k grown p) rests
    ])

-- more literals were marked since
pub listed_from : (slots : List (Option (List ℕ))) (numbers old new : List ℕ) (from : ℕ) → from ≡ length old → (later : List ℕ) × (new ≡ old ++ later)
    → RestOrListed slots numbers old → RestOrListedFrom from slots numbers new
listed_from slots numbers old new from is more listed n c e =
    elim (listed n c e) [
      | inl m ↦ inl m
      | inr rests ↦ inr (RestsUntil-more (IsMarked old) (Contains (take from new)) (IsMarked old) (IsMarked new) c
          (λ k p. subst (λ (ls : List ℕ). Contains ls k) same p)
          (λ k p. subst (λ (ls : List ℕ). Contains ls k) (sym more.1) (Contains-append_left old more.0 k p)) rests)
    ]
  where
    same : take from new ≡ old
    same = ap (take from) more.1 ∙ (ap (λ (n : ℕ). take n (old ++ more.0)) is ∙ take-append_seam old more.0)

-- nothing is marked yet
pub listed_at_first : (slots : List (Option (List ℕ))) (numbers marked : List ℕ) → ((n : ℕ) (c : List ℕ) → IsAt slots n c → HasTwo c ⊎ Contains numbers n)
    → RestOrListedFrom 0 slots numbers marked
listed_at_first slots numbers marked listed n c e =
    elim (listed n c e) [ inl two ↦ inr (rests_by_two c (IsMarked marked) two) | inr m ↦ inl m ]

-- what is reached from nothing, and what is assumed
pub reached_either : (S : List ℕ → Type 0) (base assumed : List ℕ) → ((l : ℕ) → IsMarked base l → Reaches S (Contains []) l)
    → (l : ℕ) → IsMarked base l ⊎ Contains assumed l → Reaches S (Contains assumed) l
reached_either S base assumed reached l (inl b) =
    Reaches-more S S (Contains []) (Contains assumed) (λ c s. s) (λ k p. absurd (Contains-nil k p)) l (reached l b)
reached_either S base assumed reached l (inr a) = Reaches-given S (Contains assumed) l a

pub Refutes-from_opposites : (S : List ℕ → Type 0) (base assumed : List ℕ) → ((l : ℕ) → IsMarked base l → Reaches S (Contains []) l)
    → HaveOpposites base assumed → Refutes S (Contains assumed)
Refutes-from_opposites S base assumed reached (l, p, q) =
    Refutes-from_clash S (Contains assumed) (inr (l, reached_either S base assumed reached l p, reached_either S base assumed reached _ q))

-- the assumed literals alone, beside those with what is reached from nothing
pub Refutes-without_base : (S : List ℕ → Type 0) (base assumed new : List ℕ) → ((l : ℕ) → IsMarked base l → Reaches S (Contains []) l)
    → ((l : ℕ) → IsMarked new l ↔ (IsMarked base l ⊎ Contains assumed l)) → (A : Type 0) → (A ↔ Refutes S (IsMarked new)) → A ↔ Refutes S (Contains assumed)
Refutes-without_base S base assumed new reached marked A told = (
  λ a. Refutes-from_reached S (Contains assumed) (IsMarked new) (λ l m. reached_either S base assumed reached l ((marked l).0 m)) (told.0 a),
  λ r. told.1 (Refutes-more S S (Contains assumed) (IsMarked new) (λ c s. s) (λ l m. (marked l).1 (inr m)) r),
)

-- a literal whose opposite the clause hasn't makes no difference
rests_without : (K L M : ℕ → Type 0) (x : ℕ) (c : List ℕ) → ((k : ℕ) → L k → K k ⊎ (x ≡ k)) → (Contains c (opposite_of x) → ⊥) → RestsUntil K M c
    → RestsUntil L M c
rests_without K L M x c cases none rests = record {
  not_false = λ f. rests.not_false (λ k m. known k m (f k m));
  forced = λ l f. rests.forced l (record { member = f.member; others = λ k m n. known k m (f.others k m n) });
}
  where
    known : (k : ℕ) → Contains c k → L (opposite_of k) → K (opposite_of k)
    known k m p = elim (cases (opposite_of k) p) [
      | inl q ↦ q
      | inr e ↦ absurd (none (subst (Contains c) (sym (ap opposite_of e ∙ opposite_of-opposite_of k)) m))
    ]

-- one more literal is done, once the clauses that have its opposite were looked at
pub AllRest-more : (slots : List (Option (List ℕ))) (numbers old new : List ℕ) (done x : ℕ) → done < length old → x ≡ get_or old done 0
    → GrowsBy slots old new → AllRest slots old done
    → ((n : ℕ) (c : List ℕ) → IsAt slots n c → Contains c (opposite_of x) → Contains numbers n)
    → RestAmong slots numbers old new → AllRest slots new (done + 1)
AllRest-more slots numbers old new done x h is grown settled listed rest n c e =
    let same : take (done + 1) new ≡ take (done + 1) old = ap (take (done + 1)) grown.more.1 ∙ take-append-le (done + 1) old grown.more.0 (omega arith) in
    subst (λ (ls : List ℕ). RestsUntil (Contains ls) (IsMarked new) c) (sym same)
    (elim (contained_or_not c (opposite_of x)) [
      | inl m ↦ RestsUntil-more (IsMarked old) (Contains (take (done + 1) old)) (IsMarked new) (IsMarked new) c (λ k p. Contains-take old (done + 1) k p)
          (λ k p. p) (rest n c (listed n c e m) e)
      | inr none ↦ rests_without (Contains (take done old)) (Contains (take (done + 1) old)) (IsMarked new) x c
          (λ k p. last k (Contains-take_more_cases old done 0 k h p)) none
          (RestsUntil-more (Contains (take done old)) (Contains (take done old)) (IsMarked old) (IsMarked new) c (λ k p. p)
          (λ k p. GrowsBy-stays slots old new k grown p) (settled n c e))
    ])
  where
    last : (k : ℕ) → Contains (take done old) k ⊎ (get_or old done 0 ≡ k) → Contains (take done old) k ⊎ (x ≡ k)
    last k (inl m) = inl m
    last k (inr e) = inr (is ∙ e)

-- marks at which each clause rests stand against a refutation
pub settled_not_refuted : (slots : List (Option (List ℕ))) (old new : List ℕ) (done : ℕ) → GrowsBy slots old new → length new ≤ done → AllRest slots new done
    → Refutes (HeldIn slots) (IsMarked old) → ⊥
settled_not_refuted slots old new done grown all settled r =
    closed_not_refuted (HeldIn slots) (IsMarked old) (IsMarked new) closed (λ l m. GrowsBy-stays slots old new l grown m) r
  where
    rest : (n : ℕ) (c : List ℕ) → IsAt slots n c → Rests (IsMarked new) c
    rest n c e = RestsUntil-more (Contains (take done new)) (IsMarked new) (IsMarked new) (IsMarked new) c (λ k p. Contains-take_all new done k all p)
        (λ k p. p) (settled n c e)

    no_clash : Clashes (HeldIn slots) (IsMarked new) → ⊥
    no_clash (inl (c, s, f)) = (rest s.0 c s.1).not_false f
    no_clash (inr (l, p, q)) = grown.consistent l p q

    closed : IsClosed (HeldIn slots) (IsMarked new)
    closed = record { forced = λ c l s f. (rest s.0 c s.1).forced l f; no_clash = λ clash. no_clash clash }

-- the same clauses and literals, given otherwise
pub Refutes-same : (S T : List ℕ → Type 0) (K L : ℕ → Type 0) → ((c : List ℕ) → (S c → T c) × (T c → S c)) → ((l : ℕ) → (K l → L l) × (L l → K l))
    → (A : Type 0) → ((A → Refutes S K) × (Refutes S K → A)) → (A → Refutes T L) × (Refutes T L → A)
Refutes-same S T K L clauses literals A told = (
  λ a. Refutes-more S T K L (λ c. (clauses c).0) (λ l. (literals l).0) (told.0 a),
  λ r. told.1 (Refutes-more T S L K (λ c. (clauses c).1) (λ l. (literals l).1) r),
)
