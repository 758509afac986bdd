-- The entries that both passes leave are the conflicts.
use Rattle.std.proofs.Common.{◌≡◌, ℕ, ◌<◌, ◌≤◌, ◌^◌, List, [], ◌∷◌, length, map, Contains, ◌⊎◌, inl, inr, ◌↔◌, refl, sym, subst, arith}
use Rattle.std.specs.List.{All}
use Rattle.std.specs.List.Sorted.{IsStrictlySortedBy}
use Rattle.std.specs.Map.{keys_of}
use Rattle.std.proofs.lemmas.List.{length-map}
use Rattle.std.proofs.lemmas.List.Elements.{All-contains}
use Rattle.cq_terms.specs.declared.axioms.Axiom.{Axiom}
use Rattle.cq_terms.specs.declared.facts.Fact.{Fact}
use Rattle.cq_terms.specs.declared.hits.Clash.{Clash}
use Rattle.cq_terms.specs.Knowledge.{AreDistinct, kb_of}
use Rattle.cq_terms.specs.Conflicts.{own_facts, couples, IsOwn, AreInConflict, IsOneOrTwo, AreClashes}
use Rattle.cq_meaning.specs.Conflicts.{IsSelfInconsistent, Conflict, AreConflicts}
use Rattle.cq_meaning.proofs.Members.{Contains-head, Contains-later, Contains-cases, Contains-nil, Contains-slice_get}
use Rattle.cq_meaning.proofs.Ascending.{All-of}
use Rattle.cq_steps.specs.declared.closure.Member.{Member}
use Rattle.cq_steps.specs.Closing.{ClosingListIsClosure}
use Rattle.query_matching.proofs.Ascending.{AllPairs-head, AllPairs-tail}
use Rattle.conflict_finder.specs.declared.clash_facts.ClashFacts.{ClashFacts}
use Rattle.conflict_finder.specs.declared.clash_facts.ClashFacts.TheVariants.{One, Two}
use Rattle.conflict_finder.specs.declared.first_shown.Source.{Source}
use Rattle.conflict_finder.specs.declared.sought.Sought.TheVariants.{Singles, Pairs}
use Rattle.conflict_finder.specs.Finding.{AreClosures, Shows, IsShownFirst, IsConflict, HasMoreSets, HasMoreConflicts}
use Rattle.conflict_finder.specs.Images.{IsShort}
use Rattle.conflict_finder.specs.FirstShown.{facts_cmp, numbers_of, HasKey, IsScanned, IsNotedOrShown, clash_of}
use Rattle.conflict_finder.proofs.Scanning.{more_weaker}
use Rattle.conflict_finder.proofs.Pigeons.{not_longer}
use Rattle.conflict_finder.proofs.Joins.{some_number, not_three, ascend_two}
use Rattle.conflict_finder.proofs.Forbidding.{AreDerivations, all_short, own_shown, shown_own, conflict_shown, shown_conflict, image_within}
use Rattle.conflict_finder.proofs.Clashing.{map_to, map_from, own_there, own_back, couple_there, couple_back, entries_ascend, owns_ascend, couples_ascend}
use Rattle.conflict_finder.proofs.Clashing.{owns_first}

module _ (law : ClosingListIsClosure) (axioms : List Axiom) (facts : List Fact) (distinct : AreDistinct facts) (closures : List (ℕ × List Member))
    (are : AreClosures axioms closures) (derived : AreDerivations closures) where
  -- ---- facts alone

  own_set : (i n p : ℕ) → Shows facts closures n p (i ∷ []) → IsConflict (kb_of axioms facts) (i ∷ [])
  own_set i n p s = (image_within facts s.1.query (i ∷ []) s.4 i (Contains-head i []), shown_own law axioms facts closures are derived distinct i n p s)

  -- more of them than the limit
  pub many_alone : (none : List ℕ) (limit : ℕ) → HasMoreSets (IsNotedOrShown facts closures Singles none []) limit → HasMoreConflicts (kb_of axioms facts) limit
  many_alone none limit more = more_weaker (IsNotedOrShown facts closures Singles none []) (IsConflict (kb_of axioms facts)) limit by more
    where
      one : (set : List ℕ) → length set ≡ 1 → (n p : ℕ) → Shows facts closures n p set → IsConflict (kb_of axioms facts) set
      one [] l n p s = cc
      one (i ∷ []) l n p s = own_set i n p s
      one (i ∷ j ∷ set) l n p s = absurd (omega (arith, l))

      by : (set : List ℕ) → IsNotedOrShown facts closures Singles none [] set → IsConflict (kb_of axioms facts) set
      by set (inl (k, (s, c), e)) = absurd (Contains-nil (k, s) c)
      by set (inr (l, (n, p, s))) = one set l n p s

module _ (law : ClosingListIsClosure) (axioms : List Axiom) (facts : List Fact) (distinct : AreDistinct facts) (closures : List (ℕ × List Member))
    (are : AreClosures axioms closures) (derived : AreDerivations closures)
    (none : List ℕ) (alone : List (ClashFacts × Source)) (first : IsScanned facts closures Singles none (λ m p. Unit {0}) [] alone) where
  alone_shown : (i : ℕ) → HasKey alone (One i) → (n : ℕ) × (p : ℕ) × Shows facts closures n p (i ∷ [])
  alone_shown i (s, c) =
      let f = All-contains (λ (x : ClashFacts × Source). IsShownFirst facts closures (numbers_of x.0) x.1.rule x.1.member) alone (One i, s) first.first c in
      (s.rule, s.member, f.shown)

  alone_no_pair : (i j : ℕ) → HasKey alone (Two i j) → ⊥
  alone_no_pair i j (s, c) = go (first.only (Two i j, s) c)
    where
      go : Contains {X = ClashFacts × Source} [] (Two i j, s) ⊎ (length (numbers_of (Two i j)) ≡ 1) → ⊥
      go (inl z) = Contains-nil (Two i j, s) z
      go (inr l) = omega (arith, l)

  alone_conflict : (k : ClashFacts) → HasKey alone k → IsConflict (kb_of axioms facts) (numbers_of k)
  alone_conflict (One i) h = let w = alone_shown i h in own_set law axioms facts distinct closures are derived i w.0 w.1 w.2
  alone_conflict (Two i j) h = absurd (alone_no_pair i j h)

  shown_key : (i n p : ℕ) → Shows facts closures n p (i ∷ []) → HasKey alone (One i)
  shown_key i n p s = first.complete (One i) n p refl tt s

  module _ (numbers : List ℕ) (exact : (n : ℕ) → Contains numbers n ↔ ((n < length facts) × (HasKey alone (One n) → ⊥))) where
    not_shown : (i : ℕ) → Contains numbers i → (n p : ℕ) → Shows facts closures n p (i ∷ []) → ⊥
    not_shown i c n p s = ((exact i).0 c).1 (shown_key i n p s)

    member_short : (n p : ℕ) (set : List ℕ) → (s : Shows facts closures n p set) → IsShort s.1.query
    member_short n p set (members, m, c, at, h) =
        let all = All-contains (λ (d : ℕ × List Member). All (λ (x : Member). IsShort x.query) d.1) closures (n, members)
        (all_short law axioms facts closures are derived) c in
        All-contains (λ (x : Member). IsShort x.query) members m all (Contains-slice_get members p m at)

    -- what is shown of the other facts is a conflict
    shown_set : (set : List ℕ) (n p : ℕ) → Shows facts closures n p set → All (Contains numbers) set → IsConflict (kb_of axioms facts) set
    shown_set [] n p s all = let w = some_number facts s.1.query [] (member_short n p [] s).1 s.4 in absurd (Contains-nil w.0 w.1)
    shown_set (i ∷ []) n p s all = absurd (not_shown i (All-contains (Contains numbers) (i ∷ []) i all (Contains-head i [])) n p s)
    shown_set (i ∷ j ∷ []) n p s all =
        let l = ascend_two i j s.4.ascending in (
          l,
          shown_conflict law axioms facts closures are derived distinct i j n p l
              (not_shown i (All-contains (Contains numbers) (i ∷ j ∷ []) i all (Contains-head i (j ∷ []))))
              (not_shown j (All-contains (Contains numbers) (i ∷ j ∷ []) j all (Contains-later i (j ∷ []) j (Contains-head j [])))) s,
        )
    shown_set (i ∷ j ∷ k ∷ set) n p s all =
        let a = s.4.ascending in
        let ij = All-contains (λ x. i < x) (j ∷ k ∷ set) j (AllPairs-head (λ x y. x < y) i (j ∷ k ∷ set) a) (Contains-head j (k ∷ set)) in
        let jk = All-contains (λ x. j < x) (k ∷ set) k (AllPairs-head (λ x y. x < y) j (k ∷ set) (AllPairs-tail (λ x y. x < y) i (j ∷ k ∷ set) a))
        (Contains-head k set) in
        absurd (not_three facts distinct s.1.query (i ∷ j ∷ k ∷ set) (member_short n p (i ∷ j ∷ k ∷ set) s).2 s.4 i j k (Contains-head i (j ∷ k ∷ set))
        (Contains-later i (j ∷ k ∷ set) j (Contains-head j (k ∷ set)))
        (Contains-later i (j ∷ k ∷ set) k (Contains-later j (k ∷ set) k (Contains-head k set))) ij jk)

    -- more than the limit
    pub many_pairs : (limit : ℕ) → HasMoreSets (IsNotedOrShown facts closures Pairs numbers alone) limit → HasMoreConflicts (kb_of axioms facts) limit
    many_pairs limit more = more_weaker (IsNotedOrShown facts closures Pairs numbers alone) (IsConflict (kb_of axioms facts)) limit by more
      where
        by : (set : List ℕ) → IsNotedOrShown facts closures Pairs numbers alone set → IsConflict (kb_of axioms facts) set
        by set (inl (k, h, e)) = subst (IsConflict (kb_of axioms facts)) (sym e) (alone_conflict k h)
        by set (inr (all, (n, p, s))) = shown_set set n p s all

    module _ (both : List (ClashFacts × Source)) (second : IsScanned facts closures Pairs numbers (λ m p. Unit {0}) alone both) where
      kept : (k : ClashFacts) → HasKey alone k → HasKey both k
      kept k (s, c) = (s, second.kept (k, s) c)

      first_of : (k : ClashFacts) (s : Source) → Contains both (k, s) → IsShownFirst facts closures (numbers_of k) s.rule s.member
      first_of k s c = All-contains (λ (x : ClashFacts × Source). IsShownFirst facts closures (numbers_of x.0) x.1.rule x.1.member) both (k, s) second.first c

      own_key : (i : ℕ) → HasKey both (One i) → (i < length facts) × IsSelfInconsistent (kb_of axioms facts) i
      own_key i (s, c) = own_set law axioms facts distinct closures are derived i s.rule s.member (first_of (One i) s c).shown

      pair_key : (i j : ℕ) → HasKey both (Two i j) → (i < j) × Conflict (kb_of axioms facts) i j
      pair_key i j (s, c) = go (second.only (Two i j, s) c)
        where
          go : Contains alone (Two i j, s) ⊎ ((length (numbers_of (Two i j)) ≡ 2) × All (Contains numbers) (numbers_of (Two i j))) → (i < j)
              × Conflict (kb_of axioms facts) i j
          go (inl d) = absurd (alone_no_pair i j (s, d))
          go (inr w) = shown_set (i ∷ j ∷ []) s.rule s.member (first_of (Two i j) s c).shown w.1

      conflict_key : (i j : ℕ) → i < j → Conflict (kb_of axioms facts) i j → HasKey both (Two i j)
      conflict_key i j l c =
          let w = conflict_shown law axioms facts closures are derived distinct i j l c in
          let inside : All (Contains numbers) (i ∷ j ∷ []) = All-of (Contains numbers) (i ∷ j ∷ [])
          (λ x d. (exact x).1 (image_within facts w.2.1.query (i ∷ j ∷ []) w.2.4 x d, free x (Contains-cases i (j ∷ []) x d))) in
          second.complete (Two i j) w.0 w.1 (refl, inside) tt w.2
        where
          free_of : (x : ℕ) → (IsSelfInconsistent (kb_of axioms facts) x → ⊥) → HasKey alone (One x) → ⊥
          free_of x n h = let w = alone_shown x h in n (shown_own law axioms facts closures are derived distinct x w.0 w.1 w.2)

          free : (x : ℕ) → (i ≡ x) ⊎ Contains (j ∷ []) x → HasKey alone (One x) → ⊥
          free x (inl e) = subst (λ y. HasKey alone (One y) → ⊥) e (free_of i (λ s. s c.left))
          free x (inr d) = elim (Contains-cases j [] x d) [
            | inl e ↦ subst (λ y. HasKey alone (One y) → ⊥) e (free_of j (λ s. s c.right))
            | inr z ↦
                absurd (Contains-nil x z)
          ]

      own_found : (i : ℕ) → IsSelfInconsistent (kb_of axioms facts) i → HasKey both (One i)
      own_found i s = let w = own_shown law axioms facts closures are derived distinct i s in kept (One i) (shown_key i w.0 w.1 w.2)

      -- each clash names what shows it first
      pub clashes_named : All (λ c. IsShownFirst facts closures c.facts c.«axiom» c.member) (map clash_of both)
      clashes_named = All-of (λ (c : Clash). IsShownFirst facts closures c.facts c.«axiom» c.member) (map clash_of both)
          (λ c there. let w = map_from clash_of both c there in subst (λ (x : Clash). IsShownFirst facts closures x.facts x.«axiom» x.member) (sym w.2)
          (first_of w.0.0 w.0.1 w.1))

      -- no more than the limit
      pub none_more : (limit : ℕ) → length both ≤ limit → HasMoreConflicts (kb_of axioms facts) limit → ⊥
      none_more limit few more =
          let within = not_longer more.items (map (λ (e : ClashFacts × Source). numbers_of e.0) both) more.apart
          (λ set c. there set (All-contains (IsConflict (kb_of axioms facts)) more.items set more.each c)) in
          omega (arith, within, few, more.longer, length-map both (λ (e : ClashFacts × Source). numbers_of e.0))
        where
          at : (k : ClashFacts) (set : List ℕ) → numbers_of k ≡ set → HasKey both k → Contains (map (λ (e : ClashFacts × Source). numbers_of e.0) both) set
          at k set e (s, c) = subst (Contains (map (λ (x : ClashFacts × Source). numbers_of x.0) both)) e
              (map_to (λ (x : ClashFacts × Source). numbers_of x.0) both (k, s) c)

          there : (set : List ℕ) → IsConflict (kb_of axioms facts) set → Contains (map (λ (e : ClashFacts × Source). numbers_of e.0) both) set
          there [] c = absurd c
          there (i ∷ []) c = at (One i) (i ∷ []) refl (own_found i c.1)
          there (i ∷ j ∷ []) c = at (Two i j) (i ∷ j ∷ []) refl (conflict_key i j c.0 c.1)
          there (i ∷ j ∷ k ∷ set) c = absurd c

      module _ (sorted : IsStrictlySortedBy facts_cmp (keys_of both)) where
        -- exactly the self-inconsistent facts and the pairs in conflict
        pub are_conflicts : AreConflicts (kb_of axioms facts) (own_facts (map clash_of both)) (couples (map clash_of both))
        are_conflicts = record {
          owns_exact = λ i. ((λ c. own_key i (own_there both i c)), (λ w. own_back both i (own_found i w.1)));
          pairs_exact = λ i j. ((λ c. pair_key i j (couple_there both i j c)), (λ w. couple_back both i j (conflict_key i j w.0 w.1)));
          owns_ascending = owns_ascend both (entries_ascend both sorted);
          pairs_ascending = couples_ascend both (entries_ascend both sorted);
        }

        in_table : (c : Clash) → Contains (map clash_of both) c → IsOneOrTwo (length facts) c.facts
        in_table c there = let w = map_from clash_of both c there in subst (λ (x : Clash). IsOneOrTwo (length facts) x.facts) (sym w.2) (entry w.0.0 w.0.1 w.1)
          where
            entry : (k : ClashFacts) (s : Source) → Contains both (k, s) → IsOneOrTwo (length facts) (numbers_of k)
            entry (One i) s d = (own_key i (s, d)).0
            entry (Two i j) s d = (
              (pair_key i j (s, d)).0,
              (let f = (first_of (Two i j) s d).shown in
                  image_within facts f.1.query (i ∷ j ∷ []) f.4 j (Contains-later i (j ∷ []) j (Contains-head j []))),
            )

        -- the conflicts may be kept as a table
        pub are_clashes : length facts ≤ 2 ^ 31 → length both < 2 ^ 31 → AreClashes (length facts) (map clash_of both)
        are_clashes few short = record {
          few_facts = few;
          few = omega (arith, length-map both clash_of, short);
          each = All-of (λ (c : Clash). IsOneOrTwo (length facts) c.facts) (map clash_of both) in_table;
          own_first = owns_first both (entries_ascend both sorted);
          own_ascending = owns_ascend both (entries_ascend both sorted);
          couples_ascending = couples_ascend both (entries_ascend both sorted);
          apart = apart;
        }
          where
            apart : (i j : ℕ) → IsOwn (map clash_of both) i → AreInConflict (map clash_of both) i j → ⊥
            apart i j own (inl c) = (own_key i (own_there both i own)).1 (pair_key i j (couple_there both i j c)).1.left
            apart i j own (inr c) = (own_key i (own_there both i own)).1 (pair_key j i (couple_there both j i c)).1.right
