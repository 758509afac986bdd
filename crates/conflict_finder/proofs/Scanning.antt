-- Going through the members of the closures in order.
use Rattle.std.proofs.Common.{◌≡◌, ℕ, zero, suc, ◌<◌, ◌≤◌, List, [], ◌∷◌, length, Contains, ◌⊎◌, inl, inr, slice_get, Some, sym, ap, ◌∙◌, subst, arith}
use Rattle.std.proofs.Common.{AllPairs}
use Rattle.std.proofs.lemmas.Bool.{cases_eq, cases_lt}
use Rattle.std.proofs.lemmas.Option.{slice_get_within}
use Rattle.std.proofs.lemmas.List.Elements.{All-contains}
use Rattle.cq_terms.specs.declared.facts.Fact.{Fact}
use Rattle.cq_meaning.specs.Entailment.{HasImage}
use Rattle.cq_meaning.proofs.Members.{Contains-slice_get, slice_get-Contains}
use Rattle.cq_meaning.proofs.Places.{some_inj}
use Rattle.cq_meaning.proofs.Ascending.{All-of}
use Rattle.cq_steps.specs.declared.closure.Member.{Member}
use Rattle.query_matching.proofs.Ascending.{AllPairs-head, AllPairs-tail}
use Rattle.conflict_finder.specs.declared.clash_facts.ClashFacts.{ClashFacts}
use Rattle.conflict_finder.specs.declared.first_shown.Source.{Source}
use Rattle.conflict_finder.specs.declared.sought.Sought.{Sought}
use Rattle.conflict_finder.specs.declared.sought.Sought.TheVariants.{Singles, Pairs}
use Rattle.conflict_finder.specs.Finding.{Shows, IsShownFirst, HasMoreSets}
use Rattle.conflict_finder.specs.Images.{IsNotedOrImage}
use Rattle.conflict_finder.specs.FirstShown.{numbers_of, HasKey, AddsNew, IsWanted, IsWithin, IsEarlier, AreFirst, IsScanned, IsNotedOrShown}

-- ---- more than a limit

pub more_weaker : (P Q : List ℕ → Type 0) (limit : ℕ) → ((set : List ℕ) → P set → Q set) → HasMoreSets P limit → HasMoreSets Q limit
more_weaker P Q limit f more = record {
  items = more.items;
  each = All-of Q more.items (λ set c. f set (All-contains P more.items set more.each c));
  apart = more.apart;
  longer = more.longer;
}

pub wanted_within : (sought : Sought) (numbers set : List ℕ) → IsWanted sought numbers set → IsWithin sought numbers set
wanted_within Singles numbers set w = w
wanted_within Pairs numbers set w = w.1

-- ---- closures by number

-- closures at lesser places have lesser numbers
pub closure_before : (closures : List (ℕ × List Member)) → AllPairs (λ c d. c.0 < d.0) closures → (i j : ℕ) (c d : ℕ × List Member) → i < j
    → slice_get closures i ≡ Some c → slice_get closures j ≡ Some d → c.0 < d.0
closure_before [] a i j c d l e f = cc
closure_before (x ∷ xs) a i zero c d l e f = absurd (omega arith)
closure_before (x ∷ xs) a zero (suc j) c d l e f = subst (λ (z : ℕ × List Member). z.0 < d.0) (some_inj e)
    (All-contains (λ (z : ℕ × List Member). x.0 < z.0) xs d (AllPairs-head (λ (p q : ℕ × List Member). p.0 < q.0) x xs a) (Contains-slice_get xs j d f))
closure_before (x ∷ xs) a (suc i) (suc j) c d l e f = closure_before xs (AllPairs-tail (λ (p q : ℕ × List Member). p.0 < q.0) x xs a) i j c d (omega arith) e f

-- an axiom has one closure
pub one_closure : (closures : List (ℕ × List Member)) → AllPairs (λ c d. c.0 < d.0) closures → (n : ℕ) (xs ys : List Member) → Contains closures (n, xs)
    → Contains closures (n, ys) → xs ≡ ys
one_closure closures a n xs ys c d =
    let v = slice_get-Contains closures (n, xs) c in
    let w = slice_get-Contains closures (n, ys) d in
    by v.0 w.0 v.1 w.1 (cases_lt v.0 w.0) (cases_lt w.0 v.0)
  where
    by : (i j : ℕ) → slice_get closures i ≡ Some (n, xs) → slice_get closures j ≡ Some (n, ys) → (i < j) ⊎ (j ≤ i) → (j < i) ⊎ (i ≤ j) → xs ≡ ys
    by i j e f (inl l) other = absurd (let w = closure_before closures a i j (n, xs) (n, ys) l e f in omega (arith, w))
    by i j e f (inr l) (inl m) = absurd (let w = closure_before closures a j i (n, ys) (n, xs) m f e in omega (arith, w))
    by i j e f (inr l) (inr m) = let same : i ≡ j = omega arith in ap (λ (z : ℕ × List Member). z.1) (some_inj (sym e ∙ ap (slice_get closures) same ∙ f))

-- ---- steps

module _ (facts : List Fact) (closures : List (ℕ × List Member)) (sought : Sought) (numbers : List ℕ) (first : List (ClashFacts × Source)) where
  -- fewer places
  pub scanned_weaker : (D E : ℕ → ℕ → Type 0) (now : List (ClashFacts × Source)) → ((m p : ℕ) (set : List ℕ) → Shows facts closures m p set → E m p → D m p)
      → IsScanned facts closures sought numbers D first now → IsScanned facts closures sought numbers E first now
  scanned_weaker D E now f so = record {
    kept = so.kept;
    only = so.only;
    first = so.first;
    complete = λ k m p w d s. so.complete k m p w (f m p (numbers_of k) s d) s;
  }

  -- at the start
  pub scanned_none : (D : ℕ → ℕ → Type 0) → ((m p : ℕ) → D m p → ⊥) → AreFirst facts closures first → IsScanned facts closures sought numbers D first first
  scanned_none D none h = record {
    kept = λ e c. c;
    only = λ e c. inl c;
    first = h;
    complete = λ k m p w d s. absurd (none m p d);
  }

  module _ (rule place : ℕ) (members : List Member) (m : Member) (there : Contains closures (rule, members)) (at : slice_get members place ≡ Some m)
      (ascending : AllPairs (λ c d. c.0 < d.0) closures)
      (old : List (ClashFacts × Source)) (so : IsScanned facts closures sought numbers (IsEarlier rule place) first old) where
    -- one more member
    pub scanned_more : (source : Source) → source.rule ≡ rule → source.member ≡ place → (new : List (ClashFacts × Source))
        → AddsNew (λ k. IsWanted sought numbers (numbers_of k) × HasImage facts m.query [] (numbers_of k)) source old new
        → IsScanned facts closures sought numbers (IsEarlier rule (suc place)) first new
    scanned_more source rule_is place_is new adds = record {
      kept = λ e c. adds.kept e (so.kept e c);
      only = λ e c. only e (adds.right e c);
      first = All-of (λ (e : ClashFacts × Source). IsShownFirst facts closures (numbers_of e.0) e.1.rule e.1.member) new (λ e c. named e (adds.right e c));
      complete = complete;
    }
      where
        only : (e : ClashFacts × Source) → Contains old e ⊎ ((IsWanted sought numbers (numbers_of e.0) × HasImage facts m.query [] (numbers_of e.0))
            × (HasKey old e.0 → ⊥) × (e.1 ≡ source))
            → Contains first e ⊎ IsWanted sought numbers (numbers_of e.0)
        only e (inl c) = so.only e c
        only e (inr (w, n, q)) = inr w.0

        least : (k : ClashFacts) → IsWanted sought numbers (numbers_of k) → (HasKey old k → ⊥) → (a p : ℕ) → Shows facts closures a p (numbers_of k)
            → (rule < a) ⊎ ((rule ≡ a) × (place ≤ p))
        least k w n a p s = go (cases_lt a rule) (cases_eq a rule) (cases_lt p place)
          where
            go : (a < rule) ⊎ (rule ≤ a) → (a ≡ rule) ⊎ (a ≡ rule → ⊥) → (p < place) ⊎ (place ≤ p) → (rule < a) ⊎ ((rule ≡ a) × (place ≤ p))
            go (inl l) e q = absurd (n (so.complete k a p w (inl l) s))
            go (inr l) (inr e) q = inl (omega arith)
            go (inr l) (inl e) (inl q) = absurd (n (so.complete k a p w (inr (e, q)) s))
            go (inr l) (inl e) (inr q) = inr (sym e, q)

        named : (e : ClashFacts × Source) → Contains old e ⊎ ((IsWanted sought numbers (numbers_of e.0) × HasImage facts m.query [] (numbers_of e.0))
            × (HasKey old e.0 → ⊥) × (e.1 ≡ source))
            → IsShownFirst facts closures (numbers_of e.0) e.1.rule e.1.member
        named e (inl c) = All-contains (λ (x : ClashFacts × Source). IsShownFirst facts closures (numbers_of x.0) x.1.rule x.1.member) old e so.first c
        named e (inr (w, n, q)) =
            let here : IsShownFirst facts closures (numbers_of e.0) rule place = record { shown = (members, m, there, at, w.1); least = least e.0 w.0 n } in
            let r : e.1.rule ≡ rule = ap (λ (s : Source). s.rule) q ∙ rule_is in
            let p : e.1.member ≡ place = ap (λ (s : Source). s.member) q ∙ place_is in
            subst (λ a. IsShownFirst facts closures (numbers_of e.0) a e.1.member) (sym r)
            (subst (λ b. IsShownFirst facts closures (numbers_of e.0) rule b) (sym p) here)

        kept : (k : ClashFacts) → HasKey old k → HasKey new k
        kept k (s, c) = (s, adds.kept (k, s) c)

        here_shown : (k : ClashFacts) (a p : ℕ) → IsWanted sought numbers (numbers_of k) → a ≡ rule → p ≡ place → Shows facts closures a p (numbers_of k)
            → HasKey new k
        here_shown k a p w e f (ms, x, c, g, h) =
            let same : ms ≡ members = one_closure closures ascending rule ms members (subst (λ b. Contains closures (b, ms)) e c) there in
            let it : x ≡ m = some_inj (sym g ∙ ap (slice_get ms) f ∙ ap (λ (xs : List Member). slice_get xs place) same ∙ at) in
            adds.complete k (w, subst (λ (z : Member). HasImage facts z.query [] (numbers_of k)) it h)

        complete : (k : ClashFacts) (a p : ℕ) → IsWanted sought numbers (numbers_of k) → IsEarlier rule (suc place) a p
            → Shows facts closures a p (numbers_of k) → HasKey new k
        complete k a p w (inl l) s = kept k (so.complete k a p w (inl l) s)
        complete k a p w (inr (e, l)) s = elim (cases_lt p place) [
          | inl q ↦ kept k (so.complete k a p w (inr (e, q)) s)
          | inr q ↦ here_shown k a p w e (omega arith) s
        ]

    -- more than the limit
    pub scanned_many : (limit : ℕ) → HasMoreSets (IsNotedOrImage facts m.query (IsWithin sought numbers) old) limit
        → HasMoreSets (IsNotedOrShown facts closures sought numbers first) limit
    scanned_many limit more = more_weaker (IsNotedOrImage facts m.query (IsWithin sought numbers) old) (IsNotedOrShown facts closures sought numbers first)
        limit by more
      where
        entry : (set : List ℕ) (k : ClashFacts) (s : Source) → Contains old (k, s) → set ≡ numbers_of k → Contains first (k, s)
            ⊎ IsWanted sought numbers (numbers_of k) → IsNotedOrShown facts closures sought numbers first set
        entry set k s c e (inl d) = inl (k, (s, d), e)
        entry set k s c e (inr w) =
            let f = All-contains (λ (x : ClashFacts × Source). IsShownFirst facts closures (numbers_of x.0) x.1.rule x.1.member) old (k, s) so.first c in
            inr (
              subst (IsWithin sought numbers) (sym e) (wanted_within sought numbers (numbers_of k) w),
              (s.rule, s.member, subst (Shows facts closures s.rule s.member) (sym e) f.shown),
            )

        by : (set : List ℕ) → IsNotedOrImage facts m.query (IsWithin sought numbers) old set → IsNotedOrShown facts closures sought numbers first set
        by set (inl (k, (s, c), e)) = entry set k s c e (so.only (k, s) c)
        by set (inr (w, h)) = inr (w, (rule, place, (members, m, there, at, h)))

  -- ---- closure by closure

  -- the place is in one of the first closures
  abbrev pub IsInFirst : ℕ → ℕ → ℕ → Type 0
  IsInFirst i m p = (j : ℕ) × (ms : List Member) × (j < i) × (slice_get closures j ≡ Some (m, ms))

  module _ (ascending : AllPairs (λ c d. c.0 < d.0) closures) (i rule : ℕ) (members : List Member) (at : slice_get closures i ≡ Some (rule, members))
      (now : List (ClashFacts × Source)) where
    pub enters : IsScanned facts closures sought numbers (IsInFirst i) first now → IsScanned facts closures sought numbers (IsEarlier rule 0) first now
    enters so = scanned_weaker (IsInFirst i) (IsEarlier rule 0) now by so
      where
        placed : (m j : ℕ) (ms : List Member) → slice_get closures j ≡ Some (m, ms) → m < rule → (j < i) ⊎ (i ≤ j) → (i < j) ⊎ (j ≤ i) → IsInFirst i m 0
        placed m j ms e l (inl q) other = (j, ms, q, e)
        placed m j ms e l (inr q) (inl r) = absurd (let w = closure_before closures ascending i j (rule, members) (m, ms) r at e in omega (arith, w))
        placed m j ms e l (inr q) (inr r) = let same : i ≡ j = omega arith in let one =
            ap (λ (z : ℕ × List Member). z.0) (some_inj (sym at ∙ ap (slice_get closures) same ∙ e)) in absurd (omega (arith, one))

        by : (m p : ℕ) (set : List ℕ) → Shows facts closures m p set → IsEarlier rule 0 m p → IsInFirst i m p
        by m p set (ms, x, c, g, h) (inl l) = let w = slice_get-Contains closures (m, ms) c in placed m w.0 ms w.1 l (cases_lt w.0 i) (cases_lt i w.0)
        by m p set s (inr (e, l)) = absurd (omega arith)

    pub leaves : IsScanned facts closures sought numbers (IsEarlier rule (length members)) first now
        → IsScanned facts closures sought numbers (IsInFirst (suc i)) first now
    leaves so = scanned_weaker (IsEarlier rule (length members)) (IsInFirst (suc i)) now by so
      where
        same_number : (m j : ℕ) (ms : List Member) → slice_get closures j ≡ Some (m, ms) → j ≡ i → m ≡ rule
        same_number m j ms e q = ap (λ (z : ℕ × List Member). z.0) (some_inj (sym e ∙ ap (slice_get closures) q ∙ at))

        within : (m p : ℕ) (set : List ℕ) → Shows facts closures m p set → m ≡ rule → p < length members
        within m p set (ms, x, c, g, h) e =
            let same : ms ≡ members = one_closure closures ascending rule ms members (subst (λ b. Contains closures (b, ms)) e c)
            (Contains-slice_get closures i (rule, members) at) in
            subst (λ (xs : List Member). p < length xs) same (slice_get_within ms p x g)

        by : (m p : ℕ) (set : List ℕ) → Shows facts closures m p set → IsInFirst (suc i) m p → IsEarlier rule (length members) m p
        by m p set s (j, ms, l, e) = elim (cases_lt j i) [
          | inl q ↦ inl (closure_before closures ascending j i (m, ms) (rule, members) q e at)
          | inr q ↦ let r = same_number m j ms e (omega arith) in inr (r, within m p set s r)
        ]

  pub scanned_all : (n : ℕ) → length closures ≤ n → (now : List (ClashFacts × Source)) → IsScanned facts closures sought numbers (IsInFirst n) first now
      → IsScanned facts closures sought numbers (λ m p. Unit {0}) first now
  scanned_all n l now so = scanned_weaker (IsInFirst n) (λ m p. Unit {0}) now by so
    where
      by : (m p : ℕ) (set : List ℕ) → Shows facts closures m p set → Unit {0} → IsInFirst n m p
      by m p set (ms, x, c, g, h) u = let w = slice_get-Contains closures (m, ms) c in
          (w.0, ms, (let k = slice_get_within closures w.0 (m, ms) w.1 in omega (arith, k, l)), w.1)
