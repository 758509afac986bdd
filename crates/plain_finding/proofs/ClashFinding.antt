-- The hits without a tuple of the members of all disjointnesses tell the conflicts.
use Rattle.std.proofs.Common.{◌≡◌, ◌↔◌, ℕ, ◌<◌, ◌≤◌, ◌⊎◌, ◌^◌, inl, inr, List, [], ◌∷◌, ◌++◌}
use Rattle.std.proofs.Common.{length, map, filter, Contains, AllPairs, Option, Some, None, refl, sym, subst, ap}
use Rattle.std.proofs.Common.{◌∙◌, arith, get_or, Bool, true, false, not, cond, ◌||◌}
use Rattle.std.specs.List.{filter_map, cons_option}
use Rattle.std.specs.Ordering.{nat_cmp, ordering_then}
use Rattle.std.specs.Cmp.Lexicographic.{slice_cmp}
use Rattle.std.specs.declared.cmp.Ordering.TheVariants.{Less}
use Rattle.std.proofs.lemmas.List.Elements.{Contains-get_or, All-contains}
use Rattle.std.proofs.lemmas.List.Kept.{AllPairs-cons}
use Rattle.cq_terms.specs.declared.facts.Fact.{Fact}
use Rattle.cq_terms.specs.declared.hits.Clash.{Clash}
use Rattle.cq_terms.specs.declared.hits.Hit.{Hit}
use Rattle.cq_terms.specs.Conflicts.{ConflictGraph, AreClashes, IsBefore, IsOneOrTwo, single, couple, own_facts, couples}
use Rattle.cq_terms.specs.Knowledge.{Knowledge, AreDistinct}
use Rattle.cq_terms.specs.Lists.{IsAscending}
use Rattle.cq_terms.specs.Query.{Query}
use Rattle.cq_meaning.specs.ConflictGraphs.{AreConflictsOf}
use Rattle.cq_meaning.specs.Conflicts.{AreConflicts}
use Rattle.cq_meaning.specs.RewritingLaws.{IsForbidden}
use Rattle.cq_meaning.proofs.Ascending.{All-of}
use Rattle.cq_meaning.proofs.Listed.{append_cases}
use Rattle.clause_meaning.proofs.Members.{Contains-map_cases}
use Rattle.query_matching.specs.Hits as hits_of_query
use Rattle.plain_match.specs.Hits.{AreHitsOfAll, IsHitOfAny}
use Rattle.priority_graph.specs.Split.{has}
use Rattle.report_rules.specs.Inputs.{report_on}
use Rattle.report_laws.specs.HitLaws.{IsHit, AreInOrder, owns_of, pairs_of}
use Rattle.report_laws.proofs.HitLemmas as hit_laws
use Rattle.report_laws.proofs.ListLemmas.{AllPairs-head, AllPairs-tail, AllPairs-append}
use Rattle.report_laws.proofs.ScopeLemmas.{second}
use Rattle.report_laws.proofs.TestLemmas.{Contains-filter_map, filter_map-Contains}
use Rattle.plain_finding.specs.Clashes.{own_in, couple_in, owns_in, has_neither, pairs_in, wanted, own_clash, couple_clash, clashes_in}
use Rattle.plain_finding.specs.Ready.{TellConflicts}

-- ---- the images of the hits without a tuple

abbrev image_in : List ℕ → List ℕ → Option (List ℕ)
image_in [] image = Some image
image_in (c ∷ tuple) image = None

abbrev images_in : List Hit → List (List ℕ)
images_in hits = filter_map (λ (h : Hit). image_in h.tuple h.image) hits

own_step : (tuple image : List ℕ) (owns : List ℕ) (images : List (List ℕ)) → owns ≡ filter_map single images
    → cons_option (own_in tuple image) owns ≡ filter_map single (cons_option (image_in tuple image) images)
own_step [] image owns images e = ap (cons_option (single image)) e
own_step (c ∷ tuple) image owns images e = e

owns_same : (hits : List Hit) → owns_in hits ≡ owns_of (images_in hits)
owns_same [] = refl
owns_same (h ∷ hits) = own_step h.tuple h.image (owns_in hits) (images_in hits) (owns_same hits)

couple_step : (tuple image : List ℕ) (pairs : List (ℕ × ℕ)) (images : List (List ℕ)) → pairs ≡ filter_map couple images
    → cons_option (couple_in tuple image) pairs ≡ filter_map couple (cons_option (image_in tuple image) images)
couple_step [] image pairs images e = ap (cons_option (couple image)) e
couple_step (c ∷ tuple) image pairs images e = e

couples_same : (hits : List Hit) → filter_map (λ (h : Hit). couple_in h.tuple h.image) hits ≡ filter_map couple (images_in hits)
couples_same [] = refl
couples_same (h ∷ hits) = couple_step h.tuple h.image (filter_map (λ (x : Hit). couple_in x.tuple x.image) hits) (images_in hits) (couples_same hits)

pairs_same : (hits : List Hit) → pairs_in (owns_in hits) hits ≡ pairs_of (images_in hits)
pairs_same hits = ap (λ (xs : List (ℕ × ℕ)). filter (has_neither (owns_in hits)) xs) (couples_same hits)
    ∙ ap (λ (os : List ℕ). filter (has_neither os) (filter_map couple (images_in hits))) (owns_same hits)

image_is : (tuple image numbers : List ℕ) → image_in tuple image ≡ Some numbers → (tuple ≡ []) × (image ≡ numbers)
image_is [] image numbers e = let same : image ≡ numbers = cc e in (refl, same)
image_is (c ∷ tuple) image numbers e = absurd (cc e)

-- they are what the queries match with
images_hit : (facts : List Fact) (members : List Query) (hits : List Hit) → AreHitsOfAll facts members hits → (numbers : List ℕ)
    → Contains (images_in hits) numbers ↔ IsHit facts members [] numbers
images_hit facts members hits are numbers = (
  (λ m.
      let (h, k, e) = Contains-filter_map (λ (x : Hit). image_in x.tuple x.image) hits numbers m in
      let same = image_is h.tuple h.image numbers e in
      let hit = each h k in
      subst (λ (t : List ℕ). IsHit facts members t numbers) same.0 (subst (λ (i : List ℕ). IsHit facts members h.tuple i) same.1 hit)),
  (λ h. filter_map-Contains (λ (x : Hit). image_in x.tuple x.image) hits (record { tuple = []; image = numbers }) numbers
      (are.complete (record { tuple = []; image = numbers }) h) refl),
)
  where
    each : (h : Hit) → Contains hits h → IsHit facts members h.tuple h.image
    each h k = All-contains (IsHitOfAny facts members) hits h are.each k

kept_pairs : {X Y : Type 0} (R : X → X → Type 0) (Q : Y → Y → Type 0) (f : X → Option Y)
    → ((x y : X) (a b : Y) → R x y → f x ≡ Some a → f y ≡ Some b → Q a b) → (xs : List X) → AllPairs R xs → AllPairs Q (filter_map f xs)
kept_pairs R Q f keeps [] h = λ i j d l m. absurd (omega arith)
kept_pairs {X} {Y} R Q f keeps (x ∷ xs) h = go (f x) refl (kept_pairs R Q f keeps xs (AllPairs-tail R x xs h))
  where
    go : (o : Option Y) → f x ≡ o → AllPairs Q (filter_map f xs) → AllPairs Q (cons_option o (filter_map f xs))
    go None e again = again
    go (Some a) e again = AllPairs-cons Q a (filter_map f xs) (All-of (Q a) (filter_map f xs)
        (λ b m. let (y, k, g) = Contains-filter_map f xs b m in keeps x y a b (AllPairs-head R x xs h y k) e g)) again

-- and in order
images_ordered : (hits : List Hit) → AllPairs hits_of_query.IsBefore hits → AreInOrder (images_in hits)
images_ordered hits order = kept_pairs hits_of_query.IsBefore (λ (a b : List ℕ). slice_cmp nat_cmp a b ≡ Less)
    (λ (h : Hit). image_in h.tuple h.image) keeps hits order
  where
    keeps : (x y : Hit) (a b : List ℕ) → hits_of_query.IsBefore x y → image_in x.tuple x.image ≡ Some a → image_in y.tuple y.image ≡ Some b
        → slice_cmp nat_cmp a b ≡ Less
    keeps x y a b before e f =
        let left = image_is x.tuple x.image a e in
        let right = image_is y.tuple y.image b f in
        let first = subst (λ (t : List ℕ). ordering_then (slice_cmp nat_cmp t y.tuple) (slice_cmp nat_cmp x.image y.image) ≡ Less) left.0 before in
        let both = subst (λ (t : List ℕ). ordering_then (slice_cmp nat_cmp [] t) (slice_cmp nat_cmp x.image y.image) ≡ Less) right.0 first in
        subst (λ (i : List ℕ). slice_cmp nat_cmp i b ≡ Less) left.1 (subst (λ (i : List ℕ). slice_cmp nat_cmp x.image i ≡ Less) right.1 both)

-- ---- the conflicts

-- the single facts and the pairs are those of the knowledge base
pub hits_tell : (kb : Knowledge) (queries : List Query) (hits : List Hit) → AreDistinct kb.facts → TellConflicts kb queries
    → AreHitsOfAll kb.facts queries hits → AreConflicts kb (owns_in hits) (pairs_in (owns_in hits) hits)
hits_tell kb queries hits distinct ready are = subst (λ (os : List ℕ). AreConflicts kb os (pairs_in (owns_in hits) hits)) (sym (owns_same hits))
    (subst (λ (ps : List (ℕ × ℕ)). AreConflicts kb (owns_of (images_in hits)) ps) (sym (pairs_same hits))
    (hit_laws.conflicts kb distinct (images_in hits) (images_ordered hits are.ascending) exact))
  where
    exact : (numbers : List ℕ) → Contains (images_in hits) numbers ↔ IsForbidden kb numbers
    exact numbers =
        let told = hit_laws.forbidden (report_on kb ready.names ready.query) ready.before ready.right ready.over numbers in
        let found = images_hit kb.facts queries hits are numbers in
        let there = subst (λ (ms : List Query). Contains (images_in hits) numbers ↔ IsHit kb.facts ms [] numbers) ready.kept found in
        ((λ m. told.1 (there.0 m)), (λ f. there.1 (told.0 f)))

-- ---- their clashes

none_own : (pairs : List (ℕ × ℕ)) → own_facts (map couple_clash pairs) ≡ []
none_own [] = refl
none_own (p ∷ pairs) = none_own pairs

owns_back : (owns : List ℕ) (pairs : List (ℕ × ℕ)) → own_facts (map own_clash owns ++ map couple_clash pairs) ≡ owns
owns_back [] pairs = none_own pairs
owns_back (i ∷ owns) pairs = ap (λ (xs : List ℕ). i ∷ xs) (owns_back owns pairs)

all_couples : (pairs : List (ℕ × ℕ)) → couples (map couple_clash pairs) ≡ pairs
all_couples [] = refl
all_couples (p ∷ pairs) = ap (λ (xs : List (ℕ × ℕ)). p ∷ xs) (all_couples pairs)

couples_back : (owns : List ℕ) (pairs : List (ℕ × ℕ)) → couples (map own_clash owns ++ map couple_clash pairs) ≡ pairs
couples_back [] pairs = all_couples pairs
couples_back (i ∷ owns) pairs = couples_back owns pairs

any_two : {X : Type 0} (R : X → X → Type 0) (xs : List X) → ((x y : X) → Contains xs x → Contains xs y → R x y) → AllPairs R xs
any_two R xs h i j d l m = h (get_or xs i d) (get_or xs j d) (Contains-get_or xs i d (omega arith)) (Contains-get_or xs j d m)

one_long : (owns : List ℕ) (c : Clash) → Contains (map own_clash owns) c → length c.facts ≡ 1
one_long owns c m = let (i, k, e) = Contains-map_cases own_clash owns c m in ap (λ (d : Clash). length d.facts) (sym e)

two_long : (pairs : List (ℕ × ℕ)) (c : Clash) → Contains (map couple_clash pairs) c → length c.facts ≡ 2
two_long pairs c m = let (p, k, e) = Contains-map_cases couple_clash pairs c m in ap (λ (d : Clash). length d.facts) (sym e)

module _ (kb : Knowledge) (owns : List ℕ) (pairs : List (ℕ × ℕ)) (are : AreConflicts kb owns pairs) where
  each_known : (n : ℕ) → n ≡ length kb.facts → (c : Clash) → Contains (map own_clash owns ++ map couple_clash pairs) c → IsOneOrTwo n c.facts
  each_known n size c m = elim (append_cases (map own_clash owns) (map couple_clash pairs) c m) [
    | inl k ↦ let (i, l, e) = Contains-map_cases own_clash owns c k in subst (λ (d : Clash). IsOneOrTwo n d.facts) e (own i l)
    | inr k ↦ let (p, l, e) = Contains-map_cases couple_clash pairs c k in subst (λ (d : Clash). IsOneOrTwo n d.facts) e (pair p l)
  ]
    where
      own : (i : ℕ) → Contains owns i → i < n
      own i l = let w = (are.owns_exact i).0 l in omega (arith, w.0, size)

      pair : (p : ℕ × ℕ) → Contains pairs p → (p.0 < p.1) × (p.1 < n)
      pair p l = let w = (are.pairs_exact p.0 p.1).0 l in (w.0, let below = second kb p.0 p.1 w.1 in omega (arith, below, size))

  shorter_first : AllPairs (λ (c d : Clash). length c.facts ≤ length d.facts) (map own_clash owns ++ map couple_clash pairs)
  shorter_first = AllPairs-append (λ (c d : Clash). length c.facts ≤ length d.facts) (map own_clash owns) (map couple_clash pairs)
      (any_two (λ (c d : Clash). length c.facts ≤ length d.facts) (map own_clash owns) (λ x y m k. omega (arith, one_long owns x m, one_long owns y k)))
      (any_two (λ (c d : Clash). length c.facts ≤ length d.facts) (map couple_clash pairs) (λ x y m k. omega (arith, two_long pairs x m, two_long pairs y k)))
      (λ x y m k. omega (arith, one_long owns x m, two_long pairs y k))

  -- they are clashes of a table
  pub clashes_kept : (n : ℕ) → n ≡ length kb.facts → n ≤ 2 ^ 31 → length (map own_clash owns ++ map couple_clash pairs) < 2 ^ 31
      → AreClashes n (map own_clash owns ++ map couple_clash pairs)
  clashes_kept n size few_facts few = record {
    few_facts = few_facts;
    few = few;
    each = All-of (λ (c : Clash). IsOneOrTwo n c.facts) (map own_clash owns ++ map couple_clash pairs) (each_known n size);
    own_first = shorter_first;
    own_ascending = subst IsAscending (sym (owns_back owns pairs)) are.owns_ascending;
    couples_ascending = subst (λ (ps : List (ℕ × ℕ)). AllPairs IsBefore ps) (sym (couples_back owns pairs)) are.pairs_ascending;
    apart = λ i j own conflict. apart i j (subst (λ (os : List ℕ). Contains os i) (owns_back owns pairs) own) (elim conflict [
      | inl m ↦ inl (subst (λ (ps : List (ℕ × ℕ)). Contains ps (i, j)) (couples_back owns pairs) m)
      | inr m ↦ inr (subst (λ (ps : List (ℕ × ℕ)). Contains ps (j, i)) (couples_back owns pairs) m)
    ]);
  }
    where
      apart : (i j : ℕ) → Contains owns i → Contains pairs (i, j) ⊎ Contains pairs (j, i) → ⊥
      apart i j own (inl m) = ((are.owns_exact i).0 own).1 ((are.pairs_exact i j).0 m).1.left
      apart i j own (inr m) = ((are.owns_exact i).0 own).1 ((are.pairs_exact j i).0 m).1.right

  -- and those of the knowledge base
  pub clashes_are : (n : ℕ) → n ≡ length kb.facts
      → AreConflictsOf kb (record { facts = n; clashes = map own_clash owns ++ map couple_clash pairs })
  clashes_are n size = record {
    facts = size;
    exact = subst (λ (os : List ℕ). AreConflicts kb os (couples (map own_clash owns ++ map couple_clash pairs))) (sym (owns_back owns pairs))
        (subst (λ (ps : List (ℕ × ℕ)). AreConflicts kb owns ps) (sym (couples_back owns pairs)) are);
  }

-- ---- one hit more

-- a hit in front adds its pair where that is wanted
pub pairs_more : (owns : List ℕ) (o : Option (ℕ × ℕ)) (rest : List (ℕ × ℕ))
    → filter (has_neither owns) (cons_option o rest) ≡ cons_option (wanted owns o) (filter (has_neither owns) rest)
pairs_more owns None rest = refl
pairs_more owns (Some p) rest = by (has owns p.0 || has owns p.1)
  where
    by : (t : Bool) → cond (not t) (p ∷ filter (has_neither owns) rest) (filter (has_neither owns) rest)
        ≡ cons_option (cond t None (Some p)) (filter (has_neither owns) rest)
    by true = refl
    by false = refl

-- ---- as the code has them

abbrev graph : ℕ → List Clash → ConflictGraph
graph n cs = record { facts = n; clashes = cs }

-- the hits of these facts are those of the knowledge base
pub hits_of_table : (kb : Knowledge) (plain : List Fact) (given queries : List Query) (hits : List Hit) → plain ≡ kb.facts → given ≡ queries
    → AreHitsOfAll plain given hits → AreHitsOfAll kb.facts queries hits
hits_of_table kb plain given queries hits e f are = subst (λ (qs : List Query). AreHitsOfAll kb.facts qs hits) f
    (subst (λ (fs : List Fact). AreHitsOfAll fs given hits) e are)

-- the clashes of such hits are clashes of a table, and those of the knowledge base
pub found_kept : (kb : Knowledge) (queries : List Query) (hits : List Hit) (clashes : List Clash) (n : ℕ) → AreDistinct kb.facts
    → TellConflicts kb queries → AreHitsOfAll kb.facts queries hits → clashes ≡ clashes_in hits → n ≡ length kb.facts → n ≤ 2 ^ 31
    → length clashes < 2 ^ 31 → AreClashes n clashes
found_kept kb queries hits clashes n distinct ready are is size few_facts few = subst (AreClashes n) (sym is)
    (clashes_kept kb (owns_in hits) (pairs_in (owns_in hits) hits) (hits_tell kb queries hits distinct ready are) n size few_facts
    (subst (λ (cs : List Clash). length cs < 2 ^ 31) is few))

pub found_are : (kb : Knowledge) (queries : List Query) (hits : List Hit) (clashes : List Clash) (n : ℕ) → AreDistinct kb.facts
    → TellConflicts kb queries → AreHitsOfAll kb.facts queries hits → clashes ≡ clashes_in hits → n ≡ length kb.facts
    → AreConflictsOf kb (record { facts = n; clashes = clashes })
found_are kb queries hits clashes n distinct ready are is size = subst (λ (cs : List Clash). AreConflictsOf kb (graph n cs)) (sym is)
    (clashes_are kb (owns_in hits) (pairs_in (owns_in hits) hits) (hits_tell kb queries hits distinct ready are) n size)
