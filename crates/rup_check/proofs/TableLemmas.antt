-- The table of marks beside the list of marked literals.
use Rattle.std.proofs.Common.{◌≡◌, ℕ, suc, ◌<◌, ◌+◌, ◌-◌, ◌⊎◌, inl, inr, ◌↔◌, List, [], ◌∷◌, ◌++◌, length, take, drop, get_or, set, Contains, All}
use Rattle.std.proofs.Common.{replicate, Bool}
use Rattle.std.proofs.Common.{true, false, cond, refl, sym, subst, ap, ◌∙◌, append_assoc, arith}
use Rattle.std.proofs.Math.Seq.{take-append_seam}
use Rattle.std.proofs.lemmas.Bool.{cases_lt, false≢true, true≢false, false_from_ne_true}
use Rattle.std.proofs.lemmas.List.{get_or-replicate, get_or_past, get_or_default, get_or_append_left, get_or_push, length-replicate, length-set, length_push}
use Rattle.std.proofs.lemmas.List.{length-take-le, take-append-le, take-append-drop}
use Rattle.std.proofs.lemmas.List.Sums.{sum_by-set, count_by-le-length}
use Rattle.std.proofs.lemmas.List.Elements.{Contains-append_left, Contains-push, Contains-push_cases, Contains-get_or}
use Rattle.clause_meaning.proofs.Members.{Contains-nil, Contains-take_more_cases, Contains-take_more_left, Contains-take_more_at}
use Rattle.clause_meaning.specs.Marks.{HasMark}
use Rattle.clause_meaning.proofs.MarkLemmas.{HasMark-below, HasMark-set_cases, HasMark-set_at, HasMark-set_stays, HasMark-gone_cases, HasMark-gone_stays}
use Rattle.rup_check.specs.Table.{mark_count, AreDistinct, Agrees}

mark_count-set : (table : List Bool) (l : ℕ) → l < length table → (HasMark table l → ⊥) → mark_count (set table l true) ≡ mark_count table + 1
mark_count-set table l below free =
    counted (mark_count (set table l true)) (mark_count table) (get_or table l false) (false_from_ne_true (get_or table l false) free)
    (sum_by-set (λ (mark : Bool). cond mark 1 0) table l true false below)
  where
    counted : (n m : ℕ) (b : Bool) → b ≡ false → n + cond b 1 0 ≡ m + 1 → n ≡ m + 1
    counted n m true e h = absurd (true≢false e)
    counted n m false e h = omega arith

mark_count-unset : (table : List Bool) (l : ℕ) → l < length table → HasMark table l → mark_count (set table l false) + 1 ≡ mark_count table
mark_count-unset table l below marked =
    counted (mark_count (set table l false)) (mark_count table) (get_or table l false) marked
    (sum_by-set (λ (mark : Bool). cond mark 1 0) table l false false below)
  where
    counted : (n m : ℕ) (b : Bool) → b ≡ true → n + cond b 1 0 ≡ m + 0 → n + 1 ≡ m
    counted n m true e h = omega arith
    counted n m false e h = absurd (false≢true e)

distinct_push : (xs : List ℕ) (l : ℕ) → AreDistinct xs → (Contains xs l → ⊥) → AreDistinct (xs ++ l ∷ [])
distinct_push xs l distinct new i h m =
    elim (cases_lt i (length xs)) [
      | inl below ↦ distinct i below (subst (λ (ls : List ℕ). Contains ls (get_or xs i 0)) (take-append-le i xs (l ∷ []) (omega arith))
          (subst (Contains (take i (xs ++ l ∷ []))) (get_or_append_left xs (l ∷ []) 0 i below) m))
      | inr past ↦ (let long = length_push xs l in let at : length xs ≡ i = omega arith in
          new (subst (Contains xs) (get_or_push xs l 0 i at) (subst (λ (ls : List ℕ). Contains ls (get_or (xs ++ l ∷ []) i 0))
          (ap (λ (k : ℕ). take k (xs ++ l ∷ [])) (sym at) ∙ take-append_seam xs (l ∷ [])) m)))
    ]

distinct_front : (xs : List ℕ) (l : ℕ) → AreDistinct (xs ++ l ∷ []) → AreDistinct xs
distinct_front xs l distinct i h m =
    let long = length_push xs l in
    distinct i (omega arith) (subst (λ (ls : List ℕ). Contains ls (get_or (xs ++ l ∷ []) i 0)) (sym (take-append-le i xs (l ∷ []) (omega arith)))
    (subst (Contains (take i xs)) (sym (get_or_append_left xs (l ∷ []) 0 i h)) m))

newest_alone : (xs : List ℕ) (l : ℕ) → AreDistinct (xs ++ l ∷ []) → Contains xs l → ⊥
newest_alone xs l distinct m =
    let long = length_push xs l in
    distinct (length xs) (omega arith) (subst (λ (ls : List ℕ). Contains ls (get_or (xs ++ l ∷ []) (length xs) 0)) (sym (take-append_seam xs (l ∷ [])))
    (subst (Contains xs) (sym (get_or_push xs l 0 (length xs) refl)) m))

-- one more literal
pub Agrees-push : (table : List Bool) (literals : List ℕ) (l : ℕ) → Agrees table literals → l < length table → (Contains literals l → ⊥)
    → Agrees (set table l true) (literals ++ l ∷ [])
Agrees-push table literals l agrees below new = record {
  same = λ k. (
    λ m. elim (HasMark-set_cases table l k m) [
      | inl e ↦ subst (Contains (literals ++ l ∷ [])) e (Contains-push literals l)
      | inr old ↦ Contains-append_left literals (l ∷ []) k ((agrees.same k).0 old)
    ],
    λ m. elim (Contains-push_cases literals l k m) [
      | inl old ↦ HasMark-set_stays table l k below ((agrees.same k).1 old)
      | inr e ↦ HasMark-set_at table l k below e
    ],
  );
  counted =
      let more = mark_count-set table l below (λ m. new ((agrees.same l).0 m)) in
      let long = length_push literals l in
      let same = agrees.counted in
      omega arith;
  distinct = distinct_push literals l agrees.distinct new;
}

-- one literal less
pub Agrees-pop : (table : List Bool) (literals : List ℕ) (l : ℕ) → Agrees table (literals ++ l ∷ []) → Agrees (set table l false) literals
Agrees-pop table literals l agrees =
    let marked = (agrees.same l).1 (Contains-push literals l) in
    let below = HasMark-below table l marked in
    record {
      same = λ k. (
        λ m. let old = HasMark-gone_cases table l k below m in
            elim (Contains-push_cases literals l k ((agrees.same k).0 old.1)) [ inl t ↦ t | inr e ↦ absurd (old.0 (sym e)) ],
        λ m. HasMark-gone_stays table l k (λ e. newest_alone literals l agrees.distinct (subst (Contains literals) e m))
            ((agrees.same k).1 (Contains-append_left literals (l ∷ []) k m)),
      );
      counted = (let less = mark_count-unset table l below marked in omega (arith, less, agrees.counted, length_push literals l));
      distinct = distinct_front literals l agrees.distinct;
    }

-- a literal that isn't listed leaves room
pub fewer : (table : List Bool) (literals : List ℕ) (l : ℕ) → Agrees table literals → l < length table → (Contains literals l → ⊥)
    → length literals < length table
fewer table literals l agrees below new =
    let more = mark_count-set table l below (λ m. new ((agrees.same l).0 m)) in
    let few = count_by-le-length (λ (mark : Bool). mark) (set table l true) in
    let long = length-set table l true in
    let same = agrees.counted in
    omega arith

mark_count_none : (table : List Bool) → ((l : ℕ) → HasMark table l → ⊥) → mark_count table ≡ 0
mark_count_none [] h = refl
mark_count_none (true ∷ table) h = absurd (h 0 refl)
mark_count_none (false ∷ table) h = let rest = mark_count_none table (λ l m. h (suc l) m) in omega arith

pub Agrees-none : (table : List Bool) → ((l : ℕ) → HasMark table l → ⊥) → Agrees table []
Agrees-none table h = record {
  same = λ l. (λ m. absurd (h l m), λ m. absurd (Contains-nil l m));
  counted = sym (mark_count_none table h);
  distinct = λ i below m. absurd (omega arith);
}

pub nothing_marked : (n l : ℕ) → HasMark (replicate n false) l → ⊥
nothing_marked n l m = elim (cases_lt l n) [
  | inl h ↦ false≢true (sym (get_or-replicate n l false false h) ∙ m)
  | inr h ↦ false≢true (sym (get_or_past (replicate n false) l false (omega (arith, length-replicate n false))) ∙ m)
]

-- the listed literals are places of the table
pub listed_below : (table : List Bool) (literals : List ℕ) → Agrees table literals → All (λ l. l < length table) literals
listed_below table literals agrees k d h =
    HasMark-below table (get_or literals k d) ((agrees.same (get_or literals k d)).1 (Contains-get_or literals k d h))

-- what is among the items after one more
pub pushed : (xs ys : List ℕ) (x : ℕ) → ys ≡ xs ++ x ∷ [] → (k : ℕ) → Contains ys k ↔ (Contains xs k ⊎ (k ≡ x))
pushed xs ys x e k = (
  λ m. elim (Contains-push_cases xs x k (subst (λ (zs : List ℕ). Contains zs k) e m)) [ inl old ↦ inl old | inr s ↦ inr (sym s) ],
  λ m. subst (λ (zs : List ℕ). Contains zs k) (sym e) (either m),
)
  where
    either : Contains xs k ⊎ (k ≡ x) → Contains (xs ++ x ∷ []) k
    either (inl old) = Contains-append_left xs (x ∷ []) k old
    either (inr s) = subst (Contains (xs ++ x ∷ [])) (sym s) (Contains-push xs x)

-- the second of two may be another
pub either_more : (A B C : Type 0) → (B → C) → A ⊎ B → A ⊎ C
either_more A B C f (inl a) = inl a
either_more A B C f (inr b) = inr (f b)

-- the listed literals after one more that may be listed, for the first i literals after those that were listed before, and one more
pub marked_more : (first old new literals : List ℕ) (i : ℕ) → i < length literals
    → ((k : ℕ) → Contains old k ↔ (Contains first k ⊎ Contains (take i literals) k))
    → ((k : ℕ) → Contains new k ↔ (Contains old k ⊎ (k ≡ get_or literals i 0)))
    → (k : ℕ) → Contains new k ↔ (Contains first k ⊎ Contains (take (i + 1) literals) k)
marked_more first old new literals i h before once k = (λ m. forth ((once k).0 m), λ m. back m)
  where
    forth : Contains old k ⊎ (k ≡ get_or literals i 0) → Contains first k ⊎ Contains (take (i + 1) literals) k
    forth (inl o) = either_more (Contains first k) (Contains (take i literals) k) (Contains (take (i + 1) literals) k)
        (λ t. Contains-take_more_left literals i k t) ((before k).0 o)
    forth (inr e) = inr (Contains-take_more_at literals i k h (get_or_default literals i k 0 h ∙ sym e))

    back : Contains first k ⊎ Contains (take (i + 1) literals) k → Contains new k
    back (inl f) = (once k).1 (inl ((before k).1 (inl f)))
    back (inr t) = elim (Contains-take_more_cases literals i 0 k h t) [
      | inl u ↦ (once k).1 (inl ((before k).1 (inr u)))
      | inr e ↦ (once k).1 (inr (sym e))
    ]

-- literals that come after those that came after others
pub later_twice : (old new newer : List ℕ) → (later : List ℕ) × (new ≡ old ++ later) → (later : List ℕ) × (newer ≡ new ++ later)
    → (later : List ℕ) × (newer ≡ old ++ later)
later_twice old new newer a b = (a.0 ++ b.0, b.1 ∙ (ap (λ (ls : List ℕ). ls ++ b.0) a.1 ∙ append_assoc old a.0 b.0))

-- the newest is taken away, where more than n are left
pub cut_more : (n : ℕ) (old new first : List ℕ) → n < length old → new ≡ take (length old - 1) old → take n old ≡ first → take n new ≡ first
cut_more n old new first h is same =
    let long = length-take-le (length old - 1) old (omega arith) in
    ap (take n) is ∙ (sym (take-append-le n (take (length old - 1) old) (drop (length old - 1) old) (omega arith))
    ∙ (ap (take n) (take-append-drop (length old - 1) old) ∙ same))

-- what was marked after a number of literals is taken away again
pub cut_back : (old new cut : List ℕ) (len : ℕ) → len ≡ length old → (later : List ℕ) × (new ≡ old ++ later) → cut ≡ take len new → cut ≡ old
cut_back old new cut len e more is =
    is ∙ (ap (take len) more.1 ∙ (ap (λ (n : ℕ). take n (old ++ more.0)) e ∙ take-append_seam old more.0))
