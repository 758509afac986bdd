-- Slots that get the number of clauses before them, and references that get new places.
use Rattle.std.proofs.Common.{◌≡◌, ℕ, zero, suc, ◌<◌, ◌≤◌, ◌+◌, inl, inr, List, [], ◌∷◌, ◌++◌, length, get_or, set, take, drop, map, get_or-set_same}
use Rattle.std.proofs.Common.{get_or-set_other, refl, sym, ap, ◌∙◌, arith}
use Rattle.std.proofs.lemmas.Bool.{cases_eq}
use Rattle.std.proofs.Math.Seq.{map-set_same}
use Rattle.clause_arena.specs.declared.slots.Slot.{Slot}
use Rattle.clause_arena.specs.Slots.{contents, full_in, full_count, AreRanked}
use Rattle.clause_arena.proofs.Contents.{contents_at, length-contents}
use Rattle.clause_arena.proofs.Changes.{full_count_more}

-- the first i slots have their numbers, and no slot has another clause than before
pub record RanksTo (old slots : List Slot) (count i : ℕ) : Type 0 where
  pub same : contents slots ≡ contents old
  pub counted : count ≡ full_count (take i (contents old))
  pub few : count ≤ i
  pub ranked : (k : ℕ) (d : Slot) → k < i → (get_or slots k d).rank ≡ full_count (take k (contents old))

pub RanksTo-none : (slots : List Slot) → RanksTo slots slots 0 0
RanksTo-none slots = record { same = refl; counted = refl; few = omega arith; ranked = λ k d h. absurd (omega arith) }

full_in_one : (xs : List ℕ) → full_in xs ≤ 1
full_in_one [] = omega arith
full_in_one (x ∷ xs) = omega arith

pub RanksTo-more : (old slots : List Slot) (count i more : ℕ) (slot d : Slot) → RanksTo old slots count i → i < length slots
    → slot.literals.items ≡ (get_or slots i d).literals.items → slot.rank ≡ count → more ≡ full_in slot.literals.items
    → RanksTo old (set slots i slot) (count + more) (i + 1)
RanksTo-more old slots count i more slot d h below literals rank is_more =
    let long : i < length (contents old) = omega (arith, below, length-contents slots, ap length h.same) in
    let at : get_or (contents old) i [] ≡ slot.literals.items = ap (λ (xs : List (List ℕ)). get_or xs i []) (sym h.same)
    ∙ (contents_at slots i d below ∙ sym literals) in
    let next = full_count_more (contents old) i long in
    let full = ap full_in at in
    let one = full_in_one slot.literals.items in
    record {
      same = map-set_same (λ (s : Slot). s.literals.items) slots i slot d literals ∙ h.same;
      counted = omega (arith, h.counted, next, full, is_more);
      few = omega (arith, h.few, one, is_more);
      ranked = λ k e below_next. elim (cases_eq k i) [
        | inl same ↦ ap (λ (j : ℕ). (get_or (set slots i slot) j e).rank) same ∙ (ap (λ (s : Slot). s.rank) (get_or-set_same slots i slot e below)
            ∙ (rank ∙ (h.counted ∙ ap (λ (j : ℕ). full_count (take j (contents old))) (sym same))))
        | inr other ↦ ap (λ (s : Slot). s.rank) (get_or-set_other slots i k slot e other) ∙ h.ranked k e (omega arith)
      ];
    }

-- at the end each slot has its number
pub RanksTo-all : (old slots : List Slot) (count i : ℕ) → RanksTo old slots count i → length slots ≤ i → AreRanked slots
RanksTo-all old slots count i h all k d below = h.ranked k d (omega arith) ∙ ap (λ (xs : List (List ℕ)). full_count (take k xs)) (sym h.same)

-- an item that isn't mapped yet
pub rest_at : {X : Type 0} (f : X → X) (xs : List X) (i : ℕ) (d : X) → i < length xs → get_or (map f (take i xs) ++ drop i xs) i d ≡ get_or xs i d
rest_at f [] i d h = absurd (omega arith)
rest_at f (x ∷ xs) zero d h = refl
rest_at f (x ∷ xs) (suc i) d h = rest_at f xs i d (omega arith)

pub rest_long : {X : Type 0} (f : X → X) (xs : List X) (i : ℕ) → i < length xs → i < length (map f (take i xs) ++ drop i xs)
rest_long f [] i h = absurd (omega arith)
rest_long f (x ∷ xs) zero h = h
rest_long f (x ∷ xs) (suc i) h = let rest = rest_long f xs i (omega arith) in omega (arith, rest)
