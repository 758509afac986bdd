-- The lists stay complete as clauses come and go, and what a checker shows of the places.
use Rattle.std.proofs.Common.{◌≡◌, ◌≢◌, ℕ, ◌<◌, ◌+◌, inl, inr, List, [], ◌∷◌, ◌++◌, length, set, Option, Some, None, Bor, IfSome, option_copied, refl, sym}
use Rattle.std.proofs.Common.{subst, ap, ◌∙◌, arith}
use Rattle.std.proofs.lemmas.List.{length-set, length_push}
use Rattle.clause_meaning.specs.Literals.{AreBelow}
use Rattle.rup_check.specs.State.{Numbered, State, without}
use Rattle.rup_check.specs.Slots.{live_from}
use Rattle.rup_check.specs.Listed.{Listed, IsListed, KeepsOthers}
use Rattle.rup_check.specs.Stocked.{AreListed}
use Rattle.rup_check.proofs.SlotLemmas.{IsAt-below, IsAt-push_cases, IsAt-set_cases, live_from-push, live_from-free}

listed_still : (number n : ℕ) (c : List ℕ) (old new : Listed) → KeepsOthers number old new → n ≢ number → IsListed old n c → IsListed new n c
listed_still number n c old new keeps d listed = record {
  by_literal = λ l m. keeps.by_literal l n d (listed.by_literal l m);
  short = elim listed.short [ inl two ↦ inl two | inr m ↦ inr (keeps.short n d m) ];
  empty = λ e. keeps.empty n d (listed.empty e);
}

-- a number that no clause has may have come or gone
pub AreListed-others : (variables number : ℕ) (slots : List (Option (List ℕ))) (old new : Listed) → number ≡ length slots → AreListed variables slots old
    → KeepsOthers number old new → AreListed variables slots new
AreListed-others variables number slots old new e kept keeps = record {
  in_range = kept.in_range;
  listed = λ n c is. let below = IsAt-below slots n c is in listed_still number n c old new keeps (λ s. omega arith) (kept.listed n c is);
}

-- one more clause, whose number is in its lists
pub AreListed-push : (variables number : ℕ) (slots : List (Option (List ℕ))) (d : List ℕ) (old new : Listed) → number ≡ length slots
    → AreListed variables slots old
    → KeepsOthers number old new → IsListed new number d → AreBelow variables d → AreListed variables (slots ++ Some d ∷ []) new
AreListed-push variables number slots d old new e kept keeps last in_range = record {
  in_range = λ n c is. elim (IsAt-push_cases slots d c n is) [
    | inl before ↦ kept.in_range n c before
    | inr now ↦ subst (AreBelow variables) now.1 in_range
  ];
  listed = λ n c is. elim (IsAt-push_cases slots d c n is) [
    | inl before ↦ (let below = IsAt-below slots n c before in listed_still number n c old new keeps (λ s. omega arith) (kept.listed n c before))
    | inr now ↦ subst (λ (i : ℕ). IsListed new i c) (e ∙ sym now.0) (subst (IsListed new number) now.1 last)
  ];
}

-- one clause less
pub AreListed-free : (variables k : ℕ) (slots : List (Option (List ℕ))) (old new : Listed) → k < length slots → AreListed variables slots old
    → KeepsOthers k old new → AreListed variables (set slots k None) new
AreListed-free variables k slots old new h kept keeps = record {
  in_range = λ n c is. let before = IsAt-set_cases slots k n c h is in kept.in_range n c before.1;
  listed = λ n c is. let before = IsAt-set_cases slots k n c h is in listed_still k n c old new keeps before.0 (kept.listed n c before.1);
}

-- what holds of the list that may be lent
pub IfSome-from_copied : (r : Option (Bor (List ℕ))) (P : List ℕ → Type 0) → ((c : List ℕ) → option_copied r ≡ Some c → P c) → IfSome r (λ lent. P lent.now)
IfSome-from_copied None P h = tt
IfSome-from_copied (Some lent) P h = h lent.now refl

-- what is shown after one more clause
pub shown-push : (variables : ℕ) (slots : List (Option (List ℕ))) (c : List ℕ) (made : State)
    → made ≡ record { variables = variables; live = live_from 0 (slots ++ Some c ∷ []); next = length (slots ++ Some c ∷ []) }
    → made ≡ record { variables = variables; live = live_from 0 slots ++ record { number = length slots; literals = c } ∷ []; next = length slots + 1 }
shown-push variables slots c made is =
    let live : live_from 0 (slots ++ Some c ∷ []) ≡ live_from 0 slots ++ record { number = length slots; literals = c } ∷ [] =
    live_from-push 0 slots c ∙ ap (λ (n : ℕ). live_from 0 slots ++ record { number = n; literals = c } ∷ []) (omega arith) in
    is ∙ (ap (λ (l : List Numbered). record { variables = variables; live = l; next = length (slots ++ Some c ∷ []) }) live
    ∙ ap (λ (n : ℕ). record { variables = variables; live = live_from 0 slots ++ record { number = length slots; literals = c } ∷ []; next = n })
    (length_push slots (Some c)))

-- what is shown after one clause less
pub shown-free : (variables k : ℕ) (slots : List (Option (List ℕ))) (made : State) → k < length slots
    → made ≡ record { variables = variables; live = live_from 0 (set slots k None); next = length (set slots k None) }
    → made ≡ record { variables = variables; live = without (live_from 0 slots) k; next = length slots }
shown-free variables k slots made h is =
    let live : live_from 0 (set slots k None) ≡ without (live_from 0 slots) k = live_from-free 0 slots k h ∙ ap (without (live_from 0 slots)) (omega arith) in
    is ∙ (ap (λ (l : List Numbered). record { variables = variables; live = l; next = length (set slots k None) }) live
    ∙ ap (λ (n : ℕ). record { variables = variables; live = without (live_from 0 slots) k; next = n }) (length-set slots k None))
