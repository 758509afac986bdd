-- Counts of variables, as literals of a clause raise and lower them.
use Rattle.std.proofs.Common.{◌≡◌, ◌≢◌, ℕ, ◌<◌, ◌≤◌, ◌+◌, ◌-◌, inl, inr, Option, List, [], ◌∷◌, length, take, get_or, get_or-set_other, Contains, Bool, true}
use Rattle.std.proofs.Common.{false, cond, not, eqb, sym, subst, ap, ◌∙◌, arith}
use Rattle.std.proofs.lemmas.Bool.{cases_eq, ne_eqb, eq-eqb}
use Rattle.std.proofs.lemmas.List.Elements.{All-filter}
use Rattle.std.proofs.lemmas.List.Kept.{AllPairs-filter}
use Rattle.std.proofs.lemmas.List.Sums.{sum_by-take-le}
use Rattle.clause_meaning.specs.Literals.{variable_of, HaveDistinctVariables}
use Rattle.clause_meaning.proofs.Members.{Contains-nil, Contains-cons_cases}
use Rattle.clause_arena.specs.State.{HeldClause, AreAscending, without}
use Rattle.cdcl_trail.specs.State.{State as Trail, count_of, with_count}
use Rattle.cdcl_core.specs.declared.labels.Selection.{Selection}
use Rattle.cdcl_core.specs.Labels.{DropsIf}
use Rattle.cdcl_core.specs.Store.{tally, occurrences, IsProper, AreProper, OnlyCounts}
use Rattle.cdcl_core.proofs.Tallies.{counts_at, tally_more, tally_fresh, counts_at_same, counts_at_other, occurrences-cons}
use Rattle.clause_arena.proofs.Changes.{without_none}
use Rattle.cdcl_core.proofs.Walks.{RisesFrom, RisesFrom-above, RisesFrom-ascending}

-- another count of one variable
count_of_other : (trail : Trail) (v n w : ℕ) → w ≢ v → count_of (with_count trail v n) w ≡ count_of trail w
count_of_other trail v n w d = get_or-set_other trail.counts v w n 0 d

pub OnlyCounts-trans : (a b c : Trail) → OnlyCounts a b → OnlyCounts b c → OnlyCounts a c
OnlyCounts-trans a b c g h = h ∙ ap (λ (t : Trail). record t { counts = c.counts }) g

pub OnlyCounts-count : (old now : Trail) (v n : ℕ) → OnlyCounts old now → OnlyCounts old (with_count now v n)
OnlyCounts-count old now v n only = ap (λ (t : Trail). with_count t v n) only

-- before the count of a literal's variable is raised
pub raise_room : (old now : Trail) (literals : List ℕ) (i v : ℕ) → HaveDistinctVariables literals → i < length literals → v ≡ variable_of (get_or literals i 0)
    → ((w : ℕ) → count_of now w ≡ count_of old w + tally w (take i literals)) → count_of now v ≡ count_of old v
raise_room old now literals i v distinct h is raised =
    let fresh : tally v (take i literals) ≡ 0 = ap (λ (w : ℕ). tally w (take i literals)) is ∙ tally_fresh literals i distinct h in
    omega (arith, raised v, fresh)

-- one more variable is raised
pub raised_more : (old now new : Trail) (literals : List ℕ) (i v : ℕ) → i < length literals → v ≡ variable_of (get_or literals i 0)
    → ((w : ℕ) → count_of now w ≡ count_of old w + tally w (take i literals)) → new ≡ with_count now v (count_of now v + 1)
    → count_of new v ≡ count_of now v + 1
    → (w : ℕ) → count_of new w ≡ count_of old w + tally w (take (i + 1) literals)
raised_more old now new literals i v h is raised exact up w =
    let more = tally_more w literals i h in
    elim (cases_eq w v) [
      | inl e ↦
          let one : counts_at w (get_or literals i 0) ≡ 1 = ap (λ (x : ℕ). counts_at x (get_or literals i 0)) (e ∙ is) ∙ counts_at_same (get_or literals i 0) in
          let here : count_of new w ≡ count_of now w + 1 = subst (λ (x : ℕ). count_of new x ≡ count_of now x + 1) (sym e) up in
          omega (arith, more, one, here, raised w)
      | inr n ↦
          let none = counts_at_other w (get_or literals i 0) (λ e. n (e ∙ sym is)) in
          let here : count_of new w ≡ count_of now w = ap (λ (t : Trail). count_of t w) exact ∙ count_of_other now v (count_of now v + 1) w n in
          omega (arith, more, none, here, raised w)
    ]

-- before the count of a literal's variable is lowered
pub lower_counted : (old now : Trail) (literals : List ℕ) (i v : ℕ) → i < length literals → v ≡ variable_of (get_or literals i 0)
    → ((w : ℕ) → tally w literals ≤ count_of old w) → ((w : ℕ) → count_of now w + tally w (take i literals) ≡ count_of old w) → 0 < count_of now v
lower_counted old now literals i v h is counted lowered =
    let more = tally_more v literals i h in
    let one : counts_at v (get_or literals i 0) ≡ 1 = ap (λ (x : ℕ). counts_at x (get_or literals i 0)) is ∙ counts_at_same (get_or literals i 0) in
    let part = sum_by-take-le (counts_at v) literals (i + 1) in
    omega (arith, more, one, part, counted v, lowered v)

-- one more variable is lowered
pub lowered_more : (old now new : Trail) (literals : List ℕ) (i v : ℕ) → i < length literals → v ≡ variable_of (get_or literals i 0)
    → ((w : ℕ) → count_of now w + tally w (take i literals) ≡ count_of old w) → new ≡ with_count now v (count_of now v - 1)
    → count_of new v + 1 ≡ count_of now v
    → (w : ℕ) → count_of new w + tally w (take (i + 1) literals) ≡ count_of old w
lowered_more old now new literals i v h is lowered exact down w =
    let more = tally_more w literals i h in
    elim (cases_eq w v) [
      | inl e ↦
          let one : counts_at w (get_or literals i 0) ≡ 1 = ap (λ (x : ℕ). counts_at x (get_or literals i 0)) (e ∙ is) ∙ counts_at_same (get_or literals i 0) in
          let here : count_of new w + 1 ≡ count_of now w = subst (λ (x : ℕ). count_of new x + 1 ≡ count_of now x) (sym e) down in
          omega (arith, more, one, here, lowered w)
      | inr n ↦
          let none = counts_at_other w (get_or literals i 0) (λ e. n (e ∙ sym is)) in
          let here : count_of new w ≡ count_of now w = ap (λ (t : Trail). count_of t w) exact ∙ count_of_other now v (count_of now v - 1) w n in
          omega (arith, more, none, here, lowered w)
    ]

-- a live clause is counted, and gone once it is dropped
pub occurrences-without : (v low : ℕ) (live : List HeldClause) (h : HeldClause) → RisesFrom low live → Contains live h
    → occurrences v live ≡ occurrences v (without live h.reference) + tally v h.literals
occurrences-without v low [] h rises m = absurd (Contains-nil h m)
occurrences-without v low (x ∷ xs) h (here, rest) m =
    elim (Contains-cons_cases x xs h m) [
      | inl e ↦ first e (eqb x.reference h.reference) (eq-eqb x.reference h.reference (ap (λ (y : HeldClause). y.reference) e))
      | inr t ↦ later (occurrences-without v (x.reference + 1) xs h rest t) (eqb x.reference h.reference)
          (ne_eqb x.reference h.reference (λ e. let above = RisesFrom-above (x.reference + 1) xs h rest t in omega arith))
    ]
  where
    first : x ≡ h → (b : Bool) → b ≡ true → occurrences v (x ∷ xs)
        ≡ occurrences v (cond (not b) (x ∷ without xs h.reference) (without xs h.reference)) + tally v h.literals
    first e true is =
        let others = without_none xs h.reference (λ y k d. let above = RisesFrom-above (x.reference + 1) xs y rest k in let same =
        ap (λ (z : HeldClause). z.reference) e in omega arith) in
        let front = occurrences-cons v x xs in
        let this = ap (λ (z : HeldClause). tally v z.literals) e in
        let tail = ap (occurrences v) others in
        omega (arith, front, this, tail)
    first e false is = absurd (cc)

    later : occurrences v xs ≡ occurrences v (without xs h.reference) + tally v h.literals → (b : Bool) → b ≡ false
        → occurrences v (x ∷ xs) ≡ occurrences v (cond (not b) (x ∷ without xs h.reference) (without xs h.reference)) + tally v h.literals
    later inner true is = absurd (cc)
    later inner false is =
        let front = occurrences-cons v x xs in
        let back = occurrences-cons v x (without xs h.reference) in
        omega (arith, front, back, inner)

-- where the references ascend
pub occurrences-dropped : (v : ℕ) (live : List HeldClause) (h : HeldClause) → AreAscending live → Contains live h
    → occurrences v live ≡ occurrences v (without live h.reference) + tally v h.literals
occurrences-dropped v live h ascending m = occurrences-without v 0 live h (RisesFrom-ascending 0 live (λ x k. omega arith) ascending) m

pub tally-le_occurrences : (v : ℕ) (live : List HeldClause) (h : HeldClause) → AreAscending live → Contains live h → tally v h.literals ≤ occurrences v live
tally-le_occurrences v live h ascending m = let all = occurrences-dropped v live h ascending m in omega (arith, all)

-- what is left of proper clauses in order is so too
pub AreProper-drops : (which : Selection) (n : ℕ) (number : Option ℕ) (r : ℕ) (live new : List HeldClause) (gone : Bool)
    → DropsIf which number r live new gone → AreProper n live → AreProper n new
AreProper-drops which n number r live new true (taken, same) proper =
    subst (AreProper n) (sym same) (All-filter (λ held. not (eqb held.reference r)) (λ held. IsProper n held.literals) live proper)
AreProper-drops which n number r live new false (taken, same) proper = subst (AreProper n) (sym same) proper

pub AreAscending-drops : (which : Selection) (number : Option ℕ) (r : ℕ) (live new : List HeldClause) (gone : Bool) → DropsIf which number r live new gone
    → AreAscending live → AreAscending new
AreAscending-drops which number r live new true (taken, same) ascending =
    subst AreAscending (sym same) (AllPairs-filter (λ a b. a.reference < b.reference) (λ held. not (eqb held.reference r)) live ascending)
AreAscending-drops which number r live new false (taken, same) ascending = subst AreAscending (sym same) ascending
