-- What the calls on a checker make of the clauses that are kept in it.
use Rattle.std.proofs.Common.{◌≡◌, ◌<◌, ◌≤◌, ◌+◌, inl, inr, ℕ, List, [], ◌∷◌, ◌++◌, length, map, take, get_or, filter, Contains, All, Bool, true}
use Rattle.std.proofs.Common.{false, not, ◌||◌, ◌&&◌, eqb, eqb-true, eq-eqb, cond, refl, sym, subst, ap, ◌∙◌, arith}
use Rattle.std.proofs.lemmas.List.{take_more, take_all, map_push, length-take-le, get_or-take, get_or_default}
use Rattle.std.proofs.lemmas.List.Elements.{All-contains}
use Rattle.std.proofs.lemmas.List.Folds.{list_any-append}
use Rattle.clause_meaning.specs.Literals.{AreBelow, variable_of}
use Rattle.clause_meaning.proofs.Members.{Contains-map_cases}
use Rattle.cq_terms.specs.Lists.{IsAscending}
use Rattle.cq_meaning.proofs.Ascending.{All-of}
use Rattle.priority_graph.specs.Split.{has}
use Rattle.repair_clauses.specs.BaseClauses.{absent}
use Rattle.repair_clauses.specs.CauseClauses.{cause_clause}
use Rattle.repair_clauses.proofs.LiteralLemmas.{variable_of-absent}
use Rattle.std.proofs.lemmas.List.Elements.{Contains-push_cases}
use Rattle.rup_check.specs.State.{Numbered, State, IsLive, with_clause, without}
use Rattle.plain_finding.specs.Kept.{Kept, IsNumbered, Holds, kept_at}
use Rattle.report_parts.proofs.TestLemmas.{same_tests}
use Rattle.plain_finding.proofs.NumberLemmas.{numbered_more, numbered_open, numbered_learned}
use Rattle.plain_finding.proofs.KeptLemmas.{holds_base, holds_causes, holds_learned}
use Rattle.plain_finding.proofs.ForgetLemmas.{numbered_closed, holds_closed, numbered_kept, holds_kept, still_live}

-- what is seen of a checker and numbers
abbrev pub kept : ℕ → State → ℕ → List ℕ → List ℕ → Kept
kept variables checker next o l =
    record { variables = variables; live = checker.live; next = next; open_numbers = o; learned_numbers = l }

-- no clause
pub holds_none : (variables next : ℕ) (checker : State) → checker.live ≡ [] → Holds (kept variables checker next [] []) [] [] []
holds_none variables next checker none = record {
  base_entries = [];
  open_entries = [];
  learned_entries = [];
  base_are = refl;
  open_are = record { numbers_are = refl; clauses_are = refl };
  learned_are = record { numbers_are = refl; clauses_are = refl };
  exact = λ e. (
    (λ m. inl (subst (λ (xs : List Numbered). Contains xs e) none m)),
    elim [
      | inl m ↦ subst (λ (xs : List Numbered). Contains xs e) (sym none) m
      | inr w ↦ elim w [
        | inl m ↦ subst (λ (xs : List Numbered). Contains xs e) (sym none) m
        | inr m ↦ subst (λ (xs : List Numbered). Contains xs e) (sym none) m
      ]
    ],
  );
  not_open = λ k d l. absurd (omega arith);
  not_learned = λ k d l. absurd (omega arith);
}

-- ---- a clause is added

module _ (variables next : ℕ) (old new : State) (o l : List ℕ) (clause : List ℕ) (later number : ℕ) (n : old.next ≡ next) (is : new ≡ with_clause old clause)
    (e : later ≡ next + 1) (named : number ≡ next) (h : IsNumbered (kept variables old next o l)) where
  added : (p q : List ℕ) → kept variables new later p q
      ≡ record {
        variables = variables;
        live = old.live ++ record { number = next; literals = clause } ∷ [];
        next = next + 1;
        open_numbers = p;
        learned_numbers = q;
      }
  added p q = ap (λ (s : State). kept variables s later p q) is
      ∙ (ap (λ (x : ℕ). kept variables (with_clause old clause) x p q) e
      ∙ ap (λ (x : ℕ). record {
        variables = variables;
        live = old.live ++ record { number = x; literals = clause } ∷ [];
        next = next + 1;
        open_numbers = p;
        learned_numbers = q;
      }) n)

  pub numbered_added : IsNumbered (kept variables new later o l)
  numbered_added = subst IsNumbered (sym (added o l)) (numbered_more (kept variables old next o l) h clause)

  pub holds_added : (base causes learned : List (List ℕ)) → Holds (kept variables old next o l) base causes learned
      → Holds (kept variables new later o l) (base ++ clause ∷ []) causes learned
  holds_added base causes learned w = subst (λ (k : Kept). Holds k (base ++ clause ∷ []) causes learned) (sym (added o l))
      (holds_base (kept variables old next o l) h base causes learned w clause)

  -- with its number among those of the causes
  pub numbered_added_open : (p : List ℕ) → p ≡ o ++ number ∷ [] → IsNumbered (kept variables new later p l)
  numbered_added_open p f = subst IsNumbered (sym (added p l ∙ pushed)) (numbered_open (kept variables old next o l) h clause)
    where
      pushed : ◌≡◌ {A = Kept}
          (record {
            variables = variables;
            live = old.live ++ record { number = next; literals = clause } ∷ [];
            next = next + 1;
            open_numbers = p;
            learned_numbers = l;
          })
          (record {
            variables = variables;
            live = old.live ++ record { number = next; literals = clause } ∷ [];
            next = next + 1;
            open_numbers = o ++ next ∷ [];
            learned_numbers = l;
          })
      pushed = ap (λ (x : List ℕ). record {
        variables = variables;
        live = old.live ++ record { number = next; literals = clause } ∷ [];
        next = next + 1;
        open_numbers = x;
        learned_numbers = l;
      })
          (f ∙ ap (λ (x : ℕ). o ++ x ∷ []) named)

  pub holds_added_open : (p : List ℕ) → p ≡ o ++ number ∷ [] → (base causes learned : List (List ℕ)) → Holds (kept variables old next o l) base causes learned
      → Holds (kept variables new later p l) base (causes ++ clause ∷ []) learned
  holds_added_open p f base causes learned w = subst (λ (k : Kept). Holds k base (causes ++ clause ∷ []) learned) (sym (added p l ∙ pushed))
      (holds_causes (kept variables old next o l) h base causes learned w clause)
    where
      pushed : ◌≡◌ {A = Kept}
          (record {
            variables = variables;
            live = old.live ++ record { number = next; literals = clause } ∷ [];
            next = next + 1;
            open_numbers = p;
            learned_numbers = l;
          })
          (record {
            variables = variables;
            live = old.live ++ record { number = next; literals = clause } ∷ [];
            next = next + 1;
            open_numbers = o ++ next ∷ [];
            learned_numbers = l;
          })
      pushed = ap (λ (x : List ℕ). record {
        variables = variables;
        live = old.live ++ record { number = next; literals = clause } ∷ [];
        next = next + 1;
        open_numbers = x;
        learned_numbers = l;
      })
          (f ∙ ap (λ (x : ℕ). o ++ x ∷ []) named)

  -- with its number among those of the learned clauses
  pub numbered_added_learned : (q : List ℕ) → q ≡ l ++ number ∷ [] → IsNumbered (kept variables new later o q)
  numbered_added_learned q f = subst IsNumbered (sym (added o q ∙ pushed)) (numbered_learned (kept variables old next o l) h clause)
    where
      pushed : ◌≡◌ {A = Kept}
          (record {
            variables = variables;
            live = old.live ++ record { number = next; literals = clause } ∷ [];
            next = next + 1;
            open_numbers = o;
            learned_numbers = q;
          })
          (record {
            variables = variables;
            live = old.live ++ record { number = next; literals = clause } ∷ [];
            next = next + 1;
            open_numbers = o;
            learned_numbers = l ++ next ∷ [];
          })
      pushed = ap (λ (x : List ℕ). record {
        variables = variables;
        live = old.live ++ record { number = next; literals = clause } ∷ [];
        next = next + 1;
        open_numbers = o;
        learned_numbers = x;
      })
          (f ∙ ap (λ (x : ℕ). l ++ x ∷ []) named)

  pub holds_added_learned : (q : List ℕ) → q ≡ l ++ number ∷ [] → (base causes learned : List (List ℕ))
      → Holds (kept variables old next o l) base causes learned
      → Holds (kept variables new later o q) base causes (learned ++ clause ∷ [])
  holds_added_learned q f base causes learned w = subst (λ (k : Kept). Holds k base causes (learned ++ clause ∷ [])) (sym (added o q ∙ pushed))
      (holds_learned (kept variables old next o l) h base causes learned w clause)
    where
      pushed : ◌≡◌ {A = Kept}
          (record {
            variables = variables;
            live = old.live ++ record { number = next; literals = clause } ∷ [];
            next = next + 1;
            open_numbers = o;
            learned_numbers = q;
          })
          (record {
            variables = variables;
            live = old.live ++ record { number = next; literals = clause } ∷ [];
            next = next + 1;
            open_numbers = o;
            learned_numbers = l ++ next ∷ [];
          })
      pushed = ap (λ (x : List ℕ). record {
        variables = variables;
        live = old.live ++ record { number = next; literals = clause } ∷ [];
        next = next + 1;
        open_numbers = o;
        learned_numbers = x;
      })
          (f ∙ ap (λ (x : ℕ). l ++ x ∷ []) named)

-- ---- clauses are forgotten

-- the checker without the clauses of these numbers
abbrev pub forgotten : State → List ℕ → State
forgotten s numbers = record s { live = filter (λ (e : Numbered). not (has numbers e.number)) s.live }

filter_all : (live : List Numbered) → filter (λ (e : Numbered). not (has [] e.number)) live ≡ live
filter_all [] = refl
filter_all (e ∷ live) = ap (λ (es : List Numbered). e ∷ es) (filter_all live)

pub forgot_none : (s : State) (numbers : List ℕ) → s ≡ record s { live = filter (λ (e : Numbered). not (has (take 0 numbers) e.number)) s.live }
forgot_none s numbers = ap (λ (live : List Numbered). record s { live = live }) (sym (filter_all s.live))

-- what has one more number
has_push : (numbers : List ℕ) (n i : ℕ) → has (numbers ++ n ∷ []) i ≡ (has numbers i || eqb n i)
has_push numbers n i = list_any-append (λ j. eqb j i) numbers (n ∷ []) ∙ ap (λ (b : Bool). has numbers i || b) (alone (eqb n i))
  where
    alone : (b : Bool) → (b || false) ≡ b
    alone true = refl
    alone false = refl

-- a filter of a filter is one by both tests
filter_both : (p q r : Numbered → Bool) → ((x : Numbered) → r x ≡ (q x && p x)) → (xs : List Numbered) → filter p (filter q xs) ≡ filter r xs
filter_both p q r agree [] = refl
filter_both p q r agree (x ∷ xs) =
    first (q x)
    ∙ (ap (λ (ys : List Numbered). cond (q x && p x) (x ∷ ys) ys) (filter_both p q r agree xs)
    ∙ ap (λ (b : Bool). cond b (x ∷ filter r xs) (filter r xs)) (sym (agree x)))
  where
    first : (a : Bool) → filter p (cond a (x ∷ filter q xs) (filter q xs)) ≡ cond (a && p x) (x ∷ filter p (filter q xs)) (filter p (filter q xs))
    first true = refl
    first false = refl

same_equal : (m n : ℕ) → eqb m n ≡ eqb n m
same_equal m n = same_tests (eqb m n) (eqb n m) (eqb-true m n, eq-eqb m n) ((λ t. sym (eqb-true n m t)), (λ e. eq-eqb n m (sym e)))

filter_step : (numbers : List ℕ) (n : ℕ) (live : List Numbered)
    → filter (λ (e : Numbered). not (eqb e.number n)) (filter (λ (e : Numbered). not (has numbers e.number)) live)
    ≡ filter (λ (e : Numbered). not (has (numbers ++ n ∷ []) e.number)) live
filter_step numbers n live = filter_both (λ (e : Numbered). not (eqb e.number n)) (λ (e : Numbered). not (has numbers e.number))
    (λ (e : Numbered). not (has (numbers ++ n ∷ []) e.number)) agree live
  where
    either : (a b : Bool) → not (a || b) ≡ (not a && not b)
    either true b = refl
    either false b = refl

    agree : (e : Numbered) → not (has (numbers ++ n ∷ []) e.number) ≡ (not (has numbers e.number) && not (eqb e.number n))
    agree e = ap not (has_push numbers n e.number)
        ∙ (either (has numbers e.number) (eqb n e.number) ∙ ap (λ (b : Bool). not (has numbers e.number) && not b) (same_equal n e.number))

-- one more number
pub forgot_more : (s old new : State) (numbers : List ℕ) (k : ℕ) → k < length numbers
    → old ≡ record s { live = filter (λ (e : Numbered). not (has (take k numbers) e.number)) s.live }
    → new ≡ record old { live = without old.live (get_or numbers k 0) }
    → new ≡ record s { live = filter (λ (e : Numbered). not (has (take (k + 1) numbers) e.number)) s.live }
forgot_more s old new numbers k l h e =
    e ∙ (ap (λ (x : State). record x { live = without x.live (get_or numbers k 0) }) h
    ∙ ap (λ (live : List Numbered). record s { live = live })
    (filter_step (take k numbers) (get_or numbers k 0) s.live
    ∙ ap (λ (ns : List ℕ). filter (λ (x : Numbered). not (has ns x.number)) s.live) (sym (take_more numbers k 0 l))))

-- the next number is still live
pub forgot_live : (s old : State) (numbers : List ℕ) (k : ℕ) → k < length numbers → IsAscending numbers → All (IsLive s.live) numbers
    → old ≡ record s { live = filter (λ (e : Numbered). not (has (take k numbers) e.number)) s.live } → IsLive old.live (get_or numbers k 0)
forgot_live s old numbers k l up all h =
    subst (λ (x : State). IsLive x.live (get_or numbers k 0)) (sym h)
    (still_live s.live (take k numbers) (get_or numbers k 0) (all k 0 l) fresh)
  where
    fresh : ¬ Contains (take k numbers) (get_or numbers k 0)
    fresh (i, m, is) =
        let long = length-take-le k numbers (omega arith) in
        let below : i < k = omega arith in
        let at : get_or numbers i (get_or numbers k 0) ≡ get_or numbers k 0 = sym (get_or-take k numbers i (get_or numbers k 0) below) ∙ is in
        let less : get_or numbers i (get_or numbers k 0) < get_or numbers k (get_or numbers k 0) = up i k (get_or numbers k 0) below l in
        let same : get_or numbers k (get_or numbers k 0) ≡ get_or numbers k 0 = get_or_default numbers k (get_or numbers k 0) 0 l in
        omega arith

pub forgot_all : (s new : State) (numbers : List ℕ) (k : ℕ) → length numbers ≤ k
    → new ≡ record s { live = filter (λ (e : Numbered). not (has (take k numbers) e.number)) s.live }
    → new ≡ record s { live = filter (λ (e : Numbered). not (has numbers e.number)) s.live }
forgot_all s new numbers k l h = h ∙ ap (λ (ns : List ℕ). record s { live = filter (λ (e : Numbered). not (has ns e.number)) s.live }) (take_all k numbers l)

-- the clauses of the causes are forgotten
module _ (variables next : ℕ) (old new : State) (o l p : List ℕ) (is : new ≡ forgotten old o) (none : p ≡ []) (h : IsNumbered
    (kept variables old next o l)) where
  closed_is : kept variables new next p l ≡ kept variables (forgotten old o) next [] l
  closed_is = ap (λ (s : State). kept variables s next p l) is ∙ ap (λ (x : List ℕ). kept variables (forgotten old o) next x l) none

  pub numbered_close : IsNumbered (kept variables new next p l)
  numbered_close = subst IsNumbered (sym closed_is) (numbered_closed (kept variables old next o l) h)

  pub holds_close : (base causes learned : List (List ℕ)) → Holds (kept variables old next o l) base causes learned
      → Holds (kept variables new next p l) base [] learned
  holds_close base causes learned w = subst (λ (k : Kept). Holds k base [] learned) (sym closed_is)
      (holds_closed (kept variables old next o l) h base causes learned w)

-- the learned clauses without a mark are forgotten
module _ (variables next : ℕ) (old new : State) (o l p gone : List ℕ) (marks : List Bool) (gone_is : gone ≡ kept_at (map not marks) l)
    (is : new ≡ forgotten old gone) (stay : p ≡ kept_at marks l) (h : IsNumbered (kept variables old next o l)) where
  part_is : kept variables new next o p ≡ kept variables (forgotten old (kept_at (map not marks) l)) next o (kept_at marks l)
  part_is = ap (λ (s : State). kept variables s next o p) (is ∙ ap (forgotten old) gone_is)
      ∙ ap (λ (x : List ℕ). kept variables (forgotten old (kept_at (map not marks) l)) next o x) stay

  pub numbered_keep : IsNumbered (kept variables new next o p)
  numbered_keep = subst IsNumbered (sym part_is) (numbered_kept (kept variables old next o l) h marks)

  pub holds_keep : (base causes learned : List (List ℕ)) → length learned ≡ length marks → Holds (kept variables old next o l) base causes learned
      → Holds (kept variables new next o p) base causes (kept_at marks learned)
  holds_keep base causes learned size w = subst (λ (k : Kept). Holds k base causes (kept_at marks learned)) (sym part_is)
      (holds_kept (kept variables old next o l) h marks base causes learned size w)

-- ---- clauses of causes

-- the clause of a cause is of the variables
pub cause_below : (variables selector : ℕ) (cause : List ℕ) → selector < variables → All (λ f. f < variables) cause
    → AreBelow variables (cause_clause selector cause)
cause_below variables selector cause s all = All-of (λ l. variable_of l < variables) (cause_clause selector cause)
    (λ l m. let w = Contains-map_cases absent (cause ++ selector ∷ []) l m in
    subst (λ (v : ℕ). v < variables) (sym (ap variable_of (sym w.2) ∙ variable_of-absent w.0))
    (elim (Contains-push_cases cause selector w.0 w.1) [
      | inl n ↦ All-contains (λ f. f < variables) cause w.0 all n
      | inr e ↦ subst (λ (v : ℕ). v < variables) e s
    ]))

-- the clauses of one more cause
pub causes_more : (selector : ℕ) (causes : List (List ℕ)) (k : ℕ) → k < length causes
    → map (cause_clause selector) (take (k + 1) causes) ≡ map (cause_clause selector) (take k causes) ++ cause_clause selector (get_or causes k []) ∷ []
causes_more selector causes k l = ap (map (cause_clause selector)) (take_more causes k [] l)
    ∙ map_push (cause_clause selector) (take k causes) (get_or causes k [])
