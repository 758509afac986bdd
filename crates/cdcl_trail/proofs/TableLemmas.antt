-- The table by variable, beside the entries.
use Rattle.std.proofs.Common.{◌≡◌, ◌≢◌, ℕ, zero, suc, ◌<◌, ◌≤◌, ◌+◌, inl, inr, List, [], ◌∷◌, ◌++◌, length, get_or, set, get_or-set_same, get_or-set_other}
use Rattle.std.proofs.Common.{replicate, cond, Contains, Option, Some, None, is_some, refl, sym, subst, ap, ◌∙◌, arith}
use Rattle.std.proofs.lemmas.Bool.{cases_eq, cases_lt}
use Rattle.std.proofs.lemmas.List.{length-set, length_push, get_or_past, get_or-replicate, length-replicate, get_or_push, get_or_append_left}
use Rattle.std.proofs.lemmas.List.Sums.{sum_by-set, count_by-le-length, length-filter}
use Rattle.std.specs.List.{filter}
use Rattle.std.proofs.lemmas.List.Elements.{Contains-append_left, Contains-push, Contains-push_cases, Contains-get_or}
use Rattle.std.proofs.lemmas.List.Quantifiers.{all_pairs_push}
use Rattle.clause_meaning.specs.Literals.{variable_of}
use Rattle.clause_meaning.proofs.Members.{Contains-nil}
use Rattle.cdcl_trail.specs.declared.trail_entry.TrailEntry.{TrailEntry}
use Rattle.cdcl_trail.specs.Assigned.{IsUnassigned, IsEntryOf}
use Rattle.cdcl_trail.specs.Table.{AreDistinct, value_count, Agrees}
use Rattle.cdcl_trail.proofs.Entries.{no_entry}

abbrev at : List (Option TrailEntry) → ℕ → Option TrailEntry
at table v = get_or table v None

pub value_count-set : (table : List (Option TrailEntry)) (v : ℕ) (e : TrailEntry) → v < length table → at table v ≡ None
    → value_count (set table v (Some e)) ≡ value_count table + 1
value_count-set table v e below none =
    counted (value_count (set table v (Some e))) (value_count table) (at table v) none
    (sum_by-set (λ (value : Option TrailEntry). cond (is_some value) 1 0) table v (Some e) None below)
  where
    counted : (n m : ℕ) (o : Option TrailEntry) → o ≡ None → n + cond (is_some o) 1 0 ≡ m + 1 → n ≡ m + 1
    counted n m (Some b) e h = absurd (cc)
    counted n m None e h = omega arith

pub value_count-unset : (table : List (Option TrailEntry)) (v : ℕ) (e : TrailEntry) → v < length table → at table v ≡ Some e
    → value_count (set table v None) + 1 ≡ value_count table
value_count-unset table v e below some =
    counted (value_count (set table v None)) (value_count table) (at table v) some
    (sum_by-set (λ (value : Option TrailEntry). cond (is_some value) 1 0) table v None None below)
  where
    counted : (n m : ℕ) (o : Option TrailEntry) → o ≡ Some e → n + cond (is_some o) 1 0 ≡ m + 0 → n + 1 ≡ m
    counted n m None d h = absurd (cc)
    counted n m (Some b) d h = omega arith

-- a variable that isn't assigned has no entry in the table
pub unassigned_none : (table : List (Option TrailEntry)) (entries : List TrailEntry) (v : ℕ) → Agrees table entries → IsUnassigned entries v → at table v ≡ None
unassigned_none table entries v agrees unassigned = none (at table v) refl
  where
    none : (o : Option TrailEntry) → at table v ≡ o → o ≡ None
    none None d = refl
    none (Some e) d = let h = agrees.held v e d in absurd (no_entry entries v e unassigned h.0 h.1)

-- the table says where a variable is unassigned
pub none_unassigned : (table : List (Option TrailEntry)) (entries : List TrailEntry) (v : ℕ) → Agrees table entries → at table v ≡ None → IsUnassigned entries v
none_unassigned table entries v agrees none l same (k, e, p, is, lit) =
    let listed = agrees.listed e (k, p, is) in
    let here : at table v ≡ Some e = ap (at table) (sym same ∙ ap variable_of (sym lit)) ∙ listed in
    absurd (differ (sym here ∙ none))
  where
    differ : {e : TrailEntry} → Some e ≡ None → ⊥
    differ d = cc

some_injective : (a b : TrailEntry) → Some a ≡ Some b → a ≡ b
some_injective a b e = cc

-- what the table has at a variable is its entry
pub entry_of : (table : List (Option TrailEntry)) (entries : List TrailEntry) (v : ℕ) (r : Option TrailEntry) → Agrees table entries → at table v ≡ r
    → IsEntryOf entries v r
entry_of table entries v None agrees is = none_unassigned table entries v agrees is
entry_of table entries v (Some e) agrees is = (let h = agrees.held v e is in
    (h.0, h.1, λ x m same. some_injective x e (sym (agrees.listed x m) ∙ (ap (at table) same ∙ is))))

-- where a variable is unassigned, the entries are fewer than the variables
pub fewer : (table : List (Option TrailEntry)) (entries : List TrailEntry) (v : ℕ) (e : TrailEntry) → Agrees table entries → v < length table
    → IsUnassigned entries v → length entries + 1 ≤ length table
fewer table entries v e agrees below unassigned =
    let more = value_count-set table v e below (unassigned_none table entries v agrees unassigned) in
    let most : value_count (set table v (Some e)) ≤ length (set table v (Some e)) =
    count_by-le-length (λ (value : Option TrailEntry). is_some value) (set table v (Some e)) in
    let same = length-set table v (Some e) in
    omega (arith, more, most, same, agrees.counted)

pub few : (table : List (Option TrailEntry)) (entries : List TrailEntry) → Agrees table entries → length entries ≤ length table
few table entries agrees =
    let most : value_count table ≤ length table = count_by-le-length (λ (value : Option TrailEntry). is_some value) table in
    omega (arith, most, agrees.counted)

pub Agrees-push : (table : List (Option TrailEntry)) (entries : List TrailEntry) (e : TrailEntry) → Agrees table entries
    → variable_of e.literal < length table → IsUnassigned entries (variable_of e.literal)
    → Agrees (set table (variable_of e.literal) (Some e)) (entries ++ e ∷ [])
Agrees-push table entries e agrees below unassigned =
    let v = variable_of e.literal in
    let none = unassigned_none table entries v agrees unassigned in
    record {
      held = λ w x is. elim (cases_eq w v) [
        | inl same ↦ (
            let here : Some e ≡ Some x = sym (get_or-set_same table v (Some e) None below) ∙ (ap (λ (u : ℕ). at (set table v (Some e)) u) (sym same) ∙ is) in
            let it = some_injective e x here in
            (subst (Contains (entries ++ e ∷ [])) it (Contains-push entries e), ap (λ (y : TrailEntry). variable_of y.literal) (sym it) ∙ sym same))
        | inr n ↦ (let h = agrees.held w x (sym (get_or-set_other table v w (Some e) None n) ∙ is) in (Contains-append_left entries (e ∷ []) x h.0, h.1))
      ];
      listed = λ x m. elim (Contains-push_cases entries e x m) [
        | inl old ↦ get_or-set_other table v (variable_of x.literal) (Some e) None (λ same. no_entry entries v x unassigned old same) ∙ agrees.listed x old
        | inr it ↦ ap (λ (y : TrailEntry). at (set table v (Some e)) (variable_of y.literal)) (sym it)
            ∙ (get_or-set_same table v (Some e) None below ∙ ap Some it)
      ];
      distinct = all_pairs_push (λ (a b : TrailEntry). variable_of a.literal ≢ variable_of b.literal) entries e agrees.distinct
          (λ k d h same. no_entry entries v (get_or entries k d) unassigned (Contains-get_or entries k d h) same);
      counted = value_count-set table v e below none ∙ (ap (λ (n : ℕ). n + 1) agrees.counted ∙ sym (length_push entries e));
    }

-- an entry of the table is within it
pub within_table : (table : List (Option TrailEntry)) (v : ℕ) (e : TrailEntry) → at table v ≡ Some e → v < length table
within_table table v e is = elim (cases_lt v (length table)) [ inl h ↦ h | inr h ↦ absurd (differ (sym is ∙ get_or_past table v None h)) ]
  where
    differ : Some e ≡ None → ⊥
    differ d = cc

distinct-front : (entries : List TrailEntry) (e : TrailEntry) → AreDistinct (entries ++ e ∷ []) → AreDistinct entries
distinct-front entries e distinct i j d h below same =
    distinct i j d h (omega (arith, length_push entries e))
    (ap (λ (x : TrailEntry). variable_of x.literal) (get_or_append_left entries (e ∷ []) d i (omega arith))
    ∙ (same ∙ ap (λ (x : TrailEntry). variable_of x.literal) (sym (get_or_append_left entries (e ∷ []) d j below))))

-- the newest entry has a variable that no other has
newest_alone : (entries : List TrailEntry) (e x : TrailEntry) → AreDistinct (entries ++ e ∷ []) → Contains entries x
    → variable_of x.literal ≢ variable_of e.literal
newest_alone entries e x distinct (k, p, is) same =
    distinct k (length entries) x p (omega (arith, length_push entries e))
    (ap (λ (y : TrailEntry). variable_of y.literal) (get_or_append_left entries (e ∷ []) x k p ∙ is)
    ∙ (same ∙ ap (λ (y : TrailEntry). variable_of y.literal) (sym (get_or_push entries e x (length entries) refl))))

pub Agrees-pop : (table : List (Option TrailEntry)) (entries : List TrailEntry) (e : TrailEntry) → Agrees table (entries ++ e ∷ [])
    → Agrees (set table (variable_of e.literal) None) entries
Agrees-pop table entries e agrees =
    let v = variable_of e.literal in
    let here = agrees.listed e (Contains-push entries e) in
    let below = within_table table v e here in
    record {
      held = λ w x is. elim (cases_eq w v) [
        | inl same ↦ absurd (differ x (sym (get_or-set_same table v None None below) ∙ (ap (λ (u : ℕ). at (set table v None) u) (sym same) ∙ is)))
        | inr n ↦ (let h = agrees.held w x (sym (get_or-set_other table v w None None n) ∙ is) in
            elim (Contains-push_cases entries e x h.0) [
              | inl old ↦ (old, h.1)
              | inr it ↦ absurd (n (sym h.1 ∙ ap (λ (y : TrailEntry). variable_of y.literal) (sym it)))
            ])
      ];
      listed = λ x m. get_or-set_other table v (variable_of x.literal) None None (newest_alone entries e x agrees.distinct m)
          ∙ agrees.listed x (Contains-append_left entries (e ∷ []) x m);
      distinct = distinct-front entries e agrees.distinct;
      counted = (let less = value_count-unset table v e below here in omega (arith, less, agrees.counted, length_push entries e));
    }
  where
    differ : (x : TrailEntry) → None ≡ Some x → ⊥
    differ x d = cc

abbrev none_entry : Option TrailEntry
none_entry = None

no_some : (k : ℕ) → filter (λ (value : Option TrailEntry). is_some value) (replicate k None) ≡ []
no_some zero = refl
no_some (suc k) = no_some k

pub Agrees-none : (n : ℕ) → Agrees (replicate n None) []
Agrees-none n = record {
  held = λ v e is. absurd (differ e (elim (cases_lt v n) [
    | inl h ↦ sym (get_or-replicate n v None None h) ∙ is
    | inr h ↦ sym (get_or_past (replicate n None) v None (omega (arith, length-replicate n none_entry))) ∙ is
  ]));
  listed = λ e m. absurd (Contains-nil e m);
  distinct = λ i j d h p. absurd (omega arith);
  counted = none_counted n;
}
  where
    differ : (e : TrailEntry) → None ≡ Some e → ⊥
    differ e d = cc

    none_counted : (k : ℕ) → value_count (replicate k None) ≡ 0
    none_counted k = sym (length-filter (λ (value : Option TrailEntry). is_some value) (replicate k None)) ∙ ap length (no_some k)
