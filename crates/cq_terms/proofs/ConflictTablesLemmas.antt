-- One more clash, and its part of the tables by fact.
use Rattle.std.proofs.Common.{◌≡◌, ◌<◌, ◌≢◌, ◌+◌, ◌^◌, ◌⊎◌, inl, inr, ◌↔◌, ℕ, Bool, true, false, List, [], ◌∷◌, ◌++◌, length, take, get_or, set, Some, None}
use Rattle.std.proofs.Common.{Option, sym, ap, ◌∙◌, subst, arith, Contains, IsTrue}
use Rattle.std.specs.List.{flat_map, cons_option}
use Rattle.std.proofs.lemmas.Bool.{cases_eq}
use Rattle.std.proofs.lemmas.List.{append-nil, take_more, flat_map_more, length-set, get_or-set_same, get_or-set_other}
use Rattle.std.proofs.lemmas.List.Elements.{filter_map-append, Contains-append_left, Contains-push, Contains-push_cases}
use Rattle.cq_terms.specs.declared.hits.Clash.{Clash}
use Rattle.cq_terms.specs.FlatLists.{AreGrouped, HaveKeysBelow}
use Rattle.cq_terms.specs.Conflicts.{IsOneOrTwo, single, couple, own_facts, couples, IsOwn, AreClashes}
use Rattle.cq_terms.specs.ConflictTables.{both_ways, conflict_entries, AreMarks, AreTables}
use Rattle.cq_terms.proofs.ConflictsLemmas.{adjacent_sound, adjacent_complete, adjacent_ascending, couples_below, upward, keys_below, entries_count}
use Rattle.cq_terms.proofs.ConflictsLemmas.{couples_count}

-- the clashes up to the next one
pub next_clash : (clashes : List Clash) (i : ℕ) (c : Clash) → i < length clashes → c ≡ get_or clashes i c → take (i + 1) clashes ≡ take i clashes ++ c ∷ []
next_clash clashes i c l is = take_more clashes i c l ∙ ap (λ (d : Clash). take i clashes ++ d ∷ []) (sym is)

own_more : (done : List Clash) (c : Clash) → own_facts (done ++ c ∷ []) ≡ own_facts done ++ cons_option (single c.facts) []
own_more done c = filter_map-append (λ (x : Clash). single x.facts) done (c ∷ [])

couples_more : (done : List Clash) (c : Clash) → couples (done ++ c ∷ []) ≡ couples done ++ cons_option (couple c.facts) []
couples_more done c = filter_map-append (λ (x : Clash). couple x.facts) done (c ∷ [])

-- the fact of a clash of one is a fact of the table
pub single_below : (facts : ℕ) (xs : List ℕ) (i : ℕ) → IsOneOrTwo facts xs → Some i ≡ single xs → i < facts
single_below facts [] i o e = absurd o
single_below facts (j ∷ []) i o e = let same : i ≡ j = cc e in subst (λ (n : ℕ). n < facts) (sym same) o
single_below facts (j ∷ l ∷ xs) i o e = cc e

-- a clash of one marks its fact
pub marks_yes : (facts : ℕ) (done : List Clash) (c : Clash) (marks : List Bool) (i : ℕ) → AreMarks facts done marks → Some i ≡ single c.facts → i < facts
    → AreMarks facts (done ++ c ∷ []) (set marks i true)
marks_yes facts done c marks i h is below = record {
  all = length-set marks i true ∙ h.all;
  exact = λ j l. by j l (cases_eq i j);
}
  where
    now : own_facts (done ++ c ∷ []) ≡ own_facts done ++ i ∷ []
    now = own_more done c ∙ ap (λ (o : Option ℕ). own_facts done ++ cons_option o []) (sym is)

    by : (j : ℕ) → j < facts → (i ≡ j) ⊎ (i ≡ j → ⊥) → IsTrue (get_or (set marks i true) j false) ↔ IsOwn (done ++ c ∷ []) j
    by j l (inl same) = subst (λ (n : ℕ). IsTrue (get_or (set marks i true) n false) ↔ IsOwn (done ++ c ∷ []) n) same (
      (λ _. subst (λ (xs : List ℕ). Contains xs i) (sym now) (Contains-push (own_facts done) i)),
      (λ _. get_or-set_same marks i true false (omega (arith, h.all))),
    )
    by j l (inr other) =
        let not_here : j ≢ i = λ q. other (sym q) in
        let stays = get_or-set_other marks i j true false not_here in (
          (λ t. subst (λ (xs : List ℕ). Contains xs j) (sym now) (Contains-append_left (own_facts done) (i ∷ []) j ((h.exact j l).0 (sym stays ∙ t)))),
          (λ k. elim (Contains-push_cases (own_facts done) i j (subst (λ (xs : List ℕ). Contains xs j) now k))
              [ inl m ↦ stays ∙ (h.exact j l).1 m | inr e ↦ absurd (other e) ]),
        )

-- a clash of two marks nothing
pub marks_no : (facts : ℕ) (done : List Clash) (c : Clash) (marks : List Bool) → AreMarks facts done marks → None ≡ single c.facts
    → AreMarks facts (done ++ c ∷ []) marks
marks_no facts done c marks h is =
    let now : own_facts (done ++ c ∷ []) ≡ own_facts done = own_more done c ∙ ap (λ (o : Option ℕ). own_facts done ++ cons_option o []) (sym is)
    ∙ append-nil (own_facts done) in
    record {
      all = h.all;
      exact = λ j l. subst (λ (xs : List ℕ). IsTrue (get_or marks j false) ↔ Contains xs j) (sym now) (h.exact j l);
    }

-- a clash of two has an entry for each fact
pub entries_yes : (done : List Clash) (c : Clash) (p : ℕ × ℕ) → Some p ≡ couple c.facts
    → conflict_entries done ++ both_ways p ≡ conflict_entries (done ++ c ∷ [])
entries_yes done c p is =
    flat_map_more both_ways [] (couples done) p
    ∙ ap (flat_map both_ways) (sym (couples_more done c ∙ ap (λ (o : Option (ℕ × ℕ)). couples done ++ cons_option o []) (sym is)))

-- a clash of one has none
pub entries_no : (done : List Clash) (c : Clash) → None ≡ couple c.facts → conflict_entries done ≡ conflict_entries (done ++ c ∷ [])
entries_no done c is = ap (flat_map both_ways) (sym (couples_more done c ∙ ap (λ (o : Option (ℕ × ℕ)). couples done ++ cons_option o []) (sym is)
    ∙ append-nil (couples done)))

-- the entries are few enough to be grouped, and their keys are facts
pub entries_few : (facts : ℕ) (clashes : List Clash) → AreClashes facts clashes → length (conflict_entries clashes) < 2 ^ 32
entries_few facts clashes kept = omega (arith, entries_count (couples clashes), couples_count clashes, kept.few)

pub entries_known : (facts : ℕ) (clashes : List Clash) → AreClashes facts clashes → HaveKeysBelow facts (conflict_entries clashes)
entries_known facts clashes kept = keys_below facts (couples clashes) (couples_below facts clashes kept.each)

-- the marks and the grouped entries are the tables
pub tables_from : (facts : ℕ) (clashes : List Clash) (marks : List Bool) (lists : List (List ℕ)) → AreClashes facts clashes → AreMarks facts clashes marks
    → AreGrouped (conflict_entries clashes) facts lists → AreTables facts clashes marks lists
tables_from facts clashes marks lists kept m g =
    let up = upward facts (couples clashes) (couples_below facts clashes kept.each) in
    record {
      kept = kept;
      marks_all = m.all;
      marks_exact = m.exact;
      lists_all = g.all;
      lists_are = g.exact;
      lists_ascending = λ i l. rw (g.exact i l) (adjacent_ascending (couples clashes) i up kept.couples_ascending);
      lists_exact = λ i l j. rw (g.exact i l) (adjacent_sound (couples clashes) i j up, adjacent_complete (couples clashes) i j up);
    }
