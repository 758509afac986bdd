-- The worked report on the staff register is accepted, and each altered one is broken at its line by its rule.
use Rattle.std.proofs.Common.{◌≡◌, ℕ, ◌<◌, ◌≤◌, inl, inr, List, [], ◌∷◌, Contains, refl, sym, subst, ap, arith}
use Rattle.std.proofs.lemmas.List.Elements.{All-contains, All-from_recursion}
use Rattle.cq_terms.specs.declared.query.Term.TheVariants.{Var}
use Rattle.cq_terms.specs.declared.query.QAtom.TheVariants as atom
use Rattle.cq_terms.specs.Query.{Query}
use Rattle.cq_meaning.specs.Conflicts.{Conflict}
use Rattle.cq_meaning.specs.Rewriting.{IsSuccessor}
use Rattle.cq_meaning.specs.Examples.{prof_is_staff, staff_register, staff_query}
use Rattle.cq_meaning.proofs.Members.{Contains-head, Contains-later, Contains-nil, Contains-one}
use Rattle.report_text.specs.declared.line.Line.{Line}
use Rattle.report_text.specs.declared.line.Line.TheVariants as line
use Rattle.report_text.specs.declared.line.Question.{Question}
use Rattle.report_text.specs.declared.line.Question.TheVariants as question
use Rattle.report_text.specs.declared.line.Verdict.TheVariants as verdict
use Rattle.report_text.specs.declared.line.Origin.TheVariants as origin
use Rattle.report_rules.specs.Told.{block_of}
use Rattle.report_rules.specs.Tries.{Tried, NamesCore}
use Rattle.report_rules.specs.Blocks.{IsClosedBlock}
use Rattle.report_rules.specs.Evidence.{IsSettled, IsVerdict, Meets}
use Rattle.report_rules.specs.TryRules.{turn_of}
use Rattle.report_rules.specs.Accepted.{Right}
use Rattle.report_laws.specs.Examples.{prof_query, prof_and_student, last_line, StaffReports}
use Rattle.report_laws.proofs.ListLemmas.{only_one}
use Rattle.report_laws.proofs.StaffTable.{conflicts, candidates, causes, core_zero, core_one, nothing_dropped}
use Rattle.report_laws.proofs.StaffBlocks.{negative_closed, no_third}
use Rattle.report_laws.proofs.StaffLines.{about, l6, l7, l8, l9, l10, l11, l12, l13, l14, b5, b6, b7, b8, b9, b10, b11, b12, b13, b14}
use Rattle.report_laws.proofs.StaffHead.{r1, r2, r3, r4, r5, both_ascend, one_ascends, both_facts, first_fact}

-- ---- the conflict, the candidate, the tries and the answer, where the two facts conflict

module _ (clash : Conflict staff_register 0 1) where
  r6 : Right about b5 l6
  r6 = record {
    order = no_third;
    query_left = tt;
    closed = λ o e. inr (let h : origin.Negative 1 ≡ o = cc in subst (λ k. IsClosedBlock staff_register.axioms (block_of k b5)) h negative_closed);
    complete = tt;
    own = record { next = ([], conflicts clash); found = (prof_and_student, refl, both_facts) };
  }

  r7 : Right about b6 l7
  r7 = record {
    order = inr tt;
    query_left = tt;
    closed = λ o e. absurd (cc);
    complete = conflicts clash;
    own = record { number = refl; next = ([], candidates); causes_are = causes clash; found = ((prof_query, refl, first_fact), tt) };
  }

  zero_there : Contains {X = List ℕ} ((0 ∷ []) ∷ []) (0 ∷ [])
  zero_there = Contains-head (0 ∷ []) []

  r8 : Right about b7 l8
  r8 = record {
    order = refl;
    query_left = tt;
    closed = λ o e. absurd (cc);
    complete = tt;
    own = record { unsettled = open8; in_turn = λ q a t. absurd t; new = λ t. t; assumes = (0 ∷ [], zero_there, refl) };
  }
    where
      open8 : IsSettled staff_register b7 [] question.Brave → ⊥
      open8 (inl (inl (n, kept, dropped, inl named, m, x))) = named
      open8 (inl (inl (n, kept, dropped, inr listed, m, x))) = Contains-nil n listed
      open8 (inl (inr (inl e))) = e
      open8 (inl (inr (inr (cause, m, each)))) = each 0 (subst (λ c. Contains c 0) (only_one (0 ∷ []) cause m) (Contains-head 0 []))
      open8 (inr h) = h (0 ∷ []) zero_there

  r9 : Right about b8 l9
  r9 = record {
    order = refl;
    query_left = tt;
    closed = λ o e. absurd (cc);
    complete = tt;
    own = record {
      counts = refl;
      kept_ascending = one_ascends 0;
      kept_facts = All-from_recursion (λ i. i < 2) (0 ∷ []) (omega arith, tt);
      dropped_ascending = one_ascends 1;
      dropped_facts = All-from_recursion (λ i. i < 2) (1 ∷ []) (omega arith, tt);
      core = core_zero clash;
    };
  }

  r10 : Right about b9 l10
  r10 = record {
    order = inr refl;
    query_left = tt;
    closed = λ o e. absurd (cc);
    complete = tt;
    own =
        (0 ∷ [], 1 ∷ [], Contains-head l9 b8, (0 ∷ [], refl, λ i m. m));
  }

  -- what the first core line drops
  abbrev DropsOne : Line → Type 0
  DropsOne (line.Core n kept dropped) = 1 ∷ [] ≡ dropped
  DropsOne _ = Unit {0}

  one_dropped : (n : ℕ) (kept dropped : List ℕ) → Contains b10 (line.Core n kept dropped) → 1 ∷ [] ≡ dropped
  one_dropped n kept dropped m = All-contains DropsOne b10 (line.Core n kept dropped)
      (All-from_recursion DropsOne b10 (tt, (refl, (tt, (tt, (tt, (tt, (tt, (tt, (tt, (tt, tt))))))))))) m

  not_met : (dropped : List ℕ) → 1 ∷ [] ≡ dropped → Meets (0 ∷ []) dropped → ⊥
  not_met dropped e (i, m, k) =
      let a : 0 ≡ i = only_one 0 i m in
      let b : 1 ≡ i = only_one 1 i (subst (λ d. Contains d i) (sym e) k) in
      omega arith

  r11 : Right about b10 l11
  r11 = record {
    order = refl;
    query_left = tt;
    closed = λ o e. absurd (cc);
    complete = tt;
    own = record { unsettled = open11; in_turn = turns; new = fresh; assumes = (0 ∷ [], 0, zero_there, Contains-head 0 [], refl) };
  }
    where
      open11 : IsSettled staff_register b10 [] question.Iar → ⊥
      open11 (inl (cause, m, each)) = elim (each 0 (subst (λ c. Contains c 0) (only_one (0 ∷ []) cause m) (Contains-head 0 [])))
          [ inl (a, b, c) ↦ (cc) | inr e ↦ e ]
      open11 (inr (inl each)) = let (n, kept, dropped, named, m, x) = each (0 ∷ []) zero_there in not_met dropped (one_dropped n kept dropped m) x
      open11 (inr (inr (inl (n, kept, dropped, named, m, each)))) = not_met dropped (one_dropped n kept dropped m) (each (0 ∷ []) zero_there)
      open11 (inr (inr (inr h))) = elim (h (0 ∷ []) zero_there) [ inl (a, b, c) ↦ (cc) | inr e ↦ e ]

      turns : (q : Question) (a : List ℕ) → Tried q a b10 → turn_of q ≤ 1
      turns q a (inl (e, d)) = subst (λ p. turn_of p ≤ 1) e (omega arith)
      turns q a (inr e) = absurd e

      fresh : Tried question.Iar (1 ∷ []) b10 → ⊥
      fresh (inl (e, d)) = cc
      fresh (inr e) = e

  r12 : Right about b11 l12
  r12 = record {
    order = refl;
    query_left = tt;
    closed = λ o e. absurd (cc);
    complete = tt;
    own = record {
      counts = refl;
      kept_ascending = one_ascends 1;
      kept_facts = All-from_recursion (λ i. i < 2) (1 ∷ []) (omega arith, tt);
      dropped_ascending = one_ascends 0;
      dropped_facts = All-from_recursion (λ i. i < 2) (0 ∷ []) (omega arith, tt);
      core = core_one clash;
    };
  }

  r13 : Right about b12 l13
  r13 = record {
    order = inr refl;
    query_left = tt;
    closed = λ o e. absurd (cc);
    complete = tt;
    own =
        (1 ∷ [], 0 ∷ [], Contains-head l12 b11, (0, refl, Contains-head 0 []));
  }

  core_line_zero : Contains b13 l9
  core_line_zero = Contains-later l13 b12 l9 (Contains-later l12 b11 l9 (Contains-later l11 b10 l9 (Contains-later l10 b9 l9 (Contains-head l9 b8))))

  core_line_one : Contains b13 l12
  core_line_one = Contains-later l13 b12 l12 (Contains-head l12 b11)

  drops_zero : (cause : List ℕ) → Contains ((0 ∷ []) ∷ []) cause → Meets cause (0 ∷ [])
  drops_zero cause m = subst (λ c. Meets c (0 ∷ [])) (only_one (0 ∷ []) cause m) (0, Contains-head 0 [], Contains-head 0 [])

  r14 : Right about b13 l14
  r14 = record {
    order = refl;
    query_left = tt;
    closed = λ o e. absurd (cc);
    complete = tt;
    own = record {
      same_tuple = refl;
      texts = (refl, tt);
      ascending = both_ascend;
      earlier = All-from_recursion (λ n. (kept : List ℕ) × (dropped : List ℕ) × Contains b13 (line.Core n kept dropped)) (0 ∷ 1 ∷ [])
          ((0 ∷ [], 1 ∷ [], core_line_zero), ((1 ∷ [], 0 ∷ [], core_line_one), tt));
      complete = named;
      brave_is = inl (0, 0 ∷ [], 1 ∷ [], inr (Contains-head 0 (1 ∷ [])), core_line_zero, (0 ∷ [], zero_there, λ l m. m));
      ar_is = inl (1, 1 ∷ [], 0 ∷ [], inl (inl refl), core_line_one, drops_zero);
      iar_is = inl (λ cause m. (1, 1 ∷ [], 0 ∷ [], inl (inl refl), core_line_one, drops_zero cause m));
    };
  }
    where
      named : (n : ℕ) → NamesCore b13 n → Contains (0 ∷ 1 ∷ []) n
      named n (inl e) = let h : 1 ≡ n = cc in Contains-later 0 (1 ∷ []) n (Contains-one 1 n (sym h))
      named n (inr (inl e)) = let h : 0 ≡ n = cc in subst (Contains (0 ∷ 1 ∷ [])) h (Contains-head 0 (1 ∷ []))
      named n (inr (inr e)) = absurd e

  r15 : Right about b14 last_line
  r15 = record {
    order = tt;
    query_left = tt;
    closed = λ o e. absurd (cc);
    complete = conflicts clash;
    own = record { none_left = candidates; answers_count = refl; brave_count = refl; ar_count = refl; iar_count = refl; undecided_count = refl };
  }

  -- ---- altered lines

  -- a block of the query alone isn't closed
  not_closed : IsClosedBlock staff_register.axioms (staff_query ∷ []) → ⊥
  not_closed c =
      let s : IsSuccessor staff_register.axioms staff_query prof_query =
      inl (
        0,
        0,
        (
          prof_is_staff,
          record { head = Var 0 ∷ []; body = atom.Concept 0 (Var 0) ∷ [] },
          refl,
          (atom.Concept 1 (Var 0), atom.Concept 0 (Var 0), refl, (Var 0, refl, refl), refl),
          refl,
        ),
      ) in
      let h = ap (λ (q : Query). q.body) (only_one staff_query prof_query (c staff_query prof_query (Contains-head staff_query []) s)) in
      cc

  -- nothing shows that every repair entails the candidate
  not_each : IsVerdict staff_register b13 (0 ∷ 1 ∷ []) question.Ar verdict.Yes → ⊥
  not_each (inl (inl (a, b, c))) = cc
  not_each (inl (inr (inl (a, b, c)))) = cc
  not_each (inl (inr (inr e))) = e
  not_each (inr (cause, m, each)) = elim (each 0 (subst (λ c. Contains c 0) (only_one (0 ∷ []) cause m) (Contains-head 0 []))) [
    | inl (a, b, c) ↦ (cc)
    | inr (inl (a, b, c)) ↦ (cc)
    | inr (inr e) ↦ e
  ]

  pub staff_reports : StaffReports
  staff_reports = record {
    accepted = record { right = (r15, (r14, (r13, (r12, (r11, (r10, (r9, (r8, (r7, (r6, (r5, (r4, (r3, (r2, (r1, tt))))))))))))))); ended = refl };
    core = λ rest. inr (
      r1,
      inr (
        r2,
        inr (
          r3,
          inr (
            r4,
            inr (
              r5,
              inr
                  (r6, inr (r7, inr (r8, inl (inr ((refl, tt), inr ((λ o e. absurd (cc)), inr (tt, (refl, λ w. nothing_dropped clash w.core)))), refl)))),
            ),
          ),
        ),
      ),
    );
    closed = λ rest. inr (
      r1,
      inr (
        r2,
        inl (
          inr (
            (r4.order, tt),
            inl (refl, λ c. elim (c origin.Query refl) [ inl e ↦ (cc) | inr closed ↦ not_closed closed ]),
          ),
          refl,
        ),
      ),
    );
    answer = λ rest. inr (
      r1,
      inr (
        r2,
        inr (
          r3,
          inr (
            r4,
            inr (
              r5,
              inr (
                r6,
                inr (
                  r7,
                  inr (
                    r8,
                    inr (
                      r9,
                      inr (
                        r10,
                        inr (
                          r11,
                          inr (
                            r12,
                            inr (r13, inl (inr ((refl, tt), inr ((λ o e. absurd (cc)), inr (tt, (refl, λ w. not_each w.ar_is)))), refl)),
                          ),
                        ),
                      ),
                    ),
                  ),
                ),
              ),
            ),
          ),
        ),
      ),
    );
    missing = inr (
      r1,
      inr (
        r2,
        inr (
          r3,
          inr (
            r4,
            inr (
              r5,
              inr (
                r6,
                inr (r7, inr (r8, inr (r9, inr (r10, inr (r11, inr (r12, inr (r13, inr (r14, ((λ e. (cc)), refl, refl))))))))),
              ),
            ),
          ),
        ),
      ),
    );
    torn = λ rest. inr (
      r1,
      inr (
        r2,
        inr (
          r3,
          inr (
            r4,
            inr (
              r5,
              inr
                  (r6, inr (r7, inr (r8, inr (r9, inr (r10, inr (r11, inr (r12, inr (r13, inr (r14, (refl, refl)))))))))),
            ),
          ),
        ),
      ),
    );
  }
