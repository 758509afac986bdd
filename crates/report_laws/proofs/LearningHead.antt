-- The head, the blocks, the conflicts and the first candidate of the second worked report are right.
use Rattle.std.proofs.Common.{◌≡◌, suc, zero, inr, [], ◌∷◌, refl, subst, arith}
use Rattle.report_text.specs.declared.line.Origin.TheVariants as origin
use Rattle.report_rules.specs.Told.{block_of}
use Rattle.report_rules.specs.Order.{IsLastBlock}
use Rattle.report_rules.specs.Blocks.{IsClosedBlock}
use Rattle.report_rules.specs.Accepted.{Right}
use Rattle.report_laws.specs.LearningExample.{apart, crowded_register, who_in_a, both_names}
use Rattle.report_laws.proofs.AtStandingLemmas.{rules_kept}
use Rattle.report_laws.proofs.LearningTable.{conflict_lists}
use Rattle.report_laws.proofs.LearningCandidates.{all_candidates, candidates_are, image_of_one, image_of_two, query_closed, block_closed}
use Rattle.report_laws.proofs.LearningLines.{about, l1, l2, l3, l4, l5, l6, l7, l8, l9, l10, l11, l12, l13, b1, b2, b3, b4, b5, b6, b7, b8, b9, b10, b11, b12}
use Rattle.report_laws.proofs.LearningLines.{b13}
use Rattle.report_rules.specs.Accepted.{AreRight}

-- ---- the head and the blocks

r1 : Right about [] l1
r1 = record {
  order = refl;
  query_left = tt;
  closed = λ o e. absurd (cc);
  complete = tt;
  own =
      record { axioms_are = refl; facts_are = refl; version_is = refl };
}

r2 : Right about b1 l2
r2 = record { order = refl; query_left = λ e. absurd (cc); closed = λ o e. absurd (cc); complete = λ e. absurd (cc); own = refl }

-- behind the query's block, and behind the block of a disjointness
r3 : Right about b2 l3
r3 = record {
  order = inr (omega arith, (apart 0 1, both_names 0 1, refl, refl), λ i l h. absurd (omega arith));
  query_left = tt;
  closed = λ o e. inr (let h : origin.Query ≡ o = cc in subst (λ k. IsClosedBlock crowded_register.axioms (block_of k b2)) h query_closed);
  complete = tt;
  own = (apart 0 1, refl, refl);
}

r4 : Right about b3 l4
r4 = record {
  order = inr (omega arith, (apart 0 2, both_names 0 2, refl, refl), λ i l h. absurd (omega arith));
  query_left = tt;
  closed = λ o e. inr (let h : origin.Negative 0 ≡ o = cc in subst (λ k. IsClosedBlock crowded_register.axioms (block_of k b3)) h
      (block_closed 0 1 (λ d. omega arith)));
  complete = tt;
  own = (apart 0 2, refl, refl);
}

r5 : Right about b4 l5
r5 = record {
  order = inr (omega arith, (apart 1 2, both_names 1 2, refl, refl), λ i l h. absurd (omega arith));
  query_left = tt;
  closed = λ o e. inr (let h : origin.Negative 1 ≡ o = cc in subst (λ k. IsClosedBlock crowded_register.axioms (block_of k b4)) h
      (block_closed 0 2 (λ d. omega arith)));
  complete = tt;
  own = (apart 1 2, refl, refl);
}

r6 : Right about b5 l6
r6 = record {
  order = inr (omega arith, (apart 1 3, both_names 1 3, refl, refl), λ i l h. absurd (omega arith));
  query_left = tt;
  closed = λ o e. inr (let h : origin.Negative 2 ≡ o = cc in subst (λ k. IsClosedBlock crowded_register.axioms (block_of k b5)) h
      (block_closed 1 2 (λ d. omega arith)));
  complete = tt;
  own = (apart 1 3, refl, refl);
}

r7 : Right about b6 l7
r7 = record {
  order = inr (omega arith, (apart 2 3, both_names 2 3, refl, refl), λ i l h. absurd (omega arith));
  query_left = tt;
  closed = λ o e. inr (let h : origin.Negative 3 ≡ o = cc in subst (λ k. IsClosedBlock crowded_register.axioms (block_of k b6)) h
      (block_closed 1 3 (λ d. omega arith)));
  complete = tt;
  own = (apart 2 3, refl, refl);
}

-- ---- the conflicts

no_further : IsLastBlock crowded_register.axioms (origin.Negative 4)
no_further zero l n = absurd (omega arith)
no_further (suc zero) l n = absurd (omega arith)
no_further (suc (suc zero)) l n = absurd (omega arith)
no_further (suc (suc (suc zero))) l n = absurd (omega arith)
no_further (suc (suc (suc (suc zero)))) l n = absurd (omega arith)
no_further (suc (suc (suc (suc (suc i))))) l (rule, q, e, n) = absurd (cc)

pub up_to_7 : AreRight about b7
up_to_7 = (r7, (r6, (r5, (r4, (r3, (r2, (r1, tt)))))))

pub r8 : Right about b7 l8
r8 = record {
  order = no_further;
  query_left = tt;
  closed = λ o e. inr (let h : origin.Negative 4 ≡ o = cc in subst (λ k. IsClosedBlock crowded_register.axioms (block_of k b7)) h
      (block_closed 2 3 (λ d. omega arith)));
  complete = tt;
  own = record {
    next = ((0 ∷ 2 ∷ []) ∷ (1 ∷ 2 ∷ []) ∷ (1 ∷ 3 ∷ []) ∷ (2 ∷ 3 ∷ []) ∷ [], conflict_lists);
    found =
        (both_names 0 1, refl, image_of_two 0 1 (omega arith) refl refl);
  };
}

pub r9 : Right about b8 l9
r9 = record {
  order = tt;
  query_left = tt;
  closed = λ o e. absurd (cc);
  complete = tt;
  own = record {
    next = ((1 ∷ 2 ∷ []) ∷ (1 ∷ 3 ∷ []) ∷ (2 ∷ 3 ∷ []) ∷ [], conflict_lists);
    found =
        (both_names 0 2, refl, image_of_two 0 2 (omega arith) refl refl);
  };
}

pub r10 : Right about b9 l10
r10 = record {
  order = tt;
  query_left = tt;
  closed = λ o e. absurd (cc);
  complete = tt;
  own = record { next = ((1 ∷ 3 ∷ []) ∷ (2 ∷ 3 ∷ []) ∷ [], conflict_lists); found = (both_names 1 2, refl, image_of_two 1 2 (omega arith) refl refl) };
}

pub r11 : Right about b10 l11
r11 = record {
  order = tt;
  query_left = tt;
  closed = λ o e. absurd (cc);
  complete = tt;
  own = record { next = ((2 ∷ 3 ∷ []) ∷ [], conflict_lists); found = (both_names 1 3, refl, image_of_two 1 3 (omega arith) refl refl) };
}

pub r12 : Right about b11 l12
r12 = record {
  order = tt;
  query_left = tt;
  closed = λ o e. absurd (cc);
  complete = tt;
  own = record { next = ([], conflict_lists); found = (both_names 2 3, refl, image_of_two 2 3 (omega arith) refl refl) };
}

pub up_to_12 : AreRight about b12
up_to_12 = (r12, (r11, (r10, (r9, (r8, up_to_7)))))

-- ---- the first candidate

pub r13 : Right about b12 l13
r13 = record {
  order = inr tt;
  query_left = tt;
  closed = λ o e. absurd (cc);
  complete = conflict_lists;
  own = ((rules_kept about b12 up_to_12).ask all_candidates candidates_are 0 (0 ∷ []) ((0 ∷ []) ∷ []) (0 ∷ [])).0
      (record { number = refl; next = refl; found = ((who_in_a, refl, image_of_one 0 0 refl), tt) });
}

pub up_to_13 : AreRight about b13
up_to_13 = (r13, up_to_12)
