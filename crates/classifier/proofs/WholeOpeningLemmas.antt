-- The lines before the first answer are right, and agree with a desk that has answered nothing.
use Rattle.std.proofs.Common.{◌≡◌, ℕ, List, [], ◌∷◌, ◌++◌, length, true, inr, refl, sym, subst, ◌∙◌, arith}
use Rattle.std.specs.Prelude.{All}
use Rattle.cq_terms.specs.declared.axioms.Axiom.{Axiom}
use Rattle.cq_terms.specs.declared.hits.Clash.{Clash}
use Rattle.cq_terms.specs.Conflicts.{ConflictGraph, AreClashes}
use Rattle.cq_terms.specs.Knowledge.{Knowledge}
use Rattle.cq_terms.specs.Query.{Query}
use Rattle.cq_meaning.proofs.Members.{Contains-nil}
use Rattle.cq_steps.specs.declared.closure.Member.{Member}
use Rattle.cq_steps.specs.Closing.{queries_of, Closes}
use Rattle.cq_steps.specs.Derivation.{IsDerivation}
use Rattle.priority_graph.specs.Priority.{Priority}
use Rattle.report_text.specs.declared.line.Line.{Line}
use Rattle.report_text.specs.declared.line.Origin.TheVariants as origin
use Rattle.report_text.specs.declared.line.Question.{Question}
use Rattle.report_text.specs.declared.line.Question.TheVariants as question
use Rattle.report_rules.specs.declared.place.Place.{Place}
use Rattle.report_rules.specs.declared.place.Place.TheVariants.{InBlock, AfterAnswer}
use Rattle.report_rules.specs.Inputs.{Input, OneQuery, report_on}
use Rattle.report_rules.specs.ConflictLists.{AreConflictLists}
use Rattle.report_rules.specs.Order.{place_of, AreBlocksOver, IsBetweenAnswers}
use Rattle.report_rules.specs.Told.{block_of}
use Rattle.report_rules.specs.Blocks.{IsClosedBlock}
use Rattle.report_rules.specs.Accepted.{Right}
use Rattle.report_laws.specs.Summaries.{yes_to, any_open}
use Rattle.report_laws.proofs.ClashLists.{clashes_are_conflict_lists}
use Rattle.report_laws.proofs.PlaceLemmas.{over_closed}
use Rattle.answer_desk.specs.declared.plan.Plan.{Plan}
use Rattle.classifier.specs.WholeInputs.{AreOfInput}
use Rattle.classifier.specs.WholeLines.{head_line, cq_lines, block_lines, conflict_lines, opening_lines}
use Rattle.classifier.specs.WholeReports.{first_desk, no_summary, yes_count, AnswersSoFar}
use Rattle.classifier.specs.WholeWriting.{with_lines, AreRightInTurn}
use Rattle.classifier.proofs.WholeWritingLemmas.{with_lines-append, in_turn_append, right_with}
use Rattle.classifier.proofs.WholeQuietLemmas.{AreOfTable, of_table_append, cqs_of_table, blocks_of_table, conflicts_of_table, AddsNothing, table_adds}
use Rattle.classifier.proofs.WholeQuietLemmas.{head_says_nothing}
use Rattle.classifier.proofs.WholeBlockLemmas.{BlocksTold, block_in_turn, block_grows, block_stays, place_in_block, conflicts_stay, closed_block}
use Rattle.classifier.proofs.WholeBlockLemmas.{none_further, all_blocks}
use Rattle.classifier.proofs.WholeConflictLemmas.{ConflictsTold, none_told, all_conflicts}

-- an answer may begin where the blocks are over
between : (axioms : List Axiom) (p : Place) → AreBlocksOver OneQuery axioms p → IsBetweenAnswers OneQuery axioms p
between axioms AfterAnswer over = tt
between axioms p over = over

-- the head alone
abbrev after_head : Knowledge → Plan → List Line
after_head kb plan = head_line kb plan ∷ []

-- the lines behind it
abbrev later_lines : List Member → List (ℕ × List Member) → List Clash → List Line
later_lines members closures clashes = cq_lines origin.Query members ++ (block_lines closures ++ conflict_lines clashes)

later_of_table : (members : List Member) (closures : List (ℕ × List Member)) (clashes : List Clash) → AreOfTable (later_lines members closures clashes)
later_of_table members closures clashes =
    of_table_append (cq_lines origin.Query members) (block_lines closures ++ conflict_lines clashes) (cqs_of_table origin.Query members)
    (of_table_append (block_lines closures) (conflict_lines clashes) (blocks_of_table closures) (conflicts_of_table clashes))

right_head : (kb : Knowledge) (texts : List (List ℕ)) (q : Query) (plan : Plan) → Right (report_on kb texts q) [] (head_line kb plan)
right_head kb texts q plan = record {
  order = refl;
  query_left = tt;
  closed = λ o e. absurd (cc);
  complete = tt;
  own = record { axioms_are = refl; facts_are = refl; version_is = refl };
}

-- the block of the query
query_told : (kb : Knowledge) (q : Query) (plan : Plan) (members : List Member) → IsDerivation members → Closes kb.axioms q members
    → BlocksTold kb.axioms members [] origin.Query (with_lines (after_head kb plan) (cq_lines origin.Query members))
query_told kb q plan [] derivation closes = absurd (let l = derivation.some in omega (arith, l))
query_told kb q plan (m ∷ ms) derivation closes =
    let own : block_of origin.Query (with_lines (after_head kb plan) (cq_lines origin.Query (m ∷ ms))) ≡ queries_of (m ∷ ms) =
    block_grows origin.Query (m ∷ ms) (after_head kb plan) in
    record {
      place = place_in_block origin.Query m ms (after_head kb plan);
      closed = subst (IsClosedBlock kb.axioms) (sym own) (closed_block kb.axioms q (m ∷ ms) closes);
      query = own;
      negative = λ n ks c. absurd (Contains-nil (n, ks) c);
      fresh = λ n none. block_stays (origin.Negative n) origin.Query refl (m ∷ ms) (after_head kb plan);
      passed = λ n ks c. absurd (Contains-nil (n, ks) c);
      no_conflict = conflicts_stay origin.Query (m ∷ ms) (after_head kb plan);
    }

-- what the lines tell, which are right in turn
record IsOpened (kb : Knowledge) (texts : List (List ℕ)) (q : Query) (plan : Plan) (members : List Member) (closures : List (ℕ × List Member))
    (clashes : List Clash) : Type 0 where
  turn : AreRightInTurn (report_on kb texts q) [] (opening_lines kb plan members closures clashes)
  told : ConflictsTold kb members closures clashes (with_lines [] (opening_lines kb plan members closures clashes))

opened : (kb : Knowledge) (texts : List (List ℕ)) (q : Query) (plan : Plan) (g : ConflictGraph) (closures : List (ℕ × List Member)) (p : Priority)
    (members : List Member) → AreOfInput kb plan g closures p → Closes kb.axioms q members → IsDerivation members
    → All (λ c. IsDerivation c.1) closures → AreClashes g.facts g.clashes → IsOpened kb texts q plan members closures g.clashes
opened kb texts q plan g closures p members of closes derivation derived ordered =
    let input : Input = report_on kb texts q in
    let start : List Line = after_head kb plan in
    let cqs : List Line = cq_lines origin.Query members in
    let blocks : List Line = block_lines closures in
    let conflicts : List Line = conflict_lines g.clashes in
    let queries : AreRightInTurn input start cqs =
    block_in_turn kb texts q origin.Query q members start derivation closes.derived refl refl (record { order = refl; closed = λ o e. absurd (cc) }) in
    let (last, told, turn) = all_blocks kb texts q members closures of.closures_are derived (with_lines start cqs)
    (query_told kb q plan members derivation closes) in
    let before : List Line = with_lines (with_lines start cqs) blocks in
    let over : AreBlocksOver OneQuery kb.axioms (InBlock last) = none_further kb texts q members closures of.closures_are derived last before told in
    let w = all_conflicts kb texts q members closures g.clashes before (clashes_are_conflict_lists kb g of.conflicts ordered) of.named
    (none_told kb members closures last before told over) in
    let same : with_lines start (cqs ++ (blocks ++ conflicts)) ≡ with_lines before conflicts =
    with_lines-append start cqs (blocks ++ conflicts) ∙ with_lines-append (with_lines start cqs) blocks conflicts in
    record {
      turn = (
        right_head kb texts q plan,
        in_turn_append input start cqs (blocks ++ conflicts) queries (in_turn_append input (with_lines start cqs) blocks conflicts turn w.1),
      );
      told = subst (ConflictsTold kb members closures g.clashes) (sym same) w.0;
    }

-- so the lines are right in turn
pub opening_in_turn : (kb : Knowledge) (texts : List (List ℕ)) (q : Query) (plan : Plan) (g : ConflictGraph) (closures : List (ℕ × List Member))
    (p : Priority) (members : List Member) → AreOfInput kb plan g closures p → Closes kb.axioms q members → IsDerivation members
    → All (λ c. IsDerivation c.1) closures → AreClashes g.facts g.clashes
    → AreRightInTurn (report_on kb texts q) [] (opening_lines kb plan members closures g.clashes)
opening_in_turn kb texts q plan g closures p members of closes derivation derived ordered =
    (opened kb texts q plan g closures p members of closes derivation derived ordered).turn

none_yes : (q : Question) → yes_count q no_summary ≡ 0
none_yes question.Brave = refl
none_yes question.Ar = refl
none_yes question.Iar = refl

-- and agree with a desk that has answered nothing
pub opening_agrees : (kb : Knowledge) (texts : List (List ℕ)) (q : Query) (plan : Plan) (g : ConflictGraph) (closures : List (ℕ × List Member))
    (p : Priority) (members : List Member) (selectors : ℕ) → AreOfInput kb plan g closures p → Closes kb.axioms q members → IsDerivation members
    → All (λ c. IsDerivation c.1) closures → AreClashes g.facts g.clashes
    → AnswersSoFar (report_on kb texts q) (first_desk g p plan selectors) members [] no_summary
    (with_lines [] (opening_lines kb plan members closures g.clashes))
opening_agrees kb texts q plan g closures p members selectors of closes derivation derived ordered =
    let input : Input = report_on kb texts q in
    let w = opened kb texts q plan g closures p members of closes derivation derived ordered in
    let before : List Line = with_lines [] (opening_lines kb plan members closures g.clashes) in
    let adds : AddsNothing (after_head kb plan) before = table_adds (after_head kb plan) (later_lines members closures g.clashes)
    (later_of_table members closures g.clashes)
    (head_says_nothing (length kb.axioms) plan.budget (length kb.facts) plan.keep 1 plan.repairs) in
    let none = adds.nothing in
    record {
      right = right_with input [] (opening_lines kb plan members closures g.clashes) tt w.turn;
      agrees = record {
        priority = of.priority;
        told = record {
          closed = over_closed OneQuery kb.axioms (place_of before) w.told.over;
          mode = adds.mode;
          budget = adds.budget;
          keep = adds.keep;
          learned = none.learned_none (length kb.facts);
          clauses = none.clauses;
          cores = none.cores;
          cores_numbered = λ n kept dropped c. absurd (none.no_core n kept dropped c);
          cores_unique = λ n kept dropped kept' dropped' c d. absurd (none.no_core n kept dropped c);
        };
        answers = none.answers;
        between = between kb.axioms (place_of before) w.told.over;
        closed = λ candidate tuple causes places o e. inr (w.told.closed o e);
        complete = subst (AreConflictLists kb) (sym w.told.told) (clashes_are_conflict_lists kb g of.conflicts ordered);
      };
      block = w.told.query;
      first = none.ends;
      tuples_are = none.no_tuple;
      counted = record {
        answers = sym (none.counts (λ b a i. true));
        yes = λ x. none_yes x ∙ sym (none.counts (yes_to x));
        undecided = sym (none.counts any_open);
      };
    }
