use Rattle.std.proofs.Common.{IfSome, sym, ◌∙◌, subst}
use Rattle.cqapri_words.specs.declared.refusal.Refusal.TheVariants as refusal
use Rattle.input_files.specs.Ends.{EndsBy}
use Rattle.input_files.specs.Inputs.{StopsFiles}
use Rattle.cqapri_words.specs.Jobs.{names_in}
use Rattle.input_files.proofs.EndLemmas.{after_all, all_succeed, ends_facts, ends_ontology, ends_priority, ends_query}
use Rattle.input_files.proofs.FileLemmas.{asked_at, bounded, facts_at, files_say, priority_at}
use Rattle.input_files.proofs.StopLemmas.{IfErr-of, stops_by_memory, stops_facts, stops_ontology, stops_priority, stops_query}
use Rattle.input_files.proofs.input.read_input.Goals as goal

pub returns-in_err-axioms-clause-refused : goal.returns-in_err-axioms-clause-refused
returns-in_err-axioms-clause-refused g c =
    let stop = stops_ontology (g.S.Shelf.holds c.args.files.now) (names_in c.args.paths.now) c.in_err-axioms.field-0.0 c.in_err-axioms.ensures.refused in
    IfErr-of _ _ c.from_residual.result c.from_residual.ensures.1
    (λ r e. subst (λ r. IfSome (g.S.Shelf.holds c.args.files.now) (λ held. StopsFiles held (names_in c.args.paths.now) r)) (sym e) stop)

pub returns-in_err-axioms-clause-ended : goal.returns-in_err-axioms-clause-ended
returns-in_err-axioms-clause-ended g c =
    let stop = ends_ontology (names_in c.args.paths.now) c.in_err-axioms.field-0.0 (g.S.Shelf.failing c.args.files.now) _
    c.in_err-axioms.ensures.of_file c.in_err-axioms.ensures.told c.in_err-axioms.ensures.next in
    IfErr-of _ _ c.from_residual.result c.from_residual.ensures.1
    (λ r e. subst (λ r. EndsBy (names_in c.args.paths.now) r (g.S.Shelf.failing c.args.files.now) (g.S.Shelf.failing c.read_ontology.new.files))
    (sym e) stop)

pub returns-in_err-table-clause-refused : goal.returns-in_err-table-clause-refused
returns-in_err-table-clause-refused g c =
    let stop = stops_facts (g.S.Shelf.holds c.args.files.now) _ c.in_ok-axioms.ensures.same_files (names_in c.args.paths.now) _ _ _ (record {
      read =
          c.in_ok-axioms.ensures.exact;
    }) c.in_err-table.field-0.0 c.in_err-table.ensures.refused in
    IfErr-of _ _ c.from_residual-in_err-table.result c.from_residual-in_err-table.ensures.1
    (λ r e. subst (λ r. IfSome (g.S.Shelf.holds c.args.files.now) (λ held. StopsFiles held (names_in c.args.paths.now) r)) (sym e) stop)

pub returns-in_err-table-clause-ended : goal.returns-in_err-table-clause-ended
returns-in_err-table-clause-ended g c =
    let stop = ends_facts (names_in c.args.paths.now) c.in_err-table.field-0.0 (g.S.Shelf.failing c.args.files.now) _ _ c.in_ok-axioms.ensures.told
    c.in_ok-axioms.ensures.next c.in_err-table.ensures.of_file c.in_err-table.ensures.told c.in_err-table.ensures.next in
    IfErr-of _ _ c.from_residual-in_err-table.result c.from_residual-in_err-table.ensures.1
    (λ r e. subst (λ r. EndsBy (names_in c.args.paths.now) r (g.S.Shelf.failing c.args.files.now) (g.S.Shelf.failing c.read_table.new.files)) (sym e) stop)

pub returns-in_err-facts-clause-refused : goal.returns-in_err-facts-clause-refused
returns-in_err-facts-clause-refused g c =
    let stop = subst (λ r. IfSome (g.S.Shelf.holds c.args.files.now) (λ held. StopsFiles held (names_in c.args.paths.now) r)) (sym
    c.in_err-facts.ensures.memory) (stops_by_memory (g.S.Shelf.holds c.args.files.now) (names_in c.args.paths.now)) in
    IfErr-of _ _ c.from_residual-in_err-facts.result c.from_residual-in_err-facts.ensures.1
    (λ r e. subst (λ r. IfSome (g.S.Shelf.holds c.args.files.now) (λ held. StopsFiles held (names_in c.args.paths.now) r)) (sym e) stop)

pub returns-in_err-facts-clause-ended : goal.returns-in_err-facts-clause-ended
returns-in_err-facts-clause-ended g c =
    let stop = subst (λ r. EndsBy (names_in c.args.paths.now) r (g.S.Shelf.failing c.args.files.now) (g.S.Shelf.failing c.read_table.new.files)) (sym
    c.in_err-facts.ensures.memory) (ends_facts (names_in c.args.paths.now) refusal.NoMemory (g.S.Shelf.failing c.args.files.now) _ _
    c.in_ok-axioms.ensures.told c.in_ok-axioms.ensures.next tt c.in_ok-table.ensures.told c.in_ok-table.ensures.next) in
    IfErr-of _ _ c.from_residual-in_err-facts.result c.from_residual-in_err-facts.ensures.1
    (λ r e. subst (λ r. EndsBy (names_in c.args.paths.now) r (g.S.Shelf.failing c.args.files.now) (g.S.Shelf.failing c.read_table.new.files)) (sym e) stop)

pub returns-in_err-pairs-clause-refused : goal.returns-in_err-pairs-clause-refused
returns-in_err-pairs-clause-refused g c =
    let stop = stops_priority (g.S.Shelf.holds c.args.files.now) _ (c.in_ok-table.ensures.same_files ∙ c.in_ok-axioms.ensures.same_files) (names_in
    c.args.paths.now) _ _ _ _ c.in_ok-table.table (record { read = c.in_ok-axioms.ensures.exact }) (facts_at (g.S.Shelf.holds c.args.files.now) _
    c.in_ok-axioms.ensures.same_files (names_in c.args.paths.now) _ _ c.in_ok-table.table c.in_ok-table.ensures.exact) c.in_err-pairs.field-0.0
    c.in_err-pairs.ensures.refused in
    IfErr-of _ _ c.from_residual-in_err-pairs.result c.from_residual-in_err-pairs.ensures.1
    (λ r e. subst (λ r. IfSome (g.S.Shelf.holds c.args.files.now) (λ held. StopsFiles held (names_in c.args.paths.now) r)) (sym e) stop)

pub returns-in_err-pairs-clause-ended : goal.returns-in_err-pairs-clause-ended
returns-in_err-pairs-clause-ended g c =
    let stop = ends_priority (names_in c.args.paths.now).ontology (names_in c.args.paths.now).facts (names_in c.args.paths.now).priority (names_in
    c.args.paths.now).query c.in_err-pairs.field-0.0 (g.S.Shelf.failing c.args.files.now) _ _ _ (record {
      ontology = c.in_ok-axioms.ensures.told;
      facts = c.in_ok-table.ensures.told;
      first_is = c.in_ok-axioms.ensures.next;
      second_is = c.in_ok-table.ensures.next;
    }) c.in_err-pairs.ensures.only_named c.in_err-pairs.ensures.of_file c.in_err-pairs.ensures.told c.in_err-pairs.ensures.next in
    IfErr-of _ _ c.from_residual-in_err-pairs.result c.from_residual-in_err-pairs.ensures.1
    (λ r e. subst (λ r. EndsBy (names_in c.args.paths.now) r (g.S.Shelf.failing c.args.files.now) (g.S.Shelf.failing c.read_priority.new.files))
    (sym e) stop)

pub returns-in_err-query-clause-refused : goal.returns-in_err-query-clause-refused
returns-in_err-query-clause-refused g c =
    let stop = stops_query (g.S.Shelf.holds c.args.files.now) _ (c.in_ok-pairs.ensures.same_files ∙ c.in_ok-table.ensures.same_files ∙
    c.in_ok-axioms.ensures.same_files) (names_in c.args.paths.now) _ _ _ _ c.in_ok-table.table c.in_ok-pairs.pairs.items (record {
      read =
          c.in_ok-axioms.ensures.exact;
    }) (facts_at (g.S.Shelf.holds c.args.files.now) _ c.in_ok-axioms.ensures.same_files (names_in
    c.args.paths.now) _ _ c.in_ok-table.table c.in_ok-table.ensures.exact) (priority_at (g.S.Shelf.holds
    c.args.files.now) _ (c.in_ok-table.ensures.same_files ∙ c.in_ok-axioms.ensures.same_files) (names_in c.args.paths.now) c.in_ok-table.table
    c.in_ok-pairs.pairs.items c.in_ok-pairs.ensures.exact) c.in_err-query.field-0.0 c.in_err-query.ensures.refused in
    IfErr-of _ _ c.from_residual-in_err-query.result c.from_residual-in_err-query.ensures.1
    (λ r e. subst (λ r. IfSome (g.S.Shelf.holds c.args.files.now) (λ held. StopsFiles held (names_in c.args.paths.now) r)) (sym e) stop)

pub returns-in_err-query-clause-ended : goal.returns-in_err-query-clause-ended
returns-in_err-query-clause-ended g c =
    let stop = ends_query (names_in c.args.paths.now).ontology (names_in c.args.paths.now).facts (names_in c.args.paths.now).priority (names_in
    c.args.paths.now).query c.in_err-query.field-0.0 (g.S.Shelf.failing c.args.files.now) _ _ _ _ (record {
      ontology = c.in_ok-axioms.ensures.told;
      facts = c.in_ok-table.ensures.told;
      first_is = c.in_ok-axioms.ensures.next;
      second_is = c.in_ok-table.ensures.next;
    }) c.in_ok-pairs.ensures.told c.in_ok-pairs.ensures.next c.in_err-query.ensures.of_file c.in_err-query.ensures.told c.in_err-query.ensures.next in
    IfErr-of _ _ c.from_residual-in_err-query.result c.from_residual-in_err-query.ensures.1
    (λ r e. subst (λ r. EndsBy (names_in c.args.paths.now) r (g.S.Shelf.failing c.args.files.now) (g.S.Shelf.failing c.read_query.new.files)) (sym e) stop)

pub returns-clause-exact : goal.returns-clause-exact
returns-clause-exact g c =
    files_say (g.S.Shelf.holds c.args.files.now) (names_in c.args.paths.now) c.new-vocab.result _ _ _ c.in_ok-axioms.axioms.items c.in_ok-table.table
    c.in_ok-pairs.pairs.items c.in_ok-query.query (record {
      no_concepts = c.new-vocab.ensures.concepts;
      no_roles = c.new-vocab.ensures.roles;
      no_inds = c.new-vocab.ensures.inds;
      ontology = (record { read = c.in_ok-axioms.ensures.exact });
      facts = (facts_at (g.S.Shelf.holds c.args.files.now) _ c.in_ok-axioms.ensures.same_files (names_in c.args.paths.now) _ _ c.in_ok-table.table
          c.in_ok-table.ensures.exact);
      priority = (priority_at (g.S.Shelf.holds c.args.files.now) _ (c.in_ok-table.ensures.same_files ∙ c.in_ok-axioms.ensures.same_files) (names_in
          c.args.paths.now) c.in_ok-table.table c.in_ok-pairs.pairs.items c.in_ok-pairs.ensures.exact);
      asked = (asked_at (g.S.Shelf.holds c.args.files.now) _ (c.in_ok-pairs.ensures.same_files ∙ c.in_ok-table.ensures.same_files ∙
          c.in_ok-axioms.ensures.same_files) (names_in c.args.paths.now) _ _ c.in_ok-query.query c.in_ok-query.ensures.exact);
    })
    c.in_ok-facts.facts.items c.in_ok-facts.ensures.exact _ c.new-kb.ensures.exact

pub returns-clause-bounded : goal.returns-clause-bounded
returns-clause-bounded g c =
    bounded (g.S.Shelf.holds c.args.files.now) (names_in c.args.paths.now) c.new-vocab.result _ _ _ c.in_ok-axioms.axioms.items c.in_ok-table.table
    c.in_ok-pairs.pairs.items c.in_ok-query.query (record {
      no_concepts = c.new-vocab.ensures.concepts;
      no_roles = c.new-vocab.ensures.roles;
      no_inds = c.new-vocab.ensures.inds;
      ontology = (record { read = c.in_ok-axioms.ensures.exact });
      facts = (facts_at (g.S.Shelf.holds c.args.files.now) _ c.in_ok-axioms.ensures.same_files (names_in c.args.paths.now) _ _ c.in_ok-table.table
          c.in_ok-table.ensures.exact);
      priority = (priority_at (g.S.Shelf.holds c.args.files.now) _ (c.in_ok-table.ensures.same_files ∙ c.in_ok-axioms.ensures.same_files) (names_in
          c.args.paths.now) c.in_ok-table.table c.in_ok-pairs.pairs.items c.in_ok-pairs.ensures.exact);
      asked = (asked_at (g.S.Shelf.holds c.args.files.now) _ (c.in_ok-pairs.ensures.same_files ∙ c.in_ok-table.ensures.same_files ∙
          c.in_ok-axioms.ensures.same_files) (names_in c.args.paths.now) _ _ c.in_ok-query.query c.in_ok-query.ensures.exact);
    })
    c.in_ok-query.ensures.grown c.in_ok-table.ensures.numbered c.in_ok-table.ensures.few
    c.in_ok-facts.facts.items c.in_ok-facts.ensures.exact _ c.new-kb.ensures.exact

pub returns-clause-succeeded : goal.returns-clause-succeeded
returns-clause-succeeded g c =
    all_succeed (names_in c.args.paths.now).ontology (names_in c.args.paths.now).facts (names_in c.args.paths.now).priority (names_in
    c.args.paths.now).query (g.S.Shelf.failing c.args.files.now) _ _ _
    (record {
      ontology = c.in_ok-axioms.ensures.told;
      facts = c.in_ok-table.ensures.told;
      first_is = c.in_ok-axioms.ensures.next;
      second_is = c.in_ok-table.ensures.next;
    }) c.in_ok-pairs.ensures.told c.in_ok-pairs.ensures.next c.in_ok-query.ensures.told

pub returns-clause-after : goal.returns-clause-after
returns-clause-after g c =
    after_all (names_in c.args.paths.now).ontology (names_in c.args.paths.now).facts (names_in c.args.paths.now).priority (names_in
    c.args.paths.now).query (g.S.Shelf.failing c.args.files.now) _ _ _ _
    (record {
      ontology = c.in_ok-axioms.ensures.told;
      facts = c.in_ok-table.ensures.told;
      first_is = c.in_ok-axioms.ensures.next;
      second_is = c.in_ok-table.ensures.next;
    }) c.in_ok-pairs.ensures.next c.in_ok-query.ensures.next
