use Rattle.std.proofs.Common.{rules, List, [], refl, sym, subst, ap, ◌∙◌, inl, inr}
use Rattle.std.specs.Prelude.{None, OnOk, OnErr}
use Rattle.clause_meaning.specs.Assignments.{IsInside}
use Rattle.clause_meaning.specs.Learning.{is_in}
use Rattle.report_text.specs.declared.line.Line.{Line}
use Rattle.report_text.specs.declared.line.Line.TheVariants as line
use Rattle.report_text.specs.declared.line.How.TheVariants as how
use Rattle.answer_evidence.specs.Aims.{IsCoreOver, asked_for}
use Rattle.answer_desk.specs.Trying.{Try, Search, IsCoreOf, try_at, Gets, core_lines, BreaksSearch, IsPartOf}
use Rattle.answer_desk.proofs.TryLemmas.{Broken, on_ok_of, on_err, first_line, learnt_none, broken_try, broken_later, broken_search, tried_core}
use Rattle.answer_desk.specs.Openings.{IsOpen}
use Rattle.answer_desk.proofs.AimLemmas.{aim_inside}
use Rattle.answer_desk.proofs.OpenLemmas.{IsOpen-seen}
use Rattle.answer_desk.proofs.TryLemmas.{broken_core, tried_done, broken_done}
use Rattle.answer_desk.proofs.TryLemmas.{Gets-same, Gets-learned, core_found, learnt_by, learnt_same, refuted_by, spent_by}
use Rattle.answer_desk.proofs.work.Work.try_assuming.Goals as goal

pub returns-in_err-tell_try-clause-broken : goal.returns-in_err-tell_try-clause-broken
returns-in_err-tell_try-clause-broken g c =
    let t : Try =
    try_at c.args.self.now.better.now c.args.self.now.conflicts.now c.args.opening.now c.args.self.now.cores c.args.aim.now in
    let s : Search = record { old = c.args.self.now.solver; new = c.args.self.now.solver; was = c.args.budget.now; now = c.args.budget.now } in
    on_err _ _ (broken_try t s _ _ _ (line.Try c.question.result c.args.assume.now) c.tell_try.result _ c.in_err-tell_try.was
    (ap (λ q. line.Try q c.args.assume.now) c.question.ensures ∙ ap (λ xs. line.Try (asked_for c.args.aim.now) xs) c.requires.assumed)
    (learnt_none t c.args.self.now.solver c.args.self.now.solver c.args.budget.now refl c.requires.room.within) c.tell_try.ensures.unchanged
    c.tell_try.ensures.torn)

pub returns-in_err-core-clause-broken : goal.returns-in_err-core-clause-broken
returns-in_err-core-clause-broken g c =
    let t : Try =
    try_at c.args.self.now.better.now c.args.self.now.conflicts.now c.args.opening.now c.args.self.now.cores c.args.aim.now in
    let s : Search = record { old = c.args.self.now.solver; new = c.args.self.now.solver; was = c.args.budget.now; now = c.args.budget.now } in
    let lines = g.L.Report.lines in
    let first = first_line t (lines c.args.report.now) (lines c.tell_try.new.report) c.question.result c.args.assume.now
    c.question.ensures c.requires.assumed c.in_ok-tell_try.ensures.added in
    on_err _ _ (subst (λ o. Broken t s (lines c.args.report.now) (lines c.tell_try.new.report) o) (sym c.in_ok-tell_try.ensures.torn)
    (broken_later t s (lines c.args.report.now) (lines c.tell_try.new.report) (lines c.tell_try.new.report) (lines c.tell_try.new.report) None [] []
    (learnt_none t c.args.self.now.solver c.args.self.now.solver c.args.budget.now refl c.requires.room.within) (inl refl) first
    (Gets-same (lines c.tell_try.new.report)) (Gets-same (lines c.tell_try.new.report))))

pub returns-in-Some-clause-tried : goal.returns-in-Some-clause-tried
returns-in-Some-clause-tried g c =
    let t : Try =
    try_at c.args.self.now.better.now c.args.self.now.conflicts.now c.args.opening.now c.args.self.now.cores c.args.aim.now in
    let s : Search = record { old = c.args.self.now.solver; new = c.tell_core.new.self.solver; was = c.args.budget.now; now = c.args.budget.now } in
    let lines = g.L.Report.lines in
    let first = first_line t (lines c.args.report.now) (lines c.tell_try.new.report) c.question.result c.args.assume.now
    c.question.ensures c.requires.assumed c.in_ok-tell_try.ensures.added in
    tried_core t s c.args.causes.now _ _ (lines c.args.report.now) (lines c.tell_try.new.report) (lines c.tell_try.new.report)
    (lines c.tell_core.new.report) [] c.in-Some.core.kept c.in-Some.core.dropped (learnt_none t c.args.self.now.solver c.tell_core.new.self.solver
    c.args.budget.now (ap (λ w. w.solver) c.tell_core.ensures.only) c.requires.room.within) (core_found t c.in_ok-core.field-0 c.in-Some.core
    c.in-Some.is c.in_ok-core.ensures.found) c.tell_core.ensures.seen first (Gets-same (lines c.tell_try.new.report)) c.tell_core.result
    c.tell_core.ensures.model c.tell_core.ensures.told

pub returns-in-Some-clause-broken : goal.returns-in-Some-clause-broken
returns-in-Some-clause-broken g c =
    let t : Try =
    try_at c.args.self.now.better.now c.args.self.now.conflicts.now c.args.opening.now c.args.self.now.cores c.args.aim.now in
    let s : Search = record { old = c.args.self.now.solver; new = c.tell_core.new.self.solver; was = c.args.budget.now; now = c.args.budget.now } in
    let lines = g.L.Report.lines in
    let first = first_line t (lines c.args.report.now) (lines c.tell_try.new.report) c.question.result c.args.assume.now
    c.question.ensures c.requires.assumed c.in_ok-tell_try.ensures.added in
    broken_core t s (lines c.args.report.now) (lines c.tell_try.new.report) (lines c.tell_try.new.report) (lines c.tell_core.new.report) _ []
    c.in-Some.core.kept c.in-Some.core.dropped (learnt_none t c.args.self.now.solver c.tell_core.new.self.solver c.args.budget.now
    (ap (λ w. w.solver) c.tell_core.ensures.only) c.requires.room.within) (core_found t c.in_ok-core.field-0 c.in-Some.core c.in-Some.is
    c.in_ok-core.ensures.found) first (Gets-same (lines c.tell_try.new.report)) c.tell_core.result c.tell_core.ensures.broken

pub returns-in_err-search-clause-broken : goal.returns-in_err-search-clause-broken
returns-in_err-search-clause-broken g c =
    let t : Try =
    try_at c.args.self.now.better.now c.args.self.now.conflicts.now c.args.opening.now c.args.self.now.cores c.args.aim.now in
    let s : Search = record { old = c.args.self.now.solver; new = c.search.new.self.solver; was = c.args.budget.now; now = c.search.new.budget } in
    let lines = g.L.Report.lines in
    let torn = g.L.Report.torn in
    let first = first_line t (lines c.args.report.now) (lines c.tell_try.new.report) c.question.result c.args.assume.now
    c.question.ensures c.requires.assumed c.in_ok-tell_try.ensures.added in
    let learnt = learnt_by t s c.search.ensures.learned.0 c.args.assume.now c.requires.assumed c.search.ensures.learned.1 in
    on_err _ _ (broken_search t s (lines c.args.report.now) (lines c.tell_try.new.report) (lines c.search.new.report) _ c.search.ensures.learned.0
    learnt first c.search.ensures.learned.2 (subst (λ xs. BreaksSearch c.search.new.self.solver c.args.opening.now.scope.items xs
    c.search.new.budget (lines c.tell_try.new.report) (torn c.search.new.report)) c.requires.assumed c.in_err-search.ensures.broken))

pub returns-in-Refuted-clause-tried : goal.returns-in-Refuted-clause-tried
returns-in-Refuted-clause-tried g c =
    let t : Try =
    try_at c.args.self.now.better.now c.args.self.now.conflicts.now c.args.opening.now c.args.self.now.cores c.args.aim.now in
    let s : Search = record { old = c.args.self.now.solver; new = c.search.new.self.solver; was = c.args.budget.now; now = c.search.new.budget } in
    let lines = g.L.Report.lines in
    let first = first_line t (lines c.args.report.now) (lines c.tell_try.new.report) c.question.result c.args.assume.now
    c.question.ensures c.requires.assumed c.in_ok-tell_try.ensures.added in
    let told = Gets-learned (lines c.tell_try.new.report) (lines c.search.new.report) c.search.ensures.learned.0
    c.search.ensures.learned.2 in
    let learnt = learnt_by t s c.search.ensures.learned.0 c.args.assume.now c.requires.assumed c.search.ensures.learned.1 in
    tried_done t s c.args.causes.now c.args.opening.now.evidence c.args.opening.now.evidence (lines c.args.report.now) (lines c.tell_try.new.report)
    (lines c.search.new.report) (lines c.tell_done.new.report) c.search.ensures.learned.0 how.Refuted learnt
    (refuted_by t s c.args.assume.now c.in_ok-search.field-0 c.in-Refuted.is c.requires.assumed c.in_ok-search.ensures.ends, refl, refl) first told
    c.tell_done.result c.tell_done.ensures.same c.tell_done.ensures.added

pub returns-in-Refuted-clause-broken : goal.returns-in-Refuted-clause-broken
returns-in-Refuted-clause-broken g c =
    let t : Try =
    try_at c.args.self.now.better.now c.args.self.now.conflicts.now c.args.opening.now c.args.self.now.cores c.args.aim.now in
    let s : Search = record { old = c.args.self.now.solver; new = c.search.new.self.solver; was = c.args.budget.now; now = c.search.new.budget } in
    let lines = g.L.Report.lines in
    let first = first_line t (lines c.args.report.now) (lines c.tell_try.new.report) c.question.result c.args.assume.now
    c.question.ensures c.requires.assumed c.in_ok-tell_try.ensures.added in
    let told = Gets-learned (lines c.tell_try.new.report) (lines c.search.new.report) c.search.ensures.learned.0
    c.search.ensures.learned.2 in
    let learnt = learnt_by t s c.search.ensures.learned.0 c.args.assume.now c.requires.assumed c.search.ensures.learned.1 in
    broken_done t s (lines c.args.report.now) (lines c.tell_try.new.report) (lines c.search.new.report) (lines c.tell_done.new.report) _
    c.search.ensures.learned.0 (line.Done how.Refuted None) learnt
    (inr (inr (inr (inl (
      refuted_by t s c.args.assume.now c.in_ok-search.field-0 c.in-Refuted.is c.requires.assumed c.in_ok-search.ensures.ends,
      refl,
    ))))) first told c.tell_done.result c.tell_done.ensures.unchanged c.tell_done.ensures.torn

pub returns-in-Spent-clause-tried : goal.returns-in-Spent-clause-tried
returns-in-Spent-clause-tried g c =
    let t : Try =
    try_at c.args.self.now.better.now c.args.self.now.conflicts.now c.args.opening.now c.args.self.now.cores c.args.aim.now in
    let s : Search = record { old = c.args.self.now.solver; new = c.search.new.self.solver; was = c.args.budget.now; now = c.search.new.budget } in
    let lines = g.L.Report.lines in
    let first = first_line t (lines c.args.report.now) (lines c.tell_try.new.report) c.question.result c.args.assume.now
    c.question.ensures c.requires.assumed c.in_ok-tell_try.ensures.added in
    let told = Gets-learned (lines c.tell_try.new.report) (lines c.search.new.report) c.search.ensures.learned.0
    c.search.ensures.learned.2 in
    let learnt = learnt_by t s c.search.ensures.learned.0 c.args.assume.now c.requires.assumed c.search.ensures.learned.1 in
    tried_done t s c.args.causes.now c.args.opening.now.evidence c.args.opening.now.evidence (lines c.args.report.now) (lines c.tell_try.new.report)
    (lines c.search.new.report) (lines c.tell_done-in-Spent.new.report) c.search.ensures.learned.0 how.Spent learnt (
      (spent_by t s c.args.assume.now c.in_ok-search.field-0 c.in-Spent.is c.requires.assumed c.in_ok-search.ensures.ends
          (c.in_ok-core.ensures.none (search rules))),
      refl,
      refl,
    ) first told c.tell_done-in-Spent.result c.tell_done-in-Spent.ensures.same
    c.tell_done-in-Spent.ensures.added

pub returns-in-Spent-clause-broken : goal.returns-in-Spent-clause-broken
returns-in-Spent-clause-broken g c =
    let t : Try =
    try_at c.args.self.now.better.now c.args.self.now.conflicts.now c.args.opening.now c.args.self.now.cores c.args.aim.now in
    let s : Search = record { old = c.args.self.now.solver; new = c.search.new.self.solver; was = c.args.budget.now; now = c.search.new.budget } in
    let lines = g.L.Report.lines in
    let first = first_line t (lines c.args.report.now) (lines c.tell_try.new.report) c.question.result c.args.assume.now
    c.question.ensures c.requires.assumed c.in_ok-tell_try.ensures.added in
    let told = Gets-learned (lines c.tell_try.new.report) (lines c.search.new.report) c.search.ensures.learned.0
    c.search.ensures.learned.2 in
    let learnt = learnt_by t s c.search.ensures.learned.0 c.args.assume.now c.requires.assumed c.search.ensures.learned.1 in
    broken_done t s (lines c.args.report.now) (lines c.tell_try.new.report) (lines c.search.new.report) (lines c.tell_done-in-Spent.new.report) _
    c.search.ensures.learned.0 (line.Done how.Spent None) learnt
    (inr (inr (inr (inr (
      (spent_by t s c.args.assume.now c.in_ok-search.field-0 c.in-Spent.is c.requires.assumed c.in_ok-search.ensures.ends
          (c.in_ok-core.ensures.none (search rules))),
      refl,
    ))))) first told c.tell_done-in-Spent.result c.tell_done-in-Spent.ensures.unchanged
    c.tell_done-in-Spent.ensures.torn

pub returns-in_err-core-in-Model-clause-broken : goal.returns-in_err-core-in-Model-clause-broken
returns-in_err-core-in-Model-clause-broken g c =
    let t : Try =
    try_at c.args.self.now.better.now c.args.self.now.conflicts.now c.args.opening.now c.args.self.now.cores c.args.aim.now in
    let s : Search = record { old = c.args.self.now.solver; new = c.search.new.self.solver; was = c.args.budget.now; now = c.search.new.budget } in
    let lines = g.L.Report.lines in
    let first = first_line t (lines c.args.report.now) (lines c.tell_try.new.report) c.question.result c.args.assume.now
    c.question.ensures c.requires.assumed c.in_ok-tell_try.ensures.added in
    let told = Gets-learned (lines c.tell_try.new.report) (lines c.search.new.report) c.search.ensures.learned.0
    c.search.ensures.learned.2 in
    let learnt = learnt_by t s c.search.ensures.learned.0 c.args.assume.now c.requires.assumed c.search.ensures.learned.1 in
    on_err _ _ (subst (λ o. Broken t s (lines c.args.report.now) (lines c.search.new.report) o) (sym c.in_ok-search.ensures.none_torn)
    (broken_later t s (lines c.args.report.now) (lines c.tell_try.new.report) (lines c.search.new.report) (lines c.search.new.report) None
    c.search.ensures.learned.0 [] learnt (inl refl) first told (Gets-same (lines c.search.new.report))))

pub returns-in_ok-core-in-Model-clause-tried : goal.returns-in_ok-core-in-Model-clause-tried
returns-in_ok-core-in-Model-clause-tried g c =
    let t : Try =
    try_at c.args.self.now.better.now c.args.self.now.conflicts.now c.args.opening.now c.args.self.now.cores c.args.aim.now in
    let lines = g.L.Report.lines in
    let first = first_line t (lines c.args.report.now) (lines c.tell_try.new.report) c.question.result c.args.assume.now
    c.question.ensures c.requires.assumed c.in_ok-tell_try.ensures.added in
    let told = Gets-learned (lines c.tell_try.new.report) (lines c.search.new.report) c.search.ensures.learned.0
    c.search.ensures.learned.2 in
    let s : Search = record { old = c.args.self.now.solver; new = c.search.new.self.solver; was = c.args.budget.now; now = c.search.new.budget } in
    let e : Search =
    record { old = c.args.self.now.solver; new = c.tell_core-in-Model.new.self.solver; was = c.args.budget.now; now = c.search.new.budget } in
    let kept = c.in_ok-core-in-Model.core.kept in
    let dropped = c.in_ok-core-in-Model.core.dropped in
    let learnt = learnt_same t s.old s.new e.new s.was s.now c.search.ensures.learned.0 (ap (λ w. w.solver) c.tell_core-in-Model.ensures.only)
    (learnt_by t s c.search.ensures.learned.0 c.args.assume.now c.requires.assumed c.search.ensures.learned.1) in
    let core : IsCoreOf t kept dropped = record {
      over = subst (λ p. IsCoreOver p kept dropped) (ap (λ w. w.better.now) c.search.ensures.only_solver) c.in_ok-core-in-Model.ensures.exact.0;
      shows = c.in_ok-core-in-Model.ensures.exact.1;
    } in
    tried_core t e c.args.causes.now _ _ (lines c.args.report.now) (lines c.tell_try.new.report) (lines c.search.new.report)
    (lines c.tell_core-in-Model.new.report) c.search.ensures.learned.0 kept dropped learnt core c.tell_core-in-Model.ensures.seen first told
    c.tell_core-in-Model.result c.tell_core-in-Model.ensures.model
    (subst (λ n. OnOk c.tell_core-in-Model.result (Gets (lines c.search.new.report) (lines c.tell_core-in-Model.new.report) None
    (core_lines n kept dropped))) (ap (λ w. w.cores) c.search.ensures.only_solver) c.tell_core-in-Model.ensures.told)

pub returns-in_ok-core-in-Model-clause-broken : goal.returns-in_ok-core-in-Model-clause-broken
returns-in_ok-core-in-Model-clause-broken g c =
    let t : Try =
    try_at c.args.self.now.better.now c.args.self.now.conflicts.now c.args.opening.now c.args.self.now.cores c.args.aim.now in
    let lines = g.L.Report.lines in
    let torn = g.L.Report.torn in
    let first = first_line t (lines c.args.report.now) (lines c.tell_try.new.report) c.question.result c.args.assume.now
    c.question.ensures c.requires.assumed c.in_ok-tell_try.ensures.added in
    let told = Gets-learned (lines c.tell_try.new.report) (lines c.search.new.report) c.search.ensures.learned.0
    c.search.ensures.learned.2 in
    let s : Search = record { old = c.args.self.now.solver; new = c.search.new.self.solver; was = c.args.budget.now; now = c.search.new.budget } in
    let e : Search =
    record { old = c.args.self.now.solver; new = c.tell_core-in-Model.new.self.solver; was = c.args.budget.now; now = c.search.new.budget } in
    let kept = c.in_ok-core-in-Model.core.kept in
    let dropped = c.in_ok-core-in-Model.core.dropped in
    let learnt = learnt_same t s.old s.new e.new s.was s.now c.search.ensures.learned.0 (ap (λ w. w.solver) c.tell_core-in-Model.ensures.only)
    (learnt_by t s c.search.ensures.learned.0 c.args.assume.now c.requires.assumed c.search.ensures.learned.1) in
    let core : IsCoreOf t kept dropped = record {
      over = subst (λ p. IsCoreOver p kept dropped) (ap (λ w. w.better.now) c.search.ensures.only_solver) c.in_ok-core-in-Model.ensures.exact.0;
      shows = c.in_ok-core-in-Model.ensures.exact.1;
    } in
    broken_core t e (lines c.args.report.now) (lines c.tell_try.new.report) (lines c.search.new.report) (lines c.tell_core-in-Model.new.report) _
    c.search.ensures.learned.0 kept dropped learnt core first told c.tell_core-in-Model.result
    (subst (λ n. OnErr c.tell_core-in-Model.result ((last : List Line) × IsPartOf n kept dropped last × Gets (lines c.search.new.report)
    (lines c.tell_core-in-Model.new.report) (torn c.tell_core-in-Model.new.report) last)) (ap (λ w. w.cores) c.search.ensures.only_solver)
    c.tell_core-in-Model.ensures.broken)

pub returns-in-Some-clause-still_open : goal.returns-in-Some-clause-still_open
returns-in-Some-clause-still_open g c =
    on_ok_of _ c.tell_core.result (subst (λ w. IsOpen w.conflicts.now w.better.now w.solver c.tell_core.new.opening c.args.causes.now)
    (sym c.tell_core.ensures.only) (IsOpen-seen _ _ _ c.args.opening.now c.tell_core.new.opening c.args.causes.now c.requires.open
    c.tell_core.ensures.same c.tell_core.ensures.seen.cut.same_length))

pub returns-in_ok-core-in-Model-clause-still_open : goal.returns-in_ok-core-in-Model-clause-still_open
returns-in_ok-core-in-Model-clause-still_open g c =
    on_ok_of _ c.tell_core-in-Model.result (subst (λ w. IsOpen w.conflicts.now w.better.now w.solver c.tell_core-in-Model.new.opening c.args.causes.now)
    (sym c.tell_core-in-Model.ensures.only) (IsOpen-seen _ _ _ c.args.opening.now c.tell_core-in-Model.new.opening c.args.causes.now
    c.search.ensures.still_open c.tell_core-in-Model.ensures.same c.tell_core-in-Model.ensures.seen.cut.same_length))

pub search-requires-clause-inside : goal.search-requires-clause-inside
search-requires-clause-inside g c =
    subst (IsInside (is_in c.args.opening.now.scope.items)) (sym c.requires.assumed) (aim_inside c.args.self.now.conflicts.now
    c.args.self.now.better.now c.args.self.now.solver c.args.opening.now c.args.causes.now c.requires.open c.args.aim.now c.requires.over)
