-- Lines before the first answer, which tell nothing of answers and learned clauses.
use Rattle.std.proofs.Common.{◌≡◌, ℕ, List, [], ◌∷◌, ◌++◌, Contains, Bool, inl, inr, refl, ◌∙◌}
use Rattle.cq_meaning.proofs.Members.{Contains-nil, Contains-cases}
use Rattle.cq_terms.specs.declared.facts.Repairs.{Repairs}
use Rattle.cq_terms.specs.declared.hits.Clash.{Clash}
use Rattle.cq_steps.specs.declared.closure.Member.{Member}
use Rattle.report_text.specs.declared.line.Line.{Line}
use Rattle.report_text.specs.declared.line.Line.TheVariants as line
use Rattle.report_text.specs.declared.line.Origin.{Origin}
use Rattle.report_text.specs.declared.line.Origin.TheVariants as origin
use Rattle.report_text.specs.declared.line.Verdict.{Verdict}
use Rattle.report_rules.specs.Told.{mode_of, budget_of, keep_of, count_ends, answered, count_answers}
use Rattle.report_rules.specs.Tries.{count_cores}
use Rattle.report_rules.specs.Live.{learned, count_learned}
use Rattle.answer_desk.specs.Desks.{answer_lines}
use Rattle.classifier.specs.WholeLines.{cq_lines, negative_lines, block_lines, conflict_lines}
use Rattle.classifier.specs.WholeWriting.{with_lines}

-- the line is of a block or of a conflict
abbrev pub IsOfTable : Line → Type 0
IsOfTable (line.Cq o query step) = Unit {0}
IsOfTable (line.Conflict facts rule member) = Unit {0}
IsOfTable _ = ⊥

abbrev pub AreOfTable : List Line → Type 0
AreOfTable [] = Unit {0}
AreOfTable (l ∷ lines) = IsOfTable l × AreOfTable lines

pub of_table_append : (xs ys : List Line) → AreOfTable xs → AreOfTable ys → AreOfTable (xs ++ ys)
of_table_append [] ys a b = b
of_table_append (x ∷ xs) ys a b = (a.0, of_table_append xs ys a.1 b)

pub cqs_of_table : (o : Origin) (members : List Member) → AreOfTable (cq_lines o members)
cqs_of_table o [] = tt
cqs_of_table o (m ∷ members) = (tt, cqs_of_table o members)

pub blocks_of_table : (closures : List (ℕ × List Member)) → AreOfTable (block_lines closures)
blocks_of_table [] = tt
blocks_of_table (c ∷ closures) =
    of_table_append (negative_lines c) (block_lines closures) (cqs_of_table (origin.Negative c.0) c.1) (blocks_of_table closures)

pub conflicts_of_table : (clashes : List Clash) → AreOfTable (conflict_lines clashes)
conflicts_of_table [] = tt
conflicts_of_table (c ∷ clashes) = (tt, conflicts_of_table clashes)

-- what lines tell that have no answer, no learned clause and no core
pub record SayNothing (before : List Line) : Type 0 where
  pub learned_none : (facts : ℕ) → learned facts before ≡ []
  pub clauses : count_learned before ≡ 0
  pub cores : count_cores before ≡ 0
  pub no_core : (n : ℕ) (kept dropped : List ℕ) → Contains before (line.Core n kept dropped) → ⊥
  pub no_tuple : answered before ≡ []
  pub ends : count_ends before ≡ 0
  pub counts : (test : Verdict → Verdict → Verdict → Bool) → count_answers test before ≡ 0
  pub answers : answer_lines before ≡ 0

-- the same options, and still nothing
pub record AddsNothing (old new : List Line) : Type 0 where
  pub mode : mode_of new ≡ mode_of old
  pub budget : budget_of new ≡ budget_of old
  pub keep : keep_of new ≡ keep_of old
  pub nothing : SayNothing new

core_later : (l : Line) (before : List Line) → ((n : ℕ) (kept dropped : List ℕ) → l ≡ line.Core n kept dropped → ⊥)
    → ((n : ℕ) (kept dropped : List ℕ) → Contains before (line.Core n kept dropped) → ⊥)
    → (n : ℕ) (kept dropped : List ℕ) → Contains (l ∷ before) (line.Core n kept dropped) → ⊥
core_later l before other none n kept dropped c = elim (Contains-cases l before (line.Core n kept dropped) c) [
  | inl e ↦ other n kept dropped e
  | inr m ↦ none n kept dropped m
]

nothing_more : (l : Line) (before : List Line) → IsOfTable l → SayNothing before → SayNothing (l ∷ before)
nothing_more (line.Cq o query step) before h w = record {
  learned_none = w.learned_none;
  clauses = w.clauses;
  cores = w.cores;
  no_core = core_later (line.Cq o query step) before (λ n kept dropped e. cc) w.no_core;
  no_tuple = w.no_tuple;
  ends = w.ends;
  counts = w.counts;
  answers = w.answers;
}
nothing_more (line.Conflict facts rule member) before h w = record {
  learned_none = w.learned_none;
  clauses = w.clauses;
  cores = w.cores;
  no_core = core_later (line.Conflict facts rule member) before (λ n kept dropped e. cc) w.no_core;
  no_tuple = w.no_tuple;
  ends = w.ends;
  counts = w.counts;
  answers = w.answers;
}
nothing_more l before h w = absurd h

same_options : (l : Line) (before : List Line) → IsOfTable l
    → (mode_of (l ∷ before) ≡ mode_of before) × (budget_of (l ∷ before) ≡ budget_of before) × (keep_of (l ∷ before) ≡ keep_of before)
same_options (line.Cq o query step) before h = (refl, refl, refl)
same_options (line.Conflict facts rule member) before h = (refl, refl, refl)
same_options l before h = absurd h

pub table_adds : (before lines : List Line) → AreOfTable lines → SayNothing before → AddsNothing before (with_lines before lines)
table_adds before [] h w = record { mode = refl; budget = refl; keep = refl; nothing = w }
table_adds before (l ∷ lines) h w =
    let more = table_adds (l ∷ before) lines h.1 (nothing_more l before h.0 w) in
    let same = same_options l before h.0 in
    record { mode = more.mode ∙ same.0; budget = more.budget ∙ same.1; keep = more.keep ∙ same.2; nothing = more.nothing }

-- the head alone
pub head_says_nothing : (axioms budget facts keep version : ℕ) (repairs : Repairs) → SayNothing (line.Head axioms budget facts keep repairs version ∷ [])
head_says_nothing axioms budget facts keep version repairs = record {
  learned_none = λ n. refl;
  clauses = refl;
  cores = refl;
  no_core = core_later (line.Head axioms budget facts keep repairs version) [] (λ n kept dropped e. cc)
      (λ n kept dropped c. Contains-nil (line.Core n kept dropped) c);
  no_tuple = refl;
  ends = refl;
  counts = λ test. refl;
  answers = refl;
}
