-- The lines that a report gets, one after another, and what a try learned.
use Rattle.std.proofs.Common.{◌≡◌, ◌≤◌, ◌+◌, ◌⊎◌, inl, inr, ℕ, List, [], ◌∷◌, ◌++◌, map, refl, sym, subst, ap, ◌∙◌, arith}
use Rattle.std.specs.Prelude.{Option, Some, None, Result, Ok, Err, IfSome, IfOk, OnOk, OnErr}
use Rattle.std.proofs.lemmas.List.{append_assoc, append-nil}
use Rattle.clause_meaning.proofs.Members.{Contains-nil}
use Rattle.cdcl_core.specs.State.{State}
use Rattle.proof_logs.specs.Logs.{Learned}
use Rattle.cdcl_core.specs.Solving.{Learns, Ends, cleared}
use Rattle.cdcl_core.specs.declared.outcome.Budget.{Budget}
use Rattle.report_text.specs.declared.line.Line.{Line}
use Rattle.report_text.specs.Reports.{AddsLine, StayTold}
use Rattle.answer_desk.specs.declared.plan.ClassifyFault.{ClassifyFault}
use Rattle.answer_desk.specs.declared.plan.ClassifyFault.TheVariants as fault
use Rattle.answer_evidence.specs.Logging.{learn_line, AddsLearns}
use Rattle.answer_desk.specs.Openings.{IsTornAs}
use Rattle.answer_evidence.specs.declared.evidence.Evidence.{Evidence}
use Rattle.report_text.specs.declared.line.How.{How}
use Rattle.answer_desk.specs.Trying.{Gets, torn_part, BreaksSearch, Try, Search, Learnt, Tries, EndsAs, BreaksAs, BreaksOff, lines_of, try_line}
use Rattle.answer_desk.specs.Trying.{assumed_in, core_lines, IsCoreOf, IsPartOf, Refuted, Spent}
use Rattle.cdcl_core.specs.declared.outcome.Outcome.{Outcome}
use Rattle.cdcl_core.specs.declared.outcome.Outcome.TheVariants as outcome
use Rattle.answer_evidence.specs.Aims.{IsHard, asked_for, IsCoreOver, Shows}
use Rattle.explainer.specs.declared.cores.Core.{Core}
use Rattle.answer_evidence.specs.Shown.{SeesCore}
use Rattle.report_text.specs.declared.line.How.TheVariants as how
use Rattle.report_text.specs.declared.line.Line.TheVariants as line
use Rattle.report_text.specs.declared.line.Question.{Question}
use Rattle.std.proofs.lemmas.Option.{none-some}

-- ---- lines that a report gets

pub Gets-none : (was now : Option (List Line)) → StayTold was now → Gets was now None []
Gets-none None now same = tt
Gets-none (Some lines) now same = ([], same ∙ ap (λ (ls : List Line). Some ls) (sym (append-nil lines)), refl)

pub Gets-line : (was now : Option (List Line)) (l : Line) → AddsLine was now l → Gets was now None (l ∷ [])
Gets-line None now l added = tt
Gets-line (Some lines) now l added = (l ∷ [], added, refl)

pub Gets-torn : (was now : Option (List Line)) (l : Line) → StayTold was now → Gets was now (Some l) (l ∷ [])
Gets-torn None now l same = tt
Gets-torn (Some lines) now l same = ([], same ∙ ap (λ (ls : List Line). Some ls) (sym (append-nil lines)), refl)

pub Gets-learned : (was now : Option (List Line)) (entries : List Learned) → AddsLearns was now entries → Gets was now None (map learn_line entries)
Gets-learned None now entries added = tt
Gets-learned (Some lines) now entries added = (map learn_line entries, added, append-nil (map learn_line entries))

pub Gets-learned_torn : (was now : Option (List Line)) (entries : List Learned) (l : Line) → AddsLearns was now entries
    → Gets was now (Some l) (map learn_line entries ++ l ∷ [])
Gets-learned_torn None now entries l added = tt
Gets-learned_torn (Some lines) now entries l added = (map learn_line entries, added, refl)

pub Gets-same : (now : Option (List Line)) → Gets now now None []
Gets-same None = tt
Gets-same (Some lines) = ([], ap (λ (ls : List Line). Some ls) (sym (append-nil lines)), refl)

-- one after another
pub Gets-on : (was mid now : Option (List Line)) (torn : Option Line) (first second : List Line) → Gets was mid None first → Gets mid now torn second
    → Gets was now torn (first ++ second)
Gets-on None mid now torn first second a b = tt
Gets-on (Some lines) mid now torn first second (kept, told, is) b = go (subst (λ (m : Option (List Line)). Gets m now torn second) told b)
  where
    same : kept ≡ first
    same = sym (append-nil kept) ∙ is

    go : Gets (Some (lines ++ kept)) now torn second → Gets (Some lines) now torn (first ++ second)
    go (more, got, rest) = (
      kept ++ more,
      got ∙ ap (λ (ls : List Line). Some ls) (append_assoc lines kept more),
      append_assoc kept more (torn_part torn) ∙ (ap (λ (ls : List Line). kept ++ ls) rest ∙ ap (λ (ls : List Line). ls ++ second) same),
    )

-- a line that wasn't written: what the report got of it, by the torn line
pub Gets-broken : (was now : Option (List Line)) (torn : Option Line) (T : Type 0) (l : Line) (f : ClassifyFault) → StayTold was now
    → IsTornAs {T = T} (Err f) torn l
    → (part : List Line) × ((part ≡ []) ⊎ (part ≡ l ∷ [])) × Gets was now torn part
Gets-broken was now torn T l fault.Report same is = (l ∷ [], inr refl, subst (λ (t : Option Line). Gets was now t (l ∷ [])) (sym is) (Gets-torn was now l same))
Gets-broken was now torn T l fault.NoMemory same is = ([], inl refl, subst (λ (t : Option Line). Gets was now t []) (sym is) (Gets-none was now same))

-- ---- what was learned

-- nothing, by a try without a search
pub Learns-none : (state : State) (scope assume : List ℕ) (budget : Budget) → budget.used ≤ budget.limit
    → Learns (cleared state) (cleared state) scope assume budget budget []
Learns-none state scope assume budget within = record {
  may = tt;
  join = λ m absent part parts entry listed. absurd (Contains-nil entry listed);
  live = refl;
  used = omega arith;
  limit = refl;
  within = within;
}

-- ---- a try, from its parts

-- the lines of a try come one after another
lines_got : (t : Try) (was first learned now : Option (List Line)) (torn : Option Line) (entries : List Learned) (last : List Line)
    → Gets was first None (try_line t ∷ []) → Gets first learned None (map learn_line entries) → Gets learned now torn last
    → Gets was now torn (lines_of t entries last)
lines_got t was first learned now torn entries last a b c =
    Gets-on was first now torn (try_line t ∷ []) (map learn_line entries ++ last) a (Gets-on first learned now torn (map learn_line entries) last b c)

pub tried_to_end : (t : Try) (s : Search) (causes : List (List ℕ)) (old new : Evidence) (was first learned now : Option (List Line)) (h : How)
    (entries : List Learned)
    (last : List Line) → Learnt t s entries → EndsAs t s causes old new last h
    → Gets was first None (try_line t ∷ []) → Gets first learned None (map learn_line entries) → Gets learned now None last
    → Tries t s causes old new was now h
tried_to_end t s causes old new was first learned now h entries last learnt ends a b c = record {
  entries = entries;
  learnt = learnt;
  last = last;
  ends = ends;
  told = lines_got t was first learned now None entries last a b c;
}

-- what a report got of a try that was broken off
abbrev pub Broken : Try → Search → Option (List Line) → Option (List Line) → Option Line → Type 0
Broken t s was now torn = (added : List Line) × BreaksOff t s added × Gets was now torn added

pub broken_later : (t : Try) (s : Search) (was first learned now : Option (List Line)) (torn : Option Line) (entries : List Learned) (last : List Line)
    → Learnt t s entries → BreaksAs t s last
    → Gets was first None (try_line t ∷ []) → Gets first learned None (map learn_line entries) → Gets learned now torn last
    → Broken t s was now torn
broken_later t s was first learned now torn entries last learnt breaks a b c =
    (lines_of t entries last, inr (entries, learnt, last, breaks, refl), lines_got t was first learned now torn entries last a b c)

pub broken_before : (t : Try) (s : Search) (was now : Option (List Line)) → StayTold was now → Broken t s was now None
broken_before t s was now same = ([], inl refl, Gets-none was now same)

-- it was broken off at its first line
pub broken_first : (t : Try) (s : Search) (was now : Option (List Line)) (torn : Option Line) (T : Type 0) (f : ClassifyFault) → Learnt t s []
    → StayTold was now → IsTornAs {T = T} (Err f) torn (try_line t) → Broken t s was now torn
broken_first t s was now torn T fault.Report learnt same is = (
  try_line t ∷ [],
  inr ([], learnt, [], inl refl, refl),
  subst (λ (o : Option Line). Gets was now o (try_line t ∷ [])) (sym is)
      (Gets-torn was now (try_line t) same),
)
broken_first t s was now torn T fault.NoMemory learnt same is =
    ([], inl refl, subst (λ (o : Option Line). Gets was now o []) (sym is) (Gets-none was now same))

-- behind its search, by the torn line of this
pub broken_search : (t : Try) (s : Search) (was first now : Option (List Line)) (torn : Option Line) (entries : List Learned) → Learnt t s entries
    → Gets was first None (try_line t ∷ []) → AddsLearns first now entries → BreaksSearch s.new t.scope (assumed_in t) s.now first torn
    → Broken t s was now torn
broken_search t s None first now torn entries learnt a b c = ([], inl refl, tt)
broken_search t s (Some lines) first now torn entries learnt a b c = go first refl
  where
    go : (f : Option (List Line)) → first ≡ f → Broken t s (Some lines) now torn
    go None e = absurd (none-some (lines ++ a.0) (sym e ∙ a.1))
    go (Some mid) e = elim (subst (λ (f : Option (List Line)). BreaksSearch s.new t.scope (assumed_in t) s.now f torn) e c) [
      | inl none ↦ subst (λ (o : Option Line). Broken t s (Some lines) now o) (sym none)
          (broken_later t s (Some lines) first now now None entries [] learnt (inl refl) a (Gets-learned first now entries b) (Gets-same now))
      | inr w ↦ subst (λ (o : Option Line). Broken t s (Some lines) now o) (sym w.3) (
        lines_of t entries (learn_line w.0 ∷ []),
        inr (entries, learnt, learn_line w.0 ∷ [], inr (inl (w.0, w.1, w.2, refl)), refl),
        Gets-on (Some lines) first now (Some (learn_line w.0)) (try_line t ∷ []) (map learn_line entries ++ learn_line w.0 ∷ []) a
            (Gets-learned_torn first now entries (learn_line w.0) b),
      )
    ]

-- ---- a try, by what each call of it answered

pub first_line : (t : Try) (was first : Option (List Line)) (q : Question) (assume : List ℕ) → q ≡ asked_for t.aim → assume ≡ assumed_in t
    → AddsLine was first (line.Try q assume) → Gets was first None (try_line t ∷ [])
first_line t was first q assume is same added =
    subst (λ (l : Line). Gets was first None (l ∷ [])) (ap (λ (x : Question). line.Try x assume) is ∙ ap (λ (xs : List ℕ). line.Try (asked_for t.aim) xs) same)
    (Gets-line was first (line.Try q assume) added)

pub learnt_none : (t : Try) (st new : State) (b : Budget) → new ≡ st → b.used ≤ b.limit → Learnt t (record { old = st; new = new; was = b; now = b }) []
learnt_none t st new b same within =
    subst (λ (x : State). Learns (cleared st) (cleared x) t.scope (assumed_in t) b b []) (sym same) (Learns-none st t.scope (assumed_in t) b within)

pub on_err : {T E : Type 0} (P : Type 0) (r : Result T E) → P → OnErr r P
on_err P (Ok v) p = tt
on_err P (Err e) p = p

pub on_ok_of : {T E : Type 0} (P : Type 0) (r : Result T E) → P → OnOk r P
on_ok_of P (Ok v) p = p
on_ok_of P (Err e) p = tt

pub broken_try : (t : Try) (s : Search) (was now : Option (List Line)) (torn : Option Line) (l : Line) {T : Type 0} (r : Result T ClassifyFault)
    (f : ClassifyFault)
    → r ≡ Err f → l ≡ try_line t → Learnt t s [] → OnErr r (StayTold was now) → IsTornAs r torn l → Broken t s was now torn
broken_try t s was now torn l {T} r f is same learnt stays tears =
    broken_first t s was now torn T f learnt (subst (λ (x : Result T ClassifyFault). OnErr x (StayTold was now)) is stays)
    (subst (λ (x : Line). IsTornAs {T = T} (Err f) torn x) same (subst (λ (x : Result T ClassifyFault). IsTornAs x torn l) is tears))

pub tried_core : (t : Try) (s : Search) (causes : List (List ℕ)) (old new : Evidence) (was first learned now : Option (List Line)) (entries : List Learned)
    (kept dropped : List ℕ) → Learnt t s entries → IsCoreOf t kept dropped → SeesCore causes kept dropped old new
    → Gets was first None (try_line t ∷ []) → Gets first learned None (map learn_line entries)
    → (r : Result How ClassifyFault) → IfOk r (λ h. h ≡ how.Model) → OnOk r (Gets learned now None (core_lines t.cores kept dropped))
    → IfOk r (Tries t s causes old new was now)
tried_core t s causes old new was first learned now entries kept dropped learnt core sees a b (Ok h) is got =
    subst (λ (x : How). Tries t s causes old new was now x) (sym is)
    (tried_to_end t s causes old new was first learned now how.Model entries (core_lines t.cores kept dropped) learnt (kept, dropped, core, refl, sees) a b got)
tried_core t s causes old new was first learned now entries kept dropped learnt core sees a b (Err f) is got = tt

pub broken_core : (t : Try) (s : Search) (was first learned now : Option (List Line)) (torn : Option Line) (entries : List Learned) (kept dropped : List ℕ)
    → Learnt t s entries → IsCoreOf t kept dropped → Gets was first None (try_line t ∷ []) → Gets first learned None (map learn_line entries)
    → {T : Type 0} (r : Result T ClassifyFault) → OnErr r ((last : List Line) × IsPartOf t.cores kept dropped last × Gets learned now torn last)
    → OnErr r (Broken t s was now torn)
broken_core t s was first learned now torn entries kept dropped learnt core a b (Ok v) w = tt
broken_core t s was first learned now torn entries kept dropped learnt core a b (Err f) w =
    broken_later t s was first learned now torn entries w.0 learnt (inr (inr (inl (kept, dropped, core, w.1)))) a b w.2

pub tried_done : (t : Try) (s : Search) (causes : List (List ℕ)) (old new : Evidence) (was first learned now : Option (List Line))
    (entries : List Learned) (h : How)
    → Learnt t s entries → EndsAs t s causes old new (line.Done h None ∷ []) h
    → Gets was first None (try_line t ∷ []) → Gets first learned None (map learn_line entries)
    → (r : Result How ClassifyFault) → IfOk r (λ x. x ≡ h) → OnOk r (AddsLine learned now (line.Done h None)) → IfOk r (Tries t s causes old new was now)
tried_done t s causes old new was first learned now entries h learnt ends a b (Ok x) is added =
    subst (λ (y : How). Tries t s causes old new was now y) (sym is)
    (tried_to_end t s causes old new was first learned now h entries (line.Done h None ∷ []) learnt ends a b (Gets-line learned now (line.Done h None) added))
tried_done t s causes old new was first learned now entries h learnt ends a b (Err f) is added = tt

pub broken_done : (t : Try) (s : Search) (was first learned now : Option (List Line)) (torn : Option Line) (entries : List Learned) (l : Line)
    → Learnt t s entries → BreaksAs t s (l ∷ []) → Gets was first None (try_line t ∷ []) → Gets first learned None (map learn_line entries)
    → (r : Result How ClassifyFault) → OnErr r (StayTold learned now) → IsTornAs r torn l → OnErr r (Broken t s was now torn)
broken_done t s was first learned now torn entries l learnt breaks a b (Ok v) stays tears = tt
broken_done t s was first learned now torn entries l learnt breaks a b (Err fault.Report) stays tears =
    broken_later t s was first learned now torn entries (l ∷ []) learnt breaks a b
    (subst (λ (o : Option Line). Gets learned now o (l ∷ [])) (sym tears) (Gets-torn learned now l stays))
broken_done t s was first learned now torn entries l learnt breaks a b (Err fault.NoMemory) stays tears =
    broken_later t s was first learned now torn entries [] learnt (inl refl) a b
    (subst (λ (o : Option Line). Gets learned now o []) (sym tears) (Gets-none learned now stays))

-- a core line that was broken off, and the line behind it
pub part_none : (number : ℕ) (kept dropped : List ℕ) (was now : Option (List Line)) (torn : Option Line) {T : Type 0} (r : Result T ClassifyFault)
    (f : ClassifyFault)
    → r ≡ Err f → OnErr r (StayTold was now) → IsTornAs r torn (line.Core number kept dropped)
    → (last : List Line) × IsPartOf number kept dropped last × Gets was now torn last
part_none number kept dropped was now torn {T} r f is stays tears =
    let w = Gets-broken was now torn T (line.Core number kept dropped) f (subst (λ (x : Result T ClassifyFault). OnErr x (StayTold was now)) is stays)
    (subst (λ (x : Result T ClassifyFault). IsTornAs x torn (line.Core number kept dropped)) is tears) in
    (w.0, elim w.1 [ inl e ↦ inl e | inr e ↦ inr (inl e) ], w.2)

pub part_core : (number : ℕ) (kept dropped : List ℕ) (was mid now : Option (List Line)) (torn : Option Line) {T : Type 0} (r : Result T ClassifyFault)
    → AddsLine was mid (line.Core number kept dropped) → OnErr r (StayTold mid now) → IsTornAs r torn (line.Done how.Model (Some number))
    → OnErr r ((last : List Line) × IsPartOf number kept dropped last × Gets was now torn last)
part_core number kept dropped was mid now torn (Ok v) added stays tears = tt
part_core number kept dropped was mid now torn {T} (Err f) added stays tears =
    let d = line.Done how.Model (Some number) in
    let k = line.Core number kept dropped in
    let w = Gets-broken mid now torn T d f stays tears in (
      k ∷ w.0,
      elim w.1 [ inl e ↦ inr (inl (ap (λ (xs : List Line). k ∷ xs) e)) | inr e ↦ inr (inr (ap (λ (xs : List Line). k ∷ xs) e)) ],
      Gets-on was mid now torn (k ∷ []) w.0 (Gets-line was mid k added) w.2,
    )

-- the core that a look-up found
pub core_found : (t : Try) (o : Option Core) (core : Core) → o ≡ Some core
    → IfSome o (λ x. IsCoreOver t.better x.kept x.dropped × Shows t.aim x.kept x.dropped) → IsCoreOf t core.kept core.dropped
core_found t o core is w =
    let here = subst (λ (x : Option Core). IfSome x (λ y. IsCoreOver t.better y.kept y.dropped × Shows t.aim y.kept y.dropped)) is w in
    record { over = here.0; shows = here.1 }

-- what was learned under the assumptions
pub learnt_by : (t : Try) (s : Search) (entries : List Learned) (assume : List ℕ) → assume ≡ assumed_in t
    → Learns (cleared s.old) (cleared s.new) t.scope assume s.was s.now entries → Learnt t s entries
learnt_by t s entries assume same l = subst (λ (xs : List ℕ). Learns (cleared s.old) (cleared s.new) t.scope xs s.was s.now entries) same l

-- what the outcome of the search says of the try
pub refuted_by : (t : Try) (s : Search) (assume : List ℕ) (o : Outcome) → o ≡ outcome.Refuted → assume ≡ assumed_in t
    → Ends s.new t.scope assume s.now o → Refuted t s
refuted_by t s assume o is same e =
    (subst (λ (x : Outcome). Ends s.new t.scope (assumed_in t) s.now x) is (subst (λ (xs : List ℕ). Ends s.new t.scope xs s.now o) same e)).0

pub spent_by : (t : Try) (s : Search) (assume : List ℕ) (o : Outcome) → o ≡ outcome.Spent → assume ≡ assumed_in t → Ends s.new t.scope assume s.now o
    → IsHard t.better t.conflicts t.aim → Spent t s
spent_by t s assume o is same e hard =
    let w = subst (λ (x : Outcome). Ends s.new t.scope (assumed_in t) s.now x) is (subst (λ (xs : List ℕ). Ends s.new t.scope xs s.now o) same e) in
    (w.0, w.1, hard)

-- what was learned, where the core alone was counted afterwards
pub learnt_same : (t : Try) (st mid new : State) (was now : Budget) (entries : List Learned) → new ≡ mid
    → Learnt t (record { old = st; new = mid; was = was; now = now }) entries → Learnt t (record { old = st; new = new; was = was; now = now }) entries
learnt_same t st mid new was now entries same l =
    subst (λ (x : State). Learnt t (record { old = st; new = x; was = was; now = now }) entries) (sym same) l
