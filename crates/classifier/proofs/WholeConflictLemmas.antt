-- The conflict lines are right, one after another.
use Rattle.std.proofs.Common.{◌≡◌, ℕ, List, [], ◌∷◌, ◌++◌, Contains, inr, Some, slice_get, refl, sym, subst, ap, ◌∙◌}
use Rattle.std.specs.Prelude.{All, option_map}
use Rattle.std.proofs.lemmas.List.{append-nil, append_assoc, map_push, map-append}
use Rattle.std.proofs.lemmas.List.Elements.{Contains-append_right, All-contains}
use Rattle.std.proofs.lemmas.Option.{slice_get-map}
use Rattle.cq_terms.specs.declared.hits.Clash.{Clash}
use Rattle.cq_terms.specs.Knowledge.{Knowledge}
use Rattle.cq_terms.specs.Query.{Query}
use Rattle.cq_meaning.proofs.Members.{Contains-head}
use Rattle.cq_steps.specs.declared.closure.Member.{Member}
use Rattle.cq_steps.specs.Closing.{queries_of}
use Rattle.conflict_finder.specs.Finding.{Shows, IsShownFirst}
use Rattle.report_text.specs.declared.line.Line.{Line}
use Rattle.report_text.specs.declared.line.Origin.{Origin}
use Rattle.report_text.specs.declared.line.Origin.TheVariants as origin
use Rattle.report_rules.specs.declared.place.Place.TheVariants.{InBlock}
use Rattle.report_rules.specs.Inputs.{OneQuery, report_on}
use Rattle.report_rules.specs.ConflictLists.{AreConflictLists}
use Rattle.report_rules.specs.Order.{place_of, AreBlocksOver}
use Rattle.report_rules.specs.Told.{block_of, conflicts_of}
use Rattle.report_rules.specs.Blocks.{IsClosedBlock}
use Rattle.report_rules.specs.Rules.{MemberMatches}
use Rattle.report_rules.specs.Accepted.{Right}
use Rattle.report_laws.specs.ConflictLaws.{facts_told}
use Rattle.classifier.specs.WholeLines.{conflict_line, conflict_lines}
use Rattle.classifier.specs.WholeWriting.{with_lines, AreRightInTurn}
use Rattle.classifier.proofs.WholeBlockLemmas.{BlocksTold, one_place}

-- behind all blocks and these conflicts
pub record ConflictsTold (kb : Knowledge) (members : List Member) (closures : List (ℕ × List Member)) (done : List Clash) (before : List Line) : Type 0 where
  pub over : AreBlocksOver OneQuery kb.axioms (place_of before)
  pub closed : (p : Origin) → place_of before ≡ InBlock p → IsClosedBlock kb.axioms (block_of p before)
  pub query : block_of origin.Query before ≡ queries_of members
  pub negative : (n : ℕ) (ms : List Member) → Contains closures (n, ms) → block_of (origin.Negative n) before ≡ queries_of ms
  pub told : conflicts_of before ≡ facts_told done

pub none_told : (kb : Knowledge) (members : List Member) (closures : List (ℕ × List Member)) (at : Origin) (before : List Line)
    → BlocksTold kb.axioms members closures at before → AreBlocksOver OneQuery kb.axioms (InBlock at) → ConflictsTold kb members closures [] before
none_told kb members closures at before t over = record {
  over = subst (AreBlocksOver OneQuery kb.axioms) (sym t.place) over;
  closed = λ p e. subst (λ (o : Origin). IsClosedBlock kb.axioms (block_of o before)) (one_place at p (sym t.place ∙ e)) t.closed;
  query = t.query;
  negative = t.negative;
  told = t.no_conflict;
}

-- a member of a closure that shows the facts matches with them
shown_matches : (kb : Knowledge) (members : List Member) (closures : List (ℕ × List Member)) (done : List Clash) (before : List Line) (n place : ℕ)
    (facts : List ℕ) → ConflictsTold kb members closures done before → Shows kb.facts closures n place facts
    → MemberMatches kb.facts (block_of (origin.Negative n) before) place [] facts
shown_matches kb members closures done before n place facts t (ms, m, there, at, image) =
    let listed : slice_get (queries_of ms) place ≡ Some m.query = slice_get-map (λ (x : Member). x.query) ms place
    ∙ ap (option_map (λ (x : Member). x.query)) at in
    subst (λ (qs : List Query). MemberMatches kb.facts qs place [] facts) (sym (t.negative n ms there)) (m.query, listed, image)

one_conflict : (kb : Knowledge) (texts : List (List ℕ)) (q : Query) (members : List Member) (closures : List (ℕ × List Member)) (done : List Clash)
    (c : Clash) (rest : List Clash) (before : List Line) → ConflictsTold kb members closures done before
    → AreConflictLists kb (facts_told (done ++ c ∷ rest)) → IsShownFirst kb.facts closures c.facts c.«axiom» c.member
    → Right (report_on kb texts q) before (conflict_line c)
one_conflict kb texts q members closures done c rest before t lists shown = record {
  order = t.over;
  query_left = tt;
  closed = λ p e. inr (t.closed p e);
  complete = tt;
  own = record {
    next = (
      facts_told rest,
      subst (AreConflictLists kb) (map-append (λ (x : Clash). x.facts) done (c ∷ rest)
          ∙ ap (λ (xs : List (List ℕ)). xs ++ c.facts ∷ facts_told rest) (sym t.told)) lists,
    );
    found = shown_matches kb members closures done before c.«axiom» c.member c.facts t shown.shown;
  };
}

more_told : (kb : Knowledge) (members : List Member) (closures : List (ℕ × List Member)) (done : List Clash) (c : Clash) (before : List Line)
    → ConflictsTold kb members closures done before → ConflictsTold kb members closures (done ++ c ∷ []) (conflict_line c ∷ before)
more_told kb members closures done c before t = record {
  over = tt;
  closed = λ p e. absurd (cc);
  query = t.query;
  negative = t.negative;
  told = ap (λ (xs : List (List ℕ)). xs ++ c.facts ∷ []) t.told ∙ sym (map_push (λ (x : Clash). x.facts) done c);
}

conflicts_left : (kb : Knowledge) (texts : List (List ℕ)) (q : Query) (members : List Member) (closures : List (ℕ × List Member)) (all : List Clash)
    → AreConflictLists kb (facts_told all) → All (λ c. IsShownFirst kb.facts closures c.facts c.«axiom» c.member) all
    → (done rest : List Clash) (before : List Line) → done ++ rest ≡ all → ConflictsTold kb members closures done before
    → ConflictsTold kb members closures all (with_lines before (conflict_lines rest)) × AreRightInTurn (report_on kb texts q) before (conflict_lines rest)
conflicts_left kb texts q members closures all lists shown done [] before split t =
    (subst (λ (cs : List Clash). ConflictsTold kb members closures cs before) (sym (append-nil done) ∙ split) t, tt)
conflicts_left kb texts q members closures all lists shown done (c ∷ rest) before split t =
    let there : Contains all c = subst (λ (cs : List Clash). Contains cs c) split (Contains-append_right done (c ∷ rest) c (Contains-head c rest)) in
    let first : IsShownFirst kb.facts closures c.facts c.«axiom» c.member =
    All-contains (λ (d : Clash). IsShownFirst kb.facts closures d.facts d.«axiom» d.member) all c shown there in
    let here = one_conflict kb texts q members closures done c rest before t (subst (λ (cs : List Clash). AreConflictLists kb (facts_told cs))
    (sym split) lists)
    first in
    let w = conflicts_left kb texts q members closures all lists shown (done ++ c ∷ []) rest (conflict_line c ∷ before)
    (append_assoc done (c ∷ []) rest ∙ split) (more_told kb members closures done c before t) in
    (w.0, (here, w.1))

-- all conflicts behind all blocks
pub all_conflicts : (kb : Knowledge) (texts : List (List ℕ)) (q : Query) (members : List Member) (closures : List (ℕ × List Member)) (all : List Clash)
    (before : List Line) → AreConflictLists kb (facts_told all) → All (λ c. IsShownFirst kb.facts closures c.facts c.«axiom» c.member) all
    → ConflictsTold kb members closures [] before
    → ConflictsTold kb members closures all (with_lines before (conflict_lines all)) × AreRightInTurn (report_on kb texts q) before (conflict_lines all)
all_conflicts kb texts q members closures all before lists shown t = conflicts_left kb texts q members closures all lists shown [] all before refl t
