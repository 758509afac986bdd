-- The places of a report: where no answer is open, and what the open answer asks.
use Rattle.std.proofs.Common.{◌≡◌, ◌⊎◌, inl, inr, List, [], ◌∷◌, true, false, true≢false, refl, sym, ap}
use Rattle.std.proofs.lemmas.List.Elements.{All-contains, Contains-append_right}
use Rattle.cq_terms.specs.declared.axioms.Axiom.{Axiom}
use Rattle.cq_meaning.specs.Conflicts.{FactsEntail}
use Rattle.cq_meaning.specs.Candidates.{Every}
use Rattle.cq_meaning.proofs.Members.{Contains-head}
use Rattle.report_text.specs.declared.line.Line.{Line}
use Rattle.report_text.specs.declared.line.Line.TheVariants as line
use Rattle.report_text.specs.declared.line.Origin.{Origin}
use Rattle.report_text.specs.declared.line.Origin.TheVariants as origin
use Rattle.report_rules.specs.declared.place.Place.{Place}
use Rattle.report_rules.specs.declared.place.Place.TheVariants.{AtStart, AfterHead, InBlock, InConflicts, AfterForget, InTry, AfterCore, AfterAnswer, AtEnd}
use Rattle.report_rules.specs.Inputs.{Input, Form, OneQuery, Session}
use Rattle.report_rules.specs.Order.{place_of, is_answering, is_open, MayHaveBlock, AreBlocksOver, IsBetweenAnswers}
use Rattle.report_rules.specs.Told.{query_of}
use Rattle.report_rules.specs.Accepted.{AreRight}
use Rattle.report_laws.specs.OpenAnswers.{IsInPlace}

-- no answer is open where the blocks are over
pub over_closed : (form : Form) (axioms : List Axiom) (p : Place) → AreBlocksOver form axioms p → is_answering p ≡ false
over_closed form axioms AfterHead h = refl
over_closed form axioms (InBlock o) h = refl
over_closed form axioms InConflicts h = refl
over_closed OneQuery axioms _ h = absurd h
over_closed Session axioms _ h = absurd h

-- nor where a line of a block may come
pub block_closed : (form : Form) (axioms : List Axiom) (p : Place) (o : Origin) → MayHaveBlock form axioms p o → is_answering p ≡ false
block_closed form axioms AfterHead o h = refl
block_closed form axioms (InBlock o') o h = refl
block_closed form axioms AtEnd o h = refl
block_closed form axioms InConflicts o h = refl
block_closed OneQuery axioms _ o h = absurd h
block_closed Session axioms _ origin.Query h = absurd h
block_closed Session axioms _ (origin.Negative i) h = absurd h

-- nor between two answers
pub between_closed : (form : Form) (axioms : List Axiom) (p : Place) → IsBetweenAnswers form axioms p → is_answering p ≡ false
between_closed form axioms AfterAnswer h = refl
between_closed form axioms (InBlock o) h = refl
between_closed form axioms InConflicts h = refl
between_closed OneQuery axioms _ h = absurd h
between_closed Session axioms _ h = absurd h

-- nor where a candidate may be asked
pub ask_closed : (form : Form) (axioms : List Axiom) (p : Place) → (p ≡ AfterForget) ⊎ IsBetweenAnswers form axioms p → is_answering p ≡ false
ask_closed form axioms p (inl e) = ap is_answering e
ask_closed form axioms p (inr h) = between_closed form axioms p h

-- an answer is open where a try may end
pub try_open : (p : Place) → (p ≡ InTry) ⊎ (p ≡ AfterCore) → is_answering p ≡ true
try_open p (inl e) = ap is_answering e
try_open p (inr e) = ap is_answering e

-- only before the head is the report at its start
pub starts_empty : (b : List Line) → place_of b ≡ AtStart → b ≡ []
starts_empty [] e = refl
starts_empty (line.Head axioms budget facts keep repairs version ∷ b) e = absurd (cc)
starts_empty (line.Cq o query step ∷ b) e = absurd (cc)
starts_empty (line.Conflict facts rule member ∷ b) e = absurd (cc)
starts_empty (line.Ask candidate tuple causes members ∷ b) e = absurd (cc)
starts_empty (line.Try question assume ∷ b) e = absurd (cc)
starts_empty (line.Learn number clause ∷ b) e = absurd (cc)
starts_empty (line.Core number kept dropped ∷ b) e = absurd (cc)
starts_empty (line.Done how core ∷ b) e = absurd (cc)
starts_empty (line.Forget clauses ∷ b) e = absurd (cc)
starts_empty (line.Answer brave ar iar cores names tuple ∷ b) e = absurd (cc)
starts_empty (line.End answers brave ar iar undecided ∷ b) e = absurd (cc)

-- in an open answer after right lines the candidate is in place
pub asked_right : (input : Input) (before : List Line) → AreRight input before → is_open before ≡ true → IsInPlace input before
asked_right input (line.Ask candidate tuple causes members ∷ b) (r, rs) o = record {
  entailed = let w = r.own.next in All-contains (FactsEntail input.kb Every (query_of input b)) _ tuple w.1.entailed
      (Contains-append_right _ (tuple ∷ w.0) tuple (Contains-head tuple w.0));
  causes_are = r.own.causes_are;
}
asked_right input (line.Try question assume ∷ b) (r, rs) o = let w = asked_right input b rs (ap is_answering r.order) in
    record { entailed = w.entailed; causes_are = w.causes_are }
asked_right input (line.Learn number clause ∷ b) (r, rs) o = let w = asked_right input b rs (ap is_answering r.order) in
    record { entailed = w.entailed; causes_are = w.causes_are }
asked_right input (line.Core number kept dropped ∷ b) (r, rs) o = let w = asked_right input b rs (ap is_answering r.order) in
    record { entailed = w.entailed; causes_are = w.causes_are }
asked_right input (line.Done how core ∷ b) (r, rs) o = let w = asked_right input b rs (try_open (place_of b) r.order) in
    record { entailed = w.entailed; causes_are = w.causes_are }
asked_right input [] r o = absurd (true≢false (sym o))
asked_right input (line.Head axioms budget facts keep repairs version ∷ b) r o = absurd (true≢false (sym o))
asked_right input (line.Cq origin query step ∷ b) r o = absurd (true≢false (sym o))
asked_right input (line.Conflict facts rule member ∷ b) r o = absurd (true≢false (sym o))
asked_right input (line.Forget clauses ∷ b) r o = absurd (true≢false (sym o))
asked_right input (line.Answer brave ar iar cores names tuple ∷ b) r o = absurd (true≢false (sym o))
asked_right input (line.End answers brave ar iar undecided ∷ b) r o = absurd (true≢false (sym o))
