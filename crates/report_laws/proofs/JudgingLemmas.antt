-- Whether a line is right, over what is kept of the lines before.
use Rattle.std.proofs.Common.{◌↔◌, inl, inr, List, length}
use Rattle.report_text.specs.declared.line.Line.{Line}
use Rattle.report_text.specs.declared.line.Line.TheVariants as line
use Rattle.report_text.specs.declared.line.Origin.TheVariants as origin
use Rattle.report_rules.specs.declared.rule.Rule.{Rule}
use Rattle.report_rules.specs.Inputs.{Input}
use Rattle.report_rules.specs.Order.{place_of, MayCome}
use Rattle.report_rules.specs.Rules.{LeavesNoneOut}
use Rattle.report_rules.specs.Accepted.{Obeys, AreRight}
use Rattle.report_rules.specs.Broken.{IsInOrder, Breaks}
use Rattle.report_laws.specs.Standing.{Standing, standing_of}
use Rattle.report_laws.specs.AtStanding.{LeavesNoneOutAt, RulesAtStanding}
use Rattle.report_laws.specs.Judging.{Own, IsOwnFor, ObeysAt, IsInOrderAt, BreaksAt, JudgesLine, LinesAreJudged}
use Rattle.report_laws.proofs.AtStandingLemmas.{rules_kept}

module _ (input : Input) (b : List Line) (r : AreRight input b) (own : Own) where
  abbrev st : Standing
  st = standing_of (length input.kb.facts) b

  rules : RulesAtStanding input b (standing_of (length input.kb.facts) b)
  rules = rules_kept input b r

  in_order : (l : Line) → IsInOrderAt input (standing_of (length input.kb.facts) b) l ↔ IsInOrder input b l
  in_order l = ((λ (m, q). (m, (rules.query_left l).0 q)), (λ (m, q). (m, (rules.query_left l).1 q)))

  none_out : (l : Line) → IsOwnFor input b own l → LeavesNoneOutAt input.form own.all (standing_of (length input.kb.facts) b) l ↔ LeavesNoneOut input b l
  none_out (line.Cq origin.Query query step) k = ((λ h e. ((rules.complete own.all (k e)).0).1 (h e)), (λ h e. ((rules.complete own.all (k e)).0).0 (h e)))
  none_out (line.Cq (origin.Negative i) query step) k = ((λ h. h), (λ h. h))
  none_out (line.Ask candidate tuple causes members) k = (rules.complete own.all k.0).1 (line.Ask candidate tuple causes members)
  none_out (line.Forget clauses) k = (rules.complete own.all k).1 (line.Forget clauses)
  none_out (line.End answers brave ar iar undecided) k = (rules.complete own.all k.0).1 (line.End answers brave ar iar undecided)
  none_out (line.Head axioms budget facts keep repairs version) k = ((λ h. h), (λ h. h))
  none_out (line.Conflict facts rule member) k = ((λ h. h), (λ h. h))
  none_out (line.Try question assume) k = ((λ h. h), (λ h. h))
  none_out (line.Learn number clause) k = ((λ h. h), (λ h. h))
  none_out (line.Core number kept dropped) k = ((λ h. h), (λ h. h))
  none_out (line.Done how core) k = ((λ h. h), (λ h. h))
  none_out (line.Answer brave ar iar cores names tuple) k = ((λ h. h), (λ h. h))

  obeys : (l : Line) → IsOwnFor input b own l → MayCome input.form input.kb.axioms (place_of b) l
      → ObeysAt input own (standing_of (length input.kb.facts) b) l ↔ Obeys input b l
  obeys (line.Head axioms budget facts keep repairs version) k m = ((λ h. h), (λ h. h))
  obeys (line.Cq o query step) k m = rules.cq o query step
  obeys (line.Conflict facts rule member) k m = rules.conflict own.all k facts rule member
  obeys (line.Ask candidate tuple causes members) k m = rules.ask own.candidates k.1 candidate tuple causes members
  obeys (line.Try question assume) k m = rules.try' m question assume
  obeys (line.Learn number clause) k m = rules.learn own.live k number clause
  obeys (line.Core number kept dropped) k m = rules.core own.priority k number kept dropped
  obeys (line.Done how core) k m = rules.done m own.live k how core
  obeys (line.Forget clauses) k m = rules.forget clauses
  obeys (line.Answer brave ar iar cores names tuple) k m = rules.answer brave ar iar cores names tuple
  obeys (line.End answers brave ar iar undecided) k m = rules.end own.candidates k.1 answers brave ar iar undecided

  judges : (l : Line) → IsOwnFor input b own l → JudgesLine input b own (standing_of (length input.kb.facts) b) l
  judges l k = record {
    right = (
      (λ w. record {
        order = w.order.0;
        query_left = (rules.query_left l).0 w.order.1;
        closed = (rules.closed l).0 w.closed;
        complete =
            (none_out l k).0 w.complete;
        own = (obeys l k w.order.0).0 w.own_rule;
      }),
      (λ w. record {
        order = (w.order, (rules.query_left l).1 w.query_left);
        closed = (rules.closed l).1 w.closed;
        complete =
            (none_out l k).1 w.complete;
        own_rule = (obeys l k w.order).1 w.own;
      }),
    );
    breaks = λ r. (to r, from r);
  }
    where
      to : (r : Rule) → BreaksAt input own (standing_of (length input.kb.facts) b) l r → Breaks input b l r
      to r (inl (e, n)) = inl (e, λ o. n ((in_order l).1 o))
      to r (inr (o, inl (e, n))) = inr ((in_order l).0 o, inl (e, λ c. n ((rules.closed l).1 c)))
      to r (inr (o, inr (c, inl (e, n)))) = inr ((in_order l).0 o, inr ((rules.closed l).0 c, inl (e, λ m. n ((none_out l k).1 m))))
      to r (inr (o, inr (c, inr (m, (e, n))))) = inr ((in_order l).0 o, inr ((rules.closed l).0 c, inr ((none_out l k).0 m, (e, λ w. n ((obeys l k o.0).1 w)))))

      from : (r : Rule) → Breaks input b l r → BreaksAt input own (standing_of (length input.kb.facts) b) l r
      from r (inl (e, n)) = inl (e, λ o. n ((in_order l).0 o))
      from r (inr (o, inl (e, n))) = inr ((in_order l).1 o, inl (e, λ c. n ((rules.closed l).0 c)))
      from r (inr (o, inr (c, inl (e, n)))) = inr ((in_order l).1 o, inr ((rules.closed l).1 c, inl (e, λ m. n ((none_out l k).0 m))))
      from r (inr (o, inr (c, inr (m, (e, n))))) = inr (
        (in_order l).1 o,
        inr ((rules.closed l).1 c, inr ((none_out l k).1 m, (e, λ w. n ((obeys l k o.0).0 w)))),
      )

pub judged : LinesAreJudged
judged input b r own l k = judges input b r own l k
