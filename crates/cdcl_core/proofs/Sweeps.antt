-- Clauses that go, one after another, with their labels.
use Rattle.std.proofs.Common.{◌≡◌, ℕ, ◌<◌, ◌≤◌, ◌+◌, List, [], ◌∷◌, ◌++◌, length, get_or, set, All, Contains, Bool, true, false, cond, not, Option, Some}
use Rattle.std.proofs.Common.{None, refl, sym, subst, ap, ◌∙◌, arith, append_assoc}
use Rattle.std.specs.List.{filter}
use Rattle.std.proofs.lemmas.List.{append-nil, length_push, length-append}
use Rattle.std.proofs.lemmas.List.Elements.{All-nil, All-push, All-weaker, All-tail, filter-append, Contains-append_right}
use Rattle.clause_meaning.proofs.Members.{Contains-head}
use Rattle.clause_arena.specs.declared.clause_ref.ClauseRef.{ClauseRef}
use Rattle.clause_arena.specs.State.{HeldClause, AreAscending}
use Rattle.clause_arena.specs.Walk.{IsFirstFrom}
use Rattle.cdcl_core.specs.declared.labels.Label.{Label}
use Rattle.cdcl_core.specs.declared.labels.Selection.{Selection}
use Rattle.cdcl_core.specs.State.{LiveClause}
use Rattle.cdcl_core.specs.Labels.{labelled, is_taken, stays, DropsIf, Drops}
use Rattle.cdcl_core.proofs.Walks.{RisesFrom, Starts, RisesFrom-ascending, Starts-behind, without_middle}
use Rattle.cdcl_core.proofs.Labelling.{labelled-push}

-- whether a clause isn't taken
abbrev pub is_kept : Selection → LiveClause → Bool
is_kept which entry = not (is_taken which entry)

-- what a sweep keeps: some labels and clauses are done, and the rest is as it was
pub record SweepHolds (which : Selection) (all_labels : List Label) (all_live : List HeldClause) (labels : List Label) (live : List HeldClause) (place : ℕ)
    (at : Option ClauseRef) : Type 0 where
  pub done_labels : List Label
  pub done_live : List HeldClause
  pub rest_labels : List Label
  pub rest_live : List HeldClause
  pub low : ℕ
  pub labels_are : labels ≡ done_labels ++ rest_labels
  pub live_are : live ≡ done_live ++ rest_live
  pub place_is : place ≡ length done_labels
  pub rest_parallel : length rest_labels ≡ length rest_live
  pub done_parallel : length (filter stays done_labels) ≡ length done_live
  pub shown : labelled (filter stays done_labels) done_live ++ filter (is_kept which) (labelled rest_labels rest_live)
      ≡ filter (is_kept which) (labelled all_labels all_live)
  pub stay : All (λ label. label.goes ≡ false) rest_labels
  pub below : All (λ held. held.reference < low) done_live
  pub rises : RisesFrom low rest_live
  pub starts : Starts rest_live at

pub SweepHolds-start : (which : Selection) (labels : List Label) (live : List HeldClause) (at : Option ClauseRef) → length labels ≡ length live
    → All (λ label. label.goes ≡ false) labels → AreAscending live → IsFirstFrom live 0 at → SweepHolds which labels live labels live 0 at
SweepHolds-start which labels live at parallel stay ascending first =
    let rises = RisesFrom-ascending 0 live (λ h m. omega arith) ascending in
    record {
      done_labels = [];
      done_live = [];
      rest_labels = labels;
      rest_live = live;
      low = 0;
      labels_are = refl;
      live_are = refl;
      place_is = refl;
      rest_parallel = parallel;
      done_parallel = refl;
      shown = refl;
      stay = stay;
      below = All-nil (λ held. held.reference < 0);
      rises = rises;
      starts = Starts-behind [] live 0 at (All-nil (λ held. held.reference < 0)) rises first;
    }

get_or-middle : {X : Type 0} (xs : List X) (y : X) (ys : List X) (d : X) → get_or (xs ++ y ∷ ys) (length xs) d ≡ y
get_or-middle [] y ys d = refl
get_or-middle (x ∷ xs) y ys d = get_or-middle xs y ys d

set-middle : {X : Type 0} (xs : List X) (y z : X) (ys : List X) → set (xs ++ y ∷ ys) (length xs) z ≡ xs ++ z ∷ ys
set-middle [] y z ys = refl
set-middle {X} (x ∷ xs) y z ys = ap (λ (l : List X). x ∷ l) (set-middle xs y z ys)

-- a list as long as another one with a first item has a first item too
head_of : (labels : List Label) (held : HeldClause) (live : List HeldClause) → length labels ≡ length (held ∷ live) → (label : Label) × (others : List Label)
    × (labels ≡ label ∷ others)
head_of [] held live e = absurd (omega arith)
head_of (n ∷ ns) held live e = (n, ns, refl)

push_assoc : {X : Type 0} (xs : List X) (x : X) (ys : List X) → (xs ++ x ∷ []) ++ ys ≡ xs ++ x ∷ ys
push_assoc xs x ys = append_assoc xs (x ∷ []) ys

-- one more clause, that stays or goes
step_parts : (which : Selection) (all_labels : List Label) (all_live : List HeldClause) (dl rl : List Label) (dh rh : List HeldClause) (label : Label)
    (held : HeldClause) (low : ℕ) (next : Option ClauseRef) (new_live : List HeldClause) (gone : Bool)
    → length rl ≡ length rh → length (filter stays dl) ≡ length dh
    → labelled (filter stays dl) dh ++ filter (is_kept which) (record { number = label.number; literals = held.literals } ∷ labelled rl rh)
    ≡ filter (is_kept which) (labelled all_labels all_live)
    → All (λ l. l.goes ≡ false) rl → All (λ h. h.reference < low) dh → low ≤ held.reference → RisesFrom (held.reference + 1) rh
    → IsFirstFrom (dh ++ held ∷ rh) (held.reference + 1) next → DropsIf which label.number held.reference (dh ++ held ∷ rh) new_live gone
    → SweepHolds which all_labels all_live (dl ++ record label { goes = gone } ∷ rl) new_live (length dl + 1) next
step_parts which all_labels all_live dl rl dh rh label held low next new_live false rest_parallel done_parallel shown stay below here rises first
    (taken, same) =
    let x : LiveClause = record { number = label.number; literals = held.literals } in
    let new_label : Label = record label { goes = false } in
    let is = taken held.literals (Contains-append_right dh (held ∷ rh) held (Contains-head held rh held refl)) in
    let below_more = All-push (λ (h : HeldClause). h.reference < held.reference + 1) dh held
    (All-weaker (λ (h : HeldClause). h.reference < low) (λ (h : HeldClause). h.reference < held.reference + 1) (λ h p. omega arith) dh below) (omega arith) in
    let done : filter stays (dl ++ new_label ∷ []) ≡ filter stays dl ++ new_label ∷ [] = filter-append stays dl (new_label ∷ []) in
    let live_is : new_live ≡ (dh ++ held ∷ []) ++ rh = same ∙ sym (push_assoc dh held rh) in
    record {
      done_labels = dl ++ new_label ∷ [];
      done_live = dh ++ held ∷ [];
      rest_labels = rl;
      rest_live = rh;
      low = held.reference + 1;
      labels_are = sym (push_assoc dl new_label rl);
      live_are = live_is;
      place_is = sym (length_push dl new_label);
      rest_parallel = rest_parallel;
      done_parallel = ap length done ∙ (length_push (filter stays dl) new_label ∙ (ap (λ (n : ℕ). n + 1) done_parallel ∙ sym (length_push dh held)));
      shown = ap (λ (ls : List Label). labelled ls (dh ++ held ∷ []) ++ filter (is_kept which) (labelled rl rh)) done
          ∙ (ap (λ (ls : List LiveClause). ls ++ filter (is_kept which) (labelled rl rh)) (labelled-push (filter stays dl) dh new_label held done_parallel)
          ∙ (push_assoc (labelled (filter stays dl) dh) x (filter (is_kept which) (labelled rl rh))
          ∙ (ap (λ (b : Bool). labelled (filter stays dl) dh ++ cond (not b) (x ∷ filter (is_kept which) (labelled rl rh))
          (filter (is_kept which) (labelled rl rh))) (sym is)
          ∙ shown)));
      stay = stay;
      below = below_more;
      rises = rises;
      starts = Starts-behind (dh ++ held ∷ []) rh (held.reference + 1) next below_more rises
          (subst (λ (hs : List HeldClause). IsFirstFrom hs (held.reference + 1) next) (sym (push_assoc dh held rh)) first);
    }
step_parts which all_labels all_live dl rl dh rh label held low next new_live true rest_parallel done_parallel shown stay below here rises first (taken, same) =
    let x : LiveClause = record { number = label.number; literals = held.literals } in
    let new_label : Label = record label { goes = true } in
    let is = taken held.literals (Contains-append_right dh (held ∷ rh) held (Contains-head held rh held refl)) in
    let below_held = All-weaker (λ (h : HeldClause). h.reference < low) (λ (h : HeldClause). h.reference < held.reference) (λ h p. omega arith) dh below in
    let below_more = All-weaker (λ (h : HeldClause). h.reference < low) (λ (h : HeldClause). h.reference < held.reference + 1) (λ h p. omega arith) dh below in
    let pushed = All-push (λ (h : HeldClause). h.reference < held.reference + 1) dh held below_more (omega arith) in
    let done : filter stays (dl ++ new_label ∷ []) ≡ filter stays dl = filter-append stays dl (new_label ∷ []) ∙ append-nil (filter stays dl) in
    record {
      done_labels = dl ++ new_label ∷ [];
      done_live = dh;
      rest_labels = rl;
      rest_live = rh;
      low = held.reference + 1;
      labels_are = sym (push_assoc dl new_label rl);
      live_are = same ∙ without_middle dh held rh below_held rises;
      place_is = sym (length_push dl new_label);
      rest_parallel = rest_parallel;
      done_parallel = ap length done ∙ done_parallel;
      shown = ap (λ (ls : List Label). labelled ls dh ++ filter (is_kept which) (labelled rl rh)) done
          ∙ (ap (λ (b : Bool). labelled (filter stays dl) dh ++ cond (not b) (x ∷ filter (is_kept which) (labelled rl rh))
          (filter (is_kept which) (labelled rl rh))) (sym is)
          ∙ shown);
      stay = stay;
      below = below_more;
      rises = rises;
      starts = Starts-behind (dh ++ held ∷ []) rh (held.reference + 1) next pushed rises
          (subst (λ (hs : List HeldClause). IsFirstFrom hs (held.reference + 1) next) (sym (push_assoc dh held rh)) first);
    }

-- the same, by the place of the label
pub SweepHolds-step : (which : Selection) (all_labels : List Label) (all_live : List HeldClause) (labels : List Label) (live new_live : List HeldClause)
    (place : ℕ) (clause : ClauseRef) (next : Option ClauseRef) (d : Label) (gone : Bool)
    → SweepHolds which all_labels all_live labels live place (Some clause) → IsFirstFrom live (clause.place + 1) next
    → DropsIf which (get_or labels place d).number clause.place live new_live gone
    → SweepHolds which all_labels all_live (set labels place (record (get_or labels place d) { goes = gone })) new_live (place + 1) next
SweepHolds-step which all_labels all_live labels live new_live place clause next d gone h first dropped = by_parts h.starts
  where
    by_parts : Starts h.rest_live (Some clause) → SweepHolds which all_labels all_live (set labels place (record (get_or labels place d) { goes = gone }))
        new_live (place + 1) next
    by_parts (held, rh, live_is, same) =
        let heads = head_of h.rest_labels held rh (h.rest_parallel ∙ ap length live_is) in
        let label = heads.0 in
        let rl = heads.1 in
        let labels_are : labels ≡ h.done_labels ++ label ∷ rl = h.labels_are ∙ ap (λ (ls : List Label). h.done_labels ++ ls) heads.2 in
        let live_are : live ≡ h.done_live ++ held ∷ rh = h.live_are ∙ ap (λ (hs : List HeldClause). h.done_live ++ hs) live_is in
        let read : get_or labels place d ≡ label = ap (λ (ls : List Label). get_or ls place d) labels_are
        ∙ (ap (λ (n : ℕ). get_or (h.done_labels ++ label ∷ rl) n d) h.place_is ∙ get_or-middle h.done_labels label rl d) in
        let new_label : Label = record label { goes = gone } in
        let written : set labels place (record (get_or labels place d) { goes = gone }) ≡ h.done_labels ++ new_label ∷ rl =
        ap (λ (l : Label). set labels place (record l { goes = gone })) read
        ∙ (ap (λ (ls : List Label). set ls place new_label) labels_are
        ∙ (ap (λ (n : ℕ). set (h.done_labels ++ label ∷ rl) n new_label) h.place_is ∙ set-middle h.done_labels label new_label rl)) in
        let rises : RisesFrom h.low (held ∷ rh) = subst (RisesFrom h.low) live_is h.rises in
        let parallel = ap length (sym heads.2) ∙ (h.rest_parallel ∙ ap length live_is) in
        let shown = subst (λ (hs : List HeldClause). labelled (filter stays h.done_labels) h.done_live ++ filter (is_kept which) (labelled (label ∷ rl) hs)
        ≡ filter (is_kept which) (labelled all_labels all_live)) live_is
        (subst (λ (ls : List Label). labelled (filter stays h.done_labels) h.done_live ++ filter (is_kept which) (labelled ls h.rest_live)
        ≡ filter (is_kept which) (labelled all_labels all_live)) heads.2 h.shown) in
        let stay = All-tail (λ (l : Label). l.goes ≡ false) label rl (subst (All (λ (l : Label). l.goes ≡ false)) heads.2 h.stay) in
        let first_now : IsFirstFrom (h.done_live ++ held ∷ rh) (held.reference + 1) next =
        subst (λ (n : ℕ). IsFirstFrom (h.done_live ++ held ∷ rh) (n + 1) next) (sym same)
        (subst (λ (hs : List HeldClause). IsFirstFrom hs (clause.place + 1) next) live_are first) in
        let dropped_now : DropsIf which label.number held.reference (h.done_live ++ held ∷ rh) new_live gone =
        subst (λ (n : ℕ). DropsIf which label.number n (h.done_live ++ held ∷ rh) new_live gone) (sym same)
        (subst (λ (hs : List HeldClause). DropsIf which label.number clause.place hs new_live gone) live_are
        (subst (λ (l : Label). DropsIf which l.number clause.place live new_live gone) read dropped)) in
        subst (λ (n : ℕ). SweepHolds which all_labels all_live (set labels place (record (get_or labels place d) { goes = gone })) new_live (n + 1) next)
        (sym h.place_is)
        (subst (λ (ls : List Label). SweepHolds which all_labels all_live ls new_live (length h.done_labels + 1) next) (sym written)
        (step_parts which all_labels all_live h.done_labels rl h.done_live rh label held h.low next new_live gone
        (omega (arith, parallel)) h.done_parallel shown stay h.below rises.0 rises.1 first_now dropped_now))

-- the place is that of a label
pub SweepHolds-within : (which : Selection) (all_labels : List Label) (all_live : List HeldClause) (labels : List Label) (live : List HeldClause) (place : ℕ)
    (clause : ClauseRef)
    → SweepHolds which all_labels all_live labels live place (Some clause) → place < length labels
SweepHolds-within which all_labels all_live labels live place clause h =
    let long = ap length h.labels_are ∙ length-append h.done_labels h.rest_labels in
    let rest = ap length h.starts.2 in
    omega (arith, long, h.rest_parallel, rest, h.place_is)

-- at the end of the sweep
pub SweepHolds-all : (which : Selection) (all_labels : List Label) (all_live : List HeldClause) (labels : List Label) (live : List HeldClause) (place : ℕ)
    → SweepHolds which all_labels all_live labels live place None → Drops which all_labels all_live labels live
SweepHolds-all which all_labels all_live labels live place h =
    let no_live : h.rest_live ≡ [] = h.starts in
    let no_labels : h.rest_labels ≡ [] = none h.rest_labels (h.rest_parallel ∙ ap length no_live) in
    let labels_are : labels ≡ h.done_labels = h.labels_are ∙ (ap (λ (ls : List Label). h.done_labels ++ ls) no_labels ∙ append-nil h.done_labels) in
    let live_are : live ≡ h.done_live = h.live_are ∙ (ap (λ (hs : List HeldClause). h.done_live ++ hs) no_live ∙ append-nil h.done_live) in
    let rest : filter (is_kept which) (labelled h.rest_labels h.rest_live) ≡ [] =
    ap (λ (ls : List Label). filter (is_kept which) (labelled ls h.rest_live)) no_labels in
    record {
      shown = ap (λ (ls : List Label). labelled (filter stays ls) live) labels_are ∙ (ap (labelled (filter stays h.done_labels)) live_are
          ∙ (sym (ap (λ (xs : List LiveClause). labelled (filter stays h.done_labels) h.done_live ++ xs) rest
          ∙ append-nil (labelled (filter stays h.done_labels) h.done_live)) ∙ h.shown));
      parallel = ap (λ (ls : List Label). length (filter stays ls)) labels_are ∙ (h.done_parallel ∙ sym (ap length live_are));
    }
  where
    none : (labels : List Label) → length labels ≡ 0 → labels ≡ []
    none [] e = refl
    none (x ∷ xs) e = absurd (omega arith)

-- the clause at hand is live
pub SweepHolds-live : (which : Selection) (all_labels : List Label) (all_live : List HeldClause) (labels : List Label) (live : List HeldClause) (place : ℕ)
    (clause : ClauseRef)
    → SweepHolds which all_labels all_live labels live place (Some clause) → (held : HeldClause) × Contains live held × (held.reference ≡ clause.place)
SweepHolds-live which all_labels all_live labels live place clause h = by_parts h.starts
  where
    by_parts : Starts h.rest_live (Some clause) → (held : HeldClause) × Contains live held × (held.reference ≡ clause.place)
    by_parts (held, rh, is, same) = (
      held,
      subst (λ (hs : List HeldClause). Contains hs held) (sym h.live_are) (Contains-append_right h.done_live h.rest_live held
          (subst (λ (hs : List HeldClause). Contains hs held) (sym is) (Contains-head held rh held refl))),
      same,
    )
