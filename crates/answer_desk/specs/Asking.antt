-- What the questions leave of an open answer.
use Rattle.std.specs.Prelude.{◌≡◌, ◌<◌, ℕ, List, [], false, length, slice_index_or, Option}
use Rattle.cdcl_core.specs.State.{State}
use Rattle.report_text.specs.declared.line.Line.{Line}
use Rattle.answer_evidence.specs.declared.evidence.Evidence.{Evidence}
use Rattle.answer_desk.specs.Following.{Frame, AtIar, GoesOn, IarIsOver}
use Rattle.answer_desk.specs.PlacesOver.{PlaceIsOver, PlacesStayOver}

-- the facts are those of the cause at the place, and no core drops one of them
pub record IsCauseAt (causes : List (List ℕ)) (e : Evidence) (place : ℕ) (facts : List ℕ) : Type 0 where
  pub below : place < length causes
  pub facts_are : slice_index_or causes place [] ≡ facts
  pub uncut : slice_index_or e.cut.items place false ≡ false

-- the answer is open at IAR, what was over is, and so is the cause at the place
pub record PlaceGoesOn (w : Frame) (more : List Line) (causes : List (List ℕ)) (place : ℕ) (state : State) (cores used : ℕ) (old new : Evidence)
    (was now : Option (List Line)) : Type 0 where
  pub goes : GoesOn w more state cores (AtIar used) new was now
  pub stay : PlacesStayOver causes old new
  pub over : PlaceIsOver causes new place

-- the answer is open at IAR, and IAR is over
pub record IarGoesOn (w : Frame) (more : List Line) (causes : List (List ℕ)) (state : State) (cores : ℕ) (e : Evidence) (was now : Option (List Line))
    : Type 0 where
  pub used : ℕ
  pub goes : GoesOn w more state cores (AtIar used) e was now
  pub over : IarIsOver causes e
