-- What is said of each open answer that has the conflicts, the priority, the causes, the selector and the scope of an opening.
use Rattle.std.specs.Prelude.{ℕ, List}
use Rattle.cq_terms.specs.Conflicts.{ConflictGraph}
use Rattle.priority_graph.specs.Priority.{Priority}
use Rattle.report_text.specs.declared.line.Line.{Line}
use Rattle.answer_evidence.specs.declared.opening.Opening.{Opening}
use Rattle.answer_desk.specs.Following.{Frame, IsFrameFor}

-- so it is for each frame of the opening, and any lines of its answer so far
abbrev pub ForEachFrame : ConflictGraph → Priority → List (List ℕ) → Opening → ℕ → (Frame → List Line → Type 0) → Type 0
ForEachFrame g p causes opening limit P = (w : Frame) (more : List Line) → IsFrameFor w g p causes opening.selector opening.scope.items limit → P w more
