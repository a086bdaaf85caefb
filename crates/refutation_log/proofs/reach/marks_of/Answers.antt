use Rattle.std.proofs.Common.{◌+◌, ◌-◌, ◌++◌, ◌∷◌, [], ℕ, subst, arith, length}
use Rattle.refutation_log.specs.Marks.{AreMarks, names_at}
use Rattle.refutation_log.proofs.Marking.{names_at_below, last_marked, nothing_marked}
use Rattle.refutation_log.proofs.reach.marks_of.Goals as goal
use Rattle.refutation_log.proofs.reach.marks_of.Goals.{then-count-gt0, else-count-gt0}

pub mark_names-requires-clause-names : goal.mark_names-requires-clause-names
mark_names-requires-clause-names g c =
    let m = c.mark_place.new.self in
    let shape = c.in_ok-marks.ensures.shape in
    let some = c.if-count-gt0.true in
    names_at_below c.args.first (g.S.Chains.steps c.args.steps.now) (c.count-count.result - 1) (m.first + length m.steps.items) c.requires.numbers c.requires.names
    (omega (arith, c.count-count.ensures, some))
    (omega (arith, c.count-count.ensures, some, shape.first_is, shape.steps, c.mark_place.ensures.shape.first, c.mark_place.ensures.shape.steps))

pub mark_others-requires-clause-last : goal.mark_others-requires-clause-last
mark_others-requires-clause-last g c =
    let steps = g.S.Chains.steps c.args.steps.now in
    let some = c.if-count-gt0.true in
    let n = c.mark_names.new.marks in
    let marked = c.mark_names.ensures.marks _ (c.mark_place.ensures.marks _ c.in_ok-marks.ensures.marks) in
    last_marked c.args.first steps n c.requires.numbers (omega (arith, c.count-count.ensures, some))
    (subst (λ (k : ℕ). AreMarks (names_at steps (k - 1) ++ (c.args.first + (k - 1)) ∷ []) n) c.count-count.ensures
    (subst (λ (f : ℕ). AreMarks (names_at steps (c.count-count.result - 1) ++ (f + (c.count-count.result - 1)) ∷ []) n) c.in_ok-marks.ensures.shape.first_is marked))

pub returns-clause-marks : goal.returns-clause-marks
returns-clause-marks g c = elim c.if-count-gt0.branch [
  | then-count-gt0 w ↦ rw (w.marks-is) w.mark_others.ensures.marks
  | else-count-gt0 w ↦ rw (w.marks-is) (nothing_marked (g.S.Chains.steps c.args.steps.now) c.in_ok-marks.marks (let none = w.if-count-gt0.false in omega (arith, none, c.count-count.ensures)) c.in_ok-marks.ensures.marks)
]
