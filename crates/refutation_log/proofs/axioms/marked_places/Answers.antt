use Rattle.std.proofs.Common.{◌≡◌, ◌-◌, false, Bool, cond, length, filter, slice_index_or, ℕ, ◌+◌, [], ◌∷◌, ◌++◌, ◌∙◌, sym, ap, arith, subst}
use Rattle.std.specs.List.{range_with_len}
use Rattle.std.proofs.lemmas.List.{append-nil}
use Rattle.refutation_log.proofs.Renumbering.{more_in_range}
use Rattle.refutation_log.proofs.axioms.marked_places.Goals as goal
use Rattle.refutation_log.proofs.axioms.marked_places.Goals.{then-marks-p+in_ok-push, else-marks-p}

pub loop-p-preserved : goal.loop-p-preserved
loop-p-preserved c =
    let p = c.loop-p.p in
    let t : ℕ → Bool = λ q. slice_index_or c.args.marks.now q false in
    let more = more_in_range t p c.loop-p.auto.p in
    let next : p + 1 - 1 ≡ p = omega arith in
    rw (next) (elim c.if-marks-p.branch [
      | then-marks-p+in_ok-push w ↦
          w.positions-is ∙ w.in_ok-push.ensures.ok ∙ ap (λ ps. ps ++ p ∷ []) c.loop-p.invariant
          ∙ sym (more ∙ ap (λ b. filter t (range_with_len 1 (p - 1)) ++ cond b (p ∷ []) []) w.if-marks-p.true)
      | else-marks-p w ↦
          w.positions-is ∙ c.loop-p.invariant
          ∙ sym (more ∙ ap (λ b. filter t (range_with_len 1 (p - 1)) ++ cond b (p ∷ []) []) w.if-marks-p.false ∙ append-nil (filter t (range_with_len 1 (p - 1))))
    ])

pub returns : goal.returns
returns c =
    let last : c.loop-p.p ≡ length c.args.marks.now = omega (arith, c.loop-p.auto.p-end (omega arith)) in
    subst (λ n. c.loop-p.positions ≡ filter (λ q. slice_index_or c.args.marks.now q false) (range_with_len 1 (n - 1))) last c.loop-p.invariant
