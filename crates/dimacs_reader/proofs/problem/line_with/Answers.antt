use Rattle.std.proofs.Common.{ℕ, ◌++◌, ◌∷◌, [], refl, subst}
use Rattle.dimacs_reader.specs.ProblemLines.{IsLineSoFar}
use Rattle.dimacs_reader.proofs.Digits.{digit_back}
use Rattle.dimacs_reader.proofs.ProblemSteps.{other_byte}
use Rattle.dimacs_reader.proofs.problem.line_with.Goals as goal
use Rattle.dimacs_reader.proofs.problem.line_with.Goals.{in_default-via-in-BehindP+else-byte-eq99, in_default-via-in-C+else-byte-eq110, in_default-via-in-Cn+else-byte-eq102, in_default-via-in_default}

pub returns-in-Some : goal.returns-in-Some
returns-in-Some c bytes so =
    let d = c.in-Some.ensures.some in
    subst (λ (b : ℕ). IsLineSoFar (bytes ++ b ∷ []) c.line_with_digit.result) (digit_back c.args.byte c.in-Some.digit d.0 d.1) (c.line_with_digit.ensures bytes so)

pub returns-in-None : goal.returns-in-None
returns-in-None c bytes so =
    let b = c.args.byte in
    let d = c.in-None.ensures.none refl in
    elim c.in_default.branch [
      | in_default-via-in-BehindP+else-byte-eq99 w ↦
          let is = w.in-BehindP.is in
          other_byte c.args.line b c.requires d (λ e f. w.if-byte-eq99.false f) (λ e f. let g : ⊥ = cc (is, e) in g) (λ e f. let g : ⊥ = cc (is, e) in g) bytes so
      | in_default-via-in-C+else-byte-eq110 w ↦
          let is = w.in-C.is in
          other_byte c.args.line b c.requires d (λ e f. let g : ⊥ = cc (is, e) in g) (λ e f. w.if-byte-eq110.false f) (λ e f. let g : ⊥ = cc (is, e) in g) bytes so
      | in_default-via-in-Cn+else-byte-eq102 w ↦
          let is = w.in-Cn.is in
          other_byte c.args.line b c.requires d (λ e f. let g : ⊥ = cc (is, e) in g) (λ e f. let g : ⊥ = cc (is, e) in g) (λ e f. w.if-byte-eq102.false f) bytes so
      | in_default-via-in_default w ↦ other_byte c.args.line b c.requires d (λ e f. w.in_default.not-BehindP e) (λ e f. w.in_default.not-C e) (λ e f. w.in_default.not-Cn e) bytes so
    ]
