use Rattle.std.proofs.Common.{◌≡◌, ℕ, ◌+◌, ◌-◌, ◌*◌, ◌^◌, ◌∙◌, min, ◌++◌, ◌∷◌, [], sym, ap, subst, arith}
use Rattle.dimacs_reader.specs.ProblemLines.{IsLineSoFar}
use Rattle.dimacs_reader.specs.declared.problem.ProblemLine.{ProblemLine}
use Rattle.dimacs_reader.specs.declared.problem.ProblemLine.TheVariants.{Vars, Clauses}
use Rattle.dimacs_reader.proofs.Digits.{is_digit}
use Rattle.dimacs_reader.proofs.ProblemSteps.{vars_begin, vars_more, clauses_begin, clauses_more}
use Rattle.dimacs_reader.proofs.problem.line_with_digit.Goals as goal

back : (d : ℕ) → d + 48 - 48 ≡ d
back d = omega arith

pub returns-in-BehindCnf : goal.returns-in-BehindCnf
returns-in-BehindCnf c bytes so =
    let d = c.args.digit in
    subst (λ (n : ℕ). IsLineSoFar (bytes ++ (d + 48) ∷ []) (Vars n)) (back d)
    (vars_begin bytes (d + 48) (is_digit d c.requires) (subst (λ (l : ProblemLine). IsLineSoFar bytes l) c.in-BehindCnf.is so))

pub returns-in-Vars : goal.returns-in-Vars
returns-in-Vars c bytes so =
    let d = c.args.digit in
    let v = c.in-Vars.vars in
    subst (λ (n : ℕ). IsLineSoFar (bytes ++ (d + 48) ∷ []) (Vars n)) (ap (λ (k : ℕ). min (10 * v + k) (2 ^ 32 - 1)) (back d) ∙ sym c.with_digit.ensures)
    (vars_more v bytes (d + 48) (is_digit d c.requires) (subst (λ (l : ProblemLine). IsLineSoFar bytes l) c.in-Vars.is so))

pub returns-in-BehindVars : goal.returns-in-BehindVars
returns-in-BehindVars c bytes so =
    let d = c.args.digit in
    subst (λ (n : ℕ). IsLineSoFar (bytes ++ (d + 48) ∷ []) (Clauses c.in-BehindVars.vars n)) (back d)
    (clauses_begin c.in-BehindVars.vars bytes (d + 48) (is_digit d c.requires) (subst (λ (l : ProblemLine). IsLineSoFar bytes l) c.in-BehindVars.is so))

pub returns-in-Clauses : goal.returns-in-Clauses
returns-in-Clauses c bytes so =
    let d = c.args.digit in
    let v = c.in-Clauses.clauses in
    subst (λ (n : ℕ). IsLineSoFar (bytes ++ (d + 48) ∷ []) (Clauses c.in-Clauses.vars n)) (ap (λ (k : ℕ). min (10 * v + k) (2 ^ 32 - 1)) (back d) ∙ sym c.with_digit-in-Clauses.ensures)
    (clauses_more c.in-Clauses.vars v bytes (d + 48) (is_digit d c.requires) (subst (λ (l : ProblemLine). IsLineSoFar bytes l) c.in-Clauses.is so))
