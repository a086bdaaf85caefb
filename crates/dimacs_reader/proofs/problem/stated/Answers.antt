use Rattle.std.proofs.Common.{ℕ, ap, sym, subst, inl, inr}
use Rattle.dimacs_reader.specs.Contents.{words_in}
use Rattle.dimacs_reader.specs.ProblemLines.{IsLineSoFar, problem_line_kind}
use Rattle.dimacs_reader.specs.declared.problem.ProblemLine.{ProblemLine}
use Rattle.dimacs_reader.proofs.ProblemSteps.{Capped, states_none, clauses_capped, behind_capped, capped_within, capped_past}
use Rattle.dimacs_reader.proofs.problem.stated.Goals as goal
use Rattle.dimacs_reader.proofs.problem.stated.Goals.{in-Clauses, in-BehindClauses}

pub returns-in_default : goal.returns-in_default
returns-in_default c = record {
  limits = tt;
  ok = λ bytes so. tt;
  fault = λ bytes so. ap problem_line_kind (states_none c.args.line c.in_default.not-Clauses c.in_default.not-BehindClauses bytes so);
}

pub returns-then-vars-gt-MAX_VARS-clause-fault : goal.returns-then-vars-gt-MAX_VARS-clause-fault
returns-then-vars-gt-MAX_VARS-clause-fault c bytes so =
    let h = c.match-line.vars in
    let capped : Capped (words_in bytes) h.0 h.1 = elim c.match-line.branch [
      | in-Clauses w ↦ subst (λ (n : ℕ × ℕ). Capped (words_in bytes) n.0 n.1) (sym w.vars-is) (clauses_capped w.in-Clauses.vars w.in-Clauses.clauses bytes (subst (λ (l : ProblemLine). IsLineSoFar bytes l) w.in-Clauses.is so))
      | in-BehindClauses w ↦ subst (λ (n : ℕ × ℕ). Capped (words_in bytes) n.0 n.1) (sym w.vars-is) (behind_capped w.in-BehindClauses.vars w.in-BehindClauses.clauses bytes (subst (λ (l : ProblemLine). IsLineSoFar bytes l) w.in-BehindClauses.is so))
    ] in
    capped_past (words_in bytes) h.0 h.1 capped (elim c.then-vars-gt-MAX_VARS.either [ inl a ↦ inl a | inr a ↦ inr a.1 ])

pub returns-clause-ok : goal.returns-clause-ok
returns-clause-ok c bytes so =
    let h = c.match-line.vars in
    let capped : Capped (words_in bytes) h.0 h.1 = elim c.match-line.branch [
      | in-Clauses w ↦ subst (λ (n : ℕ × ℕ). Capped (words_in bytes) n.0 n.1) (sym w.vars-is) (clauses_capped w.in-Clauses.vars w.in-Clauses.clauses bytes (subst (λ (l : ProblemLine). IsLineSoFar bytes l) w.in-Clauses.is so))
      | in-BehindClauses w ↦ subst (λ (n : ℕ × ℕ). Capped (words_in bytes) n.0 n.1) (sym w.vars-is) (behind_capped w.in-BehindClauses.vars w.in-BehindClauses.clauses bytes (subst (λ (l : ProblemLine). IsLineSoFar bytes l) w.in-BehindClauses.is so))
    ] in
    capped_within (words_in bytes) h.0 h.1 capped c.if-vars-gt-MAX_VARS.false c.if-clauses-gt-MAX_CLAUSES.false
