-- The checks of rounds: of a general document, and of an unfinished one. Before the first round the variables of P are
-- blocked.
use Rattle.std.specs.Prelude.{ℕ, not, ◌&&◌, ◌==◌, List, [], ◌∷◌, filter, length, ◌≡◌, None, IsTrue}
use Rattle.lk_model.specs.Lists.{is_empty}
use Rattle.lk_model.specs.Formulas.Literal.{is_same_list}
use Rattle.lk_model.specs.Formulas.Formula.{Cnf, positions_of, variables_to, clause_at}
use Rattle.lk_model.specs.Formulas.Crossed.{Variables, no_variable}
use Rattle.lk_model.specs.Formulas.PureRun.{occurs_outside}
use Rattle.lk_model.specs.Chains.Chain.{states_its_clause, is_learned}
use Rattle.lk_model.specs.Chains.Rounds.{steps_in_rounds, blocked_after}
use Rattle.lk_model.specs.Documents.Documents.{steps_of}
use Rattle.lk_model.specs.Checks.Check.{Check, fails, fails_at_step}
use Rattle.lk_model.specs.declared.document.Step.{Step}
use Rattle.lk_model.specs.declared.document.Round.{Round}
use Rattle.lk_model.specs.declared.document.DoneDocument.{DoneDocument}
use Rattle.lk_model.specs.declared.document.OpenDocument.{OpenDocument}
use Rattle.lk_model.specs.declared.verdict.Kind.TheVariants.{KeptClause, BadCount, BadStep, NotBlocked, NotLearned}
use Rattle.lk_model.specs.Documents.Form.{are_steps, is_whole}

-- a number of the chain stands for nothing, a turn can't be made, or the chain's clause is not the stated one
unfoldable pub bad_step : Variables → Cnf → List ℕ → List Round → Check
bad_step P F part rounds = fails_at_step BadStep (steps_in_rounds F part P rounds) (λ s. not (states_its_clause s.premises s.step))

-- a variable of the kept clauses, outside P, is not blocked after all rounds
unfoldable pub not_blocked : Variables → Cnf → DoneDocument → List Round → Check
not_blocked P F d rounds = fails NotBlocked (variables_to F.vars)
    (λ v. occurs_outside P F d.kept v && not (blocked_after F P rounds v))

-- UNFINISHED DOCUMENTS

-- the steps with a non-empty clause
abbrev pub learned_steps : List Round → List Step
learned_steps rounds = filter (λ (s : Step). not (is_empty s.clause)) (steps_of rounds)

-- a clause line is not the formula's clause, as a list
unfoldable pub every_clause : Cnf → OpenDocument → Check
every_clause F d = fails KeptClause (positions_of F) (λ p. not (is_same_list (clause_at d.texts p) (clause_at F p)))

-- their number is not the stated one
unfoldable pub bad_count : OpenDocument → Check
bad_count d = fails BadCount (0 ∷ []) (λ _. not (length (learned_steps d.rounds) == d.learned))

-- one of them has a clause that is not learned over the clauses of the part
unfoldable pub not_learned : Variables → Cnf → List ℕ → List Round → Check
not_learned P F part rounds = fails_at_step NotLearned (steps_in_rounds F part P rounds)
    (λ s. not (is_empty s.step.clause) && not (is_learned s.premises s.step.clause))

-- The steps are numbered from the formula's number of clauses plus 1, and each states the clause of its chain, over the
-- clauses at the positions with no variable blocked. The last clause is empty, and no other.
pub record IsRefutation (F : Cnf) (part : List ℕ) (r : Round) : Type 0 where
  pub steps : IsTrue (are_steps F.vars (length F.clauses) r.steps)
  pub whole : IsTrue (is_whole r)
  pub stated : (bad_step no_variable F part (r ∷ [])).place ≡ None
