-- Where a search for refutations stops before its end.
use Rattle.std.specs.Prelude.{◌≡◌, ◌⊎◌, ℕ, not, List, [], ◌∷◌, ◌++◌, map, filter, ℤ, IsTrue}
use Rattle.std.specs.Bool.{IsFalse}
use Rattle.lk_model.specs.Lists.{is_empty}
use Rattle.lk_model.specs.Formulas.Formula.{Cnf, clause_at, variable_occurs}
use Rattle.lk_model.specs.Formulas.Crossed.{Variables, crossed_out}
use Rattle.lk_model.specs.Formulas.Units.{IsUndecided}
use Rattle.lk_model.specs.Chains.Rounds.{blocked_after}
use Rattle.lk_model.specs.declared.document.Step.{Step}
use Rattle.lk_model.specs.declared.document.Round.{Round}

-- the crossed clauses of the part that are not empty
abbrev pub crossed_clauses_of : Cnf → Variables → List ℕ → List (List ℤ)
crossed_clauses_of F blocked part = filter (λ c. not (is_empty c)) (map (λ p. crossed_out blocked (clause_at F p)) part)

-- the clauses that a round over the part searches in: these, and those of its steps
abbrev pub searched : Cnf → Variables → List ℕ → Round → List (List ℤ)
searched F blocked part r = crossed_clauses_of F blocked part ++ map (λ (s : Step). s.clause) r.steps

-- Rounds over the part of which the last one is open. A variable of the part is not blocked before it, and if it has steps,
-- unit propagation alone neither refutes nor satisfies the clauses that it searches in. (One without steps has not begun, and
-- may need no clause.)
pub record WantsMore (F : Cnf) (base : Variables) (part : List ℕ) (rounds : List Round) : Type 0 where
  pub whole : List Round
  pub last : Round
  pub all : rounds ≡ whole ++ last ∷ []
  pub left : ℕ
  pub occurs : IsTrue (variable_occurs F part left)
  pub unblocked : IsFalse (blocked_after F base whole left)
  pub undecided : (last.steps ≡ []) ⊎ IsUndecided (searched F (blocked_after F base whole) part last)
