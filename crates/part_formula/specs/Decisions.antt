-- Whether the clauses of a part have a model.
use Rattle.std.specs.Prelude.{◌≡◌, ℕ, ◌+◌, ◌*◌, List, [], ◌∷◌, ℤ, IsTrue}
use Rattle.lk_model.specs.Formulas.Formula.{Cnf, positions_of, literal_count}
use Rattle.lk_model.specs.Formulas.Lean.{are_positions}
use Rattle.lk_model.specs.Chains.Rounds.{used_positions}
use Rattle.lk_model.specs.declared.decided.Decided.{Decided}
use Rattle.lk_model.specs.declared.decided.Decided.TheVariants.{Model, Refuted, Stopped}
use Rattle.lk_model.specs.declared.document.Round.{Round}
use Rattle.general_laws.specs.Found.{IsUnfinished}
use Rattle.part_copy.specs.Found.{IsPartModel, IsPartRefuted}
use Rattle.part_formula.specs.declared.deciding.Refuted.{Refuted as Refutation}

-- a `Decision`
abbrev pub Decision : Type 0
Decision = Decided (List ℤ) Round Round

-- How many steps with a literal a refutation may have: those that a search learns, and three of an elimination for each
-- literal of the formula.
abbrev pub most_steps : Cnf → ℕ → ℕ
most_steps F conflicts = conflicts + 3 * literal_count F

-- a model of the part's clauses, a refutation of them, or an open round of as many learned clauses as were allowed
abbrev pub IsDecision : Cnf → List ℕ → ℕ → Decision → Type 0
IsDecision F part conflicts (Model lits) = IsPartModel F part lits
IsDecision F part conflicts (Refuted r) = IsPartRefuted F part (most_steps F conflicts) r
IsDecision F part conflicts (Stopped r) = IsUnfinished F part conflicts (r ∷ [])

-- a refutation of all clauses, and the positions that it uses: it refutes the clauses there alone
pub record IsRefuted (F : Cnf) (conflicts : ℕ) (r : Refutation) : Type 0 where
  pub whole : IsPartRefuted F (positions_of F) conflicts r.round
  pub are_used : r.used ≡ used_positions F r.round
  pub positions : IsTrue (are_positions F r.used)
  pub refuted : IsPartRefuted F r.used conflicts r.round

-- a model of all clauses, a refutation of them, or an open round of as many learned clauses as were allowed
abbrev pub IsDecided : Cnf → ℕ → Decided (List ℤ) Refutation Round → Type 0
IsDecided F conflicts (Model lits) = IsPartModel F (positions_of F) lits
IsDecided F conflicts (Refuted r) = IsRefuted F conflicts r
IsDecided F conflicts (Stopped r) = IsUnfinished F (positions_of F) conflicts (r ∷ [])
