-- The checks of a minimally unsatisfiable core.
use Rattle.std.specs.Prelude.{ℕ, Bool, false, not, ◌||◌, ◌==◌, List, [], ◌∷◌, zip, find, ℤ, Option}
use Rattle.std.specs.List.{list_all}
use Rattle.std.specs.Option.{option_map_or}
use Rattle.lk_model.specs.Formulas.Literal.{is_same_list}
use Rattle.lk_model.specs.Formulas.Formula.{Cnf, clause_at}
use Rattle.lk_model.specs.Formulas.Crossed.{no_variable}
use Rattle.lk_model.specs.Formulas.Assignment.{assignment_of, satisfies}
use Rattle.lk_model.specs.Checks.Check.{Check, fails, first_of}
use Rattle.lk_model.specs.Checks.RoundChecks.{bad_step}
use Rattle.lk_model.specs.declared.document.Without.{Without}
use Rattle.lk_model.specs.declared.document.MusAnswer.{MusAnswer}
use Rattle.lk_model.specs.declared.verdict.Kind.TheVariants.{KeptClause, BadWithout}
use Rattle.lk_model.specs.declared.verdict.Why.{Why}

-- the clause line of a position of the core
abbrev pub core_clause_at : MusAnswer → ℕ → List ℤ
core_clause_at a p = option_map_or (λ entry. entry.1) (find (λ entry. entry.0 == p) (zip a.core a.texts.clauses)) []

-- it is not the formula's clause, as a list
unfoldable pub core_clause : Cnf → MusAnswer → Check
core_clause F a = fails KeptClause a.core (λ p. not (is_same_list (core_clause_at a p) (clause_at F p)))

-- the literals satisfy the clause at each position of the core but their own
abbrev pub satisfies_others : Cnf → List ℕ → Without → Bool
satisfies_others F core w = list_all (λ q. q == w.pos || satisfies (assignment_of w.lits) (clause_at F q)) core

-- the line for a position
abbrev pub without_for : List Without → ℕ → Option Without
without_for without p = find (λ (w : Without). w.pos == p) without

-- the literals for a position of the core leave the clause at another one unsatisfied
unfoldable pub bad_without : Cnf → List ℕ → List Without → Check
bad_without F core without = fails BadWithout core (λ p. not (option_map_or (satisfies_others F core) (without_for without p) false))

-- the kinds in their order; the chains are over the clauses of the core alone
abbrev pub checks_of_core : Cnf → MusAnswer → List Check
checks_of_core F a = core_clause F a ∷ bad_step no_variable F a.core (a.round ∷ []) ∷ bad_without F a.core a.without ∷ []

-- the first kind that fails, with its first place
abbrev pub first_failure_of_core : Cnf → MusAnswer → Option Why
first_failure_of_core F a = first_of (checks_of_core F a)
