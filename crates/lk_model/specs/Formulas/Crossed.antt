-- Sets of variables, and clauses and formulas in which the literals on the variables of a set are crossed out.
use Rattle.std.specs.Prelude.{ℕ, Bool, false, not, List, ℤ, filter, map, Option, Some, None, IsTrue, option_map}
use Rattle.lk_model.specs.Lists.{among, is_between}
use Rattle.lk_model.specs.Formulas.Literal.{variable}
use Rattle.lk_model.specs.Formulas.Formula.{Cnf, variables_to}

-- a set of variables, as a test
abbrev pub Variables : Type 0
Variables = ℕ → Bool

abbrev pub no_variable : Variables
no_variable v = false

-- each variable of the set is one of the formula
abbrev pub AreVariables : Cnf → Variables → Type 0
AreVariables F P = (v : ℕ) → IsTrue (P v) → IsTrue (is_between 1 F.vars v)

-- the clause without the literals of blocked variables
abbrev pub crossed_out : Variables → List ℤ → List ℤ
crossed_out blocked c = filter (λ l. not (blocked (variable l))) c

-- the formula of as many variables and clauses, without the literals on variables of P
abbrev pub formula_without : Cnf → Variables → Cnf
formula_without F P = record { vars = F.vars; clauses = map (crossed_out P) F.clauses }

-- PROTECTED VARIABLES

-- the set of protected variables that a list gives, where there is one
abbrev pub protected_by : Option (List ℕ) → Variables
protected_by None = no_variable
protected_by (Some vars) = among vars

-- of the listed numbers those that are variables of the formula, each once, ascending
abbrev pub protected_of : Cnf → List ℕ → List ℕ
protected_of F listed = filter (among listed) (variables_to F.vars)

-- the protected variables of a document are those of the formula that are listed, if there is a list
abbrev pub protect_line_of : Cnf → Option (List ℕ) → Option (List ℕ)
protect_line_of F listed = option_map (protected_of F) listed
