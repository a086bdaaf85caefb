-- The order in which pure literals are taken, and the pairs of a lean rest.
use Rattle.std.specs.Prelude.{◌≡◌, ℕ, Bool, not, List, [], ◌∷◌, ◌++◌, ℤ, pos, neg_ℤ, Option, Some, None, ◌&&◌, filter, find, flat_map, map, unwrap_or}
use Rattle.lk_model.specs.Formulas.Literal.{variable, complement, contains}
use Rattle.lk_model.specs.Formulas.Formula.{Cnf, clause_at, positions_of, variables_to, literal_occurs, variable_occurs, variables_at}
use Rattle.lk_model.specs.Formulas.Crossed.{Variables}
use Rattle.lk_model.specs.declared.document.Pair.{Pair}
use Rattle.lk_model.specs.Formulas.Assignment.{assignment_of, touches}

-- the positions whose clauses no literal of the order touches
abbrev pub untouched : Cnf → List ℤ → List ℕ
untouched F order = filter (λ p. not (touches (assignment_of order) (clause_at F p))) (positions_of F)

-- the literal occurs there and its complement does not
abbrev pub is_pure_at : Cnf → List ℕ → ℤ → Bool
is_pure_at F ps l = literal_occurs F ps l && not (literal_occurs F ps (complement l))

-- 1, -1, 2, -2 and so on
abbrev pub literals_to : ℕ → List ℤ
literals_to n = flat_map (λ v. pos v ∷ neg_ℤ (pos v) ∷ []) (variables_to n)

-- the least variable that occurs there in one sign only, as the literal that occurs
abbrev pub least_pure : Cnf → List ℕ → Option ℤ
least_pure F ps = find (is_pure_at F ps) (literals_to F.vars)

-- After the literals of done, the run takes these, each one the least pure literal then, until there is none.
abbrev pub RunsOn : Cnf → List ℤ → List ℤ → Type 0
RunsOn F done [] = least_pure F (untouched F done) ≡ None
RunsOn F done (l ∷ order) = (least_pure F (untouched F done) ≡ Some l) × RunsOn F (done ++ l ∷ []) order

abbrev pub IsPureRun : Cnf → List ℤ → Type 0
IsPureRun F order = RunsOn F [] order

-- the least of the positions whose clause contains the literal
abbrev pub least_with : Cnf → List ℕ → ℤ → Option ℕ
least_with F ps l = find (λ p. contains (clause_at F p) l) ps

-- for each variable that occurs at the positions, the least ones with the variable and with its complement
abbrev pub least_pairs : Cnf → List ℕ → List Pair
least_pairs F ps = map (λ v. record {
  var = v;
  with = unwrap_or (least_with F ps (pos v)) 0;
  against = unwrap_or (least_with F ps (neg_ℤ (pos v))) 0;
}) (variables_at F ps)

-- UNDER A SET P OF PROTECTED VARIABLES

-- a variable outside P occurs in a clause at one of the positions
abbrev pub occurs_outside : Variables → Cnf → List ℕ → ℕ → Bool
occurs_outside P F ps v = not (P v) && variable_occurs F ps v

-- the variables outside P that occur there
abbrev pub variables_outside : Variables → Cnf → List ℕ → List ℕ
variables_outside P F ps = filter (occurs_outside P F ps) (variables_to F.vars)

-- the least variable outside P that occurs there in one sign only, as the literal that occurs
abbrev pub least_pure_under : Variables → Cnf → List ℕ → Option ℤ
least_pure_under P F ps = find (λ l. not (P (variable l)) && is_pure_at F ps l) (literals_to F.vars)

-- After the literals of done, the run takes these, each one the least such literal then, until there is none.
abbrev pub RunsOnUnder : Variables → Cnf → List ℤ → List ℤ → Type 0
RunsOnUnder P F done [] = least_pure_under P F (untouched F done) ≡ None
RunsOnUnder P F done (l ∷ order) = (least_pure_under P F (untouched F done) ≡ Some l) × RunsOnUnder P F (done ++ l ∷ []) order

abbrev pub IsPureRunUnder : Variables → Cnf → List ℤ → Type 0
IsPureRunUnder P F order = RunsOnUnder P F [] order

-- for each variable outside P that occurs at the positions, the least ones with the variable and with its complement
abbrev pub least_pairs_under : Variables → Cnf → List ℕ → List Pair
least_pairs_under P F ps = map (λ v. record {
  var = v;
  with = unwrap_or (least_with F ps (pos v)) 0;
  against = unwrap_or (least_with F ps (neg_ℤ (pos v))) 0;
}) (variables_outside P F ps)
