-- The checks of a matching document: a variable of its own for each removed clause, and a row for each variable of the
-- kept ones that is not protected.
use Rattle.std.specs.Prelude.{ℕ, Bool, not, ◌&&◌, ◌||◌, ◌==◌, nat_lt, List}
use Rattle.std.specs.List.{list_any}
use Rattle.lk_model.specs.Lists.{among}
use Rattle.lk_model.specs.Formulas.Literal.{variable, mentions}
use Rattle.lk_model.specs.Formulas.Formula.{Cnf, positions_of, variables_to, clause_at}
use Rattle.lk_model.specs.Formulas.Crossed.{Variables}
use Rattle.lk_model.specs.Formulas.PureRun.{occurs_outside}
use Rattle.lk_model.specs.Formulas.Assignment.{assignment_of, makes_true}
use Rattle.lk_model.specs.Documents.Documents.{own_of, row_of}
use Rattle.lk_model.specs.Checks.Check.{Check, fails, line_fails, is_kept_with}
use Rattle.lk_model.specs.declared.document.Own.{Own}
use Rattle.lk_model.specs.declared.document.MatchRow.{MatchRow}
use Rattle.lk_model.specs.declared.document.DoneDocument.{DoneDocument}
use Rattle.lk_model.specs.declared.verdict.Kind.TheVariants.{BadOwner, BadRow}

-- the clause at the position contains no literal on the variable that the set line makes true, or an earlier line has
-- the variable
abbrev pub owner_fails : Cnf → DoneDocument → List Own → ℕ → Bool
owner_fails F d own p = line_fails (not (among d.kept p)) (own_of own p) (λ o.
    not (list_any (λ l. makes_true (assignment_of d.set) l && (variable l == o.var)) (clause_at F p))
    || list_any (λ (earlier : Own). nat_lt earlier.pos p && earlier.var == o.var) own)

unfoldable pub bad_owner : Cnf → DoneDocument → List Own → Check
bad_owner F d own = fails BadOwner (positions_of F) (λ p. owner_fails F d own p)

-- the own position or the escape is no kept clause of the variable, or an earlier row has the same own position, or the
-- escape is the own position of a row whose rank is not lower
abbrev pub row_fails : Variables → Cnf → DoneDocument → List MatchRow → ℕ → Bool
row_fails P F d rows v = line_fails (occurs_outside P F d.kept v) (row_of rows v) (λ r.
    not (is_kept_with F d.kept r.own (λ c. mentions c v))
    || not (is_kept_with F d.kept r.escape (λ c. mentions c v))
    || list_any (λ (earlier : MatchRow). nat_lt earlier.var v && earlier.own == r.own) rows
    || list_any (λ (w : MatchRow). w.own == r.escape && not (nat_lt w.rank r.rank)) rows)

unfoldable pub bad_row : Variables → Cnf → DoneDocument → List MatchRow → Check
bad_row P F d rows = fails BadRow (variables_to F.vars) (λ v. row_fails P F d rows v)
