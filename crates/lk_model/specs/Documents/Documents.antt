-- Documents as contracts see them: the types of src/document.rt, with lists for their list fields. Words on their
-- fields.
use Rattle.std.specs.Prelude.{ℕ, ◌==◌, List, [], map, find, zip, ℤ, pos, Option}
use Rattle.std.specs.List.{flat_map}
use Rattle.std.specs.Option.{option_map_or}
use Rattle.lk_model.specs.Formulas.Balance.{Weighting}
use Rattle.lk_model.specs.declared.class.Class.{Class}
use Rattle.lk_model.specs.declared.class.Class.TheVariants as class
use Rattle.lk_model.specs.declared.document.Pair.{Pair}
use Rattle.lk_model.specs.declared.document.Own.{Own}
use Rattle.lk_model.specs.declared.document.MatchRow.{MatchRow}
use Rattle.lk_model.specs.declared.document.Weight.{Weight}
use Rattle.lk_model.specs.declared.document.Stage.{Stage}
use Rattle.lk_model.specs.declared.document.Dual.{Dual}
use Rattle.lk_model.specs.declared.document.Share.{Share}
use Rattle.lk_model.specs.declared.document.Unit.{Unit}
use Rattle.lk_model.specs.declared.document.Step.{Step}
use Rattle.lk_model.specs.declared.document.Round.{Round}
use Rattle.lk_model.specs.declared.document.Body.{Body}
use Rattle.lk_model.specs.declared.document.Body.TheVariants.{Pure, Matching, Linear, General}
use Rattle.lk_model.specs.declared.document.DoneDocument.{DoneDocument}

-- the class of a finished document
abbrev pub class_of : Body → Class
class_of (Pure order pairs) = class.Pure
class_of (Matching own rows) = class.Matching
class_of (Linear stages dual units) = class.Linear
class_of (General rounds) = class.General

-- the clause line of a kept position
abbrev pub clause_line_at : DoneDocument → ℕ → List ℤ
clause_line_at d p = option_map_or (λ entry. entry.1) (find (λ entry. entry.0 == p) (zip d.kept d.texts.clauses)) []

-- the line of a variable or of a position, where there is one
abbrev pub pair_of : List Pair → ℕ → Option Pair
pair_of pairs v = find (λ (q : Pair). q.var == v) pairs

abbrev pub own_of : List Own → ℕ → Option Own
own_of own p = find (λ (o : Own). o.pos == p) own

abbrev pub row_of : List MatchRow → ℕ → Option MatchRow
row_of rows v = find (λ (r : MatchRow). r.var == v) rows

abbrev pub dual_of : List Dual → ℕ → Option Dual
dual_of dual p = find (λ (y : Dual). y.pos == p) dual

abbrev pub unit_of : List Unit → ℕ → Option Unit
unit_of units v = find (λ (u : Unit). u.var == v) units

-- the weights of a stage: 0 where it has no entry
abbrev pub weighting_of : Stage → Weighting
weighting_of s v = option_map_or (λ (w : Weight). w.x) (find (λ (w : Weight). w.var == v) s.weights) (pos 0)

-- the numbers of dual lines, and of the shares of a unit line, at their positions
abbrev pub duals_at : List Dual → List (ℕ × ℤ)
duals_at dual = map (λ (y : Dual). (y.pos, y.y)) dual

abbrev pub shares_at : Unit → List (ℕ × ℤ)
shares_at u = map (λ (s : Share). (s.pos, s.z)) u.shares

-- all steps, through all rounds
abbrev pub steps_of : List Round → List Step
steps_of rounds = flat_map (λ (r : Round). r.steps) rounds

-- the rounds of a general certificate; those of another class have none
abbrev pub rounds_in : Body → List Round
rounds_in (General rounds) = rounds
rounds_in (Pure order pairs) = []
rounds_in (Matching own rows) = []
rounds_in (Linear stages dual units) = []
