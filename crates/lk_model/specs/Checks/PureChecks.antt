-- The checks of a pure document: the order of its literals, and a pair of kept clauses for each variable of the kept ones
-- that is not protected.
use Rattle.std.specs.Prelude.{◌+◌, ◌-◌, Bool, not, if◌then◌else◌, ◌&&◌, ◌||◌, ◌==◌, List, take, length, ℤ, pos, slice_index_or}
use Rattle.std.specs.List.{list_any, list_all}
use Rattle.lk_model.specs.Lists.{up_to}
use Rattle.lk_model.specs.Formulas.Literal.{complement, contains}
use Rattle.lk_model.specs.Formulas.Formula.{Cnf, variables_to}
use Rattle.lk_model.specs.Formulas.Crossed.{Variables}
use Rattle.lk_model.specs.Formulas.PureRun.{occurs_outside}
use Rattle.lk_model.specs.Documents.Documents.{pair_of}
use Rattle.lk_model.specs.Checks.Check.{Check, fails, line_fails, is_kept_with}
use Rattle.lk_model.specs.declared.document.Pair.{Pair}
use Rattle.lk_model.specs.declared.document.DoneDocument.{DoneDocument}
use Rattle.lk_model.specs.declared.verdict.Kind.TheVariants.{BadOrder, BadPair}

-- The literal stands earlier in the order, or is not in the set line, or some clause contains its complement and no
-- earlier literal of the order.
abbrev pub breaks_order : Cnf → List ℤ → List ℤ → ℤ → Bool
breaks_order F set earlier l = contains earlier l || not (contains set l)
    || list_any (λ c. contains c (complement l) && not (list_any (contains c) earlier)) F.clauses

-- at the place after the last: a literal of the set line is missing
unfoldable pub bad_order : Cnf → DoneDocument → List ℤ → Check
bad_order F d order = fails BadOrder (up_to (length order + 1)) (λ i. (if i == length order + 1
    then not (list_all (contains order) d.set)
    else breaks_order F d.set (take (i - 1) order) (slice_index_or order (i - 1) (pos 0))))

unfoldable pub bad_pair : Variables → Cnf → DoneDocument → List Pair → Check
bad_pair P F d pairs = fails BadPair (variables_to F.vars) (λ v. line_fails (occurs_outside P F d.kept v) (pair_of pairs v) (λ q.
    not (is_kept_with F d.kept q.with (λ c. contains c (pos v)))
    || not (is_kept_with F d.kept q.against (λ c. contains c (complement (pos v))))))
