-- What a clause asks for.
use Rattle.std.specs.Prelude.{◌≡◌, ◌||◌, not, ⊤, List, [], ℤ, Option, Some, None, IsTrue}
use Rattle.std.specs.List.{list_all}
use Rattle.std.specs.Ordering.{int_eq}
use Rattle.lk_model.specs.Lists.{is_empty}
use Rattle.lk_model.specs.Formulas.Literal.{contains}
use Rattle.unit_refutations.specs.declared.looking.Look.{Look}
use Rattle.unit_refutations.specs.declared.looking.Look.TheVariants.{Nothing, Truth, Conflict}
use Rattle.unit_refutations.specs.Trails.{Came, is_true_in, is_false_in}

-- That its only literal which is not false, and which is unset, becomes true; or it is false, and not empty.
abbrev pub IsLook : Came → List ℤ → Look → Type 0
IsLook t c Nothing = ⊤
IsLook t c (Truth l) = IsTrue (contains c l) × IsTrue (not (is_true_in t l)) × IsTrue (not (is_false_in t l))
    × IsTrue (list_all (λ k. int_eq k l || is_false_in t k) c)
IsLook t c Conflict = IsTrue (not (is_empty c)) × IsTrue (list_all (is_false_in t) c)

-- of the literals so far
abbrev pub IsLookSoFar : Came → List ℤ → Look → Type 0
IsLookSoFar t c Nothing = c ≡ []
IsLookSoFar t c (Truth l) = IsLook t c (Truth l)
IsLookSoFar t c Conflict = IsLook t c Conflict

-- with one literal more; none where the clause asks for nothing
abbrev pub IsNext : Came → List ℤ → Option Look → Type 0
IsNext t c (Some look) = IsLookSoFar t c look
IsNext t c None = ⊤
