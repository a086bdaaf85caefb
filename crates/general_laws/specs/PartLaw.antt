-- Parts of a formula share no variable.
use Rattle.std.specs.Prelude.{◌≢◌, ℕ, List, IsTrue}
use Rattle.std.specs.Bool.{IsFalse}
use Rattle.lk_model.specs.Formulas.Formula.{Cnf, variable_occurs}
use Rattle.lk_model.specs.Formulas.Parts.{IsPart, least_of}
use Rattle.general_laws.specs.JoinLaw.{IsApart}

-- A part shares no variable with the other positions, and so none with a part that has another least position.
pub record PartLaw : Type 0 where
  pub apart : (F : Cnf) (part : List ℕ) → IsPart F part → IsApart F part
  pub differ : (F : Cnf) (ps qs : List ℕ) → IsPart F ps → IsPart F qs → least_of ps ≢ least_of qs
      → (v : ℕ) → IsTrue (variable_occurs F ps v) → IsFalse (variable_occurs F qs v)
