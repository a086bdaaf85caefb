-- Answers of searches: a place, or none.
use Rattle.std.specs.Prelude.{List, [], ◌∷◌, Option, Some, None, Ok, Err}
use Rattle.std.specs.declared.result.Result.{Result}
use Rattle.lk_model.specs.declared.list.OutOfMemory.{OutOfMemory}

-- the first answer that is not none
abbrev pub first_answer : {X : Type 0} → List (Result (Option X) OutOfMemory) → Result (Option X) OutOfMemory
first_answer [] = Ok None
first_answer (Ok None ∷ rest) = first_answer rest
first_answer (Ok (Some place) ∷ rest) = Ok (Some place)
first_answer (Err e ∷ rest) = Err e
