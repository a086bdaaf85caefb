-- Steps that learn.
use Rattle.std.specs.Prelude.{Bool, ◌||◌, List, []}
use Rattle.std.specs.List.{list_all}
use Rattle.lk_model.specs.Lists.{is_empty, with_earlier}
use Rattle.lk_model.specs.Held.VariableSets.{premises_of}
use Rattle.lk_model.specs.Chains.Chain.{is_learned}
use Rattle.lk_model.specs.declared.crossed.Crossed.{Crossed}
use Rattle.lk_model.specs.declared.document.Step.{Step}

-- each step's clause is empty, or learned
abbrev pub are_learned : Crossed → List Step → Bool
are_learned over steps = list_all (λ (earlier, s). is_empty s.clause || is_learned (premises_of over earlier) s.clause) (with_earlier [] steps)
