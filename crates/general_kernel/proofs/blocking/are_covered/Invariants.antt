use Rattle.std.proofs.Common.{◌≡◌, true, take}
use Rattle.std.specs.List.{list_all}
use Rattle.lk_model.specs.Formulas.Formula.{clause_at}
use Rattle.lk_model.specs.Held.VariableSets.{is_in}
use Rattle.general_laws.specs.Found.{has_only}
use Rattle.general_kernel.proofs.blocking.are_covered.Given as goal

-- those so far have
abbrev pub invariant-loop-position : goal.invariant-loop-position
invariant-loop-position l = list_all (λ p. has_only (is_in l.blocked) (clause_at l.f p)) (take l.position-index l.part) ≡ true
