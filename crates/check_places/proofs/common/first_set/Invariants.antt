use Rattle.std.proofs.Common.{◌≡◌, take, None, is_some}
use Rattle.std.specs.Prelude.{find}
use Rattle.lk_model.specs.Held.PartialValues.{assignment_by}
use Rattle.check_places.proofs.common.first_set.Given as goal

-- none of the variables so far is set
abbrev pub invariant-loop-v : goal.invariant-loop-v
invariant-loop-v l = find (λ v. is_some (assignment_by l.values v)) (take l.v-index l.vars) ≡ None
