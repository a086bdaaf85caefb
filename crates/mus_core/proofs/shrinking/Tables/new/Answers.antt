use Rattle.std.proofs.Common.{◌∙◌, ℕ, List, Option, Bool, None, replicate, ap}
use Rattle.mus_core.proofs.shrinking.Tables.new.Goals as goal

pub returns-clause-witnesses : goal.returns-clause-witnesses
returns-clause-witnesses c =
    c.in_ok-witnesses.ensures ∙ ap (λ (m : ℕ). let ws : List (Option (List (Option Bool))) = replicate m None in ws) c.len.ensures.value
