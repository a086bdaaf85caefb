use Rattle.std.proofs.Common.{◌∙◌, List, Option, Bool, false, None, length, ap, refl}
use Rattle.std.proofs.lemmas.List.{length-replicate}
use Rattle.model_text.proofs.Values.{values_none}
use Rattle.model_text.proofs.Standing.{stands_first}
use Rattle.model_text.proofs.progress.nothing_read.Goals as goal

pub returns-clause-taken : goal.returns-clause-taken
returns-clause-taken c =
    let values = c.in_ok-new.field-0 in
    record {
      size = refl;
      vars = ap (λ (vs : List (Option Bool)). length vs) c.in_ok-new.ensures ∙ length-replicate {A = Option Bool} c.args.n None;
      stands = stands_first c.args.n c.new-2.result.items (record { values = values; closed = false }) c.new-2.ensures.items (values_none c.args.n values c.in_ok-new.ensures) refl;
    }
