use Rattle.std.proofs.Common.{◌≡◌, ℕ, true, sym, subst}
use Rattle.std.specs.List.{list_all}
use Rattle.lk_model.specs.Formulas.Literal.{is_literal}
use Rattle.cdcl_core.proofs.Walks.{held_literals}
use Rattle.cdcl_core.proofs.minimizing.reason_within.Goals as goal

pub has_only-requires : goal.has_only-requires
has_only-requires c =
    subst (λ (n : ℕ). list_all (is_literal n) c.clause.result.now ≡ true) (sym c.requires.size)
    (held_literals c.args.p.now c.in_ok-with.with c.clause.result.now c.requires.held c.clause.ensures)
