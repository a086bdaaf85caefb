use Rattle.std.proofs.Common.{◌≡◌, ◌&&◌, ℤ, not, take}
use Rattle.lk_model.specs.Formulas.Literal.{contains}
use Rattle.refutation_log.specs.Flagged.{is_flagged}
use Rattle.refutation_log.proofs.chain_clause.unflag_all.Given as goal

abbrev pub invariant-loop-l : goal.invariant-loop-l
invariant-loop-l l = (k : ℤ) → is_flagged l.flags.items k ≡ (is_flagged l.fn.flags.items k && not (contains (take l.l-index l.lits) k))
