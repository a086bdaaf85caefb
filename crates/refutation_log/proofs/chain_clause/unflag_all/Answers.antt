use Rattle.std.proofs.Common.{◌≡◌, ◌&&◌, ◌++◌, ◌∷◌, [], List, ℤ, not, take, sym, ap, ◌∙◌, subst, arith}
use Rattle.std.proofs.lemmas.Grind.{common_steps}
use Rattle.std.proofs.lemmas.List.{take_more}
use Rattle.lk_model.specs.Formulas.Literal.{contains}
use Rattle.refutation_log.specs.Flagged.{is_flagged}
use Rattle.refutation_log.proofs.FlaggedLaws.{unflag_more}
use Rattle.refutation_log.proofs.chain_clause.unflag_all.Goals as goal

pub loop-l-init : goal.loop-l-init
loop-l-init c = grind (arith, common_steps)

pub loop-l-preserved : goal.loop-l-preserved
loop-l-preserved c =
    let lits = c.args.lits.now in
    let i = c.loop-l.l-index in
    subst (λ (ls : List ℤ). (k : ℤ) → is_flagged c.unflag.new.flags.items k ≡ (is_flagged c.args.flags.now.items k && not (contains ls k)))
    (sym (take_more lits i c.l-item.result c.loop-l-test.true ∙ ap (λ (l : ℤ). take i lits ++ l ∷ []) (sym c.l-item.is)))
    (unflag_more c.args.flags.now.items c.loop-l.flags.items c.unflag.new.flags.items (take i lits) c.l-item.result c.loop-l.invariant c.unflag.ensures)

pub returns : goal.returns
returns c = grind (arith, common_steps)
