use Rattle.std.proofs.Common.{◌≡◌, ◌∙◌, ◌&&◌, [], not, List, Bool, ℤ, sym, ap, subst, rules}
use Rattle.lk_model.specs.Formulas.Literal.{contains}
use Rattle.refutation_log.specs.Flagged.{is_flagged, flagged, HaveCome}
use Rattle.refutation_log.proofs.FlaggedLaws.{none_left}
use Rattle.refutation_log.proofs.chain_clause.FlaggedClause.take.Goals as goal

pub invariant_of-self : goal.invariant_of-self
invariant_of-self c =
    let flags = c.self.inside.flags.items in
    let left = c.unflag_all.new.flags.items in
    let came = c.self.inside.came.items in
    let kept : c.as_slice.result.now ≡ flagged flags came = c.as_slice.ensures ∙ c.keep_flagged.ensures ∙ ap (λ (fs : List Bool). flagged fs came) c.deref.ensures.value in
    let none : c.replace.new.dest.items ≡ [] = search rules in
    subst (λ (ls : List ℤ). HaveCome left ls) (sym none)
    (none_left flags left came c.self.invariant (λ k. c.unflag_all.ensures k ∙ ap (λ (ls : List ℤ). is_flagged flags k && not (contains ls k)) kept))
