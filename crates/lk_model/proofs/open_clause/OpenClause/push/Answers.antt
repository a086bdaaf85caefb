use Rattle.std.proofs.Common.{◌≡◌, subst, sym, false, IsTrue}
use Rattle.lk_model.specs.Formulas.Literal.{contains, is_literal}
use Rattle.lk_model.specs.Held.Growing.{Growing}
use Rattle.lk_model.proofs.Flags.{Held-more}
use Rattle.lk_model.proofs.open_clause.OpenClause.push.Goals as goal

pub flag_all-self-inside-requires : goal.flag_all-self-inside-requires
flag_all-self-inside-requires c = rw (c.deref.ensures.value, c.in_ok-push.ensures.items)
    (Held-more _ _ _ _ _ c.self.invariant (subst (λ (s : Growing). IsTrue (is_literal s.vars c.args.l)) (sym c.self.view_is) c.requires.literal)
    (subst (λ (s : Growing). contains s.literals c.args.l ≡ false) (sym c.self.view_is) c.requires.absent))

pub invariant_of-self-else-len-gt-SEARCHED : goal.invariant_of-self-else-len-gt-SEARCHED
invariant_of-self-else-len-gt-SEARCHED c = rw c.in_ok-push.ensures.items
    (Held-more _ _ _ _ _ c.self.invariant (subst (λ (s : Growing). IsTrue (is_literal s.vars c.args.l)) (sym c.self.view_is) c.requires.literal)
    (subst (λ (s : Growing). contains s.literals c.args.l ≡ false) (sym c.self.view_is) c.requires.absent))
