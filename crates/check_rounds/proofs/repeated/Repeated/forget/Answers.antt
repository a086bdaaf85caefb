use Rattle.std.proofs.Common.{ℤ, List, refl, subst}
use Rattle.check_tables.specs.LiteralSets.{IsSetOf, less}
use Rattle.check_tables.proofs.LiteralSetLemmas.{all_less}
use Rattle.check_rounds.proofs.repeated.Repeated.forget.Goals as goal

pub returns : goal.returns
returns c n w h =
    let ls = c.args.self.now.literals.items in
    record {
      set = all_less n ls c.remove_all.new.self (subst (λ (ks : List ℤ). IsSetOf n (less ls ks) c.remove_all.new.self) c.deref.ensures.value
          (c.remove_all.ensures.removed n ls (rw (c.deref.ensures.value) h.literals) h.set));
      number = refl;
      literals = c.clear.ensures.items;
      lost = c.clear-2.ensures.items;
    }
