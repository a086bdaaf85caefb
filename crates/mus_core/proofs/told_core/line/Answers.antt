use Rattle.std.proofs.Common.{◌≡◌, ◌∙◌, true, ℕ, ℤ, List, map, ap, sym, subst}
use Rattle.lk_model.specs.Lists.{rises_within}
use Rattle.lk_model.specs.Formulas.Literal.{variable}
use Rattle.lk_model.specs.Held.VariableSets.{is_in}
use Rattle.part_copy.specs.Copies.{AreTold}
use Rattle.mus_core.specs.WitnessValues.{literals_at}
use Rattle.mus_core.proofs.ToldCores.{literals_rise}
use Rattle.mus_core.proofs.told_core.line.Goals as goal

pub literals-lits-requires : goal.literals-lits-requires
literals-lits-requires c =
    let G = c.args.core.now.clauses in
    let is = c.in_ok-literals.ensures ∙ ap (λ (n : ℕ). literals_at n (is_in c.args.vars.now) c.args.witnesses.now c.args.p) c.requires.size in
    subst (λ (ls : List ℤ). rises_within 0 G.vars (map variable ls) ≡ true) (sym is) (literals_rise G (is_in c.args.vars.now) c.args.witnesses.now c.args.p)

pub returns : goal.returns
returns c =
    let is = c.in_ok-literals.ensures ∙ ap (λ (n : ℕ). literals_at n (is_in c.args.vars.now) c.args.witnesses.now c.args.p) c.requires.size in
    record {
      pos = c.position-pos.ensures;
      lits = subst (λ (ls : List ℤ). AreTold c.args.core.now ls c.literals-lits.result) is c.literals-lits.ensures.told;
    }
