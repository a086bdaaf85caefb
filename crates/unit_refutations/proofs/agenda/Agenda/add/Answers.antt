use Rattle.std.proofs.Common.{◌∙◌, length, sym, ap, arith}
use Rattle.std.proofs.lemmas.List.{length-set}
use Rattle.unit_refutations.specs.Agendas.{Planned}
use Rattle.unit_refutations.proofs.Plans.{more_inside}
use Rattle.unit_refutations.proofs.agenda.Agenda.add.Goals as goal

pub invariant_of-self : goal.invariant_of-self
invariant_of-self c =
    let i = c.self.invariant in
    let size = ap (λ (a : Planned). length a.inside) c.self.view_is in
    record {
      counts = length-set _ _ _ ∙ i.counts ∙ sym (length-set _ _ _);
      waiting = more_inside c.self.inside.inside.items c.self.inside.waiting.items c.args.position c.requires.first (omega (arith, size, c.requires.last)) i.waiting;
    }
