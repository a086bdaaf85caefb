use Rattle.std.proofs.Common.{◌≡◌, ◌∙◌, true, ℕ, List, ap, map, subst, sym}
use Rattle.lk_model.specs.Formulas.Formula.{Cnf, is_formula}
use Rattle.lk_model.specs.Formulas.Lean.{are_positions}
use Rattle.renaming_laws.specs.Renaming.{nth}
use Rattle.part_copy.specs.Copies.{Copy, IsCopy}
use Rattle.part_copy.proofs.SubCopies.{sub_copy}
use Rattle.part_copy.proofs.copies.PartCopy.at.Goals as goal

pub invariant_of-result : goal.invariant_of-result
invariant_of-result c =
    let own : Copy = record { formula = c.self.inside.formula.now; part = c.self.inside.part; names = c.self.inside.names; clauses = c.self.inside.clauses } in
    let places = c.args.places.now in
    let T = c.in_ok-clauses.clauses in
    let inside : are_positions own.clauses places ≡ true = subst (λ (d : Copy). are_positions d.clauses places ≡ true) (sym c.self.view_is) c.requires in
    let given : c.from_vec-places.result ≡ places = c.from_vec-places.ensures ∙ c.in_ok-from_slice.ensures.items in
    let part : c.positions_at.result ≡ map (nth own.part) places =
    c.positions_at.ensures ∙ ap (λ (ps : List ℕ). map (nth ps) c.from_vec-places.result) c.as_slice.ensures ∙ ap (map (nth own.part)) given in
    let names : c.from_vec.result ≡ own.names = c.from_vec.ensures ∙ c.in_ok-from_slice-2.ensures.items ∙ c.as_slice-2.ensures in
    let same : record { formula = own.formula; part = c.positions_at.result; names = c.from_vec.result; clauses = T }
    ≡ record { formula = own.formula; part = map (nth own.part) places; names = own.names; clauses = T } =
    λ j. record { formula = own.formula; part = part j; names = names j; clauses = T } in
    subst (λ (d : Copy). IsCopy d) (sym same) (sub_copy own places T c.self.invariant inside c.in_ok-clauses.ensures
    (subst (λ (G : Cnf). is_formula G ≡ true) c.clauses.view_is c.clauses.invariant.formula))
