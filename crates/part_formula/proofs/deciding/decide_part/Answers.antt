use Rattle.std.proofs.Common.{◌≡◌, ◌∙◌, ℕ, true, List, [], ◌∷◌, subst, sym, ap, arith}
use Rattle.lk_model.specs.Formulas.Formula.{Cnf, literal_count, positions_of}
use Rattle.lk_model.proofs.Rising.{all_rise}
use Rattle.general_laws.specs.Found.{IsUnfinished}
use Rattle.part_copy.specs.Found.{are_filled, IsPartRefuted}
use Rattle.part_copy.proofs.SubCopies.{filled_copy}
use Rattle.part_copy.proofs.Told.{all_places}
use Rattle.part_formula.specs.Decisions.{Decision, IsDecision, most_steps}
use Rattle.part_formula.proofs.Budgets.{more_allowed}
use Rattle.part_formula.proofs.Tested.{few_copied}
use Rattle.part_formula.proofs.deciding.decide_part.Goals as goal

pub decide_all-requires : goal.decide_all-requires
decide_all-requires c =
    let copy = c.in_ok-copy.copy in
    let of = c.in_ok-copy.ensures in
    subst (λ (G : Cnf). are_filled G (positions_of G) ≡ true) (sym c.clauses.ensures.clauses)
    (filled_copy copy c.clauses.ensures.copy (subst (λ (F : Cnf). are_filled F copy.part ≡ true) (sym of.formula)
    (subst (λ (ps : List ℕ). are_filled c.args.f.now ps ≡ true) (sym of.part) c.requires.filled)))

pub returns-in-Refuted : goal.returns-in-Refuted
returns-in-Refuted c =
    let copy = c.in_ok-copy.copy in
    let of = c.in_ok-copy.ensures in
    let G = copy.clauses in
    let conflicts = c.args.conflicts in
    let r = c.in_ok-refutation-in-Refuted.field-0 in
    let found : IsPartRefuted G (positions_of G) (most_steps G conflicts) c.in-Refuted.round =
    subst (λ (H : Cnf). IsPartRefuted H (positions_of H) (most_steps H conflicts) c.in-Refuted.round) c.clauses.ensures.clauses
    (subst (λ (d : Decision). IsDecision c.clauses.result.now (positions_of c.clauses.result.now) conflicts d) c.in-Refuted.is c.in_ok-set.ensures) in
    let told = c.in_ok-refutation-in-Refuted.ensures (positions_of G) (most_steps G conflicts) (all_rise G) found in
    let few = few_copied copy c.clauses.ensures.copy in
    let same = ap literal_count of.formula in
    more_allowed (omega (arith, few, same)) (subst (λ (F : Cnf). IsPartRefuted F c.args.part.now (most_steps G conflicts) r) of.formula
    (subst (λ (ps : List ℕ). IsPartRefuted copy.formula ps (most_steps G conflicts) r) (all_places copy c.clauses.ensures.copy ∙ of.part) told))

pub returns : goal.returns
returns c =
    let copy = c.in_ok-copy.copy in
    let of = c.in_ok-copy.ensures in
    let G = copy.clauses in
    let conflicts = c.args.conflicts in
    let round = c.in_ok-open-in-Stopped.field-0 in
    let found : IsUnfinished G (positions_of G) conflicts (c.in-Stopped.round ∷ []) =
    subst (λ (H : Cnf). IsUnfinished H (positions_of H) conflicts (c.in-Stopped.round ∷ [])) c.clauses.ensures.clauses
    (subst (λ (d : Decision). IsDecision c.clauses.result.now (positions_of c.clauses.result.now) conflicts d) c.in-Stopped.is c.in_ok-set.ensures) in
    let told = c.in_ok-open-in-Stopped.ensures conflicts found in
    subst (λ (F : Cnf). IsUnfinished F c.args.part.now conflicts (round ∷ [])) of.formula
    (subst (λ (ps : List ℕ). IsUnfinished copy.formula ps conflicts (round ∷ [])) of.part told)
