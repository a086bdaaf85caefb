use Rattle.std.proofs.Common.{◌≡◌, ◌∙◌, ◌==◌, List, [], ◌∷◌, ℕ, ℤ, true, not, filter, map, sym, ap, subst, inl}
use Rattle.lk_model.specs.Lists.{among}
use Rattle.lk_model.specs.Formulas.Formula.{Cnf, clauses_at, positions_of}
use Rattle.lk_model.specs.Formulas.Assignment.{assignment_of, IsModel}
use Rattle.lk_model.specs.Formulas.Minimal.{all_but}
use Rattle.lk_model.specs.Held.PartialValues.{assignment_by}
use Rattle.lk_model.specs.declared.decided.Decided.{Decided}
use Rattle.lk_model.specs.declared.document.Round.{Round}
use Rattle.general_laws.specs.Found.{IsUnfinished}
use Rattle.renaming_laws.specs.Renaming.{nth}
use Rattle.part_copy.specs.Found.{are_filled, IsPartModel}
use Rattle.part_copy.proofs.SubCopies.{filled_copy, filled_part}
use Rattle.part_formula.specs.declared.deciding.Refuted.{Refuted as Refutation}
use Rattle.part_formula.specs.Decisions.{IsDecided, IsRefuted}
use Rattle.mus_core.specs.WitnessValues.{IsRotated}
use Rattle.mus_core.proofs.ShrunkCores.{others_rise, is_witness, fewer_open, one_left_out, smaller}
use Rattle.mus_core.proofs.Telling.{stopped_copy}
use Rattle.mus_core.proofs.shrinking.leave_out.Goals as goal

pub at-requires : goal.at-requires
at-requires c =
    others_rise c.args.core.now c.args.conflicts c.args.refutation.now c.as_slice-2.result.now c.args.p c.requires.shrunk.refuted
    (c.as_slice-2.ensures ∙ c.in_ok-others.ensures ∙ ap (filter (λ (q : ℕ). not (q == c.args.p))) c.as_slice.ensures)

pub decide_clauses-requires : goal.decide_clauses-requires
decide_clauses-requires c =
    let core = c.args.core.now in
    let rest = c.in_ok-rest.rest in
    let others = c.as_slice-2.result.now in
    let inside = others_rise core c.args.conflicts c.args.refutation.now others c.args.p c.requires.shrunk.refuted
    (c.as_slice-2.ensures ∙ c.in_ok-others.ensures ∙ ap (filter (λ (q : ℕ). not (q == c.args.p))) c.as_slice.ensures) in
    let own = c.at.ensures.own in
    let of = c.in_ok-rest.ensures.copy in
    let filled = filled_part core.formula core.clauses core.part core.names others own.part c.requires.filled own.dense inside in
    subst (λ (H : Cnf). are_filled H (positions_of H) ≡ true) (sym c.clauses.ensures.clauses) (filled_copy rest c.clauses.ensures.copy
    (subst (λ (F : Cnf). are_filled F rest.part ≡ true) (sym of.formula) (subst (λ (ps : List ℕ). are_filled core.formula ps ≡ true) (sym of.part) filled)))

pub give-requires-clause-satisfied : goal.give-requires-clause-satisfied
give-requires-clause-satisfied c =
    let G = c.args.core.now.clauses in
    let T = c.in_ok-rest.rest.clauses in
    let rest = c.in_ok-others.ensures ∙ ap (filter (λ (q : ℕ). not (q == c.args.p))) c.as_slice.ensures in
    let is : T ≡ clauses_at G c.in_ok-others.others = c.in_ok-rest.ensures.clauses ∙ ap (clauses_at G) c.as_slice-2.ensures in
    let model : IsPartModel T (positions_of T) c.in-Model.set = subst (λ (H : Cnf). IsPartModel H (positions_of H) c.in-Model.set) c.clauses.ensures.clauses
    (subst (λ (d : Decided (List ℤ) Refutation Round). IsDecided c.clauses.result.now c.args.conflicts d) c.in-Model.is c.in_ok-set.ensures) in
    subst (λ (H : Cnf). IsModel H (all_but (among c.as_slice-places.result.now) c.args.p) (assignment_by c.in_ok-values-in-Model.values)) (sym c.clauses-in-Model-2.ensures.clauses)
    (subst (λ (ps : List ℕ). IsModel G (all_but (among ps) c.args.p) (assignment_by c.in_ok-values-in-Model.values)) (sym c.as_slice-places.ensures)
    (is_witness G T c.in_ok-others.others c.args.refutation.now.used c.args.p c.in-Model.set c.in_ok-values-in-Model.values is rest model
    (c.in_ok-values-in-Model.ensures.values ∙ ap assignment_of c.as_slice-in-Model.ensures)))

pub returns-in-Model : goal.returns-in-Model
returns-in-Model c =
    let G = c.args.core.now.clauses in
    let e = c.in_ok-give-in-Model.ensures in
    let rotated : IsRotated G (among c.args.refutation.now.used) c.args.witnesses.now c.give.new.witnesses =
    subst (λ (H : Cnf). IsRotated H (among c.args.refutation.now.used) c.args.witnesses.now c.give.new.witnesses) c.clauses-in-Model-2.ensures.clauses
    (subst (λ (ps : List ℕ). IsRotated c.clauses-in-Model-2.result.now (among ps) c.args.witnesses.now c.give.new.witnesses) c.as_slice-places.ensures e.rotated) in (
      record { refuted = c.requires.shrunk.refuted; held = rotated.held },
      fewer_open c.args.core.now c.args.refutation.now c.args.witnesses.now c.give.new.witnesses c.args.p c.requires.next rotated e.given,
    )

pub returns-in-Refuted : goal.returns-in-Refuted
returns-in-Refuted c =
    let core = c.args.core.now in
    let rest = c.in_ok-rest.rest in
    let others = c.in_ok-others.others in
    let conflicts = c.args.conflicts in
    let found : IsRefuted rest.clauses conflicts c.in-Refuted.smaller = subst (λ (H : Cnf). IsRefuted H conflicts c.in-Refuted.smaller) c.clauses.ensures.clauses
    (subst (λ (d : Decided (List ℤ) Refutation Round). IsDecided c.clauses.result.now conflicts d) c.in-Refuted.is c.in_ok-set.ensures) in
    let used = c.in-Refuted.smaller.used in
    let r = c.in_ok-refutation-in-Refuted in
    smaller core rest conflicts c.args.refutation.now (record { round = r.field-0; used = used }) c.args.witnesses.now others c.positions_at.result c.args.p
    c.requires.shrunk c.requires.next (c.in_ok-others.ensures ∙ ap (filter (λ (q : ℕ). not (q == c.args.p))) c.as_slice.ensures) c.in_ok-rest.ensures.copy.formula
    (c.in_ok-rest.ensures.copy.part ∙ ap (map (nth core.part)) c.as_slice-2.ensures)
    (c.in_ok-rest.ensures.clauses ∙ ap (clauses_at core.clauses) c.as_slice-2.ensures)
    (record { places = found.positions; refuted = r.ensures used conflicts found.positions found.refuted })
    (c.positions_at.ensures ∙ ap (λ (ps : List ℕ). map (nth ps) used) c.as_slice-in-Refuted.ensures)

pub returns : goal.returns
returns c =
    let core = c.args.core.now in
    let rest = c.in_ok-rest.rest in
    let conflicts = c.args.conflicts in
    let found : IsUnfinished rest.clauses (positions_of rest.clauses) conflicts (c.in-Stopped.round ∷ []) =
    subst (λ (H : Cnf). IsUnfinished H (positions_of H) conflicts (c.in-Stopped.round ∷ [])) c.clauses.ensures.clauses
    (subst (λ (d : Decided (List ℤ) Refutation Round). IsDecided c.clauses.result.now conflicts d) c.in-Stopped.is c.in_ok-set.ensures) in
    let o = c.in_ok-texts-in-Stopped in
    let others = c.as_slice-2.result.now in
    let part = c.into_part-part.result in
    record {
      stopped = stopped_copy core.formula (map (nth core.part) others) rest part o.field-0.texts conflicts o.field-0.round c.in_ok-rest.ensures.copy c.clauses.ensures.copy
          c.into_part-part.ensures o.ensures.form o.ensures.texts (o.ensures.round conflicts found);
      why = inl (one_left_out core conflicts c.args.refutation.now c.args.witnesses.now others part c.args.p c.at.ensures.own c.requires.shrunk c.requires.next
          (c.as_slice-2.ensures ∙ c.in_ok-others.ensures ∙ ap (filter (λ (q : ℕ). not (q == c.args.p))) c.as_slice.ensures)
          (c.into_part-part.ensures ∙ c.in_ok-rest.ensures.copy.part));
    }
