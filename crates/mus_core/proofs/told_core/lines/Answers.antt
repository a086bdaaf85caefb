use Rattle.std.proofs.Common.{◌≡◌, ◌∙◌, ◌+◌, ◌||◌, Bool, List, ℕ, refl, ap, subst, sym, arith, take, get_or}
use Rattle.lk_model.specs.Formulas.Crossed.{Variables}
use Rattle.std.proofs.lemmas.List.{take_all}
use Rattle.lk_model.specs.Formulas.Formula.{Cnf, variable_occurs}
use Rattle.lk_model.specs.Held.VariableSets.{is_in}
use Rattle.lk_model.specs.declared.document.Without.{Without}
use Rattle.lk_model.proofs.VariableLists.{none_in}
use Rattle.mus_core.specs.WitnessValues.{AreLines}
use Rattle.mus_core.proofs.ToldCores.{lines_more}
use Rattle.mus_core.proofs.told_core.lines.Goals as goal

pub loop-p-preserved : goal.loop-p-preserved
loop-p-preserved c =
    let core = c.args.core.now in
    let on = is_in c.add_clauses.new.self in
    let i = c.loop-p.p-index in
    subst (λ (lines : List Without). AreLines core on c.args.witnesses.now (take (i + 1) c.args.places.now) lines) (sym c.in_ok-push.ensures.ok)
    (lines_more core on c.args.witnesses.now c.args.places.now c.loop-p.lines i (get_or c.args.places.now i 0) c.in_ok-line.field-0 c.loop-p-test.true refl c.in_ok-line.ensures c.loop-p.invariant)

pub returns : goal.returns
returns c =
    let core = c.args.core.now in
    let places = c.args.places.now in
    let G = core.clauses in
    let vars = c.add_clauses.new.self in
    let same : (v : ℕ) → is_in vars v ≡ variable_occurs G places v =
    λ v. c.add_clauses.ensures.vars v
    ∙ ap (λ (H : Cnf). is_in c.in_ok-vars.vars v || variable_occurs H places v) c.clauses-2.ensures.clauses
    ∙ ap (λ (b : Bool). b || variable_occurs G places v)
    (ap (λ (s : List Bool). is_in s v) c.in_ok-vars.ensures ∙ none_in c.vars.result v) in
    subst (λ (on : Variables). AreLines core on c.args.witnesses.now places c.loop-p.lines) (λ j v. same v j)
    (subst (λ (ps : List ℕ). AreLines core (is_in vars) c.args.witnesses.now ps c.loop-p.lines) (take_all c.loop-p.p-index places (omega arith)) c.loop-p.invariant)
