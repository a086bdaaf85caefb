-- What a reduction writes is accepted.
use Rattle.std.proofs.Common.{ℕ, ◌∙◌, List, Option, ap}
use Rattle.lk_model.specs.Formulas.Formula.{Cnf}
use Rattle.lk_model.specs.Reduction.{IsUnfinishedText}
use Rattle.lk_model.specs.Texts.Dimacs.{Spells}
use Rattle.lk_model.specs.declared.document.Document.TheVariants.{Done, Unfinished}
use Rattle.lean_checker.specs.Verdicts.{verdict_by}
use Rattle.lean_checker.specs.declared.verdict.Verdict.TheVariants as verdict
use Rattle.workbench.specs.Agreement.{WrittenIsAccepted, IsUnfinishedFor, StoppedIsUnfinished}

pub written_accepted : WrittenIsAccepted
written_accepted text written class protect pivots r =
    let w = r.writes in
    let s = w.reduces in
    record {
      F = r.formula;
      d = Done w.document;
      spells = r.spells;
      read = record { form = s.accepted.form; text = w.written_is };
      accepted = ap (verdict_by (Done w.document)) s.accepted.checks;
    }

-- an unfinished document of the formula that a text spells
pub unfinished_for : (text written : List ℕ) (F : Cnf) (listed : Option (List ℕ)) (learned : ℕ) → Spells text F → IsUnfinishedText F listed learned written → IsUnfinishedFor text written learned
unfinished_for text written F listed learned spells u = record {
  F = F;
  d = Unfinished u.document;
  spells = spells;
  read = record { form = u.sound.form; text = u.written_is };
  unfinished = ap (verdict_by (Unfinished u.document)) u.sound.checks ∙ ap verdict.Unfinished u.count;
}

pub stopped_unfinished : StoppedIsUnfinished
stopped_unfinished text written protect conflicts r = unfinished_for text written r.formula protect conflicts r.spells r.unfinished
