-- Documents, and what the checks say of them.
use Rattle.std.specs.Prelude.{ℕ, List, map, Option, Some}
use Rattle.lk_model.specs.Formulas.Formula.{Cnf}
use Rattle.lk_model.specs.Checks.Checks.{first_failure}
use Rattle.lk_model.specs.declared.document.Document.{Document}
use Rattle.lk_model.specs.declared.verdict.Kind.{Kind}
use Rattle.lk_model.specs.declared.verdict.Why.{Why}

-- a document, and its first failing check, if one fails
abbrev pub Case : Type 0
Case = Document × Option Why

abbrev pub refused : Kind → ℕ → Option Why
refused kind place = Some (record { kind = kind; place = place })

abbrev pub computed : Cnf → List Case → List (Option Why)
computed F cases = map (λ (d, why). first_failure F d) cases

abbrev pub expected : List Case → List (Option Why)
expected cases = map (λ (d, why). why) cases
