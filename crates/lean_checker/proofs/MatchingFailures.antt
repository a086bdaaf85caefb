-- The first failing check of the class matching, and what the form of its body gives.
use Rattle.std.proofs.Common.{◌≡◌, ◌∙◌, ℕ, true, refl, List, [], ◌∷◌, sym, ap, subst, Some, None}
use Rattle.lk_model.specs.Formulas.Formula.{Cnf}
use Rattle.lk_model.specs.Formulas.Crossed.{no_variable}
use Rattle.lk_model.specs.Documents.Form.{is_done_in_form, is_body, are_own, are_rows}
use Rattle.lk_model.specs.Checks.Check.{first_of}
use Rattle.lk_model.specs.Checks.Checks.{class_checks}
use Rattle.lk_model.specs.Checks.MatchingChecks.{bad_owner, bad_row}
use Rattle.lk_model.specs.declared.document.Own.{Own}
use Rattle.lk_model.specs.declared.document.MatchRow.{MatchRow}
use Rattle.lk_model.specs.declared.document.Body.{Body}
use Rattle.lk_model.specs.declared.document.Body.TheVariants.{Matching}
use Rattle.lk_model.specs.declared.document.DoneDocument.{DoneDocument}
use Rattle.lk_model.specs.declared.verdict.Kind.{Kind}
use Rattle.lk_model.specs.declared.verdict.Kind.TheVariants.{BadOwner, BadRow}
use Rattle.lk_model.proofs.Booleans.{and_true}
use Rattle.kernel_laws.proofs.Passed.{in_form}
use Rattle.lean_checker.proofs.FirstFailures.{failure, fails_first, passes_first}

owner_kind : (F : Cnf) (d : DoneDocument) (own : List Own) → (bad_owner F d own).kind ≡ BadOwner
unfolding bad_owner
owner_kind F d own = refl

row_kind : (F : Cnf) (d : DoneDocument) (rows : List MatchRow) → (bad_row no_variable F d rows).kind ≡ BadRow
unfolding bad_row
row_kind F d rows = refl

pub owner_fails_first : (F : Cnf) (d : DoneDocument) (own : List Own) (rows : List MatchRow) (p : ℕ) → Some p ≡ (bad_owner F d own).place → Some (failure BadOwner p) ≡ first_of (class_checks no_variable F d (Matching own rows))
owner_fails_first F d own rows p e = ap (λ (k : Kind). Some (failure k p)) (sym (owner_kind F d own)) ∙ fails_first (bad_owner F d own) (bad_row no_variable F d rows ∷ []) p e

pub row_fails_first : (F : Cnf) (d : DoneDocument) (own : List Own) (rows : List MatchRow) (p : ℕ) → None ≡ (bad_owner F d own).place → Some p ≡ (bad_row no_variable F d rows).place
    → Some (failure BadRow p) ≡ first_of (class_checks no_variable F d (Matching own rows))
row_fails_first F d own rows p a e =
    ap (λ (k : Kind). Some (failure k p)) (sym (row_kind F d rows)) ∙ fails_first (bad_row no_variable F d rows) [] p e
    ∙ passes_first (bad_owner F d own) (bad_row no_variable F d rows ∷ []) a

-- WHAT THE FORM GIVES

-- the parts of a matching body
pub record AreMatchingParts (n m : ℕ) (own : List Own) (rows : List MatchRow) : Type 0 where
  pub owners : are_own n m own ≡ true
  pub rows_are : are_rows n m rows ≡ true

parts_of : (n m : ℕ) (own : List Own) (rows : List MatchRow) → is_body n m (Matching own rows) ≡ true → AreMatchingParts n m own rows
unfolding is_body
parts_of n m own rows form = let both = and_true (are_own n m own) (are_rows n m rows) form in record { owners = both.0; rows_are = both.1 }

pub matching_parts : (d : DoneDocument) (own : List Own) (rows : List MatchRow) → is_done_in_form d ≡ true → d.body ≡ Matching own rows → AreMatchingParts d.vars d.clauses own rows
matching_parts d own rows form is = parts_of d.vars d.clauses own rows (subst (λ (b : Body). is_body d.vars d.clauses b ≡ true) is (in_form d form).body)
