-- What the general reducer finds in a part of a formula, and the document that states it.
use Rattle.std.specs.Prelude.{◌≡◌, ℕ, ◌+◌, ◌^◌, ◌<◌, ◌||◌, List, [], ◌∷◌, ⊤, sum_by, map, length, IsTrue, ℤ, None}
use Rattle.std.specs.Bool.{IsFalse}
use Rattle.std.specs.List.{list_any}
use Rattle.lk_model.specs.Lists.{among, rises_within}
use Rattle.lk_model.specs.Formulas.Literal.{variable, contains, mentions}
use Rattle.lk_model.specs.Formulas.Formula.{Cnf, is_formula, IsWithinLimits, clause_at, positions_of, variable_occurs}
use Rattle.lk_model.specs.Formulas.Crossed.{no_variable}
use Rattle.lk_model.specs.Formulas.Assignment.{assignment_of, satisfies}
use Rattle.lk_model.specs.Formulas.Autarky.{Within}
use Rattle.lk_model.specs.Formulas.Lean.{are_positions, KernelWithin}
use Rattle.lk_model.specs.Formulas.Parts.{AreParts}
use Rattle.lk_model.specs.Documents.Documents.{steps_of}
use Rattle.lk_model.specs.Documents.Form.{is_done_in_form}
use Rattle.lk_model.specs.Reduction.{Reduces}
use Rattle.lk_model.specs.declared.class.Class.TheVariants as class
use Rattle.lk_model.specs.declared.document.Body.TheVariants.{General}
use Rattle.lk_model.specs.declared.document.Round.{Round}
use Rattle.lk_model.specs.declared.document.DoneDocument.{DoneDocument}
use Rattle.lk_model.specs.declared.result.GeneralResult.{GeneralResult}
use Rattle.lk_model.specs.Formulas.Formula.{clauses_at}
use Rattle.general_laws.specs.JoinLaw.{IsCertified, joined}

-- Some positions of the part are kept, and the rounds show that they are lean. The literals satisfy each other clause of
-- the part; they are on variables of the part that no kept clause has.
pub record IsGeneralResult (F : Cnf) (part : List ℕ) (r : GeneralResult) : Type 0 where
  pub positions : IsTrue (are_positions F r.kept)
  pub within : Within (among r.kept) (among part)
  pub rounds : IsCertified F no_variable r.kept r.rounds
  pub set : IsTrue (rises_within 0 F.vars (map variable r.set))
  pub on_part : (v : ℕ) → IsTrue (mentions r.set v) → IsTrue (variable_occurs F part v)
  pub unkept : (v : ℕ) → IsTrue (mentions r.set v) → IsFalse (variable_occurs F r.kept v)
  pub satisfied : (p : ℕ) → IsTrue (among part p) → IsFalse (among r.kept p) → IsTrue (satisfies (assignment_of r.set) (clause_at F p))

-- the finished document of a result, without protected variables
abbrev pub general_document : Cnf → GeneralResult → DoneDocument
general_document F r = record {
  vars = F.vars;
  clauses = length F.clauses;
  protect = None;
  kept = r.kept;
  set = r.set;
  body = General r.rounds;
  texts = clauses_at F r.kept;
}

-- a result made of two: their positions and literals, ascending, and their rounds one after another
pub record IsJoined (F : Cnf) (r s t : GeneralResult) : Type 0 where
  pub positions : IsTrue (are_positions F t.kept)
  pub kept : (p : ℕ) → among t.kept p ≡ (among r.kept p || among s.kept p)
  pub set : IsTrue (rises_within 0 F.vars (map variable t.set))
  pub literals : (l : ℤ) → contains t.set l ≡ (contains r.set l || contains s.set l)
  pub rounds : t.rounds ≡ joined F r.rounds s.rounds

-- MANY PARTS

-- one result for each of these parts
abbrev pub AreGeneralResults : Cnf → List (List ℕ) → List GeneralResult → Type 0
AreGeneralResults F [] [] = ⊤
AreGeneralResults F (part ∷ parts) (r ∷ found) = IsGeneralResult F part r × AreGeneralResults F parts found
AreGeneralResults F _ _ = ⊥

-- rounds, and those of the results after them, each with the numbers that follow
abbrev pub all_joined : Cnf → List Round → List GeneralResult → List Round
all_joined F rs [] = rs
all_joined F rs (r ∷ found) = all_joined F (joined F rs r.rounds) found

-- a result made of them all
pub record AreJoined (F : Cnf) (found : List GeneralResult) (t : GeneralResult) : Type 0 where
  pub positions : IsTrue (are_positions F t.kept)
  pub kept : (p : ℕ) → among t.kept p ≡ list_any (λ (r : GeneralResult). among r.kept p) found
  pub set : IsTrue (rises_within 0 F.vars (map variable t.set))
  pub literals : (l : ℤ) → contains t.set l ≡ list_any (λ (r : GeneralResult). contains r.set l) found
  pub rounds : t.rounds ≡ all_joined F [] found

-- The document of what the reducer finds in a part is in form, and what is kept is the general kernel of the part. Where
-- the part is the whole formula the document reduces the formula. What is found in two parts with no common variable
-- makes, joined, what is found in both together, and what is found in all parts of a formula makes what is found in all of
-- it. In no positions nothing is found, and the order of a part does not matter.
pub record GeneralResultLaw : Type 0 where
  pub form : (F : Cnf) (part : List ℕ) (r : GeneralResult) → IsTrue (is_formula F) → IsWithinLimits F
      → IsGeneralResult F part r → IsTrue (is_done_in_form (general_document F r))
  pub kernel : (F : Cnf) (part : List ℕ) (r : GeneralResult) → IsTrue (is_formula F) → IsGeneralResult F part r
      → KernelWithin class.General F part r.kept
  pub reduces : (F : Cnf) (pivots : ℕ) (r : GeneralResult) → IsTrue (is_formula F) → IsWithinLimits F → IsGeneralResult F (positions_of F) r
      → Reduces F class.General pivots (general_document F r)
  pub joined : (F : Cnf) (ps qs both : List ℕ) (r s t : GeneralResult) → IsGeneralResult F ps r → IsGeneralResult F qs s → IsJoined F r s t
      → ((p : ℕ) → among both p ≡ (among ps p || among qs p))
      → ((v : ℕ) → IsTrue (variable_occurs F ps v) → IsFalse (variable_occurs F qs v))
      → length F.clauses + length (steps_of r.rounds) + length (steps_of s.rounds) < 2 ^ 64
      → IsGeneralResult F both t
  pub parts : (F : Cnf) (parts : List (List ℕ)) (found : List GeneralResult) (t : GeneralResult) → AreParts F parts
      → AreGeneralResults F parts found → AreJoined F found t
      → length F.clauses + sum_by (λ (r : GeneralResult). length (steps_of r.rounds)) found < 2 ^ 64
      → IsGeneralResult F (positions_of F) t
  pub nothing : (F : Cnf) (r : GeneralResult) → r.kept ≡ [] → r.set ≡ [] → r.rounds ≡ [] → IsGeneralResult F [] r
  pub same : (F : Cnf) (part other : List ℕ) (r : GeneralResult) → ((p : ℕ) → among part p ≡ among other p)
      → IsGeneralResult F part r → IsGeneralResult F other r
