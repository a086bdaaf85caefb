-- What the answers on all parts show.
use Rattle.std.proofs.Common.{◌≡◌, ℕ, zero, suc, ◌<◌, List, [], ◌∷◌, ◌++◌, length, get_or, refl, ap, subst, arith}
use Rattle.std.specs.List.{AllByRecursion}
use Rattle.lk_model.specs.Formulas.Formula.{Cnf}
use Rattle.lk_model.specs.Formulas.Parts.{IsPart, AreParts}
use Rattle.lk_model.specs.declared.document.Round.{Round}
use Rattle.lk_model.specs.declared.result.GeneralResult.{GeneralResult}
use Rattle.general_laws.specs.GeneralResults.{AreGeneralResults, AreJoined}
use Rattle.general_laws.proofs.PartLaws.{part_law}
use Rattle.round_laws.specs.Budgets.{IsFinished, AreFinished}
use Rattle.round_laws.proofs.RoundLaws.{round_law}
use Rattle.autarky_compose.specs.JoinedGeneral.{AreJoined as AreJoinedOver}
use Rattle.autarky_compose.proofs.GeneralLaws.{joined_general_law, joined_in}
use Rattle.general_laws.specs.Found.{IsDone, IsFound, IsUnfinished}
use Rattle.lk_model.specs.declared.result.General.{General}
use Rattle.lk_model.specs.declared.result.General.TheVariants.{Done, Unfinished}
use Rattle.part_kernels.specs.ByParts.{AreFound, done, IsFirstOf, CanBeDone, IsFoundWhole, IsFirstUnfinished, IsFoundByParts}
use Rattle.lk_model.proofs.Rising.{part_rises as rising}

-- no rounds
abbrev pub nothing : General
nothing = Unfinished []

-- answers that each are one for the part at their place
pub found_from : (F : Cnf) (conflicts : ℕ) (parts : List (List ℕ)) (answers : List General)
    → length answers ≡ length parts
    → ((k : ℕ) → k < length parts → IsFound F (get_or parts k []) conflicts (get_or answers k nothing))
    → AreFound F conflicts parts answers
found_from F conflicts [] [] e each = tt
found_from F conflicts [] (a ∷ answers) e each = absurd (omega (arith, e))
found_from F conflicts (part ∷ parts) [] e each = absurd (omega (arith, e))
found_from F conflicts (part ∷ parts) (a ∷ answers) e each =
    (each zero (omega arith), found_from F conflicts parts answers (omega (arith, e)) (λ k lt. each (suc k) (omega (arith, lt))))

-- KERNELS OF ALL PARTS

-- a part is finished by its kernel
pub finished : (F : Cnf) (conflicts : ℕ) (part : List ℕ) (r : GeneralResult) → IsDone F part conflicts r
    → IsFinished F conflicts part r
finished F conflicts part r h = record { result = h.result; needed = h.needed; most = h.most }

-- all parts are where all answers are kernels
all_finished : (F : Cnf) (conflicts : ℕ) (parts : List (List ℕ)) (found : List GeneralResult)
    → AreFound F conflicts parts (done found) → AreFinished F conflicts parts found
all_finished F conflicts [] [] all = tt
all_finished F conflicts [] (r ∷ found) all = absurd all
all_finished F conflicts (part ∷ parts) [] all = absurd all
all_finished F conflicts (part ∷ parts) (r ∷ found) all =
    (finished F conflicts part r all.0, all_finished F conflicts parts found all.1)

-- so they have general results
pub results : (F : Cnf) (conflicts : ℕ) (parts : List (List ℕ)) (found : List GeneralResult)
    → AreFound F conflicts parts (done found) → AreGeneralResults F parts found
results F conflicts parts found all = round_law.results F conflicts parts found (all_finished F conflicts parts found all)

-- and the kernels, joined, are that of the whole formula
whole : (F : Cnf) (conflicts : ℕ) (parts : List (List ℕ)) (found : List GeneralResult) (t : GeneralResult)
    → AreParts F parts → AreFound F conflicts parts (done found)
    → AreJoinedOver (length F.clauses) found t → AreJoined F found t → IsFoundWhole F conflicts t
whole F conflicts parts found t are each over joined =
    let are_finished = all_finished F conflicts parts found each in
    record {
      result = joined_general_law.whole F parts found t are (results F conflicts parts found each) over;
      needed = round_law.needed F conflicts parts found t are are_finished joined.rounds;
      budget = round_law.budget F conflicts parts found t are are_finished joined.rounds;
    }

pub found_whole : (F : Cnf) (conflicts : ℕ) (parts : List (List ℕ)) (answers : List General)
    (found : List GeneralResult) (t : GeneralResult)
    → AreParts F parts
    → AreFound F conflicts parts answers → answers ≡ done found → AreJoinedOver (length F.clauses) found t
    → IsFoundByParts F conflicts (Done t)
found_whole F conflicts parts answers found t are each all over =
    let kernels : AreFound F conflicts parts (done found) = subst (λ (given : List General). AreFound F conflicts parts given) all each in
    let joined : AreJoined F found t = joined_in F parts found t (results F conflicts parts found kernels) over in
    record {
      parts = parts;
      answers = answers;
      are_parts = are;
      each = each;
      made = record { found = found; all = all; joined = joined };
      shows = whole F conflicts parts found t are kernels over joined;
    }

-- THE FIRST PART THAT IS NOT FINISHED

-- a part that is not finished, after parts whose kernels are found
record Split (F : Cnf) (conflicts : ℕ) (parts : List (List ℕ)) (rounds : List Round) : Type 0 where
  pub before : List (List ℕ)
  pub part : List ℕ
  pub after : List (List ℕ)
  pub is : parts ≡ before ++ part ∷ after
  pub done : AllByRecursion (CanBeDone F conflicts) before
  pub unfinished : IsUnfinished F part conflicts rounds

split : (F : Cnf) (conflicts : ℕ) (parts : List (List ℕ)) (found : List GeneralResult) (rounds : List Round)
    (more : List General)
    → AreFound F conflicts parts (done found ++ Unfinished rounds ∷ more) → Split F conflicts parts rounds
split F conflicts [] [] rounds more all = absurd all
split F conflicts [] (r ∷ found) rounds more all = absurd all
split F conflicts (part ∷ parts) [] rounds more all = record {
  before = [];
  part = part;
  after = parts;
  is = refl;
  done = tt;
  unfinished = all.0;
}
split F conflicts (part ∷ parts) (r ∷ found) rounds more all =
    let s = split F conflicts parts found rounds more all.1 in
    record {
      before = part ∷ s.before;
      part = s.part;
      after = s.after;
      is = ap (λ (ps : List (List ℕ)). part ∷ ps) s.is;
      done = ((r, all.0), s.done);
      unfinished = s.unfinished;
    }

part_in : (F : Cnf) (before : List (List ℕ)) (part : List ℕ) (after : List (List ℕ))
    → AllByRecursion (IsPart F) (before ++ part ∷ after) → IsPart F part
part_in F [] part after all = all.0
part_in F (p ∷ before) part after all = part_in F before part after all.1

pub first_unfinished : (F : Cnf) (conflicts : ℕ) (parts : List (List ℕ)) (answers : List General) (rounds : List Round)
    → AreParts F parts
    → AreFound F conflicts parts answers → IsFirstOf answers rounds → IsFirstUnfinished F conflicts rounds
first_unfinished F conflicts parts answers rounds are all first =
    let given = subst (λ (given : List General). AreFound F conflicts parts given) first.all all in
    let s = split F conflicts parts first.before rounds first.after given in
    let whole : AreParts F (s.before ++ s.part ∷ s.after) = subst (λ (ps : List (List ℕ)). AreParts F ps) s.is are in
    let is_part = part_in F s.before s.part s.after whole.each in
    record {
      before = s.before;
      part = s.part;
      after = s.after;
      parts = whole;
      done = s.done;
      is_part = is_part;
      positions = rising F s.part is_part;
      apart = part_law.apart F s.part is_part;
      unfinished = s.unfinished;
    }

pub found_first : (F : Cnf) (conflicts : ℕ) (parts : List (List ℕ)) (answers : List General) (rounds : List Round)
    → AreParts F parts
    → AreFound F conflicts parts answers → IsFirstOf answers rounds → IsFoundByParts F conflicts (Unfinished rounds)
found_first F conflicts parts answers rounds are all first = record {
  parts = parts;
  answers = answers;
  are_parts = are;
  each = all;
  made = first;
  shows = first_unfinished F conflicts parts answers rounds are all first;
}
