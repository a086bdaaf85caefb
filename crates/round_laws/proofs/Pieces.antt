-- Rounds of all parts as pieces, one for each part.
use Rattle.std.proofs.Common.{◌≡◌, ℕ, suc, ◌≤◌, Bool, true, false, not, cond, List, [], ◌∷◌, ◌++◌, refl, sym, ◌∙◌, ap, map, filter, length, subst, append_assoc}
use Rattle.std.specs.List.{flat_map}
use Rattle.std.proofs.lemmas.List.{append-nil}
use Rattle.lk_model.specs.Lists.{among, is_empty}
use Rattle.lk_model.specs.Formulas.Formula.{Cnf}
use Rattle.lk_model.specs.Formulas.Crossed.{no_variable}
use Rattle.lk_model.specs.Formulas.Parts.{AreParts}
use Rattle.lk_model.specs.Chains.Chain.{names_of}
use Rattle.lk_model.specs.Documents.Documents.{steps_of}
use Rattle.lk_model.specs.declared.document.Step.{Step}
use Rattle.lk_model.specs.declared.document.Round.{Round}
use Rattle.lk_model.specs.declared.result.GeneralResult.{GeneralResult}
use Rattle.kernel_laws.proofs.EmptyLaws.{empty_law}
use Rattle.general_laws.specs.JoinLaw.{renumbered, renumbered_round, moved, joined}
use Rattle.general_laws.specs.GeneralResults.{AreGeneralResults, all_joined}
use Rattle.general_laws.proofs.Renumbering.{IsRenumbering, among_renumbered, names_renumbered}
use Rattle.general_laws.proofs.Carrying.{NamesIn, names_more, names_of_rounds}
use Rattle.general_laws.proofs.JoinLaws.{steps_joined, misstated_none, move}
use Rattle.general_laws.proofs.OpenResults.{steps_pass}
use Rattle.round_laws.specs.Budgets.{AreFinished}
use Rattle.lk_model.specs.Chains.Budgets.{AreLearnedWithin, AreWithinBudget}

-- THE PIECES

-- the rounds of each result, with the numbers that follow those before
abbrev pub pieces_of : Cnf → List Round → List GeneralResult → List (List Round)
pieces_of F rs [] = []
pieces_of F rs (r ∷ found) =
    map (renumbered_round (moved (length F.clauses) (length (steps_of rs)))) r.rounds ∷ pieces_of F (joined F rs r.rounds) found

-- one after another they are the joined rounds
all_pieces : (F : Cnf) (rs : List Round) (found : List GeneralResult)
    → all_joined F rs found ≡ rs ++ flat_map (λ piece. piece) (pieces_of F rs found)
all_pieces F rs [] = sym (append-nil rs)
all_pieces F rs (r ∷ found) =
    all_pieces F (joined F rs r.rounds) found
    ∙ append_assoc rs (map (renumbered_round (moved (length F.clauses) (length (steps_of rs)))) r.rounds) (flat_map (λ piece. piece) (pieces_of F (joined F rs r.rounds) found))

-- BY NEW NUMBERS

-- the steps of renumbered rounds
steps_renumbered : (F : Cnf) (f : ℕ → ℕ) (rounds : List Round)
    → steps_of (map (renumbered_round f) rounds) ≡ map (renumbered f) (steps_of rounds)
steps_renumbered F f rounds = steps_joined F f [] rounds

-- as many are learned
learned_renumbered : (f : ℕ → ℕ) (steps : List Step)
    → length (filter (λ (s : Step). not (is_empty s.clause)) (map (renumbered f) steps)) ≡ length (filter (λ (s : Step). not (is_empty s.clause)) steps)
learned_renumbered f [] = refl
learned_renumbered f (s ∷ steps) = at_test (not (is_empty s.clause)) (learned_renumbered f steps)
  where
    at_test : (b : Bool)
        → length (filter (λ (s : Step). not (is_empty s.clause)) (map (renumbered f) steps)) ≡ length (filter (λ (s : Step). not (is_empty s.clause)) steps)
        → length (cond b (renumbered f s ∷ filter (λ (s : Step). not (is_empty s.clause)) (map (renumbered f) steps)) (filter (λ (s : Step). not (is_empty s.clause)) (map (renumbered f) steps)))
        ≡ length (cond b (s ∷ filter (λ (s : Step). not (is_empty s.clause)) steps) (filter (λ (s : Step). not (is_empty s.clause)) steps))
    at_test true e = ap (λ (n : ℕ). suc n) e
    at_test false e = e

-- and the same positions are named
named_renumbered : (F : Cnf) (f : ℕ → ℕ) (P : List ℕ) (steps : List Step) → IsRenumbering (length F.clauses) f → NamesIn F P steps
    → NamesIn F P (map (renumbered f) steps)
named_renumbered F f P [] new n = tt
named_renumbered F f P (s ∷ steps) new n = (
  λ k m le. n.0 k (sym (among_renumbered f new.same (names_of s) k)
      ∙ ap (λ (ks : List ℕ). among ks (f k)) (sym (names_renumbered f s))
      ∙ ap (λ (j : ℕ). among (names_of (renumbered f s)) j) (new.fixed k le)
      ∙ m) le,
  named_renumbered F f P steps new n.1,
)

-- THE BUDGET

-- each piece is within the budget
all_within : (F : Cnf) (conflicts : ℕ) (rs : List Round) (parts : List (List ℕ)) (found : List GeneralResult)
    → AreFinished F conflicts parts found
    → AreLearnedWithin F conflicts parts (pieces_of F rs found)
all_within F conflicts rs [] [] done = tt
all_within F conflicts rs [] (r ∷ found) done = absurd done
all_within F conflicts rs (ps ∷ parts) [] done = absurd done
all_within F conflicts rs (ps ∷ parts) (r ∷ found) done =
    let one = done.0 in
    let f = moved (length F.clauses) (length (steps_of rs)) in
    let new = move (length F.clauses) (length (steps_of rs)) in
    let same = steps_renumbered F f r.rounds in
    let kept = names_of_rounds F r.kept no_variable r.rounds (misstated_none F no_variable r.kept r.rounds one.result.rounds.stated) in
    let names = named_renumbered F f ps (steps_of r.rounds) new (names_more F r.kept ps (steps_of r.rounds) one.result.within kept) in (
      steps_pass F ps (steps_of (map (renumbered_round f) r.rounds)) (subst (λ (us : List Step). NamesIn F ps us) (sym same) names),
      subst (λ (n : ℕ). n ≤ conflicts)
          (sym (ap (λ (us : List Step). length (filter (λ (s : Step). not (is_empty s.clause)) us)) same ∙ learned_renumbered f (steps_of r.rounds))) one.most,
      all_within F conflicts (joined F rs r.rounds) parts found done.1,
    )

-- so the joined rounds are
pub within_budget : (F : Cnf) (conflicts : ℕ) (parts : List (List ℕ)) (found : List GeneralResult) (t : GeneralResult)
    → AreParts F parts
    → AreFinished F conflicts parts found → t.rounds ≡ all_joined F [] found → AreWithinBudget no_variable F conflicts t.rounds
within_budget F conflicts parts found t are done e = record {
  parts = parts;
  pieces = pieces_of F [] found;
  are_parts = (empty_law.parts F parts).1 are;
  all = e ∙ all_pieces F [] found;
  each = all_within F conflicts [] parts found done;
}

-- each part has its result
pub have_results : (F : Cnf) (conflicts : ℕ) (parts : List (List ℕ)) (found : List GeneralResult)
    → AreFinished F conflicts parts found → AreGeneralResults F parts found
have_results F conflicts [] [] done = tt
have_results F conflicts [] (r ∷ found) done = absurd done
have_results F conflicts (ps ∷ parts) [] done = absurd done
have_results F conflicts (ps ∷ parts) (r ∷ found) done = (done.0.result, have_results F conflicts parts found done.1)
