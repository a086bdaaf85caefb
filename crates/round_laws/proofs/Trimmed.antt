-- By new numbers no step becomes needless.
use Rattle.std.proofs.Common.{◌≡◌, ℕ, true, ◌&&◌, ◌==◌, List, [], ◌∷◌, refl, ◌∙◌, ap, map, length}
use Rattle.std.specs.List.{list_all}
use Rattle.std.proofs.lemmas.Bool.{and_from}
use Rattle.std.proofs.lemmas.List.Folds.{list_all-append}
use Rattle.lk_model.specs.Lists.{among}
use Rattle.lk_model.specs.Formulas.Formula.{Cnf}
use Rattle.lk_model.specs.Chains.Rounds.{reached, is_trimmed}
use Rattle.lk_model.specs.Documents.Documents.{steps_of}
use Rattle.lk_model.specs.declared.document.Step.{Step}
use Rattle.lk_model.specs.declared.document.Round.{Round}
use Rattle.lk_model.specs.declared.result.GeneralResult.{GeneralResult}
use Rattle.general_laws.specs.JoinLaw.{renumbered, renumbered_round, moved, joined}
use Rattle.general_laws.specs.GeneralResults.{all_joined}
use Rattle.general_laws.proofs.JoinLaws.{move}
use Rattle.general_laws.proofs.Renumbering.{among_renumbered, reached_renumbered}
use Rattle.round_laws.specs.Budgets.{AreFinished}

-- steps stand in a list of numbers where they do so by new ones
steps_among : (f : ℕ → ℕ) → ((a b : ℕ) → (f a == f b) ≡ (a == b)) → (ks : List ℕ) (steps : List Step)
    → list_all (λ (s : Step). among (map f ks) s.number) (map (renumbered f) steps) ≡ list_all (λ (s : Step). among ks s.number) steps
steps_among f same ks [] = refl
steps_among f same ks (s ∷ steps) = λ i. among_renumbered f same ks s.number i && steps_among f same ks steps i

-- so a round is as trimmed as before
trimmed_renumbered : (f : ℕ → ℕ) → ((a b : ℕ) → (f a == f b) ≡ (a == b)) → (r : Round)
    → is_trimmed (renumbered_round f r) ≡ is_trimmed r
trimmed_renumbered f same r =
    ap (λ (ks : List ℕ). list_all (λ (s : Step). among ks s.number) (map (renumbered f) r.steps)) (reached_renumbered f same r.steps)
    ∙ steps_among f same (reached r.steps) r.steps

-- and so are all
pub all_renumbered : (f : ℕ → ℕ) → ((a b : ℕ) → (f a == f b) ≡ (a == b)) → (rounds : List Round)
    → list_all is_trimmed (map (renumbered_round f) rounds) ≡ list_all is_trimmed rounds
all_renumbered f same [] = refl
all_renumbered f same (r ∷ rounds) = λ i. trimmed_renumbered f same r i && all_renumbered f same rounds i

-- rounds that are trimmed, with those of trimmed results after them
pub all_trimmed : (F : Cnf) (conflicts : ℕ) (rs : List Round) (parts : List (List ℕ)) (found : List GeneralResult)
    → list_all is_trimmed rs ≡ true
    → AreFinished F conflicts parts found → list_all is_trimmed (all_joined F rs found) ≡ true
all_trimmed F conflicts rs [] [] h done = h
all_trimmed F conflicts rs [] (r ∷ found) h done = absurd done
all_trimmed F conflicts rs (ps ∷ parts) [] h done = absurd done
all_trimmed F conflicts rs (ps ∷ parts) (r ∷ found) h done =
    let f = moved (length F.clauses) (length (steps_of rs)) in
    let new = move (length F.clauses) (length (steps_of rs)) in
    all_trimmed F conflicts (joined F rs r.rounds) parts found
    (list_all-append is_trimmed rs (map (renumbered_round f) r.rounds) ∙ and_from _ _ h (all_renumbered f new.same r.rounds ∙ done.0.needed.trimmed)) done.1
