-- Rounds of results, one after another.
use Rattle.std.proofs.Common.{◌≡◌, ℕ, ◌+◌, ◌-◌, nat_le, ℤ, List, [], ◌∷◌, ◌++◌, ◌∙◌, inl, inr, length, length-append, map, refl, sym, ap, arith}
use Rattle.std.specs.Prelude.{sum_by}
use Rattle.std.proofs.lemmas.Bool.{cases_Bool, leb-false, cond-true, cond-false}
use Rattle.std.proofs.lemmas.List.{length-map}
use Rattle.std.proofs.lemmas.List.Sums.{sum_by-cons}
use Rattle.lk_model.specs.Formulas.Formula.{Cnf}
use Rattle.lk_model.specs.Documents.Documents.{steps_of}
use Rattle.lk_model.specs.declared.document.Step.{Step}
use Rattle.lk_model.specs.declared.document.Round.{Round}
use Rattle.lk_model.specs.declared.result.GeneralResult.{GeneralResult}
use Rattle.lk_model.proofs.Literals.{literal_again}
use Rattle.renaming_laws.specs.Renaming.{named, number_after, turn_under, step_under, round_under}
use Rattle.general_laws.specs.JoinLaw.{joined, moved, renumbered, renumbered_round, renumbered_turn}
use Rattle.general_laws.specs.GeneralResults.{all_joined}
use Rattle.general_laws.proofs.JoinLaws.{steps_joined}
use Rattle.autarky_compose.specs.JoinedGeneral.{rounds_behind}

-- NUMBERS MOVED UP, AS A RENAMING

-- without new positions a renaming of steps moves them up
moved_up : (m up k : ℕ) → number_after m (m + up) [] k ≡ moved m up k
moved_up m up k = elim (cases_Bool (nat_le k m)) [
  | inl le ↦ cond-true (nat_le k m) _ _ le ∙ sym (cond-true (nat_le k m) _ _ le)
  | inr gt ↦
      (let past = leb-false k m gt in
      let same : k - m + (m + up) ≡ k + up = omega (arith, past) in
      cond-false (nat_le k m) _ _ gt ∙ same ∙ sym (cond-false (nat_le k m) _ _ gt))
]

-- and without new variables literals stay
same_literals : (c : List ℤ) → map (named []) c ≡ c
same_literals [] = refl
same_literals (l ∷ c) = λ j. literal_again l j ∷ same_literals c j

pub round_moved : (m up : ℕ) (r : Round) → round_under (named []) (number_after m (m + up) []) r ≡ renumbered_round (moved m up) r
round_moved m up r = λ j. record { steps = map (step j) r.steps }
  where
    turn : turn_under (named []) (number_after m (m + up) []) ≡ renumbered_turn (moved m up)
    turn = λ j t. record { lit = literal_again t.lit j; with = moved_up m up t.with j }

    step : step_under (named []) (number_after m (m + up) []) ≡ renumbered (moved m up)
    step = λ j s. record {
      number = moved_up m up s.number j;
      clause = same_literals s.clause j;
      first = moved_up m up s.first j;
      turns = map (turn j) s.turns;
    }

-- ROUNDS OF ALL RESULTS

-- one result more
pub rounds_more : (m : ℕ) (rounds : List Round) (found : List GeneralResult) (r : GeneralResult) (before : List Round) → before ≡ rounds_behind m rounds found
    → before ++ map (renumbered_round (moved m (length (steps_of before)))) r.rounds ≡ rounds_behind m rounds (found ++ r ∷ [])
rounds_more m rounds [] r before e = ap (λ (rs : List Round). rs ++ map (renumbered_round (moved m (length (steps_of rs)))) r.rounds) e
rounds_more m rounds (s ∷ found) r before e =
    rounds_more m (rounds ++ map (renumbered_round (moved m (length (steps_of rounds)))) s.rounds) found r before e

-- how many steps there are then
pub count_more : (f : ℕ → ℕ) (rounds more : List Round) → length (steps_of (rounds ++ map (renumbered_round f) more)) ≡ length (steps_of rounds) + length (steps_of more)
count_more f rounds more =
    ap (λ (us : List Step). length us) (steps_joined (record { vars = 0; clauses = [] }) f rounds more)
    ∙ (length-append (steps_of rounds) (map (renumbered f) (steps_of more)) ∙ ap (λ (n : ℕ). length (steps_of rounds) + n) (length-map (steps_of more) (renumbered f)))

-- how many there are of all results
pub count_all : (m : ℕ) (rounds : List Round) (found : List GeneralResult)
    → length (steps_of (rounds_behind m rounds found)) ≡ length (steps_of rounds) + sum_by (λ (r : GeneralResult). length (steps_of r.rounds)) found
count_all m rounds [] = omega arith
count_all m rounds (r ∷ found) =
    let later = count_all m (rounds ++ map (renumbered_round (moved m (length (steps_of rounds)))) r.rounds) found in
    let here = count_more (moved m (length (steps_of rounds))) rounds r.rounds in
    let sum = sum_by-cons (λ (s : GeneralResult). length (steps_of s.rounds)) r found in
    omega (arith, later, here, sum)

-- over the clauses of a formula
pub behind_joined : (F : Cnf) (rounds : List Round) (found : List GeneralResult) → rounds_behind (length F.clauses) rounds found ≡ all_joined F rounds found
behind_joined F rounds [] = refl
behind_joined F rounds (r ∷ found) = behind_joined F (joined F rounds r.rounds) found
