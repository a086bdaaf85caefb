-- Rounds of a part that come after those of parts with no common variable block as much as alone.
use Rattle.std.proofs.Common.{◌≡◌, ℕ, ◌≤◌, true, false, not, ◌&&◌, ◌||◌, List, [], ◌∷◌, ◌++◌, refl, sym, ◌∙◌, ap, ◌⊎◌, inl, inr, map, length, subst, arith}
use Rattle.std.proofs.lemmas.Bool.{both_ways, and_from, false_from_ne_true}
use Rattle.lk_model.specs.Lists.{among, is_empty}
use Rattle.lk_model.specs.Formulas.Formula.{Cnf, clause_at, variable_occurs}
use Rattle.lk_model.specs.Formulas.Literal.{variable}
use Rattle.lk_model.specs.Formulas.Crossed.{Variables, no_variable}
use Rattle.lk_model.specs.Chains.Rounds.{reached, is_refutation, variables_used, blocked_after_round, blocked_after, has_progress}
use Rattle.lk_model.specs.Documents.Documents.{steps_of}
use Rattle.lk_model.specs.declared.document.Round.{Round}
use Rattle.lk_model.specs.declared.result.GeneralResult.{GeneralResult}
use Rattle.lk_model.proofs.Booleans.{and_true, or_true, or_left, or_right}
use Rattle.kernel_laws.proofs.Clauses.{from_filtered}
use Rattle.kernel_laws.proofs.Occurrences.{occurs_here, occurs_more}
use Rattle.general_laws.specs.JoinLaw.{renumbered, renumbered_round, moved, joined}
use Rattle.general_laws.specs.GeneralResults.{all_joined}
use Rattle.general_laws.proofs.Numbering.{AreRising, first_rise, rest_rise}
use Rattle.general_laws.proofs.Blocking.{used_at}
use Rattle.general_laws.proofs.Renumbering.{IsRenumbering, among_renumbered, reached_renumbered, refutation_renumbered}
use Rattle.general_laws.proofs.Carrying.{NamesIn, names_first, names_rest, names_of_rounds, reached_in, AgreeOn, variables_carried, agree_after_round}
use Rattle.general_laws.proofs.JoinLaws.{blocked_joined, rising, misstated_none, move}
use Rattle.general_laws.proofs.PartResults.{occurs_in, AreApart}
use Rattle.round_laws.specs.Budgets.{AreFinished}

-- ONE AFTER ANOTHER

-- rounds with progress, with more that have it
pub progress_joined : (F : Cnf) (blocked : Variables) (rs ss : List Round) → has_progress F blocked rs ≡ true
    → has_progress F (blocked_after F blocked rs) ss ≡ true → has_progress F blocked (rs ++ ss) ≡ true
unfolding has_progress blocked_after
progress_joined F blocked [] ss e h = h
progress_joined F blocked (r ∷ rs) ss e h =
    let both = and_true (not (is_refutation r.steps) || not (is_empty (variables_used F blocked r))) (has_progress F (blocked_after_round F blocked r) rs) e in
    and_from _ _ both.0 (progress_joined F (blocked_after_round F blocked r) rs ss both.1 h)

-- BY NEW NUMBERS

-- Rounds that name some positions block as many variables by new numbers, where the two sets of blocked variables agree on
-- those positions.
pub progress_carried : (F : Cnf) (f : ℕ → ℕ) (P : List ℕ) (b c : Variables) (low : ℕ) (rounds : List Round)
    → IsRenumbering (length F.clauses) f → AgreeOn F P b c
    → length F.clauses ≤ low → AreRising low (steps_of rounds) → NamesIn F P (steps_of rounds)
    → has_progress F b rounds ≡ has_progress F c (map (renumbered_round f) rounds)
unfolding has_progress
progress_carried F f P b c low [] new agree past rising names = refl
progress_carried F f P b c low (r ∷ rounds) new agree past rising names =
    let first = first_rise low r.steps (steps_of rounds) rising in
    let here = names_first F P r.steps (steps_of rounds) names in
    let used = variables_carried F f P b c low r new agree past first here in
    let whole = refutation_renumbered f r.steps in
    let rest = progress_carried F f P (blocked_after_round F b r) (blocked_after_round F c (renumbered_round f r)) low rounds new
    (agree_after_round F f P b c low r new agree past first here) past (rest_rise low r.steps (steps_of rounds) rising) (names_rest F P r.steps (steps_of rounds) names) in
    λ i. (not (sym whole i) || not (is_empty (used i))) && rest i

-- a variable that such a round uses is one of the positions
used_own : (F : Cnf) (f : ℕ → ℕ) (P : List ℕ) (c : Variables) (low : ℕ) (r : Round) → IsRenumbering (length F.clauses) f
    → length F.clauses ≤ low
    → AreRising low r.steps → NamesIn F P r.steps → (v : ℕ) → among (variables_used F c (renumbered_round f r)) v ≡ true
    → variable_occurs F P v ≡ true
used_own F f P c low r new past rising names v used =
    let at = used_at F c (renumbered_round f r) v used in
    let inside = reached_in F P r.steps low past rising names at.position (before at.position at.inside.1 at.used) at.inside.1 in
    let held = (from_filtered (λ l. not (c (variable l))) (clause_at F at.position) at.literal at.held).1 in
    subst (λ (w : ℕ). variable_occurs F P w ≡ true) at.on (occurs_here F P at.position at.literal inside held)
  where
    before : (p : ℕ) → p ≤ length F.clauses → among (reached (map (renumbered f) r.steps)) p ≡ true
        → among (reached r.steps) p ≡ true
    before p le m =
        sym (among_renumbered f new.same (reached r.steps) p)
        ∙ ap (λ (ks : List ℕ). among ks (f p)) (sym (reached_renumbered f new.same r.steps))
        ∙ ap (λ (j : ℕ). among (reached (map (renumbered f) r.steps)) j) (new.fixed p le)
        ∙ m

-- so they block no other variable
own_carried : (F : Cnf) (f : ℕ → ℕ) (P : List ℕ) (c : Variables) (low : ℕ) (rounds : List Round)
    → IsRenumbering (length F.clauses) f → length F.clauses ≤ low
    → AreRising low (steps_of rounds) → NamesIn F P (steps_of rounds) → (v : ℕ)
    → blocked_after F c (map (renumbered_round f) rounds) v ≡ true
    → (c v ≡ true) ⊎ (variable_occurs F P v ≡ true)
unfolding blocked_after
own_carried F f P c low [] new past rising names v e = inl e
own_carried F f P c low (r ∷ rounds) new past rising names v e =
    elim (own_carried F f P (blocked_after_round F c (renumbered_round f r)) low rounds new past (rest_rise low r.steps (steps_of rounds) rising)
    (names_rest F P r.steps (steps_of rounds) names) v e) [
      | inr there ↦ inr there
      | inl now ↦ elim (or_true (c v) (is_refutation (map (renumbered f) r.steps) && among (variables_used F c (renumbered_round f r)) v) now) [
        | inl before ↦ inl before
        | inr used ↦
            inr (used_own F f P c low r new past (first_rise low r.steps (steps_of rounds) rising) (names_first F P r.steps (steps_of rounds) names) v
            (and_true (is_refutation (map (renumbered f) r.steps)) _ used).1)
      ]
    ]

-- ALL PARTS

-- Rounds with progress that block no variable of some parts have it with the rounds of these parts after them.
pub all_progress : (F : Cnf) (conflicts : ℕ) (rs : List Round) (parts : List (List ℕ)) (found : List GeneralResult)
    → has_progress F no_variable rs ≡ true
    → ((v : ℕ) → occurs_in F parts v ≡ true → blocked_after F no_variable rs v ≡ false) → AreApart F parts
    → AreFinished F conflicts parts found
    → has_progress F no_variable (all_joined F rs found) ≡ true
all_progress F conflicts rs [] [] h alone apart done = h
all_progress F conflicts rs [] (r ∷ found) h alone apart done = absurd done
all_progress F conflicts rs (ps ∷ parts) [] h alone apart done = absurd done
all_progress F conflicts rs (ps ∷ parts) (r ∷ found) h alone apart done =
    let one = done.0 in
    let m = length F.clauses in
    let f = moved m (length (steps_of rs)) in
    let new = move m (length (steps_of rs)) in
    let numbers = rising F r.rounds one.result.rounds.steps in
    let names = names_of_rounds F r.kept no_variable r.rounds (misstated_none F no_variable r.kept r.rounds one.result.rounds.stated) in
    let inside : (v : ℕ) → variable_occurs F r.kept v ≡ true → variable_occurs F ps v ≡ true = λ v e. occurs_more F r.kept ps v one.result.within e in
    let agree : AgreeOn F r.kept no_variable (blocked_after F no_variable rs) = λ v e. sym (alone v (or_left (variable_occurs F ps v) (occurs_in F parts v) (inside v e))) in
    let behind = sym (progress_carried F f r.kept no_variable (blocked_after F no_variable rs) m r.rounds new agree (omega arith) numbers names) ∙ one.needed.progress in
    all_progress F conflicts (joined F rs r.rounds) parts found (progress_joined F no_variable rs (map (renumbered_round f) r.rounds) h behind)
    (λ v there. false_from_ne_true _ (λ e.
    elim (own_carried F f r.kept (blocked_after F no_variable rs) m r.rounds new (omega arith) numbers names v
    (sym (ap (λ (b : Variables). b v) (blocked_joined F no_variable rs (map (renumbered_round f) r.rounds))) ∙ e)) [
      | inl before ↦ both_ways (blocked_after F no_variable rs v) (alone v (or_right (variable_occurs F ps v) (occurs_in F parts v) there)) before
      | inr own ↦ both_ways (occurs_in F parts v) (apart.0 v (inside v own)) there
    ]))
    apart.1 done.1
