-- Rounds to which one more comes.
use Rattle.std.proofs.Common.{◌≡◌, ℕ, ◌+◌, Bool, true, not, ◌||◌, List, [], ◌∷◌, ◌++◌, refl, sym, ◌∙◌, ap, subst, None, length, map, option_map}
use Rattle.std.specs.List.{list_all}
use Rattle.std.proofs.lemmas.Bool.{and_from}
use Rattle.std.proofs.lemmas.Grind.{flat_map-append}
use Rattle.std.proofs.lemmas.List.{map-append, append-nil, length-map}
use Rattle.std.proofs.lemmas.List.Folds.{list_all-append}
use Rattle.lk_model.specs.Lists.{is_empty}
use Rattle.lk_model.specs.Formulas.Formula.{Cnf}
use Rattle.lk_model.specs.Formulas.Crossed.{Variables}
use Rattle.lk_model.specs.Chains.Rounds.{StepAt, is_refutation, variables_used, blocked_after_round, blocked_after, has_progress}
use Rattle.lk_model.specs.Documents.Documents.{steps_of}
use Rattle.lk_model.specs.Documents.Form.{counts_from, is_step, are_steps, is_whole}
use Rattle.lk_model.specs.Checks.RoundChecks.{bad_step, not_learned}
use Rattle.lk_model.specs.declared.document.Step.{Step}
use Rattle.lk_model.specs.declared.document.Round.{Round}
use Rattle.lk_model.proofs.Booleans.{and_true}
use Rattle.lk_model.proofs.Founds.{option_map-none}
use Rattle.lk_model.proofs.Rounds.{ends_more}
use Rattle.general_laws.specs.CountLaw.{are_stated, are_learned}
use Rattle.general_laws.specs.GrowLaw.{GrowLaw}
use Rattle.general_laws.proofs.Stated.{NoneIn, none_in, find_in}
use Rattle.general_laws.proofs.Reaching.{is_misstated}
use Rattle.general_laws.proofs.Learning.{is_unlearned, none_misstated, none_unlearned}
use Rattle.general_laws.proofs.JoinLaws.{none_joined, blocked_joined, counts_joined}

-- what fails at no step of the rounds and of one more fails at no step of them together
none_more : (t : StepAt → Bool) (F : Cnf) (part : List ℕ) (blocked : Variables) (rounds : List Round) (r : Round) → NoneIn t F part blocked rounds
    → NoneIn t F part (blocked_after F blocked rounds) (r ∷ []) → NoneIn t F part blocked (rounds ++ r ∷ [])
none_more t F part blocked rounds r n h = none_joined t F part blocked rounds (r ∷ []) n h

-- rounds that state their clauses, with one more that does
stated_more : (F : Cnf) (base : Variables) (part : List ℕ) (rounds : List Round) (r : Round) → (bad_step base F part rounds).place ≡ None
    → are_stated F part (blocked_after F base rounds) r.steps ≡ true → (bad_step base F part (rounds ++ r ∷ [])).place ≡ None
unfolding bad_step
stated_more F base part rounds r e s =
    ap (option_map (λ (u : StepAt). u.step.number)) (find_in is_misstated F part base (rounds ++ r ∷ [])
    (none_more is_misstated F part base rounds r (none_in is_misstated F part base rounds (option_map-none _ _ e))
    (none_misstated F part (blocked_after F base rounds) r.steps s, tt)))

-- rounds that learn, with one more that does
learned_more : (F : Cnf) (base : Variables) (part : List ℕ) (rounds : List Round) (r : Round) → (not_learned base F part rounds).place ≡ None
    → are_learned F part (blocked_after F base rounds) r.steps ≡ true → (not_learned base F part (rounds ++ r ∷ [])).place ≡ None
unfolding not_learned
learned_more F base part rounds r e s =
    ap (option_map (λ (u : StepAt). u.step.number)) (find_in is_unlearned F part base (rounds ++ r ∷ [])
    (none_more is_unlearned F part base rounds r (none_in is_unlearned F part base rounds (option_map-none _ _ e))
    (none_unlearned F part (blocked_after F base rounds) r.steps s, tt)))

-- rounds with progress, with one more that has it
progress_more : (F : Cnf) (base : Variables) (rounds : List Round) (r : Round) → has_progress F base rounds ≡ true
    → (not (is_refutation r.steps) || not (is_empty (variables_used F (blocked_after F base rounds) r))) ≡ true → has_progress F base (rounds ++ r ∷ []) ≡ true
unfolding has_progress blocked_after
progress_more F base [] r e h = and_from _ true h refl
progress_more F base (q ∷ rounds) r e h =
    let both = and_true (not (is_refutation q.steps) || not (is_empty (variables_used F base q))) (has_progress F (blocked_after_round F base q) rounds) e in
    and_from _ _ both.0 (progress_more F (blocked_after_round F base q) rounds r both.1 h)

-- what they block together
blocked_more : (F : Cnf) (base : Variables) (rounds : List Round) (r : Round)
    → blocked_after F base (rounds ++ r ∷ []) ≡ blocked_after_round F (blocked_after F base rounds) r
unfolding blocked_after
blocked_more F base rounds r = blocked_joined F base rounds (r ∷ [])

-- steps in form, with more that go on from them
steps_more : (n m : ℕ) (rounds : List Round) (r : Round) → are_steps n m (steps_of rounds) ≡ true
    → counts_from (m + 1 + length (steps_of rounds)) (map (λ (s : Step). s.number) r.steps) ≡ true → list_all (is_step n) r.steps ≡ true
    → are_steps n m (steps_of (rounds ++ r ∷ [])) ≡ true
steps_more n m rounds r e c f =
    let both = and_true (counts_from (m + 1) (map (λ (s : Step). s.number) (steps_of rounds))) (list_all (is_step n) (steps_of rounds)) e in
    let len : length (map (λ (s : Step). s.number) (steps_of rounds)) ≡ length (steps_of rounds) = length-map (steps_of rounds) (λ (s : Step). s.number) in
    let numbers : counts_from (m + 1) (map (λ (s : Step). s.number) (steps_of rounds ++ r.steps)) ≡ true =
    subst (λ (ns : List ℕ). counts_from (m + 1) ns ≡ true) (sym (map-append (λ (s : Step). s.number) (steps_of rounds) r.steps))
    (counts_joined (m + 1) (map (λ (s : Step). s.number) (steps_of rounds)) (map (λ (s : Step). s.number) r.steps) both.0
    (subst (λ (k : ℕ). counts_from (m + 1 + k) (map (λ (s : Step). s.number) r.steps) ≡ true) (sym len) c)) in
    let forms : list_all (is_step n) (steps_of rounds ++ r.steps) ≡ true = list_all-append (is_step n) (steps_of rounds) r.steps ∙ and_from _ _ both.1 f in
    let same : steps_of (rounds ++ r ∷ []) ≡ steps_of rounds ++ r.steps =
    flat_map-append (λ (q : Round). q.steps) rounds (r ∷ []) ∙ ap (λ (us : List Step). steps_of rounds ++ us) (append-nil r.steps) in
    subst (λ (us : List Step). are_steps n m us ≡ true) (sym same) (and_from _ _ numbers forms)

-- whole rounds, with one more
whole_more : (rounds : List Round) (r : Round) → list_all is_whole rounds ≡ true → is_whole r ≡ true → list_all is_whole (rounds ++ r ∷ []) ≡ true
whole_more rounds r e f = list_all-append is_whole rounds (r ∷ []) ∙ and_from _ _ e (and_from _ true f refl)

-- all of it
pub grow_law : GrowLaw
grow_law = record {
  stated = stated_more;
  learned = learned_more;
  progress = progress_more;
  blocked = blocked_more;
  steps = steps_more;
  whole = whole_more;
  ends = ends_more;
}
