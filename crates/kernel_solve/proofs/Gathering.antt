-- What is gathered of answers, one after another.
use Rattle.std.proofs.Common.{◌≡◌, ℕ, ◌∙◌, List, [], ◌∷◌, ◌++◌, length, sym, subst, arith, ℤ, Option, Some, None}
use Rattle.std.specs.Prelude.{unwrap_or}
use Rattle.std.proofs.lemmas.List.{append_assoc, append-nil, map-append}
use Rattle.lk_model.specs.declared.document.Round.{Round}
use Rattle.lk_model.specs.declared.decided.Decided.TheVariants.{Model, Refuted, Stopped}
use Rattle.part_formula.specs.Decisions.{Decision}
use Rattle.kernel_solve.specs.Answers.{AreNotRefuted, IsFirstRefutation, IsFirstStop, IsGatheredSoFar, models}

-- answers of which none is a refutation, and one more
model_behind : (answers : List Decision) (lits : List ℤ) → AreNotRefuted answers → AreNotRefuted (answers ++ Model lits ∷ [])
model_behind [] lits h = tt
model_behind (Model ls ∷ answers) lits h = model_behind answers lits h
model_behind (Stopped r ∷ answers) lits h = model_behind answers lits h
model_behind (Refuted r ∷ answers) lits h = absurd h

stop_behind : (answers : List Decision) (r : Round) → AreNotRefuted answers → AreNotRefuted (answers ++ Stopped r ∷ [])
stop_behind [] r h = tt
stop_behind (Model ls ∷ answers) r h = stop_behind answers r h
stop_behind (Stopped q ∷ answers) r h = stop_behind answers r h
stop_behind (Refuted q ∷ answers) r h = absurd h

-- the first round that stopped is that of one more answer too
first_of_more : (answers : List Decision) (r : Round) (a : Decision) (h : IsFirstStop answers r) → AreNotRefuted (h.behind ++ a ∷ [])
    → IsFirstStop (answers ++ a ∷ []) r
first_of_more answers r a h others = record {
  before = h.before;
  behind = h.behind ++ a ∷ [];
  answers_are = (λ j. h.answers_are j ++ a ∷ []) ∙ append_assoc (models h.before) (Stopped r ∷ h.behind) (a ∷ []);
  others = others;
}

-- one more model
pub model_more : (answers : List Decision) (sets : List (List ℤ)) (stopped : Option Round) (a : Decision) (lits : List ℤ) → a ≡ Model lits
    → IsGatheredSoFar answers sets stopped → IsGatheredSoFar (answers ++ a ∷ []) (sets ++ lits ∷ []) stopped
model_more answers sets None a lits is h = (λ j. h j ++ is j ∷ []) ∙ sym (map-append (λ (ls : List ℤ). answer ls) sets (lits ∷ []))
  where
    answer : List ℤ → Decision
    answer ls = Model ls
model_more answers sets (Some r) a lits is h =
    first_of_more answers r a h (subst (λ (x : Decision). AreNotRefuted (h.behind ++ x ∷ [])) (sym is) (model_behind h.behind lits h.others))

-- one more round that stopped
pub stopped_more : (answers : List Decision) (sets : List (List ℤ)) (stopped : Option Round) (a : Decision) (r : Round) → a ≡ Stopped r
    → IsGatheredSoFar answers sets stopped → IsGatheredSoFar (answers ++ a ∷ []) sets (Some (unwrap_or stopped r))
stopped_more answers sets None a r is h = record { before = sets; behind = []; answers_are = λ j. h j ++ is j ∷ []; others = tt }
stopped_more answers sets (Some q) a r is h =
    first_of_more answers q a h (subst (λ (x : Decision). AreNotRefuted (h.behind ++ x ∷ [])) (sym is) (stop_behind h.behind r h.others))

-- none of what is gathered is a refutation
not_refuted : (answers : List Decision) (sets : List (List ℤ)) (stopped : Option Round) → IsGatheredSoFar answers sets stopped → AreNotRefuted answers
not_refuted answers sets None h = subst AreNotRefuted (sym h) (models_alone sets)
  where
    models_alone : (sets : List (List ℤ)) → AreNotRefuted (models sets)
    models_alone [] = tt
    models_alone (set ∷ sets) = models_alone sets
not_refuted answers sets (Some r) h = subst AreNotRefuted (sym h.answers_are) (with_stop h.before)
  where
    with_stop : (sets : List (List ℤ)) → AreNotRefuted (models sets ++ Stopped r ∷ h.behind)
    with_stop [] = h.others
    with_stop (set ∷ sets) = with_stop sets

-- so a refutation after it is the first one
pub first_refutation : (answers gathered rest : List Decision) (sets : List (List ℤ)) (stopped : Option Round) (a : Decision) (r : Round) → a ≡ Refuted r
    → gathered ++ a ∷ [] ++ rest ≡ answers → IsGatheredSoFar gathered sets stopped → IsFirstRefutation answers r
first_refutation answers gathered rest sets stopped a r is all h = record {
  before = gathered;
  behind = rest;
  answers_are = sym all ∙ append_assoc gathered (a ∷ []) rest ∙ (λ j. gathered ++ is j ∷ rest);
  others = not_refuted gathered sets stopped h;
}

-- THE END

-- all have come where none is left
pub all_come : {X : Type 0} (all yielded rest : List X) (remaining : ℕ) → yielded ++ rest ≡ all → remaining ≡ length rest → remaining ≡ 0 → yielded ≡ all
all_come all yielded [] remaining is long none = sym (append-nil yielded) ∙ is
all_come all yielded (x ∷ rest) remaining is long none = absurd (omega (arith, long, none))

pub first_stop : (answers yielded : List Decision) (sets : List (List ℤ)) (stopped : Option Round) (r : Round) → yielded ≡ answers → stopped ≡ Some r
    → IsGatheredSoFar yielded sets stopped → IsFirstStop answers r
first_stop answers yielded sets stopped r all is h =
    subst (λ (xs : List Decision). IsGatheredSoFar xs sets (Some r)) all (subst (λ (o : Option Round). IsGatheredSoFar yielded sets o) is h)

pub all_models : (answers yielded : List Decision) (sets : List (List ℤ)) (stopped : Option Round) → yielded ≡ answers → stopped ≡ None
    → IsGatheredSoFar yielded sets stopped → answers ≡ models sets
all_models answers yielded sets stopped all is h = sym all ∙ subst (λ (o : Option Round). IsGatheredSoFar yielded sets o) is h
