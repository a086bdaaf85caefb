-- What is decided of parts, told of the formula.
use Rattle.std.proofs.Common.{◌≡◌, ℕ, zero, suc, ◌+◌, ◌<◌, ◌≤◌, List, [], ◌∷◌, ◌++◌, take, length, get_or, refl, sym, ◌∙◌, ap, subst, arith, ℤ, Option, Some, None, Contains, inl, inr}
use Rattle.std.specs.Prelude.{IfSome, unwrap_or}
use Rattle.std.specs.List.{AllByRecursion}
use Rattle.std.proofs.lemmas.List.{append-nil, append_assoc}
use Rattle.lk_model.specs.Lists.{among}
use Rattle.lk_model.specs.Formulas.Assignment.{assignment_of}
use Rattle.lk_model.specs.Formulas.Formula.{Cnf, positions_of}
use Rattle.lk_model.specs.Formulas.Minimal.{IsSatisfiable}
use Rattle.lk_model.specs.Formulas.Parts.{AreParts}
use Rattle.lk_model.specs.declared.document.Round.{Round}
use Rattle.lk_model.specs.declared.result.GeneralResult.{GeneralResult}
use Rattle.general_laws.specs.Found.{IsUnfinished}
use Rattle.general_laws.specs.GeneralResults.{IsGeneralResult, AreGeneralResults}
use Rattle.autarky_compose.specs.JoinedGeneral.{AreJoinable, AreJoined, all_kept, rounds_behind}
use Rattle.autarky_compose.proofs.GeneralLaws.{joined_general_law}
use Rattle.part_copy.specs.Found.{IsPartModel, sets_only}
use Rattle.mus_core.specs.declared.by_parts.Stop.{Stop}
use Rattle.mus_core.specs.declared.mus.Mus.TheVariants.{Unfinished}
use Rattle.mus_core.specs.Found.{IsMus, IsNotRefuted}
use Rattle.mus_core.specs.ByParts.{AreModels, IsFirstStop, IsStop}

-- MODELS

-- one more of them
pub model_more : (F : Cnf) (parts : List (List ℕ)) (found : List GeneralResult) (i : ℕ) (part : List ℕ) (r : GeneralResult) → i < length parts
    → part ≡ get_or parts i part → r ≡ sets_only r.set → IsPartModel F part r.set → AreModels F (take i parts) found
    → AreModels F (take (i + 1) parts) (found ++ r ∷ [])
model_more F parts found i part r lt is only model all =
    subst (λ (n : ℕ). AreModels F (take n parts) (found ++ r ∷ [])) (let next : suc i ≡ i + 1 = omega arith in next) (at parts found i lt is all)
  where
    at : (parts : List (List ℕ)) (found : List GeneralResult) (i : ℕ) → i < length parts → part ≡ get_or parts i part → AreModels F (take i parts) found
        → AreModels F (take (suc i) parts) (found ++ r ∷ [])
    at [] found i lt is all = absurd (omega (arith, lt))
    at (p ∷ ps) [] zero lt is all = (subst (λ (q : List ℕ). IsPartModel F q r.set) is model, only, tt)
    at (p ∷ ps) (s ∷ found) zero lt is all = absurd all
    at (p ∷ ps) [] (suc i) lt is all = absurd all
    at (p ∷ ps) (s ∷ found) (suc i) lt is all = (all.0, all.1, at ps found i (omega (arith, lt)) is all.2)

-- all of a list
pub taken : {X : Type 0} (xs : List X) (i : ℕ) → length xs ≤ i → take i xs ≡ xs
taken [] zero le = refl
taken [] (suc i) le = refl
taken (x ∷ xs) zero le = absurd (omega (arith, le))
taken (x ∷ xs) (suc i) le = let more = taken xs i (omega (arith, le)) in λ j. x ∷ more j

-- they are results that keep nothing and have no round
results : (F : Cnf) (parts : List (List ℕ)) (found : List GeneralResult) → AreModels F parts found → AreGeneralResults F parts found
results F [] [] all = tt
results F [] (r ∷ found) all = absurd all
results F (part ∷ parts) [] all = absurd all
results F (part ∷ parts) (r ∷ found) all = (subst (λ (s : GeneralResult). IsGeneralResult F part s) (sym all.1) all.0, results F parts found all.2)

none_kept : (F : Cnf) (parts : List (List ℕ)) (found : List GeneralResult) → AreModels F parts found → all_kept found ≡ []
none_kept F [] [] all = refl
none_kept F [] (r ∷ found) all = absurd all
none_kept F (part ∷ parts) [] all = absurd all
none_kept F (part ∷ parts) (r ∷ found) all =
    let own : r.kept ≡ [] = ap (λ (s : GeneralResult). s.kept) all.1 in
    let more = none_kept F parts found all.2 in
    λ j. own j ++ more j

no_rounds : (F : Cnf) (m : ℕ) (rounds : List Round) (parts : List (List ℕ)) (found : List GeneralResult) → AreModels F parts found → rounds_behind m rounds found ≡ rounds
no_rounds F m rounds [] [] all = refl
no_rounds F m rounds [] (r ∷ found) all = absurd all
no_rounds F m rounds (part ∷ parts) [] all = absurd all
no_rounds F m rounds (part ∷ parts) (r ∷ found) all =
    ap (λ (s : GeneralResult). rounds_behind m rounds (s ∷ found)) all.1
    ∙ no_rounds F m (rounds ++ []) parts found all.2 ∙ append-nil rounds

pub joinable : (F : Cnf) (parts : List (List ℕ)) (found : List GeneralResult) → AreParts F parts → AreModels F parts found → AreJoinable (length F.clauses) found
joinable F parts found are all = joined_general_law.joinable F parts found are (results F parts found all)

-- nothing is kept of nothing
keeps_none : (m : ℕ) (found : List GeneralResult) (t : GeneralResult) → all_kept found ≡ [] → AreJoined m found t → t.kept ≡ []
keeps_none m found t none j = at t.kept refl
  where
    at : (ps : List ℕ) → t.kept ≡ ps → ps ≡ []
    at [] e = refl
    at (p ∷ ps) e =
        let inside : Contains t.kept p = subst (λ (qs : List ℕ). Contains qs p) (sym e) (zero, omega arith, refl) in
        let from : Contains [] p = subst (λ (qs : List ℕ). Contains qs p) none (j.kept.only p inside) in
        absurd (let lt = from.1 in omega (arith, lt))

-- joined they are a model of the formula
pub whole_model : (F : Cnf) (parts : List (List ℕ)) (found : List GeneralResult) (t : GeneralResult) → AreParts F parts → AreModels F parts found
    → AreJoined (length F.clauses) found t → IsPartModel F (positions_of F) t.set
whole_model F parts found t are all j =
    let kept = keeps_none (length F.clauses) found t (none_kept F parts found all) j in
    let rounds : t.rounds ≡ [] = j.rounds ∙ no_rounds F (length F.clauses) [] parts found all in
    let only : t ≡ sets_only t.set = λ i. record { kept = kept i; set = t.set; rounds = rounds i } in
    subst (λ (s : GeneralResult). IsGeneralResult F (positions_of F) s) only (joined_general_law.whole F parts found t are (results F parts found all) j)

-- THE FIRST SEARCH THAT STOPPED

-- so each of these parts has a model
each_satisfied : (F : Cnf) (parts : List (List ℕ)) (found : List GeneralResult) → AreModels F parts found → AllByRecursion (λ p. IsSatisfiable F (among p)) parts
each_satisfied F [] [] all = tt
each_satisfied F [] (r ∷ found) all = absurd all
each_satisfied F (part ∷ parts) [] all = absurd all
each_satisfied F (part ∷ parts) (r ∷ found) all = ((assignment_of r.set, λ p m. all.0.satisfied p m refl), each_satisfied F parts found all.2)

each_more : {X : Type 0} (P : X → Type 0) (xs : List X) (x : X) → AllByRecursion P xs → P x → AllByRecursion P (xs ++ x ∷ [])
each_more P [] x all here = (here, tt)
each_more P (y ∷ xs) x all here = (all.0, each_more P xs x all.1 here)

-- one part more that is not refuted
behind_more : (F : Cnf) (conflicts : ℕ) (parts : List (List ℕ)) (part : List ℕ) (s : Stop) → IsNotRefuted F conflicts part → IsFirstStop F conflicts parts s
    → IsFirstStop F conflicts (parts ++ part ∷ []) s
behind_more F conflicts parts part s here h = record {
  stop = h.stop;
  before = h.before;
  behind = h.behind ++ part ∷ [];
  are = ap (λ (ps : List (List ℕ)). ps ++ part ∷ []) h.are ∙ append_assoc h.before (s.part ∷ h.behind) (part ∷ []);
  models = h.models;
  others = each_more (IsNotRefuted F conflicts) h.behind part h.others here;
}

pub behind_model : (F : Cnf) (conflicts : ℕ) (parts : List (List ℕ)) (part : List ℕ) (lits : List ℤ) (o : Option Stop) → IsPartModel F part lits
    → IfSome o (IsFirstStop F conflicts parts) → IfSome o (IsFirstStop F conflicts (parts ++ part ∷ []))
behind_model F conflicts parts part lits None model h = tt
behind_model F conflicts parts part lits (Some s) model h = behind_more F conflicts parts part s (inl (assignment_of lits, λ p m. model.satisfied p m refl)) h

pub first_stop : (F : Cnf) (conflicts : ℕ) (parts : List (List ℕ)) (found : List GeneralResult) (o : Option Stop) (second : Stop) → IsStop F conflicts second
    → (o ≡ None → AreModels F parts found) → IfSome o (IsFirstStop F conflicts parts) → IsFirstStop F conflicts (parts ++ second.part ∷ []) (unwrap_or o second)
first_stop F conflicts parts found None second stop models h = record {
  stop = stop;
  before = parts;
  behind = [];
  are = refl;
  models = each_satisfied F parts found (models refl);
  others = tt;
}
first_stop F conflicts parts found (Some s) second stop models h =
    behind_more F conflicts parts second.part s
    (inr (second.open.round, subst (λ (G : Cnf). IsUnfinished G (positions_of G) conflicts (second.open.round ∷ [])) stop.texts_are stop.unfinished)) h

-- of all parts
pub stop_answer : (F : Cnf) (conflicts : ℕ) (parts : List (List ℕ)) (s : Stop) → AreParts F parts → IsFirstStop F conflicts parts s
    → IsMus F conflicts (Unfinished s.part s.open.texts s.open.round)
stop_answer F conflicts parts s are h = record {
  stopped = h.stop;
  why = inr (record {
    before = h.before;
    behind = h.behind;
    parts = subst (AreParts F) h.are are;
    models = h.models;
    others = h.others;
  });
}
