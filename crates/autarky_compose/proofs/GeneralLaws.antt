-- What is found in the parts of a formula is, joined, what is found in all of it.
use Rattle.std.proofs.Common.{◌≡◌, ℕ, ◌+◌, ◌<◌, ◌≤◌, ◌^◌, ◌∙◌, Bool, true, ◌||◌, ◌==◌, List, [], ◌∷◌, length, map, refl, ap, subst, arith, ℤ}
use Rattle.std.specs.Prelude.{sum_by}
use Rattle.std.specs.List.{flat_map, list_any}
use Rattle.std.specs.Ordering.{int_eq}
use Rattle.std.proofs.lemmas.Bool.{lt-ltb, le-leb}
use Rattle.std.proofs.lemmas.List.{map-id}
use Rattle.std.proofs.lemmas.List.Folds.{list_any-append}
use Rattle.lk_model.specs.Lists.{among, rises_within}
use Rattle.lk_model.specs.Formulas.Literal.{variable, contains}
use Rattle.lk_model.specs.Formulas.Formula.{Cnf}
use Rattle.lk_model.specs.Documents.Documents.{steps_of}
use Rattle.lk_model.specs.declared.document.Round.{Round}
use Rattle.lk_model.specs.declared.result.GeneralResult.{GeneralResult}
use Rattle.lk_model.proofs.Booleans.{same_tests}
use Rattle.lk_model.proofs.Keys.{key_found}
use Rattle.lk_model.proofs.Lists.{among_here, among_later}
use Rattle.lk_model.proofs.Rising.{rises}
use Rattle.kernel_laws.proofs.Lists.{among_in as contains_among}
use Rattle.general_laws.specs.GeneralResults.{AreGeneralResults, AreJoined as AreJoinedIn}
use Rattle.general_laws.proofs.GeneralResults.{general_result_law}
use Rattle.autarky_compose.specs.JoinedGeneral.{AreJoined, JoinedGeneralLaw, all_kept, all_set}
use Rattle.autarky_compose.proofs.Orders.{among_contains}
use Rattle.autarky_compose.proofs.GeneralItems.{contains_literal, literal_contains, set_bounds, joinable}
use Rattle.autarky_compose.proofs.JoinedRounds.{behind_joined, count_all}

-- a test that an item of all passes is one that an item of some result passes
any_of_all : {X Y : Type 0} (f : Y → List X) (t : X → Bool) (found : List Y) → list_any t (flat_map f found) ≡ list_any (λ y. list_any t (f y)) found
any_of_all f t [] = refl
any_of_all f t (y ∷ found) = list_any-append t (f y) (flat_map f found) ∙ ap (λ (b : Bool). list_any t (f y) || b) (any_of_all f t found)

-- numbers that rise, none past a bound, rise to it
rises_to_bound : (low high top : ℕ) (ns : List ℕ) → rises_within low high ns ≡ true → ((n : ℕ) → among ns n ≡ true → n ≤ top) → rises_within low top ns ≡ true
rises_to_bound low high top [] h most = refl
rises_to_bound low high top (n ∷ ns) h most =
    let r = rises low high n ns h in
    rw (lt-ltb low n r.above, le-leb n top (most n (among_here n ns)), rises_to_bound n high top ns r.more (λ k e. most k (among_later n k ns e))) refl

kept_same : (m : ℕ) (found : List GeneralResult) (t : GeneralResult) (p : ℕ) → AreJoined m found t
    → among t.kept p ≡ list_any (λ (r : GeneralResult). among r.kept p) found
kept_same m found t p j =
    same_tests (among t.kept p) (among (all_kept found) p) (λ e. contains_among (all_kept found) p (j.kept.only p (among_contains t.kept p e)))
    (λ e. contains_among t.kept p (j.kept.every p (among_contains (all_kept found) p e)))
    ∙ any_of_all (λ (r : GeneralResult). r.kept) (λ k. k == p) found

literals_same : (m : ℕ) (found : List GeneralResult) (t : GeneralResult) (l : ℤ) → AreJoined m found t
    → contains t.set l ≡ list_any (λ (r : GeneralResult). contains r.set l) found
literals_same m found t l j =
    same_tests (contains t.set l) (contains (all_set found) l) (λ e. literal_contains (all_set found) l (j.set.only l (contains_literal t.set l e)))
    (λ e. literal_contains t.set l (j.set.every l (contains_literal (all_set found) l e)))
    ∙ any_of_all (λ (r : GeneralResult). r.set) (int_eq l) found

-- no literal is on a variable past those of the formula
set_rises : (F : Cnf) (parts : List (List ℕ)) (found : List GeneralResult) (t : GeneralResult) → AreGeneralResults F parts found
    → AreJoined (length F.clauses) found t → rises_within 0 F.vars (map variable t.set) ≡ true
set_rises F parts found t all j = rises_to_bound 0 (2 ^ 32) F.vars (map variable t.set) j.set.rising (λ v e.
    let w = key_found variable t.set v e in
    subst (λ (n : ℕ). n ≤ F.vars) w.at (set_bounds F parts found w.value all (j.set.only w.value w.there)).1)

-- joined, as the laws on general results say it
pub joined_in : (F : Cnf) (parts : List (List ℕ)) (found : List GeneralResult) (t : GeneralResult) → AreGeneralResults F parts found
    → AreJoined (length F.clauses) found t → AreJoinedIn F found t
joined_in F parts found t all j = record {
  positions = subst (λ (ps : List ℕ). rises_within 0 (length F.clauses) ps ≡ true) (map-id t.kept) j.kept.rising;
  kept = λ p. kept_same (length F.clauses) found t p j;
  set = set_rises F parts found t all j;
  literals = λ l. literals_same (length F.clauses) found t l j;
  rounds = j.rounds ∙ behind_joined F [] found;
}

-- the steps of all results have numbers of 64 bits
steps_fit : (m : ℕ) (found : List GeneralResult) (t : GeneralResult) → AreJoined m found t
    → m + sum_by (λ (r : GeneralResult). length (steps_of r.rounds)) found < 2 ^ 64
steps_fit m found t j =
    let count = ap (λ (rs : List Round). length (steps_of rs)) j.rounds ∙ count_all m [] found in
    let fits = j.numbers in
    omega (arith, count, fits)

pub joined_general_law : JoinedGeneralLaw
joined_general_law = record {
  joinable = joinable;
  whole = λ F parts found t are all j.
      general_result_law.parts F parts found t are all (joined_in F parts found t all j) (steps_fit (length F.clauses) found t j);
}
