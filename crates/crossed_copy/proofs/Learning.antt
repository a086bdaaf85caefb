-- Steps that learn, one after another.
use Rattle.std.proofs.Common.{◌≡◌, ◌∙◌, ℕ, ◌+◌, ◌<◌, true, false, not, ◌||◌, List, [], ◌∷◌, ◌++◌, ℤ, length, take, get_or, refl, sym, ap, subst}
use Rattle.std.specs.List.{list_all, list_any}
use Rattle.std.proofs.lemmas.Bool.{and_from}
use Rattle.std.proofs.lemmas.List.{take_more}
use Rattle.lk_model.specs.Lists.{is_empty, with_earlier}
use Rattle.lk_model.specs.Formulas.Literal.{is_tautology, is_within}
use Rattle.lk_model.specs.Held.VariableSets.{premises_of}
use Rattle.lk_model.specs.Chains.Chain.{is_learned}
use Rattle.lk_model.specs.declared.crossed.Crossed.{Crossed}
use Rattle.lk_model.specs.declared.document.Step.{Step}
use Rattle.lk_model.proofs.ListTests.{all_more}
use Rattle.std.proofs.lemmas.List.{append-nil, append_assoc}
use Rattle.unit_refutations.specs.Contained.{contains_none}
use Rattle.crossed_copy.specs.Learning.{are_learned}

-- what the tests say
pub learned_by : (over : Crossed) (earlier : List Step) (c : List ℤ) → is_empty c ≡ false → is_tautology c ≡ false
    → list_any (λ (s : Step). is_within s.clause c) earlier ≡ false → contains_none over c ≡ true → is_learned (premises_of over earlier) c ≡ true
unfolding is_learned
learned_by over earlier c filled plain apart none =
    and_from _ _ (and_from _ _ (and_from _ _ (ap not filled) (ap not plain)) none) (ap not apart)

earlier_more : {X : Type 0} (earlier xs : List X) (x : X) → with_earlier earlier (xs ++ x ∷ []) ≡ with_earlier earlier xs ++ (earlier ++ xs, x) ∷ []
earlier_more earlier [] x = rw (append-nil earlier) refl
earlier_more {X} earlier (y ∷ ys) x =
    ap (λ (l : List (List X × X)). (earlier, y) ∷ l) (earlier_more (earlier ++ y ∷ []) ys x
    ∙ ap (λ (e : List X). with_earlier (earlier ++ y ∷ []) ys ++ (e, x) ∷ []) (append_assoc earlier (y ∷ []) ys))

learned_push : (over : Crossed) (steps : List Step) (s : Step) → are_learned over steps ≡ true
    → (is_empty s.clause || is_learned (premises_of over steps) s.clause) ≡ true → are_learned over (steps ++ s ∷ []) ≡ true
learned_push over steps s all one =
    let t = λ (q : List Step × Step). is_empty q.1.clause || is_learned (premises_of over q.0) q.1.clause in
    subst (λ (l : List (List Step × Step)). list_all t l ≡ true) (sym (earlier_more [] steps s))
    (all_more t (with_earlier [] steps) (steps, s) all one)

-- one more of them
pub learned_more : (over : Crossed) (steps : List Step) (i : ℕ) (s : Step) → i < length steps → s ≡ get_or steps i s → are_learned over (take i steps) ≡ true
    → (is_empty s.clause || is_learned (premises_of over (take i steps)) s.clause) ≡ true → are_learned over (take (i + 1) steps) ≡ true
learned_more over steps i s lt e so_far one =
    subst (λ (ss : List Step). are_learned over ss ≡ true) (sym (take_more steps i s lt ∙ ap (λ (u : Step). take i steps ++ u ∷ []) (sym e)))
    (learned_push over (take i steps) s so_far one)
