-- Needed rounds, and searches that want more, under other variables and other numbers.
use Rattle.std.proofs.Common.{◌≡◌, ℕ, ◌<◌, not, ◌==◌, ◌⊎◌, List, [], ◌∷◌, ◌++◌, refl, sym, ◌∙◌, ap, subst, ℤ, inl, inr, map, filter}
use Rattle.std.proofs.lemmas.List.{map-append}
use Rattle.lk_model.specs.Lists.{among, is_empty}
use Rattle.lk_model.specs.Formulas.Formula.{Cnf, clause_at}
use Rattle.lk_model.specs.Formulas.Crossed.{Variables, crossed_out}
use Rattle.lk_model.specs.Formulas.Units.{IsUndecided}
use Rattle.lk_model.specs.Chains.Rounds.{reached, blocked_after, is_trimmed, AreNeeded}
use Rattle.lk_model.specs.Chains.Searches.{crossed_clauses_of, searched, WantsMore}
use Rattle.lk_model.specs.declared.document.Step.{Step}
use Rattle.lk_model.specs.declared.document.Round.{Round}
use Rattle.general_laws.proofs.Renumbering.{among_renumbered}
use Rattle.renaming_laws.proofs.Mapped.{all_mapped, filter_mapped, empty_mapped, map_twice}
use Rattle.renaming_laws.proofs.RenamedClauses.{literal_on}
use Rattle.renaming_laws.specs.Renaming.{step_under, round_under}
use Rattle.renaming_laws.proofs.RenamedChains.{IsCopied, Agrees, crossed_copied}
use Rattle.renaming_laws.proofs.RenamedRounds.{reached_renamed, agrees_after, progress_renamed}
use Rattle.renaming_laws.proofs.RenamedAssignments.{undecided_renamed}
use Rattle.renaming_laws.proofs.RenamedSets.{occurs_renamed}

-- NEEDED ROUNDS

-- each step of a new round is reached where each step of the old one is
trimmed_renamed : (g : ℤ → ℤ) (f : ℕ → ℕ) → ((a b : ℕ) → (f a == f b) ≡ (a == b)) → (r : Round)
    → is_trimmed (round_under g f r) ≡ is_trimmed r
trimmed_renamed g f same r =
    all_mapped (step_under g f) (λ (s : Step). among (reached (map (step_under g f) r.steps)) s.number)
    (λ (s : Step). among (reached r.steps) s.number)
    (λ s. ap (λ (ks : List ℕ). among ks (f s.number)) (reached_renamed g f same r.steps)
    ∙ among_renumbered f same (reached r.steps) s.number) r.steps

-- so new rounds are needed where the old ones are
pub needed_renamed : (F G : Cnf) (ν : ℕ → ℕ) (g : ℤ → ℤ) (f : ℕ → ℕ) → IsCopied F G ν g f → (b d : Variables)
    → Agrees ν b d → (rounds : List Round)
    → AreNeeded G b rounds → AreNeeded F d (map (round_under g f) rounds)
needed_renamed F G ν g f new b d agree rounds h = record {
  trimmed = all_mapped (round_under g f) is_trimmed is_trimmed (trimmed_renamed g f new.numbers.same) rounds ∙ h.trimmed;
  progress = progress_renamed F G ν g f new b d agree rounds ∙ h.progress;
}

-- SEARCHES

-- the clauses that a round searches in
crossed_clauses_renamed : (F G : Cnf) (ν : ℕ → ℕ) (g : ℤ → ℤ) (f : ℕ → ℕ) → IsCopied F G ν g f → (b d : Variables)
    → Agrees ν b d → (P : List ℕ)
    → crossed_clauses_of F d (map f P) ≡ map (map g) (crossed_clauses_of G b P)
crossed_clauses_renamed F G ν g f new b d agree P =
    ap (λ (cs : List (List ℤ)). filter (λ c. not (is_empty c)) cs) same
    ∙ filter_mapped (map g) (λ c. not (is_empty c)) (λ c. not (is_empty c)) (λ c. ap not (empty_mapped g c))
    (map (λ p. crossed_out b (clause_at G p)) P)
  where
    same : map (λ p. crossed_out d (clause_at F p)) (map f P) ≡ map (map g) (map (λ p. crossed_out b (clause_at G p)) P)
    same =
        map_twice f (λ p. crossed_out d (clause_at F p)) (λ p. map g (crossed_out b (clause_at G p)))
        (crossed_copied F G ν g f new b d agree) P
        ∙ sym (map_twice (λ p. crossed_out b (clause_at G p)) (map g) (λ p. map g (crossed_out b (clause_at G p)))
        (λ p. refl) P)

searched_renamed : (F G : Cnf) (ν : ℕ → ℕ) (g : ℤ → ℤ) (f : ℕ → ℕ) → IsCopied F G ν g f → (b d : Variables)
    → Agrees ν b d → (P : List ℕ) (r : Round)
    → searched F d (map f P) (round_under g f r) ≡ map (map g) (searched G b P r)
searched_renamed F G ν g f new b d agree P r =
    ap (λ (cs : List (List ℤ)). cs ++ map (λ (s : Step). s.clause) (map (step_under g f) r.steps))
    (crossed_clauses_renamed F G ν g f new b d agree P)
    ∙ ap (λ (cs : List (List ℤ)). map (map g) (crossed_clauses_of G b P) ++ cs) stated
    ∙ sym (map-append (map g) (crossed_clauses_of G b P) (map (λ (s : Step). s.clause) r.steps))
  where
    stated : map (λ (s : Step). s.clause) (map (step_under g f) r.steps) ≡ map (map g) (map (λ (s : Step). s.clause) r.steps)
    stated =
        map_twice (step_under g f) (λ (s : Step). s.clause) (λ (s : Step). map g s.clause) (λ s. refl) r.steps
        ∙ sym (map_twice (λ (s : Step). s.clause) (map g) (λ (s : Step). map g s.clause) (λ s. refl) r.steps)

-- a last round that has no step, or about whose clauses unit propagation decides nothing
last_renamed : (F G : Cnf) (ν f : ℕ → ℕ) → IsCopied F G ν (literal_on ν) f → ((a c : ℕ) → a < c → ν a < ν c)
    → (b d : Variables) → Agrees ν b d → (P : List ℕ) (r : Round)
    → (r.steps ≡ []) ⊎ IsUndecided (searched G b P r)
    → (map (step_under (literal_on ν) f) r.steps ≡ []) ⊎ IsUndecided (searched F d (map f P) (round_under (literal_on ν) f r))
last_renamed F G ν f new rise b d agree P r (inl none) = inl (ap (map (step_under (literal_on ν) f)) none)
last_renamed F G ν f new rise b d agree P r (inr open_search) = inr (
    subst IsUndecided (sym (searched_renamed F G ν (literal_on ν) f new b d agree P r))
    (undecided_renamed ν new.numbers.renames rise (searched G b P r) open_search))

-- so new rounds want more where the old ones do
pub wants_renamed : (F G : Cnf) (ν f : ℕ → ℕ) → IsCopied F G ν (literal_on ν) f → ((a c : ℕ) → a < c → ν a < ν c)
    → (b d : Variables) → Agrees ν b d → (P : List ℕ)
    → (rounds : List Round) → WantsMore G b P rounds
    → WantsMore F d (map f P) (map (round_under (literal_on ν) f) rounds)
wants_renamed F G ν f new rise b d agree P rounds h =
    let g = literal_on ν in
    let blocks = agrees_after F G ν g f new b d agree h.whole in
    record {
      whole = map (round_under g f) h.whole;
      last = round_under g f h.last;
      all = ap (map (round_under g f)) h.all ∙ map-append (round_under g f) h.whole (h.last ∷ []);
      left = ν h.left;
      occurs = occurs_renamed F G ν g f new P h.left ∙ h.occurs;
      unblocked = blocks h.left ∙ h.unblocked;
      undecided = last_renamed F G ν f new rise (blocked_after G b h.whole)
          (blocked_after F d (map (round_under g f) h.whole)) blocks P h.last h.undecided;
    }
