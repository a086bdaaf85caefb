-- A refutation of crossed clauses, found under numbers of its own, is one over the formula.
use Rattle.std.proofs.Common.{◌≡◌, ℕ, zero, suc, ◌+◌, ◌^◌, ◌<◌, ◌≤◌, true, nat_le, List, [], ◌∷◌, ◌++◌, refl, sym, ◌∙◌, ap, subst, ℤ, inl, inr, map, length, arith}
use Rattle.std.specs.List.{list_all}
use Rattle.std.proofs.lemmas.Bool.{cases_Bool, leb-true, leb-false}
use Rattle.std.proofs.lemmas.List.{map-append}
use Rattle.lk_model.specs.Lists.{among, rises_within, with_earlier}
use Rattle.lk_model.specs.Formulas.Formula.{Cnf, clause_at, positions_of}
use Rattle.lk_model.specs.Formulas.Lean.{are_positions}
use Rattle.lk_model.specs.Formulas.Crossed.{Variables, no_variable, crossed_out}
use Rattle.lk_model.specs.Chains.Chain.{names_of, states_its_clause}
use Rattle.lk_model.specs.Chains.Rounds.{reached, used_positions}
use Rattle.lk_model.specs.Documents.Form.{counts_from, is_step, are_steps}
use Rattle.lk_model.specs.declared.document.Step.{Step}
use Rattle.lk_model.proofs.Booleans.{and_true, same_tests}
use Rattle.lk_model.proofs.Clauses.{clause_past}
use Rattle.lk_model.proofs.Founds.{filtered_rise}
use Rattle.lk_model.proofs.Rising.{bounded}
use Rattle.lk_model.proofs.Variables.{in_variables}
use Rattle.general_laws.proofs.Numbering.{premises_in}
use Rattle.general_laws.proofs.Renumbering.{among_renumbered}
use Rattle.renaming_laws.specs.Renaming.{nth, step_under}
use Rattle.renaming_laws.specs.CrossedCopies.{IsCrossedDense, stands_for_filled, IsCrossedRefutation, told_steps, CrossedCopyLaw}
use Rattle.renaming_laws.proofs.Mapped.{all_mapped, empty_mapped}
use Rattle.renaming_laws.proofs.RenamedClauses.{literal_on}
use Rattle.renaming_laws.proofs.RenamedChains.{Translates, AreCrossed, ArePlaced, lower_same, stated_crossed}
use Rattle.renaming_laws.proofs.RenamedForms.{whole_renamed, all_steps_renamed}
use Rattle.renaming_laws.proofs.RenamedRounds.{names_renamed, used_renamed}
use Rattle.renaming_laws.proofs.Told.{told}
use Rattle.renaming_laws.proofs.Copies.{AreNumbers, translates, in_order, part_placed, clause_count, clauses_in}
use Rattle.renaming_laws.proofs.Telling.{kept_told, steps_told}

-- ALL STEPS

-- all steps state their clauses where the old ones do
all_stated : (F G : Cnf) (ν : ℕ → ℕ) (g : ℤ → ℤ) (f : ℕ → ℕ) → Translates F G ν g f → (P Q : List ℕ) → ArePlaced f P Q
    → (b d : Variables) → AreCrossed F G g f b d → (earlier steps : List Step)
    → list_all (λ (before, s). states_its_clause (premises_in F Q d before) s) (with_earlier (map (step_under g f) earlier) (map (step_under g f) steps))
    ≡ list_all (λ (before, s). states_its_clause (premises_in G P b before) s) (with_earlier earlier steps)
all_stated F G ν g f new P Q placed b d crossed earlier [] = refl
all_stated F G ν g f new P Q placed b d crossed earlier (s ∷ steps) =
    rw (
      stated_crossed F G ν g f new P Q placed b d crossed earlier s,
      sym (map-append (step_under g f) earlier (s ∷ [])),
      all_stated F G ν g f new P Q placed b d crossed (earlier ++ s ∷ []) steps,
    ) refl

-- and name no empty crossed clause where the old ones name none
all_filled : (F G : Cnf) (ν : ℕ → ℕ) (g : ℤ → ℤ) (f : ℕ → ℕ) → Translates F G ν g f → (b d : Variables) → AreCrossed F G g f b d → (steps : List Step)
    → list_all (λ (s : Step). list_all (stands_for_filled F d) (names_of s)) (map (step_under g f) steps)
    ≡ list_all (λ (s : Step). list_all (stands_for_filled G b) (names_of s)) steps
all_filled F G ν g f new b d crossed steps =
    all_mapped (step_under g f) (λ (s : Step). list_all (stands_for_filled F d) (names_of s)) (λ (s : Step). list_all (stands_for_filled G b) (names_of s))
    (λ s. ap (list_all (stands_for_filled F d)) (names_renamed g f s) ∙ all_mapped f (stands_for_filled F d) (stands_for_filled G b) at_number (names_of s)) steps
  where
    at_number : (k : ℕ) → stands_for_filled F d (f k) ≡ stands_for_filled G b k
    at_number k = rw (lower_same F G ν g f new k, crossed k, empty_mapped g (crossed_out b (clause_at G k))) refl

-- THE CROSSED COPY

-- a clause stays where no variable is crossed out
nothing_crossed : (c : List ℤ) → crossed_out no_variable c ≡ c
nothing_crossed [] = refl
nothing_crossed (l ∷ c) = ap (λ (ls : List ℤ). l ∷ ls) (nothing_crossed c)

module _ {F G : Cnf} {b : Variables} {ps names : List ℕ} {last : ℕ} (rise : are_positions F ps ≡ true) (dense : IsCrossedDense F b ps names G) (past : length F.clauses ≤ last) where
  are : AreNumbers F G ps names last
  are = record {
    ascend = dense.ascend;
    vars = dense.vars;
    rise = rise;
    count = clause_count G ps names (λ p. crossed_out b (clause_at F p)) dense.clauses;
    past = past;
  }

  -- the crossed clauses stand at the positions
  crossed : AreCrossed F G (literal_on (told names F.vars)) (told ps last) no_variable b
  crossed k =
      clauses_in are {at = λ p. crossed_out b (clause_at F p)}
      (record { formula = dense.formula; clauses = dense.clauses; before = refl; after = λ j lt. ap (crossed_out b) (clause_past F j lt) }) k
      ∙ ap (map (literal_on (told names F.vars))) (sym (nothing_crossed (clause_at G k)))

  -- and no other number stands for one of the part
  placed : (part : List ℕ) → are_positions F part ≡ true → ((p : ℕ) → among ps p ≡ true → among part p ≡ true)
      → ArePlaced (told ps last) (positions_of G) part
  placed part positions within k = same_tests _ _ from_part to_part
    where
      new : Translates F G (told names F.vars) (literal_on (told names F.vars)) (told ps last)
      new = translates are

      above : (j : ℕ) → 0 < told ps last j → 1 ≤ j
      above zero lt = let none = new.none in absurd (omega (arith, none, lt))
      above (suc j) lt = omega arith

      to_part : among (positions_of G) k ≡ true → among part (told ps last k) ≡ true
      to_part e = within (told ps last k)
          (subst (λ (qs : List ℕ). among qs (told ps last k) ≡ true) (part_placed are) (among_renumbered (told ps last) new.same (positions_of G) k ∙ e))

      from_part : among part (told ps last k) ≡ true → among (positions_of G) k ≡ true
      from_part e =
          let bounds = bounded 0 (length F.clauses) part (told ps last k) positions e in
          elim (cases_Bool (nat_le k (length G.clauses))) [
            | inr gt ↦ (let out = new.past k (leb-false k (length G.clauses) gt) in let most = bounds.1 in absurd (omega (arith, out, most)))
            | inl le ↦ in_variables (length G.clauses) k (above k bounds.0, leb-true k (length G.clauses) le)
          ]

  -- the steps in the words of the law
  told_are : (steps : List Step) → are_steps G.vars (length G.clauses) steps ≡ true
      → told_steps last ps names steps ≡ map (step_under (literal_on (told names F.vars)) (told ps last)) steps
  told_are steps form =
      let forms = (and_true (counts_from (length G.clauses + 1) (map (λ (s : Step). s.number) steps)) (list_all (is_step G.vars) steps) form).1 in
      steps_told ps names F.vars last steps (subst (λ (n : ℕ). list_all (is_step n) steps ≡ true) dense.vars forms)

  refuted : (part : List ℕ) (steps : List Step) → are_positions F part ≡ true → ((p : ℕ) → among ps p ≡ true → among part p ≡ true)
      → last + length steps < 2 ^ 64 → IsCrossedRefutation G no_variable (positions_of G) (length G.clauses) steps
      → IsCrossedRefutation F b part last (told_steps last ps names steps)
  refuted part steps positions within fits h =
      let ν = told names F.vars in
      let g = literal_on ν in
      let f = told ps last in
      subst (IsCrossedRefutation F b part last) (sym (told_are steps h.form)) (record {
        form = all_steps_renamed G.vars F.vars (length G.clauses) last ν g f (in_order are) steps fits h.form;
        stated = all_stated F G ν g f (translates are) (positions_of G) part (placed part positions within) no_variable b crossed [] steps ∙ h.stated;
        names = all_filled F G ν g f (translates are) no_variable b crossed steps ∙ h.names;
        whole = whole_renamed g f steps ∙ h.whole;
      })

  used : (steps : List Step) → are_steps G.vars (length G.clauses) steps ≡ true
      → used_positions F (record { steps = told_steps last ps names steps }) ≡ map (nth ps) (used_positions G (record { steps = steps }))
  used steps form =
      ap (λ (us : List Step). used_positions F (record { steps = us })) (told_are steps form)
      ∙ used_renamed F G (told names F.vars) (literal_on (told names F.vars)) (told ps last) (translates are) (record { steps = steps })
      ∙ sym (kept_told ps last (used_positions G (record { steps = steps }))
      (subst (λ (n : ℕ). rises_within 0 n (used_positions G (record { steps = steps })) ≡ true) (sym are.count)
      (filtered_rise (length G.clauses) (among (reached steps)))))

-- all of it
pub crossed_copy_law : CrossedCopyLaw
crossed_copy_law = record {
  refuted = λ F G b part ps names last steps positions rise within dense past fits h. refuted rise dense past part steps positions within fits h;
  used = λ F G b ps names last steps rise dense past form. used rise dense past steps form;
}
