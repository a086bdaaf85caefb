-- What a core shows whose clauses and literals pass their checks, and that what shows it passes.
use Rattle.std.proofs.Common.{◌≡◌, ◌∙◌, ℕ, ◌<◌, Bool, true, false, not, ◌==◌, List, [], ◌∷◌, length, get_or, map, zip, refl, sym, ap, arith, ℤ, None, inl, inr, ext_get_or}
use Rattle.std.specs.Prelude.{find}
use Rattle.std.specs.Option.{option_map_or}
use Rattle.std.specs.List.{list_all}
use Rattle.std.proofs.lemmas.Bool.{and_from, cases_Bool, eqb-true, ne_eqb, not-false}
use Rattle.std.proofs.lemmas.List.{get_or-map, length-map}
use Rattle.lk_model.specs.Lists.{among, rises_within}
use Rattle.lk_model.specs.Formulas.Literal.{is_same_list}
use Rattle.lk_model.specs.Formulas.Formula.{Cnf, clause_at, clauses_at}
use Rattle.lk_model.specs.Documents.CoreText.{are_for}
use Rattle.lk_model.specs.Checks.CoreChecks.{core_clause_at, core_clause, satisfies_others, without_for, bad_without}
use Rattle.lk_model.specs.declared.document.Without.{Without}
use Rattle.lk_model.specs.declared.document.MusAnswer.{MusAnswer}
use Rattle.lk_model.proofs.Booleans.{and_true, or_true}
use Rattle.lk_model.proofs.Founds.{none_found, same_itself, line_of}
use Rattle.lk_model.proofs.Lists.{among_at, among_here, among_later}
use Rattle.lk_model.proofs.Rising.{rises, bounded, beside}
use Rattle.kernel_laws.proofs.Lines.{none_among}
use Rattle.kernel_laws.proofs.Lists.{same_list}
use Rattle.check_answers.proofs.CoreClauses.{is_changed, core_clause_is}
use Rattle.check_answers.proofs.CoreWitnesses.{is_bad, bad_without_is}

-- THE CLAUSES

pub texts_shown : (F : Cnf) (a : MusAnswer) → rises_within 0 (length F.clauses) a.core ≡ true → length a.texts.clauses ≡ length a.core → (core_clause F a).place ≡ None
    → a.texts.clauses ≡ map (clause_at F) a.core
texts_shown F a up same none =
    let size : length (map (clause_at F) a.core) ≡ length a.core = length-map a.core (clause_at F) in
    ext_get_or [] a.texts.clauses (map (clause_at F) a.core) (same ∙ sym size) (λ i inside.
    let here : i < length a.core = omega (arith, inside, same) in
    let p = get_or a.core i 0 in
    let unchanged = none_among (is_changed F a) a.core p (sym (core_clause_is F a) ∙ none) (among_at a.core i here) in
    sym (beside 0 (length F.clauses) a.core a.texts.clauses i up same here)
    ∙ same_list (core_clause_at a p) (clause_at F p) (not-false (is_same_list (core_clause_at a p) (clause_at F p)) unchanged)
    ∙ sym (get_or-map (clause_at F) a.core i 0 [] here))

pub texts_pass : (F : Cnf) (a : MusAnswer) → a.texts ≡ clauses_at F a.core → (core_clause F a).place ≡ None
texts_pass F a is =
    core_clause_is F a ∙ none_found (is_changed F a) a.core (λ p there.
    let line : core_clause_at a p ≡ clause_at F p =
    ap (λ (T : Cnf). option_map_or (λ (entry : ℕ × List ℤ). entry.1) (find (λ (entry : ℕ × List ℤ). entry.0 == p) (zip a.core T.clauses)) []) is ∙ line_of (clause_at F) [] a.core p there in
    ap not (ap (λ (c : List ℤ). is_same_list c (clause_at F p)) line ∙ same_itself (clause_at F p)))

-- THE LITERALS

-- a line for each position, of which the one that is found passes a test
all_lines : (t : Without → Bool) (low high : ℕ) (core : List ℕ) (ws : List Without) → rises_within low high core ≡ true → are_for core ws ≡ true
    → ((p : ℕ) → among core p ≡ true → option_map_or t (without_for ws p) false ≡ true) → list_all t ws ≡ true
all_lines t low high [] [] up e h = refl
all_lines t low high [] (w ∷ ws) up e h = absurd (let f : ⊥ = cc in f)
all_lines t low high (p ∷ ps) [] up e h = absurd (let f : ⊥ = cc in f)
all_lines t low high (p ∷ ps) (w ∷ ws) up e h =
    let both = and_true (w.pos == p) (are_for ps ws) e in
    let same = eqb-true w.pos p both.0 in
    let r = rises low high p ps up in
    and_from (t w) (list_all t ws) (first p both.0 ∙ h p (among_here p ps))
    (all_lines t p high ps ws r.more both.1 (λ q there.
    let b = bounded p high ps q r.more there in
    let above = b.0 in
    later q (ne_eqb w.pos q (λ f. omega (arith, f, same, above))) ∙ h q (among_later p q ps there)))
  where
    first : (q : ℕ) → (w.pos == q) ≡ true → t w ≡ option_map_or t (without_for (w ∷ ws) q) false
    first q f = rw f refl

    later : (q : ℕ) → (w.pos == q) ≡ false → option_map_or t (without_for ws q) false ≡ option_map_or t (without_for (w ∷ ws) q) false
    later q f = rw f refl

-- lines that pass a test, so that what is found passes it
found_passes : (t : Without → Bool) (core : List ℕ) (ws : List Without) (p : ℕ) → are_for core ws ≡ true → list_all t ws ≡ true → among core p ≡ true → option_map_or t (without_for ws p) false ≡ true
found_passes t [] ws p e all there = absurd (let f : ⊥ = cc in f)
found_passes t (q ∷ ps) [] p e all there = absurd (let f : ⊥ = cc in f)
found_passes t (q ∷ ps) (w ∷ ws) p e all there =
    let both = and_true (w.pos == q) (are_for ps ws) e in
    let same = eqb-true w.pos q both.0 in
    let tests = and_true (t w) (list_all t ws) all in
    elim (cases_Bool (w.pos == p)) [
      | inl y ↦ rw y (tests.0)
      | inr n ↦
          rw n (elim (or_true (q == p) (among ps p) there) [
            | inl here ↦ absurd (let f : true ≡ false = sym here ∙ ap (λ (k : ℕ). k == p) (sym same) ∙ n in let g : ⊥ = cc in g)
            | inr more ↦ found_passes t ps ws p both.1 tests.1 more
          ])
    ]

pub withouts_shown : (F : Cnf) (core : List ℕ) (ws : List Without) → rises_within 0 (length F.clauses) core ≡ true → are_for core ws ≡ true → (bad_without F core ws).place ≡ None
    → list_all (satisfies_others F core) ws ≡ true
withouts_shown F core ws up e none =
    all_lines (satisfies_others F core) 0 (length F.clauses) core ws up e (λ p there.
    not-false (option_map_or (satisfies_others F core) (without_for ws p) false) (none_among (is_bad F core ws) core p (sym (bad_without_is F core ws) ∙ none) there))

pub withouts_pass : (F : Cnf) (core : List ℕ) (ws : List Without) → are_for core ws ≡ true → list_all (satisfies_others F core) ws ≡ true → (bad_without F core ws).place ≡ None
withouts_pass F core ws e all =
    bad_without_is F core ws ∙ none_found (is_bad F core ws) core (λ p there. ap not (found_passes (satisfies_others F core) core ws p e all there))
