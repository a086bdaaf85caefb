-- What was read of the text of a core is in form.
use Rattle.std.proofs.Common.{◌≡◌, ℕ, ◌≤◌, ◌∙◌, true, false, ◌==◌, List, [], ◌∷◌, ◌++◌, map, length, refl, sym, ap, subst, arith, length-append}
use Rattle.std.specs.Prelude.{slice_index_or}
use Rattle.std.specs.List.{list_all}
use Rattle.std.proofs.lemmas.Bool.{and_from, eq-eqb, eqb-true}
use Rattle.std.proofs.lemmas.List.{append-nil, length-map}
use Rattle.lk_model.specs.Lists.{rises_within}
use Rattle.lk_model.specs.Limits.{max_vars, max_clauses}
use Rattle.lk_model.specs.Documents.CoreText.{is_without, are_for}
use Rattle.lk_model.specs.declared.document.Round.{Round}
use Rattle.lk_model.specs.declared.document.Without.{Without}
use Rattle.lk_model.proofs.Booleans.{and_true}
use Rattle.lk_model.proofs.Rising.{rising_count}
use Rattle.formula_text.proofs.ClauseForms.{AreClauses}
use Rattle.round_text.proofs.RoundParts.{IsRounds}
use Rattle.answer_text.specs.CoreDrafts.{fresh_core, IsReadyDraft}
use Rattle.answer_text.specs.declared.core_draft.CoreDraft.{CoreDraft}
use Rattle.answer_text.specs.declared.core_draft.LineDue.{LineDue}
use Rattle.answer_text.specs.declared.core_draft.LineDue.TheVariants.{Format, Sizes, Positions, Steps, Witnesses, Clauses}

-- POSITIONS AND THEIR LINES

abbrev pub positions : List Without → List ℕ
positions ws = map (λ (w : Without). w.pos) ws

pub due_at : (ws : List Without) (p : ℕ) (others : List ℕ) → slice_index_or (positions ws ++ p ∷ others) (length ws) 0 ≡ p
due_at [] p others = refl
due_at (w ∷ ws) p others = due_at ws p others

pub for_these : (ws : List Without) → are_for (positions ws) ws ≡ true
for_these [] = refl
for_these (w ∷ ws) = and_from _ (are_for (positions ws) ws) (eq-eqb w.pos w.pos refl) (for_these ws)

-- lines that are for the first positions, and the others
pub record AreFirst (core : List ℕ) (ws : List Without) : Type 0 where
  pub others : List ℕ
  pub is : core ≡ positions ws ++ others

pub for_all : (core : List ℕ) (ws : List Without) → AreFirst core ws → length core ≤ length ws → are_for core ws ≡ true
for_all core ws h few = by_others h.others h.is
  where
    by_others : (others : List ℕ) → core ≡ positions ws ++ others → are_for core ws ≡ true
    by_others [] e = ap (λ (ps : List ℕ). are_for ps ws) (e ∙ append-nil (positions ws)) ∙ for_these ws
    by_others (p ∷ others) e =
        absurd (omega (arith, few, ap length e, length-append (positions ws) (p ∷ others), length-map ws (λ (w : Without). w.pos)))

pub are_these : (core : List ℕ) (ws : List Without) → are_for core ws ≡ true → core ≡ positions ws
are_these [] [] e = refl
are_these [] (w ∷ ws) e = absurd (let f : ⊥ = cc in f)
are_these (p ∷ ps) [] e = absurd (let f : ⊥ = cc in f)
are_these (p ∷ ps) (w ∷ ws) e =
    let both = and_true (w.pos == p) (are_for ps ws) e in
    ap (λ (q : ℕ). q ∷ ps) (sym (eqb-true w.pos p both.0)) ∙ ap (λ (qs : List ℕ). w.pos ∷ qs) (are_these ps ws both.1)

-- DRAFTS IN FORM

-- what was read is in form; the clause lines may be too few
pub record Facts (d : CoreDraft) : Type 0 where
  pub core : rises_within 0 d.clauses d.core ≡ true
  pub rounds : IsRounds d.vars d.clauses d.rounds
  pub literals : list_all (is_without d.vars) d.without ≡ true
  pub growing : d.growing ≡ record { vars = d.texts.vars; literals = [] }
  pub texts_vars : d.texts.vars ≡ d.vars
  pub texts : AreClauses (length d.core) d.texts

-- the round has not ended, and nothing after it was read
pub record AtSteps (d : CoreDraft) : Type 0 where
  pub facts : Facts d
  pub none : d.rounds.rounds ≡ []
  pub without : d.without ≡ []
  pub clauses : d.texts.clauses ≡ []

-- the one round that was read has ended
pub record HasRound (d : CoreDraft) : Type 0 where
  pub round : Round
  pub ended : d.rounds.is_open ≡ false
  pub is : d.rounds.rounds ≡ round ∷ []

pub record AtWitnesses (d : CoreDraft) : Type 0 where
  pub facts : Facts d
  pub round : HasRound d
  pub first : AreFirst d.core d.without
  pub clauses : d.texts.clauses ≡ []

pub record AtClauses (d : CoreDraft) : Type 0 where
  pub facts : Facts d
  pub round : HasRound d
  pub lines : are_for d.core d.without ≡ true

-- of which no position was read, at this line
abbrev pub early : LineDue → ℕ → ℕ → CoreDraft
early due n m = record (fresh_core n m) { due = due }

abbrev pub IsDraftAt : LineDue → CoreDraft → Type 0
IsDraftAt Format d = d ≡ early Format d.vars d.clauses
IsDraftAt Sizes d = d ≡ early Sizes d.vars d.clauses
IsDraftAt Positions d = d ≡ early Positions d.vars d.clauses
IsDraftAt Steps d = AtSteps d
IsDraftAt Witnesses d = AtWitnesses d
IsDraftAt Clauses d = AtClauses d

-- a draft in form of a core of a formula of n variables and m clauses
pub record IsDraft (n m : ℕ) (d : CoreDraft) : Type 0 where
  pub vars : d.vars ≡ n
  pub clauses : d.clauses ≡ m
  pub form : IsDraftAt d.due d

-- THE FACTS HOLD AT EACH LINE

pub early_facts : (due : LineDue) (n m : ℕ) → Facts (early due n m)
early_facts due n m = record {
  core = refl;
  rounds = record { steps = refl; count = refl; whole = refl; nonempty = refl; shut = λ e. refl };
  literals = refl;
  growing = refl;
  texts_vars = refl;
  texts = record { formula = refl; literals = omega arith; few = omega arith };
}

pub draft_facts : (d : CoreDraft) → IsDraftAt d.due d → Facts d
draft_facts d h = by_due d.due h
  where
    by_due : (s : LineDue) → IsDraftAt s d → Facts d
    by_due Format g = subst Facts (sym g) (early_facts Format d.vars d.clauses)
    by_due Sizes g = subst Facts (sym g) (early_facts Sizes d.vars d.clauses)
    by_due Positions g = subst Facts (sym g) (early_facts Positions d.vars d.clauses)
    by_due Steps g = g.facts
    by_due Witnesses g = g.facts
    by_due Clauses g = g.facts

pub ready_draft : (n m : ℕ) (d : CoreDraft) → n ≤ max_vars → m ≤ max_clauses → IsDraft n m d → IsReadyDraft d
ready_draft n m d small few h =
    let f = draft_facts d h.form in
    record {
      vars = omega (arith, small, h.vars);
      clauses = omega (arith, few, h.clauses);
      core = omega (arith, few, h.clauses, rising_count 0 d.clauses d.core f.core (omega arith));
      growing = f.growing;
    }
