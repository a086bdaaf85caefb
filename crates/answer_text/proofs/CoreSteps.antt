-- What the next line does to a draft in form.
use Rattle.std.proofs.Common.{◌≡◌, ℕ, ◌<◌, ◌≤◌, ◌∙◌, Bool, true, false, cond, List, [], ◌∷◌, ◌++◌, map, length, refl, sym, ap, subst, arith, Some, append_assoc, length-append, nat_lt}
use Rattle.std.specs.Prelude.{option_and_then, codes, slice_index_or}
use Rattle.std.proofs.lemmas.Bool.{ltb-true, ltb-false}
use Rattle.std.proofs.lemmas.List.{append-nil, map-append, length-map}
use Rattle.std.proofs.lemmas.Option.{cond_some}
use Rattle.lk_model.specs.Formulas.Formula.{Cnf}
use Rattle.lk_model.specs.Texts.Lines.{Word}
use Rattle.lk_model.specs.Texts.PlainText.{literal_words}
use Rattle.lk_model.specs.Documents.CoreText.{is_without, core_line, without_line}
use Rattle.lk_model.specs.declared.document.Without.{Without}
use Rattle.line_text.specs.Fields.{after}
use Rattle.line_text.specs.FieldLists.{rising_from}
use Rattle.line_text.proofs.ListForms.{rising_form}
use Rattle.line_text.proofs.Options.{MapSome, map_some, then_some}
use Rattle.line_text.proofs.Words.{after_form}
use Rattle.round_text.specs.RoundLines.{rounds_lines, rounds_next}
use Rattle.round_text.specs.declared.read_rounds.RoundsPart.{RoundsPart}
use Rattle.round_text.proofs.RoundParts.{IsRoundsStep, rounds_step}
use Rattle.answer_text.proofs.OneRounds.{IsOneRound, one_step}
use Rattle.line_text.specs.SizeLines.{has_sizes, problem_line, is_problem}
use Rattle.formula_text.specs.FormulaLines.{next_clause}
use Rattle.line_text.proofs.SizeForms.{sizes_form, problem_form}
use Rattle.formula_text.proofs.ClauseForms.{clause_step}
use Rattle.answer_text.specs.CoreDrafts.{format_line, size_line, head_lines, lines_before, draft_lines, is_format, next_format, next_sizes, next_positions, with_rounds, next_step, without_within, due_position, next_without, next_problem, next_witness, next_text, next_at, next_draft}
use Rattle.answer_text.specs.declared.core_draft.CoreDraft.{CoreDraft}
use Rattle.answer_text.specs.declared.core_draft.LineDue.{LineDue}
use Rattle.answer_text.specs.declared.core_draft.LineDue.TheVariants.{Format, Sizes, Positions, Steps, Witnesses, Clauses}
use Rattle.answer_text.proofs.CoreLineForms.{format_form, without_form}
use Rattle.answer_text.proofs.CoreDraftForms.{positions, due_at, AreFirst, for_all, Facts, AtSteps, AtWitnesses, AtClauses, early, IsDraftAt}
use Rattle.lk_model.proofs.ListTests.{all_more as tested_more}

-- a next draft is in form, of the same formula, and has one line more
pub record IsStep (d e : CoreDraft) (before : List (List Word)) (words : List Word) : Type 0 where
  pub form : IsDraftAt e.due e
  pub vars : e.vars ≡ d.vars
  pub clauses : e.clauses ≡ d.clauses
  pub lines : draft_lines e ≡ before ++ words ∷ []

-- UP TO THE POSITIONS

format_next : (d e : CoreDraft) (words : List Word) → IsDraftAt Format d → next_format d words ≡ Some e → IsStep d e [] words
format_next d e words is n =
    let next : CoreDraft = record d { due = Sizes } in
    let parts = cond_some (is_format words) next e n in
    subst (λ (x : CoreDraft). IsStep d x [] words) parts.1 (record {
      form = ap (λ (x : CoreDraft). let y : CoreDraft = record x { due = Sizes } in y) is;
      vars = refl;
      clauses = refl;
      lines = ap (λ (l : List Word). l ∷ []) (sym (format_form words parts.0));
    })

sizes_next : (d e : CoreDraft) (words : List Word) → IsDraftAt Sizes d → next_sizes d words ≡ Some e → IsStep d e (lines_before Sizes d) words
sizes_next d e words is n =
    let next : CoreDraft = record d { due = Positions } in
    let parts = cond_some (has_sizes (codes "c") (codes "formula") d.vars d.clauses words) next e n in
    subst (λ (x : CoreDraft). IsStep d x (lines_before Sizes d) words) parts.1 (record {
      form = ap (λ (x : CoreDraft). let y : CoreDraft = record x { due = Positions } in y) is;
      vars = refl;
      clauses = refl;
      lines = ap (λ (l : List Word). format_line ∷ l ∷ []) (sym (sizes_form (codes "c") (codes "formula") d.vars d.clauses words parts.0));
    })

positions_early : (n m : ℕ) (e : CoreDraft) (words : List Word) → next_positions (early Positions n m) words ≡ Some e → IsStep (early Positions n m) e (lines_before Positions (early Positions n m)) words
positions_early n m e words h =
    let d = early Positions n m in
    let put : List ℕ → CoreDraft = λ core. record d { due = Steps; core = core } in
    let found = after (codes "c") (codes "core") words in
    let one = map_some put (option_and_then (rising_from 0 m) found) e h in
    let two = then_some (rising_from 0 m) found one.item one.there in
    let whole = (after_form (codes "c") (codes "core") words two.item two.there).whole in
    let form = rising_form 0 m two.item one.item two.gives in
    let line : words ≡ core_line one.item = whole ∙ ap (λ (ws : List Word). codes "c" ∷ codes "core" ∷ ws) form.0 in
    subst (λ (x : CoreDraft). IsStep d x (lines_before Positions d) words) (sym one.is) (record {
      form = record {
        facts = record {
          core = form.1;
          rounds = record { steps = refl; count = refl; whole = refl; nonempty = refl; shut = λ t. refl };
          literals = refl;
          growing = refl;
          texts_vars = refl;
          texts = record { formula = refl; literals = omega arith; few = omega arith };
        };
        none = refl;
        without = refl;
        clauses = refl;
      };
      vars = refl;
      clauses = refl;
      lines = ap (λ (l : List Word). format_line ∷ size_line n m ∷ l ∷ []) (sym line);
    })

positions_next : (d e : CoreDraft) (words : List Word) → IsDraftAt Positions d → next_positions d words ≡ Some e → IsStep d e (lines_before Positions d) words
positions_next d e words is =
    subst (λ (x : CoreDraft). next_positions x words ≡ Some e → IsStep x e (lines_before Positions x) words) (sym is) (positions_early d.vars d.clauses e words)

-- THE ROUND

steps_next : (d e : CoreDraft) (words : List Word) → d.vars ≤ 1000000 → AtSteps d → next_step d words ≡ Some e → IsStep d e (lines_before Steps d) words
steps_next d e words small h n = subst (λ (x : CoreDraft). IsStep d x (lines_before Steps d) words) (sym one.is) (by_open one.item.is_open refl)
  where
    one : MapSome (with_rounds d) (rounds_next true d.vars d.clauses d.rounds words) e
    one = map_some (with_rounds d) (rounds_next true d.vars d.clauses d.rounds words) e n

    q : RoundsPart
    q = one.item

    step : IsRoundsStep d.vars d.clauses d.rounds q words
    step = rounds_step true d.vars d.clauses d.rounds q words small h.facts.rounds one.there

    only : IsOneRound q
    only = one_step true d.vars d.clauses d.rounds q words h.none one.there

    facts : (s : LineDue) → Facts (record d { due = s; rounds = q })
    facts s = record { core = h.facts.core; rounds = step.form; literals = h.facts.literals; growing = h.facts.growing; texts_vars = h.facts.texts_vars; texts = h.facts.texts }

    by_open : (b : Bool) → q.is_open ≡ b → IsStep d (record d { due = cond b Steps Witnesses; rounds = q }) (lines_before Steps d) words
    by_open true t = record {
      form = record { facts = facts Steps; none = only.first t; without = h.without; clauses = h.clauses };
      vars = refl;
      clauses = refl;
      lines = ap (λ (ls : List (List Word)). head_lines d ++ ls) step.lines;
    }
    by_open false t =
        let round = only.ended t in
        record {
          form = record {
            facts = facts Witnesses;
            round = record { round = round.0; ended = t; is = round.1 };
            first = record { others = d.core; is = sym (ap (λ (ws : List Without). positions ws ++ d.core) h.without) };
            clauses = h.clauses;
          };
          vars = refl;
          clauses = refl;
          lines = ap (λ (ws : List Without). head_lines d ++ rounds_lines q ++ map without_line ws) h.without
              ∙ append-nil (head_lines d ++ rounds_lines q) ∙ ap (λ (ls : List (List Word)). head_lines d ++ ls) step.lines;
        }

-- THE LITERALS FOR EACH POSITION

-- the position that is due, and those after it
record IsDue (core : List ℕ) (ws : List Without) : Type 0 where
  position : ℕ
  others : List ℕ
  is : core ≡ positions ws ++ position ∷ others
  due : slice_index_or core (length ws) 0 ≡ position

is_due : (core : List ℕ) (ws : List Without) → AreFirst core ws → length ws < length core → IsDue core ws
is_due core ws h more = by_others h.others h.is
  where
    by_others : (others : List ℕ) → core ≡ positions ws ++ others → IsDue core ws
    by_others [] e = absurd (omega (arith, more, ap length e, length-append (positions ws) [], length-map ws (λ (w : Without). w.pos)))
    by_others (p ∷ others) e = record { position = p; others = others; is = e; due = ap (λ (ps : List ℕ). slice_index_or ps (length ws) 0) e ∙ due_at ws p others }

without_next : (d e : CoreDraft) (words : List Word) → d.due ≡ Witnesses → AtWitnesses d → length d.without < length d.core → next_without d words ≡ Some e → IsStep d e (lines_before Witnesses d) words
without_next d e words due h more n =
    let put : Without → CoreDraft = λ w. record d { without = d.without ++ w ∷ [] } in
    let found = after (codes "c") (codes "without") words in
    let one = map_some put (option_and_then (without_within d.vars (due_position d)) found) e n in
    let two = then_some (without_within d.vars (due_position d)) found one.item one.there in
    let whole = (after_form (codes "c") (codes "without") words two.item two.there).whole in
    let w = one.item in
    let form = without_form d.vars (due_position d) two.item w two.gives in
    let line : words ≡ without_line w = whole ∙ ap (λ (ws : List Word). codes "c" ∷ codes "without" ∷ ws) form.spelled in
    let at = is_due d.core d.without h.first more in
    let next = put w in
    let facts : Facts next = record {
      core = h.facts.core;
      rounds = h.facts.rounds;
      literals = tested_more (is_without d.vars) d.without w h.facts.literals form.form;
      growing = h.facts.growing;
      texts_vars = h.facts.texts_vars;
      texts = h.facts.texts;
    } in
    let first : AreFirst d.core (d.without ++ w ∷ []) = record {
      others = at.others;
      is = at.is ∙ ap (λ (p : ℕ). positions d.without ++ p ∷ at.others) (sym (form.position ∙ at.due))
          ∙ sym (append_assoc (positions d.without) (w.pos ∷ []) at.others)
          ∙ ap (λ (ps : List ℕ). ps ++ at.others) (sym (map-append (λ (x : Without). x.pos) d.without (w ∷ [])));
    } in
    let front = head_lines d ++ rounds_lines d.rounds in
    let form_at : AtWitnesses next = record { facts = facts; round = record { round = h.round.round; ended = h.round.ended; is = h.round.is }; first = first; clauses = h.clauses } in
    subst (λ (x : CoreDraft). IsStep d x (lines_before Witnesses d) words) (sym one.is) (record {
      form = subst (λ (s : LineDue). IsDraftAt s next) (sym due) form_at;
      vars = refl;
      clauses = refl;
      lines = ap (λ (s : LineDue). lines_before s next) due
          ∙ ap (λ (ls : List (List Word)). front ++ ls) (map-append without_line d.without (w ∷ []))
          ∙ ap (λ (l : List Word). front ++ (map without_line d.without ++ l ∷ [])) (sym line)
          ∙ sym (append_assoc front (map without_line d.without) (words ∷ []));
    })

problem_next : (d e : CoreDraft) (words : List Word) → AtWitnesses d → length d.core ≤ length d.without → next_problem d words ≡ Some e → IsStep d e (lines_before Witnesses d) words
problem_next d e words h few n =
    let next : CoreDraft = record d { due = Clauses } in
    let parts = cond_some (is_problem d.vars (length d.core) words) next e n in
    let line = problem_form d.vars (length d.core) words parts.0 in
    let facts : Facts next = record { core = h.facts.core; rounds = h.facts.rounds; literals = h.facts.literals; growing = h.facts.growing; texts_vars = h.facts.texts_vars; texts = h.facts.texts } in
    subst (λ (x : CoreDraft). IsStep d x (lines_before Witnesses d) words) parts.1 (record {
      form = record { facts = facts; round = record { round = h.round.round; ended = h.round.ended; is = h.round.is }; lines = for_all d.core d.without h.first few };
      vars = refl;
      clauses = refl;
      lines = ap (λ (cs : List (List _)). head_lines d ++ rounds_lines d.rounds ++ map without_line d.without ++ problem_line d.vars (length d.core) ∷ map literal_words cs) h.clauses
          ∙ ap (λ (l : List Word). head_lines d ++ rounds_lines d.rounds ++ map without_line d.without ++ l ∷ []) (sym line);
    })

witness_next : (d e : CoreDraft) (words : List Word) → d.due ≡ Witnesses → AtWitnesses d → next_witness d words ≡ Some e → IsStep d e (lines_before Witnesses d) words
witness_next d e words due h n = by_count (nat_lt (length d.without) (length d.core)) refl n
  where
    by_count : (b : Bool) → nat_lt (length d.without) (length d.core) ≡ b → cond b (next_without d words) (next_problem d words) ≡ Some e → IsStep d e (lines_before Witnesses d) words
    by_count true t f = without_next d e words due h (ltb-true (length d.without) (length d.core) t) f
    by_count false t f = problem_next d e words h (ltb-false (length d.without) (length d.core) t) f

-- THE CLAUSES

text_next : (d e : CoreDraft) (words : List Word) → d.due ≡ Clauses → AtClauses d → next_text d words ≡ Some e → IsStep d e (lines_before Clauses d) words
text_next d e words due h n =
    let put : Cnf → CoreDraft = λ F. record d { texts = F } in
    let one = map_some put (next_clause (length d.core) d.texts words) e n in
    let G = one.item in
    let step = clause_step (length d.core) d.texts G words h.facts.texts one.there in
    let same : G.vars ≡ d.texts.vars = ap (λ (F : Cnf). F.vars) step.is in
    let next = put G in
    let facts : Facts next = record {
      core = h.facts.core;
      rounds = h.facts.rounds;
      literals = h.facts.literals;
      growing = h.facts.growing ∙ (λ i. record { vars = sym same i; literals = [] });
      texts_vars = same ∙ h.facts.texts_vars;
      texts = step.form;
    } in
    let form_at : AtClauses next = record { facts = facts; round = record { round = h.round.round; ended = h.round.ended; is = h.round.is }; lines = h.lines } in
    let problem = problem_line d.vars (length d.core) in
    let before = lines_before Witnesses d in
    subst (λ (x : CoreDraft). IsStep d x (lines_before Clauses d) words) (sym one.is) (record {
      form = subst (λ (s : LineDue). IsDraftAt s next) (sym due) form_at;
      vars = refl;
      clauses = refl;
      lines = ap (λ (s : LineDue). lines_before s next) due
          ∙ ap (λ (F : Cnf). before ++ problem ∷ map literal_words F.clauses) step.is
          ∙ ap (λ (ls : List (List Word)). before ++ problem ∷ ls) (map-append literal_words d.texts.clauses (step.clause ∷ []))
          ∙ ap (λ (l : List Word). before ++ problem ∷ (map literal_words d.texts.clauses ++ l ∷ [])) (sym step.spelled)
          ∙ sym (append_assoc before (problem ∷ map literal_words d.texts.clauses) (words ∷ []));
    })

-- EACH LINE

pub draft_step : (d e : CoreDraft) (words : List Word) → d.vars ≤ 1000000 → IsDraftAt d.due d → next_draft d words ≡ Some e → IsStep d e (draft_lines d) words
draft_step d e words small h n = by_due d.due refl h n
  where
    by_due : (s : LineDue) → d.due ≡ s → IsDraftAt s d → next_at s d words ≡ Some e → IsStep d e (lines_before s d) words
    by_due Format t g f = format_next d e words g f
    by_due Sizes t g f = sizes_next d e words g f
    by_due Positions t g f = positions_next d e words g f
    by_due Steps t g f = steps_next d e words small g f
    by_due Witnesses t g f = witness_next d e words t g f
    by_due Clauses t g f = text_next d e words t g f
