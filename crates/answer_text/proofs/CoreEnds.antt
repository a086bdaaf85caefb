-- Drafts of cores that go on to a core, and those that are one.
use Rattle.std.proofs.Common.{◌≡◌, ℕ, ◌<◌, ◌≤◌, ◌^◌, ◌∙◌, Bool, true, false, cond, ◌==◌, List, [], ◌∷◌, ◌++◌, map, length, refl, sym, ap, subst, arith, Some, None, append_assoc, nat_le}
use Rattle.std.specs.Prelude.{option_map}
use Rattle.std.specs.List.{list_all}
use Rattle.std.proofs.lemmas.Bool.{and_from, eq-eqb, eqb-true, le-leb}
use Rattle.std.proofs.lemmas.List.{append-nil, map-append}
use Rattle.std.proofs.lemmas.List.Folds.{list_all-append}
use Rattle.lk_model.specs.Limits.{max_vars, max_clauses, max_literals}
use Rattle.lk_model.specs.Formulas.Formula.{literal_count}
use Rattle.lk_model.specs.Texts.Lines.{Word}
use Rattle.lk_model.specs.Texts.PlainText.{literal_words}
use Rattle.lk_model.specs.Documents.CoreText.{is_without, are_for, is_core_in_form, core_line, without_line, core_lines}
use Rattle.lk_model.specs.Documents.Form.{are_clause_lines}
use Rattle.lk_model.specs.declared.document.Round.{Round}
use Rattle.lk_model.specs.declared.document.Without.{Without}
use Rattle.lk_model.specs.declared.document.MusAnswer.{MusAnswer}
use Rattle.lk_model.proofs.Booleans.{and_true}
use Rattle.line_text.proofs.DraftReads.{GoesOn, IsWhole}
use Rattle.line_text.proofs.Options.{map_some}
use Rattle.round_text.specs.RoundLines.{rounds_lines}
use Rattle.round_text.proofs.RoundEnds.{shut_rounds, opened_rounds, rounds_opened, rounds_shut, few_steps}
use Rattle.answer_text.proofs.OneRounds.{one_shut, ended_lines, ended_form}
use Rattle.line_text.specs.SizeLines.{problem_line}
use Rattle.formula_text.proofs.ClauseForms.{formula_with, missing, filled}
use Rattle.answer_text.specs.CoreDrafts.{size_line, head_lines, lines_before, draft_lines, last_round, is_at_clauses, has_ended, core_by, finished, is_core_of, core_drafts}
use Rattle.answer_text.specs.declared.core_draft.CoreDraft.{CoreDraft}
use Rattle.answer_text.specs.declared.core_draft.LineDue.{LineDue}
use Rattle.answer_text.specs.declared.core_draft.LineDue.TheVariants.{Format, Sizes, Positions, Steps, Witnesses, Clauses}
use Rattle.answer_text.proofs.CoreDraftForms.{positions, for_these, AtSteps, AtWitnesses, AtClauses, early, early_facts, IsDraftAt, IsDraft}

-- A WHOLE CORE

-- its lines are those that were read
written_lines : (d : CoreDraft) (h : AtClauses d) → length d.texts.clauses ≡ length d.core → core_lines (core_by d h.round.round) ≡ lines_before Clauses d
written_lines d h all =
    let behind = λ (n k : ℕ). problem_line n k ∷ map literal_words d.texts.clauses in
    ap (λ (ls : List (List Word)). head_lines d ++ ls ++ map without_line d.without ++ behind d.texts.vars (length d.texts.clauses)) (ended_lines d.rounds h.round.round h.round.ended h.round.is)
    ∙ ap (λ (n : ℕ). lines_before Witnesses d ++ behind n (length d.texts.clauses)) h.facts.texts_vars
    ∙ ap (λ (k : ℕ). lines_before Witnesses d ++ behind d.vars k) all

-- it is in form
written_form : (n m : ℕ) (d : CoreDraft) (h : AtClauses d) → n ≤ max_vars → m ≤ max_clauses → d.vars ≡ n → d.clauses ≡ m → length d.texts.clauses ≡ length d.core
    → is_core_of n m (core_by d h.round.round) ≡ true
unfolding is_core_in_form are_clause_lines
written_form n m d h small few vars clauses all =
    let f = h.facts in
    let round = ended_form d.vars d.clauses d.rounds h.round.round f.rounds h.round.ended h.round.is in
    let a : (d.vars == n) ≡ true = eq-eqb d.vars n vars in
    let b : (d.clauses == m) ≡ true = eq-eqb d.clauses m clauses in
    let c : nat_le d.vars max_vars ≡ true = le-leb d.vars max_vars (omega (arith, small, vars)) in
    let e : nat_le d.clauses max_clauses ≡ true = le-leb d.clauses max_clauses (omega (arith, few, clauses)) in
    let g : (d.texts.vars == d.vars) ≡ true = eq-eqb d.texts.vars d.vars f.texts_vars in
    let k : (length d.texts.clauses == length d.core) ≡ true = eq-eqb _ _ all in
    let l : nat_le (literal_count d.texts) max_literals ≡ true = le-leb (literal_count d.texts) max_literals f.texts.literals in
    rw (a, b, c, e, f.core, round.0, round.1, h.lines, f.literals, g, k, f.texts.formula, l) refl

-- WHAT GOES ON

-- a draft whose lines another one's begin with
on_to : (n m : ℕ) (d e : CoreDraft) (more : List (List Word)) → draft_lines e ≡ draft_lines d ++ more → GoesOn (core_drafts n m) e → GoesOn (core_drafts n m) d
on_to n m d e more lines g = record {
  value = g.value;
  form = g.form;
  more = more ++ g.more;
  lines = g.lines ∙ ap (λ (ls : List (List Word)). ls ++ g.more) lines ∙ append_assoc (draft_lines d) more g.more;
}

-- an empty clause for each line that is to come
clauses_go_on : (n m : ℕ) (d : CoreDraft) → n ≤ max_vars → m ≤ max_clauses → d.vars ≡ n → d.clauses ≡ m → d.due ≡ Clauses → AtClauses d → GoesOn (core_drafts n m) d
clauses_go_on n m d small few vars clauses due h =
    let f = h.facts in
    let cs = d.texts.clauses in
    let none = missing (length d.core) cs in
    let full = filled (length d.core) d.texts f.texts in
    let e : CoreDraft = record d { texts = formula_with d.texts.vars (cs ++ none) } in
    let at : AtClauses e = record {
      facts = record { core = f.core; rounds = f.rounds; literals = f.literals; growing = f.growing; texts_vars = f.texts_vars; texts = full.form };
      round = record { round = h.round.round; ended = h.round.ended; is = h.round.is };
      lines = h.lines;
    } in
    let before = lines_before Witnesses d in
    let problem = problem_line d.vars (length d.core) in
    record {
      value = core_by e h.round.round;
      form = written_form n m e at small few vars clauses full.all;
      more = map literal_words none;
      lines = written_lines e at full.all
          ∙ ap (λ (ls : List (List Word)). before ++ problem ∷ ls) (map-append literal_words cs none)
          ∙ sym (append_assoc before (problem ∷ map literal_words cs) (map literal_words none))
          ∙ ap (λ (s : LineDue). lines_before s d ++ map literal_words none) (sym due);
    }

-- a line without a literal for each position that has none
blanks : List ℕ → List Without
blanks ps = map (λ (p : ℕ). let w : Without = record { pos = p; lits = [] } in w) ps

blank_positions : (ps : List ℕ) → positions (blanks ps) ≡ ps
unfolding blanks
blank_positions [] = refl
blank_positions (p ∷ ps) = ap (λ (qs : List ℕ). p ∷ qs) (blank_positions ps)

blank_form : (n : ℕ) (ps : List ℕ) → list_all (is_without n) (blanks ps) ≡ true
unfolding blanks
blank_form n [] = refl
blank_form n (p ∷ ps) = blank_form n ps

witnesses_go_on : (n m : ℕ) (d : CoreDraft) → n ≤ max_vars → m ≤ max_clauses → d.vars ≡ n → d.clauses ≡ m → d.due ≡ Witnesses → AtWitnesses d → GoesOn (core_drafts n m) d
witnesses_go_on n m d small few vars clauses due h =
    let f = h.facts in
    let bs = blanks h.first.others in
    let all = d.without ++ bs in
    let e : CoreDraft = record d { due = Clauses; without = all } in
    let same : d.core ≡ positions all =
    h.first.is ∙ ap (λ (ps : List ℕ). positions d.without ++ ps) (sym (blank_positions h.first.others)) ∙ sym (map-append (λ (w : Without). w.pos) d.without bs) in
    let at : AtClauses e = record {
      facts = record {
        core = f.core;
        rounds = f.rounds;
        literals = list_all-append (is_without d.vars) d.without bs ∙ and_from (list_all (is_without d.vars) d.without) (list_all (is_without d.vars) bs) f.literals (blank_form d.vars h.first.others);
        growing = f.growing;
        texts_vars = f.texts_vars;
        texts = f.texts;
      };
      round = record { round = h.round.round; ended = h.round.ended; is = h.round.is };
      lines = ap (λ (ps : List ℕ). are_for ps all) same ∙ for_these all;
    } in
    let front = head_lines d ++ rounds_lines d.rounds in
    let behind = problem_line d.vars (length d.core) ∷ map literal_words d.texts.clauses in
    on_to n m d e (map without_line bs ++ behind)
    (ap (λ (ls : List (List Word)). front ++ ls ++ behind) (map-append without_line d.without bs)
    ∙ ap (λ (ls : List (List Word)). ls ++ behind) (sym (append_assoc front (map without_line d.without) (map without_line bs)))
    ∙ append_assoc (front ++ map without_line d.without) (map without_line bs) behind
    ∙ ap (λ (s : LineDue). lines_before s d ++ (map without_line bs ++ behind)) (sym due))
    (clauses_go_on n m e small few vars clauses refl at)

-- the round is opened, and an empty step ends it
steps_go_on : (n m : ℕ) (d : CoreDraft) → n ≤ max_vars → m ≤ max_clauses → 0 < m → d.vars ≡ n → d.clauses ≡ m → d.due ≡ Steps → AtSteps d → length (lines_before Steps d) < 2 ^ 63 → GoesOn (core_drafts n m) d
steps_go_on n m d small few some vars clauses due h short =
    let f = h.facts in
    let o = opened_rounds d.rounds in
    let q = shut_rounds d.clauses o in
    let opened = rounds_opened d.vars d.clauses d.rounds f.rounds in
    let shorter : length (rounds_lines d.rounds) < 2 ^ 63 = omega (arith, short) in
    let count = few_steps d.vars d.clauses d.rounds f.rounds in
    let shut = rounds_shut d.vars d.clauses o opened.form (λ t. omega (arith, some, clauses)) (omega (arith, few, clauses, shorter, count)) in
    let one = one_shut d.clauses o (record { first = λ t. h.none; ended = λ t. absurd (let g : ⊥ = cc in g) }) in
    let e : CoreDraft = record d { due = Witnesses; rounds = q } in
    let at : AtWitnesses e = record {
      facts = record { core = f.core; rounds = shut.0.form; literals = f.literals; growing = f.growing; texts_vars = f.texts_vars; texts = f.texts };
      round = record { round = one.0; ended = shut.1; is = one.1 };
      first = record { others = d.core; is = sym (ap (λ (ws : List Without). positions ws ++ d.core) h.without) };
      clauses = h.clauses;
    } in
    let more = opened.more ++ shut.0.more in
    on_to n m d e more
    (ap (λ (ws : List Without). head_lines d ++ rounds_lines q ++ map without_line ws) h.without
    ∙ append-nil (head_lines d ++ rounds_lines q)
    ∙ ap (λ (ls : List (List Word)). head_lines d ++ ls) (shut.0.lines ∙ ap (λ (ls : List (List Word)). ls ++ shut.0.more) opened.lines ∙ append_assoc (rounds_lines d.rounds) opened.more shut.0.more)
    ∙ ap (λ (s : LineDue). lines_before s d ++ more) (sym due))
    (witnesses_go_on n m e small few vars clauses refl at)

-- no position
early_steps : (n m : ℕ) → AtSteps (early Steps n m)
early_steps n m = record { facts = early_facts Steps n m; none = refl; without = refl; clauses = refl }

positions_go_on : (n m : ℕ) → n ≤ max_vars → m ≤ max_clauses → 0 < m → GoesOn (core_drafts n m) (early Positions n m)
positions_go_on n m small few some =
    on_to n m (early Positions n m) (early Steps n m) (core_line [] ∷ []) refl (steps_go_on n m (early Steps n m) small few some refl refl refl (early_steps n m) (omega arith))

sizes_go_on : (n m : ℕ) → n ≤ max_vars → m ≤ max_clauses → 0 < m → GoesOn (core_drafts n m) (early Sizes n m)
sizes_go_on n m small few some = on_to n m (early Sizes n m) (early Positions n m) (size_line n m ∷ []) refl (positions_go_on n m small few some)

format_goes_on : (n m : ℕ) → n ≤ max_vars → m ≤ max_clauses → 0 < m → GoesOn (core_drafts n m) (early Format n m)
format_goes_on n m small few some = on_to n m (early Format n m) (early Sizes n m) (lines_before Sizes (early Sizes n m)) refl (sizes_go_on n m small few some)

pub draft_goes_on : (n m : ℕ) (d : CoreDraft) → n ≤ max_vars → m ≤ max_clauses → 0 < m → IsDraft n m d → length (draft_lines d) < 2 ^ 63 → GoesOn (core_drafts n m) d
draft_goes_on n m d small few some h short = by_due d.due refl h.form
  where
    of_these : (s : LineDue) → d ≡ early s d.vars d.clauses → GoesOn (core_drafts n m) (early s n m) → GoesOn (core_drafts n m) d
    of_these s is g = subst (λ (x : CoreDraft). GoesOn (core_drafts n m) x) (sym (is ∙ (λ i. early s (h.vars i) (h.clauses i)))) g

    by_due : (s : LineDue) → d.due ≡ s → IsDraftAt s d → GoesOn (core_drafts n m) d
    by_due Format t g = of_these Format g (format_goes_on n m small few some)
    by_due Sizes t g = of_these Sizes g (sizes_go_on n m small few some)
    by_due Positions t g = of_these Positions g (positions_go_on n m small few some)
    by_due Steps t g = steps_go_on n m d small few some h.vars h.clauses t g (subst (λ (u : LineDue). length (lines_before u d) < 2 ^ 63) t short)
    by_due Witnesses t g = witnesses_go_on n m d small few h.vars h.clauses t g
    by_due Clauses t g = clauses_go_on n m d small few h.vars h.clauses t g

-- WHAT IS A CORE

clauses_due : (s : LineDue) → is_at_clauses s ≡ true → s ≡ Clauses
clauses_due Format h = absurd (let f : ⊥ = cc in f)
clauses_due Sizes h = absurd (let f : ⊥ = cc in f)
clauses_due Positions h = absurd (let f : ⊥ = cc in f)
clauses_due Steps h = absurd (let f : ⊥ = cc in f)
clauses_due Witnesses h = absurd (let f : ⊥ = cc in f)
clauses_due Clauses h = refl

pub draft_ends : (n m : ℕ) (d : CoreDraft) (a : MusAnswer) → n ≤ max_vars → m ≤ max_clauses → IsDraft n m d → finished d ≡ Some a → IsWhole (core_drafts n m) d a
draft_ends n m d a small few h e = by_test (has_ended d) refl e
  where
    whole : (r : Round) → d.due ≡ Clauses → length d.texts.clauses ≡ length d.core → AtClauses d → last_round d.rounds.rounds ≡ Some r → a ≡ core_by d r → IsWhole (core_drafts n m) d a
    whole r due all at there is =
        let both : Some at.round.round ≡ Some r = sym (ap last_round at.round.is) ∙ there in
        let same : at.round.round ≡ r = cc in
        subst (λ (x : MusAnswer). IsWhole (core_drafts n m) d x) (sym (is ∙ ap (core_by d) (sym same))) (record {
          form = written_form n m d at small few h.vars h.clauses all;
          lines = written_lines d at all ∙ ap (λ (s : LineDue). lines_before s d) (sym due);
        })

    by_test : (b : Bool) → has_ended d ≡ b → cond b (option_map (core_by d) (last_round d.rounds.rounds)) None ≡ Some a → IsWhole (core_drafts n m) d a
    by_test false t f = absurd (let g : ⊥ = cc in g)
    by_test true t f =
        let both = and_true (is_at_clauses d.due) (length d.texts.clauses == length d.core) t in
        let due = clauses_due d.due both.0 in
        let one = map_some (core_by d) (last_round d.rounds.rounds) a f in
        whole one.item due (eqb-true (length d.texts.clauses) (length d.core) both.1) (subst (λ (s : LineDue). IsDraftAt s d) due h.form) one.there one.is
