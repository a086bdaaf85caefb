-- The lines of a core in form lead to it.
use Rattle.std.proofs.Common.{◌≡◌, ℕ, ◌+◌, ◌<◌, ◌≤◌, ◌∙◌, Bool, true, false, cond, ◌&&◌, ◌==◌, List, [], ◌∷◌, ◌++◌, map, length, refl, sym, ap, subst, arith, Option, Some, None, append_assoc, length-append, nat_le, nat_lt}
use Rattle.std.specs.Prelude.{option_map, option_and_then, codes, decimal, slice_index_or}
use Rattle.std.specs.Fmt.{signed_decimal}
use Rattle.std.specs.List.{list_all}
use Rattle.std.proofs.lemmas.Bool.{eq-eqb, eqb-true, leb-true, lt-ltb, ltb-true}
use Rattle.std.proofs.lemmas.List.{append-nil, length-map, map-append}
use Rattle.lk_model.specs.Lists.{rises_within}
use Rattle.lk_model.specs.Limits.{max_vars, max_clauses, max_literals}
use Rattle.lk_model.specs.Formulas.Literal.{is_clause}
use Rattle.lk_model.specs.Formulas.Formula.{Cnf, is_formula, literal_count}
use Rattle.lk_model.specs.Texts.Lines.{Word}
use Rattle.lk_model.specs.Texts.PlainText.{literal_words, number_words, formula_lines}
use Rattle.lk_model.specs.Documents.CoreText.{is_without, are_for, is_core_in_form, core_line, without_line, core_lines}
use Rattle.lk_model.specs.Documents.Form.{are_steps, is_whole, is_size, are_clause_lines}
use Rattle.lk_model.specs.Documents.Text.{comment, step_line, round_lines}
use Rattle.lk_model.specs.declared.document.Round.{Round}
use Rattle.lk_model.specs.declared.document.Without.{Without}
use Rattle.lk_model.specs.declared.document.MusAnswer.{MusAnswer}
use Rattle.lk_model.proofs.Booleans.{and_true}
use Rattle.lk_model.proofs.Rising.{rising_bounds, rising_count}
use Rattle.line_text.specs.DraftReading.{run}
use Rattle.line_text.specs.FieldLists.{rising_from}
use Rattle.line_text.proofs.CleanNumbers.{clean_cons, clean_ended, clean_literals, clean_number, clean_numbers, lines_append, lines_cons, lines_map, clean_formula}
use Rattle.line_text.proofs.CleanWords.{is_clean_line, are_clean}
use Rattle.line_text.proofs.DraftReads.{RunsTo}
use Rattle.line_text.proofs.ListForms.{rising_back}
use Rattle.line_text.proofs.Words.{after_ended}
use Rattle.round_text.specs.RoundLines.{fresh_rounds, next_step, is_round, rounds_next}
use Rattle.round_text.specs.declared.read_rounds.RoundsPart.{RoundsPart}
use Rattle.round_text.proofs.CleanRounds.{clean_round}
use Rattle.round_text.proofs.RoundRuns.{rounds_run, open_at, shut_at, whole_run, numbered_from_first}
use Rattle.line_text.specs.SizeLines.{problem_line}
use Rattle.formula_text.specs.FormulaLines.{next_clause}
use Rattle.formula_text.proofs.ClauseForms.{clauses_run, formula_with, clauses_back}
use Rattle.line_text.proofs.SizeForms.{sizes_are, problem_is}
use Rattle.answer_text.specs.CoreDrafts.{format_line, size_line, fresh_core, with_rounds, without_within, next_without, next_problem, next_draft, last_round, core_by, is_core_of, core_drafts}
use Rattle.answer_text.specs.declared.core_draft.CoreDraft.{CoreDraft}
use Rattle.answer_text.specs.declared.core_draft.LineDue.TheVariants.{Sizes, Positions, Steps, Witnesses, Clauses}
use Rattle.answer_text.proofs.CoreLineForms.{without_back}
use Rattle.answer_text.proofs.CoreDraftForms.{positions, due_at, are_these, early}

-- CLEAN WORDS

clean_without : (w : Without) → is_clean_line (without_line w) ≡ true
clean_without w = clean_cons (decimal w.pos) (literal_words w.lits) (clean_number w.pos) (clean_ended (map signed_decimal w.lits) (clean_literals w.lits))

pub clean_core : (a : MusAnswer) → are_clean (core_lines a) ≡ true
clean_core a =
    let positions = core_line a.core ∷ round_lines a.round in
    let front = format_line ∷ size_line a.vars a.clauses ∷ positions in
    let clean_front : are_clean front ≡ true =
    lines_cons format_line (size_line a.vars a.clauses ∷ positions) refl
    (lines_cons (size_line a.vars a.clauses) positions (clean_numbers (a.vars ∷ a.clauses ∷ []))
    (lines_cons (core_line a.core) (round_lines a.round) (clean_ended (number_words a.core) (clean_numbers a.core)) (clean_round a.round))) in
    lines_append (front ++ map without_line a.without) (formula_lines a.texts)
    (lines_append front (map without_line a.without) clean_front (lines_map without_line clean_without a.without))
    (clean_formula a.texts)

-- DRAFTS ON THE WAY

at_steps : ℕ → ℕ → List ℕ → RoundsPart → CoreDraft
at_steps n m core p = record (fresh_core n m) { due = Steps; core = core; rounds = p }

at_witnesses : ℕ → ℕ → List ℕ → RoundsPart → List Without → CoreDraft
at_witnesses n m core p ws = record (fresh_core n m) { due = Witnesses; core = core; rounds = p; without = ws }

at_clauses : ℕ → ℕ → List ℕ → RoundsPart → List Without → Cnf → CoreDraft
at_clauses n m core p ws F = record (fresh_core n m) { due = Clauses; core = core; rounds = p; without = ws; texts = F }

run_cons : (n m : ℕ) (d e : CoreDraft) (words : List Word) (lines : List (List Word)) → next_draft d words ≡ Some e → run (core_drafts n m) d (words ∷ lines) ≡ run (core_drafts n m) e lines
run_cons n m d e words lines h = ap (option_and_then (λ x. run (core_drafts n m) x lines)) h

-- UP TO THE POSITIONS

head_run : (n m : ℕ) (core : List ℕ) (rest : List (List Word)) → n ≤ 1000000 → m ≤ 4000000 → rises_within 0 m core ≡ true
    → run (core_drafts n m) (fresh_core n m) (format_line ∷ size_line n m ∷ core_line core ∷ rest) ≡ run (core_drafts n m) (at_steps n m core fresh_rounds) rest
unfolding at_steps
head_run n m core rest few small h =
    let put : List ℕ → CoreDraft = λ ps. record (early Positions n m) { due = Steps; core = ps } in
    run_cons n m (fresh_core n m) (early Sizes n m) format_line (size_line n m ∷ core_line core ∷ rest) refl
    ∙ run_cons n m (early Sizes n m) (early Positions n m) (size_line n m) (core_line core ∷ rest)
    (ap (λ (b : Bool). cond b (Some (early Positions n m)) None) (sizes_are (codes "c") (codes "formula") n m refl few small))
    ∙ run_cons n m (early Positions n m) (put core) (core_line core) rest
    (ap (λ (o : Option (List Word)). option_map put (option_and_then (rising_from 0 m) o)) (after_ended (codes "core") (number_words core) refl)
    ∙ ap (option_map put) (rising_back 0 m core small h))

-- THE ROUND

-- in an open round each line is a step, whether a round may begin or not
step_either : (n m : ℕ) (p : RoundsPart) (words : List Word) → p.is_open ≡ true → rounds_next true n m p words ≡ rounds_next false n m p words
step_either n m p words some =
    let none : Option RoundsPart = None in
    ap (λ (b : Bool). cond b (next_step n m p words) (cond (true && is_round words) (Some (record p { is_open = true })) None)) some
    ∙ sym (ap (λ (b : Bool). cond b (next_step n m p words) none) some)

steps_lift : (n m : ℕ) (core : List ℕ) (p q : RoundsPart) (lines rest : List (List Word)) → p.is_open ≡ true → q.is_open ≡ false → rounds_run false n m p lines ≡ Some q
    → run (core_drafts n m) (at_steps n m core p) (lines ++ rest) ≡ run (core_drafts n m) (at_witnesses n m core q []) rest
unfolding at_steps at_witnesses
steps_lift n m core p q [] rest some shut h = absurd (let same : p ≡ q = cc in let f : true ≡ false = sym some ∙ ap (λ (x : RoundsPart). x.is_open) same ∙ shut in let g : ⊥ = cc in g)
steps_lift n m core p q (words ∷ lines) rest some shut h = by_next (λ x t f. steps_lift n m core x q lines rest t shut f) (rounds_next false n m p words) refl h
  where
    ends : (x : RoundsPart) → x.is_open ≡ false → (ls : List (List Word)) → rounds_run false n m x ls ≡ Some q
        → run (core_drafts n m) (at_witnesses n m core x []) (ls ++ rest) ≡ run (core_drafts n m) (at_witnesses n m core q []) rest
    ends x t [] f = let same : x ≡ q = cc in ap (λ (y : RoundsPart). run (core_drafts n m) (at_witnesses n m core y []) rest) same
    ends x t (w ∷ ls) f =
        let none : Option RoundsPart = None in
        let stops : rounds_run false n m x (w ∷ ls) ≡ None = ap (λ (b : Bool). option_and_then (λ y. rounds_run false n m y ls) (cond b (next_step n m x w) none)) t in
        absurd (let f : None ≡ Some q = sym stops ∙ f in let g : ⊥ = cc in g)

    goes_on : (x : RoundsPart)
        → ((t : x.is_open ≡ true) → rounds_run false n m x lines ≡ Some q → run (core_drafts n m) (at_steps n m core x) (lines ++ rest) ≡ run (core_drafts n m) (at_witnesses n m core q []) rest)
        → rounds_run false n m x lines ≡ Some q → (b : Bool) → x.is_open ≡ b
        → run (core_drafts n m) (record (at_steps n m core x) { due = cond b Steps Witnesses }) (lines ++ rest) ≡ run (core_drafts n m) (at_witnesses n m core q []) rest
    goes_on x later f true t = later t f
    goes_on x later f false t = ends x t lines f

    by_next : ((x : RoundsPart) → x.is_open ≡ true → rounds_run false n m x lines ≡ Some q → run (core_drafts n m) (at_steps n m core x) (lines ++ rest) ≡ run (core_drafts n m) (at_witnesses n m core q []) rest)
        → (o : Option RoundsPart) → rounds_next false n m p words ≡ o → option_and_then (λ x. rounds_run false n m x lines) o ≡ Some q
        → run (core_drafts n m) (at_steps n m core p) (words ∷ (lines ++ rest)) ≡ run (core_drafts n m) (at_witnesses n m core q []) rest
    by_next later None t f = absurd (let g : ⊥ = cc in g)
    by_next later (Some x) t f =
        run_cons n m (at_steps n m core p) (with_rounds (at_steps n m core p) x) words (lines ++ rest) (ap (option_map (with_rounds (at_steps n m core p))) (step_either n m p words some ∙ t))
        ∙ goes_on x (later x) f x.is_open refl

round_run : (n m : ℕ) (core : List ℕ) (r : Round) (rest : List (List Word)) → n ≤ 1000000 → are_steps n m r.steps ≡ true → is_whole r ≡ true
    → run (core_drafts n m) (at_steps n m core fresh_rounds) (round_lines r ++ rest) ≡ run (core_drafts n m) (at_witnesses n m core (shut_at (r ∷ []) (0 + length r.steps)) []) rest
unfolding at_steps
round_run n m core r rest few steps whole =
    let lines = map step_line r.steps in
    let end = shut_at (r ∷ []) (0 + length r.steps) in
    let rounds : rounds_run false n m (open_at [] [] 0) lines ≡ Some end =
    ap (rounds_run false n m (open_at [] [] 0)) (sym (append-nil lines)) ∙ whole_run false n m [] [] r.steps 0 [] few whole (numbered_from_first n m r.steps steps) in
    run_cons n m (at_steps n m core fresh_rounds) (at_steps n m core (open_at [] [] 0)) (comment (codes "round") []) (lines ++ rest) refl
    ∙ steps_lift n m core (open_at [] [] 0) end lines rest refl refl rounds

-- THE LITERALS FOR EACH POSITION

withouts_run : (n m : ℕ) (core : List ℕ) (q : RoundsPart) (ws us : List Without) (rest : List (List Word)) → n ≤ 1000000 → m ≤ 4000000 → rises_within 0 m core ≡ true
    → core ≡ positions (ws ++ us) → list_all (is_without n) us ≡ true
    → run (core_drafts n m) (at_witnesses n m core q ws) (map without_line us ++ rest) ≡ run (core_drafts n m) (at_witnesses n m core q (ws ++ us)) rest
unfolding at_witnesses
withouts_run n m core q ws [] rest few small rise are form = ap (λ (xs : List Without). run (core_drafts n m) (at_witnesses n m core q xs) rest) (sym (append-nil ws))
withouts_run n m core q ws (u ∷ us) rest few small rise are form =
    let both = and_true (is_without n u) (list_all (is_without n) us) form in
    let joined : (ws ++ u ∷ []) ++ us ≡ ws ++ u ∷ us = append_assoc ws (u ∷ []) us in
    let d = at_witnesses n m core q ws in
    let put : Without → CoreDraft = λ w. record d { without = ws ++ w ∷ [] } in
    let spelled : core ≡ positions ws ++ u.pos ∷ positions us = are ∙ map-append (λ (w : Without). w.pos) ws (u ∷ us) in
    let more : length ws < length core = omega (arith, ap length spelled, length-append (positions ws) (u.pos ∷ positions us), length-map ws (λ (w : Without). w.pos)) in
    let due : slice_index_or core (length ws) 0 ≡ u.pos = ap (λ (ps : List ℕ). slice_index_or ps (length ws) 0) spelled ∙ due_at ws u.pos (positions us) in
    let bound = (rising_bounds 0 m core (length ws) rise more).1 in
    let words = decimal u.pos ∷ literal_words u.lits in
    run_cons n m d (put u) (without_line u) (map without_line us ++ rest)
    (ap (λ (b : Bool). cond b (next_without d (without_line u)) (next_problem d (without_line u))) (lt-ltb (length ws) (length core) more)
    ∙ ap (λ (p : ℕ). option_map put (without_within n p words)) due
    ∙ ap (option_map put) (without_back n u few (omega (arith, due, bound, small)) both.0))
    ∙ withouts_run n m core q (ws ++ u ∷ []) us rest few small rise (are ∙ ap positions (sym joined)) both.1
    ∙ ap (λ (xs : List Without). run (core_drafts n m) (at_witnesses n m core q xs) rest) joined

-- THE CLAUSES

not_below : (a b : ℕ) → a ≡ b → nat_lt a b ≡ false
not_below a b e = by_test (nat_lt a b) refl
  where
    by_test : (t : Bool) → nat_lt a b ≡ t → t ≡ false
    by_test false h = refl
    by_test true h = absurd (omega (arith, e, ltb-true a b h))

problem_run : (n m : ℕ) (core : List ℕ) (q : RoundsPart) (ws : List Without) (rest : List (List Word)) → n ≤ 1000000 → length core ≤ 4000000 → length ws ≡ length core
    → run (core_drafts n m) (at_witnesses n m core q ws) (problem_line n (length core) ∷ rest) ≡ run (core_drafts n m) (at_clauses n m core q ws (formula_with n [])) rest
unfolding at_witnesses at_clauses
problem_run n m core q ws rest few small all =
    let d = at_witnesses n m core q ws in
    let next = at_clauses n m core q ws (formula_with n []) in
    let words = problem_line n (length core) in
    run_cons n m d next words rest
    (ap (λ (b : Bool). cond b (next_without d words) (next_problem d words)) (not_below (length ws) (length core) all)
    ∙ ap (λ (b : Bool). cond b (Some next) None) (problem_is n (length core) few small))

clauses_lift : (n m : ℕ) (core : List ℕ) (q : RoundsPart) (ws : List Without) (F : Cnf) (lines : List (List Word))
    → run (core_drafts n m) (at_clauses n m core q ws F) lines ≡ option_map (at_clauses n m core q ws) (clauses_run (length core) F lines)
unfolding at_clauses
clauses_lift n m core q ws F [] = refl
clauses_lift n m core q ws F (words ∷ lines) = by_next (λ G. clauses_lift n m core q ws G lines) (next_clause (length core) F words)
  where
    by_next : ((G : Cnf) → run (core_drafts n m) (at_clauses n m core q ws G) lines ≡ option_map (at_clauses n m core q ws) (clauses_run (length core) G lines)) → (o : Option Cnf)
        → option_and_then (λ (e : CoreDraft). run (core_drafts n m) e lines) (option_map (λ (G : Cnf). record (at_clauses n m core q ws F) { texts = G }) o)
        ≡ option_map (at_clauses n m core q ws) (option_and_then (λ (G : Cnf). clauses_run (length core) G lines) o)
    by_next later None = refl
    by_next later (Some G) = later G

-- THE WHOLE

core_runs_self : (a : MusAnswer) → is_core_in_form a ≡ true → RunsTo (core_drafts a.vars a.clauses) a
unfolding is_core_in_form are_clause_lines at_steps at_witnesses at_clauses
core_runs_self a h =
    let texts = and_true _ (are_clause_lines a.vars (length a.core) a.texts) h in
    let withouts = and_true _ (list_all (is_without a.vars) a.without) texts.0 in
    let lines = and_true _ (are_for a.core a.without) withouts.0 in
    let wholes = and_true _ (is_whole a.round) lines.0 in
    let steps = and_true _ (are_steps a.vars a.clauses a.round.steps) wholes.0 in
    let cores = and_true (is_size a.vars a.clauses) (rises_within 0 a.clauses a.core) steps.0 in
    let sizes = and_true (nat_le a.vars max_vars) (nat_le a.clauses max_clauses) cores.0 in
    let few = leb-true a.vars max_vars sizes.0 in
    let small = leb-true a.clauses max_clauses sizes.1 in
    let last = and_true _ (nat_le (literal_count a.texts) max_literals) texts.1 in
    let formulas = and_true _ (is_formula a.texts) last.0 in
    let counts = and_true (a.texts.vars == a.vars) (length a.texts.clauses == length a.core) formulas.0 in
    let vars = eqb-true a.texts.vars a.vars counts.0 in
    let count = eqb-true (length a.texts.clauses) (length a.core) counts.1 in
    let n = a.vars in
    let m = a.clauses in
    let all = are_these a.core a.without lines.1 in
    let core_few : length a.core ≤ 4000000 = omega (arith, rising_count 0 m a.core cores.1 (omega arith), small) in
    let positioned : length a.without ≡ length a.core = sym (ap length all ∙ length-map a.without (λ (w : Without). w.pos)) in
    let q = shut_at (a.round ∷ []) (0 + length a.round.steps) in
    let clauses = map literal_words a.texts.clauses in
    let formula = formula_lines a.texts in
    let front = format_line ∷ size_line n m ∷ core_line a.core ∷ round_lines a.round in
    let problem : formula ≡ problem_line n (length a.core) ∷ clauses =
    ap (λ (k : ℕ). problem_line k (length a.texts.clauses) ∷ clauses) vars ∙ ap (λ (k : ℕ). problem_line n k ∷ clauses) count in
    let same : formula_with n a.texts.clauses ≡ a.texts = λ i. record { vars = sym vars i; clauses = a.texts.clauses } in
    let end = at_clauses n m a.core q a.without a.texts in
    record {
      draft = end;
      runs = ap (run (core_drafts n m) (fresh_core n m)) (append_assoc front (map without_line a.without) formula)
          ∙ head_run n m a.core (round_lines a.round ++ (map without_line a.without ++ formula)) few small cores.1
          ∙ round_run n m a.core a.round (map without_line a.without ++ formula) few steps.1 wholes.1
          ∙ withouts_run n m a.core q [] a.without formula few small cores.1 all withouts.1
          ∙ ap (run (core_drafts n m) (at_witnesses n m a.core q a.without)) problem
          ∙ problem_run n m a.core q a.without clauses few core_few positioned
          ∙ clauses_lift n m a.core q a.without (formula_with n []) clauses
          ∙ ap (option_map (at_clauses n m a.core q a.without))
          (clauses_back n (length a.core) [] a.texts.clauses few (subst (λ (k : ℕ). list_all (is_clause k) a.texts.clauses ≡ true) vars formulas.1)
          (omega (arith, count)) (leb-true (literal_count a.texts) max_literals last.1))
          ∙ ap (λ (F : Cnf). Some (at_clauses n m a.core q a.without F)) same;
      is = ap (λ (b : Bool). cond b (option_map (core_by end) (last_round (a.round ∷ []))) None) (eq-eqb (length a.texts.clauses) (length a.core) count);
    }

pub core_runs : (n m : ℕ) (a : MusAnswer) → is_core_of n m a ≡ true → RunsTo (core_drafts n m) a
core_runs n m a h =
    let form = and_true (a.vars == n && a.clauses == m) (is_core_in_form a) h in
    let sizes = and_true (a.vars == n) (a.clauses == m) form.0 in
    subst (λ (k : ℕ). RunsTo (core_drafts k m) a) (eqb-true a.vars n sizes.0)
    (subst (λ (k : ℕ). RunsTo (core_drafts a.vars k) a) (eqb-true a.clauses m sizes.1) (core_runs_self a form.1))
