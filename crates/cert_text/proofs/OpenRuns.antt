-- The lines of an unfinished document lead to a draft that is this document.
use Rattle.std.proofs.Common.{◌≡◌, ℕ, ◌+◌, ◌-◌, ◌^◌, ◌<◌, ◌≤◌, ◌∙◌, Bool, true, cond, ◌==◌, List, [], ◌∷◌, ◌++◌, map, length, refl, sym, ap, subst, arith, Option, Some, None, append_assoc, nat_le, nat_lt}
use Rattle.std.specs.Prelude.{option_map, option_and_then, codes, decimal}
use Rattle.std.specs.List.{list_all, flat_map}
use Rattle.std.proofs.lemmas.Bool.{eq-eqb, eqb-true, leb-true, ltb-true, and_from}
use Rattle.std.proofs.lemmas.List.{append-nil}
use Rattle.std.proofs.lemmas.List.Concat.{flat_map-append}
use Rattle.lk_model.specs.Limits.{max_vars, max_clauses, max_literals}
use Rattle.lk_model.specs.Formulas.Literal.{is_clause}
use Rattle.lk_model.specs.Formulas.Formula.{is_formula, literal_count}
use Rattle.lk_model.specs.Texts.Lines.{Word}
use Rattle.lk_model.specs.Texts.PlainText.{ended, literal_words, number_words, formula_lines}
use Rattle.lk_model.specs.Documents.Documents.{steps_of}
use Rattle.lk_model.specs.Documents.Text.{comment, step_line, round_lines, first_lines, document_lines}
use Rattle.lk_model.specs.Documents.Form.{are_steps, is_open, is_whole, end_open, is_size, is_protect_line, are_clause_lines, is_open_in_form}
use Rattle.lk_model.specs.declared.document.Step.{Step}
use Rattle.lk_model.specs.declared.document.Round.{Round}
use Rattle.lk_model.specs.declared.document.OpenDocument.{OpenDocument}
use Rattle.lk_model.specs.declared.document.Document.TheVariants as document
use Rattle.lk_model.proofs.Booleans.{and_true}
use Rattle.cert_text.specs.declared.part.Part.{Part}
use Rattle.cert_text.specs.declared.part.Part.TheVariants.{Unfinished}
use Rattle.round_text.specs.declared.read_rounds.RoundsPart.{RoundsPart}
use Rattle.cert_text.specs.declared.draft.Draft.{Draft}
use Rattle.cert_text.specs.declared.draft.LineDue.{LineDue}
use Rattle.cert_text.specs.declared.draft.LineDue.TheVariants as due
use Rattle.line_text.specs.Fields.{two_within}
use Rattle.line_text.specs.FieldLists.{rising_from}
use Rattle.round_text.specs.RoundLines.{fresh_rounds, round_of}
use Rattle.cert_text.specs.Parts.{part_next, may_end}
use Rattle.line_text.specs.SizeLines.{problem_line}
use Rattle.cert_text.specs.Drafts.{format_line, size_line, learned_line, clause_count, fresh_draft, document_by, finished}
use Rattle.line_text.proofs.ListForms.{number_back, rising_back}
use Rattle.line_text.proofs.NumberForms.{two_back}
use Rattle.line_text.proofs.SizeForms.{problem_is}
use Rattle.line_text.proofs.Words.{after_ended}
use Rattle.round_text.proofs.RoundRuns.{rounds_run, AreNumbered, open_at, shut_at, numbered_parts, open_run, round_run, rounds_all_run, numbered_from_first}
use Rattle.cert_text.proofs.BodyRuns.{rounds_lift}
use Rattle.cert_text.specs.Drafts.{run}
use Rattle.cert_text.proofs.Runs.{run_cons, at_body, at_clauses, clauses_run}

-- THE PROBLEM LINE

pub problem_run : (d : Draft) (p : Part) (rest : List (List Word)) → may_end p ≡ true → d.vars ≤ 1000000 → clause_count (at_body d p) ≤ 4000000
    → run (at_body d p) (problem_line d.vars (clause_count (at_body d p)) ∷ rest) ≡ run (record (at_body d p) { due = due.Clauses }) rest
problem_run d p rest ends few small =
    let e = at_body d p in
    let next : Draft = record e { due = due.Clauses } in
    let words = problem_line d.vars (clause_count e) in
    run_cons e next words rest
    (ap (λ (t : Bool). cond t (cond (may_end p) (Some next) None) (option_map (λ (q : Part). let x : Draft = record e { part = q } in x) (part_next d.vars d.clauses p words))) (problem_is d.vars (clause_count e) few small)
    ∙ ap (λ (t : Bool). cond t (Some next) None) ends)

-- THE ROUNDS

-- whole rounds, and an open one after them
record Split (rounds : List Round) : Type 0 where
  front : List Round
  last : Round
  is : rounds ≡ front ++ last ∷ []
  whole : list_all is_whole front ≡ true
  open_last : is_open last ≡ true

split : (rounds : List Round) → end_open rounds ≡ true → Split rounds
split [] h = absurd (let f : ⊥ = cc in f)
split (r ∷ []) h = record { front = []; last = r; is = refl; whole = refl; open_last = h }
split (r ∷ s ∷ rounds) h =
    let both = and_true (is_whole r) (end_open (s ∷ rounds)) h in
    let rest = split (s ∷ rounds) both.1 in
    record { front = r ∷ rest.front; last = rest.last; is = ap (λ (rs : List Round). r ∷ rs) rest.is; whole = and_from (is_whole r) (list_all is_whole rest.front) both.0 rest.whole; open_last = rest.open_last }

-- the rounds of an unfinished document
record OpenRounds (n m : ℕ) (rounds : List Round) : Type 0 where
  part : RoundsPart
  runs : rounds_run true n m (shut_at [] 0) (flat_map round_lines rounds) ≡ Some part
  is_open : part.is_open ≡ true
  is : part.rounds ++ round_of part.steps ∷ [] ≡ rounds

open_rounds : (n m : ℕ) (rounds : List Round) → n ≤ 1000000 → are_steps n m (steps_of rounds) ≡ true → end_open rounds ≡ true → OpenRounds n m rounds
open_rounds n m rounds small h e =
    let s = split rounds e in
    let all = numbered_from_first n m (steps_of rounds) h in
    let steps : steps_of rounds ≡ steps_of s.front ++ s.last.steps =
    ap steps_of s.is ∙ flat_map-append (λ (r : Round). r.steps) s.front (s.last ∷ []) ∙ ap (λ (ss : List Step). steps_of s.front ++ ss) (append-nil s.last.steps) in
    let parts = numbered_parts n m 0 (steps_of s.front) s.last.steps (subst (AreNumbered n m 0) steps all) in
    let lines : flat_map round_lines rounds ≡ flat_map round_lines s.front ++ round_lines s.last =
    ap (flat_map round_lines) s.is ∙ flat_map-append round_lines s.front (s.last ∷ []) ∙ ap (λ (ls : List (List Word)). flat_map round_lines s.front ++ ls) (append-nil (round_lines s.last)) in
    let k = 0 + length (steps_of s.front) in
    record {
      part = open_at s.front s.last.steps (k + length s.last.steps);
      runs = ap (rounds_run true n m (shut_at [] 0)) lines
          ∙ rounds_all_run n m [] s.front 0 (round_lines s.last) small s.whole parts.0
          ∙ round_run n m s.front k (map step_line s.last.steps)
          ∙ ap (rounds_run true n m (open_at s.front [] k)) (sym (append-nil (map step_line s.last.steps)))
          ∙ open_run true n m s.front [] s.last.steps k [] small s.open_last parts.1;
      is_open = refl;
      is = sym s.is;
    }

-- THE FIRST LINES

unfoldable pub blank : Option (List ℕ) → Option (List ℕ)
blank None = None
blank (Some vars) = Some []

-- a draft of which no line of the rounds was read
front : LineDue → ℕ → ℕ → Option (List ℕ) → ℕ → Draft
front s n m protect learned = record { due = s; vars = n; clauses = m; protect = protect; kept = []; set = []; learned = learned; part = Unfinished fresh_rounds; texts = record { vars = n; clauses = [] } }

started : Option (List ℕ) → Draft
started protect = record fresh_draft { due = due.Sizes; protect = protect; part = Unfinished fresh_rounds }

sizes_run : (n m : ℕ) (protect : Option (List ℕ)) (s : LineDue) → n ≤ 1000000 → m ≤ 4000000
    → option_map (λ (h : ℕ × ℕ). let x : Draft = record (started protect) { due = s; vars = h.0; clauses = h.1; texts = record { vars = h.0; clauses = [] } } in x) (two_within max_vars max_clauses (decimal n ∷ decimal m ∷ [])) ≡ Some (front s n m protect 0)
unfolding started front
sizes_run n m protect s few small =
    ap (option_map (λ (h : ℕ × ℕ). record (started protect) { due = s; vars = h.0; clauses = h.1; texts = record { vars = h.0; clauses = [] } })) (two_back 1000000 4000000 n m (omega arith) (omega arith) few small)

first_run : (protect : Option (List ℕ)) (n m : ℕ) (rest : List (List Word)) → n ≤ 1000000 → m ≤ 4000000 → is_protect_line n protect ≡ true
    → run fresh_draft (first_lines (codes "unfinished") n m protect ++ rest) ≡ run (front due.Learned n m protect 0) rest
unfolding started blank front
first_run None n m rest few small h =
    run_cons fresh_draft (started None) (format_line None (codes "unfinished")) (size_line n m ∷ rest) refl
    ∙ run_cons (started None) (front due.Learned n m None 0) (size_line n m) rest (sizes_run n m None due.Learned few small)
first_run (Some vars) n m rest few small h =
    let protected = λ (x : List ℕ). record (front due.Protect n m (Some []) 0) { due = due.Learned; protect = Some x } in
    let line = comment (codes "protect") (ended (number_words vars)) in
    run_cons fresh_draft (started (Some [])) (format_line (Some vars) (codes "unfinished")) (size_line n m ∷ line ∷ rest) refl
    ∙ run_cons (started (Some [])) (front due.Protect n m (Some []) 0) (size_line n m) (line ∷ rest) (sizes_run n m (Some []) due.Protect few small)
    ∙ run_cons (front due.Protect n m (Some []) 0) (front due.Learned n m (Some vars) 0) line rest
    (ap (λ (o : Option (List Word)). option_map protected (option_and_then (rising_from 0 n) o)) (after_ended (codes "protect") (number_words vars) refl)
    ∙ ap (option_map protected) (rising_back 0 n vars (omega (arith, few)) h))

learned_run : (protect : Option (List ℕ)) (n m learned : ℕ) (rest : List (List Word)) → learned < 2 ^ 63
    → run (front due.Learned n m protect 0) (learned_line learned ∷ rest) ≡ run (front due.Body n m protect learned) rest
unfolding front
learned_run protect n m learned rest low =
    run_cons (front due.Learned n m protect 0) (front due.Body n m protect learned) (learned_line learned) rest
    (ap (option_map (λ (x : ℕ). record (front due.Learned n m protect 0) { due = due.Body; learned = x })) (number_back 0 (2 ^ 63 - 1) learned (omega (arith, low)) (omega arith) (omega (arith, low))))

-- THE WHOLE

pub record OpenRunsTo (d : OpenDocument) : Type 0 where
  pub draft : Draft
  pub runs : run fresh_draft (document_lines (document.Unfinished d)) ≡ Some draft
  pub is : finished draft ≡ Some (document.Unfinished d)

pub open_runs : (d : OpenDocument) → is_open_in_form d ≡ true → OpenRunsTo d
unfolding is_open_in_form are_clause_lines front
open_runs d f =
    let outer = and_true _ (are_clause_lines d.vars d.clauses d.texts) f in
    let ends = and_true _ (end_open d.rounds) outer.0 in
    let steps = and_true _ (are_steps d.vars d.clauses (steps_of d.rounds)) ends.0 in
    let learns = and_true _ (nat_lt d.learned (2 ^ 63)) steps.0 in
    let protects = and_true (is_size d.vars d.clauses) (is_protect_line d.vars d.protect) learns.0 in
    let sizes = and_true (nat_le d.vars max_vars) (nat_le d.clauses max_clauses) protects.0 in
    let few = leb-true d.vars max_vars sizes.0 in
    let small = leb-true d.clauses max_clauses sizes.1 in
    let last = and_true _ (nat_le (literal_count d.texts) max_literals) outer.1 in
    let formulas = and_true _ (is_formula d.texts) last.0 in
    let counts = and_true (d.texts.vars == d.vars) (length d.texts.clauses == d.clauses) formulas.0 in
    let vars = eqb-true d.texts.vars d.vars counts.0 in
    let count = eqb-true (length d.texts.clauses) d.clauses counts.1 in
    let rounds = open_rounds d.vars d.clauses d.rounds few steps.1 ends.1 in
    let at = front due.Body d.vars d.clauses d.protect d.learned in
    let there = at_body at (Unfinished rounds.part) in
    let first = first_lines (codes "unfinished") d.vars d.clauses d.protect in
    let clauses = map literal_words d.texts.clauses in
    let end = at_clauses there d.texts.clauses in
    let problem : formula_lines d.texts ≡ problem_line d.vars d.clauses ∷ clauses =
    ap (λ (n : ℕ). problem_line n (length d.texts.clauses) ∷ clauses) vars ∙ ap (λ (k : ℕ). problem_line d.vars k ∷ clauses) count in
    let texts : record { vars = d.vars; clauses = d.texts.clauses } ≡ d.texts = λ i. record { vars = sym vars i; clauses = d.texts.clauses } in
    let all : rounds.part.rounds ++ cond rounds.part.is_open (round_of rounds.part.steps ∷ []) [] ≡ d.rounds =
    ap (λ (b : Bool). rounds.part.rounds ++ cond b (round_of rounds.part.steps ∷ []) []) rounds.is_open ∙ rounds.is in
    record {
      draft = end;
      runs = ap (run fresh_draft) (append_assoc first (learned_line d.learned ∷ flat_map round_lines d.rounds) (formula_lines d.texts))
          ∙ first_run d.protect d.vars d.clauses _ few small protects.1
          ∙ learned_run d.protect d.vars d.clauses d.learned (flat_map round_lines d.rounds ++ formula_lines d.texts) (ltb-true d.learned (2 ^ 63) learns.1)
          ∙ rounds_lift Unfinished true at fresh_rounds rounds.part (flat_map round_lines d.rounds) (formula_lines d.texts) (λ p words. refl) rounds.runs
          ∙ ap (run there) problem
          ∙ problem_run at (Unfinished rounds.part) clauses rounds.is_open few small
          ∙ clauses_run there [] d.texts.clauses few (subst (λ (n : ℕ). list_all (is_clause n) d.texts.clauses ≡ true) vars formulas.1)
          (omega (arith, count)) (leb-true (literal_count d.texts) max_literals last.1);
      is = ap (λ (t : Bool). cond t (Some (document_by end)) None) (eq-eqb (length d.texts.clauses) d.clauses count)
          ∙ ap (λ (x : OpenDocument). Some (document.Unfinished x)) (λ i. record d { rounds = all i; texts = texts i });
    }
