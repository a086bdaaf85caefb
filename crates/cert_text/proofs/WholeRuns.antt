-- The lines of a document lead to a draft that is this document.
use Rattle.std.proofs.Common.{◌≡◌, ℕ, ◌≤◌, ◌∙◌, Bool, true, cond, ◌==◌, List, [], ◌∷◌, ◌++◌, map, length, refl, sym, ap, subst, arith, ℤ, Option, Some, None, append_assoc, nat_le}
use Rattle.std.specs.Prelude.{option_map, option_and_then, codes}
use Rattle.std.specs.Fmt.{signed_decimal}
use Rattle.std.specs.List.{list_all}
use Rattle.std.proofs.lemmas.Bool.{eq-eqb, eqb-true, leb-true}
use Rattle.std.proofs.lemmas.List.{append-nil}
use Rattle.lk_model.specs.Lists.{rises_within}
use Rattle.lk_model.specs.Limits.{max_vars, max_clauses, max_literals}
use Rattle.lk_model.specs.Formulas.Literal.{variable, is_clause}
use Rattle.lk_model.specs.Formulas.Formula.{is_formula, literal_count}
use Rattle.lk_model.specs.Texts.Lines.{Word}
use Rattle.lk_model.specs.Texts.PlainText.{ended, literal_words, number_words, formula_lines}
use Rattle.lk_model.specs.Documents.Documents.{class_of}
use Rattle.lk_model.specs.Documents.Text.{comment, class_word, class_lines, first_lines, document_lines}
use Rattle.lk_model.specs.Documents.Form.{is_size, is_protect_line, is_body, are_clause_lines, is_done_in_form, is_in_form}
use Rattle.lk_model.specs.declared.document.Body.{Body}
use Rattle.lk_model.specs.declared.document.Body.TheVariants as body
use Rattle.lk_model.specs.declared.document.DoneDocument.{DoneDocument}
use Rattle.lk_model.specs.declared.document.Document.{Document}
use Rattle.lk_model.specs.declared.document.Document.TheVariants as document
use Rattle.lk_model.proofs.Booleans.{and_true}
use Rattle.lk_model.proofs.Rising.{rising_count}
use Rattle.cert_text.specs.declared.part.Part.{Part}
use Rattle.cert_text.specs.declared.draft.Draft.{Draft}
use Rattle.cert_text.specs.declared.draft.LineDue.{LineDue}
use Rattle.cert_text.specs.declared.draft.LineDue.TheVariants as due
use Rattle.line_text.specs.FieldLists.{rising_from, literals_from}
use Rattle.cert_text.specs.Parts.{may_end, is_finished, body_of}
use Rattle.line_text.specs.SizeLines.{problem_line}
use Rattle.cert_text.specs.Drafts.{format_line, size_line, keep_line, set_line, clause_count, fresh_draft, due_then, due_first, next_format, next_sizes, done_by, open_by, document_by, finished}
use Rattle.line_text.proofs.ListForms.{rising_back, literals_back, literals_rising}
use Rattle.line_text.proofs.NumberForms.{two_back}
use Rattle.line_text.proofs.Words.{after_ended}
use Rattle.cert_text.proofs.OpenRuns.{problem_run, open_runs, blank}
use Rattle.cert_text.proofs.BodyRuns.{body_runs}
use Rattle.cert_text.specs.Drafts.{run}
use Rattle.cert_text.proofs.Runs.{run_cons, fresh_of, part_from, at_body, at_clauses, clauses_run}

-- THE FIRST LINES

-- what is read first
started : Option (List ℕ) → Part → Draft
started protect p = record fresh_draft { due = due.Sizes; protect = protect; part = p }

format_run : (protect : Option (List ℕ)) (b : Body) → next_format fresh_draft (format_line protect (class_word (class_of b))) ≡ Some (started (blank protect) (fresh_of b))
unfolding started blank
format_run None (body.Pure order pairs) = refl
format_run None (body.Matching own rows) = refl
format_run None (body.Linear stages dual units) = refl
format_run None (body.General rounds) = refl
format_run (Some vars) (body.Pure order pairs) = refl
format_run (Some vars) (body.Matching own rows) = refl
format_run (Some vars) (body.Linear stages dual units) = refl
format_run (Some vars) (body.General rounds) = refl

then_keep : (b : Body) → due_then (fresh_of b) ≡ due.Keep
then_keep (body.Pure order pairs) = refl
then_keep (body.Matching own rows) = refl
then_keep (body.Linear stages dual units) = refl
then_keep (body.General rounds) = refl

-- a draft of which no line of the body was read
front : LineDue → ℕ → ℕ → Option (List ℕ) → List ℕ → List ℤ → Body → Draft
front s n m protect kept set b = record { due = s; vars = n; clauses = m; protect = protect; kept = kept; set = set; learned = 0; part = fresh_of b; texts = record { vars = n; clauses = [] } }

sizes_run : (n m : ℕ) (protect : Option (List ℕ)) (b : Body) → n ≤ 1000000 → m ≤ 4000000 → next_sizes (started protect (fresh_of b)) (size_line n m) ≡ Some (front (due_first protect (fresh_of b)) n m protect [] [] b)
unfolding started front
sizes_run n m protect b few small =
    ap (option_map (λ (h : ℕ × ℕ). record (started protect (fresh_of b)) { due = due_first protect (fresh_of b); vars = h.0; clauses = h.1; texts = record { vars = h.0; clauses = [] } }))
    (two_back 1000000 4000000 n m (omega arith) (omega arith) few small)

first_run : (protect : Option (List ℕ)) (b : Body) (n m : ℕ) (rest : List (List Word)) → n ≤ 1000000 → m ≤ 4000000 → is_protect_line n protect ≡ true
    → run fresh_draft (first_lines (class_word (class_of b)) n m protect ++ rest) ≡ run (front due.Keep n m protect [] [] b) rest
unfolding started blank front
first_run None b n m rest few small h =
    run_cons fresh_draft (started None (fresh_of b)) (format_line None (class_word (class_of b))) (size_line n m ∷ rest) (format_run None b)
    ∙ run_cons (started None (fresh_of b)) (front (due_then (fresh_of b)) n m None [] [] b) (size_line n m) rest (sizes_run n m None b few small)
    ∙ ap (λ (s : LineDue). run (front s n m None [] [] b) rest) (then_keep b)
first_run (Some vars) b n m rest few small h =
    let protected = λ (x : List ℕ). record (front due.Protect n m (Some []) [] [] b) { due = due_then (fresh_of b); protect = Some x } in
    let line = comment (codes "protect") (ended (number_words vars)) in
    run_cons fresh_draft (started (Some []) (fresh_of b)) (format_line (Some vars) (class_word (class_of b))) (size_line n m ∷ line ∷ rest) (format_run (Some vars) b)
    ∙ run_cons (started (Some []) (fresh_of b)) (front due.Protect n m (Some []) [] [] b) (size_line n m) (line ∷ rest) (sizes_run n m (Some []) b few small)
    ∙ run_cons (front due.Protect n m (Some []) [] [] b) (front (due_then (fresh_of b)) n m (Some vars) [] [] b) line rest
    (ap (λ (o : Option (List Word)). option_map protected (option_and_then (rising_from 0 n) o)) (after_ended (codes "protect") (number_words vars) refl)
    ∙ ap (option_map protected) (rising_back 0 n vars (omega (arith, few)) h))
    ∙ ap (λ (s : LineDue). run (front s n m (Some vars) [] [] b) rest) (then_keep b)

-- THE KEPT POSITIONS AND THE SET

middle_run : (protect : Option (List ℕ)) (b : Body) (n m : ℕ) (kept : List ℕ) (set : List ℤ) (rest : List (List Word)) → n ≤ 1000000 → m ≤ 4000000
    → rises_within 0 m kept ≡ true → rises_within 0 n (map variable set) ≡ true
    → run (front due.Keep n m protect [] [] b) (keep_line kept ∷ set_line set ∷ rest) ≡ run (front due.Body n m protect kept set b) rest
unfolding front
middle_run protect b n m kept set rest few small h g =
    let with_kept = λ (x : List ℕ). record (front due.Keep n m protect [] [] b) { due = due.Set; kept = x } in
    let with_set = λ (x : List ℤ). record (front due.Set n m protect kept [] b) { due = due.Body; set = x } in
    run_cons (front due.Keep n m protect [] [] b) (front due.Set n m protect kept [] b) (keep_line kept) (set_line set ∷ rest)
    (ap (λ (o : Option (List Word)). option_map with_kept (option_and_then (rising_from 0 m) o)) (after_ended (codes "keep") (number_words kept) refl)
    ∙ ap (option_map with_kept) (rising_back 0 m kept small h))
    ∙ run_cons (front due.Set n m protect kept [] b) (front due.Body n m protect kept set b) (set_line set) rest
    (ap (λ (o : Option (List Word)). option_map with_set (option_and_then (literals_from true n 0) o)) (after_ended (codes "set") (map signed_decimal set) refl)
    ∙ ap (option_map with_set) (literals_back true n 0 set few (literals_rising n 0 set g)))

-- THE PROBLEM LINE

-- what all lines of the body say
record IsWholePart (b : Body) : Type 0 where
  finished : is_finished (part_from b) ≡ true
  ends : may_end (part_from b) ≡ true
  body : body_of (part_from b) ≡ b

whole_part : (b : Body) → IsWholePart b
whole_part (body.Pure order pairs) = record { finished = refl; ends = refl; body = refl }
whole_part (body.Matching own rows) = record { finished = refl; ends = refl; body = refl }
whole_part (body.Linear stages dual units) = record { finished = refl; ends = refl; body = refl }
whole_part (body.General rounds) = record { finished = refl; ends = refl; body = ap body.General (append-nil rounds) }

-- THE WHOLE

-- the draft that the lines of a document lead to
pub record RunsTo (d : Document) : Type 0 where
  pub draft : Draft
  pub runs : run fresh_draft (document_lines d) ≡ Some draft
  pub is : finished draft ≡ Some d

done_runs : (d : DoneDocument) → is_done_in_form d ≡ true → RunsTo (document.Done d)
unfolding is_done_in_form are_clause_lines front
done_runs d f =
    let outer = and_true _ (are_clause_lines d.vars (length d.kept) d.texts) f in
    let upper = and_true _ (is_body d.vars d.clauses d.body) outer.0 in
    let sets = and_true _ (rises_within 0 d.vars (map variable d.set)) upper.0 in
    let keeps = and_true _ (rises_within 0 d.clauses d.kept) sets.0 in
    let protects = and_true (is_size d.vars d.clauses) (is_protect_line d.vars d.protect) keeps.0 in
    let sizes = and_true (nat_le d.vars max_vars) (nat_le d.clauses max_clauses) protects.0 in
    let few = leb-true d.vars max_vars sizes.0 in
    let small = leb-true d.clauses max_clauses sizes.1 in
    let last = and_true _ (nat_le (literal_count d.texts) max_literals) outer.1 in
    let formulas = and_true _ (is_formula d.texts) last.0 in
    let counts = and_true (d.texts.vars == d.vars) (length d.texts.clauses == length d.kept) formulas.0 in
    let vars = eqb-true d.texts.vars d.vars counts.0 in
    let count = eqb-true (length d.texts.clauses) (length d.kept) counts.1 in
    let kept_few = rising_count 0 d.clauses d.kept keeps.1 (omega arith) in
    let whole = whole_part d.body in
    let at = front due.Body d.vars d.clauses d.protect d.kept d.set d.body in
    let there = at_body at (part_from d.body) in
    let number : clause_count there ≡ length d.kept = ap (λ (t : Bool). cond t (length d.kept) d.clauses) whole.finished in
    let first = first_lines (class_word (class_of d.body)) d.vars d.clauses d.protect in
    let clauses = map literal_words d.texts.clauses in
    let end = at_clauses there d.texts.clauses in
    let problem : formula_lines d.texts ≡ problem_line d.vars (clause_count there) ∷ clauses =
    ap (λ (n : ℕ). problem_line n (length d.texts.clauses) ∷ clauses) vars ∙ ap (λ (k : ℕ). problem_line d.vars k ∷ clauses) (count ∙ sym number) in
    let texts : record { vars = d.vars; clauses = d.texts.clauses } ≡ d.texts = λ i. record { vars = sym vars i; clauses = d.texts.clauses } in
    let same : done_by end ≡ d = λ i. record d { body = whole.body i; texts = texts i } in
    record {
      draft = end;
      runs = ap (run fresh_draft) (append_assoc first (keep_line d.kept ∷ set_line d.set ∷ class_lines d.body) (formula_lines d.texts))
          ∙ first_run d.protect d.body d.vars d.clauses _ few small protects.1
          ∙ middle_run d.protect d.body d.vars d.clauses d.kept d.set (class_lines d.body ++ formula_lines d.texts) few small keeps.1 sets.1
          ∙ body_runs at d.body (formula_lines d.texts) few small upper.1
          ∙ ap (run there) problem
          ∙ problem_run at (part_from d.body) clauses whole.ends few (omega (arith, number, kept_few, small))
          ∙ clauses_run there [] d.texts.clauses few (subst (λ (n : ℕ). list_all (is_clause n) d.texts.clauses ≡ true) vars formulas.1)
          (omega (arith, number, count)) (leb-true (literal_count d.texts) max_literals last.1);
      is = ap (λ (t : Bool). cond t (Some (document_by end)) None) (eq-eqb (length d.texts.clauses) (clause_count end) (count ∙ sym number))
          ∙ ap (λ (t : Bool). Some (cond t (document.Done (done_by end)) (document.Unfinished (open_by end)))) whole.finished
          ∙ ap (λ (x : DoneDocument). Some (document.Done x)) same;
    }

pub document_runs : (d : Document) → is_in_form d ≡ true → RunsTo d
document_runs (document.Done d) f = done_runs d f
document_runs (document.Unfinished d) f = let r = open_runs d f in record { draft = r.draft; runs = r.runs; is = r.is }
