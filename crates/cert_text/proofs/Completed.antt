-- From each draft in form some document goes on.
use Rattle.std.proofs.Common.{◌≡◌, ℕ, ◌^◌, ◌<◌, ◌≤◌, ◌∙◌, Bool, true, false, cond, not, ◌==◌, List, [], ◌∷◌, ◌++◌, map, length, refl, sym, ap, arith, ℤ, append_assoc, length-append, nat_le, nat_lt}
use Rattle.std.specs.Prelude.{codes}
use Rattle.std.specs.List.{list_all, flat_map}
use Rattle.std.proofs.lemmas.Bool.{le-leb, lt-ltb, eq-eqb, not-true}
use Rattle.std.proofs.lemmas.List.{map-append, append-nil, append_cancel_left}
use Rattle.lk_model.specs.Lists.{is_between, rises_within}
use Rattle.lk_model.specs.Limits.{is_in_range, max_literals}
use Rattle.lk_model.specs.Formulas.Formula.{literal_count}
use Rattle.lk_model.specs.Texts.Lines.{Word}
use Rattle.lk_model.specs.Texts.PlainText.{literal_words, formula_lines}
use Rattle.lk_model.specs.Documents.Documents.{class_of, steps_of}
use Rattle.lk_model.specs.Documents.Text.{comment, pair_line, class_word, class_lines, round_lines, first_lines, protect_lines, document_lines}
use Rattle.lk_model.specs.Documents.Form.{is_pair, is_match_row, is_linear_unit, is_body, are_clause_lines, are_steps, end_open, is_done_in_form, is_open_in_form, is_in_form}
use Rattle.lk_model.specs.declared.document.Pair.{Pair}
use Rattle.lk_model.specs.declared.document.Own.{Own}
use Rattle.lk_model.specs.declared.document.MatchRow.{MatchRow}
use Rattle.lk_model.specs.declared.document.Dual.{Dual}
use Rattle.lk_model.specs.declared.document.Unit.{Unit}
use Rattle.lk_model.specs.declared.document.Document.TheVariants as document
use Rattle.lk_model.specs.declared.document.Document.TheVariants.{Done}
use Rattle.lk_model.proofs.Booleans.{and_true}
use Rattle.formula_text.proofs.ClauseForms as formula
use Rattle.cert_text.specs.declared.part.Part.{Part}
use Rattle.cert_text.specs.declared.part.Part.TheVariants.{Pure, Matching, Linear, General, Unfinished}
use Rattle.cert_text.specs.declared.draft.Draft.{Draft}
use Rattle.cert_text.specs.declared.draft.LineDue.{LineDue}
use Rattle.cert_text.specs.declared.draft.LineDue.TheVariants.{Format, Sizes, Protect, Keep, Set, Learned, Body, Clauses}
use Rattle.cert_text.specs.PureLines.{pure_lines}
use Rattle.cert_text.specs.Parts.{part_word, part_lines, may_end, is_finished, body_of, rounds_of}
use Rattle.line_text.specs.SizeLines.{problem_line}
use Rattle.cert_text.specs.Drafts.{size_line, keep_line, set_line, learned_line, head_lines, middle_lines, clause_count, lines_before, lines_read, done_by, open_by, document_by}
use Rattle.cert_text.proofs.PartSteps.{IsPart, IsPure}
use Rattle.round_text.specs.RoundLines.{round_of, rounds_lines, put_step}
use Rattle.round_text.proofs.RoundEnds.{closing, shut_rounds, rounds_shut, opened_rounds, rounds_opened, rounds_whole, rounds_open, all_lines, few_steps}
use Rattle.cert_text.proofs.DraftSteps.{Facts, IsDraft, IsDraftAt, draft_facts, clauses_limit}

-- WHOLE BODIES

-- what was read of a body, where its lines may end
pub record IsEnded (n m : ℕ) (p : Part) : Type 0 where
  pub finished : is_finished p ≡ true
  pub form : is_body n m (body_of p) ≡ true
  pub word : class_word (class_of (body_of p)) ≡ part_word p
  pub lines : class_lines (body_of p) ≡ part_lines p

pub ended : (n m : ℕ) (p : Part) → IsPart n m p → may_end p ≡ true → is_finished p ≡ true → IsEnded n m p
unfolding is_body
ended n m (Pure p) h t f =
    let pairs = and_true (rises_within 0 n (map (λ (q : Pair). q.var) p.pairs)) (list_all (is_pair m) p.pairs) h.pairs in
    record {
      finished = refl;
      form = rw (h.order, pairs.0, pairs.1) refl;
      word = refl;
      lines = sym (ap (λ (b : Bool). cond b (comment (codes "order") (literal_words p.order) ∷ []) [] ++ map pair_line p.pairs) t);
    }
ended n m (Matching p) h t f =
    let own = and_true (rises_within 0 m (map (λ (o : Own). o.pos) p.own)) (list_all (λ (o : Own). is_between 1 n o.var) p.own) h.own in
    let rows = and_true (rises_within 0 n (map (λ (r : MatchRow). r.var) p.rows)) (list_all (is_match_row m) p.rows) h.rows in
    record { finished = refl; form = rw (own.0, own.1, rows.0, rows.1) refl; word = refl; lines = refl }
ended n m (Linear p) h t f =
    let dual = and_true (rises_within 0 m (map (λ (y : Dual). y.pos) p.dual)) (list_all (λ (y : Dual). is_in_range y.y) p.dual) h.dual in
    let units = and_true (rises_within 0 n (map (λ (u : Unit). u.var) p.units)) (list_all (is_linear_unit m) p.units) h.units in
    record { finished = refl; form = rw (h.stages, dual.0, dual.1, units.0, units.1) refl; word = refl; lines = refl }
ended n m (General p) h t f = record { finished = refl; form = rounds_whole n m p h.rounds (not-true p.is_open t); word = refl; lines = all_lines p }
ended n m (Unfinished p) h t f = absurd (let g : ⊥ = cc in g)

-- and what the rounds of an unfinished document say
pub record IsOpenEnded (n m : ℕ) (p : Part) : Type 0 where
  pub steps : are_steps n m (steps_of (rounds_of p)) ≡ true
  pub last : end_open (rounds_of p) ≡ true
  pub word : codes "unfinished" ≡ part_word p
  pub lines : flat_map round_lines (rounds_of p) ≡ part_lines p

pub open_ended : (n m : ℕ) (p : Part) → IsPart n m p → may_end p ≡ true → is_finished p ≡ false → IsOpenEnded n m p
open_ended n m (Pure p) h t f = absurd (let g : ⊥ = cc in g)
open_ended n m (Matching p) h t f = absurd (let g : ⊥ = cc in g)
open_ended n m (Linear p) h t f = absurd (let g : ⊥ = cc in g)
open_ended n m (General p) h t f = absurd (let g : ⊥ = cc in g)
open_ended n m (Unfinished p) h t f = let r = rounds_open n m p h t in record { steps = r.0; last = r.1; word = refl; lines = all_lines p }

-- WHOLE DRAFTS

pub record IsWholeDraft (d : Draft) : Type 0 where
  pub facts : Facts d
  pub ends : may_end d.part ≡ true
  pub count : length d.texts.clauses ≡ clause_count d

-- the lines of the document are those of the draft
done_lines : (d : Draft) → IsWholeDraft d → is_finished d.part ≡ true → document_lines (Done (done_by d)) ≡ lines_before Clauses d
done_lines d w t =
    let h = w.facts in
    let e = ended d.vars d.clauses d.part h.part w.ends t in
    let problem = λ (n k : ℕ). problem_line n k ∷ map literal_words d.texts.clauses in
    ap (λ (word : Word). (first_lines word d.vars d.clauses d.protect ++ keep_line d.kept ∷ set_line d.set ∷ class_lines (body_of d.part)) ++ formula_lines d.texts) e.word
    ∙ ap (λ (ls : List (List Word)). (head_lines d ++ keep_line d.kept ∷ set_line d.set ∷ ls) ++ formula_lines d.texts) e.lines
    ∙ ap (λ (ls : List (List Word)). ls ++ formula_lines d.texts) (sym (append_assoc (head_lines d) (keep_line d.kept ∷ set_line d.set ∷ []) (part_lines d.part)))
    ∙ ap (λ (b : Bool). ((head_lines d ++ cond b (keep_line d.kept ∷ set_line d.set ∷ []) (learned_line d.learned ∷ [])) ++ part_lines d.part) ++ formula_lines d.texts) (sym t)
    ∙ ap (λ (n : ℕ). ((head_lines d ++ middle_lines d) ++ part_lines d.part) ++ problem n (length d.texts.clauses)) h.texts_vars
    ∙ ap (λ (k : ℕ). ((head_lines d ++ middle_lines d) ++ part_lines d.part) ++ problem d.vars k) w.count

open_lines : (d : Draft) → IsWholeDraft d → is_finished d.part ≡ false → document_lines (document.Unfinished (open_by d)) ≡ lines_before Clauses d
open_lines d w t =
    let h = w.facts in
    let e = open_ended d.vars d.clauses d.part h.part w.ends t in
    let problem = λ (n k : ℕ). problem_line n k ∷ map literal_words d.texts.clauses in
    ap (λ (word : Word). (first_lines word d.vars d.clauses d.protect ++ learned_line d.learned ∷ flat_map round_lines (rounds_of d.part)) ++ formula_lines d.texts) e.word
    ∙ ap (λ (ls : List (List Word)). (head_lines d ++ learned_line d.learned ∷ ls) ++ formula_lines d.texts) e.lines
    ∙ ap (λ (ls : List (List Word)). ls ++ formula_lines d.texts) (sym (append_assoc (head_lines d) (learned_line d.learned ∷ []) (part_lines d.part)))
    ∙ ap (λ (b : Bool). ((head_lines d ++ cond b (keep_line d.kept ∷ set_line d.set ∷ []) (learned_line d.learned ∷ [])) ++ part_lines d.part) ++ formula_lines d.texts) (sym t)
    ∙ ap (λ (n : ℕ). ((head_lines d ++ middle_lines d) ++ part_lines d.part) ++ problem n (length d.texts.clauses)) h.texts_vars
    ∙ ap (λ (k : ℕ). ((head_lines d ++ middle_lines d) ++ part_lines d.part) ++ problem d.vars k) w.count

pub whole_lines : (d : Draft) → IsWholeDraft d → document_lines (document_by d) ≡ lines_before Clauses d
whole_lines d w = by_kind (is_finished d.part) refl
  where
    by_kind : (b : Bool) → is_finished d.part ≡ b → document_lines (cond b (Done (done_by d)) (document.Unfinished (open_by d))) ≡ lines_before Clauses d
    by_kind true t = done_lines d w t
    by_kind false t = open_lines d w t

-- it is in form
done_form : (d : Draft) → IsWholeDraft d → is_finished d.part ≡ true → is_done_in_form (done_by d) ≡ true
unfolding is_done_in_form are_clause_lines
done_form d w t =
    let h = w.facts in
    let e = ended d.vars d.clauses d.part h.part w.ends t in
    let kept : clause_count d ≡ length d.kept = ap (λ (b : Bool). cond b (length d.kept) d.clauses) t in
    let vars : (d.texts.vars == d.vars) ≡ true = eq-eqb d.texts.vars d.vars h.texts_vars in
    let count : (length d.texts.clauses == length d.kept) ≡ true = eq-eqb _ _ (w.count ∙ kept) in
    let few : nat_le (literal_count d.texts) max_literals ≡ true = le-leb (literal_count d.texts) max_literals h.literals in
    rw (h.size, h.protect, h.kept, h.set, e.form, vars, count, h.formula, few) refl

open_form : (d : Draft) → IsWholeDraft d → is_finished d.part ≡ false → is_open_in_form (open_by d) ≡ true
unfolding is_open_in_form are_clause_lines
open_form d w t =
    let h = w.facts in
    let e = open_ended d.vars d.clauses d.part h.part w.ends t in
    let all : clause_count d ≡ d.clauses = ap (λ (b : Bool). cond b (length d.kept) d.clauses) t in
    let vars : (d.texts.vars == d.vars) ≡ true = eq-eqb d.texts.vars d.vars h.texts_vars in
    let count : (length d.texts.clauses == d.clauses) ≡ true = eq-eqb _ _ (w.count ∙ all) in
    let few : nat_le (literal_count d.texts) max_literals ≡ true = le-leb (literal_count d.texts) max_literals h.literals in
    let learned : nat_lt d.learned (2 ^ 63) ≡ true = lt-ltb d.learned (2 ^ 63) h.learned in
    rw (h.size, h.protect, learned, e.steps, e.last, vars, count, h.formula, few) refl

pub whole_form : (d : Draft) → IsWholeDraft d → is_in_form (document_by d) ≡ true
whole_form d w = by_kind (is_finished d.part) refl
  where
    by_kind : (b : Bool) → is_finished d.part ≡ b → is_in_form (cond b (Done (done_by d)) (document.Unfinished (open_by d))) ≡ true
    by_kind true t = done_form d w t
    by_kind false t = open_form d w t

-- COMPLETED BODIES

-- what was read over m clauses, with the lines that must still come
abbrev pub completed : ℕ → Part → Part
completed m (Pure p) = Pure (record p { ordered = true })
completed m (Matching p) = Matching p
completed m (Linear p) = Linear p
completed m (General p) = General (shut_rounds m p)
completed m (Unfinished p) = Unfinished (opened_rounds p)

pub record IsCompleted (n m : ℕ) (p q : Part) : Type 0 where
  pub form : IsPart n m q
  pub ends : may_end q ≡ true
  pub word : part_word q ≡ part_word p
  pub finished : is_finished q ≡ is_finished p
  pub more : List (List Word)
  pub lines : part_lines q ≡ part_lines p ++ more
  pub same : may_end p ≡ true → more ≡ []

-- the number of a closing step has 64 bits, since each step has a line
pub is_completed : (n m : ℕ) (p : Part) → m ≤ 4000000 → IsPart n m p → length (part_lines p) < 2 ^ 63 → IsCompleted n m p (completed m p)
is_completed n m (Pure p) small h low = by_order p.ordered refl
  where
    form : IsPure n m (record p { ordered = true })
    form = record { order = h.order; pairs = h.pairs; fresh = λ e. absurd (let f : ⊥ = cc in f) }

    by_order : (b : Bool) → p.ordered ≡ b → IsCompleted n m (Pure p) (Pure (record p { ordered = true }))
    by_order true t = record {
      form = form;
      ends = refl;
      word = refl;
      finished = refl;
      more = [];
      lines = ap (λ (b : Bool). cond b (comment (codes "order") (literal_words p.order) ∷ []) [] ++ map pair_line p.pairs) (sym t) ∙ sym (append-nil (pure_lines p));
      same = λ e. refl;
    }
    by_order false t = record {
      form = form;
      ends = refl;
      word = refl;
      finished = refl;
      more = comment (codes "order") (literal_words p.order) ∷ [];
      lines = ap (λ (qs : List Pair). comment (codes "order") (literal_words p.order) ∷ map pair_line qs) (h.fresh t)
          ∙ sym (ap (λ (b : Bool). (cond b (comment (codes "order") (literal_words p.order) ∷ []) [] ++ map pair_line p.pairs) ++ comment (codes "order") (literal_words p.order) ∷ []) t
          ∙ ap (λ (qs : List Pair). map pair_line qs ++ comment (codes "order") (literal_words p.order) ∷ []) (h.fresh t));
      same = λ e. absurd (let u : false ≡ true = sym t ∙ e in let n : ⊥ = cc in n);
    }
is_completed n m (Matching p) small h low = record { form = h; ends = refl; word = refl; finished = refl; more = []; lines = sym (append-nil (part_lines (Matching p))); same = λ e. refl }
is_completed n m (Linear p) small h low = record { form = h; ends = refl; word = refl; finished = refl; more = []; lines = sym (append-nil (part_lines (Linear p))); same = λ e. refl }
is_completed n m (General p) small h low =
    let g = rounds_shut n m p h.rounds h.some (omega (arith, small, low, few_steps n m p h.rounds)) in
    record {
      form = record { rounds = g.0.form; some = λ t. absurd (let e : true ≡ false = sym t ∙ g.1 in let f : ⊥ = cc in f) };
      ends = ap not g.1;
      word = refl;
      finished = refl;
      more = g.0.more;
      lines = g.0.lines;
      same = λ t.
          let whole : rounds_lines p ≡ rounds_lines p ++ g.0.more =
          sym (ap (λ (b : Bool). rounds_lines (cond b (put_step p (closing m p)) p)) (not-true p.is_open t)) ∙ g.0.lines in
          append_cancel_left (rounds_lines p) g.0.more [] (sym whole ∙ sym (append-nil (rounds_lines p)));
    }
is_completed n m (Unfinished p) small h low =
    let g = rounds_opened n m p h in
    record {
      form = g.form;
      ends = refl;
      word = refl;
      finished = refl;
      more = g.more;
      lines = g.lines;
      same = λ t.
          let whole : rounds_lines p ≡ rounds_lines p ++ g.more = ap (λ (b : Bool). flat_map round_lines p.rounds ++ cond b (round_lines (round_of p.steps)) []) t ∙ g.lines in
          append_cancel_left (rounds_lines p) g.more [] (sym whole ∙ sym (append-nil (rounds_lines p)));
    }

-- COMPLETED DRAFTS

missing : Draft → List (List ℤ)
missing d = formula.missing (clause_count d) d.texts.clauses

-- the draft with the lines that must still come, and an empty clause for each clause line that is to come
filled : Draft → Draft
filled d = record d { due = Clauses; part = completed d.clauses d.part; texts = formula.formula_with d.texts.vars (d.texts.clauses ++ missing d) }

-- the lines of the draft's body are so few that a next step has a number
IsShort : Draft → Type 0
IsShort d = length (part_lines d.part) < 2 ^ 63

filled_part : (d : Draft) → Facts d → IsShort d → IsCompleted d.vars d.clauses d.part (completed d.clauses d.part)
unfolding IsShort
filled_part d h low = is_completed d.vars d.clauses d.part (clauses_limit d h) h.part low

filled_whole : (d : Draft) → Facts d → IsShort d → IsWholeDraft (filled d)
unfolding filled missing
filled_whole d h low =
    let c = filled_part d h low in
    let count : clause_count (filled d) ≡ clause_count d = ap (λ (b : Bool). cond b (length d.kept) d.clauses) c.finished in
    let full = formula.filled (clause_count d) d.texts (record { formula = h.formula; literals = h.literals; few = h.count }) in
    record {
      facts = record {
        size = h.size;
        protect = h.protect;
        kept = h.kept;
        set = h.set;
        learned = h.learned;
        part = c.form;
        texts_vars = h.texts_vars;
        formula = full.form.formula;
        literals = full.form.literals;
        count = omega (arith, full.all, count);
      };
      ends = c.ends;
      count = full.all ∙ sym count;
    }

-- the lines of the completed draft
filled_lines : (d : Draft) (h : Facts d) (low : IsShort d) → lines_before Clauses (filled d)
    ≡ ((head_lines d ++ middle_lines d) ++ (part_lines d.part ++ (filled_part d h low).more)) ++ problem_line d.vars (clause_count d) ∷ map literal_words (d.texts.clauses ++ missing d)
unfolding filled
filled_lines d h low =
    let c = filled_part d h low in
    let behind = λ (k : ℕ). problem_line d.vars k ∷ map literal_words (d.texts.clauses ++ missing d) in
    ap (λ (w : Word). ((first_lines w d.vars d.clauses d.protect ++ middle_lines (filled d)) ++ part_lines (completed d.clauses d.part)) ++ behind (clause_count (filled d))) c.word
    ∙ ap (λ (b : Bool). ((head_lines d ++ cond b (keep_line d.kept ∷ set_line d.set ∷ []) (learned_line d.learned ∷ [])) ++ part_lines (completed d.clauses d.part)) ++ behind (cond b (length d.kept) d.clauses)) c.finished
    ∙ ap (λ (ls : List (List Word)). ((head_lines d ++ middle_lines d) ++ ls) ++ behind (clause_count d)) c.lines

-- what was read stands in front of the completed lines
front_at : (d : Draft) (none : List (List ℤ)) (more : List (List Word)) (s : LineDue) → IsDraftAt s d → (may_end d.part ≡ true → more ≡ [])
    → (others : List (List Word)) × (((head_lines d ++ middle_lines d) ++ (part_lines d.part ++ more)) ++ problem_line d.vars (clause_count d) ∷ map literal_words (d.texts.clauses ++ none) ≡ lines_before s d ++ others)
front_at d none more s h same = by_due s h
  where
    problem : List Word
    problem = problem_line d.vars (clause_count d)

    behind : List (List Word)
    behind = problem ∷ map literal_words (d.texts.clauses ++ none)

    parts : List (List Word)
    parts = part_lines d.part ++ more

    heads : ((head_lines d ++ middle_lines d) ++ parts) ++ behind ≡ head_lines d ++ (middle_lines d ++ (parts ++ behind))
    heads = append_assoc (head_lines d ++ middle_lines d) parts behind ∙ append_assoc (head_lines d) (middle_lines d) (parts ++ behind)

    by_due : (t : LineDue) → IsDraftAt t d → (others : List (List Word)) × (((head_lines d ++ middle_lines d) ++ parts) ++ behind ≡ lines_before t d ++ others)
    by_due Format g = (_, refl)
    by_due Sizes g = (size_line d.vars d.clauses ∷ protect_lines d.protect ++ (middle_lines d ++ (parts ++ behind)), heads)
    by_due Protect g = (protect_lines d.protect ++ (middle_lines d ++ (parts ++ behind)), heads)
    by_due Keep g = (middle_lines d ++ (parts ++ behind), heads)
    by_due Learned g = (middle_lines d ++ (parts ++ behind), heads)
    by_due Set g = (
      set_line d.set ∷ (parts ++ behind),
      heads ∙ ap (λ (b : Bool). head_lines d ++ (cond b (keep_line d.kept ∷ set_line d.set ∷ []) (learned_line d.learned ∷ []) ++ (parts ++ behind))) g.1
          ∙ sym (append_assoc (head_lines d) (keep_line d.kept ∷ []) (set_line d.set ∷ (parts ++ behind))),
    )
    by_due Body g = (
      more ++ behind,
      ap (λ (ls : List (List Word)). ls ++ behind) (sym (append_assoc (head_lines d ++ middle_lines d) (part_lines d.part) more))
          ∙ append_assoc ((head_lines d ++ middle_lines d) ++ part_lines d.part) more behind,
    )
    by_due Clauses g =
        let front = (head_lines d ++ middle_lines d) ++ part_lines d.part in (
          map literal_words none,
          ap (λ (ls : List (List Word)). ((head_lines d ++ middle_lines d) ++ (part_lines d.part ++ ls)) ++ behind) (same g.1)
              ∙ ap (λ (ls : List (List Word)). ((head_lines d ++ middle_lines d) ++ ls) ++ behind) (append-nil (part_lines d.part))
              ∙ ap (λ (ls : List (List Word)). front ++ problem ∷ ls) (map-append literal_words d.texts.clauses none)
              ∙ sym (append_assoc front (problem ∷ map literal_words d.texts.clauses) (map literal_words none)),
        )

-- a whole draft goes on from each draft
pub record GoesOnFrom (d : Draft) : Type 0 where
  pub whole : Draft
  pub is_whole : IsWholeDraft whole
  pub more : List (List Word)
  pub lines : document_lines (document_by whole) ≡ lines_read d ++ more

-- the lines of the body are among those that were read
part_short : (d : Draft) (s : LineDue) → IsDraftAt s d → length (part_lines d.part) ≤ length (lines_before s d)
part_short d Format h = omega (arith, ap (λ (x : Draft). length (part_lines x.part)) h)
part_short d Sizes h = omega (arith, ap (λ (ls : List (List Word)). length ls) h.part.lines)
part_short d Protect h = omega (arith, ap (λ (ls : List (List Word)). length ls) h.0.lines)
part_short d Keep h = omega (arith, ap (λ (ls : List (List Word)). length ls) h.0.lines)
part_short d Set h = omega (arith, ap (λ (ls : List (List Word)). length ls) h.0.lines)
part_short d Learned h = omega (arith, ap (λ (ls : List (List Word)). length ls) h.0.lines)
part_short d Body h = omega (arith, length-append (head_lines d ++ middle_lines d) (part_lines d.part))
part_short d Clauses h =
    let front = (head_lines d ++ middle_lines d) ++ part_lines d.part in
    omega (arith, length-append (head_lines d ++ middle_lines d) (part_lines d.part), length-append front (problem_line d.vars (clause_count d) ∷ map literal_words d.texts.clauses))

-- the lines that were read are fewer than those of a text can be
pub goes_on : (d : Draft) → IsDraft d → length (lines_read d) < 2 ^ 63 → GoesOnFrom d
unfolding filled IsShort
goes_on d h few =
    let facts = draft_facts d h in
    let low : IsShort d = omega (arith, few, part_short d d.due h) in
    let c = filled_part d facts low in
    let front = front_at d (missing d) c.more d.due h c.same in
    record {
      whole = filled d;
      is_whole = filled_whole d facts low;
      more = front.0;
      lines = whole_lines (filled d) (filled_whole d facts low) ∙ filled_lines d facts low ∙ front.1;
    }
