-- The text of a document in form spells the document's clauses.
use Rattle.std.proofs.Common.{◌≡◌, ℕ, ◌≤◌, ◌^◌, ◌∙◌, true, ◌&&◌, ◌==◌, List, [], ◌∷◌, ◌++◌, length, map, flat_map, refl, sym, ap, subst, arith, codes, nat_le}
use Rattle.std.proofs.lemmas.Bool.{and_from, leb-true, eqb-true}
use Rattle.std.proofs.lemmas.List.Concat.{concat_is}
use Rattle.std.proofs.lemmas.List.Folds.{flat_map-map}
use Rattle.lk_model.specs.Formulas.Formula.{Cnf, is_formula, literal_count, IsWithinLimits}
use Rattle.lk_model.specs.Texts.Lines.{Word}
use Rattle.lk_model.specs.Texts.PlainText.{line, ended, literal_words, number_words, formula_lines}
use Rattle.lk_model.specs.Texts.Dimacs.{Spells}
use Rattle.lk_model.specs.Documents.Documents.{class_of}
use Rattle.lk_model.specs.Documents.Text.{comment, round_lines, class_word, class_lines, first_lines, document_lines, text_lines, text_of}
use Rattle.lk_model.specs.Documents.Form.{is_size, is_in_form, is_done_in_form, is_open_in_form, are_clause_lines}
use Rattle.lk_model.specs.declared.document.Document.{Document}
use Rattle.lk_model.specs.declared.document.Document.TheVariants.{Done, Unfinished}
use Rattle.lk_model.proofs.Booleans.{and_true}
use Rattle.lk_model.proofs.Rising.{rising_count}
use Rattle.text_laws.specs.SpellsLaw.{SpellsLaw, texts_of}
use Rattle.text_laws.proofs.Lines.{is_comment_line}
use Rattle.text_laws.proofs.Plain.{spells_behind}
use Rattle.text_laws.proofs.Comments.{are_comments, comments_join, rounds_comments, class_comments, class_is_word, keep_comment, set_comment, learned_comment, first_comments}

-- THE LINES OF A DOCUMENT

-- the lines before the problem line
abbrev comments_of : Document → List (List Word)
comments_of (Done d) = first_lines (class_word (class_of d.body)) d.vars d.clauses d.protect
    ++ comment (codes "keep") (ended (number_words d.kept)) ∷ comment (codes "set") (literal_words d.set) ∷ class_lines d.body
comments_of (Unfinished d) = first_lines (codes "unfinished") d.vars d.clauses d.protect
    ++ comment (codes "learned") (number_words (d.learned ∷ [])) ∷ flat_map round_lines d.rounds

lines_parted : (d : Document) → document_lines d ≡ comments_of d ++ formula_lines (texts_of d)
lines_parted (Done d) = refl
lines_parted (Unfinished d) = refl

comments_are : (d : Document) → are_comments (comments_of d) ≡ true
comments_are (Done d) =
    comments_join (first_lines (class_word (class_of d.body)) d.vars d.clauses d.protect)
    (comment (codes "keep") (ended (number_words d.kept)) ∷ comment (codes "set") (literal_words d.set) ∷ class_lines d.body)
    (first_comments (class_word (class_of d.body)) d.vars d.clauses d.protect (class_is_word (class_of d.body)))
    (and_from (is_comment_line (comment (codes "keep") (ended (number_words d.kept)))) (are_comments (comment (codes "set") (literal_words d.set) ∷ class_lines d.body)) (keep_comment d.kept)
    (and_from (is_comment_line (comment (codes "set") (literal_words d.set))) (are_comments (class_lines d.body)) (set_comment d.set) (class_comments d.body)))
comments_are (Unfinished d) =
    comments_join (first_lines (codes "unfinished") d.vars d.clauses d.protect) (comment (codes "learned") (number_words (d.learned ∷ [])) ∷ flat_map round_lines d.rounds)
    (first_comments (codes "unfinished") d.vars d.clauses d.protect refl)
    (and_from (is_comment_line (comment (codes "learned") (number_words (d.learned ∷ [])))) (are_comments (flat_map round_lines d.rounds)) (learned_comment d.learned) (rounds_comments d.rounds))

text_parted : (d : Document) → text_of d ≡ flat_map line (comments_of d ++ formula_lines (texts_of d))
unfolding text_of text_lines
text_parted d = concat_is (map line (document_lines d)) ∙ flat_map-map (λ bs. bs) line (document_lines d) ∙ ap (flat_map line) (lines_parted d)

-- ITS CLAUSES

-- so many clauses, and no more variables and clauses than the limits
pub clause_lines : (n m count : ℕ) (F : Cnf) → is_size n m ≡ true → count ≤ m → are_clause_lines n count F ≡ true → (is_formula F ≡ true) × IsWithinLimits F
unfolding are_clause_lines
clause_lines n m count F size few h =
    let p = and_true (F.vars == n && length F.clauses == count && is_formula F) (nat_le (literal_count F) 20000000) h in
    let q = and_true (F.vars == n && length F.clauses == count) (is_formula F) p.0 in
    let r = and_true (F.vars == n) (length F.clauses == count) q.0 in
    let s = and_true (nat_le n 1000000) (nat_le m 4000000) size in
    let vars = eqb-true F.vars n r.0 in
    let clauses = eqb-true (length F.clauses) count r.1 in
    let most = leb-true n 1000000 s.0 in
    let positions = leb-true m 4000000 s.1 in (
      q.1,
      record {
        vars = omega (arith, vars, most);
        clauses = omega (arith, clauses, few, positions);
        literals = leb-true (literal_count F) 20000000 p.1;
      },
    )

clauses_in_form : (d : Document) → is_in_form d ≡ true → (is_formula (texts_of d) ≡ true) × IsWithinLimits (texts_of d)
unfolding is_done_in_form is_open_in_form
clauses_in_form (Done d) h =
    let a = and_true _ _ h in
    let b = and_true _ _ a.0 in
    let c = and_true _ _ b.0 in
    let e = and_true _ _ c.0 in
    let f = and_true _ _ e.0 in
    clause_lines d.vars d.clauses (length d.kept) d.texts f.0 (omega (arith, rising_count 0 d.clauses d.kept e.1 (omega arith))) a.1
clauses_in_form (Unfinished d) h =
    let a = and_true _ _ h in
    let b = and_true _ _ a.0 in
    let c = and_true _ _ b.0 in
    let e = and_true _ _ c.0 in
    let f = and_true _ _ e.0 in
    clause_lines d.vars d.clauses d.clauses d.texts f.0 (omega arith) a.1

-- THE LAW

pub spells_law : SpellsLaw
spells_law d form size =
    let text = text_parted d in
    let clauses = clauses_in_form d form in
    let short : length (flat_map line (comments_of d ++ formula_lines (texts_of d))) ≤ 2 ^ 30 = omega (arith, ap (λ (bs : List ℕ). length bs) text, size) in
    subst (λ (bs : List ℕ). Spells bs (texts_of d)) (sym text) (spells_behind (comments_of d) (texts_of d) (comments_are d) clauses.0 clauses.1 short)
