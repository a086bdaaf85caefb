-- The law of texts of edits.
use Rattle.std.proofs.Common.{◌≡◌, ◌≤◌, ◌⊎◌, ◌∙◌, ℕ, zero, suc, ◌+◌, Bool, true, false, not, ◌&&◌, cond, List, [], ◌∷◌, ◌++◌, length, refl, sym, ap, subst, arith, ℤ, pos, negsuc, Option, Some, None, inl, inr}
use Rattle.std.specs.Prelude.{Ok, filter, filter_map, nat_le, nat_lt, option_map, codes}
use Rattle.std.specs.List.{list_all, list_any}
use Rattle.std.specs.Option.{option_map_or, option_to_list}
use Rattle.std.specs.Ordering.{int_eq}
use Rattle.std.specs.Str.{bytes_eq}
use Rattle.std.proofs.lemmas.Bool.{and_from, le-leb, ltb-false}
use Rattle.lk_model.specs.Lists.{is_zero}
use Rattle.lk_model.specs.Limits.{max_bytes}
use Rattle.lk_model.specs.Formulas.Literal.{variable, is_literal, is_distinct}
use Rattle.lk_model.specs.Formulas.Formula.{Cnf}
use Rattle.lk_model.specs.Texts.Lines.{Word, line_number}
use Rattle.lk_model.specs.Texts.Dimacs.{without_repeats}
use Rattle.lk_model.specs.Texts.ModelText.{word_lines, is_model_number, ends_at_zero, literals_among}
use Rattle.lk_model.specs.Texts.NumberWords.{number, natural}
use Rattle.lk_model.proofs.Booleans.{and_true}
use Rattle.lk_model.proofs.Literals.{once_distinct}
use Rattle.lk_model.proofs.ListTests.{all_left as filter_literals}
use Rattle.edit_text.specs.LiveClauses.{LiveClauses, live_of}
use Rattle.edit_text.specs.Edits.{CanBeMade, is_edit_over, after_all}
use Rattle.edit_text.specs.EditText.{IsEdits, IsFaultyAt, added, removed, edit_by, edit_in, edits_in, faults, is_closed, unless_faulty, fault_by, is_passed, line_fault, live_behind, line_faults}
use Rattle.edit_text.specs.EditsLaw.{EditsLaw}
use Rattle.edit_text.specs.Fed.{line_edits}
use Rattle.edit_text.specs.declared.edit.Edit.{Edit}
use Rattle.edit_text.specs.declared.edit.Edit.TheVariants.{Add, Remove}
use Rattle.edit_text.specs.declared.edit.EditFault.{EditFault}
use Rattle.edit_text.specs.declared.edit.EditFault.TheVariants.{PastLimit}
use Rattle.edit_text.proofs.LineSteps.{at_least_1, past_zero}
use Rattle.edit_text.proofs.TextLines.{vars_behind, live_more, faults_behind, faultless, faulty}

-- CLAUSES THAT WORDS WRITE

once_literals : (t : ℤ → Bool) (ls : List ℤ) → list_all t ls ≡ true → list_all t (without_repeats ls) ≡ true
once_literals t [] h = refl
once_literals t (l ∷ ls) h =
    let p = and_true (t l) (list_all t ls) h in
    and_from (t l) (list_all t (filter (λ k. not (int_eq l k)) (without_repeats ls))) p.0 (filter_literals t (λ k. not (int_eq l k)) (without_repeats ls) (once_literals t ls p.1))

-- numbers up to n without the zeros are literals
nonzero_literal : (n : ℕ) (x : ℤ) → nat_le (variable x) n ≡ true → is_zero x ≡ false → is_literal n x ≡ true
nonzero_literal n x small z = and_from (nat_le 1 (variable x)) (nat_le (variable x) n) (some_variable x z) small
  where
    some_variable : (y : ℤ) → is_zero y ≡ false → nat_le 1 (variable y) ≡ true
    some_variable (pos zero) e = absurd (let f : ⊥ = cc in f)
    some_variable (pos (suc v)) e = le-leb 1 (suc v) (omega arith)
    some_variable (negsuc k) e = le-leb 1 (suc k) (omega arith)

among_literals : (n : ℕ) (words : List Word) → list_all (is_model_number n) words ≡ true → list_all (is_literal n) (literals_among (filter_map number words)) ≡ true
among_literals n [] h = refl
among_literals n (word ∷ words) h =
    let both = and_true (is_model_number n word) (list_all (is_model_number n) words) h in
    of_number (number word) refl both.0 (among_literals n words both.1)
  where
    by_zero : (x : ℤ) → nat_le (variable x) n ≡ true → (z : Bool) → is_zero x ≡ z → list_all (is_literal n) (literals_among (filter_map number words)) ≡ true
        → list_all (is_literal n) (literals_among (x ∷ filter_map number words)) ≡ true
    by_zero x small true z r = rw z r
    by_zero x small false z r = rw z (and_from (is_literal n x) (list_all (is_literal n) (literals_among (filter_map number words))) (nonzero_literal n x small z) r)

    of_number : (o : Option ℤ) → number word ≡ o → is_model_number n word ≡ true → list_all (is_literal n) (literals_among (filter_map number words)) ≡ true
        → list_all (is_literal n) (literals_among (filter_map number (word ∷ words))) ≡ true
    of_number None e m r = absurd (let no : false ≡ true = sym (ap (λ (p : Option ℤ). option_map_or (λ x. nat_le (variable x) n) p false) e) ∙ m in let f : ⊥ = cc in f)
    of_number (Some x) e m r =
        let small : nat_le (variable x) n ≡ true = sym (ap (λ (p : Option ℤ). option_map_or (λ y. nat_le (variable y) n) p false) e) ∙ m in
        rw e (by_zero x small (is_zero x) refl r)

added_over : (n : ℕ) (words : List Word) (e : Edit) → option_map Add (added n words) ≡ Some e → is_edit_over n e ≡ true
added_over n words e h = by_test (is_closed n words) refl h
  where
    by_test : (b : Bool) → is_closed n words ≡ b → option_map Add (cond b (Some (without_repeats (literals_among (filter_map number words)))) None) ≡ Some e → is_edit_over n e ≡ true
    by_test true c f =
        let literals = literals_among (filter_map number words) in
        let same : e ≡ Add (without_repeats literals) = (let g : Some (Add (without_repeats literals)) ≡ Some e = f in cc) in
        let all = among_literals n words (and_true (list_all (is_model_number n) words) (list_any is_zero (filter_map number words) && ends_at_zero (filter_map number words)) c).0 in
        ap (is_edit_over n) same
        ∙ and_from (list_all (is_literal n) (without_repeats literals)) (is_distinct (without_repeats literals)) (once_literals (is_literal n) literals all) (once_distinct literals)
    by_test false c f = absurd (let g : ⊥ = cc in g)

removed_over : (n : ℕ) (words : List Word) (e : Edit) → option_map Remove (removed words) ≡ Some e → is_edit_over n e ≡ true
removed_over n [] e h = absurd (let g : ⊥ = cc in g)
removed_over n (word ∷ []) e h = of_number (natural word) h
  where
    of_number : (o : Option ℕ) → option_map Remove (at_least_1 o) ≡ Some e → is_edit_over n e ≡ true
    of_number None f = absurd (let g : ⊥ = cc in g)
    of_number (Some zero) f = absurd (let g : ⊥ = cc in g)
    of_number (Some (suc k)) f =
        let same : e ≡ Remove (suc k) = (let g : Some (Remove (suc k)) ≡ Some e = sym (ap (option_map Remove) (past_zero k)) ∙ f in cc) in
        ap (is_edit_over n) same ∙ le-leb 1 (suc k) (omega arith)
removed_over n (word ∷ other ∷ words) e h = absurd (let g : ⊥ = cc in g)

-- an edit that a line writes is one over the variables
edit_over : (n : ℕ) (words : List Word) (e : Edit) → edit_by n words ≡ Some e → is_edit_over n e ≡ true
edit_over n [] e h = absurd (let g : ⊥ = cc in g)
edit_over n (first ∷ words) e h = by_first (bytes_eq first (codes "a")) (bytes_eq first (codes "d")) h
  where
    by_first : (a d : Bool) → cond a (option_map Add (added n words)) (cond d (option_map Remove (removed words)) None) ≡ Some e → is_edit_over n e ≡ true
    by_first true d f = added_over n words e f
    by_first false true f = removed_over n words e f
    by_first false false f = absurd (let g : ⊥ = cc in g)

-- EDITS OF LINES WITHOUT A FAULT

cons_edits : (n : ℕ) (words : List Word) (lines : List (List Word)) → edits_in n (words ∷ lines) ≡ option_to_list (edit_in n words) ++ edits_in n lines
cons_edits n words lines = of_edit (edit_in n words) refl
  where
    of_edit : (o : Option Edit) → edit_in n words ≡ o → edits_in n (words ∷ lines) ≡ option_to_list (edit_in n words) ++ edits_in n lines
    of_edit None e = rw e refl
    of_edit (Some x) e = rw e refl

-- the edit of a line without a fault can be made
line_made : (s : LiveClauses) (words : List Word) (edits : List Edit) → line_fault s words ≡ None → CanBeMade (after_all s (line_edits s words)) edits → CanBeMade s (line_edits s words ++ edits)
line_made s words edits fine later = by_passed (is_passed words) refl
  where
    made_by : (o : Option Edit) → edit_by s.held.vars words ≡ o → fault_by s o ≡ None → CanBeMade (after_all s (option_to_list o)) edits → CanBeMade s (option_to_list o ++ edits)
    made_by None w f l = absurd (let g : ⊥ = cc in g)
    made_by (Some e) w f l = (edit_over s.held.vars words e w, f, l)

    by_passed : (b : Bool) → is_passed words ≡ b → CanBeMade s (line_edits s words ++ edits)
    by_passed true p =
        let none : edit_in s.held.vars words ≡ None = rw p refl in
        subst (λ (o : Option Edit). CanBeMade s (option_to_list o ++ edits)) (sym none) (subst (λ (o : Option Edit). CanBeMade (after_all s (option_to_list o)) edits) none later)
    by_passed false p =
        let same : edit_in s.held.vars words ≡ edit_by s.held.vars words = rw p refl in
        let fault : line_fault s words ≡ fault_by s (edit_by s.held.vars words) = rw p refl in
        subst (λ (o : Option Edit). CanBeMade s (option_to_list o ++ edits)) (sym same)
        (made_by (edit_by s.held.vars words) refl (sym fault ∙ fine) (subst (λ (o : Option Edit). CanBeMade (after_all s (option_to_list o)) edits) same later))

no_fault : (F : Cnf) (earlier lines : List (List Word)) (words : List Word) → faults_behind F earlier (words ∷ lines) ≡ [] → line_fault (live_behind F earlier) words ≡ None
no_fault F earlier lines words fine = of_fault (line_fault (live_behind F earlier) words) refl
  where
    of_fault : (o : Option EditFault) → line_fault (live_behind F earlier) words ≡ o → line_fault (live_behind F earlier) words ≡ None
    of_fault None e = e
    of_fault (Some fault) e = absurd (let no = sym (faulty F earlier lines words fault e) ∙ fine in let g : ⊥ = cc in g)

all_made : (F : Cnf) (earlier lines : List (List Word)) → faults_behind F earlier lines ≡ [] → CanBeMade (live_behind F earlier) (edits_in F.vars lines)
all_made F earlier [] fine = tt
all_made F earlier (words ∷ lines) fine =
    let s = live_behind F earlier in
    let here = no_fault F earlier lines words fine in
    let later = all_made F (earlier ++ words ∷ []) lines (sym (faultless F earlier lines words here) ∙ fine) in
    let edits : edits_in F.vars (words ∷ lines) ≡ line_edits s words ++ edits_in F.vars lines =
    cons_edits F.vars words lines ∙ ap (λ (n : ℕ). option_to_list (edit_in n words) ++ edits_in F.vars lines) (sym (vars_behind F earlier)) in
    subst (λ (es : List Edit). CanBeMade s es) (sym edits)
    (line_made s words (edits_in F.vars lines) here (subst (λ (live : LiveClauses). CanBeMade live (edits_in F.vars lines)) (live_more F earlier words) later))

pub lines_made : (F : Cnf) (lines : List (List Word)) → line_faults F lines ≡ [] → CanBeMade (live_of F) (edits_in F.vars lines)
lines_made F lines fine = all_made F [] lines fine

-- TEXTS

-- what a text of edits is
record IsRead (F : Cnf) (edits : List Edit) (text : List ℕ) : Type 0 where
  pub short : length text ≤ max_bytes
  pub fine : line_faults F (word_lines text) ≡ []
  pub edits_are : edits ≡ edits_in F.vars (word_lines text)

without_faults : (fs : List (ℕ × EditFault)) (es edits : List Edit) → unless_faulty fs es ≡ Ok edits → (fs ≡ []) × (edits ≡ es)
without_faults [] es edits e = (refl, (let same : Ok es ≡ Ok edits = e in cc))
without_faults (fault ∷ others) es edits e = absurd (let g : ⊥ = cc in g)

is_read : (F : Cnf) (edits : List Edit) (text : List ℕ) → IsEdits F edits text → IsRead F edits text
is_read F edits text h = by_size (nat_lt max_bytes (length text)) refl
  where
    by_size : (b : Bool) → nat_lt max_bytes (length text) ≡ b → IsRead F edits text
    by_size true e = absurd (
        let some : faults F text ≡ (line_number text (max_bytes + 1), PastLimit) ∷ [] = rw e refl in
        let none = (without_faults (faults F text) (edits_in F.vars (word_lines text)) edits h).0 in
        let clash = sym some ∙ none in
        let g : ⊥ = cc in g)
    by_size false e =
        let found = without_faults (faults F text) (edits_in F.vars (word_lines text)) edits h in
        let same : faults F text ≡ line_faults F (word_lines text) = rw e refl in
        record { short = ltb-false max_bytes (length text) e; fine = sym same ∙ found.0; edits_are = found.1 }

either_of : (F : Cnf) (text : List ℕ) (fs : List (ℕ × EditFault)) → faults F text ≡ fs
    → ((edits : List Edit) × IsEdits F edits text) ⊎ ((line : ℕ) × (fault : EditFault) × IsFaultyAt F text line fault)
either_of F text [] e = inl (edits_in F.vars (word_lines text), ap (λ (gs : List (ℕ × EditFault)). unless_faulty gs (edits_in F.vars (word_lines text))) e)
either_of F text ((line, fault) ∷ others) e = inr (line, fault, ap (λ (gs : List (ℕ × EditFault)). unless_faulty gs (edits_in F.vars (word_lines text))) e)

not_both : (edits : List Edit) (p : ℕ × EditFault) → unless_faulty [] edits ≡ unless_faulty (p ∷ []) [] → ⊥
not_both edits p e = cc

same_fault : (p q : ℕ × EditFault) → unless_faulty (p ∷ []) [] ≡ unless_faulty (q ∷ []) [] → p ≡ q
same_fault p q e = cc

pub law : EditsLaw
law = record {
  either = λ F text. either_of F text (faults F text) refl;
  never_both = λ F text edits line fault r f. not_both edits (line, fault) (sym r ∙ f);
  one = λ F text edits others a b. (let same : Ok edits ≡ Ok others = sym a ∙ b in cc);
  one_fault = λ F text line other fault another a b. (let same = same_fault (line, fault) (other, another) (sym a ∙ b) in (ap (λ p. p.0) same, ap (λ p. p.1) same));
  short = λ F text edits h. (is_read F edits text h).short;
  made = λ F text edits h. (let r = is_read F edits text h in subst (λ (es : List Edit). CanBeMade (live_of F) es) (sym r.edits_are) (lines_made F (word_lines text) r.fine));
}
