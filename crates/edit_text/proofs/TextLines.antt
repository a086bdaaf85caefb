-- What is live after the lines of a text of edits, and their faults.
use Rattle.std.proofs.Common.{◌≡◌, ◌∙◌, ℕ, ◌+◌, List, [], ◌∷◌, ◌++◌, length, refl, sym, ap, append_assoc, Option, Some, None}
use Rattle.std.specs.Prelude.{filter_map}
use Rattle.std.specs.Option.{option_to_list}
use Rattle.std.proofs.lemmas.List.{append-nil}
use Rattle.std.proofs.lemmas.List.Elements.{filter_map-append}
use Rattle.lk_model.specs.Lists.{with_earlier}
use Rattle.lk_model.specs.Formulas.Formula.{Cnf}
use Rattle.lk_model.specs.Texts.Lines.{Word}
use Rattle.edit_text.specs.LiveClauses.{LiveClauses, live_of}
use Rattle.edit_text.specs.Edits.{after, after_all}
use Rattle.edit_text.specs.EditText.{edit_in, edits_in, line_fault, live_behind, fault_behind, line_faults}
use Rattle.edit_text.specs.Fed.{line_edits}
use Rattle.edit_text.specs.declared.edit.Edit.{Edit}
use Rattle.edit_text.specs.declared.edit.Edit.TheVariants.{Add, Remove}
use Rattle.edit_text.specs.declared.edit.EditFault.{EditFault}

-- WHAT IS LIVE AFTER LINES

after_vars : (s : LiveClauses) (e : Edit) → (after s e).held.vars ≡ s.held.vars
after_vars s (Add c) = refl
after_vars s (Remove k) = refl

vars_after : (s : LiveClauses) (edits : List Edit) → (after_all s edits).held.vars ≡ s.held.vars
vars_after s [] = refl
vars_after s (e ∷ edits) = vars_after (after s e) edits ∙ after_vars s e

-- the variables stay
pub vars_behind : (F : Cnf) (lines : List (List Word)) → (live_behind F lines).held.vars ≡ F.vars
vars_behind F lines = vars_after (live_of F) (edits_in F.vars lines)

-- edits in a row
after_more : (s : LiveClauses) (a b : List Edit) → after_all s (a ++ b) ≡ after_all (after_all s a) b
after_more s [] b = refl
after_more s (e ∷ a) b = after_more (after s e) a b

-- the edits of one line more
one_line_edits : (n : ℕ) (words : List Word) → edits_in n (words ∷ []) ≡ option_to_list (edit_in n words)
one_line_edits n words = of_edit (edit_in n words) refl
  where
    of_edit : (o : Option Edit) → edit_in n words ≡ o → edits_in n (words ∷ []) ≡ option_to_list (edit_in n words)
    of_edit None e = rw e refl
    of_edit (Some x) e = rw e refl

pub edits_more : (F : Cnf) (lines : List (List Word)) (words : List Word) → edits_in F.vars (lines ++ words ∷ []) ≡ edits_in F.vars lines ++ line_edits (live_behind F lines) words
edits_more F lines words =
    filter_map-append (edit_in F.vars) lines (words ∷ [])
    ∙ ap (λ (es : List Edit). edits_in F.vars lines ++ es) (one_line_edits F.vars words ∙ ap (λ (n : ℕ). option_to_list (edit_in n words)) (sym (vars_behind F lines)))

pub live_more : (F : Cnf) (lines : List (List Word)) (words : List Word) → live_behind F (lines ++ words ∷ []) ≡ after_all (live_behind F lines) (line_edits (live_behind F lines) words)
live_more F lines words =
    ap (after_all (live_of F)) (edits_more F lines words) ∙ after_more (live_of F) (edits_in F.vars lines) (line_edits (live_behind F lines) words)

-- FAULTS

earlier_append : {X : Type 0} (earlier xs ys : List X) → with_earlier earlier (xs ++ ys) ≡ with_earlier earlier xs ++ with_earlier (earlier ++ xs) ys
earlier_append {X} earlier [] ys = ap (λ (e : List X). with_earlier e ys) (sym (append-nil earlier))
earlier_append {X} earlier (x ∷ xs) ys =
    ap (λ (l : List (List X × X)). (earlier, x) ∷ l) (earlier_append (earlier ++ x ∷ []) xs ys
    ∙ ap (λ (e : List X). with_earlier (earlier ++ x ∷ []) xs ++ with_earlier e ys) (append_assoc earlier (x ∷ []) xs))

-- the faults after some lines
abbrev pub faults_behind : Cnf → List (List Word) → List (List Word) → List (ℕ × EditFault)
faults_behind F earlier lines = filter_map (fault_behind F) (with_earlier earlier lines)

faults_append : (F : Cnf) (a b : List (List Word)) → line_faults F (a ++ b) ≡ line_faults F a ++ faults_behind F a b
faults_append F a b =
    ap (filter_map (fault_behind F)) (earlier_append [] a b) ∙ filter_map-append (fault_behind F) (with_earlier [] a) (with_earlier a b)

-- a line without a fault, and one with it
pub faultless : (F : Cnf) (earlier rest : List (List Word)) (words : List Word) → line_fault (live_behind F earlier) words ≡ None
    → faults_behind F earlier (words ∷ rest) ≡ faults_behind F (earlier ++ words ∷ []) rest
faultless F earlier rest words e = rw e refl

pub faulty : (F : Cnf) (earlier rest : List (List Word)) (words : List Word) (fault : EditFault) → line_fault (live_behind F earlier) words ≡ Some fault
    → faults_behind F earlier (words ∷ rest) ≡ (length earlier + 1, fault) ∷ faults_behind F (earlier ++ words ∷ []) rest
faulty F earlier rest words fault e = rw e refl

pub none_more : (F : Cnf) (lines : List (List Word)) (words : List Word) → line_faults F lines ≡ [] → line_fault (live_behind F lines) words ≡ None → line_faults F (lines ++ words ∷ []) ≡ []
none_more F lines words fine e =
    faults_append F lines (words ∷ []) ∙ ap (λ (fs : List (ℕ × EditFault)). fs ++ faults_behind F lines (words ∷ [])) fine ∙ faultless F lines [] words e

pub first_more : (F : Cnf) (lines rest : List (List Word)) (words : List Word) (fault : EditFault) → line_faults F lines ≡ [] → line_fault (live_behind F lines) words ≡ Some fault
    → line_faults F (lines ++ words ∷ rest) ≡ (length lines + 1, fault) ∷ faults_behind F (lines ++ words ∷ []) rest
first_more F lines rest words fault fine e =
    faults_append F lines (words ∷ rest) ∙ ap (λ (fs : List (ℕ × EditFault)). fs ++ faults_behind F lines (words ∷ rest)) fine ∙ faulty F lines rest words fault e
