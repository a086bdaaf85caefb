-- One line more, by its first word.
use Rattle.std.proofs.Common.{◌≡◌, ◌≢◌, ◌^◌, ◌∙◌, ℕ, zero, suc, Bool, true, false, if◌then◌else◌, cond, ◌==◌, List, [], ◌∷◌, drop, refl, sym, ap, subst, arith, Option, Some, None}
use Rattle.std.specs.Prelude.{codes, slice_index, min, option_map, option_and_then, slice_range}
use Rattle.std.specs.Str.{bytes_eq}
use Rattle.std.proofs.lemmas.Bool.{eq-eqb, eqb-true}
use Rattle.std.proofs.lemmas.List.{append-nil}
use Rattle.std.proofs.lemmas.Slice.Eq.{bytes_eq-Decides}
use Rattle.lk_model.specs.Texts.Lines.{Word}
use Rattle.lk_text.specs.Cutting.{IsNextWord, HasNoWord}
use Rattle.lk_text.specs.declared.cuts.Cut.{Cut}
use Rattle.model_text.specs.ModelTexts.{words_in}
use Rattle.model_text.proofs.Numbers.{fails}
use Rattle.model_text.proofs.Lines.{words_none, words_next}
use Rattle.edit_text.specs.LiveClauses.{LiveClauses}
use Rattle.edit_text.specs.EditText.{added, removed, edit_in, fault_by, line_fault}
use Rattle.edit_text.specs.Fed.{Tells, MakesIfAny, TakesLine}
use Rattle.edit_text.specs.declared.edit.Edit.{Edit}
use Rattle.edit_text.specs.declared.edit.Edit.TheVariants.{Add, Remove}
use Rattle.edit_text.specs.declared.edit.EditFault.{EditFault}
use Rattle.edit_text.specs.declared.edit.EditFault.TheVariants.{NotAnEdit}
use Rattle.edit_text.specs.declared.draft.Draft.{Draft}

-- NUMBERS AFTER `d`

abbrev pub at_least_1 : Option ℕ → Option ℕ
at_least_1 o = option_and_then (λ k. if k == 0 then None else Some k) o

abbrev pub capped : Option ℕ → Option ℕ
capped o = option_map (λ k. min k (2 ^ 127)) o

-- a number past 0 is none of those that are left out
pub past_zero : (k : ℕ) → at_least_1 (Some (suc k)) ≡ Some (suc k)
past_zero k = ap (λ (b : Bool). cond b None (Some (suc k))) (fails (suc k == 0) (λ t. let e = eqb-true (suc k) 0 t in omega (arith, e)))

-- no digits
pub no_number : (o : Option ℕ) → None ≡ capped o → None ≡ capped (at_least_1 o)
no_number None e = refl
no_number (Some k) e = absurd (let f : ⊥ = cc in f)

-- 0
pub zero_number : (o : Option ℕ) (number : ℕ) → Some number ≡ capped o → number ≡ 0 → None ≡ capped (at_least_1 o)
zero_number None number e z = refl
zero_number (Some zero) number e z = refl
zero_number (Some (suc k)) number e z = absurd (let same : number ≡ min (suc k) (2 ^ 127) = cc in omega (arith, same, z))

-- a number of at least 1
pub some_number : (o : Option ℕ) (number : ℕ) → Some number ≡ capped o → number ≢ 0 → Some number ≡ capped (at_least_1 o)
some_number None number e z = absurd (let f : ⊥ = cc in f)
some_number (Some zero) number e z = absurd (z (let same : number ≡ min 0 (2 ^ 127) = cc in omega (arith, same)))
some_number (Some (suc k)) number e z = e ∙ ap capped (sym (past_zero k))

-- which number it is
pub was_number : (o : Option ℕ) (number : ℕ) → Some number ≡ capped o → (k : ℕ) × (o ≡ Some k) × (number ≡ min k (2 ^ 127))
was_number None number e = absurd (let f : ⊥ = cc in f)
was_number (Some k) number e = (k, refl, cc)

-- the one word that is left of a line
pub one_word : (line : List ℕ) (at : ℕ) (cut : Cut) → IsNextWord line at cut → HasNoWord line cut.next → words_in (drop at line) ≡ slice_range line cut.begin cut.end ∷ []
one_word line at cut h none = words_next line at cut h ∙ ap (λ (ws : List Word). slice_range line cut.begin cut.end ∷ ws) (words_none line cut.next none)

-- WORDS

-- a line without words
pub takes_blank : (s : LiveClauses) (edits : List Edit) (words : List Word) (d : Draft) → Tells s edits d → words ≡ [] → TakesLine s edits words None d
takes_blank s edits words d t e = subst (λ (ws : List Word). TakesLine s edits ws None d) (sym e) (refl, subst (λ (es : List Edit). Tells s es d) (sym (append-nil edits)) t)

-- a comment
pub takes_comment : (s : LiveClauses) (edits : List Edit) (words rest : List Word) (first : Word) (d : Draft) → Tells s edits d → words ≡ first ∷ rest → slice_index first 0 ≡ 99
    → TakesLine s edits words None d
takes_comment s edits words rest first d t e c =
    let is : (slice_index first 0 == 99) ≡ true = eq-eqb (slice_index first 0) 99 c in
    let none : edit_in s.held.vars (first ∷ rest) ≡ None = rw is refl in
    subst (λ (ws : List Word). TakesLine s edits ws None d) (sym e)
    (rw is refl, rw none (subst (λ (es : List Edit). Tells s es d) (sym (append-nil edits)) t))

-- a line that is not passed over, by the edit that it writes
record Writes (s : LiveClauses) (words : List Word) (o : Option Edit) : Type 0 where
  pub fault : line_fault s words ≡ fault_by s o
  pub edit : edit_in s.held.vars words ≡ o

takes_edit : (s : LiveClauses) (edits : List Edit) (words : List Word) (o : Option Edit) (fault : Option EditFault) (next : Draft) → Writes s words o → MakesIfAny s edits o fault next
    → TakesLine s edits words fault next
takes_edit s edits words None None next w h = absurd (let f : ⊥ = cc in f)
takes_edit s edits words None (Some fault) next w h = w.fault ∙ sym h
takes_edit s edits words (Some e) None next w h = (w.fault ∙ h.0, rw w.edit h.1)
takes_edit s edits words (Some e) (Some fault) next w h = w.fault ∙ h

-- `a` and words
pub takes_added : (s : LiveClauses) (edits : List Edit) (words rest : List Word) (first : Word) (fault : Option EditFault) (next : Draft) → words ≡ first ∷ rest → bytes_eq first (codes "a") ≡ true
    → MakesIfAny s edits (option_map Add (added s.held.vars rest)) fault next → TakesLine s edits words fault next
takes_added s edits words rest first fault next e is h =
    let same : first ≡ codes "a" = (bytes_eq-Decides first (codes "a")).0 is in
    subst (λ (ws : List Word). TakesLine s edits ws fault next) (sym (e ∙ ap (λ (w : Word). w ∷ rest) same))
    (takes_edit s edits (codes "a" ∷ rest) (option_map Add (added s.held.vars rest)) fault next (record { fault = refl; edit = refl }) h)

-- `d` and words
pub takes_removed : (s : LiveClauses) (edits : List Edit) (words rest : List Word) (first : Word) (fault : Option EditFault) (next : Draft) → words ≡ first ∷ rest → bytes_eq first (codes "d") ≡ true
    → MakesIfAny s edits (option_map Remove (removed rest)) fault next → TakesLine s edits words fault next
takes_removed s edits words rest first fault next e is h =
    let same : first ≡ codes "d" = (bytes_eq-Decides first (codes "d")).0 is in
    subst (λ (ws : List Word). TakesLine s edits ws fault next) (sym (e ∙ ap (λ (w : Word). w ∷ rest) same))
    (takes_edit s edits (codes "d" ∷ rest) (option_map Remove (removed rest)) fault next (record { fault = refl; edit = refl }) h)

-- another first word
pub takes_none : (s : LiveClauses) (edits : List Edit) (words rest : List Word) (first : Word) (next : Draft) → words ≡ first ∷ rest → slice_index first 0 ≢ 99
    → bytes_eq first (codes "a") ≡ false → bytes_eq first (codes "d") ≡ false → TakesLine s edits words (Some NotAnEdit) next
takes_none s edits words rest first next e c a d =
    let comment : (slice_index first 0 == 99) ≡ false = fails (slice_index first 0 == 99) (λ t. c (eqb-true (slice_index first 0) 99 t)) in
    subst (λ (ws : List Word). TakesLine s edits ws (Some NotAnEdit) next) (sym e) (rw (comment, a, d) refl)
