-- One line more, by its first word.
use Rattle.std.proofs.Common.{◌≡◌, ◌≢◌, ◌∙◌, ℕ, Bool, true, false, ◌==◌, List, [], ◌∷◌, ◌++◌, refl, sym, ap, subst, ℤ}
use Rattle.std.specs.Prelude.{codes, slice_index}
use Rattle.std.specs.Str.{bytes_eq}
use Rattle.std.proofs.lemmas.Bool.{eq-eqb, eqb-true}
use Rattle.std.proofs.lemmas.List.{append-nil}
use Rattle.std.proofs.lemmas.Slice.Eq.{bytes_eq-Decides}
use Rattle.lk_model.specs.Texts.Lines.{Word}
use Rattle.lk_model.specs.Texts.ModelText.{is_satisfiable, line_numbers}
use Rattle.model_text.specs.ModelTexts.{Gives, TakesWords, TakesLine}
use Rattle.model_text.specs.declared.reading.ModelDraft.{ModelDraft}
use Rattle.model_text.proofs.Numbers.{fails}

-- no number more
gives_same : (numbers more : List ℤ) (d : ModelDraft) → more ≡ [] → Gives numbers d → Gives (numbers ++ more) d
gives_same numbers more d e g = subst (λ (xs : List ℤ). Gives xs d) (sym (ap (λ (xs : List ℤ). numbers ++ xs) e ∙ append-nil numbers)) g

-- a line without words
pub takes_blank : (n : ℕ) (numbers : List ℤ) (words : List Word) (d : ModelDraft) → Gives numbers d → words ≡ [] → TakesLine n numbers words true d
takes_blank n numbers words d g e = subst (λ (ws : List Word). TakesLine n numbers ws true d) (sym e) (refl, gives_same numbers [] d refl g)

-- a comment
comment_numbers : (first : Word) (rest : List Word) → slice_index first 0 ≡ 99 → line_numbers (first ∷ rest) ≡ []
comment_numbers [] rest e = absurd (let f : ⊥ = cc in f)
comment_numbers (b ∷ bs) rest e = rw e refl

pub takes_comment : (n : ℕ) (numbers : List ℤ) (words rest : List Word) (first : Word) (d : ModelDraft) → Gives numbers d → words ≡ first ∷ rest → slice_index first 0 ≡ 99
    → TakesLine n numbers words true d
takes_comment n numbers words rest first d g e c =
    subst (λ (ws : List Word). TakesLine n numbers ws true d) (sym e)
    (rw (eq-eqb (slice_index first 0) 99 c) refl, gives_same numbers (line_numbers (first ∷ rest)) d (comment_numbers first rest c) g)

-- `s SATISFIABLE`, or `s` and other words
said : (n : ℕ) (numbers : List ℤ) (rest : List Word) (d : ModelDraft) (says : Bool) → Gives numbers d → says ≡ is_satisfiable rest → TakesLine n numbers (codes "s" ∷ rest) says d
said n numbers rest d true g e = (rw (← e) refl, gives_same numbers [] d refl g)
said n numbers rest d false g e = rw (← e) refl

pub takes_said : (n : ℕ) (numbers : List ℤ) (words rest : List Word) (first : Word) (d : ModelDraft) (says : Bool) → Gives numbers d → words ≡ first ∷ rest
    → bytes_eq first (codes "s") ≡ true → says ≡ is_satisfiable rest → TakesLine n numbers words says d
takes_said n numbers words rest first d says g e is h =
    let same : first ≡ codes "s" = (bytes_eq-Decides first (codes "s")).0 is in
    subst (λ (ws : List Word). TakesLine n numbers ws says d) (sym (e ∙ ap (λ (w : Word). w ∷ rest) same)) (said n numbers rest d says g h)

-- `v` and words
numbered : (n : ℕ) (numbers : List ℤ) (rest : List Word) (next : ModelDraft) (taken : Bool) → TakesWords n numbers rest taken next → TakesLine n numbers (codes "v" ∷ rest) taken next
numbered n numbers rest next true h = h
numbered n numbers rest next false h = h

pub takes_numbered : (n : ℕ) (numbers : List ℤ) (words rest : List Word) (first : Word) (next : ModelDraft) (taken : Bool) → words ≡ first ∷ rest → bytes_eq first (codes "v") ≡ true
    → TakesWords n numbers rest taken next → TakesLine n numbers words taken next
takes_numbered n numbers words rest first next taken e is h =
    let same : first ≡ codes "v" = (bytes_eq-Decides first (codes "v")).0 is in
    subst (λ (ws : List Word). TakesLine n numbers ws taken next) (sym (e ∙ ap (λ (w : Word). w ∷ rest) same)) (numbered n numbers rest next taken h)

-- another first word
pub takes_none : (n : ℕ) (numbers : List ℤ) (words rest : List Word) (first : Word) (next : ModelDraft) → words ≡ first ∷ rest → slice_index first 0 ≢ 99
    → bytes_eq first (codes "s") ≡ false → bytes_eq first (codes "v") ≡ false → TakesLine n numbers words false next
takes_none n numbers words rest first next e c s v =
    let comment : (slice_index first 0 == 99) ≡ false = fails (slice_index first 0 == 99) (λ t. c (eqb-true (slice_index first 0) 99 t)) in
    subst (λ (ws : List Word). TakesLine n numbers ws false next) (sym e) (rw (comment, s, v) refl)
