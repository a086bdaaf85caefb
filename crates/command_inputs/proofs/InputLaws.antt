-- What told inputs are read as, and that a text is not both read and refused.
use Rattle.std.proofs.Common.{◌≡◌, ℕ, ◌≤◌, List, [], ◌∷◌, length, Option, Some, None, refl, ap, subst, inl, inr, arith}
use Rattle.std.specs.Prelude.{IfSome, IsSome, IsSomeAnd, option_map}
use Rattle.lk_model.specs.Limits.{max_vars, max_clauses}
use Rattle.lk_model.specs.Texts.Lines.{Word}
use Rattle.lk_model.proofs.FaultConverse.{fault_law, faultless}
use Rattle.dimacs_reader.specs.Faults.{refusal_by, refusal_of}
use Rattle.answer_check.proofs.AnswerReads.{answer_text_law}
use Rattle.cert_text.specs.ReadTexts.{IsOfOneDocument, StopsNowhere}
use Rattle.command_words.specs.declared.shape.Grammar.{Grammar}
use Rattle.command_words.specs.declared.shape.Grammar.TheVariants.{Formula, Document, Model, Answer, Edits}
use Rattle.command_inputs.specs.Inputs.{Told, Known, nothing_known, ValueOf, Values, IsTextOf, known_behind, AreRead, AreTold, IsRefusal, IsFirstBad, HasBad}
use Rattle.command_stops.specs.declared.stop.Stop.{Stop}
use Rattle.command_stops.specs.declared.stop.Stop.TheVariants as stop

-- WHAT IS KNOWN

-- the numbers of variables and of clauses are within their limits
pub record IsSmall (known : Known) : Type 0 where
  pub vars : known.vars ≤ max_vars
  pub clauses : length known.clauses ≤ max_clauses

pub nothing_small : IsSmall nothing_known
nothing_small = record { vars = omega arith; clauses = omega arith }

-- so it is behind a text
small_behind : (grammar : Grammar) (known : Known) (bytes : List ℕ) (v : ValueOf grammar) → IsSmall known → IsTextOf grammar known v bytes → IsSmall (known_behind grammar known v)
small_behind Formula known bytes v small t = record { vars = t.vars_limit; clauses = t.clauses_limit }
small_behind Document known bytes v small t = small
small_behind Model known bytes v small t = small
small_behind Answer known bytes v small t = small
small_behind Edits known bytes v small t = small

told_small : (grammar : Grammar) (known : Known) (told : Option (List ℕ)) (v : ValueOf grammar) → IsSmall known → IsSomeAnd told (IsTextOf grammar known v) → IsSmall (known_behind grammar known v)
told_small grammar known None v small t = absurd t
told_small grammar known (Some bytes) v small t = small_behind grammar known bytes v small t

-- ONE TEXT

-- a text is one of one value
one_value : IsOfOneDocument → (grammar : Grammar) (known : Known) (bytes : List ℕ) (v w : ValueOf grammar) → IsSmall known → IsTextOf grammar known v bytes → IsTextOf grammar known w bytes → v ≡ w
one_value once Formula known bytes v w small r s = fault_law.one bytes v w r s
one_value once Document known bytes v w small r s = once bytes v w r s
one_value once Model known bytes v w small r s = cc (r, s)
one_value once Answer known bytes v w small r s = answer_text_law.once known.vars (length known.clauses) bytes v w small.vars small.clauses r s
one_value once Edits known bytes v w small r s = cc (r, s)

one_told : IsOfOneDocument → (grammar : Grammar) (known : Known) (told : Option (List ℕ)) (v w : ValueOf grammar) → IsSmall known → IfSome told (IsTextOf grammar known v) → IsSomeAnd told (IsTextOf grammar known w) → v ≡ w
one_told once grammar known None v w small r s = absurd s
one_told once grammar known (Some bytes) v w small r s = one_value once grammar known bytes v w small r s

told_and : (told : Option (List ℕ)) (P : List ℕ → Type 0) → IsSome told → IfSome told P → IsSomeAnd told P
told_and None P some h = absurd (let f : ⊥ = cc some in f)
told_and (Some bytes) P some h = h

-- what is read is not the text of nothing
not_nothing : (grammar : Grammar) (known : Known) (told : Option (List ℕ)) (v : ValueOf grammar) → IfSome told (IsTextOf grammar known v) → IsSomeAnd told (λ bytes. (value : ValueOf grammar) → IsTextOf grammar known value bytes → ⊥) → ⊥
not_nothing grammar known None v r bad = bad
not_nothing grammar known (Some bytes) v r bad = bad v r

-- what is read is not refused
never_refused : StopsNowhere → (grammar : Grammar) (known : Known) (bytes : List ℕ) (v : ValueOf grammar) (s : Stop) → IsTextOf grammar known v bytes → IsRefusal grammar known (Some bytes) s → ⊥
never_refused never Formula known bytes v (stop.Formula r) t h =
    let none : refusal_of bytes ≡ None = ap (option_map refusal_by) (faultless bytes v t) in
    let f : ⊥ = cc (none, h) in
    f
never_refused never Document known bytes v (stop.Document line) t h = never bytes v line t h
never_refused never Model known bytes v (stop.Model line) t h = let f : ⊥ = cc (t, h) in f
never_refused never Answer known bytes v (stop.Answer line) t h = answer_text_law.never known.vars (length known.clauses) bytes v line t h
never_refused never Edits known bytes v (stop.Edits line fault) t h = let f : ⊥ = cc (t, h) in f
never_refused never grammar known bytes v s t h = h

told_refused : StopsNowhere → (grammar : Grammar) (known : Known) (told : Option (List ℕ)) (v : ValueOf grammar) (s : Stop) → IsSome told → IfSome told (IsTextOf grammar known v) → IsRefusal grammar known told s → ⊥
told_refused never grammar known None v s some t h = let f : ⊥ = cc some in f
told_refused never grammar known (Some bytes) v s some t h = never_refused never grammar known bytes v s t h

-- ALL INPUTS

-- told inputs are read once
pub one_reading : IsOfOneDocument → (told : Told) (known : Known) (grammars : List Grammar) (names : List Word) (vs ws : Values grammars) → IsSmall known → AreTold told names → AreRead told known grammars names vs → AreRead told known grammars names ws → vs ≡ ws
one_reading once told known [] names vs ws small t r s = refl
one_reading once told known (grammar ∷ grammars) [] vs ws small t r s = absurd r
one_reading once told known (grammar ∷ grammars) (name ∷ names) vs ws small t r s =
    let there = told_and (told name) (IsTextOf grammar known ws.0) t.0 s.0 in
    let first = one_told once grammar known (told name) vs.0 ws.0 small r.0 there in
    let others = one_reading once told (known_behind grammar known ws.0) grammars names vs.1 ws.1 (told_small grammar known (told name) ws.0 small there) t.1 (subst (λ (v : ValueOf grammar). AreRead told (known_behind grammar known v) grammars names vs.1) first r.1) s.1 in
    λ i. (first i, others i)

-- what is read has no bad input
pub none_bad : IsOfOneDocument → (told : Told) (known : Known) (grammars : List Grammar) (names : List Word) (vs : Values grammars) → IsSmall known → AreRead told known grammars names vs → HasBad told known grammars names → ⊥
none_bad once told known [] names vs small r h = h
none_bad once told known (grammar ∷ grammars) [] vs small r h = h
none_bad once told known (grammar ∷ grammars) (name ∷ names) vs small r (inl bad) = not_nothing grammar known (told name) vs.0 r.0 bad
none_bad once told known (grammar ∷ grammars) (name ∷ names) vs small r (inr later) =
    let first = one_told once grammar known (told name) vs.0 later.0 small r.0 later.1 in
    none_bad once told (known_behind grammar known later.0) grammars names vs.1 (told_small grammar known (told name) later.0 small later.1) (subst (λ (v : ValueOf grammar). AreRead told (known_behind grammar known v) grammars names vs.1) first r.1) later.2

-- told inputs that are read make no stop
pub none_stops : IsOfOneDocument → StopsNowhere → (told : Told) (known : Known) (grammars : List Grammar) (names : List Word) (vs : Values grammars) (s : Stop) → IsSmall known → AreTold told names → AreRead told known grammars names vs → IsFirstBad told known grammars names s → ⊥
none_stops once never told known [] names vs s small t r h = h
none_stops once never told known (grammar ∷ grammars) [] vs s small t r h = h
none_stops once never told known (grammar ∷ grammars) (name ∷ names) vs s small t r (inl bad) = told_refused never grammar known (told name) vs.0 s t.0 r.0 bad
none_stops once never told known (grammar ∷ grammars) (name ∷ names) vs s small t r (inr later) =
    let there = told_and (told name) (IsTextOf grammar known later.0) t.0 later.1 in
    let first = one_told once grammar known (told name) vs.0 later.0 small r.0 there in
    none_stops once never told (known_behind grammar known later.0) grammars names vs.1 s (told_small grammar known (told name) later.0 small there) t.1 (subst (λ (v : ValueOf grammar). AreRead told (known_behind grammar known v) grammars names vs.1) first r.1) later.2
