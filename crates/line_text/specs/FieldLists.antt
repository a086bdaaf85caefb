-- Lists that the word 0 closes, read word by word.
use Rattle.std.specs.Prelude.{◌≡◌, ℕ, ◌+◌, Bool, true, false, not, if◌then◌else◌, ◌||◌, nat_lt, List, [], ◌∷◌, ◌++◌, ℤ, Option, Some, None, codes, option_map, option_and_then}
use Rattle.std.specs.Str.{bytes_eq}
use Rattle.lk_model.specs.Formulas.Literal.{variable, contains}
use Rattle.lk_model.specs.Texts.Lines.{Word}
use Rattle.lk_model.specs.Texts.NumberWords.{plain_number}
use Rattle.line_text.specs.Fields.{number_within, literal_within}

-- an item at the front of the others, if both are there
abbrev pub in_front : {X : Type 0} → Option X → (X → Option (List X)) → Option (List X)
in_front None others = None
in_front (Some x) others = option_map (λ xs. x ∷ xs) (others x)

-- numbers that rise from above the first one to at most the second
abbrev pub rising_from : ℕ → ℕ → List Word → Option (List ℕ)
rising_from last high [] = None
rising_from last high (word ∷ []) = if bytes_eq word (codes "0") then Some [] else None
rising_from last high (word ∷ next ∷ words) = in_front (number_within (last + 1) high (plain_number word)) (λ n. rising_from n high (next ∷ words))

-- the literal, if its variable is past another one where they are to rise
abbrev pub in_order : Bool → ℕ → Option ℤ → Option ℤ
in_order rising last None = None
in_order rising last (Some l) = if not rising || nat_lt last (variable l) then Some l else None

-- literals over the variables from 1 to n, whose variables may have to rise from above a last one
abbrev pub literals_from : Bool → ℕ → ℕ → List Word → Option (List ℤ)
literals_from rising n last [] = None
literals_from rising n last (word ∷ []) = if bytes_eq word (codes "0") then Some [] else None
literals_from rising n last (word ∷ next ∷ words) =
    in_front (in_order rising last (literal_within n (plain_number word))) (λ l. literals_from rising n (variable l) (next ∷ words))

-- the literal, if it does not stand in the clause
abbrev pub if_new : List ℤ → Option ℤ → Option ℤ
if_new clause None = None
if_new clause (Some l) = if contains clause l then None else Some l

-- literals of a clause after those that it has
abbrev pub clause_from : ℕ → List ℤ → List Word → Option (List ℤ)
clause_from n clause [] = None
clause_from n clause (word ∷ []) = if bytes_eq word (codes "0") then Some [] else None
clause_from n clause (word ∷ next ∷ words) =
    in_front (if_new clause (literal_within n (plain_number word))) (λ l. clause_from n (clause ++ l ∷ []) (next ∷ words))

-- the list was read, or there is none
abbrev pub IsClauseOf : Option (List ℤ) → Bool → List ℤ → Type 0
IsClauseOf found true literals = found ≡ Some literals
IsClauseOf found false literals = found ≡ None

-- items of two words each, after those that were read
abbrev pub twos : {X : Type 0} → (List X → Word → Word → Option X) → List X → List Word → Option (List X)
twos read xs [] = None
twos read xs (word ∷ []) = if bytes_eq word (codes "0") then Some xs else None
twos read xs (word ∷ other ∷ words) = option_and_then (λ x. twos read (xs ++ x ∷ []) words) (read xs word other)
