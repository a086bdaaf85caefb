-- One word more of a list that the word 0 closes.
use Rattle.std.proofs.Common.{◌≡◌, ℕ, ◌+◌, ◌≤◌, ◌∙◌, Bool, true, false, not, cond, ◌||◌, ◌==◌, List, [], ◌∷◌, ◌++◌, refl, sym, ap, arith, ℤ, pos, negsuc, Option, Some, None, append_assoc}
use Rattle.std.specs.Prelude.{option_map, nat_lt}
use Rattle.std.specs.List.{onto_first}
use Rattle.std.proofs.lemmas.Bool.{leb-true}
use Rattle.lk_model.specs.Lists.{is_between}
use Rattle.lk_model.specs.Formulas.Literal.{variable, contains}
use Rattle.lk_model.proofs.Booleans.{and_true}
use Rattle.lk_model.specs.Texts.Lines.{Word}
use Rattle.lk_model.specs.Texts.NumberWords.{plain_number}
use Rattle.line_text.specs.Fields.{fields}
use Rattle.line_text.specs.Fields.{number_within, literal_within}
use Rattle.line_text.specs.FieldLists.{in_front, in_order, if_new, rising_from, literals_from, clause_from}

-- a line has a word, which may be without a byte
abbrev HasWord : List Word → Type 0
HasWord words = (word : Word) × (more : List Word) × (words ≡ word ∷ more)

onto_word : (b : ℕ) (words : List Word) → HasWord (onto_first b words)
onto_word b [] = (b ∷ [], [], refl)
onto_word b (word ∷ words) = (b ∷ word, words, refl)

pub has_word : (line : List ℕ) → HasWord (fields line)
has_word [] = ([], [], refl)
has_word (b ∷ bs) = by_test (b == 32)
  where
    by_test : (t : Bool) → HasWord (cond t ([] ∷ fields bs) (onto_first b (fields bs)))
    by_test true = ([], fields bs, refl)
    by_test false = onto_word b (fields bs)

-- an item after those that were read
one_more : {X : Type 0} (xs : List X) (x : X) (rest : Option (List X)) → option_map (λ ys. xs ++ ys) (option_map (λ ys. x ∷ ys) rest) ≡ option_map (λ ys. (xs ++ x ∷ []) ++ ys) rest
one_more xs x None = refl
one_more xs x (Some ys) = ap Some (sym (append_assoc xs (x ∷ []) ys))

-- NUMBERS

rising_more : (last high : ℕ) (word : Word) (behind : List ℕ)
    → rising_from last high (word ∷ fields behind) ≡ in_front (number_within (last + 1) high (plain_number word)) (λ n. rising_from n high (fields behind))
rising_more last high word behind =
    let h = has_word behind in
    ap (λ (ws : List Word). rising_from last high (word ∷ ws)) h.2
    ∙ sym (ap (λ (ws : List Word). in_front (number_within (last + 1) high (plain_number word)) (λ n. rising_from n high ws)) h.2)

pub rising_step : (whole : Option (List ℕ)) (ns : List ℕ) (last high n : ℕ) (words : List Word) (word : Word) (behind : List ℕ)
    → whole ≡ option_map (λ ms. ns ++ ms) (rising_from last high words) → words ≡ word ∷ fields behind → Some n ≡ number_within (last + 1) high (plain_number word)
    → whole ≡ option_map (λ ms. (ns ++ n ∷ []) ++ ms) (rising_from n high (fields behind))
rising_step whole ns last high n words word behind told e is =
    told ∙ ap (λ (ws : List Word). option_map (λ ms. ns ++ ms) (rising_from last high ws)) e
    ∙ ap (λ (o : Option (List ℕ)). option_map (λ ms. ns ++ ms) o) (rising_more last high word behind)
    ∙ ap (λ (o : Option ℕ). option_map (λ ms. ns ++ ms) (in_front o (λ m. rising_from m high (fields behind)))) (sym is)
    ∙ one_more ns n (rising_from n high (fields behind))

pub rising_none : (whole : Option (List ℕ)) (ns : List ℕ) (last high : ℕ) (words : List Word) (word : Word) (behind : List ℕ)
    → whole ≡ option_map (λ ms. ns ++ ms) (rising_from last high words) → words ≡ word ∷ fields behind → None ≡ number_within (last + 1) high (plain_number word) → None ≡ whole
rising_none whole ns last high words word behind told e is = sym (
    told ∙ ap (λ (ws : List Word). option_map (λ ms. ns ++ ms) (rising_from last high ws)) e
    ∙ ap (λ (o : Option (List ℕ)). option_map (λ ms. ns ++ ms) o) (rising_more last high word behind)
    ∙ ap (λ (o : Option ℕ). option_map (λ ms. ns ++ ms) (in_front o (λ m. rising_from m high (fields behind)))) (sym is))

-- what was read lies within the bounds
pub number_high : (low high n : ℕ) (o : Option ℤ) → Some n ≡ number_within low high o → n ≤ high
number_high low high n None e = absurd (let f : ⊥ = cc in f)
number_high low high n (Some (negsuc k)) e = absurd (let f : ⊥ = cc in f)
number_high low high n (Some (pos m)) e = by_test (is_between low high m) refl e
  where
    by_test : (b : Bool) → is_between low high m ≡ b → Some n ≡ cond b (Some m) None → n ≤ high
    by_test true t h = let same : n ≡ m = cc in omega (arith, leb-true m high (and_true _ _ t).1, same)
    by_test false t h = absurd (let f : ⊥ = cc in f)

-- LITERALS

literals_more : (rising : Bool) (n last : ℕ) (word : Word) (behind : List ℕ)
    → literals_from rising n last (word ∷ fields behind) ≡ in_front (in_order rising last (literal_within n (plain_number word))) (λ l. literals_from rising n (variable l) (fields behind))
literals_more rising n last word behind =
    let h = has_word behind in
    ap (λ (ws : List Word). literals_from rising n last (word ∷ ws)) h.2
    ∙ sym (ap (λ (ws : List Word). in_front (in_order rising last (literal_within n (plain_number word))) (λ l. literals_from rising n (variable l) ws)) h.2)

literals_as : (whole : Option (List ℤ)) (ls : List ℤ) (rising : Bool) (n last : ℕ) (words : List Word) (word : Word) (behind : List ℕ) (o : Option ℤ)
    → whole ≡ option_map (λ ms. ls ++ ms) (literals_from rising n last words) → words ≡ word ∷ fields behind → o ≡ in_order rising last (literal_within n (plain_number word))
    → whole ≡ option_map (λ ms. ls ++ ms) (in_front o (λ l. literals_from rising n (variable l) (fields behind)))
literals_as whole ls rising n last words word behind o told e is =
    told ∙ ap (λ (ws : List Word). option_map (λ ms. ls ++ ms) (literals_from rising n last ws)) e
    ∙ ap (λ (p : Option (List ℤ)). option_map (λ ms. ls ++ ms) p) (literals_more rising n last word behind)
    ∙ ap (λ (p : Option ℤ). option_map (λ ms. ls ++ ms) (in_front p (λ l. literals_from rising n (variable l) (fields behind)))) (sym is)

pub literals_step : (whole : Option (List ℤ)) (ls : List ℤ) (rising : Bool) (n last : ℕ) (l : ℤ) (words : List Word) (word : Word) (behind : List ℕ)
    → whole ≡ option_map (λ ms. ls ++ ms) (literals_from rising n last words) → words ≡ word ∷ fields behind → Some l ≡ in_order rising last (literal_within n (plain_number word))
    → whole ≡ option_map (λ ms. (ls ++ l ∷ []) ++ ms) (literals_from rising n (variable l) (fields behind))
literals_step whole ls rising n last l words word behind told e is =
    literals_as whole ls rising n last words word behind (Some l) told e is ∙ one_more ls l (literals_from rising n (variable l) (fields behind))

pub literals_none : (whole : Option (List ℤ)) (ls : List ℤ) (rising : Bool) (n last : ℕ) (words : List Word) (word : Word) (behind : List ℕ)
    → whole ≡ option_map (λ ms. ls ++ ms) (literals_from rising n last words) → words ≡ word ∷ fields behind → None ≡ in_order rising last (literal_within n (plain_number word)) → None ≡ whole
literals_none whole ls rising n last words word behind told e is = sym (literals_as whole ls rising n last words word behind None told e is)

-- a literal that may follow, and one that may not
pub literal_follows : (rising : Bool) (last : ℕ) (l : ℤ) (o : Option ℤ) (b : Bool) → Some l ≡ o → b ≡ (not rising || nat_lt last (variable l)) → b ≡ true → Some l ≡ in_order rising last o
literal_follows rising last l o b is test may =
    sym (ap (in_order rising last) (sym is) ∙ ap (λ (t : Bool). cond t (Some l) None) (sym test ∙ may))

pub literal_stays : (rising : Bool) (last : ℕ) (l : ℤ) (o : Option ℤ) (b : Bool) → Some l ≡ o → b ≡ (not rising || nat_lt last (variable l)) → b ≡ false → None ≡ in_order rising last o
literal_stays rising last l o b is test mays =
    sym (ap (in_order rising last) (sym is) ∙ ap (λ (t : Bool). cond t (Some l) None) (sym test ∙ mays))

-- CLAUSES

clause_more : (n : ℕ) (clause : List ℤ) (word : Word) (behind : List ℕ)
    → clause_from n clause (word ∷ fields behind) ≡ in_front (if_new clause (literal_within n (plain_number word))) (λ l. clause_from n (clause ++ l ∷ []) (fields behind))
clause_more n clause word behind =
    let h = has_word behind in
    ap (λ (ws : List Word). clause_from n clause (word ∷ ws)) h.2
    ∙ sym (ap (λ (ws : List Word). in_front (if_new clause (literal_within n (plain_number word))) (λ l. clause_from n (clause ++ l ∷ []) ws)) h.2)

clause_as : (whole : Option (List ℤ)) (ls : List ℤ) (n : ℕ) (words : List Word) (word : Word) (behind : List ℕ) (o : Option ℤ)
    → whole ≡ option_map (λ ms. ls ++ ms) (clause_from n ls words) → words ≡ word ∷ fields behind → o ≡ if_new ls (literal_within n (plain_number word))
    → whole ≡ option_map (λ ms. ls ++ ms) (in_front o (λ l. clause_from n (ls ++ l ∷ []) (fields behind)))
clause_as whole ls n words word behind o told e is =
    told ∙ ap (λ (ws : List Word). option_map (λ ms. ls ++ ms) (clause_from n ls ws)) e
    ∙ ap (λ (p : Option (List ℤ)). option_map (λ ms. ls ++ ms) p) (clause_more n ls word behind)
    ∙ ap (λ (p : Option ℤ). option_map (λ ms. ls ++ ms) (in_front p (λ l. clause_from n (ls ++ l ∷ []) (fields behind)))) (sym is)

pub clause_step : (whole : Option (List ℤ)) (ls : List ℤ) (n : ℕ) (l : ℤ) (words : List Word) (word : Word) (behind : List ℕ)
    → whole ≡ option_map (λ ms. ls ++ ms) (clause_from n ls words) → words ≡ word ∷ fields behind → Some l ≡ literal_within n (plain_number word) → contains ls l ≡ false
    → whole ≡ option_map (λ ms. (ls ++ l ∷ []) ++ ms) (clause_from n (ls ++ l ∷ []) (fields behind))
clause_step whole ls n l words word behind told e is new =
    clause_as whole ls n words word behind (Some l) told e (sym (ap (if_new ls) (sym is) ∙ ap (λ (b : Bool). cond b None (Some l)) new))
    ∙ one_more ls l (clause_from n (ls ++ l ∷ []) (fields behind))

pub clause_none : (whole : Option (List ℤ)) (ls : List ℤ) (n : ℕ) (words : List Word) (word : Word) (behind : List ℕ)
    → whole ≡ option_map (λ ms. ls ++ ms) (clause_from n ls words) → words ≡ word ∷ fields behind → None ≡ literal_within n (plain_number word) → whole ≡ None
clause_none whole ls n words word behind told e is = clause_as whole ls n words word behind None told e (ap (if_new ls) is)
