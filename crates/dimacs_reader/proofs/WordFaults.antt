-- The faults of words that stand after earlier ones.
use Rattle.std.proofs.Common.{◌≡◌, ℕ, ◌<◌, not, ◌&&◌, List, [], ◌∷◌, ◌++◌, length, refl, sym, ◌∙◌, ap, arith, append_assoc, ℤ, Option, Some, None, nat_le, nat_lt, count_by}
use Rattle.std.specs.Prelude.{flat_map}
use Rattle.std.proofs.lemmas.List.{append-nil}
use Rattle.lk_model.specs.Formulas.Literal.{variable}
use Rattle.lk_model.specs.Limits.{max_literals}
use Rattle.lk_model.specs.Lists.{with_earlier, is_zero, is_nonzero}
use Rattle.lk_model.specs.Texts.Lines.{Piece}
use Rattle.lk_model.specs.Texts.NumberWords.{number}
use Rattle.lk_model.specs.Texts.Dimacs.{runs_of}
use Rattle.lk_model.specs.Texts.Fault.{fault_if, number_faults, word_faults, numbers_of, least}
use Rattle.lk_model.specs.declared.text_fault.Fault.{Fault}
use Rattle.lk_model.specs.declared.text_fault.FaultKind.TheVariants.{BeyondStated, TooManyClauses, TooFewClauses, Limit}
use Rattle.dimacs_reader.specs.FirstFaults.{first_or, or_behind, fault_among}
use Rattle.dimacs_reader.proofs.Least.{Above, At, above_append, above_at, above_less, within_at, at_append, at_fault_if, least_midst, least_at}
use Rattle.dimacs_reader.proofs.Placing.{AreWords, words_order}

-- the faults of words that stand after earlier ones and go on to the place at the end
abbrev pub faults_of : ℕ → ℕ → List Piece → List Piece → ℕ → List Fault
faults_of vars clauses earlier words end =
    flat_map (word_faults vars clauses) (with_earlier earlier words)
    ++ fault_if (nat_lt (length (runs_of (numbers_of (earlier ++ words)))) clauses) TooFewClauses end

-- the faults of the first word, and of those after it
pub faults_first : (vars clauses : ℕ) (earlier : List Piece) (word : Piece) (words : List Piece) (end : ℕ)
    → faults_of vars clauses earlier (word ∷ words) end ≡ word_faults vars clauses (earlier, word) ++ faults_of vars clauses (earlier ++ word ∷ []) words end
faults_first vars clauses earlier word words end =
    let here = word_faults vars clauses (earlier, word) in
    let later = flat_map (word_faults vars clauses) (with_earlier (earlier ++ word ∷ []) words) in
    ap (λ (ws : List Piece). here ++ later ++ fault_if (nat_lt (length (runs_of (numbers_of ws))) clauses) TooFewClauses end) (sym (append_assoc earlier (word ∷ []) words))
    ∙ append_assoc here later (fault_if (nat_lt (length (runs_of (numbers_of (earlier ++ word ∷ [] ++ words)))) clauses) TooFewClauses end)

-- the faults of a number stand at one place
number_at : (vars clauses : ℕ) (earlier : List ℤ) (o : Option ℤ) (place : ℕ) → At place (number_faults vars clauses earlier o place)
number_at vars clauses earlier None place = (refl, tt)
number_at vars clauses earlier (Some x) place =
    at_append place _ _
    (at_append place _ _ (at_fault_if (nat_le clauses (count_by is_zero earlier)) TooManyClauses place) (at_fault_if (nat_lt vars (variable x)) BeyondStated place))
    (at_fault_if (not (is_zero x) && nat_le max_literals (count_by is_nonzero earlier)) Limit place)

-- the faults of a word stand at its last byte
pub word_at : (vars clauses : ℕ) (earlier : List Piece) (word : Piece) → At word.last (word_faults vars clauses (earlier, word))
word_at vars clauses earlier word = number_at vars clauses (numbers_of earlier) (number word.bytes) word.last

-- faults of words stand after the place before the words
pub faults_above : (vars clauses n : ℕ) (words : List Piece) (last : ℕ) (more : List Piece) (end : ℕ) → AreWords n words last
    → ((earlier : List Piece) → Above last (faults_of vars clauses earlier more end))
    → (earlier : List Piece) → Above n (faults_of vars clauses earlier (words ++ more) end)
faults_above vars clauses n [] last more end a later earlier = above_less n last (faults_of vars clauses earlier more end) a (later earlier)
faults_above vars clauses n (word ∷ words) last more end a later earlier =
    let b = a.0 in
    let c = a.1 in
    let order : n < word.last = omega (arith, b, c) in
    rw (faults_first vars clauses earlier word (words ++ more) end)
    (above_append n _ _ (above_at n word.last (word_faults vars clauses (earlier, word)) order (word_at vars clauses earlier word))
    (above_less n word.last (faults_of vars clauses (earlier ++ word ∷ []) (words ++ more) end) (omega (arith, order))
    (faults_above vars clauses word.last words last more end a.2 later (earlier ++ word ∷ []))))

-- what comes after what comes after
or_first : (fs : List Fault) (second third : Option Fault) → or_behind (first_or fs second) third ≡ first_or fs (or_behind second third)
or_first [] second third = refl
or_first (f ∷ fs) second third = refl

-- the least fault is the first one among the words, or else the least of the others
pub least_words : (vars clauses n : ℕ) (others : List Fault) (words : List Piece) (last : ℕ) (more : List Piece) (end : ℕ) → AreWords n words last → Above last others
    → ((earlier : List Piece) → Above last (faults_of vars clauses earlier more end)) → (earlier : List Piece)
    → least (others ++ faults_of vars clauses earlier (words ++ more) end)
    ≡ or_behind (fault_among vars clauses earlier words) (least (others ++ faults_of vars clauses (earlier ++ words) more end))
least_words vars clauses n others [] last more end a b later earlier =
    ap (λ (ws : List Piece). least (others ++ faults_of vars clauses ws more end)) (sym (append-nil earlier))
least_words vars clauses n others (word ∷ words) last more end a b later earlier =
    let here = word_faults vars clauses (earlier, word) in
    let next = earlier ++ word ∷ [] in
    let rest = faults_of vars clauses next (words ++ more) end in
    let order = words_order word.last words last a.2 in
    ap (λ (fs : List Fault). least (others ++ fs)) (faults_first vars clauses earlier word (words ++ more) end)
    ∙ least_midst word.last others here rest (above_less word.last last others order b)
    (within_at word.last word.last here (omega arith) (word_at vars clauses earlier word))
    (faults_above vars clauses word.last words last more end a.2 later next)
    ∙ least_at word.last here (least (others ++ rest)) (word_at vars clauses earlier word)
    ∙ ap (first_or here) (least_words vars clauses word.last others words last more end a.2 b later next)
    ∙ sym (or_first here (fault_among vars clauses next words) (least (others ++ faults_of vars clauses (next ++ words) more end)))
    ∙ ap (λ (ws : List Piece). or_behind (first_or here (fault_among vars clauses next words)) (least (others ++ faults_of vars clauses ws more end)))
    (append_assoc earlier (word ∷ []) words)

-- the first fault of one word stands at its last byte
pub fault_place : (vars clauses : ℕ) (earlier : List Piece) (word : Piece) (f : Fault) → fault_among vars clauses earlier (word ∷ []) ≡ Some f → f.place ≡ word.last
fault_place vars clauses earlier word f e = by_list (word_faults vars clauses (earlier, word)) (word_at vars clauses earlier word) e
  where
    by_list : (fs : List Fault) → At word.last fs → first_or fs None ≡ Some f → f.place ≡ word.last
    by_list [] a e = absurd (let g : ⊥ = cc in g)
    by_list (g ∷ fs) a e = let same : f ≡ g = cc in ap (λ (h : Fault). h.place) same ∙ a.0
