-- The lines of a document and of a core before the problem line are comments.
use Rattle.std.proofs.Common.{◌≡◌, ℕ, ◌∙◌, Bool, true, List, [], ◌∷◌, ◌++◌, map, flat_map, refl, ℤ, Option, Some, None, codes}
use Rattle.std.specs.List.{list_all}
use Rattle.std.specs.Fmt.{decimal, signed_decimal}
use Rattle.std.proofs.lemmas.Bool.{and_from}
use Rattle.std.proofs.lemmas.List.Folds.{list_all-append}
use Rattle.lk_model.specs.Texts.Lines.{Word}
use Rattle.lk_model.specs.Texts.PlainText.{ended, literal_words, number_words}
use Rattle.lk_model.specs.Documents.Text.{comment, pair_line, own_line, row_line, stage_line, dual_line, unit_line, step_line, round_lines, class_word, class_lines, version, protect_lines, first_lines}
use Rattle.lk_model.specs.Documents.CoreText.{core_line, without_line}
use Rattle.lk_model.specs.declared.class.Class.{Class}
use Rattle.lk_model.specs.declared.class.Class.TheVariants as class
use Rattle.lk_model.specs.declared.document.Weight.{Weight}
use Rattle.lk_model.specs.declared.document.Stage.{Stage}
use Rattle.lk_model.specs.declared.document.Share.{Share}
use Rattle.lk_model.specs.declared.document.Unit.{Unit}
use Rattle.lk_model.specs.declared.document.Turn.{Turn}
use Rattle.lk_model.specs.declared.document.Step.{Step}
use Rattle.lk_model.specs.declared.document.Round.{Round}
use Rattle.lk_model.specs.declared.document.Without.{Without}
use Rattle.lk_model.specs.declared.document.Body.{Body}
use Rattle.lk_model.specs.declared.document.Body.TheVariants.{Pure, Matching, Linear, General}
use Rattle.text_laws.proofs.Words.{is_word, are_words}
use Rattle.text_laws.proofs.Lines.{is_comment_line}
use Rattle.text_laws.proofs.Numbers.{decimal_word, signed_word}
use Rattle.text_laws.proofs.Plain.{words_signed, words_ended}

abbrev pub are_comments : List (List Word) → Bool
are_comments lines = list_all is_comment_line lines

-- WORDS

word_more : (word : Word) (words : List Word) → is_word word ≡ true → are_words words ≡ true → are_words (word ∷ words) ≡ true
word_more word words h g = and_from (is_word word) (are_words words) h g

words_join : (us vs : List Word) → are_words us ≡ true → are_words vs ≡ true → are_words (us ++ vs) ≡ true
words_join us vs h g = list_all-append is_word us vs ∙ and_from (are_words us) (are_words vs) h g

words_natural : (ns : List ℕ) → are_words (number_words ns) ≡ true
words_natural [] = refl
words_natural (n ∷ ns) = word_more (decimal n) (number_words ns) (decimal_word n) (words_natural ns)

-- a natural number and a signed one, and the other way round
two_words : (n : ℕ) (x : ℤ) (words : List Word) → are_words words ≡ true → are_words (decimal n ∷ signed_decimal x ∷ words) ≡ true
two_words n x words h = word_more (decimal n) (signed_decimal x ∷ words) (decimal_word n) (word_more (signed_decimal x) words (signed_word x) h)

words_each : {X : Type 0} (f : X → List Word) → ((x : X) → are_words (f x) ≡ true) → (xs : List X) → are_words (flat_map f xs) ≡ true
words_each f h [] = refl
words_each f h (x ∷ xs) = words_join (f x) (flat_map f xs) (h x) (words_each f h xs)

-- LINES

comment_of : (keyword : Word) (words : List Word) → is_word keyword ≡ true → are_words words ≡ true → is_comment_line (comment keyword words) ≡ true
comment_of keyword words h g = word_more keyword words h g

comment_more : (words : List Word) (lines : List (List Word)) → is_comment_line words ≡ true → are_comments lines ≡ true → are_comments (words ∷ lines) ≡ true
comment_more words lines h g = and_from (is_comment_line words) (are_comments lines) h g

pub comments_join : (ls ms : List (List Word)) → are_comments ls ≡ true → are_comments ms ≡ true → are_comments (ls ++ ms) ≡ true
comments_join ls ms h g = list_all-append is_comment_line ls ms ∙ and_from (are_comments ls) (are_comments ms) h g

comments_each : {X : Type 0} (f : X → List Word) → ((x : X) → is_comment_line (f x) ≡ true) → (xs : List X) → are_comments (map f xs) ≡ true
comments_each f h [] = refl
comments_each f h (x ∷ xs) = comment_more (f x) (map f xs) (h x) (comments_each f h xs)

stage_comment : (s : Stage) → is_comment_line (stage_line s) ≡ true
stage_comment s =
    let words = flat_map (λ (w : Weight). decimal w.var ∷ signed_decimal w.x ∷ []) s.weights in
    comment_of (codes "stage") (ended words) refl (words_ended words (words_each (λ (w : Weight). decimal w.var ∷ signed_decimal w.x ∷ []) (λ w. two_words w.var w.x [] refl) s.weights))

unit_comment : (u : Unit) → is_comment_line (unit_line u) ≡ true
unit_comment u =
    let words = flat_map (λ (s : Share). decimal s.pos ∷ signed_decimal s.z ∷ []) u.shares in
    comment_of (codes "unit") (decimal u.var ∷ signed_decimal u.d ∷ ended words) refl
    (two_words u.var u.d (ended words) (words_ended words (words_each (λ (s : Share). decimal s.pos ∷ signed_decimal s.z ∷ []) (λ s. two_words s.pos s.z [] refl) u.shares)))

step_comment : (s : Step) → is_comment_line (step_line s) ≡ true
step_comment s =
    let words = flat_map (λ (t : Turn). signed_decimal t.lit ∷ decimal t.with ∷ []) s.turns in
    let turn : (t : Turn) → are_words (signed_decimal t.lit ∷ decimal t.with ∷ []) ≡ true =
    λ t. word_more (signed_decimal t.lit) (decimal t.with ∷ []) (signed_word t.lit) (words_natural (t.with ∷ [])) in
    let turns = words_ended words (words_each (λ (t : Turn). signed_decimal t.lit ∷ decimal t.with ∷ []) turn s.turns) in
    comment_of (codes "step") (decimal s.number ∷ literal_words s.clause ++ decimal s.first ∷ ended words) refl
    (word_more (decimal s.number) (literal_words s.clause ++ decimal s.first ∷ ended words) (decimal_word s.number)
    (words_join (literal_words s.clause) (decimal s.first ∷ ended words) (words_ended (map signed_decimal s.clause) (words_signed s.clause))
    (word_more (decimal s.first) (ended words) (decimal_word s.first) turns)))

pub round_comments : (r : Round) → are_comments (round_lines r) ≡ true
round_comments r = comment_more (comment (codes "round") []) (map step_line r.steps) refl (comments_each step_line step_comment r.steps)

pub rounds_comments : (rounds : List Round) → are_comments (flat_map round_lines rounds) ≡ true
rounds_comments [] = refl
rounds_comments (r ∷ rounds) = comments_join (round_lines r) (flat_map round_lines rounds) (round_comments r) (rounds_comments rounds)

-- THE SECTIONS OF A DOCUMENT

pub class_comments : (body : Body) → are_comments (class_lines body) ≡ true
class_comments (Pure order pairs) =
    comment_more (comment (codes "order") (literal_words order)) (map pair_line pairs)
    (comment_of (codes "order") (literal_words order) refl (words_ended (map signed_decimal order) (words_signed order)))
    (comments_each pair_line (λ q. comment_of (codes "pair") (number_words (q.var ∷ q.with ∷ q.against ∷ [])) refl (words_natural (q.var ∷ q.with ∷ q.against ∷ []))) pairs)
class_comments (Matching own rows) =
    comments_join (map own_line own) (map row_line rows)
    (comments_each own_line (λ o. comment_of (codes "own") (number_words (o.pos ∷ o.var ∷ [])) refl (words_natural (o.pos ∷ o.var ∷ []))) own)
    (comments_each row_line (λ r. comment_of (codes "row") (number_words (r.var ∷ r.own ∷ r.escape ∷ r.rank ∷ [])) refl (words_natural (r.var ∷ r.own ∷ r.escape ∷ r.rank ∷ []))) rows)
class_comments (Linear stages dual units) =
    comments_join (map stage_line stages ++ map dual_line dual) (map unit_line units)
    (comments_join (map stage_line stages) (map dual_line dual) (comments_each stage_line stage_comment stages)
    (comments_each dual_line (λ y. comment_of (codes "dual") (decimal y.pos ∷ signed_decimal y.y ∷ []) refl (two_words y.pos y.y [] refl)) dual))
    (comments_each unit_line unit_comment units)
class_comments (General rounds) = rounds_comments rounds

pub class_is_word : (class : Class) → is_word (class_word class) ≡ true
class_is_word class.Pure = refl
class_is_word class.Matching = refl
class_is_word class.Linear = refl
class_is_word class.General = refl

pub keep_comment : (kept : List ℕ) → is_comment_line (comment (codes "keep") (ended (number_words kept))) ≡ true
keep_comment kept = comment_of (codes "keep") (ended (number_words kept)) refl (words_ended (number_words kept) (words_natural kept))

pub set_comment : (set : List ℤ) → is_comment_line (comment (codes "set") (literal_words set)) ≡ true
set_comment set = comment_of (codes "set") (literal_words set) refl (words_ended (map signed_decimal set) (words_signed set))

pub learned_comment : (n : ℕ) → is_comment_line (comment (codes "learned") (number_words (n ∷ []))) ≡ true
learned_comment n = comment_of (codes "learned") (number_words (n ∷ [])) refl (words_natural (n ∷ []))

version_word : (protect : Option (List ℕ)) → is_word (version protect) ≡ true
version_word None = refl
version_word (Some vars) = refl

protect_comments : (protect : Option (List ℕ)) → are_comments (protect_lines protect) ≡ true
protect_comments None = refl
protect_comments (Some vars) =
    comment_more (comment (codes "protect") (ended (number_words vars))) []
    (comment_of (codes "protect") (ended (number_words vars)) refl (words_ended (number_words vars) (words_natural vars))) refl

pub first_comments : (word : Word) (n m : ℕ) (protect : Option (List ℕ)) → is_word word ≡ true → are_comments (first_lines word n m protect) ≡ true
first_comments word n m protect h =
    comment_more (comment (codes "leank") (version protect ∷ word ∷ [])) (comment (codes "formula") (number_words (n ∷ m ∷ [])) ∷ protect_lines protect)
    (comment_of (codes "leank") (version protect ∷ word ∷ []) refl (word_more (version protect) (word ∷ []) (version_word protect) (word_more word [] h refl)))
    (comment_more (comment (codes "formula") (number_words (n ∷ m ∷ []))) (protect_lines protect)
    (comment_of (codes "formula") (number_words (n ∷ m ∷ [])) refl (words_natural (n ∷ m ∷ [])))
    (protect_comments protect))

-- THE SECTIONS OF A CORE

pub core_comment : (core : List ℕ) → is_comment_line (core_line core) ≡ true
core_comment core = comment_of (codes "core") (ended (number_words core)) refl (words_ended (number_words core) (words_natural core))

without_comment : (w : Without) → is_comment_line (without_line w) ≡ true
without_comment w =
    comment_of (codes "without") (decimal w.pos ∷ literal_words w.lits) refl
    (word_more (decimal w.pos) (literal_words w.lits) (decimal_word w.pos) (words_ended (map signed_decimal w.lits) (words_signed w.lits)))

pub without_comments : (ws : List Without) → are_comments (map without_line ws) ≡ true
without_comments ws = comments_each without_line without_comment ws
