-- From one option to the next.
use Rattle.std.proofs.Common.{◌≡◌, ℕ, zero, suc, ◌+◌, ◌<◌, ◌≤◌, ◌∙◌, Bool, true, false, not, ◌&&◌, ◌||◌, List, [], ◌∷◌, length, take, drop, get_or, drop-drop, Option, Some, None, refl, ap, sym, arith, inl, inr, option_map, is_some, Bor}
use Rattle.std.specs.List.{list_all}
use Rattle.std.specs.Str.{bytes_eq}
use Rattle.std.proofs.lemmas.Bool.{cases_Bool}
use Rattle.std.proofs.lemmas.List.{length-drop, length-map}
use Rattle.std.proofs.Math.Bool.{or-true}
use Rattle.lk_model.specs.Texts.Lines.{Word}
use Rattle.lk_model.proofs.Booleans.{and_true}
use Rattle.command_words.specs.Shapes.{keys_of}
use Rattle.command_words.specs.Settings.{Key, conflicts, pivots, workers, protect, every_option, options_of, listed, value_behind}
use Rattle.command_words.specs.OptionRows.{given_by}
use Rattle.command_words.specs.OptionPlaces.{has, is_word_of, is_new, is_new_first, is_new_at, is_value, is_value_first, refused_place}
use Rattle.command_words.specs.declared.command.Command.{Command}
use Rattle.command_words.proofs.CommandTable.{apart}
use Rattle.command_words.proofs.LawfulOptions.{fits, all_pass, fit_options}
use Rattle.command_words.proofs.OptionWords.{agrees, number_is}
use Rattle.command_words.proofs.Texts.{texts, text_at, one_more, no_more}

-- the place among all words, of the one among those from a place on
abbrev GoesOn : List Key → List Word → List Word → ℕ → Type 0
GoesOn keys words before place = refused_place keys [] words ≡ option_map (λ i. i + place) (refused_place keys before (drop place words))

begin : (keys : List Key) (words : List Word) → GoesOn keys words [] 0
begin keys words = plus_none (refused_place keys [] words)
  where
    plus_none : (x : Option ℕ) → x ≡ option_map (λ i. i + 0) x
    plus_none None = refl
    plus_none (Some i) = ap Some (omega arith)

-- what goes on after a place depends on the words from there on alone
from_there : (keys : List Key) (words before : List Word) (place : ℕ) (rest : List Word) → GoesOn keys words before place → drop place words ≡ rest → refused_place keys [] words ≡ option_map (λ i. i + place) (refused_place keys before rest)
from_there keys words before place rest on here = on ∙ ap (λ (ws : List Word). option_map (λ i. i + place) (refused_place keys before ws)) here

-- here is a word that is not new
stops_here : (keys : List Key) (words before : List Word) (place : ℕ) (word : Word) (rest : List Word) → GoesOn keys words before place → drop place words ≡ word ∷ rest → is_new keys before word ≡ false → refused_place keys [] words ≡ Some place
stops_here keys words before place word [] on here old = from_there keys words before place (word ∷ []) on here ∙ rw old (ap Some (omega arith))
stops_here keys words before place word (value ∷ rest) on here old = from_there keys words before place (word ∷ value ∷ rest) on here ∙ rw old (ap Some (omega arith))

-- the value is missing
stops_at_end : (keys : List Key) (words before : List Word) (place : ℕ) (word : Word) → GoesOn keys words before place → drop place words ≡ word ∷ [] → is_new keys before word ≡ true → refused_place keys [] words ≡ Some (place + 1)
stops_at_end keys words before place word on here new = from_there keys words before place (word ∷ []) on here ∙ rw new (ap Some (omega arith))

-- the value is none
stops_behind : (keys : List Key) (words before : List Word) (place : ℕ) (word value : Word) (rest : List Word) → GoesOn keys words before place → drop place words ≡ word ∷ value ∷ rest → is_new keys before word ≡ true → is_value keys word value ≡ false → refused_place keys [] words ≡ Some (place + 1)
stops_behind keys words before place word value rest on here new bad = from_there keys words before place (word ∷ value ∷ rest) on here ∙ rw (new, bad) (ap Some (omega arith))

-- both pass
goes_on : (keys : List Key) (words before : List Word) (place : ℕ) (word value : Word) → GoesOn keys words before place → drop place words ≡ word ∷ value ∷ drop (place + 2) words → is_new keys before word ≡ true → is_value keys word value ≡ true → GoesOn keys words (word ∷ before) (place + 2)
goes_on keys words before place word value on here new good =
    from_there keys words before place (word ∷ value ∷ drop (place + 2) words) on here ∙ rw (new, good) (plus_two (refused_place keys (word ∷ before) (drop (place + 2) words)))
  where
    plus_two : (x : Option ℕ) → option_map (λ i. i + place) (option_map (λ i. i + 2) x) ≡ option_map (λ i. i + (place + 2)) x
    plus_two None = refl
    plus_two (Some i) = ap Some (omega arith)

-- WHAT WAS GIVEN SO FAR

abbrev doubled : ℕ → ℕ
doubled zero = zero
doubled (suc k) = suc (suc (doubled k))

-- after pairs of words, one pair more
given_more : (k : ℕ) (words rest : List Word) (word value w : Word) → drop (doubled k) words ≡ word ∷ value ∷ rest
    → is_some (value_behind w (take (suc (suc (doubled k))) words)) ≡ (bytes_eq word w || is_some (value_behind w (take (doubled k) words)))
given_more zero [] rest word value w e = absurd (let f : ⊥ = cc e in f)
given_more zero (x ∷ []) rest word value w e = absurd (let f : ⊥ = cc e in f)
given_more zero (x ∷ y ∷ words) rest word value w e =
    let first : x ≡ word = cc e in
    ap (λ (v : Word). is_some (value_behind w (v ∷ y ∷ []))) first ∙ elim (cases_Bool (bytes_eq word w)) [ inl t ↦ rw t refl | inr f ↦ rw f refl ]
given_more (suc k) [] rest word value w e = absurd (let f : ⊥ = cc e in f)
given_more (suc k) (x ∷ []) rest word value w e =
    let size = ap (λ (ws : List Word). length ws) e in
    absurd (omega (arith, size, length-drop (suc (suc (doubled k))) (x ∷ [])))
given_more (suc k) (x ∷ y ∷ words) rest word value w e =
    let later = given_more k words rest word value w e in
    elim (cases_Bool (bytes_eq x w)) [
      | inl t ↦ rw t (sym (or-true (bytes_eq word w)))
      | inr f ↦ rw f later
    ]

-- The options before a place may stand there: they are pairs of words, a value is given for an option just where its word is
-- among them, and the others decide whether all may stand.
pub record Holds (command : Command) (words : List Word) (place : ℕ) : Type 0 where
  pub before : List Word
  pub on : GoesOn (keys_of command) words before place
  pub taken : (w : Word) → has before w ≡ is_some (value_behind w (take place words))
  pub pairs : ℕ
  pub even : place ≡ doubled pairs
  pub within : place ≤ length words

pub nothing : (command : Command) (words : List Word) → Holds command words 0
nothing command words = record {
  before = [];
  on = begin (keys_of command) words;
  taken = λ w. refl;
  pairs = 0;
  even = refl;
  within = omega arith;
}

-- whether the word at a place may stand there
new_here : (command : Command) (xs : List (Bor Word)) (place : ℕ) (h : Holds command (texts xs) place) (b : Bool) → place < length xs → b ≡ is_new_at (keys_of command) (texts xs) place → is_new (keys_of command) h.before (text_at xs place) ≡ b
new_here command xs place h b l e =
    ap (λ (t : Bool). is_word_of (keys_of command) (text_at xs place) && not t) (h.taken (text_at xs place))
    ∙ sym (ap (is_new_first (keys_of command) (take place (texts xs))) (one_more xs place l))
    ∙ sym e

-- as the code finds out
pub new_at : (keys : List Key) (xs : List (Bor Word)) (place : ℕ) (is given : Bool) → place < length xs → is ≡ is_word_of keys (text_at xs place) → given ≡ is_some (value_behind (text_at xs place) (take place (texts xs))) → (is && not given) ≡ is_new_at keys (texts xs) place
new_at keys xs place is given l e g =
    ap (λ (b : Bool). b && not given) e ∙ ap (λ (b : Bool). is_word_of keys (text_at xs place) && not b) g
    ∙ sym (ap (is_new_first keys (take place (texts xs))) (one_more xs place l))

-- HOW THE SEARCH ENDS

pub may_not : (command : Command) (xs : List (Bor Word)) (place : ℕ) → Holds command (texts xs) place → place < length xs → false ≡ is_new_at (keys_of command) (texts xs) place → refused_place (keys_of command) [] (texts xs) ≡ Some place
may_not command xs place h l old =
    stops_here (keys_of command) (texts xs) h.before place (text_at xs place) (drop (place + 1) (texts xs)) h.on (one_more xs place l) (new_here command xs place h false l old)

-- there is no value for it
pub no_value : (command : Command) (xs : List (Bor Word)) (place : ℕ) → Holds command (texts xs) place → place < length xs → true ≡ is_new_at (keys_of command) (texts xs) place
    → false ≡ is_value_first (keys_of command) (text_at xs place) (drop (place + 1) (texts xs)) → refused_place (keys_of command) [] (texts xs) ≡ Some (place + 1)
no_value command xs place h l new none = by (drop (place + 1) (texts xs)) (one_more xs place l) none
  where
    by : (rest : List Word) → drop place (texts xs) ≡ text_at xs place ∷ rest → false ≡ is_value_first (keys_of command) (text_at xs place) rest → refused_place (keys_of command) [] (texts xs) ≡ Some (place + 1)
    by [] here n = stops_at_end (keys_of command) (texts xs) h.before place (text_at xs place) h.on here (new_here command xs place h true l new)
    by (value ∷ rest) here n = stops_behind (keys_of command) (texts xs) h.before place (text_at xs place) value rest h.on here (new_here command xs place h true l new) (sym n)

-- AND GOES ON

two_behind : (place : ℕ) (words others : List Word) → drop place words ≡ others → drop (place + 2) words ≡ drop 2 others
two_behind place words others e = sym (drop-drop 2 place words) ∙ ap (drop 2) e

pub another : (command : Command) (xs : List (Bor Word)) (place : ℕ) → Holds command (texts xs) place → place < length xs → true ≡ is_new_at (keys_of command) (texts xs) place
    → true ≡ is_value_first (keys_of command) (text_at xs place) (drop (place + 1) (texts xs)) → Holds command (texts xs) (place + 2)
another command xs place h l new some = by (drop (place + 1) (texts xs)) refl some
  where
    by : (rest : List Word) → drop (place + 1) (texts xs) ≡ rest → true ≡ is_value_first (keys_of command) (text_at xs place) rest → Holds command (texts xs) (place + 2)
    by [] at s = absurd (let f : ⊥ = cc s in f)
    by (value ∷ rest) at s =
        let word = text_at xs place in
        let here : drop place (texts xs) ≡ word ∷ value ∷ rest = one_more xs place l ∙ ap (λ (ws : List Word). word ∷ ws) at in
        let two : drop (place + 2) (texts xs) ≡ rest = two_behind place (texts xs) (word ∷ value ∷ rest) here in
        let pairs = h.pairs in
        let even = h.even in
        let double : place + 2 ≡ suc (suc (doubled pairs)) = omega (arith, even) in
        let there : drop (doubled pairs) (texts xs) ≡ word ∷ value ∷ rest = ap (λ (n : ℕ). drop n (texts xs)) (sym even) ∙ here in
        let size = ap (λ (ws : List Word). length ws) at in
        record {
          before = word ∷ h.before;
          on = goes_on (keys_of command) (texts xs) h.before place word value h.on
              (here ∙ ap (λ (ws : List Word). word ∷ value ∷ ws) (sym two))
              (new_here command xs place h true l new) (sym s);
          taken = λ w.
              ap (λ (b : Bool). bytes_eq word w || b) (h.taken w ∙ ap (λ (n : ℕ). is_some (value_behind w (take n (texts xs)))) even)
              ∙ sym (given_more pairs (texts xs) rest word value w there)
              ∙ ap (λ (n : ℕ). is_some (value_behind w (take n (texts xs)))) (sym double);
          pairs = suc pairs;
          even = double;
          within = omega (arith, size, length-drop (place + 1) (texts xs));
        }

-- no option of a command has the word of another one
agreed : (command : Command) (place : ℕ) → place < length every_option → agrees (keys_of command) (get_or every_option place conflicts) ≡ true
agreed command place h = by every_option place h (apart command)
  where
    by : (options : List Key) (place : ℕ) → place < length options → list_all (agrees (keys_of command)) options ≡ true → agrees (keys_of command) (get_or options place conflicts) ≡ true
    by [] place h e = absurd (omega (arith, h))
    by (key ∷ options) zero h e = (and_true (agrees (keys_of command) key) (list_all (agrees (keys_of command)) options) e).0
    by (key ∷ options) (suc place) h e = by options place (omega (arith, h)) (and_true (agrees (keys_of command) key) (list_all (agrees (keys_of command)) options) e).1

-- nothing is left: each option that is a number is found by its place among all options
pub all_given : (command : Command) (xs : List (Bor Word)) (place : ℕ) → Holds command (texts xs) place → length xs ≤ place → options_of (keys_of command) (texts xs) ≡ Some (given_by (texts xs))
all_given command xs place h end =
    fit_options keys words fit
    ∙ ap Some (λ i. record {
      number = 0;
      conflicts = number_is keys words conflicts 100000 refl (agreed command 0 (omega arith)) fit i;
      pivots = number_is keys words pivots 100000 refl (agreed command 1 (omega arith)) fit i;
      workers = number_is keys words workers 1 refl (agreed command 2 (omega arith)) fit i;
      protect = option_map listed (value_behind protect.word words);
    })
  where
    keys : List Key
    keys = keys_of command

    words : List Word
    words = texts xs

    fit : fits keys [] words ≡ true
    fit = all_pass keys [] words (h.on ∙ ap (λ (ws : List Word). option_map (λ i. i + place) (refused_place keys h.before ws)) (no_more xs place end))

-- THE VALUE AFTER A WORD

-- it is among the words from a place on
pub record IsBehind (option : Word) (xs : List (Bor Word)) (place : ℕ) : Type 0 where
  pub same : value_behind option (texts xs) ≡ value_behind option (drop place (texts xs))
  pub within : place ≤ length xs

-- two words more
two_more : (xs : List (Bor Word)) (place : ℕ) → place + 1 < length xs → drop place (texts xs) ≡ text_at xs place ∷ text_at xs (place + 1) ∷ drop (place + 2) (texts xs)
two_more xs place h =
    one_more xs place (omega (arith, h))
    ∙ ap (λ (ws : List Word). text_at xs place ∷ ws) (one_more xs (place + 1) h ∙ ap (λ (n : ℕ). text_at xs (place + 1) ∷ drop n (texts xs)) (let c : place + 1 + 1 ≡ place + 2 = omega arith in c))

pub found_here : (option : Word) (xs : List (Bor Word)) (place : ℕ) → IsBehind option xs place → place + 1 < length xs → bytes_eq (text_at xs place) option ≡ true → Some (text_at xs (place + 1)) ≡ value_behind option (texts xs)
found_here option xs place b h e = sym (b.same ∙ rw (two_more xs place h, e) refl)

pub not_here : (option : Word) (xs : List (Bor Word)) (place : ℕ) → IsBehind option xs place → place + 1 < length xs → bytes_eq (text_at xs place) option ≡ false → IsBehind option xs (place + 2)
not_here option xs place b h e = record {
  same = b.same ∙ rw (two_more xs place h, e) refl;
  within = omega (arith, h);
}

pub nowhere : (option : Word) (xs : List (Bor Word)) (place : ℕ) → IsBehind option xs place → length xs ≤ place + 1 → None ≡ value_behind option (texts xs)
nowhere option xs place b h = sym (b.same ∙ short (drop place (texts xs)) (omega (arith, h, length-drop place (texts xs), length-map xs (λ (w : Bor Word). w.now))))
  where
    short : (ws : List Word) → length ws ≤ 1 → value_behind option ws ≡ None
    short [] h = refl
    short (w ∷ []) h = refl
    short (w ∷ v ∷ ws) h = absurd (omega (arith, h))
