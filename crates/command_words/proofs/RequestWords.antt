-- The words of a request, cut into those of its command, names and options.
use Rattle.std.proofs.Common.{◌≡◌, ℕ, ◌+◌, ◌-◌, ◌<◌, ◌≤◌, ◌∙◌, List, [], ◌∷◌, ◌++◌, length, take, drop, drop-drop, Option, Some, None, refl, ap, sym, subst, arith, option_map, slice_range, Bor}
use Rattle.std.proofs.lemmas.List.{drop-map, length-map, length-take-le, length-drop, take-append-drop, take_at, take_rest, map-append}
use Rattle.std.proofs.Math.Seq.{take-append-add}
use Rattle.lk_model.specs.Texts.Lines.{Word}
use Rattle.command_words.specs.Shapes.{words_of, number_of, keys_of}
use Rattle.command_words.specs.Settings.{Options, options_of}
use Rattle.command_words.specs.OptionPlaces.{refused_place}
use Rattle.command_words.specs.Lawful.{request_of, number_first, number_words, IsRefusedAt}
use Rattle.command_words.specs.Requests.{IsCommandOf}
use Rattle.command_words.specs.declared.command.Command.{Command}
use Rattle.command_words.specs.declared.range.Range.{Range}
use Rattle.command_words.proofs.CommonWords.{all_common, common_within}
use Rattle.command_words.proofs.LawfulLists.{arity, with_options, lawful_options, missing_name, refused_option, IsFront, words_alone, words_with_number, no_number}
use Rattle.command_words.proofs.Texts.{texts}

-- the words are those that stand before the names, names, and options
record IsCut (xs : List (Bor Word)) (c : Command) (front : List Word) (names options : List (Bor Word)) : Type 0 where
  pub count : length (texts names) ≡ arity c
  pub all : texts xs ≡ front ++ (texts names ++ texts options)

-- So many words stand before the names, with this number.
pub record IsOpened (xs : List (Bor Word)) (c : Command) (start n : ℕ) : Type 0 where
  pub within : start ≤ length xs
  pub front : IsFront c (take start (texts xs)) n

-- the command's words stand at the front, and after them its number, where it takes one
pub opened : (xs : List (Bor Word)) (c : Command) (numbers : Option Range) (front width n : ℕ) → IsCommandOf (texts xs) c → front ≡ length (words_of c) → numbers ≡ number_of c
    → Some n ≡ number_first numbers (drop front (texts xs)) → width ≡ number_words numbers → IsOpened xs c (front + width) n
opened xs c numbers front width n of at takes e wide = subst (λ (k : ℕ). IsOpened xs c (front + k) n) (sym wide) (by numbers (sym takes) (sym e))
  where
    size : length (words_of c) ≤ length xs
    size = let within = (common_within (texts xs) (words_of c)).0 in omega (arith, within, of, length-map xs (λ (w : Bor Word). w.now))

    first : take front (texts xs) ≡ words_of c
    first = ap (λ (ws : List Word). take front ws) (all_common (texts xs) (words_of c) of) ∙ take_at (words_of c) (drop (length (words_of c)) (texts xs)) front (sym at)

    with_word : (range : Range) (rest : List Word) → number_of c ≡ Some range → drop front (texts xs) ≡ rest → number_first (Some range) rest ≡ Some n → IsOpened xs c (front + 1) n
    with_word range [] takes here e = absurd (let f : ⊥ = cc e in f)
    with_word range (word ∷ rest) takes here e =
        let left = ap (λ (ws : List Word). length ws) here in
        let more = length-drop front (texts xs) in
        let same : take (front + 1) (texts xs) ≡ words_of c ++ word ∷ [] =
        ap (λ (ws : List Word). take (front + 1) ws) (sym (take-append-drop front (texts xs)) ∙ ap (λ (ws : List Word). take front (texts xs) ++ ws) here ∙ ap (λ (ws : List Word). ws ++ word ∷ rest) first)
        ∙ ap (λ (k : ℕ). take (k + 1) (words_of c ++ word ∷ rest)) at
        ∙ take-append-add (words_of c) (word ∷ rest) 1 in
        record {
          within = omega (arith, left, more, length-map xs (λ (w : Bor Word). w.now));
          front = subst (λ (ws : List Word). IsFront c ws n) (sym same) (words_with_number c range word n takes e);
        }

    by : (r : Option Range) → number_of c ≡ r → number_first r (drop front (texts xs)) ≡ Some n → IsOpened xs c (front + number_words r) n
    by None none e =
        let zero_is : 0 ≡ n = cc e in
        let end : front + 0 ≡ front = omega arith in
        record {
          within = omega (arith, size, at);
          front = subst (λ (k : ℕ). IsFront c (take k (texts xs)) n) (sym end) (subst (λ (ws : List Word). IsFront c ws n) (sym first) (subst (λ (k : ℕ). IsFront c (words_of c) k) zero_is (words_alone c none)));
        }
    by (Some range) takes e = with_word range (drop front (texts xs)) takes refl e

cut_at : (xs : List (Bor Word)) (c : Command) (start end n : ℕ) → IsOpened xs c start n → end ≡ start + arity c → end ≤ length xs → IsCut xs c (take start (texts xs)) (slice_range xs start end) (drop end xs)
cut_at xs c start end n opened to h = record {
  count = length-map (slice_range xs start end) (λ w. w.now) ∙ length-take-le (end - start) (drop start xs) (omega (arith, h, to, length-drop start xs)) ∙ omega (arith, to);
  all = sym (take-append-drop start (texts xs))
      ∙ ap (λ (ws : List Word). take start (texts xs) ++ ws) (drop-map (λ w. w.now) start xs ∙ ap texts rest ∙ map-append (λ w. w.now) (slice_range xs start end) (drop end xs));
}
  where
    rest : drop start xs ≡ slice_range xs start end ++ drop end xs
    rest =
        let sum : end - start + start ≡ end = omega (arith, to) in
        sym (take-append-drop (end - start) (drop start xs))
        ∙ ap (λ (ys : List (Bor Word)). slice_range xs start end ++ ys) (drop-drop (end - start) start xs ∙ ap (λ (n : ℕ). drop n xs) (omega (arith, to)))

-- how many words stand before the names
start_size : (xs : List (Bor Word)) (start : ℕ) → start ≤ length xs → length (take start (texts xs)) ≡ start
start_size xs start h = length-take-le start (texts xs) (omega (arith, h, length-map xs (λ (w : Bor Word). w.now)))

pub lawful_request : (xs : List (Bor Word)) (c : Command) (start end n : ℕ) (o : Options) → IsOpened xs c start n → end ≡ start + arity c → end ≤ length xs → options_of (keys_of c) (texts (take (length xs - end) (drop end xs))) ≡ Some o
    → request_of (texts xs) ≡ Some (with_options c n (texts (slice_range xs start end)) o)
lawful_request xs c start end n o opened to h e =
    let cut = cut_at xs c start end n opened to h in
    ap request_of cut.all ∙ lawful_options c (take start (texts xs)) n (texts (slice_range xs start end)) (texts (drop end xs)) opened.front.opens cut.count
    ∙ ap (option_map (with_options c n (texts (slice_range xs start end)))) (sym (ap (λ (ys : List (Bor Word)). options_of (keys_of c) (texts ys)) (take_rest xs end)) ∙ e)

pub refused_request : (xs : List (Bor Word)) (c : Command) (start end n i : ℕ) → IsOpened xs c start n → end ≡ start + arity c → end ≤ length xs → refused_place (keys_of c) [] (texts (take (length xs - end) (drop end xs))) ≡ Some i
    → IsRefusedAt (texts xs) (end + i + 1)
refused_request xs c start end n i opened to h e =
    let cut = cut_at xs c start end n opened to h in
    let front = take start (texts xs) in
    let size = start_size xs start opened.within in
    let number : length front + arity c + i + 1 ≡ end + i + 1 = omega (arith, size, to) in
    subst (λ (k : ℕ). IsRefusedAt (texts xs) k) number
    (subst (λ (ws : List Word). IsRefusedAt ws (length front + arity c + i + 1)) (sym cut.all) (refused_option c front n (texts (slice_range xs start end)) (texts (drop end xs)) i opened.front cut.count (sym (ap (λ (ys : List (Bor Word)). refused_place (keys_of c) [] (texts ys)) (take_rest xs end)) ∙ e)))

pub missing_in : (xs : List (Bor Word)) (c : Command) (start n : ℕ) → IsOpened xs c start n → length xs < start + arity c → IsRefusedAt (texts xs) (length xs + 1)
missing_in xs c start n opened h =
    let front = take start (texts xs) in
    let rest = drop start (texts xs) in
    let all = take-append-drop start (texts xs) in
    let size = start_size xs start opened.within in
    let left = length-drop start (texts xs) in
    let count = length-map xs (λ (w : Bor Word). w.now) in
    let number : length (front ++ rest) + 1 ≡ length xs + 1 = ap (λ (ws : List Word). length ws + 1) all ∙ omega (arith, count) in
    subst (λ (k : ℕ). IsRefusedAt (texts xs) k) number
    (subst (λ (ws : List Word). IsRefusedAt ws (length (front ++ rest) + 1)) all (missing_name c front n rest opened.front (omega (arith, h, count, left))))

-- the number is missing, or none that the command takes
pub number_refused : (xs : List (Bor Word)) (c : Command) (numbers : Option Range) (front : ℕ) → IsCommandOf (texts xs) c → front ≡ length (words_of c) → numbers ≡ number_of c
    → None ≡ number_first numbers (drop front (texts xs)) → IsRefusedAt (texts xs) (front + 1)
number_refused xs c numbers front of at takes e = by numbers (sym takes) (sym e)
  where
    by : (r : Option Range) → number_of c ≡ r → number_first r (drop front (texts xs)) ≡ None → IsRefusedAt (texts xs) (front + 1)
    by None none e = absurd (let f : ⊥ = cc e in f)
    by (Some range) takes e =
        let rest = drop (length (words_of c)) (texts xs) in
        let none : number_first (Some range) rest ≡ None = ap (λ (k : ℕ). number_first (Some range) (drop k (texts xs))) (sym at) ∙ e in
        subst (λ (k : ℕ). IsRefusedAt (texts xs) (k + 1)) (sym at)
        (subst (λ (ws : List Word). IsRefusedAt ws (length (words_of c) + 1)) (sym (all_common (texts xs) (words_of c) of)) (no_number c range rest takes none))
