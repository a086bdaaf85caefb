-- Lawful lists of words and what they begin with.
use Rattle.std.proofs.Common.{◌≡◌, ℕ, zero, suc, ◌+◌, ◌-◌, ◌<◌, ◌≤◌, ◌∙◌, Bool, true, false, cond, List, [], ◌∷◌, ◌++◌, length, take, drop, replicate, Option, Some, None, refl, ap, sym, subst, arith, option_map, nat_le, ◌⊎◌, inl, inr}
use Rattle.std.proofs.lemmas.Bool.{cases_Bool, le-leb, leb-true, leb-false}
use Rattle.std.proofs.lemmas.List.{append_assoc, append-nil, length-append, length-replicate, length-take-le, take-append-drop, take-append-le, take_all, take_at, drop_at}
use Rattle.std.proofs.Math.Seq.{take-append-add}
use Rattle.lk_model.specs.Texts.Lines.{Word}
use Rattle.lk_model.specs.Texts.NumberWords.{natural}
use Rattle.command_words.specs.Shapes.{commands, words_of, number_of, inputs_of, keys_of}
use Rattle.command_words.specs.Settings.{Options, options_of, options_by, number_within}
use Rattle.command_words.specs.OptionPlaces.{refused_place}
use Rattle.command_words.specs.Lawful.{Request, request_of, request_among, with_names, with_number, number_first, behind, Begins, IsRefusedAt}
use Rattle.command_words.specs.Requests.{common, IsUnknownAt}
use Rattle.command_words.specs.declared.command.Command.{Command}
use Rattle.command_words.specs.declared.range.Range.{Range}
use Rattle.command_words.proofs.CommandTable.{is_of, one_number, samples}
use Rattle.command_words.proofs.CommonWords.{common_within, common_same, common_greatest, common_all, front_of}
use Rattle.command_words.proofs.LawfulOptions.{fits, options_fit, fit_options, is_refused}

-- WORDS WITH NAMES

abbrev pub arity : Command → ℕ
arity c = length (inputs_of c)

abbrev pub with_options : Command → ℕ → List Word → Options → Request
with_options c n names o = record { command = c; names = names; options = record o { number = n } }

-- after so many names stand options
pub behind_names : (c : Command) (n : ℕ) (names words : List Word) → length names ≡ arity c → with_names c n (names ++ words) ≡ option_map (with_options c n names) (options_of (keys_of c) words)
behind_names c n names words count =
    let enough : nat_le (arity c) (length (names ++ words)) ≡ true = le-leb (arity c) (length (names ++ words)) (omega (arith, count, length-append names words)) in
    ap (λ (b : Bool). cond b (option_map (with_options c n (take (arity c) (names ++ words))) (options_of (keys_of c) (drop (arity c) (names ++ words)))) None) enough
    ∙ ap (λ (ns : List Word). option_map (with_options c n ns) (options_of (keys_of c) (drop (arity c) (names ++ words)))) (take_at names words (arity c) count)
    ∙ ap (λ (ws : List Word). option_map (with_options c n names) (options_of (keys_of c) ws)) (drop_at names words (arity c) count)

-- the words at the front are the command's, and its number, where it takes one
pub record Opens (c : Command) (front : List Word) (n : ℕ) : Type 0 where
  pub is_of : (rest : List Word) → request_of (front ++ rest) ≡ with_names c n rest

pub lawful_options : (c : Command) (front : List Word) (n : ℕ) (names words : List Word) → Opens c front n → length names ≡ arity c → request_of (front ++ (names ++ words)) ≡ option_map (with_options c n names) (options_of (keys_of c) words)
lawful_options c front n names words opens count = opens.is_of (names ++ words) ∙ behind_names c n names words count

-- names alone are enough
whole : (c : Command) (front : List Word) (n : ℕ) (names : List Word) → Opens c front n → length names ≡ arity c → request_of (front ++ names) ≡ Some (with_options c n names (options_by []))
whole c front n names opens count =
    ap (λ (ws : List Word). request_of (front ++ ws)) (sym (append-nil names))
    ∙ lawful_options c front n names [] opens count
    ∙ ap (option_map (with_options c n names)) (fit_options (keys_of c) [] refl)

-- what is lawful begins with the words of a command
record IsOf (words : List Word) (request : Request) : Type 0 where
  pub command : Command
  pub rest : List Word
  pub words_are : words ≡ words_of command ++ rest
  pub lawful : with_number command rest ≡ Some request

lawful_among : (cs : List Command) (words : List Word) (r : Request) → request_among cs words ≡ Some r → IsOf words r
lawful_among [] words r e = absurd (let f : ⊥ = cc e in f)
lawful_among (c ∷ cs) words r e = by (λ h. lawful_among cs words r h) (behind (words_of c) words) refl e
  where
    by : (request_among cs words ≡ Some r → IsOf words r) → (o : Option (List Word)) → behind (words_of c) words ≡ o → elim o [ Some rest ↦ with_number c rest | None ↦ request_among cs words ] ≡ Some r → IsOf words r
    by later None eo h = later h
    by later (Some rest) eo h = record { command = c; rest = rest; words_are = front_of (words_of c) words rest eo; lawful = h }

lawful_of : (words : List Word) (r : Request) → request_of words ≡ Some r → IsOf words r
lawful_of words r e = lawful_among commands words r e

-- a list that no request is from is not lawful
unlawful_if : (words : List Word) → ((r : Request) → request_of words ≡ Some r → ⊥) → request_of words ≡ None
unlawful_if words never = by (request_of words) refl
  where
    by : (o : Option Request) → request_of words ≡ o → o ≡ None
    by None e = refl
    by (Some r) e = absurd (never r e)

-- WHAT LAWFUL LISTS BEGIN WITH

-- names that are missing
abbrev empty : Word
empty = []

abbrev some_names : ℕ → List Word
some_names n = replicate n empty

-- some number of a command, where it takes one
opens_some : (c : Command) → Opens c (words_of c ++ (one_number c).0) 0
opens_some c = record {
  is_of = λ rest. ap request_of (append_assoc (words_of c) (one_number c).0 rest) ∙ is_of c ((one_number c).0 ++ rest) ∙ (one_number c).1 rest;
}

-- the first words of a command
begins_front : (c : Command) (k : ℕ) → Begins (take k (words_of c))
begins_front c k =
    let names = some_names (arity c) in
    let number = (one_number c).0 in
    record {
      more = drop k (words_of c) ++ (number ++ names);
      request = with_options c 0 names (options_by []);
      lawful = ap request_of (sym (append_assoc (take k (words_of c)) (drop k (words_of c)) (number ++ names)) ∙ ap (λ (ws : List Word). ws ++ (number ++ names)) (take-append-drop k (words_of c)) ∙ sym (append_assoc (words_of c) number names))
          ∙ whole c (words_of c ++ number) 0 names (opens_some c) (length-replicate (arity c) empty);
    }

-- its front and some names
begins_names : (c : Command) (front : List Word) (n : ℕ) (names : List Word) → Opens c front n → length names ≤ arity c → Begins (front ++ names)
begins_names c front n names opens h =
    let more = some_names (arity c - length names) in
    record {
      more = more;
      request = with_options c n (names ++ more) (options_by []);
      lawful = ap request_of (append_assoc front names more)
          ∙ whole c front n (names ++ more) opens (length-append names more ∙ omega (arith, h, length-replicate (arity c - length names) empty));
    }

leq_cases : (a b : ℕ) → (a ≤ b) ⊎ (b ≤ a)
leq_cases a b = elim (cases_Bool (nat_le a b)) [ inl t ↦ inl (leb-true a b t) | inr f ↦ inr (let l = leb-false a b f in omega (arith, l)) ]

-- What can stand before the names of a command: its words, or with them its number. Each beginning of it is one of a lawful
-- list.
pub record IsFront (c : Command) (front : List Word) (n : ℕ) : Type 0 where
  pub opens : Opens c front n
  pub begins : (k : ℕ) → Begins (take k front)

-- without a number
pub words_alone : (c : Command) → number_of c ≡ None → IsFront c (words_of c) 0
words_alone c none = record {
  opens = record { is_of = λ rest. is_of c rest ∙ alone rest };
  begins = λ k. begins_front c k;
}
  where
    alone : (rest : List Word) → with_number c rest ≡ with_names c 0 rest
    alone rest = rw none refl

-- with a number that the command takes
pub words_with_number : (c : Command) (range : Range) (word : Word) (n : ℕ) → number_of c ≡ Some range → number_within range (natural word) ≡ Some n → IsFront c (words_of c ++ word ∷ []) n
words_with_number c range word n takes e = record {
  opens = opens;
  begins = λ k. elim (cases_Bool (nat_le k (length (words_of c)))) [
    | inl t ↦ subst Begins (sym (take-append-le k (words_of c) (word ∷ []) (leb-true k (length (words_of c)) t))) (begins_front c k)
    | inr f ↦
        let front = words_of c ++ word ∷ [] in
        let high = leb-false k (length (words_of c)) f in
        subst Begins (append-nil front ∙ sym (take_all k front (omega (arith, high, length-append (words_of c) (word ∷ []))))) (begins_names c front n [] opens (omega arith))
  ];
}
  where
    opens : Opens c (words_of c ++ word ∷ []) n
    opens = record { is_of = λ rest. ap request_of (append_assoc (words_of c) (word ∷ []) rest) ∙ is_of c (word ∷ rest) ∙ behind rest }
      where
        behind : (rest : List Word) → with_number c (word ∷ rest) ≡ with_names c n rest
        behind rest = rw (takes, e) refl

-- these three stages of the words of a list
begins_within : (c : Command) (front : List Word) (n : ℕ) (names rest : List Word) (k : ℕ) → IsFront c front n → length names ≤ arity c → k ≤ length front + length names → Begins (take k (front ++ (names ++ rest)))
begins_within c front n names rest k opened few h = elim (leq_cases k (length front)) [
  | inl low ↦ subst Begins (sym (take-append-le k front (names ++ rest) low)) (opened.begins k)
  | inr high ↦
      let j = k - length front in
      let count : length front + j ≡ k = omega (arith, high) in
      let at : take k (front ++ (names ++ rest)) ≡ front ++ take j names =
      ap (λ (n : ℕ). take n (front ++ (names ++ rest))) (sym count)
      ∙ take-append-add front (names ++ rest) j
      ∙ ap (λ (ws : List Word). front ++ ws) (take-append-le j names rest (omega (arith, h, high))) in
      let size = length-take-le j names (omega (arith, h, high)) in
      subst Begins (sym at) (begins_names c front n (take j names) opened.opens (omega (arith, few, h, high, size)))
]

-- WHICH WORD IS REFUSED

-- no command's words stand at the front
never_unknown : (words more : List Word) (i : ℕ) → IsUnknownAt words i → i ≤ length words → (r : Request) → request_of (take i words ++ more) ≡ Some r → ⊥
never_unknown words more i u h r e =
    let of = lawful_of (take i words ++ more) r e in
    let c = of.command in
    let size = length-take-le i words h in
    let fewer = u.fewer c in
    let none = u.none c in
    elim (cases_Bool (nat_le i (length (words_of c)))) [
      | inl t ↦
          let low = leb-true i (length (words_of c)) t in
          let same : take i words ≡ take i (words_of c) =
          sym (take_at (take i words) more i size) ∙ ap (take i) of.words_are ∙ take-append-le i (words_of c) of.rest low in
          let known = common_greatest words (words_of c) i h low same in
          absurd (omega (arith, known, fewer))
      | inr f ↦
          let n = length (words_of c) in
          let low : n ≤ i = let l = leb-false i n f in omega (arith, l) in
          let front : take n words ≡ take n (words_of c) =
          sym (take_take n i words low)
          ∙ sym (take-append-le n (take i words) more (omega (arith, low, size)))
          ∙ ap (take n) of.words_are
          ∙ take-append-le n (words_of c) of.rest (omega arith) in
          let known = common_greatest words (words_of c) n (omega (arith, low, h)) (omega arith) front in
          absurd (omega (arith, known, none))
    ]
  where
    take_take : (n i : ℕ) (xs : List Word) → n ≤ i → take n (take i xs) ≡ take n xs
    take_take zero i xs h = refl
    take_take (suc n) zero xs h = absurd (omega (arith, h))
    take_take (suc n) (suc i) [] h = refl
    take_take (suc n) (suc i) (x ∷ xs) h = ap (λ (ws : List Word). x ∷ ws) (take_take n i xs (omega (arith, h)))

pub unknown : (words : List Word) (i : ℕ) → IsUnknownAt words i → IsRefusedAt words i
unknown words i u =
    let c = u.known.0 in
    let at = u.known.1 in
    let within = common_within words (words_of c) in
    let in_words = within.0 in
    record {
      unlawful = unlawful_if words (λ r e.
          let of = lawful_of words r e in
          let none = u.none of.command in
          let all = ap (λ (ws : List Word). common ws (words_of of.command)) of.words_are ∙ common_all (words_of of.command) of.rest in
          omega (arith, none, all));
      first = omega (arith, at);
      last = omega (arith, at, in_words);
      before = λ k h. subst Begins (sym (agree k (omega (arith, h, at)))) (begins_front c k);
      refused = λ h b. never_unknown words b.more i u h b.request b.lawful;
    }
  where
    shorter : (k n : ℕ) (xs : List Word) → k ≤ n → take k (take n xs) ≡ take k xs
    shorter zero n xs h = refl
    shorter (suc k) zero xs h = absurd (omega (arith, h))
    shorter (suc k) (suc n) [] h = refl
    shorter (suc k) (suc n) (x ∷ xs) h = ap (λ (ws : List Word). x ∷ ws) (shorter k n xs (omega (arith, h)))

    agree : (k : ℕ) → k ≤ common words (words_of u.known.0) → take k words ≡ take k (words_of u.known.0)
    agree k h =
        let n = common words (words_of u.known.0) in
        sym (shorter k n words h) ∙ ap (take k) (common_same words (words_of u.known.0)) ∙ shorter k n (words_of u.known.0) h

-- the number is missing, or none that the command takes
pub no_number : (c : Command) (range : Range) (rest : List Word) → number_of c ≡ Some range → number_first (Some range) rest ≡ None → IsRefusedAt (words_of c ++ rest) (length (words_of c) + 1)
no_number c range rest takes none =
    let size = length-append (words_of c) rest in
    record {
      unlawful = is_of c rest ∙ without rest none;
      first = omega arith;
      last = omega (arith, size);
      before = λ k h. subst Begins (sym (take-append-le k (words_of c) rest (omega (arith, h)))) (begins_front c k);
      refused = λ h b. never rest none (omega (arith, h, size)) b;
    }
  where
    without : (ws : List Word) → number_first (Some range) ws ≡ None → with_number c ws ≡ None
    without ws e = rw (takes, e) refl

    never : (ws : List Word) → number_first (Some range) ws ≡ None → 0 < length ws → Begins (take (length (words_of c) + 1) (words_of c ++ ws)) → ⊥
    never [] e h b = absurd (omega (arith, h))
    never (w ∷ ws) e h b =
        let cut : take (length (words_of c) + 1) (words_of c ++ w ∷ ws) ≡ words_of c ++ w ∷ [] = take-append-add (words_of c) (w ∷ ws) 1 in
        let lawful = b.lawful in
        let some : request_of (words_of c ++ w ∷ b.more) ≡ Some b.request =
        ap request_of (sym (append_assoc (words_of c) (w ∷ []) b.more)) ∙ ap (λ (front : List Word). request_of (front ++ b.more)) (sym cut) ∙ lawful in
        let nothing = is_of c (w ∷ b.more) ∙ without (w ∷ b.more) e in
        let f : ⊥ = cc (some, nothing) in f

-- a name is missing
pub missing_name : (c : Command) (front : List Word) (n : ℕ) (rest : List Word) → IsFront c front n → length rest < arity c → IsRefusedAt (front ++ rest) (length (front ++ rest) + 1)
missing_name c front n rest opened few =
    let size = length-append front rest in
    record {
      unlawful = opened.opens.is_of rest ∙ none;
      first = omega arith;
      last = omega arith;
      before = λ k h.
          subst (λ (ws : List Word). Begins (take k (front ++ ws))) (append-nil rest)
          (begins_within c front n rest [] k opened (omega (arith, few)) (omega (arith, h, size)));
      refused = λ h b. absurd (omega (arith, h));
    }
  where
    none : with_names c n rest ≡ None
    none =
        let short : nat_le (arity c) (length rest) ≡ false = elim (cases_Bool (nat_le (arity c) (length rest))) [
          | inl t ↦ let h = leb-true (arity c) (length rest) t in absurd (omega (arith, few, h))
          | inr f ↦ f
        ] in
        rw short refl

-- options that do not fit
unfit : (c : Command) (front : List Word) (n : ℕ) (names words : List Word) → Opens c front n → length names ≡ arity c → fits (keys_of c) [] words ≡ false → (r : Request) → request_of (front ++ (names ++ words)) ≡ Some r → ⊥
unfit c front n names words opens count f r h = by (options_of (keys_of c) words) refl (sym (lawful_options c front n names words opens count) ∙ h)
  where
    by : (o : Option Options) → options_of (keys_of c) words ≡ o → option_map (with_options c n names) o ≡ Some r → ⊥
    by None eo e = cc e
    by (Some o) eo e =
        let fit = options_fit (keys_of c) words o eo in
        cc (f, fit)

-- an option is refused
pub refused_option : (c : Command) (front : List Word) (n : ℕ) (names words : List Word) (i : ℕ) → IsFront c front n → length names ≡ arity c → refused_place (keys_of c) [] words ≡ Some i → IsRefusedAt (front ++ (names ++ words)) (length front + arity c + i + 1)
refused_option c front n names words i opened count e =
    let r = is_refused (keys_of c) (samples c) [] words i e in
    let last = r.last in
    let size = length-append front (names ++ words) in
    let sizes = length-append names words in
    record {
      unlawful = unlawful_if (front ++ (names ++ words)) (unfit c front n names words opened.opens count r.unfit);
      first = omega arith;
      last = omega (arith, last, size, sizes, count);
      before = λ k h. elim (cases_Bool (nat_le k (length front + length names))) [
        | inl t ↦ begins_within c front n names words k opened (omega (arith, count)) (leb-true k (length front + length names) t)
        | inr f ↦
            let j = k - (length front + length names) in
            let high = leb-false k (length front + length names) f in
            let cut = seam k j (omega (arith, high)) in
            let b = r.begins j (omega (arith, h, high, count)) in
            record {
              more = b.0;
              request = with_options c n names (options_by (take j words ++ b.0));
              lawful = ap (λ (ws : List Word). request_of (ws ++ b.0)) cut
                  ∙ ap request_of (append_assoc front (names ++ take j words) b.0 ∙ ap (λ (ws : List Word). front ++ ws) (append_assoc names (take j words) b.0))
                  ∙ lawful_options c front n names (take j words ++ b.0) opened.opens count
                  ∙ ap (option_map (with_options c n names)) (fit_options (keys_of c) (take j words ++ b.0) b.1);
            }
      ];
      refused = λ h b.
          let cut = seam (length front + arity c + i + 1) (i + 1) (omega (arith, count)) in
          unfit c front n names (take (i + 1) words ++ b.more) opened.opens count (r.never (omega (arith, h, size, sizes, count)) b.more) b.request
          (sym (ap request_of (append_assoc front (names ++ take (i + 1) words) b.more ∙ ap (λ (ws : List Word). front ++ ws) (append_assoc names (take (i + 1) words) b.more)))
          ∙ sym (ap (λ (ws : List Word). request_of (ws ++ b.more)) cut)
          ∙ b.lawful);
    }
  where
    -- the first k words, of which j are options
    seam : (k j : ℕ) → length front + length names + j ≡ k → take k (front ++ (names ++ words)) ≡ front ++ (names ++ take j words)
    seam k j at =
        let at_all : length front + (length names + j) ≡ k = omega (arith, at) in
        ap (λ (m : ℕ). take m (front ++ (names ++ words))) (sym at_all)
        ∙ take-append-add front (names ++ words) (length names + j)
        ∙ ap (λ (ws : List Word). front ++ ws) (take-append-add names words j)
