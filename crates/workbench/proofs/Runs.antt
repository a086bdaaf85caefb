-- What the clauses of a run come to over visible inputs.
use Rattle.std.proofs.Common.{◌≡◌, ◌≢◌, ◌∙◌, ℕ, ◌==◌, if◌then◌else◌, Bool, true, false, cond, List, [], ◌∷◌, ◌++◌, length, take, drop, Option, Some, None, refl, ap, sym, subst, append_assoc, length-append, ◌⊎◌, inl, inr, arith}
use Rattle.std.specs.Prelude.{⊤, IfSome, IsSome, IsTrue, nat_le, option_map}
use Rattle.std.specs.Io.KnownBytes.{Appends}
use Rattle.std.proofs.Math.Seq.{take-append_seam, drop-append_seam}
use Rattle.std.proofs.lemmas.Bool.{le-leb, cases_Bool}
use Rattle.std.proofs.lemmas.List.{length-map}
use Rattle.lk_model.specs.Texts.Lines.{Word}
use Rattle.lk_outside.specs.Causes.{Rose}
use Rattle.cert_text.proofs.ReadLaws.{of_one_document, stops_nowhere}
use Rattle.command_words.specs.Lawful.{Request, request_of, with_names, with_number}
use Rattle.command_words.proofs.CommandTable.{is_of}
use Rattle.command_words.specs.Settings.{Options, options_by, options_of, are_options}
use Rattle.command_words.specs.Shapes.{words_of, number_of, inputs_of, keys_of}
use Rattle.command_words.specs.declared.command.Command.{Command}
use Rattle.command_words.specs.declared.shape.Grammar.{Grammar}
use Rattle.command_inputs.specs.Inputs.{Told, Known, nothing_known, Values, IsTextOf, known_behind, AreRead, AreTold, IsFirstBad}
use Rattle.command_stops.specs.declared.stop.Stop.{Stop}
use Rattle.command_inputs.proofs.InputLaws.{nothing_small, none_stops}
use Rattle.command_endings.specs.Commands as commands
use Rattle.status_lines.specs.Statuses.{code, is_result}
use Rattle.status_lines.specs.declared.status.Status.{Status}
use Rattle.status_lines.specs.declared.status.Status.TheVariants.{Done, Words, Input as Refusal, ReadFault, WriteFault, Budget, TooWide, TooLarge, Refused, Memory, Satisfiable, Unsatisfiable}
use Rattle.workbench.specs.Endings.{Shelved, Sunk, Ends, Allows, HasResult, IsResult, HasReadFault, DeservesStop, IsDecided, IsUnlessFailed}
use Rattle.workbench.specs.Headline.{Input, names_of, AreShown, Ran, RanWell, RunsWell, AreTexts, AreLawful}
use Rattle.workbench.specs.WrittenChecks.{AskFor, HasWrittenBy}
use Rattle.workbench.proofs.EndingLaws.{rose_in}

-- WHAT IS ASKED FOR

-- the request where the options are valid, and else none
abbrev pub asked_with : Command → List Word → List Word → Option Request
asked_with command names options = option_map (λ (o : Options). record { command = command; names = names; options = record o { number = 0 } }) (options_of (keys_of command) options)

-- a command that takes no number
unnumbered : (command : Command) (words : List Word) → number_of command ≡ None → with_number command words ≡ with_names command 0 words
unnumbered command words none = rw none refl

-- so many names stand in front
abbrev asked_at : Command → List Word → ℕ → Option Request
asked_at command words count = option_map (λ (o : Options). record { command = command; names = take count words; options = record o { number = 0 } }) (options_of (keys_of command) (drop count words))

names_first : (command : Command) (names options : List Word) → length names ≡ length (inputs_of command) → with_names command 0 (names ++ options) ≡ asked_with command names options
names_first command names options count =
    let words = names ++ options in
    let enough : nat_le (length names) (length words) ≡ true = le-leb (length names) (length words) (omega (arith, length-append names options)) in
    ap (λ (k : ℕ). cond (nat_le k (length words)) (asked_at command words k) None) (sym count)
    ∙ ap (λ (b : Bool). cond b (asked_at command words (length names)) None) enough
    ∙ (λ i. option_map (λ (o : Options). record { command = command; names = take-append_seam names options i; options = record o { number = 0 } }) (options_of (keys_of command) (drop-append_seam names options i)))

-- the words ask for the command over these names
asks : (command : Command) (inputs : List Input) (options : List Word) → number_of command ≡ None → length inputs ≡ length (inputs_of command)
    → request_of (words_of command ++ names_of inputs ++ options) ≡ asked_with command (names_of inputs) options
asks command inputs options none count =
    ap request_of (append_assoc (words_of command) (names_of inputs) options)
    ∙ is_of command (names_of inputs ++ options)
    ∙ unnumbered command (names_of inputs ++ options) none
    ∙ names_first command (names_of inputs) options (length-map inputs (λ (i : Input). i.name) ∙ count)

-- a command over inputs, with options after their names
abbrev pub words_for : Command → List Input → List Word → List Word
words_for command inputs options = words_of command ++ names_of inputs ++ options

-- with valid options the words ask for it, and else for nothing
pub asked : (command : Command) (inputs : List Input) (options : List Word) → number_of command ≡ None → length inputs ≡ length (inputs_of command) → are_options (keys_of command) options ≡ true
    → AskFor (words_for command inputs options) command (names_of inputs) (options_by options)
asked command inputs options none count valid =
    asks command inputs options none count
    ∙ ap (λ (b : Bool). option_map (λ (o : Options). let r : Request = record { command = command; names = names_of inputs; options = record o { number = 0 } } in r) (cond b (Some (options_by options)) None)) valid

pub unasked : (command : Command) (inputs : List Input) (options : List Word) → number_of command ≡ None → length inputs ≡ length (inputs_of command) → are_options (keys_of command) options ≡ false
    → request_of (words_for command inputs options) ≡ None
unasked command inputs options none count invalid =
    asks command inputs options none count
    ∙ ap (λ (b : Bool). option_map (λ (o : Options). let r : Request = record { command = command; names = names_of inputs; options = record o { number = 0 } } in r) (cond b (Some (options_by options)) None)) invalid

-- WHAT IS READ

-- the texts are those of the values
abbrev pub AreOf : Known → (grammars : List Grammar) → List Input → Values grammars → Type 0
AreOf known [] inputs values = ⊤
AreOf known (grammar ∷ grammars) [] values = ⊥
AreOf known (grammar ∷ grammars) (input ∷ inputs) values = IsTextOf grammar known values.0 input.text × AreOf (known_behind grammar known values.0) grammars inputs values.1

pub shown_if : (P : List ℕ → Type 0) (told : Option (List ℕ)) (text : List ℕ) → told ≡ Some text → IfSome told P → P text
shown_if P told text is h = subst (λ (o : Option (List ℕ)). IfSome o P) is h

if_shown : (P : List ℕ → Type 0) (told : Option (List ℕ)) (text : List ℕ) → told ≡ Some text → P text → IfSome told P
if_shown P told text is h = subst (λ (o : Option (List ℕ)). IfSome o P) (sym is) h

-- what is read of inputs that are shown
pub are_of : (told : Told) (known : Known) (grammars : List Grammar) (inputs : List Input) (values : Values grammars) → AreShown told inputs → AreRead told known grammars (names_of inputs) values → AreOf known grammars inputs values
are_of told known [] inputs values shown read = tt
are_of told known (grammar ∷ grammars) [] values shown read = absurd read
are_of told known (grammar ∷ grammars) (i ∷ inputs) values shown read =
    (shown_if (IsTextOf grammar known values.0) (told i.name) i.text shown.0 read.0, are_of told (known_behind grammar known values.0) grammars inputs values.1 shown.1 read.1)

pub are_read : (told : Told) (known : Known) (grammars : List Grammar) (inputs : List Input) (values : Values grammars) → length inputs ≡ length grammars → AreShown told inputs → AreOf known grammars inputs values → AreRead told known grammars (names_of inputs) values
are_read told known [] [] values count shown h = tt
are_read told known [] (i ∷ inputs) values count shown h = absurd (omega (arith, count))
are_read told known (grammar ∷ grammars) [] values count shown h = absurd h
are_read told known (grammar ∷ grammars) (i ∷ inputs) values count shown h =
    (if_shown (IsTextOf grammar known values.0) (told i.name) i.text shown.0 h.0, are_read told (known_behind grammar known values.0) grammars inputs values.1 (omega (arith, count)) shown.1 h.1)

pub are_told : (told : Told) (inputs : List Input) → AreShown told inputs → AreTold told (names_of inputs)
are_told told [] shown = tt
are_told told (i ∷ inputs) shown = (subst (λ (o : Option (List ℕ)). IsSome o) (sym shown.0) refl, are_told told inputs shown.1)

-- so the inputs are texts, and texts are those of some values
pub are_texts : (known : Known) (grammars : List Grammar) (inputs : List Input) (values : Values grammars) → AreOf known grammars inputs values → AreTexts known grammars inputs
are_texts known [] inputs values h = tt
are_texts known (grammar ∷ grammars) [] values h = tt
are_texts known (grammar ∷ grammars) (i ∷ inputs) values h = (values.0, h.0, are_texts (known_behind grammar known values.0) grammars inputs values.1 h.1)

values_of : (known : Known) (grammars : List Grammar) (inputs : List Input) → length inputs ≡ length grammars → AreTexts known grammars inputs → (values : Values grammars) × AreOf known grammars inputs values
values_of known [] inputs count h = (tt, tt)
values_of known (grammar ∷ grammars) [] count h = absurd (omega (arith, count))
values_of known (grammar ∷ grammars) (i ∷ inputs) count h =
    let others = values_of (known_behind grammar known h.0) grammars inputs (omega (arith, count)) h.2 in
    ((h.0, others.0), (h.1, others.1))

-- STATUSES

-- no two statuses have one number
abbrev pub numbered : ℕ → Status
numbered n = if n == 0 then Done
    else if n == 1 then Words
    else if n == 2 then Refusal
    else if n == 3 then ReadFault
    else if n == 4 then WriteFault
    else if n == 5 then Budget
    else if n == 6 then TooWide
    else if n == 7 then TooLarge
    else if n == 8 then Refused
    else if n == 10 then Satisfiable
    else if n == 20 then Unsatisfiable
    else Memory

number_told : (s : Status) → numbered (code s) ≡ s
number_told Done = refl
number_told s = refl

pub one_status : (s : Status) (n : ℕ) → n ≡ code s → s ≡ numbered n
one_status s n e = sym (number_told s) ∙ ap numbered (sym e)

-- an ending with the status of a result has one
allowed_result : (words : List Word) (shelf : Shelved) (s : Status) (written said : List ℕ) → IsTrue (is_result s) → Allows words shelf s written said → IsResult (request_of words) shelf.told s written said
allowed_result words shelf Words written said is h = absurd (let f : ⊥ = cc is in f)
allowed_result words shelf Refusal written said is h = absurd (let f : ⊥ = cc is in f)
allowed_result words shelf ReadFault written said is h = absurd (let f : ⊥ = cc is in f)
allowed_result words shelf WriteFault written said is h = absurd (let f : ⊥ = cc is in f)
allowed_result words shelf Memory written said is h = absurd (let f : ⊥ = cc is in f)
allowed_result words shelf s written said is h = h

pub result_at : (words : List Word) (shelf : Shelved) (r : Request) (s : Status) (written said : List ℕ) → request_of words ≡ Some r → IsTrue (is_result s) → Allows words shelf s written said → HasResult r shelf.told s written said
result_at words shelf r s written said asked is h = subst (λ (o : Option Request). IsResult o shelf.told s written said) asked (allowed_result words shelf s written said is h)

-- WHAT A RUN ANSWERS

-- what was written where nothing stood
pub all_written : (before after : Option (List ℕ)) (written appended : List ℕ) → before ≡ Some [] → after ≡ Some written → Appends before after appended → appended ≡ written
all_written before after written appended empty all taken =
    let same : written ≡ appended = subst (λ (o : Option (List ℕ)). Appends (Some []) o appended) all (subst (λ (o : Option (List ℕ)). Appends o after appended) empty taken) in
    sym same

-- what was read, and that the command may answer it so
pub record HasAnswered (command : Command) (inputs : List Input) (options : Options) (status : Status) (written said : List ℕ) : Type 0 where
  pub values : Values (inputs_of command)
  pub read : AreOf nothing_known (inputs_of command) inputs values
  pub answers : commands.Answers command options values status written said

abbrev pub request_for : Command → List Input → Options → Request
request_for command inputs options = record { command = command; names = names_of inputs; options = options }

-- of a result, where the inputs are shown and `out` was empty
pub answered : (command : Command) (inputs : List Input) (options : Options) (shelf : Shelved) (out : Sunk) (status : Status) (written appended said : List ℕ) → AreShown shelf.told inputs → out.before ≡ Some [] → out.after ≡ Some written → Appends out.before out.after appended
    → HasResult (request_for command inputs options) shelf.told status appended said → HasAnswered command inputs options status written said
answered command inputs options shelf out status written appended said shown empty all taken r = record {
  values = r.values;
  read = are_of shelf.told nothing_known (inputs_of command) inputs r.values shown r.read;
  answers = subst (λ (text : List ℕ). commands.Answers command options r.values status text said) (all_written out.before out.after written appended empty all taken) r.answers;
}

-- the ending has this status, and is one of a result of the request
pub ends_with : (words : List Word) (shelf : Shelved) (out say : Sunk) (request : Request) (n : ℕ) (e : Ends words shelf out say n) → request_of words ≡ Some request → IsTrue (is_result (numbered n))
    → HasResult request shelf.told (numbered n) e.written e.said
ends_with words shelf out say request n e asked result =
    result_at words shelf request (numbered n) e.written e.said asked result (subst (λ (s : Status). Allows words shelf s e.written e.said) (one_status e.status n e.answer_is) e.allowed)

-- what stands on `out` after a run over one input
pub wrote : (command : Command) (options : Options) (text : List ℕ) (n : ℕ) (written : List ℕ) (h : HasWrittenBy command options text n written) → IsTrue (is_result (numbered n))
    → HasAnswered command (record { name = h.name; text = text } ∷ []) options (numbered n) written h.ends.said
wrote command options text n written h result =
    answered command (record { name = h.name; text = text } ∷ []) options h.shelf h.out (numbered n) written h.ends.written h.ends.said (h.text_is, tt) h.empty h.written_is h.ends.taken.0.taken
    (ends_with h.words h.shelf h.out h.say _ n h.ends h.asks result)

-- a run that ends with the status of a result had valid options
pub valid_with : (command : Command) (inputs : List Input) (options : List Word) (n : ℕ) (written : List ℕ) (run : Ran (words_for command inputs options) inputs n written) → number_of command ≡ None → length inputs ≡ length (inputs_of command)
    → n ≢ 4 → IsTrue (is_result (numbered n)) → are_options (keys_of command) options ≡ true
valid_with command inputs options n written run none count other result = elim (cases_Bool (are_options (keys_of command) options)) [
  | inl valid ↦ valid
  | inr invalid ↦ absurd (
      let e = run.is_run.ended other in
      subst (λ (o : Option Request). IsResult o run.shelf.told (numbered n) e.written e.said) (unasked command inputs options none count invalid)
      (allowed_result (words_for command inputs options) run.shelf (numbered n) e.written e.said result (subst (λ (s : Status). Allows (words_for command inputs options) run.shelf s e.written e.said) (one_status e.status n e.answer_is) e.allowed)))
]

-- and what it read is answered
pub gives : (command : Command) (inputs : List Input) (options : List Word) (n : ℕ) (written : List ℕ) → number_of command ≡ None → length inputs ≡ length (inputs_of command)
    → (run : Ran (words_for command inputs options) inputs n written) (other : n ≢ 4) → IsTrue (is_result (numbered n)) → HasAnswered command inputs (options_by options) (numbered n) written (run.is_run.ended other).said
gives command inputs options n written none count run other result =
    let words = words_for command inputs options in
    let e = run.is_run.ended other in
    answered command inputs (options_by options) run.shelf run.out (numbered n) written e.written e.said run.shown run.empty run.written_is e.taken.0.taken
    (ends_with words run.shelf run.out run.say _ n e (asked command inputs options none count (valid_with command inputs options n written run none count other result)) result)

-- WHERE NOTHING FAILS

-- the status is the one that is decided
pub well_decided : (words : List Word) (inputs : List Input) (status : ℕ) (written : List ℕ) (well : RanWell words inputs status written) (decided : Status) → IsDecided (request_of words) well.ran.shelf.told decided → status ≡ code decided
well_decided words inputs status written well decided h = by (well.ran.is_run.complete decided h)
  where
    failed : Rose well.ran.out.faults_before well.ran.out.faults_after ⊎ Rose well.ran.say.faults_before well.ran.say.faults_after → ⊥
    failed (inl rose) = well.could_write rose
    failed (inr rose) = well.could_say rose

    by : IsUnlessFailed status decided (Rose well.ran.shelf.before well.ran.shelf.after)
        (Rose well.ran.out.faults_before well.ran.out.faults_after ⊎ Rose well.ran.say.faults_before well.ran.say.faults_after) → status ≡ code decided
    by (inl e) = e
    by (inr (inl e)) = absurd (well.could_read e.1)
    by (inr (inr (inl e))) = absurd (failed e.1)
    by (inr (inr (inr e))) = absurd (well.had_memory e)

-- and no ending was cut off
pub never_cut : (words : List Word) (inputs : List Input) (status : ℕ) (written : List ℕ) → RanWell words inputs status written → status ≢ 4
never_cut words inputs status written well four = by (rose_in well.ran.out well.ran.say _ _ (well.ran.is_run.cut four).cut)
  where
    by : Rose well.ran.out.faults_before well.ran.out.faults_after ⊎ Rose well.ran.say.faults_before well.ran.say.faults_after → ⊥
    by (inl rose) = well.could_write rose
    by (inr rose) = well.could_say rose

-- so an input is refused, or the command answers
pub data Comes (command : Command) (inputs : List Input) (options : List Word) (status : ℕ) (written : List ℕ) : Type 0 where
  Refuses : status ≡ 2 → (told : Told) → AreShown told inputs → (s : Stop) → IsFirstBad told nothing_known (inputs_of command) (names_of inputs) s → Comes command inputs options status written
  Replies : (s : Status) → status ≡ code s → IsTrue (is_result s) → (said : List ℕ) → HasAnswered command inputs (options_by options) s written said → Comes command inputs options status written

-- where 1 does not come, the options are valid
pub valid_of : (command : Command) (inputs : List Input) (options : List Word) (status : ℕ) → RunsWell command inputs options status → status ≢ 1 → AskFor (words_for command inputs options) command (names_of inputs) (options_by options)
valid_of command inputs options status r other = elim (cases_Bool (are_options (keys_of command) options)) [
  | inl valid ↦ asked command inputs options r.no_number r.count valid
  | inr invalid ↦ absurd (other (well_decided (words_for command inputs options) inputs status r.written r.well Words
      (subst (λ (o : Option Request). IsDecided o r.well.ran.shelf.told Words) (sym (unasked command inputs options r.no_number r.count invalid)) refl)))
]

-- an ending that was allowed
allowed_comes : (command : Command) (inputs : List Input) (options : List Word) (status : ℕ) → (r : RunsWell command inputs options status) → status ≢ 1 → AskFor (words_for command inputs options) command (names_of inputs) (options_by options)
    → (e : Ends (words_for command inputs options) r.well.ran.shelf r.well.ran.out r.well.ran.say status) → (s : Status) → status ≡ code s → Allows (words_for command inputs options) r.well.ran.shelf s e.written e.said → Comes command inputs options status r.written
allowed_comes command inputs options status r other request e s is h = by s is h
  where
    replies : (s : Status) → status ≡ code s → IsTrue (is_result s) → Allows (words_for command inputs options) r.well.ran.shelf s e.written e.said → Comes command inputs options status r.written
    replies s is result h =
        let run = r.well.ran in
        Replies s is result e.said (answered command inputs (options_by options) run.shelf run.out s r.written e.written e.said run.shown run.empty run.written_is e.taken.0.taken
        (result_at (words_for command inputs options) run.shelf _ s e.written e.said request result h))

    by : (s : Status) → status ≡ code s → Allows (words_for command inputs options) r.well.ran.shelf s e.written e.said → Comes command inputs options status r.written
    by Words is h = absurd (other is)
    by Refusal is h = Refuses is r.well.ran.shelf.told r.well.ran.shown h.0 (subst (λ (o : Option Request). DeservesStop o r.well.ran.shelf.told h.0) request h.1)
    by ReadFault is h = absurd (r.well.could_read (subst (λ (o : Option Request). HasReadFault o r.well.ran.shelf) request h.0).0)
    by WriteFault is h = absurd h
    by Memory is h = absurd (r.well.had_memory is)
    by s is h = replies s is refl h

pub comes : (command : Command) (inputs : List Input) (options : List Word) (status : ℕ) → (r : RunsWell command inputs options status) → status ≢ 1 → Comes command inputs options status r.written
comes command inputs options status r other =
    let e = r.well.ran.is_run.ended (never_cut (words_for command inputs options) inputs status r.written r.well) in
    allowed_comes command inputs options status r other (valid_of command inputs options status r other) e e.status e.answer_is e.allowed

-- lawful inputs are not refused
never_refuses : (told : Told) (grammars : List Grammar) (inputs : List Input) (s : Stop) → length inputs ≡ length grammars → AreShown told inputs → AreTexts nothing_known grammars inputs → IsFirstBad told nothing_known grammars (names_of inputs) s → ⊥
never_refuses told grammars inputs s count shown texts bad =
    let v = values_of nothing_known grammars inputs count texts in
    none_stops of_one_document stops_nowhere told nothing_known grammars (names_of inputs) v.0 s nothing_small (are_told told inputs shown) (are_read told nothing_known grammars inputs v.0 count shown v.1) bad

-- they are answered
pub replied : (command : Command) (inputs : List Input) (options : List Word) (status : ℕ) → (r : RunsWell command inputs options status) → status ≢ 1 → AreLawful command inputs
    → (s : Status) × (status ≡ code s) × IsTrue (is_result s) × (said : List ℕ) × HasAnswered command inputs (options_by options) s r.written said
replied command inputs options status r other lawful = by (comes command inputs options status r other)
  where
    by : Comes command inputs options status r.written → (s : Status) × (status ≡ code s) × IsTrue (is_result s) × (said : List ℕ) × HasAnswered command inputs (options_by options) s r.written said
    by (Replies s is result said a) = (s, is, result, said, a)
    by (Refuses is told shown s bad) = absurd (never_refuses told (inputs_of command) inputs s r.count shown lawful bad)
