-- Which endings are allowed, and which is decided.
use Rattle.std.proofs.Common.{◌≡◌, ◌≢◌, ◌∙◌, ℕ, List, [], Bool, Option, Some, None, Result, Ok, Err, IfOk, refl, ap, sym, subst, ◌⊎◌, inl, inr}
use Rattle.std.specs.Prelude.{IsTrue, ⊤}
use Rattle.std.proofs.lemmas.Bool.{cases_eq}
use Rattle.lk_model.specs.Texts.Lines.{Word}
use Rattle.lk_model.specs.declared.list.OutOfMemory.{OutOfMemory}
use Rattle.lk_outside.specs.Causes.{Rose}
use Rattle.cert_text.specs.ReadTexts.{IsOfOneDocument, StopsNowhere}
use Rattle.command_words.specs.Shapes.{inputs_of}
use Rattle.command_endings.specs.Commands.{Answers}
use Rattle.workbench.specs.Endings.{Shelved, Sunk, Takes, TakesBoth, IsCut, IsCutIn, Ends, IsCutOff, EndsQuietly, IsResult, DeservesStop, HasReadFault, Allows, HasValues, IsDecidedFor, IsDecided, IsUnlessFailed, StopsAsRead, StopsAt, ReadsNothing, IsWell}
use Rattle.workbench.specs.Headline.{IsRun}
use Rattle.command_stops.specs.Stops.{IsFailure}
use Rattle.command_inputs.specs.Inputs.{nothing_known, Told, Values, IsFirstBad}
use Rattle.command_words.specs.Lawful.{Request, request_of}
use Rattle.status_lines.specs.Statuses.{code, is_result}
use Rattle.status_lines.specs.StopLines.{status_of, line_of, Tells}
use Rattle.status_lines.specs.declared.ending.Ending.{Ending}
use Rattle.status_lines.specs.declared.status.Status.{Status}
use Rattle.status_lines.specs.declared.status.Status.TheVariants as status
use Rattle.command_stops.specs.declared.stop.Stop.{Stop}
use Rattle.command_stops.specs.declared.stop.Stop.TheVariants as stop
use Rattle.command_endings.proofs.CommandTable.{one_status}
use Rattle.command_inputs.proofs.InputLaws.{nothing_small, one_reading, none_bad, none_stops}

-- WHAT IS ALLOWED

result_is : (o : Option Request) (told : Told) (s : Status) (written said : List ℕ) → IsResult o told s written said → IsTrue (is_result s)
result_is None told s written said h = absurd h
result_is (Some request) told s written said h = h.result

-- a result is allowed
pub result_allowed : (words : List Word) (shelf : Shelved) (s : Status) (written said : List ℕ) → IsResult (request_of words) shelf.told s written said → Allows words shelf s written said
result_allowed words shelf s written said h = by s h (result_is (request_of words) shelf.told s written said h)
  where
    by : (s : Status) → IsResult (request_of words) shelf.told s written said → IsTrue (is_result s) → Allows words shelf s written said
    by status.Words h is = absurd (let f : ⊥ = cc is in f)
    by status.Input h is = absurd (let f : ⊥ = cc is in f)
    by status.ReadFault h is = absurd (let f : ⊥ = cc is in f)
    by status.WriteFault h is = absurd (let f : ⊥ = cc is in f)
    by status.Memory h is = absurd (let f : ⊥ = cc is in f)
    by s h is = h

read_fault : (o : Option Request) (shelf : Shelved) → Rose shelf.before shelf.after → StopsAsRead o shelf.told shelf.ailing shelf.current stop.Read → HasReadFault o shelf
read_fault None shelf rose h = h
read_fault (Some request) shelf rose h = (rose, h)

-- so is one that an input deserves
deserved : (o : Option Request) (shelf : Shelved) (s : Stop) → status_of s ≡ status.Input → StopsAsRead o shelf.told shelf.ailing shelf.current s → DeservesStop o shelf.told s
deserved None shelf s is h = h
deserved (Some request) shelf (stop.Words i) is h = absurd (let f : ⊥ = cc is in f)
deserved (Some request) shelf stop.Read is h = absurd (let f : ⊥ = cc is in f)
deserved (Some request) shelf stop.Memory is h = absurd (let f : ⊥ = cc is in f)
deserved (Some request) shelf s is h = h

-- what a stop tells is allowed
pub stop_allowed : (words : List Word) (shelf : Shelved) (s : Stop) (written said : List ℕ) → StopsAt words shelf.told shelf.ailing shelf.current s → (s ≡ stop.Read → Rose shelf.before shelf.after) → Tells s written said → Allows words shelf (status_of s) written said
stop_allowed words shelf (stop.Words i) written said h rose tells = (i, h, tells)
stop_allowed words shelf stop.Read written said h rose tells = (read_fault (request_of words) shelf (rose refl) h, tells)
stop_allowed words shelf stop.Memory written said h rose tells = tells
stop_allowed words shelf s written said h rose tells = (s, deserved (request_of words) shelf s refl h, tells)

-- WHAT IS DECIDED

-- it is status 2, or the inputs are read
decided_by : (request : Request) (told : Told) (decided : Status) → IsDecidedFor request told decided → (decided ≡ status.Input) ⊎ HasValues request told decided
decided_by request told status.Input h = inl refl
decided_by request told decided h = inr h

-- a result has the decided status
pub result_decided : {ShelfFailed SinkFailed : Type 0} → IsOfOneDocument → (o : Option Request) (told : Told) (s decided : Status) (written said : List ℕ) → IsResult o told s written said → IsDecided o told decided → IsUnlessFailed (code s) decided ShelfFailed SinkFailed
result_decided once None told s decided written said h d = absurd h
result_decided once (Some request) told s decided written said h d = inl (ap code (by (decided_by request told decided d) d))
  where
    by : (decided ≡ status.Input) ⊎ HasValues request told decided → IsDecidedFor request told decided → s ≡ decided
    by (inl e) d = absurd (none_bad once told nothing_known (inputs_of request.command) request.names h.values nothing_small h.read (subst (IsDecidedFor request told) e d))
    by (inr v) d =
        let same = one_reading once told nothing_known (inputs_of request.command) request.names h.values v.values nothing_small v.told_all h.read v.read in
        one_status request.command request.options v.values decided s written said v.decides (subst (λ (values : Values (inputs_of request.command)). Answers request.command request.options values s written said) same h.answers)

-- a bad input has status 2
bad_decided : IsOfOneDocument → StopsNowhere → (request : Request) (told : Told) (s : Stop) (decided : Status) → IsFirstBad told nothing_known (inputs_of request.command) request.names s → IsDecidedFor request told decided → decided ≡ status.Input
bad_decided once never request told s decided h d = by (decided_by request told decided d)
  where
    by : (decided ≡ status.Input) ⊎ HasValues request told decided → decided ≡ status.Input
    by (inl e) = e
    by (inr v) = absurd (none_stops once never told nothing_known (inputs_of request.command) request.names v.values s nothing_small v.told_all v.read h)

refusal_decided : IsOfOneDocument → StopsNowhere → (o : Option Request) (told : Told) (ailing : Bool) (current : Option (List ℕ)) (s : Stop) (decided : Status) → status_of s ≡ status.Input → StopsAsRead o told ailing current s → IsDecided o told decided
    → decided ≡ status.Input
refusal_decided once never None told ailing current s decided is h d = absurd h
refusal_decided once never (Some request) told ailing current (stop.Words i) decided is h d = absurd (let f : ⊥ = cc is in f)
refusal_decided once never (Some request) told ailing current stop.Read decided is h d = absurd (let f : ⊥ = cc is in f)
refusal_decided once never (Some request) told ailing current stop.Memory decided is h d = absurd (let f : ⊥ = cc is in f)
refusal_decided once never (Some request) told ailing current s decided is h d = bad_decided once never request told s decided h d

-- so is that of a stop, unless a call or memory failed
pub stop_decided : {ShelfFailed SinkFailed : Type 0} → IsOfOneDocument → StopsNowhere → (words : List Word) (told : Told) (ailing : Bool) (current : Option (List ℕ)) (s : Stop) (decided : Status) → StopsAt words told ailing current s → (s ≡ stop.Read → ShelfFailed) → IsDecided (request_of words) told decided → IsUnlessFailed (code (status_of s)) decided ShelfFailed SinkFailed
stop_decided once never words told ailing current (stop.Words i) decided h rose d =
    let is : decided ≡ status.Words = subst (λ (o : Option Request). IsDecided o told decided) h.unlawful d in
    inl (ap code (sym is))
stop_decided once never words told ailing current stop.Read decided h rose d = inr (inl (refl, rose refl))
stop_decided once never words told ailing current stop.Memory decided h rose d = inr (inr (inr refl))
stop_decided once never words told ailing current s decided h rose d = inl (ap code (sym (refusal_decided once never (request_of words) told ailing current s decided refl h d)))

-- THE ENDING OF A STOP

pub told_allowed : (words : List Word) (shelf : Shelved) (s : Stop) (r : Result Ending OutOfMemory) → IfOk r (λ e. e.status ≡ status_of s) → IfOk r (λ e. Tells s e.written.items e.said.items) → StopsAt words shelf.told shelf.ailing shelf.current s
    → (s ≡ stop.Read → Rose shelf.before shelf.after) → IfOk r (λ e. Allows words shelf e.status e.written.items e.said.items)
told_allowed words shelf s (Ok e) is tells h rose = subst (λ (t : Status). Allows words shelf t e.written.items e.said.items) (sym is) (stop_allowed words shelf s e.written.items e.said.items h rose tells)
told_allowed words shelf s (Err e) is tells h rose = tt

pub told_decided : {ShelfFailed : Type 0} (SinkFailed : Type 0) → IsOfOneDocument → StopsNowhere → (words : List Word) (told : Told) (ailing : Bool) (current : Option (List ℕ)) (s : Stop) (r : Result Ending OutOfMemory) → IfOk r (λ e. e.status ≡ status_of s) → StopsAt words told ailing current s → (s ≡ stop.Read → ShelfFailed)
    → IfOk r (λ e. (decided : Status) → IsDecided (request_of words) told decided → IsUnlessFailed (code e.status) decided ShelfFailed SinkFailed)
told_decided {ShelfFailed} SinkFailed once never words told ailing current s (Ok e) is h rose = λ decided d. subst (λ (t : Status). IsUnlessFailed (code t) decided ShelfFailed SinkFailed) (sym is) (stop_decided once never words told ailing current s decided h rose d)
told_decided SinkFailed once never words told ailing current s (Err e) is h rose = tt

-- WHERE THE SHELF IS AILING

well_by : (s : Status) (o : Option Request) (ailing : Bool) → (IsTrue ailing → ReadsNothing o) → IsWell s o ailing
well_by status.ReadFault o ailing h = tt
well_by status.Memory o ailing h = tt
well_by s o ailing h = h

-- a result does not tell of a failure
pub result_well : (s : Status) (o : Option Request) (ailing : Bool) → (IsTrue ailing → ReadsNothing o ⊎ ⊥) → IsWell s o ailing
result_well s o ailing h = well_by s o ailing (λ is. by (h is))
  where
    by : ReadsNothing o ⊎ ⊥ → ReadsNothing o
    by (inl nothing) = nothing
    by (inr f) = absurd f

-- nor does a stop of another kind
stop_well : (s : Stop) (o : Option Request) (ailing : Bool) → (IsTrue ailing → ReadsNothing o ⊎ IsFailure s) → IsWell (status_of s) o ailing
stop_well stop.Read o ailing h = tt
stop_well stop.Memory o ailing h = tt
stop_well (stop.Words i) o ailing h = result_well status.Words o ailing h
stop_well s o ailing h = result_well status.Input o ailing h

pub told_well : (s : Stop) (o : Option Request) (ailing : Bool) (r : Result Ending OutOfMemory) → IfOk r (λ e. e.status ≡ status_of s) → (IsTrue ailing → ReadsNothing o ⊎ IsFailure s) → IfOk r (λ e. IsWell e.status o ailing)
told_well s o ailing (Ok e) is h = subst (λ (t : Status). IsWell t o ailing) (sym is) (stop_well s o ailing h)
told_well s o ailing (Err e) is h = tt

-- memory may run out for that line too
memory_ends : (words : List Word) (shelf : Shelved) (out say : Sunk) (answer : ℕ) → answer ≡ code status.Memory → TakesBoth out say [] (line_of stop.Memory) → Ends words shelf out say answer
memory_ends words shelf out say answer is taken = record { status = status.Memory; written = []; said = line_of stop.Memory; allowed = (refl, refl); well = tt; answer_is = is; taken = taken }

pub memory_cut : {OutIsSame SayIsSame : Type 0} → (words : List Word) (shelf : Shelved) (out say : Sunk) → IsCutIn out say [] (line_of stop.Memory) SayIsSame → OutIsSame → IsCutOff words shelf out say OutIsSame SayIsSame
memory_cut words shelf out say cut same = record { status = status.Memory; written = []; said = line_of stop.Memory; allowed = (refl, refl); well = tt; cut = cut; out_unused = λ e. same }

pub memory_quiet : {OutIsSame SayIsSame : Type 0} → (words : List Word) (shelf : Shelved) (out say : Sunk) (answer : ℕ) → answer ≡ code status.Memory → TakesBoth out say [] (line_of stop.Memory) → OutIsSame
    → (line_of stop.Memory ≡ [] → SayIsSame) → EndsQuietly words shelf out say answer OutIsSame SayIsSame
unfolding memory_ends
memory_quiet words shelf out say answer is taken same unused = record { ending = memory_ends words shelf out say answer is taken; out_unused = λ e. same; say_unused = unused }

-- WHAT IS WRITTEN

pub rose_in : {SayIsSame : Type 0} → (out say : Sunk) (written said : List ℕ) → IsCutIn out say written said SayIsSame → Rose out.faults_before out.faults_after ⊎ Rose say.faults_before say.faults_after
rose_in out say written said (inl first) = inl first.0.rose
rose_in out say written said (inr second) = inr second.1.rose

-- that it failed in these texts, without what is said of the sink as a whole
cut_in : {SayIsSame : Type 0} → (out say : Sunk) (written said one other : List ℕ) → one ≡ written → other ≡ said → IsCutIn out say one other SayIsSame → IsCutIn out say written said ⊤
cut_in out say written said one other p q (inl first) = inl (subst (λ (t : List ℕ). IsCut out t) p first.0, first.1, tt)
cut_in out say written said one other p q (inr second) = inr (subst (λ (t : List ℕ). Takes out t) p second.0, subst (λ (t : List ℕ). IsCut say t) q second.1)

-- an ending that has the decided status keeps it as it is written, unless a sink fails
written_decided : {ShelfFailed SayIsSame : Type 0} → (out say : Sunk) (written said : List ℕ) (s decided : Status) (answer : ℕ) → (answer ≢ 4 → (answer ≡ code s) × TakesBoth out say written said)
    → (answer ≡ 4 → IsCutIn out say written said SayIsSame) → IsUnlessFailed (code s) decided ShelfFailed ⊥
    → IsUnlessFailed answer decided ShelfFailed (Rose out.faults_before out.faults_after ⊎ Rose say.faults_before say.faults_after)
written_decided {ShelfFailed} out say written said s decided answer ended cut d = elim (cases_eq answer 4) [
  | inl four ↦ inr (inr (inl (four, rose_in out say written said (cut four))))
  | inr other ↦ by (ended other).0 d
]
  where
    by : answer ≡ code s → IsUnlessFailed (code s) decided ShelfFailed ⊥ → IsUnlessFailed answer decided ShelfFailed (Rose out.faults_before out.faults_after ⊎ Rose say.faults_before say.faults_after)
    by is (inl e) = inl (is ∙ e)
    by is (inr (inl e)) = inr (inl (is ∙ e.0, e.1))
    by is (inr (inr (inl e))) = absurd e.1
    by is (inr (inr (inr e))) = inr (inr (inr (is ∙ e)))

-- an allowed ending, as its texts were written
written_ends : (words : List Word) (shelf : Shelved) (out say : Sunk) (s : Status) (written said one other : List ℕ) (answer : ℕ) → Allows words shelf s written said → IsWell s (request_of words) shelf.ailing
    → one ≡ written → other ≡ said → (answer ≡ code s) × TakesBoth out say one other → Ends words shelf out say answer
written_ends words shelf out say s written said one other answer allowed well p q e = record {
  status = s;
  written = written;
  said = said;
  allowed = allowed;
  well = well;
  answer_is = e.0;
  taken = (subst (λ (t : List ℕ). Takes out t) p e.1.0, subst (λ (t : List ℕ). Takes say t) q e.1.1);
}

-- such an ending makes a run
pub written_runs : {SayIsSame : Type 0} → (words : List Word) (shelf : Shelved) (out say : Sunk) (s : Status) (written said one other : List ℕ) (answer : ℕ) → Allows words shelf s written said → IsWell s (request_of words) shelf.ailing
    → one ≡ written → other ≡ said → (answer ≢ 4 → (answer ≡ code s) × TakesBoth out say one other) → (answer ≡ 4 → IsCutIn out say one other SayIsSame)
    → ((decided : Status) → IsDecided (request_of words) shelf.told decided → IsUnlessFailed (code s) decided (Rose shelf.before shelf.after) ⊥) → IsRun words shelf out say answer
written_runs words shelf out say s written said one other answer allowed well p q ended cut h = record {
  ended = λ four. written_ends words shelf out say s written said one other answer allowed well p q (ended four);
  cut = λ four. record { status = s; written = written; said = said; allowed = allowed; well = well; cut = cut_in out say written said one other p q (cut four); out_unused = λ none. tt };
  complete = λ decided is. written_decided out say one other s decided answer ended cut (h decided is);
}

-- so does memory that ran out
pub memory_runs : {SayIsSame : Type 0} → (words : List Word) (shelf : Shelved) (out say : Sunk) (answer : ℕ) → (answer ≢ 4 → (answer ≡ code status.Memory) × TakesBoth out say [] (line_of stop.Memory))
    → (answer ≡ 4 → IsCutIn out say [] (line_of stop.Memory) SayIsSame) → IsRun words shelf out say answer
memory_runs words shelf out say answer ended cut =
    written_runs words shelf out say status.Memory [] (line_of stop.Memory) [] (line_of stop.Memory) answer (refl, refl) tt refl refl ended cut (λ decided is. inr (inr (inr refl)))

-- where its texts are empty, they leave their sinks as they were
pub ends_quietly : {OutIsSame SayIsSame : Type 0} → (words : List Word) (shelf : Shelved) (out say : Sunk) (s : Status) (written said one other : List ℕ) (answer : ℕ) → Allows words shelf s written said → IsWell s (request_of words) shelf.ailing
    → one ≡ written → other ≡ said → (answer ≡ code s) × TakesBoth out say one other → (one ≡ [] → OutIsSame) → (other ≡ [] → SayIsSame) → EndsQuietly words shelf out say answer OutIsSame SayIsSame
unfolding written_ends
ends_quietly words shelf out say s written said one other answer allowed well p q e out_unused say_unused = record {
  ending = written_ends words shelf out say s written said one other answer allowed well p q e;
  out_unused = λ none. out_unused (p ∙ none);
  say_unused = λ none. say_unused (q ∙ none);
}
