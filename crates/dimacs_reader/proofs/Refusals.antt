-- The refusal of a text is that of its first fault.
use Rattle.std.proofs.Common.{◌≡◌, ℕ, ◌+◌, ◌-◌, ◌<◌, ◌≤◌, ◌∙◌, Bool, true, false, cond, ◌||◌, ◌&&◌, List, [], ◌∷◌, ◌++◌, length, refl, sym, ap, subst, arith, inl, inr, Option, Some, None, append_assoc}
use Rattle.std.specs.Prelude.{option_map, count_by, nat_le, nat_lt, Result, Ok, Err, OnOk, IfErr}
use Rattle.std.proofs.lemmas.Bool.{le-ltb, lt-ltb, le-leb, lt-leb, cases_lt}
use Rattle.std.proofs.lemmas.List.{take-append-le, length-append}
use Rattle.lk_model.specs.Limits.{max_bytes}
use Rattle.lk_model.specs.Texts.Lines.{is_newline, line_number}
use Rattle.lk_model.specs.Texts.Dimacs.{content_lines}
use Rattle.lk_model.specs.Texts.Fault.{fault_if, content_faults, stop as stop_of, least, earlier_of, fault_of, IsSettled}
use Rattle.lk_model.specs.declared.text_fault.Fault.{Fault}
use Rattle.lk_model.specs.declared.text_fault.FaultKind.{FaultKind}
use Rattle.lk_model.specs.declared.text_fault.FaultKind.TheVariants.{NoHeader, BadHeader, SecondHeader, BadToken, BeyondStated, TooManyClauses, TooFewClauses, Limit, TooLong}
use Rattle.dimacs_reader.specs.FirstFaults.{text_fault}
use Rattle.dimacs_reader.specs.Outcomes.{Outcome, Faulty, Written, text_outcome, fault_in_outcome}
use Rattle.dimacs_reader.specs.Faults.{refusal_by, refusal_at, refusal_of, IsRefusalOf, IsSettledAs, ForFault, first_fault_of, is_due, shows_at_once, HasNoneDue}
use Rattle.dimacs_reader.specs.Stages.{Stands, IsMet, IsMetAtEnd}
use Rattle.dimacs_reader.specs.Taken.{too_long, IsFirstOf}
use Rattle.dimacs_reader.specs.declared.reading.Stage.{Stage}
use Rattle.dimacs_reader.specs.declared.stop.Stop.{Stop}
use Rattle.dimacs_reader.specs.declared.stop.Stop.TheVariants as stop
use Rattle.dimacs_reader.proofs.FirstFaultLaws.{first_fault}
use Rattle.dimacs_reader.proofs.OutcomeLaws.{outcome_fault}
use Rattle.dimacs_reader.proofs.HeadStands.{next_line}
use Rattle.dimacs_reader.proofs.Prefixes.{within, same_within}
use Rattle.dimacs_reader.proofs.Dues.{stands_late, NoneDue}

-- FIRST FAULTS

pub short : (text : List ℕ) → length text ≤ max_bytes → first_fault_of text ≡ text_fault text
short text h =
    ap (λ (b : Bool). least (fault_if b TooLong (max_bytes + 1) ++ content_faults (content_lines text) (stop_of text))) (le-ltb max_bytes (length text) h) ∙ first_fault text

pub long : (text : List ℕ) → max_bytes < length text → first_fault_of text ≡ earlier_of too_long (text_fault text)
long text h =
    ap (λ (b : Bool). least (fault_if b TooLong (max_bytes + 1) ++ content_faults (content_lines text) (stop_of text))) (lt-ltb max_bytes (length text) h)
    ∙ ap (earlier_of too_long) (first_fault text)

-- a fault among the bytes that are allowed
early : (text : List ℕ) (f : Fault) → text_fault text ≡ Some f → f.place ≤ max_bytes → first_fault_of text ≡ Some f
early text f e h = elim (cases_lt max_bytes (length text)) [
  | inl over ↦ long text over ∙ ap (earlier_of too_long) e ∙ ap (λ (b : Bool). cond b (Some too_long) (Some f)) (lt-leb (max_bytes + 1) f.place (omega (arith, h)))
  | inr fits ↦ short text fits ∙ e
]

-- none among them
late : (text : List ℕ) → max_bytes < length text → within max_bytes (text_fault text) ≡ None → first_fault_of text ≡ Some too_long
late text h e = long text h ∙ by_fault (text_fault text) e
  where
    by_fault : (o : Option Fault) → within max_bytes o ≡ None → earlier_of too_long o ≡ Some too_long
    by_fault None w = refl
    by_fault (Some f) w = elim (cases_lt max_bytes f.place) [
      | inl high ↦ ap (λ (b : Bool). cond b (Some too_long) (Some f)) (le-leb (max_bytes + 1) f.place (omega (arith, high)))
      | inr low ↦ absurd (let g : ⊥ = cc (w, ap (λ (b : Bool). cond b (Some f) None) (le-leb f.place max_bytes low)) in g)
    ]

-- the kind of the first fault and its line
at_line : (text : List ℕ) (f : Fault) (line : ℕ) → first_fault_of text ≡ Some f → line_number text f.place ≡ line → fault_of text ≡ Some (f.kind, line)
at_line text f line e l = ap (option_map (λ (g : Fault). (g.kind, line_number text g.place))) e ∙ ap (λ (n : ℕ). Some (f.kind, n)) l

-- the line of a byte among the first ones
line_stays : (text more : List ℕ) (place : ℕ) → place ≤ length text + 1 → line_number (text ++ more) place ≡ line_number text place
line_stays text more place h =
    let within_text : place - 1 ≤ length text = omega (arith, h) in
    ap (λ (bytes : List ℕ). count_by is_newline bytes + 1) (take-append-le (place - 1) text more within_text)

-- the fault of a text by its outcome
faulty : (text : List ℕ) (f : Fault) → text_outcome text ≡ Faulty f → text_fault text ≡ Some f
faulty text f e = sym (outcome_fault text) ∙ ap fault_in_outcome e

-- WHAT IS SETTLED

settled_met : (fed : List ℕ) (b line : ℕ) (f : Fault) → line ≡ count_by is_newline fed + 1 → f.place ≤ max_bytes → IsMet fed b f → IsSettled (fed ++ b ∷ []) (f.kind, line)
settled_met fed b line f l h met more =
    let text = (fed ++ b ∷ []) ++ more in
    let joined : text ≡ fed ++ b ∷ more = append_assoc fed (b ∷ []) more in
    at_line text f line (early text f (faulty text f (ap text_outcome joined ∙ met.outcome more)) h)
    (ap (λ (bytes : List ℕ). line_number bytes f.place) joined ∙ line_stays fed (b ∷ more) f.place met.place ∙ met.line ∙ sym l)

settled_long : (fed : List ℕ) (b line : ℕ) → line ≡ count_by is_newline fed + 1 → length fed ≡ max_bytes → within max_bytes (text_fault (fed ++ b ∷ [])) ≡ None → IsSettled (fed ++ b ∷ []) (TooLong, line)
settled_long fed b line l size e more =
    let text = (fed ++ b ∷ []) ++ more in
    let joined : text ≡ fed ++ b ∷ more = append_assoc fed (b ∷ []) more in
    let one = length-append fed (b ∷ []) in
    let two = length-append (fed ++ b ∷ []) more in
    let over : max_bytes < length text = omega (arith, one, two, size) in
    let over_one : max_bytes < length (fed ++ b ∷ []) = omega (arith, one, size) in
    at_line text too_long line (late text over (same_within max_bytes (fed ++ b ∷ []) more over_one ∙ e))
    (ap (λ (bytes : List ℕ). line_number bytes (max_bytes + 1)) joined ∙ line_stays fed (b ∷ more) (max_bytes + 1) (omega (arith, size))
    ∙ ap (λ (n : ℕ). line_number fed (n + 1)) (sym size) ∙ next_line fed ∙ sym l)

-- no fault of an outcome that has none due, or one after the bytes that are allowed
late_due : (o : Outcome) (size : ℕ) → size ≡ max_bytes + 1 → NoneDue size o → within max_bytes (fault_in_outcome o) ≡ None
late_due (Faulty f) size s due = elim (cases_lt max_bytes f.place) [
  | inl high ↦ ap (λ (b : Bool). cond b (Some f) None) (lt-leb f.place max_bytes high)
  | inr low ↦
      let early_place : nat_lt f.place size ≡ true = lt-ltb f.place size (omega (arith, low, s)) in
      absurd (let g : ⊥ = cc (due, ap (λ (b : Bool). b || (shows_at_once f.kind && nat_le f.place size)) early_place) in g)
]
late_due (Written vars clauses words) size s due = refl

-- however the text goes on, a fault of its next byte is the first one
settled_step : (fed : List ℕ) (b before line : ℕ) (taken : Result (Unit {0}) Stop) (next : Stage) (f : Fault) → length fed ≡ before → before ≤ max_bytes → line ≡ count_by is_newline fed + 1
    → IsFirstOf taken before f → OnOk taken (Stands (fed ++ b ∷ []) next) → IfErr taken (λ s. ForFault s (IsMet fed b)) → IsSettled (fed ++ b ∷ []) (f.kind, line)
settled_step fed b before line (Ok u) next f size few l first ok err =
    let text = fed ++ b ∷ [] in
    let full = first.1 in
    let one = length-append fed (b ∷ []) in
    let none : within max_bytes (text_fault text) ≡ None =
    ap (within max_bytes) (sym (outcome_fault text)) ∙ late_due (text_outcome text) (length text) (omega (arith, one, size, few, full)) (stands_late text next ok) in
    subst (λ (g : Fault). IsSettled text (g.kind, line)) (sym first.0) (settled_long fed b line l (omega (arith, size, few, full)) none)
settled_step fed b before line (Err stop.OutOfMemory) next f size few l first ok err = absurd first
settled_step fed b before line (Err (stop.Fault g)) next f size few l first ok err =
    let reach = err.place in
    elim first [
      | inl same ↦
          let low : g.place ≤ max_bytes = elim same.1 [ inl h ↦ h | inr h ↦ omega (arith, h, reach, size) ] in
          subst (λ (x : Fault). IsSettled (fed ++ b ∷ []) (x.kind, line)) (sym same.0) (settled_met fed b line g l low err)
      | inr past ↦
          let full = past.1 in
          let none : within max_bytes (text_fault (fed ++ b ∷ [])) ≡ None =
          ap (within max_bytes) (faulty (fed ++ b ∷ []) g (err.outcome [])) ∙ ap (λ (t : Bool). cond t (Some g) None) (lt-leb g.place max_bytes past.2) in
          subst (λ (x : Fault). IsSettled (fed ++ b ∷ []) (x.kind, line)) (sym past.0) (settled_long fed b line l (omega (arith, size, few, full)) none)
    ]

pub settled_stop : (fed : List ℕ) (b before line : ℕ) (taken : Result (Unit {0}) Stop) (next : Stage) (s : Stop) → length fed ≡ before → before ≤ max_bytes → line ≡ count_by is_newline fed + 1
    → ForFault s (IsFirstOf taken before) → OnOk taken (Stands (fed ++ b ∷ []) next) → IfErr taken (λ t. ForFault t (IsMet fed b)) → ForFault s (λ f. IsSettled (fed ++ b ∷ []) (f.kind, line))
settled_stop fed b before line taken next stop.OutOfMemory size few l first ok err = tt
settled_stop fed b before line taken next (stop.Fault f) size few l first ok err = settled_step fed b before line taken next f size few l first ok err

-- REFUSALS

-- a refusal does not say that memory ran out
is_refusal : (text : List ℕ) (kind : FaultKind) (line : ℕ) → refusal_of text ≡ Some (refusal_by (kind, line)) → IsRefusalOf text (refusal_by (kind, line))
is_refusal text NoHeader line h = h
is_refusal text BadHeader line h = h
is_refusal text SecondHeader line h = h
is_refusal text BadToken line h = h
is_refusal text BeyondStated line h = h
is_refusal text TooManyClauses line h = h
is_refusal text TooFewClauses line h = h
is_refusal text Limit line h = h
is_refusal text TooLong line h = h

-- the refusal at a stop that is settled, after more bytes
pub settled_refusal : (fed : List ℕ) (line : ℕ) (s : Stop) (whole rest : List ℕ) → whole ≡ fed ++ rest → ForFault s (λ f. IsSettled fed (f.kind, line)) → IsSettledAs whole (refusal_at line s)
settled_refusal fed line stop.OutOfMemory whole rest e h = λ more. tt
settled_refusal fed line (stop.Fault f) whole rest e h = λ more.
    is_refusal (whole ++ more) f.kind line
    (ap (λ (bytes : List ℕ). refusal_of (bytes ++ more)) e ∙ ap refusal_of (append_assoc fed rest more) ∙ ap (option_map refusal_by) (h (rest ++ more)))

-- the refusal at the stop of a text that ends
pub refusal_at_end : (fed : List ℕ) (line : ℕ) (s : Stop) → length fed ≤ max_bytes → line ≡ count_by is_newline fed + 1 → ForFault s (IsMetAtEnd fed) → IsRefusalOf fed (refusal_at line s)
refusal_at_end fed line stop.OutOfMemory h l met = tt
refusal_at_end fed line (stop.Fault f) h l met =
    is_refusal fed f.kind line (ap (option_map refusal_by) (at_line fed f line (short fed h ∙ faulty fed f met.outcome) (met.line ∙ sym l)))

-- no fault must have been reported
pub none_due : (fed : List ℕ) (s : Stage) → length fed ≤ max_bytes → Stands fed s → HasNoneDue fed
none_due fed s h stands f e =
    due (text_outcome fed) (stands_late fed s stands) (outcome_fault fed ∙ sym (short fed h) ∙ e)
  where
    due : (o : Outcome) → NoneDue (length fed) o → fault_in_outcome o ≡ Some f → is_due (length fed) f ≡ false
    due (Faulty g) d is = let same : g ≡ f = cc in subst (λ (x : Fault). is_due (length fed) x ≡ false) same d
    due (Written vars clauses words) d is = absurd (let g : ⊥ = cc in g)
