-- What was read so far.
use Rattle.std.proofs.Common.{◌≡◌, ℕ, ◌-◌, ◌<◌, ◌≤◌, Bool, List, [], ◌++◌, length, Option, Some, None, refl, sym, ap, subst, ◌∙◌, arith, length-append}
use Rattle.std.specs.Prelude.{IfSome, IsTrue}
use Rattle.std.specs.Io.KnownBytes.{Consumes, IsAtEnd}
use Rattle.std.proofs.lemmas.List.{append-nil}
use Rattle.lk_outside.specs.Causes.{HasCause, Rose, TellsTheSame}
use Rattle.command_inputs.specs.Inputs.{Told}

-- The bytes were taken from a shelf: they lie before those that are left. The text is still started under its name, the
-- shelf tells what it told, and the count of faults has not fallen.
pub record TakesUp (told_before told_now : Told) (before now : Option (List ℕ)) (faults_before faults_now : ℕ) (started : Bool) (current_before current_now : Option (List ℕ)) (bytes : List ℕ) : Type 0 where
  pub tells : TellsTheSame told_before told_now
  pub consumed : Consumes before now bytes
  pub open_text : IsTrue started
  pub same : current_now ≡ current_before
  pub later : faults_before ≤ faults_now

-- at first no byte was taken
pub nothing_taken : (unread : Option (List ℕ)) → Consumes unread unread []
nothing_taken None = tt
nothing_taken (Some bytes) = refl

-- what is told stays the same from call to call
pub Tells-then : (a b c : Told) → TellsTheSame a b → TellsTheSame b c → TellsTheSame a c
Tells-then a b c p q = λ name. q name ∙ p name

-- a count that rose from a later value rose
Rose-from : (a b c : ℕ) → a ≤ b → Rose b c → Rose a c
Rose-from a b c p q = omega arith

-- a count that rose behind another one's keeping
pub Cause-then : {P Q : Type 0} (a b c : ℕ) → HasCause a b P → HasCause b c Q → HasCause a c Q
Cause-then a b c p q = record { later = omega (arith, p.later, q.later); failed = λ x. Rose-from a b c p.later (q.failed x) }

-- A READER THAT IS FED

-- the bytes that the reader was fed are those that were taken from the shelf
pub record IsFedFrom {R : Type 0} (Been : List ℕ → R → Type 0) (told_before told_now : Told) (before now : Option (List ℕ)) (faults_before faults_now : ℕ) (started : Bool) (current_before current_now : Option (List ℕ)) (reader : R) : Type 0 where
  pub fed : List ℕ
  pub been : Been fed reader
  pub taken : TakesUp told_before told_now before now faults_before faults_now started current_before current_now fed

-- what is left of the bytes that may be fed gets less
pub fewer_left : {R : Type 0} (Been : List ℕ → R → Type 0) (count : R → ℕ) (most : ℕ) (fed bytes : List ℕ) (old new : R) → ((all : List ℕ) (reader : R) → Been all reader → count reader ≡ length all)
    → Been fed old → Been (fed ++ bytes) new → length (fed ++ bytes) ≤ most → 0 < length bytes → most - count new < most - count old
fewer_left Been count most fed bytes old new counted h k limit some =
    let before = counted fed old h in
    let after = counted (fed ++ bytes) new k in
    omega (arith, before, after, limit, length-append fed bytes, some)

-- THE WHOLE TEXT

-- what was taken, up to the end, is all of the text
all_taken : (a b bytes : List ℕ) → a ≡ bytes ++ b → b ≡ [] → a ≡ bytes
all_taken a b bytes p e = p ∙ ap (λ (s : List ℕ). bytes ++ s) e ∙ append-nil bytes

-- what holds of it holds of the text
pub at_end : (P : List ℕ → Type 0) (before now : Option (List ℕ)) (fed : List ℕ) → Consumes before now fed → IsAtEnd now → P fed → IfSome before P
at_end P None now fed p e h = tt
at_end P (Some a) None fed p e h = absurd p
at_end P (Some a) (Some b) fed p e h = subst P (sym (all_taken a b fed p e)) h

-- what holds of the bytes that were taken, however they go on, holds of the text
pub in_midst : (P : List ℕ → Type 0) (before now : Option (List ℕ)) (fed : List ℕ) → Consumes before now fed → ((more : List ℕ) → P (fed ++ more)) → IfSome before P
in_midst P None now fed p h = tt
in_midst P (Some a) None fed p h = absurd p
in_midst P (Some a) (Some b) fed p h = subst P (sym p) (h b)
