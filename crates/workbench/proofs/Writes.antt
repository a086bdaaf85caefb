-- What was written so far.
use Rattle.std.proofs.Common.{◌≡◌, ℕ, ◌+◌, ◌-◌, ◌≤◌, ◌<◌, List, length, take, drop, Option, ap, arith}
use Rattle.std.specs.Io.KnownBytes.{Appends}
use Rattle.std.proofs.Math.Seq.{take-add}
use Rattle.std.proofs.lemmas.List.{length-drop, take_rest}
use Rattle.std.proofs.KnownBytes.{Appends-trans}

-- so many bytes of the text were taken, the count of faults has not fallen, and before the first byte nothing has changed
pub record Written (before now : Option (List ℕ)) (faults_before faults_now : ℕ) (text : List ℕ) (at : ℕ) : Type 0 where
  pub within : at ≤ length text
  pub taken : Appends before now (take at text)
  pub later : faults_before ≤ faults_now
  pub same : at ≡ 0 → now ≡ before

-- what was taken before, and what one more write took of the rest
pub Written-then : (a b c : Option (List ℕ)) (f g h : ℕ) (text : List ℕ) (at n : ℕ) → Written a b f g text at → 0 < n → n ≤ length (take (length text - at) (drop at text)) → Appends b c (take n (take (length text - at) (drop at text))) → g ≤ h → Written a c f h text (at + n)
Written-then a b c f g h text at n w some k p later = record {
  within = omega (arith, length-drop at text, ap length (take_rest text at), w.within);
  taken = rw take-add (Appends-trans a b c _ _ w.taken (rw (← take_rest text at) p));
  later = omega (arith, w.later);
  same = λ none. absurd (omega (arith, some, none));
}
