-- Lines that lead on, and lines that do not.
use Rattle.std.proofs.Common.{◌≡◌, ◌∙◌, ℕ, List, Bool, true, false, refl, sym, ap, subst, Option, Some, None}
use Rattle.std.specs.Prelude.{option_map, option_and_then}
use Rattle.std.specs.Borrow.{Bor}
use Rattle.lk_model.specs.Texts.Lines.{Word}
use Rattle.line_text.specs.Fields.{fields}
use Rattle.line_text.specs.Taking.{IsTaken}

pub taken_by : {X Y : Type 0} (f : X → Y) (o : Option X) (x : X) (now : Y) → Some x ≡ o → now ≡ f x → IsTaken (option_map f o) true now
taken_by f o x now e is = subst (λ (p : Option _). IsTaken (option_map f p) true now) e (refl, is)

pub not_by : {X Y : Type 0} (f : X → Y) (o : Option X) (now : Y) → None ≡ o → IsTaken (option_map f o) false now
not_by f o now e = subst (λ (p : Option _). IsTaken (option_map f p) false now) e refl

-- what was taken, and what was not
pub taken_next : {X : Type 0} (o : Option X) (taken : Bool) (now : X) → IsTaken o taken now → taken ≡ true → o ≡ Some now
taken_next None taken now h t = absurd (let f : ⊥ = cc in f)
taken_next (Some next) taken now h t = ap Some (sym h.1)

pub not_taken : {X : Type 0} (o : Option X) (taken : Bool) (now : X) → IsTaken o taken now → taken ≡ false → o ≡ None
not_taken None taken now h t = refl
not_taken (Some next) taken now h t = absurd (let one = h.0 in let f : ⊥ = cc in f)

-- what is read of the words after two others
pub behind_is : {Y : Type 0} (read : List Word → Option Y) (found : Option (List Word)) (result : Option (Bor (List ℕ))) (rest : Bor (List ℕ)) → result ≡ Some rest
    → option_map (λ (r : Bor (List ℕ)). fields r.now) result ≡ found → read (fields rest.now) ≡ option_and_then read found
behind_is read found result rest is e =
    ap (option_and_then read) (sym (ap (option_map (λ (r : Bor (List ℕ)). fields r.now)) is) ∙ e)
