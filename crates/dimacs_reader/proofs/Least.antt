-- The least of some faults, where their places have bounds.
use Rattle.std.proofs.Common.{◌≡◌, ℕ, ◌<◌, ◌≤◌, Bool, true, false, cond, List, [], ◌∷◌, ◌++◌, refl, ◌∙◌, ap, subst, arith, Option, Some, None, nat_le}
use Rattle.std.proofs.lemmas.Bool.{le-leb, lt-leb}
use Rattle.lk_model.specs.Texts.Fault.{fault_if, earlier_of, least}
use Rattle.lk_model.specs.declared.text_fault.Fault.{Fault}
use Rattle.lk_model.specs.declared.text_fault.FaultKind.{FaultKind}
use Rattle.dimacs_reader.specs.FirstFaults.{first_or, or_behind}

-- BOUNDS

-- all places are above the number
abbrev pub Above : ℕ → List Fault → Type 0
Above n [] = Unit
Above n (f ∷ fs) = (n < f.place) × Above n fs

-- all places are at most the number
abbrev pub Within : ℕ → List Fault → Type 0
Within n [] = Unit
Within n (f ∷ fs) = (f.place ≤ n) × Within n fs

-- all places are the number
abbrev pub At : ℕ → List Fault → Type 0
At n [] = Unit
At n (f ∷ fs) = (f.place ≡ n) × At n fs

-- the bounds hold of faults after each other
pub above_append : (n : ℕ) (fs gs : List Fault) → Above n fs → Above n gs → Above n (fs ++ gs)
above_append n [] gs a b = b
above_append n (f ∷ fs) gs a b = (a.0, above_append n fs gs a.1 b)

pub at_append : (n : ℕ) (fs gs : List Fault) → At n fs → At n gs → At n (fs ++ gs)
at_append n [] gs a b = b
at_append n (f ∷ fs) gs a b = (a.0, at_append n fs gs a.1 b)

-- a lower bound may be lowered
pub above_less : (m n : ℕ) (fs : List Fault) → m ≤ n → Above n fs → Above m fs
above_less m n [] h a = tt
above_less m n (f ∷ fs) h a = let b = a.0 in ((omega (arith, b, h)), above_less m n fs h a.1)

-- faults at one place have its bounds
pub above_at : (m n : ℕ) (fs : List Fault) → m < n → At n fs → Above m fs
above_at m n [] h a = tt
above_at m n (f ∷ fs) h a = let b = a.0 in ((omega (arith, b, h)), above_at m n fs h a.1)

pub within_at : (m n : ℕ) (fs : List Fault) → n ≤ m → At n fs → Within m fs
within_at m n [] h a = tt
within_at m n (f ∷ fs) h a = let b = a.0 in ((omega (arith, b, h)), within_at m n fs h a.1)

-- a fault that depends on a test stands at its place
pub at_fault_if : (b : Bool) (kind : FaultKind) (place : ℕ) → At place (fault_if b kind place)
at_fault_if true kind place = (refl, tt)
at_fault_if false kind place = tt

-- THE LEAST ONE

-- the earlier one of two faults
earlier_first : (f g : Fault) → f.place ≤ g.place → earlier_of f (Some g) ≡ Some f
earlier_first f g h = ap (λ (b : Bool). cond b (Some f) (Some g)) (le-leb f.place g.place h)

earlier_second : (f g : Fault) → g.place < f.place → earlier_of f (Some g) ≡ Some g
earlier_second f g h = ap (λ (b : Bool). cond b (Some f) (Some g)) (lt-leb f.place g.place h)

-- what holds of both faults holds of the earlier one
earlier_one : (P : Fault → Type 0) (f : Fault) (o : Option Fault) (h : Fault) → P f → ((g : Fault) → o ≡ Some g → P g) → earlier_of f o ≡ Some h → P h
earlier_one P f None h p q e = let same : f ≡ h = cc in subst P same p
earlier_one P f (Some g) h p q e = chosen (nat_le f.place g.place) e
  where
    chosen : (b : Bool) → cond b (Some f) (Some g) ≡ Some h → P h
    chosen true e = let same : f ≡ h = cc in subst P same p
    chosen false e = let same : g ≡ h = cc in subst P same (q g refl)

-- the least one keeps the bounds
pub least_above : (n : ℕ) (fs : List Fault) (g : Fault) → Above n fs → least fs ≡ Some g → n < g.place
least_above n [] g a e = absurd (let f : ⊥ = cc in f)
least_above n (f ∷ fs) g a e = earlier_one (λ h. n < h.place) f (least fs) g a.0 (λ h. least_above n fs h a.1) e

pub least_within : (n : ℕ) (fs : List Fault) (g : Fault) → Within n fs → least fs ≡ Some g → g.place ≤ n
least_within n [] g a e = absurd (let f : ⊥ = cc in f)
least_within n (f ∷ fs) g a e = earlier_one (λ h. h.place ≤ n) f (least fs) g a.0 (λ h. least_within n fs h a.1) e

-- a fault that no other is before
earlier_all : (f : Fault) (o : Option Fault) → ((g : Fault) → o ≡ Some g → f.place ≤ g.place) → earlier_of f o ≡ Some f
earlier_all f None h = refl
earlier_all f (Some g) h = earlier_first f g (h g refl)

-- a fault after the one that is met first changes nothing there
earlier_behind : (f : Fault) (first rest : Option Fault) → ((g : Fault) → first ≡ Some g → g.place < f.place)
    → earlier_of f (or_behind first rest) ≡ or_behind first (earlier_of f rest)
earlier_behind f None rest h = refl
earlier_behind f (Some g) rest h = earlier_second f g (h g refl)

-- a fault that is not after what is met last changes nothing there
earlier_before : (f : Fault) (first rest : Option Fault) → ((g : Fault) → rest ≡ Some g → f.place ≤ g.place)
    → earlier_of f (or_behind first rest) ≡ or_behind (earlier_of f first) rest
earlier_before f None rest h = earlier_all f rest h
earlier_before f (Some g) rest h = chosen (nat_le f.place g.place)
  where
    chosen : (b : Bool) → cond b (Some f) (Some g) ≡ or_behind (cond b (Some f) (Some g)) rest
    chosen true = refl
    chosen false = refl

-- the least one of faults that stand in two places
pub least_two : (n : ℕ) (fs gs : List Fault) → Within n fs → Above n gs → least (fs ++ gs) ≡ or_behind (least fs) (least gs)
least_two n [] gs a b = refl
least_two n (f ∷ fs) gs a b =
    ap (earlier_of f) (least_two n fs gs a.1 b)
    ∙ earlier_before f (least fs) (least gs) (λ g e. let p = a.0 in let q = least_above n gs g b e in omega (arith, p, q))

-- the least one of faults, where those in the midst have the least places
pub least_midst : (n : ℕ) (hs fs gs : List Fault) → Above n hs → Within n fs → Above n gs → least (hs ++ (fs ++ gs)) ≡ or_behind (least fs) (least (hs ++ gs))
least_midst n [] fs gs a b c = least_two n fs gs b c
least_midst n (h ∷ hs) fs gs a b c =
    ap (earlier_of h) (least_midst n hs fs gs a.1 b c)
    ∙ earlier_behind h (least fs) (least (hs ++ gs)) (λ g e. let p = a.0 in let q = least_within n fs g b e in omega (arith, p, q))

-- the first fault is the least one if all others are above it
pub least_first : (f : Fault) (fs : List Fault) → Above f.place fs → least (f ∷ fs) ≡ Some f
least_first f fs a = earlier_all f (least fs) (λ g e. let p = least_above f.place fs g a e in omega (arith, p))

-- of faults at one place the first one is the least
pub least_at : (n : ℕ) (fs : List Fault) (rest : Option Fault) → At n fs → or_behind (least fs) rest ≡ first_or fs rest
least_at n [] rest a = refl
least_at n (f ∷ fs) rest a =
    ap (λ (o : Option Fault). or_behind o rest)
    (earlier_all f (least fs) (λ g e. let p = a.0 in let q = least_above_at fs a.1 g e in omega (arith, p, q)))
  where
    least_above_at : (fs : List Fault) → At n fs → (g : Fault) → least fs ≡ Some g → n ≤ g.place
    least_above_at [] a g e = absurd (let f : ⊥ = cc in f)
    least_above_at (f ∷ fs) a g e = let p = a.0 in earlier_one (λ h. n ≤ h.place) f (least fs) g (omega (arith, p)) (λ h. least_above_at fs a.1 h) e
