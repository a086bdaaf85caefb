-- When the error is that a limit would be passed, or that no live clause has the number.
use Rattle.std.proofs.Common.{◌≡◌, ℕ, Bool, true, false, sym, ◌∙◌, Result, Ok, Err, refl, IsFalse, IsErrOf}
use Rattle.match_edits.specs.declared.stop.EditStop.{EditStop}
use Rattle.match_edits.specs.declared.stop.EditStop.TheVariants.{Limit, NoClause, OutOfMemory}

-- the answer of an addition tells by its error whether there was room
abbrev pub TellsRoom : Result ℕ EditStop → Bool → Type 0
TellsRoom r room = (IsErrOf r Limit → IsFalse room) × (IsFalse room → IsErrOf r Limit)

pub no_room : (b room : Bool) → b ≡ false → b ≡ room → TellsRoom (Err Limit) room
no_room b room n e = (λ _. sym e ∙ n, λ _. refl)

pub memory_out : (b room : Bool) → b ≡ true → b ≡ room → TellsRoom (Err OutOfMemory) room
memory_out b room t e = (λ w. absurd (let f : ⊥ = cc in f), λ w. absurd (let g : true ≡ false = sym t ∙ e ∙ w in let f : ⊥ = cc in f))

pub all_well : (n : ℕ) (b room : Bool) → b ≡ true → b ≡ room → TellsRoom (Ok n) room
all_well n b room t e = (λ w. absurd (let f : ⊥ = cc in f), λ w. absurd (let g : true ≡ false = sym t ∙ e ∙ w in let f : ⊥ = cc in f))

-- the answer of a removal tells by its error whether the clause was live
abbrev pub TellsLive : Result (Unit {0}) EditStop → Bool → Type 0
TellsLive r live = (IsErrOf r NoClause → IsFalse live) × (IsFalse live → IsErrOf r NoClause)

pub was_live : (live : Bool) → live ≡ true → TellsLive (Ok tt) live
was_live live e = (λ w. absurd (let f : ⊥ = cc in f), λ w. absurd (let g : true ≡ false = sym e ∙ w in let f : ⊥ = cc in f))

pub no_clause : (live : Bool) → live ≡ false → TellsLive (Err NoClause) live
no_clause live e = (λ _. e, λ _. refl)
