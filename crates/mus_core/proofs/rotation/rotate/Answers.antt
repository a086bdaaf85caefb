use Rattle.std.proofs.Common.{◌≡◌, ◌∙◌, true, refl, ℕ, List, Bool, sym, ap, subst}
use Rattle.std.specs.List.{list_all}
use Rattle.lk_model.specs.Formulas.Autarky.{Positions}
use Rattle.mus_core.specs.Flags.{flag_at}
use Rattle.mus_core.specs.WitnessValues.{AreHeld}
use Rattle.mus_core.proofs.Rotated.{same_set, is_rotating, rotation_ends}
use Rattle.mus_core.proofs.rotation.rotate.Goals as goal

pub go_on-requires-clause-core : goal.go_on-requires-clause-core
go_on-requires-clause-core c =
    is_rotating _ c.args.places.now c.requires.lists c.requires.places
    (same_set c.deref.result.now c.args.places.now (λ k. ap (λ (bs : List Bool). flag_at bs k) c.deref.ensures.value ∙ c.in_ok-inside.ensures k))

pub go_on-requires-clause-held : goal.go_on-requires-clause-held
go_on-requires-clause-held c =
    subst (λ (S : Positions). AreHeld c.args.clauses.now S c.args.witnesses.now)
    (sym (same_set c.deref.result.now c.args.places.now (λ k. ap (λ (bs : List Bool). flag_at bs k) c.deref.ensures.value ∙ c.in_ok-inside.ensures k))) c.requires.held

pub go_on-requires-clause-walk : goal.go_on-requires-clause-walk
go_on-requires-clause-walk c =
    let t = flag_at c.deref.result.now in
    c.come_to.ensures t
    ((ap (λ (bs : List Bool). flag_at bs c.args.start) c.deref.ensures.value ∙ c.in_ok-inside.ensures c.args.start) ∙ c.requires.start)
    (subst (λ (ps : List ℕ). list_all t ps ≡ true) (sym c.in_ok-walk.ensures) refl)

pub returns : goal.returns
returns c =
    rotation_ends c.go_on.result _ c.args.places.now _ c.args.witnesses.now c.go_on.new.witnesses
    (same_set c.deref.result.now c.args.places.now (λ k. ap (λ (bs : List Bool). flag_at bs k) c.deref.ensures.value ∙ c.in_ok-inside.ensures k)) c.go_on.ensures
