use Rattle.std.proofs.Common.{◌≡◌, ◌≤◌, ◌++◌, ◌∷◌, [], ◌∙◌, ℕ, List, sym, ap, subst, arith, length}
use Rattle.lk_model.specs.Chains.Rounds.{empty_round}
use Rattle.lk_model.specs.declared.document.Round.{Round}
use Rattle.lk_model.specs.declared.document.Without.{Without}
use Rattle.general_laws.specs.CoreLaw.{IsCore}
use Rattle.empty_clauses.proofs.EmptyCores.{empty_line, empty_core}
use Rattle.empty_clauses.proofs.empty_clause.empty_core.Goals as goal

pub returns-clause-core : goal.returns-clause-core
returns-clause-core c =
    let F = c.args.f.now in
    let p = c.args.p in
    let core : c.push.new.self ≡ p ∷ [] = c.in_ok-push.ensures.ok ∙ ap (λ (ps : List ℕ). ps ++ p ∷ []) c.new-core.ensures in
    let written : Without = record { pos = p; lits = c.new.result } in
    let line : written ≡ empty_line p = λ j. record { pos = p; lits = c.new.ensures j } in
    let without : c.push-2.new.self ≡ empty_line p ∷ [] =
    c.in_ok-push-2.ensures.ok ∙ ap (λ (ws : List Without). ws ++ written ∷ []) c.new-without.ensures ∙ ap (λ (w : Without). w ∷ []) line in
    let few : length F.clauses ≤ 4_000_000 = c.in_ok-round.ensures.limits.clauses in
    subst (λ (ps : List ℕ). IsCore F ps c.in_ok-round.round c.push-2.new.self) (sym core)
    (subst (λ (r : Round). IsCore F (p ∷ []) r c.push-2.new.self) (sym c.in_ok-round.ensures.round)
    (subst (λ (ws : List Without). IsCore F (p ∷ []) (empty_round F p) ws) (sym without) (empty_core F p c.requires few)))
