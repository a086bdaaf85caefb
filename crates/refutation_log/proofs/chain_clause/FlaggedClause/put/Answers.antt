use Rattle.std.proofs.Common.{◌≡◌, ◌∙◌, ◌++◌, ◌∷◌, [], true, set, List, ℕ, ℤ, Bool, sym, ap, subst}
use Rattle.refutation_log.specs.Flagged.{is_flagged, flagged}
use Rattle.refutation_log.specs.SameClause.{HaveSame}
use Rattle.refutation_log.proofs.FlaggedLaws.{put_new, put_there}
use Rattle.refutation_log.proofs.chain_clause.FlaggedClause.put.Goals as goal

pub returns-in_ok-push : goal.returns-in_ok-push
returns-in_ok-push c =
    let flags = c.self.inside.flags.items in
    let made = c.make_flag.new.flags.items in
    let came = c.self.inside.came.items in
    let l = c.args.l in
    subst (λ (old : List ℤ). HaveSame (flagged (set made c.rank.result true) c.push.new.self.items) (l ∷ old)) c.self.view_is
    (subst (λ (ls : List ℤ). HaveSame (flagged (set made c.rank.result true) ls) (l ∷ flagged flags came)) (sym c.in_ok-push.ensures.ok)
    (subst (λ (r : ℕ). HaveSame (flagged (set made r true) (came ++ l ∷ [])) (l ∷ flagged flags came)) (sym c.rank.ensures.value)
    (put_new flags made came l c.self.invariant c.in_ok-make_flag.ensures.room c.in_ok-make_flag.ensures.same)))

pub returns-else-not-is_flagged : goal.returns-else-not-is_flagged
returns-else-not-is_flagged c =
    let flags = c.self.inside.flags.items in
    let made = c.make_flag.new.flags.items in
    let came = c.self.inside.came.items in
    let l = c.args.l in
    let is : is_flagged made l ≡ true =
    ap (λ (fs : List Bool). is_flagged fs l) (sym c.deref.ensures.value) ∙ sym c.is_flagged.ensures ∙ c.if-not-is_flagged.false in
    subst (λ (old : List ℤ). HaveSame (flagged made came) (l ∷ old)) c.self.view_is
    (put_there flags made came l c.self.invariant c.in_ok-make_flag.ensures.same is)
