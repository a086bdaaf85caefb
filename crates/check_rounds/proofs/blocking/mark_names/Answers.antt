use Rattle.std.proofs.Common.{◌≡◌, ◌++◌, ◌∷◌, ◌∙◌, List, sym, subst, arith, length, map, take}
use Rattle.std.proofs.lemmas.List.{take_all}
use Rattle.lk_model.specs.declared.document.Turn.{Turn}
use Rattle.check_rounds.specs.Blocking.{AreMarked}
use Rattle.check_rounds.proofs.Reaching.{turn_marked}
use Rattle.check_rounds.proofs.blocking.mark_names.Goals as goal

pub loop-turn-preserved : goal.loop-turn-preserved
loop-turn-preserved c =
    let turns = c.as_slice-turn-items.result.now in
    let inv = c.loop-turn.invariant in
    record {
      marks_size = c.mark-in-loop-turn.ensures.marks_size ∙ inv.marks_size;
      table_size = c.mark-in-loop-turn.ensures.table_size ∙ inv.table_size;
      seen = c.mark-in-loop-turn.ensures.seen;
      marked = λ known before h.
          let names = (c.args.step.now.first ∷ map (λ (t : Turn). t.with) (take c.loop-turn.turn-index turns)) ++ known in
          let so_far = inv.marked known before h in
          let one = c.mark-in-loop-turn.ensures.marked names before (subst (λ n. AreMarked c.args.f.now c.args.k c.args.first n names before c.loop-turn.marks c.loop-turn.table) (sym inv.marks_size) so_far) in
          turn_marked c.args.f.now c.args.k c.args.first (length c.args.marks.now) c.args.step.now.first turns c.loop-turn.turn-index c.turn-item.result known before
          c.mark-in-loop-turn.new.marks c.mark-in-loop-turn.new.table (omega arith) c.turn-item.is
          (subst (λ n. AreMarked c.args.f.now c.args.k c.args.first n (c.turn-item.result.with ∷ names) before c.mark-in-loop-turn.new.marks c.mark-in-loop-turn.new.table) inv.marks_size one);
    }

pub returns-clause-marked : goal.returns-clause-marked
returns-clause-marked c known before h =
    let turns = c.as_slice-turn-items.result.now in
    let whole : take c.loop-turn.turn-index turns ≡ c.args.step.now.turns = take_all c.loop-turn.turn-index turns (omega arith) ∙ c.as_slice-turn-items.ensures in
    subst (λ (ts : List Turn). AreMarked c.args.f.now c.args.k c.args.first (length c.args.marks.now) ((c.args.step.now.first ∷ map (λ (t : Turn). t.with) ts) ++ known) before c.loop-turn.marks c.loop-turn.table)
    whole (c.loop-turn.invariant.marked known before h)
