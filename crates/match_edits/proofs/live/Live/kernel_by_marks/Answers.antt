use Rattle.std.proofs.Common.{List, ℕ, subst}
use Rattle.std.proofs.lemmas.Result.{IfOk-weaker}
use Rattle.lk_model.specs.Formulas.Lean.{KernelWithin}
use Rattle.lk_model.specs.declared.class.Class.TheVariants.{Matching as TheMatching}
use Rattle.bipartite_match.specs.Behind.{matching_of}
use Rattle.bipartite_match.specs.Walks.{AreReached}
use Rattle.edit_text.specs.LiveClauses.{LiveClauses}
use Rattle.match_edits.specs.Held.{live_in}
use Rattle.match_edits.specs.LiveKernel.{IsLiveKernel}
use Rattle.match_edits.proofs.Holding.{can_reach}
use Rattle.match_edits.proofs.LiveKernels.{live_kernel}
use Rattle.match_edits.proofs.live.Live.kernel_by_marks.Goals as goal

pub reached_positions-requires : goal.reached_positions-requires
reached_positions-requires c =
    let s = c.self.inside in let w = c.self.invariant in
    record { can = (live_in s.held s.pairs, w.0, can_reach s.held (live_in s.held s.pairs) (matching_of w.0 s.pairs s.marks) w.1) }

pub returns-clause-kernel : goal.returns-clause-kernel
returns-clause-kernel c =
    let s = c.self.inside in let w = c.self.invariant in let live = live_in s.held s.pairs in let m = matching_of w.0 s.pairs s.marks in
    IfOk-weaker c.reached_positions.result (AreReached s.held live m) (λ numbers. IsLiveKernel c.args.self.now numbers)
    (λ kept r. subst (λ (x : LiveClauses). IsLiveKernel x kept) c.self.view_is
    (live_kernel (record { held = s.held; live = live }) kept w.1.positions
    (subst (λ (ks : List ℕ). KernelWithin TheMatching s.held live ks) r.1
    (c.kernel_reached_law.ensures.kernel s.held live m r.0 c.well_formed-2.ensures.formula c.well_formed-2.ensures.limits w.1.positions w.1.maximum r.2))))
    (c.reached_positions.ensures.reached live w.0 (can_reach s.held live m w.1))

pub returns-clause-largest : goal.returns-clause-largest
returns-clause-largest c =
    let s = c.self.inside in let w = c.self.invariant in let live = live_in s.held s.pairs in let m = matching_of w.0 s.pairs s.marks in
    IfOk-weaker c.reached_positions.result (AreReached s.held live m) (λ numbers. KernelWithin TheMatching c.args.self.now.held c.args.self.now.live numbers)
    (λ kept r. subst (λ (x : LiveClauses). KernelWithin TheMatching x.held x.live kept) c.self.view_is
    (subst (λ (ks : List ℕ). KernelWithin TheMatching s.held live ks) r.1
    (c.kernel_reached_law.ensures.kernel s.held live m r.0 c.well_formed-2.ensures.formula c.well_formed-2.ensures.limits w.1.positions w.1.maximum r.2)))
    (c.reached_positions.ensures.reached live w.0 (can_reach s.held live m w.1))

pub returns-clause-same : goal.returns-clause-same
returns-clause-same c = c.self.view_is
