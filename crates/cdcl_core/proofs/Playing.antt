-- Lists of searches that alternate.
use Rattle.std.proofs.Common.{◌≡◌, ℕ, ◌+◌, ◌<◌, ◌++◌, ◌∷◌, [], List, length, slice_set, length-set, sym, subst, ap, arith}
use Rattle.std.specs.Prelude.{slice_index_or}
use Rattle.std.specs.List.{AllWithin}
use Rattle.std.proofs.lemmas.List.Elements.{AllWithin-more_set, AllWithin-set, AllWithin-push}
use Rattle.lk_model.specs.declared.crossed.Crossed.{Crossed}
use Rattle.cdcl_core.specs.declared.search.Search.{Search}
use Rattle.cdcl_core.specs.declared.players.Player.{Player}
use Rattle.cdcl_core.specs.Decision.{IsStoppedOver}
use Rattle.cdcl_core.specs.Players.{IsWithin, HasPaused, AreWithin, ArePausedBefore}

-- a search that has paused is within the budget
pub still_within : (over : Crossed) (next pause budget : ℕ) (s : Search) → HasPaused over next pause budget s → IsWithin over next budget s
still_within over next pause budget s h = record {
  search = h.paused.search;
  first = h.paused.stopped.numbered;
  few = (let all = h.paused.stopped.all in let most = h.most in omega (arith, most, all));
}

-- a search that has learned nothing has learned no more than so many
pub begun_within : (over : Crossed) (next pause : ℕ) (s : Search) → IsWithin over next 0 s → IsWithin over next pause s
begun_within over next pause s h = record { search = h.search; first = h.first; few = (let few = h.few in omega (arith, few)) }

-- where there are none
pub none_within : (over : Crossed) (next pause : ℕ) (players : List Player) → players ≡ [] → AreWithin over next pause players
none_within over next pause players none k d low high = absurd (let size = ap (λ (ps : List Player). length ps) none in omega (arith, high, size))

-- all of them
pub all_within : (over : Crossed) (next pause budget : ℕ) (players : List Player) → ArePausedBefore (length players) over next pause budget players
    → AreWithin over next budget players
all_within over next pause budget players h k d low high = still_within over next pause budget _ (h k d low high)

-- one more has paused
pub next_paused : (over : Crossed) (next pause budget i : ℕ) (players : List Player) (p : Player) → i < length players
    → ArePausedBefore i over next pause budget players → HasPaused over next pause budget p.search → ArePausedBefore (i + 1) over next pause budget (slice_set players i p)
next_paused over next pause budget i players p in' before now =
    AllWithin-more_set players i p in' (λ (q : Player). HasPaused over next pause budget q.search) before now

-- and all are within the budget
pub next_within : (over : Crossed) (next pause budget i : ℕ) (players : List Player) (p : Player) → i < length players
    → AreWithin over next budget players → HasPaused over next pause budget p.search → AreWithin over next budget (slice_set players i p)
next_within over next pause budget i players p in' before now =
    subst (λ (n : ℕ). AllWithin (λ (q : Player). IsWithin over next budget q.search) (slice_set players i p) 0 n) (sym (length-set players i p))
    (AllWithin-set (λ (q : Player). IsWithin over next budget q.search) players 0 (length players) i p in' (still_within over next pause budget p.search now) before)

-- at the end of the budget the first one has stopped
pub first_stopped : (over : Crossed) (next pause budget : ℕ) (players : List Player) (d : Player) → pause ≡ budget → 0 < length players
    → ArePausedBefore (length players) over next pause budget players → IsStoppedOver over next budget (slice_index_or players 0 d).search.log
first_stopped over next pause budget players d end some all =
    let h = all 0 d (omega arith) some in
    subst (λ (n : ℕ). IsStoppedOver over next n (slice_index_or players 0 d).search.log) (h.ends end) h.paused.stopped

-- one more has begun
pub more_within : (over : Crossed) (next pause : ℕ) (players : List Player) (p : Player) → AreWithin over next pause players → IsWithin over next pause p.search
    → AreWithin over next pause (players ++ p ∷ [])
more_within over next pause players p before now = AllWithin-push (λ (q : Player). IsWithin over next pause q.search) players p before now
