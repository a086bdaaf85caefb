-- Searches that alternate.
use Rattle.std.specs.Prelude.{◌≡◌, ◌==◌, ℕ, ◌<◌, ◌≤◌, if◌then◌else◌, List, length, slice_index_or, Option, Some, None}
use Rattle.std.specs.List.{AllWithin}
use Rattle.lk_model.specs.declared.crossed.Crossed.{Crossed}
use Rattle.cdcl_core.specs.declared.decided.End.{End}
use Rattle.cdcl_core.specs.declared.search.Search.{Search}
use Rattle.cdcl_core.specs.declared.schedule.By.{By}
use Rattle.cdcl_core.specs.declared.schedule.Schedule.{Schedule}
use Rattle.cdcl_core.specs.declared.players.Player.{Player}
use Rattle.cdcl_core.specs.declared.players.Won.{Won}
use Rattle.cdcl_core.specs.Decision.{IsDecided, IsStoppedOver}
use Rattle.cdcl_core.specs.Searching.{IsSearch, decided_by}

-- the schedules have the same lengths; which order begins, and the values that are kept, may be others
abbrev pub HasLengthsOf : Schedule → Schedule → Type 0
HasLengthsOf schedule others = (schedule.first ≡ others.first) × (schedule.further ≡ others.further)

-- the schedule in which the third order, if there is one, changes places with the one that begins
abbrev pub led_by_third : Schedule → Option By → Schedule
led_by_third schedule None = schedule
led_by_third schedule (Some third) = record schedule { by = third; third = Some schedule.by }

-- the schedule in which the order at a place, counted from 0, changes places with the one that begins
abbrev pub led_by : Schedule → ℕ → Schedule
led_by schedule place =
    if place == 1 then record schedule { by = schedule.second; second = schedule.by } else (if place == 2 then led_by_third schedule schedule.third else schedule)

-- a search that has learned at most `pause` clauses, in steps that are numbered from `next`
pub record IsWithin (over : Crossed) (next pause : ℕ) (s : Search) : Type 0 where
  pub search : IsSearch over s
  pub first : s.log.first ≡ next
  pub few : length s.log.steps ≤ pause

-- a search that has learned exactly `pause` clauses, and can go on from a further conflict
pub record IsPaused (over : Crossed) (next pause : ℕ) (s : Search) : Type 0 where
  pub search : IsSearch over s
  pub stopped : IsStoppedOver over next pause s.log

-- a search that has paused within the budget, and if the slices are at the end of the budget, there
pub record HasPaused (over : Crossed) (next pause budget : ℕ) (s : Search) : Type 0 where
  pub learned : ℕ
  pub paused : IsPaused over next learned s
  pub most : learned ≤ budget
  pub ends : pause ≡ budget → learned ≡ budget

-- where it has not ended, it has paused; an end is one within the whole budget
abbrev pub WentOn : Crossed → ℕ → ℕ → ℕ → Search → Option End → Type 0
WentOn over next pause budget s (Some end) = IsDecided over next budget (decided_by s.log end)
WentOn over next pause budget s None = HasPaused over next pause budget s

-- each of the searches has learned at most `pause` clauses
abbrev pub AreWithin : Crossed → ℕ → ℕ → List Player → Type 0
AreWithin over next pause players = AllWithin (λ (p : Player). IsWithin over next pause p.search) players 0 (length players)

-- the searches before a place have paused
abbrev pub ArePausedBefore : ℕ → Crossed → ℕ → ℕ → ℕ → List Player → Type 0
ArePausedBefore place over next pause budget players = AllWithin (λ (p : Player). HasPaused over next pause budget p.search) players 0 place

-- the end is one of the search at that place
abbrev pub IsWonBy : Crossed → ℕ → ℕ → List Player → Won → Type 0
IsWonBy over next budget players won =
    (won.place < length players) × ((d : Player) → IsDecided over next budget (decided_by (slice_index_or players won.place d).search.log won.end))

-- where none has ended, all have paused
abbrev pub WentOnEach : Crossed → ℕ → ℕ → ℕ → List Player → Option Won → Type 0
WentOnEach over next pause budget players (Some won) = IsWonBy over next budget players won
WentOnEach over next pause budget players None = ArePausedBefore (length players) over next pause budget players
