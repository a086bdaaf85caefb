-- What a sink in memory is, when its writes fail, and what it is after each of them.
use Rattle.std.specs.Prelude.{ℕ, ◌-◌, Bool, List, [], ◌++◌, ◌||◌, ◌==◌, min, length, take, if◌then◌else◌}
use Rattle.lk_outside.specs.Causes.{one_more}
use Rattle.lk_outside.specs.Calls.{is_told_to_fail, faults_after}

-- a sink in memory, as its callers see it
pub record SinkState : Type 0 where
  -- the bytes taken so far
  pub written : List ℕ
  -- how many bytes it takes in all
  pub room : ℕ
  -- the most bytes that a write takes
  pub chunk : ℕ
  -- the numbers of the writes that are set to fail
  pub fail : List ℕ
  -- how many writes were made
  pub writes : ℕ
  -- how many writes failed
  pub faults : ℕ

-- a sink that took nothing yet
abbrev pub empty_sink : ℕ → ℕ → List ℕ → SinkState
empty_sink all most told = record {
  written = [];
  room = all;
  chunk = most;
  fail = told;
  writes = 0;
  faults = 0;
}

-- how many more bytes it takes
abbrev pub room_left : SinkState → ℕ
room_left s = s.room - length s.written

-- whether the next write fails: it is set to fail, or no room is left
abbrev pub write_fails : SinkState → Bool
write_fails s = is_told_to_fail s.fail (one_more s.writes) || room_left s == 0

-- how many bytes a write takes of a piece of that length
abbrev pub write_count : SinkState → ℕ → ℕ
write_count s len = min (min s.chunk len) (room_left s)

-- after a write of that piece: the bytes it took are after the others, and a failed one took none
abbrev pub after_write : SinkState → List ℕ → SinkState
after_write s piece =
    let failed = write_fails s in
    let taken = take (write_count s (length piece)) piece in
    record s {
      written = if failed then s.written else s.written ++ taken;
      writes = one_more s.writes;
      faults = faults_after failed s.faults;
    }
