-- What a shelf in memory is, when its calls fail, and what it is after each of them.
use Rattle.std.specs.Prelude.{ℕ, Bool, false, List, [], ◌∷◌, ◌++◌, Option, None, Some, ◌||◌, min, length, take, drop, unwrap_or, is_none, bytes_eq, if◌then◌else◌}
use Rattle.lk_outside.specs.Causes.{one_more}
use Rattle.lk_outside.specs.Calls.{is_told_to_fail, faults_after}

-- a shelf in memory, as its callers see it
pub record ShelfState : Type 0 where
  -- the names, each with its bytes
  pub files : List (List ℕ × List ℕ)
  -- the most bytes that a read gives
  pub chunk : ℕ
  -- the numbers of the calls that are set to fail
  pub fail : List ℕ
  -- how many calls were made
  pub calls : ℕ
  -- the bytes of the started name that are not yet read, or none where nothing is started
  pub unread : Option (List ℕ)
  -- the name of the last start
  pub current : Option (List ℕ)
  -- whether the last call failed
  pub ailing : Bool
  -- how many calls failed
  pub faults : ℕ

-- the bytes of the first entry of that name
abbrev pub bytes_under : List (List ℕ × List ℕ) → List ℕ → Option (List ℕ)
bytes_under [] name = None
bytes_under (f ∷ files) name = if bytes_eq f.0 name then Some f.1 else bytes_under files name

-- a shelf of which nothing was asked yet
abbrev pub unread_shelf : List (List ℕ × List ℕ) → ℕ → List ℕ → ShelfState
unread_shelf entries most told = record {
  files = entries;
  chunk = most;
  fail = told;
  calls = 0;
  unread = None;
  current = None;
  ailing = false;
  faults = 0;
}

-- whether the next call is set to fail, whatever it asks for; a read fails only so
abbrev pub read_fails : ShelfState → Bool
read_fails s = is_told_to_fail s.fail (one_more s.calls)

-- whether the next call fails where it starts that name: it is set to fail, or no entry has the name
abbrev pub start_fails : ShelfState → List ℕ → Bool
start_fails s name = read_fails s || is_none (bytes_under s.files name)

-- after a call that failed or did not, with those bytes left
abbrev pub after_call : ShelfState → Bool → Option (List ℕ) → ShelfState
after_call s failed rest = record s {
  calls = one_more s.calls;
  unread = rest;
  ailing = failed;
  faults = faults_after failed s.faults;
}

-- after a start of that name: all its bytes are left, or nothing is started
abbrev pub after_start : ShelfState → List ℕ → ShelfState
after_start s name =
    let failed = start_fails s name in
    let rest = if failed then None else bytes_under s.files name in
    record (after_call s failed rest) { current = Some name }

-- the bytes that are not yet read
abbrev pub bytes_left : ShelfState → List ℕ
bytes_left s = unwrap_or s.unread []

-- how many bytes a read gives into a piece of that length
abbrev pub read_count : ShelfState → ℕ → ℕ
read_count s room = min (min s.chunk room) (length (bytes_left s))

-- after a read into a piece of that length: the bytes it gave are gone, and a failed one gave none
abbrev pub after_read : ShelfState → ℕ → ShelfState
after_read s room =
    let failed = read_fails s in
    let rest = if failed then s.unread else Some (drop (read_count s room) (bytes_left s)) in
    after_call s failed rest

-- the piece after a read: the bytes it gave, then what stood after them; a failed one leaves it
abbrev pub piece_after : ShelfState → List ℕ → List ℕ
piece_after s piece =
    let count = read_count s (length piece) in
    if read_fails s then piece else take count (bytes_left s) ++ drop count piece
