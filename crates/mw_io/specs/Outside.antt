-- What a host and a sink show of themselves, and what their calls do, in the words of their clauses.
use Rattle.std.specs.Prelude.{◌≡◌, ℕ, ◌+◌, ◌-◌, ◌^◌, ◌≤◌, Bool, min, List, [], ◌++◌, drop, Option, unwrap_or}
use Rattle.std.specs.Option.{option_map}

-- this is what a host shows of itself
pub record HostState : Type 0 where
  -- the host's files by the bytes of their names, where it tells them
  pub files : Option (List ℕ → Option (List ℕ))
  -- whether the host tells its files, and fails only where it opens a name that is not among them
  pub is_sound : Bool
  -- whether a file of the host is open
  pub is_open : Bool
  -- what is left of the open file, where the files are told
  pub rest : List ℕ
  -- how often a call of the host has failed, up to 2^64 - 1
  pub faults : ℕ
  -- how often the host was asked to open a file, up to 2^64 - 1
  pub opened : ℕ
  -- how many bytes the host's reads have given, up to 2^64 - 1
  pub given : ℕ

-- this is what a sink shows of itself
pub record SinkState : Type 0 where
  -- the bytes that the sink has taken so far, where it tells them
  pub taken : Option (List ℕ)
  -- how often a call of the sink has failed, up to 2^64 - 1
  pub faults : ℕ
  -- how often the sink has wanted for memory, up to 2^64 - 1
  pub wants : ℕ

-- this is what a count did where it rose: it is greater than before, or it stands at its last value
abbrev pub Rose : ℕ → ℕ → Type 0
Rose before after = min (before + 1) (2 ^ 64 - 1) ≤ after

-- this is what a count did where it rose by so many: by no more, and by no fewer unless it stands at its last value
abbrev pub RoseBy : ℕ → ℕ → ℕ → Type 0
RoseBy more before after = (after ≤ before + more) × (min (before + more) (2 ^ 64 - 1) ≤ after)

-- this is what a call does to the count of a cause: it rises where the cause came, and stays where it didn't
pub record Counts (before after : ℕ) (came : Type 0) : Type 0 where
  pub later : before ≤ after
  pub rose : came → Rose before after
  pub stays : ¬ came → after ≡ before

-- this is what is read from the file of this name: nothing where there is no such file
abbrev pub content_of : (List ℕ → Option (List ℕ)) → List ℕ → List ℕ
content_of told name = unwrap_or (told name) []

-- this is what a sink has taken after one more piece, where it tells that
abbrev pub with_more : Option (List ℕ) → List ℕ → Option (List ℕ)
with_more taken piece = option_map (λ bytes. bytes ++ piece) taken

-- this is what is left of a file after up to this many bytes were read of it
abbrev pub IsReadOn : ℕ → List ℕ → List ℕ → Type 0
IsReadOn most before after = (k : ℕ) × (k ≤ most) × (after ≡ drop k before)
