-- What the outside shows before a call of the program's main function and after it.
use Rattle.std.specs.Prelude.{ℕ, ◌+◌, ◌≡◌, ◌<◌, ◌≤◌, ◌⊎◌, List, map, length, take, Option, None, IfSome, IsTrue}
use Rattle.std.specs.List.{last_or, sum_by}
use Rattle.mw_io.specs.Outside.{HostState, SinkState, Rose, RoseBy, IsReadOn, content_of, with_more}
use Rattle.mw_cli.specs.Files.{Wanted}

-- what a host or a sink shows, before a call and after it
pub record Change (A : Type 0) : Type 0 where
  pub before : A
  pub after : A

-- the change from a state before a call to the state after it
abbrev pub change : {A : Type 0} → A → A → Change A
change before after = record { before = before; after = after }

-- what the files have, by name
abbrev pub contents_of : (List ℕ → Option (List ℕ)) → List Wanted → List (List ℕ)
contents_of told files = map (λ file. content_of told file.name) files

-- the files have these contents, where the host tells its files
abbrev pub AreContents : Change HostState → List Wanted → List (List ℕ) → Type 0
AreContents host files contents = IfSome host.before.files (λ told. contents ≡ contents_of told files)

-- the most bytes that are read of a file: one more than it may have
abbrev pub reach : Wanted → ℕ
reach file = file.most + 1

-- where a file is open, what is left of it is all of this one behind at most as many bytes as are read of it
abbrev pub IsLeft : Change HostState → Wanted → Type 0
IsLeft host file = IsTrue host.after.is_open → IfSome host.before.files (λ told. IsReadOn (reach file) (content_of told file.name) host.after.rest)

-- the host was asked to open as many files as these, once each, gave no more bytes than are read of them, and the last
-- of them is left as it was read
pub record Opens (host : Change HostState) (files : List Wanted) : Type 0 where
  pub opened : RoseBy (length files) host.before.opened host.after.opened
  pub given : host.after.given ≤ host.before.given + sum_by reach files
  pub left : IfSome (last_or None files) (IsLeft host)

-- the sink took nothing
abbrev pub TookNothing : Change SinkState → Type 0
TookNothing sink = sink.after.taken ≡ sink.before.taken

-- the sink took these bytes
abbrev pub Took : Change SinkState → List ℕ → Type 0
Took sink bytes = sink.after.taken ≡ with_more sink.before.taken bytes

-- the sink took a front of these bytes, and not all
abbrev pub TookFront : Change SinkState → List ℕ → Type 0
TookFront sink bytes = (k : ℕ) × (k < length bytes) × Took sink (take k bytes)

-- one of the sink's counts rose, and it took a front of these bytes, and not all
abbrev pub Stopped : Change SinkState → List ℕ → Type 0
Stopped sink bytes = TookFront sink bytes × (Rose sink.before.faults sink.after.faults ⊎ Rose sink.before.wants sink.after.wants)

-- the sink took these bytes, or a front of them where one of its counts rose
abbrev pub TookUnlessFault : Change SinkState → List ℕ → Type 0
TookUnlessFault sink bytes = Took sink bytes ⊎ Stopped sink bytes
