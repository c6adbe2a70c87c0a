-- Files that lie in memory.
use Rattle.std.specs.Prelude.{ℕ, Bool, List, [], ◌∷◌, Option, Some, None, if◌then◌else◌, drop, slice_get, is_some}
use Rattle.std.specs.Option.{option_map_or}
use Rattle.std.specs.Str.{bytes_eq}
use Rattle.mw_io.specs.declared.shelf.NamedFile.{NamedFile}
use Rattle.mw_io.specs.declared.shelf.Place.{Place}
use Rattle.mw_io.specs.declared.shelf.Shelf.{Shelf}

-- this is the content of the first file of this name
abbrev pub content_named : List NamedFile → List ℕ → Option (List ℕ)
content_named [] name = None
content_named (file ∷ files) name = if bytes_eq file.name.items name then Some file.content.items else content_named files name

-- this is the content of the file with this number, and nothing past the last file
abbrev pub content_at : List NamedFile → ℕ → List ℕ
content_at files number = option_map_or (λ file. file.content.items) (slice_get files number) []

-- these are the files of a shelf, by name
abbrev pub shelf_files : Shelf → List ℕ → Option (List ℕ)
shelf_files shelf = content_named shelf.files.items

-- this is whether a file of the shelf is open
abbrev pub shelf_is_open : Shelf → Bool
shelf_is_open shelf = is_some shelf.place

-- this is what is left of the file at a place
abbrev pub left_at : List NamedFile → Option Place → List ℕ
left_at files None = []
left_at files (Some place) = drop place.offset (content_at files place.file)

-- this is what is left of the open file
abbrev pub shelf_rest : Shelf → List ℕ
shelf_rest shelf = left_at shelf.files.items shelf.place
