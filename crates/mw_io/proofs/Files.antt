-- The file of a name, by its number.
use Rattle.std.proofs.Common.{◌≡◌, ℕ, ◌+◌, ◌<◌, ◌≤◌, true, List, [], length, drop, get_or, Some, None, if◌then◌else◌, refl, subst, ◌∙◌}
use Rattle.std.proofs.lemmas.List.{drop_more, drop_all}
use Rattle.std.proofs.lemmas.Option.{slice_get-get_or, slice_get_past}
use Rattle.std.specs.Str.{bytes_eq}
use Rattle.mw_io.specs.declared.shelf.NamedFile.{NamedFile}
use Rattle.mw_io.specs.Outside.{content_of}
use Rattle.mw_io.specs.Shelf.{content_named, content_at}

pub named_from : (files : List NamedFile) (name : List ℕ) (i : ℕ) (d : NamedFile) → i < length files
    → content_named (drop i files) name ≡ (if bytes_eq (get_or files i d).name.items name then Some (get_or files i d).content.items else content_named (drop (i + 1) files) name)
named_from files name i d h = rw (drop_more files i d h) refl

pub named_past : (files : List NamedFile) (name : List ℕ) (i : ℕ) → length files ≤ i → content_named (drop i files) name ≡ None
named_past files name i h = rw (drop_all i files h) refl

pub at_number : (files : List NamedFile) (i : ℕ) (d : NamedFile) → i < length files → content_at files i ≡ (get_or files i d).content.items
at_number files i d h = rw (slice_get-get_or files i d h) refl

pub at_past : (files : List NamedFile) (i : ℕ) → length files ≤ i → content_at files i ≡ []
at_past files i h = rw (slice_get_past files i h) refl

pub found_at : (files : List NamedFile) (name : List ℕ) (i : ℕ) (file : NamedFile) → i < length files → file ≡ get_or files i file
    → content_named (drop i files) name ≡ content_named files name → bytes_eq file.name.items name ≡ true → content_at files i ≡ content_of (content_named files) name
found_at files name i file h is from here =
    let here' : bytes_eq (get_or files i file).name.items name ≡ true = subst (λ (f : NamedFile). bytes_eq f.name.items name ≡ true) is here in
    let named : content_named (drop i files) name ≡ Some (get_or files i file).content.items = named_from files name i file h ∙ rw here' refl in
    rw (at_number files i file h, ← from, named) refl
