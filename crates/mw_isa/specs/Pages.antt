-- The pages of storage, and where they stand in real storage (Book III, address translation; pages of 4 KiB are this
-- board's own choice).
use Rattle.std.specs.Prelude.{ℕ, ◌≡◌, ◌+◌, ◌-◌, ◌%◌, ◌^◌, ◌<◌, Bool, true, ◌&&◌, if◌then◌else◌, nat_le, List, [], ◌∷◌, ◌++◌, take, drop, Option, Some, None, Result, Ok, Err, IfOk}
use Rattle.std.specs.Option.{option_map_or}
use Rattle.mw_bus.specs.Memory.{ram_size, bytes_at, laid}
use Rattle.mw_isa.specs.declared.access.Kind.{Kind}
use Rattle.mw_isa.specs.declared.access.Span.{Span}
use Rattle.mw_isa.specs.declared.access.Touch.{Touch}
use Rattle.mw_isa.specs.declared.pages.Page.{Page}
use Rattle.mw_isa.specs.declared.pages.Pages.{Pages}
use Rattle.mw_isa.specs.declared.pages.PageFault.{PageFault}
use Rattle.mw_isa.specs.declared.pages.StorageFault.{StorageFault}
use Rattle.mw_isa.specs.declared.pages.Stretch.{Stretch}
use Rattle.mw_isa.specs.declared.pages.Stretches.{Stretches}

-- how many bytes a page has
abbrev pub page_size : ℕ
page_size = 4096

-- how many bytes there are from an address to the end of its page
abbrev pub left_of : ℕ → ℕ
left_of ea = page_size - ea % page_size

-- so many bytes from an address on lie in one page
abbrev pub is_in_page : ℕ → ℕ → Bool
is_in_page ea len = nat_le (ea % page_size + len) page_size

-- a page of these parts
abbrev pub page_of : Kind → ℕ → ℕ → Page
page_of kind ea len = record { kind = kind; ea = ea; len = len }

-- the one page of so many bytes from an address on
abbrev pub one_page : Kind → ℕ → ℕ → Pages
one_page kind ea len = record { first = page_of kind ea len; second = None }

-- the two pages of so many bytes from an address on; these go on at 0 behind the last address
abbrev pub two_pages : Kind → ℕ → ℕ → Pages
two_pages kind ea len = record { first = page_of kind ea (left_of ea); second = Some (page_of kind ((ea + left_of ea) % 2 ^ 64) (len - left_of ea)) }

-- the pages of so many bytes from an address on, in rising order of the bytes
abbrev pub pages_from : Kind → ℕ → ℕ → Pages
pages_from kind ea len = if is_in_page ea len then one_page kind ea len else two_pages kind ea len

-- an access to a page, of which only its first byte is told
abbrev pub touch_of : Page → Touch
touch_of page = record { kind = page.kind; ea = page.ea }

-- the accesses to pages, in order
abbrev pub touches_of : Pages → List Touch
touches_of pages = touch_of pages.first ∷ option_map_or (λ page. touch_of page ∷ []) pages.second []

-- the real address of an effective address while translation is off: its low 60 bits
abbrev pub real_of : ℕ → ℕ
real_of effective = effective % 2 ^ 60

-- a page's stretch in real storage, or the page with what is wrong with it
abbrev pub stretch_of : Page → Result ℕ StorageFault → Result Stretch PageFault
stretch_of page (Ok at) = Ok (record { at = at; len = page.len })
stretch_of page (Err fault) = Err (record { page = page; fault = fault })

-- a first stretch, and the second page's behind it
abbrev pub with_second : Stretch → Result Stretch PageFault → Result Stretches PageFault
with_second first (Ok second) = Ok (record { first = first; second = Some second })
with_second first (Err fault) = Err fault

-- the first page's stretch, and the second page's, if there is one, behind it
abbrev pub stretches_by : (Page → Result ℕ StorageFault) → Result Stretch PageFault → Option Page → Result Stretches PageFault
stretches_by real (Err fault) second = Err fault
stretches_by real (Ok first) None = Ok (record { first = first; second = None })
stretches_by real (Ok first) (Some page) = with_second first (stretch_of page (real page))

-- where pages stand in real storage, from what tells each page's real address; or the first that is wrong
abbrev pub stretches_of : (Page → Result ℕ StorageFault) → Pages → Result Stretches PageFault
stretches_of real pages = stretches_by real (stretch_of pages.first (real pages.first)) pages.second

-- of two stretches the first ends a page, and the second begins one
abbrev pub MeetAtPage : Stretch → Stretch → Type 0
MeetAtPage first second = (first.at % page_size + first.len ≡ page_size) × (second.at < 2 ^ 60) × (second.at % page_size ≡ 0)

-- how many bytes the stretches have
abbrev pub size_of : Stretches → ℕ
size_of at = at.first.len + option_map_or (λ second. second.len) at.second 0

-- a stretch lies in RAM
abbrev pub is_ram : Stretch → Bool
is_ram stretch = nat_le (stretch.at + stretch.len) ram_size

-- all bytes lie in RAM
abbrev pub is_in_ram : Stretches → Bool
is_in_ram at = is_ram at.first && option_map_or is_ram at.second true

-- the bytes of a first stretch, and those of the second behind them
abbrev pub bytes_by : List ℕ → Stretch → Option Stretch → List ℕ
bytes_by ram first None = bytes_at ram first.at first.len
bytes_by ram first (Some second) = bytes_at ram first.at first.len ++ bytes_at ram second.at second.len

-- the bytes of the stretches, one behind the other
abbrev pub bytes_in : List ℕ → Stretches → List ℕ
bytes_in ram at = bytes_by ram at.first at.second

-- RAM with bytes stored to a first stretch, and those behind them to the second
abbrev pub laid_by : List ℕ → Stretch → Option Stretch → List ℕ → List ℕ
laid_by ram first None bytes = laid ram first.at bytes
laid_by ram first (Some second) bytes = laid (laid ram first.at (take first.len bytes)) second.at (drop first.len bytes)

-- RAM with these bytes stored to the stretches, one behind the other
abbrev pub laid_in : List ℕ → Stretches → List ℕ → List ℕ
laid_in ram at bytes = laid_by ram at.first at.second bytes

-- a stretch as one of RAM
abbrev pub span_of : Stretch → Span
span_of stretch = record { at = stretch.at; len = stretch.len }

-- the stretches as those of RAM, in order
abbrev pub spans_of : Stretches → List Span
spans_of at = span_of at.first ∷ option_map_or (λ second. span_of second ∷ []) at.second []

-- what tells a page's real address gives one of 60 bits, and leaves the first byte's place in its page
abbrev pub IsPagewise : (Page → Result ℕ StorageFault) → Type 0
IsPagewise real = (page : Page) → IfOk (real page) (λ at. (at < 2 ^ 60) × (at % page_size ≡ page.ea % page_size))
