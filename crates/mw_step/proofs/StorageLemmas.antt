-- An access to storage, from what its parts gave.
use Rattle.std.proofs.Common.{◌≡◌, ℕ, ◌+◌, ◌-◌, ◌%◌, ◌^◌, ◌<◌, ◌≤◌, Bool, true, false, cond, List, ◌++◌, length, take, replicate, Option, Some, None, Result, Ok, Err, IfOk, sym, ap, ap₂, ◌∙◌, subst, arith}
use Rattle.std.specs.Option.{option_map_or}
use Rattle.std.proofs.lemmas.Bool.{and_parts, leb-true}
use Rattle.std.proofs.lemmas.List.{length-append}
use Rattle.std.proofs.Math.Seq.{take-append_seam}
use Rattle.mw_bus.specs.Memory.{ram_size, bytes_at, padded}
use Rattle.mw_bus.proofs.StorageLemmas.{take-padded, length-bytes_at}
use Rattle.mw_soc.specs.DeviceData.{DeviceData}
use Rattle.mw_soc.specs.Map.{device_loaded}
use Rattle.mw_soc.proofs.Laws.{length-device_loaded}
use Rattle.mw_isa.specs.declared.memory.MemOp.{MemOp}
use Rattle.mw_isa.specs.declared.outcome.Outcome.TheVariants.{Memory}
use Rattle.mw_isa.specs.declared.pages.Page.{Page}
use Rattle.mw_isa.specs.declared.pages.Pages.{Pages}
use Rattle.mw_isa.specs.declared.pages.StorageFault.{StorageFault}
use Rattle.mw_isa.specs.declared.pages.Stretch.{Stretch}
use Rattle.mw_isa.specs.declared.pages.Stretches.{Stretches}
use Rattle.mw_isa.specs.declared.regs.Regs.{Regs}
use Rattle.mw_isa.specs.declared.walk.Translated.{Translated}
use Rattle.mw_isa.specs.Pages.{page_size, size_of, is_ram, is_in_ram, bytes_by, bytes_in, laid_in, stretches_of}
use Rattle.mw_isa.specs.Raises.{Placed}
use Rattle.mw_isa.specs.Step.{OnPlaced}
use Rattle.mw_isa.specs.Storage.{IsSized, IsPlaced, pages_of, raises_alignment, load_bytes}
use Rattle.mw_isa.specs.Translate.{page_real, real_found, translate_of}
use Rattle.mw_isa.proofs.PageLaws.{outside-single, placed-by}
use Rattle.mw_isa.proofs.WalkPageLaws.{walk-page}
use Rattle.mw_loadstore.specs.Pieces.{pieces_in}
use Rattle.mw_loadstore.proofs.LaidLemmas.{pieces_in-laid}

-- the bytes of one read that are handed on
part-read : (ram : List ℕ) (at k n len : ℕ) (bytes : List ℕ) → k ≡ len → n ≡ len → bytes ≡ padded (bytes_at ram at k) → take n bytes ≡ bytes_at ram at len
part-read ram at k n len bytes sized front read =
    ap₂ take (front ∙ sym sized) read ∙ take-padded (bytes_at ram at k) k (length-bytes_at ram at k) ∙ ap (bytes_at ram at) sized

-- two reads, one behind the other, give the bytes of the two stretches
pub two-read : (ram front back : List ℕ) (at : Stretches) (second : Stretch) (j k m n : ℕ) → at.second ≡ Some second → j ≡ at.first.len → m ≡ at.first.len → front ≡ padded (bytes_at ram at.first.at j) → k ≡ second.len → n ≡ second.len → back ≡ padded (bytes_at ram second.at k) → padded (take m front ++ take n back) ≡ padded (bytes_in ram at)
two-read ram front back at second j k m n there j_is m_is first k_is n_is other =
    ap₂ (λ (xs ys : List ℕ). padded (xs ++ ys)) (part-read ram at.first.at j m at.first.len front j_is m_is first) (part-read ram second.at k n second.len back k_is n_is other)
    ∙ ap (λ (o : Option Stretch). padded (bytes_by ram at.first o)) (sym there)

-- the bytes in stretches are as many as the stretches have
length-bytes_by : (ram : List ℕ) (first : Stretch) (second : Option Stretch) → length (bytes_by ram first second) ≡ size_of (record { first = first; second = second })
length-bytes_by ram first None = length-bytes_at ram first.at first.len ∙ omega arith
length-bytes_by ram first (Some second) =
    length-append (bytes_at ram first.at first.len) (bytes_at ram second.at second.len)
    ∙ ap₂ (λ (m n : ℕ). m + n) (length-bytes_at ram first.at first.len) (length-bytes_at ram second.at second.len)

-- the bytes of stretches in RAM are those that a load gives
pub load-there : (ram bytes : List ℕ) (op : MemOp) (at : Stretches) (devices : DeviceData) → size_of at ≡ op.len → bytes ≡ padded (bytes_in ram at) → true ≡ is_in_ram at → take op.len bytes ≡ load_bytes at ram devices
load-there ram bytes op at devices sized read there =
    ap₂ take (sym sized) read
    ∙ take-padded (bytes_in ram at) (size_of at) (length-bytes_by ram at.first at.second)
    ∙ ap (λ (b : Bool). cond b (bytes_in ram at) (device_loaded devices at.first.at at.first.len)) there

-- the bytes of a device are those that a load gives where RAM isn't
pub load-elsewhere : (ram bytes : List ℕ) (op : MemOp) (at : Stretches) (devices : DeviceData) → IsSized op → IsPlaced op at → raises_alignment op at ≡ false → at.first.at % 8 + at.first.len ≤ 8 → bytes ≡ device_loaded devices at.first.at at.first.len ++ replicate (8 - at.first.len) 0 → false ≡ is_in_ram at → take op.len bytes ≡ load_bytes at ram devices
load-elsewhere ram bytes op at devices sized p calm fits loaded outside =
    let one = outside-single op at sized p calm (sym outside) in
    let long = length-device_loaded devices at.first.at at.first.len fits in
    ap₂ take (sym one.1 ∙ sym long) loaded
    ∙ take-append_seam (device_loaded devices at.first.at at.first.len) (replicate (8 - at.first.len) 0)
    ∙ ap (λ (b : Bool). cond b (bytes_in ram at) (device_loaded devices at.first.at at.first.len)) outside

-- bytes that are laid in RAM by pieces are laid in the stretches
pub lay-pieces : (ram bytes : List ℕ) (op : MemOp) (at pieces : Stretches) → length bytes ≡ op.len → op.len ≤ 64 → IsPlaced op at → is_in_ram at ≡ true → pieces ≡ pieces_in at → laid_in ram pieces bytes ≡ laid_in ram at bytes
lay-pieces ram bytes op at pieces sized few p there are =
    let inside = leb-true (at.first.at + at.first.len) ram_size (and_parts (is_ram at.first) (option_map_or is_ram at.second true) there).0 in
    ap (λ (s : Stretches). laid_in ram s bytes) are
    ∙ pieces_in-laid ram at bytes (omega arith) (λ none. sized ∙ sym p.size ∙ ap (λ (o : Option Stretch). at.first.len + option_map_or (λ (s : Stretch). s.len) o 0) none ∙ omega arith)

-- where an access stands by the tables and the registers is as is known of it
pub access-stands : (ram : List ℕ) (regs : Regs) (op : MemOp) (pages : Pages) (placed : Placed) → pages ≡ pages_of op → placed ≡ stretches_of (page_real ram regs) pages → OnPlaced IsPlaced (Memory op) (Some placed)
access-stands ram regs op pages (Ok at) p e =
    placed-by (page_real ram regs) op at (walk-page ram regs) (ap (stretches_of (page_real ram regs)) (sym p) ∙ sym e)
access-stands ram regs op pages (Err fault) p e = tt

-- what a page was translated to has a real address of 60 bits
pub found-real : (ram : List ℕ) (regs : Regs) (page : Page) (there : Translated) → translate_of ram regs page.kind page.ea ≡ Ok there → there.real < 2 ^ 60
found-real ram regs page there e =
    let real : (there.real < 2 ^ 60) × (there.real % page_size ≡ page.ea % page_size) = subst (λ (found : Result Translated StorageFault). IfOk (real_found found) (λ (at : ℕ). (at < 2 ^ 60) × (at % page_size ≡ page.ea % page_size))) e (walk-page ram regs page) in
    real.0
