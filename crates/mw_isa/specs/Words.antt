-- What words are (Book I, instruction formats): an instruction, or one that an interrupt tells software of.
use Rattle.std.specs.Prelude.{ℕ, ◌==◌, if◌then◌else◌, List, [], Option, Some, None, option_map, ℤ}
use Rattle.std.specs.Int.{w64, cast_unsigned}
use Rattle.mw_decode.specs.declared.insn.Insn.{Insn}
use Rattle.mw_decode.specs.declared.insn.Decoded.{Decoded}
use Rattle.mw_decode.specs.declared.insn.Decoded.TheVariants.{Insn as Is, Unavailable, Alignment, Illegal}
use Rattle.mw_decode.specs.Decode.{decode_of}
use Rattle.mw_isa.specs.declared.fetched.Fetched.{Fetched}
use Rattle.mw_isa.specs.declared.slot.Slot.{Slot}
use Rattle.mw_isa.specs.declared.slot.Slot.TheVariants.{Gpr}
use Rattle.mw_isa.specs.declared.sources.Sources.{Sources}
use Rattle.mw_isa.specs.Execute.{wrapped_sum}
use Rattle.mw_isa.specs.Fetch.{is_cut}
use Rattle.mw_isa.specs.Reads.{held, read_slots, reads_of}

-- the instruction that words are, if they are one
abbrev pub insn_in : Decoded → Option Insn
insn_in (Is insn) = Some insn
insn_in (Unavailable facility) = None
insn_in (Alignment ra rb disp) = None
insn_in Illegal = None

-- what words are
abbrev pub decoded_of : Fetched → Decoded
decoded_of words = decode_of words.word words.suffix

-- the instruction that words are, if none is cut off and they are one
abbrev pub insn_of : Fetched → Option Insn
insn_of words = if is_cut words then None else insn_in (decoded_of words)

-- the registers that a move of several words or of a string reads: RA|0, and RB where it has one
abbrev pub alignment_sources : ℕ → Option ℕ → Sources
alignment_sources ra rb = record { a = if ra == 0 then None else Some (Gpr ra); b = option_map Gpr rb; c = None }

-- the address of a move of several words or of a string: (RA|0) + (RB) + the displacement
abbrev pub alignment_address : ℕ → Option ℕ → ℤ → (Slot → ℕ) → ℕ
alignment_address ra rb disp view = wrapped_sum (wrapped_sum (held view (alignment_sources ra rb).a) (held view (alignment_sources ra rb).b)) (cast_unsigned w64 disp)

-- the registers that words read
abbrev pub words_reads : Decoded → List Slot
words_reads (Is insn) = reads_of insn
words_reads (Unavailable facility) = []
words_reads (Alignment ra rb disp) = read_slots (alignment_sources ra rb) []
words_reads Illegal = []
