-- The bits of the machine state register, and the causes of an interrupt that SRR1 or DSISR tells, each by its place,
-- counted from the left of 64 (Book III, machine state register, interrupt definitions). The bits of facilities that the machine doesn't
-- have read 0.
use Rattle.std.specs.Prelude.{ℕ, ◌+◌, ◌-◌, ◌^◌, Bool, ◌||◌, if◌then◌else◌, bit_or}
use Rattle.mw_isa.specs.Xer.{has_bit}

-- a number with the bit at a place alone
abbrev pub bit_at : ℕ → ℕ
bit_at place = 2 ^ (63 - place)

-- a number whose bit at a place is 0
abbrev pub without_bit : ℕ → ℕ → ℕ
without_bit place number = if has_bit number place then number - bit_at place else number

-- a number whose bit at a place is 1, or 0
abbrev pub with_bit : Bool → ℕ → ℕ → ℕ
with_bit set place number = if set then bit_or number (bit_at place) else without_bit place number

-- SF: addresses have 64 bits
abbrev pub sf_place : ℕ
sf_place = 0

-- HV: hypervisor state
abbrev pub hv_place : ℕ
hv_place = 3

-- EE: external and decrementer interrupts are taken
abbrev pub ee_place : ℕ
ee_place = 48

-- PR: problem state
abbrev pub pr_place : ℕ
pr_place = 49

-- ME: machine checks are taken
abbrev pub me_place : ℕ
me_place = 51

-- IR: instruction addresses are translated
abbrev pub ir_place : ℕ
ir_place = 58

-- DR: data addresses are translated
abbrev pub dr_place : ℕ
dr_place = 59

-- RI: an interrupt can be recovered from
abbrev pub ri_place : ℕ
ri_place = 62

-- LE: storage is little-endian
abbrev pub le_place : ℕ
le_place = 63

-- the cause that tells that the instruction is prefixed
abbrev pub prefixed_place : ℕ
prefixed_place = 34

-- the cause that tells that the instruction would cross the end of a block of 64 bytes
abbrev pub crossing_place : ℕ
crossing_place = 35

-- the cause that tells that the instruction is illegal
abbrev pub illegal_place : ℕ
illegal_place = 44

-- the cause that tells that the instruction is privileged
abbrev pub privileged_place : ℕ
privileged_place = 45

-- the cause that tells that the instruction's trap condition holds
abbrev pub trap_place : ℕ
trap_place = 46

-- the cause, in SRR1 for a fetch and in DSISR for data, that there is no translation
abbrev pub no_translation_place : ℕ
no_translation_place = 33

-- the cause in SRR1 that a translation doesn't permit the fetch
abbrev pub fetch_refused_place : ℕ
fetch_refused_place = 35

-- the cause in DSISR that a translation doesn't permit the access
abbrev pub data_refused_place : ℕ
data_refused_place = 36

-- the cause in DSISR that the access is a store
abbrev pub store_place : ℕ
store_place = 38

-- the cause in either that the tree isn't formed as it has to be
abbrev pub bad_tree_place : ℕ
bad_tree_place = 44

-- the cause in either that the translation isn't marked as referenced, or for a store as changed
abbrev pub unmarked_place : ℕ
unmarked_place = 45

-- the bits of MSR that are 1 whatever happens
abbrev pub fixed_msr : ℕ
fixed_msr = bit_at sf_place + bit_at hv_place + bit_at me_place + bit_at le_place

-- MSR written from a source: EE, IR and DR are its bit or its PR, PR and RI its own, and the rest stays
abbrev pub msr_from : ℕ → ℕ → ℕ
msr_from source msr =
    with_bit (has_bit source ee_place || has_bit source pr_place) ee_place
    (with_bit (has_bit source pr_place) pr_place
    (with_bit (has_bit source ir_place || has_bit source pr_place) ir_place
    (with_bit (has_bit source dr_place || has_bit source pr_place) dr_place
    (with_bit (has_bit source ri_place) ri_place msr))))

-- EE and RI alone written from a source, each from its own bit
abbrev pub msr_partly_from : ℕ → ℕ → ℕ
msr_partly_from source msr = with_bit (has_bit source ee_place) ee_place (with_bit (has_bit source ri_place) ri_place msr)
