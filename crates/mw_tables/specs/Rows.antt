-- The table of instructions, a row a line, in the order of the manual's chapters: fixed-point and branch instructions (Book I), storage (Book I and II), system (Book II and III), prefixed (Book I).
use Rattle.std.specs.Prelude.{ℕ, Bool, true, false, List, [], ◌∷◌, map, codes}
use Rattle.mw_tables.specs.declared.row.PrefixKind.{PrefixKind}
use Rattle.mw_tables.specs.declared.row.PrefixKind.TheVariants.{Plain, Mls, Eight, Nop}
use Rattle.mw_tables.specs.declared.layout.Layout.{Layout}
use Rattle.mw_tables.specs.declared.layout.Layout.TheVariants.{DRtRaSi, DBfLRaSi, DBfLRaUi, DToRaSi, DRaRsUi, DxRtD, ITarget, BBoBiTarget, XlBoBiBh, XlBtBaBb, XlBfBfa, MRaRsShMbMe, MRaRsRbMbMe, MdRaRsShMb, MdRaRsShMe, MdsRaRsRbMb, MdsRaRsRbMe, VaRtRaRbRc, XRtRaRb, XRtRa, Z23RtRaRbCy, XRaRsRb, XRaRsSh, XsRaRsSh, XRaRs, XBfLRaRb, XToRaRb, ARtRaRbBc, XRt, XfxRtFxm, XfxFxmRs, XRtBfa, XRtBi, XBfRaRb, XBf, DRtDRa, DsRtDRa, XRaRb, Empty, XL, XRsL, XRbRsRicPrsR, XfxRtSpr, XfxSprRs, XfxRtTbr, XRtL, MlsRtRaSiR, WideRtDRaR}
use Rattle.mw_tables.specs.Row.{TableRow, Fixed, mask_of, value_of}
use Rattle.mw_tables.specs.Formats.{d, dx, ds, x, x_dot, xfx_all, xfx_one, xo, xs, a, z23, md, mds, va, sc}
use Rattle.mw_tables.specs.Layouts.{shape_of}

-- which forms a row has beside the plain one
pub record Forms : Type 0 where
  pub oe : Bool
  pub rc : Bool
  pub links : Bool
  pub absolute : Bool

-- no form beside the plain one
abbrev pub plain_only : Forms
plain_only = record { oe = false; rc = false; links = false; absolute = false }

-- Rc=1, which records the result in CR field 0; written with a dot
abbrev pub dot : Forms
dot = record plain_only { rc = true }

-- OE=1, which records overflow, and Rc=1; written with o and with a dot
abbrev pub o_dot : Forms
o_dot = record plain_only { oe = true; rc = true }

-- LK=1, which sets the link register; written with l
abbrev pub link : Forms
link = record plain_only { links = true }

-- LK=1 and AA=1, whose target is absolute; written with l and with a
abbrev pub link_absolute : Forms
link_absolute = record plain_only { links = true; absolute = true }

-- a line of the table: the name, the prefix, the fixed parts, where the operands stand, the forms
pub record Line : Type 0 where
  pub name : List ℕ
  pub prefix : PrefixKind
  pub fixed : List Fixed
  pub layout : Layout
  pub forms : Forms

-- a line without a prefix
abbrev pub plain : List ℕ → List Fixed → Layout → Forms → Line
plain name fixed layout forms = record { name = name; prefix = Plain; fixed = fixed; layout = layout; forms = forms }

-- a line with a prefix; the fixed parts are those of the suffix
abbrev pub prefixed : List ℕ → PrefixKind → List Fixed → Layout → Line
prefixed name prefix fixed layout = record { name = name; prefix = prefix; fixed = fixed; layout = layout; forms = plain_only }

-- name, opcode and extended code by the format, operands by the layout, forms
unfoldable pub lines : List Line
lines =
    plain (codes "addi") (d 14) DRtRaSi plain_only
    ∷ plain (codes "addis") (d 15) DRtRaSi plain_only
    ∷ plain (codes "addic") (d 12) DRtRaSi plain_only
    ∷ plain (codes "addic.") (d 13) DRtRaSi plain_only
    ∷ plain (codes "subfic") (d 8) DRtRaSi plain_only
    ∷ plain (codes "mulli") (d 7) DRtRaSi plain_only
    ∷ plain (codes "cmpi") (d 11) DBfLRaSi plain_only
    ∷ plain (codes "cmpli") (d 10) DBfLRaUi plain_only
    ∷ plain (codes "tdi") (d 2) DToRaSi plain_only
    ∷ plain (codes "twi") (d 3) DToRaSi plain_only
    ∷ plain (codes "ori") (d 24) DRaRsUi plain_only
    ∷ plain (codes "oris") (d 25) DRaRsUi plain_only
    ∷ plain (codes "xori") (d 26) DRaRsUi plain_only
    ∷ plain (codes "xoris") (d 27) DRaRsUi plain_only
    ∷ plain (codes "andi.") (d 28) DRaRsUi plain_only
    ∷ plain (codes "andis.") (d 29) DRaRsUi plain_only
    ∷ plain (codes "addpcis") (dx 19 2) DxRtD plain_only
    ∷ plain (codes "b") (d 18) ITarget link_absolute
    ∷ plain (codes "bc") (d 16) BBoBiTarget link_absolute
    ∷ plain (codes "bclr") (x 19 16) XlBoBiBh link
    ∷ plain (codes "bcctr") (x 19 528) XlBoBiBh link
    ∷ plain (codes "bctar") (x 19 560) XlBoBiBh link
    ∷ plain (codes "crnor") (x 19 33) XlBtBaBb plain_only
    ∷ plain (codes "crandc") (x 19 129) XlBtBaBb plain_only
    ∷ plain (codes "crxor") (x 19 193) XlBtBaBb plain_only
    ∷ plain (codes "crnand") (x 19 225) XlBtBaBb plain_only
    ∷ plain (codes "crand") (x 19 257) XlBtBaBb plain_only
    ∷ plain (codes "creqv") (x 19 289) XlBtBaBb plain_only
    ∷ plain (codes "crorc") (x 19 417) XlBtBaBb plain_only
    ∷ plain (codes "cror") (x 19 449) XlBtBaBb plain_only
    ∷ plain (codes "mcrf") (x 19 0) XlBfBfa plain_only
    ∷ plain (codes "rlwinm") (d 21) MRaRsShMbMe dot
    ∷ plain (codes "rlwnm") (d 23) MRaRsRbMbMe dot
    ∷ plain (codes "rlwimi") (d 20) MRaRsShMbMe dot
    ∷ plain (codes "rldicl") (md 30 0) MdRaRsShMb dot
    ∷ plain (codes "rldicr") (md 30 1) MdRaRsShMe dot
    ∷ plain (codes "rldic") (md 30 2) MdRaRsShMb dot
    ∷ plain (codes "rldimi") (md 30 3) MdRaRsShMb dot
    ∷ plain (codes "rldcl") (mds 30 8) MdsRaRsRbMb dot
    ∷ plain (codes "rldcr") (mds 30 9) MdsRaRsRbMe dot
    ∷ plain (codes "maddhd") (va 4 48) VaRtRaRbRc plain_only
    ∷ plain (codes "maddhdu") (va 4 49) VaRtRaRbRc plain_only
    ∷ plain (codes "maddld") (va 4 51) VaRtRaRbRc plain_only
    ∷ plain (codes "add") (xo 31 266) XRtRaRb o_dot
    ∷ plain (codes "subf") (xo 31 40) XRtRaRb o_dot
    ∷ plain (codes "neg") (xo 31 104) XRtRa o_dot
    ∷ plain (codes "addc") (xo 31 10) XRtRaRb o_dot
    ∷ plain (codes "subfc") (xo 31 8) XRtRaRb o_dot
    ∷ plain (codes "adde") (xo 31 138) XRtRaRb o_dot
    ∷ plain (codes "subfe") (xo 31 136) XRtRaRb o_dot
    ∷ plain (codes "addme") (xo 31 234) XRtRa o_dot
    ∷ plain (codes "subfme") (xo 31 232) XRtRa o_dot
    ∷ plain (codes "addze") (xo 31 202) XRtRa o_dot
    ∷ plain (codes "subfze") (xo 31 200) XRtRa o_dot
    ∷ plain (codes "mullw") (xo 31 235) XRtRaRb o_dot
    ∷ plain (codes "mulld") (xo 31 233) XRtRaRb o_dot
    ∷ plain (codes "mulhd") (xo 31 73) XRtRaRb dot
    ∷ plain (codes "mulhdu") (xo 31 9) XRtRaRb dot
    ∷ plain (codes "mulhw") (xo 31 75) XRtRaRb dot
    ∷ plain (codes "mulhwu") (xo 31 11) XRtRaRb dot
    ∷ plain (codes "divd") (xo 31 489) XRtRaRb o_dot
    ∷ plain (codes "divdu") (xo 31 457) XRtRaRb o_dot
    ∷ plain (codes "divw") (xo 31 491) XRtRaRb o_dot
    ∷ plain (codes "divwu") (xo 31 459) XRtRaRb o_dot
    ∷ plain (codes "divde") (xo 31 425) XRtRaRb o_dot
    ∷ plain (codes "divdeu") (xo 31 393) XRtRaRb o_dot
    ∷ plain (codes "divwe") (xo 31 427) XRtRaRb o_dot
    ∷ plain (codes "divweu") (xo 31 395) XRtRaRb o_dot
    ∷ plain (codes "modsd") (x 31 777) XRtRaRb plain_only
    ∷ plain (codes "modud") (x 31 265) XRtRaRb plain_only
    ∷ plain (codes "modsw") (x 31 779) XRtRaRb plain_only
    ∷ plain (codes "moduw") (x 31 267) XRtRaRb plain_only
    ∷ plain (codes "addex") (z23 31 170) Z23RtRaRbCy plain_only
    ∷ plain (codes "and") (x 31 28) XRaRsRb dot
    ∷ plain (codes "andc") (x 31 60) XRaRsRb dot
    ∷ plain (codes "or") (x 31 444) XRaRsRb dot
    ∷ plain (codes "orc") (x 31 412) XRaRsRb dot
    ∷ plain (codes "xor") (x 31 316) XRaRsRb dot
    ∷ plain (codes "eqv") (x 31 284) XRaRsRb dot
    ∷ plain (codes "nand") (x 31 476) XRaRsRb dot
    ∷ plain (codes "nor") (x 31 124) XRaRsRb dot
    ∷ plain (codes "slw") (x 31 24) XRaRsRb dot
    ∷ plain (codes "srw") (x 31 536) XRaRsRb dot
    ∷ plain (codes "sld") (x 31 27) XRaRsRb dot
    ∷ plain (codes "srd") (x 31 539) XRaRsRb dot
    ∷ plain (codes "sraw") (x 31 792) XRaRsRb dot
    ∷ plain (codes "srawi") (x 31 824) XRaRsSh dot
    ∷ plain (codes "srad") (x 31 794) XRaRsRb dot
    ∷ plain (codes "sradi") (xs 31 413) XsRaRsSh dot
    ∷ plain (codes "extswsli") (xs 31 445) XsRaRsSh dot
    ∷ plain (codes "extsb") (x 31 954) XRaRs dot
    ∷ plain (codes "extsh") (x 31 922) XRaRs dot
    ∷ plain (codes "extsw") (x 31 986) XRaRs dot
    ∷ plain (codes "cntlzw") (x 31 26) XRaRs dot
    ∷ plain (codes "cntlzd") (x 31 58) XRaRs dot
    ∷ plain (codes "cnttzw") (x 31 538) XRaRs dot
    ∷ plain (codes "cnttzd") (x 31 570) XRaRs dot
    ∷ plain (codes "cntlzdm") (x 31 59) XRaRsRb plain_only
    ∷ plain (codes "cnttzdm") (x 31 571) XRaRsRb plain_only
    ∷ plain (codes "popcntb") (x 31 122) XRaRs plain_only
    ∷ plain (codes "popcntw") (x 31 378) XRaRs plain_only
    ∷ plain (codes "popcntd") (x 31 506) XRaRs plain_only
    ∷ plain (codes "prtyw") (x 31 154) XRaRs plain_only
    ∷ plain (codes "prtyd") (x 31 186) XRaRs plain_only
    ∷ plain (codes "brh") (x 31 219) XRaRs plain_only
    ∷ plain (codes "brw") (x 31 155) XRaRs plain_only
    ∷ plain (codes "brd") (x 31 187) XRaRs plain_only
    ∷ plain (codes "pdepd") (x 31 156) XRaRsRb plain_only
    ∷ plain (codes "pextd") (x 31 188) XRaRsRb plain_only
    ∷ plain (codes "cfuged") (x 31 220) XRaRsRb plain_only
    ∷ plain (codes "bpermd") (x 31 252) XRaRsRb plain_only
    ∷ plain (codes "cmpb") (x 31 508) XRaRsRb plain_only
    ∷ plain (codes "cmp") (x 31 0) XBfLRaRb plain_only
    ∷ plain (codes "cmpl") (x 31 32) XBfLRaRb plain_only
    ∷ plain (codes "tw") (x 31 4) XToRaRb plain_only
    ∷ plain (codes "td") (x 31 68) XToRaRb plain_only
    ∷ plain (codes "isel") (a 31 15) ARtRaRbBc plain_only
    ∷ plain (codes "mfcr") (xfx_all 31 19) XRt plain_only
    ∷ plain (codes "mfocrf") (xfx_one 31 19) XfxRtFxm plain_only
    ∷ plain (codes "mtcrf") (xfx_all 31 144) XfxFxmRs plain_only
    ∷ plain (codes "mtocrf") (xfx_one 31 144) XfxFxmRs plain_only
    ∷ plain (codes "setb") (x 31 128) XRtBfa plain_only
    ∷ plain (codes "setbc") (x 31 384) XRtBi plain_only
    ∷ plain (codes "setbcr") (x 31 416) XRtBi plain_only
    ∷ plain (codes "setnbc") (x 31 448) XRtBi plain_only
    ∷ plain (codes "setnbcr") (x 31 480) XRtBi plain_only
    ∷ plain (codes "cmprb") (x 31 192) XBfLRaRb plain_only
    ∷ plain (codes "cmpeqb") (x 31 224) XBfRaRb plain_only
    ∷ plain (codes "mcrxrx") (x 31 576) XBf plain_only
    ∷ plain (codes "lwz") (d 32) DRtDRa plain_only
    ∷ plain (codes "lwzu") (d 33) DRtDRa plain_only
    ∷ plain (codes "lbz") (d 34) DRtDRa plain_only
    ∷ plain (codes "lbzu") (d 35) DRtDRa plain_only
    ∷ plain (codes "stw") (d 36) DRtDRa plain_only
    ∷ plain (codes "stwu") (d 37) DRtDRa plain_only
    ∷ plain (codes "stb") (d 38) DRtDRa plain_only
    ∷ plain (codes "stbu") (d 39) DRtDRa plain_only
    ∷ plain (codes "lhz") (d 40) DRtDRa plain_only
    ∷ plain (codes "lhzu") (d 41) DRtDRa plain_only
    ∷ plain (codes "lha") (d 42) DRtDRa plain_only
    ∷ plain (codes "lhau") (d 43) DRtDRa plain_only
    ∷ plain (codes "sth") (d 44) DRtDRa plain_only
    ∷ plain (codes "sthu") (d 45) DRtDRa plain_only
    ∷ plain (codes "ld") (ds 58 0) DsRtDRa plain_only
    ∷ plain (codes "ldu") (ds 58 1) DsRtDRa plain_only
    ∷ plain (codes "lwa") (ds 58 2) DsRtDRa plain_only
    ∷ plain (codes "std") (ds 62 0) DsRtDRa plain_only
    ∷ plain (codes "stdu") (ds 62 1) DsRtDRa plain_only
    ∷ plain (codes "ldx") (x 31 21) XRtRaRb plain_only
    ∷ plain (codes "lwzx") (x 31 23) XRtRaRb plain_only
    ∷ plain (codes "ldux") (x 31 53) XRtRaRb plain_only
    ∷ plain (codes "lwzux") (x 31 55) XRtRaRb plain_only
    ∷ plain (codes "lbzx") (x 31 87) XRtRaRb plain_only
    ∷ plain (codes "lbzux") (x 31 119) XRtRaRb plain_only
    ∷ plain (codes "lhzx") (x 31 279) XRtRaRb plain_only
    ∷ plain (codes "lhzux") (x 31 311) XRtRaRb plain_only
    ∷ plain (codes "lwax") (x 31 341) XRtRaRb plain_only
    ∷ plain (codes "lhax") (x 31 343) XRtRaRb plain_only
    ∷ plain (codes "lwaux") (x 31 373) XRtRaRb plain_only
    ∷ plain (codes "lhaux") (x 31 375) XRtRaRb plain_only
    ∷ plain (codes "ldbrx") (x 31 532) XRtRaRb plain_only
    ∷ plain (codes "lwbrx") (x 31 534) XRtRaRb plain_only
    ∷ plain (codes "lhbrx") (x 31 790) XRtRaRb plain_only
    ∷ plain (codes "stdx") (x 31 149) XRtRaRb plain_only
    ∷ plain (codes "stwx") (x 31 151) XRtRaRb plain_only
    ∷ plain (codes "stdux") (x 31 181) XRtRaRb plain_only
    ∷ plain (codes "stwux") (x 31 183) XRtRaRb plain_only
    ∷ plain (codes "stbx") (x 31 215) XRtRaRb plain_only
    ∷ plain (codes "stbux") (x 31 247) XRtRaRb plain_only
    ∷ plain (codes "sthx") (x 31 407) XRtRaRb plain_only
    ∷ plain (codes "sthux") (x 31 439) XRtRaRb plain_only
    ∷ plain (codes "stdbrx") (x 31 660) XRtRaRb plain_only
    ∷ plain (codes "stwbrx") (x 31 662) XRtRaRb plain_only
    ∷ plain (codes "sthbrx") (x 31 918) XRtRaRb plain_only
    ∷ plain (codes "lwarx") (x 31 20) XRtRaRb plain_only
    ∷ plain (codes "lbarx") (x 31 52) XRtRaRb plain_only
    ∷ plain (codes "ldarx") (x 31 84) XRtRaRb plain_only
    ∷ plain (codes "lharx") (x 31 116) XRtRaRb plain_only
    ∷ plain (codes "stwcx.") (x_dot 31 150) XRtRaRb plain_only
    ∷ plain (codes "stdcx.") (x_dot 31 214) XRtRaRb plain_only
    ∷ plain (codes "stbcx.") (x_dot 31 694) XRtRaRb plain_only
    ∷ plain (codes "sthcx.") (x_dot 31 726) XRtRaRb plain_only
    ∷ plain (codes "lwzcix") (x 31 789) XRtRaRb plain_only
    ∷ plain (codes "lhzcix") (x 31 821) XRtRaRb plain_only
    ∷ plain (codes "lbzcix") (x 31 853) XRtRaRb plain_only
    ∷ plain (codes "ldcix") (x 31 885) XRtRaRb plain_only
    ∷ plain (codes "stwcix") (x 31 917) XRtRaRb plain_only
    ∷ plain (codes "sthcix") (x 31 949) XRtRaRb plain_only
    ∷ plain (codes "stbcix") (x 31 981) XRtRaRb plain_only
    ∷ plain (codes "stdcix") (x 31 1013) XRtRaRb plain_only
    ∷ plain (codes "dcbst") (x 31 54) XRaRb plain_only
    ∷ plain (codes "dcbf") (x 31 86) XRaRb plain_only
    ∷ plain (codes "dcbtst") (x 31 246) XRaRb plain_only
    ∷ plain (codes "dcbt") (x 31 278) XRaRb plain_only
    ∷ plain (codes "icbi") (x 31 982) XRaRb plain_only
    ∷ plain (codes "dcbz") (x 31 1014) XRaRb plain_only
    ∷ plain (codes "sc") (sc 17) Empty plain_only
    ∷ plain (codes "rfid") (x 19 18) Empty plain_only
    ∷ plain (codes "hrfid") (x 19 274) Empty plain_only
    ∷ plain (codes "isync") (x 19 150) Empty plain_only
    ∷ plain (codes "sync") (x 31 598) XL plain_only
    ∷ plain (codes "eieio") (x 31 854) Empty plain_only
    ∷ plain (codes "tlbsync") (x 31 566) Empty plain_only
    ∷ plain (codes "mfmsr") (x 31 83) XRt plain_only
    ∷ plain (codes "mtmsr") (x 31 146) XRsL plain_only
    ∷ plain (codes "mtmsrd") (x 31 178) XRsL plain_only
    ∷ plain (codes "tlbie") (x 31 306) XRbRsRicPrsR plain_only
    ∷ plain (codes "tlbiel") (x 31 274) XRbRsRicPrsR plain_only
    ∷ plain (codes "mfspr") (x 31 339) XfxRtSpr plain_only
    ∷ plain (codes "mtspr") (x 31 467) XfxSprRs plain_only
    ∷ plain (codes "mftb") (x 31 371) XfxRtTbr plain_only
    ∷ plain (codes "darn") (x 31 755) XRtL plain_only
    ∷ prefixed (codes "paddi") Mls (d 14) MlsRtRaSiR
    ∷ prefixed (codes "plwz") Mls (d 32) WideRtDRaR
    ∷ prefixed (codes "plbz") Mls (d 34) WideRtDRaR
    ∷ prefixed (codes "pstw") Mls (d 36) WideRtDRaR
    ∷ prefixed (codes "pstb") Mls (d 38) WideRtDRaR
    ∷ prefixed (codes "plhz") Mls (d 40) WideRtDRaR
    ∷ prefixed (codes "plha") Mls (d 42) WideRtDRaR
    ∷ prefixed (codes "psth") Mls (d 44) WideRtDRaR
    ∷ prefixed (codes "plwa") Eight (d 41) WideRtDRaR
    ∷ prefixed (codes "pld") Eight (d 57) WideRtDRaR
    ∷ prefixed (codes "pstd") Eight (d 61) WideRtDRaR
    ∷ prefixed (codes "pnop") Nop [] Empty
    ∷ []

-- the row of a line
abbrev pub row_in : Line → TableRow
row_in line = record { name = line.name; mask = mask_of line.fixed; value = value_of line.fixed; prefix = line.prefix; shape = shape_of line.layout; oe = line.forms.oe; rc = line.forms.rc; links = line.forms.links; absolute = line.forms.absolute }

-- the rows
unfoldable pub table : List TableRow
table = map row_in lines

-- the layout of each row
unfoldable pub layouts : List Layout
layouts = map (λ (line : Line). line.layout) lines

-- how many rows there are
abbrev pub row_count : ℕ
row_count = 224
