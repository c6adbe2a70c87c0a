use Rattle.std.proofs.Common.{refl}
use Rattle.mw_tables.specs.Rows.{lines, table}
use Rattle.mw_syntax.specs.Mnemonics.{spellings, mnemonic_of}
use Rattle.mw_syntax.proofs.IndexLemmas.{tests-IsIndex}
use Rattle.mw_syntax.proofs.MnemonicLemmas.{spellings-AreDistinct}
use Rattle.mw_syntax.proofs.spelling.all_spelled.Goals as goal

pub returns-clause-index : goal.returns-clause-index
unfolding mnemonic_of spellings table lines
returns-clause-index c = tests-IsIndex _ refl refl refl

pub returns-clause-distinct : goal.returns-clause-distinct
returns-clause-distinct c = spellings-AreDistinct
