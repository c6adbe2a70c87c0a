use Rattle.mw_trace.proofs.SpellLemmas.{texts_spell, texts_determine}
use Rattle.mw_trace.proofs.laws.texts_spell.Goals as goal

pub returns-clause-spell : goal.returns-clause-spell
returns-clause-spell c = texts_spell

pub returns-clause-determine : goal.returns-clause-determine
returns-clause-determine c = texts_determine
