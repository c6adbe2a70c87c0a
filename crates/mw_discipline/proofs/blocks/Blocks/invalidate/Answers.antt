use Rattle.std.proofs.Common.{◌≡◌, ◌<◌, length, arith}
use Rattle.std.proofs.lemmas.List.{get_or_read}
use Rattle.mw_discipline.specs.declared.place.Place.TheVariants.{Clean}
use Rattle.mw_discipline.specs.Inside.{place_in}
use Rattle.mw_discipline.proofs.BlockLaws.{given_up-listed, given_up-seen}
use Rattle.mw_discipline.proofs.blocks.Blocks.invalidate.Goals as goal

pub invariant_of-self-2 : goal.invariant_of-self-2
invariant_of-self-2 c =
    let below : c.args.block < length c.self.inside.places.items = omega arith in
    let is : c.index-place.result.now ≡ place_in c.self.inside.places.items c.args.block = get_or_read c.self.inside.places.items c.args.block c.index-place.result.now below c.index-place.ensures Clean in
    given_up-listed c.self.inside.places.items c.self.inside.waiting.items c.list.new.waiting.items c.args.block c.index-place.result.now c.given_up.result c.self.invariant c.requires is c.given_up.ensures c.in_ok-list.ensures.ok

pub returns-clause-ok : goal.returns-clause-ok
returns-clause-ok c =
    let below : c.args.block < length c.self.inside.places.items = omega arith in
    let is : c.index-place.result.now ≡ place_in c.self.inside.places.items c.args.block = get_or_read c.self.inside.places.items c.args.block c.index-place.result.now below c.index-place.ensures Clean in
    rw (← c.self.view_is) (given_up-seen c.self.inside.places.items c.args.block c.index-place.result.now c.given_up.result below is c.given_up.ensures)
