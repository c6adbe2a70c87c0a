use Rattle.std.proofs.Common.{◌+◌, ◌%◌, ◌<◌, ◌≤◌, ap, ◌∙◌, arith}
use Rattle.std.specs.List.{flat_map}
use Rattle.mw_loadstore.specs.Pieces.{piece_addresses}
use Rattle.mw_loadstore.proofs.PieceLemmas.{pieces_of-whole, pushed, pieces_of-joined}
use Rattle.mw_loadstore.proofs.access.pieces.Goals as goal

pub returns-then-len-room-clause-value : goal.returns-then-len-room-clause-value
returns-then-len-room-clause-value c =
    let within : c.args.ea % 64 + c.args.len ≤ 64 = omega arith in
    let value = pieces_of-whole c.args.ea c.args.len within in
    cc

pub returns-else-len-room-clause-value : goal.returns-else-len-room-clause-value
returns-else-len-room-clause-value c =
    let across : 64 < c.args.ea % 64 + c.args.len = omega arith in
    pushed c.args.ea c.args.len _ _ _ _ across c.new-pieces.ensures c.push-else-len-room.ensures.items c.from.ensures c.push-else-len-room-2.ensures.items

pub returns-else-len-room-clause-joined : goal.returns-else-len-room-clause-joined
returns-else-len-room-clause-joined c =
    let value = returns-else-len-room-clause-value c in
    ap (flat_map piece_addresses) value ∙ pieces_of-joined c.args.ea c.args.len
