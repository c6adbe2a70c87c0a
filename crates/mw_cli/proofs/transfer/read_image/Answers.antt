use Rattle.std.proofs.Common.{arith}
use Rattle.mw_cli.proofs.FileLemmas.{read-image, long-image}
use Rattle.mw_cli.proofs.transfer.read_image.Goals as goal

pub returns-then-len-gt-MOST_IMAGE_BYTES-clause-refused : goal.returns-then-len-gt-MOST_IMAGE_BYTES-clause-refused
returns-then-len-gt-MOST_IMAGE_BYTES-clause-refused g c =
    long-image _ c.args.name.now c.in-Ok.bytes.items 16777216 c.in-Ok.ensures.front (omega (arith, c.in-Ok.bytes.ok))

pub returns-clause-image : goal.returns-clause-image
returns-clause-image g c =
    read-image _ c.args.name.now c.in-Ok.bytes.items 16777216 c.in-Ok.ensures.front (omega (arith, c.in-Ok.bytes.ok))
