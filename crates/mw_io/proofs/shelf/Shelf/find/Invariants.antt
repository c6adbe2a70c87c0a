use Rattle.std.proofs.Common.{◌≡◌, drop}
use Rattle.mw_io.specs.Shelf.{content_named}
use Rattle.mw_io.proofs.shelf.Shelf.find.Given as goal

abbrev pub invariant-loop-i : goal.invariant-loop-i
invariant-loop-i l = content_named (drop l.i l.self.files.items) l.name ≡ content_named l.self.files.items l.name
